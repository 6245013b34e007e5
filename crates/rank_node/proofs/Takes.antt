-- What a rank's posts leave by a take is what the machine leaves.
use Rattle.std.proofs.Common.{◌≡◌, ℕ, ◌+◌, true, List, length, Option, Some, Ok, refl, sym, ap, ◌∙◌, subst}
use Rattle.std.specs.List.{slice_get, slice_set}
use Rattle.gaspi_types.specs.Lanes.{is_posted}
use Rattle.gaspi_types.specs.declared.entries.Entry.{Entry}
use Rattle.gaspi_types.specs.declared.entries.Kind.{Kind}
use Rattle.gaspi_types.specs.declared.entries.Kind.TheVariants.{Write, Read, Notify, ReadNote}
use Rattle.gaspi_types.specs.declared.entries.Phase.{Phase}
use Rattle.gaspi_types.specs.declared.entries.Phase.TheVariants as phases
use Rattle.gaspi_types.specs.declared.events.Event.TheVariants.{Take}
use Rattle.gaspi_types.specs.declared.events.Outcome.{Outcome}
use Rattle.gaspi_types.specs.declared.events.Outcome.TheVariants.{Applied, Failed}
use Rattle.gaspi_types.specs.declared.events.Transfer.{Transfer}
use Rattle.gaspi_types.specs.declared.segments.Extent.{Extent}
use Rattle.gaspi_model.specs.Changes.{take_rank}
use Rattle.gaspi_model.specs.Coherence.{AgreesOnSegments, IsWithinTarget, HasOwn, LiesIn, LiesInIfThere, tables_of}
use Rattle.gaspi_model.specs.Posting.{counted}
use Rattle.gaspi_model.specs.Sound.{IsSound}
use Rattle.gaspi_model.specs.Step.{step}
use Rattle.gaspi_model.specs.Transfers.{EntryPosition, source_bytes, take_outcome, same_outcome}
use Rattle.gaspi_model.specs.declared.states.Posts.{Posts}
use Rattle.gaspi_model.specs.declared.states.Memory.{Memory}
use Rattle.gaspi_model.specs.declared.states.State.{State}
use Rattle.post_queue.specs.Payloads.{payload_size}
use Rattle.post_queue.specs.LanesStates.{front_posted_of}
use Rattle.post_queue.specs.Places.{posted_position, first_posted}
use Rattle.rank_node.specs.Lending.{IsPostsOf}
use Rattle.rank_node.specs.Transfers.{FitsTaken, MayTakeFrom, lanes_of, posts_taken}
use Rattle.rank_node.specs.Values.{PostsValue}
use Rattle.gaspi_types.proofs.Chains.{both}
use Rattle.gaspi_types.proofs.Items.{slice_get-set_same}
use Rattle.gaspi_model.proofs.Changed.Puts.{entry-fits, target-there}
use Rattle.gaspi_model.proofs.FoundEntries.{IsFound, take_with}
use Rattle.gaspi_model.proofs.Sound.CoherentSteps.{applied-there, posted-is}
use Rattle.gaspi_model.proofs.Sound.FittingEntries.{taken-whole, lies-there}
use Rattle.gaspi_model.proofs.Sound.Steps.{steps}
use Rattle.gaspi_model.proofs.OnPostsAndMemory.{IsTakeThere, sound-take}
use Rattle.rank_node.proofs.NextEntries.{same-some, same-outcomes, placed, chosen, chosen-found, take-next, room-for}

-- the bytes that an entry takes are as many as it has room for
kind-fits : (s : State) (origin target : ℕ) (posts theirs : Posts) (memory : Memory) (kind : Kind) → AgreesOnSegments s → slice_get s.posts origin ≡ Some posts → slice_get s.posts target ≡ Some theirs
    → slice_get s.memories (take_rank origin target kind) ≡ Some memory → same_outcome Applied (take_outcome memory kind) ≡ true → IsWithinTarget s.limits.notes (tables_of theirs) kind
    → HasOwn posts.segments.own kind phases.Posted → length (source_bytes memory kind) ≡ payload_size kind
kind-fits s origin target posts theirs memory (Write own to) coherent hp ht hm applied fits lies =
    taken-whole memory own (subst (λ (table : List (Option Extent)). LiesIn table own) (coherent.own origin posts memory hp hm) lies)
kind-fits s origin target posts theirs memory (Read own to) coherent hp ht hm applied fits lies =
    let there = applied-there memory to.segment to.generation applied in
    let range = lies-there memory to there fits.1 (subst (λ (table : List (Option Extent)). LiesInIfThere table to) (coherent.own target theirs memory ht hm) fits.3) in
    taken-whole memory to range ∙ sym fits.0
kind-fits s origin target posts theirs memory (Notify to value) coherent hp ht hm applied fits none = refl
kind-fits s origin target posts theirs memory (ReadNote own) coherent hp ht hm applied fits is = refl

fits-unless : (memory : Memory) (kind : Kind) (outcome ends : Outcome) → outcome ≡ ends → (outcome ≡ Applied → length (source_bytes memory kind) ≡ payload_size kind) → FitsTaken memory kind ends
fits-unless memory kind Applied ends is fits = subst (λ (o : Outcome). FitsTaken memory kind o) is (fits refl)
fits-unless memory kind Failed ends is fits = subst (λ (o : Outcome). FitsTaken memory kind o) is tt

-- the posts after it
posts-same : (posts : Posts) (queue target number : ℕ) (at : EntryPosition) (bytes : List ℕ) (outcome : Outcome) → IsFound posts queue target number at → at.position ≡ posted_position at.lane
    → take_with posts queue target at bytes outcome ≡ counted (posts_taken posts queue target bytes outcome)
posts-same posts queue target number at bytes Applied is place = rw is.in_posts rw is.in_queue rw (← place) rw is.in_lane refl
posts-same posts queue target number at bytes Failed is place = rw is.in_posts rw is.in_queue rw (← place) rw is.in_lane refl

events-take : (posts : Posts) (queue target : ℕ) (bytes : List ℕ) (outcome : Outcome) → (counted (posts_taken posts queue target bytes outcome)).events ≡ posts.events + 1
events-take posts queue target bytes Applied = refl
events-take posts queue target bytes Failed = refl

-- what a take leaves
pub record IsTakeLeft (s t : State) (p : PostsValue) (tr : Transfer) (outcome : Outcome) (source : Memory) (e : Entry) : Type 0 where
  pub can : MayTakeFrom p source tr
  pub next : front_posted_of (lanes_of p) tr.queue tr.target ≡ Some e
  pub ends : outcome ≡ take_outcome source e.kind
  pub leaves : t ≡ record s { posts = slice_set s.posts tr.origin (counted (posts_taken p.posts tr.queue tr.target (source_bytes source e.kind) (take_outcome source e.kind))) }

-- The take of the entry that is first posted is what a rank makes of it: it can be made, and leaves what the machine leaves.
pub take-node : (s t : State) (p : PostsValue) (tr : Transfer) (outcome : Outcome) (source : Memory) (e : Entry) → IsSound s → IsPostsOf s tr.origin p
    → chosen first_posted p.posts tr.queue tr.target ≡ Some e → e.number ≡ tr.number → slice_get s.memories (take_rank tr.origin tr.target e.kind) ≡ Some source
    → step s (Take tr.origin tr.queue tr.target tr.number outcome) ≡ Ok t → IsTakeLeft s t p tr outcome source e
take-node s t p tr outcome source e sound is first numbered from h =
    let made = sound-take s t tr.origin tr.queue tr.target tr.number outcome sound h in
    go made.0 made.1 made.2 made.3 made.4
  where
    go : (posts : Posts) (memory : Memory) (after : Posts) (at : EntryPosition) → IsTakeThere s t tr.origin tr.queue tr.target tr.number outcome posts memory after at
        → IsTakeLeft s t p tr outcome source e
    go posts memory after at m =
        let mine : p.posts ≡ posts = same-some (slice_get s.posts tr.origin) p.posts posts is.posts m.posts_there in
        let found : IsFound p.posts tr.queue tr.target tr.number at = rw mine m.is.is in
        let here : first_posted at.lane ≡ Some e = sym (chosen-found first_posted p.posts tr.queue tr.target tr.number at found) ∙ first in
        let rising = (sound.posts tr.origin p.posts is.posts).rising tr.queue at.queue found.in_posts tr.target at.lane found.in_queue in
        let place_is : at.position ≡ posted_position at.lane = placed p.posts.next tr.number at.lane at.position (posted_position at.lane) e rising found.numbered here numbered in
        let entry : at.entry ≡ e = same-some (slice_get at.lane at.position) at.entry e found.in_lane (subst (λ (k : ℕ). slice_get at.lane k ≡ Some e) (sym place_is) here) in
        let from_same : memory ≡ source = same-some (slice_get s.memories (take_rank tr.origin tr.target at.entry.kind)) memory source m.memory_there (subst (λ (x : Entry). slice_get s.memories (take_rank tr.origin tr.target x.kind) ≡ Some source) (sym entry) from) in
        let theirs = target-there s tr.origin tr.queue tr.target tr.number p.posts at sound is.posts found in
        let fits = entry-fits s tr.origin tr.queue tr.target tr.number p.posts theirs.0 at sound is.posts theirs.1 found in
        let posted = (both (is_posted at.entry) _ m.is.permitted).0 in
        let owns = subst (λ (phase : Phase). HasOwn p.posts.segments.own at.entry.kind phase) (posted-is at.entry.phase posted) fits.1 in
        let ends : outcome ≡ take_outcome source e.kind =
        same-outcomes outcome (take_outcome memory at.entry.kind) m.is.fits ∙ ap (λ (x : Memory). take_outcome x at.entry.kind) from_same ∙ ap (λ (x : Entry). take_outcome source x.kind) entry in
        let whole = λ (applied : outcome ≡ Applied).
        kind-fits s tr.origin tr.target p.posts theirs.0 memory at.entry.kind sound.coherent is.posts theirs.1 m.memory_there (subst (λ (o : Outcome). same_outcome o (take_outcome memory at.entry.kind) ≡ true) applied m.is.fits) fits.0 owns in
        let fits_e = fits-unless source e.kind outcome (take_outcome source e.kind) ends
        (λ applied. subst (λ (x : Memory). length (source_bytes x e.kind) ≡ payload_size e.kind) from_same (subst (λ (x : Entry). length (source_bytes memory x.kind) ≡ payload_size x.kind) entry (whole applied))) in
        let next : front_posted_of (lanes_of p) tr.queue tr.target ≡ Some e = rw is.limits (take-next s.limits p.posts tr.queue tr.target tr.number at found m.is.whole m.is.permitted (here ∙ ap (λ (x : Entry). Some x) (sym entry)) ∙ ap (λ (x : Entry). Some x) entry) in
        let bytes : source_bytes memory at.entry.kind ≡ source_bytes source e.kind =
        ap (λ (x : Memory). source_bytes x at.entry.kind) from_same ∙ ap (λ (x : Entry). source_bytes source x.kind) entry in
        let left : after ≡ counted (posts_taken p.posts tr.queue tr.target (source_bytes source e.kind) (take_outcome source e.kind)) =
        m.is.leaves ∙ ap (λ (x : Posts). take_with x tr.queue tr.target at (source_bytes memory at.entry.kind) outcome) (sym mine)
        ∙ ap (λ (b : List ℕ). take_with p.posts tr.queue tr.target at b outcome) bytes
        ∙ posts-same p.posts tr.queue tr.target tr.number at (source_bytes source e.kind) outcome found place_is
        ∙ ap (λ (o : Outcome). counted (posts_taken p.posts tr.queue tr.target (source_bytes source e.kind) o)) ends in
        let kept : t.limits ≡ s.limits = ap (λ (x : State). x.limits) m.leaves in
        let there_t : slice_get t.posts tr.origin ≡ Some after = ap (λ (x : State). slice_get x.posts tr.origin) m.leaves ∙ slice_get-set_same s.posts tr.origin p.posts after is.posts in
        record {
          can = record {
            next = rw next fits_e;
            room = room-for s t tr.origin p after (steps s t (Take tr.origin tr.queue tr.target tr.number outcome) sound h) kept is.limits there_t
                (ap (λ (x : Posts). x.events) left ∙ events-take p.posts tr.queue tr.target (source_bytes source e.kind) (take_outcome source e.kind));
          };
          next = next;
          ends = ends;
          leaves = m.leaves ∙ ap (λ (x : Posts). record s { posts = slice_set s.posts tr.origin x }) left;
        }
