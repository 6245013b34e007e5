-- What a rank's posts and the memory of a put leave by it is what the machine leaves.
use Rattle.std.proofs.Common.{◌≡◌, ℕ, ◌+◌, Some, Ok, refl, sym, ap, ◌∙◌, subst}
use Rattle.std.specs.List.{slice_get, slice_set, position_or_len}
use Rattle.gaspi_types.specs.Lanes.{is_carried}
use Rattle.gaspi_types.specs.declared.entries.Entry.{Entry}
use Rattle.gaspi_types.specs.declared.events.Event.TheVariants.{Put}
use Rattle.gaspi_types.specs.declared.events.Outcome.{Outcome}
use Rattle.gaspi_types.specs.declared.events.Outcome.TheVariants.{Applied, Failed}
use Rattle.gaspi_types.specs.declared.events.Transfer.{Transfer}
use Rattle.gaspi_model.specs.Changes.{put_rank}
use Rattle.gaspi_model.specs.Posting.{counted}
use Rattle.gaspi_model.specs.Sound.{IsSound}
use Rattle.gaspi_model.specs.Step.{step}
use Rattle.gaspi_model.specs.Transfers.{EntryPosition, PostsAndMemory, put_outcome, memory_with}
use Rattle.gaspi_model.specs.declared.states.Posts.{Posts}
use Rattle.gaspi_model.specs.declared.states.Memory.{Memory}
use Rattle.gaspi_model.specs.declared.states.State.{State}
use Rattle.post_queue.specs.LanesStates.{front_carried_of, head_of}
use Rattle.post_queue.specs.Places.{first_carried}
use Rattle.rank_node.specs.Lending.{IsPostsOf}
use Rattle.rank_node.specs.Transfers.{MayPutNext, lanes_of, posts_put, memory_left}
use Rattle.rank_node.specs.Values.{PostsValue}
use Rattle.gaspi_types.proofs.Items.{slice_get-set_same}
use Rattle.gaspi_model.proofs.FoundEntries.{IsFound, put_with}
use Rattle.gaspi_model.proofs.Sound.Steps.{steps}
use Rattle.gaspi_model.proofs.OnPostsAndMemory.{IsPutThere, sound-put}
use Rattle.post_queue.proofs.Rising.{head-removed}
use Rattle.rank_node.proofs.NextEntries.{same-some, same-outcomes, placed, chosen, chosen-found, put-next, head-found, room-for}

memory-same : (memory : Memory) (at : EntryPosition) (outcome : Outcome) → memory_with memory at outcome ≡ memory_left memory at.entry outcome
memory-same memory at Applied = refl
memory-same memory at Failed = refl

posts-same : (posts : Posts) (tr : Transfer) (at : EntryPosition) (outcome : Outcome) → IsFound posts tr.queue tr.target tr.number at → at.position ≡ 0
    → put_with posts tr.queue tr.target at outcome ≡ counted (posts_put posts tr.queue tr.target outcome)
posts-same posts tr at Applied is place = rw is.in_posts rw is.in_queue rw place rw (head-removed at.lane) refl
posts-same posts tr at Failed is place =
    let head : slice_get at.lane 0 ≡ Some at.entry = subst (λ (k : ℕ). slice_get at.lane k ≡ Some at.entry) place is.in_lane in
    rw is.in_posts rw is.in_queue rw place rw head refl

events-left : (posts : Posts) (queue target : ℕ) (at : EntryPosition) (outcome : Outcome) → (put_with posts queue target at outcome).events ≡ posts.events + 1
events-left posts queue target at Applied = refl
events-left posts queue target at Failed = refl

-- the state after a put
pub record IsPutLeft (s t : State) (p : PostsValue) (tr : Transfer) (outcome : Outcome) (theirs : Memory) (e : Entry) : Type 0 where
  pub leaves : t ≡ record s {
    posts = slice_set s.posts tr.origin (counted (posts_put p.posts tr.queue tr.target outcome));
    memories = slice_set s.memories (put_rank tr.origin tr.target e.kind) (memory_left theirs e outcome);
  }

-- The put of the entry that is first carried can be made; it leaves, where that is the head of its lane, what the machine leaves.
pub record IsPutMade (s t : State) (p : PostsValue) (tr : Transfer) (outcome : Outcome) (theirs : Memory) (e : Entry) : Type 0 where
  pub can : MayPutNext p tr
  pub next : front_carried_of (lanes_of p) tr.queue tr.target ≡ Some e
  pub ends : outcome ≡ put_outcome theirs e.kind
  pub left : head_of (lanes_of p) tr.queue tr.target ≡ Some e → IsPutLeft s t p tr outcome theirs e

pub put-node : (s t : State) (p : PostsValue) (tr : Transfer) (outcome : Outcome) (theirs : Memory) (e : Entry) → IsSound s → IsPostsOf s tr.origin p
    → chosen first_carried p.posts tr.queue tr.target ≡ Some e → e.number ≡ tr.number → slice_get s.memories (put_rank tr.origin tr.target e.kind) ≡ Some theirs
    → step s (Put tr.origin tr.queue tr.target tr.number outcome) ≡ Ok t → IsPutMade s t p tr outcome theirs e
put-node s t p tr outcome theirs e sound is first numbered there h =
    let made = sound-put s t tr.origin tr.queue tr.target tr.number outcome sound h in
    go made.0 made.1 made.2 made.3 made.4
  where
    go : (posts : Posts) (memory : Memory) (after : PostsAndMemory) (at : EntryPosition) → IsPutThere s t tr.origin tr.queue tr.target tr.number outcome posts memory after at
        → IsPutMade s t p tr outcome theirs e
    go posts memory after at m =
        let mine : p.posts ≡ posts = same-some (slice_get s.posts tr.origin) p.posts posts is.posts m.posts_there in
        let found : IsFound p.posts tr.queue tr.target tr.number at = rw mine m.is.is in
        let here : first_carried at.lane ≡ Some e = sym (chosen-found first_carried p.posts tr.queue tr.target tr.number at found) ∙ first in
        let rising = (sound.posts tr.origin p.posts is.posts).rising tr.queue at.queue found.in_posts tr.target at.lane found.in_queue in
        let same = λ (place : ℕ) (x : slice_get at.lane place ≡ Some e). placed p.posts.next tr.number at.lane at.position place e rising found.numbered x numbered in
        let place_is = same (position_or_len is_carried at.lane) here in
        let entry : at.entry ≡ e = same-some (slice_get at.lane at.position) at.entry e found.in_lane (subst (λ (k : ℕ). slice_get at.lane k ≡ Some e) (sym place_is) here) in
        let rank : put_rank tr.origin tr.target at.entry.kind ≡ put_rank tr.origin tr.target e.kind = ap (λ (x : Entry). put_rank tr.origin tr.target x.kind) entry in
        let memory_is : memory ≡ theirs = same-some (slice_get s.memories (put_rank tr.origin tr.target e.kind)) memory theirs (subst (λ (k : ℕ). slice_get s.memories k ≡ Some memory) rank m.memory_there) there in
        let next : front_carried_of (lanes_of p) tr.queue tr.target ≡ Some e = put-next p.posts tr.queue tr.target tr.number at found m.is.whole (here ∙ ap (λ (x : Entry). Some x) (sym entry)) ∙ ap (λ (x : Entry). Some x) entry in
        let kept : t.limits ≡ s.limits = ap (λ (x : State). x.limits) m.leaves in
        let count : after.posts.events ≡ p.posts.events + 1 = ap (λ (w : PostsAndMemory). w.posts.events) m.is.leaves ∙ events-left posts tr.queue tr.target at outcome ∙ ap (λ (x : Posts). x.events + 1) (sym mine) in
        let there_t : slice_get t.posts tr.origin ≡ Some after.posts = ap (λ (x : State). slice_get x.posts tr.origin) m.leaves ∙ slice_get-set_same s.posts tr.origin p.posts after.posts is.posts in
        record {
          can = record {
            next = rw next refl;
            room = room-for s t tr.origin p after.posts (steps s t (Put tr.origin tr.queue tr.target tr.number outcome) sound h) kept is.limits there_t count;
          };
          next = next;
          ends = same-outcomes outcome (put_outcome memory at.entry.kind) m.is.fits ∙ ap (λ (x : Memory). put_outcome x at.entry.kind) memory_is ∙ ap (λ (x : Entry). put_outcome theirs x.kind) entry;
          left = λ head.
              let zero_place : at.position ≡ 0 = same 0 (sym (head-found p.posts tr.queue tr.target tr.number at found) ∙ head) in
              record {
                leaves = m.leaves
                    ∙ ap (λ (k : ℕ). record s { posts = slice_set s.posts tr.origin after.posts; memories = slice_set s.memories k after.memory }) rank
                    ∙ ap (λ (w : PostsAndMemory). record s { posts = slice_set s.posts tr.origin w.posts; memories = slice_set s.memories (put_rank tr.origin tr.target e.kind) w.memory }) m.is.leaves
                    ∙ ap (λ (x : Posts). record s { posts = slice_set s.posts tr.origin (put_with x tr.queue tr.target at outcome); memories = slice_set s.memories (put_rank tr.origin tr.target e.kind) (memory_with memory at outcome) }) (sym mine)
                    ∙ ap (λ (x : Posts). record s { posts = slice_set s.posts tr.origin x; memories = slice_set s.memories (put_rank tr.origin tr.target e.kind) (memory_with memory at outcome) }) (posts-same p.posts tr at outcome found zero_place)
                    ∙ ap (λ (x : Memory). record s { posts = slice_set s.posts tr.origin (counted (posts_put p.posts tr.queue tr.target outcome)); memories = slice_set s.memories (put_rank tr.origin tr.target e.kind) x })
                    (memory-same memory at outcome ∙ ap (λ (x : Memory). memory_left x at.entry outcome) memory_is ∙ ap (λ (x : Entry). memory_left theirs x outcome) entry);
              };
        }
