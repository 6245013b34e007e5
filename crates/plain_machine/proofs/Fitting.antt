-- Ranks and queues keep their numbers: at the start, and at every step.
use Rattle.std.proofs.Common.{◌≡◌, ℕ, zero, suc, ◌+◌, ◌≤◌, arith, Bool, true, false, nat_le, List, [], ◌∷◌, Option, None, Some, Result, Ok, Err, ◌⊎◌, inl, inr, length, slice_get, slice_set, refl, sym, ap, ◌∙◌}
use Rattle.std.proofs.lemmas.Bool.Decides.{nat_tests}
use Rattle.std.proofs.lemmas.List.{length-set}
use Rattle.gaspi_types.specs.CallRows.{row_of}
use Rattle.gaspi_types.specs.Checks.{check}
use Rattle.gaspi_types.specs.Replies.{same_reply, is_idle}
use Rattle.gaspi_types.specs.declared.call_rows.Posting.{Posting}
use Rattle.gaspi_types.specs.declared.entries.Kind.{Kind}
use Rattle.gaspi_types.specs.declared.shapes.Limits.{Limits}
use Rattle.gaspi_types.specs.declared.calls.Call.{Call}
use Rattle.gaspi_types.specs.declared.replies.Refusal.{Refusal}
use Rattle.gaspi_types.specs.declared.replies.Reply.{Reply}
use Rattle.gaspi_types.specs.declared.events.Event.{Event}
use Rattle.gaspi_types.specs.declared.events.Event.TheVariants.{Called, Joined, Take, Put}
use Rattle.gaspi_model.specs.State.{owed, thread_at}
use Rattle.gaspi_model.specs.Calls.{requested_kinds, answer, recorded_reply, charge, posts_effect, posts_after, memory_after}
use Rattle.gaspi_model.specs.Posting.{with_post}
use Rattle.gaspi_types.specs.Tables.{changed_at}
use Rattle.gaspi_model.specs.Sound.{IsSound}
use Rattle.gaspi_types.specs.declared.inboxes.Message.{Message}
use Rattle.gaspi_model.specs.Step.{call_message, step, called, is_there}
use Rattle.gaspi_model.specs.Transfers.{PostsAndMemory}
use Rattle.gaspi_model.specs.declared.states.Posts.{Posts}
use Rattle.gaspi_model.specs.declared.states.Memory.{Memory}
use Rattle.gaspi_model.specs.declared.states.State.{State}
use Rattle.gaspi_model.specs.declared.states.Why.{Why}
use Rattle.plain_machine.specs.Machine.{HasBoundedNumbers}
use Rattle.plain_machine.specs.Footprints.{call_footprint}
use Rattle.gaspi_types.proofs.Chains.{bind_then}
use Rattle.gaspi_types.proofs.Items.{changed_at-found}
use Rattle.plain_calls.proofs.Postings.{posting_of}
use Rattle.plain_calls.proofs.Queues.{one_queue}
use Rattle.gaspi_model.proofs.CollectivePosts.{IsMet, on_group-called, on_group-joined}
use Rattle.gaspi_types.specs.declared.shapes.CallerId.{CallerId}
use Rattle.plain_machine.proofs.OnGroups.{completed_memories, joined_memories}
use Rattle.plain_machine.proofs.AtFootprints.{called_back, used_back, put_back, registered_by}
use Rattle.plain_machine.proofs.Kept.{take_keeps, put_keeps}
use Rattle.gaspi_types.specs.declared.footprints.Footprint.{Footprint}
use Rattle.gaspi_types.specs.declared.footprints.Footprint.TheVariants.{Alone, OwnMemory, PeerMemory, BothMemories, PeerPosts, Group, GroupAndMemory}
use Rattle.gaspi_model.specs.Parts.{memory_or_none}
use Rattle.plain_calls.specs.Looks.{AreShort}
use Rattle.plain_machine.specs.Footprints.{memory_at}

-- what stands in a list after a write is what was written or what stood there
after_write : {X : Type 0} (xs : List X) (i k : ℕ) (y z : X) → slice_get (slice_set xs i y) k ≡ Some z → (z ≡ y) × (k ≡ i) ⊎ (slice_get xs k ≡ Some z)
after_write [] i k y z is = inr is
after_write (x ∷ xs) zero zero y z is = let same : y ≡ z = cc in inl (sym same, refl)
after_write (x ∷ xs) zero (suc k) y z is = inr is
after_write (x ∷ xs) (suc i) zero y z is = inr is
after_write (x ∷ xs) (suc i) (suc k) y z is = elim (after_write xs i k y z is) [ inl w ↦ inl (w.0, ap suc w.1) | inr w ↦ inr w ]

length-changed_at : {X : Type 0} (table : List X) (place : ℕ) (change : X → X) → length (changed_at table place change) ≡ length table
length-changed_at {X} table place change = by_item (slice_get table place) refl
  where
    by_item : (o : Option X) → slice_get table place ≡ o → length (changed_at table place change) ≡ length table
    by_item None there = rw there refl
    by_item (Some x) there = rw (changed_at-found table place x change there) (length-set table place (change x))

queues-post : (posts : Posts) (queue rank : ℕ) (asked : Result (List Kind) Refusal) → length (with_post posts queue rank asked).queues ≡ length posts.queues
queues-post posts queue rank (Ok kinds) = length-changed_at posts.queues queue _
queues-post posts queue rank (Err refusal) = refl

queues-done : (limits : Limits) (me : ℕ) (posts : Posts) (thread : ℕ) (call : Call) → length (posts_effect limits me posts thread call).queues ≡ length posts.queues
queues-done limits me posts thread call = by_posting (row_of call).posting refl
  where
    by_posting : (posting : Option Posting) → (row_of call).posting ≡ posting → length (posts_effect limits me posts thread call).queues ≡ length posts.queues
    by_posting None is =
        elim (one_queue limits me posts thread call is) [
          | inl same ↦ ap length same
          | inr at ↦ ap length at.2 ∙ length-changed_at posts.queues at.0 at.1
        ]
    by_posting (Some posting) is =
        let p = posting_of limits me posts call posting is in
        rw (p.leaves thread) (queues-post posts posting.queue posting.rank (requested_kinds limits me posts call))

queues-after : (limits : Limits) (me : ℕ) (posts : Posts) (thread : ℕ) (call : Call) (reply : Reply) → length (posts_after limits me posts thread call reply).queues ≡ length posts.queues
queues-after limits me posts thread call reply = by_idle (is_idle reply) refl
  where
    by_idle : (idle : Bool) → is_idle reply ≡ idle → length (posts_after limits me posts thread call reply).queues ≡ length posts.queues
    by_idle true idle = rw idle refl
    by_idle false idle = rw idle (queues-done limits me posts thread call)

queues-called : (limits : Limits) (me : ℕ) (posts : Posts) (message : Option Message) (memory : Memory) (thread : ℕ) (call : Call) (reply : Reply) (after : PostsAndMemory)
    → called limits me posts message memory thread call reply ≡ Ok after → length after.posts.queues ≡ length posts.queues
queues-called limits me posts message memory thread call reply after is =
    bind_then (check (is_there (thread_at posts thread)) _) _ _ is (λ u there more.
    bind_then (check (same_reply reply (recorded_reply (answer limits me posts memory thread call))) _) _ _ more (λ u answered more.
    bind_then (check (nat_le (posts.events + owed posts + charge (thread_at posts thread) call reply) limits.events) _) _ _ more (λ u room more.
    done after more)))
  where
    done : (after : PostsAndMemory) → ◌≡◌ {A = Result PostsAndMemory Why} (Ok (record { posts = posts_after limits me posts thread call reply; memory = memory_after limits posts message memory call reply })) (Ok after)
        → length after.posts.queues ≡ length posts.queues
    done after is =
        let same : record { posts = posts_after limits me posts thread call reply; memory = memory_after limits posts message memory call reply } ≡ after = cc in
        rw (← same) (queues-after limits me posts thread call reply)

-- one rank's posts replaced by some with as many queues
fitting_with : (s : State) (rank : ℕ) (p p' : Posts) (memories : List Memory) → HasBoundedNumbers s → length memories ≡ length s.memories → slice_get s.posts rank ≡ Some p → length p'.queues ≡ length p.queues
    → HasBoundedNumbers (record s { posts = slice_set s.posts rank p'; memories = memories })
fitting_with s rank p p' memories fits all there same = record {
  memories = all ∙ (fits.memories ∙ sym (length-set s.posts rank p'));
  ranks = rw (length-set s.posts rank p') fits.ranks;
  queues = λ k q is. elim (after_write s.posts rank k p' q is) [
    | inl w ↦ rw (w.0, same) (fits.queues rank p there)
    | inr w ↦ fits.queues k q w
  ];
}

-- a rank's posts changed so that its queues stay
fitting_changed : (s : State) (rank : ℕ) (change : Posts → Posts) (posts : List Posts) (memories : List Memory) → ((peer : Posts) → (change peer).queues ≡ peer.queues)
    → HasBoundedNumbers (record s { posts = posts; memories = memories })
    → HasBoundedNumbers (record s { posts = changed_at posts rank change; memories = memories })
fitting_changed s rank change posts memories kept fits = by_item (slice_get posts rank) refl
  where
    by_item : (o : Option Posts) → slice_get posts rank ≡ o → HasBoundedNumbers (record s { posts = changed_at posts rank change; memories = memories })
    by_item None there = rw there fits
    by_item (Some q) there =
        rw (changed_at-found posts rank q change there)
        (fitting_with (record s { posts = posts; memories = memories }) rank q (change q) memories fits refl there (ap length (kept q)))

-- a state vector has a mark for each rank, and so few
pub few_marks : (s : State) → IsSound s → (rank : ℕ) (p : Posts) → slice_get s.posts rank ≡ Some p → length p.corrupt ≤ 32
few_marks s sound rank p there =
    let marks = (sound.posts rank p there).tables.corrupt in
    let limited = sound.limits in
    grind (arith, nat_tests, marks, limited)

-- the messages of the memory that is worked on are no longer than messages may be
pub short_at : (s : State) (me : ℕ) (footprint : Footprint) → IsSound s → AreShort (memory_at s.memories me footprint).inbox
short_at s me footprint sound = by_footprint footprint
  where
    short : (rank : ℕ) (o : Option Memory) → slice_get s.memories rank ≡ o → AreShort (memory_or_none o).inbox
    short rank None there place m at = absurd (let no : ⊥ = cc in no)
    short rank (Some memory) there place m at =
        let sized = (sound.inboxes rank memory there).sizes place m at in
        grind (arith, nat_tests, sized)

    by_footprint : (r : Footprint) → AreShort (memory_at s.memories me r).inbox
    by_footprint Alone place m at = absurd (let no : ⊥ = cc in no)
    by_footprint OwnMemory place m at = short me (slice_get s.memories me) refl place m at
    by_footprint (PeerMemory rank) place m at = short rank (slice_get s.memories rank) refl place m at
    by_footprint (BothMemories rank) place m at = short rank (slice_get s.memories rank) refl place m at
    by_footprint (PeerPosts rank) place m at = absurd (let no : ⊥ = cc in no)
    by_footprint (Group id) place m at = absurd (let no : ⊥ = cc in no)
    by_footprint (GroupAndMemory id) place m at = short me (slice_get s.memories me) refl place m at

-- the same posts
fitting_at : (s t : State) (posts : List Posts) → posts ≡ t.posts → HasBoundedNumbers (record s { posts = posts; memories = t.memories }) → HasBoundedNumbers t
fitting_at s t posts same fits =
    let ranks = fits.ranks in
    let memories = fits.memories in
    let queues = fits.queues in
    record { ranks = rw (← same) ranks; memories = rw (← same) memories; queues = rw (← same) queues }

-- a call that is no collective
fitting_called : (s t : State) (c : CallerId) (call : Call) (reply : Reply) → (row_of call).group ≡ None → HasBoundedNumbers s → step s (Called c call reply) ≡ Ok t → HasBoundedNumbers t
fitting_called s t c call reply plain fits is =
    let b = called_back s t c call reply plain is in
    let same = queues-called s.limits c.rank b.p (call_message s c.rank call) b.memory c.thread call reply b.after b.steps in
    let recorded = fitting_with s c.rank b.p b.after.posts t.memories fits b.memories b.there same in
    let told =
    registered_by (λ (ps : List Posts). HasBoundedNumbers (record s { posts = ps; memories = t.memories })) (call_footprint s.limits c.rank call) c.rank b.p call reply (slice_set s.posts c.rank b.after.posts) recorded
    (λ rank change kept. fitting_changed s rank change (slice_set s.posts c.rank b.after.posts) t.memories kept recorded) in
    fitting_at s t _ b.posts told

-- an event on a group
fitting_on_group : (s t : State) (rank : ℕ) (p p' : Posts) → IsMet s t rank p p' → length t.memories ≡ length s.memories → HasBoundedNumbers s → HasBoundedNumbers t
fitting_on_group s t rank p p' met memories fits = fitting_at s t _ (sym met.leaves) (fitting_with s rank p p' t.memories fits memories met.there (ap length met.keeps.queues))

-- every step
pub fitting_by : (s t : State) (e : Event) → HasBoundedNumbers s → step s e ≡ Ok t → HasBoundedNumbers t
fitting_by s t (Called c call reply) fits is = by_group (row_of call).group refl
  where
    by_group : (o : Option ℕ) → (row_of call).group ≡ o → HasBoundedNumbers t
    by_group None plain = fitting_called s t c call reply plain fits is
    by_group (Some id) named =
        let met = on_group-called s t c id call reply named is in
        fitting_on_group s t c.rank met.0 met.1 met.2 (completed_memories s t c id call reply named is) fits
fitting_by s t (Joined c id args) fits is =
    let met = on_group-joined s t c id args is in
    fitting_on_group s t c.rank met.0 met.1 met.2 (joined_memories s t c id args is) fits
fitting_by s t (Take origin queue target number outcome) fits is =
    let b = used_back s t origin queue target number outcome is in
    rw (← b.is) (fitting_with s origin b.p b.after s.memories fits refl b.there (take_keeps s.limits b.p b.memory queue target number outcome b.after b.steps).queues)
fitting_by s t (Put origin queue target number outcome) fits is =
    let b = put_back s t origin queue target number outcome is in
    fitting_at s t _ b.posts (fitting_with s origin b.p b.after.posts t.memories fits b.memories b.there (put_keeps b.p b.memory queue target number outcome b.after b.steps).queues)
