-- An event changes the transfers of its own rank alone, so the counts of all other ranks stay. A call that posts nothing and
-- purges nothing, and a join, change none.
use Rattle.std.proofs.Common.{◌≡◌, ◌==◌, nat_le, ℕ, zero, suc, ◌+◌, Bool, true, false, List, [], ◌∷◌, ◌++◌, length, Option, None, Some, Result, Ok, Err, is_none, if◌then◌else◌, refl, sym, ap, subst, inl, inr, ◌⊎◌, ◌∙◌, arith, replicate, slice_get}
use Rattle.std.proofs.lemmas.Bool.{cases_eq, eqb-true, leb-true}
use Rattle.std.specs.List.{flat_map, enumerate_from, range_with_len, slice_set}
use Rattle.std.proofs.lemmas.List.{length-set}
use Rattle.gaspi_types.specs.CallRows.{row_of}
use Rattle.gaspi_types.specs.Replies.{is_idle}
use Rattle.gaspi_types.specs.Tables.{item_at, changed_at}
use Rattle.gaspi_types.specs.declared.calls.Call.{Call}
use Rattle.gaspi_types.specs.declared.entries.Queue.{Queue}
use Rattle.gaspi_types.specs.declared.events.Event.{Event}
use Rattle.gaspi_types.specs.declared.events.Event.TheVariants.{Called, Joined, Take, Put}
use Rattle.gaspi_types.specs.declared.events.Transfer.{Transfer}
use Rattle.gaspi_types.specs.declared.groups.Args.{Args}
use Rattle.gaspi_types.specs.declared.replies.Reply.{Reply}
use Rattle.gaspi_types.specs.declared.shapes.CallerId.{CallerId}
use Rattle.gaspi_types.specs.declared.shapes.Limits.{Limits}
use Rattle.gaspi_types.proofs.Chains.{both}
use Rattle.gaspi_types.proofs.Items.{changed_at-found, length-changed_at, slice_get-set_same, slice_get-set_other}
use Rattle.gaspi_model.specs.Calls.{posts_effect, posts_after}
use Rattle.gaspi_model.specs.Step.{call_message, step, Steps, owner_of, transfer_event}
use Rattle.gaspi_model.specs.Transfers.{queue_transfers, rank_transfers, transfers, PostsAndMemory}
use Rattle.gaspi_model.specs.declared.states.Posts.{Posts}
use Rattle.gaspi_model.specs.declared.states.State.{State}
use Rattle.gaspi_model.specs.declared.states.StepFault.{StepFault}
use Rattle.gaspi_model.specs.declared.states.StepFault.TheVariants as faults
use Rattle.gaspi_model.proofs.Made.{called-ok}
use Rattle.gaspi_model.proofs.CollectivePosts.{IsMet, on_group-called, on_group-joined}
use Rattle.plain_calls.specs.NumberBounds.{purged_queue}
use Rattle.plain_calls.proofs.Queues.{plain_queues}
use Rattle.plain_machine.specs.Machine.{is_still}
use Rattle.plain_machine.specs.Footprints.{call_footprint}
use Rattle.plain_machine.specs.RankCounts.{transfers_of, AreRankCounts, IsCountOfOthers, AreCounts, count_without, without_count}
use Rattle.plain_machine.specs.declared.rank_counts.TransferCounts.{TransferCounts}
use Rattle.plain_machine.proofs.Lists.{same_changed}
use Rattle.plain_machine.proofs.Totals.{total_swapped}
use Rattle.plain_machine.proofs.Walked.{transfers-by_rank}
use Rattle.plain_machine.proofs.AtFootprints.{IsCalled, called_back, used_back, put_back, registered_by}

-- The transfers of a rank after the posts of one rank changed.

-- of another rank
elsewhere : (l : Limits) (all : List Posts) (me j : ℕ) (p : Posts) → (me ≡ j → ⊥) → transfers_of l (slice_set all me p) j ≡ transfers_of l all j
elsewhere l all me j p apart = rw (slice_get-set_other all me j p apart) refl

-- of any, where they stay those of that rank
anywhere : (l : Limits) (all : List Posts) (me j : ℕ) (p p' : Posts) → slice_get all me ≡ Some p → ((k : ℕ) → rank_transfers l (k, p') ≡ rank_transfers l (k, p))
    → transfers_of l (slice_set all me p') j ≡ transfers_of l all j
anywhere l all me j p p' there same =
    elim (cases_eq me j) [
      | inl is ↦ subst (λ (k : ℕ). transfers_of l (slice_set all me p') k ≡ transfers_of l all k) is here
      | inr apart ↦ elsewhere l all me j p' apart
    ]
  where
    here : transfers_of l (slice_set all me p') me ≡ transfers_of l all me
    here = rw (slice_get-set_same all me p p' there, there) (same me)

-- of any, where the queues stay
of_queues : (l : Limits) (k : ℕ) (p p' : Posts) → p'.queues ≡ p.queues → rank_transfers l (k, p') ≡ rank_transfers l (k, p)
of_queues l k p p' same = ap (λ (qs : List Queue). flat_map (queue_transfers k l) (enumerate_from 0 qs)) same

told : (l : Limits) (all : List Posts) (rank j : ℕ) (change : Posts → Posts) → ((peer : Posts) → (change peer).queues ≡ peer.queues)
    → transfers_of l (changed_at all rank change) j ≡ transfers_of l all j
told l all rank j change same = by_item (slice_get all rank) refl
  where
    by_item : (o : Option Posts) → slice_get all rank ≡ o → transfers_of l (changed_at all rank change) j ≡ transfers_of l all j
    by_item None there = rw there refl
    by_item (Some p) there = rw (changed_at-found all rank p change there) (anywhere l all rank j p (change p) there (λ k. of_queues l k p (change p) (same p)))

-- The transfers of a rank after a step.

-- what a call that is no collective leaves of them
after_call : (l : Limits) (s t : State) (c : CallerId) (call : Call) (reply : Reply) (j : ℕ) (b : IsCalled s t c call reply)
    → transfers_of l (slice_set s.posts c.rank b.after.posts) j ≡ transfers_of l s.posts j → transfers_of l t.posts j ≡ transfers_of l s.posts j
after_call l s t c call reply j b kept =
    ap (λ (ps : List Posts). transfers_of l ps j) (sym b.posts)
    ∙ registered_by (λ (ps : List Posts). transfers_of l ps j ≡ transfers_of l s.posts j) (call_footprint s.limits c.rank call) c.rank b.p call reply (slice_set s.posts c.rank b.after.posts) kept
    (λ rank change same. told l (slice_set s.posts c.rank b.after.posts) rank j change same ∙ kept)

-- an event on a group
after_meeting : (l : Limits) (s t : State) (me j : ℕ) (p p' : Posts) → IsMet s t me p p' → transfers_of l t.posts j ≡ transfers_of l s.posts j
after_meeting l s t me j p p' met =
    ap (λ (ps : List Posts). transfers_of l ps j) met.leaves ∙ anywhere l s.posts me j p p' met.there (λ k. of_queues l k p p' met.keeps.queues)

-- any event, of another rank
of_others : (l : Limits) (s t : State) (e : Event) (j : ℕ) → (owner_of e ≡ j → ⊥) → step s e ≡ Ok t → transfers_of l t.posts j ≡ transfers_of l s.posts j
of_others l s t (Called c call reply) j apart is = by_group (row_of call).group refl
  where
    by_group : (o : Option ℕ) → (row_of call).group ≡ o → transfers_of l t.posts j ≡ transfers_of l s.posts j
    by_group None plain = let b = called_back s t c call reply plain is in after_call l s t c call reply j b (elsewhere l s.posts c.rank j b.after.posts apart)
    by_group (Some id) named = let met = on_group-called s t c id call reply named is in after_meeting l s t c.rank j met.0 met.1 met.2
of_others l s t (Joined c id args) j apart is = let met = on_group-joined s t c id args is in after_meeting l s t c.rank j met.0 met.1 met.2
of_others l s t (Take origin queue target number outcome) j apart is =
    let b = used_back s t origin queue target number outcome is in
    ap (λ (x : State). transfers_of l x.posts j) (sym b.is) ∙ elsewhere l s.posts origin j b.after apart
of_others l s t (Put origin queue target number outcome) j apart is =
    let b = put_back s t origin queue target number outcome is in
    ap (λ (ps : List Posts). transfers_of l ps j) (sym b.posts) ∙ elsewhere l s.posts origin j b.after.posts apart

-- a call that posts nothing and purges nothing, of any rank
still_done : (l limits : Limits) (me : ℕ) (posts : Posts) (thread : ℕ) (call : Call) (j : ℕ) → (row_of call).posting ≡ None → purged_queue call ≡ None
    → rank_transfers l (j, posts_effect limits me posts thread call) ≡ rank_transfers l (j, posts)
still_done l limits me posts thread call j is kept =
    elim (plain_queues limits me posts thread call is kept) [
      | inl same ↦ ap (λ (qs : List Queue). flat_map (queue_transfers j l) (enumerate_from 0 qs)) same
      | inr at ↦
          ap (λ (qs : List Queue). flat_map (queue_transfers j l) (enumerate_from 0 qs)) at.1
          ∙ same_changed (queue_transfers j l) 0 at.0 posts.queues (λ (q : Queue). record q { open_count = 0 }) (λ k q. refl)
    ]

still_after : (l limits : Limits) (me : ℕ) (posts : Posts) (thread : ℕ) (call : Call) (reply : Reply) (j : ℕ) → (row_of call).posting ≡ None → purged_queue call ≡ None
    → rank_transfers l (j, posts_after limits me posts thread call reply) ≡ rank_transfers l (j, posts)
still_after l limits me posts thread call reply j is kept = by_idle (is_idle reply) refl
  where
    by_idle : (idle : Bool) → is_idle reply ≡ idle → rank_transfers l (j, posts_after limits me posts thread call reply) ≡ rank_transfers l (j, posts)
    by_idle true idle = rw idle refl
    by_idle false busy = rw busy (still_done l limits me posts thread call j is kept)

-- A step that keeps the transfers of all ranks, and how many ranks there are.
record KeepsAll (s t : State) : Type 0 where
  long : length t.posts ≡ length s.posts
  each : (j : ℕ) → transfers_of s.limits t.posts j ≡ transfers_of s.limits s.posts j

long_after_call : (s t : State) (c : CallerId) (call : Call) (reply : Reply) → IsCalled s t c call reply → length t.posts ≡ length s.posts
long_after_call s t c call reply b =
    ap length (sym b.posts)
    ∙ registered_by (λ (ps : List Posts). length ps ≡ length s.posts) (call_footprint s.limits c.rank call) c.rank b.p call reply (slice_set s.posts c.rank b.after.posts) kept
    (λ rank change same. length-changed_at (slice_set s.posts c.rank b.after.posts) rank change ∙ kept)
  where
    kept : length (slice_set s.posts c.rank b.after.posts) ≡ length s.posts
    kept = length-set s.posts c.rank b.after.posts

all_meeting : (s t : State) (me : ℕ) (p p' : Posts) → IsMet s t me p p' → KeepsAll s t
all_meeting s t me p p' met = record { long = ap length met.leaves ∙ length-set s.posts me p'; each = λ j. after_meeting s.limits s t me j p p' met }

all_still : (s t : State) (c : CallerId) (call : Call) (reply : Reply) → (row_of call).posting ≡ None → purged_queue call ≡ None → step s (Called c call reply) ≡ Ok t → KeepsAll s t
all_still s t c call reply none kept is = by_group (row_of call).group refl
  where
    by_group : (o : Option ℕ) → (row_of call).group ≡ o → KeepsAll s t
    by_group None plain =
        let b = called_back s t c call reply plain is in
        let made = called-ok s.limits c.rank b.p (call_message s c.rank call) b.memory c.thread call reply b.after b.steps in
        let after : posts_after s.limits c.rank b.p c.thread call reply ≡ b.after.posts = sym (ap (λ (w : PostsAndMemory). w.posts) made.leaves) in
        record {
          long = long_after_call s t c call reply b;
          each = λ j. after_call s.limits s t c call reply j b
              (anywhere s.limits s.posts c.rank j b.p b.after.posts b.there
              (λ k. ap (λ (p : Posts). rank_transfers s.limits (k, p)) (sym after) ∙ still_after s.limits s.limits c.rank b.p c.thread call reply k none kept));
        }
    by_group (Some id) named = let met = on_group-called s t c id call reply named is in all_meeting s t c.rank met.0 met.1 met.2

same_lists : (f g : ℕ → List Transfer) (ks : List ℕ) → ((k : ℕ) → f k ≡ g k) → flat_map f ks ≡ flat_map g ks
same_lists f g [] same = refl
same_lists f g (k ∷ ks) same = ap (λ (xs : List Transfer). xs ++ flat_map f ks) (same k) ∙ ap (λ (xs : List Transfer). g k ++ xs) (same_lists f g ks same)

all_transfers : (s t : State) → KeepsAll s t → transfers s.limits t.posts ≡ transfers s.limits s.posts
all_transfers s t keeps =
    transfers-by_rank s.limits t.posts
    ∙ same_lists (transfers_of s.limits t.posts) (transfers_of s.limits s.posts) (range_with_len 0 (length t.posts)) keeps.each
    ∙ ap (λ (n : ℕ). flat_map (transfers_of s.limits s.posts) (range_with_len 0 n)) keeps.long
    ∙ sym (transfers-by_rank s.limits s.posts)

-- The counts.

-- a count that is left where one is kept no more is that of another rank
item_left : (counts : List (Option ℕ)) (me rank count : ℕ) → item_at (slice_set counts me None) rank ≡ Some count → (me ≡ rank → ⊥) × (item_at counts rank ≡ Some count)
item_left [] me rank count is = absurd (let no : ⊥ = cc in no)
item_left (x ∷ counts) zero zero count is = absurd (let no : ⊥ = cc in no)
item_left (x ∷ counts) zero (suc rank) count is = ((λ same. let no : ⊥ = cc in no), is)
item_left (x ∷ counts) (suc me) zero count is = ((λ same. let no : ⊥ = cc in no), is)
item_left (x ∷ counts) (suc me) (suc rank) count is =
    let rest = item_left counts me rank count is in
    ((λ same. rest.0 (let e : me ≡ rank = omega (arith, same) in e)), rest.1)

-- a count that is there where one was set is that one, or one of those before
item_set : (counts : List (Option ℕ)) (me n rank count : ℕ) → item_at (slice_set counts me (Some n)) rank ≡ Some count → ((me ≡ rank) × (count ≡ n)) ⊎ (item_at counts rank ≡ Some count)
item_set [] me n rank count is = inr is
item_set (x ∷ counts) zero n zero count is = inl (refl, (let same : n ≡ count = cc in sym same))
item_set (x ∷ counts) zero n (suc rank) count is = inr is
item_set (x ∷ counts) (suc me) n zero count is = inr is
item_set (x ∷ counts) (suc me) n (suc rank) count is =
    elim (item_set counts me n rank count is) [
      | inl at ↦ inl (ap (λ (k : ℕ). suc k) at.0, at.1)
      | inr there ↦ inr there
    ]

-- a rank that is counted
pub count_set : (l : Limits) (all : List Posts) (counts : List (Option ℕ)) (me n : ℕ) → AreRankCounts l all counts → n ≡ length (transfers_of l all me) → AreRankCounts l all (slice_set counts me (Some n))
count_set l all counts me n kept is = λ rank count there.
    elim (item_set counts me n rank count there) [
      | inl at ↦ at.1 ∙ (is ∙ ap (λ (k : ℕ). length (transfers_of l all k)) at.0)
      | inr before ↦ kept rank count before
    ]

all_kept : (s t : State) (counts : TransferCounts) → t.limits ≡ s.limits → KeepsAll s t → AreCounts s.limits s.posts counts → AreCounts t.limits t.posts counts
all_kept s t counts limits keeps is = record {
  by_rank = λ rank count there. is.by_rank rank count there ∙ ap length (sym (each rank));
  others = of_others counts.others counts.forgotten is.others;
}
  where
    each : (rank : ℕ) → transfers_of t.limits t.posts rank ≡ transfers_of s.limits s.posts rank
    each rank = ap (λ (l : Limits). transfers_of l t.posts rank) limits ∙ keeps.each rank

    all : length (transfers t.limits t.posts) ≡ length (transfers s.limits s.posts)
    all = ap length (ap (λ (l : Limits). transfers l t.posts) limits ∙ all_transfers s t keeps)

    of_others : (others forgotten : Option ℕ) → IsCountOfOthers s.limits s.posts others forgotten → IsCountOfOthers t.limits t.posts others forgotten
    of_others None forgotten is = tt
    of_others (Some n) None is = is ∙ sym all
    of_others (Some n) (Some rank) is = ap (λ (xs : List Transfer). n + length xs) (each rank) ∙ (is ∙ sym all)

others_kept : (s t : State) (counts : TransferCounts) (me : ℕ) → t.limits ≡ s.limits → length t.posts ≡ length s.posts
    → ((j : ℕ) → (me ≡ j → ⊥) → transfers_of s.limits t.posts j ≡ transfers_of s.limits s.posts j) → AreCounts s.limits s.posts counts → AreCounts t.limits t.posts (without_count counts me)
others_kept s t counts me limits long same is = record {
  by_rank = λ rank count there.
      let left = item_left counts.by_rank me rank count there in
      is.by_rank rank count left.1 ∙ ap length (sym (ap (λ (l : Limits). transfers_of l t.posts rank) limits ∙ same rank left.0));
  others = subst (λ (l : Limits). IsCountOfOthers l t.posts (count_without counts me) (Some me)) (sym limits) (of_others counts.others counts.forgotten refl refl is.others);
}
  where
    swapped : length (transfers s.limits t.posts) + length (transfers_of s.limits s.posts me) ≡ length (transfers s.limits s.posts) + length (transfers_of s.limits t.posts me)
    swapped = total_swapped s.limits s.posts t.posts me long same

    of_stored : (n : ℕ) (stored : Option ℕ) → counts.others ≡ Some n → counts.forgotten ≡ None → item_at counts.by_rank me ≡ stored → n + 0 ≡ length (transfers s.limits s.posts)
        → IsCountOfOthers s.limits t.posts (count_without counts me) (Some me)
    of_stored n None others forgotten stored all = rw (others, forgotten, stored) tt
    of_stored n (Some count) others forgotten stored all = by_size (nat_le count n) refl
      where
        by_size : (b : Bool) → nat_le count n ≡ b → IsCountOfOthers s.limits t.posts (count_without counts me) (Some me)
        by_size false more = rw (others, forgotten, stored, more) tt
        by_size true fits =
            let within = leb-true count n fits in
            let own = is.by_rank me count stored in
            rw (others, forgotten, stored, fits) (omega (arith, swapped, within, own, all))

    of_others : (others forgotten : Option ℕ) → counts.others ≡ others → counts.forgotten ≡ forgotten → IsCountOfOthers s.limits s.posts others forgotten
        → IsCountOfOthers s.limits t.posts (count_without counts me) (Some me)
    of_others None forgotten none left all = rw none tt
    of_others (Some n) None others forgotten all = of_stored n (item_at counts.by_rank me) others forgotten refl all
    of_others (Some n) (Some rank) others forgotten all = by_rank (rank == me) refl
      where
        by_rank : (b : Bool) → (rank == me) ≡ b → IsCountOfOthers s.limits t.posts (count_without counts me) (Some me)
        by_rank false apart = rw (others, forgotten, apart) tt
        by_rank true one =
            let same_rank : rank ≡ me = eqb-true rank me one in
            let own : length (transfers_of s.limits s.posts rank) ≡ length (transfers_of s.limits s.posts me) = ap (λ (k : ℕ). length (transfers_of s.limits s.posts k)) same_rank in
            rw (others, forgotten, one) (omega (arith, swapped, own, all))

-- a step leaves the number of ranks
long_step : (s t : State) (e : Event) → step s e ≡ Ok t → length t.posts ≡ length s.posts
long_step s t (Called c call reply) is = by_group (row_of call).group refl
  where
    by_group : (o : Option ℕ) → (row_of call).group ≡ o → length t.posts ≡ length s.posts
    by_group None plain = long_after_call s t c call reply (called_back s t c call reply plain is)
    by_group (Some id) named = let met = on_group-called s t c id call reply named is in (all_meeting s t c.rank met.0 met.1 met.2).long
long_step s t (Joined c id args) is = let met = on_group-joined s t c id args is in (all_meeting s t c.rank met.0 met.1 met.2).long
long_step s t (Take origin queue target number outcome) is =
    let b = used_back s t origin queue target number outcome is in
    ap (λ (x : State). length x.posts) (sym b.is) ∙ length-set s.posts origin b.after
long_step s t (Put origin queue target number outcome) is =
    let b = put_back s t origin queue target number outcome is in
    ap length (sym b.posts) ∙ length-set s.posts origin b.after.posts

-- where nothing was changed
all_same : (s t : State) → t ≡ s → KeepsAll s t
all_same s t same = record { long = ap (λ (x : State). length x.posts) same; each = λ j. ap (λ (x : State). transfers_of s.limits x.posts j) same }

-- what is kept of them where an event is made: those of all ranks but its own
pub counts_left : (counts : TransferCounts) (s t : State) (e : Event) (result : Result (Unit {0}) StepFault) → ((s t : State) (e : Event) → step s e ≡ Ok t → t.limits ≡ s.limits)
    → AreCounts s.limits s.posts counts → Steps result s t (step s e) → AreCounts t.limits t.posts (without_count counts (owner_of e))
counts_left counts s t e (Ok done) limits is steps = others_kept s t counts (owner_of e) (limits s t e steps) (long_step s t e steps) (λ j apart. of_others s.limits s t e j apart steps) is
counts_left counts s t e (Err (faults.Illegal why)) limits is steps =
    others_kept s t counts (owner_of e) (ap (λ (x : State). x.limits) steps.1) (ap (λ (x : State). length x.posts) steps.1) (λ j apart. ap (λ (x : State). transfers_of s.limits x.posts j) steps.1) is
counts_left counts s t e (Err faults.NoMemory) limits is steps =
    others_kept s t counts (owner_of e) (ap (λ (x : State). x.limits) steps) (ap (λ (x : State). length x.posts) steps) (λ j apart. ap (λ (x : State). transfers_of s.limits x.posts j) steps) is

none_of : {A : Type 0} (o : Option A) → is_none o ≡ true → o ≡ None
none_of None is = refl
none_of (Some x) is = absurd (let no : ⊥ = cc in no)

-- where a call is recorded
pub counts_recorded : (counts : TransferCounts) (s t : State) (c : CallerId) (call : Call) (reply : Reply) (result : Result (Unit {0}) StepFault)
    → ((s t : State) (e : Event) → step s e ≡ Ok t → t.limits ≡ s.limits) → AreCounts s.limits s.posts counts → Steps result s t (step s (Called c call reply))
    → AreCounts t.limits t.posts (if is_still call then counts else without_count counts c.rank)
counts_recorded counts s t c call reply result limits is steps = by_still (is_still call) refl
  where
    of_still : (result : Result (Unit {0}) StepFault) → is_still call ≡ true → Steps result s t (step s (Called c call reply)) → AreCounts t.limits t.posts counts
    of_still (Ok done) still steps =
        let parts = both (is_none (row_of call).posting) (is_none (purged_queue call)) still in
        all_kept s t counts (limits s t (Called c call reply) steps)
        (all_still s t c call reply (none_of (row_of call).posting parts.0) (none_of (purged_queue call) parts.1) steps) is
    of_still (Err (faults.Illegal why)) still steps = all_kept s t counts (ap (λ (x : State). x.limits) steps.1) (all_same s t steps.1) is
    of_still (Err faults.NoMemory) still steps = all_kept s t counts (ap (λ (x : State). x.limits) steps) (all_same s t steps) is

    by_still : (b : Bool) → is_still call ≡ b → AreCounts t.limits t.posts (if is_still call then counts else without_count counts c.rank)
    by_still true still = rw still (of_still result still steps)
    by_still false moves = rw moves (counts_left counts s t (Called c call reply) result limits is steps)

-- and where a collective joins, all
pub counts_joined : (counts : TransferCounts) (s t : State) (c : CallerId) (id : ℕ) (args : Args) (result : Result (Unit {0}) StepFault)
    → ((s t : State) (e : Event) → step s e ≡ Ok t → t.limits ≡ s.limits) → AreCounts s.limits s.posts counts → Steps result s t (step s (Joined c id args)) → AreCounts t.limits t.posts counts
counts_joined counts s t c id args (Ok done) limits is steps =
    let met = on_group-joined s t c id args steps in
    all_kept s t counts (limits s t (Joined c id args) steps) (all_meeting s t c.rank met.0 met.1 met.2) is
counts_joined counts s t c id args (Err (faults.Illegal why)) limits is steps = all_kept s t counts (ap (λ (x : State). x.limits) steps.1) (all_same s t steps.1) is
counts_joined counts s t c id args (Err faults.NoMemory) limits is steps = all_kept s t counts (ap (λ (x : State). x.limits) steps) (all_same s t steps) is

-- a transfer is of its origin
pub made_by : (s : State) (transfer : Transfer) → owner_of (transfer_event s transfer) ≡ transfer.origin
made_by s transfer = by_kind transfer.put refl
  where
    by_kind : (put : Bool) → transfer.put ≡ put → owner_of (transfer_event s transfer) ≡ transfer.origin
    by_kind true is = rw is refl
    by_kind false is = rw is refl

-- At the start no count is kept.

abbrev no_count : Option ℕ
no_count = None

none_there : (n rank : ℕ) → item_at (replicate n no_count) rank ≡ None
none_there zero rank = refl
none_there (suc n) zero = refl
none_there (suc n) (suc rank) = none_there n rank

pub counts_opening : (l : Limits) (all : List Posts) (n : ℕ) → AreCounts l all (record { by_rank = replicate n None; others = None; forgotten = None })
counts_opening l all n = record { by_rank = λ rank count there. absurd (let none = none_there n rank in let no : ⊥ = cc in no); others = tt }
