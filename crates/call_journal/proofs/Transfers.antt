-- The transfers of a journal in which every script ran to its end.
use Rattle.std.proofs.Common.{◌≡◌, ℕ, zero, suc, ◌+◌, ◌*◌, ◌<◌, ◌≤◌, Bool, true, false, List, [], ◌∷◌, Option, None, Some, Ok, refl, sym, ap, ◌∙◌, subst, arith}
use Rattle.std.specs.List.{slice_get, count_by, sum_by}
use Rattle.std.proofs.Math.Nat.{mul_assoc, mul_comm, mod-lt}
use Rattle.std.proofs.lemmas.List.Sums.{sum_by-cons}
use Rattle.byteorder.specs.Numbers.{length-bytes_low_first}
use Rattle.gaspi_types.specs.Lanes.{lane_owed}
use Rattle.gaspi_types.specs.Replies.{is_done}
use Rattle.gaspi_types.specs.declared.entries.Queue.{Queue}
use Rattle.gaspi_types.specs.declared.events.Event.{Event}
use Rattle.gaspi_types.specs.declared.replies.Reply.{Reply}
use Rattle.gaspi_model.specs.Settled.{AreLanesEmpty}
use Rattle.gaspi_model.specs.State.{opening}
use Rattle.gaspi_model.specs.Step.{reached, recorded_calls}
use Rattle.gaspi_model.specs.declared.states.Posts.{Posts}
use Rattle.gaspi_model.specs.declared.states.State.{State}
use Rattle.rank_script.specs.Bench.{bench_shape, bench_bytes, bench_draw, left_of, right_of}
use Rattle.call_journal.specs.Laws.{RanToTheEnd}
use Rattle.call_journal.specs.Numbers.{is_transfer}
use Rattle.rank_script.specs.Runs.{end_pair}
use Rattle.call_journal.proofs.Callers.{bench-first}
use Rattle.call_journal.proofs.Counts.{Pair, AreOfFirst, count-append}
use Rattle.call_journal.proofs.RingCalls.{Storing, Posting, Waiting, Watching, Resetting, Loading, Meeting, Ending}
use Rattle.call_journal.proofs.RingHistories.{AreRingEvents, AreRingPairs, pairs-append, ring-events, counted_over, after-ring, after-owed, after-slot, own-posts, own-resets, is_post_pair, all-moves}
use Rattle.call_journal.proofs.RingOpening.{bench-world, bench-ring, opening-owed, opening-notes, opening-slot}
use Rattle.call_journal.proofs.RingState.{IsRing, owed_in, owed_of, resets, posts_made, moves}
use Rattle.call_journal.proofs.Rounds.{AreRounds, round_pairs, run-rounds}
use Rattle.call_journal.proofs.Sums.{sum-constant}
use Rattle.call_journal.proofs.Totals.{is_found_pair, rounds-count}

-- at most so many pairs of each round pass
rounds-few : (ranks rank : ℕ) (bytes : ℕ → ℕ → List ℕ) (p : Pair → Bool) (rounds : ℕ) (pairs : List Pair)
    → ((mine loaded : List ℕ) (stored posted waited met : Reply) → count_by p (round_pairs ranks rank mine loaded stored posted waited met) ≤ 1)
    → AreRounds ranks rank bytes rounds pairs → count_by p pairs ≤ rounds
rounds-few ranks rank bytes p zero pairs each are = rw are (omega arith)
rounds-few ranks rank bytes p (suc round) pairs each are =
    let rest = rounds-few ranks rank bytes p round are.0 each are.5 in
    let last = each (bytes round rank) (bytes round (left_of ranks rank)) are.1 are.2 are.3 are.4 in
    let sum : count_by p pairs ≡ count_by p are.0 + count_by p (round_pairs ranks rank (bytes round rank) (bytes round (left_of ranks rank)) are.1 are.2 are.3 are.4) =
    ap (count_by p) are.6 ∙ count-append p are.0 (round_pairs ranks rank (bytes round rank) (bytes round (left_of ranks rank)) are.1 are.2 are.3 are.4) in
    omega (arith, rest, last, sum)

posts-few : (ranks rank : ℕ) (mine loaded : List ℕ) (stored posted waited met : Reply) → count_by is_post_pair (round_pairs ranks rank mine loaded stored posted waited met) ≤ 1
posts-few ranks rank mine loaded stored posted waited met = go (is_done posted) refl
  where
    go : (b : Bool) → is_done posted ≡ b → count_by is_post_pair (round_pairs ranks rank mine loaded stored posted waited met) ≤ 1
    go true is = rw is (omega arith)
    go false is = rw is (omega arith)

-- the pairs of rounds are calls of the script
rounds-ring : (seed ranks rounds rank count : ℕ) (pairs : List Pair) → AreRounds ranks rank (bench_bytes seed ranks) count pairs → AreRingPairs ranks rank pairs
rounds-ring seed ranks rounds rank zero pairs are = subst (AreRingPairs ranks rank) (sym are) tt
rounds-ring seed ranks rounds rank (suc round) pairs are =
    let stored = bench_bytes seed ranks round rank in
    let loaded = bench_bytes seed ranks round (left_of ranks rank) in
    subst (AreRingPairs ranks rank) (sym are.6)
    (pairs-append ranks rank are.0 (round_pairs ranks rank stored loaded are.1 are.2 are.3 are.4) (rounds-ring seed ranks rounds rank round are.0 are.5)
    ((Storing stored (length-bytes_low_first 0 8 (bench_draw seed ranks round rank)), refl), ((Posting, refl), ((Waiting, refl), ((Watching, refl), ((Resetting, refl), ((Loading, refl), ((Meeting, refl), tt))))))))

-- What the runs of all ranks say of a journal.
pub record IsRingJournal (seed ranks rounds : ℕ) (journal : List Event) (t : State) : Type 0 where
  pub first : AreOfFirst ranks journal
  pub are : AreRingEvents ranks journal
  pub opens : IsRing ranks (opening (bench_shape ranks rounds))
  pub ring : IsRing ranks t
  pub posts : (rank : ℕ) → rank < ranks → counted_over posts_made rank journal ≤ rounds
  pub resets : (rank : ℕ) → rank < ranks → counted_over resets rank journal ≡ rounds

pub ring-journal : (seed ranks rounds : ℕ) (journal : List Event) (ran : RanToTheEnd seed ranks rounds journal) → IsRingJournal seed ranks rounds journal ran.state
ring-journal seed ranks rounds journal ran =
    let first = bench-first ranks rounds journal ran.state ran.leads in
    let are = ring-events ranks journal first (λ rank less.
    (let run = run-rounds seed ranks rounds rank rounds (recorded_calls rank 0 journal) (ran.runs rank less) in
    subst (AreRingPairs ranks rank) (sym run.1) (pairs-append ranks rank run.0 end_pair (rounds-ring seed ranks rounds rank rounds run.0 run.2) ((Ending, refl), tt)))) in
    let opens = bench-ring ranks rounds (bench-world ranks rounds ran.some_ranks ran.few_ranks ran.few_rounds) in
    record {
      first = first;
      are = are;
      opens = opens;
      ring = after-ring ranks (opening (bench_shape ranks rounds)) ran.state journal opens are ran.leads;
      posts = λ rank less.
          (let run = run-rounds seed ranks rounds rank rounds (recorded_calls rank 0 journal) (ran.runs rank less) in
          let few = rounds-few ranks rank (bench_bytes seed ranks) is_post_pair rounds run.0 (posts-few ranks rank) run.2 in
          let own = own-posts rank ranks journal first in
          let all : count_by is_post_pair (recorded_calls rank 0 journal) ≡ count_by is_post_pair run.0 + count_by is_post_pair end_pair = ap (count_by is_post_pair) run.1 ∙ count-append is_post_pair run.0 end_pair in
          omega (arith, few, own, all));
      resets = λ rank less.
          (let run = run-rounds seed ranks rounds rank rounds (recorded_calls rank 0 journal) (ran.runs rank less) in
          let one = rounds-count ranks rank (bench_bytes seed ranks) is_found_pair 1 rounds run.0 (λ mine loaded stored posted waited met. refl) run.2 in
          let own = own-resets rank ranks journal first in
          let all : count_by is_found_pair (recorded_calls rank 0 journal) ≡ count_by is_found_pair run.0 + count_by is_found_pair end_pair = ap (count_by is_found_pair) run.1 ∙ count-append is_found_pair run.0 end_pair in
          omega (arith, one, own, all));
    }

-- The neighbours of a rank.

pub right-within : (ranks rank : ℕ) → rank < ranks → right_of ranks rank < ranks
right-within ranks rank less = mod-lt (rank + 1) (omega arith)

-- Each rank has posted in each round.
pub all-posted : (seed ranks rounds : ℕ) (journal : List Event) (t : State) → IsRingJournal seed ranks rounds journal t → reached (bench_shape ranks rounds) journal ≡ Ok t
    → (rank : ℕ) → rank < ranks → counted_over posts_made rank journal ≡ rounds
all-posted seed ranks rounds journal t is leads rank less =
    let slot = after-slot ranks (opening (bench_shape ranks rounds)) t journal rank (right_of ranks rank) less refl is.opens is.are leads in
    let none = opening-slot (bench_shape ranks rounds) (right_of ranks rank) in
    let empty = opening-notes (bench_shape ranks rounds) rank in
    let many = is.resets (right_of ranks rank) (right-within ranks rank less) in
    let few = is.posts rank less in
    omega (arith, slot, none, empty, many, few)

-- Nothing is owed where every lane is empty.

sum-none : {A : Type 0} (f : A → ℕ) (xs : List A) → ((k : ℕ) (x : A) → slice_get xs k ≡ Some x → f x ≡ 0) → sum_by f xs ≡ 0
sum-none f [] none = refl
sum-none f (x ∷ xs) none =
    let cons = sum_by-cons f x xs in
    let here = none 0 x refl in
    let rest = sum-none f xs (λ k y at. none (suc k) y at) in
    omega (arith, cons, here, rest)

settled-owed : (ranks : ℕ) (t : State) (rank : ℕ) → IsRing ranks t → AreLanesEmpty t → owed_in t rank ≡ 0
settled-owed ranks t rank ring empty = go (slice_get t.posts rank) refl
  where
    lanes : (p : Posts) → slice_get t.posts rank ≡ Some p → owed_of p ≡ 0
    lanes p at = sum-none (λ (q : Queue). sum_by lane_owed q.lanes) p.queues (λ k q here.
        sum-none lane_owed q.lanes (λ target lane there.
        ap lane_owed (empty rank p at k q here (rw ((ring.posts rank p at).queues k q here).whole refl) target lane there)))

    go : (o : Option Posts) → slice_get t.posts rank ≡ o → owed_in t rank ≡ 0
    go None at = rw at refl
    go (Some p) at = rw at (lanes p at)

pub transfers-counted : (seed ranks rounds : ℕ) (journal : List Event) → RanToTheEnd seed ranks rounds journal → count_by is_transfer journal ≡ 4 * ranks * rounds
transfers-counted seed ranks rounds journal ran =
    let is = ring-journal seed ranks rounds journal ran in
    let each : (rank : ℕ) → rank < ranks → counted_over moves rank journal ≡ 4 * rounds = λ rank less.
    (let owed = after-owed ranks (opening (bench_shape ranks rounds)) ran.state journal rank is.opens is.are ran.leads in
    let before = opening-owed (bench_shape ranks rounds) rank in
    let none = settled-owed ranks ran.state rank is.ring ran.settled.lanes in
    let posted = all-posted seed ranks rounds journal ran.state is ran.leads rank less in
    omega (arith, owed, before, none, posted)) in
    all-moves ranks (opening (bench_shape ranks rounds)) ran.state journal is.opens is.are ran.leads
    ∙ sum-constant (λ (rank : ℕ). counted_over moves rank journal) (4 * rounds) ranks each
    ∙ sym (mul_assoc ranks 4 rounds) ∙ ap (λ (n : ℕ). n * rounds) (mul_comm ranks 4)
