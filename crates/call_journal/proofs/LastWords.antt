-- The words that stand at the end of a journal in which every script ran to its end.
use Rattle.std.proofs.Common.{◌≡◌, ℕ, zero, suc, ◌+◌, ◌-◌, ◌*◌, ◌%◌, ◌^◌, ◌<◌, ◌≤◌, Bool, true, false, ◌==◌, List, [], ◌∷◌, ◌++◌, length, take, drop, Option, None, Some, Ok, refl, sym, ap, ◌∙◌, subst, arith}
use Rattle.std.specs.List.{slice_get, count_by}
use Rattle.std.proofs.Math.Nat.{mod_self, mod-eq_of_lt, mod-lt, add-mod_right}
use Rattle.std.proofs.lemmas.Bool.{eqb-true, le-leb}
use Rattle.std.proofs.lemmas.List.{append_assoc, append-nil, length-take, length-drop}
use Rattle.byteorder.specs.Endian.{little_bytes, little_from}
use Rattle.byteorder.specs.Numbers.{little_from-take, little_number-reads_back, length-bytes_low_first}
use Rattle.gaspi_types.specs.SegmentBytes.{is_within, range_of}
use Rattle.gaspi_types.specs.Segments.{bytes_in}
use Rattle.gaspi_types.specs.World.{is_caller}
use Rattle.gaspi_types.specs.declared.calls.Call.{Call}
use Rattle.gaspi_types.specs.declared.calls.Call.TheVariants as calls
use Rattle.gaspi_types.specs.declared.events.Event.{Event}
use Rattle.gaspi_types.specs.declared.events.Event.TheVariants.{Called, Joined, Take, Put}
use Rattle.gaspi_types.specs.declared.replies.Reply.{Reply}
use Rattle.gaspi_types.specs.declared.replies.Reply.TheVariants as replies
use Rattle.gaspi_types.specs.declared.shapes.CallerId.{CallerId}
use Rattle.gaspi_types.proofs.Chains.{both}
use Rattle.gaspi_model.specs.Memories.{bytes_of}
use Rattle.gaspi_model.specs.State.{opening}
use Rattle.gaspi_model.specs.Step.{step, after, recorded_calls}
use Rattle.gaspi_model.specs.declared.states.Memory.{Memory}
use Rattle.gaspi_model.specs.declared.states.State.{State}
use Rattle.gaspi_model.proofs.Changed.OwnCalls.{load-read}
use Rattle.gaspi_model.proofs.Histories.{after-first, after-both}
use Rattle.rank_script.specs.Bench.{bench_shape, bench_bytes, bench_draw, left_of, right_of, ring_call}
use Rattle.rank_script.specs.Generator.{after_draws}
use Rattle.call_journal.specs.Laws.{RanToTheEnd, draws_until}
use Rattle.call_journal.specs.Numbers.{words_until}
use Rattle.plain_machine.specs.Words.{word_in, whole_word}
use Rattle.rank_script.specs.Runs.{end_pair}
use Rattle.call_journal.proofs.Counts.{Pair, AreOfFirst, count-append}
use Rattle.call_journal.proofs.RingHistories.{AreRingEvents, ring-append, counted_over, over-append, after-ring, after-slot, after-quiet, own-resets}
use Rattle.call_journal.proofs.RingOpening.{opening-notes, opening-slot}
use Rattle.call_journal.proofs.RingState.{IsRing, second_word, word_of, value_or, value-there, posts_made}
use Rattle.call_journal.proofs.Rounds.{AreRounds, run-rounds}
use Rattle.call_journal.proofs.Sums.{sum_until, sum-same}
use Rattle.call_journal.proofs.Totals.{is_found_pair, rounds-count}
use Rattle.call_journal.proofs.Transfers.{ring-journal}

-- Where a call of a rank stands among its calls, there it stands in the journal.

pub record IsSplit (rank : ℕ) (events : List Event) (front : List Pair) (call : Call) (reply : Reply) (back : List Pair) : Type 0 where
  pub before : List Event
  pub c : CallerId
  pub behind : List Event
  pub is : events ≡ before ++ Called c call reply ∷ behind
  pub mine : c.rank ≡ rank
  pub front_is : recorded_calls rank 0 before ≡ front

none-joined : (front back : List Pair) (pair : Pair) → [] ≡ front ++ pair ∷ back → ⊥
none-joined [] back pair h = cc
none-joined (x ∷ front) back pair h = cc

later-split : (rank : ℕ) (e : Event) (events : List Event) (front : List Pair) (call : Call) (reply : Reply) (back : List Pair) (front' : List Pair)
    → ((before : List Event) → recorded_calls rank 0 before ≡ front → recorded_calls rank 0 (e ∷ before) ≡ front') → IsSplit rank events front call reply back → IsSplit rank (e ∷ events) front' call reply back
later-split rank e events front call reply back front' more s = record {
  before = e ∷ s.before;
  c = s.c;
  behind = s.behind;
  is = ap (λ (xs : List Event). e ∷ xs) s.is;
  mine = s.mine;
  front_is = more s.before s.front_is;
}

pub own-split : (rank : ℕ) (events : List Event) (front : List Pair) (call : Call) (reply : Reply) (back : List Pair) → recorded_calls rank 0 events ≡ front ++ (call, reply) ∷ back
    → IsSplit rank events front call reply back
own-split rank [] front call reply back h = absurd (none-joined front back (call, reply) h)
own-split rank (Joined c id args ∷ events) front call reply back h = later-split rank (Joined c id args) events front call reply back front (λ before is. is) (own-split rank events front call reply back h)
own-split rank (Take origin queue target number outcome ∷ events) front call reply back h =
    later-split rank (Take origin queue target number outcome) events front call reply back front (λ before is. is) (own-split rank events front call reply back h)
own-split rank (Put origin queue target number outcome ∷ events) front call reply back h =
    later-split rank (Put origin queue target number outcome) events front call reply back front (λ before is. is) (own-split rank events front call reply back h)
own-split rank (Called c made answer ∷ events) front call reply back h =
    go (is_caller rank 0 c) refl (λ front' h'. own-split rank events front' call reply back h')
  where
    mine : (front : List Pair) → is_caller rank 0 c ≡ true → (made, answer) ∷ recorded_calls rank 0 events ≡ front ++ (call, reply) ∷ back
        → ((front' : List Pair) → recorded_calls rank 0 events ≡ front' ++ (call, reply) ∷ back → IsSplit rank events front' call reply back) → IsSplit rank (Called c made answer ∷ events) front call reply back
    mine [] is h rest =
        let pair : ◌≡◌ {A = Pair} (made, answer) (call, reply) = cc in
        record {
          before = [];
          c = c;
          behind = events;
          is = ap (λ (p : Pair). Called c p.0 p.1 ∷ events) pair;
          mine = eqb-true c.rank rank (both (c.rank == rank) (c.thread == 0) is).0;
          front_is = refl;
        }
    mine (x ∷ front) is h rest =
        let pair : ◌≡◌ {A = Pair} (made, answer) x = cc in
        let tail : recorded_calls rank 0 events ≡ front ++ (call, reply) ∷ back = cc in
        later-split rank (Called c made answer) events front call reply back (x ∷ front)
        (λ before there. rw is (ap (λ (xs : List Pair). (made, answer) ∷ xs) there ∙ ap (λ (p : Pair). p ∷ front) pair)) (rest front tail)

    go : (b : Bool) → is_caller rank 0 c ≡ b
        → ((front' : List Pair) → recorded_calls rank 0 events ≡ front' ++ (call, reply) ∷ back → IsSplit rank events front' call reply back) → IsSplit rank (Called c made answer ∷ events) front call reply back
    go true is rest = mine front is (rw is at h) rest
    go false is rest = later-split rank (Called c made answer) events front call reply back front (λ before there. rw is there) (rest front (rw is at h))

pub first-append : (ranks : ℕ) (a b : List Event) → AreOfFirst ranks (a ++ b) → AreOfFirst ranks a
first-append ranks [] b are = tt
first-append ranks (e ∷ a) b are = (are.0, first-append ranks a b are.1)

-- The left neighbour of a rank.

left-of-zero : (m : ℕ) → left_of (suc m) 0 ≡ m
left-of-zero m = (let same : 0 + suc m - 1 ≡ m = omega arith in rw same (mod-eq_of_lt (let less : m < suc m = omega arith in less)))

left-of-suc : (ranks k : ℕ) → k < ranks → left_of ranks (suc k) ≡ k
left-of-suc ranks k less = (let same : suc k + ranks - 1 ≡ k + ranks = omega arith in rw same (add-mod_right k ranks ∙ mod-eq_of_lt less))

record IsLeft (ranks rank : ℕ) : Type 0 where
  within : left_of ranks rank < ranks
  back : rank ≡ right_of ranks (left_of ranks rank)

left-is : (ranks rank : ℕ) → rank < ranks → IsLeft ranks rank
left-is zero rank less = absurd (let no : ⊥ = omega arith in no)
left-is (suc m) zero less =
    let is = left-of-zero m in
    let whole : m + 1 ≡ suc m = omega arith in
    record {
      within = omega (arith, is);
      back = sym (ap (right_of (suc m)) is ∙ ap (λ (n : ℕ). n % suc m) whole ∙ mod_self (suc m));
    }
left-is (suc m) (suc k) less =
    let is = left-of-suc (suc m) k (omega arith) in
    let next : k + 1 ≡ suc k = omega arith in
    record {
      within = omega (arith, is);
      back = sym (ap (right_of (suc m)) is ∙ ap (λ (n : ℕ). n % suc m) next ∙ mod-eq_of_lt less);
    }

-- the left neighbours of all ranks are all ranks
pub left-sum : (f : ℕ → ℕ) (ranks : ℕ) → sum_until (λ (rank : ℕ). f (left_of ranks rank)) ranks ≡ sum_until f ranks
left-sum f zero = refl
left-sum f (suc m) =
    let first = sum-first (λ (rank : ℕ). f (left_of (suc m) rank)) m in
    let rest = sum-same (λ (k : ℕ). f (left_of (suc m) (suc k))) f m (λ k less. ap f (left-of-suc (suc m) k (omega arith))) in
    let here : f (left_of (suc m) 0) ≡ f m = ap f (left-of-zero m) in
    omega (arith, first, rest, here)
  where
    sum-first : (g : ℕ → ℕ) (n : ℕ) → sum_until g (suc n) ≡ g 0 + sum_until (λ (k : ℕ). g (suc k)) n
    sum-first g zero = omega arith
    sum-first g (suc n) = (let more = sum-first g n in omega (arith, more))

-- The word of a rank.

-- the pairs of a rank in a round up to its load
abbrev front_pairs : ℕ → ℕ → List ℕ → Reply → Reply → Reply → List Pair
front_pairs ranks rank bytes stored posted waited =
    (calls.Store (record { seg = 0; offset = 0; bytes = bytes }), stored)
    ∷ (ring_call (right_of ranks rank), posted)
    ∷ (calls.Wait (record { queue = 0 }), waited)
    ∷ (calls.Waitsome (record { seg = 0; begin = 0; num = 1 }), replies.Id 0)
    ∷ (calls.Reset (record { seg = 0; note = 0 }), replies.Value 1) ∷ []

-- the last load of a rank, and what it has reset before
record HasLastLoad (ranks rank rounds : ℕ) (bytes : ℕ → ℕ → List ℕ) (pairs : List Pair) : Type 0 where
  front : List Pair
  back : List Pair
  are : pairs ≡ front ++ (calls.Load (record { seg = 0; offset = 8; size = 8 }), replies.Bytes (bytes (rounds - 1) (left_of ranks rank))) ∷ back
  reset : count_by is_found_pair front ≡ rounds

last-load : (ranks rank rounds : ℕ) (bytes : ℕ → ℕ → List ℕ) (pairs front : List Pair) → 1 ≤ rounds → pairs ≡ front ++ end_pair → AreRounds ranks rank bytes rounds front → HasLastLoad ranks rank rounds bytes pairs
last-load ranks rank zero bytes pairs front some is are = absurd (let no : ⊥ = omega arith in no)
last-load ranks rank (suc round) bytes pairs front some is are =
    let five = front_pairs ranks rank (bytes round rank) are.1 are.2 are.3 in
    let load : Pair = (calls.Load (record { seg = 0; offset = 8; size = 8 }), replies.Bytes (bytes round (left_of ranks rank))) in
    let met : Pair = (calls.Barrier (record { group = 0 }), are.4) in
    let count = rounds-count ranks rank bytes is_found_pair 1 round are.0 (λ mine loaded stored posted waited met. refl) are.5 in
    let sum = count-append is_found_pair are.0 five in
    let last : suc round - 1 ≡ round = omega arith in
    record {
      front = are.0 ++ five;
      back = met ∷ end_pair;
      are = is ∙ ap (λ (xs : List Pair). xs ++ end_pair) are.6
          ∙ append_assoc are.0 (five ++ load ∷ met ∷ []) end_pair
          ∙ sym (append_assoc are.0 five (load ∷ met ∷ end_pair))
          ∙ ap (λ (k : ℕ). (are.0 ++ five) ++ (calls.Load (record { seg = 0; offset = 8; size = 8 }), replies.Bytes (bytes k (left_of ranks rank))) ∷ met ∷ end_pair) (sym last);
      reset = omega (arith, count, sum);
    }

-- what a load of the second eight bytes answers
loaded-word : (s t : State) (ranks : ℕ) (c : CallerId) (bytes : List ℕ) → IsRing ranks s → step s (Called c (calls.Load (record { seg = 0; offset = 8; size = 8 })) (replies.Bytes bytes)) ≡ Ok t
    → second_word s c.rank ≡ bytes
loaded-word s t ranks c bytes ring h =
    let read = (load-read s t c (record { seg = 0; offset = 8; size = 8 }) bytes ring.sound h).0 in
    let there : bytes_of read.memory 0 ≡ read.item.bytes = ap bytes_in read.item_there in
    value-there [] word_of s.memories c.rank read.memory read.memory_there ∙ ap (λ (xs : List ℕ). range_of xs 8 8) there ∙ sym read.answers

pub last-word : (seed ranks rounds : ℕ) (journal : List Event) (ran : RanToTheEnd seed ranks rounds journal) (rank : ℕ) → rank < ranks
    → second_word ran.state rank ≡ bench_bytes seed ranks (rounds - 1) (left_of ranks rank)
last-word seed ranks rounds journal ran rank less =
    let run = run-rounds seed ranks rounds rank rounds (recorded_calls rank 0 journal) (ran.runs rank less) in
    let last = last-load ranks rank rounds (bench_bytes seed ranks) (recorded_calls rank 0 journal) run.0 ran.some_rounds run.1 run.2 in
    let bytes = bench_bytes seed ranks (rounds - 1) (left_of ranks rank) in
    let s = own-split rank journal last.front (calls.Load (record { seg = 0; offset = 8; size = 8 })) (replies.Bytes bytes) last.back last.are in
    let rest = Called s.c (calls.Load (record { seg = 0; offset = 8; size = 8 })) (replies.Bytes bytes) ∷ s.behind in
    by-parts s.before rest s.c s.behind refl s.is s.mine (ap (count_by is_found_pair) s.front_is ∙ last.reset)
  where
    by-parts : (before rest : List Event) (c : CallerId) (behind : List Event)
        → rest ≡ Called c (calls.Load (record { seg = 0; offset = 8; size = 8 })) (replies.Bytes (bench_bytes seed ranks (rounds - 1) (left_of ranks rank))) ∷ behind
        → journal ≡ before ++ rest → c.rank ≡ rank → count_by is_found_pair (recorded_calls rank 0 before) ≡ rounds
        → second_word ran.state rank ≡ bench_bytes seed ranks (rounds - 1) (left_of ranks rank)
    by-parts before rest c behind rest_is is mine reset =
        let j = ring-journal seed ranks rounds journal ran in
        let start = opening (bench_shape ranks rounds) in
        let left = left-is ranks rank less in
        let both_parts = after-both start ran.state before rest (subst (λ (xs : List Event). after start xs ≡ Ok ran.state) is ran.leads) in
        let s = both_parts.0 in
        let are = ring-append ranks before rest (subst (AreRingEvents ranks) is j.are) in
        let first = first-append ranks before rest (subst (AreOfFirst ranks) is j.first) in
        let ring = after-ring ranks start s before j.opens are.0 both_parts.1 in
        let loads = after-first s ran.state (Called c (calls.Load (record { seg = 0; offset = 8; size = 8 })) (replies.Bytes (bench_bytes seed ranks (rounds - 1) (left_of ranks rank)))) behind
        (subst (λ (xs : List Event). after s xs ≡ Ok ran.state) rest_is both_parts.2) in
        let word : second_word s rank ≡ bench_bytes seed ranks (rounds - 1) (left_of ranks rank) =
        subst (λ (k : ℕ). second_word s k ≡ bench_bytes seed ranks (rounds - 1) (left_of ranks rank)) mine
        (loaded-word s loads.0 ranks c (bench_bytes seed ranks (rounds - 1) (left_of ranks rank)) ring loads.1) in
        let slot = after-slot ranks start s before (left_of ranks rank) rank left.within left.back j.opens are.0 both_parts.1 in
        let no_slot = opening-slot (bench_shape ranks rounds) rank in
        let no_notes = opening-notes (bench_shape ranks rounds) (left_of ranks rank) in
        let own = own-resets rank ranks before first in
        let few = j.posts (left_of ranks rank) left.within in
        let all : counted_over posts_made (left_of ranks rank) journal ≡ counted_over posts_made (left_of ranks rank) before + counted_over posts_made (left_of ranks rank) rest =
        ap (counted_over posts_made (left_of ranks rank)) is ∙ over-append posts_made (left_of ranks rank) before rest in
        after-quiet ranks s ran.state rest (left_of ranks rank) rank left.within left.back ring are.1 both_parts.2
        (omega (arith, slot, no_slot, no_notes, own, reset, few, all))
        (omega (arith, slot, no_slot, no_notes, own, reset, few, all))
        ∙ word

-- The number in these bytes.

draw-few : (seed n : ℕ) → after_draws seed (n + 1) < 4294967296
draw-few seed n = (let next : n + 1 ≡ suc n = omega arith in subst (λ (k : ℕ). after_draws seed k < 4294967296) (sym next) (mod-lt (69069 * after_draws seed n + 1) (omega arith)))

-- eight bytes that are those of a number
read-word : (bytes : List ℕ) (x : ℕ) → x < 256 ^ 8 → range_of bytes 8 8 ≡ little_bytes 8 x → whole_word bytes 8 ≡ Some x
read-word bytes x few is =
    let eight : length (take 8 (drop 8 bytes)) ≡ 8 = ap length is ∙ length-bytes_low_first 0 8 x in
    let long : 8 + 8 ≤ length bytes = long-enough bytes eight in
    let within : is_within 8 8 (length bytes) ≡ true = le-leb (8 + 8) (length bytes) long in
    let number : little_from 0 8 (drop 8 bytes) ≡ x =
    sym (little_from-take 0 8 8 (drop 8 bytes) (omega arith)) ∙ ap (little_from 0 8) (is ∙ sym (append-nil (little_bytes 8 x))) ∙ little_number-reads_back 8 x [] few in
    rw within (ap (λ (n : ℕ). Some n) number)
  where
    long-enough : (bytes : List ℕ) → length (take 8 (drop 8 bytes)) ≡ 8 → 8 + 8 ≤ length bytes
    long-enough bytes eight = (let a = length-take 8 (drop 8 bytes) in let b = length-drop 8 bytes in omega (arith, a, b, eight))

pub word-is : (seed ranks rounds : ℕ) (journal : List Event) (ran : RanToTheEnd seed ranks rounds journal) (rank : ℕ) → rank < ranks
    → word_in ran.state rank 0 8 ≡ Some (bench_draw seed ranks (rounds - 1) (left_of ranks rank))
word-is seed ranks rounds journal ran rank less = go (slice_get ran.state.memories rank) refl (last-word seed ranks rounds journal ran rank less)
  where
    go : (o : Option Memory) → slice_get ran.state.memories rank ≡ o → value_or [] word_of (slice_get ran.state.memories rank) ≡ bench_bytes seed ranks (rounds - 1) (left_of ranks rank)
        → word_in ran.state rank 0 8 ≡ Some (bench_draw seed ranks (rounds - 1) (left_of ranks rank))
    go None at is = absurd (let eight = ap length (rw at at is) ∙ length-bytes_low_first 0 8 (bench_draw seed ranks (rounds - 1) (left_of ranks rank)) in let no : ⊥ = omega (arith, eight) in no)
    go (Some memory) at is =
        let few = draw-few seed ((rounds - 1) * ranks + left_of ranks rank) in
        rw at (read-word (bytes_of memory 0) (bench_draw seed ranks (rounds - 1) (left_of ranks rank)) (omega (arith, few)) (rw at at is))

words-sum : (s : State) (f : ℕ → ℕ) (ranks : ℕ) → ((rank : ℕ) → rank < ranks → word_in s rank 0 8 ≡ Some (f rank)) → words_until s ranks ≡ sum_until f ranks
words-sum s f zero words = refl
words-sum s f (suc rank) words =
    let here = words rank (omega arith) in
    let rest = words-sum s f rank (λ k less. words k (omega arith)) in
    rw here (ap (λ (n : ℕ). n + f rank) rest)

draws-sum : (seed ranks round count : ℕ) → draws_until seed ranks round count ≡ sum_until (bench_draw seed ranks round) count
draws-sum seed ranks round zero = refl
draws-sum seed ranks round (suc rank) = ap (λ (n : ℕ). n + bench_draw seed ranks round rank) (draws-sum seed ranks round rank)

pub words-are : (seed ranks rounds : ℕ) (journal : List Event) (ran : RanToTheEnd seed ranks rounds journal) → words_until ran.state ranks ≡ draws_until seed ranks (rounds - 1) ranks
words-are seed ranks rounds journal ran =
    words-sum ran.state (λ (rank : ℕ). bench_draw seed ranks (rounds - 1) (left_of ranks rank)) ranks (word-is seed ranks rounds journal ran)
    ∙ left-sum (bench_draw seed ranks (rounds - 1)) ranks
    ∙ sym (draws-sum seed ranks (rounds - 1) ranks)
