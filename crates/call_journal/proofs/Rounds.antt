-- The calls of a run of `bench` that ended, with their replies, round by round.
use Rattle.std.proofs.Common.{◌≡◌, ℕ, zero, suc, ◌+◌, ◌*◌, Bool, true, false, ◌&&◌, not, nat_lt, List, [], ◌∷◌, ◌++◌, None, Some, MatchBool, inl, inr, refl, sym, ap, ◌∙◌}
use Rattle.gaspi_types.specs.Replies.{same_reply}
use Rattle.gaspi_types.specs.declared.calls.Call.{Call}
use Rattle.gaspi_types.specs.declared.calls.Call.TheVariants as calls
use Rattle.gaspi_types.specs.declared.calls.Timeout.TheVariants.{Looks, Block}
use Rattle.gaspi_types.specs.declared.replies.Reply.{Reply}
use Rattle.gaspi_types.specs.declared.replies.Reply.TheVariants as replies
use Rattle.gaspi_model.proofs.Same.{same_reply-same}
use Rattle.rank_script.specs.declared.scripts.ScriptLine.{ScriptLine}
use Rattle.rank_script.specs.declared.scripts.RunOutcome.{RunOutcome}
use Rattle.rank_script.specs.declared.scripts.RunOutcome.TheVariants as outcomes
use Rattle.rank_script.specs.Runs.{IsRun, IsRunFrom, IsStopped, end_pair, is_stuck, is_retried, is_failed, is_timeout}
use Rattle.rank_script.specs.Bench.{bench_lines, bench_bytes, once_line, round_lines, ring_call, right_of, left_of, first_number}
use Rattle.call_journal.proofs.Counts.{Pair}

-- lines whose calls are made once
abbrev pub AreOnce : List ScriptLine → Type 0
AreOnce [] = Unit {0}
AreOnce (line ∷ lines) = (line.tries ≡ 1) × AreOnce lines

once-append : (a b : List ScriptLine) → AreOnce a → AreOnce b → AreOnce (a ++ b)
once-append [] b once more = more
once-append (line ∷ a) b once more = (once.0, once-append a b once.1 more)

-- each line's call with a reply that it allows
abbrev pub Fit : List ScriptLine → List Pair → Type 0
Fit [] [] = Unit {0}
Fit [] (pair ∷ pairs) = ⊥
Fit (line ∷ lines) [] = ⊥
Fit (line ∷ lines) (pair ∷ pairs) = (pair.0 ≡ line.call) × (is_failed line pair.1 ≡ false) × Fit lines pairs

never-again : (line : ScriptLine) (reply : Reply) → line.tries ≡ 1 → is_retried line 0 reply ≡ false
never-again line reply once = rw once (go (is_timeout reply))
  where
    go : (b : Bool) → (b && nat_lt (0 + 1) 1) ≡ false
    go true = refl
    go false = refl

not-stopped : {P : Type 0} (number : ℕ) → IsStopped number outcomes.Ended → P
not-stopped number (inl h) = absurd (let no : ⊥ = cc in no)
not-stopped number (inr h) = absurd (let no : ⊥ = cc in no)

-- a run of lines that ended
pub ended-run : (lines : List ScriptLine) (pairs : List Pair) → AreOnce lines → IsRunFrom 0 lines pairs outcomes.Ended → (front : List Pair) × (pairs ≡ front ++ end_pair) × Fit lines front
ended-run [] pairs once h = ([], h.0, tt)
ended-run (line ∷ lines) [] once h = absurd h
ended-run (line ∷ lines) (pair ∷ pairs) once (inl h) = not-stopped line.number h.1
ended-run (line ∷ lines) (pair ∷ pairs) once (inr h) = go (is_stuck line pair.1) (is_retried line 0 pair.1) (never-again line pair.1 once.0) (is_failed line pair.1) refl h.1 (λ rest. ended-run lines pairs once.1 rest)
  where
    go : (stuck again : Bool) → again ≡ false → (failed : Bool) → is_failed line pair.1 ≡ failed
        → MatchBool stuck ((pairs ≡ end_pair) × (outcomes.Ended ≡ outcomes.Stuck line.number))
        (MatchBool again (IsRunFrom (0 + 1) (line ∷ lines) pairs outcomes.Ended)
        (MatchBool failed ((pairs ≡ end_pair) × (outcomes.Ended ≡ outcomes.Failed line.number)) (IsRunFrom 0 lines pairs outcomes.Ended)))
        → (IsRunFrom 0 lines pairs outcomes.Ended → (front : List Pair) × (pairs ≡ front ++ end_pair) × Fit lines front)
        → (front : List Pair) × (pair ∷ pairs ≡ front ++ end_pair) × Fit (line ∷ lines) front
    go true again never failed is rest more = absurd (let end = rest.1 in let no : ⊥ = cc in no)
    go false true never failed is rest more = absurd (let no : ⊥ = cc in no)
    go false false never true is rest more = absurd (let end = rest.1 in let no : ⊥ = cc in no)
    go false false never false is rest more =
        let later = more rest in
        (pair ∷ later.0, ap (λ (xs : List Pair). pair ∷ xs) later.1, (h.0, is, later.2))

fit-append : (a b : List ScriptLine) (pairs : List Pair) → Fit (a ++ b) pairs → (p q : List Pair) × (pairs ≡ p ++ q) × Fit a p × Fit b q
fit-append [] b pairs fit = ([], pairs, refl, tt, fit)
fit-append (line ∷ a) b [] fit = absurd fit
fit-append (line ∷ a) b (pair ∷ pairs) fit =
    let rest = fit-append a b pairs fit.2 in
    (pair ∷ rest.0, rest.1, ap (λ (xs : List Pair). pair ∷ xs) rest.2, (fit.0, fit.1, rest.3), rest.4)

-- The pairs of a rank in a round, with the bytes that it stores and that it loads; four of the replies are not said.
abbrev pub round_pairs : ℕ → ℕ → List ℕ → List ℕ → Reply → Reply → Reply → Reply → List Pair
round_pairs ranks rank bytes loaded stored posted waited met =
    (calls.Store (record { seg = 0; offset = 0; bytes = bytes }), stored)
    ∷ (ring_call (right_of ranks rank), posted)
    ∷ (calls.Wait (record { queue = 0 }), waited)
    ∷ (calls.Waitsome (record { seg = 0; begin = 0; num = 1 }), replies.Id 0)
    ∷ (calls.Reset (record { seg = 0; note = 0 }), replies.Value 1)
    ∷ (calls.Load (record { seg = 0; offset = 8; size = 8 }), replies.Bytes loaded)
    ∷ (calls.Barrier (record { group = 0 }), met) ∷ []

-- the pairs of a rank in so many rounds, where those bytes are sent in a round by a rank
abbrev pub AreRounds : ℕ → ℕ → (ℕ → ℕ → List ℕ) → ℕ → List Pair → Type 0
AreRounds ranks rank bytes zero pairs = pairs ≡ []
AreRounds ranks rank bytes (suc round) pairs =
    (before : List Pair) × (stored posted waited met : Reply) × AreRounds ranks rank bytes round before
    × (pairs ≡ before ++ round_pairs ranks rank (bytes round rank) (bytes round (left_of ranks rank)) stored posted waited met)

expected-same : (line : ScriptLine) (reply expected : Reply) → line.expected ≡ Some expected → is_failed line reply ≡ false → reply ≡ expected
expected-same line reply expected is fine = same_reply-same reply expected (go (same_reply reply expected) (rw is at fine))
  where
    go : (b : Bool) → not b ≡ false → b ≡ true
    go true h = refl
    go false h = absurd (let no : ⊥ = cc in no)

same-pair : (pair : Pair) (call : Call) (reply : Reply) → pair.0 ≡ call → pair.1 ≡ reply → pair ≡ (call, reply)
same-pair pair call reply a b = rw (sym a, sym b) refl

-- the first pair that fits
record FitsFirst (line : ScriptLine) (lines : List ScriptLine) (pairs : List Pair) : Type 0 where
  reply : Reply
  rest : List Pair
  is : pairs ≡ (line.call, reply) ∷ rest
  fine : is_failed line reply ≡ false
  later : Fit lines rest

fit-first : (line : ScriptLine) (lines : List ScriptLine) (pairs : List Pair) → Fit (line ∷ lines) pairs → FitsFirst line lines pairs
fit-first line lines [] fit = absurd fit
fit-first line lines (pair ∷ pairs) fit = record {
  reply = pair.1;
  rest = pairs;
  is = ap (λ (p : Pair). p ∷ pairs) (same-pair pair line.call pair.1 fit.0 refl);
  fine = fit.1;
  later = fit.2;
}

fit-none : (pairs : List Pair) → Fit [] pairs → pairs ≡ []
fit-none [] fit = refl
fit-none (pair ∷ pairs) fit = absurd fit

-- the pairs that fit seven lines
record FitSeven (a b c d e f g : ScriptLine) (pairs : List Pair) : Type 0 where
  first : Reply
  second : Reply
  third : Reply
  fourth : Reply
  fifth : Reply
  sixth : Reply
  seventh : Reply
  are : pairs ≡ (a.call, first) ∷ (b.call, second) ∷ (c.call, third) ∷ (d.call, fourth) ∷ (e.call, fifth) ∷ (f.call, sixth) ∷ (g.call, seventh) ∷ []
  fourth_fine : is_failed d fourth ≡ false
  fifth_fine : is_failed e fifth ≡ false
  sixth_fine : is_failed f sixth ≡ false

-- a first pair, and what the rest are
joined : (pairs rest later : List Pair) (pair : Pair) → pairs ≡ pair ∷ rest → rest ≡ later → pairs ≡ pair ∷ later
joined pairs rest later pair is more = is ∙ ap (λ (xs : List Pair). pair ∷ xs) more

fit-seven : (a b c d e f g : ScriptLine) (pairs : List Pair) → Fit (a ∷ b ∷ c ∷ d ∷ e ∷ f ∷ g ∷ []) pairs → FitSeven a b c d e f g pairs
fit-seven a b c d e f g pairs fit =
    let p = fit-first a (b ∷ c ∷ d ∷ e ∷ f ∷ g ∷ []) pairs fit in
    let q = fit-first b (c ∷ d ∷ e ∷ f ∷ g ∷ []) p.rest p.later in
    let r = fit-first c (d ∷ e ∷ f ∷ g ∷ []) q.rest q.later in
    let s = fit-first d (e ∷ f ∷ g ∷ []) r.rest r.later in
    let t = fit-first e (f ∷ g ∷ []) s.rest s.later in
    let u = fit-first f (g ∷ []) t.rest t.later in
    let v = fit-first g [] u.rest u.later in
    let end = fit-none v.rest v.later in
    let one : List Pair = (g.call, v.reply) ∷ [] in
    let two : List Pair = (f.call, u.reply) ∷ one in
    let three : List Pair = (e.call, t.reply) ∷ two in
    let four : List Pair = (d.call, s.reply) ∷ three in
    let five : List Pair = (c.call, r.reply) ∷ four in
    let six : List Pair = (b.call, q.reply) ∷ five in
    record {
      first = p.reply;
      second = q.reply;
      third = r.reply;
      fourth = s.reply;
      fifth = t.reply;
      sixth = u.reply;
      seventh = v.reply;
      are = joined pairs p.rest six (a.call, p.reply) p.is (joined p.rest q.rest five (b.call, q.reply) q.is (joined q.rest r.rest four (c.call, r.reply) r.is
          (joined r.rest s.rest three (d.call, s.reply) s.is (joined s.rest t.rest two (e.call, t.reply) t.is (joined t.rest u.rest one (f.call, u.reply) u.is
          (joined u.rest v.rest [] (g.call, v.reply) v.is end))))));
      fourth_fine = s.fine;
      fifth_fine = t.fine;
      sixth_fine = u.fine;
    }

-- the pairs that fit the lines of a round
pub fit-round : (seed ranks rounds rank round : ℕ) (pairs : List Pair) → Fit (round_lines seed ranks rounds rank round) pairs
    → (stored posted waited met : Reply) × (pairs ≡ round_pairs ranks rank (bench_bytes seed ranks round rank) (bench_bytes seed ranks round (left_of ranks rank)) stored posted waited met)
fit-round seed ranks rounds rank round pairs fit =
    let number = first_number ranks rounds rank + 7 * round in
    let loaded = bench_bytes seed ranks round (left_of ranks rank) in
    let four = once_line (number + 3) (calls.Waitsome (record { seg = 0; begin = 0; num = 1 })) Block (Some (replies.Id 0)) in
    let five = once_line (number + 4) (calls.Reset (record { seg = 0; note = 0 })) (Looks 1) (Some (replies.Value 1)) in
    let six = once_line (number + 5) (calls.Load (record { seg = 0; offset = 8; size = 8 })) (Looks 1) (Some (replies.Bytes loaded)) in
    let p = fit-seven
    (once_line number (calls.Store (record { seg = 0; offset = 0; bytes = bench_bytes seed ranks round rank })) (Looks 1) None)
    (once_line (number + 1) (ring_call (right_of ranks rank)) (Looks 1) None)
    (once_line (number + 2) (calls.Wait (record { queue = 0 })) Block None)
    four
    five
    six
    (once_line (number + 6) (calls.Barrier (record { group = 0 })) Block None)
    pairs fit in
    let id = expected-same four p.fourth (replies.Id 0) refl p.fourth_fine in
    let value = expected-same five p.fifth (replies.Value 1) refl p.fifth_fine in
    let bytes = expected-same six p.sixth (replies.Bytes loaded) refl p.sixth_fine in
    (p.first, p.second, p.third, p.seventh, p.are ∙ rw (id, value, bytes) refl)

-- The lines of `bench`.

lines-once : (seed ranks rounds rank count : ℕ) → AreOnce (bench_lines seed ranks rounds rank count)
lines-once seed ranks rounds rank zero = tt
lines-once seed ranks rounds rank (suc count) =
    once-append (bench_lines seed ranks rounds rank count) (round_lines seed ranks rounds rank count)
    (lines-once seed ranks rounds rank count) (refl, (refl, (refl, (refl, (refl, (refl, (refl, tt)))))))

lines-fit : (seed ranks rounds rank count : ℕ) (pairs : List Pair) → Fit (bench_lines seed ranks rounds rank count) pairs → AreRounds ranks rank (bench_bytes seed ranks) count pairs
lines-fit seed ranks rounds rank zero pairs fit = fit-none pairs fit
lines-fit seed ranks rounds rank (suc count) pairs fit =
    let parts = fit-append (bench_lines seed ranks rounds rank count) (round_lines seed ranks rounds rank count) pairs fit in
    let last = fit-round seed ranks rounds rank count parts.1 parts.4 in
    (parts.0, last.0, last.1, last.2, last.3, lines-fit seed ranks rounds rank count parts.0 parts.3, parts.2 ∙ ap (λ (xs : List Pair). parts.0 ++ xs) last.4)

-- the pairs of a run that ended
pub run-rounds : (seed ranks rounds rank count : ℕ) (pairs : List Pair) → IsRun (bench_lines seed ranks rounds rank count) pairs outcomes.Ended
    → (front : List Pair) × (pairs ≡ front ++ end_pair) × AreRounds ranks rank (bench_bytes seed ranks) count front
run-rounds seed ranks rounds rank count pairs run =
    let ended = ended-run (bench_lines seed ranks rounds rank count) pairs (lines-once seed ranks rounds rank count) run in
    (ended.0, ended.1, lines-fit seed ranks rounds rank count ended.0 ended.2)
