-- The ring of `bench`: what it declares, and its lines.
use Rattle.std.proofs.Common.{◌≡◌, ℕ, zero, suc, ◌+◌, ◌*◌, ◌<◌, ◌≤◌, false, List, [], ◌∷◌, Result, Ok, Err, refl, subst, ◌∙◌, arith, add-one}
use Rattle.std.specs.Prelude.{◌==◌, cond}
use Rattle.std.specs.List.{All, list_any, count_by}
use Rattle.std.proofs.lemmas.Bool.{ne_eqb, lt-ltb}
use Rattle.std.proofs.lemmas.List.Elements.{All-nil, All-append}
use Rattle.std.proofs.lemmas.List.Folds.{list_any-append}
use Rattle.std.proofs.lemmas.List.Sums.{sum_by-append}
use Rattle.gaspi_types.specs.World.{ShapeValue, is_segment, is_caller, segment_added, caller_added, Declares}
use Rattle.gaspi_types.specs.declared.shapes.CallerId.{CallerId}
use Rattle.gaspi_types.specs.declared.shapes.ShapeFault.{ShapeFault}
use Rattle.gaspi_types.specs.declared.shapes.ShapeFault.TheVariants as faults
use Rattle.rank_script.specs.Bench.{sending_lines, receiving_lines, round_lines, bench_lines, bench_segments, bench_callers, right_of, left_of, first_number, bench_bytes}
use Rattle.rank_script.specs.PlainScripts.{IsPlain, MayLook}
use Rattle.rank_script.specs.declared.scripts.ScriptLine.{ScriptLine}

-- What it declares: the next rank is not declared yet.

pub no-segment : (rank count : ℕ) → count ≤ rank → list_any (is_segment rank 0) (bench_segments count) ≡ false
no-segment rank zero below = refl
no-segment rank (suc count) below =
    let other = ne_eqb count rank (λ (e : count ≡ rank). omega arith) in
    rw list_any-append (rw (no-segment rank count (omega arith)) (rw other refl))

pub no-caller : (rank count : ℕ) → count ≤ rank → list_any (is_caller rank 0) (bench_callers count) ≡ false
no-caller rank zero below = refl
no-caller rank (suc count) below =
    let other = ne_eqb count rank (λ (e : count ≡ rank). omega arith) in
    rw list_any-append (rw (no-caller rank count (omega arith)) (rw other refl))

-- no caller of the rank is there
pub no-callers : (rank count : ℕ) → count ≤ rank → count_by (λ c. c.rank == rank) (bench_callers count) ≡ 0
no-callers rank zero below = refl
no-callers rank (suc count) below =
    let other = ne_eqb count rank (λ (e : count ≡ rank). omega arith) in
    sum_by-append (λ (c : CallerId). cond (c.rank == rank) 1 0) (bench_callers count) (record { rank = count; thread = 0 } ∷ [])
    ∙ rw (no-callers rank count (omega arith)) (rw other refl)

-- the world with the segments of one rank more, and with the callers of as many
abbrev pub with_segment : ShapeValue → ℕ → ShapeValue
with_segment w rank = record { limits = w.limits; segments = bench_segments (rank + 1); callers = w.callers }

abbrev pub with_caller : ShapeValue → ℕ → ShapeValue
with_caller w rank = record { limits = w.limits; segments = w.segments; callers = bench_callers (rank + 1) }

-- the segment of the next rank is declared
pub next-segment : (w : ShapeValue) (rank : ℕ) → rank < w.limits.ranks → w.segments ≡ bench_segments rank → segment_added w rank 0 16 ≡ Ok (with_segment w rank)
next-segment w rank there segments =
    let within = lt-ltb rank w.limits.ranks there in
    rw (add-one, within, segments) (rw (no-segment rank rank (omega arith)) refl)

-- and its caller
pub next-caller : (w : ShapeValue) (rank : ℕ) → rank < w.limits.ranks → 0 < w.limits.events → w.callers ≡ bench_callers rank → caller_added w rank 0 ≡ Ok (with_caller w rank)
next-caller w rank there room callers =
    let within = lt-ltb rank w.limits.ranks there in
    let some = lt-ltb 0 w.limits.events room in
    rw (add-one, within, callers) (rw (no-caller rank rank (omega arith)) (rw (no-callers rank rank (omega arith)) (rw some refl)))

-- A declaration that is refused where it could be made found no memory.
pub only-memory : (fault : ShapeFault) (old new made : ShapeValue) → Declares (Err fault) old new (Ok made) → fault ≡ faults.NoMemory
only-memory faults.Limit old new made h = absurd (let e = h.0 in let no : ⊥ = cc in no)
only-memory faults.Twice old new made h = absurd (let e = h.0 in let no : ⊥ = cc in no)
only-memory faults.Threads old new made h = absurd (let e = h.0 in let no : ⊥ = cc in no)
only-memory faults.NoMemory old new made h = refl

-- that of the next rank's segment
pub refused-segment : (fault : ShapeFault) (w new : ShapeValue) (rank n : ℕ) → n ≡ rank → rank < w.limits.ranks → w.segments ≡ bench_segments rank
    → Declares (Err fault) w new (segment_added w n 0 16) → fault ≡ faults.NoMemory
refused-segment fault w new rank n same there segments h =
    let made : segment_added w n 0 16 ≡ Ok (with_segment w rank) = rw same (next-segment w rank there segments) in
    only-memory fault w new (with_segment w rank) (subst (λ (made : Result ShapeValue ShapeFault). Declares (Err fault) w new made) made h)

-- that of its caller, which comes after that of the segment
pub refused-caller : (fault : ShapeFault) (w between new : ShapeValue) (rank n m : ℕ) → n ≡ rank → m ≡ rank → rank < w.limits.ranks → 0 < w.limits.events
    → w.segments ≡ bench_segments rank → w.callers ≡ bench_callers rank → segment_added w n 0 16 ≡ Ok between
    → Declares (Err fault) between new (caller_added between m 0) → fault ≡ faults.NoMemory
refused-caller fault w between new rank n m same same_too there room segments callers added h =
    let made : segment_added w n 0 16 ≡ Ok (with_segment w rank) = rw same (next-segment w rank there segments) in
    let is : between ≡ with_segment w rank = cc in
    let then : caller_added between m 0 ≡ Ok (with_caller (with_segment w rank) rank) = rw (same_too, is) (next-caller (with_segment w rank) rank there room callers) in
    only-memory fault between new (with_caller (with_segment w rank) rank) (subst (λ (made : Result ShapeValue ShapeFault). Declares (Err fault) between new made) then h)

-- Its lines.

sending-plain : (number right : ℕ) (sent : List ℕ) → All IsPlain (sending_lines number right sent)
sending-plain number right sent zero d below = λ e. cc
sending-plain number right sent (suc zero) d below = λ e. cc
sending-plain number right sent (suc (suc zero)) d below = λ e. cc
sending-plain number right sent (suc (suc (suc k))) d below = absurd (omega arith)

sending-looks : (number right : ℕ) (sent : List ℕ) → All MayLook (sending_lines number right sent)
sending-looks number right sent zero d below = refl
sending-looks number right sent (suc zero) d below = refl
sending-looks number right sent (suc (suc zero)) d below = refl
sending-looks number right sent (suc (suc (suc k))) d below = absurd (omega arith)

receiving-plain : (number : ℕ) (received : List ℕ) → All IsPlain (receiving_lines number received)
receiving-plain number received zero d below = λ e. cc
receiving-plain number received (suc zero) d below = λ e. cc
receiving-plain number received (suc (suc zero)) d below = λ e. cc
receiving-plain number received (suc (suc (suc zero))) d below = λ e. cc
receiving-plain number received (suc (suc (suc (suc k)))) d below = absurd (omega arith)

receiving-looks : (number : ℕ) (received : List ℕ) → All MayLook (receiving_lines number received)
receiving-looks number received zero d below = refl
receiving-looks number received (suc zero) d below = refl
receiving-looks number received (suc (suc zero)) d below = refl
receiving-looks number received (suc (suc (suc zero))) d below = refl
receiving-looks number received (suc (suc (suc (suc k)))) d below = absurd (omega arith)

-- what holds of the lines of each round holds of those of many
all-rounds : (P : ScriptLine → Type 0) → ((number right : ℕ) (sent : List ℕ) → All P (sending_lines number right sent)) → ((number : ℕ) (received : List ℕ) → All P (receiving_lines number received))
    → (seed ranks rounds rank count : ℕ) → All P (bench_lines seed ranks rounds rank count)
all-rounds P sending receiving seed ranks rounds rank zero = All-nil P
all-rounds P sending receiving seed ranks rounds rank (suc round) =
    let number = first_number ranks rounds rank + 7 * round in
    let sent = bench_bytes seed ranks round rank in
    let received = bench_bytes seed ranks round (left_of ranks rank) in
    All-append P (bench_lines seed ranks rounds rank round) (round_lines seed ranks rounds rank round)
    (all-rounds P sending receiving seed ranks rounds rank round)
    (All-append P (sending_lines number (right_of ranks rank) sent) (receiving_lines number received) (sending number (right_of ranks rank) sent) (receiving number received))

pub bench-plain : (seed ranks rounds rank count : ℕ) → All IsPlain (bench_lines seed ranks rounds rank count)
bench-plain = all-rounds IsPlain sending-plain receiving-plain

pub bench-looks : (seed ranks rounds rank count : ℕ) → All MayLook (bench_lines seed ranks rounds rank count)
bench-looks = all-rounds MayLook sending-looks receiving-looks
