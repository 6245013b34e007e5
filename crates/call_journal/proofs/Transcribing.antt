-- A transcript told call by call.
use Rattle.std.proofs.Common.{◌≡◌, ℕ, zero, suc, ◌≤◌, length, List, [], ◌∷◌, ◌++◌, Result, Ok, Err, OnOk, refl, sym, ap, ◌∙◌, arith}
use Rattle.std.proofs.Math.ListN.{drop}
use Rattle.gaspi_types.specs.declared.shapes.CallerId.{CallerId}
use Rattle.rank_script.specs.declared.scripts.RunOutcome.{RunOutcome}
use Rattle.call_journal.specs.OwnCalls.{pairs_of}
use Rattle.call_journal.specs.ScriptRuns.{told_text}
use Rattle.call_journal.specs.Transcripts.{outcome_line}
use Rattle.call_journal.specs.declared.own_calls.RecordedCall.{RecordedCall}

-- what is told, with what the lines and the calls behind will tell, is all that is to be told
abbrev pub HasTold : CallerId → RunOutcome → List ℕ → List ℕ → List RecordedCall → List ℕ → List ℕ → ℕ → Type 0
HasTold c outcome all lines calls old text done = text ++ told_text c lines outcome (pairs_of (drop done calls)) ≡ old ++ told_text c all outcome (pairs_of calls)

drop-all : {A : Type 0} (xs : List A) (i : ℕ) → length xs ≤ i → drop i xs ≡ []
drop-all {A} [] zero h = refl
drop-all {A} [] (suc i) h = refl
drop-all {A} (x ∷ xs) zero h = absurd (omega arith)
drop-all {A} (x ∷ xs) (suc i) h = drop-all xs i (omega arith)

-- where no call is left, it tells how the run ended
no-call : (c : CallerId) (outcome : RunOutcome) (lines : List ℕ) → told_text c lines outcome [] ≡ outcome_line c outcome
no-call c outcome [] = refl
no-call c outcome (line ∷ lines) = refl

pub answered-all : (c : CallerId) (outcome : RunOutcome) (all lines : List ℕ) (calls : List RecordedCall) (old text : List ℕ) (done : ℕ)
    → length calls ≤ done → HasTold c outcome all lines calls old text done → text ++ outcome_line c outcome ≡ old ++ told_text c all outcome (pairs_of calls)
answered-all c outcome all lines calls old text done over told =
    ap (λ (more : List ℕ). text ++ more) (sym (no-call c outcome lines))
    ∙ ap (λ (left : List RecordedCall). text ++ told_text c lines outcome (pairs_of left)) (sym (drop-all calls done over)) ∙ told

pub on-ok : {A E P Q : Type 0} (r : Result A E) → (P → Q) → OnOk r P → OnOk r Q
on-ok {A} {E} {P} {Q} (Ok x) f p = f p
on-ok {A} {E} {P} {Q} (Err e) f p = tt
