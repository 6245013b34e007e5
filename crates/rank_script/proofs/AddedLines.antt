-- A line added to the newest script.
use Rattle.std.proofs.Common.{◌≡◌, ℕ, zero, suc, ◌+◌, List, [], ◌∷◌, ◌++◌, length, Some, refl, ap, arith}
use Rattle.std.specs.List.{slice_get, slice_set}
use Rattle.rank_script.specs.WorldText.{with_line}
use Rattle.rank_script.specs.declared.scripts.Script.{Script}
use Rattle.rank_script.specs.declared.scripts.ScriptLine.{ScriptLine}

pub slice_set-with_line : (scripts : List Script) (i : ℕ) (script : Script) (line : ScriptLine) → i + 1 ≡ length scripts → slice_get scripts i ≡ Some script
    → slice_set scripts i (record { caller = script.caller; lines = script.lines ++ line ∷ [] }) ≡ with_line scripts (Some line)
slice_set-with_line [] i script line last is = absurd (omega arith)
slice_set-with_line (first ∷ []) zero script line last is =
    let same : script ≡ first = cc in
    ap (λ (s : Script). record { caller = s.caller; lines = s.lines ++ line ∷ [] } ∷ []) same
slice_set-with_line (first ∷ []) (suc i) script line last is = absurd (omega arith)
slice_set-with_line (first ∷ next ∷ scripts) zero script line last is = absurd (omega arith)
slice_set-with_line (first ∷ next ∷ scripts) (suc i) script line last is =
    ap (λ (ss : List Script). first ∷ ss) (slice_set-with_line (next ∷ scripts) i script line (omega arith) is)

pub slice_set-same : (scripts : List Script) (i : ℕ) (script : Script) → slice_get scripts i ≡ Some script → slice_set scripts i script ≡ scripts
slice_set-same [] i script is = refl
slice_set-same (first ∷ scripts) zero script is = let same : script ≡ first = cc in ap (λ (s : Script). s ∷ scripts) same
slice_set-same (first ∷ scripts) (suc i) script is = ap (λ (ss : List Script). first ∷ ss) (slice_set-same scripts i script is)
