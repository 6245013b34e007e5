-- The lines that a run comes to are those of its script.
use Rattle.std.proofs.Common.{◌≡◌, ℕ, suc, ◌+◌, Bool, true, false, List, [], ◌∷◌, Some, refl, sym, ap, if◌then◌else◌}
use Rattle.std.specs.List.{slice_get}
use Rattle.gaspi_types.specs.CallRows.{need_of, is_end}
use Rattle.gaspi_types.specs.declared.calls.Call.{Call}
use Rattle.gaspi_types.specs.declared.calls.Call.TheVariants.{End}
use Rattle.gaspi_types.specs.declared.replies.Reply.{Reply}
use Rattle.rank_script.specs.Runs.{RunPosition, AtLine, RunEnded, at_first_line, advanced, is_stuck, is_retried, is_failed, Follows}
use Rattle.rank_script.specs.declared.scripts.RunOutcome.TheVariants as outcomes
use Rattle.rank_script.specs.declared.scripts.ScriptLine.{ScriptLine}

module _ (all : List ScriptLine) where
  abbrev AreIn : List ScriptLine → Type 0
  AreIn lines = (k : ℕ) (line : ScriptLine) → slice_get lines k ≡ Some line → (place : ℕ) × (slice_get all place ≡ Some line)

  abbrev IsIn : RunPosition → Type 0
  IsIn (RunEnded outcome) = Unit {0}
  IsIn (AtLine line made lines) = AreIn (line ∷ lines)

  begins-in : (lines : List ScriptLine) → AreIn lines → IsIn (at_first_line lines)
  begins-in [] are = tt
  begins-in (line ∷ lines) are = are

  goes-in : (line : ScriptLine) (made : ℕ) (lines : List ScriptLine) (reply : Reply) → AreIn (line ∷ lines) → IsIn (advanced (AtLine line made lines) reply)
  goes-in line made lines reply are = go (is_stuck line reply) (is_retried line made reply) (is_failed line reply)
    where
      go : (stuck again failed : Bool) → IsIn (if stuck then RunEnded (outcomes.Stuck line.number) else (if again then AtLine line (made + 1) lines else (if failed then RunEnded (outcomes.Failed line.number) else at_first_line lines)))
      go true again failed = tt
      go false true failed = are
      go false false true = tt
      go false false false = begins-in lines (λ k next at. are (suc k) next at)

  comes-in : (p : RunPosition) (pairs : List (Call × Reply)) (line : ScriptLine) (made : ℕ) (later : List ScriptLine) → IsIn p → Follows p pairs (AtLine line made later) → (place : ℕ) × (slice_get all place ≡ Some line)
  comes-in (RunEnded outcome) [] line made later is follows = absurd (let never : ⊥ = cc in never)
  comes-in (AtLine first had lines) [] line made later is follows = is 0 line (let same : line ≡ first = cc in ap (λ (l : ScriptLine). Some l) (sym same))
  comes-in (RunEnded outcome) (pair ∷ pairs) line made later is follows = absurd follows
  comes-in (AtLine first had lines) (pair ∷ pairs) line made later is follows = comes-in (advanced (AtLine first had lines) pair.1) pairs line made later (goes-in first had lines pair.1 is) follows.1

-- a line that a run of a script comes to stands there
pub line-there : (lines : List ScriptLine) (pairs : List (Call × Reply)) (line : ScriptLine) (made : ℕ) (later : List ScriptLine) → Follows (at_first_line lines) pairs (AtLine line made later) → (place : ℕ) × (slice_get lines place ≡ Some line)
line-there lines pairs line made later follows = comes-in lines (at_first_line lines) pairs line made later (begins-in lines lines (λ k l at. (k, at))) follows

-- a call that is no end needs the same room of a caller that has ended
end-is : (call : Call) → is_end call ≡ true → call ≡ End
end-is End is = refl
end-is other is = absurd (let never : ⊥ = cc in never)

pub need-plain : (call : Call) (pending one other : Bool) → (call ≡ End → ⊥) → need_of call pending one ≡ need_of call pending other
need-plain call pending one other plain = go (is_end call) refl
  where
    go : (b : Bool) → is_end call ≡ b → need_of call pending one ≡ need_of call pending other
    go true ends = absurd (plain (end-is call ends))
    go false is = rw is refl
