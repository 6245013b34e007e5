-- A line with words, read.
use Rattle.std.proofs.Common.{◌≡◌, ℕ, false, ◌==◌, List, length, None, Some, Result, Ok, Err, refl, sym, ◌∙◌}
use Rattle.call_texts.specs.Words.{words_of}
use Rattle.rank_script.specs.WorldText.{WorldReading, Line, line_fields, is_comment, fault_in, fault_of, after_line, reading_after}
use Rattle.rank_script.specs.Readings.{early_fault, ReadsLine, ReadsLineFields}
use Rattle.rank_script.specs.declared.scripts.ScriptFault.{ScriptFault}
use Rattle.rank_script.specs.declared.scripts.ScriptFault.TheVariants as faults
use Rattle.rank_script.proofs.EarlyFaults.{fault_in-late, fault_in-early}

-- the line of these bytes has words, is no comment, and has these parts
pub record HasParts (bytes : List ℕ) (words : List (List ℕ)) (line : Line) : Type 0 where
  pub is : words ≡ words_of bytes
  pub comment : is_comment words ≡ false
  pub filled : (length words == 0) ≡ false
  pub parts : line ≡ line_fields words

fault_of-parts : (said : WorldReading) (bytes : List ℕ) (words : List (List ℕ)) (line : Line) → HasParts bytes words line → fault_of said bytes ≡ fault_in said bytes line
fault_of-parts said bytes words line has = rw has.parts (rw (← has.is) (rw (has.comment, has.filled) refl))

after_line-parts : (said : WorldReading) (number : ℕ) (bytes : List ℕ) (words : List (List ℕ)) (line : Line) → HasParts bytes words line → after_line said number bytes ≡ reading_after said number line
after_line-parts said number bytes words line has = rw has.parts (rw (← has.is) (rw (has.comment, has.filled) refl))

pub reads-parts : (r : Result (Unit {0}) ScriptFault) (old new : WorldReading) (number : ℕ) (bytes : List ℕ) (words : List (List ℕ)) (line : Line) → HasParts bytes words line
    → None ≡ early_fault old bytes line → ReadsLineFields r old new number line → ReadsLine r old new number bytes
reads-parts (Ok done) old new number bytes words line has early h =
    (fault_of-parts old bytes words line has ∙ fault_in-late old bytes line (sym early) ∙ h.0, h.1 ∙ sym (after_line-parts old number bytes words line has))
reads-parts (Err (faults.At fault at)) old new number bytes words line has early h =
    (fault_of-parts old bytes words line has ∙ fault_in-late old bytes line (sym early) ∙ h.0, h.1)
reads-parts (Err faults.NoMemory) old new number bytes words line has early h = tt

pub early-fault : (old : WorldReading) (bytes : List ℕ) (words : List (List ℕ)) (line : Line) (fault : ℕ) → HasParts bytes words line
    → Some fault ≡ early_fault old bytes line → fault_of old bytes ≡ Some fault
early-fault old bytes words line fault has early = fault_of-parts old bytes words line has ∙ fault_in-early old bytes line fault early
