-- The lines of a text read one after the other, up to its journal where that is looked for.
use Rattle.std.proofs.Common.{◌≡◌, ℕ, ◌+◌, ◌≤◌, Bool, true, false, ◌&&◌, nat_lt, if◌then◌else◌, List, ◌∷◌, length, Option, None, Result, Ok, Err, map, IsErr, IsErrAnd, refl, sym, ◌∙◌, ap, subst, arith}
use Rattle.std.proofs.lemmas.Bool.Decides.{nat_tests}
use Rattle.gaspi_types.specs.World.{ShapeValue}
use Rattle.call_texts.specs.Lines.{fed_lines, plain_line}
use Rattle.rank_script.specs.Lines.{input_limit}
use Rattle.rank_script.specs.WorldText.{WorldReading, TextFault, empty_reading, fault_of, after_line, read_lines, is_journal_line, ReadsInput}
use Rattle.rank_script.specs.Readings.{ReadsLine}
use Rattle.rank_script.specs.UntilJournal.{lines_until, until_text, until_from}
use Rattle.rank_script.specs.declared.scripts.Script.{Script}
use Rattle.rank_script.specs.declared.scripts.ScriptFault.{ScriptFault}
use Rattle.rank_script.specs.declared.scripts.ScriptFault.TheVariants as faults
use Rattle.rank_script.proofs.JournalLines.{journal-later}

pub not-second : (first second : Bool) → second ≡ false → (first && second) ≡ false
not-second true second is = is
not-second false second is = refl

pub not-first : (first second : Bool) → first ≡ false → (first && second) ≡ false
not-first first second is = rw is refl

-- The next line of a text, without its line feed, begins no journal, or a journal is not looked for.
pub record IsNext (journal : Bool) (rest line later plain : List ℕ) : Type 0 where
  pub first : fed_lines rest ≡ line ∷ fed_lines later
  pub is : plain ≡ plain_line line
  pub other : (journal && is_journal_line plain) ≡ false

next-other : (journal : Bool) (rest line later plain : List ℕ) → IsNext journal rest line later plain → (journal && is_journal_line (plain_line line)) ≡ false
next-other journal rest line later plain next = ap (λ (l : List ℕ). journal && is_journal_line l) (sym next.is) ∙ next.other

pub lines-later : (journal : Bool) (said : WorldReading) (number : ℕ) (rest line later plain : List ℕ) → IsNext journal rest line later plain
    → read_lines said number (map plain_line (lines_until journal (fed_lines rest))) ≡ read_lines said number (plain ∷ map plain_line (lines_until journal (fed_lines later)))
lines-later journal said number rest line later plain next =
    ap (λ (lines : List (List ℕ)). read_lines said number (map plain_line (lines_until journal lines))) next.first
    ∙ rw (next-other journal rest line later plain next) (ap (λ (l : List ℕ). read_lines said number (l ∷ map plain_line (lines_until journal (fed_lines later)))) (sym next.is))

pub place-later : (journal : Bool) (byte after number : ℕ) (rest line later plain : List ℕ) → IsNext journal rest line later plain → byte + length line ≡ after
    → until_from journal byte number (fed_lines rest) ≡ until_from journal after (number + 1) (fed_lines later)
place-later journal byte after number rest line later plain next sum =
    ap (until_from journal byte number) next.first ∙ go journal (next-other journal rest line later plain next)
  where
    go : (journal : Bool) → (journal && is_journal_line (plain_line line)) ≡ false → until_from journal byte number (line ∷ fed_lines later) ≡ until_from journal after (number + 1) (fed_lines later)
    go true other = journal-later byte after number line (fed_lines later) other sum
    go false other = refl

not-over : (limit n : ℕ) → n ≤ limit → nat_lt limit n ≡ false
not-over limit n fits = grind (arith, nat_tests)

pub within-limit : {A : Type 0} (limit n : ℕ) (long short : A) → n ≤ limit → (if nat_lt limit n then long else short) ≡ short
within-limit limit n long short fits = rw (not-over limit n fits) refl

-- a line with a fault
pub line-faulty : (fault : ScriptFault) (journal : Bool) (old new : WorldReading) (number : ℕ) (text line : List ℕ) (lines : List (List ℕ)) (place : Option (ℕ × ℕ)) → length text ≤ input_limit
    → read_lines empty_reading 1 (map plain_line (lines_until journal (fed_lines text))) ≡ read_lines old number (line ∷ lines) → ReadsLine (Err fault) old new number line
    → ReadsInput (Err fault) (until_text journal text) place
line-faulty (faults.At fault at) journal old new number text line lines place fits same h =
    within-limit input_limit (length text) _ _ fits ∙ same ∙ rw h.0 (ap (λ (n : ℕ). Err (record { number = fault; line = n })) (sym h.1))
line-faulty faults.NoMemory journal old new number text line lines place fits same h = tt

-- the fault is passed on
pub passed-on : (result : Result (ShapeValue × List Script × Option (ℕ × ℕ)) ScriptFault) (fault : ScriptFault) (text : Result WorldReading TextFault) (place : Option (ℕ × ℕ)) → IsErr result → IsErrAnd result (λ e. e ≡ fault)
    → ReadsInput (Err fault) text place → ReadsInput result text place
passed-on (Ok read) fault text place is same h = absurd (let no : ⊥ = cc in no)
passed-on (Err e) fault text place is same h = subst (λ (f : ScriptFault). ReadsInput (Err f) text place) (sym same) h

-- a line without one
pub line-read : (old new : WorldReading) (number : ℕ) (line : List ℕ) (lines : List (List ℕ)) → fault_of old line ≡ None → new ≡ after_line old number line
    → read_lines old number (line ∷ lines) ≡ read_lines new (number + 1) lines
line-read old new number line lines none is = rw (none, is) refl
