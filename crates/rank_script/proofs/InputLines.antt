-- The lines of a world text and of an input.
use Rattle.std.proofs.Common.{◌≡◌, ℕ, zero, suc, ◌+◌, ◌≤◌, nat_lt, zero-add, Bool, true, false, cond, List, [], ◌∷◌, ◌++◌, length, take, map, Option, Some, None, Result, Ok, Err, IsErr, IsErrAnd, if◌then◌else◌, refl, sym, ap, ◌∙◌, subst, arith, length-append}
use Rattle.std.specs.List.{concat}
use Rattle.std.proofs.lemmas.List.{length-take}
use Rattle.std.proofs.Math.Seq.{take-append-add}
use Rattle.std.proofs.lemmas.Bool.Decides.{nat_tests}
use Rattle.call_texts.specs.Lines.{fed_lines, plain_line}
use Rattle.call_texts.proofs.FedLines.{concat-fed_lines, fed_lines-take}
use Rattle.rank_script.specs.WorldText.{empty_reading, read_lines, world_text, is_journal_line, journal_from, journal_offset, world_text_bytes, checked_world, Reads, ReadsInput}
use Rattle.rank_script.specs.Lines.{input_limit}
use Rattle.rank_script.specs.UntilJournal.{lines_until, until_text}
use Rattle.gaspi_types.specs.World.{ShapeValue}
use Rattle.rank_script.specs.declared.scripts.Script.{Script}
use Rattle.rank_script.specs.declared.scripts.ScriptFault.{ScriptFault}
use Rattle.rank_script.specs.declared.scripts.ScriptFault.TheVariants as faults
use Rattle.rank_script.proofs.UntilJournal.{within-limit}

-- All lines are read where no journal is looked for.
lines-all : (lines : List (List ℕ)) → lines_until false lines ≡ lines
lines-all [] = refl
lines-all (line ∷ lines) = ap (λ (ls : List (List ℕ)). line ∷ ls) (lines-all lines)

pub world-until : (text : List ℕ) → until_text false text ≡ world_text text
world-until text = rw (lines-all (fed_lines text)) refl

same-fault : (fault : ScriptFault) (text : List ℕ) (place : Option (ℕ × ℕ)) → ReadsInput (Err fault) (until_text false text) place → Reads (Err fault) (world_text text)
same-fault (faults.At number line) text place h = sym (world-until text) ∙ h
same-fault faults.NoMemory text place h = tt

pub world-faulty : (result : Result (ShapeValue × List Script) ScriptFault) (fault : ScriptFault) (text : List ℕ) (place : Option (ℕ × ℕ)) → IsErr result → IsErrAnd result (λ e. e ≡ fault)
    → ReadsInput (Err fault) (until_text false text) place → Reads result (world_text text)
world-faulty (Ok read) fault text place is same h = absurd (let no : ⊥ = cc in no)
world-faulty (Err e) fault text place is same h = subst (λ (f : ScriptFault). Reads (Err f) (world_text text)) (sym same) (same-fault fault text place h)

-- The lines before a journal are the first ones.

count_until : List (List ℕ) → ℕ
count_until [] = 0
count_until (line ∷ lines) = cond (is_journal_line (plain_line line)) 0 (suc (count_until lines))

lines-spelled : (lines : List (List ℕ)) → lines_until true lines ≡ take (count_until lines) lines
unfolding count_until
lines-spelled [] = refl
lines-spelled (line ∷ lines) = go (is_journal_line (plain_line line)) (lines-spelled lines)
  where
    go : (begins : Bool) → lines_until true lines ≡ take (count_until lines) lines
        → cond begins [] (line ∷ lines_until true lines) ≡ take (cond begins 0 (suc (count_until lines))) (line ∷ lines)
    go true later = refl
    go false later = ap (λ (ls : List (List ℕ)). line ∷ ls) later

-- without a journal they are all lines
no-journal : (byte number : ℕ) (lines : List (List ℕ)) → journal_from byte number lines ≡ None → lines_until true lines ≡ lines
no-journal byte number [] none = refl
no-journal byte number (line ∷ lines) none = go (is_journal_line (plain_line line)) none (λ later. no-journal (byte + length line) (number + 1) lines later)
  where
    go : (begins : Bool) → cond begins (Some (byte, number)) (journal_from (byte + length line) (number + 1) lines) ≡ None
        → (journal_from (byte + length line) (number + 1) lines ≡ None → lines_until true lines ≡ lines)
        → cond begins [] (line ∷ lines_until true lines) ≡ line ∷ lines
    go true some later = absurd (let no : ⊥ = cc in no)
    go false none later = ap (λ (ls : List (List ℕ)). line ∷ ls) (later none)

-- the journal begins behind them
journal-behind : (byte number : ℕ) (lines : List (List ℕ)) (place : ℕ × ℕ) → journal_from byte number lines ≡ Some place → place.0 ≡ byte + length (concat (lines_until true lines))
journal-behind byte number [] place some = absurd (let no : ⊥ = cc in no)
journal-behind byte number (line ∷ lines) place some =
    go (is_journal_line (plain_line line)) some (λ later. journal-behind (byte + length line) (number + 1) lines place later)
  where
    go : (begins : Bool) → cond begins (Some (byte, number)) (journal_from (byte + length line) (number + 1) lines) ≡ Some place
        → (journal_from (byte + length line) (number + 1) lines ≡ Some place → place.0 ≡ byte + length line + length (concat (lines_until true lines)))
        → place.0 ≡ byte + length (concat (cond begins [] (line ∷ lines_until true lines)))
    go true here later =
        let pair : (byte, number) ≡ place = cc in
        let same : byte ≡ place.0 = ap (λ (found : ℕ × ℕ). found.0) pair in
        omega (arith, same)
    go false there later =
        let sum = length-append line (concat (lines_until true lines)) in
        let same = later there in
        omega (arith, sum, same)

-- the first lines are the front of the text
first-lines : (count : ℕ) (lines : List (List ℕ)) → take (length (concat (take count lines))) (concat lines) ≡ concat (take count lines)
first-lines zero lines = refl
first-lines (suc count) [] = refl
first-lines (suc count) (line ∷ lines) =
    ap (λ (n : ℕ). take n (line ++ concat lines)) (length-append line (concat (take count lines)))
    ∙ take-append-add line (concat lines) (length (concat (take count lines))) ∙ ap (λ (bytes : List ℕ). line ++ bytes) (first-lines count lines)

-- the lines of the world text of an input
part-lines : (text : List ℕ) → fed_lines (world_text_bytes text) ≡ lines_until true (fed_lines text)
part-lines text = go (journal_offset text) refl
  where
    go : (place : Option (ℕ × ℕ)) → journal_offset text ≡ place → fed_lines (world_text_bytes text) ≡ lines_until true (fed_lines text)
    go None none =
        let part : world_text_bytes text ≡ text = rw none refl in
        ap fed_lines part ∙ sym (no-journal 0 1 (fed_lines text) none)
    go (Some place) some =
        let count = count_until (fed_lines text) in
        let taken = lines-spelled (fed_lines text) in
        let part : world_text_bytes text ≡ take place.0 text = rw some refl in
        let long : place.0 ≡ length (concat (take count (fed_lines text))) =
        journal-behind 0 1 (fed_lines text) place some ∙ zero-add _ ∙ ap (λ (lines : List (List ℕ)). length (concat lines)) taken in
        let front : take place.0 text ≡ concat (take count (fed_lines text)) =
        ap (λ (n : ℕ). take n text) long ∙ ap (λ (bytes : List ℕ). take (length (concat (take count (fed_lines text)))) bytes) (sym (concat-fed_lines text)) ∙ first-lines count (fed_lines text) in
        ap fed_lines (part ∙ front) ∙ fed_lines-take text count ∙ sym taken

part-short : (text : List ℕ) → length (world_text_bytes text) ≤ length text
part-short text = go (journal_offset text) refl
  where
    go : (place : Option (ℕ × ℕ)) → journal_offset text ≡ place → length (world_text_bytes text) ≤ length text
    go None none = rw none (omega arith)
    go (Some place) some = rw some (omega (arith, length-take place.0 text))

not-long : (limit n : ℕ) → nat_lt limit n ≡ false → n ≤ limit
not-long limit n test = grind (arith, nat_tests)

same-short : {A : Type 0} (test : Bool) (long first second : A) → (test ≡ false → first ≡ second) → (if test then long else first) ≡ (if test then long else second)
same-short true long first second same = refl
same-short false long first second same = same refl

pub input-until : (text : List ℕ) → until_text true text ≡ checked_world text
input-until text = same-short (nat_lt input_limit (length text)) _ _ _ (λ test.
    let fits = not-long input_limit (length text) test in
    let within : length (world_text_bytes text) ≤ input_limit = omega (arith, part-short text) in
    ap (λ (lines : List (List ℕ)). read_lines empty_reading 1 (map plain_line lines)) (sym (part-lines text)) ∙ sym (within-limit input_limit (length (world_text_bytes text)) _ _ within))
