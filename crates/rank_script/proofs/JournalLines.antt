-- The line at which a journal begins.
use Rattle.std.proofs.Common.{◌≡◌, ℕ, ◌+◌, ◌-◌, ◌≤◌, Bool, true, false, cond, not, ◌==◌, List, [], ◌∷◌, ◌++◌, length, filter, Some, None, codes, refl, ap, arith, length-append}
use Rattle.std.specs.Prelude.{find}
use Rattle.std.specs.List.{slice_split}
use Rattle.std.specs.Str.{bytes_eq}
use Rattle.call_texts.specs.Words.{is_blank, words_of}
use Rattle.call_texts.specs.Lines.{plain_line}
use Rattle.rank_script.specs.WorldText.{first_word, is_journal_line, journal_from}

abbrev is_filled : List ℕ → Bool
is_filled word = not (length word == 0)

first-some : (pieces : List (List ℕ)) (word : List ℕ) → Some word ≡ find is_filled pieces → first_word (filter is_filled pieces) ≡ word
first-some [] word h = absurd (let no : ⊥ = cc in no)
first-some (piece ∷ pieces) word h = go (is_filled piece) h (λ later. first-some pieces word later)
  where
    go : (filled : Bool) → Some word ≡ cond filled (Some piece) (find is_filled pieces) → (Some word ≡ find is_filled pieces → first_word (filter is_filled pieces) ≡ word)
        → first_word (cond filled (piece ∷ filter is_filled pieces) (filter is_filled pieces)) ≡ word
    go true found rest = cc
    go false found rest = rest found

first-none : (pieces : List (List ℕ)) → None ≡ find is_filled pieces → first_word (filter is_filled pieces) ≡ []
first-none [] h = refl
first-none (piece ∷ pieces) h = go (is_filled piece) h (λ later. first-none pieces later)
  where
    go : (filled : Bool) → None ≡ cond filled (Some piece) (find is_filled pieces) → (None ≡ find is_filled pieces → first_word (filter is_filled pieces) ≡ [])
        → first_word (cond filled (piece ∷ filter is_filled pieces) (filter is_filled pieces)) ≡ []
    go true found rest = absurd (let no : ⊥ = cc in no)
    go false found rest = rest found

pub journal-some : (line word : List ℕ) → Some word ≡ find (λ word. not (length word == 0)) (slice_split is_blank line) → is_journal_line line ≡ bytes_eq (codes "journal") word
unfolding words_of
journal-some line word h = ap (λ (w : List ℕ). bytes_eq (codes "journal") w) (first-some (slice_split is_blank line) word h)

pub journal-none : (line : List ℕ) → None ≡ find (λ word. not (length word == 0)) (slice_split is_blank line) → is_journal_line line ≡ false
unfolding words_of
journal-none line h = ap (λ (w : List ℕ). bytes_eq (codes "journal") w) (first-none (slice_split is_blank line) h)

-- past a line that is none
pub journal-later : (byte next number : ℕ) (line : List ℕ) (lines : List (List ℕ)) → is_journal_line (plain_line line) ≡ false → byte + length line ≡ next
    → journal_from byte number (line ∷ lines) ≡ journal_from next (number + 1) lines
journal-later byte next number line lines other sum = rw (other, sum) refl

-- where the text behind a line begins
pub fed-length : (all : ℕ) (line later rest : List ℕ) → line ++ later ≡ rest → length rest ≤ all → (all - length rest) + length line ≡ all - length later
fed-length all line later rest is within = let sum = simp length-append at (ap (λ (bytes : List ℕ). length bytes) is) in omega (arith, sum)
