-- Ranges of line numbers, of which the last one grows.
use Rattle.std.proofs.Common.{◌≡◌, ℕ, zero, suc, ◌+◌, List, [], ◌∷◌, ◌++◌, Some, sym, ap, ◌∙◌, arith, append_assoc, append-nil, add-one, length}
use Rattle.std.specs.List.{slice_get, slice_set, range_with_len}
use Rattle.call_journal.specs.CalledLines.{numbers_in, numbers_of}
use Rattle.call_journal.specs.declared.called_lines.LineRange.{LineRange}

-- a range with one number more
range-grown : (first more : ℕ) → range_with_len first (suc more) ≡ range_with_len first more ++ (first + more) ∷ []
range-grown first zero = ap (λ (n : ℕ). n ∷ []) (let same : first ≡ first + 0 = omega arith in same)
range-grown first (suc more) =
    ap (λ (ns : List ℕ). first ∷ ns) (range-grown (first + 1) more)
    ∙ ap (λ (n : ℕ). first ∷ (range_with_len (first + 1) more ++ n ∷ [])) (let same : first + 1 + more ≡ first + suc more = omega arith in same)

-- the last of the ranges, with one number more
pub last-grown : (ranges : List LineRange) (last : ℕ) (range : LineRange) (line : ℕ) → slice_get ranges last ≡ Some range → length ranges ≡ last + 1 → line ≡ range.first + range.more + 1
    → numbers_of (slice_set ranges last (record { first = range.first; more = range.more + 1 })) ≡ numbers_of ranges ++ line ∷ []
last-grown [] last range line at count is = absurd (let no : ⊥ = cc in no)
last-grown (r ∷ []) zero range line at count is = let same : r ≡ range = cc in
    rw (same, add-one range.more)
    (ap (λ (ns : List ℕ). range.first ∷ ns ++ []) (range-grown (range.first + 1) range.more)
    ∙ append-nil (range.first ∷ (range_with_len (range.first + 1) range.more ++ (range.first + 1 + range.more) ∷ []))
    ∙ (ap (λ (n : ℕ). range.first ∷ (range_with_len (range.first + 1) range.more ++ n ∷ [])) (let last : range.first + 1 + range.more ≡ line = omega arith in last)
    ∙ ap (λ (ns : List ℕ). ns ++ line ∷ []) (sym (append-nil (range.first ∷ range_with_len (range.first + 1) range.more)))))
last-grown (r ∷ s ∷ ranges) zero range line at count is = absurd (omega (arith, count))
last-grown (r ∷ ranges) (suc last) range line at count is =
    ap (λ (ns : List ℕ). numbers_in r ++ ns) (last-grown ranges last range line at (omega (arith, count)) is)
    ∙ sym (append_assoc (numbers_in r) (numbers_of ranges) (line ∷ []))
