-- What a list of numbers gives, one number more.
use Rattle.std.proofs.Common.{◌≡◌, ℕ, zero, suc, ◌+◌, List, [], ◌∷◌, ◌++◌, map, sym, ap, ◌∙◌, arith, append_assoc, append-nil, add-one}
use Rattle.std.specs.List.{flat_map, range_with_len}
use Rattle.gaspi_model.proofs.Ranges.{map_range_more}

from-range : {B : Type 0} (f : ℕ → List B) (a n : ℕ) → flat_map f (range_with_len a (suc n)) ≡ flat_map f (range_with_len a n) ++ f (a + n)
from-range {B} f a zero = append-nil (f a) ∙ ap f (let same : a ≡ a + 0 = omega arith in same)
from-range {B} f a (suc n) =
    ap (λ (r : List B). f a ++ r) (from-range f (a + 1) n) ∙ sym (append_assoc (f a) (flat_map f (range_with_len (a + 1) n)) (f (a + 1 + n)))
    ∙ ap (λ (k : ℕ). (f a ++ flat_map f (range_with_len (a + 1) n)) ++ f k) (let same : a + 1 + n ≡ a + suc n = omega arith in same)

pub flat_map-range : {B : Type 0} (f : ℕ → List B) (n : ℕ) → flat_map f (range_with_len 0 (n + 1)) ≡ flat_map f (range_with_len 0 n) ++ f n
flat_map-range {B} f n = rw (add-one n) (from-range f 0 n) ∙ ap (λ (k : ℕ). flat_map f (range_with_len 0 n) ++ f k) (let same : 0 + n ≡ n = omega arith in same)

-- a text, or any list, to which what each number gives is added in order: one number more
pub range-more : {B : Type 0} (f : ℕ → List B) (n : ℕ) (first old new : List B) → new ≡ old ++ f n → old ≡ first ++ flat_map f (range_with_len 0 n) → new ≡ first ++ flat_map f (range_with_len 0 (n + 1))
range-more {B} f n first old new added before =
    added ∙ ap (λ (xs : List B). xs ++ f n) before ∙ append_assoc first (flat_map f (range_with_len 0 n)) (f n)
    ∙ ap (λ (xs : List B). first ++ xs) (sym (flat_map-range f n))

-- the same of a rank's threads
pub thread-more : {B : Type 0} (f : ℕ → ℕ → List B) (rank thread r t : ℕ) (first old new : List B) → new ≡ old ++ f r t → r ≡ rank → t ≡ thread
    → old ≡ first ++ flat_map (f rank) (range_with_len 0 thread) → new ≡ first ++ flat_map (f rank) (range_with_len 0 (thread + 1))
thread-more {B} f rank thread r t first old new added same same' before =
    range-more (f rank) thread first old new (added ∙ ap (λ (n : ℕ). old ++ f n t) same ∙ ap (λ (n : ℕ). old ++ f rank n) same') before

-- a list of what each number is: one number more
pub made-more : {A : Type 0} (f : ℕ → A) (n : ℕ) (old new : List A) (item : A) → new ≡ old ++ item ∷ [] → item ≡ f n → old ≡ map f (range_with_len 0 n) → new ≡ map f (range_with_len 0 (n + 1))
made-more {A} f n old new item added is before =
    added ∙ ap (λ (x : A). old ++ x ∷ []) is ∙ ap (λ (xs : List A). xs ++ f n ∷ []) before ∙ sym (map_range_more f n)
