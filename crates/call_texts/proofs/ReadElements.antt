-- The elements that words spell, from the front on.
use Rattle.std.proofs.Common.{◌≡◌, ℕ, ℤ, ◌<◌, zero, suc, List, [], ◌∷◌, ◌++◌, length, map, take, drop, get_or, Option, Some, None, refl, ap, arith}
use Rattle.call_texts.specs.Steps.{◌>>=◌}
use Rattle.call_texts.specs.Elements.{element_of, elements_of}
use Rattle.gaspi_types.specs.declared.collectives.NumType.{NumType}

unchanged : (o : Option (List ℤ)) → o ≡ (o >>= λ rest. Some rest)
unchanged (Some items) = refl
unchanged None = refl

behind : (z : ℤ) (items : List ℤ) (o : Option (List ℤ))
    → ((o >>= λ rest. Some (items ++ rest)) >>= λ rest. Some (z ∷ rest)) ≡ (o >>= λ rest. Some (z ∷ (items ++ rest)))
behind z items (Some rest) = refl
behind z items None = refl

-- the same with one word before them
prefix : (t : NumType) (word : List ℕ) (words others : List (List ℕ)) (items : List ℤ) (one : Option ℤ) (more : Option (List ℤ))
    → element_of t word ≡ one
    → ((rest : List ℤ) → more ≡ Some rest → elements_of t (words ++ others) ≡ (elements_of t others >>= λ after. Some (rest ++ after)))
    → (one >>= λ z. more >>= λ rest. Some (z ∷ rest)) ≡ Some items
    → elements_of t (word ∷ words ++ others) ≡ (elements_of t others >>= λ rest. Some (items ++ rest))
prefix t word words others items None more first next e = cc e
prefix t word words others items (Some z) None first next e = cc e
prefix t word words others items (Some z) (Some rest) first next e =
    let is : items ≡ z ∷ rest = cc in
    rw (first, next rest refl, is) (behind z rest (elements_of t others))

-- behind words that spell elements stands what the other words spell
pub elements_of-append : (t : NumType) (words others : List (List ℕ)) (items : List ℤ) → elements_of t words ≡ Some items
    → elements_of t (words ++ others) ≡ (elements_of t others >>= λ rest. Some (items ++ rest))
elements_of-append t [] others items e =
    let is : items ≡ [] = cc in
    rw is (unchanged (elements_of t others))
elements_of-append t (word ∷ words) others items e =
    prefix t word words others items (element_of t word) (elements_of t words) refl (λ rest next. elements_of-append t words others rest next) e

-- one more element
pub elements_of_push : (t : NumType) (words : List (List ℕ)) (word : List ℕ) (items : List ℤ) (z : ℤ)
    → elements_of t words ≡ Some items → element_of t word ≡ Some z → elements_of t (words ++ word ∷ []) ≡ Some (items ++ z ∷ [])
elements_of_push t words word items z e one = rw (elements_of-append t words (word ∷ []) items e, one) refl

-- a word that spells none
pub elements_of_stop : (t : NumType) (words : List (List ℕ)) (word : List ℕ) (others : List (List ℕ)) (items : List ℤ)
    → elements_of t words ≡ Some items → element_of t word ≡ None → elements_of t (words ++ word ∷ others) ≡ None
elements_of_stop t words word others items e one = rw (elements_of-append t words (word ∷ others) items e, one) refl

-- the words before a place, at it and behind it
pub cut_map : {A B : Type 0} (f : A → B) (xs : List A) (i : ℕ) (d : A) → i < length xs
    → map f xs ≡ map f (take i xs) ++ (f (get_or xs i d) ∷ map f (drop (suc i) xs))
cut_map f [] i d low = absurd (omega arith)
cut_map f (x ∷ xs) zero d low = refl
cut_map f (x ∷ xs) (suc i) d low = ap (λ (rest : List _). f x ∷ rest) (cut_map f xs i d (omega arith))
