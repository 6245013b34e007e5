-- Lists cut at a place, and the first place at which a test passes.
use Rattle.std.proofs.Common.{◌≡◌, ℕ, ◌+◌, ◌-◌, ◌≤◌, Bool, true, false, cond, not, List, [], ◌∷◌, ◌++◌, map, length, take, drop, get_or, suc, Some, nat_lt, Bor, refl, ap, arith, length-append}
use Rattle.std.specs.List.{All, position, position_or_len}
use Rattle.std.specs.Str.{bytes_eq}
use Rattle.std.proofs.lemmas.Bool.Decides.{nat_tests}
use Rattle.std.proofs.lemmas.List.{length-map, take-map, drop-map, take_all, take_at, take_rest}
use Rattle.std.proofs.lemmas.List.Elements.{All-head, All-tail}
use Rattle.gaspi_types.specs.declared.shapes.CallerId.{CallerId}
use Rattle.gaspi_texts.specs.EventText.{arrow}
use Rattle.gaspi_texts.specs.EventReading.{caller_of, called_with, called_of}

place_map : {A B : Type 0} (p : B → Bool) (f : A → B) (xs : List A) → position_or_len p (map f xs) ≡ position_or_len (λ x. p (f x)) xs
place_map p f [] = refl
place_map p f (x ∷ xs) = ap (λ (n : ℕ). cond (not (p (f x))) (1 + n) 0) (place_map p f xs)

pub position_map : {A B : Type 0} (p : B → Bool) (f : A → B) (xs : List A) → position p (map f xs) ≡ position (λ x. p (f x)) xs
position_map p f xs = rw (place_map p f xs, length-map xs f) refl

-- the slices behind the first word, before a place and behind it
pub called_of-slices : (args : List (Bor (List ℕ))) (d : Bor (List ℕ)) (caller : CallerId) (place : ℕ) → 1 ≤ length args
    → Some caller ≡ caller_of (get_or args 0 d).now
    → Some place ≡ position (λ word. bytes_eq arrow word) (map (λ word. word.now) (take (length args - 1) (drop 1 args)))
    → called_with caller (map (λ word. word.now) (take place (take (length args - 1) (drop 1 args))))
    (map (λ word. word.now) (take (length (take (length args - 1) (drop 1 args)) - (place + 1)) (drop (place + 1) (take (length args - 1) (drop 1 args)))))
    ≡ called_of (map (λ word. word.now) args)
unfolding called_of
called_of-slices [] d caller place filled first found = absurd (omega arith)
called_of-slices (word ∷ words) d caller place filled first found =
    let all : take (length (word ∷ words) - 1) words ≡ words = take_all (length (word ∷ words) - 1) words (omega arith) in
    let at : Some place ≡ position (λ word. bytes_eq arrow word) (map (λ word. word.now) words) = rw all at found in
    rw (all, take_rest words (place + 1), ← first, ← at, take-map (λ (w : Bor (List ℕ)). w.now) place words, drop-map (λ (w : Bor (List ℕ)). w.now) (place + 1) words) refl

-- behind items that fail a test, the first that passes
place_at : {A : Type 0} (p : A → Bool) (xs : List A) (y : A) (ys : List A) → All (λ x. p x ≡ false) xs → p y ≡ true
    → position_or_len p (xs ++ (y ∷ ys)) ≡ length xs
place_at p [] y ys fail pass = rw pass refl
place_at p (x ∷ xs) y ys fail pass =
    let first : p x ≡ false = All-head (λ (z : _). p z ≡ false) x xs fail in
    rw (first, place_at p xs y ys (All-tail (λ (z : _). p z ≡ false) x xs fail) pass) (omega arith)

pub position_at : {A : Type 0} (p : A → Bool) (xs : List A) (y : A) (ys : List A) → All (λ x. p x ≡ false) xs → p y ≡ true
    → position p (xs ++ (y ∷ ys)) ≡ Some (length xs)
position_at p xs y ys fail pass =
    let low : nat_lt (length xs) (length (xs ++ (y ∷ ys))) ≡ true = simp length-append (grind (arith, nat_tests)) in
    rw (place_at p xs y ys fail pass, low) refl

pub take_before : {A : Type 0} (xs : List A) (y : A) (ys : List A) → take (length xs) (xs ++ (y ∷ ys)) ≡ xs
take_before xs y ys = take_at xs (y ∷ ys) (length xs) refl

pub drop_behind : {A : Type 0} (xs : List A) (y : A) (ys : List A) → drop (length xs + 1) (xs ++ (y ∷ ys)) ≡ ys
drop_behind [] y ys = refl
drop_behind (x ∷ xs) y ys =
    let step : length (x ∷ xs) + 1 ≡ suc (length xs + 1) = omega arith in
    rw step (drop_behind xs y ys)
