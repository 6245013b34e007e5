-- Some of the words of a line.
use Rattle.std.proofs.Common.{◌≡◌, ℕ, suc, ◌+◌, ◌-◌, ◌<◌, ◌≤◌, Bool, true, false, cond, not, nat_lt, take, drop, Some, None, List, [], ◌∷◌, ◌++◌, length, map, if◌then◌else◌, Bor, refl, sym, ap, subst, arith, add-one}
use Rattle.std.specs.List.{position, prefix_len}
use Rattle.std.proofs.lemmas.Grind.{common_steps}
use Rattle.std.proofs.lemmas.List.{length-map, take-map}
use Rattle.std.proofs.lemmas.Bool.Decides.{nat_tests}
use Rattle.rank_script.specs.WorldText.{is_equals_word, before_equals, after_equals, last_word}

last_word-push : (front : List (List ℕ)) (word : List ℕ) → last_word (front ++ word ∷ []) ≡ word
last_word-push [] word = refl
last_word-push (first ∷ []) word = refl
last_word-push (first ∷ next ∷ front) word = last_word-push (next ∷ front) word

map-push : (front : List (Bor (List ℕ))) (word : Bor (List ℕ)) → map (λ (w : Bor (List ℕ)). w.now) (front ++ word ∷ []) ≡ map (λ (w : Bor (List ℕ)). w.now) front ++ word.now ∷ []
map-push [] word = refl
map-push (first ∷ front) word = ap (λ (ws : List (List ℕ)). first.now ∷ ws) (map-push front word)

pub last_word-split : (words front : List (Bor (List ℕ))) (word : Bor (List ℕ)) → words ≡ front ++ word ∷ [] → word.now ≡ last_word (map (λ w. w.now) words)
last_word-split words front word is = rw is (rw map-push (rw last_word-push refl))

-- the words given to a call that takes a timeout, but the last
pub without-timeout : (timed : Bool) (given : List (Bor (List ℕ))) (count : ℕ) → timed ≡ true → count ≡ length given - 1
    → map (λ (w : Bor (List ℕ)). w.now) (take count given)
    ≡ (if timed then take (length (map (λ (w : Bor (List ℕ)). w.now) given) - 1) (map (λ w. w.now) given) else map (λ w. w.now) given)
without-timeout timed given count is same = rw (is, same, length-map) (sym (take-map (λ (w : Bor (List ℕ)). w.now) (length given - 1) given))

-- where the first `=` stands, or the length
record FirstEquals (words : List (Bor (List ℕ))) (n : ℕ) : Type 0 where
  there : n < length words → (before_equals (map (λ w. w.now) words) ≡ map (λ w. w.now) (take n words))
      × (after_equals (map (λ w. w.now) words) ≡ Some (map (λ w. w.now) (drop (suc n) words)))
  absent : length words ≤ n → (before_equals (map (λ w. w.now) words) ≡ map (λ w. w.now) words) × (after_equals (map (λ w. w.now) words) ≡ None)

abbrev is_other : Bor (List ℕ) → Bool
is_other word = not (is_equals_word word.now)

first-equals : (words : List (Bor (List ℕ))) → FirstEquals words (prefix_len is_other words)
first-equals [] = record { there = λ h. absurd (omega arith); absent = λ h. (refl, refl) }
first-equals (word ∷ words) = go (is_equals_word word.now) refl (first-equals words)
  where
    go : (equals : Bool) → is_equals_word word.now ≡ equals → FirstEquals words (prefix_len is_other words)
        → FirstEquals (word ∷ words) (cond (not (is_equals_word word.now)) (1 + prefix_len is_other words) 0)
    go true is rest =
        let here : FirstEquals (word ∷ words) 0 = record {
          there = λ h. (rw is refl, rw is refl);
          absent = λ h. absurd (let long : suc (length words) ≤ 0 = h in omega (arith, long));
        } in
        rw is here
    go false is rest =
        let later : FirstEquals (word ∷ words) (suc (prefix_len is_other words)) = record {
          there = λ h.
              let short : suc (prefix_len is_other words) < suc (length words) = h in
              let found = rest.there (omega (arith, short)) in
              (rw is (ap (λ (ws : List (List ℕ)). word.now ∷ ws) found.0), rw is found.1);
          absent = λ h.
              let long : suc (length words) ≤ suc (prefix_len is_other words) = h in
              let none = rest.absent (omega (arith, long)) in
              (rw is (ap (λ (ws : List (List ℕ)). word.now ∷ ws) none.0), rw is none.1);
        } in
        let one : suc (prefix_len is_other words) ≡ 1 + prefix_len is_other words = omega arith in
        rw is (subst (λ (n : ℕ). FirstEquals (word ∷ words) n) one later)

place-some : (b : Bool) (n place : ℕ) → Some place ≡ cond b (Some n) None → (b ≡ true) × (place ≡ n)
place-some true n place h = (refl, cc)
place-some false n place h = absurd (let no : ⊥ = cc in no)

place-none : (b : Bool) (n : ℕ) → None ≡ cond b (Some n) None → b ≡ false
place-none true n h = absurd (let no : ⊥ = cc in no)
place-none false n h = refl

-- what a search for the first `=` tells
pub equals-there : (words : List (Bor (List ℕ))) (place : ℕ) → Some place ≡ position (λ word. is_equals_word word.now) words
    → (before_equals (map (λ w. w.now) words) ≡ map (λ w. w.now) (take place words))
    × (after_equals (map (λ w. w.now) words) ≡ Some (map (λ w. w.now) (drop (place + 1) words)))
equals-there words place h =
    let found = place-some (nat_lt (prefix_len is_other words) (length words)) (prefix_len is_other words) place h in
    let within : prefix_len is_other words < length words = grind (arith, nat_tests, found.0) in
    let there = (first-equals words).there within in
    rw (found.1, add-one) there

pub equals-absent : (words : List (Bor (List ℕ))) → None ≡ position (λ word. is_equals_word word.now) words
    → (before_equals (map (λ w. w.now) words) ≡ map (λ w. w.now) words) × (after_equals (map (λ w. w.now) words) ≡ None)
equals-absent words h =
    let past = place-none (nat_lt (prefix_len is_other words) (length words)) (prefix_len is_other words) h in
    let long : length words ≤ prefix_len is_other words = test-past _ _ past in
    (first-equals words).absent long
  where
    test-past : (n m : ℕ) → nat_lt n m ≡ false → m ≤ n
    test-past n m h = grind (arith, nat_tests)

pub dropped : (words : List (Bor (List ℕ))) (n : ℕ) → take (length words - n) (drop n words) ≡ drop n words
dropped words n = grind (arith, common_steps)
