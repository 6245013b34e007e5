-- How many words a form takes, one field after the other.
use Rattle.std.proofs.Common.{◌≡◌, ℕ, ◌+◌, ◌-◌, ◌<◌, ◌≤◌, Bool, true, false, ◌==◌, List, [], ◌∷◌, length, map, drop, get_or, nat_le, cond, if◌then◌else◌, Option, Some, None, Bor, refl, sym, ap, arith}
use Rattle.std.specs.Option.{option_map}
use Rattle.std.proofs.lemmas.Bool.Decides.{nat_tests}
use Rattle.std.proofs.lemmas.Grind.{common_steps}
use Rattle.std.proofs.lemmas.List.{drop-map}
use Rattle.std.proofs.lemmas.Option.{cond_some}
use Rattle.call_texts.specs.CallText.{form_of, has_timeout, takes_items, given_count}
use Rattle.call_texts.specs.Fields.{field_words, form_words}
use Rattle.call_texts.specs.Steps.{◌>>=◌}
use Rattle.call_texts.specs.declared.call_words.CallWord.{CallWord}
use Rattle.call_texts.specs.declared.call_words.CallWord.TheVariants.{WriteList, WriteListNotify, ReadList, ReadListNotify, Allreduce}
use Rattle.call_texts.specs.declared.fields.Field.{Field}
use Rattle.call_texts.specs.declared.fields.Field.TheVariants.{Number, Value, Bytes, Items, Operation, Elements}

-- where no word is, each field takes the least that it may take
abbrev least : Field → ℕ
least Elements = 2
least field = 1

field-none : (field : Field) → field_words field [] ≡ Some (least field)
field-none Number = refl
field-none Value = refl
field-none Bytes = refl
field-none Items = refl
field-none Operation = refl
field-none Elements = refl

abbrev least_of : List Field → ℕ
least_of [] = 0
least_of (field ∷ form) = least field + least_of form

none-left : (count : ℕ) (words : List (List ℕ)) → words ≡ [] → drop count words ≡ []
none-left count words none = grind (arith, common_steps)

form-none : (form : List Field) → form_words form [] ≡ Some (least_of form)
form-none [] = refl
form-none (field ∷ form) = rw (field-none field, none-left (least field) [] refl, form-none form) refl

length-rest : (words : List (Bor (List ℕ))) (count : ℕ) → length (drop count words) ≡ length words - count
length-rest words count = grind (arith, common_steps)

-- a field whose words are there leaves the others to the rest of the form
counted-on : (field : Field) (form : List Field) (words : List (Bor (List ℕ))) (count more : ℕ) → Some count ≡ field_words field (map (λ word. word.now) words)
    → count ≤ length words
    → option_map (λ n. length words == n + more) (form_words (field ∷ form) (map (λ word. word.now) words))
    ≡ option_map (λ n. length (drop count words) == n + more) (form_words form (map (λ word. word.now) (drop count words)))
counted-on field form words count more is within =
    let dropped = drop-map (λ (word : Bor (List ℕ)). word.now) count words in
    rw (sym is, dropped) (others (form_words form (map (λ word. word.now) (drop count words))))
  where
    same : (k : ℕ) → (length words == count + k + more) ≡ (length (drop count words) == k + more)
    same k = rw (length-rest words count) (grind (arith, nat_tests))

    others : (left : Option ℕ) → option_map (λ n. length words == n + more) (left >>= (λ (k : ℕ). Some (count + k))) ≡ option_map (λ n. length (drop count words) == n + more) left
    others None = refl
    others (Some k) = ap Some (same k)

-- a field whose words are not there takes too many, whatever comes behind it
counted-over : (field : Field) (form : List Field) (words : List (Bor (List ℕ))) (count more : ℕ) → Some count ≡ field_words field (map (λ word. word.now) words)
    → length words < count → option_map (λ n. length words == n + more) (form_words (field ∷ form) (map (λ word. word.now) words)) ≡ Some false
counted-over field form words count more is over =
    let dropped : drop count (map (λ (word : Bor (List ℕ)). word.now) words) ≡ [] = grind (arith, common_steps) in
    let long : (length words == count + least_of form + more) ≡ false = grind (arith, nat_tests) in
    rw (sym is, dropped, form-none form, long) refl

-- the words behind so many, where there are so many
counted-rest : (words rest : List (Bor (List ℕ))) (count : ℕ) → Some rest ≡ (if nat_le count (length words) then Some (drop count words) else None)
    → (count ≤ length words) × (rest ≡ drop count words)
counted-rest words rest count is =
    let found = cond_some (nat_le count (length words)) (drop count words) rest (sym is) in
    let within : count ≤ length words = grind (arith, nat_tests, found.0) in
    (within, sym found.1)

counted-few : (words : List (Bor (List ℕ))) (count : ℕ) → None ≡ (if nat_le count (length words) then Some (drop count words) else None) → length words < count
counted-few words count is = go (nat_le count (length words)) refl is
  where
    go : (b : Bool) → nat_le count (length words) ≡ b → None ≡ cond b (Some (drop count words)) None → length words < count
    go true test none = absurd (let no : ⊥ = cc in no)
    go false test none = grind (arith, nat_tests)

-- the same of the first field of a form
pub counted-later : (form later : List Field) (words rest : List (Bor (List ℕ))) (count more : ℕ) → 1 ≤ length form → later ≡ drop 1 form
    → Some count ≡ field_words (get_or form 0 Number) (map (λ word. word.now) words) → Some rest ≡ (if nat_le count (length words) then Some (drop count words) else None)
    → option_map (λ n. length rest == n + more) (form_words later (map (λ word. word.now) rest))
    ≡ option_map (λ n. length words == n + more) (form_words form (map (λ word. word.now) words))
counted-later [] later words rest count more some rest_is is left = absurd (omega arith)
counted-later (field ∷ form) later words rest count more some rest_is is left =
    let found = counted-rest words rest count left in
    rw (rest_is, found.1) (sym (counted-on field form words count more is found.0))

pub counted-short : (form : List Field) (words : List (Bor (List ℕ))) (count more : ℕ) → 1 ≤ length form
    → Some count ≡ field_words (get_or form 0 Number) (map (λ word. word.now) words) → None ≡ (if nat_le count (length words) then Some (drop count words) else None)
    → Some false ≡ option_map (λ n. length words == n + more) (form_words form (map (λ word. word.now) words))
counted-short [] words count more some is left = absurd (omega arith)
counted-short (field ∷ form) words count more some is left = sym (counted-over field form words count more is (counted-few words count left))

-- a call without items has one word for each field
pub plain_count : (word : CallWord) (words : List (List ℕ)) → takes_items word ≡ false → given_count word words ≡ Some (length (form_of word) + (if has_timeout word then 1 else 0))
plain_count WriteList words is = absurd (let no : ⊥ = cc in no)
plain_count WriteListNotify words is = absurd (let no : ⊥ = cc in no)
plain_count ReadList words is = absurd (let no : ⊥ = cc in no)
plain_count ReadListNotify words is = absurd (let no : ⊥ = cc in no)
plain_count Allreduce words is = absurd (let no : ⊥ = cc in no)
plain_count word words is = refl
