-- The words of what was read are as many as its form takes.
use Rattle.std.proofs.Common.{◌≡◌, ℕ, zero, suc, ◌+◌, ◌-◌, ◌*◌, List, [], ◌∷◌, length, drop, ◌≤◌, ◌==◌, true, nat_le, take, Option, Some, refl, sym, ap, ◌∙◌, subst, arith}
use Rattle.std.proofs.lemmas.Bool.Decides.{nat_tests}
use Rattle.std.proofs.lemmas.Grind.{common_steps}
use Rattle.std.proofs.lemmas.Option.{option_and_then_some, cond_some, same_Some, none-some}
use Rattle.gaspi_types.specs.NumberTypes.{TypedNumbers}
use Rattle.gaspi_types.specs.declared.calls.Call.{Call}
use Rattle.gaspi_types.specs.declared.calls.posts.Item.{Item}
use Rattle.call_texts.specs.CallText.{form_of, arguments_of, call_with, call_taken, call_by}
use Rattle.call_texts.specs.Fields.{FieldValue, Fields, first_spells, item_spelled, items_spelled, words_split, elements_spelled, field_spelled, fields_spelled, field_words, form_words}
use Rattle.call_texts.specs.Elements.{type_of, op_of, elements_of}
use Rattle.call_texts.specs.Hex.{bytes_of}
use Rattle.call_texts.specs.Numbers.{number_of, value_of}
use Rattle.call_texts.specs.declared.fields.Field.{Field}
use Rattle.call_texts.specs.declared.fields.Field.TheVariants.{Number, Value, Bytes, Items, Operation, Elements}
use Rattle.call_texts.specs.declared.call_words.CallWord.{CallWord}

-- words, and those that are left of them behind so many
record Left (count : ℕ) (words left : List (List ℕ)) : Type 0 where
  dropped : drop count words ≡ left
  whole : length words ≡ count + length left

left-all : (words : List (List ℕ)) → Left 0 words words
left-all words = record { dropped = refl; whole = omega arith }

left-one : (count : ℕ) (word : List ℕ) (words left : List (List ℕ)) → Left count words left → Left (1 + count) (word ∷ words) left
left-one count word words left h =
    let one : 1 + count ≡ suc count = omega arith in
    let long : length (word ∷ words) ≡ 1 + length words = omega arith in
    record { dropped = rw one h.dropped; whole = omega (arith, long, h.whole) }

left-more : (first second : ℕ) (words behind left : List (List ℕ)) → Left first words behind → Left second behind left → Left (first + second) words left
left-more first second words behind left f s = record {
  dropped = drops first second words ∙ ap (drop second) f.dropped ∙ s.dropped;
  whole = omega (arith, f.whole, s.whole);
}
  where
    drops : (m n : ℕ) (ws : List (List ℕ)) → drop (m + n) ws ≡ drop n (drop m ws)
    drops m n ws = grind (arith, common_steps)

-- A field.

record Spells {A : Type 0} (read : List ℕ → Option A) (words : List (List ℕ)) (taken : A × List (List ℕ)) : Type 0 where
  word : List ℕ
  words_are : words ≡ word ∷ taken.1
  value_is : read word ≡ Some taken.0

spells : {A : Type 0} (read : List ℕ → Option A) (words : List (List ℕ)) (taken : A × List (List ℕ)) → first_spells read words ≡ Some taken → Spells read words taken
spells {A = A} read [] taken is = absurd (none-some taken is)
spells {A = A} read (word ∷ words) taken is =
    option_and_then_some _ (read word) taken is (λ value spelled found.
    subst (λ (t : A × List (List ℕ)). Spells read (word ∷ words) t) (same_Some (value, words) taken found) (record { word = word; words_are = refl; value_is = spelled }))

one-left : {A : Type 0} (read : List ℕ → Option A) (words : List (List ℕ)) (taken : A × List (List ℕ)) → first_spells read words ≡ Some taken → Left 1 words taken.1
one-left {A = A} read words taken is =
    let first = spells read words taken is in
    subst (λ (ws : List (List ℕ)). Left 1 ws taken.1) (sym first.words_are) (left-one 0 first.word taken.1 taken.1 (left-all taken.1))

item-left : (words : List (List ℕ)) (taken : Item × List (List ℕ)) → item_spelled words ≡ Some taken → Left 5 words taken.1
item-left words taken is =
    option_and_then_some _ (first_spells number_of words) taken is (λ seg first behind_seg.
    option_and_then_some _ (first_spells number_of seg.1) taken behind_seg (λ offset second behind_offset.
    option_and_then_some _ (first_spells number_of offset.1) taken behind_offset (λ rseg third behind_rseg.
    option_and_then_some _ (first_spells number_of rseg.1) taken behind_rseg (λ roffset fourth behind_roffset.
    option_and_then_some _ (first_spells number_of roffset.1) taken behind_roffset (λ size fifth same.
    subst (λ (t : Item × List (List ℕ)). Left 5 words t.1) (same_Some (record { seg = seg.0; offset = offset.0; rseg = rseg.0; roffset = roffset.0; size = size.0 }, size.1) taken same)
    (left-more 1 4 words seg.1 size.1 (one-left number_of words seg first)
    (left-more 1 3 seg.1 offset.1 size.1 (one-left number_of seg.1 offset second)
    (left-more 1 2 offset.1 rseg.1 size.1 (one-left number_of offset.1 rseg third)
    (left-more 1 1 rseg.1 roffset.1 size.1 (one-left number_of rseg.1 roffset fourth) (one-left number_of roffset.1 size fifth))))))))))

items-left : (count : ℕ) (words : List (List ℕ)) (taken : List Item × List (List ℕ)) → items_spelled count words ≡ Some taken → Left (5 * count) words taken.1
items-left zero words taken is =
    subst (λ (t : List Item × List (List ℕ)). Left 0 words t.1) (same_Some ([], words) taken is) (left-all words)
items-left (suc count) words taken is =
    option_and_then_some _ (item_spelled words) taken is (λ first spelled found.
    option_and_then_some _ (items_spelled count first.1) taken found (λ others read same.
    let all = left-more 5 (5 * count) words first.1 others.1 (item-left words first spelled) (items-left count first.1 others read) in
    let sum : 5 + 5 * count ≡ 5 * suc count = omega arith in
    subst (λ (n : ℕ). Left n words taken.1) sum
    (subst (λ (t : List Item × List (List ℕ)). Left (5 + 5 * count) words t.1) (same_Some (first.0 ∷ others.0, others.1) taken same) all)))

-- what a field takes, counted
record Counts (counted : Option ℕ) (words left : List (List ℕ)) : Type 0 where
  count : ℕ
  is : counted ≡ Some count
  behind : Left count words left

list-counts : (words : List (List ℕ)) (taken : List Item × List (List ℕ)) → field_spelled Items words ≡ Some taken → Counts (field_words Items words) words taken.1
list-counts words taken is =
    option_and_then_some _ (first_spells number_of words) taken is (λ count spelled found.
    let first = spells number_of words count spelled in
    let items = items-left count.0 count.1 taken found in
    subst (λ (ws : List (List ℕ)). Counts (field_words Items ws) ws taken.1) (sym first.words_are)
    (record { count = 1 + 5 * count.0; is = rw first.value_is refl; behind = left-one (5 * count.0) first.word count.1 taken.1 items }))

prefix-left : (count : ℕ) (words : List (List ℕ)) (taken : List (List ℕ) × List (List ℕ)) → words_split count words ≡ Some taken → Left count words taken.1
prefix-left count words taken is =
    let cut = cond_some (nat_le count (length words)) (take count words, drop count words) taken is in
    let within : count ≤ length words = grind (arith, nat_tests, cut.0) in
    let rest : length (drop count words) ≡ length words - count = grind (arith, common_steps) in
    subst (λ (t : List (List ℕ) × List (List ℕ)). Left count words t.1) cut.1 (record { dropped = refl; whole = omega (arith, within, rest) })

elements-counts : (words : List (List ℕ)) (taken : TypedNumbers × List (List ℕ)) → elements_spelled words ≡ Some taken
    → Counts (field_words Elements words) words taken.1
elements-counts words taken is =
    option_and_then_some _ (first_spells type_of words) taken is (λ num_type first behind_type.
    option_and_then_some _ (first_spells number_of num_type.1) taken behind_type (λ count second behind_count.
    option_and_then_some _ (words_split count.0 count.1) taken behind_count (λ front third behind_front.
    option_and_then_some _ (elements_of num_type.0 front.0) taken behind_front (λ items fourth same.
    let one = spells type_of words num_type first in
    let two = spells number_of num_type.1 count second in
    let left = left-one (1 + count.0) one.word (two.word ∷ count.1) front.1 (left-one count.0 two.word count.1 front.1 (prefix-left count.0 count.1 front third)) in
    let sum : 1 + (1 + count.0) ≡ 2 + count.0 = omega arith in
    let both : words ≡ one.word ∷ two.word ∷ count.1 = one.words_are ∙ ap (λ (ws : List (List ℕ)). one.word ∷ ws) two.words_are in
    subst (λ (t : TypedNumbers × List (List ℕ)). Counts (field_words Elements words) words t.1) (same_Some (record { num_type = num_type.0; items = items }, front.1) taken same)
    (subst (λ (ws : List (List ℕ)). Counts (field_words Elements ws) ws front.1) (sym both)
    (record { count = 2 + count.0; is = rw two.value_is refl; behind = subst (λ (n : ℕ). Left n (one.word ∷ two.word ∷ count.1) front.1) sum left }))))))

field-counts : (field : Field) (words : List (List ℕ)) (taken : FieldValue field × List (List ℕ)) → field_spelled field words ≡ Some taken
    → Counts (field_words field words) words taken.1
field-counts Number words taken is = record { count = 1; is = refl; behind = one-left number_of words taken is }
field-counts Value words taken is = record { count = 1; is = refl; behind = one-left value_of words taken is }
field-counts Bytes words taken is = record { count = 1; is = refl; behind = one-left bytes_of words taken is }
field-counts Items words taken is = list-counts words taken is
field-counts Operation words taken is = record { count = 1; is = refl; behind = one-left op_of words taken is }
field-counts Elements words taken is = elements-counts words taken is

-- Forms and calls.

form-counts : (form : List Field) (words : List (List ℕ)) (taken : Fields form × List (List ℕ)) → fields_spelled form words ≡ Some taken
    → Counts (form_words form words) words taken.1
form-counts [] words taken is =
    subst (λ (t : Fields [] × List (List ℕ)). Counts (Some 0) words t.1) (same_Some (tt, words) taken is) (record { count = 0; is = refl; behind = left-all words })
form-counts (field ∷ form) words taken is =
    option_and_then_some _ (field_spelled field words) taken is (λ first spelled found.
    option_and_then_some _ (fields_spelled form first.1) taken found (λ others read same.
    let front = field-counts field words first spelled in
    let later = form-counts form first.1 others read in
    let whole : Counts (form_words (field ∷ form) words) words others.1 = record {
      count = front.count + later.count;
      is = rw (front.is, front.behind.dropped, later.is) refl;
      behind = left-more front.count later.count words first.1 others.1 front.behind later.behind;
    } in
    subst (λ (t : (FieldValue field × Fields form) × List (List ℕ)). Counts (form_words (field ∷ form) words) words t.1) (same_Some ((first.0, others.0), others.1) taken same) whole))

spelled-counts : (word : CallWord) (words : List (List ℕ)) (taken : Call × List (List ℕ)) → call_taken word words ≡ Some taken
    → Counts (arguments_of word words) words taken.1
unfolding call_taken
spelled-counts word words taken is =
    option_and_then_some _ (fields_spelled (form_of word) words) taken is (λ found read same.
    subst (λ (t : Call × List (List ℕ)). Counts (arguments_of word words) words t.1) (same_Some (call_with word found.0, found.1) taken same)
    (form-counts (form_of word) words found read))

pub call_by-counted : (word : CallWord) (words : List (List ℕ)) (call : Call) → call_by word words ≡ Some call → arguments_of word words ≡ Some (length words)
call_by-counted word words call is =
    option_and_then_some _ (call_taken word words) call is (λ taken read whole.
    let counts = spelled-counts word words taken read in
    let none : length taken.1 ≡ 0 = nothing (length taken.1) (cond_some (length taken.1 == 0) taken.0 call whole).0 in
    let all : counts.count ≡ length words = omega (arith, counts.behind.whole) in
    counts.is ∙ ap Some all)
  where
    nothing : (n : ℕ) → (n == 0) ≡ true → n ≡ 0
    nothing n test = grind (arith, nat_tests)
