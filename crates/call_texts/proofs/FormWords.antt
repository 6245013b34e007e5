-- The words of a form, read back, and what they spell.
use Rattle.std.proofs.Common.{◌≡◌, ℕ, zero, suc, ◌^◌, ◌<◌, ◌≤◌, true, nat_le, List, [], ◌∷◌, ◌++◌, length, map, take, drop, Option, Some, refl, sym, ap, ◌∙◌, subst, append_assoc, length-append, arith}
use Rattle.std.specs.Fmt.{signed_decimal}
use Rattle.std.specs.List.{AllByRecursion, flat_map}
use Rattle.std.proofs.lemmas.Bool.Decides.{nat_tests}
use Rattle.std.proofs.lemmas.List.{length-map, take_at, drop_at, length-take-le}
use Rattle.std.proofs.lemmas.Option.{option_and_then_some, cond_some, same_Some, none-some}
use Rattle.hex.specs.Hex.{IsBytes}
use Rattle.gaspi_types.specs.NumberTypes.{TypedNumbers}
use Rattle.gaspi_types.specs.declared.calls.posts.Item.{Item}
use Rattle.call_texts.specs.Fields.{IsNumber, FieldValue, IsItemInRange, IsInRange, words_of_item, words_of_field, first_spells, item_spelled, items_spelled, words_split, elements_spelled, field_spelled, Fields, AreInRange, words_of_fields, fields_spelled}
use Rattle.call_texts.specs.Elements.{type_of, elements_of}
use Rattle.call_texts.specs.Hex.{bytes_of}
use Rattle.call_texts.specs.Numbers.{number_of, value_of}
use Rattle.call_texts.specs.Words.{IsPlainWord}
use Rattle.call_texts.specs.declared.fields.Field.{Field}
use Rattle.call_texts.specs.declared.fields.Field.TheVariants.{Number, Value, Bytes, Items, Operation, Elements}
use Rattle.call_texts.proofs.ElementWords.{type_of-word, op_of-word, elements_of-decimals, type_plain, op_plain, elements_plain, elements_of-range, elements_of-length}
use Rattle.call_texts.proofs.HexWords.{bytes_of-hex_text}
use Rattle.call_texts.proofs.NumberWords.{number_of-decimal, value_of-decimal}
use Rattle.call_texts.proofs.PlainWords.{number_word, small_word, hex_word}
use Rattle.call_texts.proofs.WordRanges.{number_of-range, value_of-range, bytes_of-range}

-- What is written is read back.

item-back : (item : Item) (behind : List (List ℕ)) → IsItemInRange item → item_spelled (words_of_item item ++ behind) ≡ Some (item, behind)
item-back item behind small =
    rw (
      number_of-decimal item.seg small.0,
      number_of-decimal item.offset small.1,
      number_of-decimal item.rseg small.2,
      number_of-decimal item.roffset small.3,
      number_of-decimal item.size small.4,
    ) refl

items-back : (items : List Item) (behind : List (List ℕ)) → AllByRecursion IsItemInRange items
    → items_spelled (length items) (flat_map words_of_item items ++ behind) ≡ Some (items, behind)
items-back [] behind small = refl
items-back (item ∷ items) behind small =
    rw (item-back item (flat_map words_of_item items ++ behind) small.0, items-back items behind small.1) refl

prefix-spelled : (front behind : List (List ℕ)) (count : ℕ) → length front ≡ count → words_split count (front ++ behind) ≡ Some (front, behind)
prefix-spelled front behind count long =
    let within : nat_le count (length (front ++ behind)) ≡ true = simp length-append (grind (arith, nat_tests)) in
    rw (within, take_at front behind count long, drop_at front behind count long) refl

elements-back : (numbers : TypedNumbers) (behind : List (List ℕ)) → IsInRange Elements numbers
    → elements_spelled (words_of_field Elements numbers ++ behind) ≡ Some (numbers, behind)
elements-back numbers behind small =
    rw (
      type_of-word numbers.num_type,
      number_of-decimal (length numbers.items) small.0,
      prefix-spelled (map signed_decimal numbers.items) behind (length numbers.items) (length-map numbers.items signed_decimal),
      elements_of-decimals numbers.num_type numbers.items small.1,
    ) refl

field-back : (field : Field) (value : FieldValue field) (behind : List (List ℕ)) → IsInRange field value
    → field_spelled field (words_of_field field value ++ behind) ≡ Some (value, behind)
field-back Number n behind small = rw (number_of-decimal n small) refl
field-back Value n behind small = rw (value_of-decimal n small) refl
field-back Bytes bytes behind small = rw (bytes_of-hex_text bytes small) refl
field-back Items items behind small = rw (number_of-decimal (length items) small.0) (items-back items behind small.1)
field-back Operation op behind small = rw (op_of-word op) refl
field-back Elements numbers behind small = elements-back numbers behind small

pub form-back : (form : List Field) (fields : Fields form) (behind : List (List ℕ)) → AreInRange form fields
    → fields_spelled form (words_of_fields form fields ++ behind) ≡ Some (fields, behind)
form-back [] fields behind small = refl
form-back (field ∷ form) (value, fields) behind small =
    rw (append_assoc, field-back field value (words_of_fields form fields ++ behind) small.0, form-back form fields behind small.1) refl

-- What words spell is in range.

one-range : {A : Type 0} (P : A → Type 0) (read : List ℕ → Option A) → ((word : List ℕ) (value : A) → read word ≡ Some value → P value)
    → (words : List (List ℕ)) (taken : A × List (List ℕ)) → first_spells read words ≡ Some taken → P taken.0
one-range {A = A} P read range [] taken is = absurd (none-some taken is)
one-range {A = A} P read range (word ∷ words) taken is =
    option_and_then_some _ (read word) taken is (λ value spelled found.
    subst (λ (t : A × List (List ℕ)). P t.0) (same_Some (value, words) taken found) (range word value spelled))

number-range : (words : List (List ℕ)) (taken : ℕ × List (List ℕ)) → first_spells number_of words ≡ Some taken → IsNumber taken.0
number-range words taken is = one-range (λ (n : ℕ). IsNumber n) number_of number_of-range words taken is

item-range : (words : List (List ℕ)) (taken : Item × List (List ℕ)) → item_spelled words ≡ Some taken → IsItemInRange taken.0
item-range words taken is =
    option_and_then_some _ (first_spells number_of words) taken is (λ seg first behind_seg.
    option_and_then_some _ (first_spells number_of seg.1) taken behind_seg (λ offset second behind_offset.
    option_and_then_some _ (first_spells number_of offset.1) taken behind_offset (λ rseg third behind_rseg.
    option_and_then_some _ (first_spells number_of rseg.1) taken behind_rseg (λ roffset fourth behind_roffset.
    option_and_then_some _ (first_spells number_of roffset.1) taken behind_roffset (λ size fifth same.
    subst (λ (t : Item × List (List ℕ)). IsItemInRange t.0) (same_Some (record { seg = seg.0; offset = offset.0; rseg = rseg.0; roffset = roffset.0; size = size.0 }, size.1) taken same) (
      number-range words seg first,
      number-range seg.1 offset second,
      number-range offset.1 rseg third,
      number-range rseg.1 roffset fourth,
      number-range roffset.1 size fifth,
    ))))))

pub record AreItems (count : ℕ) (items : List Item) : Type 0 where
  pub counted : length items ≡ count
  pub range : AllByRecursion IsItemInRange items

pub items-range : (count : ℕ) (words : List (List ℕ)) (taken : List Item × List (List ℕ)) → items_spelled count words ≡ Some taken → AreItems count taken.0
items-range zero words taken is =
    subst (λ (t : List Item × List (List ℕ)). AreItems zero t.0) (same_Some ([], words) taken is) (record { counted = refl; range = tt })
items-range (suc count) words taken is =
    option_and_then_some _ (item_spelled words) taken is (λ first spelled found.
    option_and_then_some _ (items_spelled count first.1) taken found (λ others read same.
    let later = items-range count first.1 others read in
    subst (λ (t : List Item × List (List ℕ)). AreItems (suc count) t.0) (same_Some (first.0 ∷ others.0, others.1) taken same)
    (record { counted = ap suc later.counted; range = (item-range words first spelled, later.range) })))

list-range : (words : List (List ℕ)) (taken : List Item × List (List ℕ)) → field_spelled Items words ≡ Some taken → IsInRange Items taken.0
list-range words taken is =
    option_and_then_some _ (first_spells number_of words) taken is (λ count spelled found.
    let items = items-range count.0 count.1 taken found in
    (subst (λ (n : ℕ). IsNumber n) (sym items.counted) (number-range words count spelled), items.range))

elements-range : (words : List (List ℕ)) (taken : TypedNumbers × List (List ℕ)) → elements_spelled words ≡ Some taken → IsInRange Elements taken.0
elements-range words taken is =
    option_and_then_some _ (first_spells type_of words) taken is (λ num_type first behind_type.
    option_and_then_some _ (first_spells number_of num_type.1) taken behind_type (λ count second behind_count.
    option_and_then_some _ (words_split count.0 count.1) taken behind_count (λ front third behind_front.
    option_and_then_some _ (elements_of num_type.0 front.0) taken behind_front (λ items fourth same.
    let cut = cond_some (nat_le count.0 (length count.1)) (take count.0 count.1, drop count.0 count.1) front third in
    let within : count.0 ≤ length count.1 = grind (arith, nat_tests, cut.0) in
    let long : length items ≡ count.0 =
    elements_of-length num_type.0 front.0 items fourth ∙ ap (λ (f : List (List ℕ) × List (List ℕ)). length f.0) (sym cut.1) ∙ length-take-le count.0 count.1 within in
    subst (λ (t : TypedNumbers × List (List ℕ)). IsInRange Elements t.0) (same_Some (record { num_type = num_type.0; items = items }, front.1) taken same) (
      subst (λ (n : ℕ). IsNumber n) (sym long) (number-range num_type.1 count second),
      elements_of-range num_type.0 front.0 items fourth,
    )))))

field-range : (field : Field) (words : List (List ℕ)) (taken : FieldValue field × List (List ℕ)) → field_spelled field words ≡ Some taken
    → IsInRange field taken.0
field-range Number words taken is = number-range words taken is
field-range Value words taken is = one-range (λ (n : ℕ). n < 2 ^ 32) value_of value_of-range words taken is
field-range Bytes words taken is = one-range IsBytes bytes_of bytes_of-range words taken is
field-range Items words taken is = list-range words taken is
field-range Operation words taken is = tt
field-range Elements words taken is = elements-range words taken is

pub form-range : (form : List Field) (words : List (List ℕ)) (taken : Fields form × List (List ℕ)) → fields_spelled form words ≡ Some taken
    → AreInRange form taken.0
form-range [] words taken is = tt
form-range (field ∷ form) words taken is =
    option_and_then_some _ (field_spelled field words) taken is (λ first spelled found.
    option_and_then_some _ (fields_spelled form first.1) taken found (λ others read same.
    subst (λ (t : (FieldValue field × Fields form) × List (List ℕ)). AreInRange (field ∷ form) t.0) (same_Some ((first.0, others.0), others.1) taken same)
    (field-range field words first spelled, form-range form first.1 others read)))

-- What is written are plain words.

both-plain : (words others : List (List ℕ)) → AllByRecursion IsPlainWord words → AllByRecursion IsPlainWord others → AllByRecursion IsPlainWord (words ++ others)
both-plain [] others first second = second
both-plain (word ∷ words) others first second = (first.0, both-plain words others first.1 second)

item-plain : (item : Item) → IsItemInRange item → AllByRecursion IsPlainWord (words_of_item item)
item-plain item small =
    (number_word item.seg small.0, (number_word item.offset small.1, (number_word item.rseg small.2, (number_word item.roffset small.3, (number_word item.size small.4, tt)))))

items-plain : (items : List Item) → AllByRecursion IsItemInRange items → AllByRecursion IsPlainWord (flat_map words_of_item items)
items-plain [] small = tt
items-plain (item ∷ items) small = both-plain (words_of_item item) (flat_map words_of_item items) (item-plain item small.0) (items-plain items small.1)

field-plain : (field : Field) (value : FieldValue field) → IsInRange field value → AllByRecursion IsPlainWord (words_of_field field value)
field-plain Number n small = (number_word n small, tt)
field-plain Value n small = (small_word n small, tt)
field-plain Bytes bytes small = (hex_word bytes small, tt)
field-plain Items items small = (number_word (length items) small.0, items-plain items small.1)
field-plain Operation op small = (op_plain op, tt)
field-plain Elements numbers small =
    (type_plain numbers.num_type, (number_word (length numbers.items) small.0, elements_plain numbers.num_type numbers.items small.1))

pub form-plain : (form : List Field) (fields : Fields form) → AreInRange form fields → AllByRecursion IsPlainWord (words_of_fields form fields)
form-plain [] fields small = tt
form-plain (field ∷ form) (value, fields) small =
    both-plain (words_of_field field value) (words_of_fields form fields) (field-plain field value small.0) (form-plain form fields small.1)
