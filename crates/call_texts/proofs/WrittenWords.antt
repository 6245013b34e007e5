-- What words without leading zeros spell is written as these words.
use Rattle.std.proofs.Common.{◌≡◌, ℕ, zero, suc, ◌^◌, ◌<◌, ◌≤◌, Bool, true, false, cond, ◌==◌, ◌&&◌, nat_lt, nat_le, List, [], ◌∷◌, ◌++◌, length, get_or, Option, Some, lit<, refl, sym, ap, ◌∙◌, subst, append_assoc, append-nil, arith}
use Rattle.std.specs.Char.{is_ascii_digit}
use Rattle.std.specs.Fmt.{decimal}
use Rattle.std.specs.List.{AllByRecursion, flat_map, list_all}
use Rattle.std.specs.Str.{bytes_eq}
use Rattle.std.specs.Str.Parse.{digits_value}
use Rattle.std.proofs.lemmas.Bool.{and_parts}
use Rattle.std.proofs.lemmas.Bool.Decides.{nat_tests}
use Rattle.std.proofs.lemmas.Fmt.{decimal_digit, first_decimal, decimal-digits_value}
use Rattle.std.proofs.lemmas.Option.{option_and_then_some, cond_some, same_Some, none-some}
use Rattle.std.proofs.lemmas.Slice.Eq.{bytes_eq-Decides}
use Rattle.gaspi_types.specs.declared.calls.Call.{Call}
use Rattle.gaspi_types.specs.declared.calls.Call.TheVariants as calls
use Rattle.gaspi_types.specs.declared.calls.posts.Item.{Item}
use Rattle.gaspi_types.proofs.Found.{found_passes}
use Rattle.call_texts.specs.CallText.{spelling_of, form_of, call_words, call_word_of, spelled, call_with, call_taken, call_by, call_of, end_word, is_end_text, recorded_call_of, words_of_spelled, words_of_call, is_spelled_numeric, is_call_numeric}
use Rattle.call_texts.specs.Fields.{FieldValue, words_of_item, words_of_field, first_spells, item_spelled, items_spelled, field_spelled, is_numeric, Fields, words_of_fields, fields_spelled, are_numeric}
use Rattle.call_texts.specs.Numbers.{is_numeral, number_up_to, number_of, value_of, has_leading_zero}
use Rattle.call_texts.specs.declared.call_words.CallWord.{CallWord}
use Rattle.call_texts.specs.declared.fields.Field.{Field}
use Rattle.call_texts.specs.declared.fields.Field.TheVariants.{Number, Value, Bytes, Items, Operation, Elements}
use Rattle.call_texts.proofs.CallTexts.{spelled-call}
use Rattle.call_texts.proofs.FormWords.{items-range}
use Rattle.call_texts.proofs.NumberWords.{digit_words}

-- Numbers.

later-digit : (word : List ℕ) → 48 < get_or word 0 0 → has_leading_zero word ≡ false
later-digit [] high = refl
later-digit (first ∷ []) high = refl
later-digit (first ∷ second ∷ rest) high =
    let other : (first == 48) ≡ false = grind (arith, nat_tests) in
    rw other refl

pub decimal-leads : (n : ℕ) → n < 2 ^ 64 → has_leading_zero (decimal n) ≡ false
decimal-leads zero small = rw (decimal_digit 0 (lit< tt)) refl
decimal-leads (suc n) small = later-digit (decimal (suc n)) (first_decimal (suc n) (omega arith) small)

-- digits that begin with a zero, and have no leading zero, are that zero
zero-alone : (word : List ℕ) → list_all is_ascii_digit word ≡ true → has_leading_zero word ≡ false → get_or word 0 0 ≡ 48 → length word ≡ 1
zero-alone [] digits leads first = absurd (omega (arith, first))
zero-alone (byte ∷ []) digits leads first = refl
zero-alone (byte ∷ second ∷ rest) digits leads first =
    let zero : (byte == 48) ≡ true = grind (arith, nat_tests, first) in
    let digit = (and_parts (is_ascii_digit second) (list_all is_ascii_digit rest) (and_parts (is_ascii_digit byte) (is_ascii_digit second && list_all is_ascii_digit rest) digits).1).0 in
    absurd (let no : true ≡ false = sym (rw (zero, digit) refl) ∙ leads in cc)

digits-written : (limit : ℕ) → limit < 2 ^ 64 → (word : List ℕ) (n : ℕ) → number_up_to limit word ≡ Some n → has_leading_zero word ≡ false → decimal n ≡ word
digits-written limit low word n is leads =
    let cut = cond_some (is_numeral word && nat_le (digits_value 10 word) limit) (digits_value 10 word) n is in
    let parts = and_parts (is_numeral word) (nat_le (digits_value 10 word) limit) cut.0 in
    let numeral = and_parts (nat_lt 0 (length word)) (list_all is_ascii_digit word) parts.0 in
    let filled : 0 < length word = grind (arith, nat_tests, numeral.0) in
    let small : digits_value 10 word ≤ limit = grind (arith, nat_tests, parts.1) in
    ap decimal (sym cut.1) ∙ decimal-digits_value digit_words word numeral.1 filled (zero-alone word numeral.1 leads) (omega arith)

pub number-written : (word : List ℕ) (n : ℕ) → number_of word ≡ Some n → has_leading_zero word ≡ false → decimal n ≡ word
unfolding number_of
number-written word n is leads = digits-written 18446744073709551615 (omega arith) word n is leads

pub value-written : (word : List ℕ) (n : ℕ) → value_of word ≡ Some n → has_leading_zero word ≡ false → decimal n ≡ word
unfolding value_of
value-written word n is leads = digits-written 4294967295 (omega arith) word n is leads

-- Fields.

abbrev HasNoLeads : List (List ℕ) → Type 0
HasNoLeads words = AllByRecursion (λ word. has_leading_zero word ≡ false) words

-- these words are in front of those behind
record IsWritten (front behind words : List (List ℕ)) : Type 0 where
  whole : front ++ behind ≡ words
  leads : HasNoLeads behind

both-written : (first second middle behind words : List (List ℕ)) → IsWritten first middle words → IsWritten second behind middle → IsWritten (first ++ second) behind words
both-written first second middle behind words one two =
    record {
      whole = append_assoc first second behind ∙ ap (λ (rest : List (List ℕ)). first ++ rest) two.whole ∙ one.whole;
      leads = two.leads;
    }

one-written : (read : List ℕ → Option ℕ) → ((word : List ℕ) (n : ℕ) → read word ≡ Some n → has_leading_zero word ≡ false → decimal n ≡ word)
    → (words : List (List ℕ)) (taken : ℕ × List (List ℕ)) → first_spells read words ≡ Some taken → HasNoLeads words → IsWritten (decimal taken.0 ∷ []) taken.1 words
one-written read written [] taken is leads = absurd (none-some taken is)
one-written read written (word ∷ words) taken is leads =
    option_and_then_some _ (read word) taken is (λ n spelled found.
    subst (λ (t : ℕ × List (List ℕ)). IsWritten (decimal t.0 ∷ []) t.1 (word ∷ words)) (same_Some (n, words) taken found)
    (record { whole = ap (λ (w : List ℕ). w ∷ words) (written word n spelled leads.0); leads = leads.1 }))

number-first : (words : List (List ℕ)) (taken : ℕ × List (List ℕ)) → first_spells number_of words ≡ Some taken → HasNoLeads words → IsWritten (decimal taken.0 ∷ []) taken.1 words
number-first words taken is leads = one-written number_of number-written words taken is leads

item-written : (words : List (List ℕ)) (taken : Item × List (List ℕ)) → item_spelled words ≡ Some taken → HasNoLeads words → IsWritten (words_of_item taken.0) taken.1 words
item-written words taken is leads =
    option_and_then_some _ (first_spells number_of words) taken is (λ seg first behind_seg.
    option_and_then_some _ (first_spells number_of seg.1) taken behind_seg (λ offset second behind_offset.
    option_and_then_some _ (first_spells number_of offset.1) taken behind_offset (λ rseg third behind_rseg.
    option_and_then_some _ (first_spells number_of rseg.1) taken behind_rseg (λ roffset fourth behind_roffset.
    option_and_then_some _ (first_spells number_of roffset.1) taken behind_roffset (λ size fifth same.
    let one = number-first words seg first leads in
    let two = number-first seg.1 offset second one.leads in
    let three = number-first offset.1 rseg third two.leads in
    let four = number-first rseg.1 roffset fourth three.leads in
    let five = number-first roffset.1 size fifth four.leads in
    subst (λ (t : Item × List (List ℕ)). IsWritten (words_of_item t.0) t.1 words) (same_Some (record { seg = seg.0; offset = offset.0; rseg = rseg.0; roffset = roffset.0; size = size.0 }, size.1) taken same)
    (both-written (decimal seg.0 ∷ []) (decimal offset.0 ∷ decimal rseg.0 ∷ decimal roffset.0 ∷ decimal size.0 ∷ []) seg.1 size.1 words one
    (both-written (decimal offset.0 ∷ []) (decimal rseg.0 ∷ decimal roffset.0 ∷ decimal size.0 ∷ []) offset.1 size.1 seg.1 two
    (both-written (decimal rseg.0 ∷ []) (decimal roffset.0 ∷ decimal size.0 ∷ []) rseg.1 size.1 offset.1 three
    (both-written (decimal roffset.0 ∷ []) (decimal size.0 ∷ []) roffset.1 size.1 rseg.1 four five)))))))))

items-written : (count : ℕ) (words : List (List ℕ)) (taken : List Item × List (List ℕ)) → items_spelled count words ≡ Some taken → HasNoLeads words
    → IsWritten (flat_map words_of_item taken.0) taken.1 words
items-written zero words taken is leads =
    subst (λ (t : List Item × List (List ℕ)). IsWritten (flat_map words_of_item t.0) t.1 words) (same_Some ([], words) taken is) (record { whole = refl; leads = leads })
items-written (suc count) words taken is leads =
    option_and_then_some _ (item_spelled words) taken is (λ first spelled found.
    option_and_then_some _ (items_spelled count first.1) taken found (λ others read same.
    let front = item-written words first spelled leads in
    subst (λ (t : List Item × List (List ℕ)). IsWritten (flat_map words_of_item t.0) t.1 words) (same_Some (first.0 ∷ others.0, others.1) taken same)
    (both-written (words_of_item first.0) (flat_map words_of_item others.0) first.1 others.1 words front (items-written count first.1 others read front.leads))))

list-written : (words : List (List ℕ)) (taken : List Item × List (List ℕ)) → field_spelled Items words ≡ Some taken → HasNoLeads words
    → IsWritten (words_of_field Items taken.0) taken.1 words
list-written words taken is leads =
    option_and_then_some _ (first_spells number_of words) taken is (λ count spelled found.
    let front = number-first words count spelled leads in
    let items = items-range count.0 count.1 taken found in
    subst (λ (n : ℕ). IsWritten (decimal n ∷ flat_map words_of_item taken.0) taken.1 words) (sym items.counted)
    (both-written (decimal count.0 ∷ []) (flat_map words_of_item taken.0) count.1 taken.1 words front (items-written count.0 count.1 taken found front.leads)))

field-written : (field : Field) → is_numeric field ≡ true → (words : List (List ℕ)) (taken : FieldValue field × List (List ℕ)) → field_spelled field words ≡ Some taken → HasNoLeads words
    → IsWritten (words_of_field field taken.0) taken.1 words
field-written Number numeric words taken is leads = number-first words taken is leads
field-written Value numeric words taken is leads = one-written value_of value-written words taken is leads
field-written Bytes numeric words taken is leads = absurd (let no : ⊥ = cc in no)
field-written Items numeric words taken is leads = list-written words taken is leads
field-written Operation numeric words taken is leads = absurd (let no : ⊥ = cc in no)
field-written Elements numeric words taken is leads = absurd (let no : ⊥ = cc in no)

form-written : (form : List Field) → are_numeric form ≡ true → (words : List (List ℕ)) (taken : Fields form × List (List ℕ)) → fields_spelled form words ≡ Some taken → HasNoLeads words
    → IsWritten (words_of_fields form taken.0) taken.1 words
form-written [] numeric words taken is leads =
    subst (λ (t : Fields [] × List (List ℕ)). IsWritten [] t.1 words) (same_Some (tt, words) taken is) (record { whole = refl; leads = leads })
form-written (field ∷ form) numeric words taken is leads =
    option_and_then_some _ (field_spelled field words) taken is (λ first spelled found.
    option_and_then_some _ (fields_spelled form first.1) taken found (λ others read same.
    let both = and_parts (is_numeric field) (are_numeric form) numeric in
    let front = field-written field both.0 words first spelled leads in
    subst (λ (t : (FieldValue field × Fields form) × List (List ℕ)). IsWritten (words_of_fields (field ∷ form) t.0) t.1 words) (same_Some ((first.0, others.0), others.1) taken same)
    (both-written (words_of_field field first.0) (words_of_fields form others.0) first.1 others.1 words front (form-written form both.1 first.1 others read front.leads))))

-- Calls.

spelled-word : (first : List ℕ) (word : CallWord) → call_word_of first ≡ Some word → spelling_of word ≡ first
unfolding call_word_of
spelled-word first word is =
    (bytes_eq-Decides (spelling_of word) first).0 (found_passes (λ call. bytes_eq (spelling_of call) first) call_words word is)

-- the words of a call that has these fields
fields-written : (word : CallWord) (words : List (List ℕ)) (taken : Call × List (List ℕ)) → call_taken word words ≡ Some taken → is_call_numeric taken.0 ≡ true → HasNoLeads words → length taken.1 ≡ 0
    → words_of_call taken.0 ≡ spelling_of word ∷ words
unfolding call_taken
fields-written word words taken is numeric leads over =
    option_and_then_some _ (fields_spelled (form_of word) words) taken is (λ found read same.
    subst (λ (t : Call × List (List ℕ)). is_call_numeric t.0 ≡ true → length t.1 ≡ 0 → words_of_call t.0 ≡ spelling_of word ∷ words) (same_Some (call_with word found.0, found.1) taken same)
    (λ all none. ap words_of_spelled (spelled-call word found.0) ∙ ap (λ (rest : List (List ℕ)). spelling_of word ∷ rest) (alone found (form-written (form_of word) (sym (ap is_spelled_numeric (spelled-call word found.0)) ∙ all) words found read leads) none))
    numeric over)
  where
    alone : (found : Fields (form_of word) × List (List ℕ)) → IsWritten (words_of_fields (form_of word) found.0) found.1 words → length found.1 ≡ 0 → words_of_fields (form_of word) found.0 ≡ words
    alone (fields, []) written none = sym (append-nil (words_of_fields (form_of word) fields)) ∙ written.whole
    alone (fields, left ∷ lefts) written none = absurd (omega (arith, none))

by-written : (word : CallWord) (words : List (List ℕ)) (call : Call) → call_by word words ≡ Some call → is_call_numeric call ≡ true → HasNoLeads words → words_of_call call ≡ spelling_of word ∷ words
by-written word words call is numeric leads =
    option_and_then_some _ (call_taken word words) call is (λ taken read whole.
    let cut = cond_some (length taken.1 == 0) taken.0 call whole in
    let none : length taken.1 ≡ 0 = grind (arith, nat_tests, cut.0) in
    ap words_of_call (sym cut.1) ∙ fields-written word words taken read (ap is_call_numeric cut.1 ∙ numeric) leads none)

script-written : (words : List (List ℕ)) (call : Call) → call_of words ≡ Some call → is_call_numeric call ≡ true → HasNoLeads words → words_of_call call ≡ words
unfolding call_of
script-written [] call is numeric leads = absurd (none-some call is)
script-written (first ∷ arguments) call is numeric leads =
    option_and_then_some _ (call_word_of first) call is (λ word spells found.
    by-written word arguments call found numeric leads.1 ∙ ap (λ (w : List ℕ). w ∷ arguments) (spelled-word first word spells))

end-written : (words : List (List ℕ)) → is_end_text words ≡ true → end_word ∷ [] ≡ words
end-written [] ends = absurd (let no : ⊥ = cc in no)
end-written (word ∷ []) ends = ap (λ (w : List ℕ). w ∷ []) ((bytes_eq-Decides end_word word).0 ends)
end-written (word ∷ next ∷ words) ends = absurd (let no : ⊥ = cc in no)

pub call-written : (words : List (List ℕ)) (call : Call) → recorded_call_of words ≡ Some call → is_call_numeric call ≡ true → HasNoLeads words → words_of_call call ≡ words
unfolding recorded_call_of
call-written words call is numeric leads = by (is_end_text words) refl is
  where
    by : (ends : Bool) → is_end_text words ≡ ends → cond ends (Some calls.End) (call_of words) ≡ Some call → words_of_call call ≡ words
    by true end same = ap words_of_call (sym (same_Some calls.End call same)) ∙ end-written words end
    by false end same = script-written words call same numeric leads
