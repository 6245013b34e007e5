-- Words joined by spaces, and the same words each behind a space.
use Rattle.std.proofs.Common.{◌≡◌, ℕ, ℤ, List, [], ◌∷◌, ◌++◌, length, map, refl, sym, ap, ◌∙◌, append-nil, append_assoc, arith}
use Rattle.std.proofs.lemmas.Grind.{common_steps}
use Rattle.std.specs.Fmt.{decimal, signed_decimal}
use Rattle.std.specs.List.{join_with_byte}
use Rattle.gaspi_types.specs.declared.calls.posts.Item.{Item}
use Rattle.gaspi_types.specs.declared.calls.posts.WriteList.{WriteList}
use Rattle.gaspi_types.specs.NumberTypes.{TypedNumbers}
use Rattle.gaspi_types.specs.declared.calls.collectives.Allreduce.{Allreduce}
use Rattle.gaspi_types.specs.declared.calls.Call.TheVariants as calls
use Rattle.call_texts.specs.CallText.{spelling_of, call_text}
use Rattle.call_texts.specs.Elements.{type_word, op_word}
use Rattle.call_texts.specs.Fields.{words_of_field}
use Rattle.call_texts.specs.Written.{spaced, spaced_numbers, spaced_elements}
use Rattle.call_texts.specs.declared.fields.Field.TheVariants.{Items, Elements}
use Rattle.call_texts.specs.declared.call_words.CallWord.TheVariants as words

pub join_numbers : (word : List ℕ) (numbers : List ℕ) → join_with_byte 32 (word ∷ map decimal numbers) ≡ word ++ spaced_numbers numbers
join_numbers word [] = sym (append-nil word)
join_numbers word (n ∷ numbers) = ap (λ (rest : List ℕ). word ++ (32 ∷ rest)) (join_numbers (decimal n) numbers)

join_spaced : (word : List ℕ) (behind : List (List ℕ)) → join_with_byte 32 (word ∷ behind) ≡ word ++ spaced behind
join_spaced word [] = sym (append-nil word)
join_spaced word (next ∷ behind) = ap (λ (rest : List ℕ). word ++ (32 ∷ rest)) (join_spaced next behind)

-- words joined, and those behind them each behind a space
pub join_behind : (word : List ℕ) (front behind : List (List ℕ)) → join_with_byte 32 (word ∷ (front ++ behind)) ≡ join_with_byte 32 (word ∷ front) ++ spaced behind
join_behind word [] behind = join_spaced word behind
join_behind word (next ∷ front) behind =
    ap (λ (rest : List ℕ). word ++ (32 ∷ rest)) (join_behind next front behind) ∙ sym (append_assoc word (32 ∷ join_with_byte 32 (next ∷ front)) (spaced behind))

-- the words of a list of writes: its items stand last
pub write_list-text : (call : WriteList) (old word : List ℕ) (items : List Item) → word ≡ spelling_of words.WriteList → items ≡ call.items
    → old ++ join_with_byte 32 (word ∷ (map decimal (call.rank ∷ call.queue ∷ []) ++ words_of_field Items items)) ≡ old ++ call_text (calls.WriteList call)
write_list-text call old word items spelled same =
    ap (λ (w : List ℕ). old ++ join_with_byte 32 (w ∷ (map decimal (call.rank ∷ call.queue ∷ []) ++ words_of_field Items items))) spelled
    ∙ ap (λ (listed : List Item). old ++ join_with_byte 32 (spelling_of words.WriteList ∷ decimal call.rank ∷ decimal call.queue ∷ words_of_field Items listed)) same
    ∙ ap (λ (last : List (List ℕ)). old ++ join_with_byte 32 (spelling_of words.WriteList ∷ decimal call.rank ∷ decimal call.queue ∷ last)) (sym (append-nil (words_of_field Items call.items)))

-- elements as words, each behind a space
pub spaced-elements : (items : List ℤ) → spaced (map signed_decimal items) ≡ spaced_elements items
spaced-elements [] = refl
spaced-elements (z ∷ items) = ap (λ (rest : List ℕ). 32 ∷ (signed_decimal z ++ rest)) (spaced-elements items)

-- the text of an allreduce by its parts
pub allreduce-text : (call : Allreduce)
    → call_text (calls.Allreduce call)
    ≡ join_with_byte 32 (spelling_of words.Allreduce ∷ decimal call.group ∷ []) ++ (32 ∷ (op_word call.op ++ spaced (words_of_field Elements call.values)))
allreduce-text call =
    join_behind (spelling_of words.Allreduce) (decimal call.group ∷ []) (op_word call.op ∷ (words_of_field Elements call.values ++ []))
    ∙ ap (λ (last : List (List ℕ)). join_with_byte 32 (spelling_of words.Allreduce ∷ decimal call.group ∷ []) ++ (32 ∷ (op_word call.op ++ spaced last))) (append-nil (words_of_field Elements call.values))

-- two words and others behind a text
behind-two : (old first second rest : List ℕ)
    → ((old ++ (32 ∷ first)) ++ (32 ∷ (second ++ []))) ++ rest ≡ old ++ (32 ∷ (first ++ (32 ∷ (second ++ rest))))
behind-two old first second rest = rw (append-nil second) (grind (arith, common_steps))

-- a type, the number of elements and these behind a text
pub typed-text : (numbers : TypedNumbers) (old first second word : List ℕ) (items : List ℤ)
    → word ≡ type_word numbers.num_type → items ≡ numbers.items
    → first ≡ old ++ (32 ∷ word) → second ≡ first ++ spaced_numbers (length items ∷ [])
    → second ++ spaced_elements items ≡ old ++ spaced (words_of_field Elements numbers)
typed-text numbers old first second word items spelled same one two =
    rw (two, one, same, spelled, ← spaced-elements numbers.items)
    (behind-two old (type_word numbers.num_type) (decimal (length numbers.items)) (spaced (map signed_decimal numbers.items)))
