-- A call's text, read back, and the calls that words spell.
use Rattle.std.proofs.Common.{◌≡◌, ◌≢◌, ◌<◌, ℕ, true, false, Bool, cond, ◌==◌, length, List, [], ◌∷◌, Option, Some, None, lit<, refl, sym, ap, subst, ◌∙◌, append-nil}
use Rattle.std.specs.List.{AllByRecursion, list_all}
use Rattle.std.proofs.lemmas.Option.{cond_some, option_and_then_some, same_Some, none-some}
use Rattle.call_texts.specs.CallText.{Spelled, spelling_of, form_of, call_word_of, has_timeout, spelled, call_with, call_taken, with_nothing_left, call_by, call_of, is_end_text, recorded_call_of, call_of_text, end_word, words_of_spelled, words_of_call, call_text, IsSpelledInRange, IsWritable}
use Rattle.call_texts.specs.Fields.{Fields, AreInRange, words_of_fields, fields_spelled}
use Rattle.call_texts.specs.Words.{is_plain, IsPlainWord}
use Rattle.gaspi_types.specs.CallRows.{row_of}
use Rattle.gaspi_types.specs.declared.calls.Call.{Call}
use Rattle.gaspi_types.specs.declared.calls.Call.TheVariants as calls
use Rattle.call_texts.specs.declared.call_words.CallWord.{CallWord}
use Rattle.call_texts.specs.declared.call_words.CallWord.TheVariants.{Wait}
use Rattle.call_texts.proofs.FormWords.{form-back, form-range, form-plain}
use Rattle.call_texts.proofs.PlainWords.{fixed_word}
use Rattle.call_texts.proofs.WordTexts.{words_of-plain}

-- What spells a call, and the call that it spells, for all words and calls.

word-spelled : (word : CallWord) → call_word_of (spelling_of word) ≡ Some word
unfolding call_word_of
word-spelled Wait = refl
word-spelled word = refl

word-filled : (word : CallWord) → 0 < length (spelling_of word)
word-filled Wait = lit< tt
word-filled word = lit< tt

word-plain : (word : CallWord) → list_all is_plain (spelling_of word) ≡ true
unfolding is_plain
word-plain Wait = refl
word-plain word = refl

no-end : (word : CallWord) (arguments : List (List ℕ)) → is_end_text (spelling_of word ∷ arguments) ≡ false
no-end Wait [] = refl
no-end word [] = refl
no-end word (argument ∷ arguments) = refl

pub spelled-call : (word : CallWord) (fields : Fields (form_of word)) → spelled (call_with word fields) ≡ Some (record { word = word; fields = fields })
spelled-call Wait fields = refl
spelled-call word fields = refl

-- a call, from what spells it
abbrev call_from : Option Spelled → Call
call_from None = calls.End
call_from (Some s) = call_with s.word s.fields

call-spelled : (call : Call) → call_from (spelled call) ≡ call
call-spelled calls.End = refl
call-spelled call = refl

-- Each word of a call is plain.

spelled-plain : (s : Option Spelled) → IsSpelledInRange s → AllByRecursion IsPlainWord (words_of_spelled s)
unfolding is_plain
spelled-plain None small = (fixed_word end_word (lit< tt) refl, tt)
spelled-plain (Some s) small = (fixed_word (spelling_of s.word) (word-filled s.word) (word-plain s.word), form-plain (form_of s.word) s.fields small)

pub words_of_call-plain : (call : Call) → IsWritable call → AllByRecursion IsPlainWord (words_of_call call)
words_of_call-plain call small = spelled-plain (spelled call) small

-- The words of a call spell it.

taken-back : (word : CallWord) (fields : Fields (form_of word)) → AreInRange (form_of word) fields
    → call_taken word (words_of_fields (form_of word) fields) ≡ Some (call_with word fields, [])
unfolding call_taken
taken-back word fields small =
    let back = form-back (form_of word) fields [] small in
    let read : fields_spelled (form_of word) (words_of_fields (form_of word) fields) ≡ Some (fields, []) = rw append-nil at back in
    rw read refl

spelled-back : (s : Option Spelled) → IsSpelledInRange s → recorded_call_of (words_of_spelled s) ≡ Some (call_from s)
unfolding recorded_call_of call_of
spelled-back None small = refl
spelled-back (Some s) small =
    rw (no-end s.word (words_of_fields (form_of s.word) s.fields), word-spelled s.word, taken-back s.word s.fields small) refl

pub call_of-words : (call : Call) → IsWritable call → recorded_call_of (words_of_call call) ≡ Some call
call_of-words call small = spelled-back (spelled call) small ∙ ap (λ (c : Call). Some c) (call-spelled call)

pub call_of_text-call_text : (call : Call) → IsWritable call → call_of_text (call_text call) ≡ Some call
call_of_text-call_text call h = ap recorded_call_of (words_of-plain (words_of_call call) (words_of_call-plain call h)) ∙ call_of-words call h

-- What words spell is a call in range that has a word, and so no end.

record HasWord (call : Call) : Type 0 where
  what : Spelled
  spells : spelled call ≡ Some what
  range : AreInRange (form_of what.word) what.fields

found-word : (word : CallWord) (words : List (List ℕ)) (taken : Call × List (List ℕ)) → call_taken word words ≡ Some taken → HasWord taken.0
unfolding call_taken
found-word word words taken is =
    option_and_then_some _ (fields_spelled (form_of word) words) taken is (λ found read same.
    subst (λ (t : Call × List (List ℕ)). HasWord t.0) (same_Some (call_with word found.0, found.1) taken same)
    (record {
      what = record { word = word; fields = found.0 };
      spells = spelled-call word found.0;
      range = form-range (form_of word) words found read;
    }))

alone : (taken : Call × List (List ℕ)) (call : Call) → with_nothing_left taken ≡ Some call → HasWord taken.0 → HasWord call
alone taken call is has = subst (λ (c : Call). HasWord c) (cond_some (length taken.1 == 0) taken.0 call is).1 has

by-word : (word : CallWord) (arguments : List (List ℕ)) (call : Call) → call_by word arguments ≡ Some call → HasWord call
by-word word arguments call is =
    option_and_then_some _ (call_taken word arguments) call is (λ taken read whole. alone taken call whole (found-word word arguments taken read))

call-word : (words : List (List ℕ)) (call : Call) → call_of words ≡ Some call → HasWord call
unfolding call_of
call-word [] call is = absurd (none-some call is)
call-word (first ∷ arguments) call is =
    option_and_then_some _ (call_word_of first) call is (λ word spells found. by-word word arguments call found)

word-writable : (call : Call) → HasWord call → IsWritable call
word-writable call has = subst (λ (s : Option Spelled). IsSpelledInRange s) (sym has.spells) has.range

recorded-range : (words : List (List ℕ)) (call : Call) (ends : Bool) → cond ends (Some calls.End) (call_of words) ≡ Some call → IsWritable call
recorded-range words call true is = subst (λ (c : Call). IsWritable c) (same_Some calls.End call is) tt
recorded-range words call false is = word-writable call (call-word words call is)

pub recorded_call_of-range : (words : List (List ℕ)) (call : Call) → recorded_call_of words ≡ Some call → IsWritable call
unfolding recorded_call_of
recorded_call_of-range words call is = recorded-range words call (is_end_text words) is

no-end-spelled : (call : Call) → HasWord call → call ≢ calls.End
no-end-spelled call has end = none-some has.what (ap spelled (sym end) ∙ has.spells)

pub call_by-no_end : (word : CallWord) (words : List (List ℕ)) (call : Call) → call_by word words ≡ Some call → call ≢ calls.End
call_by-no_end word words call is = no-end-spelled call (by-word word words call is)

pub call_of-no_end : (words : List (List ℕ)) (call : Call) → call_of words ≡ Some call → call ≢ calls.End
call_of-no_end words call is = no-end-spelled call (call-word words call is)

-- The timeouts of words are those of the calls' rows.

pub timeout-row : (word : CallWord) (fields : Fields (form_of word)) → (row_of (call_with word fields)).times_out ≡ has_timeout word
timeout-row Wait fields = refl
timeout-row word fields = refl
