-- A call's word is found among those whose spelling is as long.
use Rattle.std.proofs.Common.{◌≡◌, ℕ, Bool, true, false, cond, ◌==◌, length, List, [], ◌∷◌, Some, refl, ap}
use Rattle.std.specs.List.{find, filter}
use Rattle.std.specs.Str.{bytes_eq}
use Rattle.std.proofs.lemmas.Bool.Decides.{Decides-eqb}
use Rattle.std.proofs.lemmas.Slice.Eq.{bytes_eq-Decides}
use Rattle.call_texts.specs.CallText.{spelling_of, words_of_length, call_words, call_word_of}
use Rattle.call_texts.specs.declared.call_words.CallWord.{CallWord}

-- what is found is found among those that a weaker test keeps
next-narrowed : (p : CallWord → Bool) (a b : Bool) (word : CallWord) (words kept : List CallWord) → p word ≡ a → (a ≡ true → b ≡ true)
    → find p words ≡ find p kept → cond a (Some word) (find p words) ≡ find p (cond b (word ∷ kept) kept)
next-narrowed p true true word words kept is weaker same = rw is refl
next-narrowed p true false word words kept is weaker same = absurd (let no : ⊥ = (let yes = weaker refl in cc) in no)
next-narrowed p false true word words kept is weaker same = rw is same
next-narrowed p false false word words kept is weaker same = same

narrowed : (p q : CallWord → Bool) → ((word : CallWord) → p word ≡ true → q word ≡ true) → (words : List CallWord) → find p words ≡ find p (filter q words)
narrowed p q weaker [] = refl
narrowed p q weaker (word ∷ words) =
    next-narrowed p (p word) (q word) word words (filter q words) refl (weaker word) (narrowed p q weaker words)

pub call_word_of-length : (word : List ℕ) → call_word_of word ≡ find (λ call. bytes_eq (spelling_of call) word) (words_of_length (length word))
unfolding call_word_of words_of_length
call_word_of-length word =
    narrowed (λ call. bytes_eq (spelling_of call) word) (λ call. length (spelling_of call) == length word)
    (λ call same. (Decides-eqb (length (spelling_of call)) (length word)).1 (ap length ((bytes_eq-Decides (spelling_of call) word).0 same))) call_words
