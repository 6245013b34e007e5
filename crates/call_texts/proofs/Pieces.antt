-- The words of a text by its first blank.
use Rattle.std.proofs.Common.{◌≡◌, ℕ, ◌+◌, ◌<◌, ◌≤◌, Bool, true, false, cond, not, ◌==◌, nat_lt, List, [], ◌∷◌, ◌++◌, length, take, drop, Some, None, refl, ap, ◌∙◌, subst, append-nil, arith}
use Rattle.std.specs.List.{position, position_or_len, slice_split, filter}
use Rattle.std.proofs.lemmas.Bool.Decides.{nat_tests}
use Rattle.std.proofs.lemmas.List.Splits.{slice_split_none, slice_split_first}
use Rattle.std.proofs.lemmas.List.Sums.{fails_before_first}
use Rattle.call_texts.specs.Words.{is_blank, words_of, words_in_piece, pieces_of}

found : (b : Bool) (n end : ℕ) → cond b (Some n) None ≡ Some end → (b ≡ true) × (n ≡ end)
found true n end h = (refl, cc)
found false n end h = absurd (let no : ⊥ = cc in no)

missing : (b : Bool) (n : ℕ) → cond b (Some n) None ≡ None → b ≡ false
missing true n h = absurd (let no : ⊥ = cc in no)
missing false n h = refl

-- the piece up to the first byte that ends one
piece : (ends : ℕ → Bool) (text : List ℕ) (end : ℕ) → position ends text ≡ Some end → slice_split ends text ≡ take end text ∷ slice_split ends (drop (end + 1) text)
piece ends text end at =
    let there = found (nat_lt (position_or_len ends text) (length text)) (position_or_len ends text) end at in
    let inside : position_or_len ends text < length text = grind (arith, nat_tests) in
    subst (λ (n : ℕ). slice_split ends text ≡ take n text ∷ slice_split ends (drop (n + 1) text)) there.1 (slice_split_first ends text 0 inside)

-- a text without such a byte is one piece
last-piece : (ends : ℕ → Bool) (text : List ℕ) → position ends text ≡ None → slice_split ends text ≡ text ∷ []
last-piece ends text at =
    let past = missing (nat_lt (position_or_len ends text) (length text)) (position_or_len ends text) at in
    let all : length text ≤ position_or_len ends text = grind (arith, nat_tests) in
    slice_split_none ends text (λ k d inside. fails_before_first ends text k d (omega arith))

-- what is kept of a first piece
kept : (word : List ℕ) (rest : List (List ℕ)) → filter (λ w. not (length w == 0)) (word ∷ rest) ≡ words_in_piece word ++ filter (λ w. not (length w == 0)) rest
kept [] rest = refl
kept (byte ∷ word) rest =
    let filled : (length (byte ∷ word) == 0) ≡ false = grind (arith, nat_tests) in
    rw filled refl

-- the words up to the first blank, and those behind it
pub words_of-piece : (text : List ℕ) (end : ℕ) → position is_blank text ≡ Some end → words_of text ≡ words_in_piece (take end text) ++ words_of (drop (end + 1) text)
unfolding words_of
words_of-piece text end at =
    ap (filter (λ w. not (length w == 0))) (piece is_blank text end at) ∙ kept (take end text) (slice_split is_blank (drop (end + 1) text))

pub words_of-last : (text : List ℕ) → position is_blank text ≡ None → words_of text ≡ words_in_piece text
unfolding words_of
words_of-last text at = ap (filter (λ w. not (length w == 0))) (last-piece is_blank text at) ∙ kept text [] ∙ append-nil (words_in_piece text)

-- the pieces up to the first space, and those behind it
pub pieces_of-first : (text : List ℕ) (end : ℕ) → position (λ byte. byte == 32) text ≡ Some end → pieces_of text ≡ take end text ∷ pieces_of (drop (end + 1) text)
pieces_of-first text end at = piece (λ (byte : ℕ). byte == 32) text end at

pub pieces_of-last : (text : List ℕ) → position (λ byte. byte == 32) text ≡ None → pieces_of text ≡ text ∷ []
pieces_of-last text at = last-piece (λ (byte : ℕ). byte == 32) text at
