-- Lines with their line feeds.
use Rattle.std.proofs.Common.{◌≡◌, ℕ, zero, suc, ◌+◌, ◌<◌, ◌≤◌, Bool, true, false, cond, not, ◌&&◌, ◌==◌, List, [], ◌∷◌, ◌++◌, length, get_or, take, drop, Some, None, refl, sym, ap, ◌∙◌, arith, add-one, append_assoc}
use Rattle.std.specs.List.{list_all, concat, onto_first}
use Rattle.memchr.specs.Find.{IsFirstByte, is_byte}
use Rattle.call_texts.specs.Lines.{fed_lines}

-- The first line.

-- a byte that is no line feed stands at the front of the first line
onto : (byte : ℕ) (bytes : List ℕ) (lines : List (List ℕ)) → (byte == 10) ≡ false → fed_lines bytes ≡ lines → fed_lines (byte ∷ bytes) ≡ onto_first byte lines
onto byte bytes lines other rest = rw (other, rest) refl

-- the byte there is a line feed
abbrev IsFeedAt : List ℕ → ℕ → Type 0
IsFeedAt text place = (get_or text place 0 == 10) ≡ true

first-other : (byte : ℕ) (bytes : List ℕ) → (IsFeedAt (byte ∷ bytes) 0 → ⊥) → (byte == 10) ≡ false
first-other byte bytes none = go (byte == 10) none
  where
    go : (feed : Bool) → (feed ≡ true → ⊥) → feed ≡ false
    go true h = absurd (h refl)
    go false h = refl

to-feed : (text : List ℕ) (end : ℕ) → end < length text → IsFeedAt text end → ((k : ℕ) → k < end → IsFeedAt text k → ⊥)
    → fed_lines text ≡ take (suc end) text ∷ fed_lines (drop (suc end) text)
to-feed [] end within feed none = absurd (omega arith)
to-feed (byte ∷ bytes) zero within feed none = rw feed refl
to-feed (byte ∷ bytes) (suc end) within feed none =
    onto byte bytes _ (first-other byte bytes (none 0 (omega arith))) (to-feed bytes end (omega arith) feed (λ k less. none (suc k) (omega arith)))

to-end : (byte : ℕ) (bytes : List ℕ) → ((k : ℕ) → k < length (byte ∷ bytes) → IsFeedAt (byte ∷ bytes) k → ⊥) → fed_lines (byte ∷ bytes) ≡ (byte ∷ bytes) ∷ []
to-end byte [] none = onto byte [] [] (first-other byte [] (none 0 (omega arith))) refl
to-end byte (next ∷ bytes) none =
    onto byte (next ∷ bytes) _ (first-other byte (next ∷ bytes) (none 0 (omega arith))) (to-end next bytes (λ k less. none (suc k) (omega arith)))

-- what a search for the first line feed tells
pub fed_lines-feed : (text : List ℕ) (end : ℕ) → IsFirstByte (is_byte 10) text (Some end) → fed_lines text ≡ take (end + 1) text ∷ fed_lines (drop (end + 1) text)
fed_lines-feed text end h = rw add-one (to-feed text end h.0.high h.1 (λ k less. h.0.before k (omega arith) less))

pub fed_lines-last : (text : List ℕ) → IsFirstByte (is_byte 10) text None → 0 < length text → fed_lines text ≡ text ∷ []
fed_lines-last [] h filled = absurd (omega arith)
fed_lines-last (byte ∷ bytes) h filled = to-end byte bytes (λ k less. h k (omega arith) less)

-- The text that lines make up.

concat-onto : (byte : ℕ) (lines : List (List ℕ)) → concat (onto_first byte lines) ≡ byte ∷ concat lines
concat-onto byte [] = refl
concat-onto byte (line ∷ lines) = refl

-- the lines of a text make it up
pub concat-fed_lines : (text : List ℕ) → concat (fed_lines text) ≡ text
concat-fed_lines [] = refl
concat-fed_lines (byte ∷ bytes) = go (byte == 10) (ap (λ (bs : List ℕ). byte ∷ bs) (concat-fed_lines bytes))
  where
    go : (feed : Bool) → byte ∷ concat (fed_lines bytes) ≡ byte ∷ bytes → concat (cond feed ((byte ∷ []) ∷ fed_lines bytes) (onto_first byte (fed_lines bytes))) ≡ byte ∷ bytes
    go true behind = behind
    go false behind = concat-onto byte (fed_lines bytes) ∙ behind

take-onto : (byte count : ℕ) (lines : List (List ℕ)) → take (suc count) (onto_first byte lines) ≡ onto_first byte (take (suc count) lines)
take-onto byte zero [] = refl
take-onto byte (suc count) [] = refl
take-onto byte count (line ∷ lines) = refl

-- the first lines of a text are the lines of the text that they make up
pub fed_lines-take : (text : List ℕ) (count : ℕ) → fed_lines (concat (take count (fed_lines text))) ≡ take count (fed_lines text)
fed_lines-take text zero = refl
fed_lines-take [] (suc count) = refl
fed_lines-take (byte ∷ bytes) (suc count) = go (byte == 10) refl (fed_lines-take bytes count) (fed_lines-take bytes (suc count))
  where
    go : (feed : Bool) → (byte == 10) ≡ feed → fed_lines (concat (take count (fed_lines bytes))) ≡ take count (fed_lines bytes)
        → fed_lines (concat (take (suc count) (fed_lines bytes))) ≡ take (suc count) (fed_lines bytes)
        → fed_lines (concat (take (suc count) (fed_lines (byte ∷ bytes)))) ≡ take (suc count) (fed_lines (byte ∷ bytes))
    go true is fewer same = rw (is, is) (ap (λ (lines : List (List ℕ)). (byte ∷ []) ∷ lines) fewer)
    go false is fewer same =
        let lines = take (suc count) (fed_lines bytes) in
        let front : take (suc count) (fed_lines (byte ∷ bytes)) ≡ onto_first byte lines = rw is (take-onto byte count (fed_lines bytes)) in
        ap (λ (ls : List (List ℕ)). fed_lines (concat ls)) front ∙ ap fed_lines (concat-onto byte lines) ∙ onto byte (concat lines) lines is same ∙ sym front

-- no more lines than bytes
pub lines-short : (text : List ℕ) → length (fed_lines text) ≤ length text
lines-short [] = omega arith
lines-short (byte ∷ bytes) = go (byte == 10) (fed_lines bytes) bytes (lines-short bytes)
  where
    go : (feed : Bool) (lines : List (List ℕ)) (bytes : List ℕ) → length lines ≤ length bytes → length (cond feed ((byte ∷ []) ∷ lines) (onto_first byte lines)) ≤ suc (length bytes)
    go true lines bytes short = omega arith
    go false [] bytes short = omega arith
    go false (line ∷ lines) bytes short = omega arith

-- Lines of which each has its line feed, and no other.

-- a byte that is no line feed
abbrev pub is_other : ℕ → Bool
is_other byte = not (byte == 10)

pub record IsWhole (line : List ℕ) : Type 0 where
  pub front : List ℕ
  pub other : list_all is_other front ≡ true
  pub is : line ≡ front ++ 10 ∷ []

abbrev pub AreWhole : List (List ℕ) → Type 0
AreWhole [] = Unit {0}
AreWhole (line ∷ lines) = IsWhole line × AreWhole lines

-- what stands before a line feed is a line with it
before-feed : (front rest : List ℕ) → list_all is_other front ≡ true → fed_lines (front ++ 10 ∷ rest) ≡ (front ++ 10 ∷ []) ∷ fed_lines rest
before-feed [] rest h = refl
before-feed (byte ∷ front) rest h = go (byte == 10) refl h (λ others. before-feed front rest others)
  where
    go : (feed : Bool) → (byte == 10) ≡ feed → (not feed && list_all is_other front) ≡ true
        → (list_all is_other front ≡ true → fed_lines (front ++ 10 ∷ rest) ≡ (front ++ 10 ∷ []) ∷ fed_lines rest)
        → fed_lines (byte ∷ front ++ 10 ∷ rest) ≡ (byte ∷ front ++ 10 ∷ []) ∷ fed_lines rest
    go true is others later = absurd (let none : ⊥ = cc in none)
    go false is others later = onto byte (front ++ 10 ∷ rest) ((front ++ 10 ∷ []) ∷ fed_lines rest) is (later others)

-- they are the lines of the text that they make up
pub fed_lines-concat : (lines : List (List ℕ)) → AreWhole lines → fed_lines (concat lines) ≡ lines
fed_lines-concat [] h = refl
fed_lines-concat (line ∷ lines) h =
    let front = h.0.front in
    let joined : line ++ concat lines ≡ front ++ 10 ∷ concat lines = ap (λ (l : List ℕ). l ++ concat lines) h.0.is ∙ append_assoc front (10 ∷ []) (concat lines) in
    ap fed_lines joined ∙ before-feed front (concat lines) h.0.other
    ∙ ap (λ (l : List ℕ). l ∷ fed_lines (concat lines)) (sym h.0.is) ∙ ap (λ (ls : List (List ℕ)). line ∷ ls) (fed_lines-concat lines h.1)
