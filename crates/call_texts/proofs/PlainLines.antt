-- The end of a line.
use Rattle.std.proofs.Common.{◌≡◌, ◌≢◌, ℕ, Bool, true, false, cond, ◌==◌, List, [], ◌∷◌, ◌++◌, refl, sym, ap, ◌∙◌, arith}
use Rattle.std.proofs.lemmas.Bool.Decides.{nat_tests}
use Rattle.call_texts.specs.Lines.{ends_with, without_last, plain_line}

ends_with-push : (last : ℕ) (line : List ℕ) (byte : ℕ) → ends_with last (line ++ byte ∷ []) ≡ (byte == last)
ends_with-push last [] byte = refl
ends_with-push last (first ∷ []) byte = refl
ends_with-push last (first ∷ next ∷ line) byte = ends_with-push last (next ∷ line) byte

without_last-push : (last : ℕ) (line : List ℕ) (byte : ℕ) → without_last last (line ++ byte ∷ []) ≡ cond (byte == last) line (line ++ byte ∷ [])
without_last-push last [] byte = refl
without_last-push last (first ∷ []) byte = go (byte == last)
  where
    go : (is : Bool) → first ∷ cond is [] (byte ∷ []) ≡ cond is (first ∷ []) (first ∷ byte ∷ [])
    go true = refl
    go false = refl
without_last-push last (first ∷ next ∷ line) byte = ap (λ (l : List ℕ). first ∷ l) (without_last-push last (next ∷ line) byte) ∙ go (byte == last)
  where
    go : (is : Bool) → first ∷ cond is (next ∷ line) (next ∷ line ++ byte ∷ []) ≡ cond is (first ∷ next ∷ line) (first ∷ next ∷ line ++ byte ∷ [])
    go true = refl
    go false = refl

-- a byte at the end that is dropped, and another one
pub without-dropped : (last : ℕ) (line front : List ℕ) → line ≡ front ++ last ∷ [] → front ≡ without_last last line
without-dropped last line front is =
    let test : (last == last) ≡ true = grind (arith, nat_tests) in
    let dropped : without_last last (front ++ last ∷ []) ≡ front = rw test at (without_last-push last front last) in
    sym (ap (without_last last) is ∙ dropped)

pub without-kept : (last : ℕ) (line front : List ℕ) (byte : ℕ) → line ≡ front ++ byte ∷ [] → byte ≢ last → line ≡ without_last last line
without-kept last line front byte is other =
    let test : (byte == last) ≡ false = grind (arith, nat_tests) in
    let kept : without_last last (front ++ byte ∷ []) ≡ front ++ byte ∷ [] = rw test at (without_last-push last front byte) in
    is ∙ sym kept ∙ ap (without_last last) (sym is)

-- a line with a line feed, and one without
pub plain-fed : (line front : List ℕ) → line ≡ front ++ 10 ∷ [] → without_last 13 front ≡ plain_line line
plain-fed line front is =
    let ends : ends_with 10 line ≡ true = ap (ends_with 10) is ∙ ends_with-push 10 front 10 in
    rw ends (ap (without_last 13) (without-dropped 10 line front is))

pub plain-kept : (line front : List ℕ) (byte : ℕ) → line ≡ front ++ byte ∷ [] → byte ≢ 10 → line ≡ plain_line line
plain-kept line front byte is other =
    let test : (byte == 10) ≡ false = grind (arith, nat_tests) in
    let ends : ends_with 10 line ≡ false = ap (ends_with 10) is ∙ ends_with-push 10 front byte ∙ test in
    rw ends refl
