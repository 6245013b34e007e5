-- Bytes that come piece by piece.
use Rattle.std.proofs.Common.{◌≡◌, ℕ, ◌+◌, ◌-◌, ◌≤◌, List, [], ◌++◌, length, take, drop, refl, ap, ◌∙◌, sym, subst, Option, Some, None, length-append, arith}
use Rattle.std.proofs.Math.Seq.{take-add}
use Rattle.std.proofs.lemmas.List.{drop-drop, take-append-drop}
use Rattle.std.proofs.lemmas.Grind.{common_steps}
use Rattle.std.specs.Option.{ForSome}
use Rattle.gaspi_io.specs.Source.{without, Gives, AddsPiece, TakesAtMost}

-- where the loop stands: these bytes came, and no more than may
pub record Read (start : Option (List ℕ)) (faults most : ℕ) (bytes : List ℕ) (left : Option (List ℕ)) (now : ℕ) : Type 0 where
  pub within : length bytes ≤ most
  pub given : Gives start bytes left
  pub still : now ≡ faults

pub without-twice : (o : Option (List ℕ)) (n m : ℕ) → without (without o n) m ≡ without o (n + m)
without-twice None n m = refl
without-twice (Some told) n m = ap Some (drop-drop m n told)

-- a read after others takes no more than is open
pub taken_later : (start left after : Option (List ℕ)) (bytes : List ℕ) (most : ℕ) → length bytes ≤ most → Gives start bytes left → TakesAtMost (most + 1 - length bytes) left after → TakesAtMost (most + 1) start after
taken_later start left after bytes most within given taken = record {
  count = length bytes + taken.count;
  within = let fits : taken.count ≤ most + 1 - length bytes = taken.within in omega arith;
  rest = taken.rest ∙ (ap (λ o. without o taken.count) given.rest ∙ without-twice start (length bytes) taken.count);
}

-- at the end, all of them came
pub all_came : (start left : Option (List ℕ)) (bytes : List ℕ) → Gives start bytes left → ForSome left (λ told. told ≡ []) → (told : List ℕ) → start ≡ Some told → bytes ≡ told
all_came start left bytes given end told is =
    let nothing : drop (length bytes) told ≡ [] = end (drop (length bytes) told) (given.rest ∙ ap (λ o. without o (length bytes)) is) in
    let front : bytes ≡ take (length bytes) told = given.front told is in
    let whole : take (length bytes) told ++ drop (length bytes) told ≡ told = take-append-drop (length bytes) told in
    grind (arith, common_steps)

-- a piece more came
pub more_came : (start left after : Option (List ℕ)) (bytes piece : List ℕ) → Gives start bytes left → Gives left piece after → Gives start (bytes ++ piece) after
more_came start left after bytes piece given next = record {
  front = λ told is.
      let first : bytes ≡ take (length bytes) told = given.front told is in
      let second : piece ≡ take (length piece) (drop (length bytes) told) =
      next.front (drop (length bytes) told) (given.rest ∙ ap (λ o. without o (length bytes)) is) in
      let both : take (length bytes + length piece) told ≡ take (length bytes) told ++ take (length piece) (drop (length bytes) told) = take-add (length bytes) (length piece) told in
      rw (length-append, both, ← second, ← first);
  rest = rw length-append (next.rest ∙ (ap (λ o. without o (length piece)) given.rest ∙ without-twice start (length bytes) (length piece)));
}

pub piece_came : (start left new : Option (List ℕ)) (bytes after : List ℕ) → Gives start bytes left → AddsPiece left new bytes after → Gives start after new
piece_came start left new bytes after given adds =
    let P : List ℕ → Type 0 = λ came. Gives start came new in
    subst P (sym adds.added) (more_came start left new bytes adds.piece given adds.given)
