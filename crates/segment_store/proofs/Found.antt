-- What a look at a range of slots tells of the slots themselves.
use Rattle.std.proofs.Common.{◌≡◌, ◌≢◌, ℕ, ◌+◌, ◌-◌, ◌<◌, ◌≤◌, Bool, true, false, ◌==◌, List, length, get_or, take, drop, Option, None, Some, refl, sym, ◌∙◌, subst, arith}
use Rattle.std.specs.List.{position, position_or_len}
use Rattle.std.specs.Option.{option_map}
use Rattle.std.proofs.lemmas.Bool.{leb-true, eqb-true}
use Rattle.std.proofs.lemmas.Grind.{common_steps}
use Rattle.std.proofs.lemmas.List.{length-drop, length-take-le, get_or-take, get_or-drop}
use Rattle.std.proofs.lemmas.List.Quantifiers.{position-Some}
use Rattle.std.proofs.lemmas.List.Sums.{fails_before_first}
use Rattle.gaspi_types.specs.Slots.{is_set, is_slot_range, first_set}
use Rattle.gaspi_types.proofs.Chains.{both}
use Rattle.segment_store.specs.Found.{IsFirstSlot, IsLeastSlot}

-- Slots and values.

zero-unset : (value : ℕ) → is_set value ≡ false → value ≡ 0
zero-unset value h = go (value == 0) refl
  where
    go : (b : Bool) → (value == 0) ≡ b → value ≡ 0
    go true is = eqb-true value 0 is
    go false is =
        let no : true ≡ false = cc in
        let never : ⊥ = cc in
        absurd never

set-apart : (value : ℕ) → is_set value ≡ true → value ≢ 0
set-apart value h same =
    let no : false ≡ true = subst (λ n. is_set n ≡ true) same h in
    let never : ⊥ = cc in
    never

-- a range within the slots has all its slots
range-length : (slots : List ℕ) (begin num : ℕ) → begin + num ≤ length slots → length (take num (drop begin slots)) ≡ num
range-length slots begin num within =
    let behind = length-drop begin slots in
    length-take-le num (drop begin slots) (omega arith)

-- a slot of a range, by its place there
range-at : (slots : List ℕ) (begin num j k : ℕ) → j < num → k ≡ begin + j → get_or (take num (drop begin slots)) j 0 ≡ get_or slots k 0
range-at slots begin num j k below is = rw is (get_or-take num (drop begin slots) j 0 below ∙ get_or-drop begin slots j 0)

-- nothing found: no item passes
none-passes : (p : ℕ → Bool) (xs : List ℕ) (k : ℕ) → position p xs ≡ None → k < length xs → p (get_or xs k 0) ≡ false
none-passes p xs k h lt =
    let all : length xs ≤ position_or_len p xs = grind (arith, common_steps) in
    fails_before_first p xs k 0 (omega arith)

-- What is found.

least : (slots : List ℕ) (begin num i : ℕ) → begin + num ≤ length slots → position is_set (take num (drop begin slots)) ≡ Some i → IsFirstSlot slots begin num (begin + i)
least slots begin num i within h =
    let at = position-Some is_set (take num (drop begin slots)) i 0 h in
    let long = range-length slots begin num within in
    let below : i < num = omega arith in
    record {
      from = omega arith;
      below = omega arith;
      there = omega arith;
      set = set-apart _ (rw (sym (range-at slots begin num i (begin + i) below refl)) at.1);
      before = λ k from lt.
          let is : k ≡ begin + (k - begin) = omega arith in
          let early : k - begin < i = omega arith in
          let near : k - begin < num = omega arith in
          sym (range-at slots begin num (k - begin) k near is) ∙ zero-unset _ (at.2 (k - begin) early);
    }

free : (slots : List ℕ) (begin num : ℕ) → begin + num ≤ length slots → position is_set (take num (drop begin slots)) ≡ None → (k : ℕ) → begin ≤ k → k < begin + num → get_or slots k 0 ≡ 0
free slots begin num within h k from lt =
    let long = range-length slots begin num within in
    let is : k ≡ begin + (k - begin) = omega arith in
    let near : k - begin < num = omega arith in
    sym (range-at slots begin num (k - begin) k near is) ∙ zero-unset _ (none-passes is_set (take num (drop begin slots)) (k - begin) h (omega arith))

-- what the first set slot of a range tells
slot-found-of : (slots : List ℕ) (begin num : ℕ) → begin + num ≤ length slots → IsLeastSlot slots begin num (first_set slots begin num)
slot-found-of slots begin num within = go (position is_set (take num (drop begin slots))) refl
  where
    go : (o : Option ℕ) → position is_set (take num (drop begin slots)) ≡ o → IsLeastSlot slots begin num (option_map (λ k. begin + k) (position is_set (take num (drop begin slots))))
    go (Some i) h = rw h (least slots begin num i within h)
    go None h = rw h (free slots begin num within h)

pub slot-found : (slots : List ℕ) (begin num : ℕ) (found : Option ℕ) → is_slot_range begin num (length slots) ≡ true → found ≡ first_set slots begin num → IsLeastSlot slots begin num found
slot-found slots begin num found ranged is =
    let within = leb-true (begin + num) (length slots) (both _ _ ranged).1 in
    rw is (slot-found-of slots begin num within)
