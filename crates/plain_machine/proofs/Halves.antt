-- The search by halves, among lanes of which a test holds up to a place and nowhere behind it.
use Rattle.std.proofs.Common.{◌≡◌, ℕ, zero, suc, ◌<◌, ◌≤◌, Bool, true, false, List, [], ◌∷◌, ◌++◌, length, take, drop, get_or, refl, sym, ap, subst, inl, inr, ◌∙◌, arith, length-append}
use Rattle.std.specs.List.{prefix_len}
use Rattle.std.specs.List.Sorted.{IsPartitionedBy, IsPartitionPoint}
use Rattle.std.proofs.lemmas.Bool.{cases_lt}
use Rattle.std.proofs.lemmas.List.{take_at, drop_at}
use Rattle.plain_machine.specs.NonemptyLanes.{lane_id}
use Rattle.plain_machine.specs.declared.nonempty_lanes.LaneId.{LaneId}

-- each lane gives the same answer to a test
abbrev pub Answer : (LaneId → Bool) → Bool → List LaneId → Type 0
Answer p b [] = Unit {0}
Answer p b (x ∷ xs) = (p x ≡ b) × Answer p b xs

pub joined : (p : LaneId → Bool) (b : Bool) (xs ys : List LaneId) → Answer p b xs → Answer p b ys → Answer p b (xs ++ ys)
joined p b [] ys front back = back
joined p b (x ∷ xs) ys front back = (front.0, joined p b xs ys front.1 back)

-- Where a test holds of a front and of nothing behind it, the search for the place where it ends gives the front's end.

at_front : (p : LaneId → Bool) (front rest : List LaneId) (i : ℕ) (d : LaneId) → Answer p true front → i < length front → p (get_or (front ++ rest) i d) ≡ true
at_front p [] rest i d front within = absurd (let no : ⊥ = omega (arith, within) in no)
at_front p (x ∷ xs) rest zero d front within = front.0
at_front p (x ∷ xs) rest (suc i) d front within = at_front p xs rest i d front.1 (omega (arith, within))

at_rest : (p : LaneId → Bool) (front rest : List LaneId) (i : ℕ) (d : LaneId) → Answer p false rest → length front ≤ i → i < length (front ++ rest) → p (get_or (front ++ rest) i d) ≡ false
at_rest p [] [] i d rest past within = absurd (let no : ⊥ = omega (arith, within) in no)
at_rest p [] (x ∷ xs) zero d rest past within = rest.0
at_rest p [] (x ∷ xs) (suc i) d rest past within = at_rest p [] xs i d rest.1 (omega arith) (omega (arith, within))
at_rest p (y ∷ ys) rest zero d behind past within = absurd (let no : ⊥ = omega (arith, past) in no)
at_rest p (y ∷ ys) rest (suc i) d behind past within = at_rest p ys rest i d behind (omega (arith, past)) (omega (arith, within))

pub parted : (p : LaneId → Bool) (front rest : List LaneId) → Answer p true front → Answer p false rest → IsPartitionedBy p (front ++ rest)
parted p front rest held unheld = λ i j d low within holds.
    elim (cases_lt j (length front)) [
      | inl inside ↦ at_front p front rest i d held (omega (arith, low, inside))
      | inr past ↦ let fails = at_rest p front rest j d unheld past within in absurd (let never : ⊥ = cc in never)
    ]

pub ends_there : (p : LaneId → Bool) (front rest : List LaneId) (i : ℕ) → Answer p true front → Answer p false rest → i ≤ length (front ++ rest)
    → IsPartitionPoint (λ y. p y ≡ true) (λ y. p y ≡ false) (front ++ rest) i → length front ≡ i
ends_there p front rest i held unheld bound point =
    elim (cases_lt i (length front)) [
      | inl under ↦
          let long = length-append front rest in
          let within : i < length (front ++ rest) = omega (arith, long, under) in
          let holds = at_front p front rest i nowhere held under in
          let fails = point.1 i nowhere (omega arith) within in
          absurd (let never : ⊥ = cc in never)
      | inr over ↦ elim (cases_lt (length front) i) [
        | inl past ↦
            let within : length front < length (front ++ rest) = omega (arith, past, bound) in
            let holds = point.0 (length front) nowhere (omega arith) past in
            let fails = at_rest p front rest (length front) nowhere unheld (omega arith) within in
            absurd (let never : ⊥ = cc in never)
        | inr not_past ↦ omega (arith, over, not_past)
      ]
    ]
  where
    nowhere : LaneId
    nowhere = lane_id 0 0 0

pub ends_at : (p : LaneId → Bool) (lanes front rest : List LaneId) (i : ℕ) → lanes ≡ front ++ rest → Answer p true front → Answer p false rest → i ≤ length lanes
    → IsPartitionPoint (λ y. p y ≡ true) (λ y. p y ≡ false) lanes i → length front ≡ i
ends_at p lanes front rest i is held unheld =
    subst (λ (xs : List LaneId). i ≤ length xs → IsPartitionPoint (λ y. p y ≡ true) (λ y. p y ≡ false) xs i → length front ≡ i) (sym is) (λ bound point. ends_there p front rest i held unheld bound point)

-- what is cut off there
pub rest_of : (lanes front rest : List LaneId) (n : ℕ) → lanes ≡ front ++ rest → length front ≡ n → drop n lanes ≡ rest
rest_of lanes front rest n is long = ap (drop n) is ∙ drop_at front rest n long

pub front_of : (lanes front rest : List LaneId) (n : ℕ) → lanes ≡ front ++ rest → length front ≡ n → take n lanes ≡ front
front_of lanes front rest n is long = ap (take n) is ∙ take_at front rest n long

-- that place is how many lanes of the front pass the test
pub prefix_is : (p : LaneId → Bool) (xs : List LaneId) (i : ℕ) → i ≤ length xs → IsPartitionPoint (λ y. p y ≡ true) (λ y. p y ≡ false) xs i → prefix_len p xs ≡ i
prefix_is p [] i bound point = omega (arith, bound)
prefix_is p (x ∷ xs) zero bound point = let fails : p x ≡ false = point.1 0 x (omega arith) (omega arith) in rw fails refl
prefix_is p (x ∷ xs) (suc i) bound point =
    let holds : p x ≡ true = point.0 0 x (omega arith) (omega arith) in
    let more : prefix_len p xs ≡ i =
    prefix_is p xs i (omega (arith, bound))
    ((λ k d low high. point.0 (suc k) d (omega arith) (omega (arith, high))), (λ k d low high. point.1 (suc k) d (omega (arith, low)) (omega (arith, high)))) in
    rw holds (omega (arith, more))
