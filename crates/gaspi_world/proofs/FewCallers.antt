-- How many callers a world has.
use Rattle.std.proofs.Common.{◌≡◌, ℕ, zero, suc, ◌+◌, ◌*◌, ◌<◌, ◌≤◌, Bool, true, false, cond, ◌==◌, nat_le, List, [], ◌∷◌, length, Some, count_by, refl, arith}
use Rattle.std.specs.List.{slice_get}
use Rattle.std.proofs.lemmas.Bool.{eqb-false, leb-true}
use Rattle.std.proofs.lemmas.List.Sums.{sum_by-cons}
use Rattle.gaspi_types.specs.Ranges.{is_between}
use Rattle.gaspi_types.specs.World.{ShapeValue, IsShape}
use Rattle.gaspi_types.specs.declared.shapes.CallerId.{CallerId}
use Rattle.gaspi_types.proofs.Chains.{both}

of-rank : ℕ → List CallerId → ℕ
of-rank rank callers = count_by (λ (c : CallerId). c.rank == rank) callers

-- those of the ranks below a number
below : ℕ → List CallerId → ℕ
below zero callers = 0
below (suc n) callers = of-rank n callers + below n callers

first-of : (n : ℕ) (c : CallerId) (callers : List CallerId) → of-rank n (c ∷ callers) ≡ cond (c.rank == n) 1 0 + of-rank n callers
unfolding of-rank
first-of n c callers = sum_by-cons (λ (d : CallerId). cond (d.rank == n) 1 0) c callers

more : (n : ℕ) (c : CallerId) (callers : List CallerId) → below n callers ≤ below n (c ∷ callers)
unfolding below
more zero c callers = omega arith
more (suc n) c callers = (let rest = more n c callers in let first = first-of n c callers in omega arith)

one-more : (n : ℕ) (c : CallerId) (callers : List CallerId) → c.rank < n → below n callers + 1 ≤ below n (c ∷ callers)
unfolding below
one-more zero c callers less = absurd (omega arith)
one-more (suc n) c callers less = go (c.rank == n) refl (more n c callers) (one-more n c callers) (first-of n c callers)
  where
    go : (b : Bool) → (c.rank == n) ≡ b → below n callers ≤ below n (c ∷ callers) → (c.rank < n → below n callers + 1 ≤ below n (c ∷ callers))
        → of-rank n (c ∷ callers) ≡ cond (c.rank == n) 1 0 + of-rank n callers → below (suc n) callers + 1 ≤ below (suc n) (c ∷ callers)
    go true is rest later first = (let one : of-rank n (c ∷ callers) ≡ 1 + of-rank n callers = rw is at first in omega arith)
    go false is rest later first =
        let here : c.rank < n = (let apart : c.rank ≡ n → ⊥ = eqb-false c.rank n is in omega arith) in
        let some = later here in
        let one : of-rank n (c ∷ callers) ≡ 0 + of-rank n callers = rw is at first in
        omega arith

all-below : (n : ℕ) (callers : List CallerId) → ((place : ℕ) (c : CallerId) → slice_get callers place ≡ Some c → c.rank < n) → length callers ≤ below n callers
all-below n [] within = omega arith
all-below n (c ∷ callers) within =
    let rest = all-below n callers (λ place d at. within (suc place) d at) in
    let one = one-more n c callers (within 0 c refl) in
    omega arith

few-below : (n most : ℕ) (callers : List CallerId) → most ≤ 65536 → ((rank : ℕ) → of-rank rank callers ≤ most) → below n callers ≤ n * 65536
unfolding below
few-below zero most callers less few = omega arith
few-below (suc n) most callers less few = (let rest = few-below n most callers less few in let one = few n in omega arith)

between : (low high n : ℕ) → is_between low high n ≡ true → n ≤ high
between low high n is = leb-true n high (both (nat_le low n) (nat_le n high) is).1

pub few-callers : (w : ShapeValue) → IsShape w → length w.callers ≤ 1048576
unfolding of-rank
few-callers w world =
    let one = both (is_between 1 16 w.limits.ranks) _ world.limits in
    let ranks = between 1 16 w.limits.ranks one.0 in
    let two = both (is_between 1 8 w.limits.queues) _ one.1 in
    let three = both (is_between 1 256 w.limits.depth) _ two.1 in
    let four = both (is_between 1 1024 w.limits.notes) _ three.1 in
    let five = both (is_between 1 64 w.limits.inbox) _ four.1 in
    let events = between 1 65536 w.limits.events five.1 in
    let all = all-below w.limits.ranks w.callers (λ place c at. (world.within place c at).0) in
    let few = few-below w.limits.ranks w.limits.events w.callers events world.callers in
    omega arith
