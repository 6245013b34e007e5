-- The members of a group, each by itself and all of them.
use Rattle.std.proofs.Common.{◌≡◌, ℕ, zero, suc, ◌+◌, ◌≤◌, ◌<◌, Bool, true, false, List, [], ◌∷◌, filter, Option, None, Some, refl, ◌∙◌, arith}
use Rattle.std.specs.List.{AllByRecursion, list_all, range_with_len}
use Rattle.gaspi_types.specs.Collectives.{or_later, first_contribution}
use Rattle.gaspi_types.specs.Masks.{is_member}
use Rattle.gaspi_types.specs.declared.groups.Contribution.{Contribution}
use Rattle.gaspi_types.proofs.Chains.{both}
use Rattle.gaspi_types.proofs.Items.{same-or-not}
use Rattle.collective_engine.specs.RoundBuffers.{ranks_of, IsMember}

-- one number more before others
add : (P : ℕ → Type 0) (p : ℕ → Bool) (x : ℕ) (xs : List ℕ) (b : Bool) → p x ≡ b → (p x ≡ true → P x) → AllByRecursion P (filter p xs) → AllByRecursion P (filter p (x ∷ xs))
add P p x xs true is here rest = rw is (here is, rest)
add P p x xs false is here rest = rw is rest

all_filtered : (P : ℕ → Type 0) (p : ℕ → Bool) (from n : ℕ) → ((m : ℕ) → m < from + n → p m ≡ true → P m) → AllByRecursion P (filter p (range_with_len from n))
all_filtered P p from zero each = tt
all_filtered P p from (suc n) each =
    add P p from (range_with_len (from + 1) n) (p from) refl (each from (omega arith)) (all_filtered P p (from + 1) n (λ m less yes. each m (omega arith) yes))

-- what holds of each member holds of them all
pub all_members : (members : Option ℕ) (P : ℕ → Type 0) → ((m : ℕ) → IsMember members m → P m) → AllByRecursion P (ranks_of members)
all_members None P each = tt
all_members (Some mask) P each = all_filtered P (is_member mask) 0 16 (λ m less yes. each m (omega arith, yes))

parted : (P : ℕ → Type 0) (p : ℕ → Bool) (x : ℕ) (xs : List ℕ) (b : Bool) → p x ≡ b → AllByRecursion P (filter p (x ∷ xs)) → (p x ≡ true → P x) × AllByRecursion P (filter p xs)
parted P p x xs true is all = let parts = rw is at all in (λ yes. parts.0, parts.1)
parted P p x xs false is all = (λ yes. absurd (let no : ⊥ = cc in no), rw is at all)

each_filtered : (P : ℕ → Type 0) (p : ℕ → Bool) (from n : ℕ) → AllByRecursion P (filter p (range_with_len from n)) → (m : ℕ) → from ≤ m → m < from + n → p m ≡ true → P m
each_filtered P p from zero all m least less its = absurd (let no : ⊥ = omega arith in no)
each_filtered P p from (suc n) all m least less its =
    let parts = parted P p from (range_with_len (from + 1) n) (p from) refl all in
    same-or-not m from (λ same. rw same (parts.0 (rw same at its))) (λ apart. each_filtered P p (from + 1) n parts.1 m (omega arith) (omega arith) its)

-- and the other way round
pub each_member : (members : Option ℕ) (P : ℕ → Type 0) → AllByRecursion P (ranks_of members) → (m : ℕ) → IsMember members m → P m
each_member None P all m its = absurd (let no : ⊥ = cc in no)
each_member (Some mask) P all m its = each_filtered P (is_member mask) 0 16 all m (omega arith) its.0 its.1

pub all_tested : (q : ℕ → Bool) (xs : List ℕ) → list_all q xs ≡ true → AllByRecursion (λ m. q m ≡ true) xs
all_tested q [] h = tt
all_tested q (x ∷ xs) h = let parts = both (q x) (list_all q xs) h in (parts.0, all_tested q xs parts.1)

-- what the first has given, one of them has given
first_step : (given : ℕ → Option Contribution) (P : ℕ → Type 0) (x : ℕ) (later : Option Contribution) (c : Contribution) (o : Option Contribution) → given x ≡ o → or_later o later ≡ Some c → P x
    → (later ≡ Some c → (m : ℕ) × (P m) × (given m ≡ Some c)) → (m : ℕ) × (P m) × (given m ≡ Some c)
first_step given P x later c None at is here next = next is
first_step given P x later c (Some d) at is here next = (x, here, at ∙ is)

pub first_from : (given : ℕ → Option Contribution) (P : ℕ → Type 0) (xs : List ℕ) (c : Contribution) → first_contribution given xs ≡ Some c → AllByRecursion P xs → (m : ℕ) × (P m) × (given m ≡ Some c)
first_from given P [] c is all = absurd (let no : ⊥ = cc in no)
first_from given P (x ∷ xs) c is all = first_step given P x (first_contribution given xs) c (given x) refl is all.0 (λ later. first_from given P xs c later all.1)

-- where the first has given nothing, none has
none_step : (o later : Option Contribution) → or_later o later ≡ None → (o ≡ None) × (later ≡ None)
none_step None later is = (refl, is)
none_step (Some c) later is = absurd (let no : ⊥ = cc in no)

pub none_contributed : (given : ℕ → Option Contribution) (xs : List ℕ) → first_contribution given xs ≡ None → AllByRecursion (λ m. given m ≡ None) xs
none_contributed given [] is = tt
none_contributed given (x ∷ xs) is = let parts = none_step (given x) (first_contribution given xs) is in (parts.0, none_contributed given xs parts.1)
