-- The contribution of a rank, as a buffer stores it. (GASPI: collectives)
use Rattle.std.specs.Prelude.{◌≡◌, ℕ, ◌≤◌, length, take, Option, None, Some}
use Rattle.gaspi_types.specs.Collectives.{HaveOwnValues}
use Rattle.gaspi_types.specs.NumberTypes.{AreInType}
use Rattle.gaspi_types.specs.declared.collectives.Coll.{Coll}
use Rattle.gaspi_types.specs.declared.collectives.Coll.TheVariants.{Allreduce}
use Rattle.gaspi_types.specs.declared.collectives.NumType.{NumType}
use Rattle.gaspi_types.specs.declared.groups.Args.{Args}
use Rattle.gaspi_types.specs.declared.groups.Contribution.{Contribution}
use Rattle.collective_engine.specs.declared.kept_contributions.KeptContribution.TheInside.{Inside}

-- its values are the first of the stored numbers
abbrev pub kept_in : Inside → Contribution
kept_in s = record {
  args = record { coll = s.coll; values = record { num_type = s.num_type; items = take s.count s.numbers } };
  generation = s.generation;
}

-- the invariant: 255 stored numbers, of which the values are the first, all of their type
pub record IsKeptContribution (s : Inside) : Type 0 where
  pub capacity : length s.numbers ≡ 255
  pub count : s.count ≤ 255
  pub range : AreInType s.num_type (take s.count s.numbers)

-- arguments with as many values as their collective says, at most 255
abbrev pub HasItsValues : Args → Type 0
HasItsValues args = HaveOwnValues args × (length args.values.items ≤ 255)

-- there is a contribution, with `n` values of this type
abbrev pub GivesNumbers : NumType → ℕ → Option Contribution → Type 0
GivesNumbers t n None = ⊥
GivesNumbers t n (Some c) = (c.args.values.num_type ≡ t) × (length c.args.values.items ≡ n)

-- the values of a contribution are of its type
abbrev pub AreInRange : Option Contribution → Type 0
AreInRange None = Unit {0}
AreInRange (Some c) = AreInType c.args.values.num_type c.args.values.items

-- how many values an allreduce comes to; none for another collective
abbrev pub elements_of : Option Coll → Option ℕ
elements_of (Some (Allreduce op t n)) = Some n
elements_of other = None

-- a list of length `reserved` is long enough for the reduction of an allreduce
abbrev pub TakesFold : Option ℕ → ℕ → Type 0
TakesFold None reserved = ⊥
TakesFold (Some n) reserved = n ≤ reserved
