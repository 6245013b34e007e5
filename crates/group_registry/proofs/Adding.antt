-- What stands in a table of groups after a rank is added to one.
use Rattle.std.proofs.Common.{◌≡◌, ◌≢◌, ℕ, ◌^◌, true, ◌==◌, List, Option, Some, Ok, refl, sym, ◌∙◌, ap, arith}
use Rattle.std.specs.List.{slice_set}
use Rattle.std.specs.Option.{option_and_then}
use Rattle.std.specs.Int.{bit_at}
use Rattle.std.proofs.lemmas.Nat.Bits.{bit_at_or, bit_at-pow_same, bit_at-pow_other, bit_at-lt}
use Rattle.gaspi_types.specs.Groups.{is_building, handle_at, building_at}
use Rattle.gaspi_types.specs.Masks.{is_member, with_member}
use Rattle.gaspi_types.specs.Tables.{item_at}
use Rattle.gaspi_types.specs.declared.groups.Handle.{Handle}
use Rattle.gaspi_types.specs.declared.groups.Handles.{Handles}
use Rattle.gaspi_types.specs.declared.replies.Refusal.{Refusal}
use Rattle.gaspi_types.specs.declared.replies.Refusal.TheVariants.{NoGroup, GroupStage}
use Rattle.gaspi_types.proofs.Chains.{found_then, check_then, same_Ok}
use Rattle.gaspi_types.proofs.Items.{slice_get-set_same, slice_get-set_other, joined}
use Rattle.group_registry.specs.Registry.{AddsRank}

-- Sets of ranks.

pub added-member : (mask rank : ℕ) → is_member (with_member mask rank) rank ≡ true
added-member mask rank = ap (λ (n : ℕ). n == 1) (let bit : bit_at (with_member mask rank) rank ≡ 1 = omega (arith, bit_at_or mask (2 ^ rank) rank, bit_at-pow_same rank, bit_at-lt mask rank) in bit)

pub other-member : (mask rank other : ℕ) → other ≢ rank → is_member (with_member mask rank) other ≡ is_member mask other
other-member mask rank other apart = ap (λ (n : ℕ). n == 1) (let bit : bit_at (with_member mask rank) other ≡ bit_at mask other = omega (arith, bit_at_or mask (2 ^ rank) other, bit_at-pow_other rank other apart) in bit)

-- Tables.

entry-set_same : {A : Type 0} (table : List (Option A)) (place : ℕ) (x : A) (y : Option A) → item_at table place ≡ Some x → item_at (slice_set table place y) place ≡ y
entry-set_same {A} table place x y at = ap (option_and_then (λ (z : Option A). z)) (slice_get-set_same table place (Some x) y (joined table place x at))

entry-set_other : {A : Type 0} (table : List (Option A)) (place other : ℕ) (y : Option A) → other ≢ place → item_at (slice_set table place y) other ≡ item_at table other
entry-set_other {A} table place other y apart = ap (option_and_then (λ (z : Option A). z)) (slice_get-set_other table place other y (λ e. apart (sym e)))

-- a group that is built is there
there : (groups : Handles) (id : ℕ) (handle : Handle) → building_at groups id ≡ Ok handle → handle_at groups id ≡ Some handle
there groups id handle h = found_then (handle_at groups id) NoGroup _ handle h (λ x at rest. check_then (is_building x.stage) (GroupStage x.stage) _ handle rest (λ building same. at ∙ ap (λ (z : Handle). Some z) (same_Ok {E = Refusal} x handle same)))

pub adds-rank : (groups : Handles) (id rank : ℕ) (handle : Handle) → building_at groups id ≡ Ok handle
    → AddsRank groups (record groups { table = slice_set groups.table id (Some (record handle { members = with_member handle.members rank })) }) id rank
adds-rank groups id rank handle h =
    let was = there groups id handle h in
    let now = entry-set_same groups.table id handle (Some (record handle { members = with_member handle.members rank })) was in
    record {
      member = rw now (added-member handle.members rank);
      others = λ other apart. rw (now, was) (other-member handle.members rank other apart);
      stage = rw (now, was) refl;
      groups = λ other apart. entry-set_other groups.table id other _ apart;
      made = refl;
    }
