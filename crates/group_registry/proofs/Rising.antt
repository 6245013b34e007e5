-- How many groups a rank has made never falls.
use Rattle.std.proofs.Common.{◌≡◌, ℕ, ◌+◌, ◌<◌, ◌≤◌, List, [], ◌∷◌, Ok, sym, arith}
use Rattle.std.specs.Prelude.{nat_lt}
use Rattle.gaspi_types.specs.Groups.{next_group, with_group}
use Rattle.gaspi_types.specs.declared.groups.Handles.{Handles}
use Rattle.gaspi_types.specs.declared.replies.Refusal.{Refusal}
use Rattle.gaspi_types.specs.declared.replies.Refusal.TheVariants.{GroupsFull}
use Rattle.gaspi_types.proofs.Chains.{check_then, same_Ok}
use Rattle.group_registry.specs.Changes.{Change, Made, Added, Dropped, Committed, with_change, changed_by}

one : (groups : Handles) (change : Change) → groups.last_id ≤ (with_change groups change).last_id
one groups Made = omega arith
one groups (Added id rank) = omega arith
one groups (Dropped id) = omega arith
one groups (Committed id) = omega arith

pub rising : (groups : Handles) (changes : List Change) → groups.last_id ≤ (changed_by groups changes).last_id
rising groups [] = omega arith
rising groups (change ∷ changes) =
    let first = one groups change in
    let rest = rising (with_change groups change) changes in
    omega arith

-- the number of the next group is the number of groups that were made, and one
number : (groups : Handles) (id : ℕ) → next_group groups ≡ Ok id → id ≡ groups.last_id + 1
number groups id h = check_then (nat_lt groups.last_id 7) GroupsFull _ id h (λ room is. sym (same_Ok {E = Refusal} (groups.last_id + 1) id is))

pub above : (groups : Handles) (changes : List Change) (earlier later : ℕ) → next_group groups ≡ Ok earlier → next_group (changed_by (with_group groups) changes) ≡ Ok later → earlier < later
above groups changes earlier later at behind =
    let first = number groups earlier at in
    let last = number (changed_by (with_group groups) changes) later behind in
    let more = rising (with_group groups) changes in
    omega arith
