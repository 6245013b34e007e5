use Rattle.std.proofs.Common.{◌≡◌, Option, None, Some, IsSome, IfNone}
use Rattle.gaspi_types.specs.declared.events.Transfer.{Transfer}
use Rattle.gaspi_world.proofs.transfers.next_front.Goals as goal

-- what is there is not none
there-not : (P : Type 0) (r f : Option Transfer) → r ≡ f → IsSome f → IfNone r P
there-not P None None is some = absurd (let no : ⊥ = cc in no)
there-not P None (Some t) is some = absurd (let no : ⊥ = cc in no)
there-not P (Some t) f is some = tt

pub returns-clause-none : goal.returns-clause-none
returns-clause-none c =
    let needs = c.requires in
    there-not _ c.front.result _ c.front.ensures.value
    (c.movable_lanes_have_fronts.ensures.fronts needs.0 c.args.node.now.posts c.in_ok-queue.queue c.in_ok-queue.target needs.1 needs.2 c.in_ok-queue.ensures.next.movable)
