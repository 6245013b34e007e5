use Rattle.std.proofs.Common.{◌≡◌, ℕ, ap, sym, subst, ◌∙◌, arith}
use Rattle.std.specs.Option.{unwrap_or}
use Rattle.gaspi_types.specs.declared.call_rows.CallRow.{CallRow}
use Rattle.plain_machine.specs.Looking.{MayJoin}
use Rattle.gaspi_model.specs.CollectiveCalls.{group_of}
use Rattle.plain_machine.specs.Machine.{state_in}
use Rattle.plain_machine.proofs.EventRooms.{room_of_join}
use Rattle.plain_machine.proofs.Joining.{Joins, joins_by}
use Rattle.plain_machine.proofs.Recorded.{declared_there}
use Rattle.plain_machine.proofs.looking.join_found.Goals as goal

pub overflow_cast-unwrap_or : goal.overflow_cast-unwrap_or
overflow_cast-unwrap_or c =
    let joins : Joins (state_in c.args.ranks.now c.args.memories.now) c.args.invocation.now.caller c.args.invocation.now.call.now c.args.args = joins_by _ _ _ _ c.requires.whole.sound c.requires.joins.declared c.requires.joins.joins in
    let same : c.unwrap_or.result ≡ group_of c.args.invocation.now.call.now = c.unwrap_or.ensures ∙ ap (λ (r : CallRow). unwrap_or r.group 0) c.args.invocation.now.rowed in
    let below = joins.below in
    omega (arith, same, below)

pub of-id-requires : goal.of-id-requires
of-id-requires c =
    let joins : Joins (state_in c.args.ranks.now c.args.memories.now) c.args.invocation.now.caller c.args.invocation.now.call.now c.args.args = joins_by _ _ _ _ c.requires.whole.sound c.requires.joins.declared c.requires.joins.joins in
    let same : c.unwrap_or.result ≡ group_of c.args.invocation.now.call.now = c.unwrap_or.ensures ∙ ap (λ (r : CallRow). unwrap_or r.group 0) c.args.invocation.now.rowed in
    let below = joins.below in
    omega (arith, same, below)

pub join_in-requires-clause-there : goal.join_in-requires-clause-there
join_in-requires-clause-there c = (declared_there (state_in c.args.ranks.now c.args.memories.now) c.args.invocation.now.caller.rank c.args.invocation.now.caller.thread c.requires.joins.declared).within

pub join_in-requires-clause-joins : goal.join_in-requires-clause-joins
join_in-requires-clause-joins c =
    let joins : Joins (state_in c.args.ranks.now c.args.memories.now) c.args.invocation.now.caller c.args.invocation.now.call.now c.args.args = joins_by _ _ _ _ c.requires.whole.sound c.requires.joins.declared c.requires.joins.joins in
    let same : c.of-id.result ≡ group_of c.args.invocation.now.call.now = c.of-id.ensures ∙ c.unwrap_or.ensures ∙ ap (λ (r : CallRow). unwrap_or r.group 0) c.args.invocation.now.rowed in
    subst (λ (n : ℕ). MayJoin (state_in c.args.ranks.now c.args.memories.now) c.args.invocation.now.caller n c.args.args) (sym same) joins.may

pub join_in-requires-clause-room : goal.join_in-requires-clause-room
join_in-requires-clause-room c = room_of_join (state_in c.args.ranks.now c.args.memories.now) c.args.invocation.now.caller (group_of c.args.invocation.now.call.now) c.args.args c.requires.joins.steps
