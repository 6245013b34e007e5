use Rattle.std.proofs.Common.{◌≡◌, ℕ, sym, ap, subst, ◌∙◌, arith}
use Rattle.std.specs.Option.{unwrap_or}
use Rattle.gaspi_types.specs.declared.call_rows.CallRow.{CallRow}
use Rattle.gaspi_types.specs.declared.calls.Call.{Call}
use Rattle.gaspi_types.specs.declared.events.Event.TheVariants.{Joined}
use Rattle.gaspi_model.specs.CollectiveCalls.{group_of, joining_call}
use Rattle.rank_node.specs.Capacities.{NumberCapacities}
use Rattle.rank_node.specs.Collectives.{IsPendingFor}
use Rattle.rank_node.specs.Lending.{IsStepOn, MayStep, IsLeft, behind}
use Rattle.two_nodes.proofs.LookSteps.{join-itself}
use Rattle.two_nodes.proofs.LentLookSteps.{may-join, join-within, join-fits, join-made}
use Rattle.two_nodes.proofs.looks.join_once.Goals as goal

pub named_group-id-requires : goal.named_group-id-requires
named_group-id-requires c =
    let call = c.args.invocation.now.call.now in
    let lent = c.args.lent.now in
    let same : unwrap_or c.args.invocation.now.row.group 0 ≡ group_of call = ap (λ (r : CallRow). unwrap_or r.group 0) c.args.invocation.now.rowed in
    let below = join-within c.args.invocation.now.caller call c.args.args lent.own.now (behind lent.peer) (behind lent.group) c.requires.joins in
    omega (arith, same, below)

pub joined-requires-clause-own : goal.joined-requires-clause-own
joined-requires-clause-own c = sym c.requires.joins.1.lent.lends.own_node.posts.me

pub joined-requires-clause-step : goal.joined-requires-clause-step
joined-requires-clause-step c =
    let call = c.args.invocation.now.call.now in
    let lent = c.args.lent.now in
    let same : c.named_group-id.result ≡ group_of call = c.named_group-id.ensures ∙ ap (λ (r : CallRow). unwrap_or r.group 0) c.args.invocation.now.rowed in
    subst (λ (n : ℕ). MayStep (Joined c.args.invocation.now.caller n c.args.args) lent.own.now (behind lent.peer) (behind lent.group)) (sym same)
    (may-join c.args.invocation.now.caller call c.args.args lent.own.now (behind lent.peer) (behind lent.group) c.requires.joins)

pub joined-requires-clause-capacity : goal.joined-requires-clause-capacity
joined-requires-clause-capacity c =
    let call = c.args.invocation.now.call.now in
    let lent = c.args.lent.now in
    let fits = join-fits c.args.invocation.now.caller call c.args.args lent.own.now (behind lent.peer) (behind lent.group) c.requires.joins in
    let values = ap (λ (n : NumberCapacities). n.values) c.requires.room.numbers in
    omega (arith, fits, values)

pub joined-requires-clause-made : goal.joined-requires-clause-made
joined-requires-clause-made c =
    let lent = c.args.lent.now in
    rw c.take-made.ensures.value
    (join-made c.args.invocation.now.caller c.args.invocation.now.call.now c.args.args lent.own.now (behind lent.peer) (behind lent.group) c.args.room.now.made c.requires.joins c.requires.room.recording.made)

pub returns-clause-pending : goal.returns-clause-pending
returns-clause-pending c =
    let call = c.args.invocation.now.call.now in
    let same : c.named_group-id.result ≡ group_of call = c.named_group-id.ensures ∙ ap (λ (r : CallRow). unwrap_or r.group 0) c.args.invocation.now.rowed in
    let posts = c.joined.new.self.own.now.posts in
    let here = subst (λ (n : ℕ). IsPendingFor posts c.args.invocation.now.caller.thread n (joining_call n c.args.args)) same c.joined.ensures.pending in
    subst (λ (x : Call). IsPendingFor posts c.args.invocation.now.caller.thread (group_of call) x) (join-itself c.requires.joins.0 c.args.invocation.now.caller call c.args.args c.requires.joins.1.joins) here

pub returns-clause-left : goal.returns-clause-left
returns-clause-left c = λ s m on.
    let call = c.args.invocation.now.call.now in
    let caller = c.args.invocation.now.caller in
    let lent = c.args.lent.now in
    let left = c.joined.new.self in
    let same : c.named_group-id.result ≡ group_of call = c.named_group-id.ensures ∙ ap (λ (r : CallRow). unwrap_or r.group 0) c.args.invocation.now.rowed in
    subst (λ (n : ℕ). IsLeft s m (Joined caller n c.args.args) c.args.places.now lent.own.now left.own.now (behind lent.peer) (behind left.peer) (behind left.group)) same
    (c.joined.ensures.left s m (subst (λ (n : ℕ). IsStepOn s m (Joined caller n c.args.args) lent.own.now (behind lent.peer) (behind lent.group)) (sym same) on))
