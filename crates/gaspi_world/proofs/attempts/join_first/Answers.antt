use Rattle.std.proofs.Common.{[], ◌∷◌, refl, sym, ap, ◌∙◌, subst}
use Rattle.gaspi_types.specs.declared.calls.Call.{Call}
use Rattle.gaspi_types.specs.declared.events.Event.TheVariants.{Called}
use Rattle.gaspi_model.specs.CollectiveCalls.{join_event}
use Rattle.gaspi_world.specs.Attempts.{is_unready}
use Rattle.gaspi_world.specs.HeldShards.{IsCommitted}
use Rattle.gaspi_world.specs.HeldAttempts.{MayRecord}
use Rattle.gaspi_world.proofs.AttemptedCalls.{lent-call}
use Rattle.gaspi_world.proofs.CommittedNodes.{agrees-self}
use Rattle.gaspi_world.proofs.Working.{attempted-joined, recorded-attempted, early-attempted}
use Rattle.gaspi_world.proofs.attempts.join_first.Goals as goal

pub reserve-requires-clause-lent : goal.reserve-requires-clause-lent
reserve-requires-clause-lent c =
    let on = c.requires.holder in
    lent-call c.args.table.now.start.shape c.requires.world c.args.invocation.now.caller c.args.invocation.now.call.now c.args.held.now c.args.pass.now.known on.held on.own on.other

pub returns-in_default-clause-worked : goal.returns-in_default-clause-worked
returns-in_default-clause-worked c =
    let on = c.requires.holder in
    let v = c.args.pass.now.known in
    (refl, c.requires.joins.room v.seen on.held.shards.legal (agrees-self c.args.table.now.start.shape c.requires.world c.args.held.now v on.held))

pub returns-then-waits_for_later_look-clause-worked : goal.returns-then-waits_for_later_look-clause-worked
returns-then-waits_for_later_look-clause-worked c =
    let w = c.args.table.now.start.shape in
    let on = c.requires.holder in
    let v = c.args.pass.now.known in
    let agree = agrees-self w c.requires.world c.args.held.now v on.held in
    let found = c.requires.joins.finds v.seen on.held.shards.legal agree in
    let room = c.requires.joins.room v.seen on.held.shards.legal agree in
    let found_then = subst (λ (x : Call). MayRecord w c.args.invocation.now.caller x c.join-found.result c.join-found.new.pass.known.seen) c.in-Ok.ensures.ok c.join-found.ensures.found in
    let added = subst (λ (x : Call). IsCommitted w v (join_event c.args.invocation.now.caller x c.args.args) c.join-found.new.pass.known) c.in-Ok.ensures.ok c.join-found.ensures.added in
    let e = join_event c.args.invocation.now.caller c.args.invocation.now.call.now c.args.args in
    early-attempted w c.args.invocation.now.caller c.args.invocation.now.call.now (e ∷ []) c.args.look c.join-found.result v c.join-found.new.pass.known c.join-found.new.pass.known found_then.finds
    (attempted-joined w c.args.invocation.now.caller c.args.invocation.now.call.now v c.join-found.new.pass.known c.args.args on.caller found added) room (λ is. ap is_unready found) (sym c.waits_for_later_look.ensures ∙ c.if-waits_for_later_look.true) refl

pub returns-clause-worked : goal.returns-clause-worked
returns-clause-worked c =
    let w = c.args.table.now.start.shape in
    let on = c.requires.holder in
    let v = c.args.pass.now.known in
    let agree = agrees-self w c.requires.world c.args.held.now v on.held in
    let found = c.requires.joins.finds v.seen on.held.shards.legal agree in
    let room = c.requires.joins.room v.seen on.held.shards.legal agree in
    let found_then = subst (λ (x : Call). MayRecord w c.args.invocation.now.caller x c.join-found.result c.join-found.new.pass.known.seen) c.in-Ok.ensures.ok c.join-found.ensures.found in
    let added = subst (λ (x : Call). IsCommitted w v (join_event c.args.invocation.now.caller x c.args.args) c.join-found.new.pass.known) c.in-Ok.ensures.ok c.join-found.ensures.added in
    let e = join_event c.args.invocation.now.caller c.args.invocation.now.call.now c.args.args in
    recorded-attempted w c.args.invocation.now.caller c.args.invocation.now.call.now (e ∷ []) c.args.look c.join-found.result v c.join-found.new.pass.known c.record_with.new.pass.known c.record_with.result on.caller c.join-found.ensures.holder.held.shards.legal found_then.finds found_then.unjoined
    (attempted-joined w c.args.invocation.now.caller c.args.invocation.now.call.now v c.join-found.new.pass.known c.args.args on.caller found added) room (λ is. ap is_unready found) c.record_with.ensures.reply (sym c.waits_for_later_look.ensures ∙ c.if-waits_for_later_look.false)
    (subst (λ (x : Call). IsCommitted w c.join-found.new.pass.known (Called c.args.invocation.now.caller x c.record_with.result) c.record_with.new.pass.known) c.in-Ok.ensures.ok c.record_with.ensures.added)
