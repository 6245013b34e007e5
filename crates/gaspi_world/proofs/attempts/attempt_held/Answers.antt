use Rattle.std.proofs.Common.{Some, refl, sym, ap, ◌∙◌}
use Rattle.gaspi_types.specs.declared.replies.Ready.{Ready}
use Rattle.gaspi_model.specs.CollectiveCalls.{is_joining}
use Rattle.gaspi_world.proofs.AttemptedCalls.{lent-call, lends-call, found-at, full-at, may-record}
use Rattle.gaspi_world.proofs.CommittedNodes.{agrees-self, sound-at}
use Rattle.gaspi_world.proofs.Working.{settled-attempted}
use Rattle.gaspi_world.proofs.attempts.attempt_held.Goals as goal

pub answer-requires : goal.answer-requires
answer-requires c =
    let on = c.requires.holder in
    record { lent = lent-call c.args.table.now.start.shape c.requires.world c.args.invocation.now.caller c.args.invocation.now.call.now c.args.held.now c.args.pass.now.known on.held on.own on.other }

pub returns-then-lacks_room-clause-worked : goal.returns-then-lacks_room-clause-worked
returns-then-lacks_room-clause-worked c =
    let w = c.args.table.now.start.shape in
    let on = c.requires.holder in
    let v = c.args.pass.now.known in
    let full = full-at w c.requires.world c.args.invocation.now.caller c.args.invocation.now.call.now c.args.held.now v on.held on.own on.other v.seen on.held.shards.legal (agrees-self w c.requires.world c.args.held.now v on.held) in
    (refl, full ∙ (sym c.lacks_room.ensures ∙ c.if-lacks_room.true))

pub returns-in_default-clause-worked : goal.returns-in_default-clause-worked
returns-in_default-clause-worked c =
    let w = c.args.table.now.start.shape in
    let on = c.requires.holder in
    let v = c.args.pass.now.known in
    let full = full-at w c.requires.world c.args.invocation.now.caller c.args.invocation.now.call.now c.args.held.now v on.held on.own on.other v.seen on.held.shards.legal (agrees-self w c.requires.world c.args.held.now v on.held) in
    (refl, full ∙ (sym c.lacks_room.ensures ∙ c.if-lacks_room.false))

pub join_first-requires-clause-joins : goal.join_first-requires-clause-joins
join_first-requires-clause-joins c =
    let w = c.args.table.now.start.shape in
    let on = c.requires.holder in
    let v = c.args.pass.now.known in
    let caller = c.args.invocation.now.caller in
    let call = c.args.invocation.now.call.now in
    let h = c.args.held.now in
    record {
      finds = λ k is agree. found-at w c.requires.world caller call h v on.held on.own on.other k _ is
          (c.in-Ok.ensures.answer _ (sound-at w c.requires.world h v on.held k is) (lends-call w c.requires.world caller call h v on.held on.own on.other k is agree)) ∙ ap (λ (r : Ready). Some r) c.in-Ok-join_args.ensures.joins;
      room = λ k is agree. full-at w c.requires.world caller call h v on.held on.own on.other k is agree ∙ (sym c.lacks_room.ensures ∙ c.if-lacks_room.false);
    }

pub decide-requires-clause-found : goal.decide-requires-clause-found
decide-requires-clause-found c =
    let w = c.args.table.now.start.shape in
    let on = c.requires.holder in
    let v = c.args.pass.now.known in
    let caller = c.args.invocation.now.caller in
    let call = c.args.invocation.now.call.now in
    let h = c.args.held.now in
    let legal = on.held.shards.legal in
    let agree = agrees-self w c.requires.world h v on.held in
    let finds = found-at w c.requires.world caller call h v on.held on.own on.other v.seen _ legal
    (c.in-Ok.ensures.answer _ (sound-at w c.requires.world h v on.held v.seen legal) (lends-call w c.requires.world caller call h v on.held on.own on.other v.seen legal agree)) ∙ ap (λ (r : Ready). Some r) (sym c.in-Err.ensures.other.0) in
    may-record w c.requires.world caller call h v on.held on.own on.other c.in-Err.found on.caller finds (ap is_joining c.in-Err.ensures.other.0 ∙ c.in-Err.ensures.other.1)
    (full-at w c.requires.world caller call h v on.held on.own on.other v.seen legal agree ∙ (sym c.lacks_room.ensures ∙ c.if-lacks_room.false))

pub returns-in-Err-clause-worked : goal.returns-in-Err-clause-worked
returns-in-Err-clause-worked c =
    let w = c.args.table.now.start.shape in
    let on = c.requires.holder in
    let v = c.args.pass.now.known in
    let caller = c.args.invocation.now.caller in
    let call = c.args.invocation.now.call.now in
    let h = c.args.held.now in
    let legal = on.held.shards.legal in
    let agree = agrees-self w c.requires.world h v on.held in
    let finds = found-at w c.requires.world caller call h v on.held on.own on.other v.seen _ legal
    (c.in-Ok.ensures.answer _ (sound-at w c.requires.world h v on.held v.seen legal) (lends-call w c.requires.world caller call h v on.held on.own on.other v.seen legal agree)) ∙ ap (λ (r : Ready). Some r) (sym c.in-Err.ensures.other.0) in
    settled-attempted w caller call c.args.look c.in-Err.found v c.decide.new.pass.known c.decide.result on.caller legal finds (ap is_joining c.in-Err.ensures.other.0 ∙ c.in-Err.ensures.other.1)
    (full-at w c.requires.world caller call h v on.held on.own on.other v.seen legal agree ∙ (sym c.lacks_room.ensures ∙ c.if-lacks_room.false)) c.decide.ensures.settled
