use Rattle.std.proofs.Common.{Ok, Err, Some, refl, sym, ap, subst, ◌∙◌}
use Rattle.gaspi_types.specs.declared.replies.Ready.{Ready}
use Rattle.gaspi_types.specs.declared.replies.Reply.{Reply}
use Rattle.rank_node.specs.Lending.{behind}
use Rattle.rank_node.specs.declared.lent.Lent.{Lent}
use Rattle.two_nodes.specs.LentLooks.{HaveLooked}
use Rattle.two_nodes.specs.declared.stops.CallStop.TheVariants.{NoMemory}
use Rattle.two_nodes.proofs.LentLookSteps.{lends-for, answered-at, full-answered, looked-short, looked-waiting, settles, looked-settled}
use Rattle.two_nodes.proofs.looks.look.Goals as goal

pub settle-requires-clause-step : goal.settle-requires-clause-step
settle-requires-clause-step c =
    let caller = c.args.invocation.now.caller in
    let call = c.args.invocation.now.call.now in
    let lent = c.args.lent.now in
    let s = c.requires.lent.0 in
    let is = c.requires.lent.1 in
    let room = (full-answered s caller call lent.own.now (behind lent.peer) (behind lent.group) c.room.result c.need.result is c.room.ensures c.need.ensures).1 c.if-room-need.false in
    let told = c.in-Ok.ensures.answer s is.sound (lends-for s caller call lent.own.now (behind lent.peer) (behind lent.group) is.lends) ∙ ap (λ (r : Ready). Some r) c.in-Reply.is in
    let t = settles s caller call lent.own.now (behind lent.peer) (behind lent.group) c.in-Reply.reply is room (answered-at s caller call lent.own.now (behind lent.peer) (behind lent.group) _ is told) in
    (s, t.0, t.1)

pub join-requires-clause-joins : goal.join-requires-clause-joins
join-requires-clause-joins c =
    let caller = c.args.invocation.now.caller in
    let call = c.args.invocation.now.call.now in
    let lent = c.args.lent.now in
    let s = c.requires.lent.0 in
    let is = c.requires.lent.1 in
    let room = (full-answered s caller call lent.own.now (behind lent.peer) (behind lent.group) c.room.result c.need.result is c.room.ensures c.need.ensures).1 c.if-room-need.false in
    let told = c.in-Ok.ensures.answer s is.sound (lends-for s caller call lent.own.now (behind lent.peer) (behind lent.group) is.lends) ∙ ap (λ (r : Ready). Some r) c.in-Join.is in
    (s, record { lent = is; room = room; joins = answered-at s caller call lent.own.now (behind lent.peer) (behind lent.group) _ is told })

pub returns-in-NotReady-clause-looked : goal.returns-in-NotReady-clause-looked
returns-in-NotReady-clause-looked c = λ s is.
    let caller = c.args.invocation.now.caller in
    let call = c.args.invocation.now.call.now in
    let lent = c.args.lent.now in
    let room = (full-answered s caller call lent.own.now (behind lent.peer) (behind lent.group) c.room.result c.need.result is c.room.ensures c.need.ensures).1 c.if-room-need.false in
    let told = c.in-Ok.ensures.answer s is.sound (lends-for s caller call lent.own.now (behind lent.peer) (behind lent.group) is.lends) ∙ ap (λ (r : Ready). Some r) c.in-NotReady.is in
    looked-waiting s caller call lent.own.now (behind lent.peer) (behind lent.group) c.args.places.now is room (answered-at s caller call lent.own.now (behind lent.peer) (behind lent.group) _ is told)

pub returns-in-Ok-settle-clause-looked : goal.returns-in-Ok-settle-clause-looked
returns-in-Ok-settle-clause-looked c = λ s is.
    let caller = c.args.invocation.now.caller in
    let call = c.args.invocation.now.call.now in
    let lent = c.args.lent.now in
    let new = c.settle.new.lent in
    let room = (full-answered s caller call lent.own.now (behind lent.peer) (behind lent.group) c.room.result c.need.result is c.room.ensures c.need.ensures).1 c.if-room-need.false in
    let told = c.in-Ok.ensures.answer s is.sound (lends-for s caller call lent.own.now (behind lent.peer) (behind lent.group) is.lends) ∙ ap (λ (r : Ready). Some r) c.in-Reply.is in
    let at = answered-at s caller call lent.own.now (behind lent.peer) (behind lent.group) _ is told in
    let t = settles s caller call lent.own.now (behind lent.peer) (behind lent.group) c.in-Reply.reply is room at in
    let done = looked-settled s t.0 caller call c.in-Reply.reply c.args.places.now c.settle.new.places lent.own.now new.own.now (behind lent.peer) (behind new.peer) (behind lent.group) (behind new.group) room at t.1
    c.in-Ok-settle.ensures.reply.1 (c.in-Ok-settle.ensures.left s t.0 t.1) in
    subst (λ (r : Reply). HaveLooked s caller call (Ok (Some r)) c.args.places.now c.settle.new.places lent.own.now new.own.now (behind lent.peer) (behind new.peer) (behind new.group)) (sym c.in-Ok-settle.ensures.reply.0) done

pub returns-in-Err-clause-looked : goal.returns-in-Err-clause-looked
returns-in-Err-clause-looked c = λ s is.
    let caller = c.args.invocation.now.caller in
    let call = c.args.invocation.now.call.now in
    let lent = c.args.lent.now in
    let room = (full-answered s caller call lent.own.now (behind lent.peer) (behind lent.group) c.room.result c.need.result is c.room.ensures c.need.ensures).1 c.if-room-need.false in
    let kept = c.in-Err.ensures.kept refl in
    let same = looked-short s caller call lent.own.now (behind lent.peer) (behind lent.group) c.args.places.now is room in
    rw kept.1 (subst (λ (x : Lent). HaveLooked s caller call (Err NoMemory) c.args.places.now c.args.places.now lent.own.now x.own.now (behind lent.peer) (behind x.peer) (behind x.group)) (sym kept.0) same)

pub returns-in-Join-clause-looked : goal.returns-in-Join-clause-looked
returns-in-Join-clause-looked c = λ s is.
    let caller = c.args.invocation.now.caller in
    let call = c.args.invocation.now.call.now in
    let lent = c.args.lent.now in
    let room = (full-answered s caller call lent.own.now (behind lent.peer) (behind lent.group) c.room.result c.need.result is c.room.ensures c.need.ensures).1 c.if-room-need.false in
    let told = c.in-Ok.ensures.answer s is.sound (lends-for s caller call lent.own.now (behind lent.peer) (behind lent.group) is.lends) ∙ ap (λ (r : Ready). Some r) c.in-Join.is in
    c.join.ensures.looked s (record { lent = is; room = room; joins = answered-at s caller call lent.own.now (behind lent.peer) (behind lent.group) _ is told })
