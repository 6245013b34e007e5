use Rattle.std.proofs.Common.{◌≡◌, Option, Some, sym, ap, ◌∙◌}
use Rattle.gaspi_types.specs.declared.groups.Args.{Args}
use Rattle.gaspi_types.specs.declared.replies.Ready.{Ready}
use Rattle.gaspi_types.specs.declared.replies.Ready.TheVariants.{Join}
use Rattle.gaspi_model.specs.CollectiveCalls.{is_joining}
use Rattle.gaspi_model.proofs.Recordable.{joined-is_step, joined-goes-on, recorded-is_step}
use Rattle.plain_schedule.specs.Schedule.{join_args}
use Rattle.plain_schedule.proofs.Declared.{active-declared}
use Rattle.plain_schedule.proofs.Room.{has-room}
use Rattle.plain_schedule.proofs.moves.follow_look.Goals as goal

pub look_again-requires-clause-steps : goal.look_again-requires-clause-steps
look_again-requires-clause-steps c =
    let s = c.args.schedule.now.state in
    let room = has-room s c.args.invocation.now.caller c.args.invocation.now.call.now c.requires.room in
    recorded-is_step s c.args.invocation.now.caller c.args.invocation.now.call.now c.args.look.now.ready c.limits.ensures.sound (active-declared s _ _ c.requires.active) room c.requires.answer (ap is_joining c.in-NotReady.is)

pub record_call-requires-clause-steps : goal.record_call-requires-clause-steps
record_call-requires-clause-steps c =
    let s = c.args.schedule.now.state in
    let room = has-room s c.args.invocation.now.caller c.args.invocation.now.call.now c.requires.room in
    recorded-is_step s c.args.invocation.now.caller c.args.invocation.now.call.now c.args.look.now.ready c.limits.ensures.sound (active-declared s _ _ c.requires.active) room c.requires.answer (ap is_joining c.in-Reply.is)

pub join_group-requires-clause-steps : goal.join_group-requires-clause-steps
join_group-requires-clause-steps c =
    let s = c.args.schedule.now.state in
    let room = has-room s c.args.invocation.now.caller c.args.invocation.now.call.now c.requires.room in
    let both : ◌≡◌ {A = Option Args} (Some c.in-Join.field-0) (Some c.in-Some.args) = sym (ap join_args c.in-Join.is) ∙ (sym c.join_args.ensures ∙ c.in-Some.is) in
    let same : c.in-Join.field-0 ≡ c.in-Some.args = cc in
    joined-is_step s c.args.invocation.now.caller c.args.invocation.now.call.now c.in-Some.args c.limits.ensures.sound room (c.requires.answer ∙ ap (λ (r : Ready). Some r) (c.in-Join.is ∙ ap Join same))

pub look_joined-requires-clause-recordable : goal.look_joined-requires-clause-recordable
look_joined-requires-clause-recordable c = λ found now.
    let s = c.args.schedule.now.state in
    let room = has-room s c.args.invocation.now.caller c.args.invocation.now.call.now c.requires.room in
    let both : ◌≡◌ {A = Option Args} (Some c.in-Join.field-0) (Some c.in-Some.args) = sym (ap join_args c.in-Join.is) ∙ (sym c.join_args.ensures ∙ c.in-Some.is) in
    let same : c.in-Join.field-0 ≡ c.in-Some.args = cc in
    joined-goes-on s c.join_group.new.schedule.state c.args.invocation.now.caller c.args.invocation.now.call.now c.in-Some.args found c.limits.ensures.sound room
    (c.requires.answer ∙ ap (λ (r : Ready). Some r) (c.in-Join.is ∙ ap Join same)) c.in_ok-join_group-in-Some.ensures.stepped now
