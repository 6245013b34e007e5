use Rattle.std.proofs.Common.{◌≡◌, ℕ, ◌+◌, ◌≤◌, false, nat_le, Result, refl, sym, subst, ◌∙◌}
use Rattle.std.proofs.lemmas.Bool.{leb-true}
use Rattle.gaspi_types.specs.declared.events.Event.TheVariants.{Called}
use Rattle.gaspi_types.specs.declared.replies.Reply.{Reply}
use Rattle.gaspi_model.specs.Calls.{recorded_reply}
use Rattle.gaspi_model.specs.State.{owed}
use Rattle.gaspi_model.specs.Step.{step, Steps}
use Rattle.gaspi_model.specs.declared.states.StepFault.{StepFault}
use Rattle.plain_calls.specs.Looks.{recorded_of}
use Rattle.plain_machine.specs.Machine.{state_in}
use Rattle.plain_machine.proofs.EventRooms.{full_step}
use Rattle.plain_machine.proofs.Recorded.{declared_there, unanswered, recorded_by}
use Rattle.plain_machine.proofs.looking.step_looked.Goals as goal

pub returns-then-not-may_be_recorded_with-clause-step : goal.returns-then-not-may_be_recorded_with-clause-step
returns-then-not-may_be_recorded_with-clause-step c = (
  unanswered (state_in c.args.ranks.now c.args.memories.now) c.args.invocation.now.caller c.args.invocation.now.call.now c.args.reply.now c.args.look.now c.requires.declared
      c.requires.look (sym c.may_be_recorded_with.ensures ∙ c.if-not-may_be_recorded_with.true),
  refl,
)

pub record_with_lanes-requires-clause-unjoined : goal.record_with_lanes-requires-clause-unjoined
record_with_lanes-requires-clause-unjoined c = (recorded_by c.args.look.now.ready c.args.reply.now (sym c.may_be_recorded_with.ensures ∙ c.if-not-may_be_recorded_with.false)).0

pub event_charge-charge-requires : goal.event_charge-charge-requires
event_charge-charge-requires c =
    (declared_there (state_in c.args.ranks.now c.args.memories.now) c.args.invocation.now.caller.rank c.args.invocation.now.caller.thread c.requires.declared).within

pub has_room-requires-clause-whole : goal.has_room-requires-clause-whole
has_room-requires-clause-whole c = (c.args.memories.now, record { sound = c.requires.machine.sound; fitting = c.requires.machine.fitting; used = c.requires.machine.used })

pub has_room-requires-clause-there : goal.has_room-requires-clause-there
has_room-requires-clause-there c =
    (declared_there (state_in c.args.ranks.now c.args.memories.now) c.args.invocation.now.caller.rank c.args.invocation.now.caller.thread c.requires.declared).within

pub record_with_lanes-requires-clause-found : goal.record_with_lanes-requires-clause-found
record_with_lanes-requires-clause-found c = record {
  declared = c.requires.declared;
  finds = c.requires.look;
  charge = c.event_charge-charge.ensures.charge;
  room = λ posts at. subst (λ (n : ℕ). posts.events + owed posts + n ≤ c.args.ranks.now.limits.events) (c.event_charge-charge.ensures.charge posts at)
      (leb-true _ _ (sym (c.has_room.ensures posts at) ∙ c.if-not-has_room.false));
}

pub returns-in-Ok-clause-step : goal.returns-in-Ok-clause-step
returns-in-Ok-clause-step c =
    let same = (recorded_by c.args.look.now.ready c.args.reply.now (sym c.may_be_recorded_with.ensures ∙ c.if-not-may_be_recorded_with.false)).1 in
    rw same (rw c.in-Ok.is at c.record_with_lanes.ensures.step)

pub returns-in-Err-clause-step : goal.returns-in-Err-clause-step
returns-in-Err-clause-step c = rw c.in-Err.is at c.record_with_lanes.ensures.step

pub returns-then-not-has_room-clause-step : goal.returns-then-not-has_room-clause-step
returns-then-not-has_room-clause-step c =
    let s = state_in c.args.ranks.now c.args.memories.now in
    let declared = c.requires.declared in
    let d = declared_there s c.args.invocation.now.caller.rank c.args.invocation.now.caller.thread declared in
    let by = recorded_by c.args.look.now.ready c.args.reply.now (sym c.may_be_recorded_with.ensures ∙ c.if-not-may_be_recorded_with.false) in
    let full = subst (λ (n : ℕ). nat_le (d.posts.events + owed d.posts + n) s.limits.events ≡ false) (c.event_charge-charge.ensures.charge d.posts d.item) (sym (c.has_room.ensures d.posts d.item) ∙ c.if-not-has_room.true) in (
      rw by.1 (full_step s c.args.invocation.now.caller c.args.invocation.now.call.now c.args.look.now d.posts declared c.requires.look by.0 d.item full),
      refl,
    )
