use Rattle.std.proofs.Common.{◌∙◌, sym, refl}
use Rattle.gaspi_types.specs.declared.events.Event.TheVariants.{Called}
use Rattle.gaspi_model.specs.Calls.{recorded_reply}
use Rattle.plain_calls.specs.Looks.{recorded_of}
use Rattle.plain_machine.specs.Machine.{state_in}
use Rattle.plain_machine.proofs.Renamed.{quiet_steps, posting_first, posting_more, posting_parted}
use Rattle.plain_machine.proofs.looking.record_posting.Goals as goal

pub returns-in_default-clause-named : goal.returns-in_default-clause-named
returns-in_default-clause-named c =
    c.requires.machine.named
    ∙ sym (quiet_steps (state_in c.args.ranks.now c.args.memories.now) (state_in c.record_plain.new.ranks c.record_plain.new.memories) (Called c.args.invocation.now.caller c.args.invocation.now.call.now (recorded_reply c.args.look.now.ready)) (recorded_of c.record_plain.result)
    c.requires.machine.sound c.requires.machine.fitting (sym c.look_lane.ensures ∙ c.in_default.is) c.requires.unpurged c.record_plain.ensures.step)

pub returns-then-has_entry-clause-named : goal.returns-then-has_entry-clause-named
returns-then-has_entry-clause-named c =
    c.requires.machine.named
    ∙ sym (posting_more (state_in c.args.ranks.now c.args.memories.now) (state_in c.record_plain-then-has_entry.new.ranks c.record_plain-then-has_entry.new.memories) (Called c.args.invocation.now.caller c.args.invocation.now.call.now (recorded_reply c.args.look.now.ready)) c.in-Some.id (recorded_of c.record_plain-then-has_entry.result)
    c.requires.machine.sound (sym c.look_lane.ensures ∙ c.in-Some.is) refl (c.has_entry.ensures.some c.if-has_entry.true) c.record_plain-then-has_entry.ensures.step)

pub returns-clause-named : goal.returns-clause-named
returns-clause-named c =
    c.insert_lane.ensures
    ∙ (rw (c.reserve.ensures.items, c.requires.machine.named)
    (posting_first (state_in c.args.ranks.now c.args.memories.now) (state_in c.record_plain-2.new.ranks c.record_plain-2.new.memories) (Called c.args.invocation.now.caller c.args.invocation.now.call.now (recorded_reply c.args.look.now.ready)) c.in-Some.id
    c.requires.machine.sound (sym c.look_lane.ensures ∙ c.in-Some.is) refl (c.has_entry.ensures.none c.if-has_entry.false) c.in_ok-record_plain.ensures.step))

pub insert_lane-requires-clause-parted : goal.insert_lane-requires-clause-parted
insert_lane-requires-clause-parted c =
    rw (c.reserve.ensures.items, c.requires.machine.named)
    (posting_parted (state_in c.args.ranks.now c.args.memories.now) (state_in c.record_plain-2.new.ranks c.record_plain-2.new.memories) (Called c.args.invocation.now.caller c.args.invocation.now.call.now (recorded_reply c.args.look.now.ready)) c.in-Some.id
    c.requires.machine.sound (sym c.look_lane.ensures ∙ c.in-Some.is) refl (c.has_entry.ensures.none c.if-has_entry.false) c.in_ok-record_plain.ensures.step)
