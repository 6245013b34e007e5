use Rattle.std.proofs.Common.{◌∙◌, sym, refl}
use Rattle.plain_machine.specs.Machine.{state_in, put_event}
use Rattle.plain_machine.proofs.Renamed.{leaving_none, leaving_some, leaving_parted}
use Rattle.plain_machine.proofs.steps.step_leaving.Goals as goal

pub remove_lane-requires-clause-parted : goal.remove_lane-requires-clause-parted
remove_lane-requires-clause-parted c =
    rw c.requires.named
    (leaving_parted (state_in c.args.ranks.now c.args.memories.now) (state_in c.step_put.new.ranks c.step_put.new.memories) (put_event (state_in c.args.ranks.now c.args.memories.now) c.args.id.now c.args.number c.args.given) c.args.id.now
    (rw c.in_ok-outcome.ensures.outcome refl) (rw c.in_ok-outcome.ensures.outcome refl) c.in_ok-outcome.ensures.step)

pub remove_lane-requires-clause-there : goal.remove_lane-requires-clause-there
remove_lane-requires-clause-there c =
    rw c.requires.named
    (leaving_none (state_in c.args.ranks.now c.args.memories.now) (state_in c.step_put.new.ranks c.step_put.new.memories) (put_event (state_in c.args.ranks.now c.args.memories.now) c.args.id.now c.args.number c.args.given) c.args.id.now
    (rw c.in_ok-outcome.ensures.outcome refl) (rw c.in_ok-outcome.ensures.outcome refl) (c.has_entry.ensures.none c.if-not-has_entry.true) c.in_ok-outcome.ensures.step).0

pub returns-then-not-has_entry-clause-named : goal.returns-then-not-has_entry-clause-named
returns-then-not-has_entry-clause-named c =
    c.remove_lane.ensures
    ∙ (rw c.requires.named
    (leaving_none (state_in c.args.ranks.now c.args.memories.now) (state_in c.step_put.new.ranks c.step_put.new.memories) (put_event (state_in c.args.ranks.now c.args.memories.now) c.args.id.now c.args.number c.args.given) c.args.id.now
    (rw c.in_ok-outcome.ensures.outcome refl) (rw c.in_ok-outcome.ensures.outcome refl) (c.has_entry.ensures.none c.if-not-has_entry.true) c.in_ok-outcome.ensures.step).1)

pub returns-else-not-has_entry-clause-named : goal.returns-else-not-has_entry-clause-named
returns-else-not-has_entry-clause-named c =
    c.requires.named
    ∙ sym (leaving_some (state_in c.args.ranks.now c.args.memories.now) (state_in c.step_put.new.ranks c.step_put.new.memories) (put_event (state_in c.args.ranks.now c.args.memories.now) c.args.id.now c.args.number c.args.given) c.args.id.now
    (rw c.in_ok-outcome.ensures.outcome refl) (rw c.in_ok-outcome.ensures.outcome refl) (c.has_entry.ensures.some c.if-not-has_entry.false) c.in_ok-outcome.ensures.step)
