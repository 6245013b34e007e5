use Rattle.std.proofs.Common.{◌∙◌, sym, refl}
use Rattle.plain_calls.specs.Looks.{recorded_of}
use Rattle.plain_machine.proofs.Counted.{counts_joined}
use Rattle.plain_machine.proofs.Renamed.{quiet_steps}
use Rattle.plain_machine.proofs.Running.{stepped}
use Rattle.gaspi_model.specs.CollectiveCalls.{group_of, join_event}
use Rattle.plain_machine.specs.Machine.{state_in}
use Rattle.plain_machine.proofs.machine.Machine.join.Goals as goal

pub invariant_of-self : goal.invariant_of-self
invariant_of-self c =
    let old = state_in c.self.inside.ranks c.self.inside.memories in
    let new = state_in c.join_found.new.ranks c.join_found.new.memories in
    let event = join_event c.args.invocation.now.caller c.args.invocation.now.call.now c.args.args in
    let named =
    c.self.invariant.0.named
    ∙ sym (quiet_steps old new event (recorded_of c.join_found.result) c.self.invariant.0.sound c.self.invariant.0.fitting refl refl c.join_found.ensures.step) in (
      stepped old new event _ _ _ _ (recorded_of c.join_found.result) c.soundness.ensures.steps c.self.invariant.0 c.join_found.ensures.step c.join_found.ensures.used named,
      counts_joined c.self.inside.counts old new c.args.invocation.now.caller (group_of c.args.invocation.now.call.now) c.args.args (recorded_of c.join_found.result) c.soundness.ensures.limits c.self.invariant.1 c.join_found.ensures.step,
    )

pub join_found-requires-clause-joins : goal.join_found-requires-clause-joins
join_found-requires-clause-joins c = record {
  declared = rw (← c.self.view_is) at c.requires.declared;
  joins = rw (← c.self.view_is) at c.requires.joins;
  steps = rw (← c.self.view_is) at c.requires.steps;
}
