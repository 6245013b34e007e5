use Rattle.std.proofs.Common.{◌≡◌, List, Some, refl, ◌∙◌, ap, arith}
use Rattle.gaspi_types.specs.declared.entries.Entry.{Entry}
use Rattle.gaspi_types.specs.declared.entries.Phase.TheVariants.{Failed}
use Rattle.post_queue.specs.LaneStates.{LaneValue}
use Rattle.post_queue.specs.Places.{first_carried, with_phase}
use Rattle.post_queue.specs.QueueStates.{QueueState, state_of}
use Rattle.post_queue.specs.Steps.{head_failed_in}
use Rattle.post_queue.specs.declared.kinds.PhaseKind.TheVariants as progress
use Rattle.post_queue.proofs.Queues.{putting, some-of, at-if, carried-progress, state-changed, whole-at, small-tally, phase-step}
use Rattle.post_queue.specs.Nonempty.{is_nonempty}
use Rattle.post_queue.proofs.Nonempty.{nonempty-kept, nonempty-phase}
use Rattle.post_queue.proofs.queue_rings.QueueRings.fail_carried.Goals as goal

pub fail_carried-kind-requires-clause-whole : goal.fail_carried-kind-requires-clause-whole
fail_carried-kind-requires-clause-whole c =
    let at = putting _ _ _ c.self.inside.lanes c.index.result c.args.target c.at_mut.result.now c.args.self.now c.index.ensures.value c.at_mut.ensures.value c.self.view_is c.requires in
    whole-at c.self.inside.lanes c.index.result c.at_mut.result.now c.self.invariant.queue at.0 c.at_mut.ensures.value

pub fail_carried-kind-requires-clause-there : goal.fail_carried-kind-requires-clause-there
fail_carried-kind-requires-clause-there c =
    let at = putting _ _ _ c.self.inside.lanes c.index.result c.args.target c.at_mut.result.now c.args.self.now c.index.ensures.value c.at_mut.ensures.value c.self.view_is c.requires in
    at.1

pub add-requires : goal.add-requires
add-requires c = small-tally c.self.invariant.queue

pub invariant_of-self : goal.invariant_of-self
invariant_of-self c = record {
  queue =
      let at = putting _ _ _ c.self.inside.lanes c.index.result c.args.target c.at_mut.result.now c.args.self.now c.index.ensures.value c.at_mut.ensures.value c.self.view_is c.requires in
      let first = some-of (first_carried c.at_mut.result.now.entries) at.1 in
      phase-step c.self.inside.lanes (Some c.args.target) c.index.result c.at_mut.result.now c.fail_carried-kind.new.self 0 first.0 Failed c.fail_carried-kind.result progress.Carried c.add.new.self c.subtract.new.self
      c.self.invariant.queue c.at_mut.ensures.value (c.fail_carried-kind.ensures.head ∙ first.1) (carried-progress c.at_mut.result.now.entries first.0 first.1)
      (at-if (λ (e : Entry). c.fail_carried-kind.result ≡ e.kind) _ first.0 first.1 c.fail_carried-kind.ensures.kind)
      c.fail_carried-kind.ensures.lane c.fail_carried-kind.ensures.bound c.add.ensures c.subtract.ensures refl (λ unbroken. absurd (let no : ⊥ = cc in no));
  nonempty = nonempty-kept c.self.inside.nonempty c.self.inside.lanes c.index.result c.args.target c.at_mut.result.now c.fail_carried-kind.new.self c.index.ensures.value (let within = c.index.ensures.bound in let same = c.index.ensures.value in omega arith) c.self.invariant.nonempty c.at_mut.ensures.value (ap (λ (l : LaneValue). is_nonempty l.entries) c.fail_carried-kind.ensures.lane ∙ nonempty-phase c.at_mut.result.now.entries 0 Failed);
}

pub returns : goal.returns
returns c =
    state-changed _ _ (Some c.args.target) c.self.inside.lanes c.index.result c.args.target c.at_mut.result.now c.fail_carried-kind.new.self (λ (lane : List Entry). with_phase lane 0 Failed)
    c.index.ensures.value c.at_mut.ensures.value (ap (λ (l : LaneValue). l.entries) c.fail_carried-kind.ensures.lane)
    ∙ ap (λ (s : QueueState). state_of s.depth (head_failed_in c.args.target s.queue)) c.self.view_is
