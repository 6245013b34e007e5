use Rattle.std.proofs.Common.{◌≡◌, List, Some, refl, ◌∙◌, ap, arith}
use Rattle.gaspi_types.specs.declared.entries.Entry.{Entry}
use Rattle.gaspi_types.specs.declared.entries.Phase.TheVariants.{Failed}
use Rattle.post_queue.specs.LaneStates.{LaneValue}
use Rattle.post_queue.specs.Places.{first_posted, posted_position, with_phase}
use Rattle.post_queue.specs.QueueStates.{QueueState, state_of}
use Rattle.post_queue.specs.Steps.{posted_failed_in}
use Rattle.post_queue.specs.declared.kinds.PhaseKind.TheVariants as progress
use Rattle.post_queue.proofs.Rings.{some-from}
use Rattle.post_queue.proofs.Queues.{taking, take-there, some-of, at-if, posted-progress, state-changed, room-at, whole-at, small-tally, phase-step}
use Rattle.post_queue.specs.Nonempty.{is_nonempty}
use Rattle.post_queue.proofs.Nonempty.{nonempty-kept, nonempty-phase}
use Rattle.post_queue.proofs.queue_rings.QueueRings.fail_posted.Goals as goal

pub fail_posted-kind-requires-clause-whole : goal.fail_posted-kind-requires-clause-whole
fail_posted-kind-requires-clause-whole c =
    let at = taking _ _ _ c.self.inside.lanes c.index.result c.args.target c.at_mut.result.now c.args.self.now (λ (e : Entry). Unit {0}) c.index.ensures.value c.at_mut.ensures.value c.self.view_is (take-there _ c.requires) in
    whole-at c.self.inside.lanes c.index.result c.at_mut.result.now c.self.invariant.queue at.unbroken c.at_mut.ensures.value

pub fail_posted-kind-requires-clause-room : goal.fail_posted-kind-requires-clause-room
fail_posted-kind-requires-clause-room c =
    let at = taking _ _ _ c.self.inside.lanes c.index.result c.args.target c.at_mut.result.now c.args.self.now (λ (e : Entry). Unit {0}) c.index.ensures.value c.at_mut.ensures.value c.self.view_is (take-there _ c.requires) in
    let room = at.room in
    let deep = room-at c.self.inside.lanes c.index.result c.at_mut.result.now c.self.invariant.queue c.at_mut.ensures.value in
    omega arith

pub fail_posted-kind-requires-clause-there : goal.fail_posted-kind-requires-clause-there
fail_posted-kind-requires-clause-there c =
    let at = taking _ _ _ c.self.inside.lanes c.index.result c.args.target c.at_mut.result.now c.args.self.now (λ (e : Entry). Unit {0}) c.index.ensures.value c.at_mut.ensures.value c.self.view_is (take-there _ c.requires) in
    some-from (λ (e : Entry). Unit {0}) _ at.there

pub add-requires : goal.add-requires
add-requires c = small-tally c.self.invariant.queue

pub invariant_of-self : goal.invariant_of-self
invariant_of-self c = record {
  queue =
      let at = taking _ _ _ c.self.inside.lanes c.index.result c.args.target c.at_mut.result.now c.args.self.now (λ (e : Entry). Unit {0}) c.index.ensures.value c.at_mut.ensures.value c.self.view_is (take-there _ c.requires) in
      let first = some-of (first_posted c.at_mut.result.now.entries) (some-from (λ (e : Entry). Unit {0}) _ at.there) in
      phase-step c.self.inside.lanes (Some c.args.target) c.index.result c.at_mut.result.now c.fail_posted-kind.new.self (posted_position c.at_mut.result.now.entries) first.0 Failed c.fail_posted-kind.result progress.Posted c.add.new.self c.subtract.new.self
      c.self.invariant.queue c.at_mut.ensures.value first.1 (posted-progress c.at_mut.result.now.entries first.0 first.1)
      (at-if (λ (e : Entry). c.fail_posted-kind.result ≡ e.kind) _ first.0 first.1 c.fail_posted-kind.ensures.kind)
      c.fail_posted-kind.ensures.lane c.fail_posted-kind.ensures.bound c.add.ensures c.subtract.ensures refl (λ unbroken. absurd (let no : ⊥ = cc in no));
  nonempty = nonempty-kept c.self.inside.nonempty c.self.inside.lanes c.index.result c.args.target c.at_mut.result.now c.fail_posted-kind.new.self c.index.ensures.value (let within = c.index.ensures.bound in let same = c.index.ensures.value in omega arith) c.self.invariant.nonempty c.at_mut.ensures.value (ap (λ (l : LaneValue). is_nonempty l.entries) c.fail_posted-kind.ensures.lane ∙ nonempty-phase c.at_mut.result.now.entries (posted_position c.at_mut.result.now.entries) Failed);
}

pub returns : goal.returns
returns c =
    state-changed _ _ (Some c.args.target) c.self.inside.lanes c.index.result c.args.target c.at_mut.result.now c.fail_posted-kind.new.self (λ (lane : List Entry). with_phase lane (posted_position lane) Failed)
    c.index.ensures.value c.at_mut.ensures.value (ap (λ (l : LaneValue). l.entries) c.fail_posted-kind.ensures.lane)
    ∙ ap (λ (s : QueueState). state_of s.depth (posted_failed_in c.args.target s.queue)) c.self.view_is
