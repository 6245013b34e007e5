use Rattle.std.proofs.Common.{◌≡◌, List, length, refl, ◌∙◌, ap, arith}
use Rattle.gaspi_types.specs.declared.entries.Entry.{Entry}
use Rattle.gaspi_types.specs.declared.entries.Phase.TheVariants.{Carried}
use Rattle.post_queue.specs.Payloads.{payload_size}
use Rattle.post_queue.specs.LaneStates.{LaneValue}
use Rattle.post_queue.specs.Places.{first_posted, posted_position, with_phase}
use Rattle.post_queue.specs.QueueStates.{QueueState, state_of}
use Rattle.post_queue.specs.Steps.{carried_in}
use Rattle.post_queue.specs.declared.kinds.PhaseKind.TheVariants as progress
use Rattle.post_queue.proofs.Rings.{some-from}
use Rattle.post_queue.proofs.Queues.{taking, some-of, at-if, posted-progress, state-changed, room-at, whole-at, small-tally, phase-step}
use Rattle.post_queue.specs.Nonempty.{is_nonempty}
use Rattle.post_queue.proofs.Nonempty.{nonempty-kept, nonempty-phase}
use Rattle.post_queue.proofs.queue_rings.QueueRings.mark_carried.Goals as goal

pub carry-kind-requires-clause-whole : goal.carry-kind-requires-clause-whole
carry-kind-requires-clause-whole c =
    let at = taking _ _ _ c.self.inside.lanes c.index.result c.args.target c.at_mut.result.now c.args.self.now (λ (e : Entry). length c.args.bytes.now ≡ payload_size e.kind) c.index.ensures.value c.at_mut.ensures.value c.self.view_is c.requires in
    whole-at c.self.inside.lanes c.index.result c.at_mut.result.now c.self.invariant.queue at.unbroken c.at_mut.ensures.value

pub carry-kind-requires-clause-room : goal.carry-kind-requires-clause-room
carry-kind-requires-clause-room c =
    let at = taking _ _ _ c.self.inside.lanes c.index.result c.args.target c.at_mut.result.now c.args.self.now (λ (e : Entry). length c.args.bytes.now ≡ payload_size e.kind) c.index.ensures.value c.at_mut.ensures.value c.self.view_is c.requires in
    let room = at.room in
    let deep = room-at c.self.inside.lanes c.index.result c.at_mut.result.now c.self.invariant.queue c.at_mut.ensures.value in
    omega arith

pub carry-kind-requires-clause-fits : goal.carry-kind-requires-clause-fits
carry-kind-requires-clause-fits c =
    let at = taking _ _ _ c.self.inside.lanes c.index.result c.args.target c.at_mut.result.now c.args.self.now (λ (e : Entry). length c.args.bytes.now ≡ payload_size e.kind) c.index.ensures.value c.at_mut.ensures.value c.self.view_is c.requires in
    at.there

pub add-requires : goal.add-requires
add-requires c = small-tally c.self.invariant.queue

pub invariant_of-self : goal.invariant_of-self
invariant_of-self c = record {
  queue =
      let at = taking _ _ _ c.self.inside.lanes c.index.result c.args.target c.at_mut.result.now c.args.self.now (λ (e : Entry). length c.args.bytes.now ≡ payload_size e.kind) c.index.ensures.value c.at_mut.ensures.value c.self.view_is c.requires in
      let first = some-of (first_posted c.at_mut.result.now.entries) (some-from (λ (e : Entry). length c.args.bytes.now ≡ payload_size e.kind) _ at.there) in
      phase-step c.self.inside.lanes c.self.inside.broken c.index.result c.at_mut.result.now c.carry-kind.new.self (posted_position c.at_mut.result.now.entries) first.0 (Carried c.args.bytes.now) c.carry-kind.result progress.Posted c.add.new.self c.subtract.new.self
      c.self.invariant.queue c.at_mut.ensures.value first.1 (posted-progress c.at_mut.result.now.entries first.0 first.1)
      (at-if (λ (e : Entry). c.carry-kind.result ≡ e.kind) _ first.0 first.1 c.carry-kind.ensures.kind)
      c.carry-kind.ensures.lane c.carry-kind.ensures.bound c.add.ensures c.subtract.ensures refl (λ unbroken. (unbroken, refl));
  nonempty = nonempty-kept c.self.inside.nonempty c.self.inside.lanes c.index.result c.args.target c.at_mut.result.now c.carry-kind.new.self c.index.ensures.value (let within = c.index.ensures.bound in let same = c.index.ensures.value in omega arith) c.self.invariant.nonempty c.at_mut.ensures.value (ap (λ (l : LaneValue). is_nonempty l.entries) c.carry-kind.ensures.lane ∙ nonempty-phase c.at_mut.result.now.entries (posted_position c.at_mut.result.now.entries) (Carried c.args.bytes.now));
}

pub returns : goal.returns
returns c =
    state-changed _ _ c.self.inside.broken c.self.inside.lanes c.index.result c.args.target c.at_mut.result.now c.carry-kind.new.self (λ (lane : List Entry). with_phase lane (posted_position lane) (Carried c.args.bytes.now))
    c.index.ensures.value c.at_mut.ensures.value (ap (λ (l : LaneValue). l.entries) c.carry-kind.ensures.lane)
    ∙ ap (λ (s : QueueState). state_of s.depth (carried_in c.args.target c.args.bytes.now s.queue)) c.self.view_is
