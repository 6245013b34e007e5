use Rattle.std.proofs.Common.{◌≡◌, List, drop, ◌∙◌, ap, arith}
use Rattle.gaspi_types.specs.declared.entries.Entry.{Entry}
use Rattle.post_queue.specs.LaneStates.{LaneValue}
use Rattle.post_queue.specs.Places.{first_carried}
use Rattle.post_queue.specs.QueueStates.{QueueState, state_of}
use Rattle.post_queue.specs.Steps.{put_done_in}
use Rattle.post_queue.specs.declared.kinds.PhaseKind.TheVariants as progress
use Rattle.post_queue.proofs.Queues.{putting, some-of, at-if, carried-progress, state-changed, whole-at, head-step, unposted-at}
use Rattle.post_queue.specs.Nonempty.{is_nonempty}
use Rattle.post_queue.proofs.Nonempty.{nonempty-set, at-set}
use Rattle.post_queue.proofs.queue_rings.QueueRings.remove.Goals as goal

pub remove-kind-requires-clause-whole : goal.remove-kind-requires-clause-whole
remove-kind-requires-clause-whole c =
    let at = putting _ _ _ c.self.inside.lanes c.index-place.result c.args.target c.at_mut.result.now c.args.self.now c.index-place.ensures.value c.at_mut.ensures.value c.self.view_is c.requires in
    whole-at c.self.inside.lanes c.index-place.result c.at_mut.result.now c.self.invariant.queue at.0 c.at_mut.ensures.value

pub remove-kind-requires-clause-there : goal.remove-kind-requires-clause-there
remove-kind-requires-clause-there c =
    let at = putting _ _ _ c.self.inside.lanes c.index-place.result c.args.target c.at_mut.result.now c.args.self.now c.index-place.ensures.value c.at_mut.ensures.value c.self.view_is c.requires in
    at.1

pub invariant_of-self : goal.invariant_of-self
invariant_of-self c = record {
  queue =
      let at = putting _ _ _ c.self.inside.lanes c.index-place.result c.args.target c.at_mut.result.now c.args.self.now c.index-place.ensures.value c.at_mut.ensures.value c.self.view_is c.requires in
      let first = some-of (first_carried c.at_mut.result.now.entries) at.1 in
      head-step c.self.inside.lanes c.index-place.result c.at_mut.result.now c.remove-kind.new.self first.0 c.remove-kind.result progress.Carried c.subtract.new.self
      c.self.invariant.queue c.at_mut.ensures.value (c.remove-kind.ensures.head ∙ first.1) (carried-progress c.at_mut.result.now.entries first.0 first.1)
      (at-if (λ (e : Entry). c.remove-kind.result ≡ e.kind) _ first.0 first.1 c.remove-kind.ensures.kind)
      at.0 (unposted-at c.at_mut.result.now.entries first.0 first.1)
      c.remove-kind.ensures.lane c.remove-kind.ensures.bound c.subtract.ensures;
  nonempty = nonempty-set c.self.inside.nonempty c.set_member-self-inside.result c.self.inside.lanes c.index-place.result c.args.target c.at_mut.result.now c.remove-kind.new.self c.index-place.ensures.value (let within = c.index-place.ensures.bound in let same = c.index-place.ensures.value in omega arith) c.self.invariant.nonempty c.at_mut.ensures.value (c.set_member-self-inside.ensures.here ∙ c.is_nonempty-member.ensures ∙ ap (λ (l : LaneValue). is_nonempty l.entries) (at-set c.self.inside.lanes c.index-place.result c.at_mut.result.now c.remove-kind.new.self c.at.result.now c.at_mut.ensures.value c.at.ensures)) c.set_member-self-inside.ensures.others;
}

pub returns : goal.returns
returns c =
    state-changed _ _ c.self.inside.broken c.self.inside.lanes c.index-place.result c.args.target c.at_mut.result.now c.remove-kind.new.self (λ (lane : List Entry). drop 1 lane)
    c.index-place.ensures.value c.at_mut.ensures.value (ap (λ (l : LaneValue). l.entries) c.remove-kind.ensures.lane)
    ∙ ap (λ (s : QueueState). state_of s.depth (put_done_in c.args.target s.queue)) c.self.view_is
