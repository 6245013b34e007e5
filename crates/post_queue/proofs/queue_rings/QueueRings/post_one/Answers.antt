use Rattle.std.proofs.Common.{◌++◌, ◌∷◌, [], List, ◌∙◌, ap, arith, sym}
use Rattle.gaspi_types.specs.Lanes.{posted_entries}
use Rattle.gaspi_types.specs.Queues.{with_entries}
use Rattle.gaspi_types.specs.declared.entries.Entry.{Entry}
use Rattle.gaspi_types.specs.declared.entries.Phase.TheVariants.{Posted}
use Rattle.gaspi_types.specs.declared.entries.Kind.{Kind}
use Rattle.post_queue.specs.LaneStates.{LaneValue}
use Rattle.post_queue.specs.QueueStates.{QueueState, state_of}
use Rattle.post_queue.specs.QueueCounts.{with_entry}
use Rattle.post_queue.specs.declared.kinds.PhaseKind.TheVariants as progress
use Rattle.post_queue.proofs.Queues.{state-changed, room-at, posted-at, small-tally, post-step}
use Rattle.post_queue.specs.Nonempty.{is_nonempty}
use Rattle.post_queue.proofs.Nonempty.{nonempty-set, nonempty-post}
use Rattle.post_queue.proofs.queue_rings.QueueRings.post_one.Goals as goal

pub add-requires : goal.add-requires
add-requires c = small-tally c.self.invariant.queue

pub post-requires : goal.post-requires
post-requires c =
    let deep = room-at c.self.inside.lanes c.index.result c.at_mut.result.now c.self.invariant.queue c.at_mut.ensures.value in
    let posted = posted-at c.self.inside.lanes c.index.result c.at_mut.result.now c.self.invariant.queue c.at_mut.ensures.value in
    let depth = ap (λ (s : QueueState). s.depth) c.self.view_is in
    let opens = ap (λ (s : QueueState). s.queue.open_count) c.self.view_is in
    let room = c.requires.room in
    omega arith

pub invariant_of-self : goal.invariant_of-self
invariant_of-self c = record {
  queue =
      let depth = ap (λ (s : QueueState). s.depth) c.self.view_is in
      let opens = ap (λ (s : QueueState). s.queue.open_count) c.self.view_is in
      let room = c.requires.room in
      post-step c.self.inside.lanes c.index.result c.at_mut.result.now c.post.new.self c.args.number c.args.draft c.add.new.self
      c.self.invariant.queue c.at_mut.ensures.value (omega arith) c.post.ensures.lane c.post.ensures.bound (c.add.ensures ∙ ap (λ (k : Kind). with_entry c.self.inside.tally k progress.Posted) c.kind.ensures);
  nonempty = nonempty-set c.self.inside.nonempty c.set_member-self-inside.result c.self.inside.lanes c.index.result c.args.target c.at_mut.result.now c.post.new.self c.index.ensures.value (let within = c.index.ensures.bound in let same = c.index.ensures.value in omega arith) c.self.invariant.nonempty c.at_mut.ensures.value (c.set_member-self-inside.ensures.here ∙ sym (ap (λ (l : LaneValue). is_nonempty l.entries) c.post.ensures.lane ∙ nonempty-post _ _)) c.set_member-self-inside.ensures.others;
}

pub returns : goal.returns
returns c =
    state-changed _ _ c.self.inside.broken c.self.inside.lanes c.index.result c.args.target c.at_mut.result.now c.post.new.self (λ (lane : List Entry). lane ++ record { number = c.args.number; kind = c.args.draft; phase = Posted } ∷ [])
    c.index.ensures.value c.at_mut.ensures.value (ap (λ (l : LaneValue). l.entries) c.post.ensures.lane)
    ∙ ap (λ (s : QueueState). state_of s.depth (with_entries c.args.target (posted_entries c.args.number (c.args.draft ∷ [])) s.queue)) c.self.view_is
