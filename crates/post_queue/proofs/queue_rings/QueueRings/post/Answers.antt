use Rattle.std.proofs.Common.{List, [], ◌∷◌, length, ◌∙◌, ap, arith}
use Rattle.post_queue.specs.QueueStates.{QueueState}
use Rattle.gaspi_types.specs.Lanes.{posted_entries}
use Rattle.gaspi_types.specs.declared.entries.Kind.{Kind}
use Rattle.post_queue.proofs.Queues.{one-taken, next-posted, same-targets, all-posted}
use Rattle.post_queue.proofs.queue_rings.QueueRings.post.Goals as goal

pub loop-draft-preserved : goal.loop-draft-preserved
loop-draft-preserved c =
    let rest = c.take_first.new.self in
    let all = one-taken c.loop-draft.entries rest c.in-Some.draft c.in-Some.ensures.first c.in-Some.ensures.rest in
    let long = ap (λ (kinds : List Kind). length kinds) all in
    let open_count = ap (λ (s : QueueState). s.queue.open_count) c.post_one.ensures in
    let depth = ap (λ (s : QueueState). s.depth) c.post_one.ensures in
    let invariant = c.loop-draft.invariant in
    record {
      targets = same-targets c.loop-draft.self c.post_one.new.self c.args.target (posted_entries c.loop-draft.number (c.in-Some.draft ∷ [])) c.post_one.ensures ∙ invariant.targets;
      room = (let room = invariant.room in omega arith);
      numbers = (let numbers = invariant.numbers in omega arith);
      state = next-posted c.loop-draft.self c.post_one.new.self c.args.target c.loop-draft.number c.loop-draft.entries rest c.in-Some.draft all c.post_one.ensures ∙ invariant.state;
    }

pub returns : goal.returns
returns c = all-posted c.loop-draft.self _ c.args.target c.loop-draft.number c.loop-draft.entries c.in_default.ensures.first c.loop-draft.invariant.state
