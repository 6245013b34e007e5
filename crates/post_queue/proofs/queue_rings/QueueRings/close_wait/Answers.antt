use Rattle.std.proofs.Common.{◌≡◌, map, true, Ok, sym, subst, arith}
use Rattle.post_queue.specs.QueueStates.{QueueState, entries_of}
use Rattle.post_queue.specs.Steps.{wait_in}
use Rattle.post_queue.proofs.Queues.{wait-none}
use Rattle.post_queue.proofs.queue_rings.QueueRings.close_wait.Goals as goal

pub invariant_of-self : goal.invariant_of-self
invariant_of-self c = record {
  queue =
      let counts = c.self.invariant.queue.counts in
      let ready = subst (λ (s : QueueState). wait_in s.queue ≡ Ok true) (sym c.self.view_is) c.requires in
      let none = wait-none c.self.inside.open_count c.self.inside.broken (map entries_of c.self.inside.lanes) ready in
      record {
        rooms = c.self.invariant.queue.rooms;
        counts = record {
          deep = counts.deep;
          few = counts.few;
          short = counts.short;
          posted = omega arith;
          within = omega arith;
          whole = counts.whole;
          tally = counts.tally;
        };
      };
  nonempty = c.self.invariant.nonempty;
}
