use Rattle.std.proofs.Common.{List, map, sym, ◌∙◌, ap}
use Rattle.std.specs.List.{list_any}
use Rattle.gaspi_types.specs.Lanes.{is_user}
use Rattle.gaspi_types.specs.declared.entries.Entry.{Entry}
use Rattle.post_queue.specs.QueueStates.{QueueState, entries_of}
use Rattle.post_queue.proofs.Counts.{any-total}
use Rattle.post_queue.proofs.queue_rings.QueueRings.has_user.Goals as goal

pub returns : goal.returns
returns c =
    let is = c.self.invariant.queue.counts.tally.users c.args.segment c.requires in
    rw is (sym (any-total (is_user c.args.segment) (map entries_of c.self.inside.lanes)) ∙ ap (λ (s : QueueState). list_any (λ (lane : List Entry). list_any (is_user c.args.segment) lane) s.queue.lanes) c.self.view_is)
