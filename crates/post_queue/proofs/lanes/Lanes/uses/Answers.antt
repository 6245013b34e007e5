use Rattle.std.proofs.Common.{◌≡◌, List, sym, ◌∙◌, ap, rules}
use Rattle.std.specs.List.{position, list_any}
use Rattle.gaspi_types.specs.Lanes.{has_user}
use Rattle.gaspi_types.specs.Queues.{user_of}
use Rattle.gaspi_types.specs.declared.entries.Queue.{Queue}
use Rattle.post_queue.specs.QueueStates.{QueueState}
use Rattle.post_queue.specs.LanesStates.{LanesState}
use Rattle.post_queue.proofs.Queues.{position-map}
use Rattle.post_queue.proofs.lanes.Lanes.uses.Goals as goal

pub returns-clause-user : goal.returns-clause-user
returns-clause-user c = λ less.
    let same : c.map.result ≡ c.user_place.result = search rules in
    same
    ∙ (c.user_place.ensures.place
    ∙ (ap (λ (qs : List QueueState). position (λ (q : QueueState). list_any (has_user c.args.segment) q.queue.lanes) qs) c.as_slice.ensures
    ∙ (sym (position-map (λ (q : Queue). list_any (has_user c.args.segment) q.lanes) c.self.inside.queues)
    ∙ ap (λ (s : LanesState). user_of s.queues c.args.segment) c.self.view_is)))
