use Rattle.post_queue.proofs.Rising.{put-permitted, found-at, head-removed}
use Rattle.post_queue.proofs.laws.puts.Goals as goal

pub returns-clause-permitted : goal.returns-clause-permitted
returns-clause-permitted c = put-permitted

pub returns-clause-found : goal.returns-clause-found
returns-clause-found c = λ lane e rising at. found-at lane 0 e rising at

pub returns-clause-removed : goal.returns-clause-removed
returns-clause-removed c = head-removed
