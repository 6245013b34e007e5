use Rattle.post_queue.proofs.Rising.{take-permitted, found-at}
use Rattle.post_queue.specs.Places.{posted_position}
use Rattle.post_queue.proofs.laws.takes.Goals as goal

pub returns-clause-permitted : goal.returns-clause-permitted
returns-clause-permitted c = take-permitted

pub returns-clause-found : goal.returns-clause-found
returns-clause-found c = λ lane e rising at. found-at lane (posted_position lane) e rising at
