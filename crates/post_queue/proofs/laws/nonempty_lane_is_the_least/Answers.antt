use Rattle.post_queue.proofs.Heads.{head-of-least, no-head-before, no-head}
use Rattle.post_queue.proofs.laws.nonempty_lane_is_the_least.Goals as goal

pub returns-clause-there : goal.returns-clause-there
returns-clause-there c = head-of-least

pub returns-clause-least : goal.returns-clause-least
returns-clause-least c = no-head-before

pub returns-clause-none : goal.returns-clause-none
returns-clause-none c = no-head
