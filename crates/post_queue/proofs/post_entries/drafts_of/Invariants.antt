use Rattle.std.proofs.Common.{◌≡◌, take}
use Rattle.post_queue.proofs.post_entries.drafts_of.Given as goal

abbrev pub invariant-loop-kind : goal.invariant-loop-kind
invariant-loop-kind l = l.drafts.items ≡ take l.kind-index l.kinds
