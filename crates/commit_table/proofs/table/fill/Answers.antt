use Rattle.std.proofs.Common.{[], ◌∷◌, ◌++◌, ◌∙◌, ap, sym}
use Rattle.commit_table.specs.Calls.{spread}
use Rattle.commit_table.proofs.Lists.{spread_more}
use Rattle.commit_table.proofs.table.fill.Goals as goal

pub loop-shard-preserved : goal.loop-shard-preserved
loop-shard-preserved g c = c.in_ok-fill_next.ensures ∙ (ap (λ z. z ++ spread (c.in-Some.shard ∷ [])) c.loop-shard.invariant ∙ sym (spread_more c.loop-shard.yielded c.in-Some.shard))
