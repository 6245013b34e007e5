use Rattle.std.proofs.Common.{[], ◌∷◌}
use Rattle.commit_table.proofs.shard_calls.add_event.Given as goal

abbrev pub ghosts-add_told : goal.ghosts-add_told
ghosts-add_told g a = record { told = a.event.now ∷ [] }
