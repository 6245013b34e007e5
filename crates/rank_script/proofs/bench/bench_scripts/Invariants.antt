use Rattle.std.proofs.Common.{◌≡◌}
use Rattle.rank_script.specs.BenchScripts.{bench_scripts}
use Rattle.rank_script.proofs.bench.bench_scripts.Given as goal

-- the scripts of the ranks so far
abbrev pub invariant-loop-rank : goal.invariant-loop-rank
invariant-loop-rank l = l.scripts ≡ bench_scripts l.seed l.ranks l.rounds l.rank
