use Rattle.std.proofs.Common.{◌≡◌, ◌+◌, ◌*◌}
use Rattle.rank_script.specs.Bench.{bench_segments, bench_callers}
use Rattle.rank_script.proofs.bench.bench_shape.Given as goal

-- the ranks so far are declared
abbrev pub invariant-loop-rank : goal.invariant-loop-rank
invariant-loop-rank l = l.shape ≡ record {
  limits = record { ranks = l.ranks; queues = 1; depth = 4; notes = 1; inbox = 1; events = 12 * l.rounds + 1 };
  segments = bench_segments l.rank;
  callers = bench_callers l.rank;
}
