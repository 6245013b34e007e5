-- The lines of a script that are not in memory. (own choice)
use Rattle.std.specs.Prelude.{List, [], Option, None, Some}
use Rattle.rank_script.specs.Bench.{bench_lines}
use Rattle.rank_script.specs.declared.ring_ranks.RingRank.{RingRank}
use Rattle.rank_script.specs.declared.scripts.ScriptLine.{ScriptLine}

-- the lines of a rank in the ring of bench, where there is one
abbrev pub ring_lines : Option RingRank → List ScriptLine
ring_lines None = []
ring_lines (Some ring) = bench_lines ring.seed ring.ranks ring.rounds ring.rank ring.rounds
