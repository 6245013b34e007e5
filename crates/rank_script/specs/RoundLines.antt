-- The lines of a rank in a ring that are left. (own choice)
use Rattle.std.specs.Prelude.{◌≡◌, ℕ, zero, suc, ◌+◌, ◌*◌, ◌<◌, List, [], ◌++◌, drop}
use Rattle.rank_script.specs.Bench.{bench_draw, bench_bytes, first_number, right_of, left_of, round_lines}
use Rattle.rank_script.specs.Rounds.{round_with}
use Rattle.rank_script.specs.declared.ring_rounds.RoundLines.TheInside.{Inside}
use Rattle.rank_script.specs.declared.scripts.ScriptLine.{ScriptLine}

-- the lines of a rank in `count` bench rounds, from one of them on
abbrev pub lines_from : (seed ranks rounds rank round count : ℕ) → List ScriptLine
lines_from seed ranks rounds rank round zero = []
lines_from seed ranks rounds rank round (suc count) = round_lines seed ranks rounds rank round ++ lines_from seed ranks rounds rank (suc round) count

-- the lines of the present bench round from the present line on, and those of the bench rounds after it
abbrev pub lines_left : Inside → List ScriptLine
lines_left r = drop r.place (round_lines r.ring.seed r.ring.ranks r.ring.rounds r.ring.rank r.round) ++ lines_from r.ring.seed r.ring.ranks r.ring.rounds r.ring.rank (suc r.round) r.later

-- the lines in memory are those of the present round
pub record IsAtRound (r : Inside) : Type 0 where
  pub there : r.place < 7
  pub early : r.round + r.later + 1 ≡ r.ring.rounds
  pub sent : r.sent ≡ bench_draw r.ring.seed r.ring.ranks r.round r.ring.rank
  pub received : r.received ≡ bench_draw r.ring.seed r.ring.ranks r.round (left_of r.ring.ranks r.ring.rank)
  pub lines : r.lines ≡ round_with (first_number r.ring.ranks r.ring.rounds r.ring.rank + 7 * r.round) (right_of r.ring.ranks r.ring.rank)
      (bench_bytes r.ring.seed r.ring.ranks r.round r.ring.rank) (bench_bytes r.ring.seed r.ring.ranks r.round (left_of r.ring.ranks r.ring.rank))
