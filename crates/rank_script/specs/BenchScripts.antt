-- The scripts of the world of `bench`. (own choice)
use Rattle.std.specs.Prelude.{ℕ, zero, suc, List, [], ◌∷◌, ◌++◌}
use Rattle.rank_script.specs.Bench.{bench_lines}
use Rattle.rank_script.specs.declared.scripts.Script.{Script}

module _ (seed ranks rounds : ℕ) where
  -- those of the ranks below this number
  abbrev pub bench_scripts : ℕ → List Script
  bench_scripts zero = []
  bench_scripts (suc rank) = bench_scripts rank ++ record { caller = record { rank = rank; thread = 0 }; lines = bench_lines seed ranks rounds rank rounds } ∷ []
