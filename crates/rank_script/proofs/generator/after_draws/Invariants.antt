use Rattle.std.proofs.Common.{◌≡◌}
use Rattle.rank_script.specs.Generator.{after_draws}
use Rattle.rank_script.proofs.generator.after_draws.Given as goal

-- the number after the draws so far
abbrev pub invariant-loop-draw : goal.invariant-loop-draw
invariant-loop-draw l = l.x ≡ after_draws l.seed l._draw
