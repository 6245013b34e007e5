use Rattle.std.proofs.Common.{◌≡◌, ◌∷◌, List, drop, Some, subst, suc}
use Rattle.std.specs.List.{slice_get}
use Rattle.rank_script.specs.Bench.{round_lines}
use Rattle.rank_script.specs.RoundLines.{lines_from}
use Rattle.rank_script.specs.Rounds.{lines_in}
use Rattle.rank_script.specs.declared.ring_rounds.Round.{Round}
use Rattle.rank_script.specs.declared.scripts.ScriptLine.{ScriptLine}
use Rattle.rank_script.proofs.RingRounds.{present-at}
use Rattle.rank_script.proofs.ring_rounds.RoundLines.first.Goals as goal

pub returns : goal.returns
returns c =
    let r = c.self.inside in
    let there = subst (λ (round : Round). slice_get (lines_in round) r.place ≡ Some c.at.result.now) c.self.invariant.lines c.at.ensures in
    subst (λ (xs : List ScriptLine). xs ≡ c.at.result.now ∷ drop 1 xs) c.self.view_is
    (present-at (round_lines r.ring.seed r.ring.ranks r.ring.rounds r.ring.rank r.round) (lines_from r.ring.seed r.ring.ranks r.ring.rounds r.ring.rank (suc r.round) r.later) r.place c.at.result.now there)
