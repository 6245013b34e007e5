use Rattle.std.proofs.Common.{◌≡◌, ◌+◌, ◌*◌, ◌≤◌, List, drop, length, subst, suc, ap, ◌∙◌, arith}
use Rattle.rank_script.specs.Bench.{round_lines, bench_draw, bench_bytes, first_number, right_of, left_of}
use Rattle.rank_script.specs.RoundLines.{lines_from}
use Rattle.rank_script.specs.declared.scripts.ScriptLine.{ScriptLine}
use Rattle.rank_script.proofs.RingRounds.{drop-next, some-left, next-round, next-draw, same-round}
use Rattle.rank_script.proofs.ring_rounds.RoundLines.step.Goals as goal

pub returns-then-self-lt6-clause-more : goal.returns-then-self-lt6-clause-more
returns-then-self-lt6-clause-more c =
    λ is. let r = c.self.inside in
    drop-next (round_lines r.ring.seed r.ring.ranks r.ring.rounds r.ring.rank r.round) (lines_from r.ring.seed r.ring.ranks r.ring.rounds r.ring.rank (suc r.round) r.later) r.place (omega (arith, c.if-self-lt6.true))
    ∙ ap (drop 1) c.self.view_is

pub invariant_of-self-2 : goal.invariant_of-self-2
invariant_of-self-2 c =
    let r = c.self.inside in
    let left = left_of r.ring.ranks r.ring.rank in
    let sent : c.after_draws-self-inside.result ≡ bench_draw r.ring.seed r.ring.ranks (r.round + 1) r.ring.rank = next-draw r.ring.seed r.ring.ranks r.round r.ring.rank r.sent c.after_draws-self-inside.result c.self.invariant.sent c.after_draws-self-inside.ensures in
    let received : c.after_draws-self-inside-2.result ≡ bench_draw r.ring.seed r.ring.ranks (r.round + 1) left = next-draw r.ring.seed r.ring.ranks r.round left r.received c.after_draws-self-inside-2.result c.self.invariant.received c.after_draws-self-inside-2.ensures in
    record {
      there = omega arith;
      early = omega (arith, c.self.invariant.early, c.if-self-eq0.false);
      sent = sent;
      received = received;
      lines = c.renew.ensures (first_number r.ring.ranks r.ring.rounds r.ring.rank + 7 * r.round) (right_of r.ring.ranks r.ring.rank) (bench_bytes r.ring.seed r.ring.ranks r.round r.ring.rank) (bench_bytes r.ring.seed r.ring.ranks r.round left) c.self.invariant.lines
          ∙ same-round (c.first_number.result + 7 * c.from.result) (first_number r.ring.ranks r.ring.rounds r.ring.rank + 7 * (r.round + 1)) (right_of r.ring.ranks r.ring.rank)
          c.after_draws-self-inside.result (bench_draw r.ring.seed r.ring.ranks (r.round + 1) r.ring.rank) c.after_draws-self-inside-2.result (bench_draw r.ring.seed r.ring.ranks (r.round + 1) left)
          (omega (arith, c.first_number.ensures.value, c.from.ensures)) sent received;
    }

pub returns-clause-more : goal.returns-clause-more
returns-clause-more c =
    λ is. let r = c.self.inside in
    next-round r.ring.seed r.ring.ranks r.ring.rounds r.ring.rank r.place r.round r.later (omega (arith, c.self.invariant.there, c.if-self-lt6.false)) (omega (arith, c.if-self-eq0.false))
    ∙ ap (drop 1) c.self.view_is

pub returns-then-self-lt6-clause-some : goal.returns-then-self-lt6-clause-some
returns-then-self-lt6-clause-some c =
    let r = c.self.inside in
    subst (λ (xs : List ScriptLine). 1 ≤ length xs) c.self.view_is
    (some-left (round_lines r.ring.seed r.ring.ranks r.ring.rounds r.ring.rank r.round) (lines_from r.ring.seed r.ring.ranks r.ring.rounds r.ring.rank (suc r.round) r.later) r.place (omega (arith, c.self.invariant.there)))

pub returns-then-self-eq0-clause-some : goal.returns-then-self-eq0-clause-some
returns-then-self-eq0-clause-some c =
    let r = c.self.inside in
    subst (λ (xs : List ScriptLine). 1 ≤ length xs) c.self.view_is
    (some-left (round_lines r.ring.seed r.ring.ranks r.ring.rounds r.ring.rank r.round) (lines_from r.ring.seed r.ring.ranks r.ring.rounds r.ring.rank (suc r.round) r.later) r.place (omega (arith, c.self.invariant.there)))

pub returns-clause-some : goal.returns-clause-some
returns-clause-some c =
    let r = c.self.inside in
    subst (λ (xs : List ScriptLine). 1 ≤ length xs) c.self.view_is
    (some-left (round_lines r.ring.seed r.ring.ranks r.ring.rounds r.ring.rank r.round) (lines_from r.ring.seed r.ring.ranks r.ring.rounds r.ring.rank (suc r.round) r.later) r.place (omega (arith, c.self.invariant.there)))
