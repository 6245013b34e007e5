use Rattle.std.proofs.Common.{sym, subst}
use Rattle.std.specs.List.{All}
use Rattle.rank_script.specs.PlainScripts.{IsPlain, MayLook}
use Rattle.rank_script.proofs.RingWorld.{bench-plain, bench-looks}
use Rattle.rank_script.proofs.bench.bench_scripts.Goals as goal

pub add-requires-clause-plain : goal.add-requires-clause-plain
add-requires-clause-plain c =
    subst (All IsPlain) (sym c.of_ring-lines.ensures) (bench-plain c.args.seed c.args.ranks c.args.rounds c.loop-rank.rank c.args.rounds)

pub add-requires-clause-look : goal.add-requires-clause-look
add-requires-clause-look c =
    subst (All MayLook) (sym c.of_ring-lines.ensures) (bench-looks c.args.seed c.args.ranks c.args.rounds c.loop-rank.rank c.args.rounds)
