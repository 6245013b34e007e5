use Rattle.std.proofs.Common.{◌≡◌, ℕ, ap, sym, ◌∙◌, arith, length}
use Rattle.std.specs.List.{flat_map, range_with_len}
use Rattle.plain_machine.specs.RankCounts.{transfers_of}
use Rattle.plain_machine.proofs.Walked.{counted_more, transfers-by_rank}
use Rattle.plain_machine.proofs.rank_counts.counts_sum.Goals as goal

pub loop-rank-preserved : goal.loop-rank-preserved
loop-rank-preserved c =
    let here : c.rank_count-count.result ≡ length (transfers_of c.args.limits.now c.args.posts.now c.loop-rank.rank) =
    c.rank_count-count.ensures.count ∙ ap (λ (k : ℕ). length (transfers_of c.args.limits.now c.args.posts.now k)) c.of.ensures in
    let more = counted_more (transfers_of c.args.limits.now c.args.posts.now) c.loop-rank.rank in
    let few = c.requires.few c.loop-rank.rank in
    let so_far = c.loop-rank.invariant.0 in
    let bound = c.loop-rank.invariant.1 in
    (omega (arith, here, more, so_far), omega (arith, here, few, bound), c.rank_count-count.ensures.kept)

pub returns-clause-count : goal.returns-clause-count
returns-clause-count c =
    let over = c.loop-rank-test.false in
    let bound = c.loop-rank.auto.rank-end in
    let long = c.len-rank-end.ensures in
    let all : c.loop-rank.rank ≡ length c.args.posts.now = omega (arith, over, bound, long) in
    c.loop-rank.invariant.0
    ∙ ap (λ (n : ℕ). length (flat_map (transfers_of c.args.limits.now c.args.posts.now) (range_with_len 0 n))) all
    ∙ ap length (sym (transfers-by_rank c.args.limits.now c.args.posts.now))
