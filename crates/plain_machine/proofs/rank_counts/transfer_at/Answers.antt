use Rattle.std.proofs.Common.{◌≡◌, ◌+◌, ◌<◌, ℕ, List, ap, sym, ◌∙◌, arith, length, slice_get}
use Rattle.std.specs.List.{flat_map, range_with_len}
use Rattle.gaspi_types.specs.declared.events.Transfer.{Transfer}
use Rattle.plain_machine.specs.RankCounts.{transfers_of}
use Rattle.plain_machine.proofs.Walked.{counted_more, sought_at, sought_behind, transfers-by_rank}
use Rattle.plain_machine.proofs.rank_counts.transfer_at.Goals as goal

pub loop-rank-preserved : goal.loop-rank-preserved
loop-rank-preserved c =
    let here = rw c.of.ensures at c.in-Left.ensures in
    let more = counted_more (transfers_of c.args.limits.now c.args.posts.now) c.loop-rank.rank in
    let so_far = c.loop-rank.invariant in
    omega (arith, here, more, so_far)

pub returns-in-Found : goal.returns-in-Found
returns-in-Found c =
    let inside = c.loop-rank-test.true in
    let long = c.len-rank-end.ensures in
    let within : c.loop-rank.rank < length c.args.posts.now = omega (arith, inside, long) in
    sym (ap (λ (xs : List Transfer). slice_get xs c.args.place) (transfers-by_rank c.args.limits.now c.args.posts.now)
    ∙ sought_at (transfers_of c.args.limits.now c.args.posts.now) (length c.args.posts.now) c.loop-rank.rank c.args.place c.loop-rank.left c.in-Found.transfer within c.loop-rank.invariant
    (rw c.of.ensures at c.in-Found.ensures))

pub returns : goal.returns
returns c =
    let over = c.loop-rank-test.false in
    let bound = c.loop-rank.auto.rank-end in
    let long = c.len-rank-end.ensures in
    let all : c.loop-rank.rank ≡ length c.args.posts.now = omega (arith, over, bound, long) in
    sought_behind (transfers_of c.args.limits.now c.args.posts.now) (length c.args.posts.now) c.args.place c.loop-rank.left
    (c.loop-rank.invariant ∙ ap (λ (n : ℕ). length (flat_map (transfers_of c.args.limits.now c.args.posts.now) (range_with_len 0 n)) + c.loop-rank.left) all)
    ∙ ap (λ (xs : List Transfer). slice_get xs c.args.place) (sym (transfers-by_rank c.args.limits.now c.args.posts.now))
