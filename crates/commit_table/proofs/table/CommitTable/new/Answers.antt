use Rattle.std.proofs.Common.{◌∙◌, arith}
use Rattle.commit_table.proofs.Joining.{opens_with}
use Rattle.commit_table.proofs.table.CommitTable.new.Goals as goal

pub new-requires : goal.new-requires
new-requires g c =
    let ok = c.args.shards.ok in
    opens_with g.M.Sharded.machine g.M.Sharded.lawful c.args.start c.args.n _ c.as_slice.result.now c.args.shards.items _ (c.as_slice.ensures.value ∙ c.in_ok-words.ensures.items_if_clones_equal (λ y e. e)) (let a = c.len-count.ensures in let b = c.requires.shards.count in omega arith) c.in_ok-slots.ensures.values c.requires.shards
