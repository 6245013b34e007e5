use Rattle.std.proofs.Common.{ap, arith}
use Rattle.commit_table.proofs.Joining.{final_values, final_shards}
use Rattle.commit_table.proofs.close.values_of.Goals as goal

pub move_values-requires-clause-values : goal.move_values-requires-clause-values
move_values-requires-clause-values g c k lt =
    let shared = c.args.table.shared in
    let closed = c.close_with.ensures in
    let a = final_values g.M.Sharded.machine g.M.Sharded.lawful shared.key.start shared.key.passes c.args.seat.id c.args.seat.me.0.known.seen c.args.seat.me.0.joined_passes c.args.seat.me.0 _ _ (ap (λ z. z.0) c.requires.ready) closed.values.2 k (let s = closed.counts.1 in let t = c.requires.size.1 in omega arith) in (a.0, a.1)

pub returns : goal.returns
returns g c =
    let shared = c.args.table.shared in
    let closed = c.close_with.ensures in
    let moved = c.move_values.ensures in
    final_shards g.M.Sharded.machine g.M.Sharded.lawful shared.key.start shared.key.passes c.args.seat.id c.args.seat.me.0.known.seen c.args.seat.me.0.joined_passes c.args.seat.me.0 _ _ c.move_values.result.items (ap (λ z. z.0) c.requires.ready) closed.values.2 (let a = moved.count in let b = closed.counts.1 in let d = c.requires.size.1 in omega arith) moved.values
