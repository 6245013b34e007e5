use Rattle.std.proofs.Common.{◌≡◌, ◌++◌, drop, length, Ok}
use Rattle.gaspi_types.specs.Checks.{◌>>=◌}
use Rattle.gaspi_types.specs.Posts.{transfers_of}
use Rattle.segment_store.proofs.list_posts.transfers_of.Given as goal

abbrev pub invariant-loop-item : goal.invariant-loop-item
invariant-loop-item l =
    (transfers_of l.direction l.me l.table l.rank l.items
    ≡ (transfers_of l.direction l.me l.table l.rank (drop l.item-index l.items) >>= (λ behind. Ok (l.kinds ++ behind))))
    × (length l.kinds ≡ l.item-index)
