use Rattle.std.proofs.Common.{◌≡◌, ◌++◌, map, take}
use Rattle.journal_pictures.specs.Deliveries.{item_delivery}
use Rattle.journal_pictures.proofs.deliveries.append_items.Given as goal

-- what the items so far bring
abbrev pub invariant-loop-item : goal.invariant-loop-item
invariant-loop-item l = l.list ≡ l.fn.list ++ map (item_delivery l.direction) (take l.item-index l.items)
