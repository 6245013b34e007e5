use Rattle.std.proofs.Common.{take}
use Rattle.std.specs.List.{AllByRecursion}
use Rattle.call_texts.specs.Fields.{IsItemInRange}
use Rattle.call_texts.proofs.ranges.items_are_in_range.Given as goal

-- the items so far are in range
abbrev pub invariant-loop-item : goal.invariant-loop-item
invariant-loop-item l = AllByRecursion IsItemInRange (take l.item-index l.items)
