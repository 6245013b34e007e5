use Rattle.gaspi_types.specs.declared.calls.posts.Item.{Item}
use Rattle.call_texts.specs.Fields.{IsItemInRange}
use Rattle.call_texts.proofs.ItemWords.{all-more}
use Rattle.call_texts.proofs.ranges.items_are_in_range.Goals as goal

pub loop-item-preserved : goal.loop-item-preserved
loop-item-preserved c =
    let none : Item = record { seg = 0; offset = 0; rseg = 0; roffset = 0; size = 0 } in
    all-more IsItemInRange c.args.items.now c.loop-item.item-index none c.loop-item-test.true c.loop-item.invariant c.item_is_in_range.ensures
