use Rattle.std.proofs.Common.{◌∙◌}
use Rattle.call_texts.specs.FieldWords.{words_in}
use Rattle.call_texts.proofs.ItemWords.{items-next}
use Rattle.call_texts.proofs.field_words.FieldWords.items.Goals as goal

pub loop-preserved : goal.loop-preserved
loop-preserved c =
    rw c.in_ok-push.ensures.ok
    (c.loop.invariant ∙ items-next c.in-Some.count c.loop.counter (words_in c.loop.self) (words_in c.item.new.self) c.loop.items c.in-Some-item.item c.loop-test.true c.in-Some-item.ensures)
