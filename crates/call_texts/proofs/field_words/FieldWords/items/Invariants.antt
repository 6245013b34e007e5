use Rattle.std.proofs.Common.{◌≡◌, ◌-◌}
use Rattle.call_texts.specs.Fields.{items_spelled}
use Rattle.call_texts.specs.FieldWords.{words_in}
use Rattle.call_texts.proofs.ItemWords.{behind_items}
use Rattle.call_texts.proofs.field_words.FieldWords.items.Given as goal

-- the items so far stand before those that are left
abbrev pub invariant-loop : goal.invariant-loop
invariant-loop l =
    items_spelled l.count (words_in l.initial.self) ≡ behind_items l.items (items_spelled (l.count - l.counter) (words_in l.self))
