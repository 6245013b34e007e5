use Rattle.std.proofs.Common.{◌≡◌, ◌++◌, take}
use Rattle.std.specs.List.{flat_map}
use Rattle.call_texts.specs.Fields.{words_of_item}
use Rattle.call_texts.specs.Written.{spaced}
use Rattle.call_texts.proofs.words_written.append_items.Given as goal

-- the items so far stand behind what was there
abbrev pub invariant-loop-item : goal.invariant-loop-item
invariant-loop-item l = l.text ≡ l.initial.text ++ spaced (flat_map words_of_item (take l.item-index l.items))
