use Rattle.std.proofs.Common.{◌≡◌, ◌++◌, take}
use Rattle.call_texts.specs.Written.{spaced_elements}
use Rattle.call_texts.proofs.elements.append_elements.Given as goal

-- the elements so far stand behind what was there
abbrev pub invariant-loop-element : goal.invariant-loop-element
invariant-loop-element l = l.text ≡ l.initial.text ++ spaced_elements (take l.element-index l.elements)
