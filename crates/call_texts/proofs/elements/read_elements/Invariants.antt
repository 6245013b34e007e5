use Rattle.std.proofs.Common.{◌≡◌, map, take, Some}
use Rattle.call_texts.specs.Elements.{elements_of}
use Rattle.call_texts.proofs.elements.read_elements.Given as goal

-- the words so far spell the elements so far
abbrev pub invariant-loop-word : goal.invariant-loop-word
invariant-loop-word l = elements_of l.num_type (map (λ word. word.now) (take l.word-index l.words)) ≡ Some l.elements
