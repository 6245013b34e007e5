use Rattle.std.proofs.Common.{◌≡◌, ◌++◌, take}
use Rattle.call_texts.specs.Written.{spaced_numbers}
use Rattle.call_texts.proofs.words_written.append_numbers.Given as goal

-- the numbers so far stand behind what was there
abbrev pub invariant-loop-number : goal.invariant-loop-number
invariant-loop-number l = l.text ≡ l.initial.text ++ spaced_numbers (take l.number-index l.numbers)
