use Rattle.std.proofs.Common.{◌≡◌, ◌++◌, length, map}
use Rattle.call_texts.specs.Words.{words_of}
use Rattle.call_texts.proofs.blanks.set_words.Given as goal

abbrev pub invariant-loop-piece : goal.invariant-loop-piece
invariant-loop-piece l = words_of l.text ≡ map (λ word. word.now) l.list.items ++ words_of l.rest

abbrev pub decreases-loop-piece : goal.decreases-loop-piece
decreases-loop-piece l = length l.rest
