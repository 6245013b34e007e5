use Rattle.std.proofs.Common.{◌≡◌, map, string_bytes, take}
use Rattle.journal_view.proofs.spelled.Given as goal

abbrev pub invariant-loop-word : goal.invariant-loop-word
invariant-loop-word l = map (λ word. word.now) l.spelled.items ≡ map string_bytes (take l.word-index l.words)
