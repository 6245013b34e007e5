use Rattle.std.proofs.Common.{◌≡◌, ◌%◌, ◌^◌}
use Rattle.call_journal.specs.Numbers.{words_until}
use Rattle.call_journal.proofs.journal_numbers.sum_of_words.Given as goal

-- the words of the ranks so far are added
abbrev pub invariant-loop-rank : goal.invariant-loop-rank
invariant-loop-rank l = l.sum ≡ words_until l.machine l.rank % 2 ^ 64
