use Rattle.std.proofs.Common.{◌≡◌, [], replicate}
use Rattle.journal_pictures.proofs.open_entries.no_entries.Given as goal

abbrev pub invariant-loop-rank : goal.invariant-loop-rank
invariant-loop-rank l = l.ranks ≡ replicate l._rank (record { next = 0; entries = [] })
