use Rattle.std.proofs.Common.{◌≡◌, [], replicate}
use Rattle.journal_pictures.proofs.delivery_tables.empty_table.Given as goal

abbrev pub invariant-loop-rank : goal.invariant-loop-rank
invariant-loop-rank l = l.table ≡ replicate l._rank []
