use Rattle.std.proofs.Common.{◌≡◌, ◌+◌, ◌++◌, drop}
use Rattle.journal_pictures.specs.OpenEntries.{numbered}
use Rattle.journal_pictures.proofs.open_entries.numbered.Given as goal

-- the entries so far, and those that are left
abbrev pub invariant-loop-index : goal.invariant-loop-index
invariant-loop-index l = l.list ++ numbered l.queue l.target (l.next + l.index) (drop l.index l.deliveries) ≡ numbered l.queue l.target l.next l.deliveries
