-- The numbers of a lane's entries rise, as they do in every state of a legal history.
use Rattle.std.specs.Prelude.{◌<◌, List}
use Rattle.std.specs.List.{AllPairs}
use Rattle.gaspi_types.specs.declared.entries.Entry.{Entry}

-- each entry has a greater number than those before it
abbrev pub IsRising : List Entry → Type 0
IsRising lane = AllPairs (λ (a b : Entry). a.number < b.number) lane
