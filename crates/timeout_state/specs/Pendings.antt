-- The collective that is pending on a group. (GASPI: timeouts)
use Rattle.std.specs.Prelude.{◌≡◌, ℕ, Option, None, Some}
use Rattle.gaspi_types.specs.declared.groups.PendingCollective.{PendingCollective as Kept}

-- one is pending, and is this thread's
abbrev pub IsOfThread : Option Kept → ℕ → Type 0
IsOfThread None thread = ⊥
IsOfThread (Some kept) thread = kept.thread ≡ thread
