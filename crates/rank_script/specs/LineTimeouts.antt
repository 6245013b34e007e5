-- The timeout of a script line, in four bytes. (own choice)
use Rattle.std.specs.Prelude.{ℕ, ◌==◌, if◌then◌else◌}
use Rattle.gaspi_types.specs.declared.calls.Timeout.{Timeout}
use Rattle.gaspi_types.specs.declared.calls.Timeout.TheVariants.{Block, Looks}

-- that many looks, and looks without end where the number is 0
abbrev pub timeout_in : ℕ → Timeout
timeout_in looks = if looks == 0 then Block else Looks looks
