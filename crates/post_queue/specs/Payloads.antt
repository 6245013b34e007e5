-- How many bytes an entry carries. (GASPI: one-sided communication)
use Rattle.std.specs.Prelude.{ℕ}
use Rattle.gaspi_types.specs.declared.entries.Kind.{Kind}
use Rattle.gaspi_types.specs.declared.entries.Kind.TheVariants.{Write, Read, Notify, ReadNote}

-- a write and a read the bytes of their range, a notification none
abbrev pub payload_size : Kind → ℕ
payload_size (Write own target) = own.size
payload_size (Read own target) = own.size
payload_size (Notify target value) = 0
payload_size (ReadNote own) = 0
