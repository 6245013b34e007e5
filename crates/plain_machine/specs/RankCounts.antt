-- The transfer counts: of each rank and of all, where they are stored.
use Rattle.std.specs.Prelude.{◌≡◌, ℕ, ◌+◌, ◌-◌, ◌≤◌, ◌==◌, nat_le, if◌then◌else◌, List, [], length, Option, None, Some, slice_get, slice_set}
use Rattle.gaspi_types.specs.Tables.{item_at}
use Rattle.gaspi_types.specs.declared.events.Transfer.{Transfer}
use Rattle.gaspi_types.specs.declared.shapes.Limits.{Limits}
use Rattle.gaspi_model.specs.Transfers.{rank_transfers, transfers}
use Rattle.gaspi_model.specs.declared.states.Posts.{Posts}
use Rattle.plain_machine.specs.declared.rank_counts.TransferCounts.{TransferCounts}

-- the enabled transfers of a rank; none where there is no such rank
abbrev pub transfers_of : Limits → List Posts → ℕ → List Transfer
transfers_of limits posts rank = of_rank (slice_get posts rank)
  where
    of_rank : Option Posts → List Transfer
    of_rank None = []
    of_rank (Some p) = rank_transfers limits (rank, p)

-- each stored count of a rank is right
abbrev pub AreRankCounts : Limits → List Posts → List (Option ℕ) → Type 0
AreRankCounts limits posts counts = (rank count : ℕ) → item_at counts rank ≡ Some count → count ≡ length (transfers_of limits posts rank)

-- the enabled transfers of the rank that is left out, if one is
abbrev pub left_out : Limits → List Posts → Option ℕ → List Transfer
left_out limits posts None = []
left_out limits posts (Some rank) = transfers_of limits posts rank

-- a stored count of all others is right
abbrev pub IsCountOfOthers : Limits → List Posts → Option ℕ → Option ℕ → Type 0
IsCountOfOthers limits posts None forgotten = Unit {0}
IsCountOfOthers limits posts (Some others) forgotten = others + length (left_out limits posts forgotten) ≡ length (transfers limits posts)

-- all stored counts are right
pub record AreCounts (limits : Limits) (posts : List Posts) (counts : TransferCounts) : Type 0 where
  pub by_rank : AreRankCounts limits posts counts.by_rank
  pub others : IsCountOfOthers limits posts counts.others counts.forgotten

-- the count of all ranks but one, where it follows from what is stored
abbrev pub count_without : TransferCounts → ℕ → Option ℕ
count_without counts rank = by_others counts.others counts.forgotten
  where
    less : ℕ → Option ℕ → Option ℕ
    less others None = None
    less others (Some count) = if nat_le count others then Some (others - count) else None

    by_others : Option ℕ → Option ℕ → Option ℕ
    by_others None forgotten = None
    by_others (Some others) None = less others (item_at counts.by_rank rank)
    by_others (Some others) (Some forgotten) = if forgotten == rank then Some others else None

-- the counts without that of a rank
abbrev pub without_count : TransferCounts → ℕ → TransferCounts
without_count counts rank = record { by_rank = slice_set counts.by_rank rank None; others = count_without counts rank; forgotten = Some rank }

-- no rank has more enabled transfers than it may record events
abbrev pub HaveFewTransfers : Limits → List Posts → Type 0
HaveFewTransfers limits posts = (rank : ℕ) → length (transfers_of limits posts rank) ≤ 65536
