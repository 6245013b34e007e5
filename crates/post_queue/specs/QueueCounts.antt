-- The counts over the entries of a queue. (GASPI: one-sided communication, segments)
use Rattle.std.specs.Prelude.{◌≡◌, ℕ, ◌+◌, ◌-◌, ◌<◌, ◌≤◌, List, length, replicate, slice_index, sum_by, cond, Bool, Option, None, Some}
use Rattle.gaspi_types.specs.Lanes.{entry_owed, is_user}
use Rattle.gaspi_types.specs.Tables.{changed_at}
use Rattle.gaspi_types.specs.declared.entries.Entry.{Entry}
use Rattle.gaspi_types.specs.declared.entries.Kind.{Kind}
use Rattle.post_queue.specs.Kinds.{one_if, is_awaited, is_awaited_entry, used_segment, events_owed}
use Rattle.post_queue.specs.declared.kinds.PhaseKind.{PhaseKind}
use Rattle.post_queue.specs.declared.queue_counts.QueueCounts.{QueueCounts}

-- 1 for an entry that passes
abbrev pub counted : (Entry → Bool) → Entry → ℕ
counted test e = cond (test e) 1 0

-- a number of each entry, added up over lanes
abbrev pub total : (Entry → ℕ) → List (List Entry) → ℕ
total f lanes = sum_by (λ (lane : List Entry). sum_by f lane) lanes

-- nothing is counted
abbrev pub no_counts : QueueCounts
no_counts = record { awaited = 0; owed = 0; users = replicate 32 0 }

-- the users with one entry more, or one less, that uses a segment
abbrev pub with_user : Option ℕ → List ℕ → List ℕ
with_user None users = users
with_user (Some segment) users = changed_at users segment (λ (n : ℕ). n + 1)

abbrev pub without_user : Option ℕ → List ℕ → List ℕ
without_user None users = users
without_user (Some segment) users = changed_at users segment (λ (n : ℕ). n - 1)

-- the counts with one entry more, and with one less
abbrev pub with_entry : QueueCounts → Kind → PhaseKind → QueueCounts
with_entry t kind progress = record {
  awaited = t.awaited + one_if (is_awaited kind progress);
  owed = t.owed + events_owed progress;
  users = with_user (used_segment kind progress) t.users;
}

abbrev pub without_entry : QueueCounts → Kind → PhaseKind → QueueCounts
without_entry t kind progress = record {
  awaited = t.awaited - one_if (is_awaited kind progress);
  owed = t.owed - events_owed progress;
  users = without_user (used_segment kind progress) t.users;
}

-- the counts are far from their types' ends
pub record AreBounded (t : QueueCounts) : Type 0 where
  pub awaited : t.awaited ≤ 65535
  pub owed : t.owed ≤ 65535
  pub users : (segment : ℕ) → slice_index t.users segment ≤ 65535

-- the counts are right: `sum_of` adds up a number over all entries
pub record AreQueueCounts (t : QueueCounts) (sum_of : (Entry → ℕ) → ℕ) : Type 0 where
  pub awaited : t.awaited ≡ sum_of (counted is_awaited_entry)
  pub owed : t.owed ≡ sum_of entry_owed
  pub size : length t.users ≡ 32
  pub users : (segment : ℕ) → segment < 32 → slice_index t.users segment ≡ sum_of (counted (is_user segment))
