-- The front of a lane: the transfer that comes next in it, first in first out. (GASPI: one-sided communication)
use Rattle.std.specs.Prelude.{◌≡◌, ℕ, Bool, true, false, Option, None, Some, option_map, if◌then◌else◌}
use Rattle.gaspi_types.specs.Footprints.{footprint_of, take_footprint, put_footprint}
use Rattle.gaspi_types.specs.declared.entries.Entry.{Entry}
use Rattle.gaspi_types.specs.declared.entries.Kind.{Kind}
use Rattle.gaspi_types.specs.declared.events.Outcome.{Outcome}
use Rattle.gaspi_types.specs.declared.events.Transfer.{Transfer}
use Rattle.gaspi_types.specs.declared.footprints.Footprint.{Footprint}
use Rattle.gaspi_model.specs.Transfers.{take_outcome, put_outcome}
use Rattle.gaspi_model.specs.declared.states.Memory.{Memory}
use Rattle.post_queue.specs.LanesStates.{front_posted_of, front_carried_of, head_of}
use Rattle.rank_node.specs.Transfers.{lanes_of}
use Rattle.rank_node.specs.Values.{PostsValue}

-- the take or the put of an entry of a lane
abbrev pub entry_transfer : ℕ → ℕ → ℕ → Bool → Entry → Transfer
entry_transfer origin queue target put e = record { origin = origin; queue = queue; target = target; number = e.number; put = put }

-- the put of the first entry, if there is one, else the take of the second
abbrev pub front_with : ℕ → ℕ → ℕ → Option Entry → Option Entry → Option Transfer
front_with origin queue target (Some e) takes = Some (entry_transfer origin queue target true e)
front_with origin queue target None (Some e) = Some (entry_transfer origin queue target false e)
front_with origin queue target None None = None

-- the front of a lane, or none
abbrev pub front_of : PostsValue → ℕ → ℕ → Option Transfer
front_of p queue target = front_with p.me queue target (front_carried_of (lanes_of p) queue target) (front_posted_of (lanes_of p) queue target)

-- the entry of a transfer that is the front of its lane
abbrev pub front_entry : PostsValue → Transfer → Option Entry
front_entry p t = if t.put then front_carried_of (lanes_of p) t.queue t.target else front_posted_of (lanes_of p) t.queue t.target

-- A transfer is the front of its lane: the put of the first carried entry, which is the head of the lane, or the take of the first
-- posted one.
pub record IsFront (p : PostsValue) (t : Transfer) : Type 0 where
  pub mine : t.origin ≡ p.me
  pub entry : Entry
  pub numbered : t.number ≡ entry.number
  pub next : front_entry p t ≡ Some entry
  pub head : t.put ≡ true → head_of (lanes_of p) t.queue t.target ≡ Some entry

-- the outcome of a put or a take of an entry of this kind on a memory (state vector)
abbrev pub outcome_on : Memory → Bool → Kind → Outcome
outcome_on memory put kind = if put then put_outcome memory kind else take_outcome memory kind

-- the outcome of the front of a lane on a memory
abbrev pub front_outcome : PostsValue → Memory → Transfer → Option Outcome
front_outcome p memory t = option_map (λ (e : Entry). outcome_on memory t.put e.kind) (front_entry p t)

-- the footprint of the transfer of an entry of this kind, in a world of `ranks` ranks
abbrev pub transfer_footprint : ℕ → Transfer → Kind → Footprint
transfer_footprint ranks t kind = footprint_of ranks t.origin (if t.put then put_footprint t.target kind else take_footprint t.target kind)
