-- The rounds of a group in two buffers, and the group that they represent, whose lists of contributions only grow. (GASPI: collectives)
use Rattle.std.specs.Prelude.{◌≡◌, ℕ, ◌+◌, ◌%◌, ◌≤◌, ◌<◌, nat_lt, Bool, true, false, ◌==◌, ◌&&◌, List, [], length, slice_get, slice_set, slice_index, Option, None, Some, if◌then◌else◌}
use Rattle.gaspi_types.specs.Collectives.{fixed_by, members_of, contributions_of, no_contributions, contribution_in, is_full}
use Rattle.gaspi_types.specs.Masks.{is_member}
use Rattle.gaspi_types.specs.declared.collectives.Coll.{Coll}
use Rattle.gaspi_types.specs.declared.groups.Contribution.{Contribution}
use Rattle.gaspi_types.specs.declared.groups.Group.{Group}
use Rattle.collective_engine.specs.KeptContributions.{HasItsValues}
use Rattle.collective_engine.specs.declared.buffers.Buffers.{Buffers}

-- the members of a group, once they are fixed, and the buffers of its rounds
pub record RoundBuffers : Type 0 where
  pub members : Option ℕ
  pub buffers : Buffers

-- Members.

-- a rank is in the member list, which is fixed
abbrev pub is_in : Option ℕ → ℕ → Bool
is_in None rank = false
is_in (Some mask) rank = is_member mask rank

-- the members by rising rank; none where no list is fixed
abbrev pub ranks_of : Option ℕ → List ℕ
ranks_of None = []
ranks_of (Some mask) = members_of mask

-- a rank is a member
abbrev pub IsMember : Option ℕ → ℕ → Type 0
IsMember members rank = (rank < 16) × (is_in members rank ≡ true)

-- To how many rounds a rank has contributed, and how many of these it has completed.

-- to how many rounds a rank has contributed
abbrev pub joined_by : Buffers → ℕ → ℕ
joined_by b rank = slice_index b.joined rank

-- how many rounds a rank has completed
abbrev pub completed_by : Buffers → ℕ → ℕ
completed_by b rank = slice_index b.completed rank

-- the buffer of a round, by its number: even or odd
abbrev pub buffer_of : Buffers → ℕ → List Contribution
buffer_of b round = if round % 2 == 0 then b.even else b.odd

-- the contribution of a rank to a round, one of its last two
abbrev pub contribution_by : Buffers → ℕ → ℕ → Option Contribution
contribution_by b round rank = if nat_lt round (joined_by b rank) then slice_get (buffer_of b round) rank else None

-- the buffers with a contribution of a rank to its next round
abbrev pub with_contribution : Buffers → ℕ → Contribution → Buffers
with_contribution b rank c = record b {
  joined = slice_set b.joined rank (joined_by b rank + 1);
  even = if joined_by b rank % 2 == 0 then slice_set b.even rank c else b.even;
  odd = if joined_by b rank % 2 == 0 then b.odd else slice_set b.odd rank c;
}

-- the buffers with one completed round more of a rank
abbrev pub with_round_completed : Buffers → ℕ → Buffers
with_round_completed b rank = record b { completed = slice_set b.completed rank (completed_by b rank + 1) }

-- each buffer and each table of counts has 16 items
pub record HasCapacity (b : Buffers) : Type 0 where
  pub joined : length b.joined ≡ 16
  pub completed : length b.completed ≡ 16
  pub even : length b.even ≡ 16
  pub odd : length b.odd ≡ 16

-- Why two buffers are enough. No rank contributes to a round before it has completed those before, and no member completes a round to
-- which another has not contributed. So no member is over one round ahead of another, and a join overwrites a contribution to a round
-- that every member has completed.
pub record AreWithinOneRound (members : Option ℕ) (b : Buffers) : Type 0 where
  pub least : (rank : ℕ) → completed_by b rank ≤ joined_by b rank
  pub greatest : (rank : ℕ) → joined_by b rank ≤ completed_by b rank + 1
  pub early : members ≡ None → (rank : ℕ) → joined_by b rank ≡ 0
  pub near : (m n : ℕ) → IsMember members m → IsMember members n → completed_by b m ≤ joined_by b n

-- The contributions of members to one round are of the same collective, and have its values.
pub record AreSameCollective (members : Option ℕ) (b : Buffers) : Type 0 where
  pub alike : (round m n : ℕ) (c d : Contribution) → IsMember members m → IsMember members n → joined_by b m ≤ round + 2 → joined_by b n ≤ round + 2
      → contribution_by b round m ≡ Some c → contribution_by b round n ≡ Some d → c.args.coll ≡ d.args.coll
  pub whole : (round m : ℕ) (c : Contribution) → IsMember members m → joined_by b m ≤ round + 2 → contribution_by b round m ≡ Some c → HasItsValues c.args

-- the invariant of the buffers
pub record AreRoundBuffers (members : Option ℕ) (b : Buffers) : Type 0 where
  pub capacity : HasCapacity b
  pub close : AreWithinOneRound members b
  pub agree : AreSameCollective members b

-- The buffers represent a group: they have its member list, its counts, and the contributions of each rank to its last two rounds.
pub record Represents (g : Group) (t : RoundBuffers) : Type 0 where
  pub members : g.members ≡ t.members
  pub joined : (rank : ℕ) → length (contributions_of g rank).contributions ≡ joined_by t.buffers rank
  pub completed : (rank : ℕ) → (contributions_of g rank).completed ≡ completed_by t.buffers rank
  pub given : (round rank : ℕ) → joined_by t.buffers rank ≤ round + 2 → contribution_in g round rank ≡ contribution_by t.buffers round rank

-- no rank has contributed to the group
pub record IsOpening (g : Group) (members : Option ℕ) : Type 0 where
  pub members_are : g.members ≡ members
  pub parts : (rank : ℕ) → contributions_of g rank ≡ no_contributions

-- What functions require, by the counts.

-- A rank may contribute to its round with a collective: it is a member, or in the list that the collective fixes; and it has completed
-- each round to which it has contributed. (Events bound the count, which fits 32 bits.)
abbrev pub may_join : RoundBuffers → ℕ → Coll → Bool
may_join t rank coll =
    is_in (fixed_by t.members coll) rank && (joined_by t.buffers rank == completed_by t.buffers rank) && nat_lt (joined_by t.buffers rank) 4294967295

-- the round of a rank is full
abbrev pub is_full_for : RoundBuffers → ℕ → Bool
is_full_for t rank = is_full (contribution_by t.buffers (completed_by t.buffers rank)) (ranks_of t.members)

-- the contribution of a rank to its round, the first that it has not completed
abbrev pub own_contribution : RoundBuffers → ℕ → Option Contribution
own_contribution t rank = contribution_by t.buffers (completed_by t.buffers rank) rank
