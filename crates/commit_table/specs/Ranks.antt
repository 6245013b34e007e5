-- Two ranks that post to one another: a machine of projections whose events have their peers by the owner's projection.
use Rattle.std.specs.Prelude.{◌≡◌, ℕ, ◌+◌, ltb, cond, true, false, List, [], ◌∷◌, ◌++◌, length, Option, None, Some}
use Rattle.commit_table.specs.Machine.{Machine}
use Rattle.commit_table.specs.Projections.{ProjectedMachine, machine_of}
use Rattle.commit_table.specs.declared.ranks.RankEvent.{RankEvent}
use Rattle.commit_table.specs.declared.ranks.RankEvent.TheVariants.{Link, Post}
use Rattle.commit_table.specs.declared.ranks.RankProjection.{RankProjection}

-- no rank has more events
abbrev pub most_events : ℕ
most_events = 1000000

-- a rank at the start
abbrev pub empty_projection : RankProjection
empty_projection = record { linked = false; messages = 0; latest = 0; journal = [] }

-- the rank that owns an event
abbrev pub rank_event_owner : RankEvent → ℕ
rank_event_owner (Link rank) = rank
rank_event_owner (Post rank) = rank

-- the other rank, where the owner is linked
abbrev pub other_rank : ℕ → List ℕ
other_rank rank = cond (ltb 0 rank) (0 ∷ []) (1 ∷ [])

-- the peers of an event: of a post the other rank, where the owner is linked
abbrev pub rank_event_peers : RankProjection → RankEvent → List ℕ
rank_event_peers own (Link rank) = []
rank_event_peers own (Post rank) = cond own.linked (other_rank rank) []

-- what an event makes of its owner's projection and of the peer's; none where it may not follow
abbrev pub rank_event_step : ℕ → RankEvent → RankProjection → List RankProjection → Option (RankProjection × List RankProjection)
rank_event_step place (Link rank) own others = cond (ltb (length own.journal) most_events) (Some (record own { linked = true }, [])) None
rank_event_step place (Post rank) own [] = None
rank_event_step place (Post rank) own (other ∷ []) = cond (ltb (length own.journal) most_events) (Some (own, (record other { messages = other.messages + 1; latest = place }) ∷ [])) None
rank_event_step place (Post rank) own (other ∷ (more ∷ rest)) = None

-- the owner keeps the event with its place
abbrev pub rank_event_placed : ℕ → RankEvent → RankProjection → RankProjection
rank_event_placed place act own = record own { journal = own.journal ++ record { place = place; act = act } ∷ [] }

-- the party of an event is its rank
abbrev pub rank_event_party : RankEvent → Option ℕ
rank_event_party (Link rank) = Some rank
rank_event_party (Post rank) = Some rank

-- the machine of the ranks by its projections
abbrev pub rank_projections : ProjectedMachine RankProjection RankProjection RankEvent
rank_projections = record {
  first = empty_projection ∷ empty_projection ∷ [];
  owner = rank_event_owner;
  peers = rank_event_peers;
  act = rank_event_step;
  noted = rank_event_placed;
  party = rank_event_party;
  Is = λ i x p. x ≡ p;
}

-- the machine of the ranks
abbrev pub ranks : Machine RankProjection RankEvent
ranks = machine_of rank_projections
