-- Two counters, the smallest machine whose events have one shard or two.
use Rattle.std.specs.Prelude.{◌≡◌, ℕ, ◌+◌, ◌-◌, ltb, ◌&&◌, cond, List, [], ◌∷◌, Option, None, Some}
use Rattle.commit_table.specs.Machine.{Machine}
use Rattle.commit_table.specs.Projections.{ProjectedMachine, machine_of}
use Rattle.commit_table.specs.declared.counters.CounterEvent.{CounterEvent}
use Rattle.commit_table.specs.declared.counters.CounterEvent.TheVariants.{Raise, Carry}

-- the greatest value of a counter
abbrev pub most : ℕ
most = 1000000

-- the counter to which an event belongs: the one that is raised, or the first of a carry
abbrev pub counter_owner : CounterEvent → ℕ
counter_owner (Raise party counter) = counter
counter_owner Carry = 0

-- the other counters of an event: the second one, of a carry
abbrev pub counter_peers : ℕ → CounterEvent → List ℕ
counter_peers own (Raise party counter) = []
counter_peers own Carry = 1 ∷ []

-- what an event makes of its own counter and of the others; none where it may not follow
abbrev pub counter_step : ℕ → CounterEvent → ℕ → List ℕ → Option (ℕ × List ℕ)
counter_step place (Raise party counter) own others = cond (ltb own most) (Some (own + 1, [])) None
counter_step place Carry own [] = None
counter_step place Carry own (other ∷ []) = cond (ltb 0 own && ltb other most) (Some (own - 1, (other + 1) ∷ [])) None
counter_step place Carry own (other ∷ (more ∷ rest)) = None

-- a raise names its party; a carry names none, so every pass may commit it
abbrev pub counter_party : CounterEvent → Option ℕ
counter_party (Raise party counter) = Some party
counter_party Carry = None

-- the machine of the counters by its projections, which are their values
abbrev pub counter_projections : ProjectedMachine ℕ ℕ CounterEvent
counter_projections = record {
  first = 0 ∷ 0 ∷ [];
  owner = counter_owner;
  peers = counter_peers;
  act = counter_step;
  noted = λ place e own. own;
  party = counter_party;
  Is = λ i x p. x ≡ p;
}

-- the machine of the counters
abbrev pub counters : Machine ℕ CounterEvent
counters = machine_of counter_projections
