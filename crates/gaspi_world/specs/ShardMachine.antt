-- The machine whose state lies in shards by a numbering: its histories are the legal ones of the machine from the start of a
-- world, and a shard has those parts of the state that have its number, and of each rank whose posts are there its rank journal.
use Rattle.std.specs.Prelude.{◌≡◌, ℕ, true, List, Option, Some, Result, Ok, Err, slice_get}
use Rattle.gaspi_types.specs.World.{ShapeValue}
use Rattle.gaspi_types.specs.declared.events.Event.{Event}
use Rattle.gaspi_types.specs.declared.events.PlacedEvent.{PlacedEvent}
use Rattle.gaspi_types.specs.declared.groups.Group as groups
use Rattle.gaspi_model.specs.State.{opening}
use Rattle.gaspi_model.specs.Step.{reached, is_legal, owner_of}
use Rattle.gaspi_model.specs.Shards.{AgreeOnShard, numbers_of}
use Rattle.gaspi_model.specs.declared.states.Memory.{Memory}
use Rattle.gaspi_model.specs.declared.states.Posts.{Posts}
use Rattle.gaspi_model.specs.declared.states.Shard.{Shard}
use Rattle.gaspi_model.specs.declared.states.Shard.TheVariants as parts
use Rattle.gaspi_model.specs.declared.states.State.{State}
use Rattle.gaspi_model.specs.declared.states.Why.{Why}
use Rattle.commit_table.specs.Machine.{Machine}
use Rattle.gaspi_world.specs.Numbering.{Numbering}
use Rattle.gaspi_world.specs.RankJournals.{journal_of}

-- What a value of a shard stands for: the posts of a rank with its rank journal, the memory of a rank, or a group. It may be a
-- relation, as a value may keep less than the state has.
pub record Meaning (X : Type 0) : Type 1 where
  pub IsPosts : X → ℕ → Posts → List PlacedEvent → Type 0
  pub IsMemory : X → ℕ → Memory → Type 0
  pub IsGroup : X → ℕ → groups.Group → Type 0

-- the state after a history; after one that is not legal, that of the start
abbrev pub state_in : ShapeValue → Result State Why → State
state_in w (Ok s) = s
state_in w (Err why) = opening w

-- the state after a history; after one that is not legal, the opening state
abbrev pub state_after : ShapeValue → List Event → State
state_after w h = state_in w (reached w h)

module _ (n : Numbering) (w : ShapeValue) where
  -- the parts of a shard are the same in two states
  abbrev pub SameAt : ℕ → State → State → Type 0
  SameAt i s t = (part : Shard) → n.number part ≡ i → AgreeOnShard s t part

  -- a value of a shard has the parts that a state has there, and of the ranks these events
  pub record HasParts {X : Type 0} (m : Meaning X) (i : ℕ) (x : X) (s : State) (journal : ℕ → List PlacedEvent) : Type 0 where
    pub posts : (rank : ℕ) (p : Posts) → n.number (parts.Posts rank) ≡ i → slice_get s.posts rank ≡ Some p → m.IsPosts x rank p (journal rank)
    pub memory : (rank : ℕ) (p : Memory) → n.number (parts.Memory rank) ≡ i → slice_get s.memories rank ≡ Some p → m.IsMemory x rank p
    pub group : (id : ℕ) (g : groups.Group) → n.number (parts.Group id) ≡ i → slice_get s.groups id ≡ Some g → m.IsGroup x id g

  -- a value of a shard stands for a history
  abbrev pub IsValueAfter : {X : Type 0} → Meaning X → ℕ → X → List Event → Type 0
  IsValueAfter m i x h = HasParts m i x (state_after w h) (λ rank. journal_of rank h)

  -- two histories agree on a shard
  pub record AgreeAt (i : ℕ) (h k : List Event) : Type 0 where
    pub state : SameAt i (state_after w h) (state_after w k)
    pub journals : (rank : ℕ) → n.number (parts.Posts rank) ≡ i → journal_of rank h ≡ journal_of rank k

  -- the machine in shards, for a numbering
  abbrev pub shard_machine : {X : Type 0} → Meaning X → (Event → Option ℕ) → Machine X Event
  shard_machine {X} m party = record {
    shards = n.shards;
    Legal = λ h. is_legal w h ≡ true;
    Stands = λ i x h. IsValueAfter m i x h;
    Agree = λ i h k. AgreeAt i h k;
    shards_of = λ h e. numbers_of n.number (state_after w h) e;
    owner = λ e. n.number (parts.Posts (owner_of e));
    party = party;
  }
