-- What a pass knows while it holds shards of a world, and what one more event adds to it, where other passes commit between.
use Rattle.std.specs.Prelude.{◌≡◌, ◌<◌, ℕ, true, cond, eqb, List, [], ◌∷◌, ◌++◌, length, Option, None, Some, Ok}
use Rattle.std.specs.List.{list_any}
use mathlib.Core.List.{IsPrefix}
use Rattle.gaspi_types.specs.World.{ShapeValue}
use Rattle.gaspi_types.specs.declared.events.Event.{Event}
use Rattle.gaspi_types.specs.declared.events.PlacedEvent.{PlacedEvent}
use Rattle.gaspi_model.specs.Shards.{numbers_of}
use Rattle.gaspi_model.specs.Sound.{IsSound}
use Rattle.gaspi_model.specs.Step.{is_legal, step}
use Rattle.gaspi_model.specs.declared.states.State.{State}
use Rattle.commit_table.specs.Machine.{Machine, IsOwn}
use Rattle.commit_table.specs.Views.{held_at, after_take, mine_after}
use Rattle.commit_table.specs.declared.views.PassView.{PassView}
use Rattle.gaspi_world.specs.Numbering.{Numbering}
use Rattle.gaspi_world.specs.RankJournals.{recorded_by}
use Rattle.gaspi_world.specs.ShardMachine.{Meaning, state_after, HasParts, IsValueAfter, AgreeAt, shard_machine}

-- the value of the shard with this number, among the values that a pass holds
abbrev pub value_at : {X : Type 0} → List (ℕ × X) → ℕ → Option X
value_at [] i = None
value_at (v ∷ values) i = cond (eqb i v.0) (Some v.1) (value_at values i)

module _ {X : Type 0} (n : Numbering) (w : ShapeValue) where
  -- the values are those of the shards of an event after a history, and of no others
  pub record AreShardsOf (e : Event) (h : List Event) (values : List (ℕ × X)) : Type 0 where
    pub has : (i : ℕ) → list_any (eqb i) (numbers_of n.number (state_after w h) e) ≡ true → (x : X) × (value_at values i ≡ Some x)
    pub only : (i : ℕ) (x : X) → value_at values i ≡ Some x → list_any (eqb i) (numbers_of n.number (state_after w h) e) ≡ true

module _ {X : Type 0} (n : Numbering) (w : ShapeValue) (m : Meaning X) where
  -- Values of shards have made the step of an event at a place: in every sound state of which the old ones have the parts, and in which
  -- the event is a step, the new ones have the parts after it, with the event in its owner's rank journal.
  pub record HaveStepped (e : Event) (place : ℕ) (old new : List (ℕ × X)) : Type 0 where
    pub gone : (i : ℕ) → value_at new i ≡ None → value_at old i ≡ None
    pub from : (i : ℕ) (y : X) → value_at new i ≡ Some y → (x : X) × (value_at old i ≡ Some x)
    pub stepped : (s t : State) (journal : ℕ → List PlacedEvent) → IsSound s → s.limits ≡ w.limits → step s e ≡ Ok t → ((j : ℕ) (x : X) → value_at old j ≡ Some x → HasParts n w m j x s journal)
        → (i : ℕ) (y : X) → value_at new i ≡ Some y → HasParts n w m i y t (λ rank. journal rank ++ recorded_by rank place e)

module _ {S X : Type 0} (n : Numbering) (w : ShapeValue) (m : Meaning X) where
  -- a shard is held, with a history that agrees with what the pass has seen there, and its value stands for what it has seen
  pub record HoldsAt (i : ℕ) (x : X) (v : PassView S Event) : Type 0 where
    pub upto : List Event
    pub held : held_at v.held i ≡ Some upto
    pub agrees : AgreeAt n w i upto v.seen
    pub stands : IsValueAfter n w m i x v.seen

module _ {S X : Type 0} (n : Numbering) (w : ShapeValue) (m : Meaning X) (party : Event → Option ℕ) where
  -- the pass holds the shards of these values and no other
  pub record Holds (values : List (ℕ × X)) (v : PassView S Event) : Type 0 where
    pub legal : is_legal w v.seen ≡ true
    pub each : (i : ℕ) (x : X) → value_at values i ≡ Some x → HoldsAt n w m i x v
    pub within : (i : ℕ) (x : X) → value_at values i ≡ Some x → i < n.shards
    pub others : (i : ℕ) → value_at values i ≡ None → held_at v.held i ≡ None
    pub own : IsOwn (shard_machine n w m party) v.party v.seen v.mine

module _ {S X E : Type 0} (m : Machine X E) where
  -- two shards were taken, one after the other
  pub record TookBoth (v : PassView S E) (low high : ℕ) (x y : X) (u : PassView S E) : Type 0 where
    pub first : List E
    pub second : List E
    pub is : u ≡ after_take (after_take v low first) high second
    pub low_stands : m.Stands low x first
    pub high_stands : m.Stands high y second
    pub low_legal : m.Legal first
    pub high_legal : m.Legal second
    pub seen : IsPrefix v.seen first

module _ {S : Type 0} (n : Numbering) (w : ShapeValue) (party : Event → Option ℕ) where
  -- an event was committed, after a history that goes on from what had been seen and agrees with it on the event's shards
  pub record IsCommitted (v : PassView S Event) (e : Event) (u : PassView S Event) : Type 0 where
    pub before : List Event
    pub seen : u.seen ≡ before ++ e ∷ []
    pub later : IsPrefix v.seen before
    pub agrees : (i : ℕ) → list_any (eqb i) (numbers_of n.number (state_after w v.seen) e) ≡ true → AgreeAt n w i v.seen before
    pub mine : u.mine ≡ mine_after (party e) v.mine e
    pub commits : u.commits ≡ v.commits ++ length before ∷ []
    pub looks : u.looks ≡ v.looks
    pub missed : u.missed ≡ v.missed
    pub met : u.lock_history ≡ v.lock_history
    pub party_is : u.party ≡ v.party
    pub start : u.start ≡ v.start
