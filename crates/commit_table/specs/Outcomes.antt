-- What each outcome of an attempt on the counters says.
use Rattle.std.specs.Prelude.{◌≡◌, ℕ, List, [], ◌∷◌, ◌++◌, length}
use mathlib.Core.List.{IsPrefix}
use Rattle.commit_table.specs.declared.views.PassView.{PassView}
use Rattle.commit_table.specs.declared.counters.Counters.{Counters}
use Rattle.commit_table.specs.declared.counters.CounterEvent.{CounterEvent}
use Rattle.commit_table.specs.declared.counters.CounterEvent.TheVariants.{Raise}
use Rattle.commit_table.specs.declared.counters.CounterAnswer.{CounterAnswer}
use Rattle.commit_table.specs.declared.counters.CounterAnswer.TheVariants.{Done, Busy, Stuck}
use Rattle.commit_table.specs.Counters.{counters}
use Rattle.commit_table.specs.Attempts.{IsCommittedOnce, IsMissed, IsLookedOnly}

-- no such event may follow a history
abbrev pub NoneFollows : (CounterEvent → Type 0) → List CounterEvent → Type 0
NoneFollows May h = (e : CounterEvent) → May e → ¬ counters.Legal (h ++ e ∷ [])

-- Shard says which shards may be missed, and May which events may be committed
abbrev pub IsOutcome : (ℕ → Type 0) → (CounterEvent → Type 0) → PassView Counters CounterEvent → CounterAnswer → PassView Counters CounterEvent → Type 0
IsOutcome Shard May v (Done place) w = (e : CounterEvent) × May e × IsCommittedOnce counters v e place w
IsOutcome Shard May v Busy w = IsMissed counters v Shard w
IsOutcome Shard May v Stuck w = IsLookedOnly counters v w × NoneFollows May w.seen

-- both counters were raised after one look, each once, and the second event stands at this place in what was seen
pub record RaisedBoth (v : PassView Counters CounterEvent) (p place : ℕ) (w : PassView Counters CounterEvent) : Type 0 where
  pub before : List CounterEvent
  pub seen : w.seen ≡ before ++ Raise p 1 ∷ []
  pub legal : counters.Legal w.seen
  pub goes_on : IsPrefix v.seen before
  pub place_is : place ≡ length before
  pub mine : w.mine ≡ (v.mine ++ Raise p 0 ∷ []) ++ Raise p 1 ∷ []
  pub looks : (n : ℕ) × (w.looks ≡ v.looks ++ n ∷ [])
  pub missed : w.missed ≡ v.missed
  pub party : w.party ≡ v.party
  pub start : w.start ≡ v.start
