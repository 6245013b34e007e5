-- What a full turn of a worker came to. (GASPI: one-sided communication)
use Rattle.std.specs.Prelude.{◌≡◌, ℕ, ◌<◌, true, List, [], ◌∷◌, ◌++◌, length, Ok}
use mathlib.Core.List.{IsPrefix}
use Rattle.gaspi_types.specs.World.{ShapeValue}
use Rattle.gaspi_types.specs.declared.events.Event.{Event}
use Rattle.gaspi_model.specs.Settled.{IsSettled}
use Rattle.gaspi_model.specs.Step.{reached}
use Rattle.gaspi_model.specs.declared.states.State.{State}
use Rattle.commit_table.specs.declared.views.PassView.{PassView}
use Rattle.gaspi_world.specs.Transfers.{is_transfer_of, HasNoEnabledTransfer, HasActive, HaveEnded, IsBusyMove}
use Rattle.gaspi_world.specs.declared.moving.Moving.{Moving}
use Rattle.gaspi_world.specs.declared.moving.Moving.TheVariants as moves
use Rattle.transfer_worker.specs.declared.turns.Turn.{Turn}
use Rattle.transfer_worker.specs.declared.turns.Turn.TheVariants.{Moved, Busy, Idle, Drained}

-- what a turn comes to with the try of one rank more: a transfer that was made, else a miss, else a caller that goes on
abbrev pub with_try : Turn → Moving → Turn
with_try so_far moves.Moved = Moved
with_try so_far moves.Busy = Busy
with_try Drained moves.Empty = Idle
with_try so_far moves.Empty = so_far
with_try so_far moves.Ended = so_far

-- what a pass knew it knows still, and of its party it has committed nothing
pub record IsExtended {S E : Type 0} (v n : PassView S E) : Type 0 where
  pub seen : IsPrefix v.seen n.seen
  pub commits : IsPrefix v.commits n.commits
  pub looks : IsPrefix v.looks n.looks
  pub missed : IsPrefix v.missed n.missed
  pub mine : n.mine ≡ v.mine
  pub party : n.party ≡ v.party
  pub start : n.start ≡ v.start

module _ (w : ShapeValue) where
  -- the history leads to a state in which nothing is left to do
  abbrev pub IsDrained : List Event → Type 0
  IsDrained history = (s : State) × (reached w history ≡ Ok s) × IsSettled s

  -- one transfer was committed, after a history that goes on from what had been seen
  pub record IsTransferMade {S : Type 0} (v n : PassView S Event) : Type 0 where
    pub origin : ℕ
    pub rank : origin < w.limits.ranks
    pub event : Event
    pub transfer : is_transfer_of origin event ≡ true
    pub before : List Event
    pub since : IsPrefix v.seen before
    pub seen : n.seen ≡ before ++ event ∷ []
    pub commits : n.commits ≡ v.commits ++ length before ∷ []

  -- nothing was committed, and the try of one rank was busy: what was known before it goes on from what the turn began with, and what is
  -- known goes on from what was known after it
  pub record HasMissed {S : Type 0} (v n : PassView S Event) : Type 0 where
    pub commits : n.commits ≡ v.commits
    pub origin : ℕ
    pub rank : origin < w.limits.ranks
    pub before : PassView S Event
    pub after : PassView S Event
    pub since : IsExtended v before
    pub busy : IsBusyMove w origin before after
    pub until : IsExtended after n

  -- a history that was seen in the turn, after which no transfer of a rank may come next
  pub record HasNoTransferSeen {S : Type 0} (v n : PassView S Event) (rank : ℕ) : Type 0 where
    pub history : List Event
    pub since : IsPrefix v.seen history
    pub until : IsPrefix history n.seen
    pub none : HasNoEnabledTransfer w history rank

  -- and then a thread of it is active
  abbrev pub IsActive : {S : Type 0} → PassView S Event → PassView S Event → ℕ → Type 0
  IsActive v n rank = (still : HasNoTransferSeen v n rank) × HasActive w still.history rank

  -- and then no thread of it is active
  abbrev pub IsEnded : {S : Type 0} → PassView S Event → PassView S Event → ℕ → Type 0
  IsEnded v n rank = (still : HasNoTransferSeen v n rank) × HaveEnded w still.history rank

  -- nothing was committed and nothing missed: each of these ranks was tried, with one look for each try
  pub record AreRanksTried {S : Type 0} (Is : ℕ → Type 0) (tries : ℕ) (v n : PassView S Event) : Type 0 where
    pub commits : n.commits ≡ v.commits
    pub missed : n.missed ≡ v.missed
    pub looks : (these : List ℕ) × (n.looks ≡ v.looks ++ these) × (length these ≡ tries)
    pub still : (rank : ℕ) → Is rank → HasNoTransferSeen v n rank

  -- each rank was tried, and a thread of one has not ended
  abbrev pub IsIdle : {S : Type 0} → PassView S Event → PassView S Event → Type 0
  IsIdle v n = AreRanksTried (λ rank. rank < w.limits.ranks) w.limits.ranks v n × ((rank : ℕ) × (rank < w.limits.ranks) × IsActive v n rank)

  -- each rank was tried, and the world is settled
  abbrev pub AreDone : {S : Type 0} → PassView S Event → PassView S Event → Type 0
  AreDone v n = AreRanksTried (λ rank. rank < w.limits.ranks) w.limits.ranks v n × IsDrained n.seen

  -- what a full turn came to, by its answer
  abbrev pub Turned : {S : Type 0} → PassView S Event → Turn → PassView S Event → Type 0
  Turned v Moved n = IsTransferMade v n
  Turned v Busy n = HasMissed v n
  Turned v Idle n = IsIdle v n
  Turned v Drained n = AreDone v n
