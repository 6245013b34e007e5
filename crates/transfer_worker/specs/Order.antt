-- The tries of a turn in their order, and the turns of a worker one after another. (GASPI: one-sided communication)
use Rattle.std.specs.Prelude.{◌≡◌, ◌≢◌, ◌<◌, ◌⊎◌, ℕ, zero, suc, ◌+◌, ◌%◌, ◌^◌, Bool, true, false, List, Option}
use Rattle.gaspi_types.specs.World.{ShapeValue}
use Rattle.gaspi_types.specs.declared.events.Event.{Event}
use Rattle.commit_table.specs.declared.views.PassView.{PassView}
use Rattle.gaspi_world.specs.Transfers.{Transfers, MovesOn}
use Rattle.gaspi_world.specs.declared.moving.Moving.{Moving}
use Rattle.gaspi_world.specs.declared.moving.Moving.TheVariants as moves
use Rattle.transfer_worker.specs.QuietRanks.{TellsStill}
use Rattle.transfer_worker.specs.Turns.{with_try, HasNoTransferSeen}
use Rattle.transfer_worker.specs.declared.tries.Others.{Others}
use Rattle.transfer_worker.specs.declared.tries.Others.TheVariants as others
use Rattle.transfer_worker.specs.declared.turns.Turn.{Turn}
use Rattle.transfer_worker.specs.declared.turns.Turn.TheVariants.{Moved, Busy, Idle, Drained}

-- what ranks that did not move come to with one more: a miss, else a try, else none was tried
abbrev pub with_other : Others → Others → Others
with_other so_far others.Moved = others.Moved
with_other so_far others.Busy = others.Busy
with_other others.Passed others.Quiet = others.Quiet
with_other so_far others.Quiet = so_far
with_other so_far others.Passed = so_far

-- the number of the turn after one with that number: where no rank was tried, it was no turn
abbrev pub next_turn : Others → ℕ → ℕ
next_turn others.Moved turns = (turns + 1) % 2 ^ 64
next_turn others.Busy turns = (turns + 1) % 2 ^ 64
next_turn others.Quiet turns = (turns + 1) % 2 ^ 64
next_turn others.Passed turns = turns

module _ (w : ShapeValue) where
  -- the rank that is tried after this number of others: the ranks come in their order from a first one on, and rank 0 after the last
  abbrev pub tried_rank : ℕ → ℕ → ℕ
  tried_rank first tries = (first + tries) % w.limits.ranks

  -- the rank at which a turn begins: of the number of turns before it, which wraps, modulo how many ranks there are
  abbrev pub first_rank : ℕ → ℕ
  first_rank turns = turns % 2 ^ 64 % w.limits.ranks

  -- Ranks were tried one after another from a first one on, and none moved: what they come to.
  abbrev pub HaveTried : {S : Type 0} → ℕ → ℕ → PassView S Event → Turn → PassView S Event → Type 0
  HaveTried first zero v so_far n = (n ≡ v) × (so_far ≡ Drained)
  HaveTried {S} first (suc tries) v so_far n =
      (m : PassView S Event) × (before : Turn) × (moving : Moving) × HaveTried first tries v before m
      × Transfers w (tried_rank first tries) m moving n × (moving ≢ moves.Moved) × (so_far ≡ with_try before moving)

  -- after tries that did not move, one did
  pub record StopsAt {S : Type 0} (first : ℕ) (v n : PassView S Event) : Type 0 where
    pub tries : ℕ
    pub few : tries < w.limits.ranks
    pub between : PassView S Event
    pub so_far : Turn
    pub tried : HaveTried first tries v so_far between
    pub moved : Transfers w (tried_rank first tries) between moves.Moved n

  -- A turn from a first rank on: it stops at the first rank that moved, else it tries all.
  abbrev pub MakesTurn : {S : Type 0} → ℕ → PassView S Event → Turn → PassView S Event → Type 0
  MakesTurn first v Moved n = StopsAt first v n
  MakesTurn first v Busy n = HaveTried first w.limits.ranks v Busy n
  MakesTurn first v Idle n = HaveTried first w.limits.ranks v Idle n
  MakesTurn first v Drained n = HaveTried first w.limits.ranks v Drained n

  -- The try of a rank that may make several transfers of a lane. A rank is passed over where a look since `begun` found no transfer of it.
  abbrev pub TriesOther : {S : Type 0} → PassView S Event → ℕ → PassView S Event → Others → PassView S Event → Type 0
  TriesOther begun origin v others.Moved n = MovesOn w origin v moves.Moved n
  TriesOther begun origin v others.Busy n = MovesOn w origin v moves.Busy n
  TriesOther begun origin v others.Quiet n = MovesOn w origin v moves.Empty n ⊎ MovesOn w origin v moves.Ended n
  TriesOther begun origin v others.Passed n = (n ≡ v) × HasNoTransferSeen w begun v origin

  -- So many ranks were tried or passed over one after another from a first one on, and none moved: what they come to.
  abbrev pub HaveTriedOthers : {S : Type 0} → PassView S Event → ℕ → ℕ → PassView S Event → Others → PassView S Event → Type 0
  HaveTriedOthers begun first zero v so_far n = (n ≡ v) × (so_far ≡ others.Passed)
  HaveTriedOthers {S} begun first (suc tries) v so_far n =
      (m : PassView S Event) × (before : Others) × (other : Others) × HaveTriedOthers begun first tries v before m
      × TriesOther begun (tried_rank first tries) m other n × (other ≢ others.Moved) × (so_far ≡ with_other before other)

  -- after tries that did not move, or that passed over a quiet rank, one did
  pub record StopsAtOther {S : Type 0} (begun : PassView S Event) (first : ℕ) (v n : PassView S Event) : Type 0 where
    pub tries : ℕ
    pub few : tries < w.limits.ranks
    pub between : PassView S Event
    pub so_far : Others
    pub tried : HaveTriedOthers begun first tries v so_far between
    pub moved : TriesOther begun (tried_rank first tries) between others.Moved n

  -- A turn past some ranks, from a first rank on: it stops at the first that moved, else it goes through all.
  abbrev pub TriesOthers : {S : Type 0} → PassView S Event → ℕ → PassView S Event → Others → PassView S Event → Type 0
  TriesOthers begun first v others.Moved n = StopsAtOther begun first v n
  TriesOthers begun first v others.Busy n = HaveTriedOthers begun first w.limits.ranks v others.Busy n
  TriesOthers begun first v others.Quiet n = HaveTriedOthers begun first w.limits.ranks v others.Quiet n
  TriesOthers begun first v others.Passed n = HaveTriedOthers begun first w.limits.ranks v others.Passed n

  -- The same of a worker whose next turn has that number, by the counts that it knows of quiet ranks, and the number of the turn after it.
  abbrev pub GoesPast : {S : Type 0} → ℕ → List (Option ℕ) → PassView S Event → Others → ℕ → List (Option ℕ) → PassView S Event → Type 0
  GoesPast turns before v kind next after n = TellsStill w (λ begun. TriesOthers begun (first_rank turns) v kind n) before v after n × (next ≡ next_turn kind turns)

  -- one turn of either kind, in which a rank was tried, and which did not find that nothing is left to do
  abbrev pub MakesOneTurn : {S : Type 0} → PassView S Event → ℕ → PassView S Event → PassView S Event → Type 0
  MakesOneTurn begun first v n = ((kind : Others) × TriesOthers begun first v kind n × (kind ≢ others.Passed)) ⊎ ((turn : Turn) × MakesTurn first v turn n × (turn ≢ Drained))

  -- So many turns one after another, each beginning at the rank of its number. A rank is passed over for a look in one of them or before
  -- them, since `begun`.
  abbrev pub HaveTurned : {S : Type 0} → PassView S Event → ℕ → ℕ → PassView S Event → PassView S Event → Type 0
  HaveTurned begun turns zero v n = n ≡ v
  HaveTurned {S} begun turns (suc count) v n = (m : PassView S Event) × HaveTurned begun turns count v m × MakesOneTurn begun (first_rank (turns + count)) m n

  -- Turns until one finds that nothing is left to do: the first has this number, and the next one would have that. A rank is passed over
  -- for a look in one of them.
  pub record Drains {S : Type 0} (turns : ℕ) (v : PassView S Event) (next : ℕ) (n : PassView S Event) : Type 0 where
    pub count : ℕ
    pub between : PassView S Event
    pub turned : HaveTurned v turns count v between
    pub last : MakesTurn (first_rank (turns + count)) between Drained n
    pub next_is : next ≡ (turns + count + 1) % 2 ^ 64

  -- a pause, in which no turn is made, or a turn: whether it found that nothing is left to do
  abbrev pub Rests : {S : Type 0} → ℕ → PassView S Event → Bool → ℕ → PassView S Event → Type 0
  Rests turns v false next n = ((n ≡ v) × (next ≡ turns)) ⊎ ((turn : Turn) × MakesTurn (first_rank turns) v turn n × (turn ≢ Drained) × (next ≡ (turns + 1) % 2 ^ 64))
  Rests turns v true next n = MakesTurn (first_rank turns) v Drained n × (next ≡ (turns + 1) % 2 ^ 64)
