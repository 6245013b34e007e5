-- Which writes a notification covers: those of its lane that were posted before it, and not purged since. (GASPI: notification
-- order, queue_purge)
use Rattle.std.specs.Prelude.{◌≡◌, ℕ, ◌+◌, ◌<◌, true, false, List, take, Some, slice_get}
use Rattle.gaspi_types.specs.World.{ShapeValue}
use Rattle.gaspi_types.specs.declared.events.Event.{Event}
use Rattle.gaspi_types.specs.declared.events.Event.TheVariants.{Put}
use Rattle.gaspi_types.specs.declared.events.Outcome.TheVariants.{Applied}
use Rattle.gaspi_model.specs.Order.{IsWriteInLane, IsNotificationInLane, is_purge_of}
use Rattle.gaspi_model.specs.Step.{is_legal}
use Rattle.call_journal.specs.Verdicts.{IsIllegalAt}
use Rattle.call_journal.specs.declared.answers.CoveredWrite.{CoveredWrite}
use Rattle.call_journal.specs.declared.answers.Explanation.{Explanation}
use Rattle.call_journal.specs.declared.answers.Explanation.TheVariants.{Writes, NoNotification, Illegal}

-- a notification that is in a lane is put at a place
pub record IsNotificationPut (w : ShapeValue) (history : List Event) (place origin queue target number : ℕ) : Type 0 where
  pub there : slice_get history place ≡ Some (Put origin queue target number Applied)
  pub stands : IsNotificationInLane w (take place history) origin queue target number

-- a write is posted by the event at a place: it is in its lane after that event, and not before it
pub record IsPostedAt (w : ShapeValue) (history : List Event) (post origin queue target number : ℕ) : Type 0 where
  pub after : IsWriteInLane w (take (post + 1) history) origin queue target number
  pub before : IsWriteInLane w (take post history) origin queue target number → ⊥

-- no event between two places is a purge of a queue
abbrev pub IsUnpurged : List Event → (from to origin queue : ℕ) → Type 0
IsUnpurged history from to origin queue =
    (place : ℕ) (event : Event) → from < place → place < to → slice_get history place ≡ Some event → is_purge_of origin queue event ≡ false

-- a write that is covered by the notification with a number that is put at a place: the write has a smaller number, was posted before that
-- place, and its queue was not purged in between
pub record IsCovered (w : ShapeValue) (history : List Event) (place origin queue target note post number : ℕ) : Type 0 where
  pub smaller : number < note
  pub earlier : post < place
  pub posted : IsPostedAt w history post origin queue target number
  pub unpurged : IsUnpurged history post place origin queue

-- these are all writes that are covered by the notification that is put at a place, by rising number, and their puts are where they
-- say, before that place
pub record IsExplained (w : ShapeValue) (history : List Event) (place : ℕ) (writes : List CoveredWrite) : Type 0 where
  pub origin : ℕ
  pub queue : ℕ
  pub target : ℕ
  pub number : ℕ
  pub note : IsNotificationPut w history place origin queue target number
  pub rising : (j k : ℕ) (x y : CoveredWrite) → j < k → slice_get writes j ≡ Some x → slice_get writes k ≡ Some y → x.number < y.number
  pub covered : (k : ℕ) (x : CoveredWrite) → slice_get writes k ≡ Some x → IsCovered w history place origin queue target number x.post x.number
  pub arrived : (k : ℕ) (x : CoveredWrite) → slice_get writes k ≡ Some x → x.put < place
  pub put : (k : ℕ) (x : CoveredWrite) → slice_get writes k ≡ Some x → slice_get history x.put ≡ Some (Put origin queue target x.number Applied)
  pub all : (post m : ℕ) → IsCovered w history place origin queue target number post m
      → (k : ℕ) × (x : CoveredWrite) × (slice_get writes k ≡ Some x) × (x.post ≡ post) × (x.number ≡ m)

-- the answer for a place of a journal
abbrev pub IsExplanation : ShapeValue → List Event → ℕ → Explanation → Type 0
IsExplanation w journal place (Writes writes) = (is_legal w journal ≡ true) × IsExplained w journal place writes
IsExplanation w journal place NoNotification =
    (is_legal w journal ≡ true) × ((origin queue target number : ℕ) → IsNotificationPut w journal place origin queue target number → ⊥)
IsExplanation w journal place (Illegal first why) = IsIllegalAt w journal first why
