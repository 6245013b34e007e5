-- A machine stays one, and what it knows of its ranks.
use Rattle.std.proofs.Common.{◌≡◌, ℕ, ◌≤◌, List, Option, None, Some, Result, Ok, Err, map, slice_get, refl, ◌∙◌, arith, subst}
use Rattle.std.proofs.lemmas.Option.{slice_get-map}
use Rattle.gaspi_types.specs.declared.events.Event.{Event}
use Rattle.gaspi_model.specs.Sound.{IsSound}
use Rattle.gaspi_model.specs.Step.{step, Steps, used_room}
use Rattle.gaspi_model.specs.declared.states.Posts.{Posts}
use Rattle.gaspi_model.specs.declared.states.State.{State}
use Rattle.gaspi_model.specs.declared.states.StepFault.{StepFault}
use Rattle.gaspi_model.specs.declared.states.StepFault.TheVariants as faults
use Rattle.plain_machine.specs.Machine.{IsMachine, used_room_of}
use Rattle.plain_machine.specs.NonemptyLanes.{nonempty_lanes}
use Rattle.plain_machine.specs.declared.nonempty_lanes.LaneId.{LaneId}
use Rattle.plain_machine.proofs.Fitting.{fitting_by}

-- the room taken that is kept for a rank
pub record IsTaken (s : State) (rank n : ℕ) : Type 0 where
  pub within : n ≤ s.limits.events
  pub value : n ≡ used_room s rank

pub used_at : (s : State) (rooms : List ℕ) (standing : List LaneId) (rank n : ℕ) → IsMachine s rooms standing → slice_get rooms rank ≡ Some n → IsTaken s rank n
used_at s rooms standing rank n machine there = by_item (slice_get s.posts rank) refl
  where
    kept : slice_get (map used_room_of s.posts) rank ≡ Some n
    kept = subst (λ (ns : List ℕ). slice_get ns rank ≡ Some n) machine.used there

    by_item : (o : Option Posts) → slice_get s.posts rank ≡ o → IsTaken s rank n
    by_item None is =
        let none : slice_get (map used_room_of s.posts) rank ≡ None = slice_get-map used_room_of s.posts rank ∙ rw is refl in cc
    by_item (Some p) is =
        let some : slice_get (map used_room_of s.posts) rank ≡ Some (used_room_of p) = slice_get-map used_room_of s.posts rank ∙ rw is refl in
        let same : n ≡ used_room_of p = cc in
        let room = (machine.sound.posts rank p is).room in
        record { within = omega (arith, same, room); value = same ∙ rw is refl }

pub stepped : (s t : State) (e : Event) (rooms rooms' : List ℕ) (standing standing' : List LaneId) (result : Result (Unit {0}) StepFault)
    → ((s t : State) (e : Event) → IsSound s → step s e ≡ Ok t → IsSound t)
    → IsMachine s rooms standing → Steps result s t (step s e) → rooms' ≡ map used_room_of t.posts → standing' ≡ nonempty_lanes t.posts → IsMachine t rooms' standing'
stepped s t e rooms rooms' standing standing' (Ok done) keeps machine steps taken named =
    record { sound = keeps s t e machine.sound steps; fitting = fitting_by s t e machine.fitting steps; used = taken; named = named }
stepped s t e rooms rooms' standing standing' (Err (faults.Illegal why)) keeps machine steps taken named =
    record { sound = rw steps.1 machine.sound; fitting = rw steps.1 machine.fitting; used = taken; named = named }
stepped s t e rooms rooms' standing standing' (Err faults.NoMemory) keeps machine steps taken named =
    record { sound = rw steps machine.sound; fitting = rw steps machine.fitting; used = taken; named = named }
