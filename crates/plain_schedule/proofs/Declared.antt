-- A caller that has not ended has a section, and is of a rank that is there.
use Rattle.std.proofs.Common.{◌≡◌, ℕ, ◌<◌, true, length, Option, None, Some, refl}
use Rattle.std.specs.List.{slice_get}
use Rattle.std.proofs.lemmas.Option.{slice_get_within}
use Rattle.gaspi_model.specs.State.{thread_at, is_running}
use Rattle.gaspi_model.specs.Step.{is_active, is_declared, is_there}
use Rattle.gaspi_model.specs.declared.states.Posts.{Posts}
use Rattle.gaspi_model.specs.declared.states.State.{State}
use Rattle.gaspi_model.specs.declared.states.ThreadState.{ThreadState}
use Rattle.gaspi_model.specs.declared.states.ThreadState.TheVariants.{Absent, Running, Ended}

running-there : (t : ThreadState) → is_running t ≡ true → is_there t ≡ true
running-there Absent h = absurd (let no : ⊥ = cc in no)
running-there Running h = refl
running-there Ended h = absurd (let no : ⊥ = cc in no)

pub active-declared : (s : State) (rank thread : ℕ) → is_active s rank thread ≡ true → is_declared s rank thread ≡ true
active-declared s rank thread active = go (slice_get s.posts rank) refl
  where
    go : (o : Option Posts) → slice_get s.posts rank ≡ o → is_declared s rank thread ≡ true
    go None at = absurd (let none = rw at at active in let no : ⊥ = cc in no)
    go (Some posts) at = rw at (running-there (thread_at posts thread) (rw at at active))

pub active-within : (s : State) (rank thread : ℕ) → is_active s rank thread ≡ true → rank < length s.posts
active-within s rank thread active = go (slice_get s.posts rank) refl
  where
    go : (o : Option Posts) → slice_get s.posts rank ≡ o → rank < length s.posts
    go None at = absurd (let none = rw at at active in let no : ⊥ = cc in no)
    go (Some posts) at = slice_get_within s.posts rank posts at
