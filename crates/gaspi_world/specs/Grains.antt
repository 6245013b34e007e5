-- Numberings of a world's shards: the shards of an event of a rank are among those that there are.
use Rattle.std.proofs.Common.{◌≡◌, ℕ, ◌<◌, Bool, true, false, ◌||◌, eqb, ◌==◌, nat_lt, List, [], ◌∷◌, map, Option, None, Some, refl, sym, ap, subst, arith, if◌then◌else◌}
use Rattle.std.specs.List.{slice_get, list_any}
use Rattle.std.proofs.lemmas.Bool.{eqb-true, ltb-true}
use Rattle.gaspi_types.specs.Footprints.{footprint_of}
use Rattle.gaspi_types.specs.World.{ShapeValue}
use Rattle.gaspi_types.specs.declared.events.Event.{Event}
use Rattle.gaspi_types.specs.declared.footprints.Footprint.TheVariants.{Alone, OwnMemory, PeerMemory, BothMemories, PeerPosts, Group, GroupAndMemory}
use Rattle.gaspi_types.specs.declared.footprints.DeclaredFootprint.{DeclaredFootprint}
use Rattle.gaspi_types.specs.declared.footprints.DeclaredFootprint.TheVariants as touches
use Rattle.gaspi_model.specs.Shards.{event_shards, footprint_shards, numbers_of, without_repeats}
use Rattle.gaspi_model.specs.Step.{owner_of, declared_footprint, is_legal}
use Rattle.gaspi_model.specs.declared.states.Posts.{Posts}
use Rattle.gaspi_model.specs.declared.states.Shard.{Shard}
use Rattle.gaspi_model.specs.declared.states.Shard.TheVariants as parts
use Rattle.gaspi_model.specs.declared.states.State.{State}
use Rattle.gaspi_world.specs.Numbering.{Numbering, by_ranks}
use Rattle.gaspi_world.specs.ShardLaws.{limits-are}
use Rattle.gaspi_world.specs.ShardMachine.{state_after}

-- a part of the state of a world with this number of ranks
abbrev pub IsPart : ℕ → Shard → Type 0
IsPart ranks (parts.Posts rank) = rank < ranks
IsPart ranks (parts.Memory rank) = rank < ranks
IsPart ranks (parts.Group id) = id < 8

-- all of a list are
abbrev pub AreParts : ℕ → List Shard → Type 0
AreParts ranks [] = Unit {0}
AreParts ranks (part ∷ list) = IsPart ranks part × AreParts ranks list

-- each part of a world has the number of a shard that there is
abbrev pub Numbers : ℕ → Numbering → Type 0
Numbers ranks n = (part : Shard) → IsPart ranks part → n.number part < n.shards

footprint-parts : (ranks me : ℕ) (declaration : DeclaredFootprint) → me < ranks → AreParts ranks (footprint_shards me (footprint_of ranks me declaration))
footprint-parts ranks me touches.Nothing lt = (lt, tt)
footprint-parts ranks me touches.OwnMemory lt = (lt, (lt, tt))
footprint-parts ranks me (touches.MemoryOf rank) lt = go (rank == me) (nat_lt rank ranks) refl
  where
    go : (a b : Bool) → nat_lt rank ranks ≡ b → AreParts ranks (footprint_shards me (if a then OwnMemory else (if b then PeerMemory rank else Alone)))
    go true b is = (lt, (lt, tt))
    go false true is = (lt, (ltb-true rank ranks is, tt))
    go false false is = (lt, tt)
footprint-parts ranks me (touches.BothMemories rank) lt = go (rank == me) (nat_lt rank ranks) refl
  where
    go : (a b : Bool) → nat_lt rank ranks ≡ b → AreParts ranks (footprint_shards me (if a then OwnMemory else (if b then BothMemories rank else Alone)))
    go true b is = (lt, (lt, tt))
    go false true is = (lt, (lt, (ltb-true rank ranks is, tt)))
    go false false is = (lt, tt)
footprint-parts ranks me (touches.PostsOf rank) lt = go (rank == me) (nat_lt rank ranks) refl
  where
    go : (a b : Bool) → nat_lt rank ranks ≡ b → AreParts ranks (footprint_shards me (if a then Alone else (if b then PeerPosts rank else Alone)))
    go true b is = (lt, tt)
    go false true is = (lt, (ltb-true rank ranks is, tt))
    go false false is = (lt, tt)
footprint-parts ranks me (touches.GroupOf id) lt = go (nat_lt id 8) refl
  where
    go : (b : Bool) → nat_lt id 8 ≡ b → AreParts ranks (footprint_shards me (if b then Group id else Alone))
    go true is = (lt, (ltb-true id 8 is, tt))
    go false is = (lt, tt)
footprint-parts ranks me (touches.GroupAndMemory id) lt = go (nat_lt id 8) refl
  where
    go : (b : Bool) → nat_lt id 8 ≡ b → AreParts ranks (footprint_shards me (if b then GroupAndMemory id else Alone))
    go true is = (lt, (lt, (ltb-true id 8 is, tt)))
    go false is = (lt, tt)

event-parts : (s : State) (e : Event) → owner_of e < s.limits.ranks → AreParts s.limits.ranks (event_shards s e)
event-parts s e lt = go (slice_get s.posts (owner_of e)) refl
  where
    go : (o : Option Posts) → slice_get s.posts (owner_of e) ≡ o → AreParts s.limits.ranks (event_shards s e)
    go None at = rw at (lt, tt)
    go (Some posts) at = rw at (footprint-parts s.limits.ranks (owner_of e) (declared_footprint posts e) lt)

module _ (ranks : ℕ) (n : Numbering) (numbers : Numbers ranks n) where
  below : (list : List Shard) (i : ℕ) → AreParts ranks list → list_any (eqb i) (without_repeats (map n.number list)) ≡ true → i < n.shards
  below [] i are is = absurd (let no : ⊥ = cc in no)
  below (part ∷ list) i are is = go (below list i are.1) (list_any (eqb (n.number part)) (map n.number list)) is
    where
      here : (list_any (eqb i) (without_repeats (map n.number list)) ≡ true → i < n.shards) → (b : Bool) → eqb i (n.number part) ≡ b
          → (b || list_any (eqb i) (without_repeats (map n.number list))) ≡ true → i < n.shards
      here rest true same h = subst (λ (k : ℕ). k < n.shards) (sym (eqb-true i (n.number part) same)) (numbers part are.0)
      here rest false same h = rest h

      go : (list_any (eqb i) (without_repeats (map n.number list)) ≡ true → i < n.shards) → (b : Bool)
          → list_any (eqb i) (if b then without_repeats (map n.number list) else n.number part ∷ without_repeats (map n.number list)) ≡ true → i < n.shards
      go rest true h = rest h
      go rest false h = here rest (eqb i (n.number part)) refl h

-- the shards of an event of a rank
pub shards-within : (w : ShapeValue) (n : Numbering) (h : List Event) (e : Event) (i : ℕ) → Numbers w.limits.ranks n → is_legal w h ≡ true → owner_of e < w.limits.ranks
    → list_any (eqb i) (numbers_of n.number (state_after w h) e) ≡ true → i < n.shards
shards-within w n h e i numbers legal lt among =
    let same : (state_after w h).limits.ranks ≡ w.limits.ranks = ap (λ (l : _). l.ranks) (limits-are w h legal) in
    let are = subst (λ (r : ℕ). AreParts r (event_shards (state_after w h) e)) same (event-parts (state_after w h) e (subst (λ (r : ℕ). owner_of e < r) (sym same) lt)) in
    below w.limits.ranks n numbers (event_shards (state_after w h) e) i are among

pub ranks-number : (w : ShapeValue) → Numbers w.limits.ranks (by_ranks w)
ranks-number w (parts.Posts rank) lt = omega arith
ranks-number w (parts.Memory rank) lt = omega arith
ranks-number w (parts.Group id) lt = omega arith
