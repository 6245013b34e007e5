-- A machine whose state is a list of projections, one for each shard, and whose events act on those of their shards alone.
use Rattle.std.specs.Prelude.{eqb, ◌≡◌, ℕ, zero, suc, ◌≤◌, false, List, [], ◌∷◌, length, slice_get, slice_set, option_and_then, Option, None, Some}
use Rattle.std.specs.List.{list_any}
use Rattle.commit_table.specs.Machine.{Machine}

-- P is a projection, X the value of a shard, E an event. An event has an owner, and peers that follow from the owner's projection.
pub record ProjectedMachine (P X E : Type 0) : Type 1 where
  -- the projections at the start, one for each shard
  pub first : List P
  pub owner : E → ℕ
  pub peers : P → E → List ℕ
  -- the new projections of the owner and of the peers, in order, for an event at a place in the history; or none, where the event may
  -- not happen. The place may be written into any of them, as what comes later is ordered by it
  pub act : ℕ → E → P → List P → Option (P × List P)
  -- the event is noted in its owner's projection, with its place
  pub noted : ℕ → E → P → P
  pub party : E → Option ℕ
  -- a value of a shard is this projection
  pub Is : ℕ → X → P → Type 0

module _ {P : Type 0} where
  -- the projections of these shards, if all are there
  abbrev pub projections_at : List P → List ℕ → Option (List P)
  projections_at ps [] = Some []
  projections_at ps (i ∷ is) = option_and_then (λ p. option_and_then (λ qs. Some (p ∷ qs)) (projections_at ps is)) (slice_get ps i)

  -- these shards have new projections
  abbrev pub with_projections : List P → List ℕ → List P → List P
  with_projections ps [] qs = ps
  with_projections ps (i ∷ is) [] = ps
  with_projections ps (i ∷ is) (q ∷ qs) = with_projections (slice_set ps i q) is qs

module _ {P X E : Type 0} (a : ProjectedMachine P X E) where
  -- what an event makes of its owner's projection and its peers' projections
  abbrev pub acted : ℕ → List P → E → P → Option (List P)
  acted place ps e own =
      option_and_then (λ qs. option_and_then (λ new. Some (with_projections (slice_set ps (a.owner e) (a.noted place e new.0)) (a.peers own e) new.1)) (a.act place e own qs)) (projections_at ps (a.peers own e))

  -- the projections after an event at a place, or none
  abbrev pub stepped : ℕ → List P → E → Option (List P)
  stepped place ps e = option_and_then (acted place ps e) (slice_get ps (a.owner e))

  -- the projections after events from a place on
  abbrev pub run : ℕ → List P → List E → Option (List P)
  run place ps [] = Some ps
  run place ps (e ∷ es) = option_and_then (λ qs. run (suc place) qs es) (stepped place ps e)

  -- the projections after a history, in the order of the shards; none where it is not legal
  abbrev pub projections_of : List E → Option (List P)
  projections_of h = run zero a.first h

  -- the projection of a shard after a history
  abbrev pub projection_of : ℕ → List E → Option P
  projection_of i h = option_and_then (λ ps. slice_get ps i) (projections_of h)

  -- the peers of an event, by its owner's projection
  abbrev pub peers_of : Option P → E → List ℕ
  peers_of None e = []
  peers_of (Some p) e = a.peers p e

  -- the machine in shards that these projections make
  abbrev pub machine_of : Machine X E
  machine_of = record {
    shards = length a.first;
    Legal = λ h. (ps : List P) × (projections_of h ≡ Some ps);
    Stands = λ i x h. (p : P) × (projection_of i h ≡ Some p) × a.Is i x p;
    Agree = λ i h k. projection_of i h ≡ projection_of i k;
    shards_of = λ h e. a.owner e ∷ peers_of (projection_of (a.owner e) h) e;
    owner = a.owner;
    party = a.party;
  }

  -- an event that may happen at a place may happen at each later place with the same projections
  abbrev pub Lasts : Type 0
  Lasts = (place later : ℕ) (e : E) (own : P) (others : List P) (new : P × List P) → place ≤ later → a.act place e own others ≡ Some new → (made : P × List P) × (a.act later e own others ≡ Some made)

  -- the projections of these shards after a history, in order
  abbrev pub ArePartsOf : List E → List ℕ → List P → Type 0
  ArePartsOf h [] [] = Unit {0}
  ArePartsOf h [] (p ∷ ps) = ⊥
  ArePartsOf h (i ∷ is) [] = ⊥
  ArePartsOf h (i ∷ is) (p ∷ ps) = (projection_of i h ≡ Some p) × ArePartsOf h is ps

-- no shard is named twice
abbrev pub AreApart : List ℕ → Type 0
AreApart [] = Unit {0}
AreApart (i ∷ is) = (list_any (eqb i) is ≡ false) × AreApart is
