-- With a shard for each rank and each group an event has its owner's shard, and at most one other.
use Rattle.std.proofs.Common.{◌≡◌, ◌⊎◌, inl, inr, ℕ, ◌+◌, Bool, true, false, ◌||◌, eqb, List, [], ◌∷◌, map, Option, None, Some, refl, ap, eq-eqb, sym, ◌∙◌, subst, if◌then◌else◌}
use Rattle.std.specs.List.{slice_get, list_any}
use Rattle.std.proofs.lemmas.Bool.{eqb-true}
use Rattle.gaspi_types.specs.CallRows.{row_of}
use Rattle.gaspi_types.specs.Footprints.{footprint_of}
use Rattle.gaspi_types.specs.World.{ShapeValue}
use Rattle.gaspi_types.specs.declared.calls.Call.{Call}
use Rattle.gaspi_types.specs.declared.events.Event.{Event}
use Rattle.gaspi_types.specs.declared.collectives.Coll.{Coll}
use Rattle.gaspi_types.specs.declared.collectives.Coll.TheVariants as colls
use Rattle.gaspi_types.specs.declared.events.Event.TheVariants.{Called, Joined}
use Rattle.gaspi_types.specs.declared.groups.Args.{Args}
use Rattle.gaspi_types.specs.declared.replies.Reply.{Reply}
use Rattle.gaspi_types.specs.declared.shapes.CallerId.{CallerId}
use Rattle.gaspi_types.specs.declared.footprints.Footprint.{Footprint}
use Rattle.gaspi_types.specs.declared.footprints.Footprint.TheVariants.{Alone, OwnMemory, PeerMemory, BothMemories, PeerPosts, Group, GroupAndMemory}
use Rattle.gaspi_model.specs.Shards.{footprint_shards, numbers_of, without_repeats, event_shards}
use Rattle.gaspi_model.specs.Step.{owner_of, event_footprint, join_footprint, is_legal}
use Rattle.gaspi_model.specs.CollectiveCalls.{joining_call}
use Rattle.gaspi_model.specs.declared.states.Posts.{Posts}
use Rattle.gaspi_world.specs.Numbering.{rank_number, by_ranks}
use Rattle.gaspi_world.specs.ShardLaws.{limits-are}
use Rattle.gaspi_world.specs.ShardMachine.{state_after}

-- a shard is the own one, or the other one where there is one
abbrev pub IsEither : ℕ → Option ℕ → ℕ → Type 0
IsEither own None i = i ≡ own
IsEither own (Some other) i = (i ≡ own) ⊎ (i ≡ other)

-- the number of the other shard that an event of that footprint has
abbrev pub rank_other : ℕ → Footprint → Option ℕ
rank_other ranks Alone = None
rank_other ranks OwnMemory = None
rank_other ranks (PeerMemory rank) = Some rank
rank_other ranks (BothMemories rank) = Some rank
rank_other ranks (PeerPosts rank) = Some rank
rank_other ranks (Group id) = Some (ranks + id)
rank_other ranks (GroupAndMemory id) = Some (ranks + id)

-- the other shard of a call, which its footprint alone says, before anything is taken
abbrev pub call_other : ShapeValue → CallerId → Call → Option ℕ
call_other w c call = rank_other w.limits.ranks (footprint_of w.limits.ranks c.rank (row_of call).footprint)

-- a number is the first of a list or among the others
first-or : (n i : ℕ) (rest : Bool) → (eqb i n || rest) ≡ true → (i ≡ n) ⊎ (rest ≡ true)
first-or n i rest h = go (eqb i n) refl h
  where
    go : (b : Bool) → eqb i n ≡ b → (b || rest) ≡ true → (i ≡ n) ⊎ (rest ≡ true)
    go true is h = inl (eqb-true i n is)
    go false is h = inr h

-- numbers without repeats are the same numbers
same-here : (n i : ℕ) (list : List ℕ) → list_any (eqb n) list ≡ true → list_any (eqb i) list ≡ (eqb i n || list_any (eqb i) list)
same-here n i list there = go (eqb i n) refl
  where
    go : (b : Bool) → eqb i n ≡ b → list_any (eqb i) list ≡ (b || list_any (eqb i) list)
    go true is = ap (λ (k : ℕ). list_any (eqb k) list) (eqb-true i n is) ∙ there
    go false is = refl

no-repeats : (list : List ℕ) (i : ℕ) → list_any (eqb i) (without_repeats list) ≡ list_any (eqb i) list
no-repeats [] i = refl
no-repeats (n ∷ list) i = go (no-repeats list i) (list_any (eqb n) list) refl
  where
    go : list_any (eqb i) (without_repeats list) ≡ list_any (eqb i) list → (b : Bool) → list_any (eqb n) list ≡ b
        → list_any (eqb i) (if b then without_repeats list else n ∷ without_repeats list) ≡ list_any (eqb i) (n ∷ list)
    go rest true there = rest ∙ same-here n i list there
    go rest false there = ap (λ (b : Bool). eqb i n || b) rest

drop-repeats : (list : List ℕ) (i : ℕ) → list_any (eqb i) (without_repeats list) ≡ true → list_any (eqb i) list ≡ true
drop-repeats list i h = sym (no-repeats list i) ∙ h

one-of : (me i : ℕ) → list_any (eqb i) (me ∷ []) ≡ true → i ≡ me
one-of me i h = last (first-or me i false h)
  where
    last : (i ≡ me) ⊎ (false ≡ true) → i ≡ me
    last (inl is) = is
    last (inr never) = absurd (let z : ⊥ = cc in z)

two-of : (me other i : ℕ) → list_any (eqb i) (me ∷ other ∷ []) ≡ true → (i ≡ me) ⊎ (i ≡ other)
two-of me other i h = go (first-or me i (list_any (eqb i) (other ∷ [])) h)
  where
    go : (i ≡ me) ⊎ (list_any (eqb i) (other ∷ []) ≡ true) → (i ≡ me) ⊎ (i ≡ other)
    go (inl is) = inl is
    go (inr rest) = inr (one-of other i rest)

-- three numbers of which the second is the first, or the third
own-again : (me other i : ℕ) → list_any (eqb i) (me ∷ me ∷ other ∷ []) ≡ true → (i ≡ me) ⊎ (i ≡ other)
own-again me other i h = go (first-or me i (list_any (eqb i) (me ∷ other ∷ [])) h)
  where
    go : (i ≡ me) ⊎ (list_any (eqb i) (me ∷ other ∷ []) ≡ true) → (i ≡ me) ⊎ (i ≡ other)
    go (inl is) = inl is
    go (inr rest) = two-of me other i rest

own-twice : (me i : ℕ) → list_any (eqb i) (me ∷ me ∷ []) ≡ true → i ≡ me
own-twice me i h = go (two-of me me i h)
  where
    go : (i ≡ me) ⊎ (i ≡ me) → i ≡ me
    go (inl is) = is
    go (inr is) = is

footprint-either : (ranks me i : ℕ) (footprint : Footprint) → list_any (eqb i) (map (rank_number ranks) (footprint_shards me footprint)) ≡ true → IsEither me (rank_other ranks footprint) i
footprint-either ranks me i Alone h = one-of me i h
footprint-either ranks me i OwnMemory h = own-twice me i h
footprint-either ranks me i (PeerMemory rank) h = two-of me rank i h
footprint-either ranks me i (BothMemories rank) h = own-again me rank i h
footprint-either ranks me i (PeerPosts rank) h = two-of me rank i h
footprint-either ranks me i (Group id) h = two-of me (ranks + id) i h
footprint-either ranks me i (GroupAndMemory id) h = own-again me (ranks + id) i h

-- The shards of an event are its owner's and the other one.
pub event-either : (w : ShapeValue) (h : List Event) (e : Event) (posts : Posts) (i : ℕ) → is_legal w h ≡ true → slice_get (state_after w h).posts (owner_of e) ≡ Some posts
    → list_any (eqb i) (numbers_of (by_ranks w).number (state_after w h) e) ≡ true → IsEither (owner_of e) (rank_other w.limits.ranks (event_footprint w.limits posts e)) i
event-either w h e posts i legal at among =
    let number = rank_number w.limits.ranks in
    let plain : list_any (eqb i) (map number (event_shards (state_after w h) e)) ≡ true = drop-repeats (map number (event_shards (state_after w h) e)) i among in
    let there : list_any (eqb i) (map number (footprint_shards (owner_of e) (event_footprint (state_after w h).limits posts e))) ≡ true = rw at at plain in
    let limits = limits-are w h legal in
    footprint-either w.limits.ranks (owner_of e) i (event_footprint w.limits posts e) (subst (λ (l : _). list_any (eqb i) (map number (footprint_shards (owner_of e) (event_footprint l posts e))) ≡ true) limits there)

-- Those of a call are known before anything is taken.
pub call-either : (w : ShapeValue) (h : List Event) (c : CallerId) (call : Call) (reply : Reply) (posts : Posts) (i : ℕ) → is_legal w h ≡ true → slice_get (state_after w h).posts c.rank ≡ Some posts
    → list_any (eqb i) (numbers_of (by_ranks w).number (state_after w h) (Called c call reply)) ≡ true → IsEither c.rank (call_other w c call) i
call-either w h c call reply posts i legal at among = event-either w h (Called c call reply) posts i legal at among

-- And each of those is a shard of the event.
first-is : (n i : ℕ) (rest : List ℕ) → i ≡ n → list_any (eqb i) (n ∷ rest) ≡ true
first-is n i rest is = ap (λ (b : Bool). b || list_any (eqb i) rest) (eq-eqb i n is)

or-later : (b c : Bool) → c ≡ true → (b || c) ≡ true
or-later true c is = refl
or-later false c is = is

later-is : (n i : ℕ) (rest : List ℕ) → list_any (eqb i) rest ≡ true → list_any (eqb i) (n ∷ rest) ≡ true
later-is n i rest is = or-later (eqb i n) (list_any (eqb i) rest) is

either-of : (me other i : ℕ) (rest : List ℕ) → list_any (eqb other) rest ≡ true → (i ≡ me) ⊎ (i ≡ other) → list_any (eqb i) (me ∷ rest) ≡ true
either-of me other i rest there (inl is) = first-is me i rest is
either-of me other i rest there (inr is) = later-is me i rest (ap (λ (k : ℕ). list_any (eqb k) rest) is ∙ there)

either-footprint : (ranks me i : ℕ) (footprint : Footprint) → IsEither me (rank_other ranks footprint) i → list_any (eqb i) (map (rank_number ranks) (footprint_shards me footprint)) ≡ true
either-footprint ranks me i Alone is = first-is me i [] is
either-footprint ranks me i OwnMemory is = first-is me i (me ∷ []) is
either-footprint ranks me i (PeerMemory rank) is = either-of me rank i (rank ∷ []) (first-is rank rank [] refl) is
either-footprint ranks me i (BothMemories rank) is = either-of me rank i (me ∷ rank ∷ []) (later-is me rank (rank ∷ []) (first-is rank rank [] refl)) is
either-footprint ranks me i (PeerPosts rank) is = either-of me rank i (rank ∷ []) (first-is rank rank [] refl) is
either-footprint ranks me i (Group id) is = either-of me (ranks + id) i ((ranks + id) ∷ []) (first-is (ranks + id) (ranks + id) [] refl) is
either-footprint ranks me i (GroupAndMemory id) is = either-of me (ranks + id) i (me ∷ (ranks + id) ∷ []) (later-is me (ranks + id) ((ranks + id) ∷ []) (first-is (ranks + id) (ranks + id) [] refl)) is

pub either-event : (w : ShapeValue) (h : List Event) (e : Event) (posts : Posts) (i : ℕ) → is_legal w h ≡ true → slice_get (state_after w h).posts (owner_of e) ≡ Some posts
    → IsEither (owner_of e) (rank_other w.limits.ranks (event_footprint w.limits posts e)) i → list_any (eqb i) (numbers_of (by_ranks w).number (state_after w h) e) ≡ true
either-event w h e posts i legal at is =
    let number = rank_number w.limits.ranks in
    let limits = limits-are w h legal in
    let there : list_any (eqb i) (map number (footprint_shards (owner_of e) (event_footprint (state_after w h).limits posts e))) ≡ true =
    subst (λ (l : _). list_any (eqb i) (map number (footprint_shards (owner_of e) (event_footprint l posts e))) ≡ true) (sym limits) (either-footprint w.limits.ranks (owner_of e) i (event_footprint w.limits posts e) is) in
    let plain : list_any (eqb i) (map number (event_shards (state_after w h) e)) ≡ true = rw at there in
    no-repeats (map number (event_shards (state_after w h) e)) i ∙ plain

-- A call's join has the call's shards.
join-touches : (id : ℕ) (args : Args) → (row_of (joining_call id args)).footprint ≡ join_footprint id args.coll
join-touches id args = go args.coll
  where
    go : (coll : Coll) → (row_of (joining_call id (record { coll = coll; values = args.values }))).footprint ≡ join_footprint id coll
    go colls.Barrier = refl
    go (colls.Allreduce op t k) = refl
    go (colls.Create seg size) = refl
    go (colls.Commit mask) = refl

pub join-other : (w : ShapeValue) (c : CallerId) (id : ℕ) (args : Args) (call : Call) (posts : Posts) → joining_call id args ≡ call → rank_other w.limits.ranks (event_footprint w.limits posts (Joined c id args)) ≡ call_other w c call
join-other w c id args call posts is =
    ap (λ (t : _). rank_other w.limits.ranks (footprint_of w.limits.ranks c.rank t)) (sym (join-touches id args)) ∙ ap (λ (k : Call). call_other w c k) is
