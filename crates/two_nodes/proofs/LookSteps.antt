-- What a look at a call leaves of a state.
use Rattle.std.proofs.Common.{◌≡◌, ℕ, ◌+◌, inl, inr, false, List, [], ◌∷◌, length, Option, None, Some, Result, Ok, Err, IsOk, refl, sym, ap, ◌∙◌}
use Rattle.gaspi_types.specs.CallRows.{row_of}
use Rattle.gaspi_types.specs.Footprints.{footprint_of}
use Rattle.gaspi_types.specs.declared.calls.Call.{Call}
use Rattle.gaspi_types.specs.declared.collectives.Coll.{Coll}
use Rattle.gaspi_types.specs.declared.collectives.Coll.TheVariants as colls
use Rattle.gaspi_types.specs.declared.events.Event.{Event}
use Rattle.gaspi_types.specs.declared.events.Event.TheVariants.{Called}
use Rattle.gaspi_types.specs.declared.groups.Args.{Args}
use Rattle.gaspi_types.specs.declared.replies.Ready.TheVariants.{Join}
use Rattle.gaspi_types.specs.declared.replies.Reply.{Reply}
use Rattle.gaspi_types.specs.declared.shapes.CallerId.{CallerId}
use Rattle.gaspi_types.specs.declared.shapes.Limits.{Limits}
use Rattle.gaspi_types.specs.declared.footprints.DeclaredFootprint.{DeclaredFootprint}
use Rattle.gaspi_types.proofs.Chains.{found_then}
use Rattle.gaspi_model.specs.CollectiveCalls.{joining_call, group_of, join_event}
use Rattle.gaspi_model.specs.Shards.{AgreeOnShard, is_shard, footprint_shards}
use Rattle.gaspi_model.specs.Sound.{IsSound, events_left}
use Rattle.gaspi_model.specs.Step.{step, after, cause_without_owner, answer_in, join_footprint}
use Rattle.gaspi_model.specs.declared.states.Shard.{Shard}
use Rattle.gaspi_model.specs.declared.states.Shard.TheVariants as shards
use Rattle.gaspi_model.specs.declared.states.State.{State}
use Rattle.gaspi_model.proofs.Histories.{after-first, after-joined, after-limits}
use Rattle.gaspi_model.proofs.HistoryLengths.{left-after}
use Rattle.gaspi_model.proofs.Listed.Joining.{joins-itself}
use Rattle.gaspi_model.proofs.Local.Steps.{frame}
use Rattle.gaspi_model.proofs.Recordable.{join-group}
use Rattle.gaspi_model.proofs.Sound.Steps.{steps}
use Rattle.std.specs.List.{slice_get}
use Rattle.two_nodes.specs.Looks.{MayHaveJoined, IsTold, IsLooked, Looks}
use Rattle.two_nodes.specs.declared.stops.CallStop.{CallStop}
use Rattle.two_nodes.specs.declared.stops.CallStop.TheVariants.{NoMemory, EventLimit}

pub ok-of : {A E : Type 0} (r : Result A E) → IsOk r → (x : A) × (r ≡ Ok x)
ok-of (Ok x) h = (x, refl)
ok-of (Err e) h = absurd (let no : ⊥ = cc in no)

-- The events of a look lead from the state to that after it.
joined-after : (s t : State) (c : CallerId) (call : Call) (joins : List Event) → MayHaveJoined s c call joins t → after s joins ≡ Ok t
joined-after s t c call joins (inl none) = rw none.0 (ap (λ (x : State). Ok x) (sym none.1))
joined-after s t c call joins (inr one) = rw (one.1, one.3) refl

answered-after : (s t : State) (c : CallerId) (call : Call) (told : Option Reply) (calls : List Event) → IsTold s c call told calls t → after s calls ≡ Ok t
answered-after s t c call (Some reply) calls is = rw (is.0, is.2) refl
answered-after s t c call None calls is = rw is.0 (ap (λ (x : State). Ok x) (sym is.2))

looked-after : (s t : State) (c : CallerId) (call : Call) (told : Option Reply) (events : List Event) → IsLooked s c call told events t → after s events ≡ Ok t
looked-after s t c call told events is =
    rw is.events_are (after-joined s is.between is.joins is.calls (joined-after s is.between c call is.joins is.joined) ∙ answered-after is.between t c call told is.calls is.told_as)

pub looks-after : (s t : State) (c : CallerId) (call : Call) (r : Result (Option Reply) CallStop) (events : List Event) → Looks s c call r events t → after s events ≡ Ok t
looks-after s t c call (Ok told) events is = looked-after s t c call told events is
looks-after s t c call (Err EventLimit) events is = rw is.1 (ap (λ (x : State). Ok x) (sym is.2))
looks-after s t c call (Err NoMemory) events is = rw is.1 (ap (λ (x : State). Ok x) (sym is.2))

-- A state after events of a sound one is sound, with the same limits, and has as many events less to come.
after-sound : (s t : State) (events : List Event) → IsSound s → after s events ≡ Ok t → IsSound t
after-sound s t [] sound h = (let same : s ≡ t = cc in rw (sym same) sound)
after-sound s t (e ∷ events) sound h =
    let first = after-first s t e events h in
    after-sound first.0 t events (steps s first.0 e sound first.1) first.2

pub looks-sound : (s t : State) (c : CallerId) (call : Call) (r : Result (Option Reply) CallStop) (events : List Event) → IsSound s → Looks s c call r events t → IsSound t
looks-sound s t c call r events sound is = after-sound s t events sound (looks-after s t c call r events is)

pub looks-limits : (s t : State) (c : CallerId) (call : Call) (r : Result (Option Reply) CallStop) (events : List Event) → Looks s c call r events t → t.limits ≡ s.limits
looks-limits s t c call r events is = after-limits s t events (looks-after s t c call r events is)

pub looks-counted : (s t : State) (c : CallerId) (call : Call) (r : Result (Option Reply) CallStop) (events : List Event) → IsSound s → Looks s c call r events t
    → events_left t + length events ≡ events_left s
looks-counted s t c call r events sound is = left-after s t events sound (looks-after s t c call r events is)

-- A join touches what its call touches.
joining-footprint : (id : ℕ) (args : Args) → (row_of (joining_call id args)).footprint ≡ join_footprint id args.coll
joining-footprint id args = go args.coll
  where
    go : (coll : Coll) → (row_of (joining_call id (record { coll = coll; values = args.values }))).footprint ≡ join_footprint id coll
    go colls.Barrier = refl
    go (colls.Allreduce op t n) = refl
    go (colls.Create seg size) = refl
    go (colls.Commit mask) = refl

pub join-named : (s : State) (c : CallerId) (call : Call) (args : Args) → answer_in s c.rank c.thread call ≡ Some (Join args) → (row_of call).group ≡ Some (group_of call)
join-named s c call args is =
    let group = join-group s c.rank c.thread call args is in
    let same : group_of call ≡ group.0 = rw group.1 refl in
    group.1 ∙ ap (λ (n : ℕ). Some n) (sym same)

pub join-itself : (s : State) (c : CallerId) (call : Call) (args : Args) → answer_in s c.rank c.thread call ≡ Some (Join args) → joining_call (group_of call) args ≡ call
join-itself s c call args is = joins-itself s c.rank c.thread (group_of call) call args (join-named s c call args is) is

pub join-touches : (s : State) (c : CallerId) (call : Call) (args : Args) → answer_in s c.rank c.thread call ≡ Some (Join args) → join_footprint (group_of call) args.coll ≡ (row_of call).footprint
join-touches s c call args is = sym (joining-footprint (group_of call) args) ∙ ap (λ (x : Call). (row_of x).footprint) (join-itself s c call args is)

-- What a call does not reach stays as it was.
called-frame : (s t : State) (c : CallerId) (call : Call) (reply : Reply) (shard : Shard) → step s (Called c call reply) ≡ Ok t
    → is_shard (footprint_shards c.rank (footprint_of s.limits.ranks c.rank (row_of call).footprint)) shard ≡ false → AgreeOnShard t s shard
called-frame s t c call reply shard h out =
    found_then (slice_get s.posts c.rank) (cause_without_owner (Called c call reply)) _ t h (λ posts at rest. frame s t (Called c call reply) shard h (rw at out))

joined-frame : (s t : State) (c : CallerId) (call : Call) (args : Args) (shard : Shard) → step s (join_event c call args) ≡ Ok t → join_footprint (group_of call) args.coll ≡ (row_of call).footprint
    → is_shard (footprint_shards c.rank (footprint_of s.limits.ranks c.rank (row_of call).footprint)) shard ≡ false → AgreeOnShard t s shard
joined-frame s t c call args shard h declaration out =
    let same : is_shard (footprint_shards c.rank (footprint_of s.limits.ranks c.rank (join_footprint (group_of call) args.coll))) shard ≡ false =
    ap (λ (x : DeclaredFootprint). is_shard (footprint_shards c.rank (footprint_of s.limits.ranks c.rank x)) shard) declaration ∙ out in
    found_then (slice_get s.posts c.rank) (cause_without_owner (join_event c call args)) _ t h (λ posts at rest. frame s t (join_event c call args) shard h (rw at same))

part-itself : (s t : State) (shard : Shard) → t ≡ s → AgreeOnShard t s shard
part-itself s t (shards.Posts rank) is = ap (λ (x : State). slice_get x.posts rank) is
part-itself s t (shards.Memory rank) is = ap (λ (x : State). slice_get x.memories rank) is
part-itself s t (shards.Group id) is = ap (λ (x : State). slice_get x.groups id) is

part-chain : (s t u : State) (shard : Shard) → AgreeOnShard u t shard → AgreeOnShard t s shard → AgreeOnShard u s shard
part-chain s t u (shards.Posts rank) a b = a ∙ b
part-chain s t u (shards.Memory rank) a b = a ∙ b
part-chain s t u (shards.Group id) a b = a ∙ b

answered-frame : (s t : State) (c : CallerId) (call : Call) (told : Option Reply) (calls : List Event) (shard : Shard) → IsTold s c call told calls t
    → is_shard (footprint_shards c.rank (footprint_of s.limits.ranks c.rank (row_of call).footprint)) shard ≡ false → AgreeOnShard t s shard
answered-frame s t c call (Some reply) calls shard is out = called-frame s t c call reply shard is.2 out
answered-frame s t c call None calls shard is out = part-itself s t shard is.2

join-frame : (s t : State) (c : CallerId) (call : Call) (joins : List Event) (shard : Shard) → MayHaveJoined s c call joins t
    → is_shard (footprint_shards c.rank (footprint_of s.limits.ranks c.rank (row_of call).footprint)) shard ≡ false → AgreeOnShard t s shard
join-frame s t c call joins shard (inl none) out = part-itself s t shard none.1
join-frame s t c call joins shard (inr one) out = joined-frame s t c call one.0 shard one.3 (join-touches s c call one.0 one.2) out

looked-frame : (s t : State) (c : CallerId) (call : Call) (told : Option Reply) (events : List Event) (shard : Shard) → IsLooked s c call told events t
    → is_shard (footprint_shards c.rank (footprint_of s.limits.ranks c.rank (row_of call).footprint)) shard ≡ false → AgreeOnShard t s shard
looked-frame s t c call told events shard is out =
    let kept = after-limits s is.between is.joins (joined-after s is.between c call is.joins is.joined) in
    let ranks : is.between.limits.ranks ≡ s.limits.ranks = ap (λ (l : Limits). l.ranks) kept in
    part-chain s is.between t shard
    (answered-frame is.between t c call told is.calls shard is.told_as (ap (λ (n : ℕ). is_shard (footprint_shards c.rank (footprint_of n c.rank (row_of call).footprint)) shard) ranks ∙ out))
    (join-frame s is.between c call is.joins shard is.joined out)

pub looks-frame : (s t : State) (c : CallerId) (call : Call) (r : Result (Option Reply) CallStop) (events : List Event) (shard : Shard) → Looks s c call r events t
    → is_shard (footprint_shards c.rank (footprint_of s.limits.ranks c.rank (row_of call).footprint)) shard ≡ false → AgreeOnShard t s shard
looks-frame s t c call (Ok told) events shard is out = looked-frame s t c call told events shard is out
looks-frame s t c call (Err EventLimit) events shard is out = part-itself s t shard is.2
looks-frame s t c call (Err NoMemory) events shard is out = part-itself s t shard is.2
