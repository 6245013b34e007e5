-- A take and a put in the whole state, from the entry that was found.
use Rattle.std.proofs.Common.{◌≡◌, ℕ, ◌+◌, ◌-◌, ◌<◌, ◌==◌, nat_lt, Bool, true, false, List, [], length, map, Option, None, Some, Result, Ok, Err, IfOk, IsOk, slice_get, slice_set, refl, sym, ap, subst, ◌∙◌, arith}
use Rattle.std.proofs.lemmas.Bool.{eqb-true}
use Rattle.std.proofs.lemmas.Bool.Decides.{nat_tests}
use Rattle.std.specs.Option.{option_map, unwrap_or}
use Rattle.std.proofs.lemmas.List.{map-set}
use Rattle.std.proofs.lemmas.Option.{slice_get_within, slice_get-map}
use Rattle.gaspi_types.specs.Checks.{◌>>=◌, ok_or}
use Rattle.gaspi_types.specs.Lanes.{position_of}
use Rattle.gaspi_types.specs.Footprints.{footprint_of, take_footprint, put_footprint}
use Rattle.gaspi_types.specs.declared.entries.Kind.{Kind}
use Rattle.gaspi_types.specs.declared.entries.Kind.TheVariants.{Write, Read, Notify, ReadNote}
use Rattle.gaspi_types.specs.declared.events.Event.TheVariants.{Take, Put}
use Rattle.gaspi_types.specs.declared.events.Outcome.{Outcome}
use Rattle.gaspi_types.specs.declared.events.Outcome.TheVariants.{Applied, Failed}
use Rattle.gaspi_types.specs.declared.shapes.Limits.{Limits}
use Rattle.gaspi_types.specs.declared.footprints.DeclaredFootprint.{DeclaredFootprint}
use Rattle.gaspi_types.specs.declared.footprints.DeclaredFootprint.TheVariants as touches
use Rattle.gaspi_types.specs.declared.footprints.Footprint.{Footprint}
use Rattle.gaspi_types.specs.declared.footprints.Footprint.TheVariants.{PeerMemory}
use Rattle.gaspi_model.specs.Parts.{empty_memory, memory_or_none}
use Rattle.gaspi_model.specs.State.{owed}
use Rattle.gaspi_types.specs.Tables.{changed_at}
use Rattle.gaspi_model.specs.Step.{step, Steps}
use Rattle.gaspi_model.specs.Transfers.{EntryPosition, find_entry, take_result, outcome_at, take_outcome, put_outcome, memory_after_put, posts_after_take, posts_after_put, PostsAndMemory}
use Rattle.gaspi_model.specs.declared.states.Posts.{Posts}
use Rattle.gaspi_model.specs.declared.states.Memory.{Memory}
use Rattle.gaspi_model.specs.declared.states.State.{State}
use Rattle.gaspi_model.specs.declared.states.StepFault.{StepFault}
use Rattle.gaspi_model.specs.declared.states.StepFault.TheVariants as faults
use Rattle.gaspi_model.specs.declared.states.Why.{Why}
use Rattle.gaspi_model.specs.declared.states.Why.TheVariants as whys
use Rattle.plain_machine.specs.Entries.{outcome_in_memories, memories_after_put, take_result_outcome, IsTakeResult, posts_after_take_result, released_by_take}
use Rattle.plain_machine.specs.declared.transfers.TakeResult.{TakeResult}
use Rattle.plain_machine.specs.declared.transfers.TakeResult.TheVariants.{Bytes}
use Rattle.plain_machine.specs.declared.transfers.TakeResult.TheVariants as taken_is
use Rattle.plain_machine.specs.Machine.{used_room_of, take_event, put_event}
use Rattle.plain_machine.specs.Footprints.{entry_footprint, memory_at, with_memory_at}
use Rattle.plain_machine.specs.declared.nonempty_lanes.LaneId.{LaneId}
use Rattle.plain_machine.proofs.Kept.{spares_of, take_keeps, put_keeps}
use Rattle.plain_machine.proofs.Lifted.{lift_steps}
use Rattle.plain_machine.proofs.Lists.{map_kept}
use Rattle.plain_machine.proofs.AtFootprints.{take_as, put_as, used_back, put_back, memory_peer}
use Rattle.gaspi_types.proofs.Chains.{bind_then, found_there}
use Rattle.gaspi_types.proofs.Items.{changed_at-found}

-- what is found does not turn on the cause that is given where nothing is
found_for : (posts : Posts) (queue target number : ℕ) (why why' : Why) (at : EntryPosition) → find_entry posts queue target number why ≡ Ok at → find_entry posts queue target number why' ≡ Ok at
found_for posts queue target number why why' at is =
    bind_then (ok_or (slice_get posts.queues queue) why) _ _ is (λ q there more.
    bind_then (ok_or (slice_get q.lanes target) why) _ _ more (λ lane in_queue more.
    bind_then (ok_or (position_of lane number) why) _ _ more (λ place at_place more.
    bind_then (ok_or (slice_get lane place) why) _ _ more (λ entry in_lane more.
    rw (found_there (slice_get posts.queues queue) why q there)
    rw (found_there (slice_get q.lanes target) why lane in_queue)
    rw (found_there (position_of lane number) why place at_place)
    rw (found_there (slice_get lane place) why entry in_lane) more))))

reached : (limits : Limits) (origin : ℕ) (declaration : Kind → DeclaredFootprint) (posts : Posts) (queue target number : ℕ) (why : Why) (at : EntryPosition) → find_entry posts queue target number why ≡ Ok at
    → entry_footprint limits origin declaration posts queue target number ≡ footprint_of limits.ranks origin (declaration at.entry.kind)
reached limits origin declaration posts queue target number why at is = rw (found_for posts queue target number why whys.Put at is) refl

-- a change of what is given, and a change of that
two_changes : {A B C : Type 0} (given : Result A Why) (f : A → B) (g : B → C) → ((given >>= (λ x. Ok (f x))) >>= (λ y. Ok (g y))) ≡ (given >>= (λ x. Ok (g (f x))))
two_changes (Ok x) f g = refl
two_changes (Err why) f g = refl

pub take_found : (s : State) (origin queue target number : ℕ) (outcome : Outcome) (p : Posts) (at : EntryPosition) (m : Memory) → slice_get s.posts origin ≡ Some p
    → find_entry p queue target number whys.Take ≡ Ok at → m ≡ memory_at s.memories origin (footprint_of s.limits.ranks origin (take_footprint target at.entry.kind))
    → step s (Take origin queue target number outcome)
    ≡ (take_result s.limits m at outcome >>= (λ bytes. Ok (record s { posts = slice_set s.posts origin (posts_after_take p queue target at.position bytes outcome) })))
take_found s origin queue target number outcome p at m there is memory =
    rw memory
    (take_as s origin queue target number outcome p _ there (reached s.limits origin (take_footprint target) p queue target number whys.Take at is)
    ∙ rw is (two_changes (take_result s.limits (memory_at s.memories origin (footprint_of s.limits.ranks origin (take_footprint target at.entry.kind))) at outcome)
    (λ bytes. posts_after_take p queue target at.position bytes outcome) (λ after. record s { posts = slice_set s.posts origin after })))

put_found : (s : State) (origin queue target number : ℕ) (outcome : Outcome) (p : Posts) (at : EntryPosition) (footprint : Footprint) → slice_get s.posts origin ≡ Some p
    → find_entry p queue target number whys.Put ≡ Ok at → footprint ≡ footprint_of s.limits.ranks origin (put_footprint target at.entry.kind)
    → step s (Put origin queue target number outcome)
    ≡ (memories_after_put s.memories origin footprint at outcome >>= (λ memories. Ok (record s { posts = slice_set s.posts origin (posts_after_put p queue target at.position outcome); memories = memories })))
put_found s origin queue target number outcome p at footprint there is reached_it =
    let given : Result Memory Why = memory_after_put (memory_at s.memories origin footprint) at outcome in
    let after : Posts = posts_after_put p queue target at.position outcome in
    put_as s origin queue target number outcome p footprint there (reached s.limits origin (put_footprint target) p queue target number whys.Put at is ∙ sym reached_it)
    ∙ rw is (two_changes {B = PostsAndMemory} given (λ memory. record { posts = after; memory = memory })
    (λ w. record s { posts = slice_set s.posts origin w.posts; memories = with_memory_at s.memories origin footprint w.memory })
    ∙ sym (two_changes given (λ memory. with_memory_at s.memories origin footprint memory) (λ memories. record s { posts = slice_set s.posts origin after; memories = memories })))

-- in a state with a memory for each rank, a put reaches the memory of its target
memory_named : (memories : List Memory) (ranks me target : ℕ) → length memories ≡ ranks → memory_at memories me (footprint_of ranks me (touches.MemoryOf target)) ≡ memory_or_none (slice_get memories target)
memory_named memories ranks me target all = by_tests (target == me) (nat_lt target ranks) refl refl
  where
    by_item : (o : Option Memory) → slice_get memories target ≡ o → nat_lt target ranks ≡ false → empty_memory ≡ memory_or_none (slice_get memories target)
    by_item None there far = rw there refl
    by_item (Some m) there far = let within = slice_get_within memories target m there in absurd (let no : ⊥ = grind (arith, nat_tests) in no)

    by_tests : (same less : Bool) → (target == me) ≡ same → nat_lt target ranks ≡ less → memory_at memories me (footprint_of ranks me (touches.MemoryOf target)) ≡ memory_or_none (slice_get memories target)
    by_tests true less a b = rw a (ap (λ (n : ℕ). memory_or_none (slice_get memories n)) (sym (eqb-true target me a)))
    by_tests false true a b = rw (a, b) refl
    by_tests false false a b = rw (a, b) (by_item (slice_get memories target) refl b)

-- so the machine's outcome is that on the memory of the target, also where a transfer reaches another one
take_outcome_named : (memories : List Memory) (ranks me target : ℕ) (kind : Kind) → length memories ≡ ranks
    → take_outcome (memory_at memories me (footprint_of ranks me (take_footprint target kind))) kind ≡ take_outcome (memory_or_none (slice_get memories target)) kind
take_outcome_named memories ranks me target (Write own to) all = refl
take_outcome_named memories ranks me target (Read own to) all = ap (λ (m : Memory). outcome_at m to.segment to.generation) (memory_named memories ranks me target all)
take_outcome_named memories ranks me target (Notify to value) all = refl
take_outcome_named memories ranks me target (ReadNote own) all = refl

put_outcome_named : (memories : List Memory) (ranks me target : ℕ) (kind : Kind) → length memories ≡ ranks
    → put_outcome (memory_at memories me (footprint_of ranks me (put_footprint target kind))) kind ≡ put_outcome (memory_or_none (slice_get memories target)) kind
put_outcome_named memories ranks me target (Write own to) all = ap (λ (m : Memory). outcome_at m to.segment to.generation) (memory_named memories ranks me target all)
put_outcome_named memories ranks me target (Read own to) all = refl
put_outcome_named memories ranks me target (Notify to value) all = ap (λ (m : Memory). outcome_at m to.segment to.generation) (memory_named memories ranks me target all)
put_outcome_named memories ranks me target (ReadNote own) all = refl

-- the event of the take, and of the put, of an entry that was found
pub take_event_found : (s : State) (id : LaneId) (number : ℕ) (given : Option Outcome) (p : Posts) (at : EntryPosition) (m : Memory) → length s.memories ≡ s.limits.ranks → slice_get s.posts id.origin ≡ Some p
    → find_entry p id.queue id.target number whys.Take ≡ Ok at → m ≡ memory_at s.memories id.origin (footprint_of s.limits.ranks id.origin (take_footprint id.target at.entry.kind))
    → take_event s id number given ≡ Take id.origin id.queue id.target number (unwrap_or given (take_outcome m at.entry.kind))
take_event_found s id number (Some outcome) p at m all there is reached_it = refl
take_event_found s id number None p at m all there is reached_it =
    rw (there, found_for p id.queue id.target number whys.Take whys.Put at is)
    (ap (Take id.origin id.queue id.target number) (sym (ap (λ (x : Memory). take_outcome x at.entry.kind) reached_it ∙ take_outcome_named s.memories s.limits.ranks id.origin id.target at.entry.kind all)))

pub event_found : (s : State) (id : LaneId) (number : ℕ) (given : Option Outcome) (p : Posts) (at : EntryPosition) (footprint : Footprint) → length s.memories ≡ s.limits.ranks → slice_get s.posts id.origin ≡ Some p
    → find_entry p id.queue id.target number whys.Put ≡ Ok at → footprint ≡ footprint_of s.limits.ranks id.origin (put_footprint id.target at.entry.kind)
    → put_event s id number given ≡ Put id.origin id.queue id.target number (outcome_in_memories given s.memories id.origin footprint at)
event_found s id number (Some outcome) p at footprint all there is reached_it = refl
event_found s id number None p at footprint all there is reached_it =
    rw (there, is)
    (ap (Put id.origin id.queue id.target number)
    (sym (ap (λ (r : Footprint). put_outcome (memory_at s.memories id.origin r) at.entry.kind) reached_it ∙ put_outcome_named s.memories s.limits.ranks id.origin id.target at.entry.kind all)))

-- the put into the memory that is reached, among all memories
pub put_has_footprint : (memories : List Memory) (me : ℕ) (footprint : Footprint) (at : EntryPosition) (given : Option Outcome) (result : Result (Unit {0}) StepFault) (m m' : Memory)
    → memory_at memories me footprint ≡ m → with_memory_at memories me footprint m ≡ memories → Steps {S = Memory} result m m' (memory_after_put m at (unwrap_or given (put_outcome m at.entry.kind)))
    → Steps {S = List Memory} result memories (with_memory_at memories me footprint m') (memories_after_put memories me footprint at (outcome_in_memories given memories me footprint at))
put_has_footprint memories me footprint at given result m m' memory kept steps =
    rw memory (lift_steps {S = Memory} {T = List Memory} result m m' (memory_after_put m at (unwrap_or given (put_outcome m at.entry.kind))) memories (λ w. with_memory_at memories me footprint w) kept steps)

pub outcome_has_footprint : (memories : List Memory) (me : ℕ) (footprint : Footprint) (at : EntryPosition) (given : Option Outcome) (result : Result Outcome StepFault) (m : Memory)
    → memory_at memories me footprint ≡ m → IfOk result (λ outcome. outcome ≡ unwrap_or given (put_outcome m at.entry.kind)) → IfOk result (λ outcome. outcome ≡ outcome_in_memories given memories me footprint at)
outcome_has_footprint memories me footprint at given result m memory is = rw memory is

pub peer_within : (ranks me : ℕ) (declaration : DeclaredFootprint) (n rank : ℕ) → ranks ≡ n → footprint_of ranks me declaration ≡ PeerMemory rank → rank < n
peer_within ranks me declaration n rank same is = subst (λ (k : ℕ). rank < k) same (memory_peer ranks me rank declaration is).within

-- a step that is not made where what is given is none
pub steps_fault : {A : Type 0} (fault : StepFault) (old new : A) (s : State) (whole : A → State) (given : Result A Why) (f : A → Result State Why) (outcome : Result State Why) → outcome ≡ (given >>= f)
    → whole old ≡ s → Steps (Err fault) old new given → Steps (Err fault) s (whole new) outcome
steps_fault (faults.Illegal why) old new s whole given f outcome is was steps = (is ∙ rw steps.0 refl, ap whole steps.1 ∙ was)
steps_fault faults.NoMemory old new s whole given f outcome is was steps = ap whole steps ∙ was

-- a number of a list less one
less_at : (f : Posts → ℕ) (table : List Posts) (place : ℕ) (old new : Posts) → slice_get table place ≡ Some old → f new + 1 ≡ f old → map f (slice_set table place new) ≡ changed_at (map f table) place (λ n. n - 1)
less_at f table place old new there less =
    let mapped : slice_get (map f table) place ≡ Some (f old) = slice_get-map f table place ∙ ap (option_map f) there in
    map-set f table place new ∙ (let one : f new ≡ f old - 1 = omega (arith, less) in ap (slice_set (map f table) place) one) ∙ sym (changed_at-found (map f table) place (f old) (λ n. n - 1) mapped)

-- a put keeps the room that its origin has taken, and so does a take, but for what is spared
pub take_used : (s t : State) (origin queue target number : ℕ) (outcome : Outcome) → step s (Take origin queue target number outcome) ≡ Ok t → map used_room_of t.posts ≡ released_by_take (map used_room_of s.posts) origin outcome
take_used s t origin queue target number outcome is =
    let b = used_back s t origin queue target number outcome is in
    ap (λ (x : State). map used_room_of x.posts) (sym b.is) ∙ by_outcome outcome b.p b.after b.there (take_keeps s.limits b.p b.memory queue target number outcome b.after b.steps).used
  where
    by_outcome : (outcome : Outcome) (p after : Posts) → slice_get s.posts origin ≡ Some p → after.events + owed after + spares_of outcome ≡ p.events + owed p
        → map used_room_of (slice_set s.posts origin after) ≡ released_by_take (map used_room_of s.posts) origin outcome
    by_outcome Applied p after there kept = map_kept used_room_of s.posts origin p after there (omega (arith, kept))
    by_outcome Failed p after there kept = less_at used_room_of s.posts origin p after there kept

pub put_keeps_used : (s t : State) (origin queue target number : ℕ) (outcome : Outcome) → step s (Put origin queue target number outcome) ≡ Ok t → map used_room_of t.posts ≡ map used_room_of s.posts
put_keeps_used s t origin queue target number outcome is =
    let b = put_back s t origin queue target number outcome is in
    ap (map used_room_of) (sym b.posts)
    ∙ map_kept used_room_of s.posts origin b.p b.after.posts b.there (let kept = (put_keeps b.p b.memory queue target number outcome b.after b.steps).used in omega (arith, kept))

-- a take and a put that are made
pub take_done : (s : State) (id : LaneId) (number : ℕ) (given : Option Outcome) (p p' : Posts) (at : EntryPosition) (m : Memory) (taken : TakeResult) → length s.memories ≡ s.limits.ranks → slice_get s.posts id.origin ≡ Some p
    → find_entry p id.queue id.target number whys.Take ≡ Ok at → m ≡ memory_at s.memories id.origin (footprint_of s.limits.ranks id.origin (take_footprint id.target at.entry.kind))
    → take_result_outcome taken ≡ unwrap_or given (take_outcome m at.entry.kind) → IsTakeResult (Ok taken) (take_result s.limits m at (unwrap_or given (take_outcome m at.entry.kind)))
    → p' ≡ posts_after_take_result p id.queue id.target at.position taken → step s (take_event s id number given) ≡ Ok (record s { posts = slice_set s.posts id.origin p' })
take_done s id number given p p' at m taken all there is memory made gives after =
    ap (step s) (take_event_found s id number given p at m all there is memory ∙ ap (Take id.origin id.queue id.target number) (sym made))
    ∙ (take_found s id.origin id.queue id.target number (take_result_outcome taken) p at m there is memory
    ∙ (by_taken taken (subst (λ (o : Outcome). IsTakeResult (Ok taken) (take_result s.limits m at o)) (sym made) gives)
    ∙ ap (λ (q : Posts). Ok (record s { posts = slice_set s.posts id.origin q })) (sym after)))
  where
    failed : (r : Result (List ℕ) Why) → IsOk r
        → (r >>= (λ bytes. Ok (record s { posts = slice_set s.posts id.origin (posts_after_take p id.queue id.target at.position bytes Failed) })))
        ≡ Ok (record s { posts = slice_set s.posts id.origin (posts_after_take p id.queue id.target at.position [] Failed) })
    failed (Ok bytes) made = refl
    failed (Err why) made = absurd (let no : ⊥ = cc in no)

    by_taken : (taken : TakeResult) → IsTakeResult (Ok taken) (take_result s.limits m at (take_result_outcome taken))
        → (take_result s.limits m at (take_result_outcome taken) >>= (λ bytes. Ok (record s { posts = slice_set s.posts id.origin (posts_after_take p id.queue id.target at.position bytes (take_result_outcome taken)) })))
        ≡ Ok (record s { posts = slice_set s.posts id.origin (posts_after_take_result p id.queue id.target at.position taken) })
    by_taken (Bytes bytes) gives = rw gives refl
    by_taken taken_is.Failed gives = failed (take_result s.limits m at Failed) gives

-- one that gives nothing changes nothing
pub take_fault : (s : State) (id : LaneId) (number : ℕ) (given : Option Outcome) (p : Posts) (at : EntryPosition) (m : Memory) (fault : StepFault) → length s.memories ≡ s.limits.ranks → slice_get s.posts id.origin ≡ Some p
    → find_entry p id.queue id.target number whys.Take ≡ Ok at → m ≡ memory_at s.memories id.origin (footprint_of s.limits.ranks id.origin (take_footprint id.target at.entry.kind))
    → IsTakeResult (Err fault) (take_result s.limits m at (unwrap_or given (take_outcome m at.entry.kind))) → Steps (Err fault) s s (step s (take_event s id number given))
take_fault s id number given p at m (faults.Illegal why) all there is memory gives = (
  ap (step s) (take_event_found s id number given p at m all there is memory)
      ∙ (take_found s id.origin id.queue id.target number (unwrap_or given (take_outcome m at.entry.kind)) p at m there is memory ∙ rw gives refl),
  refl,
)
take_fault s id number given p at m faults.NoMemory all there is memory gives = refl

pub put_done : (s : State) (id : LaneId) (number : ℕ) (given : Option Outcome) (outcome : Outcome) (p p' : Posts) (at : EntryPosition) (footprint : Footprint) (memories' : List Memory) → length s.memories ≡ s.limits.ranks
    → slice_get s.posts id.origin ≡ Some p → find_entry p id.queue id.target number whys.Put ≡ Ok at → footprint ≡ footprint_of s.limits.ranks id.origin (put_footprint id.target at.entry.kind)
    → outcome ≡ outcome_in_memories given s.memories id.origin footprint at → memories_after_put s.memories id.origin footprint at (outcome_in_memories given s.memories id.origin footprint at) ≡ Ok memories'
    → p' ≡ posts_after_put p id.queue id.target at.position outcome → step s (put_event s id number given) ≡ Ok (record s { posts = slice_set s.posts id.origin p'; memories = memories' })
put_done s id number given outcome p p' at footprint memories' all there is reached_it made left after =
    ap (step s) (event_found s id number given p at footprint all there is reached_it ∙ ap (Put id.origin id.queue id.target number) (sym made))
    ∙ (put_found s id.origin id.queue id.target number outcome p at footprint there is reached_it
    ∙ (ap (λ (r : Result (List Memory) Why). r >>= (λ memories. Ok (record s { posts = slice_set s.posts id.origin (posts_after_put p id.queue id.target at.position outcome); memories = memories })))
    (ap (memories_after_put s.memories id.origin footprint at) made ∙ left)
    ∙ ap (λ (q : Posts). Ok (record s { posts = slice_set s.posts id.origin q; memories = memories' })) (sym after)))

-- one whose put is none changes nothing
pub put_fault : (s : State) (id : LaneId) (number : ℕ) (given : Option Outcome) (p : Posts) (at : EntryPosition) (footprint : Footprint) (memories' : List Memory) (fault : StepFault) → length s.memories ≡ s.limits.ranks
    → slice_get s.posts id.origin ≡ Some p → find_entry p id.queue id.target number whys.Put ≡ Ok at → footprint ≡ footprint_of s.limits.ranks id.origin (put_footprint id.target at.entry.kind)
    → Steps {S = List Memory} (Err fault) s.memories memories' (memories_after_put s.memories id.origin footprint at (outcome_in_memories given s.memories id.origin footprint at))
    → Steps (Err fault) s (record s { memories = memories' }) (step s (put_event s id number given))
put_fault s id number given p at footprint memories' fault all there is reached_it steps =
    let outcome : Outcome = outcome_in_memories given s.memories id.origin footprint at in
    steps_fault {A = List Memory} fault s.memories memories' s (λ ms. record s { memories = ms }) (memories_after_put s.memories id.origin footprint at outcome)
    (λ memories. Ok (record s { posts = slice_set s.posts id.origin (posts_after_put p id.queue id.target at.position outcome); memories = memories })) (step s (put_event s id number given))
    (ap (step s) (event_found s id number given p at footprint all there is reached_it) ∙ put_found s id.origin id.queue id.target number outcome p at footprint there is reached_it) refl steps
