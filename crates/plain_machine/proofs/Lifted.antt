-- The step of the whole state from that of a rank's posts and the memory that is lent.
use Rattle.std.proofs.Common.{◌≡◌, ℕ, ◌+◌, ◌^◌, ◌<◌, true, Option, None, Some, Result, Ok, Err, OnOk, OnErr, length, slice_get, slice_set, refl, sym, ap, subst, ◌∙◌, arith, List}
use Rattle.std.proofs.lemmas.Bool.Decides.{nat_tests}
use Rattle.gaspi_types.specs.CallRows.{row_of}
use Rattle.gaspi_types.specs.Checks.{◌>>=◌, ok_or}
use Rattle.gaspi_types.specs.World.{are_limits}
use Rattle.gaspi_types.specs.declared.calls.Call.{Call}
use Rattle.gaspi_types.specs.declared.events.Event.TheVariants.{Called}
use Rattle.gaspi_types.specs.declared.memory.NoMemory.{NoMemory}
use Rattle.gaspi_types.specs.declared.replies.Reply.{Reply}
use Rattle.gaspi_types.specs.declared.shapes.CallerId.{CallerId}
use Rattle.gaspi_types.specs.declared.shapes.Limits.{Limits}
use Rattle.gaspi_types.specs.declared.footprints.Footprint.{Footprint}
use Rattle.gaspi_types.specs.declared.footprints.Footprint.TheVariants.{PeerPosts}
use Rattle.gaspi_model.specs.Calls.{peer_after}
use Rattle.gaspi_model.specs.Parts.{empty_memory}
use Rattle.gaspi_types.specs.Tables.{changed_at}
use Rattle.gaspi_model.specs.Sound.{IsSoundPosts}
use Rattle.gaspi_model.specs.Step.{step, Steps, call_message}
use Rattle.gaspi_model.specs.Transfers.{PostsAndMemory}
use Rattle.gaspi_model.specs.declared.states.Posts.{Posts}
use Rattle.gaspi_model.specs.declared.states.Memory.{Memory}
use Rattle.gaspi_model.specs.declared.states.State.{State}
use Rattle.gaspi_model.specs.declared.states.StepFault.{StepFault}
use Rattle.gaspi_model.specs.declared.states.StepFault.TheVariants as faults
use Rattle.gaspi_model.specs.declared.states.Why.{Why}
use Rattle.plain_machine.specs.Machine.{used_room_of}
use Rattle.plain_machine.specs.Footprints.{call_footprint, memory_at, with_memory_at, with_peer_at, PostsAndLentMemory, call_lent}
use Rattle.plain_calls.specs.Looks.{recorded_of}
use Rattle.plain_calls.specs.Registrations.{with_registration}
use Rattle.plain_calls.specs.declared.segment_calls.Registration.{Registration}
use Rattle.gaspi_types.proofs.Items.{changed_at-found, set-there, there-within}
use Rattle.plain_machine.proofs.AtFootprints.{called_as}

-- a step on a part, where the whole is made of it
pub lift_steps : {S T : Type 0} (result : Result (Unit {0}) StepFault) (old new : S) (outcome : Result S Why) (s : T) (whole : S → T)
    → whole old ≡ s → Steps result old new outcome → Steps result s (whole new) (outcome >>= (λ w. Ok (whole w)))
lift_steps (Ok done) old new outcome s whole is steps = rw steps refl
lift_steps (Err (faults.Illegal why)) old new outcome s whole is steps = (rw steps.0 refl, ap whole steps.1 ∙ is)
lift_steps (Err faults.NoMemory) old new outcome s whole is steps = ap whole steps ∙ is

-- a step of one rank's posts and a memory, among the posts of all ranks
pub lent_steps : (result : Result (Unit {0}) StepFault) (all : List Posts) (me : ℕ) (p p' : Posts) (m m' : Memory) (why : Why) (local : Posts → Memory → Result PostsAndMemory Why)
    → slice_get all me ≡ Some p → Steps {S = PostsAndMemory} result (record { posts = p; memory = m }) (record { posts = p'; memory = m' }) (local p m)
    → Steps {S = PostsAndLentMemory} result (record { posts = all; memory = m }) (record { posts = slice_set all me p'; memory = m' })
    (ok_or (slice_get all me) why >>= (λ posts. local posts m >>= (λ after. Ok (record { posts = slice_set all me after.posts; memory = after.memory }))))
lent_steps (Ok done) all me p p' m m' why local there steps = rw there rw steps refl
lent_steps (Err (faults.Illegal cause)) all me p p' m m' why local there steps =
    let same_posts = ap (λ (w : PostsAndMemory). w.posts) steps.1 in
    let same_memory = ap (λ (w : PostsAndMemory). w.memory) steps.1 in
    (rw there rw steps.0 refl, rw (same_posts, same_memory) rw (set-there all me p there) refl)
lent_steps (Err faults.NoMemory) all me p p' m m' why local there steps =
    let same_posts = ap (λ (w : PostsAndMemory). w.posts) steps in
    let same_memory = ap (λ (w : PostsAndMemory). w.memory) steps in
    rw (same_posts, same_memory) rw (set-there all me p there) refl

-- a call on the memory that it works on, where it tells no peer
pub called_steps : (s : State) (c : CallerId) (call : Call) (reply : Reply) (footprint : Footprint) (result : Result (Unit {0}) StepFault) (m : Memory) (posts' : List Posts) (m' : Memory)
    → (row_of call).group ≡ None → c.rank < length s.posts → call_footprint s.limits c.rank call ≡ footprint → memory_at s.memories c.rank footprint ≡ m → with_memory_at s.memories c.rank footprint m ≡ s.memories
    → ((change : Posts → Posts) (all : List Posts) → with_peer_at footprint change all ≡ all)
    → Steps {S = PostsAndLentMemory} result (record { posts = s.posts; memory = m }) (record { posts = posts'; memory = m' }) (call_lent s.limits s.posts (call_message s c.rank call) m c call reply)
    → Steps result s (record s { posts = posts'; memories = with_memory_at s.memories c.rank footprint m' }) (step s (Called c call reply))
called_steps s c call reply footprint result m posts' m' plain within is memory kept silent steps =
    let item = there-within s.posts c.rank within in
    let whole : PostsAndLentMemory → State = λ w. record s { posts = with_peer_at footprint (peer_after c.rank item.0 call reply) w.posts; memories = with_memory_at s.memories c.rank footprint w.memory } in
    let is_step : step s (Called c call reply) ≡ (call_lent s.limits s.posts (call_message s c.rank call) m c call reply >>= (λ w. Ok (whole w))) = rw memory at (called_as s c call reply item.0 footprint plain item.1 is) in
    let old : whole (record { posts = s.posts; memory = m }) ≡ s =
    ap (λ (ps : List Posts). record s { posts = ps; memories = with_memory_at s.memories c.rank footprint m }) (silent (peer_after c.rank item.0 call reply) s.posts)
    ∙ ap (λ (ms : List Memory). record s { memories = ms }) kept in
    let new : whole (record { posts = posts'; memory = m' }) ≡ record s { posts = posts'; memories = with_memory_at s.memories c.rank footprint m' } =
    ap (λ (ps : List Posts). record s { posts = ps; memories = with_memory_at s.memories c.rank footprint m' }) (silent (peer_after c.rank item.0 call reply) posts') in
    subst (λ (o : Result State Why). Steps result s (record s { posts = posts'; memories = with_memory_at s.memories c.rank footprint m' }) o) (sym is_step)
    (subst (λ (t : State). Steps result s t (call_lent s.limits s.posts (call_message s c.rank call) m c call reply >>= (λ w. Ok (whole w)))) new
    (lift_steps result (record { posts = s.posts; memory = m }) (record { posts = posts'; memory = m' }) (call_lent s.limits s.posts (call_message s c.rank call) m c call reply) s whole old steps))

-- a call that tells a peer
pub called_telling : (s : State) (c : CallerId) (call : Call) (reply : Reply) (rank : ℕ) (p q q' : Posts) (m m' : Memory) (posts' : List Posts)
    → (row_of call).group ≡ None → slice_get s.posts c.rank ≡ Some p → call_footprint s.limits c.rank call ≡ PeerPosts rank → m ≡ empty_memory → slice_get posts' rank ≡ Some q → q' ≡ peer_after c.rank p call reply q
    → call_lent s.limits s.posts (call_message s c.rank call) m c call reply ≡ Ok (record { posts = posts'; memory = m' })
    → step s (Called c call reply) ≡ Ok (record s { posts = slice_set posts' rank q' })
called_telling s c call reply rank p q q' m m' posts' plain there is none peer_there with_registration steps =
    let lent : call_lent s.limits s.posts (call_message s c.rank call) empty_memory c call reply ≡ Ok (record { posts = posts'; memory = m' }) = rw none at steps in
    called_as s c call reply p (PeerPosts rank) plain there is
    ∙ (ap (λ (r : Result PostsAndLentMemory Why). r >>= (λ w. Ok (record s { posts = changed_at w.posts rank (peer_after c.rank p call reply) }))) lent
    ∙ (ap (λ (ps : List Posts). Ok (record s { posts = ps })) (changed_at-found posts' rank q (peer_after c.rank p call reply) peer_there)
    ∙ ap (λ (x : Posts). Ok (record s { posts = slice_set posts' rank x })) (sym with_registration)))

-- what a peer is told takes no room
pub registered_used : (registration : Option Registration) (peer : Posts) → used_room_of (with_registration registration peer) ≡ used_room_of peer
registered_used None peer = refl
registered_used (Some registration) peer = refl

-- the count of events has room for one more in its 32 bits
pub events_fit : (limits : Limits) (p : Posts) → are_limits limits ≡ true → IsSoundPosts limits p → p.events + 1 < 2 ^ 32
events_fit limits p limited sound = let room = sound.room in grind (arith, nat_tests)

-- and the room that is taken has, too
pub used_fits : (limits : Limits) (p : Posts) (n : ℕ) → are_limits limits ≡ true → IsSoundPosts limits p → n ≡ used_room_of p → n + 1 < 2 ^ 32
used_fits limits p n limited sound is = let room = sound.room in grind (arith, nat_tests)

-- a step that is made, or for which there is no memory
pub ok_recorded : (P : Type 0) (result : Result (Unit {0}) NoMemory) → OnOk result P → OnOk (recorded_of result) P
ok_recorded P (Ok done) h = h
ok_recorded P (Err fault) h = h

pub err_recorded : (P : Type 0) (result : Result (Unit {0}) NoMemory) → OnErr result P → OnErr (recorded_of result) P
err_recorded P (Ok done) h = h
err_recorded P (Err fault) h = h
