-- A collective that is answered, and a join, in the whole state; and which calls are none.
use Rattle.std.proofs.Common.{◌≡◌, ℕ, Bool, true, false, nat_lt, List, length, Option, None, Some, Result, Ok, Err, OnOk, OnErr, slice_get, slice_set, refl, sym, ap, subst, ◌∙◌}
use Rattle.std.proofs.lemmas.List.{length-set}
use Rattle.gaspi_types.specs.CallRows.{row_of}
use Rattle.gaspi_types.specs.Checks.{◌>>=◌}
use Rattle.gaspi_types.specs.Replies.{is_idle, same_reply}
use Rattle.gaspi_types.specs.Footprints.{footprint_of}
use Rattle.gaspi_types.specs.declared.call_rows.Posting.{Posting}
use Rattle.gaspi_types.specs.declared.calls.Call.{Call}
use Rattle.gaspi_types.specs.declared.calls.Call.TheVariants as calls
use Rattle.gaspi_types.specs.declared.collectives.Coll.{Coll}
use Rattle.gaspi_types.specs.declared.collectives.Coll.TheVariants as colls
use Rattle.gaspi_types.specs.declared.events.Event.TheVariants.{Called, Joined}
use Rattle.gaspi_types.specs.declared.groups.Args.{Args}
use Rattle.gaspi_types.specs.declared.groups.Group as groups
use Rattle.gaspi_types.specs.declared.replies.Refusal.{Refusal}
use Rattle.gaspi_types.specs.declared.replies.Reply.{Reply}
use Rattle.gaspi_types.specs.declared.shapes.CallerId.{CallerId}
use Rattle.gaspi_types.specs.declared.shapes.Limits.{Limits}
use Rattle.gaspi_types.specs.declared.footprints.Footprint.{Footprint}
use Rattle.gaspi_types.specs.declared.footprints.Footprint.TheVariants.{Alone, OwnMemory, PeerMemory, BothMemories, PeerPosts, Group, GroupAndMemory}
use Rattle.gaspi_types.specs.declared.footprints.DeclaredFootprint.{DeclaredFootprint}
use Rattle.gaspi_types.proofs.Items.{set-there}
use Rattle.gaspi_model.specs.Calls.{answer, call_result, answer_of_result, recorded_reply}
use Rattle.gaspi_model.specs.CollectiveCalls.{is_reply_of, made_memory}
use Rattle.gaspi_model.specs.Parts.{Parts, PartNumbers, group_or_none, parts_of, with_parts, part_numbers, accessed_memory, with_accessed_memory}
use Rattle.gaspi_model.specs.State.{thread_at, is_running}
use Rattle.gaspi_model.specs.Step.{step, Steps, PostsAndGroup, completed, joined, join_footprint, group_in}
use Rattle.gaspi_model.specs.declared.states.Posts.{Posts}
use Rattle.gaspi_model.specs.declared.states.Memory.{Memory}
use Rattle.gaspi_model.specs.declared.states.State.{State}
use Rattle.gaspi_model.specs.declared.states.StepFault.{StepFault}
use Rattle.gaspi_model.specs.declared.states.StepFault.TheVariants as faults
use Rattle.gaspi_model.specs.declared.states.Why.{Why}
use Rattle.gaspi_model.proofs.GroupSteps.{IsOnGroup, with_group_at, group-same, collective-footprint, join-footprint, group-on_memory, lifted-group, lifted-unwritten, step-completed, step-joined}
use Rattle.gaspi_model.proofs.Made.{memories_at}
use Rattle.plain_calls.specs.NumberBounds.{purged_queue}
use Rattle.plain_machine.specs.NonemptyLanes.{event_lane, event_purge}
use Rattle.plain_machine.proofs.Lifted.{lift_steps}

-- A collective posts nothing and purges nothing.

pub on_group_still : (call : Call) (id : ℕ) → (row_of call).group ≡ Some id → ((row_of call).posting ≡ None) × (purged_queue call ≡ None)
on_group_still (calls.Commit call) id named = (refl, refl)
on_group_still (calls.Barrier call) id named = (refl, refl)
on_group_still (calls.Allreduce call) id named = (refl, refl)
on_group_still (calls.Create call) id named = (refl, refl)
on_group_still other id named = absurd (let no : ⊥ = cc in no)

pub posts_plain : (call : Call) (posting : Posting) → (row_of call).posting ≡ Some posting → (row_of call).group ≡ None
posts_plain call posting posts = by_group (row_of call).group refl
  where
    by_group : (o : Option ℕ) → (row_of call).group ≡ o → (row_of call).group ≡ None
    by_group None plain = plain
    by_group (Some id) named = absurd (let still = (on_group_still call id named).0 in let no : ⊥ = cc in no)

pub purges_plain : (call : Call) (queue : ℕ) → purged_queue call ≡ Some queue → (row_of call).group ≡ None
purges_plain call queue purges = by_group (row_of call).group refl
  where
    by_group : (o : Option ℕ) → (row_of call).group ≡ o → (row_of call).group ≡ None
    by_group None plain = plain
    by_group (Some id) named = absurd (let still = (on_group_still call id named).1 in let no : ⊥ = cc in no)

-- so it names no lane
pub on_group_quiet : (c : CallerId) (call : Call) (reply : Reply) (id : ℕ) → (row_of call).group ≡ Some id → (event_lane (Called c call reply) ≡ None) × (event_purge (Called c call reply) ≡ None)
on_group_quiet c call reply id named = by_idle (is_idle reply) refl
  where
    by_idle : (idle : Bool) → is_idle reply ≡ idle → (event_lane (Called c call reply) ≡ None) × (event_purge (Called c call reply) ≡ None)
    by_idle true idle = (rw idle refl, rw idle refl)
    by_idle false busy = let still = on_group_still call id named in (rw (busy, still.0) refl, rw busy still.1)

-- A call that is no collective is recorded with the reply that it has: it may not join.

of_result : (r : Result (Option Reply) Refusal) (reply : Reply) → is_reply_of (answer_of_result r) reply ≡ same_reply reply (recorded_reply (answer_of_result r))
of_result (Ok None) reply = refl
of_result (Ok (Some found)) reply = refl
of_result (Err refusal) reply = refl

pub plain_reply : (limits : Limits) (me : ℕ) (posts : Posts) (memory : Memory) (thread : ℕ) (call : Call) (reply : Reply)
    → is_reply_of (answer limits me posts memory thread call) reply ≡ same_reply reply (recorded_reply (answer limits me posts memory thread call))
plain_reply limits me posts memory thread call reply = by_running (is_running (thread_at posts thread)) refl
  where
    by_running : (running : Bool) → is_running (thread_at posts thread) ≡ running
        → is_reply_of (answer limits me posts memory thread call) reply ≡ same_reply reply (recorded_reply (answer limits me posts memory thread call))
    by_running true runs = rw runs (of_result (call_result limits me posts memory call) reply)
    by_running false ended = rw ended refl

-- A collective in the whole state: on its rank's posts and its group.

pub completed_as : (s : State) (c : CallerId) (call : Call) (reply : Reply) (id : ℕ) (p : Posts) → slice_get s.posts c.rank ≡ Some p → (row_of call).group ≡ Some id
    → step s (Called c call reply)
    ≡ (completed s.limits c.rank p (group_in s id) c.thread id call reply >>= (λ w. Ok (record s { posts = slice_set s.posts c.rank w.posts; groups = with_group_at s.groups id w.group })))
completed_as s c call reply id p there named =
    first
    ∙ ap (λ (g : groups.Group). (completed s.limits c.rank p g c.thread id call reply >>= (λ after. Ok (left after))) >>= (λ x. Ok (with_parts s c.rank touched x))) (group-on_memory s p c.rank id declaration on)
    ∙ by_result (completed s.limits c.rank p (group_in s id) c.thread id call reply)
  where
    declaration : DeclaredFootprint
    declaration = (row_of call).footprint

    on : IsOnGroup (row_of call).footprint id
    on = collective-footprint call id named

    touched : PartNumbers
    touched = part_numbers c.rank (footprint_of s.limits.ranks c.rank (row_of call).footprint)

    left : PostsAndGroup → Parts
    left after = record (parts_of s p touched) { posts = after.posts; group = Some after.group }

    first : step s (Called c call reply)
        ≡ ((completed s.limits c.rank p (group_or_none (parts_of s p touched).group) c.thread id call reply >>= (λ after. Ok (left after))) >>= (λ x. Ok (with_parts s c.rank touched x)))
    first = rw (there, named) refl

    by_result : (r : Result PostsAndGroup Why) → ((r >>= (λ after. Ok (left after))) >>= (λ x. Ok (with_parts s c.rank touched x)))
        ≡ (r >>= (λ w. Ok (record s { posts = slice_set s.posts c.rank w.posts; groups = with_group_at s.groups id w.group })))
    by_result (Ok w) = ap (λ (x : State). Ok x) (lifted-unwritten s c.rank id declaration p w.posts w.group on)
    by_result (Err why) = refl

-- one that is no step on its rank's posts and its group is none
pub completed_err : (s : State) (c : CallerId) (call : Call) (reply : Reply) (id : ℕ) (p : Posts) (why : Why) → slice_get s.posts c.rank ≡ Some p → (row_of call).group ≡ Some id
    → completed s.limits c.rank p (group_in s id) c.thread id call reply ≡ Err why → step s (Called c call reply) ≡ Err why
completed_err s c call reply id p why there named is =
    completed_as s c call reply id p there named
    ∙ ap (λ (r : Result PostsAndGroup Why). r >>= (λ w. Ok (record s { posts = slice_set s.posts c.rank w.posts; groups = with_group_at s.groups id w.group }))) is

-- a step on those among all
pub completed_steps : (s : State) (c : CallerId) (call : Call) (reply : Reply) (id : ℕ) (result : Result (Unit {0}) StepFault) (p p' : Posts) (g g' : groups.Group)
    → slice_get s.posts c.rank ≡ Some p → (row_of call).group ≡ Some id → g ≡ group_in s id
    → Steps {S = PostsAndGroup} result (record { posts = p; group = g }) (record { posts = p'; group = g' }) (completed s.limits c.rank p g c.thread id call reply)
    → Steps result s (record s { posts = slice_set s.posts c.rank p'; groups = with_group_at s.groups id g' }) (step s (Called c call reply))
completed_steps s c call reply id result p p' g g' there named is steps =
    subst (λ (o : Result State Why). Steps result s (whole (record { posts = p'; group = g' })) o) (sym is_step)
    (lift_steps {S = PostsAndGroup} result (record { posts = p; group = g }) (record { posts = p'; group = g' }) (completed s.limits c.rank p g c.thread id call reply) s whole kept steps)
  where
    whole : PostsAndGroup → State
    whole w = record s { posts = slice_set s.posts c.rank w.posts; groups = with_group_at s.groups id w.group }

    kept : whole (record { posts = p; group = g }) ≡ s
    kept =
        ap (λ (ps : List Posts). record s { posts = ps; groups = with_group_at s.groups id g }) (set-there s.posts c.rank p there)
        ∙ ap (λ (gs : List groups.Group). record s { groups = gs }) (ap (with_group_at s.groups id) is ∙ group-same s.groups id)

    is_step : step s (Called c call reply) ≡ (completed s.limits c.rank p g c.thread id call reply >>= (λ w. Ok (whole w)))
    is_step =
        completed_as s c call reply id p there named
        ∙ ap (λ (x : groups.Group). completed s.limits c.rank p x c.thread id call reply >>= (λ w. Ok (whole w))) (sym is)

-- it changes no memory
pub completed_memories : (s t : State) (c : CallerId) (id : ℕ) (call : Call) (reply : Reply) → (row_of call).group ≡ Some id → step s (Called c call reply) ≡ Ok t
    → length t.memories ≡ length s.memories
completed_memories s t c id call reply named is = ap (λ (x : State). length x.memories) (step-completed s t c id call reply named is).2.leaves

-- A join in the whole state: on its rank's posts, its memory and its group.

length-memories_at : (footprint : Footprint) (me : ℕ) (memory : Memory) (memories : List Memory) → length (memories_at footprint me memory memories) ≡ length memories
length-memories_at Alone me memory memories = refl
length-memories_at OwnMemory me memory memories = length-set memories me memory
length-memories_at (PeerMemory rank) me memory memories = length-set memories rank memory
length-memories_at (BothMemories rank) me memory memories = length-set memories rank memory
length-memories_at (PeerPosts rank) me memory memories = refl
length-memories_at (Group id) me memory memories = refl
length-memories_at (GroupAndMemory id) me memory memories = length-set memories me memory

pub joined_memories : (s t : State) (c : CallerId) (id : ℕ) (args : Args) → step s (Joined c id args) ≡ Ok t → length t.memories ≡ length s.memories
joined_memories s t c id args is =
    ap (λ (x : State). length x.memories) (step-joined s t c id args is).2.leaves ∙ length-memories_at (footprint_of s.limits.ranks c.rank (join_footprint id args.coll)) c.rank _ s.memories

pub joined_as : (s : State) (c : CallerId) (id : ℕ) (args : Args) (p : Posts) → slice_get s.posts c.rank ≡ Some p
    → step s (Joined c id args)
    ≡ (joined s.limits c.rank p (group_in s id) c.thread id args >>= (λ w. Ok (record s {
      posts = slice_set s.posts c.rank w.posts;
      memories = memories_at (footprint_of s.limits.ranks c.rank (join_footprint id args.coll)) c.rank
          (made_memory s.limits p (accessed_memory (footprint_of s.limits.ranks c.rank (join_footprint id args.coll)) (parts_of s p (part_numbers c.rank (footprint_of s.limits.ranks c.rank (join_footprint id args.coll))))) args.coll) s.memories;
      groups = with_group_at s.groups id w.group;
    })))
joined_as s c id args p there =
    first
    ∙ ap (λ (g : groups.Group). (joined s.limits c.rank p g c.thread id args >>= (λ after. Ok (left after))) >>= (λ x. Ok (with_parts s c.rank (part_numbers c.rank footprint) x))) (group-on_memory s p c.rank id (join_footprint id args.coll) on)
    ∙ by_result (joined s.limits c.rank p (group_in s id) c.thread id args)
  where
    footprint : Footprint
    footprint = footprint_of s.limits.ranks c.rank (join_footprint id args.coll)

    on : IsOnGroup (join_footprint id args.coll) id
    on = join-footprint id args.coll

    made : Memory
    made = made_memory s.limits p (accessed_memory footprint (parts_of s p (part_numbers c.rank footprint))) args.coll

    left : PostsAndGroup → Parts
    left after = record (with_accessed_memory footprint (parts_of s p (part_numbers c.rank footprint)) made) { posts = after.posts; group = Some after.group }

    first : step s (Joined c id args)
        ≡ ((joined s.limits c.rank p (group_or_none (parts_of s p (part_numbers c.rank footprint)).group) c.thread id args >>= (λ after. Ok (left after))) >>= (λ x. Ok (with_parts s c.rank (part_numbers c.rank footprint) x)))
    first = rw there refl

    by_result : (r : Result PostsAndGroup Why) → ((r >>= (λ after. Ok (left after))) >>= (λ x. Ok (with_parts s c.rank (part_numbers c.rank footprint) x)))
        ≡ (r >>= (λ w. Ok (record s { posts = slice_set s.posts c.rank w.posts; memories = memories_at footprint c.rank made s.memories; groups = with_group_at s.groups id w.group })))
    by_result (Ok w) = ap (λ (x : State). Ok x) (lifted-group s c.rank id (join_footprint id args.coll) p w.posts made w.group on)
    by_result (Err why) = refl

-- one that is no step on its rank's posts and its group is none
pub joined_err : (s : State) (c : CallerId) (id : ℕ) (args : Args) (p : Posts) (why : Why) → slice_get s.posts c.rank ≡ Some p
    → joined s.limits c.rank p (group_in s id) c.thread id args ≡ Err why → step s (Joined c id args) ≡ Err why
joined_err s c id args p why there is = joined_as s c id args p there ∙ (rw is refl)

-- what it makes of the memories: it is the own one that it works on
made_own : (s : State) (me id : ℕ) (coll : Coll) (p : Posts) (m : Memory) → nat_lt id 8 ≡ true → slice_get s.memories me ≡ Some m
    → memories_at (footprint_of s.limits.ranks me (join_footprint id coll)) me (made_memory s.limits p (accessed_memory (footprint_of s.limits.ranks me (join_footprint id coll)) (parts_of s p (part_numbers me (footprint_of s.limits.ranks me (join_footprint id coll))))) coll) s.memories
    ≡ slice_set s.memories me (made_memory s.limits p m coll)
made_own s me id colls.Barrier p m below own = rw below (sym (set-there s.memories me m own))
made_own s me id (colls.Allreduce op t n) p m below own = rw below (sym (set-there s.memories me m own))
made_own s me id (colls.Create seg size) p m below own = rw (below, own) refl
made_own s me id (colls.Commit mask) p m below own = rw below (sym (set-there s.memories me m own))

-- a step on those among all
pub joined_steps : (s : State) (c : CallerId) (id n : ℕ) (args : Args) (result : Result (Unit {0}) StepFault) (p p' : Posts) (m m' : Memory) (g g' : groups.Group)
    → slice_get s.posts c.rank ≡ Some p → slice_get s.memories c.rank ≡ Some m → slice_get s.groups id ≡ Some g → nat_lt id 8 ≡ true → n ≡ id
    → Steps {S = PostsAndGroup} result (record { posts = p; group = g }) (record { posts = p'; group = g' }) (joined s.limits c.rank p g c.thread n args)
    → OnOk result (m' ≡ made_memory s.limits p m args.coll) → OnErr result (m' ≡ m)
    → Steps result s (record s { posts = slice_set s.posts c.rank p'; memories = slice_set s.memories c.rank m'; groups = slice_set s.groups id g' }) (step s (Joined c id args))
joined_steps s c id n args result p p' m m' g g' there own grouped below number steps made kept =
    by_result result (subst (λ (k : ℕ). Steps {S = PostsAndGroup} result (record { posts = p; group = g }) (record { posts = p'; group = g' }) (joined s.limits c.rank p g c.thread k args)) number steps) made kept
  where
    in_group : group_in s id ≡ g
    in_group = rw (below, grouped) refl

    by_step : step s (Joined c id args)
        ≡ (joined s.limits c.rank p g c.thread id args >>= (λ w. Ok (record s { posts = slice_set s.posts c.rank w.posts; memories = slice_set s.memories c.rank (made_memory s.limits p m args.coll); groups = slice_set s.groups id w.group })))
    by_step =
        joined_as s c id args p there
        ∙ ap (λ (ms : List Memory). joined s.limits c.rank p (group_in s id) c.thread id args >>= (λ w. Ok (record s { posts = slice_set s.posts c.rank w.posts; memories = ms; groups = with_group_at s.groups id w.group })))
        (made_own s c.rank id args.coll p m below own)
        ∙ ap (λ (x : groups.Group). joined s.limits c.rank p x c.thread id args >>= (λ w. Ok (record s { posts = slice_set s.posts c.rank w.posts; memories = slice_set s.memories c.rank (made_memory s.limits p m args.coll); groups = with_group_at s.groups id w.group })))
        in_group
        ∙ (rw below refl)

    back : (w : PostsAndGroup) (x : Memory) → w ≡ record { posts = p; group = g } → x ≡ m
        → record s { posts = slice_set s.posts c.rank w.posts; memories = slice_set s.memories c.rank x; groups = slice_set s.groups id w.group } ≡ s
    back w x same memory =
        ap (λ (v : PostsAndGroup). record s { posts = slice_set s.posts c.rank v.posts; memories = slice_set s.memories c.rank x; groups = slice_set s.groups id v.group }) same
        ∙ ap (λ (ps : List Posts). record s { posts = ps; memories = slice_set s.memories c.rank x; groups = slice_set s.groups id g }) (set-there s.posts c.rank p there)
        ∙ ap (λ (y : Memory). record s { memories = slice_set s.memories c.rank y; groups = slice_set s.groups id g }) memory
        ∙ ap (λ (ms : List Memory). record s { memories = ms; groups = slice_set s.groups id g }) (set-there s.memories c.rank m own)
        ∙ ap (λ (gs : List groups.Group). record s { groups = gs }) (set-there s.groups id g grouped)

    by_result : (r : Result (Unit {0}) StepFault) → Steps {S = PostsAndGroup} r (record { posts = p; group = g }) (record { posts = p'; group = g' }) (joined s.limits c.rank p g c.thread id args)
        → OnOk r (m' ≡ made_memory s.limits p m args.coll) → OnErr r (m' ≡ m)
        → Steps r s (record s { posts = slice_set s.posts c.rank p'; memories = slice_set s.memories c.rank m'; groups = slice_set s.groups id g' }) (step s (Joined c id args))
    by_result (Ok done) steps made kept = by_step ∙ (rw steps (ap (λ (y : Memory). Ok (record s { posts = slice_set s.posts c.rank p'; memories = slice_set s.memories c.rank y; groups = slice_set s.groups id g' })) (sym made)))
    by_result (Err (faults.Illegal why)) steps made kept = (by_step ∙ (rw steps.0 refl), back (record { posts = p'; group = g' }) m' steps.1 kept)
    by_result (Err faults.NoMemory) steps made kept = back (record { posts = p'; group = g' }) m' steps kept
