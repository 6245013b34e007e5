-- What a caller may record.
use Rattle.std.proofs.Common.{◌≡◌, ℕ, ◌+◌, ◌*◌, ◌≤◌, Bool, true, false, not, ◌&&◌, Option, None, Some, Result, Ok, Err, refl, sym, ap, ◌∙◌, subst, arith, if◌then◌else◌, IsOk}
use Rattle.std.specs.List.{slice_get}
use Rattle.std.specs.Option.{option_map}
use Rattle.std.proofs.lemmas.Bool.{le-leb}
use Rattle.gaspi_types.specs.CallRows.{row_of, is_end, is_collective, entries_of, need_of}
use Rattle.gaspi_types.specs.Checks.{◌>>=◌}
use Rattle.gaspi_types.specs.Replies.{same_reply}
use Rattle.gaspi_types.specs.Footprints.{footprint_of}
use Rattle.gaspi_types.specs.declared.calls.Call.{Call}
use Rattle.gaspi_types.specs.declared.events.Event.TheVariants.{Called, Joined}
use Rattle.gaspi_types.specs.declared.groups.Args.{Args}
use Rattle.gaspi_types.specs.declared.replies.Ready.{Ready}
use Rattle.gaspi_types.specs.declared.replies.Ready.TheVariants.{Reply, Join}
use Rattle.gaspi_types.specs.declared.replies.Refusal.{Refusal}
use Rattle.gaspi_types.specs.declared.replies.Refusal.TheVariants.{CallerEnded}
use Rattle.gaspi_types.specs.declared.replies.Reply as answers
use Rattle.gaspi_types.specs.declared.replies.Reply.TheVariants.{Refused}
use Rattle.gaspi_types.specs.declared.shapes.CallerId.{CallerId}
use Rattle.gaspi_types.specs.declared.shapes.Limits.{Limits}
use Rattle.gaspi_model.specs.Calls.{call_result, answer_of_result, answer, recorded_reply, charge, peer_after}
use Rattle.gaspi_model.specs.CollectiveCalls.{collective_answer, is_reply_of, is_joining, group_of, join_event}
use Rattle.gaspi_model.specs.Parts.{Parts, group_or_none, parts_of, with_parts, part_numbers, with_accessed_memory}
use Rattle.gaspi_model.specs.Sound.{IsSound}
use Rattle.gaspi_model.specs.State.{owed, thread_at, is_running}
use Rattle.gaspi_model.specs.Step.{step, PostsAndGroup, called, completed, is_there, call_message, call_memory, group_in, answer_in, is_active, is_declared, is_pending, used_room}
use Rattle.gaspi_model.specs.Transfers.{PostsAndMemory}
use Rattle.gaspi_model.specs.declared.states.Posts.{Posts}
use Rattle.gaspi_model.specs.declared.states.State.{State}
use Rattle.gaspi_model.specs.declared.states.ThreadState.{ThreadState}
use Rattle.gaspi_model.proofs.Ended.Activity.{active}
use Rattle.gaspi_model.proofs.Listed.Enabled.{called-is_step, collective-needs, ok-then}
use Rattle.gaspi_model.proofs.Listed.Joining.{join-is_step, joined-pends, pending-joins-not}
use Rattle.gaspi_model.proofs.Sound.Steps.{limits-stay, steps}

-- What an ended caller is answered.

-- what a look answers in the posts of its rank
answers-in : (s : State) (rank thread : ℕ) (call : Call) (posts : Posts) (found : Ready) → slice_get s.posts rank ≡ Some posts → answer_in s rank thread call ≡ Some found
    → ((row_of call).group ≡ None → answer s.limits rank posts (call_memory s rank posts call) thread call ≡ found)
    × ((id : ℕ) → (row_of call).group ≡ Some id → collective_answer posts (group_in s id) rank thread id call ≡ found)
answers-in s rank thread call posts found hp is = (
  (λ plain.
      let answers : ◌≡◌ {A = Option Ready} (Some (answer s.limits rank posts (call_memory s rank posts call) thread call)) (Some found) = rw (hp, plain) at is in
      let same : answer s.limits rank posts (call_memory s rank posts call) thread call ≡ found = cc in
      same),
  (λ id named.
      let answers : ◌≡◌ {A = Option Ready} (Some (collective_answer posts (group_in s id) rank thread id call)) (Some found) = rw (hp, named) at is in
      let same : collective_answer posts (group_in s id) rank thread id call ≡ found = cc in
      same),
)

-- a caller whose rank is there is active where its thread runs
running-is : (s : State) (rank thread : ℕ) (posts : Posts) (b : Bool) → slice_get s.posts rank ≡ Some posts → is_active s rank thread ≡ b → is_running (thread_at posts thread) ≡ b
running-is s rank thread posts b hp h = rw hp at h

-- an answer that is there comes from the posts of its rank
answered-posts : (s : State) (rank thread : ℕ) (call : Call) (found : Ready) → answer_in s rank thread call ≡ Some found → (posts : Posts) × (slice_get s.posts rank ≡ Some posts)
answered-posts s rank thread call found is = go (slice_get s.posts rank) refl
  where
    go : (o : Option Posts) → slice_get s.posts rank ≡ o → (posts : Posts) × (slice_get s.posts rank ≡ Some posts)
    go None at = absurd (let none : ◌≡◌ {A = Option Ready} None (Some found) = rw at at is in let no : ⊥ = cc in no)
    go (Some posts) at = (posts, at)

-- that it has ended
pub ended-answers : (s : State) (rank thread : ℕ) (call : Call) (found : Ready) → is_active s rank thread ≡ false → answer_in s rank thread call ≡ Some found → found ≡ Reply (Refused CallerEnded)
ended-answers s rank thread call found ended is =
    let p = answered-posts s rank thread call found is in
    in-posts p.0 p.1 (row_of call).group refl
  where
    in-posts : (posts : Posts) → slice_get s.posts rank ≡ Some posts → (o : Option ℕ) → (row_of call).group ≡ o → found ≡ Reply (Refused CallerEnded)
    in-posts posts hp None plain =
        let stands = running-is s rank thread posts false hp ended in
        let answers = (answers-in s rank thread call posts found hp is).0 plain in
        let refused : answer s.limits rank posts (call_memory s rank posts call) thread call ≡ Reply (Refused CallerEnded) = rw stands refl in
        sym answers ∙ refused
    in-posts posts hp (Some id) named =
        let stands = running-is s rank thread posts false hp ended in
        let answers = (answers-in s rank thread call posts found hp is).1 id named in
        let refused : collective_answer posts (group_in s id) rank thread id call ≡ Reply (Refused CallerEnded) = rw stands refl in
        sym answers ∙ refused

-- so a caller that may join is active
pub join-active : (s : State) (rank thread : ℕ) (call : Call) (args : Args) → answer_in s rank thread call ≡ Some (Join args) → is_active s rank thread ≡ true
join-active s rank thread call args is = go (is_active s rank thread) refl
  where
    go : (b : Bool) → is_active s rank thread ≡ b → is_active s rank thread ≡ true
    go true active = active
    go false ended = absurd (let refused = ended-answers s rank thread call (Join args) ended is in let no : ⊥ = cc in no)

-- a call that may join is a collective
pub join-group : (s : State) (rank thread : ℕ) (call : Call) (args : Args) → answer_in s rank thread call ≡ Some (Join args) → (id : ℕ) × ((row_of call).group ≡ Some id)
join-group s rank thread call args is =
    let p = answered-posts s rank thread call (Join args) is in
    go p.0 p.1 (row_of call).group refl
  where
    never : (r : Result (Option answers.Reply) Refusal) → answer_of_result r ≡ Join args → ⊥
    never (Ok None) h = (let no : ⊥ = cc in no)
    never (Ok (Some reply)) h = (let no : ⊥ = cc in no)
    never (Err refusal) h = (let no : ⊥ = cc in no)

    go : (posts : Posts) → slice_get s.posts rank ≡ Some posts → (o : Option ℕ) → (row_of call).group ≡ o → (id : ℕ) × ((row_of call).group ≡ Some id)
    go posts hp (Some id) named = (id, named)
    go posts hp None plain =
        let running = running-is s rank thread posts true hp (join-active s rank thread call args is) in
        let answers = (answers-in s rank thread call posts (Join args) hp is).0 plain in
        let finds : answer_of_result (call_result s.limits rank posts (call_memory s rank posts call) call) ≡ Join args = rw running at answers in
        absurd (never (call_result s.limits rank posts (call_memory s rank posts call) call) finds)

-- What may be recorded of an ended caller.

-- a call of an ended caller needs room for one event
ended-needs : (call : Call) (pending : Bool) → 1 ≤ need_of call pending true
ended-needs call pending = go (is_end call) (is_collective call) pending
  where
    go : (ends meets pends : Bool) → 1 ≤ (if ends && not true then 0 else (if meets && not pends then 2 else 1 + 2 * entries_of call))
    go true true true = omega arith
    go true true false = omega arith
    go true false pends = omega arith
    go false true true = omega arith
    go false true false = omega arith
    go false false pends = omega arith

-- and its refusal takes room for one
ended-charge : (t : ThreadState) (call : Call) → is_running t ≡ false → charge t call (Refused CallerEnded) ≡ 1
ended-charge t call ended = go (is_end call) refl
  where
    go : (b : Bool) → is_end call ≡ b → charge t call (Refused CallerEnded) ≡ 1
    go true ends = rw (ends, ended) refl
    go false goes = rw goes refl

-- a call that is no collective, of a caller that has ended
ended-called : (s : State) (c : CallerId) (call : Call) (posts : Posts) → (row_of call).group ≡ None → slice_get s.posts c.rank ≡ Some posts → is_there (thread_at posts c.thread) ≡ true
    → is_running (thread_at posts c.thread) ≡ false → posts.events + owed posts + 1 ≤ s.limits.events → IsOk (step s (Called c call (Refused CallerEnded)))
ended-called s c call posts plain hp there ended room =
    let memory = call_memory s c.rank posts call in
    let brought = call_message s c.rank call in
    let reply : answers.Reply = Refused CallerEnded in
    let footprint = footprint_of s.limits.ranks c.rank (row_of call).footprint in
    let parts = parts_of s posts (part_numbers c.rank footprint) in
    let leave = λ (after : PostsAndMemory). (let left : Parts = record (with_accessed_memory footprint parts after.memory) { posts = after.posts; peer_posts = option_map (peer_after c.rank posts call reply) parts.peer_posts } in left) in
    let finds : answer s.limits c.rank posts memory c.thread call ≡ Reply (Refused CallerEnded) = rw ended refl in
    let same : same_reply reply (recorded_reply (answer s.limits c.rank posts memory c.thread call)) ≡ true = ap (λ (r : Ready). same_reply (Refused CallerEnded) (recorded_reply r)) finds in
    let one = ended-charge (thread_at posts c.thread) call ended in
    let fits = le-leb (posts.events + owed posts + charge (thread_at posts c.thread) call reply) s.limits.events (omega arith) in
    let recorded : IsOk (called s.limits c.rank posts brought memory c.thread call reply) = rw (there, same, fits) refl in
    rw (hp, plain) (ok-then (called s.limits c.rank posts brought memory c.thread call reply >>= λ after. Ok (leave after)) (with_parts s c.rank (part_numbers c.rank footprint))
    (ok-then (called s.limits c.rank posts brought memory c.thread call reply) leave recorded))

-- a collective of one
ended-completed : (s : State) (c : CallerId) (id : ℕ) (call : Call) (posts : Posts) → (row_of call).group ≡ Some id → slice_get s.posts c.rank ≡ Some posts → is_there (thread_at posts c.thread) ≡ true
    → is_running (thread_at posts c.thread) ≡ false → posts.events + owed posts + 1 ≤ s.limits.events → IsOk (step s (Called c call (Refused CallerEnded)))
ended-completed s c id call posts named hp there ended room =
    let reply : answers.Reply = Refused CallerEnded in
    let footprint = footprint_of s.limits.ranks c.rank (row_of call).footprint in
    let parts = parts_of s posts (part_numbers c.rank footprint) in
    let finds : collective_answer posts (group_or_none parts.group) c.rank c.thread id call ≡ Reply (Refused CallerEnded) = rw ended refl in
    let answered : is_reply_of (collective_answer posts (group_or_none parts.group) c.rank c.thread id call) reply ≡ true = ap (λ (r : Ready). is_reply_of r (Refused CallerEnded)) finds in
    let fits = le-leb (posts.events + owed posts + 1) s.limits.events room in
    let done : IsOk (completed s.limits c.rank posts (group_or_none parts.group) c.thread id call reply) = rw (there, answered, fits) refl in
    let leave = λ (after : PostsAndGroup). (let left : Parts = record parts { posts = after.posts; group = Some after.group } in left) in
    rw (hp, named) (ok-then (completed s.limits c.rank posts (group_or_none parts.group) c.thread id call reply >>= λ after. Ok (leave after)) (with_parts s c.rank (part_numbers c.rank footprint))
    (ok-then (completed s.limits c.rank posts (group_or_none parts.group) c.thread id call reply) leave done))

-- with the reply that it has, the call is a step where there is room for it
ended-is_step : (s : State) (c : CallerId) (call : Call) (found : Ready) → is_declared s c.rank c.thread ≡ true → is_active s c.rank c.thread ≡ false
    → used_room s c.rank + need_of call (is_pending s c.rank c.thread call) true ≤ s.limits.events → answer_in s c.rank c.thread call ≡ Some found → IsOk (step s (Called c call (recorded_reply found)))
ended-is_step s c call found declared ended room is =
    let p = answered-posts s c.rank c.thread call found is in
    let there : is_there (thread_at p.0 c.thread) ≡ true = rw p.1 at declared in
    let taken : used_room s c.rank ≡ p.0.events + owed p.0 = rw p.1 refl in
    let one = ended-needs call (is_pending s c.rank c.thread call) in
    rw (ended-answers s c.rank c.thread call found ended is) (by-group p.0 p.1 there (running-is s c.rank c.thread p.0 false p.1 ended) (omega arith) (row_of call).group refl)
  where
    by-group : (posts : Posts) → slice_get s.posts c.rank ≡ Some posts → is_there (thread_at posts c.thread) ≡ true → is_running (thread_at posts c.thread) ≡ false
        → posts.events + owed posts + 1 ≤ s.limits.events → (o : Option ℕ) → (row_of call).group ≡ o → IsOk (step s (Called c call (Refused CallerEnded)))
    by-group posts hp there stands fits None plain = ended-called s c call posts plain hp there stands fits
    by-group posts hp there stands fits (Some id) named = ended-completed s c id call posts named hp there stands fits

-- What may be recorded.

-- a call of a caller that has a section, ended or not, with the reply that it has
pub recorded-is_step : (s : State) (c : CallerId) (call : Call) (found : Ready) → IsSound s → is_declared s c.rank c.thread ≡ true
    → used_room s c.rank + need_of call (is_pending s c.rank c.thread call) (not (is_active s c.rank c.thread)) ≤ s.limits.events
    → answer_in s c.rank c.thread call ≡ Some found → is_joining found ≡ false → IsOk (step s (Called c call (recorded_reply found)))
recorded-is_step s c call found sound declared room is answered = go (is_active s c.rank c.thread) refl
  where
    go : (b : Bool) → is_active s c.rank c.thread ≡ b → IsOk (step s (Called c call (recorded_reply found)))
    go true active = called-is_step s c.rank c.thread call found sound active (rw active at room) is answered
    go false ended = ended-is_step s c call found declared ended (rw ended at room) is

-- a collective that may join
pub joined-is_step : (s : State) (c : CallerId) (call : Call) (args : Args) → IsSound s
    → used_room s c.rank + need_of call (is_pending s c.rank c.thread call) (not (is_active s c.rank c.thread)) ≤ s.limits.events
    → answer_in s c.rank c.thread call ≡ Some (Join args) → IsOk (step s (join_event c call args))
joined-is_step s c call args sound room is =
    let group = join-group s c.rank c.thread call args is in
    with-group group.0 group.1
  where
    with-group : (id : ℕ) → (row_of call).group ≡ Some id → IsOk (step s (join_event c call args))
    with-group id named =
        let active = join-active s c.rank c.thread call args is in
        let same : group_of call ≡ id = rw named refl in
        subst (λ (n : ℕ). IsOk (step s (Joined c n args))) (sym same) (join-is_step s c.rank c.thread id call args sound active (rw active at room) named is)

-- after the join the same collective has room, and joins no more
pub joined-goes-on : (s t : State) (c : CallerId) (call : Call) (args : Args) (found : Ready) → IsSound s
    → used_room s c.rank + need_of call (is_pending s c.rank c.thread call) (not (is_active s c.rank c.thread)) ≤ s.limits.events
    → answer_in s c.rank c.thread call ≡ Some (Join args) → step s (join_event c call args) ≡ Ok t → answer_in t c.rank c.thread call ≡ Some found
    → (is_joining found ≡ false) × IsOk (step t (Called c call (recorded_reply found)))
joined-goes-on s t c call args found sound room is h now =
    let group = join-group s c.rank c.thread call args is in
    with-group group.0 group.1
  where
    with-group : (id : ℕ) → (row_of call).group ≡ Some id → (is_joining found ≡ false) × IsOk (step t (Called c call (recorded_reply found)))
    with-group id named =
        let active-before = join-active s c.rank c.thread call args is in
        let same : group_of call ≡ id = rw named refl in
        let joins : step s (Joined c id args) ≡ Ok t = subst (λ (n : ℕ). step s (Joined c n args) ≡ Ok t) same h in
        let active-now = active s t (Joined c id args) c.rank c.thread joins refl ∙ active-before in
        let pends = joined-pends s t c call id args sound named joins in
        let not-pending = fresh (is_pending s c.rank c.thread call) refl in
        let needs = collective-needs call id named in
        let before : used_room s c.rank + need_of call false false ≤ s.limits.events = rw (active-before, not-pending) at room in
        let limits : t.limits.events ≡ s.limits.events = ap (λ (l : Limits). l.events) (limits-stay s t (Joined c id args) joins) in
        let fits : used_room t c.rank + need_of call true false ≤ t.limits.events = omega arith in
        let answered = pending-joins-not t c.rank c.thread call found pends.0 now in
        (answered, called-is_step t c.rank c.thread call found (steps s t (Joined c id args) sound joins) active-now (rw pends.0 fits) now answered)
      where
        fresh : (b : Bool) → is_pending s c.rank c.thread call ≡ b → is_pending s c.rank c.thread call ≡ false
        fresh false not = not
        fresh true pends = absurd (let never : true ≡ false = pending-joins-not s c.rank c.thread call (Join args) pends is in let no : ⊥ = cc in no)
