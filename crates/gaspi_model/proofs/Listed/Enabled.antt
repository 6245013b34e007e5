-- What may come next is a step: a transfer that is listed, and a call with the reply that it has.
use Rattle.std.proofs.Common.{◌≡◌, ℕ, zero, suc, ◌+◌, ◌*◌, ◌<◌, ◌≤◌, ℤ, Bool, true, false, List, [], ◌∷◌, Option, None, Some, Result, Ok, Err, refl, sym, ap, ◌∙◌, subst, ◌==◌, arith, if◌then◌else◌, is_none, IsOk, nat_eq}
use Rattle.std.specs.List.{slice_get, enumerate_from}
use Rattle.std.specs.Ordering.{int_eq}
use Rattle.std.specs.Cmp.Lexicographic.{pointwise}
use Rattle.std.proofs.lemmas.Bool.{le-leb, lt-ltb, eq-eqb, eqb-true}
use Rattle.std.proofs.lemmas.Cmp.{int_eq_equiv}
use Rattle.std.proofs.lemmas.Option.{slice_get_within}
use Rattle.gaspi_types.specs.Checks.{◌>>=◌}
use Rattle.gaspi_types.specs.Lanes.{may_take, may_put, position_of}
use Rattle.gaspi_types.specs.CallRows.{row_of, is_end, entries_of, need_of}
use Rattle.gaspi_types.specs.Replies.{refusal_number, refusal_fields, type_number, same_refusal, same_numbers, same_reply, is_done}
use Rattle.gaspi_types.specs.declared.collectives.Numbers.{Numbers}
use Rattle.gaspi_types.specs.declared.entries.Entry.{Entry}
use Rattle.gaspi_types.specs.declared.entries.Kind.{Kind}
use Rattle.gaspi_types.specs.declared.entries.Kind.TheVariants.{Write, Read, Notify, ReadNote}
use Rattle.gaspi_types.specs.declared.shapes.Limits.{Limits}
use Rattle.gaspi_types.specs.declared.calls.Call.{Call}
use Rattle.gaspi_types.specs.declared.replies.Refusal.{Refusal}
use Rattle.gaspi_types.specs.declared.replies.Reply.{Reply}
use Rattle.gaspi_types.specs.declared.replies.Reply.TheVariants as replies
use Rattle.gaspi_types.specs.declared.replies.Ready.{Ready}
use Rattle.gaspi_types.specs.declared.events.Outcome.{Outcome}
use Rattle.gaspi_types.specs.declared.events.Outcome.TheVariants.{Applied, Failed}
use Rattle.gaspi_types.specs.declared.events.Transfer.{Transfer}
use Rattle.gaspi_types.specs.declared.events.Event.{Event}
use Rattle.gaspi_types.specs.declared.events.Event.TheVariants.{Called, Take, Put}
use Rattle.gaspi_model.specs.State.{owed, thread_at, is_running}
use Rattle.gaspi_model.specs.Calls.{answer, recorded_reply, charge, peer_after}
use Rattle.gaspi_model.specs.Parts.{Parts, parts_of, with_parts, part_numbers, accessed_memory, with_accessed_memory}
use Rattle.gaspi_model.proofs.Made.{on_memory-at, memory_at, take-footprint, put-footprint, entry-found}
use Rattle.gaspi_types.specs.declared.footprints.DeclaredFootprint.TheVariants as touches
use Rattle.gaspi_types.specs.Footprints.{footprint_of}
use Rattle.gaspi_types.specs.declared.footprints.Footprint.{Footprint}
use Rattle.std.specs.Option.{option_map}
use Rattle.gaspi_model.specs.Transfers.{find_entry, entry_in, take, put, PostsAndMemory, outcome_at, take_outcome, put_outcome, same_outcome, transfer_of, lane_transfers, queue_transfers, rank_transfers, transfers}
use Rattle.gaspi_types.specs.declared.inboxes.Message.{Message}
use Rattle.gaspi_model.specs.Step.{call_message, step, called, is_there, call_memory, event_footprint, answer_in, is_active, used_room, transfer_event}
use Rattle.gaspi_model.specs.Sound.{IsSound}
use Rattle.gaspi_types.specs.declared.entries.Queue.{Queue}
use Rattle.gaspi_model.specs.declared.states.ThreadState.{ThreadState}
use Rattle.gaspi_model.specs.declared.states.ThreadState.TheVariants.{Absent, Running, Ended}
use Rattle.gaspi_model.specs.declared.states.Posts.{Posts}
use Rattle.gaspi_model.specs.declared.states.Memory.{Memory}
use Rattle.gaspi_model.specs.declared.states.State.{State}
use Rattle.gaspi_model.specs.declared.states.Why.{Why}
use Rattle.gaspi_model.specs.declared.states.Why.TheVariants as whys
use Rattle.gaspi_types.specs.declared.calls.Call.TheVariants as calls
use Rattle.gaspi_types.specs.declared.groups.Group.{Group}
use Rattle.gaspi_types.specs.declared.replies.Ready.TheVariants as ready
use Rattle.gaspi_model.specs.CollectiveCalls.{collective_answer, is_reply_of, is_joining}
use Rattle.gaspi_model.specs.Parts.{group_or_none}
use Rattle.gaspi_model.specs.Step.{PostsAndGroup, completed, group_in, is_pending}
use Rattle.gaspi_model.proofs.GroupSteps.{group-on_memory, collective-footprint}
use Rattle.gaspi_model.proofs.Sound.Rising.{position_of-rising}
use Rattle.gaspi_types.proofs.Items.{past-none, flat_map-parts, enumerate-at}

-- Replies compare as the same as themselves.

pub pointwise-refl : (a : List ℕ) → pointwise nat_eq a a ≡ true
pointwise-refl [] = refl
pointwise-refl (x ∷ a) = rw (eq-eqb x x refl) (pointwise-refl a)

same_refusal-refl : (a : Refusal) → same_refusal a a ≡ true
same_refusal-refl a =
    rw (eq-eqb (refusal_number a) (refusal_number a) refl) (pointwise-refl (refusal_fields a))

pointwise-int-refl : (a : List ℤ) → pointwise int_eq a a ≡ true
pointwise-int-refl [] = refl
pointwise-int-refl (x ∷ a) = rw (int_eq_equiv.refl x) (pointwise-int-refl a)

pub same_numbers-refl : (a : Numbers) → same_numbers a a ≡ true
same_numbers-refl a = rw (eq-eqb (type_number a.num_type) (type_number a.num_type) refl) (pointwise-int-refl a.items)

pub same_reply-refl : (a : Reply) → same_reply a a ≡ true
same_reply-refl replies.Done = refl
same_reply-refl (replies.Value n) = eq-eqb n n refl
same_reply-refl (replies.Id n) = eq-eqb n n refl
same_reply-refl (replies.Bytes bytes) = pointwise-refl bytes
same_reply-refl (replies.Mask n) = eq-eqb n n refl
same_reply-refl (replies.List numbers) = same_numbers-refl numbers
same_reply-refl replies.Timeout = refl
same_reply-refl (replies.Refused refusal) = same_refusal-refl refusal

same_outcome-refl : (a : Outcome) → same_outcome a a ≡ true
same_outcome-refl Applied = refl
same_outcome-refl Failed = refl

-- Calls.

pub running-there : (t : ThreadState) → is_running t ≡ true → is_there t ≡ true
running-there Absent h = absurd (let no : ⊥ = cc in no)
running-there Running h = refl
running-there Ended h = absurd (let no : ⊥ = cc in no)

done-charge : (entries : ℕ) (b : Bool) → (if b then 1 + 2 * entries else 1) ≤ 1 + 2 * entries
done-charge entries true = omega arith
done-charge entries false = omega arith

-- no call takes more room than it needs
pub charge-need : (t : ThreadState) (call : Call) (reply : Reply) (pending : Bool) → (row_of call).group ≡ None → is_running t ≡ true → charge t call reply ≤ need_of call pending false
charge-need t call reply pending plain running = go (is_end call) refl
  where
    go : (b : Bool) → is_end call ≡ b → charge t call reply ≤ need_of call pending false
    go true ends = rw (ends, running) (omega arith)
    go false goes = rw (goes, plain) (done-charge (entries_of call) (is_done reply))

-- a collective needs room for itself and, where it is not pending, for its join
pub collective-needs : (call : Call) (id : ℕ) → (row_of call).group ≡ Some id → (need_of call false false ≡ 2) × (need_of call true false ≡ 1)
collective-needs (calls.Commit call) id named = (refl, refl)
collective-needs (calls.Barrier call) id named = (refl, refl)
collective-needs (calls.Allreduce call) id named = (refl, refl)
collective-needs (calls.Create call) id named = (refl, refl)
collective-needs other id named = absurd (let no : ⊥ = cc in no)

pub needs-one : (call : Call) (id : ℕ) (pending : Bool) → (row_of call).group ≡ Some id → 1 ≤ need_of call pending false
needs-one call id true named = let needs = collective-needs call id named in omega arith
needs-one call id false named = let needs = collective-needs call id named in omega arith

-- a call of a running thread with the reply that may be recorded, where there is room for it
called-enabled : (limits : Limits) (me : ℕ) (posts : Posts) (brought : Option Message) (memory : Memory) (thread : ℕ) (call : Call) (pending : Bool) → (row_of call).group ≡ None → is_running (thread_at posts thread) ≡ true
    → posts.events + owed posts + need_of call pending false ≤ limits.events
    → IsOk (called limits me posts brought memory thread call (recorded_reply (answer limits me posts memory thread call)))
called-enabled limits me posts brought memory thread call pending plain running room =
    let reply = recorded_reply (answer limits me posts memory thread call) in
    let there = running-there (thread_at posts thread) running in
    let same = same_reply-refl reply in
    let less = charge-need (thread_at posts thread) call reply pending plain running in
    let fits = le-leb (posts.events + owed posts + charge (thread_at posts thread) call reply) limits.events (omega arith) in
    rw (there, same, fits) refl

-- a rank that has an active caller is there
pub active-posts : (s : State) (rank thread : ℕ) → is_active s rank thread ≡ true → (posts : Posts) × (slice_get s.posts rank ≡ Some posts) × (is_running (thread_at posts thread) ≡ true)
active-posts s rank thread h = go (slice_get s.posts rank) refl
  where
    go : (o : Option Posts) → slice_get s.posts rank ≡ o → (posts : Posts) × (slice_get s.posts rank ≡ Some posts) × (is_running (thread_at posts thread) ≡ true)
    go None at = absurd (let none = rw at at h in let no : ⊥ = cc in no)
    go (Some posts) at = (posts, at, rw at at h)

memory-there : (s : State) (rank : ℕ) → IsSound s → rank < s.limits.ranks → (memory : Memory) × (slice_get s.memories rank ≡ Some memory)
memory-there s rank sound within = go (slice_get s.memories rank) refl
  where
    go : (o : Option Memory) → slice_get s.memories rank ≡ o → (memory : Memory) × (slice_get s.memories rank ≡ Some memory)
    go (Some memory) at = (memory, at)
    go None at = absurd (past-none s.memories rank (let same = sound.memories in omega arith) at)

pub ok-then : {A B E : Type 0} (r : Result A E) (f : A → B) → IsOk r → IsOk {E = E} (r >>= λ x. Ok (f x))
ok-then (Ok x) f h = refl
ok-then (Err e) f h = absurd (let no : ⊥ = cc in no)

-- a call of an active caller, with the reply that it has, is a step where there is room for it
called-step : (s : State) (rank thread : ℕ) (call : Call) (posts : Posts) (pending : Bool) → (row_of call).group ≡ None → slice_get s.posts rank ≡ Some posts
    → is_running (thread_at posts thread) ≡ true → posts.events + owed posts + need_of call pending false ≤ s.limits.events
    → IsOk (step s (Called (record { rank = rank; thread = thread }) call (recorded_reply (answer s.limits rank posts (call_memory s rank posts call) thread call))))
called-step s rank thread call posts pending plain hp running room =
    let memory = call_memory s rank posts call in
    let reply = recorded_reply (answer s.limits rank posts memory thread call) in
    let footprint = footprint_of s.limits.ranks rank (row_of call).footprint in
    let parts = parts_of s posts (part_numbers rank footprint) in
    let leave = λ (after : PostsAndMemory). (let left : Parts = record (with_accessed_memory footprint parts after.memory) { posts = after.posts; peer_posts = option_map (peer_after rank posts call reply) parts.peer_posts } in left) in
    let recorded = called-enabled s.limits rank posts (call_message s rank call) memory thread call pending plain running room in
    rw (hp, plain) (ok-then (called s.limits rank posts (call_message s rank call) memory thread call reply >>= λ after. Ok (leave after)) (with_parts s rank (part_numbers rank footprint))
    (ok-then (called s.limits rank posts (call_message s rank call) memory thread call reply) leave recorded))

-- a collective with the reply that it has
completed-step : (s : State) (rank thread id : ℕ) (call : Call) (posts : Posts) (found : Ready) → (row_of call).group ≡ Some id → slice_get s.posts rank ≡ Some posts → is_running (thread_at posts thread) ≡ true
    → posts.events + owed posts + 1 ≤ s.limits.events → collective_answer posts (group_in s id) rank thread id call ≡ found → is_joining found ≡ false
    → IsOk (step s (Called (record { rank = rank; thread = thread }) call (recorded_reply found)))
completed-step s rank thread id call posts found named hp running room is answered =
    let footprint = footprint_of s.limits.ranks rank (row_of call).footprint in
    let parts = parts_of s posts (part_numbers rank footprint) in
    let group = group-on_memory s posts rank id (row_of call).footprint (collective-footprint call id named) in
    let there = running-there (thread_at posts thread) running in
    let fits = le-leb (posts.events + owed posts + 1) s.limits.events room in
    let answers : is_reply_of (collective_answer posts (group_or_none parts.group) rank thread id call) (recorded_reply found) ≡ true =
    ap (λ (g : Group). is_reply_of (collective_answer posts g rank thread id call) (recorded_reply found)) group ∙ ap (λ (r : Ready). is_reply_of r (recorded_reply found)) is ∙ itself found answered in
    let done : IsOk (completed s.limits rank posts (group_or_none parts.group) thread id call (recorded_reply found)) = rw (there, answers, fits) refl in
    let leave = λ (after : PostsAndGroup). (let left : Parts = record parts { posts = after.posts; group = Some after.group } in left) in
    rw (hp, named) (ok-then (completed s.limits rank posts (group_or_none parts.group) thread id call (recorded_reply found) >>= λ after. Ok (leave after)) (with_parts s rank (part_numbers rank footprint))
    (ok-then (completed s.limits rank posts (group_or_none parts.group) thread id call (recorded_reply found)) leave done))
  where
    itself : (r : Ready) → is_joining r ≡ false → is_reply_of r (recorded_reply r) ≡ true
    itself (ready.Reply reply) h = same_reply-refl reply
    itself (ready.Join args) h = absurd (let no : ⊥ = cc in no)
    itself ready.NotReady h = refl

pub called-is_step : (s : State) (rank thread : ℕ) (call : Call) (found : Ready) → IsSound s → is_active s rank thread ≡ true
    → used_room s rank + need_of call (is_pending s rank thread call) false ≤ s.limits.events → answer_in s rank thread call ≡ Some found → is_joining found ≡ false
    → IsOk (step s (Called (record { rank = rank; thread = thread }) call (recorded_reply found)))
called-is_step s rank thread call found sound active room is answered = by-group (row_of call).group refl
  where
    p : (posts : Posts) × (slice_get s.posts rank ≡ Some posts) × (is_running (thread_at posts thread) ≡ true)
    p = active-posts s rank thread active

    with-posts : (posts : Posts) → slice_get s.posts rank ≡ Some posts → is_running (thread_at posts thread) ≡ true → (o : Option ℕ) → (row_of call).group ≡ o
        → IsOk (step s (Called (record { rank = rank; thread = thread }) call (recorded_reply found)))
    with-posts posts hp running None plain =
        let room' : posts.events + owed posts + need_of call (is_pending s rank thread call) false ≤ s.limits.events = subst (λ (n : ℕ). n + need_of call (is_pending s rank thread call) false ≤ s.limits.events) (taken posts hp) room in
        let answers : ◌≡◌ {A = Option Ready} (Some (answer s.limits rank posts (call_memory s rank posts call) thread call)) (Some found) = rw (hp, plain) at is in
        let same : answer s.limits rank posts (call_memory s rank posts call) thread call ≡ found = cc in
        subst (λ (r : Ready). IsOk (step s (Called (record { rank = rank; thread = thread }) call (recorded_reply r)))) same
        (called-step s rank thread call posts (is_pending s rank thread call) plain hp running room')
      where
        taken : (x : Posts) → slice_get s.posts rank ≡ Some x → used_room s rank ≡ x.events + owed x
        taken x at = rw at refl
    with-posts posts hp running (Some id) named =
        let one = needs-one call id (is_pending s rank thread call) named in
        let taken : used_room s rank ≡ posts.events + owed posts = rw hp refl in
        let answers : ◌≡◌ {A = Option Ready} (Some (collective_answer posts (group_in s id) rank thread id call)) (Some found) = rw (hp, named) at is in
        let same : collective_answer posts (group_in s id) rank thread id call ≡ found = cc in
        completed-step s rank thread id call posts found named hp running (omega arith) same answered

    by-group : (o : Option ℕ) → (row_of call).group ≡ o → IsOk (step s (Called (record { rank = rank; thread = thread }) call (recorded_reply found)))
    by-group o named = with-posts p.0 p.1 p.2 o named

-- Transfers.

-- where a listed transfer comes from
pub record IsListed (limits : Limits) (table : List Posts) (t : Transfer) (posts : Posts) (q : Queue) (lane : List Entry) (place : ℕ) (e : Entry) : Type 0 where
  pub posts_there : slice_get table t.origin ≡ Some posts
  pub queue_there : slice_get posts.queues t.queue ≡ Some q
  pub whole : is_none q.broken ≡ true
  pub lane_there : slice_get q.lanes t.target ≡ Some lane
  pub entry_there : slice_get lane place ≡ Some e
  pub number : t.number ≡ e.number
  pub permitted : (if t.put then may_put lane e else may_take limits.depth lane e) ≡ true

single : {A : Type 0} (x y : A) (j : ℕ) → slice_get (x ∷ []) j ≡ Some y → x ≡ y
single x y zero at = cc
single x y (suc j) at = absurd (let no : ⊥ = cc in no)

listed-of : (limits : Limits) (table : List Posts) (posts : Posts) (q : Queue) (lane : List Entry) (place : ℕ) (e : Entry) (origin queue target : ℕ) (t : Transfer) (j : ℕ)
    → slice_get table origin ≡ Some posts → slice_get posts.queues queue ≡ Some q → is_none q.broken ≡ true → slice_get q.lanes target ≡ Some lane → slice_get lane place ≡ Some e
    → slice_get (transfer_of origin queue target limits lane e) j ≡ Some t → IsListed limits table t posts q lane place e
listed-of limits table posts q lane place e origin queue target t j hp hq whole hl he at = go (may_take limits.depth lane e) refl
  where
    put-or : (b : Bool) → may_take limits.depth lane e ≡ false → may_put lane e ≡ b → IsListed limits table t posts q lane place e
    put-or true take put =
        let is = single (record { origin = origin; queue = queue; target = target; number = e.number; put = true }) t j (rw (take, put) at at) in
        subst (λ (x : Transfer). IsListed limits table x posts q lane place e) is
        (record { posts_there = hp; queue_there = hq; whole = whole; lane_there = hl; entry_there = he; number = refl; permitted = put })
    put-or false take put = absurd (let none = rw (take, put) at at in let no : ⊥ = cc in no)

    go : (b : Bool) → may_take limits.depth lane e ≡ b → IsListed limits table t posts q lane place e
    go true take =
        let is = single (record { origin = origin; queue = queue; target = target; number = e.number; put = false }) t j (rw take at at) in
        subst (λ (x : Transfer). IsListed limits table x posts q lane place e) is
        (record { posts_there = hp; queue_there = hq; whole = whole; lane_there = hl; entry_there = he; number = refl; permitted = take })
    go false take = put-or (may_put lane e) take refl

abbrev Listed : Limits → List Posts → Transfer → Type 0
Listed limits table t = (posts : Posts) × (q : Queue) × (lane : List Entry) × (place : ℕ) × (e : Entry) × IsListed limits table t posts q lane place e

pub listed : (limits : Limits) (table : List Posts) (t : Transfer) (k : ℕ) → slice_get (transfers limits table) k ≡ Some t → Listed limits table t
listed limits table t k at =
    let r = flat_map-parts (rank_transfers limits) (enumerate_from 0 table) k t at in
    let here = enumerate-at 0 table r.0 r.1 r.3 in
    in-rank r.1 (subst (λ (n : ℕ). slice_get table n ≡ Some r.1.1) (sym (here.0 ∙ omega arith)) here.1) r.2 r.4
  where
    in-lane : (posts : Posts) (q : Queue) (origin queue : ℕ) → slice_get table origin ≡ Some posts → slice_get posts.queues queue ≡ Some q → is_none q.broken ≡ true
        → (l : ℕ × List Entry) → slice_get q.lanes l.0 ≡ Some l.1 → (j : ℕ) → slice_get (lane_transfers origin queue limits l) j ≡ Some t → Listed limits table t
    in-lane posts q origin queue hp hq whole (target, lane) hl j at =
        let r = flat_map-parts (transfer_of origin queue target limits lane) lane j t at in
        (posts, q, lane, r.0, r.1, listed-of limits table posts q lane r.0 r.1 origin queue target t r.2 hp hq whole hl r.3 r.4)

    in-queue : (posts : Posts) (origin : ℕ) → slice_get table origin ≡ Some posts → (x : ℕ × Queue) → slice_get posts.queues x.0 ≡ Some x.1
        → (j : ℕ) → slice_get (queue_transfers origin limits x) j ≡ Some t → Listed limits table t
    in-queue posts origin hp (queue, q) hq j at = go (is_none q.broken) refl
      where
        go : (b : Bool) → is_none q.broken ≡ b → Listed limits table t
        go true whole =
            let r = flat_map-parts (lane_transfers origin queue limits) (enumerate_from 0 q.lanes) j t (rw whole at at) in
            let l = enumerate-at 0 q.lanes r.0 r.1 r.3 in
            in-lane posts q origin queue hp hq whole r.1 (subst (λ (n : ℕ). slice_get q.lanes n ≡ Some r.1.1) (sym (l.0 ∙ omega arith)) l.1) r.2 r.4
        go false broken = absurd (let none = rw broken at at in let no : ⊥ = cc in no)

    in-rank : (x : ℕ × Posts) → slice_get table x.0 ≡ Some x.1 → (j : ℕ) → slice_get (rank_transfers limits x) j ≡ Some t → Listed limits table t
    in-rank (origin, posts) hp j at =
        let r = flat_map-parts (queue_transfers origin limits) (enumerate_from 0 posts.queues) j t at in
        let here = enumerate-at 0 posts.queues r.0 r.1 r.3 in
        in-queue posts origin hp r.1 (subst (λ (n : ℕ). slice_get posts.queues n ≡ Some r.1.1) (sym (here.0 ∙ omega arith)) here.1) r.2 r.4

-- A transfer that is listed is a step.

found-entry : (posts : Posts) (t : Transfer) (q : Queue) (lane : List Entry) (place : ℕ) (e : Entry) (why : Why) → slice_get posts.queues t.queue ≡ Some q → slice_get q.lanes t.target ≡ Some lane
    → position_of lane t.number ≡ Some place → slice_get lane place ≡ Some e
    → find_entry posts t.queue t.target t.number why ≡ Ok (record { queue = q; lane = lane; position = place; entry = e })
found-entry posts t q lane place e why hq hl hp he = rw (hq, hl, hp, he) refl

-- the memory of a rank that an event reaches is that rank's
target-memory : (s : State) (origin target : ℕ) (memory : Memory) → slice_get s.memories target ≡ Some memory → target < s.limits.ranks
    → memory_at (footprint_of s.limits.ranks origin (touches.MemoryOf target)) origin s.memories ≡ memory
target-memory s origin target memory there ranked = go (target == origin) refl
  where
    go : (b : Bool) → (target == origin) ≡ b → memory_at (footprint_of s.limits.ranks origin (touches.MemoryOf target)) origin s.memories ≡ memory
    go true is =
        let here : slice_get s.memories origin ≡ Some memory = subst (λ (n : ℕ). slice_get s.memories n ≡ Some memory) (eqb-true target origin is) there in
        rw (is, here) refl
    go false is = rw (is, lt-ltb target s.limits.ranks ranked, there) refl

-- so the machine's outcome of a transfer is told by the memory of its target
take-outcome : (s : State) (origin target : ℕ) (memory : Memory) (kind : Kind) → slice_get s.memories target ≡ Some memory → target < s.limits.ranks
    → take_outcome (memory_at (take-footprint s.limits.ranks origin target kind) origin s.memories) kind ≡ take_outcome memory kind
take-outcome s origin target memory (Write own to) there ranked = refl
take-outcome s origin target memory (Read own to) there ranked = ap (λ (m : Memory). outcome_at m to.segment to.generation) (target-memory s origin target memory there ranked)
take-outcome s origin target memory (Notify to value) there ranked = refl
take-outcome s origin target memory (ReadNote own) there ranked = refl

put-outcome : (s : State) (origin target : ℕ) (memory : Memory) (kind : Kind) → slice_get s.memories target ≡ Some memory → target < s.limits.ranks
    → put_outcome (memory_at (put-footprint s.limits.ranks origin target kind) origin s.memories) kind ≡ put_outcome memory kind
put-outcome s origin target memory (Write own to) there ranked = ap (λ (m : Memory). outcome_at m to.segment to.generation) (target-memory s origin target memory there ranked)
put-outcome s origin target memory (Read own to) there ranked = refl
put-outcome s origin target memory (Notify to value) there ranked = ap (λ (m : Memory). outcome_at m to.segment to.generation) (target-memory s origin target memory there ranked)
put-outcome s origin target memory (ReadNote own) there ranked = refl

-- the memory that a transfer works on
take-on_memory : (s : State) (posts : Posts) (origin queue target number : ℕ) (outcome : Outcome) (e : Entry) → entry_in posts queue target number ≡ Some e
    → accessed_memory (event_footprint s.limits posts (Take origin queue target number outcome)) (parts_of s posts (part_numbers origin (event_footprint s.limits posts (Take origin queue target number outcome))))
    ≡ memory_at (take-footprint s.limits.ranks origin target e.kind) origin s.memories
take-on_memory s posts origin queue target number outcome e found =
    let reaches : event_footprint s.limits posts (Take origin queue target number outcome) ≡ take-footprint s.limits.ranks origin target e.kind = rw found refl in
    on_memory-at s posts origin (event_footprint s.limits posts (Take origin queue target number outcome)) ∙ ap (λ (r : Footprint). memory_at r origin s.memories) reaches

put-on_memory : (s : State) (posts : Posts) (origin queue target number : ℕ) (outcome : Outcome) (e : Entry) → entry_in posts queue target number ≡ Some e
    → accessed_memory (event_footprint s.limits posts (Put origin queue target number outcome)) (parts_of s posts (part_numbers origin (event_footprint s.limits posts (Put origin queue target number outcome))))
    ≡ memory_at (put-footprint s.limits.ranks origin target e.kind) origin s.memories
put-on_memory s posts origin queue target number outcome e found =
    let reaches : event_footprint s.limits posts (Put origin queue target number outcome) ≡ put-footprint s.limits.ranks origin target e.kind = rw found refl in
    on_memory-at s posts origin (event_footprint s.limits posts (Put origin queue target number outcome)) ∙ ap (λ (r : Footprint). memory_at r origin s.memories) reaches

pub transfer-is_step : (s : State) (t : Transfer) (k : ℕ) → IsSound s → slice_get (transfers s.limits s.posts) k ≡ Some t → IsOk (step s (transfer_event s t))
transfer-is_step s t k sound at =
    let l = listed s.limits s.posts t k at in
    go l.0 l.1 l.2 l.3 l.4 l.5
  where
    take-step : (posts : Posts) (q : Queue) (lane : List Entry) (place : ℕ) (e : Entry) (memory : Memory) → slice_get s.posts t.origin ≡ Some posts → slice_get s.memories t.target ≡ Some memory
        → t.target < s.limits.ranks → entry_in posts t.queue t.target t.number ≡ Some e
        → find_entry posts t.queue t.target t.number whys.Take ≡ Ok (record { queue = q; lane = lane; position = place; entry = e })
        → is_none q.broken ≡ true → may_take s.limits.depth lane e ≡ true → IsOk (step s (Take t.origin t.queue t.target t.number (take_outcome memory e.kind)))
    take-step posts q lane place e memory hp hm ranked found hf whole permitted =
        let outcome = take_outcome memory e.kind in
        let footprint = event_footprint s.limits posts (Take t.origin t.queue t.target t.number outcome) in
        let parts = parts_of s posts (part_numbers t.origin footprint) in
        let worked = memory_at (take-footprint s.limits.ranks t.origin t.target e.kind) t.origin s.memories in
        let leave = λ (after : Posts). (let left : Parts = record parts { posts = after } in left) in
        let fits : same_outcome outcome (take_outcome worked e.kind) ≡ true = rw (take-outcome s t.origin t.target memory e.kind hm ranked) (same_outcome-refl outcome) in
        let takes : IsOk (take s.limits posts worked t.queue t.target t.number outcome) = rw (hf, whole, permitted, fits) refl in
        let done : IsOk (take s.limits posts (accessed_memory footprint parts) t.queue t.target t.number outcome) =
        subst (λ (m : Memory). IsOk (take s.limits posts m t.queue t.target t.number outcome)) (sym (take-on_memory s posts t.origin t.queue t.target t.number outcome e found)) takes in
        rw hp (ok-then (take s.limits posts (accessed_memory footprint parts) t.queue t.target t.number outcome >>= λ after. Ok (leave after)) (with_parts s t.origin (part_numbers t.origin footprint))
        (ok-then (take s.limits posts (accessed_memory footprint parts) t.queue t.target t.number outcome) leave done))

    put-step : (posts : Posts) (q : Queue) (lane : List Entry) (place : ℕ) (e : Entry) (memory : Memory) → slice_get s.posts t.origin ≡ Some posts → slice_get s.memories t.target ≡ Some memory
        → t.target < s.limits.ranks → entry_in posts t.queue t.target t.number ≡ Some e
        → find_entry posts t.queue t.target t.number whys.Put ≡ Ok (record { queue = q; lane = lane; position = place; entry = e })
        → is_none q.broken ≡ true → may_put lane e ≡ true → IsOk (step s (Put t.origin t.queue t.target t.number (put_outcome memory e.kind)))
    put-step posts q lane place e memory hp hm ranked found hf whole permitted =
        let outcome = put_outcome memory e.kind in
        let footprint = event_footprint s.limits posts (Put t.origin t.queue t.target t.number outcome) in
        let parts = parts_of s posts (part_numbers t.origin footprint) in
        let worked = memory_at (put-footprint s.limits.ranks t.origin t.target e.kind) t.origin s.memories in
        let leave = λ (after : PostsAndMemory). (let left : Parts = record (with_accessed_memory footprint parts after.memory) { posts = after.posts } in left) in
        let fits : same_outcome outcome (put_outcome worked e.kind) ≡ true = rw (put-outcome s t.origin t.target memory e.kind hm ranked) (same_outcome-refl outcome) in
        let puts : IsOk (put posts worked t.queue t.target t.number outcome) = rw (hf, whole, permitted, fits) refl in
        let done : IsOk (put posts (accessed_memory footprint parts) t.queue t.target t.number outcome) =
        subst (λ (m : Memory). IsOk (put posts m t.queue t.target t.number outcome)) (sym (put-on_memory s posts t.origin t.queue t.target t.number outcome e found)) puts in
        rw hp (ok-then (put posts (accessed_memory footprint parts) t.queue t.target t.number outcome >>= λ after. Ok (leave after)) (with_parts s t.origin (part_numbers t.origin footprint))
        (ok-then (put posts (accessed_memory footprint parts) t.queue t.target t.number outcome) leave done))

    by-kind : (posts : Posts) (q : Queue) (lane : List Entry) (place : ℕ) (e : Entry) (target : Memory) → slice_get s.posts t.origin ≡ Some posts
        → slice_get s.memories t.target ≡ Some target → t.target < s.limits.ranks → entry_in posts t.queue t.target t.number ≡ Some e
        → ((why : Why) → find_entry posts t.queue t.target t.number why ≡ Ok (record { queue = q; lane = lane; position = place; entry = e }))
        → is_none q.broken ≡ true → (b : Bool) → t.put ≡ b → (if b then may_put lane e else may_take s.limits.depth lane e) ≡ true → IsOk (step s (transfer_event s t))
    by-kind posts q lane place e target hp ht ranked found hf whole true is permitted =
        let event : transfer_event s t ≡ Put t.origin t.queue t.target t.number (put_outcome target e.kind) = rw (is, hp, ht, hf whys.Put) refl in
        subst (λ (x : Event). IsOk (step s x)) (sym event) (put-step posts q lane place e target hp ht ranked found (hf whys.Put) whole permitted)
    by-kind posts q lane place e target hp ht ranked found hf whole false is permitted =
        let event : transfer_event s t ≡ Take t.origin t.queue t.target t.number (take_outcome target e.kind) = rw (is, hp, ht, hf whys.Put) refl in
        subst (λ (x : Event). IsOk (step s x)) (sym event) (take-step posts q lane place e target hp ht ranked found (hf whys.Take) whole permitted)

    go : (posts : Posts) (q : Queue) (lane : List Entry) (place : ℕ) (e : Entry) → IsListed s.limits s.posts t posts q lane place e → IsOk (step s (transfer_event s t))
    go posts q lane place e l =
        let p = sound.posts t.origin posts l.posts_there in
        let target = slice_get_within q.lanes t.target lane l.lane_there in
        let lanes = p.lanes t.queue q l.queue_there in
        let ranked : t.target < s.limits.ranks = omega arith in
        let their = memory-there s t.target sound ranked in
        let rising = p.rising t.queue q l.queue_there t.target lane l.lane_there in
        let at : position_of lane t.number ≡ Some place = subst (λ (n : ℕ). position_of lane n ≡ Some place) (sym l.number) (position_of-rising posts.next lane place e rising l.entry_there) in
        let found = entry-found posts t.queue t.target t.number (record { queue = q; lane = lane; position = place; entry = e })
        (record { in_posts = l.queue_there; in_queue = l.lane_there; numbered = at; in_lane = l.entry_there }) in
        by-kind posts q lane place e their.0 l.posts_there their.1 ranked found
        (λ why. found-entry posts t q lane place e why l.queue_there l.lane_there at l.entry_there) l.whole t.put refl l.permitted
