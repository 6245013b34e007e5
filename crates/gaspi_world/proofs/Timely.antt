-- No look at a call answers with a timeout: that is only recorded.
use Rattle.std.proofs.Common.{◌≡◌, ℕ, ◌+◌, Bool, true, false, nat_lt, nat_le, List, length, Option, None, Some, Result, Ok, Err, refl, ap, if◌then◌else◌}
use Rattle.std.specs.List.{slice_get, list_any}
use Rattle.std.specs.Option.{option_map}
use Rattle.gaspi_types.specs.CallRows.{row_of}
use Rattle.gaspi_types.specs.Checks.{◌>>=◌, check, ok_or, err_if_some}
use Rattle.gaspi_types.specs.Collectives.{resume, is_round_full}
use Rattle.gaspi_types.specs.Groups.{next_group, building_at, delete_checks, idle_checks}
use Rattle.gaspi_types.specs.Inboxes.{passive_checks, has_room, first_within}
use Rattle.gaspi_types.specs.Lanes.{has_awaited}
use Rattle.gaspi_types.specs.Queues.{user_of}
use Rattle.gaspi_types.specs.Replies.{is_idle}
use Rattle.gaspi_types.specs.SegmentTables.{extent_in, known_extent, alloc_checks, own_range_checks}
use Rattle.gaspi_types.specs.SegmentWords.{word_checks}
use Rattle.gaspi_types.specs.Segments.{is_generation}
use Rattle.gaspi_types.specs.Slots.{is_slot_range, first_set}
use Rattle.gaspi_types.specs.Tables.{item_at}
use Rattle.gaspi_types.specs.declared.call_rows.Posting.{Posting}
use Rattle.gaspi_types.specs.declared.calls.Call.{Call}
use Rattle.gaspi_types.specs.declared.calls.Call.TheVariants as calls
use Rattle.gaspi_types.specs.declared.entries.Kind.{Kind}
use Rattle.gaspi_types.specs.declared.groups.Group.{Group}
use Rattle.gaspi_types.specs.declared.groups.Resume.{Resume}
use Rattle.gaspi_types.specs.declared.groups.Resume.TheVariants.{Fresh, Same}
use Rattle.gaspi_types.specs.declared.inboxes.Message.{Message}
use Rattle.gaspi_types.specs.declared.replies.Ready.{Ready}
use Rattle.gaspi_types.specs.declared.replies.Ready.TheVariants as ready
use Rattle.gaspi_types.specs.declared.replies.Refusal.{Refusal}
use Rattle.gaspi_types.specs.declared.replies.Refusal.TheVariants as refusals
use Rattle.gaspi_types.specs.declared.replies.Reply.{Reply}
use Rattle.gaspi_types.specs.declared.replies.Reply.TheVariants as replies
use Rattle.gaspi_types.specs.declared.shapes.Limits.{Limits}
use Rattle.gaspi_types.proofs.Chains.{bind_then}
use Rattle.gaspi_model.specs.AtomicCalls.{word_result}
use Rattle.gaspi_model.specs.Calls.{plain_result, requested_kinds, call_result, answer_of_result, answer}
use Rattle.gaspi_model.specs.CollectiveCalls.{element_checks, staged_at, args_of, segment_checks, agreement_checks, full_reply, resumed_answer, resume_result, collective_result, collective_ready, collective_answer}
use Rattle.gaspi_model.specs.Memories.{slots_of}
use Rattle.gaspi_model.specs.PostCalls.{post_request_result}
use Rattle.gaspi_model.specs.State.{thread_at, is_running, segment_at}
use Rattle.gaspi_model.specs.Step.{answer_in, answer_for, group_in, call_memory}
use Rattle.gaspi_model.specs.declared.states.Memory.{Memory}
use Rattle.gaspi_model.specs.declared.states.Posts.{Posts}
use Rattle.gaspi_model.specs.declared.states.State.{State}

-- What a call finds is no timeout.

abbrev IsNoTimeout : Result (Option Reply) Refusal → Type 0
IsNoTimeout finds = finds ≡ Ok (Some replies.Timeout) → ⊥

-- a chain of steps does not end so where what follows the first never does
chained : {A B : Type 0} (r : Result A Refusal) (f : A → Result B Refusal) (y : B) → ((x : A) → f x ≡ Ok y → ⊥) → (r >>= f) ≡ Ok y → ⊥
chained r f y every h = bind_then r f y h (λ x is. every x)

-- a reply that is neither a timeout nor a refusal
awake : (reply : Reply) → is_idle reply ≡ false → reply ≡ replies.Timeout → ⊥
awake reply is same = let idle : is_idle reply ≡ true = ap is_idle same in let no : ⊥ = cc in no

replies-so : (reply : Reply) → is_idle reply ≡ false → IsNoTimeout (Ok (Some reply))
replies-so reply is h = awake reply is (let same : reply ≡ replies.Timeout = cc in same)

-- a call that may not be ready
done-unless : (b : Bool) → IsNoTimeout (Ok (if b then None else Some replies.Done))
done-unless true h = (let no : ⊥ = cc in no)
done-unless false h = (let no : ⊥ = cc in no)

done-where : (b : Bool) → IsNoTimeout (Ok (if b then Some replies.Done else None))
done-where true h = (let no : ⊥ = cc in no)
done-where false h = (let no : ⊥ = cc in no)

named : {A : Type 0} (f : A → ℕ) (o : Option A) → IsNoTimeout (Ok (option_map (λ (x : A). replies.Id (f x)) o))
named f None h = (let no : ⊥ = cc in no)
named f (Some x) h = (let no : ⊥ = cc in no)

-- an atomic
word-none : (limits : Limits) (me : ℕ) (posts : Posts) (memory : Memory) (seg offset rank : ℕ) → IsNoTimeout (word_result limits me posts memory seg offset rank)
word-none limits me posts memory seg offset rank =
    chained (check (nat_lt rank limits.ranks) refusals.BadRank) _ _ (λ ranked.
    chained (ok_or (known_extent me posts.segments rank seg) refusals.Unregistered) _ _ (λ theirs.
    chained (check (is_generation theirs.generation (segment_at memory seg)) refusals.Unregistered) _ _ (λ there.
    chained (word_checks theirs.size offset) _ _ (λ fits. replies-so _ refl))))

-- a call that posts
asked-none : (limits : Limits) (posts : Posts) (rank queue : ℕ) (asked : Result (List Kind) Refusal) → IsNoTimeout (post_request_result limits posts rank queue asked)
asked-none limits posts rank queue asked =
    chained (check (nat_lt rank limits.ranks) refusals.BadRank) _ _ (λ ranked.
    chained (ok_or (slice_get posts.queues queue) refusals.BadQueue) _ _ (λ q.
    chained asked _ _ (λ kinds.
    chained (err_if_some q.broken refusals.QueueBroken) _ _ (λ whole.
    chained (check (nat_le (q.open_count + length kinds) limits.depth) (refusals.QueueFull q.open_count (length kinds))) _ _ (λ room. replies-so _ refl)))))

-- a call that posts nothing
plain-none : (limits : Limits) (me : ℕ) (posts : Posts) (memory : Memory) (call : Call) → IsNoTimeout (plain_result limits me posts memory call)
plain-none limits me posts memory (calls.Alloc call) = chained (alloc_checks posts.segments.own call.seg call.size) _ _ (λ fits. replies-so _ refl)
plain-none limits me posts memory (calls.Register call) =
    chained (check (nat_lt call.rank limits.ranks) refusals.BadRank) _ _ (λ ranked.
    chained (ok_or (extent_in posts.segments.own call.seg) refusals.NoSegment) _ _ (λ mine. replies-so _ refl))
plain-none limits me posts memory (calls.Delete call) =
    chained (ok_or (extent_in posts.segments.own call.seg) refusals.NoSegment) _ _ (λ mine.
    chained (err_if_some (user_of posts.queues call.seg) refusals.SegmentBusy) _ _ (λ unused. replies-so _ refl))
plain-none limits me posts memory (calls.Store call) = chained (own_range_checks posts.segments.own call.seg call.offset (length call.bytes)) _ _ (λ fits. replies-so _ refl)
plain-none limits me posts memory (calls.Load call) = chained (own_range_checks posts.segments.own call.seg call.offset call.size) _ _ (λ fits. replies-so _ refl)
plain-none limits me posts memory (calls.Wait call) =
    chained (ok_or (slice_get posts.queues call.queue) refusals.BadQueue) _ _ (λ q.
    chained (err_if_some q.broken refusals.QueueBroken) _ _ (λ whole. done-unless (list_any has_awaited q.lanes)))
plain-none limits me posts memory (calls.Purge call) = chained (ok_or (slice_get posts.queues call.queue) refusals.BadQueue) _ _ (λ q. replies-so _ refl)
plain-none limits me posts memory (calls.Qsize call) = chained (ok_or (slice_get posts.queues call.queue) refusals.BadQueue) _ _ (λ q. replies-so _ refl)
plain-none limits me posts memory (calls.Waitsome call) =
    chained (ok_or (extent_in posts.segments.own call.seg) refusals.NoSegment) _ _ (λ mine.
    chained (check (is_slot_range call.begin call.num limits.notes) refusals.BadNote) _ _ (λ noted.
    named (λ (n : ℕ). n) (first_set (slots_of memory call.seg) call.begin call.num)))
plain-none limits me posts memory (calls.Reset call) =
    chained (ok_or (extent_in posts.segments.own call.seg) refusals.NoSegment) _ _ (λ mine.
    chained (check (nat_lt call.note limits.notes) refusals.BadNote) _ _ (λ noted. replies-so _ refl))
plain-none limits me posts memory (calls.PassiveSend call) =
    chained (check (nat_lt call.rank limits.ranks) refusals.BadRank) _ _ (λ ranked.
    chained (passive_checks posts.segments.own call.seg call.offset call.size) _ _ (λ fits. done-where (has_room limits.inbox memory.inbox)))
plain-none limits me posts memory (calls.PassiveReceive call) =
    chained (passive_checks posts.segments.own call.seg call.offset call.size) _ _ (λ fits.
    chained (first_within call.size memory.inbox) _ _ (λ message. named (λ (m : Message). m.sender) message))
plain-none limits me posts memory (calls.FetchAdd call) = word-none limits me posts memory call.seg call.offset call.rank
plain-none limits me posts memory (calls.CompareSwap call) = word-none limits me posts memory call.seg call.offset call.rank
plain-none limits me posts memory calls.GroupCreate = chained (next_group posts.groups) _ _ (λ id. replies-so _ refl)
plain-none limits me posts memory (calls.GroupAdd call) =
    chained (check (nat_lt call.rank limits.ranks) refusals.BadRank) _ _ (λ ranked.
    chained (building_at posts.groups call.group) _ _ (λ handle.
    chained (idle_checks posts.pending call.group) _ _ (λ idle. replies-so _ refl)))
plain-none limits me posts memory (calls.GroupDelete call) =
    chained (delete_checks posts.groups call.group) _ _ (λ there.
    chained (idle_checks posts.pending call.group) _ _ (λ idle. replies-so _ refl))
plain-none limits me posts memory calls.State = replies-so _ refl
plain-none limits me posts memory call = replies-so replies.Done refl

call-none : (limits : Limits) (me : ℕ) (posts : Posts) (memory : Memory) (call : Call) → IsNoTimeout (call_result limits me posts memory call)
call-none limits me posts memory call h = go (row_of call).posting refl
  where
    go : (o : Option Posting) → (row_of call).posting ≡ o → ⊥
    go None posts_none = plain-none limits me posts memory call (rw posts_none at h)
    go (Some to) posts_to = asked-none limits posts to.rank to.queue (requested_kinds limits me posts call) (rw posts_to at h)

-- Nor is what a look at it answers.

abbrev IsTimely : Ready → Type 0
IsTimely ok_or = ok_or ≡ ready.Reply replies.Timeout → ⊥

ready-timely : (finds : Result (Option Reply) Refusal) → IsNoTimeout finds → IsTimely (answer_of_result finds)
ready-timely (Ok None) none h = (let no : ⊥ = cc in no)
ready-timely (Ok (Some reply)) none h = none (let same : reply ≡ replies.Timeout = cc in ap (λ (r : Reply). Ok (Some r)) same)
ready-timely (Err refusal) none h = (let no : ⊥ = cc in no)

plain-timely : (limits : Limits) (me : ℕ) (posts : Posts) (memory : Memory) (thread : ℕ) (call : Call) → IsTimely (answer limits me posts memory thread call)
plain-timely limits me posts memory thread call h = go (is_running (thread_at posts thread)) refl
  where
    go : (b : Bool) → is_running (thread_at posts thread) ≡ b → ⊥
    go true runs = ready-timely (call_result limits me posts memory call) (call-none limits me posts memory call) (rw runs at h)
    go false ended = (let refused : ready.Reply (replies.Refused refusals.CallerEnded) ≡ ready.Reply replies.Timeout = rw ended at h in let no : ⊥ = cc in no)

-- Nor what a look at a collective answers.

full-awake : (g : Group) (me : ℕ) (call : Call) → is_idle (full_reply g me call) ≡ false
full-awake g me (calls.Allreduce call) = refl
full-awake g me call = refl

resumed-timely : (g : Group) (me : ℕ) (call : Call) → IsTimely (resumed_answer g me call)
resumed-timely g me call h = go (is_round_full g me) refl
  where
    go : (b : Bool) → is_round_full g me ≡ b → ⊥
    go true full = (let replied : ready.Reply (full_reply g me call) ≡ ready.Reply replies.Timeout = rw full at h in awake (full_reply g me call) (full-awake g me call) (let same : full_reply g me call ≡ replies.Timeout = cc in same))
    go false late = (let none : ready.NotReady ≡ ready.Reply replies.Timeout = rw late at h in let no : ⊥ = cc in no)

on_group-timely : (r : Resume) (posts : Posts) (g : Group) (me members : ℕ) (call : Call) → resume_result r posts g me members call ≡ Ok (ready.Reply replies.Timeout) → ⊥
on_group-timely Fresh posts g me members call =
    chained (segment_checks posts call) _ _ (λ free.
    chained (ok_or (args_of members call) refusals.BadSize) _ _ (λ args.
    chained (agreement_checks g me args.coll) _ _ (λ meets h. (let no : ⊥ = cc in no))))
on_group-timely Same posts g me members call = λ h. resumed-timely g me call (let same : resumed_answer g me call ≡ ready.Reply replies.Timeout = cc in same)

collective-none : (posts : Posts) (g : Group) (me thread id : ℕ) (call : Call) → collective_result posts g me thread id call ≡ Ok (ready.Reply replies.Timeout) → ⊥
collective-none posts g me thread id call =
    chained (element_checks call) _ _ (λ elements.
    chained (staged_at posts.groups me id call) _ _ (λ handle.
    chained (resume (item_at posts.pending id) thread (args_of handle.members call)) _ _ (λ resumed. on_group-timely resumed posts g me handle.members call)))

collective-ready-timely : (finds : Result Ready Refusal) → (finds ≡ Ok (ready.Reply replies.Timeout) → ⊥) → IsTimely (collective_ready finds)
collective-ready-timely (Ok found) none h = none (ap (λ (r : Ready). Ok r) h)
collective-ready-timely (Err refusal) none h = (let no : ⊥ = cc in no)

collective-timely : (posts : Posts) (g : Group) (me thread id : ℕ) (call : Call) → IsTimely (collective_answer posts g me thread id call)
collective-timely posts g me thread id call h = go (is_running (thread_at posts thread)) refl
  where
    go : (b : Bool) → is_running (thread_at posts thread) ≡ b → ⊥
    go true runs = collective-ready-timely (collective_result posts g me thread id call) (collective-none posts g me thread id call) (rw runs at h)
    go false ended = (let refused : ready.Reply (replies.Refused refusals.CallerEnded) ≡ ready.Reply replies.Timeout = rw ended at h in let no : ⊥ = cc in no)

answer-timely : (s : State) (rank thread : ℕ) (call : Call) (posts : Posts) (group : Option ℕ) → IsTimely (answer_for s rank thread call posts group)
answer-timely s rank thread call posts None = plain-timely s.limits rank posts (call_memory s rank posts call) thread call
answer-timely s rank thread call posts (Some id) = collective-timely posts (group_in s id) rank thread id call

pub never-timeout : (s : State) (rank thread : ℕ) (call : Call) → answer_in s rank thread call ≡ Some (ready.Reply replies.Timeout) → ⊥
never-timeout s rank thread call is = go (slice_get s.posts rank) refl
  where
    go : (o : Option Posts) → slice_get s.posts rank ≡ o → ⊥
    go None there = (let none : ◌≡◌ {A = Option Ready} None (Some (ready.Reply replies.Timeout)) = rw there at is in let no : ⊥ = cc in no)
    go (Some posts) there =
        let answers : ◌≡◌ {A = Option Ready} (Some (answer_for s rank thread call posts (row_of call).group)) (Some (ready.Reply replies.Timeout)) = rw there at is in
        answer-timely s rank thread call posts (row_of call).group (let same : answer_for s rank thread call posts (row_of call).group ≡ ready.Reply replies.Timeout = cc in same)
