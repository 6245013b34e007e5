-- What a collective met that may join, and one whose round is full.
use Rattle.std.proofs.Common.{◌≡◌, ◌==◌, ℕ, ◌+◌, ◌<◌, ◌^◌, ◌&&◌, Bool, true, false, not, cond, nat_le, nat_lt, Option, None, Some, Result, Ok, Err, refl, sym, ap, subst, ◌∙◌, arith}
use Rattle.std.proofs.lemmas.Bool.Decides.{nat_tests}
use Rattle.gaspi_types.specs.Checks.{check, ok_or}
use Rattle.gaspi_types.specs.Collectives.{resume, is_round_full}
use Rattle.gaspi_types.specs.Replies.{is_idle}
use Rattle.gaspi_types.specs.SegmentTables.{alloc_checks}
use Rattle.gaspi_types.specs.Tables.{item_at}
use Rattle.gaspi_types.specs.World.{are_limits}
use Rattle.gaspi_types.specs.declared.calls.Call.{Call}
use Rattle.gaspi_types.specs.declared.calls.Call.TheVariants as calls
use Rattle.gaspi_types.specs.declared.collectives.Coll.{Coll}
use Rattle.gaspi_types.specs.declared.collectives.Coll.TheVariants.{Create}
use Rattle.gaspi_types.specs.declared.groups.Args.{Args}
use Rattle.gaspi_types.specs.declared.groups.Group.{Group}
use Rattle.gaspi_types.specs.declared.groups.Handle.{Handle}
use Rattle.gaspi_types.specs.declared.groups.PendingCollective.{PendingCollective}
use Rattle.gaspi_types.specs.declared.groups.Resume.{Resume}
use Rattle.gaspi_types.specs.declared.groups.Resume.TheVariants.{Fresh, Same}
use Rattle.gaspi_types.specs.declared.replies.Ready.{Ready}
use Rattle.gaspi_types.specs.declared.replies.Ready.TheVariants as ready
use Rattle.gaspi_types.specs.declared.replies.Refusal.{Refusal}
use Rattle.gaspi_types.specs.declared.replies.Refusal.TheVariants.{BadSize, ActiveCollective, ResumeOther}
use Rattle.gaspi_types.specs.declared.replies.Reply.{Reply}
use Rattle.gaspi_types.specs.declared.replies.Reply.TheVariants as replies
use Rattle.gaspi_types.specs.declared.shapes.Limits.{Limits}
use Rattle.gaspi_types.proofs.Chains.{bind_then, found_there, both}
use Rattle.gaspi_model.specs.Calls.{recorded_reply}
use Rattle.gaspi_model.specs.CollectiveCalls.{element_checks, staged_at, plain_args, args_of, segment_checks, agreement_checks, fresh_result, full_reply, resume_result, collective_result, collective_ready, collective_answer, is_reply_of, is_join_of, joining_call, is_joining}
use Rattle.gaspi_model.specs.Sound.{IsSoundPosts}
use Rattle.gaspi_model.specs.State.{thread_at, is_running, owed}
use Rattle.gaspi_model.specs.Step.{completed, is_there}
use Rattle.gaspi_model.specs.declared.states.Posts.{Posts}
use Rattle.gaspi_model.specs.declared.states.Why.TheVariants as whys
use Rattle.gaspi_model.proofs.Listed.Enabled.{same_reply-refl}
use Rattle.plain_calls.specs.NumberBounds.{JoinIsBounded, CompletionIsBounded}
use Rattle.plain_calls.specs.Rounds.{posts_after_collective, group_after_collective}
use Rattle.plain_calls.proofs.CallBounds.{alloc_room}
use Rattle.plain_calls.proofs.Rounds.{same_args-same}

-- a look that found more than a refusal
abbrev pub is_more : Ready → Bool
is_more (ready.Reply reply) = not (is_idle reply)
is_more (ready.Join args) = true
is_more ready.NotReady = true

found_more : (r : Result Ready Refusal) (found : Ready) → collective_ready r ≡ found → is_more found ≡ true → r ≡ Ok found
found_more (Ok x) found is more = ap (λ (y : Ready). Ok y) is
found_more (Err e) found is more = absurd (let refused = rw (← is) at more in let no : ⊥ = cc in no)

-- what it met
pub record IsMet (posts : Posts) (g : Group) (me thread id : ℕ) (call : Call) (found : Ready) : Type 0 where
  pub handle : Handle
  pub resumed : Resume
  pub resumes : resume (item_at posts.pending id) thread (args_of handle.members call) ≡ Ok resumed
  pub finds : resume_result resumed posts g me handle.members call ≡ Ok found

on_group_by : (posts : Posts) (g : Group) (me thread id : ℕ) (call : Call) (found : Ready) → collective_result posts g me thread id call ≡ Ok found → IsMet posts g me thread id call found
on_group_by posts g me thread id call found is =
    bind_then (element_checks call) _ _ is (λ u elements more.
    bind_then (staged_at posts.groups me id call) _ _ more (λ handle staged more.
    bind_then (resume (item_at posts.pending id) thread (args_of handle.members call)) _ _ more (λ resumed resumes finds.
    record { handle = handle; resumed = resumed; resumes = resumes; finds = finds })))

pub answer_on_group : (posts : Posts) (g : Group) (me thread id : ℕ) (call : Call) (found : Ready) → collective_answer posts g me thread id call ≡ found → is_more found ≡ true
    → IsMet posts g me thread id call found
answer_on_group posts g me thread id call found is more = by_running (is_running (thread_at posts thread)) refl
  where
    by_running : (running : Bool) → is_running (thread_at posts thread) ≡ running → IsMet posts g me thread id call found
    by_running true runs = on_group_by posts g me thread id call found (found_more (collective_result posts g me thread id call) found (rw runs at is) more)
    by_running false ended = absurd (let refused = rw ended at is in let none = rw (← refused) at more in let no : ⊥ = cc in no)

-- one that may join: its arguments, and the segment that it makes is free
pub record IsJoin (posts : Posts) (members : ℕ) (call : Call) (args : Args) : Type 0 where
  pub free : segment_checks posts call ≡ Ok tt
  pub args_are : args_of members call ≡ Some args

fresh_join : (posts : Posts) (g : Group) (me members : ℕ) (call : Call) (args : Args) → fresh_result posts g me members call ≡ Ok (ready.Join args) → IsJoin posts members call args
fresh_join posts g me members call args is =
    bind_then (segment_checks posts call) _ _ is (λ u free more.
    bind_then (ok_or (args_of members call) BadSize) _ _ more (λ asked asks more.
    bind_then (agreement_checks g me asked.coll) _ _ more (λ u meets more.
    joins u free asked asks more)))
  where
    joins : (u : Unit {0}) → segment_checks posts call ≡ Ok u → (asked : Args) → ok_or (args_of members call) BadSize ≡ Ok asked → ◌≡◌ {A = Result Ready Refusal} (Ok (ready.Join asked)) (Ok (ready.Join args))
        → IsJoin posts members call args
    joins u free asked asks same =
        let is : asked ≡ args = cc in
        record { free = free; args_are = found_there (args_of members call) BadSize asked asks ∙ ap (λ (a : Args). Some a) is }

resumed_join : (full : Bool) (reply : Reply) (args : Args) → ◌≡◌ {A = Result Ready Refusal} (Ok (cond full (ready.Reply reply) ready.NotReady)) (Ok (ready.Join args)) → ⊥
resumed_join true reply args is = cc
resumed_join false reply args is = cc

pub answer_join : (posts : Posts) (g : Group) (me thread id : ℕ) (call : Call) (args : Args) → collective_answer posts g me thread id call ≡ ready.Join args → (members : ℕ) × IsJoin posts members call args
answer_join posts g me thread id call args is =
    let met = answer_on_group posts g me thread id call (ready.Join args) is refl in
    (met.handle.members, by_resumed met.resumed met.handle.members met.finds)
  where
    by_resumed : (resumed : Resume) (members : ℕ) → resume_result resumed posts g me members call ≡ Ok (ready.Join args) → IsJoin posts members call args
    by_resumed Fresh members finds = fresh_join posts g me members call args finds
    by_resumed Same members finds = absurd (resumed_join (is_round_full g me) (full_reply g me call) args finds)

-- a test that says it may join
pub joins_with : (found : Ready) (args : Args) → is_join_of found args ≡ true → found ≡ ready.Join args
joins_with (ready.Reply reply) args is = absurd (let no : ⊥ = cc in no)
joins_with (ready.Join may) args is = ap (λ (a : Args). ready.Join a) (same_args-same may args is)
joins_with ready.NotReady args is = absurd (let no : ⊥ = cc in no)

-- its segment has room
making_by : (limits : Limits) (posts : Posts) (id : ℕ) (args : Args) (coll : Coll) → args.coll ≡ coll → are_limits limits ≡ true → IsSoundPosts limits posts
    → segment_checks posts (joining_call id args) ≡ Ok tt → JoinIsBounded posts coll
making_by limits posts id args (Create seg size) is limited sound free =
    let free : alloc_checks posts.segments.own seg size ≡ Ok tt = rw is at free in
    alloc_room limits posts (record { seg = seg; size = size }) replies.Done limited sound (rw free refl)
making_by limits posts id args coll is limited sound free = tt

pub making_room : (limits : Limits) (posts : Posts) (g : Group) (me thread id : ℕ) (args : Args) → are_limits limits ≡ true → IsSoundPosts limits posts
    → is_join_of (collective_answer posts g me thread id (joining_call id args)) args ≡ true → JoinIsBounded posts args.coll
making_room limits posts g me thread id args limited sound joins =
    let found = answer_join posts g me thread id (joining_call id args) args (joins_with _ args joins) in
    making_by limits posts id args args.coll refl limited sound found.1.free

-- the size that a segment_create makes known fits

fresh_reply : (posts : Posts) (g : Group) (me members : ℕ) (call : Call) (reply : Reply) → fresh_result posts g me members call ≡ Ok (ready.Reply reply) → ⊥
fresh_reply posts g me members call reply is =
    bind_then (segment_checks posts call) _ _ is (λ u free more.
    bind_then (ok_or (args_of members call) BadSize) _ _ more (λ asked asks more.
    bind_then (agreement_checks g me asked.coll) _ _ more (λ u meets more.
    no u asked more)))
  where
    no : (u : Unit {0}) (asked : Args) → ◌≡◌ {A = Result Ready Refusal} (Ok (ready.Join asked)) (Ok (ready.Reply reply)) → ⊥
    no u asked same = cc

-- one that is resumed has arguments
resumed_args : (pending : Option PendingCollective) (thread : ℕ) → resume pending thread None ≡ Ok Same → ⊥
resumed_args None thread is = cc
resumed_args (Some p) thread is = bind_then (check (p.thread == thread) (ActiveCollective p.thread)) (λ mine. Err (ResumeOther p.args.coll)) Same is (λ u mine more. let no : ⊥ = cc in no)

create_fits : (pending : Option PendingCollective) (thread seg size : ℕ) (fits : Bool) → (nat_lt seg 4294967296 && nat_lt size 4294967296) ≡ fits
    → resume pending thread (cond fits (Some (plain_args (Create seg size))) None) ≡ Ok Same → size < 2 ^ 32
create_fits pending thread seg size true fits is = let parts = both (nat_lt seg 4294967296) (nat_lt size 4294967296) fits in let less = parts.1 in grind (arith, nat_tests, less)
create_fits pending thread seg size false fits is = absurd (resumed_args pending thread is)

telling_by : (posts : Posts) (g : Group) (me thread id : ℕ) (call : Call) (reply : Reply) → IsMet posts g me thread id call (ready.Reply reply) → CompletionIsBounded call
telling_by posts g me thread id (calls.Create call) reply met = by_resumed met.resumed met.resumes met.finds
  where
    by_resumed : (resumed : Resume) → resume (item_at posts.pending id) thread (args_of met.handle.members (calls.Create call)) ≡ Ok resumed
        → resume_result resumed posts g me met.handle.members (calls.Create call) ≡ Ok (ready.Reply reply) → call.size < 2 ^ 32
    by_resumed Fresh resumes finds = absurd (fresh_reply posts g me met.handle.members (calls.Create call) reply finds)
    by_resumed Same resumes finds = create_fits (item_at posts.pending id) thread call.seg call.size (nat_lt call.seg 4294967296 && nat_lt call.size 4294967296) refl resumes
telling_by posts g me thread id call reply met = tt

pub telling_room : (posts : Posts) (g : Group) (me thread id : ℕ) (call : Call) (found : Ready) → found ≡ collective_answer posts g me thread id call → is_joining found ≡ false
    → is_idle (recorded_reply found) ≡ false → CompletionIsBounded call
telling_room posts g me thread id call (ready.Reply reply) is unjoined busy =
    telling_by posts g me thread id call reply (answer_on_group posts g me thread id call (ready.Reply reply) (sym is) (rw busy refl))
telling_room posts g me thread id call (ready.Join args) is unjoined busy = absurd (let no : ⊥ = cc in no)
telling_room posts g me thread id call ready.NotReady is unjoined busy = absurd (let no : ⊥ = cc in no)

-- The step, where the rank has room and where it has none.

pub records : (found : Ready) → is_joining found ≡ false → is_reply_of found (recorded_reply found) ≡ true
records (ready.Reply reply) unjoined = same_reply-refl reply
records (ready.Join args) unjoined = absurd (let no : ⊥ = cc in no)
records ready.NotReady unjoined = refl

answered : (posts : Posts) (g : Group) (me thread id : ℕ) (call : Call) (found : Ready) → found ≡ collective_answer posts g me thread id call → is_joining found ≡ false
    → is_reply_of (collective_answer posts g me thread id call) (recorded_reply found) ≡ true
answered posts g me thread id call found is unjoined = subst (λ (r : Ready). is_reply_of r (recorded_reply found) ≡ true) is (records found unjoined)

pub on_group_limit : (limits : Limits) (me : ℕ) (posts : Posts) (g : Group) (thread id : ℕ) (call : Call) (found : Ready) → is_there (thread_at posts thread) ≡ true
    → found ≡ collective_answer posts g me thread id call → is_joining found ≡ false → nat_le (posts.events + owed posts + 1) limits.events ≡ false
    → completed limits me posts g thread id call (recorded_reply found) ≡ Err whys.Limit
on_group_limit limits me posts g thread id call found there is unjoined full = rw (there, answered posts g me thread id call found is unjoined, full) refl

pub on_group_steps : (limits : Limits) (me : ℕ) (posts : Posts) (g : Group) (thread id : ℕ) (call : Call) (found : Ready) → is_there (thread_at posts thread) ≡ true
    → found ≡ collective_answer posts g me thread id call → is_joining found ≡ false → nat_le (posts.events + owed posts + 1) limits.events ≡ true
    → completed limits me posts g thread id call (recorded_reply found) ≡ Ok (record { posts = posts_after_collective posts g me id call (recorded_reply found); group = group_after_collective g me (recorded_reply found) })
on_group_steps limits me posts g thread id call found there is unjoined room = rw (there, answered posts g me thread id call found is unjoined, room) refl
