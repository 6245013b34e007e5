-- The room for the event that records a call, or for that of a join: a step has it, and what has none is no step.
use Rattle.std.proofs.Common.{◌≡◌, ℕ, ◌+◌, ◌*◌, ◌≤◌, Bool, true, false, nat_le, Option, None, Some, Result, Ok, Err, IsOk, slice_get, if◌then◌else◌, refl, sym, subst, ◌∙◌}
use Rattle.std.proofs.lemmas.Bool.{leb-true}
use Rattle.gaspi_types.specs.CallRows.{row_of}
use Rattle.gaspi_types.specs.declared.calls.Call.{Call}
use Rattle.gaspi_types.specs.declared.calls.Call.TheVariants as calls
use Rattle.gaspi_types.specs.declared.events.Event.TheVariants.{Called, Joined}
use Rattle.gaspi_types.specs.declared.groups.Args.{Args}
use Rattle.gaspi_types.specs.declared.replies.Ready.{Ready}
use Rattle.gaspi_types.specs.declared.replies.Reply.{Reply}
use Rattle.gaspi_types.specs.declared.shapes.CallerId.{CallerId}
use Rattle.gaspi_types.specs.Replies.{is_done}
use Rattle.gaspi_model.specs.Calls.{charge, recorded_reply}
use Rattle.gaspi_model.specs.CollectiveCalls.{collective_answer, is_join_of, joining_call, is_joining}
use Rattle.gaspi_model.specs.State.{owed, thread_at}
use Rattle.gaspi_model.specs.Step.{step, group_in, is_declared, is_there, call_message}
use Rattle.gaspi_model.specs.declared.states.Memory.{Memory}
use Rattle.gaspi_model.specs.declared.states.Posts.{Posts}
use Rattle.gaspi_model.specs.declared.states.State.{State}
use Rattle.gaspi_model.specs.declared.states.ThreadState.{ThreadState}
use Rattle.gaspi_model.specs.declared.states.Why.{Why}
use Rattle.gaspi_model.specs.declared.states.Why.TheVariants as whys
use Rattle.gaspi_model.proofs.GroupSteps.{step-completed, step-joined}
use Rattle.gaspi_model.proofs.Made.{step-called}
use Rattle.plain_calls.specs.Looks.{IsEvaluation}
use Rattle.plain_calls.specs.declared.looks.Evaluation.{Evaluation}
use Rattle.plain_calls.proofs.Answered.{on_group_limit}
use Rattle.plain_calls.proofs.Looked.{message_same, look_limit}
use Rattle.plain_machine.specs.Looking.{IsEvaluationIn, HasEventRoom, HasJoinRoom}
use Rattle.plain_machine.specs.Footprints.{call_footprint, memory_at}
use Rattle.plain_machine.proofs.OnGroups.{completed_err, joined_err}
use Rattle.plain_machine.proofs.AtFootprints.{memory_as}
use Rattle.plain_machine.proofs.Recorded.{IsThere, declared_there, refused}

-- a collective is charged for itself
for_itself : (done : Bool) → (if done then 1 + 2 * 0 else 1) ≡ 1
for_itself true = refl
for_itself false = refl

pub collective_charge : (t : ThreadState) (call : Call) (reply : Reply) (id : ℕ) → (row_of call).group ≡ Some id → charge t call reply ≡ 1
collective_charge t (calls.Commit call) reply id named = for_itself (is_done reply)
collective_charge t (calls.Barrier call) reply id named = for_itself (is_done reply)
collective_charge t (calls.Allreduce call) reply id named = for_itself (is_done reply)
collective_charge t (calls.Create call) reply id named = for_itself (is_done reply)
collective_charge t other reply id named = absurd (let no : ⊥ = cc in no)

-- one rank has one state of its posts
one_posts : (s : State) (rank : ℕ) (p posts : Posts) → slice_get s.posts rank ≡ Some p → slice_get s.posts rank ≡ Some posts → p ≡ posts
one_posts s rank p posts at there = (let both : ◌≡◌ {A = Option Posts} (Some p) (Some posts) = sym at ∙ there in cc)

-- what a step says of the room
stepped_room : (s t : State) (c : CallerId) (call : Call) (ready : Ready) → step s (Called c call (recorded_reply ready)) ≡ Ok t → HasEventRoom s.limits s.posts c call ready
stepped_room s t c call ready is posts there = by_group (row_of call).group refl
  where
    by_group : (o : Option ℕ) → (row_of call).group ≡ o → posts.events + owed posts + charge (thread_at posts c.thread) call (recorded_reply ready) ≤ s.limits.events
    by_group None plain =
        let made = step-called s t c call (recorded_reply ready) plain is in
        let fits = leb-true _ _ made.3.is.room in
        subst (λ (p : Posts). p.events + owed p + charge (thread_at p c.thread) call (recorded_reply ready) ≤ s.limits.events) (one_posts s c.rank made.0 posts made.3.posts_there there) fits
    by_group (Some id) named =
        let made = step-completed s t c id call (recorded_reply ready) named is in
        let one = collective_charge (thread_at made.0 c.thread) call (recorded_reply ready) id named in
        let fits = leb-true _ _ made.2.is.room in
        subst (λ (p : Posts). p.events + owed p + charge (thread_at p c.thread) call (recorded_reply ready) ≤ s.limits.events) (one_posts s c.rank made.0 posts made.2.posts_there there) (rw one fits)

pub room_of_step : (s : State) (c : CallerId) (call : Call) (ready : Ready) → IsOk (step s (Called c call (recorded_reply ready))) → HasEventRoom s.limits s.posts c call ready
room_of_step s c call ready is = by_step (step s (Called c call (recorded_reply ready))) refl is
  where
    by_step : (r : Result State Why) → step s (Called c call (recorded_reply ready)) ≡ r → IsOk r → HasEventRoom s.limits s.posts c call ready
    by_step (Ok t) made ok = stepped_room s t c call ready made
    by_step (Err why) made ok = absurd (let no : ⊥ = cc in no)

pub room_of_join : (s : State) (c : CallerId) (id : ℕ) (args : Args) → IsOk (step s (Joined c id args)) → HasJoinRoom s.limits s.posts c.rank
room_of_join s c id args is = by_step (step s (Joined c id args)) refl is
  where
    by_step : (r : Result State Why) → step s (Joined c id args) ≡ r → IsOk r → HasJoinRoom s.limits s.posts c.rank
    by_step (Ok t) stepped ok = λ posts there.
        let made = step-joined s t c id args stepped in
        subst (λ (p : Posts). p.events + owed p + 1 ≤ s.limits.events) (one_posts s c.rank made.0 posts made.2.posts_there there) (leb-true _ _ made.2.is.room)
    by_step (Err why) stepped ok = absurd (let no : ⊥ = cc in no)

-- what has no room is no step
pub full_step : (s : State) (c : CallerId) (call : Call) (look : Evaluation) (p : Posts) → is_declared s c.rank c.thread ≡ true → IsEvaluationIn look s c call → is_joining look.ready ≡ false → slice_get s.posts c.rank ≡ Some p
    → nat_le (p.events + owed p + charge (thread_at p c.thread) call (recorded_reply look.ready)) s.limits.events ≡ false → step s (Called c call (recorded_reply look.ready)) ≡ Err whys.Limit
full_step s c call look p declared finds unjoined at full = by_group (row_of call).group refl
  where
    d : IsThere s c.rank c.thread
    d = declared_there s c.rank c.thread declared

    by_group : (o : Option ℕ) → (row_of call).group ≡ o → step s (Called c call (recorded_reply look.ready)) ≡ Err whys.Limit
    by_group None plain =
        let there = subst (λ (x : Posts). is_there (thread_at x c.thread) ≡ true) (one_posts s c.rank d.posts p d.item at) d.there in
        let found = subst (λ (m : Memory). IsEvaluation look s.limits c.rank p m c.thread call) (memory_as s c.rank p (call_footprint s.limits c.rank call)) (finds.finds p at plain) in
        refused s c call (recorded_reply look.ready) p whys.Limit plain at
        (sym (message_same look (call_message s c.rank call) s.limits c.rank p (memory_at s.memories c.rank (call_footprint s.limits c.rank call)) c.thread call finds.message)
        ∙ look_limit look s.limits c.rank p (memory_at s.memories c.rank (call_footprint s.limits c.rank call)) c.thread call found there full)
    by_group (Some id) named =
        let there = subst (λ (x : Posts). is_there (thread_at x c.thread) ≡ true) (one_posts s c.rank d.posts p d.item at) d.there in
        let one = collective_charge (thread_at p c.thread) call (recorded_reply look.ready) id named in
        completed_err s c call (recorded_reply look.ready) id p whys.Limit at named
        (on_group_limit s.limits c.rank p (group_in s id) c.thread id call look.ready there (finds.meets p id at named) unjoined (rw one at full))

pub full_join : (s : State) (c : CallerId) (id : ℕ) (args : Args) (p : Posts) → is_declared s c.rank c.thread ≡ true → slice_get s.posts c.rank ≡ Some p
    → is_join_of (collective_answer p (group_in s id) c.rank c.thread id (joining_call id args)) args ≡ true → nat_le (p.events + owed p + 1) s.limits.events ≡ false → step s (Joined c id args) ≡ Err whys.Limit
full_join s c id args p declared at joins full =
    let d = declared_there s c.rank c.thread declared in
    let there = subst (λ (x : Posts). is_there (thread_at x c.thread) ≡ true) (one_posts s c.rank d.posts p d.item at) d.there in
    joined_err s c id args p whys.Limit at (rw (there, joins, full) refl)
