-- A look that is recorded in the whole state.
use Rattle.std.proofs.Common.{◌≡◌, ℕ, ◌<◌, true, false, List, Option, None, Some, Result, Ok, Err, length, slice_get, slice_set, refl, sym, ap, subst, ◌∙◌}
use Rattle.std.proofs.lemmas.Option.{slice_get_within}
use Rattle.gaspi_types.specs.CallRows.{row_of}
use Rattle.gaspi_types.specs.Replies.{same_reply}
use Rattle.gaspi_types.specs.declared.calls.Call.{Call}
use Rattle.gaspi_types.specs.declared.events.Event.TheVariants.{Called}
use Rattle.gaspi_types.specs.declared.replies.Reply.{Reply}
use Rattle.gaspi_types.specs.declared.replies.Reply.TheVariants as replies
use Rattle.gaspi_types.specs.declared.replies.Ready.{Ready}
use Rattle.gaspi_types.specs.declared.replies.Ready.TheVariants as ready
use Rattle.gaspi_types.specs.declared.shapes.CallerId.{CallerId}
use Rattle.gaspi_types.specs.declared.shapes.Limits.{Limits}
use Rattle.gaspi_types.specs.declared.footprints.Footprint.{Footprint}
use Rattle.gaspi_model.specs.Calls.{answer, recorded_reply}
use Rattle.gaspi_model.specs.CollectiveCalls.{collective_answer, is_reply_of, is_joining}
use Rattle.gaspi_model.specs.State.{thread_at}
use Rattle.gaspi_model.specs.Step.{answer_in, group_in, step, Steps, called, call_message, is_declared, is_there}
use Rattle.gaspi_model.specs.Transfers.{PostsAndMemory}
use Rattle.gaspi_types.specs.Checks.{◌>>=◌}
use Rattle.gaspi_types.specs.declared.groups.Group.{Group}
use Rattle.gaspi_types.specs.declared.inboxes.Message.{Message}
use Rattle.gaspi_model.proofs.Same.{same_reply-same}
use Rattle.plain_calls.specs.Looks.{HasMessage}
use Rattle.plain_calls.proofs.Looked.{message_same}
use Rattle.gaspi_model.specs.declared.states.Posts.{Posts}
use Rattle.gaspi_model.specs.declared.states.Memory.{Memory}
use Rattle.gaspi_model.specs.declared.states.State.{State}
use Rattle.gaspi_model.specs.declared.states.StepFault.{StepFault}
use Rattle.gaspi_model.specs.declared.states.Why.{Why}
use Rattle.gaspi_model.specs.declared.states.Why.TheVariants as whys
use Rattle.plain_calls.specs.declared.looks.Evaluation.{Evaluation}
use Rattle.plain_machine.specs.Looking.{IsEvaluationIn}
use Rattle.plain_machine.specs.Machine.{state_of, state_in}
use Rattle.plain_machine.specs.Footprints.{call_footprint, memory_at, with_memory_at, with_peer_at, PostsAndLentMemory, call_lent}
use Rattle.plain_machine.specs.declared.ranks.RankTables.{RankTables}
use Rattle.plain_machine.proofs.Lifted.{called_steps}
use Rattle.plain_machine.proofs.OnGroups.{completed_err, plain_reply}
use Rattle.plain_machine.proofs.AtFootprints.{called_as, memory_as}

-- a caller that has a section is of a rank that is there
pub record IsThere (s : State) (rank thread : ℕ) : Type 0 where
  pub posts : Posts
  pub item : slice_get s.posts rank ≡ Some posts
  pub there : is_there (thread_at posts thread) ≡ true
  pub within : rank < length s.posts

pub declared_there : (s : State) (rank thread : ℕ) → is_declared s rank thread ≡ true → IsThere s rank thread
declared_there s rank thread declared = by_item (slice_get s.posts rank) refl
  where
    by_item : (o : Option Posts) → slice_get s.posts rank ≡ o → IsThere s rank thread
    by_item None is = absurd (let none = rw is at declared in let no : ⊥ = cc in no)
    by_item (Some posts) is = record { posts = posts; item = is; there = rw is at declared; within = slice_get_within s.posts rank posts is }

-- what a look finds is what the call answers
pub finding_answers : (s : State) (c : CallerId) (call : Call) (look : Evaluation) → is_declared s c.rank c.thread ≡ true → IsEvaluationIn look s c call
    → answer_in s c.rank c.thread call ≡ Some look.ready
finding_answers s c call look declared finds = by_group (row_of call).group refl
  where
    d : IsThere s c.rank c.thread
    d = declared_there s c.rank c.thread declared

    by_group : (o : Option ℕ) → (row_of call).group ≡ o → answer_in s c.rank c.thread call ≡ Some look.ready
    by_group None plain = rw (d.item, plain) (ap (λ (r : Ready). Some r) (sym (finds.finds d.posts d.item plain).ready))
    by_group (Some id) named = rw (d.item, named) (ap (λ (r : Ready). Some r) (sym (finds.meets d.posts id d.item named)))

-- a call that is no step on its rank's posts is none, where it is no collective
pub refused : (s : State) (c : CallerId) (call : Call) (reply : Reply) (p : Posts) (why : Why) → (row_of call).group ≡ None → slice_get s.posts c.rank ≡ Some p
    → called s.limits c.rank p (call_message s c.rank call) (memory_at s.memories c.rank (call_footprint s.limits c.rank call)) c.thread call reply ≡ Err why → step s (Called c call reply) ≡ Err why
refused s c call reply p why plain there is = called_as s c call reply p (call_footprint s.limits c.rank call) plain there refl ∙ (rw there rw is refl)

pub undeclared : (s : State) (c : CallerId) (call : Call) (reply : Reply) → is_declared s c.rank c.thread ≡ false → step s (Called c call reply) ≡ Err whys.Caller
undeclared s c call reply declared = by_item (slice_get s.posts c.rank) refl
  where
    by_item : (o : Option Posts) → slice_get s.posts c.rank ≡ o → step s (Called c call reply) ≡ Err whys.Caller
    by_item None is = rw is refl
    by_item (Some p) is =
        let gone : is_there (thread_at p c.thread) ≡ false = rw is at declared in
        by_group p is gone (row_of call).group refl
      where
        by_group : (p : Posts) → slice_get s.posts c.rank ≡ Some p → is_there (thread_at p c.thread) ≡ false → (o : Option ℕ) → (row_of call).group ≡ o → step s (Called c call reply) ≡ Err whys.Caller
        by_group p is gone None plain = refused s c call reply p whys.Caller plain is (rw gone refl)
        by_group p is gone (Some id) named = completed_err s c call reply id p whys.Caller is named (rw gone refl)

-- one with another reply than what the look found, of a call that is no collective
unanswered_plain : (s : State) (c : CallerId) (call : Call) (reply : Reply) (look : Evaluation) → is_declared s c.rank c.thread ≡ true → (row_of call).group ≡ None → IsEvaluationIn look s c call
    → is_reply_of look.ready reply ≡ false → step s (Called c call reply) ≡ Err whys.Reply
unanswered_plain s c call reply look declared plain finds other =
    let d = declared_there s c.rank c.thread declared in
    let memory = memory_at s.memories c.rank (call_footprint s.limits c.rank call) in
    let ready : look.ready ≡ answer s.limits c.rank d.posts memory c.thread call =
    (finds.finds d.posts d.item plain).ready ∙ ap (λ (m : Memory). answer s.limits c.rank d.posts m c.thread call) (memory_as s c.rank d.posts (call_footprint s.limits c.rank call)) in
    let differs : same_reply reply (recorded_reply (answer s.limits c.rank d.posts memory c.thread call)) ≡ false =
    sym (plain_reply s.limits c.rank d.posts memory c.thread call reply) ∙ subst (λ (r : Ready). is_reply_of r reply ≡ false) ready other in
    refused s c call reply d.posts whys.Reply plain d.item (rw (d.there, differs) refl)

-- one with another reply than what the look found
pub unanswered : (s : State) (c : CallerId) (call : Call) (reply : Reply) (look : Evaluation) → is_declared s c.rank c.thread ≡ true → IsEvaluationIn look s c call
    → is_reply_of look.ready reply ≡ false → step s (Called c call reply) ≡ Err whys.Reply
unanswered s c call reply look declared finds other = by_group (row_of call).group refl
  where
    by_group : (o : Option ℕ) → (row_of call).group ≡ o → step s (Called c call reply) ≡ Err whys.Reply
    by_group None plain = unanswered_plain s c call reply look declared plain finds other
    by_group (Some id) named =
        let d = declared_there s c.rank c.thread declared in
        let differs : is_reply_of (collective_answer d.posts (group_in s id) c.rank c.thread id call) reply ≡ false =
        subst (λ (r : Ready). is_reply_of r reply ≡ false) (finds.meets d.posts id d.item named) other in
        completed_err s c call reply id d.posts whys.Reply d.item named (rw (d.there, differs) refl)

-- what a look brought is as good as what the call brings
pub lent_same : (look : Evaluation) (limits : Limits) (all : List Posts) (message : Option Message) (memory : Memory) (c : CallerId) (call : Call) → HasMessage look message
    → call_lent limits all look.message memory c call (recorded_reply look.ready) ≡ call_lent limits all message memory c call (recorded_reply look.ready)
lent_same look limits all message memory c call brings = by_item (slice_get all c.rank) refl
  where
    by_item : (o : Option Posts) → slice_get all c.rank ≡ o → call_lent limits all look.message memory c call (recorded_reply look.ready) ≡ call_lent limits all message memory c call (recorded_reply look.ready)
    by_item None there = rw there refl
    by_item (Some posts) there =
        rw there (ap (λ (r : Result PostsAndMemory Why). r >>= (λ after. Ok (record { posts = slice_set all c.rank after.posts; memory = after.memory })))
        (message_same look message limits c.rank posts memory c.thread call brings))

-- a new state of ranks whose limits and groups are the same
pub limits_as : (r r' : RankTables) (posts : List Posts) (memories : List Memory) (result : Result (Unit {0}) StepFault) (s : State) (outcome : Result State Why) → r'.limits ≡ r.limits → r'.groups ≡ r.groups
    → Steps result s (state_of r.limits posts memories r.groups) outcome → Steps result s (state_of r'.limits posts memories r'.groups) outcome
limits_as r r' posts memories result s outcome limits groups steps =
    subst (λ (x : Limits). Steps result s (state_of x posts memories r'.groups) outcome) (sym limits)
    (subst (λ (x : List Group). Steps result s (state_of r.limits posts memories x) outcome) (sym groups) steps)

-- a call on the memory that it works on, among the ranks
pub called_ranks : (ranks ranks' : RankTables) (memories : List Memory) (c : CallerId) (call : Call) (look : Evaluation) (footprint : Footprint) (result : Result (Unit {0}) StepFault) (m m' : Memory)
    → (row_of call).group ≡ None → is_declared (state_in ranks memories) c.rank c.thread ≡ true → call_footprint ranks.limits c.rank call ≡ footprint → memory_at memories c.rank footprint ≡ m → with_memory_at memories c.rank footprint m ≡ memories
    → ((change : Posts → Posts) (all : List Posts) → with_peer_at footprint change all ≡ all) → ranks'.limits ≡ ranks.limits → ranks'.groups ≡ ranks.groups → IsEvaluationIn look (state_in ranks memories) c call
    → Steps {S = PostsAndLentMemory} result (record { posts = ranks.posts; memory = m }) (record { posts = ranks'.posts; memory = m' }) (call_lent ranks.limits ranks.posts look.message m c call (recorded_reply look.ready))
    → Steps result (state_in ranks memories) (state_in ranks' (with_memory_at memories c.rank footprint m')) (step (state_in ranks memories) (Called c call (recorded_reply look.ready)))
called_ranks ranks ranks' memories c call look footprint result m m' plain declared is memory kept silent limits groups finds steps =
    limits_as ranks ranks' ranks'.posts (with_memory_at memories c.rank footprint m') result (state_in ranks memories) _ limits groups
    (called_steps (state_in ranks memories) c call (recorded_reply look.ready) footprint result m ranks'.posts m' plain (declared_there (state_in ranks memories) c.rank c.thread declared).within is memory kept silent
    (subst (λ (o : Result PostsAndLentMemory Why). Steps {S = PostsAndLentMemory} result (record { posts = ranks.posts; memory = m }) (record { posts = ranks'.posts; memory = m' }) o)
    (lent_same look ranks.limits ranks.posts (call_message (state_in ranks memories) c.rank call) m c call finds.message) steps))

-- a reply with which a look may be recorded is the one that it has, and it found no join
pub recorded_by : (found : Ready) (reply : Reply) → is_reply_of found reply ≡ true → (is_joining found ≡ false) × (reply ≡ recorded_reply found)
recorded_by (ready.Reply x) reply same = (refl, same_reply-same reply x same)
recorded_by (ready.Join args) reply same = absurd (let no : ⊥ = cc in no)
recorded_by ready.NotReady reply same = (refl, same_reply-same reply replies.Timeout same)
