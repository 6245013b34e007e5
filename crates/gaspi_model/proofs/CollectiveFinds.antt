-- What a collective that is done, and one that may join, has found.
use Rattle.std.proofs.Common.{◌≡◌, ℕ, Bool, true, false, ◌==◌, Option, None, Some, Result, Ok, Err, refl, sym, ap, ◌∙◌, subst, if◌then◌else◌}
use Rattle.std.proofs.lemmas.Bool.{eqb-true}
use Rattle.gaspi_types.specs.Collectives.{resume, has_same_args, is_round_full}
use Rattle.gaspi_types.specs.Replies.{is_idle}
use Rattle.gaspi_types.specs.Tables.{item_at}
use Rattle.gaspi_types.specs.declared.calls.Call.{Call}
use Rattle.gaspi_types.specs.declared.groups.Args.{Args}
use Rattle.gaspi_types.specs.declared.groups.Group.{Group}
use Rattle.gaspi_types.specs.declared.groups.Handle.{Handle}
use Rattle.gaspi_types.specs.declared.groups.PendingCollective.{PendingCollective}
use Rattle.gaspi_types.specs.declared.groups.Resume.{Resume}
use Rattle.gaspi_types.specs.declared.groups.Resume.TheVariants.{Fresh, Same}
use Rattle.gaspi_types.specs.declared.replies.Ready.{Ready}
use Rattle.gaspi_types.specs.declared.replies.Ready.TheVariants as ready
use Rattle.gaspi_types.specs.declared.replies.Refusal.{Refusal}
use Rattle.gaspi_types.specs.declared.replies.Refusal.TheVariants.{ActiveCollective, ResumeOther, BadSize, CallerEnded}
use Rattle.gaspi_types.specs.declared.replies.Reply.{Reply}
use Rattle.gaspi_types.specs.declared.replies.Reply.TheVariants as replies
use Rattle.gaspi_model.specs.CollectiveCalls.{element_checks, staged_at, args_of, segment_checks, agreement_checks, full_reply, resume_result, collective_result, collective_ready, collective_answer, is_reply_of, is_join_of}
use Rattle.gaspi_model.specs.State.{thread_at, is_running}
use Rattle.gaspi_model.specs.declared.states.Posts.{Posts}
use Rattle.gaspi_types.proofs.Chains.{bind_then, check_then, found_then, same_Ok}
use Rattle.gaspi_model.proofs.Same.{same_reply-same, same_args-same}

-- one that is resumed is pending for its caller with its arguments
pub record IsResumed (pending : Option PendingCollective) (thread : ℕ) (args : Option Args) (p : PendingCollective) : Type 0 where
  pub there : pending ≡ Some p
  pub mine : p.thread ≡ thread
  pub same : args ≡ Some p.args

asks-same : (args : Option Args) (kept : Args) → has_same_args args kept ≡ true → args ≡ Some kept
asks-same None kept h = absurd (let no : ⊥ = cc in no)
asks-same (Some args) kept h = ap (λ (a : Args). Some a) (same_args-same args kept h)

pub resumed : (pending : Option PendingCollective) (thread : ℕ) (args : Option Args) → resume pending thread args ≡ Ok Same → (p : PendingCollective) × IsResumed pending thread args p
resumed None thread args h = absurd (let no : ⊥ = cc in no)
resumed (Some p) thread args h =
    check_then (p.thread == thread) (ActiveCollective p.thread) _ Same h (λ mine h1.
    check_then (has_same_args args p.args) (ResumeOther p.args.coll) _ Same h1 (λ same h2.
    (p, record { there = refl; mine = eqb-true p.thread thread mine; same = asks-same args p.args same })))

-- one that is new meets none
pub fresh : (pending : Option PendingCollective) (thread : ℕ) (args : Option Args) → resume pending thread args ≡ Ok Fresh → pending ≡ None
fresh None thread args h = refl
fresh (Some p) thread args h =
    absurd (check_then (p.thread == thread) (ActiveCollective p.thread) _ Fresh h (λ mine h1.
    check_then (has_same_args args p.args) (ResumeOther p.args.coll) _ Fresh h1 (λ same h2. (let no : ⊥ = cc in no))))

-- a collective that is done: it was pending for its caller with its arguments, and its round is full
pub record IsDone (posts : Posts) (group : Group) (me thread id : ℕ) (call : Call) (reply : Reply) (h : Handle) (p : PendingCollective) : Type 0 where
  pub running : is_running (thread_at posts thread) ≡ true
  pub staged : staged_at posts.groups me id call ≡ Ok h
  pub resumed : IsResumed (item_at posts.pending id) thread (args_of h.members call) p
  pub full : is_round_full group me ≡ true
  pub answers : reply ≡ full_reply group me call

pub done-found : (posts : Posts) (group : Group) (me thread id : ℕ) (call : Call) (reply : Reply) → is_reply_of (collective_answer posts group me thread id call) reply ≡ true → is_idle reply ≡ false
    → (h : Handle) × (p : PendingCollective) × IsDone posts group me thread id call reply h p
done-found posts group me thread id call reply answered awake = by-running (is_running (thread_at posts thread)) refl answered
  where
    refused-idle : {P : Type 0} (refusal : Refusal) → is_reply_of (ready.Reply (replies.Refused refusal)) reply ≡ true → P
    refused-idle refusal is =
        let same = same_reply-same reply (replies.Refused refusal) is in
        let idle : is_idle reply ≡ true = ap is_idle same in
        absurd (let no : ⊥ = cc in no)

    by-full : (b : Bool) → is_round_full group me ≡ b → (found : Ready) → (if b then ready.Reply (full_reply group me call) else ready.NotReady) ≡ found → is_reply_of found reply ≡ true
        → (is_round_full group me ≡ true) × (reply ≡ full_reply group me call)
    by-full true is found finds fits =
        let fits' : is_reply_of (ready.Reply (full_reply group me call)) reply ≡ true = subst (λ (r : Ready). is_reply_of r reply ≡ true) (sym finds) fits in
        (is, same_reply-same reply (full_reply group me call) fits')
    by-full false is found finds fits =
        let fits' : is_reply_of ready.NotReady reply ≡ true = subst (λ (r : Ready). is_reply_of r reply ≡ true) (sym finds) fits in
        let same = same_reply-same reply replies.Timeout fits' in
        let idle : is_idle reply ≡ true = ap is_idle same in
        absurd (let no : ⊥ = cc in no)

    by-resume : (r : Resume) → is_running (thread_at posts thread) ≡ true → (h : Handle) → staged_at posts.groups me id call ≡ Ok h
        → resume (item_at posts.pending id) thread (args_of h.members call) ≡ Ok r → (found : Ready) → resume_result r posts group me h.members call ≡ Ok found → is_reply_of found reply ≡ true
        → (h : Handle) × (p : PendingCollective) × IsDone posts group me thread id call reply h p
    by-resume Same running h staged is found finds fits =
        let p = resumed (item_at posts.pending id) thread (args_of h.members call) is in
        let full = by-full (is_round_full group me) refl found (same_Ok _ _ finds) fits in
        (h, p.0, record { running = running; staged = staged; resumed = p.1; full = full.0; answers = full.1 })
    by-resume Fresh running h staged is found finds fits =
        absurd (bind_then (segment_checks posts call) _ found finds (λ free _ h1.
        found_then (args_of h.members call) BadSize _ found h1 (λ args hargs h2.
        bind_then (agreement_checks group me args.coll) _ found h2 (λ meets _ h3.
        (let same : ready.Join args ≡ found = same_Ok _ _ h3 in
        let never : is_reply_of (ready.Join args) reply ≡ true = subst (λ (r : Ready). is_reply_of r reply ≡ true) (sym same) fits in
        let no : ⊥ = cc in no)))))

    by-result : (r : Result Ready Refusal) → collective_result posts group me thread id call ≡ r → is_running (thread_at posts thread) ≡ true → is_reply_of (collective_ready r) reply ≡ true
        → (h : Handle) × (p : PendingCollective) × IsDone posts group me thread id call reply h p
    by-result (Err refusal) finds running fits = refused-idle refusal fits
    by-result (Ok found) finds running fits =
        bind_then (element_checks call) _ found finds (λ u elements h1.
        bind_then (staged_at posts.groups me id call) _ found h1 (λ h staged h2.
        bind_then (resume (item_at posts.pending id) thread (args_of h.members call)) _ found h2 (λ r is h3. by-resume r running h staged is found h3 fits)))

    by-running : (b : Bool) → is_running (thread_at posts thread) ≡ b → is_reply_of (collective_answer posts group me thread id call) reply ≡ true
        → (h : Handle) × (p : PendingCollective) × IsDone posts group me thread id call reply h p
    by-running true is fits = by-result (collective_result posts group me thread id call) refl is (rw is at fits)
    by-running false is fits = refused-idle CallerEnded (rw is at fits)

-- a collective that may join: none of its rank is pending on its group, and what members have given fits
pub record MayJoin (posts : Posts) (group : Group) (me thread id : ℕ) (call : Call) (args : Args) (h : Handle) : Type 0 where
  pub running : is_running (thread_at posts thread) ≡ true
  pub elements : element_checks call ≡ Ok tt
  pub staged : staged_at posts.groups me id call ≡ Ok h
  pub none : item_at posts.pending id ≡ None
  pub free : segment_checks posts call ≡ Ok tt
  pub args_is : args_of h.members call ≡ Some args
  pub meets : agreement_checks group me args.coll ≡ Ok tt

pub join-found : (posts : Posts) (group : Group) (me thread id : ℕ) (call : Call) (args : Args) → is_join_of (collective_answer posts group me thread id call) args ≡ true
    → (h : Handle) × MayJoin posts group me thread id call args h
join-found posts group me thread id call args joins = by-running (is_running (thread_at posts thread)) refl joins
  where
    by-resume : (r : Resume) → is_running (thread_at posts thread) ≡ true → element_checks call ≡ Ok tt → (h : Handle) → staged_at posts.groups me id call ≡ Ok h
        → resume (item_at posts.pending id) thread (args_of h.members call) ≡ Ok r → (found : Ready) → resume_result r posts group me h.members call ≡ Ok found → is_join_of found args ≡ true
        → (h : Handle) × MayJoin posts group me thread id call args h
    by-resume Same running elements h staged is found finds fits = absurd (by-full (is_round_full group me) found (same_Ok _ _ finds) fits)
      where
        by-full : (b : Bool) (found : Ready) → (if b then ready.Reply (full_reply group me call) else ready.NotReady) ≡ found → is_join_of found args ≡ true → ⊥
        by-full true found same fits =
            (let never : is_join_of (ready.Reply (full_reply group me call)) args ≡ true = subst (λ (r : Ready). is_join_of r args ≡ true) (sym same) fits in let no : ⊥ = cc in no)
        by-full false found same fits =
            (let never : is_join_of ready.NotReady args ≡ true = subst (λ (r : Ready). is_join_of r args ≡ true) (sym same) fits in let no : ⊥ = cc in no)
    by-resume Fresh running elements h staged is found finds fits =
        bind_then (segment_checks posts call) _ found finds (λ u free h1.
        found_then (args_of h.members call) BadSize _ found h1 (λ may hargs h2.
        bind_then (agreement_checks group me may.coll) _ found h2 (λ v meets h3.
        (let same : ready.Join may ≡ found = same_Ok _ _ h3 in
        let is_args : is_join_of (ready.Join may) args ≡ true = subst (λ (r : Ready). is_join_of r args ≡ true) (sym same) fits in
        let equal = same_args-same may args is_args in (
          h,
          record {
            running = running;
            elements = elements;
            staged = staged;
            none = fresh (item_at posts.pending id) thread (args_of h.members call) is;
            free = free;
            args_is = hargs ∙ ap (λ (a : Args). Some a) equal;
            meets = ap (λ (a : Args). agreement_checks group me a.coll) (sym equal) ∙ meets;
          },
        )))))

    by-result : (r : Result Ready Refusal) → collective_result posts group me thread id call ≡ r → is_running (thread_at posts thread) ≡ true → is_join_of (collective_ready r) args ≡ true
        → (h : Handle) × MayJoin posts group me thread id call args h
    by-result (Err refusal) finds running fits = absurd (let no : ⊥ = cc in no)
    by-result (Ok found) finds running fits =
        bind_then (element_checks call) _ found finds (λ v elements h1.
        bind_then (staged_at posts.groups me id call) _ found h1 (λ h staged h2.
        bind_then (resume (item_at posts.pending id) thread (args_of h.members call)) _ found h2 (λ r is h3. by-resume r running elements h staged is found h3 fits)))

    by-running : (b : Bool) → is_running (thread_at posts thread) ≡ b → is_join_of (collective_answer posts group me thread id call) args ≡ true
        → (h : Handle) × MayJoin posts group me thread id call args h
    by-running true is fits = by-result (collective_result posts group me thread id call) refl is (rw is at fits)
    by-running false is fits = absurd (let never = rw is at fits in let no : ⊥ = cc in no)
