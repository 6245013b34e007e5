-- A collective that is pending answers where every member has given to its round, and else is not ready.
use Rattle.std.proofs.Common.{◌≡◌, ℕ, ◌<◌, Bool, true, false, List, [], ◌∷◌, filter, Option, None, Some, is_some, Result, Ok, Err, refl, sym, ap, ◌∙◌, subst, arith}
use Rattle.std.specs.List.{slice_get, list_all, range_with_len}
use Rattle.std.proofs.lemmas.Bool.{eq-eqb}
use Rattle.gaspi_types.specs.CallRows.{row_of}
use Rattle.gaspi_types.specs.Collectives.{contribution_in, round_of, is_round_full, resume}
use Rattle.gaspi_types.specs.Masks.{is_member}
use Rattle.gaspi_types.specs.Tables.{item_at}
use Rattle.gaspi_types.specs.declared.calls.Call.{Call}
use Rattle.gaspi_types.specs.declared.calls.Call.TheVariants as calls
use Rattle.gaspi_types.specs.declared.calls.collectives.Commit as commit
use Rattle.gaspi_types.specs.declared.collectives.Coll.{Coll}
use Rattle.gaspi_types.specs.declared.collectives.Coll.TheVariants as colls
use Rattle.gaspi_types.specs.declared.events.Event.TheVariants.{Called}
use Rattle.gaspi_types.specs.declared.groups.Args.{Args}
use Rattle.gaspi_types.specs.declared.groups.Contribution.{Contribution}
use Rattle.gaspi_types.specs.declared.groups.Group.{Group}
use Rattle.gaspi_types.specs.declared.groups.Handle.{Handle}
use Rattle.gaspi_types.specs.declared.groups.PendingCollective.{PendingCollective}
use Rattle.gaspi_types.specs.declared.groups.Resume.{Resume}
use Rattle.gaspi_types.specs.declared.groups.Resume.TheVariants.{Fresh, Same}
use Rattle.gaspi_types.specs.declared.replies.Ready.{Ready}
use Rattle.gaspi_types.specs.declared.replies.Ready.TheVariants as ready
use Rattle.gaspi_types.specs.declared.replies.Refusal.{Refusal}
use Rattle.gaspi_types.specs.declared.replies.Refusal.TheVariants.{BadSize, CallerEnded}
use Rattle.gaspi_types.specs.declared.replies.Reply.{Reply}
use Rattle.gaspi_types.specs.declared.replies.Reply.TheVariants as replies
use Rattle.gaspi_types.specs.declared.shapes.CallerId.{CallerId}
use Rattle.gaspi_model.specs.CollectiveCalls.{element_checks, staged_at, args_of, segment_checks, agreement_checks, full_reply, resumed_answer, resume_result, collective_result, collective_ready, collective_answer, joining_call, is_reply_of}
use Rattle.gaspi_model.specs.Contributions.{IsOneOf, IsResumable}
use Rattle.gaspi_model.specs.Sound.{IsSound}
use Rattle.gaspi_model.specs.State.{thread_at, is_running}
use Rattle.gaspi_model.specs.Step.{step, group_in, answer_in, is_active}
use Rattle.gaspi_model.specs.Rounds.{HaveAllContributed, IsPendingAs, IsReplyFor, IsPendingUnready}
use Rattle.gaspi_model.specs.declared.states.Posts.{Posts}
use Rattle.gaspi_model.specs.declared.states.State.{State}
use Rattle.gaspi_types.proofs.Chains.{bind_then, found_then, same_Ok}
use Rattle.gaspi_model.proofs.Changed.Ends.{is-running}
use Rattle.gaspi_model.proofs.CollectiveFinds.{IsResumed, resumed}
use Rattle.gaspi_model.proofs.GroupSteps.{step-completed}
use Rattle.gaspi_model.proofs.Listed.Enabled.{active-posts}
use Rattle.gaspi_model.proofs.Listed.Joining.{same_args-refl, join-call}
use Rattle.gaspi_model.proofs.Ordered.Collectives.{member-contributed, replied}
use Rattle.gaspi_model.proofs.Sound.Completions.{group-there, staged-there, staged-cases, commit-args}
use Rattle.gaspi_model.proofs.Sound.GroupEvents.{ranks-few}

-- the group that a collective names
pub joining-names : (id : ℕ) (args : Args) → (row_of (joining_call id args)).group ≡ Some id
joining-names id args = go args.coll
  where
    go : (coll : Coll) → (row_of (joining_call id (record { coll = coll; values = args.values }))).group ≡ Some id
    go colls.Barrier = refl
    go (colls.Allreduce op t n) = refl
    go (colls.Create seg size) = refl
    go (colls.Commit mask) = refl

-- What is pending is looked at again.

pending-result : (posts : Posts) (g : Group) (me thread id : ℕ) (p : PendingCollective) → IsResumable posts.groups me id p.args → item_at posts.pending id ≡ Some p → p.thread ≡ thread
    → collective_result posts g me thread id (joining_call id p.args) ≡ Ok (resumed_answer g me (joining_call id p.args))
pending-result posts g me thread id p may pends mine =
    let is_mine = eq-eqb p.thread thread mine in
    let alike = same_args-refl p.args in
    rw (may.elements, may.staged, pends, may.own, is_mine, alike) refl

pending-answer : (s : State) (c : CallerId) (id : ℕ) (call : Call) (p : IsPendingAs s c id call) → IsSound s → is_active s c.rank c.thread ≡ true
    → answer_in s c.rank c.thread call ≡ Some (resumed_answer p.group c.rank call)
pending-answer s c id call p sound active =
    subst (λ (x : Call). answer_in s c.rank c.thread x ≡ Some (resumed_answer p.group c.rank x)) p.same
    (let may = sound.collectives.resumable id c.rank p.posts p.pending p.posts_there p.pending_there in
    let runs = active-posts s c.rank c.thread active in
    let same : runs.0 ≡ p.posts = (let some : ◌≡◌ {A = Option Posts} (Some runs.0) (Some p.posts) = sym runs.1 ∙ p.posts_there in cc) in
    let running : is_running (thread_at p.posts c.thread) ≡ true = subst (λ (x : Posts). is_running (thread_at x c.thread) ≡ true) same runs.2 in
    let there = group-there s p.posts c.rank id may.handle sound p.posts_there may.there in
    let group : group_in s id ≡ p.group = there.2.is ∙ (let some : ◌≡◌ {A = Option Group} (Some there.0) (Some p.group) = sym there.2.there ∙ p.group_there in cc) in
    let named = joining-names id p.pending.args in
    let finds = pending-result p.posts p.group c.rank c.thread id p.pending may p.pending_there p.mine in
    rw (p.posts_there, named, group, running, finds) refl)

-- The ranks of a group on which a collective is pending are ranks of the world.

pending-members : (s : State) (posts : Posts) (g : Group) (me id : ℕ) (p : PendingCollective) → IsSound s → slice_get s.posts me ≡ Some posts → slice_get s.groups id ≡ Some g → item_at posts.pending id ≡ Some p
    → (rank : ℕ) → IsOneOf g.members rank → rank < s.limits.ranks
pending-members s posts g me id p sound hp hg pends rank one =
    let may = sound.collectives.resumable id me posts p hp pends in
    let fixed : g.members ≡ Some may.handle.members = staged-cases {P = g.members ≡ Some may.handle.members} posts.groups me id (joining_call id p.args) may.handle may.staged
    (λ x same built. first may x same) (λ there committed told. (sound.collectives.committed id g me posts may.handle hg hp there committed).0) in
    let same : one.mask ≡ may.handle.members = (let some : ◌≡◌ {A = Option ℕ} (Some one.mask) (Some may.handle.members) = sym one.fixed ∙ fixed in cc) in
    (sound.posts me posts hp).groups.members id may.handle may.there rank (subst (λ (mask : ℕ). is_member mask rank ≡ true) same one.member)
  where
    first : (may : IsResumable posts.groups me id p.args) (x : commit.Commit) → joining_call id p.args ≡ calls.Commit x → g.members ≡ Some may.handle.members
    first may x same =
        let last = (sound.collectives.parts id g me posts hg hp).last p pends in
        let own : args_of may.handle.members (calls.Commit x) ≡ Some p.args = subst (λ (c : Call). args_of may.handle.members c ≡ Some p.args) same may.own in
        (sound.collectives.groups id g hg).commits (round_of g me) me last.0 may.handle.members last.1 (ap (λ (a : Args). a.coll) last.2 ∙ commit-args may.handle.members x p.args own)

-- A round is full where every member has given.

filter-all : (p test : ℕ → Bool) (xs : List ℕ) → ((m : ℕ) → p m ≡ true → test m ≡ true) → list_all test (filter p xs) ≡ true
filter-all p test [] every = refl
filter-all p test (x ∷ xs) every = go (filter-all p test xs every) (p x) refl
  where
    go : list_all test (filter p xs) ≡ true → (b : Bool) → p x ≡ b → list_all test (filter p (x ∷ xs)) ≡ true
    go rest true is = let gives = every x is in rw (is, gives) rest
    go rest false is = rw is rest

filter-late : (p test : ℕ → Bool) (xs : List ℕ) → list_all test (filter p xs) ≡ false → (m : ℕ) × (p m ≡ true) × (test m ≡ false)
filter-late p test [] none = absurd (let no : ⊥ = cc in no)
filter-late p test (x ∷ xs) none = go (filter-late p test xs) (p x) refl (test x) refl
  where
    go : (list_all test (filter p xs) ≡ false → (m : ℕ) × (p m ≡ true) × (test m ≡ false)) → (b : Bool) → p x ≡ b → (d : Bool) → test x ≡ d → (m : ℕ) × (p m ≡ true) × (test m ≡ false)
    go rest false is d gives = rest (rw is at none)
    go rest true is false gives = (x, is, gives)
    go rest true is true gives = rest (rw (is, gives) at none)

is-contributed : (o : Option Contribution) (c : Contribution) → o ≡ Some c → is_some o ≡ true
is-contributed o c is = rw is refl

none-contributed : (o : Option Contribution) → is_some o ≡ false → o ≡ None
none-contributed None is = refl
none-contributed (Some c) is = absurd (let no : ⊥ = cc in no)

full-round : (g : Group) (me : ℕ) → ((rank : ℕ) → IsOneOf g.members rank → (c : Contribution) × (contribution_in g (round_of g me) rank ≡ Some c)) → is_round_full g me ≡ true
full-round g me every = go g.members refl
  where
    go : (o : Option ℕ) → g.members ≡ o → is_round_full g me ≡ true
    go None fixed = rw fixed refl
    go (Some mask) fixed = rw fixed (filter-all (is_member mask) (λ m. is_some (contribution_in g (round_of g me) m)) (range_with_len 0 16) (λ m member.
        let c = every m (record { mask = mask; fixed = fixed; member = member }) in
        is-contributed (contribution_in g (round_of g me) m) c.0 c.1))

late-member : (g : Group) (me : ℕ) → is_round_full g me ≡ false → (late : ℕ) × IsOneOf g.members late × (contribution_in g (round_of g me) late ≡ None)
late-member g me none = go g.members refl
  where
    go : (o : Option ℕ) → g.members ≡ o → (late : ℕ) × IsOneOf g.members late × (contribution_in g (round_of g me) late ≡ None)
    go None fixed = absurd (let never : true ≡ false = rw fixed at none in let no : ⊥ = cc in no)
    go (Some mask) fixed =
        let late = filter-late (is_member mask) (λ m. is_some (contribution_in g (round_of g me) m)) (range_with_len 0 16) (rw fixed at none) in
        (late.0, record { mask = mask; fixed = fixed; member = late.1 }, none-contributed (contribution_in g (round_of g me) late.0) late.2)

pub ready-where-full : (s : State) (c : CallerId) (id : ℕ) (call : Call) (p : IsPendingAs s c id call) → IsSound s → is_active s c.rank c.thread ≡ true → HaveAllContributed s.limits.ranks p.group c.rank
    → (reply : Reply) × (answer_in s c.rank c.thread call ≡ Some (ready.Reply reply)) × IsReplyFor call reply
ready-where-full s c id call p sound active every =
    let full = full-round p.group c.rank (λ rank one. every rank (pending-members s p.posts p.group c.rank id p.pending sound p.posts_there p.group_there p.pending_there rank one) one) in
    let answers = pending-answer s c id call p sound active in
    (full_reply p.group c.rank call, answers ∙ rw full refl, replied p.group c.rank call)

pub waits-where-late : (s : State) (c : CallerId) (id : ℕ) (call : Call) → IsSound s → is_active s c.rank c.thread ≡ true → IsPendingUnready s c id call → answer_in s c.rank c.thread call ≡ Some ready.NotReady
waits-where-late s c id call sound active waits = pending-answer s c id call p sound active ∙ go (is_round_full p.group c.rank) refl
  where
    p : IsPendingAs s c id call
    p = waits.pends

    go : (b : Bool) → is_round_full p.group c.rank ≡ b → ◌≡◌ {A = Option Ready} (Some (resumed_answer p.group c.rank call)) (Some ready.NotReady)
    go false late = rw late refl
    go true full =
        let ranked = waits.ranked in
        let given = member-contributed p.group c.rank waits.late full waits.member (let few = ranks-few s.limits sound.limits in omega arith) in
        absurd (let both : ◌≡◌ {A = Option Contribution} None (Some given.0) = sym waits.missing ∙ given.1 in let no : ⊥ = cc in no)

-- What a look at a collective may answer: a refusal, what is said of the one that is pending with its arguments, or that it may join.
answer-cases : {P : Type 0} (posts : Posts) (g : Group) (me thread id : ℕ) (call : Call) (found : Ready) → collective_answer posts g me thread id call ≡ found
    → ((refusal : Refusal) → found ≡ ready.Reply (replies.Refused refusal) → P)
    → ((h : Handle) (p : PendingCollective) → is_running (thread_at posts thread) ≡ true → staged_at posts.groups me id call ≡ Ok h → IsResumed (item_at posts.pending id) thread (args_of h.members call) p → found ≡ resumed_answer g me call → P)
    → ((args : Args) → found ≡ ready.Join args → P) → P
answer-cases {P} posts g me thread id call found is refused pends joins = by-running (is_running (thread_at posts thread)) refl
  where
    by-resume : (r : Resume) (h : Handle) → is_running (thread_at posts thread) ≡ true → staged_at posts.groups me id call ≡ Ok h → resume (item_at posts.pending id) thread (args_of h.members call) ≡ Ok r → resume_result r posts g me h.members call ≡ Ok found → P
    by-resume Same h runs staged resumes finds =
        let p = resumed (item_at posts.pending id) thread (args_of h.members call) resumes in
        pends h p.0 runs staged p.1 (sym (same_Ok _ _ finds))
    by-resume Fresh h runs staged resumes finds =
        bind_then (segment_checks posts call) _ found finds (λ free _ h1.
        found_then (args_of h.members call) BadSize _ found h1 (λ args hargs h2.
        bind_then (agreement_checks g me args.coll) _ found h2 (λ meets _ h3. joins args (sym (same_Ok _ _ h3)))))

    by-result : (r : Result Ready Refusal) → is_running (thread_at posts thread) ≡ true → collective_result posts g me thread id call ≡ r → collective_ready r ≡ found → P
    by-result (Err refusal) runs finds answers = refused refusal (sym answers)
    by-result (Ok x) runs finds answers =
        let finds' : collective_result posts g me thread id call ≡ Ok found = finds ∙ ap (λ (y : Ready). Ok y) answers in
        bind_then (element_checks call) _ found finds' (λ u elements h1.
        bind_then (staged_at posts.groups me id call) _ found h1 (λ h staged h2.
        bind_then (resume (item_at posts.pending id) thread (args_of h.members call)) _ found h2 (λ r resumes h3. by-resume r h runs staged resumes h3)))

    by-running : (b : Bool) → is_running (thread_at posts thread) ≡ b → P
    by-running true runs = by-result (collective_result posts g me thread id call) runs refl (rw runs at is)
    by-running false ended = refused CallerEnded (sym (rw ended at is))

-- a collective that is pending and whose round is not full waits
waiting : (s : State) (c : CallerId) (id : ℕ) (call : Call) (posts : Posts) (h : Handle) (p : PendingCollective) → IsSound s → slice_get s.posts c.rank ≡ Some posts → (row_of call).group ≡ Some id
    → is_running (thread_at posts c.thread) ≡ true → staged_at posts.groups c.rank id call ≡ Ok h → IsResumed (item_at posts.pending id) c.thread (args_of h.members call) p
    → is_round_full (group_in s id) c.rank ≡ false → IsPendingUnready s c id call
waiting s c id call posts h p sound hp named runs staged pends none =
    let there = group-there s posts c.rank id h sound hp (staged-there posts.groups c.rank id call h staged) in
    let late = late-member there.0 c.rank (subst (λ (g : Group). is_round_full g c.rank ≡ false) there.2.is none) in
    record {
      pends = record {
        posts = posts;
        group = there.0;
        pending = p;
        posts_there = hp;
        group_there = there.2.there;
        pending_there = pends.there;
        mine = pends.mine;
        same = join-call h.members id call p.args pends.same named;
      };
      running = is-running posts c.thread runs;
      late = late.0;
      ranked = pending-members s posts there.0 c.rank id p sound hp there.2.there pends.there late.0 late.1;
      member = late.1;
      missing = late.2;
    }

not-full : (g : Group) (me : ℕ) (call : Call) (found : Ready) → found ≡ resumed_answer g me call → is_reply_of found replies.Timeout ≡ true → is_round_full g me ≡ false
not-full g me call found is times = go (is_round_full g me) refl
  where
    asleep : (x : Call) → is_reply_of (ready.Reply (full_reply g me x)) replies.Timeout ≡ true → ⊥
    asleep (calls.Allreduce x) h = (let no : ⊥ = cc in no)
    asleep x h = (let no : ⊥ = cc in no)

    go : (b : Bool) → is_round_full g me ≡ b → is_round_full g me ≡ false
    go false none = none
    go true full =
        let replied : resumed_answer g me call ≡ ready.Reply (full_reply g me call) = rw full refl in
        absurd (asleep call (subst (λ (r : Ready). is_reply_of r replies.Timeout ≡ true) (is ∙ replied) times))

-- one that may be recorded with a timeout waits
times-out : (s : State) (c : CallerId) (id : ℕ) (call : Call) (posts : Posts) (found : Ready) → IsSound s → slice_get s.posts c.rank ≡ Some posts → (row_of call).group ≡ Some id
    → collective_answer posts (group_in s id) c.rank c.thread id call ≡ found → is_reply_of found replies.Timeout ≡ true → IsPendingUnready s c id call
times-out s c id call posts found sound hp named is times =
    answer-cases {P = IsPendingUnready s c id call} posts (group_in s id) c.rank c.thread id call found is
    (λ refusal refused. absurd (let never : false ≡ true = subst (λ (r : Ready). is_reply_of r replies.Timeout ≡ true) refused times in let no : ⊥ = cc in no))
    (λ h p runs staged pends finds. waiting s c id call posts h p sound hp named runs staged pends (not-full (group_in s id) c.rank call found finds times))
    (λ args joins. absurd (let never : false ≡ true = subst (λ (r : Ready). is_reply_of r replies.Timeout ≡ true) joins times in let no : ⊥ = cc in no))

pub unready-waits : (s : State) (c : CallerId) (id : ℕ) (call : Call) → IsSound s → (row_of call).group ≡ Some id → answer_in s c.rank c.thread call ≡ Some ready.NotReady → IsPendingUnready s c id call
unready-waits s c id call sound named is = go (slice_get s.posts c.rank) refl
  where
    go : (o : Option Posts) → slice_get s.posts c.rank ≡ o → IsPendingUnready s c id call
    go None at = absurd (let none : ◌≡◌ {A = Option Ready} None (Some ready.NotReady) = rw at at is in let no : ⊥ = cc in no)
    go (Some posts) at =
        let answers : ◌≡◌ {A = Option Ready} (Some (collective_answer posts (group_in s id) c.rank c.thread id call)) (Some ready.NotReady) = rw (at, named) at is in
        times-out s c id call posts ready.NotReady sound at named (let same : collective_answer posts (group_in s id) c.rank c.thread id call ≡ ready.NotReady = cc in same) refl

pub timeout-waits : (s t : State) (c : CallerId) (id : ℕ) (call : Call) → IsSound s → (row_of call).group ≡ Some id → step s (Called c call replies.Timeout) ≡ Ok t → IsPendingUnready s c id call
timeout-waits s t c id call sound named h =
    let made = step-completed s t c id call replies.Timeout named h in
    times-out s c id call made.0 (collective_answer made.0 (group_in s id) c.rank c.thread id call) sound made.2.posts_there named refl made.2.is.answered
