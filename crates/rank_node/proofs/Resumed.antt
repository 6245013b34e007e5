-- What is pending for a caller, and what a look at it finds.
use Rattle.std.proofs.Common.{◌≡◌, ℕ, true, length, Option, Some, Ok, refl, sym, ap, subst, ◌∙◌}
use Rattle.std.specs.List.{slice_get}
use Rattle.std.proofs.lemmas.Bool.{eq-eqb}
use Rattle.gaspi_types.specs.Collectives.{contributions_of, contribution_in, round_of, round_reduction, resume}
use Rattle.gaspi_types.specs.Tables.{item_at}
use Rattle.gaspi_types.specs.declared.calls.Call.{Call}
use Rattle.gaspi_types.specs.declared.calls.Call.TheVariants as calls
use Rattle.gaspi_types.specs.declared.calls.collectives.Allreduce as allreduce
use Rattle.gaspi_types.specs.declared.collectives.Coll.{Coll}
use Rattle.gaspi_types.specs.declared.collectives.Coll.TheVariants as colls
use Rattle.gaspi_types.specs.NumberTypes.{TypedNumbers}
use Rattle.gaspi_types.specs.declared.collectives.NumType.{NumType}
use Rattle.gaspi_types.specs.declared.collectives.Op.{Op}
use Rattle.gaspi_types.specs.declared.replies.Reply.TheVariants as replies
use Rattle.gaspi_types.specs.declared.groups.Args.{Args}
use Rattle.gaspi_types.specs.declared.groups.Contribution.{Contribution}
use Rattle.gaspi_types.specs.declared.groups.Group.{Group}
use Rattle.gaspi_types.specs.declared.groups.Handle.{Handle}
use Rattle.gaspi_types.specs.declared.groups.PendingCollective.{PendingCollective}
use Rattle.gaspi_types.specs.declared.groups.Resume.TheVariants.{Same}
use Rattle.gaspi_types.proofs.Chains.{bind_then}
use Rattle.gaspi_model.specs.RoundRules.{coll_in}
use Rattle.plain_calls.specs.Rounds.{called_on}
use Rattle.gaspi_model.specs.CollectiveCalls.{element_checks, staged_at, args_of, full_reply, resumed_answer, collective_answer}
use Rattle.gaspi_model.specs.State.{thread_at, is_running}
use Rattle.gaspi_model.specs.declared.states.Posts.{Posts}
use Rattle.gaspi_model.proofs.CollectiveFinds.{resumed}
use Rattle.gaspi_model.proofs.Listed.Joining.{same_args-refl}
use Rattle.rank_node.specs.Collectives.{AreSoundTogether, IsMine, GivesOwn, IsPendingFor}
use Rattle.rank_node.specs.Lending.{IsGroupNode}
use Rattle.rank_node.specs.Values.{PostsValue}
use Rattle.rank_node.specs.declared.nodes.GroupNode.{GroupNode}

-- what a rank has given to its round is the allreduce that is pending
own-contributed : (g : Group) (me members : ℕ) (call : Call) (p : PendingCollective) (c : Contribution) → args_of members call ≡ Some p.args → slice_get (contributions_of g me).contributions (contributions_of g me).completed ≡ Some c
    → c.args ≡ p.args → GivesOwn g me call
own-contributed g me members (calls.Allreduce call) p c asked given same =
    let is : ◌≡◌ {A = Args} (record { coll = colls.Allreduce call.op call.values.num_type (length call.values.items); values = call.values }) p.args = cc in
    let coll : c.args.coll ≡ colls.Allreduce call.op call.values.num_type (length call.values.items) = ap (λ (a : Args). a.coll) same ∙ sym (ap (λ (a : Args). a.coll) is) in
    ap coll_in given ∙ ap (λ (k : Coll). Some k) coll
own-contributed g me members call p c asked given same = tt

pub mine-by : (posts : Posts) (me id members : ℕ) (g : Group) (n : GroupNode) (call : Call) (p : PendingCollective) → AreSoundTogether posts me id g → IsGroupNode g n → item_at posts.pending id ≡ Some p
    → args_of members call ≡ Some p.args → IsMine g n me call
mine-by posts me id members g n call p meets is there asked =
    let last = meets.part.last p there in
    let one = meets.group.members (round_of g me) me last.0 last.1 in
    record { is = is; mask = one.mask; fixed = one.fixed; member = one.member; own = own-contributed g me members call p last.0 asked last.1 last.2 }

-- one that was resumed
pub resumed-mine : (posts : Posts) (me thread id members : ℕ) (g : Group) (n : GroupNode) (call : Call) → AreSoundTogether posts me id g → IsGroupNode g n
    → resume (item_at posts.pending id) thread (args_of members call) ≡ Ok Same → IsMine g n me call
resumed-mine posts me thread id members g n call meets is same =
    let found = resumed (item_at posts.pending id) thread (args_of members call) same in
    mine-by posts me id members g n call found.0 meets is found.1.there found.1.same

-- one that waits
resumes-itself : (pending : Option PendingCollective) (thread : ℕ) (args : Option Args) (p : PendingCollective) → pending ≡ Some p → p.thread ≡ thread → args ≡ Some p.args → resume pending thread args ≡ Ok Same
resumes-itself pending thread args p there mine same =
    let equal = eq-eqb p.thread thread mine in
    let alike = same_args-refl p.args in
    rw (there, same, equal, alike) refl

pub waiting-mine : (own : PostsValue) (thread id : ℕ) (g : Group) (n : GroupNode) (call : Call) → AreSoundTogether own.posts own.me id g → IsGroupNode g n → IsPendingFor own thread id call → IsMine g n own.me call
waiting-mine own thread id g n call meets is waits =
    let may = meets.resumable waits.pending waits.there in
    mine-by own.posts own.me id may.handle.members g n call waits.pending meets is waits.there (ap (args_of may.handle.members) (sym waits.same) ∙ may.own)

waiting-by : (posts : Posts) (me thread id : ℕ) (g : Group) (call : Call) (h : Handle) → is_running (thread_at posts thread) ≡ true → element_checks call ≡ Ok tt
    → staged_at posts.groups me id call ≡ Ok h → resume (item_at posts.pending id) thread (args_of h.members call) ≡ Ok Same → collective_answer posts g me thread id call ≡ resumed_answer g me call
waiting-by posts me thread id g call h running elements staged same = rw (running, elements, staged, same) refl

pub same-answer : (posts : Posts) (me thread id : ℕ) (g : Group) (call : Call) (h : Handle) → is_running (thread_at posts thread) ≡ true → called_on posts.groups me id call ≡ Ok h
    → resume (item_at posts.pending id) thread (args_of h.members call) ≡ Ok Same → collective_answer posts g me thread id call ≡ resumed_answer g me call
same-answer posts me thread id g call h running called same =
    bind_then (element_checks call) _ h called (λ u elements staged. waiting-by posts me thread id g call h running elements staged same)

pub waiting-answer : (own : PostsValue) (thread id : ℕ) (g : Group) (call : Call) → AreSoundTogether own.posts own.me id g → IsPendingFor own thread id call
    → collective_answer own.posts g own.me thread id call ≡ resumed_answer g own.me call
waiting-answer own thread id g call meets waits =
    let may = meets.resumable waits.pending waits.there in
    let asked : args_of may.handle.members call ≡ Some waits.pending.args = ap (args_of may.handle.members) (sym waits.same) ∙ may.own in
    waiting-by own.posts own.me thread id g call may.handle waits.running (subst (λ (x : Call). element_checks x ≡ Ok tt) waits.same may.elements)
    (subst (λ (x : Call). staged_at own.posts.groups own.me id x ≡ Ok may.handle) waits.same may.staged)
    (resumes-itself (item_at own.posts.pending id) thread (args_of may.handle.members call) waits.pending waits.there waits.mine asked)

-- the numbers of a full round are the reply of its allreduce
pub full-numbers : (g : Group) (n : GroupNode) (me : ℕ) (call : Call) (x : allreduce.Allreduce) (result : TypedNumbers) → call ≡ calls.Allreduce x → IsMine g n me call
    → ((op : Op) (t : NumType) (count : ℕ) → coll_in (contribution_in g (round_of g me) me) ≡ Some (colls.Allreduce op t count) → result ≡ round_reduction g me op t) → replies.List result ≡ full_reply g me call
full-numbers g n me call x result is mine folds =
    let own : GivesOwn g me (calls.Allreduce x) = subst (GivesOwn g me) is mine.own in
    rw is (ap replies.List (folds x.op x.values.num_type (length x.values.items) own))
