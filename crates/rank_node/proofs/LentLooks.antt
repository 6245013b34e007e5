-- What a look at a collective, by the nodes that are lent for it, tells of the state.
use Rattle.std.proofs.Common.{◌≡◌, ℕ, ◌<◌, ◌≤◌, Option, None, Some, Result, Ok, Err, refl, sym, ap, subst, ◌∙◌, arith}
use Rattle.std.specs.Borrow.{MutBor}
use Rattle.std.specs.Prelude.{IfOk}
use Rattle.std.specs.List.{slice_get}
use Rattle.std.proofs.lemmas.Bool.{lt-ltb}
use Rattle.std.proofs.lemmas.Option.{slice_get_within}
use Rattle.gaspi_types.specs.CallRows.{row_of}
use Rattle.gaspi_types.specs.declared.calls.Call.{Call}
use Rattle.gaspi_types.specs.declared.groups.Group.{Group}
use Rattle.gaspi_types.specs.declared.replies.Ready.{Ready}
use Rattle.gaspi_types.specs.declared.replies.Ready.TheVariants.{NotReady}
use Rattle.gaspi_types.proofs.Items.{joined}
use Rattle.gaspi_model.specs.CollectiveCalls.{collective_answer, resumed_answer}
use Rattle.gaspi_model.specs.Sound.{IsSound}
use Rattle.gaspi_model.specs.Step.{answer_in, group_in}
use Rattle.gaspi_model.specs.declared.states.Posts.{Posts}
use Rattle.gaspi_model.specs.declared.states.State.{State}
use Rattle.gaspi_model.proofs.GroupSteps.{collective-footprint}
use Rattle.rank_node.specs.Collectives.{AreSoundTogether, AgreeOnGroup, IsMine, IsPendingFor}
use Rattle.rank_node.specs.Lending.{IsGroupNode, LendsFor, AreLentFor, behind}
use Rattle.rank_node.specs.Values.{PostsValue}
use Rattle.rank_node.specs.declared.nodes.GroupNode.{GroupNode}
use Rattle.rank_node.specs.declared.nodes.Node.{Node}
use Rattle.rank_node.proofs.Joinable.{together-in}
use Rattle.rank_node.proofs.LentGroups.{LendsGroup, lends-group, lends-no-group, joining-named}
use Rattle.rank_node.proofs.Resumed.{waiting-mine, waiting-answer}

-- a reference that is there
pub lent-there : (s : State) (call : Call) (own : Node) (peer : Option Node) (o : Option (MutBor GroupNode)) (r : MutBor GroupNode) → o ≡ Some r → LendsFor s call own peer (behind o) → LendsFor s call own peer (Some r.now)
lent-there s call own peer o r is lends = subst (λ (x : Option (MutBor GroupNode)). LendsFor s call own peer (behind x)) is lends

pub lent-missing : (s : State) (call : Call) (own : Node) (peer : Option Node) (o : Option (MutBor GroupNode)) → o ≡ None → LendsFor s call own peer (behind o) → LendsFor s call own peer None
lent-missing s call own peer o is lends = subst (λ (x : Option (MutBor GroupNode)). LendsFor s call own peer (behind x)) is lends

-- the group's node that is lent
lent-for : (s : State) (id : ℕ) (call : Call) (own : Node) (peer : Option Node) (n : GroupNode) → (row_of call).group ≡ Some id → LendsFor s call own peer (Some n) → LendsGroup s own.posts.me id (row_of call).footprint own peer n
lent-for s id call own peer n named lends = lends-group s own.posts.me id (row_of call).footprint own peer n (collective-footprint call id named) lends

pub lent-within : (s : State) (id : ℕ) (call : Call) (own : Node) (peer : Option Node) (n : GroupNode) → (row_of call).group ≡ Some id → LendsFor s call own peer (Some n) → id < 8
lent-within s id call own peer n named lends = (lent-for s id call own peer n named lends).within

pub lent-stand : (s : State) (id : ℕ) (call : Call) (own : Node) (peer : Option Node) (n : GroupNode) → IsSound s → (row_of call).group ≡ Some id → LendsFor s call own peer (Some n) → AgreeOnGroup own.posts id n
lent-stand s id call own peer n sound named lends =
    let lent = lent-for s id call own peer n named lends in
    let group = lent.group_node in
    record { group = group.group; sound = together-in s own.posts.me id own.posts.posts group.group sound lent.own_node.posts.posts group.there; is = group.stands }

-- none is lent
pub lent-over : (s : State) (id : ℕ) (call : Call) (own : Node) (peer : Option Node) → (row_of call).group ≡ Some id → LendsFor s call own peer None → 8 ≤ id
lent-over s id call own peer named lends = (lends-no-group s own.posts.me id (row_of call).footprint own peer (collective-footprint call id named) lends).over

-- the answer of the state
answered-there : (s : State) (me id thread : ℕ) (posts : Posts) (g : Group) (call : Call) → id < 8 → slice_get s.posts me ≡ Some posts → slice_get s.groups id ≡ Some g → (row_of call).group ≡ Some id
    → answer_in s me thread call ≡ Some (collective_answer posts g me thread id call)
answered-there s me id thread posts g call within own there named =
    let less = lt-ltb id 8 within in
    rw (own, named, less, there) refl

answered-over : (s : State) (me id thread : ℕ) (posts : Posts) (call : Call) → slice_get s.posts me ≡ Some posts → (row_of call).group ≡ Some id
    → answer_in s me thread call ≡ Some (collective_answer posts (group_in s id) me thread id call)
answered-over s me id thread posts call own named = rw (own, named) refl

map-ok : {A E : Type 0} (r : Result A E) (P Q : A → Type 0) → ((x : A) → P x → Q x) → IfOk r P → IfOk r Q
map-ok (Ok x) P Q f h = f x h
map-ok (Err e) P Q f h = h

-- what a look found is the state's answer
pub found-ok : {E : Type 0} (s : State) (id thread : ℕ) (own : Node) (peer : Option Node) (n : GroupNode) (call : Call) (r : Result Ready E) → IsSound s → (row_of call).group ≡ Some id
    → LendsFor s call own peer (Some n)
    → ((g : Group) → AreSoundTogether own.posts.posts own.posts.me id g → IsGroupNode g n → IfOk r (λ found. found ≡ collective_answer own.posts.posts g own.posts.me thread id call))
    → IfOk r (λ found. answer_in s own.posts.me thread call ≡ Some found)
found-ok s id thread own peer n call r sound named lends is =
    let lent = lent-for s id call own peer n named lends in
    let group = lent.group_node in
    let together = together-in s own.posts.me id own.posts.posts group.group sound lent.own_node.posts.posts group.there in
    let there = answered-there s own.posts.me id thread own.posts.posts group.group call lent.within lent.own_node.posts.posts group.there named in
    map-ok r (λ found. found ≡ collective_answer own.posts.posts group.group own.posts.me thread id call) (λ found. answer_in s own.posts.me thread call ≡ Some found)
    (λ x same. there ∙ ap (λ (y : Ready). Some y) (sym same)) (is group.group together group.stands)

-- and where the state's answer is that the call is not ready, so is that of the group
pub found-unready : {P : Type 0} (s : State) (id thread : ℕ) (own : Node) (peer : Option Node) (n : GroupNode) (call : Call) → IsSound s → (row_of call).group ≡ Some id → LendsFor s call own peer (Some n)
    → ((g : Group) → AreSoundTogether own.posts.posts own.posts.me id g → IsGroupNode g n → collective_answer own.posts.posts g own.posts.me thread id call ≡ NotReady → P)
    → answer_in s own.posts.me thread call ≡ Some NotReady → P
found-unready s id thread own peer n call sound named lends is waits =
    let lent = lent-for s id call own peer n named lends in
    let group = lent.group_node in
    let together = together-in s own.posts.me id own.posts.posts group.group sound lent.own_node.posts.posts group.there in
    let there = answered-there s own.posts.me id thread own.posts.posts group.group call lent.within lent.own_node.posts.posts group.there named in
    let both : ◌≡◌ {A = Option Ready} (Some (collective_answer own.posts.posts group.group own.posts.me thread id call)) (Some NotReady) = sym there ∙ waits in
    is group.group together group.stands (let same : collective_answer own.posts.posts group.group own.posts.me thread id call ≡ NotReady = cc in same)

pub found-nowhere : (s : State) (id thread : ℕ) (own : Node) (peer : Option Node) (call : Call) (found : Ready) → (row_of call).group ≡ Some id → LendsFor s call own peer None
    → ((g : Group) → found ≡ collective_answer own.posts.posts g own.posts.me thread id call) → answer_in s own.posts.me thread call ≡ Some found
found-nowhere s id thread own peer call found named lends is =
    answered-over s own.posts.me id thread own.posts.posts call lends.own_node.posts.posts named ∙ ap (λ (y : Ready). Some y) (sym (is (group_in s id)))

-- A collective that waits.

waiting-named : (own : PostsValue) (thread id : ℕ) (call : Call) → IsPendingFor own thread id call → (row_of call).group ≡ Some id
waiting-named own thread id call waits = ap (λ (x : Call). (row_of x).group) (sym waits.same) ∙ joining-named id waits.pending.args

waiting-within : (s : State) (own : PostsValue) (thread id : ℕ) (call : Call) → IsSound s → slice_get s.posts own.me ≡ Some own.posts → IsPendingFor own thread id call → id < 8
waiting-within s own thread id call sound there waits =
    let within = slice_get_within own.posts.pending id (Some waits.pending) (joined own.posts.pending id waits.pending waits.there) in
    let many = (sound.posts own.me own.posts there).tables.pending in
    omega arith

-- its group's node is lent
pub waiting-lent : (call : Call) (own : Node) (peer : Option Node) (thread id : ℕ) → IsPendingFor own.posts thread id call → AreLentFor call own peer None → ⊥
waiting-lent call own peer thread id waits lent =
    let over = lent-over lent.state id call own peer (waiting-named own.posts thread id call waits) lent.lends in
    let within = waiting-within lent.state own.posts thread id call lent.sound lent.lends.own_node.posts.posts waits in
    omega arith

pub waiting-own : (s : State) (rank : ℕ) (call : Call) (own : Node) (peer : Option Node) (n : GroupNode) (thread id : ℕ) → IsSound s → rank ≡ own.posts.me → IsPendingFor own.posts thread id call
    → LendsFor s call own peer (Some n) → (g : Group) × IsMine g n rank call
waiting-own s rank call own peer n thread id sound is waits lends =
    let stand = lent-stand s id call own peer n sound (waiting-named own.posts thread id call waits) lends in
    (stand.group, subst (λ (r : ℕ). IsMine stand.group n r call) (sym is) (waiting-mine own.posts thread id stand.group n call stand.sound stand.is waits))

pub waiting-found : (s : State) (rank : ℕ) (call : Call) (own : Node) (peer : Option Node) (n : GroupNode) (thread id : ℕ) (found : Ready) → IsSound s → rank ≡ own.posts.me → IsPendingFor own.posts thread id call
    → LendsFor s call own peer (Some n) → ((g : Group) → IsMine g n rank call → found ≡ resumed_answer g rank call) → answer_in s own.posts.me thread call ≡ Some found
waiting-found s rank call own peer n thread id found sound is waits lends finds =
    let named = waiting-named own.posts thread id call waits in
    let lent = lent-for s id call own peer n named lends in
    let group = lent.group_node in
    let together = together-in s own.posts.me id own.posts.posts group.group sound lent.own_node.posts.posts group.there in
    let mine = waiting-mine own.posts thread id group.group n call together group.stands waits in
    let here : found ≡ resumed_answer group.group rank call = finds group.group (subst (λ (r : ℕ). IsMine group.group n r call) (sym is) mine) in
    answered-there s own.posts.me id thread own.posts.posts group.group call lent.within lent.own_node.posts.posts group.there named
    ∙ ap (λ (y : Ready). Some y) (waiting-answer own.posts thread id group.group call together waits ∙ ap (λ (r : ℕ). resumed_answer group.group r call) (sym is) ∙ sym here)
