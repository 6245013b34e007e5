-- One look at a call by the nodes that are lent for it.
use Rattle.std.proofs.Common.{◌≡◌, ℕ, ◌+◌, ◌-◌, ◌<◌, ◌≤◌, ◌==◌, inl, inr, true, false, not, nat_lt, List, [], ◌∷◌, ◌++◌, length, append-nil, append_assoc, Option, None, Some, Ok, Err, IsOk, refl, sym, ap, ◌∙◌, subst, arith, if◌then◌else◌}
use Rattle.std.specs.List.{slice_get}
use Rattle.std.proofs.lemmas.Bool.{eq-eqb, lt-ltb, le-ltb, ltb-false}
use Rattle.gaspi_types.specs.CallRows.{row_of, need_of}
use Rattle.gaspi_types.specs.declared.calls.Call.{Call}
use Rattle.gaspi_types.specs.declared.collectives.Coll.{Coll}
use Rattle.gaspi_types.specs.declared.collectives.Coll.TheVariants as colls
use Rattle.gaspi_types.specs.declared.events.Event.{Event}
use Rattle.gaspi_types.specs.declared.events.Event.TheVariants.{Called, Joined}
use Rattle.gaspi_types.specs.declared.events.PlacedEvent.{PlacedEvent}
use Rattle.gaspi_types.specs.declared.groups.Args.{Args}
use Rattle.gaspi_types.specs.NumberTypes.{TypedNumbers}
use Rattle.gaspi_types.specs.Collectives.{AreValuesOf}
use Rattle.gaspi_types.specs.declared.replies.Ready.{Ready}
use Rattle.gaspi_types.specs.declared.replies.Ready.TheVariants as ready
use Rattle.gaspi_types.specs.declared.replies.Reply.{Reply}
use Rattle.gaspi_types.specs.declared.shapes.CallerId.{CallerId}
use Rattle.gaspi_types.specs.declared.shapes.Limits.{Limits}
use Rattle.gaspi_types.specs.declared.footprints.DeclaredFootprint.{DeclaredFootprint}
use Rattle.gaspi_types.specs.Footprints.{footprint_of}
use Rattle.gaspi_model.specs.CollectiveCalls.{joining_call, group_of, join_event, is_joining, segment_checks}
use Rattle.gaspi_model.specs.Calls.{recorded_reply}
use Rattle.gaspi_model.specs.Sound.{IsSound}
use Rattle.gaspi_model.specs.State.{owed, thread_at, is_running}
use Rattle.gaspi_model.specs.Step.{step, answer_in, lacks_room_in, is_pending_on, used_room, is_pending, is_active}
use Rattle.gaspi_model.specs.declared.states.Posts.{Posts}
use Rattle.gaspi_model.specs.declared.states.State.{State}
use Rattle.gaspi_model.proofs.GroupEffects.{join-step}
use Rattle.gaspi_model.proofs.Recordable.{recorded-is_step, joined-is_step, joined-goes-on}
use Rattle.gaspi_model.proofs.Sound.Joins.{join-whole}
use Rattle.gaspi_model.proofs.Sound.Steps.{steps, limits-stay}
use Rattle.rank_node.specs.Collectives.{IsMadeFor}
use Rattle.rank_node.specs.Lending.{Lends, LendsFor, AreLentFor, IsStepOn, MayStep, IsLeft, call_footprint}
use Rattle.rank_node.specs.Numbers.{elements_in}
use Rattle.rank_node.specs.Rooms.{HasMade}
use Rattle.rank_node.specs.Values.{PostsValue}
use Rattle.rank_node.specs.declared.making.MadeSegment.{MadeSegment}
use Rattle.rank_node.specs.declared.nodes.GroupNode.{GroupNode}
use Rattle.rank_node.specs.declared.nodes.Node.{Node}
use Rattle.two_nodes.specs.LentLooks.{AreLentTo, MayLook, HaveLooked, IsJoiner, MayJoin}
use Rattle.two_nodes.specs.Looks.{placed_of}
use Rattle.two_nodes.specs.declared.stops.CallStop.TheVariants.{NoMemory, EventLimit}
use Rattle.two_nodes.proofs.LookSteps.{ok-of, join-itself, join-touches}

-- By the caller's rank, or by that of the node.
pub lends-for : (s : State) (c : CallerId) (call : Call) (own : Node) (peer : Option Node) (group : Option GroupNode) → Lends s c.rank (call_footprint s.limits c.rank call) own peer group → LendsFor s call own peer group
lends-for s c call own peer group lends = subst (λ (r : ℕ). Lends s r (call_footprint s.limits r call) own peer group) (sym lends.own_node.posts.me) lends

pub lent-for : (c : CallerId) (call : Call) (own : Node) (peer : Option Node) (group : Option GroupNode) → MayLook c call own peer group → AreLentFor call own peer group
lent-for c call own peer group may = record { state = may.0; sound = may.1.sound; lends = lends-for may.0 c call own peer group may.1.lends }

pub step-lent : (c : CallerId) (call : Call) (reply : Reply) (own : Node) (peer : Option Node) (group : Option GroupNode) → MayStep (Called c call reply) own peer group → AreLentFor call own peer group
step-lent c call reply own peer group may = record { state = may.0; sound = may.2.sound; lends = lends-for may.0 c call own peer group may.2.lends }

-- what a look answers, of the caller's rank
pub answered-at : (s : State) (c : CallerId) (call : Call) (own : Node) (peer : Option Node) (group : Option GroupNode) (found : Ready) → AreLentTo s c call own peer group
    → answer_in s own.posts.me c.thread call ≡ Some found → answer_in s c.rank c.thread call ≡ Some found
answered-at s c call own peer group found lent is = subst (λ (r : ℕ). answer_in s r c.thread call ≡ Some found) lent.lends.own_node.posts.me is

-- Whether there is room is told by the own node.
full-as : (s : State) (c : CallerId) (call : Call) (posts : Posts) → slice_get s.posts c.rank ≡ Some posts
    → lacks_room_in s c call ≡ nat_lt s.limits.events (posts.events + owed posts + need_of call (is_pending_on c.thread posts (row_of call).group) (not (is_running (thread_at posts c.thread))))
full-as s c call posts at = rw at refl

pub full-answered : (s : State) (c : CallerId) (call : Call) (own : Node) (peer : Option Node) (group : Option GroupNode) (room need : ℕ) → AreLentTo s c call own peer group
    → room ≡ own.posts.limits.events - (own.posts.posts.events + owed own.posts.posts)
    → need ≡ need_of call (is_pending_on c.thread own.posts.posts (row_of call).group) (not (is_running (thread_at own.posts.posts c.thread)))
    → (room < need → lacks_room_in s c call ≡ true) × (need ≤ room → lacks_room_in s c call ≡ false)
full-answered s c call own peer group room need lent room_is need_is =
    let posts = lent.lends.own_node.posts in
    let limits : own.posts.limits.events ≡ s.limits.events = ap (λ (l : Limits). l.events) posts.limits in
    let kept = (lent.sound.posts c.rank own.posts.posts posts.posts).room in
    let full = full-as s c call own.posts.posts posts.posts in
    let total = own.posts.posts.events + owed own.posts.posts + need_of call (is_pending_on c.thread own.posts.posts (row_of call).group) (not (is_running (thread_at own.posts.posts c.thread))) in (
      (λ less. full ∙ lt-ltb s.limits.events total (omega arith)),
      (λ fits. full ∙ le-ltb s.limits.events total (omega arith)),
    )

-- a call that has room
has-room : (s : State) (c : CallerId) (call : Call) → lacks_room_in s c call ≡ false → used_room s c.rank + need_of call (is_pending s c.rank c.thread call) (not (is_active s c.rank c.thread)) ≤ s.limits.events
has-room s c call room = ltb-false s.limits.events _ room

-- Nothing was recorded.
module _ (s : State) (c : CallerId) (call : Call) (own : Node) (peer : Option Node) (group : Option GroupNode) (place : ℕ) where
  pub looked-full : AreLentTo s c call own peer group → lacks_room_in s c call ≡ true → HaveLooked s c call (Err EventLimit) place place own own peer peer group
  looked-full lent full = record {
    after = s;
    events = [];
    looks = (full, refl, refl);
    lends = lent.lends;
    next_is = omega arith;
    journal = sym (append-nil own.posts.journal);
    peer_journal = refl;
  }

  pub looked-short : AreLentTo s c call own peer group → lacks_room_in s c call ≡ false → HaveLooked s c call (Err NoMemory) place place own own peer peer group
  looked-short lent room = record {
    after = s;
    events = [];
    looks = (room, refl, refl);
    lends = lent.lends;
    next_is = omega arith;
    journal = sym (append-nil own.posts.journal);
    peer_journal = refl;
  }

  pub looked-waiting : AreLentTo s c call own peer group → lacks_room_in s c call ≡ false → answer_in s c.rank c.thread call ≡ Some ready.NotReady → HaveLooked s c call (Ok None) place place own own peer peer group
  looked-waiting lent room waits = record {
    after = s;
    events = [];
    looks = record { room = room; joins = []; calls = []; events_are = refl; between = s; joined = inl (refl, refl); told_as = (refl, waits, refl) };
    lends = lent.lends;
    next_is = omega arith;
    journal = sym (append-nil own.posts.journal);
    peer_journal = refl;
  }

-- A call that is answered is recorded.
pub settles : (s : State) (c : CallerId) (call : Call) (own : Node) (peer : Option Node) (group : Option GroupNode) (reply : Reply) → AreLentTo s c call own peer group → lacks_room_in s c call ≡ false
    → answer_in s c.rank c.thread call ≡ Some (ready.Reply reply) → (t : State) × IsStepOn s t (Called c call reply) own peer group
settles s c call own peer group reply lent room is =
    let ok : IsOk (step s (Called c call reply)) = recorded-is_step s c call (ready.Reply reply) lent.sound lent.declared (has-room s c call room) is refl in
    let t = ok-of (step s (Called c call reply)) ok in
    (t.0, record { sound = lent.sound; lends = lent.lends; is_step = t.1 })

placed-own : (rank place : ℕ) (e : Event) (rest : List PlacedEvent) (owner : ℕ) → owner ≡ rank → (if owner == rank then record { place = place; event = e } ∷ rest else rest) ≡ record { place = place; event = e } ∷ rest
placed-own rank place e rest owner is = rw (eq-eqb owner rank is) refl

pub looked-settled : (s t : State) (c : CallerId) (call : Call) (reply : Reply) (place next : ℕ) (own own' : Node) (peer peer' : Option Node) (group group' : Option GroupNode) → lacks_room_in s c call ≡ false
    → answer_in s c.rank c.thread call ≡ Some (ready.Reply reply) → IsStepOn s t (Called c call reply) own peer group → next ≡ place + 1 → IsLeft s t (Called c call reply) place own own' peer peer' group'
    → HaveLooked s c call (Ok (Some reply)) place next own own' peer peer' group'
looked-settled s t c call reply place next own own' peer peer' group group' room is on next_is left = record {
  after = t;
  events = Called c call reply ∷ [];
  looks = record { room = room; joins = []; calls = Called c call reply ∷ []; events_are = refl; between = s; joined = inl (refl, refl); told_as = (refl, is, on.is_step) };
  lends = left.lends;
  next_is = next_is;
  journal = left.journal ∙ ap (λ (x : List PlacedEvent). own.posts.journal ++ x) (sym (placed-own c.rank place (Called c call reply) [] c.rank refl));
  peer_journal = left.peer_journal;
}

-- A collective that may join joins.
pub joins : (s : State) (c : CallerId) (call : Call) (args : Args) (own : Node) (peer : Option Node) (group : Option GroupNode) → IsJoiner s c call args own peer group
    → (m : State) × IsStepOn s m (Joined c (group_of call) args) own peer group
joins s c call args own peer group is =
    let ok = joined-is_step s c call args is.lent.sound (has-room s c call is.room) is.joins in
    let m = ok-of (step s (join_event c call args)) ok in
    let declaration = join-touches s c call args is.joins in (
      m.0,
      record {
        sound = is.lent.sound;
        lends = subst (λ (x : DeclaredFootprint). Lends s c.rank (footprint_of s.limits.ranks c.rank x) own peer group) (sym declaration) is.lent.lends;
        is_step = m.1;
      },
    )

pub may-join : (c : CallerId) (call : Call) (args : Args) (own : Node) (peer : Option Node) (group : Option GroupNode) → MayJoin c call args own peer group → MayStep (Joined c (group_of call) args) own peer group
may-join c call args own peer group may = let m = joins may.0 c call args own peer group may.1 in (may.0, m.0, m.1)

-- on a group that is there
pub join-within : (c : CallerId) (call : Call) (args : Args) (own : Node) (peer : Option Node) (group : Option GroupNode) → MayJoin c call args own peer group → group_of call < 8
join-within c call args own peer group may =
    let m = joins may.0 c call args own peer group may.1 in
    (join-step may.0 m.0 c (group_of call) args m.1.sound m.1.is_step).5.there.within

-- its values fit a list for the call's elements
values-fit : (id : ℕ) (coll : Coll) (values : TypedNumbers) → AreValuesOf coll values → length values.items ≤ elements_in (joining_call id (record { coll = coll; values = values }))
values-fit id colls.Barrier values whole = rw whole (omega arith)
values-fit id (colls.Allreduce op t n) values whole = omega arith
values-fit id (colls.Create seg size) values whole = rw whole (omega arith)
values-fit id (colls.Commit mask) values whole = rw whole (omega arith)

pub join-fits : (c : CallerId) (call : Call) (args : Args) (own : Node) (peer : Option Node) (group : Option GroupNode) → MayJoin c call args own peer group → length args.values.items ≤ elements_in call
join-fits c call args own peer group may =
    let id = group_of call in
    let m = joins may.0 c call args own peer group may.1 in
    let is = join-step may.0 m.0 c id args m.1.sound m.1.is_step in
    let whole = join-whole is.4.members id args is.5.may.args_is in
    subst (λ (x : Call). length args.values.items ≤ elements_in x) (join-itself may.0 c call args may.1.joins) (values-fit id args.coll args.values whole)

-- the segment that it makes was made
made-as : (p : PostsValue) (id : ℕ) (args : Args) (made : Option MadeSegment) → segment_checks p.posts (joining_call id args) ≡ Ok tt → HasMade p (joining_call id args) made → IsMadeFor p args.coll made
made-as p id args made free has = go args.coll free has
  where
    go : (coll : Coll) → segment_checks p.posts (joining_call id (record { coll = coll; values = args.values })) ≡ Ok tt
        → HasMade p (joining_call id (record { coll = coll; values = args.values })) made → IsMadeFor p coll made
    go colls.Barrier free has = tt
    go (colls.Allreduce op t n) free has = tt
    go (colls.Create seg size) free has = has free
    go (colls.Commit mask) free has = tt

pub join-made : (c : CallerId) (call : Call) (args : Args) (own : Node) (peer : Option Node) (group : Option GroupNode) (made : Option MadeSegment) → MayJoin c call args own peer group → HasMade own.posts call made
    → IsMadeFor own.posts args.coll made
join-made c call args own peer group made may has =
    let id = group_of call in
    let m = joins may.0 c call args own peer group may.1 in
    let is = join-step may.0 m.0 c id args m.1.sound m.1.is_step in
    let there : ◌≡◌ {A = Option Posts} (Some is.0) (Some own.posts.posts) = sym is.5.posts_there ∙ may.1.lent.lends.own_node.posts.posts in
    let same : is.0 ≡ own.posts.posts = cc in
    made-as own.posts id args made (ap (λ (p : Posts). segment_checks p (joining_call id args)) (sym same) ∙ is.5.may.free)
    (subst (λ (x : Call). HasMade own.posts x made) (sym (join-itself may.0 c call args may.1.joins)) has)

-- After the join the call is answered, or not ready.
module _ (s m : State) (c : CallerId) (call : Call) (args : Args) (place : ℕ) (own own' : Node) (peer peer' : Option Node) (group group' : Option GroupNode) (is : IsJoiner s c call args own peer group)
    (on : IsStepOn s m (Joined c (group_of call) args) own peer group) (left : IsLeft s m (Joined c (group_of call) args) place own own' peer peer' group') where
  joined-limits : m.limits ≡ s.limits
  joined-limits = limits-stay s m (Joined c (group_of call) args) on.is_step

  joined-there : Lends m c.rank (call_footprint s.limits c.rank call) own' peer' group'
  joined-there = subst (λ (x : DeclaredFootprint). Lends m c.rank (footprint_of s.limits.ranks c.rank x) own' peer' group') (join-touches s c call args is.joins) left.lends

  joined-lends : Lends m c.rank (call_footprint m.limits c.rank call) own' peer' group'
  joined-lends = subst (λ (l : Limits). Lends m c.rank (call_footprint l c.rank call) own' peer' group') (sym joined-limits) joined-there

  pub joined-sound : IsSound m
  joined-sound = steps s m (Joined c (group_of call) args) on.sound on.is_step

  pub joined-for : LendsFor m call own' peer' group'
  joined-for = lends-for m c call own' peer' group' joined-lends

  pub joined-answer : (found : Ready) → answer_in m own'.posts.me c.thread call ≡ Some found → answer_in m c.rank c.thread call ≡ Some found
  joined-answer found at = subst (λ (r : ℕ). answer_in m r c.thread call ≡ Some found) joined-lends.own_node.posts.me at

  goes-on : (found : Ready) → answer_in m own'.posts.me c.thread call ≡ Some found → (is_joining found ≡ false) × IsOk (step m (Called c call (recorded_reply found)))
  goes-on found at = joined-goes-on s m c call args found is.lent.sound (has-room s c call is.room) is.joins on.is_step (joined-answer found at)

  pub joins-once : (again : Args) → answer_in m own'.posts.me c.thread call ≡ Some (ready.Join again) → ⊥
  joins-once again at = (let never : true ≡ false = (goes-on (ready.Join again) at).0 in let no : ⊥ = cc in no)

  pub completes : (reply : Reply) → answer_in m own'.posts.me c.thread call ≡ Some (ready.Reply reply) → (t : State) × IsStepOn m t (Called c call reply) own' peer' group'
  completes reply at =
      let t = ok-of (step m (Called c call reply)) (goes-on (ready.Reply reply) at).1 in
      (t.0, record { sound = joined-sound; lends = joined-lends; is_step = t.1 })

  pub looked-joined : (next : ℕ) → next ≡ place + 1 → answer_in m own'.posts.me c.thread call ≡ Some ready.NotReady → HaveLooked s c call (Ok None) place next own own' peer peer' group'
  looked-joined next next_is at =
      let e = join_event c call args in record {
        after = m;
        events = e ∷ [];
        looks = record { room = is.room; joins = e ∷ []; calls = []; events_are = refl; between = m; joined = inr (args, refl, is.joins, on.is_step); told_as = (refl, joined-answer ready.NotReady at, refl) };
        lends = joined-there;
        next_is = next_is;
        journal = left.journal ∙ ap (λ (x : List PlacedEvent). own.posts.journal ++ x) (sym (placed-own c.rank place e [] c.rank refl));
        peer_journal = left.peer_journal;
      }

  pub looked-completed : (t : State) (reply : Reply) (next last : ℕ) (own'' : Node) (peer'' : Option Node) (group'' : Option GroupNode) → next ≡ place + 1 → last ≡ next + 1
      → answer_in m own'.posts.me c.thread call ≡ Some (ready.Reply reply) → IsStepOn m t (Called c call reply) own' peer' group' → IsLeft m t (Called c call reply) next own' own'' peer' peer'' group''
      → HaveLooked s c call (Ok (Some reply)) place last own own'' peer peer'' group''
  looked-completed t reply next last own'' peer'' group'' next_is last_is at onward gone =
      let e = join_event c call args in
      let f = Called c call reply in
      let one : PlacedEvent = record { place = place; event = e } in
      let two : PlacedEvent = record { place = next; event = f } in
      let listed : placed_of c.rank place (e ∷ f ∷ []) ≡ one ∷ two ∷ [] =
      placed-own c.rank place e (placed_of c.rank (place + 1) (f ∷ [])) c.rank refl
      ∙ ap (λ (x : List PlacedEvent). one ∷ x) (placed-own c.rank (place + 1) f [] c.rank refl ∙ ap (λ (n : ℕ). (let x : PlacedEvent = record { place = n; event = f } in x ∷ [])) (sym next_is)) in record {
        after = t;
        events = e ∷ f ∷ [];
        looks = record { room = is.room; joins = e ∷ []; calls = f ∷ []; events_are = refl; between = m; joined = inr (args, refl, is.joins, on.is_step); told_as = (refl, joined-answer (ready.Reply reply) at, onward.is_step) };
        lends = subst (λ (l : Limits). Lends t c.rank (call_footprint l c.rank call) own'' peer'' group'') joined-limits gone.lends;
        next_is = (omega arith);
        journal = gone.journal ∙ ap (λ (x : List PlacedEvent). x ++ two ∷ []) left.journal ∙ append_assoc own.posts.journal (one ∷ []) (two ∷ []) ∙ ap (λ (x : List PlacedEvent). own.posts.journal ++ x) (sym listed);
        peer_journal = gone.peer_journal ∙ left.peer_journal;
      }
