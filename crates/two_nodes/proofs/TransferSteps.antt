-- Transfers that are the fronts of their lanes.
use Rattle.std.proofs.Common.{◌≡◌, ℕ, ◌+◌, ◌==◌, Bool, true, false, nat_lt, List, [], ◌∷◌, ◌++◌, append-nil, Option, None, Some, Ok, IsOk, refl, sym, ap, ◌∙◌, subst, if◌then◌else◌}
use Rattle.std.specs.List.{slice_get}
use Rattle.std.proofs.lemmas.Bool.{eq-eqb}
use Rattle.gaspi_types.specs.Footprints.{footprint_of, take_footprint, put_footprint}
use Rattle.gaspi_types.specs.declared.entries.Entry.{Entry}
use Rattle.gaspi_types.specs.declared.entries.Kind.{Kind}
use Rattle.gaspi_types.specs.declared.entries.Kind.TheVariants as kinds
use Rattle.gaspi_types.specs.declared.events.Event.{Event}
use Rattle.gaspi_types.specs.declared.events.Outcome.{Outcome}
use Rattle.gaspi_types.specs.declared.events.Outcome.TheVariants.{Applied}
use Rattle.gaspi_types.specs.declared.events.PlacedEvent.{PlacedEvent}
use Rattle.gaspi_types.specs.declared.events.Transfer.{Transfer}
use Rattle.gaspi_types.specs.declared.footprints.Footprint.{Footprint}
use Rattle.gaspi_types.specs.declared.footprints.Footprint.TheVariants.{Alone, OwnMemory, PeerMemory}
use Rattle.gaspi_types.specs.declared.footprints.DeclaredFootprint.{DeclaredFootprint}
use Rattle.gaspi_model.specs.Shards.{AgreeOnShard, is_shard, footprint_shards}
use Rattle.gaspi_model.specs.Sound.{IsSound}
use Rattle.gaspi_model.specs.Step.{step, owner_of, event_footprint, transfer_event, transfer_outcome}
use Rattle.gaspi_model.specs.Transfers.{take_outcome, put_outcome}
use Rattle.gaspi_model.specs.declared.states.Posts.{Posts}
use Rattle.gaspi_model.specs.declared.states.Shard.{Shard}
use Rattle.gaspi_model.specs.declared.states.State.{State}
use Rattle.gaspi_model.proofs.Local.Steps.{frame}
use Rattle.gaspi_model.proofs.Sound.Steps.{steps, counts, limits-stay}
use Rattle.rank_node.specs.Fronts.{front_entry, transfer_footprint, IsFront}
use Rattle.rank_node.specs.Lending.{IsPostsOf, IsNodeOf, IsPeer, IsPeerNode, IsGroupAt, Lends, IsStepOn, IsLeft, footprint_peer, footprint_group}
use Rattle.rank_node.specs.TransferSteps.{MayTake, MayPut, IsFirstPosted, IsFirstCarried}
use Rattle.rank_node.specs.Transfers.{take_of, put_of, event_of}
use Rattle.rank_node.specs.Values.{PostsValue}
use Rattle.rank_node.specs.declared.nodes.GroupNode.{GroupNode}
use Rattle.rank_node.specs.declared.nodes.Node.{Node}
use Rattle.two_nodes.specs.Looks.{placed_of}
use Rattle.two_nodes.specs.Transfers.{AreLentToMove, MayMove, HaveMoved, IsTransferred}
use Rattle.two_nodes.specs.Worlds.{ArePartsOf}
use Rattle.two_nodes.proofs.LookSteps.{ok-of}
use Rattle.two_nodes.proofs.Parts.{ComesOf, parts-after, peer-stays, kept-group, peer-there, differs}

abbrev pub FrontsAreSteps : Type 0
FrontsAreSteps = (s : State) (p : PostsValue) (t : Transfer) → IsSound s → IsPostsOf s p.me p → IsFront p t → IsOk (step s (transfer_event s t))

abbrev pub FrontFootprints : Type 0
FrontFootprints = (s : State) (p : PostsValue) (t : Transfer) (e : Entry) (outcome : Outcome) → IsSound s → IsPostsOf s p.me p → IsFront p t → front_entry p t ≡ Some e
    → event_footprint s.limits p.posts (event_of t outcome) ≡ transfer_footprint s.limits.ranks t e.kind

-- the event of a transfer, by what it is
abbrev put_event : State → Transfer → Event
put_event s t = put_of t (transfer_outcome s t put_outcome)

abbrev take_event : State → Transfer → Event
take_event s t = take_of t (transfer_outcome s t take_outcome)

is-put : (s : State) (t : Transfer) → t.put ≡ true → transfer_event s t ≡ put_event s t
is-put s t puts = rw puts refl

is-take : (s : State) (t : Transfer) → t.put ≡ false → transfer_event s t ≡ take_event s t
is-take s t takes = rw takes refl

-- the front is a step
front-step : FrontsAreSteps → (s : State) (t : Transfer) (own : Node) (peer : Option Node) (group : Option GroupNode) → IsFront own.posts t → AreLentToMove s t own peer group
    → (after : State) × (step s (transfer_event s t) ≡ Ok after)
front-step law s t own peer group front is =
    let there : IsPostsOf s own.posts.me own.posts = subst (λ (n : ℕ). IsPostsOf s n own.posts) front.mine is.lends.own_node.posts in
    ok-of (step s (transfer_event s t)) (law s own.posts t is.sound there front)

put-on : FrontsAreSteps → (s : State) (t : Transfer) (own : Node) (peer : Option Node) (group : Option GroupNode) → IsFront own.posts t → t.put ≡ true → AreLentToMove s t own peer group
    → (after : State) × (step s (transfer_event s t) ≡ Ok after) × IsStepOn s after (put_event s t) own peer group
put-on law s t own peer group front puts is =
    let after = front-step law s t own peer group front is in
    let lent : Lends s t.origin (event_footprint s.limits own.posts.posts (put_event s t)) own peer group = rw puts at is.lends in
    (after.0, after.1, record { sound = is.sound; lends = lent; is_step = subst (λ (e : Event). step s e ≡ Ok after.0) (is-put s t puts) after.1 })

take-on : FrontsAreSteps → (s : State) (t : Transfer) (own : Node) (peer : Option Node) (group : Option GroupNode) → IsFront own.posts t → t.put ≡ false → AreLentToMove s t own peer group
    → (after : State) × (step s (transfer_event s t) ≡ Ok after) × IsStepOn s after (take_event s t) own peer group
take-on law s t own peer group front takes is =
    let after = front-step law s t own peer group front is in
    let lent : Lends s t.origin (event_footprint s.limits own.posts.posts (take_event s t)) own peer group = rw takes at is.lends in
    (after.0, after.1, record { sound = is.sound; lends = lent; is_step = subst (λ (e : Event). step s e ≡ Ok after.0) (is-take s t takes) after.1 })

pub may-put : FrontsAreSteps → (t : Transfer) (own : Node) (peer : Option Node) (group : Option GroupNode) → IsFront own.posts t → t.put ≡ true → IsFirstCarried own.posts t → MayMove t own peer group
    → MayPut own peer group t
may-put law t own peer group front puts first may =
    let on = put-on law may.0 t own peer group front puts may.1 in
    (may.0, on.0, transfer_outcome may.0 t put_outcome, on.2, first)

pub may-take : FrontsAreSteps → (t : Transfer) (own : Node) (peer : Option Node) (group : Option GroupNode) → IsFront own.posts t → t.put ≡ false → IsFirstPosted own.posts t → MayMove t own peer group
    → MayTake own peer group t
may-take law t own peer group front takes first may =
    let on = take-on law may.0 t own peer group front takes may.1 in
    (may.0, on.0, transfer_outcome may.0 t take_outcome, on.2, first)

-- what an event leaves that is that of a transfer
left-as : (s after : State) (t : Transfer) (e : Event) (place next : ℕ) (own own' : Node) (peer peer' : Option Node) (group' : Option GroupNode) → transfer_event s t ≡ e → owner_of e ≡ t.origin
    → step s (transfer_event s t) ≡ Ok after → next ≡ place + 1 → IsLeft s after e place own own' peer peer' group' → HaveMoved s t place next own own' peer peer' group'
left-as s after t e place next own own' peer peer' group' same owner h next_is left = record {
  after = after;
  is_step = h;
  next_is = next_is;
  lends = subst (λ (x : Event). Lends after t.origin (event_footprint s.limits own.posts.posts x) own' peer' group') (sym same)
      (subst (λ (r : ℕ). Lends after r (event_footprint s.limits own.posts.posts e) own' peer' group') owner left.lends);
  journal = left.journal ∙ ap (λ (x : Event). (let one : PlacedEvent = record { place = place; event = x } in own.posts.journal ++ one ∷ [])) (sym same);
  peer_journal = left.peer_journal;
}

pub moved-put : FrontsAreSteps → (s : State) (t : Transfer) (place next : ℕ) (own own' : Node) (peer peer' : Option Node) (group group' : Option GroupNode) → IsFront own.posts t → t.put ≡ true
    → AreLentToMove s t own peer group → next ≡ place + 1
    → ((a : State) (o : Outcome) → IsStepOn s a (put_of t o) own peer group → IsLeft s a (put_of t o) place own own' peer peer' group') → HaveMoved s t place next own own' peer peer' group'
moved-put law s t place next own own' peer peer' group group' front puts is next_is left =
    let on = put-on law s t own peer group front puts is in
    left-as s on.0 t (put_event s t) place next own own' peer peer' group' (is-put s t puts) refl on.1 next_is (left on.0 (transfer_outcome s t put_outcome) on.2)

pub moved-take : FrontsAreSteps → (s : State) (t : Transfer) (place next : ℕ) (own own' : Node) (peer peer' : Option Node) (group group' : Option GroupNode) → IsFront own.posts t → t.put ≡ false
    → AreLentToMove s t own peer group → next ≡ place + 1
    → ((a : State) (o : Outcome) → IsStepOn s a (take_of t o) own peer group → IsLeft s a (take_of t o) place own own' peer peer' group') → HaveMoved s t place next own own' peer peer' group'
moved-take law s t place next own own' peer peer' group group' front takes is next_is left =
    let on = take-on law s t own peer group front takes is in
    left-as s on.0 t (take_event s t) place next own own' peer peer' group' (is-take s t takes) refl on.1 next_is (left on.0 (transfer_outcome s t take_outcome) on.2)

-- The events of a transfer.
event-as : (s : State) (t : Transfer) → (o : Outcome) × (transfer_event s t ≡ event_of t o)
event-as s t = go t.put refl
  where
    go : (b : Bool) → t.put ≡ b → (o : Outcome) × (transfer_event s t ≡ event_of t o)
    go true puts = (transfer_outcome s t put_outcome, rw puts refl)
    go false takes = (transfer_outcome s t take_outcome, rw takes refl)

event-owner : (t : Transfer) (o : Outcome) → owner_of (event_of t o) ≡ t.origin
event-owner t o = go t.put refl
  where
    go : (b : Bool) → t.put ≡ b → owner_of (event_of t o) ≡ t.origin
    go true puts = rw puts refl
    go false takes = rw takes refl

event-frame : (s after : State) (e : Event) (posts : Posts) (origin : ℕ) (r : Footprint) (shard : Shard) → owner_of e ≡ origin → slice_get s.posts origin ≡ Some posts → event_footprint s.limits posts e ≡ r
    → step s e ≡ Ok after → is_shard (footprint_shards origin r) shard ≡ false → AgreeOnShard after s shard
event-frame s after e posts origin r shard owner there footprint h out =
    let at : slice_get s.posts (owner_of e) ≡ Some posts = ap (λ (n : ℕ). slice_get s.posts n) owner ∙ there in
    let same : is_shard (footprint_shards (owner_of e) (event_footprint s.limits posts e)) shard ≡ false =
    ap (λ (n : ℕ). is_shard (footprint_shards n (event_footprint s.limits posts e)) shard) owner ∙ ap (λ (x : Footprint). is_shard (footprint_shards origin x) shard) footprint ∙ out in
    frame s after e shard h (rw at same)

-- A transfer reaches no group.
reaches-none : (ranks me k : ℕ) → footprint_group (if k == me then OwnMemory else (if nat_lt k ranks then PeerMemory k else Alone)) ≡ None
reaches-none ranks me k = go (k == me) (nat_lt k ranks)
  where
    go : (a b : Bool) → footprint_group (if a then OwnMemory else (if b then PeerMemory k else Alone)) ≡ None
    go true b = refl
    go false true = refl
    go false false = refl

pub transfer-ungrouped : (ranks : ℕ) (t : Transfer) (kind : Kind) → footprint_group (transfer_footprint ranks t kind) ≡ None
transfer-ungrouped ranks t kind = go t.put refl kind
  where
    puts : (k : Kind) → footprint_group (footprint_of ranks t.origin (put_footprint t.target k)) ≡ None
    puts (kinds.Write own target) = reaches-none ranks t.origin t.target
    puts (kinds.Read own target) = refl
    puts (kinds.Notify target value) = reaches-none ranks t.origin t.target
    puts (kinds.ReadNote own) = refl

    takes : (k : Kind) → footprint_group (footprint_of ranks t.origin (take_footprint t.target k)) ≡ None
    takes (kinds.Write own target) = refl
    takes (kinds.Read own target) = reaches-none ranks t.origin t.target
    takes (kinds.Notify target value) = refl
    takes (kinds.ReadNote own) = refl

    go : (b : Bool) → t.put ≡ b → (k : Kind) → footprint_group (transfer_footprint ranks t k) ≡ None
    go true is k = rw is (puts k)
    go false is k = rw is (takes k)

-- The transfer of the first rank of two.
module _ (law : FrontFootprints) (s : State) (me other place : ℕ) (own peer : Node) (group : GroupNode) (t : Transfer) (r : Footprint) (parts : ArePartsOf s me other own peer group place) (front : IsFront own.posts t)
    (footprint : (e : Entry) → front_entry own.posts t ≡ Some e → r ≡ transfer_footprint 2 t e.kind) where
  origin-is : t.origin ≡ me
  origin-is = front.mine ∙ parts.own_node.posts.me

  footprint-is : (o : Outcome) → event_footprint s.limits own.posts.posts (event_of t o) ≡ r
  footprint-is o =
      let there : IsPostsOf s own.posts.me own.posts = subst (λ (n : ℕ). IsPostsOf s n own.posts) (sym parts.own_node.posts.me) parts.own_node.posts in
      law s own.posts t front.entry o parts.sound there front front.next ∙ ap (λ (n : ℕ). transfer_footprint n t front.entry.kind) parts.two ∙ sym (footprint front.entry front.next)

  ungrouped : footprint_group r ≡ None
  ungrouped = ap footprint_group (footprint front.entry front.next) ∙ transfer-ungrouped 2 t front.entry.kind

  pub no-group : (id : ℕ) → footprint_group r ≡ Some id → ⊥
  no-group id is = (let none = ungrouped in let no : ⊥ = cc in no)

  lent-to-move : (p : Option Node) → IsPeer s t.origin (footprint_peer r) p → AreLentToMove s t own p None
  lent-to-move p is_peer =
      let here = footprint-is Applied in record {
        sound = parts.sound;
        lends = subst (λ (x : Footprint). Lends s t.origin x own p None) (sym here) (record {
          own_node = subst (λ (n : ℕ). IsNodeOf s n own) (sym origin-is) parts.own_node;
          peer_node = is_peer;
          group_node = subst (λ (o : Option ℕ). IsGroupAt s o None) (sym ungrouped) tt;
        });
      }

  pub move-alone : footprint_peer r ≡ None → AreLentToMove s t own None None
  move-alone none = lent-to-move None (subst (λ (o : Option ℕ). IsPeer s t.origin o None) (sym none) tt)

  peer-of : (rank : ℕ) → footprint_peer r ≡ Some rank → footprint_peer r ≡ Some other
  peer-of rank is =
      let declaration : DeclaredFootprint = if t.put then put_footprint t.target front.entry.kind else take_footprint t.target front.entry.kind in
      let there = peer-there 2 t.origin declaration rank (sym (ap footprint_peer (footprint front.entry front.next)) ∙ is) in
      is ∙ ap (λ (n : ℕ). Some n) (parts.others rank there.1 (ap (λ (n : ℕ). rank == n) (sym origin-is) ∙ there.0))

  pub move-between : (rank : ℕ) → footprint_peer r ≡ Some rank → AreLentToMove s t own (Some peer) None
  move-between rank is =
      lent-to-move (Some peer) (subst (λ (o : Option ℕ). IsPeer s t.origin o (Some peer)) (sym (peer-of rank is))
      (record { apart = ap (λ (n : ℕ). other == n) origin-is ∙ parts.apart; node = parts.peer_node }))

  transfer-comes : (after : State) → step s (transfer_event s t) ≡ Ok after → ComesOf s after me r 1
  transfer-comes after h =
      let event = event-as s t in
      let made : step s (event_of t event.0) ≡ Ok after = subst (λ (e : Event). step s e ≡ Ok after) event.1 h in record {
        sound = steps s after (transfer_event s t) parts.sound h;
        limits = limits-stay s after (transfer_event s t) h;
        left = counts s after (transfer_event s t) parts.sound h;
        frame = λ shard out. event-frame s after (event_of t event.0) own.posts.posts me r shard (event-owner t event.0 ∙ origin-is) parts.own_node.posts.posts (footprint-is event.0) made out;
      }

  transfer-owner : owner_of (transfer_event s t) ≡ me
  transfer-owner = (let event = event-as s t in ap owner_of event.1 ∙ event-owner t event.0 ∙ origin-is)

  own-placed : placed_of me place (transfer_event s t ∷ []) ≡ record { place = place; event = transfer_event s t } ∷ []
  own-placed = rw (eq-eqb (owner_of (transfer_event s t)) me transfer-owner) refl

  other-placed : placed_of other place (transfer_event s t ∷ []) ≡ []
  other-placed = (let apart : (owner_of (transfer_event s t) == other) ≡ false = ap (λ (n : ℕ). n == other) transfer-owner ∙ differs me other parts.apart in rw apart refl)

  not-noted : (peer' : Node) → peer'.posts.journal ≡ peer.posts.journal → peer'.posts.journal ≡ peer.posts.journal ++ placed_of other place (transfer_event s t ∷ [])
  not-noted peer' same = same ∙ sym (append-nil peer.posts.journal) ∙ ap (λ (x : List PlacedEvent). peer.posts.journal ++ x) (sym other-placed)

  module _ (after : State) (h : step s (transfer_event s t) ≡ Ok after) where
    after-here : (own' : Node) (p : Option Node) → Lends after t.origin (event_footprint s.limits own.posts.posts (transfer_event s t)) own' p None → Lends after me r own' p None
    after-here own' p lends =
        let event = event-as s t in
        subst (λ (n : ℕ). Lends after n r own' p None) origin-is
        (subst (λ (x : Footprint). Lends after t.origin x own' p None) (footprint-is event.0) (subst (λ (e : Event). Lends after t.origin (event_footprint s.limits own.posts.posts e) own' p None) event.1 lends))

  pub transferred-alone : (next : ℕ) (own' : Node) → footprint_peer r ≡ None → HaveMoved s t place next own own' None None None → IsTransferred s me other place next own own' peer peer group
  transferred-alone next own' none is =
      let on = transfer-comes is.after is.is_step in
      let here = after-here is.after is.is_step own' None is.lends in record {
        transfer = t;
        mine = origin-is;
        after = is.after;
        is_step = is.is_step;
        next_is = is.next_is;
        parts = parts-after s is.after me other place next 1 own peer group r parts on is.next_is own' peer group here.own_node (peer-stays s is.after me other place 1 own peer group r parts on none)
            (kept-group s is.after me other place 1 own peer group r parts on ungrouped);
        journal = is.journal ∙ ap (λ (x : List PlacedEvent). own.posts.journal ++ x) (sym own-placed);
        peer_journal = not-noted peer refl;
      }

  pub transferred-between : (next : ℕ) (own' peer' : Node) (rank : ℕ) → footprint_peer r ≡ Some rank → HaveMoved s t place next own own' (Some peer) (Some peer') None
      → IsTransferred s me other place next own own' peer peer' group
  transferred-between next own' peer' rank there is =
      let on = transfer-comes is.after is.is_step in
      let here = after-here is.after is.is_step own' (Some peer') is.lends in
      let node : IsPeerNode is.after me other peer' = subst (λ (o : Option ℕ). IsPeer is.after me o (Some peer')) (peer-of rank there) here.peer_node in
      let noted : peer'.posts.journal ≡ peer.posts.journal = (let some = is.peer_journal in cc) in record {
        transfer = t;
        mine = origin-is;
        after = is.after;
        is_step = is.is_step;
        next_is = is.next_is;
        parts = parts-after s is.after me other place next 1 own peer group r parts on is.next_is own' peer' group here.own_node node.node (kept-group s is.after me other place 1 own peer group r parts on ungrouped);
        journal = is.journal ∙ ap (λ (x : List PlacedEvent). own.posts.journal ++ x) (sym own-placed);
        peer_journal = not-noted peer' noted;
      }
