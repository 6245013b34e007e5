-- The nodes that no call reaches stay those of the state after it.
use Rattle.std.proofs.Common.{◌≡◌, ℕ, ◌+◌, ◌<◌, ◌==◌, ◌||◌, ◌⊎◌, inl, inr, Bool, true, false, nat_lt, nat_le, List, [], ◌∷◌, ◌++◌, length, append-nil, Option, None, Some, Result, Ok, Err, refl, sym, ap, ◌∙◌, subst, arith, if◌then◌else◌}
use Rattle.std.proofs.lemmas.Bool.{eqb-true, eqb-false, ltb-true, leb-true}
use Rattle.gaspi_types.specs.CallRows.{row_of}
use Rattle.gaspi_types.specs.Footprints.{footprint_of}
use Rattle.gaspi_types.specs.declared.call_rows.CallRow.{CallRow}
use Rattle.gaspi_types.specs.declared.calls.Call.{Call}
use Rattle.gaspi_types.specs.declared.events.Event.{Event}
use Rattle.gaspi_types.specs.declared.events.Event.TheVariants.{Called}
use Rattle.gaspi_types.specs.declared.events.PlacedEvent.{PlacedEvent}
use Rattle.gaspi_types.specs.declared.replies.Reply.{Reply}
use Rattle.gaspi_types.specs.declared.shapes.CallerId.{CallerId}
use Rattle.gaspi_types.specs.declared.shapes.Limits.{Limits}
use Rattle.gaspi_types.specs.declared.footprints.Footprint.{Footprint}
use Rattle.gaspi_types.specs.declared.footprints.Footprint.TheVariants.{Alone, OwnMemory, PeerMemory, BothMemories, PeerPosts, Group, GroupAndMemory}
use Rattle.gaspi_types.specs.declared.footprints.DeclaredFootprint.{DeclaredFootprint}
use Rattle.gaspi_types.specs.declared.footprints.DeclaredFootprint.TheVariants as touches
use Rattle.gaspi_model.specs.CollectiveCalls.{join_event}
use Rattle.gaspi_model.specs.Shards.{AgreeOnShard, is_shard, footprint_shards}
use Rattle.gaspi_model.specs.Sound.{IsSound, events_left}
use Rattle.gaspi_model.specs.Step.{is_declared}
use Rattle.gaspi_model.specs.declared.states.Shard.{Shard}
use Rattle.gaspi_model.specs.declared.states.Shard.TheVariants as shards
use Rattle.gaspi_model.specs.declared.states.State.{State}
use Rattle.rank_node.specs.Lending.{IsNodeOf, IsGroupOf, IsPeer, IsPeerNode, IsGroupAt, footprint_peer, footprint_group, call_footprint}
use Rattle.rank_node.specs.declared.nodes.GroupNode.{GroupNode}
use Rattle.rank_node.specs.declared.nodes.Node.{Node}
use Rattle.two_nodes.specs.LentLooks.{AreLentTo, HaveLooked}
use Rattle.two_nodes.specs.Looks.{MayHaveJoined, IsTold, Looks, placed_of}
use Rattle.two_nodes.specs.Worlds.{ArePartsOf, HasCalled, reaches_group_0}
use Rattle.two_nodes.specs.declared.stops.CallStop.{CallStop}
use Rattle.two_nodes.specs.declared.stops.CallStop.TheVariants.{NoMemory, EventLimit}
use Rattle.two_nodes.proofs.LookSteps.{looks-frame, looks-sound, looks-limits, looks-counted}

-- Which parts an event reaches.
pub differs : (a b : ℕ) → (b == a) ≡ false → (a == b) ≡ false
differs a b apart = go (a == b) refl
  where
    go : (x : Bool) → (a == b) ≡ x → (a == b) ≡ false
    go true is = absurd (eqb-false b a apart (sym (eqb-true a b is)))
    go false is = is

pub not-posts : (me other : ℕ) (r : Footprint) → (other == me) ≡ false → footprint_peer r ≡ None → is_shard (footprint_shards me r) (shards.Posts other) ≡ false
not-posts me other Alone apart none = rw (differs me other apart) refl
not-posts me other OwnMemory apart none = rw (differs me other apart) refl
not-posts me other (Group id) apart none = rw (differs me other apart) refl
not-posts me other (GroupAndMemory id) apart none = rw (differs me other apart) refl
not-posts me other (PeerMemory rank) apart none = absurd (let no : ⊥ = cc in no)
not-posts me other (BothMemories rank) apart none = absurd (let no : ⊥ = cc in no)
not-posts me other (PeerPosts rank) apart none = absurd (let no : ⊥ = cc in no)

pub not-memory : (me other : ℕ) (r : Footprint) → (other == me) ≡ false → footprint_peer r ≡ None → is_shard (footprint_shards me r) (shards.Memory other) ≡ false
not-memory me other Alone apart none = refl
not-memory me other OwnMemory apart none = rw (differs me other apart) refl
not-memory me other (Group id) apart none = refl
not-memory me other (GroupAndMemory id) apart none = rw (differs me other apart) refl
not-memory me other (PeerMemory rank) apart none = absurd (let no : ⊥ = cc in no)
not-memory me other (BothMemories rank) apart none = absurd (let no : ⊥ = cc in no)
not-memory me other (PeerPosts rank) apart none = absurd (let no : ⊥ = cc in no)

pub not-group : (me : ℕ) (r : Footprint) → footprint_group r ≡ None → is_shard (footprint_shards me r) (shards.Group 0) ≡ false
not-group me Alone none = refl
not-group me OwnMemory none = refl
not-group me (PeerMemory rank) none = refl
not-group me (BothMemories rank) none = refl
not-group me (PeerPosts rank) none = refl
not-group me (Group id) none = absurd (let no : ⊥ = cc in no)
not-group me (GroupAndMemory id) none = absurd (let no : ⊥ = cc in no)

-- a peer is another rank of the world
pub peer-there : (ranks me : ℕ) (declaration : DeclaredFootprint) (rank : ℕ) → footprint_peer (footprint_of ranks me declaration) ≡ Some rank → ((rank == me) ≡ false) × (rank < ranks)
peer-there ranks me declaration rank = go declaration
  where
    at : (k : ℕ) (far : Footprint) → footprint_peer far ≡ Some k → (a b : Bool) → (k == me) ≡ a → nat_lt k ranks ≡ b → (near : Footprint) → footprint_peer near ≡ None
        → footprint_peer (if a then near else (if b then far else Alone)) ≡ Some rank → ((rank == me) ≡ false) × (rank < ranks)
    at k far is true b same less near none h = absurd (let no : ⊥ = cc in no)
    at k far is false false same less near none h = absurd (let no : ⊥ = cc in no)
    at k far is false true same less near none h =
        let one : k ≡ rank = cc in
        (subst (λ (n : ℕ). (n == me) ≡ false) one same, subst (λ (n : ℕ). n < ranks) one (ltb-true k ranks less))

    go : (x : DeclaredFootprint) → footprint_peer (footprint_of ranks me x) ≡ Some rank → ((rank == me) ≡ false) × (rank < ranks)
    go touches.Nothing h = absurd (let no : ⊥ = cc in no)
    go touches.OwnMemory h = absurd (let no : ⊥ = cc in no)
    go (touches.MemoryOf k) h = at k (PeerMemory k) refl (k == me) (nat_lt k ranks) refl refl OwnMemory refl h
    go (touches.BothMemories k) h = at k (BothMemories k) refl (k == me) (nat_lt k ranks) refl refl OwnMemory refl h
    go (touches.PostsOf k) h = at k (PeerPosts k) refl (k == me) (nat_lt k ranks) refl refl Alone refl h
    go (touches.GroupOf id) h = absurd (none (nat_lt id 8) (Group id) refl h)
      where
        none : (b : Bool) (far : Footprint) → footprint_peer far ≡ None → footprint_peer (if b then far else Alone) ≡ Some rank → ⊥
        none true far is h = (let no : ⊥ = cc in no)
        none false far is h = (let no : ⊥ = cc in no)
    go (touches.GroupAndMemory id) h = absurd (none (nat_lt id 8) (GroupAndMemory id) refl h)
      where
        none : (b : Bool) (far : Footprint) → footprint_peer far ≡ None → footprint_peer (if b then far else Alone) ≡ Some rank → ⊥
        none true far is h = (let no : ⊥ = cc in no)
        none false far is h = (let no : ⊥ = cc in no)

-- a group that is reached is group 0
pub group-there : (ranks me : ℕ) (declaration : DeclaredFootprint) (id : ℕ) → reaches_group_0 declaration ≡ true → footprint_group (footprint_of ranks me declaration) ≡ Some id → id ≡ 0
group-there ranks me declaration id = go declaration
  where
    peers : (a b : Bool) (near far : Footprint) → footprint_group near ≡ None → footprint_group far ≡ None → footprint_group (if a then near else (if b then far else Alone)) ≡ Some id → id ≡ 0
    peers true b near far n f h = absurd (let no : ⊥ = cc in no)
    peers false true near far n f h = absurd (let no : ⊥ = cc in no)
    peers false false near far n f h = absurd (let no : ⊥ = cc in no)

    at : (k : ℕ) (far : Footprint) → footprint_group far ≡ Some k → (a b : Bool) → (k == 0) ≡ a → nat_lt k 8 ≡ b → (a || nat_le 8 k) ≡ true → footprint_group (if b then far else Alone) ≡ Some id → id ≡ 0
    at k far is a false zero less driven h = absurd (let no : ⊥ = cc in no)
    at k far is true true zero less driven h = (let one : k ≡ id = cc in sym one ∙ eqb-true k 0 zero)
    at k far is false true zero less driven h = absurd (let within = ltb-true k 8 less in let over = leb-true 8 k driven in let no : ⊥ = omega arith in no)

    go : (x : DeclaredFootprint) → reaches_group_0 x ≡ true → footprint_group (footprint_of ranks me x) ≡ Some id → id ≡ 0
    go touches.Nothing driven h = absurd (let no : ⊥ = cc in no)
    go touches.OwnMemory driven h = absurd (let no : ⊥ = cc in no)
    go (touches.MemoryOf k) driven h = peers (k == me) (nat_lt k ranks) OwnMemory (PeerMemory k) refl refl h
    go (touches.BothMemories k) driven h = peers (k == me) (nat_lt k ranks) OwnMemory (BothMemories k) refl refl h
    go (touches.PostsOf k) driven h = peers (k == me) (nat_lt k ranks) Alone (PeerPosts k) refl refl h
    go (touches.GroupOf k) driven h = at k (Group k) refl (k == 0) (nat_lt k 8) refl refl driven h
    go (touches.GroupAndMemory k) driven h = at k (GroupAndMemory k) refl (k == 0) (nat_lt k 8) refl refl driven h

-- Nodes stay those of the state after events that do not reach them.
pub node-stays : (s t : State) (rank : ℕ) (n : Node) → t.limits ≡ s.limits → AgreeOnShard t s (shards.Posts rank) → AgreeOnShard t s (shards.Memory rank) → IsNodeOf s rank n → IsNodeOf t rank n
node-stays s t rank n limits posts memory is = record {
  posts = record { limits = is.posts.limits ∙ sym limits; me = is.posts.me; posts = posts ∙ is.posts.posts };
  memory = record { capacity = is.memory.capacity ∙ ap (λ (l : Limits). l.inbox) (sym limits); memory = memory ∙ is.memory.memory };
}

pub group-stays : (s t : State) (id : ℕ) (n : GroupNode) → AgreeOnShard t s (shards.Group id) → IsGroupOf s id n → IsGroupOf t id n
group-stays s t id n same is = record { group = is.group; there = same ∙ is.there; stands = is.stands }

-- A state comes of another by so many events of a rank that reach those parts.
pub record ComesOf (s t : State) (me : ℕ) (footprint : Footprint) (count : ℕ) : Type 0 where
  pub sound : IsSound t
  pub limits : t.limits ≡ s.limits
  pub left : events_left t + count ≡ events_left s
  pub frame : (shard : Shard) → is_shard (footprint_shards me footprint) shard ≡ false → AgreeOnShard t s shard

module _ (s t : State) (me other place next count : ℕ) (own peer : Node) (group : GroupNode) (footprint : Footprint) (parts : ArePartsOf s me other own peer group place) (comes : ComesOf s t me footprint count) where
  pub parts-after : next ≡ place + count → (own' peer' : Node) (group' : GroupNode) → IsNodeOf t me own' → IsNodeOf t other peer' → IsGroupOf t 0 group' → ArePartsOf t me other own' peer' group' next
  parts-after next_is own' peer' group' own_node peer_node group_node =
      let counted = parts.counted in
      let left = comes.left in
      let events_is : t.limits.events ≡ s.limits.events = ap (λ (l : Limits). l.events) comes.limits in record {
        sound = comes.sound;
        two = ap (λ (l : Limits). l.ranks) comes.limits ∙ parts.two;
        others = parts.others;
        apart = parts.apart;
        own_node = own_node;
        peer_node = peer_node;
        group_node = group_node;
        counted = (omega arith);
      }

module _ (s t : State) (me other place count : ℕ) (own peer : Node) (group : GroupNode) (footprint : Footprint) (parts : ArePartsOf s me other own peer group place) (comes : ComesOf s t me footprint count) where
  pub peer-stays : footprint_peer footprint ≡ None → IsNodeOf t other peer
  peer-stays none =
      node-stays s t other peer comes.limits (comes.frame (shards.Posts other) (not-posts me other footprint parts.apart none))
      (comes.frame (shards.Memory other) (not-memory me other footprint parts.apart none)) parts.peer_node

  pub kept-group : footprint_group footprint ≡ None → IsGroupOf t 0 group
  kept-group none = group-stays s t 0 group (comes.frame (shards.Group 0) (not-group me footprint none)) parts.group_node

-- The events of a call are its caller's rank's.
not-placed : (rank place : ℕ) (e : Event) (rest : List PlacedEvent) (owner : ℕ) → (owner == rank) ≡ false → (if owner == rank then record { place = place; event = e } ∷ rest else rest) ≡ rest
not-placed rank place e rest owner apart = rw apart refl

module _ (c : CallerId) (call : Call) (rank : ℕ) (apart : (c.rank == rank) ≡ false) where
  answered-placed : (s t : State) (told : Option Reply) (calls : List Event) (place : ℕ) → IsTold s c call told calls t → placed_of rank place calls ≡ []
  answered-placed s t (Some reply) calls place is = rw is.0 (not-placed rank place (Called c call reply) [] c.rank apart)
  answered-placed s t None calls place is = rw is.0 refl

  joined-placed : (s t m : State) (told : Option Reply) (joins calls : List Event) (place : ℕ) → MayHaveJoined s c call joins m → IsTold m c call told calls t → placed_of rank place (joins ++ calls) ≡ []
  joined-placed s t m told joins calls place (inl none) is = rw none.0 (answered-placed m t told calls place is)
  joined-placed s t m told joins calls place (inr one) is =
      rw one.1 (not-placed rank place (join_event c call one.0) (placed_of rank (place + 1) calls) c.rank apart ∙ answered-placed m t told calls (place + 1) is)

  pub looks-placed : (s t : State) (r : Result (Option Reply) CallStop) (events : List Event) (place : ℕ) → Looks s c call r events t → placed_of rank place events ≡ []
  looks-placed s t (Ok told) events place is = rw is.events_are (joined-placed s t is.between told is.joins is.calls place is.joined is.told_as)
  looks-placed s t (Err EventLimit) events place is = rw is.1 refl
  looks-placed s t (Err NoMemory) events place is = rw is.1 refl

-- A call of the first rank of two, by what it reaches.
module _ (s : State) (c : CallerId) (call : Call) (other place : ℕ) (own peer : Node) (group : GroupNode) (parts : ArePartsOf s c.rank other own peer group place) (declared : is_declared s c.rank c.thread ≡ true) where
  abbrev footprint : Footprint
  footprint = call_footprint s.limits c.rank call

  lent-to : (p : Option Node) (g : Option GroupNode) → IsPeer s c.rank (footprint_peer footprint) p → IsGroupAt s (footprint_group footprint) g → AreLentTo s c call own p g
  lent-to p g is_peer is_group = record { sound = parts.sound; lends = record { own_node = parts.own_node; peer_node = is_peer; group_node = is_group }; declared = declared }

  pub lent-alone : footprint_peer footprint ≡ None → footprint_group footprint ≡ None → AreLentTo s c call own None None
  lent-alone no_peer no_group =
      lent-to None None (subst (λ (o : Option ℕ). IsPeer s c.rank o None) (sym no_peer) tt) (subst (λ (o : Option ℕ). IsGroupAt s o None) (sym no_group) tt)

  peer-is : (rank : ℕ) → footprint_peer footprint ≡ Some rank → rank ≡ other
  peer-is rank is =
      let there = peer-there s.limits.ranks c.rank (row_of call).footprint rank is in
      let two = parts.two in
      let below = there.1 in
      parts.others rank (omega arith) there.0

  pub lent-between : (rank : ℕ) → footprint_peer footprint ≡ Some rank → footprint_group footprint ≡ None → AreLentTo s c call own (Some peer) None
  lent-between rank is no_group =
      let same : footprint_peer footprint ≡ Some other = is ∙ ap (λ (n : ℕ). Some n) (peer-is rank is) in
      lent-to (Some peer) None (subst (λ (o : Option ℕ). IsPeer s c.rank o (Some peer)) (sym same) (record { apart = parts.apart; node = parts.peer_node }))
      (subst (λ (o : Option ℕ). IsGroupAt s o None) (sym no_group) tt)

  group-is : (id : ℕ) → reaches_group_0 (row_of call).footprint ≡ true → footprint_group footprint ≡ Some id → footprint_group footprint ≡ Some 0
  group-is id driven is = is ∙ ap (λ (n : ℕ). Some n) (group-there s.limits.ranks c.rank (row_of call).footprint id driven is)

  pub lent-group : (id : ℕ) → reaches_group_0 (row_of call).footprint ≡ true → footprint_peer footprint ≡ None → footprint_group footprint ≡ Some id → AreLentTo s c call own None (Some group)
  lent-group id driven no_peer is =
      lent-to None (Some group) (subst (λ (o : Option ℕ). IsPeer s c.rank o None) (sym no_peer) tt)
      (subst (λ (o : Option ℕ). IsGroupAt s o (Some group)) (sym (group-is id driven is)) parts.group_node)

  comes : (t : State) (r : Result (Option Reply) CallStop) (events : List Event) → Looks s c call r events t → ComesOf s t c.rank footprint (length events)
  comes t r events looks = record {
    sound = looks-sound s t c call r events parts.sound looks;
    limits = looks-limits s t c call r events looks;
    left = looks-counted s t c call r events parts.sound looks;
    frame = λ shard out. looks-frame s t c call r events shard looks out;
  }

  none-noted : (t : State) (r : Result (Option Reply) CallStop) (events : List Event) (peer' : Node) → Looks s c call r events t → peer'.posts.journal ≡ peer.posts.journal
      → peer'.posts.journal ≡ peer.posts.journal ++ placed_of other place events
  none-noted t r events peer' looks same =
      let none = looks-placed c call other (differs c.rank other parts.apart) s t r events place looks in
      same ∙ sym (append-nil peer.posts.journal) ∙ ap (λ (x : List PlacedEvent). peer.posts.journal ++ x) (sym none)

  pub called-alone : (r : Result (Option Reply) CallStop) (next : ℕ) (own' : Node) → footprint_peer footprint ≡ None → footprint_group footprint ≡ None → HaveLooked s c call r place next own own' None None None
      → HasCalled s c call r other place next own own' peer peer group
  called-alone r next own' no_peer no_group is =
      let on = comes is.after r is.events is.looks in record {
        after = is.after;
        events = is.events;
        looks = is.looks;
        next_is = is.next_is;
        journal = is.journal;
        parts = parts-after s is.after c.rank other place next (length is.events) own peer group footprint parts on is.next_is own' peer group is.lends.own_node
            (peer-stays s is.after c.rank other place (length is.events) own peer group footprint parts on no_peer) (kept-group s is.after c.rank other place (length is.events) own peer group footprint parts on no_group);
        peer_journal = none-noted is.after r is.events peer is.looks refl;
      }

  pub called-between : (r : Result (Option Reply) CallStop) (next : ℕ) (own' peer' : Node) (rank : ℕ) → footprint_peer footprint ≡ Some rank → footprint_group footprint ≡ None
      → HaveLooked s c call r place next own own' (Some peer) (Some peer') None → HasCalled s c call r other place next own own' peer peer' group
  called-between r next own' peer' rank there no_group is =
      let on = comes is.after r is.events is.looks in
      let same : footprint_peer footprint ≡ Some other = there ∙ ap (λ (n : ℕ). Some n) (peer-is rank there) in
      let node : IsPeerNode is.after c.rank other peer' = subst (λ (o : Option ℕ). IsPeer is.after c.rank o (Some peer')) same is.lends.peer_node in
      let noted : peer'.posts.journal ≡ peer.posts.journal = (let some = is.peer_journal in cc) in record {
        after = is.after;
        events = is.events;
        looks = is.looks;
        next_is = is.next_is;
        journal = is.journal;
        parts = parts-after s is.after c.rank other place next (length is.events) own peer group footprint parts on is.next_is own' peer' group is.lends.own_node node.node
            (kept-group s is.after c.rank other place (length is.events) own peer group footprint parts on no_group);
        peer_journal = none-noted is.after r is.events peer' is.looks noted;
      }

  pub called-on-group : (r : Result (Option Reply) CallStop) (next : ℕ) (own' : Node) (group' : GroupNode) (id : ℕ) → reaches_group_0 (row_of call).footprint ≡ true → footprint_peer footprint ≡ None
      → footprint_group footprint ≡ Some id → HaveLooked s c call r place next own own' None None (Some group') → HasCalled s c call r other place next own own' peer peer group'
  called-on-group r next own' group' id driven no_peer there is =
      let on = comes is.after r is.events is.looks in
      let node : IsGroupOf is.after 0 group' = subst (λ (o : Option ℕ). IsGroupAt is.after o (Some group')) (group-is id driven there) is.lends.group_node in record {
        after = is.after;
        events = is.events;
        looks = is.looks;
        next_is = is.next_is;
        journal = is.journal;
        parts = parts-after s is.after c.rank other place next (length is.events) own peer group footprint parts on is.next_is own' peer group' is.lends.own_node
            (peer-stays s is.after c.rank other place (length is.events) own peer group footprint parts on no_peer) node;
        peer_journal = none-noted is.after r is.events peer is.looks refl;
      }

-- What a call reaches, as it is found from its row in a world of two ranks.
pub footprint-as : (s : State) (c : CallerId) (call : Call) (other place : ℕ) (own peer : Node) (group : GroupNode) → ArePartsOf s c.rank other own peer group place
    → (row : CallRow) (found : Footprint) → row ≡ row_of call → found ≡ footprint_of 2 c.rank row.footprint → call_footprint s.limits c.rank call ≡ found
footprint-as s c call other place own peer group parts row found rowed is =
    ap (λ (n : ℕ). footprint_of n c.rank (row_of call).footprint) parts.two ∙ sym (is ∙ ap (λ (x : CallRow). footprint_of 2 c.rank x.footprint) rowed)

pub alone-reaches : (footprint found : Footprint) → footprint ≡ found → (found ≡ Alone) ⊎ (found ≡ OwnMemory) → (footprint_peer footprint ≡ None) × (footprint_group footprint ≡ None)
alone-reaches footprint found same (inl is) = (ap footprint_peer (same ∙ is), ap footprint_group (same ∙ is))
alone-reaches footprint found same (inr is) = (ap footprint_peer (same ∙ is), ap footprint_group (same ∙ is))

pub between-reaches : (footprint found : Footprint) → footprint ≡ found → ((rank : ℕ) × (found ≡ PeerMemory rank)) ⊎ (((rank : ℕ) × (found ≡ BothMemories rank)) ⊎ ((rank : ℕ) × (found ≡ PeerPosts rank)))
    → (rank : ℕ) × (footprint_peer footprint ≡ Some rank) × (footprint_group footprint ≡ None)
between-reaches footprint found same (inl is) = (is.0, ap footprint_peer (same ∙ is.1), ap footprint_group (same ∙ is.1))
between-reaches footprint found same (inr (inl is)) = (is.0, ap footprint_peer (same ∙ is.1), ap footprint_group (same ∙ is.1))
between-reaches footprint found same (inr (inr is)) = (is.0, ap footprint_peer (same ∙ is.1), ap footprint_group (same ∙ is.1))

pub group-reaches : (footprint found : Footprint) → footprint ≡ found → ((id : ℕ) × (found ≡ Group id)) ⊎ ((id : ℕ) × (found ≡ GroupAndMemory id))
    → (id : ℕ) × (footprint_peer footprint ≡ None) × (footprint_group footprint ≡ Some id)
group-reaches footprint found same (inl is) = (is.0, ap footprint_peer (same ∙ is.1), ap footprint_group (same ∙ is.1))
group-reaches footprint found same (inr is) = (is.0, ap footprint_peer (same ∙ is.1), ap footprint_group (same ∙ is.1))
