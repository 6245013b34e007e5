-- The nodes that a pass holds are those of the state after a history for which their values stand; and where they are left by a step of
-- an event, their values have made that step.
use Rattle.std.proofs.Common.{◌≡◌, ℕ, ◌+◌, ◌<◌, Bool, true, false, cond, eqb, ◌==◌, nat_lt, List, [], ◌∷◌, ◌++◌, append-nil, length, Option, None, Some, Ok, refl, sym, ap, ◌∙◌, subst, arith, if◌then◌else◌}
use Rattle.std.specs.List.{slice_get}
use Rattle.std.proofs.lemmas.Bool.{eqb-true, eqb-false, ltb-true}
use Rattle.gaspi_types.specs.Footprints.{footprint_of}
use Rattle.gaspi_types.specs.World.{ShapeValue}
use Rattle.gaspi_types.specs.declared.events.Event.{Event}
use Rattle.gaspi_types.specs.declared.events.PlacedEvent.{PlacedEvent}
use Rattle.gaspi_types.specs.declared.groups.Group as groups
use Rattle.gaspi_types.specs.declared.shapes.Limits.{Limits}
use Rattle.gaspi_types.specs.declared.footprints.Footprint.{Footprint}
use Rattle.gaspi_types.specs.declared.footprints.Footprint.TheVariants.{Alone, OwnMemory, PeerMemory, BothMemories, PeerPosts, Group, GroupAndMemory}
use Rattle.gaspi_types.specs.declared.footprints.DeclaredFootprint.{DeclaredFootprint}
use Rattle.gaspi_types.specs.declared.footprints.DeclaredFootprint.TheVariants as touches
use Rattle.gaspi_types.proofs.Items.{there-within}
use Rattle.std.proofs.lemmas.Option.{slice_get_within}
use Rattle.gaspi_model.specs.Sound.{IsSound}
use Rattle.gaspi_model.specs.Step.{step, owner_of, event_footprint}
use Rattle.gaspi_model.specs.declared.states.Memory.{Memory}
use Rattle.gaspi_model.specs.declared.states.Posts.{Posts}
use Rattle.gaspi_model.specs.declared.states.State.{State}
use Rattle.gaspi_model.proofs.Sound.Steps.{steps, limits-stay}
use Rattle.rank_node.specs.HeldNodes.{peer_of, group_of, IsSameKind}
use Rattle.rank_node.specs.Lending.{IsNodeOf, IsPeer, IsGroupAt, Lends, IsStepOn, IsLeft, IsGroupNode, journal_at, footprint_peer, footprint_group}
use Rattle.rank_node.specs.Values.{PostsValue, MemoryValue}
use Rattle.rank_node.specs.declared.held_nodes.HeldNodes.{HeldNodes}
use Rattle.rank_node.specs.declared.held_nodes.OtherNode.{OtherNode}
use Rattle.rank_node.specs.declared.held_nodes.OtherNode.TheVariants as others
use Rattle.rank_node.specs.declared.nodes.Node.{Node}
use Rattle.gaspi_world.specs.ShardProjections.{value_at, HaveStepped}
use Rattle.gaspi_world.specs.Numbering.{by_ranks}
use Rattle.gaspi_world.specs.RankJournals.{placed_at, recorded_by, own-noted, none-noted}
use Rattle.gaspi_world.specs.RankShards.{rank_other}
use Rattle.gaspi_world.specs.ShardMachine.{HasParts}
use Rattle.gaspi_world.proofs.HeldPairs.{here}
use Rattle.gaspi_world.specs.HeldShards.{other_value, IsOther, IsOtherShard}
use Rattle.gaspi_world.specs.Shards.{node_meaning, IsRankPosts, IsRankMemory}
use Rattle.gaspi_world.specs.declared.shards.WorldShard.{WorldShard}
use Rattle.gaspi_world.specs.declared.shards.WorldShard.TheVariants as shards

-- What an event reaches is apart from its owner's rank, and is there.
abbrev pub IsFootprint : ℕ → ℕ → Footprint → Type 0
IsFootprint ranks me Alone = Unit {0}
IsFootprint ranks me OwnMemory = Unit {0}
IsFootprint ranks me (PeerMemory rank) = ((rank == me) ≡ false) × (rank < ranks)
IsFootprint ranks me (BothMemories rank) = ((rank == me) ≡ false) × (rank < ranks)
IsFootprint ranks me (PeerPosts rank) = ((rank == me) ≡ false) × (rank < ranks)
IsFootprint ranks me (Group id) = id < 8
IsFootprint ranks me (GroupAndMemory id) = id < 8

pub footprint-is : (ranks me : ℕ) (declaration : DeclaredFootprint) → IsFootprint ranks me (footprint_of ranks me declaration)
footprint-is ranks me touches.Nothing = tt
footprint-is ranks me touches.OwnMemory = tt
footprint-is ranks me (touches.MemoryOf rank) = go (rank == me) (nat_lt rank ranks) refl refl
  where
    go : (a b : Bool) → (rank == me) ≡ a → nat_lt rank ranks ≡ b → IsFootprint ranks me (if a then OwnMemory else (if b then PeerMemory rank else Alone))
    go true b same is = tt
    go false true same is = (same, ltb-true rank ranks is)
    go false false same is = tt
footprint-is ranks me (touches.BothMemories rank) = go (rank == me) (nat_lt rank ranks) refl refl
  where
    go : (a b : Bool) → (rank == me) ≡ a → nat_lt rank ranks ≡ b → IsFootprint ranks me (if a then OwnMemory else (if b then BothMemories rank else Alone))
    go true b same is = tt
    go false true same is = (same, ltb-true rank ranks is)
    go false false same is = tt
footprint-is ranks me (touches.PostsOf rank) = go (rank == me) (nat_lt rank ranks) refl refl
  where
    go : (a b : Bool) → (rank == me) ≡ a → nat_lt rank ranks ≡ b → IsFootprint ranks me (if a then Alone else (if b then PeerPosts rank else Alone))
    go true b same is = tt
    go false true same is = (same, ltb-true rank ranks is)
    go false false same is = tt
footprint-is ranks me (touches.GroupOf id) = go (nat_lt id 8) refl
  where
    go : (b : Bool) → nat_lt id 8 ≡ b → IsFootprint ranks me (if b then Group id else Alone)
    go true is = ltb-true id 8 is
    go false is = tt
footprint-is ranks me (touches.GroupAndMemory id) = go (nat_lt id 8) refl
  where
    go : (b : Bool) → nat_lt id 8 ≡ b → IsFootprint ranks me (if b then GroupAndMemory id else Alone)
    go true is = ltb-true id 8 is
    go false is = tt

-- the values of a rank's posts, and of its memory, by their fields
posts-are : (q : PostsValue) (limits : Limits) (me : ℕ) (posts : Posts) (journal : List PlacedEvent) → q.limits ≡ limits → q.me ≡ me → q.posts ≡ posts → q.journal ≡ journal
    → q ≡ record { limits = limits; me = me; posts = posts; journal = journal }
posts-are q limits me posts journal a b c d =
    ap (λ (x : Limits). let v : PostsValue = record { limits = x; me = q.me; posts = q.posts; journal = q.journal } in v) a
    ∙ (ap (λ (x : ℕ). let v : PostsValue = record { limits = limits; me = x; posts = q.posts; journal = q.journal } in v) b
    ∙ (ap (λ (x : Posts). let v : PostsValue = record { limits = limits; me = me; posts = x; journal = q.journal } in v) c
    ∙ ap (λ (x : List PlacedEvent). let v : PostsValue = record { limits = limits; me = me; posts = posts; journal = x } in v) d))

memory-is : (q : MemoryValue) (capacity : ℕ) (memory : Memory) → q.capacity ≡ capacity → q.memory ≡ memory → q ≡ record { capacity = capacity; memory = memory }
memory-is q capacity memory a b =
    ap (λ (x : ℕ). let v : MemoryValue = record { capacity = x; memory = q.memory } in v) a
    ∙ ap (λ (x : Memory). let v : MemoryValue = record { capacity = capacity; memory = x } in v) b

one-posts : (a b : Posts) → ◌≡◌ {A = Option Posts} (Some a) (Some b) → a ≡ b
one-posts a b e = cc

one-memory : (a b : Memory) → ◌≡◌ {A = Option Memory} (Some a) (Some b) → a ≡ b
one-memory a b e = cc

one-group : (a b : groups.Group) → ◌≡◌ {A = Option groups.Group} (Some a) (Some b) → a ≡ b
one-group a b e = cc

-- the one value of a list
only-here : (a : ℕ) (y : WorldShard) (i : ℕ) (z : WorldShard) → value_at ((a, y) ∷ []) i ≡ Some z → (i ≡ a) × (y ≡ z)
only-here a y i z found = go (eqb i a) refl found
  where
    go : (b : Bool) → eqb i a ≡ b → cond b (Some y) None ≡ Some z → (i ≡ a) × (y ≡ z)
    go true same there = (eqb-true i a same, let e : y ≡ z = cc in e)
    go false same there = absurd (let no : ⊥ = cc in no)

module _ (w : ShapeValue) (s : State) (sound : IsSound s) (limits : s.limits ≡ w.limits) where
  -- how many ranks there are
  ranks-many : length s.posts ≡ w.limits.ranks
  ranks-many = sound.ranks ∙ ap (λ (l : Limits). l.ranks) limits

  posts-there : (rank : ℕ) → rank < w.limits.ranks → (p : Posts) × (slice_get s.posts rank ≡ Some p)
  posts-there rank lt = there-within s.posts rank (subst (λ (n : ℕ). rank < n) (sym ranks-many) lt)

  memory-there : (rank : ℕ) → rank < w.limits.ranks → (m : Memory) × (slice_get s.memories rank ≡ Some m)
  memory-there rank lt = there-within s.memories rank (subst (λ (n : ℕ). rank < n) (sym (sound.memories ∙ ap (λ (l : Limits). l.ranks) limits)) lt)

  group-there : (id : ℕ) → id < 8 → (g : groups.Group) × (slice_get s.groups id ≡ Some g)
  group-there id lt = there-within s.groups id (subst (λ (n : ℕ). id < n) (sym sound.collectives.eight) lt)

  posts-below : (rank : ℕ) (p : Posts) → slice_get s.posts rank ≡ Some p → rank < w.limits.ranks
  posts-below rank p at = subst (λ (n : ℕ). rank < n) ranks-many (slice_get_within s.posts rank p at)

  memory-below : (rank : ℕ) (m : Memory) → slice_get s.memories rank ≡ Some m → rank < w.limits.ranks
  memory-below rank m at = subst (λ (n : ℕ). rank < n) (sound.memories ∙ ap (λ (l : Limits). l.ranks) limits) (slice_get_within s.memories rank m at)

  -- A node whose value stands for the parts of a rank is the rank's.
  node-of : (rank : ℕ) (node : Node) (journal : List PlacedEvent) → rank < w.limits.ranks
      → ((p : Posts) → slice_get s.posts rank ≡ Some p → node.posts ≡ record { limits = w.limits; me = rank; posts = p; journal = journal })
      → ((m : Memory) → slice_get s.memories rank ≡ Some m → node.memory ≡ record { capacity = w.limits.inbox; memory = m }) → IsNodeOf s rank node × (node.posts.journal ≡ journal)
  node-of rank node journal lt posts memory =
      let p = posts-there rank lt in
      let m = memory-there rank lt in
      let is = posts p.0 p.1 in
      let also = memory m.0 m.1 in (
        record {
          posts = record {
            limits = ap (λ (x : PostsValue). x.limits) is ∙ sym limits;
            me = ap (λ (x : PostsValue). x.me) is;
            posts = p.1 ∙ ap (λ (x : Posts). Some x) (sym (ap (λ (x : PostsValue). x.posts) is));
          };
          memory = record {
            capacity = ap (λ (x : MemoryValue). x.capacity) also ∙ sym (ap (λ (l : Limits). l.inbox) limits);
            memory = m.1 ∙ ap (λ (x : Memory). Some x) (sym (ap (λ (x : MemoryValue). x.memory) also));
          };
        },
        ap (λ (x : PostsValue). x.journal) is,
      )

  -- and a rank's node stands for its parts
  posts-of-node : (rank : ℕ) (node : Node) (journal : List PlacedEvent) → IsNodeOf s rank node → node.posts.journal ≡ journal → (p : Posts) → slice_get s.posts rank ≡ Some p
      → node.posts ≡ record { limits = w.limits; me = rank; posts = p; journal = journal }
  posts-of-node rank node journal is noted p at =
      posts-are node.posts w.limits rank p journal (is.posts.limits ∙ limits) is.posts.me (one-posts node.posts.posts p (sym is.posts.posts ∙ at)) noted

  memory-of-node : (rank : ℕ) (node : Node) → IsNodeOf s rank node → (m : Memory) → slice_get s.memories rank ≡ Some m → node.memory ≡ record { capacity = w.limits.inbox; memory = m }
  memory-of-node rank node is m at = memory-is node.memory w.limits.inbox m (is.memory.capacity ∙ ap (λ (l : Limits). l.inbox) limits) (one-memory node.memory.memory m (sym is.memory.memory ∙ at))

  -- The node of the owner's rank.
  pub own-node : (me : ℕ) (nodes : HeldNodes) (journal : ℕ → List PlacedEvent) → me < w.limits.ranks → HasParts (by_ranks w) w (node_meaning w) me (shards.Rank nodes.own) s journal
      → IsNodeOf s me nodes.own.value × (nodes.own.value.posts.journal ≡ journal me)
  own-node me nodes journal lt has = node-of me nodes.own.value (journal me) lt (λ p at. has.posts me p refl at) (λ m at. has.memory me m refl at)

  pub own-parts : (me : ℕ) (nodes : HeldNodes) (journal : ℕ → List PlacedEvent) → me < w.limits.ranks → IsNodeOf s me nodes.own.value → nodes.own.value.posts.journal ≡ journal me
      → HasParts (by_ranks w) w (node_meaning w) me (shards.Rank nodes.own) s journal
  own-parts me nodes journal lt is noted = record {
    posts = λ rank p number at. subst (λ (k : ℕ). IsRankPosts w (shards.Rank nodes.own) k p (journal k)) (sym number) (posts-of-node me nodes.own.value (journal me) is noted p (subst (λ (k : ℕ). slice_get s.posts k ≡ Some p) number at));
    memory = λ rank m number at. subst (λ (k : ℕ). IsRankMemory w (shards.Rank nodes.own) k m) (sym number) (memory-of-node me nodes.own.value is m (subst (λ (k : ℕ). slice_get s.memories k ≡ Some m) number at));
    group = λ id g number at. absurd (omega arith);
  }

  -- The other node, of a rank or of a group: it is the one that is reached, and stands for its part.
  abbrev pub HasOther : ℕ → Footprint → OtherNode → Type 0
  HasOther me footprint other = IsPeer s me (footprint_peer footprint) (peer_of other) × IsGroupAt s (footprint_group footprint) (group_of other)

  abbrev pub OthersHave : Option ℕ → OtherNode → (ℕ → List PlacedEvent) → Type 0
  OthersHave number other journal = (j : ℕ) (x : WorldShard) → value_at (other_value number other) j ≡ Some x → HasParts (by_ranks w) w (node_meaning w) j x s journal

  peer-node : (me rank : ℕ) (other : OtherNode) (journal : ℕ → List PlacedEvent) → ((rank == me) ≡ false) × (rank < w.limits.ranks) → IsOther (Some rank) other → OthersHave (Some rank) other journal
      → IsPeer s me (Some rank) (peer_of other) × (journal_at (peer_of other) ≡ Some (journal rank)) × (group_of other ≡ None)
  peer-node me rank others.Nothing journal reached is has = absurd is
  peer-node me rank (others.Rank node) journal reached is has =
      let parts = has rank (shards.Rank node) (here [] rank rank (shards.Rank node) refl) in
      let made = node-of rank node.value (journal rank) reached.1 (λ p at. parts.posts rank p refl at) (λ m at. parts.memory rank m refl at) in
      (record { apart = reached.0; node = made.0 }, ap (λ (l : List PlacedEvent). Some l) made.1, refl)
  peer-node me rank (others.Group node) journal reached is has =
      let parts = has rank (shards.Group node) (here [] rank rank (shards.Group node) refl) in
      let p = posts-there rank reached.1 in
      absurd (parts.posts rank p.0 refl p.1)

  group-node : (me id : ℕ) (other : OtherNode) (journal : ℕ → List PlacedEvent) → id < 8 → IsOther (Some (w.limits.ranks + id)) other → OthersHave (Some (w.limits.ranks + id)) other journal
      → IsGroupAt s (Some id) (group_of other) × (peer_of other ≡ None)
  group-node me id others.Nothing journal lt is has = absurd is
  group-node me id (others.Rank node) journal lt is has =
      let parts = has (w.limits.ranks + id) (shards.Rank node) (here [] (w.limits.ranks + id) (w.limits.ranks + id) (shards.Rank node) refl) in
      let g = group-there id lt in
      absurd (parts.group id g.0 refl g.1)
  group-node me id (others.Group node) journal lt is has =
      let parts = has (w.limits.ranks + id) (shards.Group node) (here [] (w.limits.ranks + id) (w.limits.ranks + id) (shards.Group node) refl) in
      let g = group-there id lt in
      (record { group = g.0; there = g.1; stands = parts.group id g.0 refl g.1 }, refl)

  nothing-else : (other : OtherNode) → IsOther None other → (peer_of other ≡ None) × (group_of other ≡ None)
  nothing-else others.Nothing is = (refl, refl)
  nothing-else (others.Rank node) is = absurd is
  nothing-else (others.Group node) is = absurd is

  no-peer : (me : ℕ) (other : OtherNode) → peer_of other ≡ None → IsPeer s me None (peer_of other)
  no-peer me other is = subst (λ (o : Option Node). IsPeer s me None o) (sym is) tt

  no-group : (other : OtherNode) → group_of other ≡ None → IsGroupAt s None (group_of other)
  no-group other is = subst (λ o. IsGroupAt s None o) (sym is) tt

  pub other-node : (me : ℕ) (footprint : Footprint) (other : OtherNode) (journal : ℕ → List PlacedEvent) → IsFootprint w.limits.ranks me footprint → IsOther (rank_other w.limits.ranks footprint) other
      → OthersHave (rank_other w.limits.ranks footprint) other journal → HasOther me footprint other
  other-node me Alone other journal reached is has = let none = nothing-else other is in (no-peer me other none.0, no-group other none.1)
  other-node me OwnMemory other journal reached is has = let none = nothing-else other is in (no-peer me other none.0, no-group other none.1)
  other-node me (PeerMemory rank) other journal reached is has = let made = peer-node me rank other journal reached is has in (made.0, no-group other made.2)
  other-node me (BothMemories rank) other journal reached is has = let made = peer-node me rank other journal reached is has in (made.0, no-group other made.2)
  other-node me (PeerPosts rank) other journal reached is has = let made = peer-node me rank other journal reached is has in (made.0, no-group other made.2)
  other-node me (Group id) other journal reached is has = let made = group-node me id other journal reached is has in (no-peer me other made.1, made.0)
  other-node me (GroupAndMemory id) other journal reached is has = let made = group-node me id other journal reached is has in (no-peer me other made.1, made.0)

  -- the rank journal of a peer
  pub other-journal : (me rank : ℕ) (other : OtherNode) (journal : ℕ → List PlacedEvent) → ((rank == me) ≡ false) × (rank < w.limits.ranks) → IsOther (Some rank) other → OthersHave (Some rank) other journal
      → journal_at (peer_of other) ≡ Some (journal rank)
  other-journal me rank other journal reached is has = (peer-node me rank other journal reached is has).1

  peer-parts : (me rank : ℕ) (other : OtherNode) (journal : ℕ → List PlacedEvent) → IsPeer s me (Some rank) (peer_of other) → journal_at (peer_of other) ≡ Some (journal rank) → OthersHave (Some rank) other journal
  peer-parts me rank others.Nothing journal is noted j x at = absurd is
  peer-parts me rank (others.Group node) journal is noted j x at = absurd is
  peer-parts me rank (others.Rank node) journal is noted j x at =
      let journals : node.value.posts.journal ≡ journal rank = cc in
      let found = only-here rank (shards.Rank node) j x at in
      subst (λ (k : ℕ). HasParts (by_ranks w) w (node_meaning w) k x s journal) (sym found.0) (subst (λ (y : WorldShard). HasParts (by_ranks w) w (node_meaning w) rank y s journal) found.1 (record {
        posts = λ r p number there. subst (λ (k : ℕ). IsRankPosts w (shards.Rank node) k p (journal k)) (sym number) (posts-of-node rank node.value (journal rank) is.node journals p (subst (λ (k : ℕ). slice_get s.posts k ≡ Some p) number there));
        memory = λ r m number there. subst (λ (k : ℕ). IsRankMemory w (shards.Rank node) k m) (sym number) (memory-of-node rank node.value is.node m (subst (λ (k : ℕ). slice_get s.memories k ≡ Some m) number there));
        group = λ id g number there. absurd (let p = slice_get_within s.posts rank node.value.posts.posts is.node.posts.posts in let many = ranks-many in omega arith);
      }))

  group-parts : (id : ℕ) (other : OtherNode) (journal : ℕ → List PlacedEvent) → IsGroupAt s (Some id) (group_of other) → OthersHave (Some (w.limits.ranks + id)) other journal
  group-parts id others.Nothing journal is j x at = absurd is
  group-parts id (others.Rank node) journal is j x at = absurd is
  group-parts id (others.Group node) journal is j x at =
      let found = only-here (w.limits.ranks + id) (shards.Group node) j x at in
      subst (λ (k : ℕ). HasParts (by_ranks w) w (node_meaning w) k x s journal) (sym found.0) (subst (λ (y : WorldShard). HasParts (by_ranks w) w (node_meaning w) (w.limits.ranks + id) y s journal) found.1 (record {
        posts = λ rank p number there. absurd (let lt = posts-below rank p there in omega arith);
        memory = λ rank m number there. absurd (let lt = memory-below rank m there in omega arith);
        group = λ k g number there.
            let same : k ≡ id = omega arith in
            let here_is : slice_get s.groups id ≡ Some g = subst (λ (n : ℕ). slice_get s.groups n ≡ Some g) same there in
            subst (λ (y : groups.Group). IsGroupNode y node.value) (one-group is.group g (sym is.there ∙ here_is)) is.stands;
      }))

  none-parts : (other : OtherNode) (journal : ℕ → List PlacedEvent) → OthersHave None other journal
  none-parts other journal j x at = absurd (let no : ⊥ = cc in no)

  -- Where the other node is the one that is reached, its value has its parts; the rank journal of a peer is as before.
  pub other-parts : (me : ℕ) (footprint : Footprint) (old other : OtherNode) (journal : ℕ → List PlacedEvent) → HasOther me footprint other → ((rank : ℕ) → footprint_peer footprint ≡ Some rank → journal_at (peer_of other) ≡ Some (journal rank))
      → OthersHave (rank_other w.limits.ranks footprint) other journal
  other-parts me Alone old other journal is noted = none-parts other journal
  other-parts me OwnMemory old other journal is noted = none-parts other journal
  other-parts me (PeerMemory rank) old other journal is noted = peer-parts me rank other journal is.0 (noted rank refl)
  other-parts me (BothMemories rank) old other journal is noted = peer-parts me rank other journal is.0 (noted rank refl)
  other-parts me (PeerPosts rank) old other journal is noted = peer-parts me rank other journal is.0 (noted rank refl)
  other-parts me (Group id) old other journal is noted = group-parts id other journal is.1
  other-parts me (GroupAndMemory id) old other journal is noted = group-parts id other journal is.1

-- The places of values are those of the shards that are held, whatever lies there.
keys : (own : ℕ) (x y : WorldShard) (o : Option ℕ) (a b : OtherNode) → IsSameKind b a → (i : ℕ) → value_at ((own, y) ∷ other_value o b) i ≡ None → value_at ((own, x) ∷ other_value o a) i ≡ None
keys own x y o a b same i none = go (eqb i own) none
  where
    rest : (o : Option ℕ) (a b : OtherNode) → IsSameKind b a → value_at (other_value o b) i ≡ None → value_at (other_value o a) i ≡ None
    rest None a b same at = refl
    rest (Some j) others.Nothing others.Nothing same at = refl
    rest (Some j) (others.Rank n) (others.Rank m) same at = one (eqb i j) at
      where
        one : (t : Bool) → cond t (Some (shards.Rank m)) None ≡ None → cond t (Some (shards.Rank n)) None ≡ None
        one true at = absurd (let no : ⊥ = cc in no)
        one false at = refl
    rest (Some j) (others.Group n) (others.Group m) same at = one (eqb i j) at
      where
        one : (t : Bool) → cond t (Some (shards.Group m)) None ≡ None → cond t (Some (shards.Group n)) None ≡ None
        one true at = absurd (let no : ⊥ = cc in no)
        one false at = refl
    rest (Some j) others.Nothing (others.Rank m) same at = absurd same
    rest (Some j) others.Nothing (others.Group m) same at = absurd same
    rest (Some j) (others.Rank n) others.Nothing same at = absurd same
    rest (Some j) (others.Rank n) (others.Group m) same at = absurd same
    rest (Some j) (others.Group n) others.Nothing same at = absurd same
    rest (Some j) (others.Group n) (others.Rank m) same at = absurd same

    go : (t : Bool) → cond t (Some y) (value_at (other_value o b) i) ≡ None → cond t (Some x) (value_at (other_value o a) i) ≡ None
    go true at = absurd (let no : ⊥ = cc in no)
    go false at = rest o a b same at

same-back : (a b : OtherNode) → IsSameKind b a → IsSameKind a b
same-back others.Nothing others.Nothing same = tt
same-back (others.Rank n) (others.Rank m) same = tt
same-back (others.Group n) (others.Group m) same = tt
same-back others.Nothing (others.Rank m) same = absurd same
same-back others.Nothing (others.Group m) same = absurd same
same-back (others.Rank n) others.Nothing same = absurd same
same-back (others.Rank n) (others.Group m) same = absurd same
same-back (others.Group n) others.Nothing same = absurd same
same-back (others.Group n) (others.Rank m) same = absurd same

some-before : (own : ℕ) (x y : WorldShard) (o : Option ℕ) (a b : OtherNode) → IsSameKind b a → (i : ℕ) (z : WorldShard) → value_at ((own, y) ∷ other_value o b) i ≡ Some z
    → (v : WorldShard) × (value_at ((own, x) ∷ other_value o a) i ≡ Some v)
some-before own x y o a b same i z some = go (value_at ((own, x) ∷ other_value o a) i) refl
  where
    go : (r : Option WorldShard) → value_at ((own, x) ∷ other_value o a) i ≡ r → (v : WorldShard) × (value_at ((own, x) ∷ other_value o a) i ≡ Some v)
    go (Some v) at = (v, at)
    go None at = absurd (let none = keys own y x o b a (same-back a b same) i at in let no : ⊥ = cc in no)

-- the first of the values, or one of the others
split : (own : ℕ) (y : WorldShard) (rest : List (ℕ × WorldShard)) (P : ℕ → WorldShard → Type 0) → P own y → ((i : ℕ) (z : WorldShard) → value_at rest i ≡ Some z → P i z) → (i : ℕ) (z : WorldShard) → value_at ((own, y) ∷ rest) i ≡ Some z → P i z
split own y rest P first later i z at = go (eqb i own) refl at
  where
    go : (b : Bool) → eqb i own ≡ b → cond b (Some y) (value_at rest i) ≡ Some z → P i z
    go true same there = let e : y ≡ z = cc in subst (λ (k : ℕ). P k z) (sym (eqb-true i own same)) (subst (λ (v : WorldShard). P own v) e first)
    go false same there = later i z there

module _ (w : ShapeValue) (e : Event) (place : ℕ) (old new : HeldNodes) (footprint : Footprint) (reaches : footprint ≡ event_footprint w.limits old.own.value.posts.posts e)
    (reached : IsFootprint w.limits.ranks (owner_of e) footprint) (fits : IsOther (rank_other w.limits.ranks footprint) old.other) (same : IsSameKind new.other old.other) (below : owner_of e < w.limits.ranks)
    (left : (s t : State) → IsStepOn s t e old.own.value (peer_of old.other) (group_of old.other) → IsLeft s t e place old.own.value new.own.value (peer_of old.other) (peer_of new.other) (group_of new.other)) where
  abbrev other : Option ℕ
  other = rank_other w.limits.ranks footprint

  footprint-at : (s : State) → s.limits ≡ w.limits → event_footprint s.limits old.own.value.posts.posts e ≡ footprint
  footprint-at s limits = ap (λ (l : Limits). event_footprint l old.own.value.posts.posts e) limits ∙ sym reaches

  -- the other value stands behind the own one
  behind : (j : ℕ) (x : WorldShard) → value_at (other_value other old.other) j ≡ Some x → value_at ((owner_of e, shards.Rank old.own) ∷ other_value other old.other) j ≡ Some x
  behind j x at = go (eqb j (owner_of e)) refl
    where
      go : (b : Bool) → eqb j (owner_of e) ≡ b → cond b (Some (shards.Rank old.own)) (value_at (other_value other old.other) j) ≡ Some x
      go false apart = at
      go true here_is = absurd (apart-from footprint reached old.other (subst (λ (k : ℕ). value_at (other_value other old.other) k ≡ Some x) (eqb-true j (owner_of e) here_is) at))
        where
          none-at : (k : ℕ) (o : OtherNode) → (k ≡ owner_of e → ⊥) → value_at (other_value (Some k) o) (owner_of e) ≡ Some x → ⊥
          none-at k others.Nothing ne is = let no : ⊥ = cc in no
          none-at k (others.Rank n) ne is = ne (sym (only-here k (shards.Rank n) (owner_of e) x is).0)
          none-at k (others.Group n) ne is = ne (sym (only-here k (shards.Group n) (owner_of e) x is).0)

          apart-rank : (rank : ℕ) → (rank == owner_of e) ≡ false → rank ≡ owner_of e → ⊥
          apart-rank rank apart is = eqb-false rank (owner_of e) apart is

          apart-from : (r : Footprint) → IsFootprint w.limits.ranks (owner_of e) r → (o : OtherNode) → value_at (other_value (rank_other w.limits.ranks r) o) (owner_of e) ≡ Some x → ⊥
          apart-from Alone is o at = let no : ⊥ = cc in no
          apart-from OwnMemory is o at = let no : ⊥ = cc in no
          apart-from (PeerMemory rank) is o at = none-at rank o (apart-rank rank is.0) at
          apart-from (BothMemories rank) is o at = none-at rank o (apart-rank rank is.0) at
          apart-from (PeerPosts rank) is o at = none-at rank o (apart-rank rank is.0) at
          apart-from (Group id) is o at = none-at (w.limits.ranks + id) o (λ same. absurd (omega arith)) at
          apart-from (GroupAndMemory id) is o at = none-at (w.limits.ranks + id) o (λ same. absurd (omega arith)) at

  -- the nodes are lent for the step
  lent : (s t : State) (journal : ℕ → List PlacedEvent) → IsSound s → s.limits ≡ w.limits → step s e ≡ Ok t
      → ((j : ℕ) (x : WorldShard) → value_at ((owner_of e, shards.Rank old.own) ∷ other_value other old.other) j ≡ Some x → HasParts (by_ranks w) w (node_meaning w) j x s journal)
      → IsStepOn s t e old.own.value (peer_of old.other) (group_of old.other) × (old.own.value.posts.journal ≡ journal (owner_of e))
  lent s t journal sound limits is has =
      let own = own-node w s sound limits (owner_of e) old journal below (has (owner_of e) (shards.Rank old.own) (here (other_value other old.other) (owner_of e) (owner_of e) (shards.Rank old.own) refl)) in
      let rest = other-node w s sound limits (owner_of e) footprint old.other journal reached fits (λ j x at. has j x (behind j x at)) in (
        record {
          sound = sound;
          lends = subst (λ (r : Footprint). Lends s (owner_of e) r old.own.value (peer_of old.other) (group_of old.other)) (sym (footprint-at s limits)) (record { own_node = own.0; peer_node = rest.0; group_node = rest.1 });
          is_step = is;
        },
        own.1,
      )

  -- The values have made the step.
  pub have-stepped : HaveStepped (by_ranks w) w (node_meaning w) e place ((owner_of e, shards.Rank old.own) ∷ other_value other old.other) ((owner_of e, shards.Rank new.own) ∷ other_value other new.other)
  have-stepped = record {
    gone = λ i none. keys (owner_of e) (shards.Rank old.own) (shards.Rank new.own) other old.other new.other same i none;
    from = λ i y some. some-before (owner_of e) (shards.Rank old.own) (shards.Rank new.own) other old.other new.other same i y some;
    stepped = λ s t journal sound limits is has.
        let on = lent s t journal sound limits is has in
        let l = left s t on.0 in
        let after = steps s t e sound is in
        let still : t.limits ≡ w.limits = limits-stay s t e is ∙ limits in
        let noted : ℕ → List PlacedEvent = λ rank. journal rank ++ recorded_by rank place e in
        let lends = subst (λ (r : Footprint). Lends t (owner_of e) r new.own.value (peer_of new.other) (group_of new.other)) (footprint-at s limits) l.lends in
        let own_journal : new.own.value.posts.journal ≡ noted (owner_of e) = l.journal ∙ (ap (λ (j : List PlacedEvent). j ++ placed_at place e ∷ []) on.1 ∙ ap (λ (j : List PlacedEvent). journal (owner_of e) ++ j) (sym (own-noted (owner_of e) place e refl))) in
        split (owner_of e) (shards.Rank new.own) (other_value other new.other) (λ i z. HasParts (by_ranks w) w (node_meaning w) i z t noted)
        (own-parts w t after still (owner_of e) new noted below lends.own_node own_journal)
        (other-parts w t after still (owner_of e) footprint old.other new.other noted (lends.peer_node, lends.group_node) (λ rank is_peer. peer-journal s t journal sound limits is has rank is_peer l.peer_journal));
  }
    where
      peer-journal : (s t : State) (journal : ℕ → List PlacedEvent) → IsSound s → s.limits ≡ w.limits → step s e ≡ Ok t
          → ((j : ℕ) (x : WorldShard) → value_at ((owner_of e, shards.Rank old.own) ∷ other_value other old.other) j ≡ Some x → HasParts (by_ranks w) w (node_meaning w) j x s journal)
          → (rank : ℕ) → footprint_peer footprint ≡ Some rank → journal_at (peer_of new.other) ≡ journal_at (peer_of old.other) → journal_at (peer_of new.other) ≡ Some (journal rank ++ recorded_by rank place e)
      peer-journal s t journal sound limits is has rank is_peer kept =
          let on = lent s t journal sound limits is has in
          kept ∙ (was rank is_peer ∙ ap (λ (l : List PlacedEvent). Some l) (sym (ap (λ (l : List PlacedEvent). journal rank ++ l) (none-noted rank place e (apart rank is_peer)) ∙ append-nil (journal rank))))
        where
          apart : (rank : ℕ) → footprint_peer footprint ≡ Some rank → rank ≡ owner_of e → ⊥
          apart rank is_peer = go footprint reached is_peer
            where
              go : (r : Footprint) → IsFootprint w.limits.ranks (owner_of e) r → footprint_peer r ≡ Some rank → rank ≡ owner_of e → ⊥
              go Alone is there = absurd (let no : ⊥ = cc in no)
              go OwnMemory is there = absurd (let no : ⊥ = cc in no)
              go (PeerMemory k) is there = let k_is : k ≡ rank = cc in λ same. eqb-false k (owner_of e) is.0 (k_is ∙ same)
              go (BothMemories k) is there = let k_is : k ≡ rank = cc in λ same. eqb-false k (owner_of e) is.0 (k_is ∙ same)
              go (PeerPosts k) is there = let k_is : k ≡ rank = cc in λ same. eqb-false k (owner_of e) is.0 (k_is ∙ same)
              go (Group id) is there = absurd (let no : ⊥ = cc in no)
              go (GroupAndMemory id) is there = absurd (let no : ⊥ = cc in no)

          was : (rank : ℕ) → footprint_peer footprint ≡ Some rank → journal_at (peer_of old.other) ≡ Some (journal rank)
          was rank is_peer = go footprint reached fits (λ j x at. has j x (behind j x at)) is_peer
            where
              told : (k : ℕ) → ((k == owner_of e) ≡ false) × (k < w.limits.ranks) → IsOther (Some k) old.other → OthersHave w s sound limits (Some k) old.other journal → ◌≡◌ {A = Option ℕ} (Some k) (Some rank) → journal_at (peer_of old.other) ≡ Some (journal rank)
              told k is fit have there =
                  let same_rank : k ≡ rank = cc in
                  subst (λ (n : ℕ). journal_at (peer_of old.other) ≡ Some (journal n)) same_rank (other-journal w s sound limits (owner_of e) k old.other journal is fit have)

              go : (r : Footprint) → IsFootprint w.limits.ranks (owner_of e) r → IsOther (rank_other w.limits.ranks r) old.other → OthersHave w s sound limits (rank_other w.limits.ranks r) old.other journal → footprint_peer r ≡ Some rank
                  → journal_at (peer_of old.other) ≡ Some (journal rank)
              go Alone is fit have there = absurd (let no : ⊥ = cc in no)
              go OwnMemory is fit have there = absurd (let no : ⊥ = cc in no)
              go (PeerMemory k) is fit have there = told k is fit have there
              go (BothMemories k) is fit have there = told k is fit have there
              go (PeerPosts k) is fit have there = told k is fit have there
              go (Group id) is fit have there = absurd (let no : ⊥ = cc in no)
              go (GroupAndMemory id) is fit have there = absurd (let no : ⊥ = cc in no)

-- the other shard of what an event of a rank reaches
pub other-shard : (w : ShapeValue) (me : ℕ) (footprint : Footprint) → me < w.limits.ranks → IsFootprint w.limits.ranks me footprint → IsOtherShard w me (rank_other w.limits.ranks footprint)
other-shard w me Alone lt is = tt
other-shard w me OwnMemory lt is = tt
other-shard w me (PeerMemory rank) lt is = ((let less = is.1 in omega arith), λ same. eqb-false rank me is.0 same)
other-shard w me (BothMemories rank) lt is = ((let less = is.1 in omega arith), λ same. eqb-false rank me is.0 same)
other-shard w me (PeerPosts rank) lt is = ((let less = is.1 in omega arith), λ same. eqb-false rank me is.0 same)
other-shard w me (Group id) lt is = ((omega arith), λ same. absurd (omega arith))
other-shard w me (GroupAndMemory id) lt is = ((omega arith), λ same. absurd (omega arith))
