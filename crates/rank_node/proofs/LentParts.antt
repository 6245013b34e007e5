-- The parts that are lent for a transfer: whose memory it works on, and what of them stays.
use Rattle.std.proofs.Common.{◌≡◌, ℕ, Bool, true, false, ◌==◌, nat_lt, if◌then◌else◌, List, Option, None, Some, refl, sym, ap, ◌∙◌, subst, arith}
use Rattle.std.specs.List.{slice_get, slice_set}
use Rattle.std.proofs.lemmas.Bool.{eq-eqb, eqb-true, lt-ltb}
use Rattle.std.proofs.lemmas.Option.{slice_get_within}
use Rattle.gaspi_types.specs.Footprints.{footprint_of, take_footprint, put_footprint}
use Rattle.gaspi_types.specs.declared.entries.Entry.{Entry}
use Rattle.gaspi_types.specs.declared.entries.Kind.{Kind}
use Rattle.gaspi_types.specs.declared.entries.Kind.TheVariants.{Write, Read, Notify, ReadNote}
use Rattle.gaspi_types.specs.declared.events.Transfer.{Transfer}
use Rattle.gaspi_types.specs.declared.footprints.DeclaredFootprint.{DeclaredFootprint}
use Rattle.gaspi_types.specs.declared.footprints.Footprint.TheVariants.{Alone, OwnMemory, PeerMemory}
use Rattle.gaspi_model.specs.Changes.{take_rank, put_rank}
use Rattle.gaspi_model.specs.Sound.{IsSound}
use Rattle.gaspi_model.specs.Step.{declared_entry_footprint}
use Rattle.gaspi_model.specs.Transfers.{EntryPosition, entry_in}
use Rattle.gaspi_model.specs.declared.states.Posts.{Posts}
use Rattle.gaspi_model.specs.declared.states.State.{State}
use Rattle.rank_node.specs.Lending.{IsPostsOf, IsPeer, IsPeerNode, IsGroupAt, footprint_peer, footprint_group}
use Rattle.rank_node.specs.Values.{PostsValue}
use Rattle.rank_node.specs.declared.nodes.Node.{Node}
use Rattle.rank_node.specs.declared.nodes.GroupNode.{GroupNode}
use Rattle.gaspi_types.proofs.Items.{slice_get-set_other}
use Rattle.gaspi_model.proofs.FoundEntries.{IsFound}
use Rattle.gaspi_model.proofs.Made.{take-footprint, put-footprint, entry-found}
use Rattle.rank_node.proofs.NextEntries.{same-some, placed, chosen, chosen-found}

-- the other node is that of the rank, and where there is none, there is no such rank
pub peer-some : (s : State) (me : ℕ) (o : Option ℕ) (peer : Node) → IsPeer s me o (Some peer) → (rank : ℕ) × (o ≡ Some rank) × IsPeerNode s me rank peer
peer-some s me (Some rank) peer h = (rank, refl, h)
peer-some s me None peer h = absurd h

pub peer-none : (s : State) (me : ℕ) (o : Option ℕ) → IsPeer s me o None → o ≡ None
peer-none s me None h = refl
peer-none s me (Some rank) h = absurd h

pub apart-not : (a b : ℕ) → (a == b) ≡ false → b ≡ a → ⊥
apart-not a b apart same = let yes = eq-eqb a b (sym same) in let no : ⊥ = cc in no

-- the memory of a rank that is named: of the other one that is reached, or, where none is, of the own one
named-some : (ranks me named rank : ℕ) → footprint_peer (if named == me then OwnMemory else (if nat_lt named ranks then PeerMemory named else Alone)) ≡ Some rank → named ≡ rank
named-some ranks me named rank h = go (named == me) (nat_lt named ranks) h
  where
    go : (b c : Bool) → footprint_peer (if b then OwnMemory else (if c then PeerMemory named else Alone)) ≡ Some rank → named ≡ rank
    go true c h = absurd (let no : ⊥ = cc in no)
    go false true h = cc
    go false false h = absurd (let no : ⊥ = cc in no)

named-none : (ranks me named : ℕ) → nat_lt named ranks ≡ true → footprint_peer (if named == me then OwnMemory else (if nat_lt named ranks then PeerMemory named else Alone)) ≡ None → named ≡ me
named-none ranks me named less h = go (named == me) refl h
  where
    go : (b : Bool) → (named == me) ≡ b → footprint_peer (if b then OwnMemory else (if nat_lt named ranks then PeerMemory named else Alone)) ≡ None → named ≡ me
    go true is h = eqb-true named me is
    go false is h = absurd (let never : ◌≡◌ {A = Option ℕ} (Some named) None = rw less at h in let no : ⊥ = cc in no)

pub put-some : (ranks origin target rank : ℕ) (kind : Kind) → footprint_peer (put-footprint ranks origin target kind) ≡ Some rank → put_rank origin target kind ≡ rank
put-some ranks origin target rank (Write own to) h = named-some ranks origin target rank h
put-some ranks origin target rank (Read own to) h = absurd (let no : ⊥ = cc in no)
put-some ranks origin target rank (Notify to value) h = named-some ranks origin target rank h
put-some ranks origin target rank (ReadNote own) h = absurd (let no : ⊥ = cc in no)

pub put-none : (ranks origin target : ℕ) (kind : Kind) → nat_lt target ranks ≡ true → footprint_peer (put-footprint ranks origin target kind) ≡ None → put_rank origin target kind ≡ origin
put-none ranks origin target (Write own to) less h = named-none ranks origin target less h
put-none ranks origin target (Read own to) less h = refl
put-none ranks origin target (Notify to value) less h = named-none ranks origin target less h
put-none ranks origin target (ReadNote own) less h = refl

pub take-some : (ranks origin target rank : ℕ) (kind : Kind) → footprint_peer (take-footprint ranks origin target kind) ≡ Some rank → take_rank origin target kind ≡ rank
take-some ranks origin target rank (Write own to) h = absurd (let no : ⊥ = cc in no)
take-some ranks origin target rank (Read own to) h = named-some ranks origin target rank h
take-some ranks origin target rank (Notify to value) h = absurd (let no : ⊥ = cc in no)
take-some ranks origin target rank (ReadNote own) h = absurd (let no : ⊥ = cc in no)

pub take-none : (ranks origin target : ℕ) (kind : Kind) → nat_lt target ranks ≡ true → footprint_peer (take-footprint ranks origin target kind) ≡ None → take_rank origin target kind ≡ origin
take-none ranks origin target (Write own to) less h = refl
take-none ranks origin target (Read own to) less h = named-none ranks origin target less h
take-none ranks origin target (Notify to value) less h = refl
take-none ranks origin target (ReadNote own) less h = refl

-- the entry that was found, and that its target is a rank
pub record IsFoundAs (s : State) (p : PostsValue) (t : Transfer) (e : Entry) : Type 0 where
  pub at : EntryPosition
  pub found : IsFound p.posts t.queue t.target t.number at
  pub entry : at.entry ≡ e
  pub ranked : nat_lt t.target s.limits.ranks ≡ true

pub found-as : (s : State) (p : PostsValue) (t : Transfer) (posts : Posts) (at : EntryPosition) (place : List Entry → ℕ) (e : Entry) → IsSound s → IsPostsOf s t.origin p → slice_get s.posts t.origin ≡ Some posts
    → IsFound posts t.queue t.target t.number at → chosen (λ (lane : List Entry). slice_get lane (place lane)) p.posts t.queue t.target ≡ Some e → e.number ≡ t.number → IsFoundAs s p t e
found-as s p t posts at place e sound is there found first numbered =
    let mine : p.posts ≡ posts = same-some (slice_get s.posts t.origin) p.posts posts is.posts there in
    let found_p : IsFound p.posts t.queue t.target t.number at = rw mine found in
    let here : slice_get at.lane (place at.lane) ≡ Some e = sym (chosen-found (λ (lane : List Entry). slice_get lane (place lane)) p.posts t.queue t.target t.number at found_p) ∙ first in
    let sound_posts = sound.posts t.origin p.posts is.posts in
    let rising = sound_posts.rising t.queue at.queue found_p.in_posts t.target at.lane found_p.in_queue in
    let place_is = placed p.posts.next t.number at.lane at.position (place at.lane) e rising found_p.numbered here numbered in
    let lanes = sound_posts.lanes t.queue at.queue found_p.in_posts in
    let within = slice_get_within at.queue.lanes t.target at.lane found_p.in_queue in
    record {
      at = at;
      found = found_p;
      entry = same-some (slice_get at.lane at.position) at.entry e found_p.in_lane (subst (λ (k : ℕ). slice_get at.lane k ≡ Some e) (sym place_is) here);
      ranked = lt-ltb t.target s.limits.ranks (omega arith);
    }

pub footprint-as : (s : State) (p : PostsValue) (t : Transfer) (e : Entry) (f : IsFoundAs s p t e) (declaration : ℕ → Kind → DeclaredFootprint)
    → footprint_of s.limits.ranks t.origin (declared_entry_footprint (declaration t.target) (entry_in p.posts t.queue t.target t.number)) ≡ footprint_of s.limits.ranks t.origin (declaration t.target e.kind)
footprint-as s p t e f declaration =
    ap (λ (o : Option Entry). footprint_of s.limits.ranks t.origin (declared_entry_footprint (declaration t.target) o)) (entry-found p.posts t.queue t.target t.number f.at f.found ∙ ap (λ (x : Entry). Some x) f.entry)

-- no transfer reaches a group
named-no_group : (ranks me named : ℕ) → footprint_group (if named == me then OwnMemory else (if nat_lt named ranks then PeerMemory named else Alone)) ≡ None
named-no_group ranks me named = go (named == me) (nat_lt named ranks)
  where
    go : (b c : Bool) → footprint_group (if b then OwnMemory else (if c then PeerMemory named else Alone)) ≡ None
    go true c = refl
    go false true = refl
    go false false = refl

pub take-no_group : (ranks origin target : ℕ) (o : Option Entry) → footprint_group (footprint_of ranks origin (declared_entry_footprint (take_footprint target) o)) ≡ None
take-no_group ranks origin target None = refl
take-no_group ranks origin target (Some e) = go e.kind
  where
    go : (kind : Kind) → footprint_group (footprint_of ranks origin (take_footprint target kind)) ≡ None
    go (Write own to) = refl
    go (Read own to) = named-no_group ranks origin target
    go (Notify to value) = refl
    go (ReadNote own) = refl

pub put-no_group : (ranks origin target : ℕ) (o : Option Entry) → footprint_group (footprint_of ranks origin (declared_entry_footprint (put_footprint target) o)) ≡ None
put-no_group ranks origin target None = refl
put-no_group ranks origin target (Some e) = go e.kind
  where
    go : (kind : Kind) → footprint_group (footprint_of ranks origin (put_footprint target kind)) ≡ None
    go (Write own to) = named-no_group ranks origin target
    go (Read own to) = refl
    go (Notify to value) = named-no_group ranks origin target
    go (ReadNote own) = refl

pub group-none : (s : State) (o : Option ℕ) (group : Option GroupNode) → o ≡ None → IsGroupAt s o group → group ≡ None
group-none s None None is h = refl
group-none s None (Some n) is h = absurd h
group-none s (Some id) group is h = absurd (let no : ⊥ = cc in no)

-- what stays: the group, and the other rank where its memory is not written
pub group-stays : (s after : State) (o : Option ℕ) (group : Option GroupNode) → after.groups ≡ s.groups → IsGroupAt s o group → IsGroupAt after o group
group-stays s after None None same h = tt
group-stays s after None (Some n) same h = absurd h
group-stays s after (Some id) None same h = absurd h
group-stays s after (Some id) (Some n) same h = record { group = h.group; there = ap (λ (x : List _). slice_get x id) same ∙ h.there; stands = h.stands }

pub peer-stays : (s after : State) (me : ℕ) (posts : Posts) (o : Option ℕ) (peer : Option Node) → after ≡ record s { posts = slice_set s.posts me posts } → IsPeer s me o peer → IsPeer after me o peer
peer-stays s after me posts None None is h = tt
peer-stays s after me posts None (Some peer) is h = absurd h
peer-stays s after me posts (Some rank) None is h = absurd h
peer-stays s after me posts (Some rank) (Some peer) is h = record {
  apart = h.apart;
  node = record {
    posts = record {
      limits = h.node.posts.limits ∙ sym (ap (λ (x : State). x.limits) is);
      me = h.node.posts.me;
      posts = ap (λ (x : State). slice_get x.posts rank) is ∙ slice_get-set_other s.posts me rank posts (λ e. apart-not rank me h.apart e) ∙ h.node.posts.posts;
    };
    memory = record {
      capacity = h.node.memory.capacity ∙ sym (ap (λ (x : State). x.limits.inbox) is);
      memory = ap (λ (x : State). slice_get x.memories rank) is ∙ h.node.memory.memory;
    };
  };
}
