-- The posts of all ranks after a call that tells a segment to one of them: what that one knows has changed, and nothing
-- else.
use Rattle.std.proofs.Common.{◌≡◌, ℕ, Bool, true, false, ◌==◌, nat_lt, List, length, Option, None, Some, refl, sym, ap, ◌∙◌, subst, arith, if◌then◌else◌, ◌⊎◌, inl, inr}
use Rattle.std.specs.List.{slice_get, slice_set, sum_by}
use Rattle.std.specs.Option.{option_map}
use Rattle.std.proofs.lemmas.Bool.{eqb-true, eqb-false}
use Rattle.gaspi_types.specs.SegmentTables.{extent_in}
use Rattle.gaspi_types.specs.Replies.{is_idle}
use Rattle.gaspi_types.specs.declared.segments.Extent.{Extent}
use Rattle.gaspi_types.specs.declared.calls.Call.{Call}
use Rattle.gaspi_types.specs.declared.calls.Call.TheVariants.{Register}
use Rattle.gaspi_types.specs.declared.calls.segments.Register as register
use Rattle.gaspi_types.specs.declared.footprints.DeclaredFootprint.{DeclaredFootprint}
use Rattle.gaspi_types.specs.declared.footprints.DeclaredFootprint.TheVariants as touches
use Rattle.gaspi_types.specs.declared.footprints.Footprint.{Footprint}
use Rattle.gaspi_types.specs.declared.footprints.Footprint.TheVariants.{Alone, OwnMemory, PeerMemory, BothMemories, PeerPosts, Group, GroupAndMemory}
use Rattle.gaspi_types.specs.CallRows.{row_of}
use Rattle.gaspi_types.specs.Footprints.{footprint_of}
use Rattle.gaspi_model.specs.Calls.{peer_after}
use Rattle.gaspi_types.specs.declared.replies.Reply.{Reply}
use Rattle.gaspi_types.specs.Tables.{changed_at}
use Rattle.gaspi_model.specs.SegmentCalls.{with_known}
use Rattle.gaspi_model.specs.declared.states.Posts.{Posts}
use Rattle.gaspi_types.proofs.Items.{set-there, slice_get-set_same, slice_get-set_other, sum_by-changed, length-changed_at}

-- what stands in a table with one item changed
pub changed_at-get : {A : Type 0} (xs : List A) (i k : ℕ) (change : A → A) → slice_get (changed_at xs i change) k ≡ (if i == k then option_map change (slice_get xs k) else slice_get xs k)
changed_at-get {A} xs i k change = go (slice_get xs i) refl (i == k) refl
  where
    go : (o : Option A) → slice_get xs i ≡ o → (b : Bool) → (i == k) ≡ b → slice_get (changed_at xs i change) k ≡ (if i == k then option_map change (slice_get xs k) else slice_get xs k)
    go None at true is =
        let here : slice_get xs k ≡ None = subst (λ (n : ℕ). slice_get xs n ≡ None) (eqb-true i k is) at in
        rw (at, is, here) refl
    go None at false is = rw (at, is) refl
    go (Some x) at true is =
        let same = eqb-true i k is in
        let now = subst (λ (n : ℕ). slice_get (slice_set xs i (change x)) n ≡ Some (change x)) same (slice_get-set_same xs i x (change x) at) in
        let before = subst (λ (n : ℕ). slice_get xs n ≡ Some x) same at in
        rw (at, is, before) now
    go (Some x) at false is = rw (at, is) (slice_get-set_other xs i k (change x) (λ e. eqb-false i k is e))

-- nothing is changed by a change that changes nothing
changed_at-same : {A : Type 0} (xs : List A) (i : ℕ) (change : A → A) → ((x : A) → change x ≡ x) → changed_at xs i change ≡ xs
changed_at-same {A} xs i change same = go (slice_get xs i) refl
  where
    go : (o : Option A) → slice_get xs i ≡ o → changed_at xs i change ≡ xs
    go None at = rw at refl
    go (Some x) at = rw (at, same x) (set-there xs i x at)

-- changes that do the same to each item
changed_at-alike : {A : Type 0} (xs : List A) (i : ℕ) (f g : A → A) → ((x : A) → f x ≡ g x) → changed_at xs i f ≡ changed_at xs i g
changed_at-alike {A} xs i f g alike = go (slice_get xs i) refl
  where
    go : (o : Option A) → slice_get xs i ≡ o → changed_at xs i f ≡ changed_at xs i g
    go None at = rw at refl
    go (Some x) at = rw (at, alike x) refl

-- the posts of all ranks with those of a peer that is reached changed
abbrev pub changed_peer : Footprint → List Posts → (Posts → Posts) → List Posts
changed_peer Alone all change = all
changed_peer OwnMemory all change = all
changed_peer (PeerMemory rank) all change = all
changed_peer (BothMemories rank) all change = all
changed_peer (PeerPosts rank) all change = changed_at all rank change
changed_peer (Group id) all change = all
changed_peer (GroupAndMemory id) all change = all

-- the posts of all ranks after a call of that reach: of a peer that it reaches what it leaves there
abbrev pub registered_at : Footprint → ℕ → Posts → Call → Reply → List Posts → List Posts
registered_at Alone me p call reply all = all
registered_at OwnMemory me p call reply all = all
registered_at (PeerMemory rank) me p call reply all = all
registered_at (BothMemories rank) me p call reply all = all
registered_at (PeerPosts rank) me p call reply all = changed_at all rank (peer_after me p call reply)
registered_at (Group id) me p call reply all = all
registered_at (GroupAndMemory id) me p call reply all = all

abbrev pub registering : ℕ → ℕ → Posts → Call → Reply → List Posts → List Posts
registering ranks me p call reply all = registered_at (footprint_of ranks me (row_of call).footprint) me p call reply all

-- a reach of a peer's posts comes from a touch of the posts of another rank
pub peer-touched : (ranks me rank : ℕ) (declaration : DeclaredFootprint) → footprint_of ranks me declaration ≡ PeerPosts rank → (declaration ≡ touches.PostsOf rank) × ((rank == me) ≡ false) × (nat_lt rank ranks ≡ true)
peer-touched ranks me rank touches.Nothing h = absurd (let no : ⊥ = cc in no)
peer-touched ranks me rank touches.OwnMemory h = absurd (let no : ⊥ = cc in no)
peer-touched ranks me rank (touches.MemoryOf r) h = absurd (mine (r == me) (nat_lt r ranks) h)
  where
    mine : (b c : Bool) → (if b then OwnMemory else (if c then PeerMemory r else Alone)) ≡ PeerPosts rank → ⊥
    mine true c h = cc
    mine false true h = cc
    mine false false h = cc
peer-touched ranks me rank (touches.BothMemories r) h = absurd (mine (r == me) (nat_lt r ranks) h)
  where
    mine : (b c : Bool) → (if b then OwnMemory else (if c then BothMemories r else Alone)) ≡ PeerPosts rank → ⊥
    mine true c h = cc
    mine false true h = cc
    mine false false h = cc
peer-touched ranks me rank (touches.PostsOf r) h = go (r == me) refl (nat_lt r ranks) refl
  where
    go : (b : Bool) → (r == me) ≡ b → (c : Bool) → nat_lt r ranks ≡ c → (touches.PostsOf r ≡ touches.PostsOf rank) × ((rank == me) ≡ false) × (nat_lt rank ranks ≡ true)
    go true is c less = absurd (let none : Alone ≡ PeerPosts rank = rw is at h in let no : ⊥ = cc in no)
    go false is false less = absurd (let none : Alone ≡ PeerPosts rank = rw (is, less) at h in let no : ⊥ = cc in no)
    go false is true less =
        let some : PeerPosts r ≡ PeerPosts rank = rw (is, less) at h in
        let same : r ≡ rank = cc in
        (ap touches.PostsOf same, subst (λ (n : ℕ). (n == me) ≡ false) same is, subst (λ (n : ℕ). nat_lt n ranks ≡ true) same less)
peer-touched ranks me rank (touches.GroupOf id) h = absurd (mine (nat_lt id 8) h)
  where
    mine : (b : Bool) → (if b then Group id else Alone) ≡ PeerPosts rank → ⊥
    mine true h = cc
    mine false h = cc
peer-touched ranks me rank (touches.GroupAndMemory id) h = absurd (mine (nat_lt id 8) h)
  where
    mine : (b : Bool) → (if b then GroupAndMemory id else Alone) ≡ PeerPosts rank → ⊥
    mine true h = cc
    mine false h = cc

-- and one of both memories from a touch of those
pub both-touched : (ranks me rank : ℕ) (declaration : DeclaredFootprint) → footprint_of ranks me declaration ≡ BothMemories rank → (declaration ≡ touches.BothMemories rank) × ((rank == me) ≡ false) × (nat_lt rank ranks ≡ true)
both-touched ranks me rank touches.Nothing h = absurd (let no : ⊥ = cc in no)
both-touched ranks me rank touches.OwnMemory h = absurd (let no : ⊥ = cc in no)
both-touched ranks me rank (touches.MemoryOf r) h = absurd (mine (r == me) (nat_lt r ranks) h)
  where
    mine : (b c : Bool) → (if b then OwnMemory else (if c then PeerMemory r else Alone)) ≡ BothMemories rank → ⊥
    mine true c h = cc
    mine false true h = cc
    mine false false h = cc
both-touched ranks me rank (touches.PostsOf r) h = absurd (mine (r == me) (nat_lt r ranks) h)
  where
    mine : (b c : Bool) → (if b then Alone else (if c then PeerPosts r else Alone)) ≡ BothMemories rank → ⊥
    mine true c h = cc
    mine false true h = cc
    mine false false h = cc
both-touched ranks me rank (touches.BothMemories r) h = go (r == me) refl (nat_lt r ranks) refl
  where
    go : (b : Bool) → (r == me) ≡ b → (c : Bool) → nat_lt r ranks ≡ c → (touches.BothMemories r ≡ touches.BothMemories rank) × ((rank == me) ≡ false) × (nat_lt rank ranks ≡ true)
    go true is c less = absurd (let none : OwnMemory ≡ BothMemories rank = rw is at h in let no : ⊥ = cc in no)
    go false is false less = absurd (let none : Alone ≡ BothMemories rank = rw (is, less) at h in let no : ⊥ = cc in no)
    go false is true less =
        let some : BothMemories r ≡ BothMemories rank = rw (is, less) at h in
        let same : r ≡ rank = cc in
        (ap touches.BothMemories same, subst (λ (n : ℕ). (n == me) ≡ false) same is, subst (λ (n : ℕ). nat_lt n ranks ≡ true) same less)
both-touched ranks me rank (touches.GroupOf id) h = absurd (mine (nat_lt id 8) h)
  where
    mine : (b : Bool) → (if b then Group id else Alone) ≡ BothMemories rank → ⊥
    mine true h = cc
    mine false h = cc
both-touched ranks me rank (touches.GroupAndMemory id) h = absurd (mine (nat_lt id 8) h)
  where
    mine : (b : Bool) → (if b then GroupAndMemory id else Alone) ≡ BothMemories rank → ⊥
    mine true h = cc
    mine false h = cc

-- a call that touches a rank's posts makes a segment known to it
pub with_footprint-registers : (call : Call) (rank : ℕ) → (row_of call).footprint ≡ touches.PostsOf rank → (x : register.Register) × (call ≡ Register x) × (x.rank ≡ rank)
with_footprint-registers (Register x) rank h = (x, refl, (let same : x.rank ≡ rank = cc in same))
with_footprint-registers other rank h = absurd (let no : ⊥ = cc in no)

-- a call tells a segment to another rank, or leaves the posts of all ranks as they are
pub registered-cases : {P : Type 0} (ranks me : ℕ) (p : Posts) (call : Call) (reply : Reply) → (((all : List Posts) → registering ranks me p call reply all ≡ all) → P)
    → ((x : register.Register) → call ≡ Register x → is_idle reply ≡ false → (x.rank == me) ≡ false
    → ((all : List Posts) → registering ranks me p call reply all ≡ changed_at all x.rank (with_known me x.seg (extent_in p.segments.own x.seg))) → P) → P
registered-cases {P} ranks me p call reply same tells = by-footprint (footprint_of ranks me (row_of call).footprint) refl
  where
    told-known : (x : register.Register) → call ≡ Register x → (rank : ℕ) → x.rank ≡ rank → is_idle reply ≡ false → (all : List Posts)
        → changed_at all rank (peer_after me p call reply) ≡ changed_at all x.rank (with_known me x.seg (extent_in p.segments.own x.seg))
    told-known x is rank named awake all =
        changed_at-alike all rank (peer_after me p call reply) (with_known me x.seg (extent_in p.segments.own x.seg)) (λ q. rw (is, awake) refl)
        ∙ ap (λ (n : ℕ). changed_at all n (with_known me x.seg (extent_in p.segments.own x.seg))) (sym named)

    named : (rank : ℕ) → footprint_of ranks me (row_of call).footprint ≡ PeerPosts rank → (x : register.Register) → call ≡ Register x → x.rank ≡ rank → (rank == me) ≡ false
        → (b : Bool) → is_idle reply ≡ b → P
    named rank footprint x is at other true idle = same (λ all. rw footprint (changed_at-same all rank (peer_after me p call reply) (λ q. rw idle refl)))
    named rank footprint x is at other false awake =
        tells x is awake (subst (λ (n : ℕ). (n == me) ≡ false) (sym at) other) (λ all. rw footprint (told-known x is rank at awake all))

    by-footprint : (r : Footprint) → footprint_of ranks me (row_of call).footprint ≡ r → P
    by-footprint Alone is = same (λ all. rw is refl)
    by-footprint OwnMemory is = same (λ all. rw is refl)
    by-footprint (PeerMemory rank) is = same (λ all. rw is refl)
    by-footprint (BothMemories rank) is = same (λ all. rw is refl)
    by-footprint (Group id) is = same (λ all. rw is refl)
    by-footprint (GroupAndMemory id) is = same (λ all. rw is refl)
    by-footprint (PeerPosts rank) is =
        let touched = peer-touched ranks me rank (row_of call).footprint is in
        let registers = with_footprint-registers call rank touched.0 in
        named rank is registers.0 registers.1 registers.2 touched.1 (is_idle reply) refl

-- a call that did nothing tells nothing
pub registered-idle : (ranks me : ℕ) (p : Posts) (call : Call) (reply : Reply) (all : List Posts) → is_idle reply ≡ true → registering ranks me p call reply all ≡ all
registered-idle ranks me p call reply all idle = go (footprint_of ranks me (row_of call).footprint)
  where
    go : (r : Footprint) → registered_at r me p call reply all ≡ all
    go Alone = refl
    go OwnMemory = refl
    go (PeerMemory rank) = refl
    go (BothMemories rank) = refl
    go (Group id) = refl
    go (GroupAndMemory id) = refl
    go (PeerPosts rank) = changed_at-same all rank (peer_after me p call reply) (λ q. rw idle refl)

-- the posts of a rank are the same, but for what it knows
abbrev pub IsTold : List Posts → List Posts → ℕ → Type 0
IsTold before after rank =
    (slice_get after rank ≡ slice_get before rank)
    ⊎ ((p : Posts) × (known : List (List (Option Extent))) × (slice_get before rank ≡ Some p) × (slice_get after rank ≡ Some (record p { segments = record p.segments { known = known } })))

pub registered-get : (ranks me : ℕ) (p : Posts) (call : Call) (reply : Reply) (all : List Posts) (rank : ℕ) → IsTold all (registering ranks me p call reply all) rank
registered-get ranks me p call reply all rank =
    registered-cases ranks me p call reply
    (λ same. inl (rw (same all) refl))
    (λ x is awake other same. named x.seg x.rank (λ k. ap (λ (xs : List Posts). slice_get xs k) (same all) ∙ changed_at-get all x.rank k (with_known me x.seg (extent_in p.segments.own x.seg))) (x.rank == rank) refl (slice_get all rank) refl)
  where
    named : (seg r : ℕ) → ((k : ℕ) → slice_get (registering ranks me p call reply all) k ≡ (if r == k then option_map (with_known me seg (extent_in p.segments.own seg)) (slice_get all k) else slice_get all k))
        → (b : Bool) → (r == rank) ≡ b → (o : Option Posts) → slice_get all rank ≡ o → IsTold all (registering ranks me p call reply all) rank
    named seg r same false is o at = inl (same rank ∙ rw is refl)
    named seg r same true is None at = inl (same rank ∙ rw (is, at) refl)
    named seg r same true is (Some x) at = inr (x, (with_known me seg (extent_in p.segments.own seg) x).segments.known, at, same rank ∙ rw (is, at) refl)

-- the posts of a rank afterwards come from those before
pub registered-from : (ranks me : ℕ) (p : Posts) (call : Call) (reply : Reply) (all : List Posts) (rank : ℕ) (after : Posts) → slice_get (registering ranks me p call reply all) rank ≡ Some after
    → (before : Posts) × (known : List (List (Option Extent))) × (slice_get all rank ≡ Some before) × (after ≡ record before { segments = record before.segments { known = known } })
registered-from ranks me p call reply all rank after h = go (registered-get ranks me p call reply all rank)
  where
    go : IsTold all (registering ranks me p call reply all) rank → (before : Posts) × (known : List (List (Option Extent))) × (slice_get all rank ≡ Some before) × (after ≡ record before { segments = record before.segments { known = known } })
    go (inl same) = (after, after.segments.known, sym same ∙ h, refl)
    go (inr (x, known, before, now)) =
        let some : ◌≡◌ {A = Option Posts} (Some after) (Some (record x { segments = record x.segments { known = known } })) = sym h ∙ now in
        (x, known, before, (let is : after ≡ record x { segments = record x.segments { known = known } } = cc in is))

-- the caller's own posts are those before
pub registered-mine : (ranks me : ℕ) (p : Posts) (call : Call) (reply : Reply) (all : List Posts) → slice_get (registering ranks me p call reply all) me ≡ slice_get all me
registered-mine ranks me p call reply all =
    registered-cases ranks me p call reply
    (λ same. rw (same all) refl)
    (λ x is awake other same. ap (λ (xs : List Posts). slice_get xs me) (same all) ∙ changed_at-get all x.rank me (with_known me x.seg (extent_in p.segments.own x.seg)) ∙ rw other refl)

pub registered-length : (ranks me : ℕ) (p : Posts) (call : Call) (reply : Reply) (all : List Posts) → length (registering ranks me p call reply all) ≡ length all
registered-length ranks me p call reply all =
    registered-cases ranks me p call reply
    (λ same. ap length (same all))
    (λ x is awake other same. ap length (same all) ∙ length-changed_at all x.rank (with_known me x.seg (extent_in p.segments.own x.seg)))

-- a sum over the posts of what does not depend on what they know
pub registered-sum : (f : Posts → ℕ) → ((x : Posts) (known : List (List (Option Extent))) → f (record x { segments = record x.segments { known = known } }) ≡ f x) → (ranks me : ℕ) (p : Posts) (call : Call) (reply : Reply) (all : List Posts)
    → sum_by f (registering ranks me p call reply all) ≡ sum_by f all
registered-sum f blind ranks me p call reply all =
    registered-cases ranks me p call reply
    (λ same. ap (sum_by f) (same all))
    (λ x is awake other same. ap (sum_by f) (same all) ∙ named x.seg x.rank (slice_get all x.rank) refl)
  where
    named : (seg r : ℕ) (o : Option Posts) → slice_get all r ≡ o → sum_by f (changed_at all r (with_known me seg (extent_in p.segments.own seg))) ≡ sum_by f all
    named seg r None at = rw at refl
    named seg r (Some x) at =
        let new = with_known me seg (extent_in p.segments.own seg) x in
        let sum = sum_by-changed f all r x new at in
        let same : f new ≡ f x = blind x new.segments.known in
        rw at (omega arith)
