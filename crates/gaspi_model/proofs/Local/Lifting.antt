-- A step on the parts of a reach reads and changes the shards of that reach alone, whatever the step is.
use Rattle.std.proofs.Common.{◌≡◌, ℕ, zero, suc, Bool, true, false, ◌==◌, ◌||◌, List, [], ◌∷◌, Option, None, Some, Result, Ok, Err, refl, sym, ap, ◌∙◌, subst}
use Rattle.std.specs.List.{slice_get, slice_set}
use Rattle.std.proofs.lemmas.Bool.{eq-eqb, eqb-true, eqb-false}
use Rattle.gaspi_types.specs.declared.groups.Group as groups
use Rattle.gaspi_types.specs.declared.footprints.Footprint.{Footprint}
use Rattle.gaspi_types.specs.declared.footprints.Footprint.TheVariants.{Alone, OwnMemory, PeerMemory, BothMemories, PeerPosts, Group, GroupAndMemory}
use Rattle.gaspi_model.specs.Parts.{Parts, part_numbers, with_part, parts_of, with_parts, lifted}
use Rattle.gaspi_model.specs.Shards.{footprint_shards, is_shard, same_shard, AgreeOnShard, AgreeOn, HaveSameResult}
use Rattle.gaspi_model.specs.declared.states.Posts.{Posts}
use Rattle.gaspi_model.specs.declared.states.Memory.{Memory}
use Rattle.gaspi_model.specs.declared.states.State.{State}
use Rattle.gaspi_model.specs.declared.states.Shard.{Shard}
use Rattle.gaspi_model.specs.declared.states.Shard.TheVariants as shards
use Rattle.gaspi_model.specs.declared.states.Why.{Why}
use Rattle.gaspi_types.proofs.Chains.{bind_then, found_then, same_Ok}
use Rattle.gaspi_types.proofs.Items.{slice_get-set_same, slice_get-set_other}

-- a shard that is none of two tests
neither : (a b : Bool) → (a || b) ≡ false → (a ≡ false) × (b ≡ false)
neither false b h = (refl, h)
neither true b h = absurd (let no : ⊥ = cc in no)

pub same-shard : (a : Shard) → same_shard a a ≡ true
same-shard (shards.Posts n) = eq-eqb n n refl
same-shard (shards.Memory n) = eq-eqb n n refl
same-shard (shards.Group n) = eq-eqb n n refl

pub first-is-shard : (a : Shard) (rest : List Shard) → is_shard (a ∷ rest) a ≡ true
first-is-shard a rest = rw (same-shard a) refl

second-is-shard : (a b : Shard) → is_shard (a ∷ b ∷ []) b ≡ true
second-is-shard a b = go (same_shard a b) refl
  where
    go : (t : Bool) → same_shard a b ≡ t → is_shard (a ∷ b ∷ []) b ≡ true
    go true is = rw is refl
    go false is = rw (is, same-shard b) refl

pub owner-is-shard : (me : ℕ) (footprint : Footprint) → is_shard (footprint_shards me footprint) (shards.Posts me) ≡ true
owner-is-shard me Alone = first-is-shard (shards.Posts me) []
owner-is-shard me OwnMemory = first-is-shard (shards.Posts me) (shards.Memory me ∷ [])
owner-is-shard me (PeerMemory rank) = first-is-shard (shards.Posts me) (shards.Memory rank ∷ [])
owner-is-shard me (BothMemories rank) = first-is-shard (shards.Posts me) (shards.Memory me ∷ shards.Memory rank ∷ [])
owner-is-shard me (PeerPosts rank) = first-is-shard (shards.Posts me) (shards.Posts rank ∷ [])
owner-is-shard me (Group id) = first-is-shard (shards.Posts me) (shards.Group id ∷ [])
owner-is-shard me (GroupAndMemory id) = first-is-shard (shards.Posts me) (shards.Memory me ∷ shards.Group id ∷ [])

third-is-shard : (a b c : Shard) → is_shard (a ∷ b ∷ c ∷ []) c ≡ true
third-is-shard a b c = go (same_shard a c) refl
  where
    go : (t : Bool) → same_shard a c ≡ t → is_shard (a ∷ b ∷ c ∷ []) c ≡ true
    go true is = rw is refl
    go false is = rw is (second-is-shard b c)

middle-is-shard : (a b c : Shard) → is_shard (a ∷ b ∷ c ∷ []) b ≡ true
middle-is-shard a b c = go (same_shard a b) refl
  where
    go : (t : Bool) → same_shard a b ≡ t → is_shard (a ∷ b ∷ c ∷ []) b ≡ true
    go true is = rw is refl
    go false is = rw is (first-is-shard b (c ∷ []))

-- Frame.

apart : (a b : ℕ) → (a == b) ≡ false → a ≡ b → ⊥
apart a b is same = eqb-false a b is same

part-elsewhere : {A : Type 0} (table : List A) (place k : ℕ) (part : Option A) → (place == k) ≡ false → slice_get (with_part table (Some place) part) k ≡ slice_get table k
part-elsewhere table place k None other = refl
part-elsewhere table place k (Some x) other = slice_get-set_other table place k x (apart place k other)

frame-parts : (s : State) (me : ℕ) (footprint : Footprint) (parts : Parts) (shard : Shard) → is_shard (footprint_shards me footprint) shard ≡ false
    → AgreeOnShard (with_parts s me (part_numbers me footprint) parts) s shard
frame-parts s me Alone parts (shards.Posts k) out = slice_get-set_other s.posts me k parts.posts (apart me k (neither (me == k) false out).0)
frame-parts s me Alone parts (shards.Memory k) out = refl
frame-parts s me OwnMemory parts (shards.Posts k) out = slice_get-set_other s.posts me k parts.posts (apart me k (neither (me == k) false out).0)
frame-parts s me OwnMemory parts (shards.Memory k) out = part-elsewhere s.memories me k parts.memory (neither (me == k) false out).0
frame-parts s me (PeerMemory rank) parts (shards.Posts k) out = slice_get-set_other s.posts me k parts.posts (apart me k (neither (me == k) false out).0)
frame-parts s me (PeerMemory rank) parts (shards.Memory k) out = part-elsewhere s.memories rank k parts.peer_memory (neither (rank == k) false out).0
frame-parts s me (BothMemories rank) parts (shards.Posts k) out = slice_get-set_other s.posts me k parts.posts (apart me k (neither (me == k) false out).0)
frame-parts s me (BothMemories rank) parts (shards.Memory k) out =
    let first = neither (me == k) ((rank == k) || false) out in
    part-elsewhere (with_part s.memories (Some me) parts.memory) rank k parts.peer_memory (neither (rank == k) false first.1).0
    ∙ part-elsewhere s.memories me k parts.memory first.0
frame-parts s me (PeerPosts rank) parts (shards.Posts k) out =
    let first = neither (me == k) ((rank == k) || false) out in
    part-elsewhere (slice_set s.posts me parts.posts) rank k parts.peer_posts (neither (rank == k) false first.1).0
    ∙ slice_get-set_other s.posts me k parts.posts (apart me k first.0)
frame-parts s me (PeerPosts rank) parts (shards.Memory k) out = refl
frame-parts s me (Group id) parts (shards.Posts k) out = slice_get-set_other s.posts me k parts.posts (apart me k (neither (me == k) false out).0)
frame-parts s me (Group id) parts (shards.Memory k) out = refl
frame-parts s me (Group id) parts (shards.Group k) out = part-elsewhere s.groups id k parts.group (neither (id == k) false out).0
frame-parts s me (GroupAndMemory id) parts (shards.Posts k) out = slice_get-set_other s.posts me k parts.posts (apart me k (neither (me == k) false out).0)
frame-parts s me (GroupAndMemory id) parts (shards.Memory k) out = part-elsewhere s.memories me k parts.memory (neither (me == k) false out).0
frame-parts s me (GroupAndMemory id) parts (shards.Group k) out = part-elsewhere s.groups id k parts.group (neither (id == k) false out).0
frame-parts s me Alone parts (shards.Group k) out = refl
frame-parts s me OwnMemory parts (shards.Group k) out = refl
frame-parts s me (PeerMemory rank) parts (shards.Group k) out = refl
frame-parts s me (BothMemories rank) parts (shards.Group k) out = refl
frame-parts s me (PeerPosts rank) parts (shards.Group k) out = refl

pub lifted-frame : (s t : State) (me : ℕ) (missing : Why) (footprint : Posts → Footprint) (local : Parts → Result Parts Why) (posts : Posts) (shard : Shard)
    → lifted s me missing (λ x. part_numbers me (footprint x)) local ≡ Ok t → slice_get s.posts me ≡ Some posts → is_shard (footprint_shards me (footprint posts)) shard ≡ false → AgreeOnShard t s shard
lifted-frame s t me missing footprint local posts shard h at out =
    found_then (slice_get s.posts me) missing _ t h (λ p hp h1.
    bind_then (local (parts_of s p (part_numbers me (footprint p)))) _ t h1 (λ parts hl h2.
    let same : posts ≡ p = (let some : ◌≡◌ {A = Option Posts} (Some posts) (Some p) = sym at ∙ hp in cc) in
    subst (λ (x : State). AgreeOnShard x s shard) (same_Ok _ _ h2)
    (frame-parts s me (footprint p) parts shard (subst (λ (x : Posts). is_shard (footprint_shards me (footprint x)) shard ≡ false) same out))))

-- Determinism.

-- one item set in two tables that agree there and at a place: they still agree at that place
set-agree : {A : Type 0} (table table' : List A) (place k : ℕ) (y : A) → slice_get table place ≡ slice_get table' place → slice_get table k ≡ slice_get table' k
    → slice_get (slice_set table place y) k ≡ slice_get (slice_set table' place y) k
set-agree {A} table table' place k y same here = go (place == k) refl (slice_get table place) refl
  where
    none-set : (xs : List A) (i : ℕ) → slice_get xs i ≡ None → slice_get (slice_set xs i y) i ≡ None
    none-set [] i at = refl
    none-set (x ∷ xs) zero at = absurd (let no : ⊥ = cc in no)
    none-set (x ∷ xs) (suc i) at = none-set xs i at

    there : (o : Option A) → slice_get table place ≡ o → slice_get (slice_set table place y) place ≡ slice_get (slice_set table' place y) place
    there None at = none-set table place at ∙ sym (none-set table' place (sym same ∙ at))
    there (Some x) at = slice_get-set_same table place x y at ∙ sym (slice_get-set_same table' place x y (sym same ∙ at))

    go : (b : Bool) → (place == k) ≡ b → (o : Option A) → slice_get table place ≡ o → slice_get (slice_set table place y) k ≡ slice_get (slice_set table' place y) k
    go true is o at = subst (λ (n : ℕ). slice_get (slice_set table place y) n ≡ slice_get (slice_set table' place y) n) (eqb-true place k is) (there o at)
    go false is o at = slice_get-set_other table place k y (apart place k is) ∙ here ∙ sym (slice_get-set_other table' place k y (apart place k is))

part-agree : {A : Type 0} (table table' : List A) (place k : ℕ) (part : Option A) → slice_get table place ≡ slice_get table' place → slice_get table k ≡ slice_get table' k
    → slice_get (with_part table (Some place) part) k ≡ slice_get (with_part table' (Some place) part) k
part-agree table table' place k None same here = here
part-agree table table' place k (Some x) same here = set-agree table table' place k x same here

-- the parts of a reach are the same
same-parts : (s s' : State) (me : ℕ) (footprint : Footprint) (posts : Posts) → AgreeOn (is_shard (footprint_shards me footprint)) s s'
    → parts_of s posts (part_numbers me footprint) ≡ parts_of s' posts (part_numbers me footprint)
same-parts s s' me Alone posts agree = refl
same-parts s s' me OwnMemory posts agree =
    ap (λ (m : Option Memory). let x : Parts = record { posts = posts; memory = m; peer_posts = None; peer_memory = None; group = None } in x)
    (agree.parts (shards.Memory me) (second-is-shard (shards.Posts me) (shards.Memory me)))
same-parts s s' me (PeerMemory rank) posts agree =
    ap (λ (m : Option Memory). let x : Parts = record { posts = posts; memory = None; peer_posts = None; peer_memory = m; group = None } in x)
    (agree.parts (shards.Memory rank) (second-is-shard (shards.Posts me) (shards.Memory rank)))
same-parts s s' me (BothMemories rank) posts agree =
    ap (λ (m : Option Memory). let x : Parts = record { posts = posts; memory = m; peer_posts = None; peer_memory = slice_get s.memories rank; group = None } in x)
    (agree.parts (shards.Memory me) (first-is-shard (shards.Memory me) (shards.Memory rank ∷ [])))
    ∙ ap (λ (m : Option Memory). let x : Parts = record { posts = posts; memory = slice_get s'.memories me; peer_posts = None; peer_memory = m; group = None } in x)
    (agree.parts (shards.Memory rank) (second-is-shard (shards.Memory me) (shards.Memory rank)))
same-parts s s' me (PeerPosts rank) posts agree =
    ap (λ (p : Option Posts). let x : Parts = record { posts = posts; memory = None; peer_posts = p; peer_memory = None; group = None } in x)
    (agree.parts (shards.Posts rank) (second-is-shard (shards.Posts me) (shards.Posts rank)))
same-parts s s' me (Group id) posts agree =
    ap (λ (g : Option groups.Group). let x : Parts = record { posts = posts; memory = None; peer_posts = None; peer_memory = None; group = g } in x)
    (agree.parts (shards.Group id) (second-is-shard (shards.Posts me) (shards.Group id)))
same-parts s s' me (GroupAndMemory id) posts agree =
    ap (λ (m : Option Memory). let x : Parts = record { posts = posts; memory = m; peer_posts = None; peer_memory = None; group = slice_get s.groups id } in x)
    (agree.parts (shards.Memory me) (middle-is-shard (shards.Posts me) (shards.Memory me) (shards.Group id)))
    ∙ ap (λ (g : Option groups.Group). let x : Parts = record { posts = posts; memory = slice_get s'.memories me; peer_posts = None; peer_memory = None; group = g } in x)
    (agree.parts (shards.Group id) (third-is-shard (shards.Posts me) (shards.Memory me) (shards.Group id)))

-- what was the same stays the same
same-after : (s s' : State) (me : ℕ) (footprint : Footprint) (parts : Parts) → AgreeOn (is_shard (footprint_shards me footprint)) s s' → (shard : Shard) → AgreeOnShard s s' shard
    → AgreeOnShard (with_parts s me (part_numbers me footprint) parts) (with_parts s' me (part_numbers me footprint) parts) shard
same-after s s' me Alone parts agree (shards.Posts k) here = set-agree s.posts s'.posts me k parts.posts (agree.parts (shards.Posts me) (owner-is-shard me Alone)) here
same-after s s' me Alone parts agree (shards.Memory k) here = here
same-after s s' me OwnMemory parts agree (shards.Posts k) here = set-agree s.posts s'.posts me k parts.posts (agree.parts (shards.Posts me) (owner-is-shard me OwnMemory)) here
same-after s s' me OwnMemory parts agree (shards.Memory k) here =
    part-agree s.memories s'.memories me k parts.memory (agree.parts (shards.Memory me) (second-is-shard (shards.Posts me) (shards.Memory me))) here
same-after s s' me (PeerMemory rank) parts agree (shards.Posts k) here = set-agree s.posts s'.posts me k parts.posts (agree.parts (shards.Posts me) (owner-is-shard me (PeerMemory rank))) here
same-after s s' me (PeerMemory rank) parts agree (shards.Memory k) here =
    part-agree s.memories s'.memories rank k parts.peer_memory (agree.parts (shards.Memory rank) (second-is-shard (shards.Posts me) (shards.Memory rank))) here
same-after s s' me (BothMemories rank) parts agree (shards.Posts k) here = set-agree s.posts s'.posts me k parts.posts (agree.parts (shards.Posts me) (owner-is-shard me (BothMemories rank))) here
same-after s s' me (BothMemories rank) parts agree (shards.Memory k) here =
    let mine = agree.parts (shards.Memory me) (first-is-shard (shards.Memory me) (shards.Memory rank ∷ [])) in
    let theirs = agree.parts (shards.Memory rank) (second-is-shard (shards.Memory me) (shards.Memory rank)) in
    part-agree (with_part s.memories (Some me) parts.memory) (with_part s'.memories (Some me) parts.memory) rank k parts.peer_memory
    (part-agree s.memories s'.memories me rank parts.memory mine theirs) (part-agree s.memories s'.memories me k parts.memory mine here)
same-after s s' me (PeerPosts rank) parts agree (shards.Posts k) here =
    let mine = agree.parts (shards.Posts me) (owner-is-shard me (PeerPosts rank)) in
    let theirs = agree.parts (shards.Posts rank) (second-is-shard (shards.Posts me) (shards.Posts rank)) in
    part-agree (slice_set s.posts me parts.posts) (slice_set s'.posts me parts.posts) rank k parts.peer_posts
    (set-agree s.posts s'.posts me rank parts.posts mine theirs) (set-agree s.posts s'.posts me k parts.posts mine here)
same-after s s' me (PeerPosts rank) parts agree (shards.Memory k) here = here
same-after s s' me (Group id) parts agree (shards.Posts k) here = set-agree s.posts s'.posts me k parts.posts (agree.parts (shards.Posts me) (owner-is-shard me (Group id))) here
same-after s s' me (Group id) parts agree (shards.Memory k) here = here
same-after s s' me (Group id) parts agree (shards.Group k) here =
    part-agree s.groups s'.groups id k parts.group (agree.parts (shards.Group id) (second-is-shard (shards.Posts me) (shards.Group id))) here
same-after s s' me (GroupAndMemory id) parts agree (shards.Posts k) here = set-agree s.posts s'.posts me k parts.posts (agree.parts (shards.Posts me) (owner-is-shard me (GroupAndMemory id))) here
same-after s s' me (GroupAndMemory id) parts agree (shards.Memory k) here =
    part-agree s.memories s'.memories me k parts.memory (agree.parts (shards.Memory me) (middle-is-shard (shards.Posts me) (shards.Memory me) (shards.Group id))) here
same-after s s' me (GroupAndMemory id) parts agree (shards.Group k) here =
    part-agree s.groups s'.groups id k parts.group (agree.parts (shards.Group id) (third-is-shard (shards.Posts me) (shards.Memory me) (shards.Group id))) here
same-after s s' me Alone parts agree (shards.Group k) here = here
same-after s s' me OwnMemory parts agree (shards.Group k) here = here
same-after s s' me (PeerMemory rank) parts agree (shards.Group k) here = here
same-after s s' me (BothMemories rank) parts agree (shards.Group k) here = here
same-after s s' me (PeerPosts rank) parts agree (shards.Group k) here = here

pub lifted-determined : (s s' : State) (me : ℕ) (missing : Why) (footprint : Posts → Footprint) (local : Parts → Result Parts Why) → s.limits ≡ s'.limits
    → slice_get s.posts me ≡ slice_get s'.posts me
    → ((posts : Posts) → slice_get s.posts me ≡ Some posts → AgreeOn (is_shard (footprint_shards me (footprint posts))) s s')
    → HaveSameResult s s' (lifted s me missing (λ x. part_numbers me (footprint x)) local) (lifted s' me missing (λ x. part_numbers me (footprint x)) local)
lifted-determined s s' me missing footprint local limits same agree = with-posts (slice_get s.posts me) refl
  where
    with-result : (posts : Posts) → slice_get s.posts me ≡ Some posts → (r : Result Parts Why) → local (parts_of s posts (part_numbers me (footprint posts))) ≡ r
        → HaveSameResult s s' (lifted s me missing (λ x. part_numbers me (footprint x)) local) (lifted s' me missing (λ x. part_numbers me (footprint x)) local)
    with-result posts at (Ok parts) is =
        let is' : local (parts_of s' posts (part_numbers me (footprint posts))) ≡ Ok parts = ap local (sym (same-parts s s' me (footprint posts) posts (agree posts at))) ∙ is in
        rw (at, sym same ∙ at, is, is') (limits, same-after s s' me (footprint posts) parts (agree posts at))
    with-result posts at (Err why) is =
        let is' : local (parts_of s' posts (part_numbers me (footprint posts))) ≡ Err why = ap local (sym (same-parts s s' me (footprint posts) posts (agree posts at))) ∙ is in
        rw (at, sym same ∙ at, is, is') refl

    with-posts : (o : Option Posts) → slice_get s.posts me ≡ o → HaveSameResult s s' (lifted s me missing (λ x. part_numbers me (footprint x)) local) (lifted s' me missing (λ x. part_numbers me (footprint x)) local)
    with-posts None at = rw (at, sym same ∙ at) refl
    with-posts (Some posts) at = with-result posts at (local (parts_of s posts (part_numbers me (footprint posts)))) refl
