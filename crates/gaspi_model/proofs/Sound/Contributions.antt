-- What ranks have given to groups stays sound.
use Rattle.std.proofs.Common.{◌≡◌, ℕ, zero, suc, ◌<◌, ◌≤◌, true, List, [], ◌∷◌, length, Option, None, Some, refl, sym, ap, ◌∙◌, subst, arith, ◌⊎◌, inl, inr}
use Rattle.std.specs.List.{slice_get, slice_set}
use Rattle.gaspi_types.specs.Collectives.{contributions_of, contribution_in}
use Rattle.gaspi_types.specs.Groups.{handle_at}
use Rattle.gaspi_types.specs.Masks.{is_member}
use Rattle.gaspi_types.specs.SegmentTables.{extent_in, next_generation}
use Rattle.gaspi_types.specs.Tables.{item_at, changed_at}
use Rattle.gaspi_types.specs.declared.collectives.Coll.TheVariants.{Create, Commit}
use Rattle.gaspi_types.specs.declared.collectives.Stage.TheVariants.{Building, Committed}
use Rattle.gaspi_types.specs.declared.calls.Call.{Call}
use Rattle.gaspi_types.specs.declared.calls.Call.TheVariants as calls
use Rattle.gaspi_types.specs.declared.groups.Args.{Args}
use Rattle.gaspi_types.specs.declared.groups.Contribution.{Contribution}
use Rattle.gaspi_types.specs.declared.groups.Group.{Group}
use Rattle.gaspi_types.specs.declared.groups.Handle.{Handle}
use Rattle.gaspi_types.specs.declared.groups.Handles.{Handles}
use Rattle.gaspi_types.specs.declared.groups.RankContributions.{RankContributions}
use Rattle.gaspi_types.specs.declared.groups.PendingCollective.{PendingCollective}
use Rattle.gaspi_types.specs.declared.segments.Extent.{Extent}
use Rattle.gaspi_model.specs.Coherence.{Tables, WasMade, tables_of}
use Rattle.gaspi_model.specs.CollectiveCalls.{staged_at, joining_call}
use Rattle.gaspi_model.specs.Contributions.{AreSoundContributions, HasBegun, IsResumable, IsSoundGroup, WasMadeSo, AreSoundCollectives}
use Rattle.gaspi_model.specs.declared.states.Posts.{Posts}
use Rattle.gaspi_model.specs.declared.states.State.{State}
use Rattle.gaspi_types.proofs.Items.{slice_get-set_same, slice_get-set_other, same-or-not, changed_at-found}
use Rattle.gaspi_model.proofs.Sound.Successors.{Succeeds}

-- a segment that was made so was made so in tables that come after
pub made-so-stays : (old new : Tables) (seg generation size : ℕ) → Succeeds old new → WasMadeSo old seg generation size → WasMadeSo new seg generation size
made-so-stays old new seg generation size h was =
    ((let more = h.next seg in let made = was.0 in omega arith), λ x there same. go x same (h.own seg x there))
  where
    go : (x : Extent) → x.generation ≡ generation → (extent_in old.own seg ≡ Some x) ⊎ ((next_generation old.next seg ≤ x.generation) × WasMade new seg x.generation) → x.size ≡ size
    go x same (inl there) = was.1 x there same
    go x same (inr later) = absurd (let made = was.0 in let above = later.0 in let no : ⊥ = omega arith in no)

-- What an event that is on no group keeps of the posts of a rank.
pub record StaysPosts (before after : Posts) : Type 0 where
  pub pending : after.pending ≡ before.pending
  pub events : before.events ≤ after.events
  pub made : before.groups.last_id ≤ after.groups.last_id
  pub building : (id : ℕ) (h : Handle) → handle_at after.groups id ≡ Some h → h.stage ≡ Building
      → ((k : Handle) × (handle_at before.groups id ≡ Some k) × (k.stage ≡ Building)) ⊎ (before.groups.last_id < id)
  pub committed : (id : ℕ) (h : Handle) → handle_at after.groups id ≡ Some h → h.stage ≡ Committed → handle_at before.groups id ≡ Some h
  pub held : (id : ℕ) (h : Handle) (p : PendingCollective) → item_at before.pending id ≡ Some p → id ≤ before.groups.last_id → handle_at before.groups id ≡ Some h → handle_at after.groups id ≡ Some h
  pub succeeds : Succeeds (tables_of before) (tables_of after)

pub staged-same : (a b : Handles) (me id : ℕ) (call : Call) → handle_at a id ≡ handle_at b id → staged_at a me id call ≡ staged_at b me id call
staged-same a b me id (calls.Commit x) same = rw same refl
staged-same a b me id call same = rw same refl

pub resumable-stays : (a b : Handles) (me id : ℕ) (args : Args) → a.last_id ≤ b.last_id → IsResumable a me id args → ((h : Handle) → handle_at a id ≡ Some h → handle_at b id ≡ Some h) → IsResumable b me id args
resumable-stays a b me id args more may kept =
    let now = kept may.handle may.there in
    record {
      handle = may.handle;
      there = now;
      made = (let made = may.made in omega arith);
      elements = may.elements;
      staged = staged-same b a me id (joining_call id args) (now ∙ sym may.there) ∙ may.staged;
      own = may.own;
    }

more-events : (e f : ℕ) (p : Option PendingCollective) (part : RankContributions) → e ≤ f → AreSoundContributions e p part → AreSoundContributions f p part
more-events e f p part less sound = record { count = sound.count; last = sound.last; few = (let few = sound.few in omega arith) }

begun-stays : (before after : Posts) (id completed : ℕ) → StaysPosts before after → HasBegun before id completed → HasBegun after id completed
begun-stays before after id completed stays begun = record {
  unmade = λ above. begun.unmade (let made = stays.made in omega arith);
  building = λ h at stage. from (stays.building id h at stage);
  committed = λ h at stage other. begun.committed h (stays.committed id h at stage) stage other;
}
  where
    from : ((k : Handle) × (handle_at before.groups id ≡ Some k) × (k.stage ≡ Building)) ⊎ (before.groups.last_id < id) → completed ≡ 0
    from (inl was) = begun.building was.0 was.1 was.2
    from (inr new) = begun.unmade new

pub collectives-stay : (s t : State) → AreSoundCollectives s → t.limits ≡ s.limits → t.groups ≡ s.groups
    → ((rank : ℕ) (after : Posts) → slice_get t.posts rank ≡ Some after → (before : Posts) × (slice_get s.posts rank ≡ Some before) × StaysPosts before after) → AreSoundCollectives t
collectives-stay s t sound limits same from = record {
  eight = ap length same ∙ sound.eight;
  groups = λ id g at. rw limits (sound.groups id g (there id g at));
  parts = λ id g rank posts at hp.
      let b = from rank posts hp in
      subst (λ (p : List (Option PendingCollective)). AreSoundContributions posts.events (item_at p id) (contributions_of g rank)) (sym b.2.pending)
      (more-events b.0.events posts.events (item_at b.0.pending id) (contributions_of g rank) b.2.events (sound.parts id g rank b.0 (there id g at) b.1));
  begun = λ id g rank posts at hp. let b = from rank posts hp in begun-stays b.0 posts id (contributions_of g rank).completed b.2 (sound.begun id g rank b.0 (there id g at) b.1);
  resumable = λ id rank posts p hp pends.
      let b = from rank posts hp in
      let was : item_at b.0.pending id ≡ Some p = ap (λ (ps : List (Option PendingCollective)). item_at ps id) (sym b.2.pending) ∙ pends in
      let may = sound.resumable id rank b.0 p b.1 was in
      resumable-stays b.0.groups posts.groups rank id p.args b.2.made may (λ h there. b.2.held id h p was may.made there);
  first = λ id g rank c at other given. sound.first id g rank c (there id g at) other given;
  committed = λ id g rank posts h at hp hh stage. let b = from rank posts hp in sound.committed id g rank b.0 h (there id g at) b.1 (b.2.committed id h hh stage) stage;
  made = λ id g rank posts at hp round c seg size given coll.
      let b = from rank posts hp in
      made-so-stays (tables_of b.0) (tables_of posts) seg c.generation size b.2.succeeds (sound.made id g rank b.0 (there id g at) b.1 round c seg size given coll);
}
  where
    there : (id : ℕ) (g : Group) → slice_get t.groups id ≡ Some g → slice_get s.groups id ≡ Some g
    there id g at = ap (λ (all : List Group). slice_get all id) (sym same) ∙ at

-- An event on a group: of its owner's posts and of that group, what it leaves of them.
pub record Meets (s t : State) (me id : ℕ) (posts after : Posts) (g g' : Group) : Type 0 where
  pub limits : t.limits ≡ s.limits
  pub there : slice_get s.posts me ≡ Some posts
  pub group_there : slice_get s.groups id ≡ Some g
  pub posts_is : t.posts ≡ slice_set s.posts me after
  pub groups_is : t.groups ≡ slice_set s.groups id g'
  pub others : (k : ℕ) → (id ≡ k → ⊥) → item_at after.pending k ≡ item_at posts.pending k
  pub events : posts.events ≤ after.events
  pub made_groups : after.groups.last_id ≡ posts.groups.last_id
  pub handles : (k : ℕ) → (id ≡ k → ⊥) → handle_at after.groups k ≡ handle_at posts.groups k
  pub succeeds : Succeeds (tables_of posts) (tables_of after)
  pub parts : (rank : ℕ) → (me ≡ rank → ⊥) → contributions_of g' rank ≡ contributions_of g rank
  pub fixed : (mask : ℕ) → g.members ≡ Some mask → g'.members ≡ Some mask
  pub mine : AreSoundContributions after.events (item_at after.pending id) (contributions_of g' me)
  pub begun : HasBegun after id (contributions_of g' me).completed
  pub resumable : (p : PendingCollective) → item_at after.pending id ≡ Some p → IsResumable after.groups me id p.args
  pub group : IsSoundGroup s.limits.ranks g'
  pub first : (rank : ℕ) (c : Contribution) → (id ≡ 0 → ⊥) → contribution_in g' 0 rank ≡ Some c → (mask : ℕ) × (c.args.coll ≡ Commit mask)
  pub committed : (h : Handle) → handle_at after.groups id ≡ Some h → h.stage ≡ Committed → (g'.members ≡ Some h.members) × (is_member h.members me ≡ true)
  pub made : (round : ℕ) (c : Contribution) (seg size : ℕ) → contribution_in g' round me ≡ Some c → c.args.coll ≡ Create seg size → WasMadeSo (tables_of after) seg c.generation size

-- an item of a table of which one was set
pub at-set : {A P : Type 0} (table : List A) (place : ℕ) (old new : A) (k : ℕ) (x : A) → slice_get table place ≡ Some old → slice_get (slice_set table place new) k ≡ Some x
    → (place ≡ k → x ≡ new → P) → ((place ≡ k → ⊥) → slice_get table k ≡ Some x → P) → P
at-set {A} table place old new k x there at here other = same-or-not place k
    (λ same.
    here same (let now = subst (λ (n : ℕ). slice_get (slice_set table place new) n ≡ Some new) same (slice_get-set_same table place old new there) in
    let some : ◌≡◌ {A = Option A} (Some x) (Some new) = sym at ∙ now in cc))
    (λ apart. other apart (sym (slice_get-set_other table place k new apart) ∙ at))

pub collectives-meet : (s t : State) (me id : ℕ) (posts after : Posts) (g g' : Group) → AreSoundCollectives s → Meets s t me id posts after g g' → AreSoundCollectives t
collectives-meet s t me id posts after g g' sound m = record {
  eight = ap length m.groups_is ∙ length-kept s.groups id g' ∙ sound.eight;
  groups = λ k x at. of-group k x at {P = IsSoundGroup t.limits.ranks x} (λ same is. rw (is, m.limits) m.group) (λ apart was. rw m.limits (sound.groups k x was));
  parts = λ k x rank p at hp.
      of-both k x rank p at hp {P = AreSoundContributions p.events (item_at p.pending k) (contributions_of x rank)}
      (λ same mine is is_p. subst (λ (n : ℕ). AreSoundContributions p.events (item_at p.pending n) (contributions_of x rank)) same (subst (λ (r : ℕ). AreSoundContributions p.events (item_at p.pending id) (contributions_of x r)) mine (rw (is, is_p) m.mine)))
      (λ same apart is was_p.
      subst (λ (n : ℕ). AreSoundContributions p.events (item_at p.pending n) (contributions_of x rank)) same
      (rw (is, m.parts rank apart) (sound.parts id g rank p m.group_there was_p)))
      (λ apart mine was is_p.
      subst (λ (r : ℕ). AreSoundContributions p.events (item_at p.pending k) (contributions_of x r)) mine
      (rw (is_p, m.others k apart) (more-events posts.events after.events (item_at posts.pending k) (contributions_of x me) m.events (sound.parts k x me posts was m.there))))
      (λ was was_p. sound.parts k x rank p was was_p);
  begun = λ k x rank p at hp.
      of-both k x rank p at hp {P = HasBegun p k (contributions_of x rank).completed}
      (λ same mine is is_p. subst (λ (n : ℕ). HasBegun p n (contributions_of x rank).completed) same (subst (λ (r : ℕ). HasBegun p id (contributions_of x r).completed) mine (rw (is, is_p) m.begun)))
      (λ same apart is was_p. subst (λ (n : ℕ). HasBegun p n (contributions_of x rank).completed) same (rw (is, m.parts rank apart) (sound.begun id g rank p m.group_there was_p)))
      (λ apart mine was is_p.
      subst (λ (r : ℕ). HasBegun p k (contributions_of x r).completed) mine
      (rw is_p (begun-other k (contributions_of x me).completed apart (sound.begun k x me posts was m.there))))
      (λ was was_p. sound.begun k x rank p was was_p);
  resumable = λ k rank p q hp pends.
      of-posts rank p hp {P = IsResumable p.groups rank k q.args}
      (λ mine is_p.
      same-or-not id k
      (λ same.
      let here : item_at after.pending id ≡ Some q = subst (λ (n : ℕ). item_at after.pending n ≡ Some q) (sym same) (rw (sym is_p) pends) in
      subst (λ (n : ℕ). IsResumable p.groups rank n q.args) same (subst (λ (r : ℕ). IsResumable p.groups r id q.args) mine (rw is_p (m.resumable q here))))
      (λ apart.
      let was : item_at posts.pending k ≡ Some q = sym (m.others k apart) ∙ rw (sym is_p) pends in
      let may = sound.resumable k me posts q m.there was in
      subst (λ (r : ℕ). IsResumable p.groups r k q.args) mine
      (rw is_p (resumable-stays posts.groups after.groups me k q.args (let same = m.made_groups in omega arith) may (λ h there. m.handles k apart ∙ there)))))
      (λ apart was_p. sound.resumable k rank p q was_p pends);
  first = λ k x rank c at other given.
      of-group k x at {P = (mask : ℕ) × (c.args.coll ≡ Commit mask)}
      (λ same is. m.first rank c (λ zero_is. other (sym same ∙ zero_is)) (rw (sym is) given))
      (λ apart was. sound.first k x rank c was other given);
  committed = λ k x rank p h at hp hh stage.
      of-both k x rank p at hp {P = (x.members ≡ Some h.members) × (is_member h.members rank ≡ true)}
      (λ same mine is is_p.
      let own = m.committed h (subst (λ (n : ℕ). handle_at after.groups n ≡ Some h) (sym same) (rw (sym is_p) hh)) stage in
      (rw is own.0, subst (λ (r : ℕ). is_member h.members r ≡ true) mine own.1))
      (λ same apart is was_p.
      let was = sound.committed id g rank p h m.group_there was_p (subst (λ (n : ℕ). handle_at p.groups n ≡ Some h) (sym same) hh) stage in
      (rw is (m.fixed h.members was.0), was.1))
      (λ apart mine was is_p.
      let old : handle_at posts.groups k ≡ Some h = sym (m.handles k apart) ∙ rw (sym is_p) hh in
      let kept = sound.committed k x me posts h was m.there old stage in
      (kept.0, subst (λ (r : ℕ). is_member h.members r ≡ true) mine kept.1))
      (λ was was_p. sound.committed k x rank p h was was_p hh stage);
  made = λ k x rank p at hp round c seg size given coll.
      of-both k x rank p at hp {P = WasMadeSo (tables_of p) seg c.generation size}
      (λ same mine is is_p. rw is_p (m.made round c seg size (subst (λ (r : ℕ). contribution_in g' round r ≡ Some c) (sym mine) (rw (sym is) given)) coll))
      (λ same apart is was_p.
      sound.made id g rank p m.group_there was_p round c seg size (ap (λ (part : RankContributions). slice_get part.contributions round) (sym (m.parts rank apart)) ∙ rw (sym is) given) coll)
      (λ apart mine was is_p.
      rw is_p (made-so-stays (tables_of posts) (tables_of after) seg c.generation size m.succeeds
      (sound.made k x me posts was m.there round c seg size (subst (λ (r : ℕ). contribution_in x round r ≡ Some c) (sym mine) given) coll)))
      (λ was was_p. sound.made k x rank p was was_p round c seg size given coll);
}
  where
    length-kept : (all : List Group) (place : ℕ) (x : Group) → length (slice_set all place x) ≡ length all
    length-kept [] place x = refl
    length-kept (y ∷ all) zero x = refl
    length-kept (y ∷ all) (suc place) x = ap (λ (n : ℕ). suc n) (length-kept all place x)

    of-group : (k : ℕ) (x : Group) → slice_get t.groups k ≡ Some x → {P : Type 0} → (id ≡ k → x ≡ g' → P) → ((id ≡ k → ⊥) → slice_get s.groups k ≡ Some x → P) → P
    of-group k x at {P} here other = at-set s.groups id g g' k x m.group_there (ap (λ (all : List Group). slice_get all k) (sym m.groups_is) ∙ at) here other

    of-posts : (r : ℕ) (p : Posts) → slice_get t.posts r ≡ Some p → {P : Type 0} → (me ≡ r → p ≡ after → P) → ((me ≡ r → ⊥) → slice_get s.posts r ≡ Some p → P) → P
    of-posts r p at {P} here other = at-set s.posts me posts after r p m.there (ap (λ (all : List Posts). slice_get all r) (sym m.posts_is) ∙ at) here other

    of-both : (k : ℕ) (x : Group) (r : ℕ) (p : Posts) → slice_get t.groups k ≡ Some x → slice_get t.posts r ≡ Some p → {P : Type 0} → (id ≡ k → me ≡ r → x ≡ g' → p ≡ after → P)
        → (id ≡ k → (me ≡ r → ⊥) → x ≡ g' → slice_get s.posts r ≡ Some p → P) → ((id ≡ k → ⊥) → me ≡ r → slice_get s.groups k ≡ Some x → p ≡ after → P)
        → (slice_get s.groups k ≡ Some x → slice_get s.posts r ≡ Some p → P) → P
    of-both k x r p at hp {P} both_here group_here posts_here none =
        of-group k x at {P = P}
        (λ same is. of-posts r p hp {P = P} (λ mine is_p. both_here same mine is is_p) (λ apart was_p. group_here same apart is was_p))
        (λ apart was. of-posts r p hp {P = P} (λ mine is_p. posts_here apart mine was is_p) (λ other was_p. none was was_p))

    begun-other : (k completed : ℕ) → (id ≡ k → ⊥) → HasBegun posts k completed → HasBegun after k completed
    begun-other k completed apart begun = record {
      unmade = λ above. begun.unmade (let same = m.made_groups in omega arith);
      building = λ h at stage. begun.building h (sym (m.handles k apart) ∙ at) stage;
      committed = λ h at stage other. begun.committed h (sym (m.handles k apart) ∙ at) stage other;
    }

-- The part of a rank after a join and after a completion, and those of the others.
pub contributions-changed : (g : Group) (me : ℕ) (part : RankContributions) (change : RankContributions → RankContributions) (members : Option ℕ) → slice_get g.contributions me ≡ Some part
    → contributions_of (record { members = members; contributions = changed_at g.contributions me change }) me ≡ change part
contributions-changed g me part change members at =
    let set = changed_at-found g.contributions me part change at in
    let now : slice_get (changed_at g.contributions me change) me ≡ Some (change part) = ap (λ (all : List RankContributions). slice_get all me) set ∙ slice_get-set_same g.contributions me part (change part) at in
    rw now refl

pub contributions-there : (g : Group) (me : ℕ) (part : RankContributions) → slice_get g.contributions me ≡ Some part → contributions_of g me ≡ part
contributions-there g me part at = rw at refl

pub contributions-other : (g : Group) (me rank : ℕ) (change : RankContributions → RankContributions) (members : Option ℕ) → (me ≡ rank → ⊥) → contributions_of (record { members = members; contributions = changed_at g.contributions me change }) rank ≡ contributions_of g rank
contributions-other g me rank change members apart = go (slice_get g.contributions me) refl
  where
    other : slice_get (changed_at g.contributions me change) rank ≡ slice_get g.contributions rank
    other = by-place (slice_get g.contributions me) refl
      where
        by-place : (o : Option RankContributions) → slice_get g.contributions me ≡ o → slice_get (changed_at g.contributions me change) rank ≡ slice_get g.contributions rank
        by-place None at = rw at refl
        by-place (Some x) at = rw at (slice_get-set_other g.contributions me rank (change x) apart)

    go : (o : Option RankContributions) → slice_get g.contributions me ≡ o → contributions_of (record { members = members; contributions = changed_at g.contributions me change }) rank ≡ contributions_of g rank
    go o at = by-rank (slice_get g.contributions rank) refl
      where
        by-rank : (q : Option RankContributions) → slice_get g.contributions rank ≡ q → contributions_of (record { members = members; contributions = changed_at g.contributions me change }) rank ≡ contributions_of g rank
        by-rank None there = let new = other ∙ there in rw (new, there) refl
        by-rank (Some x) there = let new = other ∙ there in rw (new, there) refl
