-- A join keeps a state sound.
use Rattle.std.proofs.Common.{◌≡◌, ℕ, ◌+◌, ◌<◌, ◌≤◌, Bool, true, false, ◌==◌, ◌&&◌, if◌then◌else◌, nat_lt, List, [], ◌∷◌, ◌++◌, length, Option, None, Some, Ok, refl, sym, ap, ◌∙◌, subst, arith, ◌⊎◌, inl, inr}
use Rattle.std.specs.List.{slice_get, slice_set}
use Rattle.std.proofs.lemmas.Bool.{ltb-true, eqb-true}
use Rattle.gaspi_types.specs.Collectives.{no_values, AreValuesOf, HaveOwnValues, contributions_of, contribution_in, round_of, round_checks, fixed_by, with_joined}
use Rattle.gaspi_types.specs.Groups.{handle_at, handle_of_all, fix_checks}
use Rattle.gaspi_types.specs.SegmentTables.{extent_in, alloc_checks, next_generation}
use Rattle.gaspi_types.specs.NumberTypes.{TypedNumbers}
use Rattle.gaspi_types.specs.Tables.{item_at}
use Rattle.gaspi_types.specs.declared.calls.Call.TheVariants as calls
use Rattle.gaspi_types.specs.declared.collectives.Coll.{Coll}
use Rattle.gaspi_types.specs.declared.collectives.Coll.TheVariants as colls
use Rattle.gaspi_types.specs.declared.collectives.Stage.TheVariants.{Committed}
use Rattle.gaspi_types.specs.declared.groups.Args.{Args}
use Rattle.gaspi_types.specs.declared.groups.Contribution.{Contribution}
use Rattle.gaspi_types.specs.declared.groups.Group.{Group}
use Rattle.gaspi_types.specs.declared.groups.Handle.{Handle}
use Rattle.gaspi_types.specs.declared.groups.Handles.{Handles}
use Rattle.gaspi_types.specs.declared.groups.RankContributions.{RankContributions}
use Rattle.gaspi_types.specs.declared.groups.PendingCollective.{PendingCollective}
use Rattle.gaspi_types.specs.declared.replies.Refusal.TheVariants.{GroupMismatch}
use Rattle.gaspi_types.specs.declared.segments.Extent.{Extent}
use Rattle.gaspi_model.specs.Coherence.{tables_of}
use Rattle.gaspi_model.specs.CollectiveCalls.{staged_at, plain_args, args_of, segment_checks, agreement_checks, joining_call, made_posts, contribution_of, made_generation, joined_posts}
use Rattle.gaspi_model.specs.Contributions.{IsOneOf, AreSoundContributions, HasBegun, IsResumable, IsSoundGroup, WasMadeSo}
use Rattle.gaspi_model.specs.Posting.{counted}
use Rattle.gaspi_model.specs.SegmentCalls.{with_own}
use Rattle.gaspi_model.specs.Sound.{IsSound}
use Rattle.gaspi_model.specs.declared.states.Posts.{Posts}
use Rattle.gaspi_model.specs.declared.states.State.{State}
use Rattle.gaspi_types.proofs.Chains.{check_then, check_holds, absent_then}
use Rattle.gaspi_types.proofs.Extents.{extent-set, generation-set}
use Rattle.gaspi_model.proofs.CollectiveFinds.{MayJoin}
use Rattle.gaspi_model.proofs.CollectivePosts.{KeepsRank}
use Rattle.gaspi_model.proofs.Sound.Completions.{IsBuilt, built-there, committed-there, staged-there, stage-apart, IsThere}
use Rattle.gaspi_model.proofs.Sound.Contributions.{Meets, made-so-stays, contributions-changed, contributions-there, contributions-other}
use Rattle.gaspi_model.proofs.Sound.GroupPosts.{joined-groups}
use Rattle.gaspi_model.proofs.Sound.GroupTables.{entry-set_other, entry-set_same, made-there}
use Rattle.gaspi_model.proofs.Sound.Successors.{Succeeds, succeeds-itself, alloc-succeeds}
use Rattle.gaspi_model.proofs.Sound.Rounds.{Brings, round-fits, giver-ranked, contributed-joined, joined-group, joined-contributions, fixed-stays}

-- the segment of a collective that makes one is free
pub record IsFree (posts : Posts) (seg : ℕ) : Type 0 where
  pub numbered : nat_lt seg 32 ≡ true
  pub free : extent_in posts.segments.own seg ≡ None

alloc-free : (posts : Posts) (seg size : ℕ) (u : Unit {0}) → alloc_checks posts.segments.own seg size ≡ Ok u → IsFree posts seg
alloc-free posts seg size u is =
    check_then (nat_lt seg 32) _ _ u is (λ numbered h1.
    absent_then (extent_in posts.segments.own seg) _ _ u h1 (λ free h2. record { numbered = numbered; free = free }))

pub create-free : (posts : Posts) (id seg size : ℕ) → segment_checks posts (calls.Create (record { seg = seg; size = size; group = id })) ≡ Ok tt → IsFree posts seg
create-free posts id seg size is = alloc-free posts seg size tt is

-- The tables after a join.
pub joined-succeeds : (posts : Posts) (id : ℕ) (coll : Coll) (values : TypedNumbers) → length posts.segments.next_generations ≡ 32
    → segment_checks posts (joining_call id (record { coll = coll; values = values })) ≡ Ok tt → Succeeds (tables_of posts) (tables_of (made_posts posts coll))
joined-succeeds posts id colls.Barrier values many free = succeeds-itself (tables_of posts)
joined-succeeds posts id (colls.Allreduce op t n) values many free = succeeds-itself (tables_of posts)
joined-succeeds posts id (colls.Commit mask) values many free = succeeds-itself (tables_of posts)
joined-succeeds posts id (colls.Create seg size) values many free =
    let is = create-free posts id seg size free in
    alloc-succeeds posts.segments.own posts.segments.next_generations seg size is.free (let less = ltb-true seg 32 is.numbered in omega arith)

-- a segment that a join makes was made so
pub joined-made : (posts : Posts) (seg size : ℕ) → length posts.segments.next_generations ≡ 32 → IsFree posts seg → WasMadeSo (tables_of (with_own posts seg size)) seg (next_generation posts.segments.next_generations seg) size
joined-made posts seg size many free =
    let generation = next_generation posts.segments.next_generations seg in
    let set = generation-set posts.segments.next_generations seg (generation + 1) (let less = ltb-true seg 32 free.numbered in omega arith) in
    ((omega (arith, set)), λ x there same. size-is x (extent-set posts.segments.own seg (Some (record { generation = generation; size = size })) seg x there))
  where
    size-is : (x : Extent) → ((seg ≡ seg) × (◌≡◌ {A = Option Extent} (Some (record { generation = next_generation posts.segments.next_generations seg; size = size })) (Some x))) ⊎ (extent_in posts.segments.own seg ≡ Some x) → x.size ≡ size
    size-is x (inl new) = (let same : ◌≡◌ {A = Extent} (record { generation = next_generation posts.segments.next_generations seg; size = size }) x = (let some = new.1 in cc) in ap (λ (e : Extent). e.size) (sym same))
    size-is x (inr was) = absurd (let never : ◌≡◌ {A = Option Extent} None (Some x) = sym free.free ∙ was in let no : ⊥ = cc in no)

-- What a join brings.

fixed-commit : (members : Option ℕ) (mask : ℕ) → fix_checks members mask ≡ Ok tt → fixed_by members (colls.Commit mask) ≡ Some mask
fixed-commit None mask is = refl
fixed-commit (Some kept) mask is = ap (λ (n : ℕ). Some n) (eqb-true kept mask (check_holds (kept == mask) (GroupMismatch kept) tt is))

-- where members are fixed already, only a commit's list could matter
abbrev pub is_commit : Coll → Bool
is_commit colls.Barrier = false
is_commit (colls.Allreduce op t n) = false
is_commit (colls.Create seg size) = false
is_commit (colls.Commit mask) = true

-- a call that joins with arguments has them
commit-mask : (members id mask : ℕ) (values : TypedNumbers) (args : Args) → args_of members (joining_call id (record { coll = colls.Commit mask; values = values })) ≡ Some args → args.coll ≡ colls.Commit members
commit-mask members id mask values args is = (let same : plain_args (colls.Commit members) ≡ args = cc in ap (λ (a : Args). a.coll) (sym same))

pub join-whole : (members id : ℕ) (args : Args) → args_of members (joining_call id args) ≡ Some args → HaveOwnValues args
join-whole members id args is = go args.coll args.values is
  where
    values-of : (coll other : Coll) (values : TypedNumbers) → plain_args other ≡ record { coll = coll; values = values } → values ≡ no_values
    values-of coll other values same = sym (ap (λ (a : Args). a.values) same)

    go : (coll : Coll) (values : TypedNumbers) → args_of members (joining_call id (record { coll = coll; values = values })) ≡ Some (record { coll = coll; values = values }) → AreValuesOf coll values
    go colls.Barrier values is = values-of colls.Barrier colls.Barrier values (cc)
    go (colls.Allreduce op num_type count) values is =
        let same : ◌≡◌ {A = Args} (record { coll = colls.Allreduce op values.num_type (length values.items); values = values }) (record { coll = colls.Allreduce op num_type count; values = values }) = cc in
        let coll : ◌≡◌ {A = Coll} (colls.Allreduce op values.num_type (length values.items)) (colls.Allreduce op num_type count) = ap (λ (a : Args). a.coll) same in
        ((let first : values.num_type ≡ num_type = cc in first), (let second : length values.items ≡ count = cc in second))
    go (colls.Create seg size) values is = by-size (nat_lt seg 4294967296 && nat_lt size 4294967296) is
      where
        by-size : (b : Bool) → (if b then Some (plain_args (colls.Create seg size)) else None) ≡ Some (record { coll = colls.Create seg size; values = values }) → values ≡ no_values
        by-size false found = absurd (let no : ⊥ = cc in no)
        by-size true found = values-of (colls.Create seg size) (colls.Create seg size) values (cc)
    go (colls.Commit mask) values is = values-of (colls.Commit mask) (colls.Commit members) values (cc)

-- Which group a collective may join.
pub record JoinsBuilt (posts : Posts) (g : Group) (me id : ℕ) (h : Handle) : Type 0 where
  pub built : IsBuilt posts.groups me id h
  pub fixes : fix_checks g.members h.members ≡ Ok tt

pub record JoinsCommitted (posts : Posts) (g : Group) (me id : ℕ) (coll : Coll) (h : Handle) : Type 0 where
  pub there : handle_at posts.groups id ≡ Some h
  pub committed : h.stage ≡ Committed
  pub fits : round_checks g me coll ≡ Ok tt

pub join-cases : {P : Type 0} (posts : Posts) (g : Group) (me thread id : ℕ) (args : Args) (h : Handle) → MayJoin posts g me thread id (joining_call id args) args h
    → (args.coll ≡ colls.Commit h.members → JoinsBuilt posts g me id h → P) → (is_commit args.coll ≡ false → JoinsCommitted posts g me id args.coll h → P) → P
join-cases {P} posts g me thread id args h may first other = go args.coll refl may.staged may.args_is may.meets
  where
    plain : (coll : Coll) → args.coll ≡ coll → is_commit coll ≡ false → (handle_at posts.groups id ≡ Some h) × (h.stage ≡ Committed) → round_checks g me coll ≡ Ok tt → P
    plain coll is other_kind there fits =
        other (subst (λ (c : Coll). is_commit c ≡ false) (sym is) other_kind) (subst (λ (c : Coll). JoinsCommitted posts g me id c h) (sym is) (record { there = there.0; committed = there.1; fits = fits }))

    go : (coll : Coll) → args.coll ≡ coll → staged_at posts.groups me id (joining_call id (record { coll = coll; values = args.values })) ≡ Ok h
        → args_of h.members (joining_call id (record { coll = coll; values = args.values })) ≡ Some args → agreement_checks g me args.coll ≡ Ok tt → P
    go (colls.Commit mask) is staged args_is meets =
        let coll = commit-mask h.members id mask args.values args args_is in
        first coll (record { built = built-there posts.groups me id h staged; fixes = subst (λ (c : Coll). agreement_checks g me c ≡ Ok tt) coll meets })
    go colls.Barrier is staged args_is meets = plain colls.Barrier is refl (committed-there posts.groups id h staged) (subst (λ (c : Coll). agreement_checks g me c ≡ Ok tt) is meets)
    go (colls.Allreduce op t n) is staged args_is meets = plain (colls.Allreduce op t n) is refl (committed-there posts.groups id h staged) (subst (λ (c : Coll). agreement_checks g me c ≡ Ok tt) is meets)
    go (colls.Create seg size) is staged args_is meets = plain (colls.Create seg size) is refl (committed-there posts.groups id h staged) (subst (λ (c : Coll). agreement_checks g me c ≡ Ok tt) is meets)

-- what it brings fits the group
pub join-brings : (s : State) (posts : Posts) (g : Group) (part : RankContributions) (me thread id : ℕ) (args : Args) (h : Handle) → s.limits.ranks ≤ 16 → IsSound s → slice_get s.posts me ≡ Some posts → IsThere s me id g part
    → MayJoin posts g me thread id (joining_call id args) args h → AreSoundContributions posts.events None part → Brings g me part (contribution_of posts args)
join-brings s posts g part me thread id args h few sound hp there may mine = record {
  agrees = λ rank d given. agrees rank d given;
  whole = join-whole h.members id args may.args_is;
  member = join-cases {P = IsOneOf (fixed_by g.members args.coll) me} posts g me thread id args h may
      (λ coll built. record { mask = h.members; fixed = rw coll (fixed-commit g.members h.members built.fixes); member = built.built.member })
      (λ kind committed.
      let kept = sound.collectives.committed id g me posts h there.there hp committed.there committed.committed in
      record { mask = h.members; fixed = fixed-stays g.members args.coll h.members kept.0; member = kept.1 });
  commits = λ mask is. join-cases {P = fixed_by g.members args.coll ≡ Some mask} posts g me thread id args h may
      (λ coll built.
      let same : colls.Commit h.members ≡ colls.Commit mask = sym coll ∙ is in
      let masks : h.members ≡ mask = cc in
      rw coll (fixed-commit g.members h.members built.fixes ∙ ap (λ (n : ℕ). Some n) masks))
      (λ kind committed. absurd (let never : is_commit (colls.Commit mask) ≡ false = subst (λ (c : Coll). is_commit c ≡ false) is kind in let none : ⊥ = cc in none));
}
  where
    group : IsSoundGroup s.limits.ranks g
    group = sound.collectives.groups id g there.there

    round : round_of g me ≡ length part.contributions
    round = ap (λ (q : RankContributions). q.completed) (contributions-there g me part there.part_there) ∙ (let count = mine.count in omega arith)

    agrees : (rank : ℕ) (d : Contribution) → contribution_in g (length part.contributions) rank ≡ Some d → d.args.coll ≡ args.coll
    agrees rank d given = join-cases {P = d.args.coll ≡ args.coll} posts g me thread id args h may
        (λ coll built.
        let begun = sound.collectives.begun id g me posts there.there hp in
        let none : part.completed ≡ 0 = sym (ap (λ (q : RankContributions). q.completed) (contributions-there g me part there.part_there)) ∙ begun.building h built.built.there built.built.building in
        let zero_round : length part.contributions ≡ 0 = (let count = mine.count in omega arith) in
        let first_given : contribution_in g 0 rank ≡ Some d = subst (λ (k : ℕ). contribution_in g k rank ≡ Some d) zero_round given in
        let first = sound.collectives.first id g rank d there.there (not-all id h built.built) first_given in
        let theirs = group.commits 0 rank d first.0 first_given first.1 in
        let masks : first.0 ≡ h.members = same-mask g.members first.0 h.members theirs built.fixes in
        first.1 ∙ ap (λ (n : ℕ). colls.Commit n) masks ∙ sym coll)
        (λ kind committed.
        let at_round : contribution_in g (round_of g me) rank ≡ Some d = subst (λ (k : ℕ). contribution_in g k rank ≡ Some d) (sym round) given in
        round-fits s.limits.ranks g me rank args.coll d few (giver-ranked s.limits.ranks g (round_of g me) rank d group at_round) group committed.fits at_round)
      where
        not-all : (k : ℕ) (x : Handle) → IsBuilt posts.groups me k x → k ≡ 0 → ⊥
        not-all k x built is =
            let all = (sound.posts me posts hp).groups.all in
            let here : handle_at posts.groups 0 ≡ Some x = subst (λ (n : ℕ). handle_at posts.groups n ≡ Some x) is built.there in
            let stage : (handle_of_all s.limits.ranks).stage ≡ Committed = refl in
            (let some : ◌≡◌ {A = Option Handle} (Some (handle_of_all s.limits.ranks)) (Some x) = sym all ∙ here in
            let same : handle_of_all s.limits.ranks ≡ x = cc in
            stage-apart x (handle_of_all s.limits.ranks) (sym same) built.building stage)

        same-mask : (members : Option ℕ) (a b : ℕ) → members ≡ Some a → fix_checks members b ≡ Ok tt → a ≡ b
        same-mask None a b is fixes = absurd (let no : ⊥ = cc in no)
        same-mask (Some kept) a b is fixes = (let same : kept ≡ a = cc in sym same ∙ eqb-true kept b (check_holds (kept == b) (GroupMismatch kept) tt fixes))

-- The group and the posts that a join leaves.
pub join-meets : (s t : State) (posts : Posts) (g : Group) (part : RankContributions) (me thread id : ℕ) (args : Args) (h : Handle) → s.limits.ranks ≤ 16 → IsSound s → slice_get s.posts me ≡ Some posts → IsThere s me id g part
    → MayJoin posts g me thread id (joining_call id args) args h → t.limits ≡ s.limits → t.posts ≡ slice_set s.posts me (counted (joined_posts posts thread id args))
    → t.groups ≡ slice_set s.groups id (with_joined g me (contribution_of posts args)) → KeepsRank posts (counted (joined_posts posts thread id args))
    → Meets s t me id posts (counted (joined_posts posts thread id args)) g (with_joined g me (contribution_of posts args))
join-meets s t posts g part me thread id args h few sound hp there may limits posts_is groups_is keeps = record {
  limits = limits;
  there = hp;
  group_there = there.there;
  posts_is = posts_is;
  groups_is = groups_is;
  others = λ k apart. entry-set_other (made_posts posts args.coll).pending id k _ apart ∙ ap (λ (ps : List (Option PendingCollective)). item_at ps k) (same-pending args.coll);
  events = (let more = keeps.events in omega arith);
  made_groups = ap (λ (gs : Handles). gs.last_id) (joined-groups posts args.coll);
  handles = λ k apart. ap (λ (gs : Handles). handle_at gs k) (joined-groups posts args.coll);
  succeeds = succeeds;
  parts = λ rank apart. contributions-other g me rank _ (fixed_by g.members args.coll) apart;
  fixed = λ mask is. fixed-stays g.members args.coll mask is;
  mine = rw (entry-set_same (made_posts posts args.coll).pending id _ many, new_part) (joined-contributions posts.events (counted (joined_posts posts thread id args)).events thread (contribution_of posts args) part keeps.events mine);
  begun = rw new_part (begun-same (subst (λ (q : RankContributions). HasBegun posts id q.completed) (contributions-there g me part there.part_there) (sound.collectives.begun id g me posts there.there hp)));
  resumable = λ p pends.
      let some : ◌≡◌ {A = Option PendingCollective} (Some (record { thread = thread; args = args })) (Some p) = sym (entry-set_same (made_posts posts args.coll).pending id (Some (record { thread = thread; args = args })) many) ∙ pends in
      let same : args ≡ p.args = (let one : ◌≡◌ {A = PendingCollective} (record { thread = thread; args = args }) p = cc in ap (λ (q : PendingCollective). q.args) one) in
      let groups = (sound.posts me posts hp).groups in
      let at = staged-there posts.groups me id (joining_call id args) h may.staged in
      let now : IsResumable posts.groups me id args = record {
        handle = h;
        there = at;
        made = made-there s.limits.ranks posts.groups id h groups at;
        elements = may.elements;
        staged = may.staged;
        own = may.args_is;
      } in
      subst (λ (a : Args). IsResumable (made_posts posts args.coll).groups me id a) same (subst (λ (gs : Handles). IsResumable gs me id args) (sym (joined-groups posts args.coll)) now);
  group = joined-group s.limits.ranks g me (contribution_of posts args) part there.part_there (join-brings s posts g part me thread id args h few sound hp there may mine) (sound.collectives.groups id g there.there);
  first = λ rank c other given.
      contributed-joined {P = (mask : ℕ) × (c.args.coll ≡ colls.Commit mask)} g me 0 rank (contribution_of posts args) c part there.part_there given
      (λ same round is.
      join-cases {P = (mask : ℕ) × (c.args.coll ≡ colls.Commit mask)} posts g me thread id args h may
      (λ coll built. (h.members, ap (λ (x : Contribution). x.args.coll) is ∙ coll))
      (λ kind committed.
      absurd (let begun = sound.collectives.begun id g me posts there.there hp in
      let one = begun.committed h committed.there committed.committed other in
      let same_part = ap (λ (q : RankContributions). q.completed) (contributions-there g me part there.part_there) in
      let count = mine.count in
      let none : ⊥ = omega arith in none)))
      (λ was. sound.collectives.first id g rank c there.there other was);
  committed = λ k at stage.
      let old : handle_at posts.groups id ≡ Some k = sym (ap (λ (gs : Handles). handle_at gs id) (joined-groups posts args.coll)) ∙ at in
      let kept = sound.collectives.committed id g me posts k there.there hp old stage in
      (fixed-stays g.members args.coll k.members kept.0, kept.1);
  made = λ round c seg size given coll.
      contributed-joined {P = WasMadeSo (tables_of (made_posts posts args.coll)) seg c.generation size} g me round me (contribution_of posts args) c part there.part_there given
      (λ same here is. new-made c seg size is coll)
      (λ was. made-so-stays (tables_of posts) (tables_of (made_posts posts args.coll)) seg c.generation size succeeds (sound.collectives.made id g me posts there.there hp round c seg size was coll));
}
  where
    many32 : length posts.segments.next_generations ≡ 32
    many32 = (sound.posts me posts hp).numbered

    succeeds : Succeeds (tables_of posts) (tables_of (made_posts posts args.coll))
    succeeds = joined-succeeds posts id args.coll args.values many32 may.free

    same-pending : (coll : Coll) → (made_posts posts coll).pending ≡ posts.pending
    same-pending colls.Barrier = refl
    same-pending (colls.Allreduce op t n) = refl
    same-pending (colls.Create seg size) = refl
    same-pending (colls.Commit mask) = refl

    many : id < length (made_posts posts args.coll).pending
    many = (let within = there.within in let same = ap length (same-pending args.coll) in let eight = (sound.posts me posts hp).tables.pending in omega arith)

    new_part : contributions_of (with_joined g me (contribution_of posts args)) me ≡ record part { contributions = part.contributions ++ contribution_of posts args ∷ [] }
    new_part = contributions-changed g me part (λ (q : RankContributions). record q { contributions = q.contributions ++ contribution_of posts args ∷ [] }) (fixed_by g.members args.coll) there.part_there

    mine : AreSoundContributions posts.events None part
    mine = subst (λ (o : Option PendingCollective). AreSoundContributions posts.events o part) may.none
        (subst (λ (q : RankContributions). AreSoundContributions posts.events (item_at posts.pending id) q) (contributions-there g me part there.part_there) (sound.collectives.parts id g me posts there.there hp))

    begun-same : HasBegun posts id part.completed → HasBegun (counted (joined_posts posts thread id args)) id part.completed
    begun-same begun = record {
      unmade = λ above. begun.unmade (let same = ap (λ (gs : Handles). gs.last_id) (joined-groups posts args.coll) in omega arith);
      building = λ k at stage. begun.building k (sym (ap (λ (gs : Handles). handle_at gs id) (joined-groups posts args.coll)) ∙ at) stage;
      committed = λ k at stage other. begun.committed k (sym (ap (λ (gs : Handles). handle_at gs id) (joined-groups posts args.coll)) ∙ at) stage other;
    }

    new-made : (c : Contribution) (seg size : ℕ) → c ≡ contribution_of posts args → c.args.coll ≡ colls.Create seg size → WasMadeSo (tables_of (made_posts posts args.coll)) seg c.generation size
    new-made c seg size is coll = by-coll args.coll (sym (ap (λ (x : Contribution). x.args.coll) is) ∙ coll) may.free
        (ap (λ (x : Contribution). x.generation) is)
      where
        by-coll : (x : Coll) → x ≡ colls.Create seg size → segment_checks posts (joining_call id (record { coll = x; values = args.values })) ≡ Ok tt → c.generation ≡ made_generation posts x
            → WasMadeSo (tables_of (made_posts posts x)) seg c.generation size
        by-coll x same free generation =
            let free' : segment_checks posts (joining_call id (record { coll = colls.Create seg size; values = args.values })) ≡ Ok tt =
            subst (λ (y : Coll). segment_checks posts (joining_call id (record { coll = y; values = args.values })) ≡ Ok tt) same free in
            let generation' : c.generation ≡ next_generation posts.segments.next_generations seg = generation ∙ ap (made_generation posts) same in
            subst (λ (y : Coll). WasMadeSo (tables_of (made_posts posts y)) seg c.generation size) (sym same)
            (subst (λ (n : ℕ). WasMadeSo (tables_of (with_own posts seg size)) seg n size) (sym generation') (joined-made posts seg size many32 (create-free posts id seg size free')))
