-- Whoever is to join, by the model's soundness, may join as the stores want it.
use Rattle.std.proofs.Common.{◌≡◌, ℕ, List, [], ◌∷◌, ◌+◌, ◌<◌, ◌≤◌, ◌==◌, true, false, nat_le, nat_lt, length, Option, None, Some, Ok, refl, sym, ap, subst, ◌∙◌, arith}
use Rattle.std.specs.List.{slice_get}
use Rattle.std.proofs.lemmas.Bool.{eq-eqb, eqb-true, lt-ltb, leb-true}
use Rattle.std.proofs.lemmas.Option.{slice_get_within}
use Rattle.gaspi_types.specs.Collectives.{AreValuesOf, contributions_of, contribution_in, round_of, members_in, first_contribution, fits, round_checks, fixed_by, count_checks, is_element_count}
use Rattle.gaspi_types.specs.Groups.{handle_at, handle_of_all, fix_checks}
use Rattle.gaspi_types.specs.NumberTypes.{TypedNumbers}
use Rattle.gaspi_types.specs.Ranges.{is_between}
use Rattle.gaspi_types.specs.Replies.{coll_fields}
use Rattle.gaspi_types.specs.Tables.{item_at}
use Rattle.gaspi_types.specs.World.{are_limits}
use Rattle.gaspi_types.specs.declared.calls.Call.{Call}
use Rattle.gaspi_types.specs.declared.collectives.Coll.{Coll}
use Rattle.gaspi_types.specs.declared.collectives.Coll.TheVariants as colls
use Rattle.gaspi_types.specs.declared.collectives.Stage.TheVariants.{Committed}
use Rattle.gaspi_types.specs.declared.groups.Args.{Args}
use Rattle.gaspi_types.specs.declared.groups.Contribution.{Contribution}
use Rattle.gaspi_types.specs.declared.groups.Group.{Group}
use Rattle.gaspi_types.specs.declared.groups.Handle.{Handle}
use Rattle.gaspi_types.specs.declared.groups.PendingCollective.{PendingCollective}
use Rattle.gaspi_types.specs.declared.replies.Refusal.TheVariants.{BadCount, GroupMismatch}
use Rattle.gaspi_types.specs.declared.shapes.Limits.{Limits}
use Rattle.gaspi_types.proofs.Chains.{bind_then, check_holds, both}
use Rattle.collective_engine.specs.KeptContributions.{HasItsValues}
use Rattle.collective_engine.specs.RoundBuffers.{RoundBuffers, Represents, is_in, joined_by, completed_by, may_join}
use Rattle.gaspi_model.specs.CollectiveCalls.{element_checks, staged_at, plain_args, args_of, joining_call}
use Rattle.gaspi_model.specs.Contributions.{AreSoundContributions, IsSoundGroup}
use Rattle.gaspi_model.specs.Sound.{IsSound}
use Rattle.gaspi_model.specs.declared.states.Posts.{Posts}
use Rattle.gaspi_model.specs.declared.states.State.{State}
use Rattle.gaspi_model.proofs.Listed.Enabled.{pointwise-refl}
use Rattle.gaspi_model.proofs.Sound.Completions.{staged-cases, stage-apart}
use Rattle.gaspi_model.proofs.Sound.Joins.{join-whole, JoinsBuilt}
use Rattle.rank_node.specs.Collectives.{AreSoundTogether, is_commit}

-- a member of whose collectives none is pending
pub may-join : (g : Group) (t : RoundBuffers) (me events : ℕ) (coll : Coll) → Represents g t → AreSoundContributions events None (contributions_of g me) → events < 4294967295
    → is_in (fixed_by g.members coll) me ≡ true → may_join t me coll ≡ true
may-join g t me events coll stands part less mine =
    let joined = stands.joined me in
    let completed = stands.completed me in
    let count : length (contributions_of g me).contributions ≡ (contributions_of g me).completed + 0 = part.count in
    let few = part.few in
    let one : is_in (fixed_by t.members coll) me ≡ true = subst (λ (m : Option ℕ). is_in (fixed_by m coll) me ≡ true) stands.members mine in
    let two : (joined_by t.buffers me == completed_by t.buffers me) ≡ true = eq-eqb (joined_by t.buffers me) (completed_by t.buffers me) (omega arith) in
    let three : nat_lt (joined_by t.buffers me) 4294967295 ≡ true = lt-ltb (joined_by t.buffers me) 4294967295 (omega arith) in
    rw (one, two, three) refl

-- one whose group is committed
pub committed-joins : (posts : Posts) (me id : ℕ) (g : Group) (t : RoundBuffers) (h : Handle) (coll : Coll) → AreSoundTogether posts me id g → Represents g t → handle_at posts.groups id ≡ Some h
    → h.stage ≡ Committed → item_at posts.pending id ≡ None → may_join t me coll ≡ true
committed-joins posts me id g t h coll meets stands there committed none =
    let kept = meets.committed h there committed in
    let part : AreSoundContributions posts.events None (contributions_of g me) = subst (λ (p : Option PendingCollective). AreSoundContributions posts.events p (contributions_of g me)) none meets.part in
    let fixed = kept.0 in
    may-join g t me posts.events coll stands part meets.few (rw fixed kept.1)

-- one that is new
pub fresh-joins : (posts : Posts) (me id : ℕ) (g : Group) (t : RoundBuffers) (call : Call) (h : Handle) (args : Args) → AreSoundTogether posts me id g → Represents g t
    → staged_at posts.groups me id call ≡ Ok h → item_at posts.pending id ≡ None → args_of h.members call ≡ Some args → is_commit args.coll ≡ false → may_join t me args.coll ≡ true
fresh-joins posts me id g t call h args meets stands staged none asked plain =
    staged-cases {P = may_join t me args.coll ≡ true} posts.groups me id call h staged
    (λ x is built. absurd (
    let asks : Some (plain_args (colls.Commit h.members)) ≡ Some args = ap (args_of h.members) (sym is) ∙ asked in
    let same : plain_args (colls.Commit h.members) ≡ args = cc in
    let never : true ≡ false = ap (λ (a : Args). is_commit a.coll) same ∙ plain in
    let no : ⊥ = cc in no))
    (λ there committed told. committed-joins posts me id g t h args.coll meets stands there committed none)

-- its values fit a slot
few-values : (id : ℕ) (coll : Coll) (values : TypedNumbers) → element_checks (joining_call id (record { coll = coll; values = values })) ≡ Ok tt → AreValuesOf coll values → length values.items ≤ 255
few-values id colls.Barrier values elements whole = rw whole (omega arith)
few-values id (colls.Allreduce op t n) values elements whole =
    bind_then (count_checks (length values.items)) _ tt elements (λ u counted more.
    let is = check_holds (is_element_count (length values.items)) BadCount u counted in
    leb-true (length values.items) 255 (both (nat_le 1 (length values.items)) (nat_le (length values.items) 255) is).1)
few-values id (colls.Create seg size) values elements whole = rw whole (omega arith)
few-values id (colls.Commit mask) values elements whole = rw whole (omega arith)

pub its-values : (members id : ℕ) (args : Args) → element_checks (joining_call id args) ≡ Ok tt → args_of members (joining_call id args) ≡ Some args → HasItsValues args
its-values members id args elements own = let whole = join-whole members id args own in (whole, few-values id args.coll args.values elements whole)

-- what soundness says of a rank and a group
few-events : (l : Limits) → are_limits l ≡ true → l.events ≤ 65536
few-events l is =
    let a = (both (is_between 1 16 l.ranks) _ is).1 in
    let b = (both (is_between 1 8 l.queues) _ a).1 in
    let c = (both (is_between 1 256 l.depth) _ b).1 in
    let d = (both (is_between 1 1024 l.notes) _ c).1 in
    let e = (both (is_between 1 64 l.inbox) _ d).1 in
    leb-true l.events 65536 (both (nat_le 1 l.events) (nat_le l.events 65536) e).1

pub together-in : (s : State) (me id : ℕ) (posts : Posts) (g : Group) → IsSound s → slice_get s.posts me ≡ Some posts → slice_get s.groups id ≡ Some g → AreSoundTogether posts me id g
together-in s me id posts g sound hp hg =
    let mine = sound.posts me posts hp in
    let group = sound.collectives.groups id g hg in
    let below = slice_get_within s.posts me posts hp in
    let limit = few-events s.limits sound.limits in
    let room = mine.room in
    let ranks = sound.ranks in
    let parts = group.parts in
    record {
      few = (omega arith);
      ranked = (omega arith);
      part = sound.collectives.parts id g me posts hg hp;
      group = subst (λ (n : ℕ). IsSoundGroup n g) (sym parts) group;
      committed = λ h there committed. sound.collectives.committed id g me posts h hg hp there committed;
      begun = sound.collectives.begun id g me posts hg hp;
      first = λ rank c other given. sound.collectives.first id g rank c hg other given;
      all = λ h at. (let some : Some (handle_of_all s.limits.ranks) ≡ Some h = sym mine.groups.all ∙ at in let same : handle_of_all s.limits.ranks ≡ h = cc in ap (λ (x : Handle). x.stage) (sym same));
      resumable = λ p pends. sound.collectives.resumable id me posts p hp pends;
    }

-- what all have given to a round fits it
fits-one : (d : Contribution) (coll : Coll) → d.args.coll ≡ coll → fits (Some d) coll ≡ Ok tt
fits-one d coll is = let same = pointwise-refl (coll_fields coll) in rw (is, same) refl

fits-alike : (given : ℕ → Option Contribution) (ms : List ℕ) (coll : Coll) → ((m : ℕ) (d : Contribution) → given m ≡ Some d → d.args.coll ≡ coll) → fits (first_contribution given ms) coll ≡ Ok tt
fits-alike given [] coll alike = refl
fits-alike given (m ∷ ms) coll alike = go (given m) refl (fits-alike given ms coll alike)
  where
    go : (o : Option Contribution) → given m ≡ o → fits (first_contribution given ms) coll ≡ Ok tt → fits (first_contribution given (m ∷ ms)) coll ≡ Ok tt
    go None at rest = rw at rest
    go (Some d) at rest = rw at (fits-one d coll (alike m d at))

-- A commit that may join: its group is built yet, so the rank is in the group's first round, to which all give the list that is fixed.
fixed-as : (members : Option ℕ) (mask : ℕ) → fix_checks members mask ≡ Ok tt → fixed_by members (colls.Commit mask) ≡ Some mask
fixed-as None mask is = refl
fixed-as (Some kept) mask is = ap (λ (n : ℕ). Some n) (eqb-true kept mask (check_holds (kept == mask) (GroupMismatch kept) tt is))

fixed-list : (members : Option ℕ) (mask other : ℕ) → fix_checks members mask ≡ Ok tt → members ≡ Some other → other ≡ mask
fixed-list None mask other is some = absurd (let no : ⊥ = cc in no)
fixed-list (Some kept) mask other is some = (let same : kept ≡ other = cc in sym same ∙ eqb-true kept mask (check_holds (kept == mask) (GroupMismatch kept) tt is))

pub built-joins : (posts : Posts) (me id : ℕ) (g : Group) (t : RoundBuffers) (h : Handle) (coll : Coll) → AreSoundTogether posts me id g → Represents g t → coll ≡ colls.Commit h.members → JoinsBuilt posts g me id h
    → item_at posts.pending id ≡ None → may_join t me coll ≡ true
built-joins posts me id g t h coll meets stands is built none =
    let part : AreSoundContributions posts.events None (contributions_of g me) = subst (λ (p : Option PendingCollective). AreSoundContributions posts.events p (contributions_of g me)) none meets.part in
    let fixed = fixed-as g.members h.members built.fixes in
    may-join g t me posts.events coll stands part meets.few (rw (is, fixed) built.built.member)

pub built-fits : (posts : Posts) (me id : ℕ) (g : Group) (h : Handle) (coll : Coll) → AreSoundTogether posts me id g → coll ≡ colls.Commit h.members → JoinsBuilt posts g me id h → round_checks g me coll ≡ Ok tt
built-fits posts me id g h coll meets is built =
    fits-alike (contribution_in g (round_of g me)) (members_in g) coll (λ m d given.
    let none : round_of g me ≡ 0 = meets.begun.building h built.built.there built.built.building in
    let at : contribution_in g 0 m ≡ Some d = subst (λ (k : ℕ). contribution_in g k m ≡ Some d) none given in
    let first = meets.first m d (λ zero. stage-apart h h refl built.built.building (meets.all h (subst (λ (k : ℕ). handle_at posts.groups k ≡ Some h) zero built.built.there))) at in
    let theirs = meets.group.commits 0 m d first.0 at first.1 in
    first.1 ∙ ap (λ (n : ℕ). colls.Commit n) (fixed-list g.members h.members first.0 built.fixes theirs) ∙ sym is)
