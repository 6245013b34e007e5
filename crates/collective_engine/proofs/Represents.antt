-- The buffers stand for a group whose lists only grow: they answer as it does, and go on to do so after a join and a leave.
use Rattle.std.proofs.Common.{◌≡◌, ◌≢◌, ℕ, zero, suc, ◌+◌, ◌≤◌, ◌<◌, ℤ, true, List, [], ◌∷◌, ◌++◌, length, Option, None, Some, refl, sym, ◌∙◌, ap, arith, length-append}
use Rattle.std.specs.List.{AllByRecursion, slice_get}
use Rattle.std.proofs.lemmas.Option.{slice_get_within}
use Rattle.gaspi_types.specs.Collectives.{contributions_of, no_contributions, contribution_in, members_in, round_of, first_contribution, is_full, made_by, is_round_full, round_segments, round_reduction, reduction_of, fixed_by, with_joined, with_completed}
use Rattle.gaspi_types.specs.Tables.{changed_at}
use Rattle.gaspi_types.specs.declared.collectives.NumType.{NumType}
use Rattle.gaspi_types.specs.declared.collectives.Op.{Op}
use Rattle.gaspi_types.specs.declared.groups.Contribution.{Contribution}
use Rattle.gaspi_types.specs.declared.groups.Group.{Group}
use Rattle.gaspi_types.specs.declared.groups.RankContributions.{RankContributions}
use Rattle.gaspi_types.proofs.Items.{same-or-not, there-within, changed_at-found, slice_get-set_same, slice_get-set_other, prefix-of-joined, behind-of-joined}
use Rattle.collective_engine.specs.RoundBuffers.{RoundBuffers, ranks_of, is_in, IsMember, joined_by, completed_by, contribution_by, with_contribution, with_round_completed, AreRoundBuffers, Represents}
use Rattle.collective_engine.proofs.Alike.{full-alike, first-alike, made-alike, reduced-alike}
use Rattle.collective_engine.proofs.Giving.{joined-now, joined-other, contributed-other, contributed-now, contributed-before, contributed-later, ordered}
use Rattle.collective_engine.proofs.Members.{all_members}
use Rattle.collective_engine.proofs.RoundSteps.{completed-now, completed-other}

-- Reading.

pub members-same : (g : Group) (members : Option ℕ) → g.members ≡ members → members_in g ≡ ranks_of members
members-same g None is = rw is refl
members-same g (Some mask) is = rw is refl

module _ (g : Group) (t : RoundBuffers) (rank : ℕ) (ok : AreRoundBuffers t.members t.buffers) (stands : Represents g t) (below : rank < 16) (mine : (m : ℕ) → IsMember t.members m → is_in t.members rank ≡ true) where
  -- what a member has given to the round of another, the buffers have
  reads : (m : ℕ) → IsMember t.members m → contribution_in g (completed_by t.buffers rank) m ≡ contribution_by t.buffers (completed_by t.buffers rank) m
  reads m its =
      let one = ok.close.greatest m in
      let two = ok.close.greatest rank in
      let three = ok.close.near m rank its (below, mine m its) in
      stands.given (completed_by t.buffers rank) m (omega arith)

  all_read : AllByRecursion (λ m. contribution_in g (completed_by t.buffers rank) m ≡ contribution_by t.buffers (completed_by t.buffers rank) m) (ranks_of t.members)
  all_read = all_members t.members (λ m. contribution_in g (completed_by t.buffers rank) m ≡ contribution_by t.buffers (completed_by t.buffers rank) m) reads

  pub first-stands : first_contribution (contribution_in g (round_of g rank)) (members_in g) ≡ first_contribution (contribution_by t.buffers (completed_by t.buffers rank)) (ranks_of t.members)
  first-stands =
      let round = stands.completed rank in
      rw (round, members-same g t.members stands.members) (first-alike (contribution_in g (completed_by t.buffers rank)) (contribution_by t.buffers (completed_by t.buffers rank)) (ranks_of t.members) all_read)

  pub full-stands : is_round_full g rank ≡ is_full (contribution_by t.buffers (completed_by t.buffers rank)) (ranks_of t.members)
  full-stands =
      let round = stands.completed rank in
      rw (round, members-same g t.members stands.members) (full-alike (contribution_in g (completed_by t.buffers rank)) (contribution_by t.buffers (completed_by t.buffers rank)) (ranks_of t.members) all_read)

  pub made-stands : round_segments g rank ≡ made_by (contribution_by t.buffers (completed_by t.buffers rank)) (ranks_of t.members)
  made-stands =
      let round = stands.completed rank in
      rw (round, members-same g t.members stands.members) (made-alike (contribution_in g (completed_by t.buffers rank)) (contribution_by t.buffers (completed_by t.buffers rank)) (ranks_of t.members) all_read)

  pub reduction_of-stands : (op : Op) (num_type : NumType) → round_reduction g rank op num_type ≡ reduction_of (contribution_by t.buffers (completed_by t.buffers rank)) op num_type (ranks_of t.members)
  reduction_of-stands op num_type =
      let round = stands.completed rank in
      ap (λ (items : List ℤ). record { num_type = num_type; items = items })
      (rw (round, members-same g t.members stands.members) (reduced-alike (contribution_in g (completed_by t.buffers rank)) (contribution_by t.buffers (completed_by t.buffers rank)) op num_type (ranks_of t.members) all_read))

-- The parts of a group with one of them changed.

contributions-there : (g : Group) (rank : ℕ) (p : RankContributions) → slice_get g.contributions rank ≡ Some p → contributions_of g rank ≡ p
contributions-there g rank p at = rw at refl

module _ (g : Group) (members : Option ℕ) (rank : ℕ) (change : RankContributions → RankContributions) (within : rank < length g.contributions) where
  pub contributions-now : contributions_of (record { members = members; contributions = changed_at g.contributions rank change }) rank ≡ change (contributions_of g rank)
  contributions-now =
      let there = there-within g.contributions rank within in
      let was = contributions-there g rank there.0 there.1 in
      rw (changed_at-found g.contributions rank there.0 change there.1, slice_get-set_same g.contributions rank there.0 (change there.0) there.1, was) refl

  pub contributions-other : (r : ℕ) → r ≢ rank → contributions_of (record { members = members; contributions = changed_at g.contributions rank change }) r ≡ contributions_of g r
  contributions-other r apart =
      let there = there-within g.contributions rank within in
      rw (changed_at-found g.contributions rank there.0 change there.1, slice_get-set_other g.contributions rank r (change there.0) (λ e. apart (sym e))) refl

-- Joining.

past : (xs : List Contribution) (i : ℕ) → length xs ≤ i → slice_get xs i ≡ None
past [] i h = refl
past (x ∷ xs) zero h = absurd (let no : ⊥ = omega arith in no)
past (x ∷ xs) (suc i) h = past xs i (omega arith)

module _ (g : Group) (t : RoundBuffers) (rank : ℕ) (c : Contribution) (ok : AreRoundBuffers t.members t.buffers) (stands : Represents g t) (below : rank < 16) (within : rank < length g.contributions) where
  joined_here : contributions_of (with_joined g rank c) rank ≡ record { contributions = (contributions_of g rank).contributions ++ c ∷ []; completed = (contributions_of g rank).completed }
  joined_here = contributions-now g (fixed_by g.members c.args.coll) rank (λ (p : RankContributions). record p { contributions = p.contributions ++ c ∷ [] }) within

  joined_there : (r : ℕ) → r ≢ rank → contributions_of (with_joined g rank c) r ≡ contributions_of g r
  joined_there r apart = contributions-other g (fixed_by g.members c.args.coll) rank (λ (p : RankContributions). record p { contributions = p.contributions ++ c ∷ [] }) within r apart

  own_contributed : (round : ℕ) → joined_by (with_contribution t.buffers rank c) rank ≤ round + 2 → slice_get ((contributions_of g rank).contributions ++ c ∷ []) round ≡ contribution_by (with_contribution t.buffers rank c) round rank
  own_contributed round bound =
      let long = stands.joined rank in
      let now = joined-now t.buffers ok.capacity rank c below in
      ordered round (joined_by t.buffers rank)
      (λ before. prefix-of-joined (contributions_of g rank).contributions (c ∷ []) round (omega arith) ∙ stands.given round rank (omega arith) ∙ sym (contributed-before t.buffers ok.capacity rank c below round (omega arith)))
      (λ this. behind-of-joined (contributions_of g rank).contributions (c ∷ []) 0 round (omega arith) ∙ (rw this (sym (contributed-now t.buffers ok.capacity rank c below))))
      (λ later. past ((contributions_of g rank).contributions ++ c ∷ []) round (omega (arith, length-append (contributions_of g rank).contributions (c ∷ []))) ∙ sym (contributed-later t.buffers ok.capacity rank c below round later))

  pub stands-joined : Represents (with_joined g rank c) (record { members = fixed_by t.members c.args.coll; buffers = with_contribution t.buffers rank c })
  stands-joined = record {
    members = ap (λ (o : Option ℕ). fixed_by o c.args.coll) stands.members;
    joined = λ r. same-or-not r rank
        (λ same. rw same (ap (λ (p : RankContributions). length p.contributions) joined_here ∙ length-append (contributions_of g rank).contributions (c ∷ []) ∙ (let long = stands.joined rank in let now = joined-now t.buffers ok.capacity rank c below in omega arith)))
        (λ apart. ap (λ (p : RankContributions). length p.contributions) (joined_there r apart) ∙ stands.joined r ∙ sym (joined-other t.buffers ok.capacity rank c below r apart));
    completed = λ r. same-or-not r rank
        (λ same. rw same (ap (λ (p : RankContributions). p.completed) joined_here ∙ stands.completed rank))
        (λ apart. ap (λ (p : RankContributions). p.completed) (joined_there r apart) ∙ stands.completed r);
    given = λ round r bound. same-or-not r rank (own round r bound)
        (λ apart. ap (λ (p : RankContributions). slice_get p.contributions round) (joined_there r apart)
        ∙ stands.given round r (let was = joined-other t.buffers ok.capacity rank c below r apart in omega arith)
        ∙ sym (contributed-other t.buffers ok.capacity rank c below round r apart));
  }
    where
      own : (round r : ℕ) → joined_by (with_contribution t.buffers rank c) r ≤ round + 2 → r ≡ rank → contribution_in (with_joined g rank c) round r ≡ contribution_by (with_contribution t.buffers rank c) round r
      own round r bound same = let near = rw same at bound in rw same (ap (λ (p : RankContributions). slice_get p.contributions round) joined_here ∙ own_contributed round near)

-- Leaving.

module _ (g : Group) (t : RoundBuffers) (rank : ℕ) (ok : AreRoundBuffers t.members t.buffers) (stands : Represents g t) (below : rank < 16) (mine : is_in t.members rank ≡ true)
    (full : is_full (contribution_by t.buffers (completed_by t.buffers rank)) (ranks_of t.members) ≡ true) (given : completed_by t.buffers rank < joined_by t.buffers rank) where
  -- a rank that has joined has a part
  has_contributions : rank < length g.contributions
  has_contributions = go (slice_get g.contributions rank) refl
    where
      go : (o : Option RankContributions) → slice_get g.contributions rank ≡ o → rank < length g.contributions
      go None at = absurd (let long = stands.joined rank in let none : contributions_of g rank ≡ no_contributions = rw at refl in let zero : length (contributions_of g rank).contributions ≡ 0 = ap (λ (p : RankContributions). length p.contributions) none in let no : ⊥ = omega arith in no)
      go (Some p) at = slice_get_within g.contributions rank p at

  left_here : contributions_of (with_completed g rank) rank ≡ record { contributions = (contributions_of g rank).contributions; completed = (contributions_of g rank).completed + 1 }
  left_here = contributions-now g g.members rank (λ (p : RankContributions). record p { completed = p.completed + 1 }) has_contributions

  left_there : (r : ℕ) → r ≢ rank → contributions_of (with_completed g rank) r ≡ contributions_of g r
  left_there r apart = contributions-other g g.members rank (λ (p : RankContributions). record p { completed = p.completed + 1 }) has_contributions r apart

  pub stands-left : Represents (with_completed g rank) (record { members = t.members; buffers = with_round_completed t.buffers rank })
  stands-left = record {
    members = stands.members;
    joined = λ r. same-or-not r rank
        (λ same. rw same (ap (λ (p : RankContributions). length p.contributions) left_here ∙ stands.joined rank))
        (λ apart. ap (λ (p : RankContributions). length p.contributions) (left_there r apart) ∙ stands.joined r);
    completed = λ r. same-or-not r rank
        (λ same. rw same (ap (λ (p : RankContributions). p.completed) left_here ∙ ap (λ (n : ℕ). n + 1) (stands.completed rank) ∙ sym (completed-now t.members t.buffers rank ok below mine full)))
        (λ apart. ap (λ (p : RankContributions). p.completed) (left_there r apart) ∙ stands.completed r ∙ sym (completed-other t.members t.buffers rank ok below mine full r apart));
    given = λ round r bound. same-or-not r rank (own round r bound)
        (λ apart. ap (λ (p : RankContributions). slice_get p.contributions round) (left_there r apart) ∙ stands.given round r bound);
  }
    where
      own : (round r : ℕ) → joined_by t.buffers r ≤ round + 2 → r ≡ rank → contribution_in (with_completed g rank) round r ≡ contribution_by t.buffers round r
      own round r bound same = let near = rw same at bound in rw same (ap (λ (p : RankContributions). slice_get p.contributions round) left_here ∙ stands.given round rank near)
