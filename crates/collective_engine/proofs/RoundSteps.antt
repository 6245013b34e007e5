-- What a join and a leave keep: the counts stay close, and the contributions of a round alike.
use Rattle.std.proofs.Common.{◌≡◌, ◌≢◌, ℕ, ◌+◌, ◌≤◌, ◌<◌, true, Option, None, Some, is_some, refl, sym, ◌∙◌, ap, arith, inl, inr, ◌⊎◌}
use Rattle.std.proofs.lemmas.List.{get_or-set_other, get_or-set_same, length-set}
use Rattle.gaspi_types.proofs.Items.{same-or-not}
use Rattle.gaspi_types.specs.Collectives.{first_contribution, fixed_by, is_full}
use Rattle.gaspi_types.specs.declared.collectives.Coll.{Coll}
use Rattle.gaspi_types.specs.declared.groups.Contribution.{Contribution}
use Rattle.gaspi_model.specs.RoundRules.{coll_in}
use Rattle.collective_engine.specs.KeptContributions.{HasItsValues}
use Rattle.collective_engine.specs.RoundBuffers.{ranks_of, is_in, IsMember, joined_by, completed_by, contribution_by, with_contribution, with_round_completed, AreWithinOneRound, AreRoundBuffers}
use Rattle.collective_engine.specs.declared.buffers.Buffers.{Buffers}
use Rattle.collective_engine.proofs.Giving.{joined-now, joined-other, contributed-other, contributed-now, contributed-before, contributed-later, capacity-contributed, ordered, contributed_joined, some_joined}
use Rattle.collective_engine.proofs.Members.{all_members, each_member, first_from, none_contributed, all_tested}

-- a member, in whichever way the members are fixed
pub was_member : (members : Option ℕ) (coll : Coll) (rank : ℕ) → is_in (fixed_by members coll) rank ≡ true → (m : ℕ) → IsMember members m → is_in members rank ≡ true
was_member None coll rank mine m its = absurd (let no : ⊥ = cc in no)
was_member (Some mask) coll rank mine m its = mine

-- members that are fixed stay
pub kept_member : (members : Option ℕ) (coll : Coll) (m : ℕ) → IsMember (fixed_by members coll) m → (members ≡ None) ⊎ IsMember members m
kept_member None coll m its = inl refl
kept_member (Some mask) coll m its = inr its

pub not_none : (members : Option ℕ) (coll : Coll) (rank : ℕ) → is_in (fixed_by members coll) rank ≡ true → fixed_by members coll ≡ None → ⊥
not_none members coll rank mine none = let no : is_in None rank ≡ true = rw none at mine in cc

module _ (members : Option ℕ) (b : Buffers) (rank : ℕ) (c : Contribution) (ok : AreRoundBuffers members b) (below : rank < 16) (mine : is_in (fixed_by members c.args.coll) rank ≡ true) (left : joined_by b rank ≡ completed_by b rank) where
  -- no member is over one round ahead
  pub ahead : (m : ℕ) → IsMember members m → joined_by b m ≤ completed_by b rank + 1
  ahead m its =
      let one = ok.close.greatest m in
      let two = ok.close.near m rank its (below, was_member members c.args.coll rank mine m its) in
      omega arith

  more_joined : (r : ℕ) → joined_by b r ≤ joined_by (with_contribution b rank c) r
  more_joined r = same-or-not r rank
      (λ same. rw same (let now = joined-now b ok.capacity rank c below in omega arith))
      (λ apart. let now = joined-other b ok.capacity rank c below r apart in omega arith)

  near_contributed : (m n : ℕ) → IsMember (fixed_by members c.args.coll) m → IsMember (fixed_by members c.args.coll) n → completed_by b m ≤ joined_by (with_contribution b rank c) n
  near_contributed m n first second = go (kept_member members c.args.coll m first) (kept_member members c.args.coll n second)
    where
      nothing : members ≡ None → completed_by b m ≤ joined_by (with_contribution b rank c) n
      nothing none = let zero = ok.close.early none m in let least = ok.close.least m in omega arith

      go : ((members ≡ None) ⊎ IsMember members m) → ((members ≡ None) ⊎ IsMember members n) → completed_by b m ≤ joined_by (with_contribution b rank c) n
      go (inl none) other = nothing none
      go (inr its) (inl none) = nothing none
      go (inr its) (inr theirs) = let was = ok.close.near m n its theirs in let more = more_joined n in omega arith

  close_contributed : AreWithinOneRound (fixed_by members c.args.coll) (with_contribution b rank c)
  close_contributed = record {
    least = λ r. let more = more_joined r in let was = ok.close.least r in omega arith;
    greatest = λ r. same-or-not r rank
        (λ same. rw same (let now = joined-now b ok.capacity rank c below in omega arith))
        (λ apart. let now = joined-other b ok.capacity rank c below r apart in let was = ok.close.greatest r in omega arith);
    early = λ none r. absurd (not_none members c.args.coll rank mine none);
    near = near_contributed;
  }

  -- what a rank has given is the new contribution, or was there
  was_contributed : (round m : ℕ) (d : Contribution) → joined_by (with_contribution b rank c) m ≤ round + 2 → contribution_by (with_contribution b rank c) round m ≡ Some d
      → ((round ≡ joined_by b rank) × (d ≡ c)) ⊎ ((joined_by b m ≤ round + 2) × (contribution_by b round m ≡ Some d))
  was_contributed round m d bound at = same-or-not m rank (own m bound at)
      (λ apart. inr (let more = more_joined m in omega arith, sym (contributed-other b ok.capacity rank c below round m apart) ∙ at))
    where
      own : (m : ℕ) → joined_by (with_contribution b rank c) m ≤ round + 2 → contribution_by (with_contribution b rank c) round m ≡ Some d → m ≡ rank
          → ((round ≡ joined_by b rank) × (d ≡ c)) ⊎ ((joined_by b m ≤ round + 2) × (contribution_by b round m ≡ Some d))
      own m bound at same =
          let here = rw same at at in
          let near = rw same at bound in
          let now = joined-now b ok.capacity rank c below in
          rw same (ordered round (joined_by b rank)
          (λ before. inr (omega arith, sym (contributed-before b ok.capacity rank c below round (omega arith)) ∙ here))
          (λ this. inl (this, (let is = contributed-now b ok.capacity rank c below in let there = rw this at here in let equal : c ≡ d = cc in sym equal)))
          (λ later. absurd (let none = contributed-later b ok.capacity rank c below round later in let no : ⊥ = cc in no)))

  -- who has given is a member already
  old_member : (round m : ℕ) (d : Contribution) → IsMember (fixed_by members c.args.coll) m → contribution_by b round m ≡ Some d → IsMember members m
  old_member round m d its at = go (kept_member members c.args.coll m its)
    where
      go : ((members ≡ None) ⊎ IsMember members m) → IsMember members m
      go (inl none) = absurd (let joined = contributed_joined b round m d at in let zero = ok.close.early none m in let no : ⊥ = omega arith in no)
      go (inr was) = was

  module _ (first : (kept : Coll) → coll_in (first_contribution (contribution_by b (completed_by b rank)) (ranks_of members)) ≡ Some kept → kept ≡ c.args.coll) where
    -- what others have given to this round is for the same
    agreed : (n : ℕ) (e : Contribution) → IsMember members n → contribution_by b (joined_by b rank) n ≡ Some e → e.args.coll ≡ c.args.coll
    agreed n e theirs at = go (first_contribution (contribution_by b (completed_by b rank)) (ranks_of members)) refl
      where
        there : contribution_by b (completed_by b rank) n ≡ Some e
        there = rw left at at

        go : (o : Option Contribution) → first_contribution (contribution_by b (completed_by b rank)) (ranks_of members) ≡ o → e.args.coll ≡ c.args.coll
        go None is =
            let none = each_member members (λ m. contribution_by b (completed_by b rank) m ≡ None) (none_contributed (contribution_by b (completed_by b rank)) (ranks_of members) is) n theirs in
            absurd (let no : ⊥ = cc in no)
        go (Some f) is =
            let found = first_from (contribution_by b (completed_by b rank)) (IsMember members) (ranks_of members) f is (all_members members (IsMember members) (λ m its. its)) in
            let one = ahead found.0 found.1 in
            let two = ahead n theirs in
            let same = ok.agree.alike (completed_by b rank) found.0 n f e found.1 theirs (omega arith) (omega arith) found.2 there in
            sym same ∙ first f.args.coll (ap coll_in is)

    alike_given : (round m n : ℕ) (d e : Contribution) → IsMember (fixed_by members c.args.coll) m → IsMember (fixed_by members c.args.coll) n
        → joined_by (with_contribution b rank c) m ≤ round + 2 → joined_by (with_contribution b rank c) n ≤ round + 2
        → contribution_by (with_contribution b rank c) round m ≡ Some d → contribution_by (with_contribution b rank c) round n ≡ Some e → d.args.coll ≡ e.args.coll
    alike_given round m n d e its theirs first_bound second_bound at there = go (was_contributed round m d first_bound at) (was_contributed round n e second_bound there)
      where
        go : ((round ≡ joined_by b rank) × (d ≡ c)) ⊎ ((joined_by b m ≤ round + 2) × (contribution_by b round m ≡ Some d))
            → ((round ≡ joined_by b rank) × (e ≡ c)) ⊎ ((joined_by b n ≤ round + 2) × (contribution_by b round n ≡ Some e)) → d.args.coll ≡ e.args.coll
        go (inl one) (inl two) = ap (λ (x : Contribution). x.args.coll) (one.1 ∙ sym two.1)
        go (inl one) (inr two) =
            let this = one.0 in
            let given = rw this at two.1 in
            ap (λ (x : Contribution). x.args.coll) one.1 ∙ sym (agreed n e (old_member round n e theirs two.1) given)
        go (inr one) (inl two) =
            let this = two.0 in
            let given = rw this at one.1 in
            agreed m d (old_member round m d its one.1) given ∙ sym (ap (λ (x : Contribution). x.args.coll) two.1)
        go (inr one) (inr two) = ok.agree.alike round m n d e (old_member round m d its one.1) (old_member round n e theirs two.1) one.0 two.0 one.1 two.1

    whole_given : HasItsValues c.args → (round m : ℕ) (d : Contribution) → IsMember (fixed_by members c.args.coll) m
        → joined_by (with_contribution b rank c) m ≤ round + 2 → contribution_by (with_contribution b rank c) round m ≡ Some d → HasItsValues d.args
    whole_given values round m d its bound at = go (was_contributed round m d bound at)
      where
        go : ((round ≡ joined_by b rank) × (d ≡ c)) ⊎ ((joined_by b m ≤ round + 2) × (contribution_by b round m ≡ Some d)) → HasItsValues d.args
        go (inl one) = let is = one.1 in rw is values
        go (inr one) = ok.agree.whole round m d (old_member round m d its one.1) one.0 one.1

    -- a join keeps the rounds in order
    pub rounds-given : HasItsValues c.args → AreRoundBuffers (fixed_by members c.args.coll) (with_contribution b rank c)
    rounds-given values = record {
      capacity = capacity-contributed b ok.capacity rank c below;
      close = close_contributed;
      agree = record { alike = alike_given; whole = whole_given values };
    }

-- Leaving.

pub full_for : (members : Option ℕ) (b : Buffers) (round : ℕ) → is_full (contribution_by b round) (ranks_of members) ≡ true → (m : ℕ) → IsMember members m → round < joined_by b m
full_for members b round full m its =
    some_joined b round m (each_member members (λ m. is_some (contribution_by b round m) ≡ true) (all_tested (λ m. is_some (contribution_by b round m)) (ranks_of members) full) m its)

module _ (members : Option ℕ) (b : Buffers) (rank : ℕ) (ok : AreRoundBuffers members b) (below : rank < 16) (mine : is_in members rank ≡ true) (full : is_full (contribution_by b (completed_by b rank)) (ranks_of members) ≡ true) where
  pub completed-now : completed_by (with_round_completed b rank) rank ≡ completed_by b rank + 1
  completed-now = get_or-set_same b.completed rank (completed_by b rank + 1) 0 (let long = ok.capacity.completed in omega arith)

  pub completed-other : (r : ℕ) → r ≢ rank → completed_by (with_round_completed b rank) r ≡ completed_by b r
  completed-other r apart = get_or-set_other b.completed rank r (completed_by b rank + 1) 0 apart

  all_joined : (m : ℕ) → IsMember members m → completed_by b rank < joined_by b m
  all_joined m its = full_for members b (completed_by b rank) full m its

  -- a leave keeps the rounds in order
  pub rounds-left : AreRoundBuffers members (with_round_completed b rank)
  rounds-left = record {
    capacity = record {
      joined = ok.capacity.joined;
      completed = length-set b.completed rank (completed_by b rank + 1) ∙ ok.capacity.completed;
      even = ok.capacity.even;
      odd = ok.capacity.odd;
    };
    close = record {
      least = λ r. same-or-not r rank
          (λ same. rw same (let now = completed-now in let joined = all_joined rank (below, mine) in omega arith))
          (λ apart. let now = completed-other r apart in let was = ok.close.least r in omega arith);
      greatest = λ r. same-or-not r rank
          (λ same. rw same (let now = completed-now in let was = ok.close.greatest rank in omega arith))
          (λ apart. let now = completed-other r apart in let was = ok.close.greatest r in omega arith);
      early = ok.close.early;
      near = λ m n its theirs. same-or-not m rank
          (λ same. rw same (let now = completed-now in let joined = all_joined n theirs in omega arith))
          (λ apart. let now = completed-other m apart in let was = ok.close.near m n its theirs in omega arith);
    };
    agree = record { alike = ok.agree.alike; whole = ok.agree.whole };
  }
