-- What the calls answer and leave, from what their parts do.
use Rattle.std.proofs.Common.{◌≡◌, ℕ, ◌+◌, ◌≤◌, ◌<◌, Bool, true, false, List, length, Option, None, Some, Result, is_some, refl, sym, ◌∙◌, ap, subst, arith}
use Rattle.std.specs.Prelude.{nat_lt, ◌==◌, ◌&&◌, if◌then◌else◌}
use Rattle.std.specs.List.{AllByRecursion, slice_get}
use Rattle.std.proofs.lemmas.Option.{slice_get_within}
use Rattle.std.proofs.lemmas.Bool.{eqb-true, ltb-true}
use Rattle.gaspi_types.proofs.Chains.{both}
use Rattle.gaspi_types.proofs.Items.{none-past}
use Rattle.gaspi_types.specs.Collectives.{AreValuesOf, contribution_in, contributions_of, round_of, first_contribution, is_full, fits, made_by, reduction_of, is_round_full, round_checks, round_segments, round_reduction, fixed_by, with_joined, with_completed}
use Rattle.gaspi_types.specs.NumberTypes.{TypedNumbers}
use Rattle.gaspi_types.specs.declared.collectives.Coll.{Coll}
use Rattle.gaspi_types.specs.declared.collectives.Coll.TheVariants.{Allreduce}
use Rattle.gaspi_types.specs.declared.collectives.NumType.{NumType}
use Rattle.gaspi_types.specs.declared.collectives.Op.{Op}
use Rattle.gaspi_types.specs.declared.groups.Contribution.{Contribution}
use Rattle.gaspi_types.specs.declared.groups.Group.{Group}
use Rattle.gaspi_types.specs.declared.groups.MemberSegment.{MemberSegment}
use Rattle.gaspi_types.specs.declared.replies.Refusal.{Refusal}
use Rattle.gaspi_model.specs.RoundRules.{coll_in}
use Rattle.collective_engine.specs.Rounds.{round_buffers, IsRounds}
use Rattle.collective_engine.specs.KeptContributions.{HasItsValues, GivesNumbers}
use Rattle.collective_engine.specs.RoundBuffers.{RoundBuffers, ranks_of, is_in, IsMember, joined_by, completed_by, buffer_of, contribution_by, with_contribution, with_round_completed, is_full_for, may_join, Represents}
use Rattle.collective_engine.specs.declared.buffers.Buffers.{Buffers}
use Rattle.collective_engine.specs.declared.rounds.Rounds.TheInside.{Inside}
use Rattle.collective_engine.proofs.Alike.{full-counted}
use Rattle.collective_engine.proofs.Giving.{less, not_less, slot}
use Rattle.collective_engine.proofs.Members.{all_members, each_member, all_tested}
use Rattle.collective_engine.proofs.Represents.{members-same, first-stands, made-stands, reduction_of-stands, stands-joined, stands-left}
use Rattle.collective_engine.proofs.RoundSteps.{was_member, full_for, rounds-given, rounds-left}

-- who has given, by the counts

some-there : (xs : List Contribution) (i : ℕ) → is_some (slice_get xs i) ≡ nat_lt i (length xs)
some-there xs i = go (slice_get xs i) refl
  where
    go : (o : Option Contribution) → slice_get xs i ≡ o → is_some (slice_get xs i) ≡ nat_lt i (length xs)
    go None at = ap is_some at ∙ sym (not_less i (length xs) (none-past xs i at))
    go (Some c) at = ap is_some at ∙ sym (less i (length xs) (slice_get_within xs i c at))

some-contributed : (t : Bool) (o : Option Contribution) (c : Contribution) → o ≡ Some c → is_some (if t then o else None) ≡ t
some-contributed true o c there = ap is_some there
some-contributed false o c there = refl

-- what the condition of a join says
pub parts_of : (one : Bool) (a b : ℕ) → (one && (a == b) && nat_lt a 4294967295) ≡ true → (one ≡ true) × (a ≡ b) × (a < 4294967295)
parts_of one a b h =
    let first = both (one && (a == b)) (nat_lt a 4294967295) h in
    let second = both one (a == b) first.0 in
    (second.0, eqb-true a b second.1, ltb-true a 4294967295 first.1)

module _ (r : Inside) (now : RoundBuffers) (view : round_buffers r ≡ now) (ok : IsRounds r) (rank : ℕ) (below : rank < 16) where
  standing : (g : Group) → Represents g now → Represents g (round_buffers r)
  standing g stands = subst (λ (t : RoundBuffers). Represents g t) (sym view) stands

  pub may : (coll : Coll) → may_join now rank coll ≡ true → (is_in (fixed_by r.members coll) rank ≡ true) × (joined_by r.buffers rank ≡ completed_by r.buffers rank) × (joined_by r.buffers rank < 4294967295)
  may coll yes_it_may = parts_of (is_in (fixed_by r.members coll) rank) (joined_by r.buffers rank) (completed_by r.buffers rank) (subst (λ (t : RoundBuffers). may_join t rank coll ≡ true) (sym view) yes_it_may)

  member : is_in now.members rank ≡ true → is_in r.members rank ≡ true
  member mine = subst (λ (t : RoundBuffers). is_in t.members rank ≡ true) (sym view) mine

  full_in : is_full_for now rank ≡ true → is_full (contribution_by r.buffers (completed_by r.buffers rank)) (ranks_of r.members) ≡ true
  full_in full = subst (λ (t : RoundBuffers). is_full_for t rank ≡ true) (sym view) full

  pub checks : (coll : Coll) (result : Result (Unit {0}) Refusal) (ranks : List ℕ) → may_join now rank coll ≡ true → ranks ≡ r.ranks
      → result ≡ fits (first_contribution (contribution_by r.buffers (completed_by r.buffers rank)) ranks) coll → (g : Group) → Represents g now → result ≡ round_checks g rank coll
  checks coll result ranks mine same is g stands =
      let one = first-stands g (round_buffers r) rank ok.rounds (standing g stands) below (was_member r.members coll rank (may coll mine).0) in
      let all = same ∙ ok.ranks in
      is ∙ ap (λ (o : Option Contribution). fits o coll) (rw all (sym one))

  pub fulls : (result : Bool) (ranks : List ℕ) → ranks ≡ r.ranks → result ≡ is_full (contribution_by r.buffers (completed_by r.buffers rank)) ranks
      → (g : Group) → Represents g now → result ≡ is_round_full g rank
  fulls result ranks same is g stands = is ∙ (let all = same ∙ ok.ranks in rw all (sym there))
    where
      here : Represents g (round_buffers r)
      here = standing g stands

      one : (m : ℕ) → IsMember r.members m → is_some (contribution_in g (completed_by r.buffers rank) m) ≡ is_some (contribution_by r.buffers (completed_by r.buffers rank) m)
      one m its =
          let count = here.joined m in
          let slots = slot r.buffers ok.rounds.capacity (completed_by r.buffers rank) m its.0 in
          some-there (contributions_of g m).contributions (completed_by r.buffers rank)
          ∙ ap (nat_lt (completed_by r.buffers rank)) count
          ∙ sym (some-contributed (nat_lt (completed_by r.buffers rank) (joined_by r.buffers m)) (slice_get (buffer_of r.buffers (completed_by r.buffers rank)) m) slots.0 slots.1)

      there : is_round_full g rank ≡ is_full (contribution_by r.buffers (completed_by r.buffers rank)) (ranks_of r.members)
      there =
          let round = here.completed rank in
          rw (round, members-same g r.members here.members)
          (full-counted (contribution_in g (completed_by r.buffers rank)) (contribution_by r.buffers (completed_by r.buffers rank)) (ranks_of r.members)
          (all_members r.members (λ m. is_some (contribution_in g (completed_by r.buffers rank) m) ≡ is_some (contribution_by r.buffers (completed_by r.buffers rank) m)) one))

  pub makes : (result : List MemberSegment) (ranks : List ℕ) → is_in now.members rank ≡ true → ranks ≡ r.ranks
      → result ≡ made_by (contribution_by r.buffers (completed_by r.buffers rank)) ranks → (g : Group) → Represents g now → result ≡ round_segments g rank
  makes result ranks mine same is g stands =
      let one = made-stands g (round_buffers r) rank ok.rounds (standing g stands) below (λ m its. member mine) in
      let all = same ∙ ok.ranks in
      is ∙ (rw all (sym one))

  -- what the members have given to an allreduce
  pub gives : (ranks : List ℕ) (own : Option Coll) (op : Op) (t : NumType) (n : ℕ) → is_in now.members rank ≡ true → is_full_for now rank ≡ true → ranks ≡ r.ranks
      → own ≡ coll_in (contribution_by r.buffers (completed_by r.buffers rank) rank) → own ≡ Some (Allreduce op t n)
      → AllByRecursion (λ m. GivesNumbers t n (contribution_by r.buffers (completed_by r.buffers rank) m)) ranks
  gives ranks own op t n mine full same is coll =
      let all = same ∙ ok.ranks in
      rw all (all_members r.members (λ m. GivesNumbers t n (contribution_by r.buffers (completed_by r.buffers rank) m)) (λ m its. one m its (contribution_by r.buffers (completed_by r.buffers rank) m) refl (contribution_by r.buffers (completed_by r.buffers rank) rank) refl))
    where
      numbers : (coll : Coll) (values : TypedNumbers) → coll ≡ Allreduce op t n → AreValuesOf coll values → (values.num_type ≡ t) × (length values.items ≡ n)
      numbers coll values at have = rw at at have

      near : (m : ℕ) → IsMember r.members m → joined_by r.buffers m ≤ completed_by r.buffers rank + 2
      near m its =
          let one = ok.rounds.close.greatest m in
          let two = ok.rounds.close.greatest rank in
          let three = ok.rounds.close.near m rank its (below, member mine) in
          omega arith

      one : (m : ℕ) → IsMember r.members m → (o : Option Contribution) → contribution_by r.buffers (completed_by r.buffers rank) m ≡ o → (p : Option Contribution) → contribution_by r.buffers (completed_by r.buffers rank) rank ≡ p
          → GivesNumbers t n (contribution_by r.buffers (completed_by r.buffers rank) m)
      one m its None at p there =
          absurd (let some = each_member r.members (λ k. is_some (contribution_by r.buffers (completed_by r.buffers rank) k) ≡ true) (all_tested (λ k. is_some (contribution_by r.buffers (completed_by r.buffers rank) k)) (ranks_of r.members) (full_in full)) m its in
          let no : ⊥ = cc in no)
      one m its (Some d) at None there = absurd (let none = rw there at is in let no : ⊥ = cc in no)
      one m its (Some d) at (Some e) there =
          let whole = (ok.rounds.agree.whole (completed_by r.buffers rank) m d its (near m its) at).0 in
          let alike = ok.rounds.agree.alike (completed_by r.buffers rank) m rank d e its (below, member mine) (near m its) (near rank (below, member mine)) at there in
          let mine_is : Some e.args.coll ≡ Some (Allreduce op t n) = sym (ap coll_in there) ∙ sym is ∙ coll in
          let for_it : d.args.coll ≡ Allreduce op t n = alike ∙ (let inner : e.args.coll ≡ Allreduce op t n = cc in inner) in
          rw at (numbers d.args.coll d.args.values for_it whole)

  pub folds : (result : TypedNumbers) (ranks : List ℕ) (own : Option Coll) (op : Op) (t : NumType) (n : ℕ) → is_in now.members rank ≡ true → ranks ≡ r.ranks
      → own ≡ coll_in (contribution_by r.buffers (completed_by r.buffers rank) rank) → own ≡ Some (Allreduce op t n)
      → result ≡ reduction_of (contribution_by r.buffers (completed_by r.buffers rank)) op t ranks
      → (g : Group) (op' : Op) (t' : NumType) (n' : ℕ) → Represents g now → coll_in (contribution_in g (round_of g rank) rank) ≡ Some (Allreduce op' t' n') → result ≡ round_reduction g rank op' t'
  folds result ranks own op t n mine same is coll reduced g op' t' n' stands there =
      let here = standing g stands in
      let round = here.completed rank in
      let greatest = ok.rounds.close.greatest rank in
      let given = here.given (completed_by r.buffers rank) rank (omega arith) in
      let given_there : coll_in (contribution_in g (completed_by r.buffers rank) rank) ≡ Some (Allreduce op' t' n') = rw round at there in
      let alike : ◌≡◌ {A = Option Coll} (Some (Allreduce op t n)) (Some (Allreduce op' t' n')) = sym coll ∙ is ∙ sym (ap coll_in given) ∙ given_there in
      let ops : op ≡ op' = cc in
      let types : t ≡ t' = cc in
      let one = reduction_of-stands g (round_buffers r) rank ok.rounds here below (λ m its. member mine) op' t' in
      let all = same ∙ ok.ranks in
      reduced ∙ (rw (all, ops, types) (sym one))

  pub joined-one : is_in now.members rank ≡ true → is_full_for now rank ≡ true → joined_by r.buffers rank ≡ completed_by r.buffers rank + 1
  joined-one mine full =
      let joined = full_for r.members r.buffers (completed_by r.buffers rank) (full_in full) rank (below, member mine) in
      let greatest = ok.rounds.close.greatest rank in
      omega arith

  pub leaves : (b : Buffers) → is_in now.members rank ≡ true → is_full_for now rank ≡ true → b ≡ with_round_completed r.buffers rank → IsRounds (record { members = r.members; ranks = r.ranks; buffers = b })
  leaves b mine full is = rw is (record { ranks = ok.ranks; rounds = rounds-left r.members r.buffers rank ok.rounds below (member mine) (full_in full) })

  pub left-stands : (b : Buffers) → is_in now.members rank ≡ true → is_full_for now rank ≡ true → b ≡ with_round_completed r.buffers rank
      → (g : Group) → Represents g now → Represents (with_completed g rank) (record { members = r.members; buffers = b })
  left-stands b mine full is g stands =
      rw is (stands-left g (round_buffers r) rank ok.rounds (standing g stands) below (member mine) (full_in full) (full_for r.members r.buffers (completed_by r.buffers rank) (full_in full) rank (below, member mine)))

  pub joins : (c : Contribution) (members : Option ℕ) (ranks known : List ℕ) (b : Buffers) → may_join now rank c.args.coll ≡ true → HasItsValues c.args
      → members ≡ fixed_by r.members c.args.coll → ranks ≡ ranks_of members → b ≡ with_contribution r.buffers rank c → known ≡ r.ranks
      → ((kept : Coll) → coll_in (first_contribution (contribution_by r.buffers (completed_by r.buffers rank)) known) ≡ Some kept → kept ≡ c.args.coll)
      → IsRounds (record { members = members; ranks = ranks; buffers = b })
  joins c members ranks known b mine values fixed listed given same first =
      let all = same ∙ ok.ranks in
      rw (given, listed, fixed) (record {
        ranks = refl;
        rounds = rounds-given r.members r.buffers rank c ok.rounds below (may c.args.coll mine).0 (may c.args.coll mine).1 (λ kept is. first kept (rw all is)) values;
      })

  pub joined-stands : (c : Contribution) (members : Option ℕ) (b : Buffers) → members ≡ fixed_by r.members c.args.coll → b ≡ with_contribution r.buffers rank c
      → (g : Group) → Represents g now → rank < length g.contributions → Represents (with_joined g rank c) (record { members = members; buffers = b })
  joined-stands c members b fixed given g stands within = rw (given, fixed) (stands-joined g (round_buffers r) rank c ok.rounds (standing g stands) below within)
