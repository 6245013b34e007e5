-- A collective that is resumed, and the round of its group.
use Rattle.std.proofs.Common.{◌≡◌, ◌==◌, ℕ, ◌-◌, ◌≤◌, true, filter, take, drop, get_or, arith, List, [], ◌∷◌, length, Option, None, Some, is_some, Ok, refl, sym, ap, subst, ◌∙◌}
use Rattle.std.specs.List.{range_with_len}
use Rattle.std.specs.Option.{unwrap_or}
use Rattle.std.proofs.lemmas.Nat.Bits.{bit_at-zero}
use Rattle.gaspi_types.specs.Checks.{check}
use Rattle.gaspi_types.specs.Collectives.{AreValuesOf, members_of, members_in, contributions_of, round_of, is_full, values_in, resume, has_same_args, same_coll, same_args}
use Rattle.gaspi_types.specs.Masks.{is_member}
use Rattle.gaspi_types.specs.NumberTypes.{TypedNumbers}
use Rattle.gaspi_types.specs.Replies.{same_numbers}
use Rattle.gaspi_types.specs.declared.calls.Call.{Call}
use Rattle.gaspi_types.specs.declared.calls.Call.TheVariants as calls
use Rattle.gaspi_types.specs.declared.collectives.Coll.{Coll}
use Rattle.gaspi_types.specs.declared.collectives.Coll.TheVariants.{Allreduce}
use Rattle.gaspi_types.specs.declared.collectives.NumType.{NumType}
use Rattle.gaspi_types.specs.declared.groups.Args.{Args}
use Rattle.gaspi_types.specs.declared.groups.Contribution.{Contribution}
use Rattle.gaspi_types.specs.declared.groups.Group.{Group}
use Rattle.gaspi_types.specs.declared.groups.PendingCollective.{PendingCollective}
use Rattle.gaspi_types.specs.declared.groups.Resume.TheVariants.{Same}
use Rattle.gaspi_types.specs.declared.replies.Refusal.{Refusal}
use Rattle.gaspi_types.specs.declared.replies.Refusal.TheVariants.{ResumeOther}
use Rattle.gaspi_types.specs.declared.replies.Reply.{Reply}
use Rattle.gaspi_types.specs.declared.replies.Reply.TheVariants as replies
use Rattle.gaspi_types.proofs.Chains.{bind_then, check_holds, both}
use Rattle.gaspi_model.specs.CollectiveCalls.{args_of}
use Rattle.gaspi_model.specs.Contributions.{IsSoundGroup, AreSoundContributions}
use Rattle.gaspi_model.proofs.Same.{same_refusal-same, same_reply-same}
use Rattle.plain_calls.specs.Rounds.{AreAlike, IsReducible}

-- no rank is in the empty set
no_members : (ranks : List ℕ) → filter (is_member 0) ranks ≡ []
no_members [] = refl
no_members (rank ∷ ranks) = let none = bit_at-zero rank in rw none (no_members ranks)

members-of-none : members_of 0 ≡ []
members-of-none = no_members (range_with_len 0 16)

pub members-of-or-none : (g : Group) → members_of (unwrap_or g.members 0) ≡ members_in g
members-of-or-none g = by_members g.members refl
  where
    by_members : (o : Option ℕ) → g.members ≡ o → members_of (unwrap_or g.members 0) ≡ members_in g
    by_members None is = rw is members-of-none
    by_members (Some mask) is = rw is refl

-- as many values are given by the first of members who have all given
count-contributed : (given : ℕ → Option Contribution) (t : NumType) (count first : ℕ) (members : List ℕ) → is_full given (first ∷ members) ≡ true → AreAlike given t count
    → length (values_in (given first)) ≡ count
count-contributed given t count first members full alike = by_given (given first) refl (both (is_some (given first)) (is_full given members) full).0
  where
    by_given : (o : Option Contribution) → given first ≡ o → is_some (given first) ≡ true → length (values_in (given first)) ≡ count
    by_given None is there = absurd (let none = rw is at there in let no : ⊥ = cc in no)
    by_given (Some c) is there = rw is (alike first c is).1

pub count-first : (given : ℕ → Option Contribution) (t : NumType) (count first : ℕ) (members : List ℕ) → 1 ≤ length members → first ≡ get_or members 0 first → is_full given members ≡ true
    → AreAlike given t count → length (values_in (given first)) ≡ count
count-first given t count first [] some is full alike = absurd (let no : ⊥ = omega arith in no)
count-first given t count first (m ∷ members) some is full alike =
    subst (λ (n : ℕ). length (values_in (given n)) ≡ count) (sym is) (count-contributed given t count m members full alike)

-- and the others have given too
pub full-others : (given : ℕ → Option Contribution) (members : List ℕ) → is_full given members ≡ true → is_full given (take (length members - 1) (drop 1 members)) ≡ true
full-others given [] full = refl
full-others given (m ∷ members) full =
    let rest : length (m ∷ members) - 1 ≡ length members = omega arith in
    rw rest (rw (take_all members) (both (is_some (given m)) (is_full given members) full).1)
  where
    take_all : (xs : List ℕ) → take (length xs) xs ≡ xs
    take_all [] = refl
    take_all (x ∷ xs) = ap (λ (ys : List ℕ). x ∷ ys) (take_all xs)

-- collectives and arguments that compare as the same are equal
pub same_coll-same : (a b : Coll) → same_coll a b ≡ true → a ≡ b
same_coll-same a b same = let refusals : ◌≡◌ {A = Refusal} (ResumeOther a) (ResumeOther b) = same_refusal-same (ResumeOther a) (ResumeOther b) same in cc

same_numbers-same : (a b : TypedNumbers) → same_numbers a b ≡ true → a ≡ b
same_numbers-same a b same = let lists : ◌≡◌ {A = Reply} (replies.List a) (replies.List b) = same_reply-same (replies.List a) (replies.List b) same in cc

pub same_args-same : (a b : Args) → same_args a b ≡ true → a ≡ b
same_args-same a b same =
    let parts = both (same_coll a.coll b.coll) (same_numbers a.values b.values) same in
    let colls = same_coll-same a.coll b.coll parts.0 in
    let values = same_numbers-same a.values b.values parts.1 in
    ap (λ (c : Coll). record { coll = c; values = a.values }) colls ∙ ap (λ (v : TypedNumbers). record { coll = b.coll; values = v }) values

-- the arguments of a collective that is resumed are those that are pending
pub resumed_same : (p : PendingCollective) (thread : ℕ) (args : Args) → resume (Some p) thread (Some args) ≡ Ok Same → args ≡ p.args
resumed_same p thread args is =
    bind_then (check (p.thread == thread) _) _ _ is (λ u mine more.
    bind_then (check (has_same_args (Some args) p.args) _) _ _ more (λ u same more.
    same_args-same args p.args (check_holds _ _ _ same)))

-- so is what is given to the round of an allreduce that is resumed
pub reducible_by : (g : Group) (me thread events members : ℕ) (pending : Option PendingCollective) (call : Call) → IsSoundGroup (length g.contributions) g → AreSoundContributions events pending (contributions_of g me)
    → resume pending thread (args_of members call) ≡ Ok Same → IsReducible g me call
reducible_by g me thread events members None (calls.Allreduce call) group part is = absurd (let no : ⊥ = cc in no)
reducible_by g me thread events members (Some p) (calls.Allreduce call) group part is =
    let mine = resumed_same p thread (record { coll = Allreduce call.op call.values.num_type (length call.values.items); values = call.values }) is in
    let last = part.last p refl in (
      length call.values.items,
      λ rank c given.
          let agree = group.agree (round_of g me) me rank last.0 c last.1 given in
          let whole = group.whole (round_of g me) rank c given in
          let coll : c.args.coll ≡ Allreduce call.op call.values.num_type (length call.values.items) =
          sym agree ∙ ap (λ (a : Args). a.coll) last.2 ∙ sym (ap (λ (a : Args). a.coll) mine) in
          subst (λ (k : Coll). AreValuesOf k c.args.values) coll whole,
    )
reducible_by g me thread events members pending call group part is = tt
