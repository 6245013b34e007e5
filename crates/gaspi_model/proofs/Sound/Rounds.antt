-- What joins and completions leave of a group is sound.
use Rattle.std.proofs.Common.{◌≡◌, ℕ, zero, suc, ◌+◌, ◌<◌, ◌≤◌, Bool, true, false, nat_lt, List, [], ◌∷◌, ◌++◌, length, filter, Option, None, Some, Ok, refl, sym, ap, ◌∙◌, subst, arith, ◌⊎◌, inl, inr}
use Rattle.std.specs.List.{slice_get, list_all, range_with_len}
use Rattle.std.proofs.lemmas.Bool.{ltb-true, lt-ltb}
use Rattle.std.proofs.lemmas.Option.{slice_get_within}
use Rattle.gaspi_types.specs.Collectives.{HaveOwnValues, same_coll, first_contribution, fits, members_in, contribution_in, round_of, round_checks, fixed_by, with_joined, with_completed}
use Rattle.gaspi_types.specs.Masks.{is_member}
use Rattle.gaspi_types.specs.declared.collectives.Coll.{Coll}
use Rattle.gaspi_types.specs.declared.collectives.Coll.TheVariants.{Commit}
use Rattle.gaspi_types.specs.declared.groups.Contribution.{Contribution}
use Rattle.gaspi_types.specs.declared.groups.Group.{Group}
use Rattle.gaspi_types.specs.declared.groups.RankContributions.{RankContributions}
use Rattle.gaspi_types.specs.declared.groups.PendingCollective.{PendingCollective}
use Rattle.gaspi_types.specs.declared.replies.Refusal.TheVariants.{CollectiveMismatch}
use Rattle.gaspi_model.specs.Contributions.{IsOneOf, AreSoundContributions, IsSoundGroup}
use Rattle.gaspi_types.proofs.Chains.{both, check_holds}
use Rattle.gaspi_types.proofs.Items.{same-or-not, length-changed_at, prefix-of-joined, behind-of-joined}
use Rattle.gaspi_model.proofs.Same.{same_coll-same}
use Rattle.gaspi_model.proofs.Sound.Contributions.{contributions-changed, contributions-there, contributions-other}

-- a test that passes all items passes each
pub each-passes : {A : Type 0} (p : A → Bool) (xs : List A) (k : ℕ) (x : A) → list_all p xs ≡ true → slice_get xs k ≡ Some x → p x ≡ true
each-passes p [] k x all at = absurd (let no : ⊥ = cc in no)
each-passes p (y ∷ xs) zero x all at = let same : y ≡ x = cc in subst (λ (z : _). p z ≡ true) same (both (p y) (list_all p xs) all).0
each-passes p (y ∷ xs) (suc k) x all at = each-passes p xs k x (both (p y) (list_all p xs) all).1 at

-- The first that has given is found where one of those that are asked has given.
first-there : (given : ℕ → Option Contribution) (p : ℕ → Bool) (xs : List ℕ) (k m : ℕ) (d : Contribution) → slice_get xs k ≡ Some m → p m ≡ true → given m ≡ Some d
    → (c : Contribution) × (r : ℕ) × (first_contribution given (filter p xs) ≡ Some c) × (given r ≡ Some c)
first-there given p [] k m d at passes gives = absurd (let no : ⊥ = cc in no)
first-there given p (x ∷ xs) zero m d at passes gives =
    let same : x ≡ m = cc in
    let px : p x ≡ true = subst (λ (n : ℕ). p n ≡ true) (sym same) passes in
    let gx : given x ≡ Some d = subst (λ (n : ℕ). given n ≡ Some d) (sym same) gives in
    (d, x, rw (px, gx) refl, gx)
first-there given p (x ∷ xs) (suc k) m d at passes gives = go (p x) refl (given x) refl (first-there given p xs k m d at passes gives)
  where
    go : (b : Bool) → p x ≡ b → (o : Option Contribution) → given x ≡ o → (c : Contribution) × (r : ℕ) × (first_contribution given (filter p xs) ≡ Some c) × (given r ≡ Some c)
        → (c : Contribution) × (r : ℕ) × (first_contribution given (filter p (x ∷ xs)) ≡ Some c) × (given r ≡ Some c)
    go false is o gx rest = (rest.0, rest.1, rw is rest.2, rest.3)
    go true is None gx rest = (rest.0, rest.1, rw (is, gx) rest.2, rest.3)
    go true is (Some c) gx rest = (c, x, rw (is, gx) refl, gx)

-- the ranks from a number on
pub in-range : (from count k : ℕ) → k < count → slice_get (range_with_len from count) k ≡ Some (from + k)
in-range from zero k less = absurd (omega arith)
in-range from (suc count) zero less = ap (λ (n : ℕ). Some n) (let same : from ≡ from + 0 = omega arith in same)
in-range from (suc count) (suc k) less = in-range (from + 1) count k (omega arith) ∙ ap (λ (n : ℕ). Some n) (let same : from + 1 + k ≡ from + suc k = omega arith in same)

-- what is given to a round fits a collective that the round was checked for
pub round-fits : (ranks : ℕ) (g : Group) (me rank : ℕ) (coll : Coll) (d : Contribution) → ranks ≤ 16 → rank < ranks → IsSoundGroup ranks g → round_checks g me coll ≡ Ok tt → contribution_in g (round_of g me) rank ≡ Some d
    → d.args.coll ≡ coll
round-fits ranks g me rank coll d few less sound checks gives =
    let one = sound.members (round_of g me) rank d gives in
    let found = first-there (contribution_in g (round_of g me)) (is_member one.mask) (range_with_len 0 16) rank rank d (in-range 0 16 rank (omega arith) ∙ ap (λ (n : ℕ). Some n) (omega arith)) one.member gives in
    let members : first_contribution (contribution_in g (round_of g me)) (members_in g) ≡ Some found.0 = rw one.fixed found.2 in
    let passes : fits (Some found.0) coll ≡ Ok tt = subst (λ (o : Option Contribution). fits o coll ≡ Ok tt) members checks in
    let same = check_holds (same_coll found.0.args.coll coll) (CollectiveMismatch found.0.args.coll) tt passes in
    sound.agree (round_of g me) rank found.1 d found.0 gives found.3 ∙ same_coll-same found.0.args.coll coll same

-- who has given is a rank
pub giver-ranked : (ranks : ℕ) (g : Group) (round rank : ℕ) (c : Contribution) → IsSoundGroup ranks g → contribution_in g round rank ≡ Some c → rank < ranks
giver-ranked ranks g round rank c sound gives = go (slice_get g.contributions rank) refl
  where
    go : (o : Option RankContributions) → slice_get g.contributions rank ≡ o → rank < ranks
    go None at = absurd (let none : ◌≡◌ {A = Option Contribution} None (Some c) = rw at at gives in let no : ⊥ = cc in no)
    go (Some part) at = (let within = slice_get_within g.contributions rank part at in let parts = sound.parts in omega arith)

-- A completion leaves what is given.
pub contributed-completed : (g : Group) (me round rank : ℕ) (part : RankContributions) → slice_get g.contributions me ≡ Some part → contribution_in (with_completed g me) round rank ≡ contribution_in g round rank
contributed-completed g me round rank part at = same-or-not me rank
    (λ same.
    subst (λ (r : ℕ). contribution_in (with_completed g me) round r ≡ contribution_in g round r) same
    (ap (λ (p : RankContributions). slice_get p.contributions round) (contributions-changed g me part (λ (p : RankContributions). record p { completed = p.completed + 1 }) g.members at ∙ ap (λ (p : RankContributions). record p { completed = p.completed + 1 }) (sym (contributions-there g me part at)))))
    (λ apart. ap (λ (p : RankContributions). slice_get p.contributions round) (contributions-other g me rank (λ (p : RankContributions). record p { completed = p.completed + 1 }) g.members apart))

pub completed-group : (ranks : ℕ) (g : Group) (me : ℕ) (part : RankContributions) → slice_get g.contributions me ≡ Some part → IsSoundGroup ranks g → IsSoundGroup ranks (with_completed g me)
completed-group ranks g me part at sound = record {
  parts = length-changed_at g.contributions me (λ (p : RankContributions). record p { completed = p.completed + 1 }) ∙ sound.parts;
  agree = λ round rank other c d gives gives'. sound.agree round rank other c d (sym (contributed-completed g me round rank part at) ∙ gives) (sym (contributed-completed g me round other part at) ∙ gives');
  whole = λ round rank c gives. sound.whole round rank c (sym (contributed-completed g me round rank part at) ∙ gives);
  members = λ round rank c gives. sound.members round rank c (sym (contributed-completed g me round rank part at) ∙ gives);
  commits = λ round rank c mask gives is. sound.commits round rank c mask (sym (contributed-completed g me round rank part at) ∙ gives) is;
}

pub completed-contributions : (events events' : ℕ) (p : PendingCollective) (part : RankContributions) → events' ≡ events + 1 → AreSoundContributions events (Some p) part → AreSoundContributions events' None (record part { completed = part.completed + 1 })
completed-contributions events events' p part more sound = record {
  count = (let count = sound.count in omega arith);
  last = λ q none. absurd (let no : ⊥ = cc in no);
  few = (let few = sound.few in omega arith);
}

-- A join gives one contribution more, to the round of its rank.
abbrev joining : Contribution → RankContributions → RankContributions
joining c p = record p { contributions = p.contributions ++ c ∷ [] }

-- what is given after a join is that, or was given before
pub contributed-joined : {P : Type 0} (g : Group) (me round rank : ℕ) (c d : Contribution) (part : RankContributions) → slice_get g.contributions me ≡ Some part → contribution_in (with_joined g me c) round rank ≡ Some d
    → (me ≡ rank → round ≡ length part.contributions → d ≡ c → P) → (contribution_in g round rank ≡ Some d → P) → P
contributed-joined {P} g me round rank c d part at gives new old = same-or-not me rank
    (λ same.
    let mine : contribution_in (with_joined g me c) round me ≡ Some d = subst (λ (r : ℕ). contribution_in (with_joined g me c) round r ≡ Some d) (sym same) gives in
    let now : slice_get (part.contributions ++ c ∷ []) round ≡ Some d =
    sym (ap (λ (p : RankContributions). slice_get p.contributions round) (contributions-changed g me part (joining c) (fixed_by g.members c.args.coll) at)) ∙ mine in
    by-place (nat_lt round (length part.contributions)) refl same now)
    (λ apart. old (sym (ap (λ (p : RankContributions). slice_get p.contributions round) (contributions-other g me rank (joining c) (fixed_by g.members c.args.coll) apart)) ∙ gives))
  where
    by-place : (b : Bool) → nat_lt round (length part.contributions) ≡ b → me ≡ rank → slice_get (part.contributions ++ c ∷ []) round ≡ Some d → P
    by-place true is same now =
        let was : slice_get part.contributions round ≡ Some d = sym (prefix-of-joined part.contributions (c ∷ []) round (ltb-true round (length part.contributions) is)) ∙ now in
        old (subst (λ (r : ℕ). contribution_in g round r ≡ Some d) same (ap (λ (p : RankContributions). slice_get p.contributions round) (contributions-there g me part at) ∙ was))
    by-place false is same now =
        let within = slice_get_within (part.contributions ++ c ∷ []) round d now in
        let many = length-joined part.contributions c in
        let less = not-less round (length part.contributions) is in
        let last : round ≡ length part.contributions = omega arith in
        let is_c : slice_get (part.contributions ++ c ∷ []) round ≡ Some c = behind-of-joined part.contributions (c ∷ []) 0 round (omega arith) in
        new same last (let some : ◌≡◌ {A = Option Contribution} (Some d) (Some c) = sym now ∙ is_c in cc)
      where
        length-joined : (xs : List Contribution) (y : Contribution) → length (xs ++ y ∷ []) ≡ length xs + 1
        length-joined [] y = refl
        length-joined (x ∷ xs) y = ap (λ (n : ℕ). suc n) (length-joined xs y) ∙ omega arith

        not-less : (a b : ℕ) → nat_lt a b ≡ false → b ≤ a
        not-less a b h = at-most (nat_lt a b) refl
          where
            at-most : (x : Bool) → nat_lt a b ≡ x → b ≤ a
            at-most x h' = (let below = below-or a b in by below)
              where
                below-or : (m n : ℕ) → (m < n) ⊎ (n ≤ m)
                below-or m zero = inr (omega arith)
                below-or zero (suc n) = inl (omega arith)
                below-or (suc m) (suc n) = shift (below-or m n)
                  where
                    shift : (m < n) ⊎ (n ≤ m) → (suc m < suc n) ⊎ (suc n ≤ suc m)
                    shift (inl l) = inl (omega arith)
                    shift (inr r) = inr (omega arith)

                by : (a < b) ⊎ (b ≤ a) → b ≤ a
                by (inr r) = r
                by (inl l) = absurd (let yes = lt-ltb a b l in let never : true ≡ false = sym yes ∙ h in let no : ⊥ = cc in no)

-- what a join may bring to a group: it agrees with what is given to its round, its rank is a member, and a commit has the members that are fixed then
pub record Brings (g : Group) (me : ℕ) (part : RankContributions) (c : Contribution) : Type 0 where
  pub agrees : (rank : ℕ) (d : Contribution) → contribution_in g (length part.contributions) rank ≡ Some d → d.args.coll ≡ c.args.coll
  pub whole : HaveOwnValues c.args
  pub member : IsOneOf (fixed_by g.members c.args.coll) me
  pub commits : (mask : ℕ) → c.args.coll ≡ Commit mask → fixed_by g.members c.args.coll ≡ Some mask

pub fixed-stays : (members : Option ℕ) (coll : Coll) (mask : ℕ) → members ≡ Some mask → fixed_by members coll ≡ Some mask
fixed-stays None coll mask h = absurd (let no : ⊥ = cc in no)
fixed-stays (Some kept) coll mask h = h

pub joined-group : (ranks : ℕ) (g : Group) (me : ℕ) (c : Contribution) (part : RankContributions) → slice_get g.contributions me ≡ Some part → Brings g me part c → IsSoundGroup ranks g → IsSoundGroup ranks (with_joined g me c)
joined-group ranks g me c part at brings sound = record {
  parts = length-changed_at g.contributions me (joining c) ∙ sound.parts;
  agree = λ round rank other x y gives gives'.
      contributed-joined {P = x.args.coll ≡ y.args.coll} g me round rank c x part at gives
      (λ mine here is.
      contributed-joined {P = x.args.coll ≡ y.args.coll} g me round other c y part at gives'
      (λ mine' here' is'. rw (is, is') refl)
      (λ was'. rw is (sym (brings.agrees other y (subst (λ (k : ℕ). contribution_in g k other ≡ Some y) here was')))))
      (λ was.
      contributed-joined {P = x.args.coll ≡ y.args.coll} g me round other c y part at gives'
      (λ mine' here' is'. rw is' (brings.agrees rank x (subst (λ (k : ℕ). contribution_in g k rank ≡ Some x) here' was)))
      (λ was'. sound.agree round rank other x y was was'));
  whole = λ round rank x gives.
      contributed-joined {P = HaveOwnValues x.args} g me round rank c x part at gives (λ mine here is. rw is brings.whole) (λ was. sound.whole round rank x was);
  members = λ round rank x gives.
      contributed-joined {P = IsOneOf (fixed_by g.members c.args.coll) rank} g me round rank c x part at gives
      (λ mine here is. subst (λ (r : ℕ). IsOneOf (fixed_by g.members c.args.coll) r) mine brings.member)
      (λ was. kept rank (sound.members round rank x was));
  commits = λ round rank x mask gives is_commit.
      contributed-joined {P = fixed_by g.members c.args.coll ≡ Some mask} g me round rank c x part at gives
      (λ mine here is. brings.commits mask (sym (ap (λ (y : Contribution). y.args.coll) is) ∙ is_commit))
      (λ was. fixed-stays g.members c.args.coll mask (sound.commits round rank x mask was is_commit));
}
  where
    kept : (rank : ℕ) → IsOneOf g.members rank → IsOneOf (fixed_by g.members c.args.coll) rank
    kept rank one = record { mask = one.mask; fixed = fixed-stays g.members c.args.coll one.mask one.fixed; member = one.member }

pub joined-contributions : (events events' : ℕ) (thread : ℕ) (c : Contribution) (part : RankContributions) → events' ≡ events + 1 → AreSoundContributions events None part
    → AreSoundContributions events' (Some (record { thread = thread; args = c.args })) (joining c part)
joined-contributions events events' thread c part more sound = record {
  count = many part.contributions ∙ (let count = sound.count in omega arith);
  last = λ p is. (
    c,
    behind-of-joined part.contributions (c ∷ []) 0 part.completed (let count = sound.count in omega arith),
    (let same : ◌≡◌ {A = PendingCollective} (record { thread = thread; args = c.args }) p = cc in ap (λ (q : PendingCollective). q.args) same),
  );
  few = (let few = sound.few in omega arith);
}
  where
    many : (xs : List Contribution) → length (xs ++ c ∷ []) ≡ length xs + 1
    many [] = refl
    many (x ∷ xs) = ap (λ (n : ℕ). suc n) (many xs) ∙ omega arith
