-- What several transfers that follow one another come to, step by step.
use Rattle.std.proofs.Common.{◌≡◌, ℕ, zero, suc, ◌+◌, true, List, [], ◌∷◌, ◌++◌, length, Option, None, Some, ◌⊎◌, inl, inr, refl, sym, ap, ◌∙◌, subst, arith, append_assoc, append-nil, length-append}
use Rattle.std.specs.List.{slice_get}
use mathlib.Core.List.{IsPrefix}
use Rattle.gaspi_types.specs.World.{ShapeValue}
use Rattle.gaspi_types.specs.declared.events.Event.{Event}
use Rattle.gaspi_types.specs.declared.events.Event.TheVariants.{Called, Joined, Take, Put}
use Rattle.gaspi_model.specs.Parties.{party_of}
use Rattle.commit_table.specs.Calls.{Looked}
use Rattle.commit_table.specs.Views.{after_take, after_miss, after_give_back, mine_after}
use Rattle.commit_table.specs.declared.views.PassView.{PassView}
use Rattle.commit_table.specs.declared.views.LockRecord.{LockRecord}
use Rattle.commit_table.proofs.Lists.{prefix_self, prefix_trans}
use Rattle.gaspi_world.specs.Transfers.{is_transfer_of, IsMovedBehind, HasMoved, HasMovedOne}
use Rattle.gaspi_world.specs.WorldMachine.{world_machine}

-- what stands in a list stands there in each that goes on from it
at-prefix : {A : Type 0} (xs ys : List A) (k : ℕ) (x : A) → IsPrefix xs ys → slice_get xs k ≡ Some x → slice_get ys k ≡ Some x
at-prefix xs ys k x p at = subst (λ l. slice_get l k ≡ Some x) p.1 (go xs p.0 k at)
  where
    go : (xs rest : List _) (k : ℕ) → slice_get xs k ≡ Some x → slice_get (xs ++ rest) k ≡ Some x
    go [] rest k at = absurd (let no : ⊥ = cc in no)
    go (y ∷ xs) rest zero at = at
    go (y ∷ xs) rest (suc k) at = go xs rest k at

at-end : {A : Type 0} (xs : List A) (x : A) → slice_get (xs ++ x ∷ []) (length xs) ≡ Some x
at-end [] x = refl
at-end (y ∷ xs) x = at-end xs x

-- what stands in two lists stands in one of them
of-both : {A : Type 0} (xs ys : List A) (k : ℕ) (x : A) → slice_get (xs ++ ys) k ≡ Some x → (slice_get xs k ≡ Some x) ⊎ ((m : ℕ) × (slice_get ys m ≡ Some x))
of-both [] ys k x at = inr (k, at)
of-both (y ∷ xs) ys zero x at = inl at
of-both (y ∷ xs) ys (suc k) x at = of-both xs ys k x at

pub same-prefix : {A : Type 0} (xs ys : List A) → ys ≡ xs → IsPrefix xs ys
same-prefix xs ys same = subst (IsPrefix xs) (sym same) (prefix_self xs)

pub more-prefix : {A : Type 0} (xs ys more : List A) → ys ≡ xs ++ more → IsPrefix xs ys
more-prefix xs ys more is = (more, sym is)

-- a transfer is of no party
of-nobody : (w : ShapeValue) (origin : ℕ) (e : Event) → is_transfer_of origin e ≡ true → party_of w e ≡ None
of-nobody w origin (Called c call reply) is = absurd (let no : ⊥ = cc in no)
of-nobody w origin (Joined c id args) is = absurd (let no : ⊥ = cc in no)
of-nobody w origin (Take o queue target number outcome) is = refl
of-nobody w origin (Put o queue target number outcome) is = refl

module _ {S : Type 0} (w : ShapeValue) (origin : ℕ) where
  pub moved-same : (v : PassView S Event) → HasMoved w origin v v
  moved-same v = record {
    places = [];
    commits = sym (append-nil v.commits);
    each = λ k place at. absurd (let no : ⊥ = cc in no);
    seen = prefix_self v.seen;
    looks = prefix_self v.looks;
    missed = prefix_self v.missed;
    mine = refl;
    party = refl;
    start = refl;
  }

  pub moved-then : (v u n : PassView S Event) → HasMoved w origin v u → HasMoved w origin u n → HasMoved w origin v n
  moved-then v u n first then = record {
    places = first.places ++ then.places;
    commits = then.commits ∙ (ap (λ (l : List ℕ). l ++ then.places) first.commits ∙ append_assoc v.commits first.places then.places);
    each = λ k place at. by k place (of-both first.places then.places k place at);
    seen = prefix_trans v.seen u.seen n.seen first.seen then.seen;
    looks = prefix_trans v.looks u.looks n.looks first.looks then.looks;
    missed = prefix_trans v.missed u.missed n.missed first.missed then.missed;
    mine = then.mine ∙ first.mine;
    party = then.party ∙ first.party;
    start = then.start ∙ first.start;
  }
    where
      by : (k place : ℕ) → (slice_get first.places k ≡ Some place) ⊎ ((m : ℕ) × (slice_get then.places m ≡ Some place))
          → (e : Event) × (slice_get n.seen place ≡ Some e) × (is_transfer_of origin e ≡ true)
      by k place (inl at) = (let was = first.each k place at in (was.0, at-prefix u.seen n.seen place was.0 then.seen was.1, was.2))
      by k place (inr (m, at)) = then.each m place at

  pub one-then : (v u n : PassView S Event) → HasMovedOne w origin v u → HasMoved w origin u n → HasMovedOne w origin v n
  unfolding moved-then
  one-then v u n first then = (moved-then v u n first.0 then, (let count = length-append first.0.places then.places in let some = first.1 in omega arith))

  pub then-one : (v u n : PassView S Event) → HasMoved w origin v u → HasMovedOne w origin u n → HasMovedOne w origin v n
  unfolding moved-then
  then-one v u n first then = (moved-then v u n first then.0, (let count = length-append first.places then.0.places in let some = then.1 in omega arith))

  -- one transfer was committed
  pub moved-by : (v n : PassView S Event) → IsMovedBehind w origin v n → HasMovedOne w origin v n
  moved-by v n (e, is, added) = (
    record {
      places = length added.before ∷ [];
      commits = added.commits;
      each = each;
      seen = prefix_trans v.seen added.before n.seen added.later (more-prefix added.before n.seen (e ∷ []) added.seen);
      looks = same-prefix v.looks n.looks added.looks;
      missed = same-prefix v.missed n.missed added.missed;
      mine = added.mine ∙ ap (λ (party : Option ℕ). mine_after party v.mine e) (of-nobody w origin e is);
      party = added.party_is;
      start = added.start;
    },
    omega arith,
  )
    where
      each : (k place : ℕ) → slice_get (length added.before ∷ []) k ≡ Some place → (x : Event) × (slice_get n.seen place ≡ Some x) × (is_transfer_of origin x ≡ true)
      each zero place at =
          let same : length added.before ≡ place = cc in
          (e, subst (λ (k : ℕ). slice_get n.seen k ≡ Some e) same (subst (λ (l : List Event). slice_get l (length added.before) ≡ Some e) (sym added.seen) (at-end added.before e)), is)
      each (suc k) place at = absurd (let no : ⊥ = cc in no)

  -- a shard was missed; or taken, and a look made; or given back
  pub moved-missed : (v u : PassView S Event) (shard : ℕ) (records : List LockRecord) → u ≡ after_miss v shard records → HasMoved w origin v u
  moved-missed v u shard records is = subst (λ (k : PassView S Event). HasMoved w origin v k) (sym is) (record {
    places = [];
    commits = sym (append-nil v.commits);
    each = λ k place at. absurd (let no : ⊥ = cc in no);
    seen = prefix_self v.seen;
    looks = prefix_self v.looks;
    missed = (shard ∷ [], refl);
    mine = refl;
    party = refl;
    start = refl;
  })

  pub moved-looked : (v u n : PassView S Event) (shard number : ℕ) (g h : List Event) → u ≡ after_take v shard g → Looked (world_machine w) u number h n → HasMoved w origin v n
  moved-looked v u n shard number g h is look =
      let there : Looked (world_machine w) (after_take v shard g) number h n = subst (λ (k : PassView S Event). Looked (world_machine w) k number h n) is look in
      subst (λ (k : PassView S Event). HasMoved w origin v k) (sym there.is) (record {
        places = [];
        commits = sym (append-nil v.commits);
        each = λ k place at. absurd (let no : ⊥ = cc in no);
        seen = there.seen;
        looks = (length h ∷ [], refl);
        missed = prefix_self v.missed;
        mine = refl;
        party = refl;
        start = refl;
      })

  pub moved-gave : (v u : PassView S Event) (shard : ℕ) → u ≡ after_give_back v shard → HasMoved w origin v u
  moved-gave v u shard is = subst (λ (k : PassView S Event). HasMoved w origin v k) (sym is) (record {
    places = [];
    commits = sym (append-nil v.commits);
    each = λ k place at. absurd (let no : ⊥ = cc in no);
    seen = prefix_self v.seen;
    looks = prefix_self v.looks;
    missed = prefix_self v.missed;
    mine = refl;
    party = refl;
    start = refl;
  })
