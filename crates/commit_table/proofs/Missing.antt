-- What an attempt tells that missed its first shard, or its second.
use Rattle.std.proofs.Common.{◌≡◌, ℕ, List, [], ◌∷◌, refl, ap, sym, subst, ◌∙◌}
use Rattle.commit_table.specs.declared.views.LockOp.TheVariants as lock_op
use Rattle.commit_table.specs.declared.views.PassView.{PassView}
use Rattle.commit_table.specs.declared.views.LockRecord.{LockRecord}
use Rattle.commit_table.specs.Machine.{Machine}
use Rattle.commit_table.specs.Calls.{HasSoundView, MissWitness}
use Rattle.commit_table.specs.Views.{after_take, after_miss, after_give_back}
use Rattle.commit_table.specs.Attempts.{IsMissed}

module _ {S X E : Type 0} (m : Machine X E) (May : ℕ → Type 0) where
  one_missed : (v : PassView S E) (i : ℕ) (records : List LockRecord) → May i → HasSoundView m v → MissWitness v i records → IsMissed m v May (after_miss v i records)
  one_missed v i records may sound t = record {
    shard = i;
    may = may;
    missed = refl;
    has_party = t.has_party;
    before = t.before;
    first = t.first;
    met = t.goes_on;
    added = λ p its. ([], [], t.own p its, refl);
    other = t.other;
    holds = t.holds;
    apart = t.apart;
    mine = refl;
    commits = refl;
    looks = refl;
    seen = refl;
    legal = sound.legal;
    own = sound.own;
    party = refl;
    start = refl;
  }

  two_missed : (v : PassView S E) (i j : ℕ) (g : List E) (records : List LockRecord) → May i → HasSoundView m v → MissWitness (after_take v j g) i records → IsMissed m v May (after_give_back (after_miss (after_take v j g) i records) j)
  two_missed v i j g records may sound t = record {
    shard = i;
    may = may;
    missed = refl;
    has_party = t.has_party;
    before = t.before;
    first = t.first;
    met = t.goes_on;
    added = λ p its. ((j, lock_op.Took) ∷ [], (j, lock_op.GaveBack) ∷ [], t.own p its, refl);
    other = t.other;
    holds = t.holds;
    apart = t.apart;
    mine = refl;
    commits = refl;
    looks = refl;
    seen = refl;
    legal = sound.legal;
    own = sound.own;
    party = refl;
    start = refl;
  }

  -- the one shard was missed
  pub first_missed : (v w : PassView S E) (i : ℕ) (records : List LockRecord) → May i → HasSoundView m v → w ≡ after_miss v i records → MissWitness v i records → IsMissed m v May w
  first_missed v w i records may sound is t = subst (λ (z : PassView S E). IsMissed m v May z) (sym is) (one_missed v i records may sound t)

  -- the second shard was missed, and the first given back
  pub second_missed : (v u w z : PassView S E) (i j : ℕ) (g : List E) (records : List LockRecord) → May i → HasSoundView m v → u ≡ after_take v j g → w ≡ after_miss u i records → MissWitness u i records → z ≡ after_give_back w j → IsMissed m v May z
  second_missed v u w z i j g records may sound taken is t last =
      let whole : z ≡ after_give_back (after_miss (after_take v j g) i records) j = last ∙ (ap (λ (y : PassView S E). after_give_back y j) is ∙ ap (λ (y : PassView S E). after_give_back (after_miss y i records) j) taken) in
      subst (λ (y : PassView S E). IsMissed m v May y) (sym whole) (two_missed v i j g records may sound (subst (λ (y : PassView S E). MissWitness y i records) taken t))
