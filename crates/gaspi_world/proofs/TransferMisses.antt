-- A try to make a transfer that took its origin's shard, missed another one, looked, and gave the first back.
use Rattle.std.proofs.Common.{◌≡◌, ℕ, List, refl, ap, sym, subst, ◌∙◌}
use Rattle.commit_table.specs.Machine.{Machine}
use Rattle.commit_table.specs.Calls.{Looked, MissWitness}
use Rattle.commit_table.specs.Views.{after_take, after_miss, after_look, after_give_back}
use Rattle.commit_table.specs.declared.views.PassView.{PassView}
use Rattle.commit_table.specs.declared.views.LockRecord.{LockRecord}
use Rattle.gaspi_world.specs.Transfers.{MissedLooking}

module _ {S X E : Type 0} (m : Machine X E) (May : List E → ℕ → Type 0) where
  all-moves : (v : PassView S E) (i j number : ℕ) (g h : List E) (records : List LockRecord) → MissWitness (after_take v i g) j records → Looked m (after_miss (after_take v i g) j records) number h (after_look (after_miss (after_take v i g) j records) h)
      → May h j → MissedLooking m v i May (after_give_back (after_look (after_miss (after_take v i g) j records) h) i)
  all-moves v i j number g h records met l may = record {
    shard = j;
    may = may;
    missed = refl;
    has_party = met.has_party;
    before = met.before;
    first = met.first;
    met = met.goes_on;
    tried = met.own;
    lock_operations = refl;
    other = met.other;
    holds = met.holds;
    apart = met.apart;
    goes_on = l.seen;
    legal = l.legal;
    own = l.own;
    looks = refl;
    mine = refl;
    commits = refl;
    party = refl;
    start = refl;
  }

  pub missed-looking : (v t u x z : PassView S E) (i j number : ℕ) (g h : List E) (records : List LockRecord) → t ≡ after_take v i g → u ≡ after_miss t j records → MissWitness t j records → Looked m u number h x → z ≡ after_give_back x i → May h j → MissedLooking m v i May z
  missed-looking v t u x z i j number g h records took_is missed_is met l last may =
      let first : u ≡ after_miss (after_take v i g) j records = missed_is ∙ ap (λ (y : PassView S E). after_miss y j records) took_is in
      let whole : x ≡ after_look (after_miss (after_take v i g) j records) h = l.is ∙ ap (λ (y : PassView S E). after_look y h) first in
      let there : Looked m (after_miss (after_take v i g) j records) number h (after_look (after_miss (after_take v i g) j records) h) =
      subst (λ (y : PassView S E). Looked m (after_miss (after_take v i g) j records) number h y) whole (subst (λ (y : PassView S E). Looked m y number h x) first l) in
      subst (λ (y : PassView S E). MissedLooking m v i May y) (sym (last ∙ ap (λ (y : PassView S E). after_give_back y i) whole))
      (all-moves v i j number g h records (subst (λ (y : PassView S E). MissWitness y j records) took_is met) there may)
