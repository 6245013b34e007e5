-- Of two histories that begin one, the longer goes on from both.
use Rattle.std.proofs.Common.{◌≡◌, ◌<◌, ◌≤◌, Bool, true, false, cond, ltb, List, length, sym, subst, arith}
use mathlib.Core.Logic.{dite}
use mathlib.Core.List.{IsPrefix}
use Rattle.std.proofs.Math.Decide.{dec_lt}
use Rattle.std.proofs.lemmas.Bool.{lt-ltb, le-ltb}
use Rattle.commit_table.specs.Views.{longer, shorter}
use Rattle.commit_table.proofs.Lists.{prefix_self, prefix_both, prefix_within}

module _ {E : Type 0} where
  by_length : (xs ys : List E) (P : List E → List E → Type 0) → (length xs < length ys → P ys xs) → (length ys ≤ length xs → P xs ys) → P (longer xs ys) (shorter xs ys)
  by_length xs ys P below over = dite (dec_lt (length xs) (length ys))
      (λ lt. subst (λ b. P (cond b ys xs) (cond b xs ys)) (sym (lt-ltb (length xs) (length ys) lt)) (below lt))
      (λ upto. subst (λ b. P (cond b ys xs) (cond b xs ys)) (sym (le-ltb (length xs) (length ys) (omega arith))) (over (omega arith)))

  seen_by : (b : Bool) (xs ys h : List E) → IsPrefix (cond b ys xs) h → IsPrefix (cond b xs ys) h → IsPrefix xs h × IsPrefix ys h
  seen_by true xs ys h p q = (q, p)
  seen_by false xs ys h p q = (p, q)

  -- what goes on from the longer and from the other goes on from both
  pub both_begin : (xs ys h : List E) → IsPrefix (longer xs ys) h → IsPrefix (shorter xs ys) h → IsPrefix xs h × IsPrefix ys h
  both_begin xs ys h p q = seen_by (ltb (length xs) (length ys)) xs ys h p q

  module _ (xs ys h : List E) (p : IsPrefix xs h) (q : IsPrefix ys h) where
    pub longer_begins : IsPrefix (longer xs ys) h
    longer_begins = by_length xs ys (λ l s. IsPrefix l h) (λ lt. q) (λ le. p)

    pub first_begins : IsPrefix xs (longer xs ys)
    first_begins = by_length xs ys (λ l s. IsPrefix xs l) (λ lt. prefix_within xs ys h p q (omega arith)) (λ le. prefix_self xs)

    pub second_begins : IsPrefix ys (longer xs ys)
    second_begins = by_length xs ys (λ l s. IsPrefix ys l) (λ lt. prefix_self ys) (λ le. prefix_within ys xs h q p (omega arith))

    pub shorter_begins : IsPrefix (shorter xs ys) (longer xs ys)
    shorter_begins = by_length xs ys (λ l s. IsPrefix s l) (λ lt. prefix_within xs ys h p q (omega arith)) (λ le. prefix_within ys xs h q p (omega arith))

    -- where one of them is all of it, so is the longer
    pub first_whole : xs ≡ h → longer xs ys ≡ h
    first_whole is = prefix_both (longer xs ys) h longer_begins (subst (λ z. IsPrefix z (longer xs ys)) is first_begins)

    pub second_whole : ys ≡ h → longer xs ys ≡ h
    second_whole is = prefix_both (longer xs ys) h longer_begins (subst (λ z. IsPrefix z (longer xs ys)) is second_begins)
