-- What a contribution changes in the buffers: the count of its rank, and its place in the buffer of its round.
use Rattle.std.proofs.Common.{◌≡◌, ◌≢◌, ℕ, ◌+◌, ◌%◌, ◌≤◌, ◌<◌, Bool, true, false, ◌==◌, if◌then◌else◌, List, length, Option, None, Some, is_some, refl, sym, ◌∙◌, ap, arith}
use Rattle.std.specs.Prelude.{nat_lt}
use Rattle.std.specs.List.{slice_get, slice_set}
use Rattle.std.proofs.lemmas.Bool.{lt-ltb, ltb-true, eqb-true, eq-eqb}
use Rattle.std.proofs.lemmas.List.{get_or-set_other, get_or-set_same, length-set}
use Rattle.gaspi_types.proofs.Items.{slice_get-set_same, slice_get-set_other, there-within}
use Rattle.gaspi_types.specs.declared.groups.Contribution.{Contribution}
use Rattle.collective_engine.specs.RoundBuffers.{joined_by, buffer_of, contribution_by, with_contribution, HasCapacity}
use Rattle.collective_engine.specs.declared.buffers.Buffers.{Buffers}

-- tests of numbers
pub less : (a b : ℕ) → a < b → nat_lt a b ≡ true
less a b h = lt-ltb a b h

pub not_less : (a b : ℕ) → b ≤ a → nat_lt a b ≡ false
not_less a b h = go (nat_lt a b) refl
  where
    go : (t : Bool) → nat_lt a b ≡ t → nat_lt a b ≡ false
    go true is = absurd (let below = ltb-true a b is in let no : ⊥ = omega arith in no)
    go false is = is

-- a number is below another, or the same, or above
pub ordered : {P : Type 0} → (a b : ℕ) → (a < b → P) → (a ≡ b → P) → (b < a → P) → P
ordered {P} a b below same above = go (nat_lt a b) refl (nat_lt b a) refl
  where
    go : (t : Bool) → nat_lt a b ≡ t → (u : Bool) → nat_lt b a ≡ u → P
    go true is u us = below (ltb-true a b is)
    go false is true us = above (ltb-true b a us)
    go false is false us =
        let one : a < b → ⊥ = λ h. (let no = less a b h in let out : ⊥ = cc in out) in
        let two : b < a → ⊥ = λ h. (let no = less b a h in let out : ⊥ = cc in out) in
        same (omega arith)

-- who has given to a round has joined it
tested : (t : Bool) (o : Option Contribution) → is_some (if t then o else None) ≡ true → t ≡ true
tested true o h = refl
tested false o h = absurd (let no : ⊥ = cc in no)

pub some_joined : (b : Buffers) (round m : ℕ) → is_some (contribution_by b round m) ≡ true → round < joined_by b m
some_joined b round m h = ltb-true round (joined_by b m) (tested (nat_lt round (joined_by b m)) (slice_get (buffer_of b round) m) h)

pub contributed_joined : (b : Buffers) (round m : ℕ) (c : Contribution) → contribution_by b round m ≡ Some c → round < joined_by b m
contributed_joined b round m c at = some_joined b round m (ap is_some at)

-- the other buffer is that of the round before
buffers-apart : (round k : ℕ) → round + 1 ≡ k → (t u : Bool) → (round % 2 == 0) ≡ t → (k % 2 == 0) ≡ u → t ≡ u → ⊥
buffers-apart round k next true true this that same = let a = eqb-true (round % 2) 0 this in let b = eqb-true (k % 2) 0 that in omega arith
buffers-apart round k next true false this that same = cc
buffers-apart round k next false true this that same = cc
buffers-apart round k next false false this that same =
    let a : round % 2 ≡ 0 → ⊥ = λ z. let no = eq-eqb (round % 2) 0 z in let out : ⊥ = cc in out in
    let b : k % 2 ≡ 0 → ⊥ = λ z. let no = eq-eqb (k % 2) 0 z in let out : ⊥ = cc in out in
    omega arith

-- how the buffers look, by the parity of the round and of the one that is asked for
same_parity : (t : Bool) (even odd : List Contribution) (rank : ℕ) (c : Contribution)
    → (if t then (if t then slice_set even rank c else even) else (if t then odd else slice_set odd rank c)) ≡ slice_set (if t then even else odd) rank c
same_parity true even odd rank c = refl
same_parity false even odd rank c = refl

other_parity : (t u : Bool) (even odd : List Contribution) (rank : ℕ) (c : Contribution) → (t ≡ u → ⊥)
    → (if t then (if u then slice_set even rank c else even) else (if u then odd else slice_set odd rank c)) ≡ (if t then even else odd)
other_parity true true even odd rank c apart = absurd (apart refl)
other_parity true false even odd rank c apart = refl
other_parity false true even odd rank c apart = refl
other_parity false false even odd rank c apart = absurd (apart refl)

any_parity : (t u : Bool) (even odd : List Contribution) (rank r : ℕ) (c : Contribution) → r ≢ rank
    → slice_get (if t then (if u then slice_set even rank c else even) else (if u then odd else slice_set odd rank c)) r ≡ slice_get (if t then even else odd) r
any_parity true true even odd rank r c apart = slice_get-set_other even rank r c (λ e. apart (sym e))
any_parity true false even odd rank r c apart = refl
any_parity false true even odd rank r c apart = refl
any_parity false false even odd rank r c apart = slice_get-set_other odd rank r c (λ e. apart (sym e))

-- a place for each rank
pub slot : (b : Buffers) → HasCapacity b → (round rank : ℕ) → rank < 16 → (old : Contribution) × (slice_get (buffer_of b round) rank ≡ Some old)
slot b capacity round rank below = pick (round % 2 == 0)
  where
    pick : (t : Bool) → (old : Contribution) × (slice_get (if t then b.even else b.odd) rank ≡ Some old)
    pick true = there-within b.even rank (let long = capacity.even in omega arith)
    pick false = there-within b.odd rank (let long = capacity.odd in omega arith)

module _ (b : Buffers) (capacity : HasCapacity b) (rank : ℕ) (c : Contribution) (below : rank < 16) where
  -- counts
  pub joined-now : joined_by (with_contribution b rank c) rank ≡ joined_by b rank + 1
  joined-now = get_or-set_same b.joined rank (joined_by b rank + 1) 0 (let long = capacity.joined in omega arith)

  pub joined-other : (r : ℕ) → r ≢ rank → joined_by (with_contribution b rank c) r ≡ joined_by b r
  joined-other r apart = get_or-set_other b.joined rank r (joined_by b rank + 1) 0 apart

  -- what other ranks have given
  pub contributed-other : (round r : ℕ) → r ≢ rank → contribution_by (with_contribution b rank c) round r ≡ contribution_by b round r
  contributed-other round r apart =
      let count = joined-other r apart in
      rw count (ap (λ (o : Option Contribution). if nat_lt round (joined_by b r) then o else None) (any_parity (round % 2 == 0) (joined_by b rank % 2 == 0) b.even b.odd rank r c apart))

  -- what the rank gives now, has given to the round before, and has not given yet
  pub contributed-now : contribution_by (with_contribution b rank c) (joined_by b rank) rank ≡ Some c
  contributed-now =
      let count = joined-now in
      let test = less (joined_by b rank) (joined_by b rank + 1) (omega arith) in
      let there = slot b capacity (joined_by b rank) rank below in
      rw (count, test) (ap (λ (items : List Contribution). slice_get items rank) (same_parity (joined_by b rank % 2 == 0) b.even b.odd rank c) ∙ slice_get-set_same (buffer_of b (joined_by b rank)) rank there.0 c there.1)

  pub contributed-before : (round : ℕ) → round + 1 ≡ joined_by b rank → contribution_by (with_contribution b rank c) round rank ≡ contribution_by b round rank
  contributed-before round next =
      let count = joined-now in
      let test = less round (joined_by b rank + 1) (omega arith) in
      let was = less round (joined_by b rank) (omega arith) in
      rw (count, test, was) (ap (λ (items : List Contribution). slice_get items rank) (other_parity (round % 2 == 0) (joined_by b rank % 2 == 0) b.even b.odd rank c (buffers-apart round (joined_by b rank) next (round % 2 == 0) (joined_by b rank % 2 == 0) refl refl)))

  pub contributed-later : (round : ℕ) → joined_by b rank < round → contribution_by (with_contribution b rank c) round rank ≡ None
  contributed-later round later =
      let count = joined-now in
      let test = not_less round (joined_by b rank + 1) (omega arith) in
      rw (count, test) refl

  -- the capacity stays
  pub capacity-contributed : HasCapacity (with_contribution b rank c)
  capacity-contributed = record {
    joined = length-set b.joined rank (joined_by b rank + 1) ∙ capacity.joined;
    completed = capacity.completed;
    even = kept (joined_by b rank % 2 == 0) b.even capacity.even;
    odd = left (joined_by b rank % 2 == 0) b.odd capacity.odd;
  }
    where
      kept : (t : Bool) (items : List Contribution) → length items ≡ 16 → length (if t then slice_set items rank c else items) ≡ 16
      kept true items long = length-set items rank c ∙ long
      kept false items long = long

      left : (t : Bool) (items : List Contribution) → length items ≡ 16 → length (if t then items else slice_set items rank c) ≡ 16
      left true items long = long
      left false items long = length-set items rank c ∙ long
