-- The tries of a turn in their order, try by try, and the turns of a worker one after another.
use Rattle.std.proofs.Common.{◌≡◌, ◌≢◌, ℕ, zero, suc, ◌+◌, ◌%◌, ◌^◌, ◌<◌, true, false, refl, sym, ap, ◌∙◌, subst, arith, inl, inr}
use Rattle.std.proofs.Math.Nat.{mod-eq_of_lt}
use Rattle.gaspi_types.specs.World.{ShapeValue}
use Rattle.gaspi_types.specs.declared.events.Event.{Event}
use Rattle.commit_table.specs.declared.views.PassView.{PassView}
use Rattle.gaspi_world.specs.Transfers.{Transfers}
use Rattle.gaspi_world.specs.declared.moving.Moving.{Moving}
use Rattle.gaspi_world.specs.declared.moving.Moving.TheVariants as moves
use Rattle.transfer_worker.specs.Order.{with_other, tried_rank, first_rank, HaveTried, StopsAt, MakesTurn, TriesOther, HaveTriedOthers, StopsAtOther, TriesOthers, next_turn, MakesOneTurn, HaveTurned, Rests, Drains}
use Rattle.transfer_worker.specs.Turns.{with_try}
use Rattle.transfer_worker.specs.declared.tries.Others.{Others}
use Rattle.transfer_worker.specs.declared.tries.Others.TheVariants as others
use Rattle.transfer_worker.specs.declared.turns.Turn.{Turn}
use Rattle.transfer_worker.specs.declared.turns.Turn.TheVariants.{Moved, Busy, Idle, Drained}

-- one turn more, of a number that wraps
next-wrapped : (turns : ℕ) → (turns % 2 ^ 64 + 1) % 2 ^ 64 ≡ (turns + 1) % 2 ^ 64
next-wrapped turns = omega arith

wrapped-twice : (turns : ℕ) → turns % 2 ^ 64 % 2 ^ 64 ≡ turns % 2 ^ 64
wrapped-twice turns = (let less : turns % 2 ^ 64 < 2 ^ 64 = omega arith in mod-eq_of_lt less)

next-number : (turns count now next : ℕ) → now % 2 ^ 64 ≡ (turns + count) % 2 ^ 64 → next ≡ (now + 1) % 2 ^ 64 → next ≡ (turns + (count + 1)) % 2 ^ 64
next-number turns count now next is more =
    let one : turns + count + 1 ≡ turns + (count + 1) = omega arith in
    more ∙ (sym (next-wrapped now) ∙ (ap (λ (k : ℕ). (k + 1) % 2 ^ 64) is ∙ (next-wrapped (turns + count) ∙ ap (λ (k : ℕ). k % 2 ^ 64) one)))

-- a turn begins at the rank of its number
first-after : (w : ShapeValue) (turns now : ℕ) → now % 2 ^ 64 ≡ turns % 2 ^ 64 → first_rank w now ≡ first_rank w turns
first-after w turns now is = ap (λ (k : ℕ). k % w.limits.ranks) is

-- what does not move comes to no move, and where none was tried nothing is known that was not known before
with-stays : (before other so_far : Others) → so_far ≡ with_other before other → before ≢ others.Moved → other ≢ others.Moved → so_far ≢ others.Moved
with-stays before others.Moved so_far is was stays moved = stays refl
with-stays before others.Busy so_far is was stays moved = (let same : ◌≡◌ {A = Others} others.Busy others.Moved = sym is ∙ moved in let never : ⊥ = cc in never)
with-stays others.Moved others.Quiet so_far is was stays moved = was refl
with-stays others.Busy others.Quiet so_far is was stays moved = was (sym is ∙ moved)
with-stays others.Quiet others.Quiet so_far is was stays moved = was (sym is ∙ moved)
with-stays others.Passed others.Quiet so_far is was stays moved = (let same : ◌≡◌ {A = Others} others.Quiet others.Moved = sym is ∙ moved in let never : ⊥ = cc in never)
with-stays others.Moved others.Passed so_far is was stays moved = was refl
with-stays others.Busy others.Passed so_far is was stays moved = was (sym is ∙ moved)
with-stays others.Quiet others.Passed so_far is was stays moved = was (sym is ∙ moved)
with-stays others.Passed others.Passed so_far is was stays moved = was (sym is ∙ moved)

both-passed : (before other : Others) → with_other before other ≡ others.Passed → (before ≡ others.Passed) × (other ≡ others.Passed)
both-passed before others.Moved is = absurd (let never : ⊥ = cc in never)
both-passed before others.Busy is = absurd (let never : ⊥ = cc in never)
both-passed others.Moved others.Quiet is = absurd (let never : ⊥ = cc in never)
both-passed others.Busy others.Quiet is = absurd (let never : ⊥ = cc in never)
both-passed others.Quiet others.Quiet is = absurd (let never : ⊥ = cc in never)
both-passed others.Passed others.Quiet is = absurd (let never : ⊥ = cc in never)
both-passed others.Moved others.Passed is = absurd (let never : ⊥ = cc in never)
both-passed others.Busy others.Passed is = absurd (let never : ⊥ = cc in never)
both-passed others.Quiet others.Passed is = absurd (let never : ⊥ = cc in never)
both-passed others.Passed others.Passed is = (refl, refl)

module _ {S : Type 0} (w : ShapeValue) where
  -- a try that did not move
  pub tried-next : (first ranks tries origin : ℕ) (v m n : PassView S Event) (so_far : Turn) (moving : Moving) → ranks ≡ w.limits.ranks → origin ≡ (first + tries) % ranks
      → HaveTried w first tries v so_far m → Transfers w origin m moving n → moving ≢ moves.Moved → HaveTried w first (tries + 1) v (with_try so_far moving) n
  tried-next first ranks tries origin v m n so_far moving all place tried told stays =
      let more : suc tries ≡ tries + 1 = omega arith in
      let here : origin ≡ tried_rank w first tries = place ∙ ap (λ (k : ℕ). (first + tries) % k) all in
      subst (λ (k : ℕ). HaveTried w first k v (with_try so_far moving) n) more
      (m, so_far, moving, tried, subst (λ (o : ℕ). Transfers w o m moving n) here told, stays, refl)

  -- all ranks were tried
  pub turn-ends : (first : ℕ) (v n : PassView S Event) (so_far : Turn) → HaveTried w first w.limits.ranks v so_far n → so_far ≢ Moved → MakesTurn w first v so_far n
  turn-ends first v n Moved tried stays = absurd (stays refl)
  turn-ends first v n Busy tried stays = tried
  turn-ends first v n Idle tried stays = tried
  turn-ends first v n Drained tried stays = tried

  -- a rank that moved
  pub turn-stops : (first ranks tries origin : ℕ) (v m n : PassView S Event) (so_far : Turn) → ranks ≡ w.limits.ranks → origin ≡ (first + tries) % ranks → tries < ranks
      → HaveTried w first tries v so_far m → Transfers w origin m moves.Moved n → StopsAt w first v n
  turn-stops first ranks tries origin v m n so_far all place few tried moved =
      let here : origin ≡ tried_rank w first tries = place ∙ ap (λ (k : ℕ). (first + tries) % k) all in
      record { tries = tries; few = subst (λ (k : ℕ). tries < k) all few; between = m; so_far = so_far; tried = tried; moved = subst (λ (o : ℕ). Transfers w o m moves.Moved n) here moved }

  -- the same of the ranks that are not passed over
  pub tried-other-next : (begun : PassView S Event) (first ranks tries origin : ℕ) (v m n : PassView S Event) (so_far other : Others) → ranks ≡ w.limits.ranks → origin ≡ (first + tries) % ranks
      → HaveTriedOthers w begun first tries v so_far m → TriesOther w begun origin m other n → other ≢ others.Moved → HaveTriedOthers w begun first (tries + 1) v (with_other so_far other) n
  tried-other-next begun first ranks tries origin v m n so_far other all place tried told stays =
      let more : suc tries ≡ tries + 1 = omega arith in
      let here : origin ≡ tried_rank w first tries = place ∙ ap (λ (k : ℕ). (first + tries) % k) all in
      subst (λ (k : ℕ). HaveTriedOthers w begun first k v (with_other so_far other) n) more
      (m, so_far, other, tried, subst (λ (o : ℕ). TriesOther w begun o m other n) here told, stays, refl)

  pub others-stop : (begun : PassView S Event) (first ranks tries origin : ℕ) (v m n : PassView S Event) (so_far : Others) → ranks ≡ w.limits.ranks → origin ≡ (first + tries) % ranks → tries < ranks
      → HaveTriedOthers w begun first tries v so_far m → TriesOther w begun origin m others.Moved n → StopsAtOther w begun first v n
  others-stop begun first ranks tries origin v m n so_far all place few tried moved =
      let here : origin ≡ tried_rank w first tries = place ∙ ap (λ (k : ℕ). (first + tries) % k) all in
      record { tries = tries; few = subst (λ (k : ℕ). tries < k) all few; between = m; so_far = so_far; tried = tried; moved = subst (λ (o : ℕ). TriesOther w begun o m others.Moved n) here moved }

  none-moved : (tries first : ℕ) (begun v n : PassView S Event) (so_far : Others) → HaveTriedOthers w begun first tries v so_far n → so_far ≢ others.Moved
  none-moved zero first begun v n so_far tried = λ moved. (let never_is : ◌≡◌ {A = Others} others.Passed others.Moved = sym tried.1 ∙ moved in let never : ⊥ = cc in never)
  none-moved (suc tries) first begun v n so_far tried = with-stays tried.1 tried.2 so_far tried.6 (none-moved tries first begun v tried.0 tried.1 tried.3) tried.5

  all-passed : (tries first : ℕ) (begun v n : PassView S Event) (so_far : Others) → HaveTriedOthers w begun first tries v so_far n → so_far ≡ others.Passed → n ≡ v
  all-passed zero first begun v n so_far tried passed = tried.0
  all-passed (suc tries) first begun v n so_far tried passed =
      let both = both-passed tried.1 tried.2 (sym tried.6 ∙ passed) in
      let last = subst (λ (o : Others). TriesOther w begun (tried_rank w first tries) tried.0 o n) both.1 tried.4 in
      last.0 ∙ all-passed tries first begun v tried.0 tried.1 tried.3 both.0

  pub others-end : (begun : PassView S Event) (first ranks tries : ℕ) (v n : PassView S Event) (so_far : Others) → ranks ≡ w.limits.ranks → tries ≡ ranks → HaveTriedOthers w begun first tries v so_far n
      → TriesOthers w begun first v so_far n
  others-end begun first ranks tries v n so_far all through tried = by-end so_far (subst (λ (k : ℕ). HaveTriedOthers w begun first k v so_far n) (through ∙ all) tried)
    where
      by-end : (end : Others) → HaveTriedOthers w begun first w.limits.ranks v end n → TriesOthers w begun first v end n
      by-end others.Moved whole = absurd (none-moved w.limits.ranks first begun v n others.Moved whole refl)
      by-end others.Busy whole = whole
      by-end others.Quiet whole = whole
      by-end others.Passed whole = whole

  -- What a worker has done so far: so many turns, the first of which had this number, and the next one has that.
  abbrev pub IsTurning : ℕ → PassView S Event → ℕ → PassView S Event → Type 0
  IsTurning turns v now n = (count : ℕ) × HaveTurned w v turns count v n × (now % 2 ^ 64 ≡ (turns + count) % 2 ^ 64)

  pub turning-begins : (turns : ℕ) (v : PassView S Event) → IsTurning turns v turns v
  turning-begins turns v = (0, refl, (let none : turns + 0 ≡ turns = omega arith in ap (λ (k : ℕ). k % 2 ^ 64) (sym none)))

  one-more : (turns count : ℕ) (v m n : PassView S Event) → HaveTurned w v turns count v m → MakesOneTurn w v (first_rank w (turns + count)) m n → HaveTurned w v turns (count + 1) v n
  one-more turns count v m n before one =
      let more : suc count ≡ count + 1 = omega arith in
      subst (λ (k : ℕ). HaveTurned w v turns k v n) more (m, before, one)

  -- one turn more
  pub turning-goes : (turns now next : ℕ) (v m n : PassView S Event) → IsTurning turns v now m → next ≡ (now + 1) % 2 ^ 64 → MakesOneTurn w v (first_rank w now) m n → IsTurning turns v next n
  turning-goes turns now next v m n (count, before, is) more one = (
    count + 1,
    one-more turns count v m n before (subst (λ (first : ℕ). MakesOneTurn w v first m n) (first-after w (turns + count) now is) one),
    (let number = next-number turns count now next is more in ap (λ (k : ℕ). k % 2 ^ 64) number ∙ wrapped-twice (turns + (count + 1))),
  )

  -- a turn past some ranks, or past all
  pub turning-past : (turns now next : ℕ) (v m n : PassView S Event) (kind : Others) → IsTurning turns v now m → TriesOthers w v (first_rank w now) m kind n → next ≡ next_turn kind now → IsTurning turns v next n
  turning-past turns now next v m n others.Moved so_far tried more = turning-goes turns now next v m n so_far more (inl (others.Moved, tried, λ same. (let never : ⊥ = cc in never)))
  turning-past turns now next v m n others.Busy so_far tried more = turning-goes turns now next v m n so_far more (inl (others.Busy, tried, λ same. (let never : ⊥ = cc in never)))
  turning-past turns now next v m n others.Quiet so_far tried more = turning-goes turns now next v m n so_far more (inl (others.Quiet, tried, λ same. (let never : ⊥ = cc in never)))
  turning-past turns now next v m n others.Passed so_far tried still =
      let same = all-passed w.limits.ranks (first_rank w now) v m n others.Passed tried refl in
      subst (λ (k : ℕ). IsTurning turns v k n) (sym still) (subst (λ (x : PassView S Event). IsTurning turns v now x) (sym same) so_far)

  -- a pause or a turn that did not end it
  pub turning-rests : (turns now next : ℕ) (v m n : PassView S Event) → IsTurning turns v now m → Rests w now m false next n → IsTurning turns v next n
  turning-rests turns now next v m n so_far (inl (same, still)) = subst (λ (k : ℕ). IsTurning turns v k n) (sym still) (subst (λ (x : PassView S Event). IsTurning turns v now x) (sym same) so_far)
  turning-rests turns now next v m n so_far (inr (turn, made, stays, more)) = turning-goes turns now next v m n so_far more (inr (turn, made, stays))

  -- the last turn
  pub turning-ends : (turns now next : ℕ) (v m n : PassView S Event) → IsTurning turns v now m → Rests w now m true next n → Drains w turns v next n
  turning-ends turns now next v m n (count, before, is) (made, more) = record {
    count = count;
    between = m;
    turned = before;
    last = subst (λ (first : ℕ). MakesTurn w first m Drained n) (first-after w (turns + count) now is) made;
    next_is = (let one : turns + (count + 1) ≡ turns + count + 1 = omega arith in next-number turns count now next is more ∙ ap (λ (k : ℕ). k % 2 ^ 64) one);
  }
