-- A history replayed and counted event by event.
use Rattle.std.proofs.Common.{◌≡◌, ◌∙◌, ◌≤◌, ◌<◌, ◌+◌, ◌&&◌, ℕ, Bool, true, false, refl, sym, add-one, ap, arith, drop-cons, List, [], ◌∷◌, ◌++◌, length, take, drop, get_or, Result, Ok, Err, true≢false}
use Rattle.std.specs.Prelude.{count_by, nat_le}
use Rattle.std.proofs.lemmas.Bool.{leb-true}
use Rattle.std.proofs.lemmas.List.{length-take-le, take_more, take-append-drop}
use Rattle.std.proofs.lemmas.List.Sums.{count_by-le-length, count_by_more_no, count_by_more_yes}
use Rattle.gaspi_types.specs.Checks.{◌>>=◌}
use Rattle.gaspi_types.specs.Ranges.{is_between}
use Rattle.gaspi_types.specs.World.{ShapeValue, are_limits}
use Rattle.gaspi_types.specs.declared.shapes.Limits.{Limits}
use Rattle.gaspi_types.specs.declared.events.Event.{Event}
use Rattle.gaspi_model.specs.State.{opening}
use Rattle.gaspi_model.specs.Step.{Steps, step, after, reached}
use Rattle.gaspi_model.specs.declared.states.State.{State}
use Rattle.gaspi_model.specs.declared.states.StepFault.{StepFault}
use Rattle.gaspi_model.specs.declared.states.StepFault.TheVariants.{Illegal, NoMemory}
use Rattle.gaspi_model.specs.declared.states.Why.{Why}
use Rattle.call_journal.specs.Numbers.{IsIllegal}

-- the state after events, and then after more
after-append : (s : State) (events rest : List Event) → after s (events ++ rest) ≡ (after s events >>= (λ t. after t rest))
after-append s [] rest = refl
after-append s (e ∷ events) rest = go (step s e) (λ next. after-append next events rest)
  where
    go : (r : Result State Why) → ((next : State) → after next (events ++ rest) ≡ (after next events >>= (λ t. after t rest)))
        → (r >>= (λ next. after next (events ++ rest))) ≡ ((r >>= (λ next. after next events)) >>= (λ t. after t rest))
    go (Ok next) behind = behind next
    go (Err why) behind = refl

module _ (w : ShapeValue) (journal : List Event) (place : ℕ) (e : Event) (t : State) (less : place < length journal) (at : e ≡ get_or journal place e)
    (here : reached w (take place journal) ≡ Ok t) where
  -- the event steps
  pub reached-more : (u : State) → step t e ≡ Ok u → reached w (take (place + 1) journal) ≡ Ok u
  reached-more u is =
      ap (reached w) (take_more journal place e less ∙ ap (λ (x : Event). take place journal ++ x ∷ []) (sym at))
      ∙ after-append (opening w) (take place journal) (e ∷ [])
      ∙ ap (λ (r : Result State Why). r >>= (λ s. after s (e ∷ []))) here
      ∙ ap (λ (r : Result State Why). r >>= (λ s. Ok s)) is

  -- the event is no step
  reached-none : (why : Why) → step t e ≡ Err why → reached w journal ≡ Err why
  reached-none why is =
      ap (reached w) (sym (take-append-drop place journal) ∙ ap (λ (rest : List Event). take place journal ++ rest) (split ∙ ap (λ (x : Event). x ∷ drop (place + 1) journal) (sym at)))
      ∙ after-append (opening w) (take place journal) (e ∷ drop (place + 1) journal)
      ∙ ap (λ (r : Result State Why). r >>= (λ s. after s (e ∷ drop (place + 1) journal))) here
      ∙ ap (λ (r : Result State Why). r >>= (λ s. after s (drop (place + 1) journal))) is
    where
      split : drop place journal ≡ get_or journal place e ∷ drop (place + 1) journal
      split = drop-cons journal place e less ∙ ap (λ (n : ℕ). get_or journal place e ∷ drop n journal) (sym (add-one place))

  pub illegal_at : (u : State) (fault : StepFault) → Steps (Err fault) t u (step t e) → IsIllegal w journal fault
  illegal_at u (Illegal why) h = reached-none why h.0
  illegal_at u NoMemory h = tt

module _ (p : Event → Bool) (journal : List Event) (place : ℕ) (e : Event) (less : place < length journal) (at : e ≡ get_or journal place e) where
  -- one event more is counted
  pub counted-more : (n m : ℕ) → n ≡ count_by p (take place journal) → m ≡ n + count_by p (e ∷ []) → m ≡ count_by p (take (place + 1) journal)
  counted-more n m before now = go (p e) refl
    where
      go : (b : Bool) → p e ≡ b → m ≡ count_by p (take (place + 1) journal)
      go true is =
          let one : count_by p (e ∷ []) ≡ 1 = rw is refl in
          let more = count_by_more_yes p journal place e less (ap p (sym at) ∙ is) in
          omega arith
      go false is =
          let none : count_by p (e ∷ []) ≡ 0 = rw is refl in
          let more = count_by_more_no p journal place e less (ap p (sym at) ∙ is) in
          omega arith

-- a count is at most the place
pub counted-most : (p : Event → Bool) (journal : List Event) (place : ℕ) → place ≤ length journal → count_by p (take place journal) ≤ place
counted-most p journal place less =
    let most = count_by-le-length p (take place journal) in
    let long = length-take-le place journal less in
    omega arith

-- a world has few ranks
pub few_ranks : (limits : Limits) → are_limits limits ≡ true → limits.ranks ≤ 16
few_ranks limits h = leb-true limits.ranks 16 (second (nat_le 1 limits.ranks) _ (first (is_between 1 16 limits.ranks) _ h))
  where
    first : (a b : Bool) → (a && b) ≡ true → a ≡ true
    first true b e = refl
    first false b e = e

    second : (a b : Bool) → (a && b) ≡ true → b ≡ true
    second true b e = e
    second false b e = absurd (true≢false (sym e))
