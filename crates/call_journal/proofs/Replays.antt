-- A history replayed event by event.
use Rattle.std.proofs.Common.{◌≡◌, ℕ, ◌+◌, ◌<◌, List, [], ◌∷◌, ◌++◌, length, take, get_or, Result, Ok, Err, sym, ap, ◌∙◌}
use Rattle.std.proofs.lemmas.List.{take_more}
use Rattle.gaspi_types.specs.World.{ShapeValue}
use Rattle.gaspi_types.specs.declared.events.Event.{Event}
use Rattle.gaspi_model.specs.State.{opening}
use Rattle.gaspi_model.specs.Step.{step, after, reached}
use Rattle.gaspi_model.specs.declared.states.State.{State}
use Rattle.gaspi_model.specs.declared.states.Why.{Why}
use Rattle.gaspi_types.specs.Checks.{◌>>=◌}

-- events after the first one
after-step : (r : Result State Why) (events : List Event) (e : Event) (t u : State) → ((next : State) → after next events ≡ Ok t → after next (events ++ e ∷ []) ≡ Ok u)
    → (r >>= (λ next. after next events)) ≡ Ok t → (r >>= (λ next. after next (events ++ e ∷ []))) ≡ Ok u
after-step (Ok next) events e t u behind h = behind next h
after-step (Err why) events e t u behind h = absurd (let no : ⊥ = cc in no)

-- one more step
after-push : (s t u : State) (events : List Event) (e : Event) → after s events ≡ Ok t → step t e ≡ Ok u → after s (events ++ e ∷ []) ≡ Ok u
after-push s t u [] e here is =
    let same : s ≡ t = cc in
    ap (λ (r : Result State Why). r >>= (λ next. Ok next)) (ap (λ (s : State). step s e) same ∙ is)
after-push s t u (x ∷ events) e here is = after-step (step s x) events e t u (λ next h. after-push next t u events e h is) here

pub reached-more : (w : ShapeValue) (journal : List Event) (place : ℕ) (e : Event) (t u : State) → place < length journal → e ≡ get_or journal place e
    → reached w (take place journal) ≡ Ok t → step t e ≡ Ok u → reached w (take (place + 1) journal) ≡ Ok u
reached-more w journal place e t u less at here is =
    let more : take (place + 1) journal ≡ take place journal ++ e ∷ [] = take_more journal place e less ∙ ap (λ (x : Event). take place journal ++ x ∷ []) (sym at) in
    ap (λ (events : List Event). reached w events) more ∙ after-push (opening w) t u (take place journal) e here is
