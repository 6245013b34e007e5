-- Histories, one event after another.
use Rattle.std.proofs.Common.{◌≡◌, true, List, [], ◌∷◌, ◌++◌, Result, Ok, Err, refl, sym, ap, ◌∙◌, is_ok}
use Rattle.gaspi_types.specs.World.{ShapeValue, IsShape}
use Rattle.gaspi_types.specs.declared.events.Event.{Event}
use Rattle.gaspi_model.specs.State.{opening}
use Rattle.gaspi_model.specs.Step.{step, after, reached, is_legal}
use Rattle.gaspi_model.specs.Sound.{IsSound}
use Rattle.gaspi_model.specs.declared.states.State.{State}
use Rattle.gaspi_model.specs.declared.states.Why.{Why}
use Rattle.gaspi_model.proofs.Sound.Opening.{opens}
use Rattle.gaspi_model.proofs.Sound.Steps.{steps, limits-stay}

-- the state after one event and the others
pub after-step : (s t : State) (e : Event) (events : List Event) → step s e ≡ Ok t → after s (e ∷ events) ≡ after t events
after-step s t e events h = rw h refl

-- where events lead to a state, the first leads to one from which the others do
pub after-first : (s u : State) (e : Event) (events : List Event) → after s (e ∷ events) ≡ Ok u → (t : State) × (step s e ≡ Ok t) × (after t events ≡ Ok u)
after-first s u e events h = go (step s e) refl
  where
    go : (r : Result State Why) → step s e ≡ r → (t : State) × (step s e ≡ Ok t) × (after t events ≡ Ok u)
    go (Ok t) is = (t, is, rw is at h)
    go (Err why) is = absurd (let err = rw is at h in let no : ⊥ = cc in no)

-- where two lists of events lead to a state, the first leads to one from which the second does
pub after-both : (s u : State) (a b : List Event) → after s (a ++ b) ≡ Ok u → (t : State) × (after s a ≡ Ok t) × (after t b ≡ Ok u)
after-both s u [] b h = (s, refl, h)
after-both s u (e ∷ a) b h =
    let first = after-first s u e (a ++ b) h in
    let rest = after-both first.0 u a b first.2 in
    (rest.0, after-step s first.0 e a first.1 ∙ rest.1, rest.2)

pub after-joined : (s t : State) (a b : List Event) → after s a ≡ Ok t → after s (a ++ b) ≡ after t b
after-joined s t [] b h = let same : s ≡ t = cc in rw same refl
after-joined s t (e ∷ a) b h =
    let first = after-first s t e a h in
    after-step s first.0 e (a ++ b) first.1 ∙ after-joined first.0 t a b first.2

pub leads : (r : Result State Why) → is_ok r ≡ true → (t : State) × (r ≡ Ok t)
leads (Ok t) h = (t, refl)
leads (Err why) h = absurd (let no : ⊥ = cc in no)

-- a prefix of a legal history is legal
pub prefix : (w : ShapeValue) (a b : List Event) → is_legal w (a ++ b) ≡ true → is_legal w a ≡ true
prefix w a b h =
    let end = leads (reached w (a ++ b)) h in
    let first = after-both (opening w) end.0 a b end.1 in
    ap is_ok first.1

after-sound : (s t : State) (events : List Event) → IsSound s → after s events ≡ Ok t → IsSound t
after-sound s t [] sound h = let same : s ≡ t = cc in rw (sym same) sound
after-sound s t (e ∷ events) sound h =
    let first = after-first s t e events h in
    after-sound first.0 t events (steps s first.0 e sound first.1) first.2

-- the limits stay as they are
pub after-limits : (s t : State) (events : List Event) → after s events ≡ Ok t → t.limits ≡ s.limits
after-limits s t [] h = (let same : s ≡ t = cc in ap (λ (x : State). x.limits) (sym same))
after-limits s t (e ∷ events) h =
    let first = after-first s t e events h in
    after-limits first.0 t events first.2 ∙ limits-stay s first.0 e first.1

-- every state of a legal history is sound
pub reached-sound : (w : ShapeValue) (history : List Event) (s : State) → IsShape w → reached w history ≡ Ok s → IsSound s
reached-sound w history s world h = after-sound (opening w) s history (opens w world) h
