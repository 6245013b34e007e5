-- The events of a caller in a history are those of its number.
use Rattle.std.proofs.Common.{◌≡◌, ℕ, Bool, true, false, cond, ◌==◌, List, [], ◌∷◌, refl, sym, ap, ◌∙◌}
use Rattle.std.specs.List.{list_any}
use Rattle.std.proofs.lemmas.Bool.{eqb-true, eq-eqb}
use Rattle.gaspi_types.specs.World.{ShapeValue, IsShape, is_caller}
use Rattle.gaspi_types.specs.declared.events.Event.{Event}
use Rattle.gaspi_types.specs.declared.events.Event.TheVariants.{Called, Joined, Take, Put}
use Rattle.gaspi_types.specs.declared.shapes.CallerId.{CallerId}
use Rattle.gaspi_types.proofs.Chains.{both}
use Rattle.commit_table.specs.Machine.{is_party, events_by}
use Rattle.gaspi_model.specs.CallerEvents.{is_event_of, events_of}
use Rattle.gaspi_model.specs.Parties.{number_of, caller_party, party_of}
use Rattle.gaspi_world.proofs.Numbers.{same-number}

pub is-itself : (c : CallerId) → is_caller c.rank c.thread c ≡ true
is-itself c = (let rank = eq-eqb c.rank c.rank refl in let thread = eq-eqb c.thread c.thread refl in rw (rank, thread) refl)

only-itself : (c d : CallerId) → is_caller c.rank c.thread d ≡ true → d ≡ c
only-itself c d is =
    let parts = both (d.rank == c.rank) (d.thread == c.thread) is in
    let rank : d.rank ≡ c.rank = eqb-true d.rank c.rank parts.0 in
    let thread : d.thread ≡ c.thread = eqb-true d.thread c.thread parts.1 in
    ap (λ (r : ℕ). (let e : CallerId = record { rank = r; thread = d.thread } in e)) rank ∙ ap (λ (t : ℕ). (let e : CallerId = record { rank = c.rank; thread = t } in e)) thread

-- a test that holds just where another does
same-tests : (a b : Bool) → (a ≡ true → b ≡ true) → (b ≡ true → a ≡ true) → a ≡ b
same-tests true b there back = sym (there refl)
same-tests false true there back = back refl
same-tests false false there back = refl

module _ (w : ShapeValue) (c : CallerId) (world : IsShape w) (declared : list_any (is_caller c.rank c.thread) w.callers ≡ true) where
  party-of-caller : (d : CallerId) → is_party (number_of w.callers c) (caller_party w.callers d) ≡ is_caller c.rank c.thread d
  party-of-caller d = go (list_any (is_caller d.rank d.thread) w.callers) refl
    where
      go : (b : Bool) → list_any (is_caller d.rank d.thread) w.callers ≡ b → is_party (number_of w.callers c) (caller_party w.callers d) ≡ is_caller c.rank c.thread d
      go true there = rw there (same-tests (number_of w.callers c == number_of w.callers d) (is_caller c.rank c.thread d)
          (λ is. let same = same-number w c d world declared there (eqb-true (number_of w.callers c) (number_of w.callers d) is) in
          ap (is_caller c.rank c.thread) (sym same) ∙ is-itself c)
          (λ is. eq-eqb (number_of w.callers c) (number_of w.callers d) (ap (number_of w.callers) (sym (only-itself c d is)))))
      go false there = rw there (same-tests false (is_caller c.rank c.thread d)
          (λ is. absurd (let no : ⊥ = cc in no))
          (λ is. let same = only-itself c d is in sym there ∙ (ap (λ (e : CallerId). list_any (is_caller e.rank e.thread) w.callers) same ∙ declared)))

  party-is : (e : Event) → is_party (number_of w.callers c) (party_of w e) ≡ is_event_of c e
  party-is (Called d call reply) = party-of-caller d
  party-is (Joined d id args) = party-of-caller d
  party-is (Take origin queue target number outcome) = refl
  party-is (Put origin queue target number outcome) = refl

  own-events : (history : List Event) → events_by (party_of w) (number_of w.callers c) history ≡ events_of c history
  own-events [] = refl
  own-events (e ∷ history) =
      ap (λ (b : Bool). cond b (e ∷ events_by (party_of w) (number_of w.callers c) history) (events_by (party_of w) (number_of w.callers c) history)) (party-is e)
      ∙ ap (λ (rest : List Event). cond (is_event_of c e) (e ∷ rest) rest) (own-events history)

-- what a party did is what its caller did
pub mine-events : (w : ShapeValue) (c : CallerId) (history : List Event) → IsShape w → list_any (is_caller c.rank c.thread) w.callers ≡ true → events_by (party_of w) (number_of w.callers c) history ≡ events_of c history
mine-events w c history world declared = own-events w c world declared history
