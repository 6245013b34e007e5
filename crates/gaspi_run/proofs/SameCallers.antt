-- Callers are told by their rank and thread.
use Rattle.std.proofs.Common.{◌≡◌, ◌&&◌, ◌==◌, ℕ, Bool, true, false, refl, ap, ◌∙◌}
use Rattle.std.proofs.lemmas.Bool.{eqb-true, eq-eqb}
use Rattle.gaspi_types.specs.World.{is_caller}
use Rattle.gaspi_types.specs.declared.shapes.CallerId.{CallerId}

pub is-itself : (c : CallerId) → is_caller c.rank c.thread c ≡ true
is-itself c = (let rank = eq-eqb c.rank c.rank refl in let thread = eq-eqb c.thread c.thread refl in rw (rank, thread) refl)

pub only-itself : (rank thread : ℕ) (c : CallerId) → is_caller rank thread c ≡ true → (c.rank ≡ rank) × (c.thread ≡ thread)
only-itself rank thread c is = go (c.rank == rank) (c.thread == thread) refl refl is
  where
    go : (a b : Bool) → (c.rank == rank) ≡ a → (c.thread == thread) ≡ b → (a && b) ≡ true → (c.rank ≡ rank) × (c.thread ≡ thread)
    go true true ranks threads is = (eqb-true c.rank rank ranks, eqb-true c.thread thread threads)
    go true false ranks threads is = absurd (let none : ⊥ = cc in none)
    go false b ranks threads is = absurd (let none : ⊥ = cc in none)

pub same-caller : (c d : CallerId) → c.rank ≡ d.rank → c.thread ≡ d.thread → c ≡ d
same-caller c d ranks threads =
    ap (λ (r : ℕ). (let e : CallerId = record { rank = r; thread = c.thread } in e)) ranks ∙ ap (λ (t : ℕ). (let e : CallerId = record { rank = d.rank; thread = t } in e)) threads
