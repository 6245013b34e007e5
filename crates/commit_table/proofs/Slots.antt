-- What a seat has out, before and after its slot is exchanged.
use Rattle.std.proofs.Common.{◌≡◌, ℕ, List, [], ◌∷◌, Option, refl, ap, sym, subst, ◌∙◌}
use Rattle.atomic_table.specs.Table.{Me, rest}
use Rattle.commit_table.specs.declared.views.PassView.{PassView}
use Rattle.commit_table.specs.declared.views.SeatView.{SeatView}
use Rattle.commit_table.specs.Calls.{slot_of}
use Rattle.commit_table.specs.Views.{at_rest, with_slot_out}

module _ {S X E : Type 0} where
  pub is_out : (me : Me (Option X) (SeatView S E)) (v : SeatView S E) (i : ℕ) (y : Option X) → me ≡ (v, (i, y) ∷ []) → (old : Option X) × (me.1 ≡ (i, old) ∷ rest me.1)
  is_out me v i y e = (y, let out : me.1 ≡ (i, y) ∷ [] = ap (λ (z : Me (Option X) (SeatView S E)). z.1) e in subst (λ (z : List (ℕ × Option X)). z ≡ (i, y) ∷ rest z) (sym out) refl)

  pub record Swapped (old new : Me (Option X) (SeatView S E)) (i : ℕ) (y result put : Option X) : Type 0 where
    pub result_is : result ≡ y
    pub known : new.0.known ≡ old.0.known
    pub new_is : new ≡ (with_slot_out new.0.known i, (slot_of i, put) ∷ [])

  pub swapped : (old new : Me (Option X) (SeatView S E)) (i : ℕ) (y result put : Option X) → old ≡ (with_slot_out old.0.known i, (slot_of i, y) ∷ []) → old.1 ≡ (slot_of i, result) ∷ rest old.1
      → new ≡ (old.0, (slot_of i, put) ∷ rest old.1) → Swapped old new i y result put
  swapped old new i y result put e found is =
      let out : old.1 ≡ (slot_of i, y) ∷ [] = ap (λ (z : Me (Option X) (SeatView S E)). z.1) e in
      let none : rest old.1 ≡ [] = ap (λ (z : List (ℕ × Option X)). rest z) out in
      let first : (slot_of i, result) ∷ rest old.1 ≡ (slot_of i, y) ∷ [] = sym found ∙ out in
      let pair : ◌≡◌ {A = ℕ × Option X} (slot_of i, result) (slot_of i, y) = cc in
      let view : new.0 ≡ old.0 = ap (λ (z : Me (Option X) (SeatView S E)). z.0) is in
      let known : new.0.known ≡ old.0.known = ap (λ (z : SeatView S E). z.known) view in
      let was : old.0 ≡ with_slot_out old.0.known i = ap (λ (z : Me (Option X) (SeatView S E)). z.0) e in
      let a : ◌≡◌ {A = Me (Option X) (SeatView S E)} (old.0, (slot_of i, put) ∷ rest old.1) (with_slot_out old.0.known i, (slot_of i, put) ∷ rest old.1) = ap (λ (z : SeatView S E). (z, (slot_of i, put) ∷ rest old.1)) was in
      let b : ◌≡◌ {A = Me (Option X) (SeatView S E)} (with_slot_out old.0.known i, (slot_of i, put) ∷ rest old.1) (with_slot_out old.0.known i, (slot_of i, put) ∷ []) = ap (λ (z : List (ℕ × Option X)). (with_slot_out old.0.known i, (slot_of i, put) ∷ z)) none in
      let c : ◌≡◌ {A = Me (Option X) (SeatView S E)} (with_slot_out old.0.known i, (slot_of i, put) ∷ []) (with_slot_out new.0.known i, (slot_of i, put) ∷ []) = ap (λ (z : PassView S E). (with_slot_out z i, (slot_of i, put) ∷ [])) (sym known) in
      record { result_is = ap (λ (z : ℕ × Option X). z.1) pair; known = known; new_is = is ∙ (a ∙ (b ∙ c)) }

  pub rested : (me : Me (Option X) (SeatView S E)) (k : PassView S E) → me ≡ (at_rest k, []) → (me ≡ (at_rest me.0.known, [])) × (me.0.known ≡ k)
  rested me k e =
      let same : me.0.known ≡ k = ap (λ (z : Me (Option X) (SeatView S E)). z.0.known) e in
      let P : PassView S E → Type 0 = λ z. ◌≡◌ {A = Me (Option X) (SeatView S E)} me (at_rest z, []) in (subst P (sym same) e, same)
