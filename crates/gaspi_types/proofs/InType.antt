-- Numbers of a type that were tried one after another.
use Rattle.std.proofs.Common.{◌≡◌, ◌↔◌, ℤ, Bool, true, false, ◌&&◌, IsTrue, List, [], ◌∷◌, refl, sym, ◌∙◌}
use Rattle.std.specs.List.{list_all}
use Rattle.gaspi_types.specs.NumberTypes.{is_in_type, AreInType}
use Rattle.gaspi_types.specs.declared.collectives.NumType.{NumType}

both : (a b : Bool) → (a && b) ≡ true → (a ≡ true) × (b ≡ true)
both true b h = (refl, h)
both false b h = absurd (let no : ⊥ = cc in no)

one : (a b : Bool) → a ≡ true → b ≡ true → (a && b) ≡ true
one true b h k = k
one false b h k = absurd (let no : ⊥ = cc in no)

all_in_type : (t : NumType) (items : List ℤ) → list_all (is_in_type t) items ≡ true → AreInType t items
all_in_type t [] h = tt
all_in_type t (z ∷ items) h = let parts = both (is_in_type t z) (list_all (is_in_type t) items) h in (parts.0, all_in_type t items parts.1)

in_type_all : (t : NumType) (items : List ℤ) → AreInType t items → list_all (is_in_type t) items ≡ true
in_type_all t [] h = refl
in_type_all t (z ∷ items) h = one (is_in_type t z) (list_all (is_in_type t) items) h.0 (in_type_all t items h.1)

-- the test and what it tells
pub tells : (t : NumType) (items : List ℤ) (passes : Bool) → passes ≡ list_all (is_in_type t) items → IsTrue passes ↔ AreInType t items
tells t items true is = (λ _. all_in_type t items (sym is), λ _. refl)
tells t items false is = (λ h. absurd (let no : ⊥ = cc in no), λ h. absurd (let so = is ∙ in_type_all t items h in let no : ⊥ = cc in no))
