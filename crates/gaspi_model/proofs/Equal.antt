-- Collectives that compare as the same are equal.
use Rattle.std.proofs.Common.{◌≡◌, ℕ, true, ◌==◌, Bool, false, ◌&&◌, if◌then◌else◌, List, [], ◌∷◌, get_or, refl, sym, ◌∙◌, ap, nat_eq}
use Rattle.std.specs.Cmp.Lexicographic.{pointwise}
use Rattle.std.proofs.lemmas.Bool.{eqb-true}
use Rattle.gaspi_types.specs.Collectives.{same_coll}
use Rattle.gaspi_types.specs.Replies.{op_number, type_number, coll_fields}
use Rattle.gaspi_types.specs.declared.collectives.NumType.{NumType}
use Rattle.gaspi_types.specs.declared.collectives.NumType.TheVariants.{Int, Uint, Long, Ulong, Float, Double}
use Rattle.gaspi_types.specs.declared.collectives.Op.{Op}
use Rattle.gaspi_types.specs.declared.collectives.Op.TheVariants.{Min, Max, Sum}
use Rattle.gaspi_types.specs.declared.collectives.Coll.{Coll}
use Rattle.gaspi_types.specs.declared.collectives.Coll.TheVariants.{Barrier, Allreduce, Create, Commit}

both : (a b : Bool) → (a && b) ≡ true → (a ≡ true) × (b ≡ true)
both true b h = (refl, h)
both false b h = absurd (let no : ⊥ = cc in no)

pointwise-same : (a b : List ℕ) → pointwise nat_eq a b ≡ true → a ≡ b
pointwise-same [] [] h = refl
pointwise-same [] (y ∷ b) h = absurd (let no : ⊥ = cc in no)
pointwise-same (x ∷ a) [] h = absurd (let no : ⊥ = cc in no)
pointwise-same (x ∷ a) (y ∷ b) h =
    let parts = both (nat_eq x y) (pointwise nat_eq a b) h in
    let head = eqb-true x y parts.0 in
    let tail = pointwise-same a b parts.1 in
    cc

-- what the numbers of a collective stand for

op_named : ℕ → Op
op_named number = if number == 0 then Min else (if number == 1 then Max else Sum)

type_named : ℕ → NumType
type_named number =
    if number == 0 then Int
    else (if number == 1 then Uint
    else (if number == 2 then Long
    else (if number == 3 then Ulong
    else (if number == 4 then Float else Double))))

coll_named : List ℕ → Coll
coll_named fields =
    if get_or fields 0 0 == 0 then Barrier
    else (if get_or fields 0 0 == 1 then Allreduce (op_named (get_or fields 1 0)) (type_named (get_or fields 2 0)) (get_or fields 3 0)
    else (if get_or fields 0 0 == 2 then Create (get_or fields 1 0) (get_or fields 2 0)
    else Commit (get_or fields 1 0)))

op_named-same : (x : Op) → op_named (op_number x) ≡ x
unfolding op_named
op_named-same Min = refl
op_named-same Max = refl
op_named-same Sum = refl

type_named-same : (x : NumType) → type_named (type_number x) ≡ x
unfolding type_named
type_named-same Int = refl
type_named-same Uint = refl
type_named-same Long = refl
type_named-same Ulong = refl
type_named-same Float = refl
type_named-same Double = refl

coll_named-same : (x : Coll) → coll_named (coll_fields x) ≡ x
unfolding coll_named
coll_named-same Barrier = refl
coll_named-same (Allreduce op num_type count) =
    ap (λ (o : Op). Allreduce o (type_named (type_number num_type)) count) (op_named-same op)
    ∙ ap (λ (t : NumType). Allreduce op t count) (type_named-same num_type)
coll_named-same (Create segment size) = refl
coll_named-same (Commit mask) = refl

pub equal_coll : (a b : Coll) → same_coll a b ≡ true → a ≡ b
equal_coll a b h = sym (coll_named-same a) ∙ ap coll_named (pointwise-same (coll_fields a) (coll_fields b) h) ∙ coll_named-same b

-- a test's result and what it says
pub tells : (r : Bool) (a b : Coll) → r ≡ same_coll a b → r ≡ true → a ≡ b
tells r a b is holds = equal_coll a b (sym is ∙ holds)
