-- Replies that compare as the same are equal.
use Rattle.std.proofs.Common.{◌≡◌, ℕ, ℤ, true, ◌==◌, if◌then◌else◌, List, [], ◌∷◌, Option, None, Some, get_or, refl, sym, ◌∙◌, ap, nat_eq}
use Rattle.std.specs.Ordering.{int_eq}
use Rattle.std.specs.Cmp.Lexicographic.{pointwise}
use Rattle.std.proofs.lemmas.Bool.{eqb-true}
use Rattle.std.proofs.lemmas.Bool.Decides.{Decides-int_eq}
use Rattle.gaspi_types.specs.Refusals.{RefusalForm, Bare, OneNumber, TwoNumbers, OneStage, OneCollective, Held, RefusalRow, refusal_rows, row_in}
use Rattle.gaspi_types.specs.Replies.{refusal_number, refusal_fields, stage_number, op_number, type_number, coll_fields, same_refusal, same_numbers, same_reply}
use Rattle.gaspi_types.specs.Collectives.{same_coll, same_args}
use Rattle.gaspi_types.specs.declared.groups.Args.{Args}
use Rattle.gaspi_types.specs.declared.collectives.NumType.{NumType}
use Rattle.gaspi_types.specs.declared.collectives.Op.{Op}
use Rattle.gaspi_types.specs.declared.collectives.Stage.{Stage}
use Rattle.gaspi_types.specs.declared.collectives.Coll.{Coll}
use Rattle.gaspi_types.specs.NumberTypes.{TypedNumbers}
use Rattle.gaspi_types.specs.declared.collectives.NumType.TheVariants.{Int, Uint, Long, Ulong, Float, Double}
use Rattle.gaspi_types.specs.declared.collectives.Op.TheVariants.{Min, Max, Sum}
use Rattle.gaspi_types.specs.declared.collectives.Stage.TheVariants.{Building, Committed}
use Rattle.gaspi_types.specs.declared.collectives.Coll.TheVariants.{Barrier, Allreduce, Create, Commit}
use Rattle.gaspi_types.specs.declared.replies.Refusal.{Refusal}
use Rattle.gaspi_types.specs.declared.replies.Refusal.TheVariants.{BadRank, GroupStage, ResumeOther, CollectiveMismatch}
use Rattle.gaspi_types.specs.declared.replies.Reply.{Reply}
use Rattle.gaspi_types.specs.declared.replies.Reply.TheVariants as replies
use Rattle.gaspi_types.specs.declared.events.Outcome.{Outcome}
use Rattle.gaspi_types.specs.declared.events.Outcome.TheVariants.{Applied, Failed}
use Rattle.gaspi_model.specs.Transfers.{same_outcome}
use Rattle.gaspi_types.proofs.Chains.{both}

pub pointwise-same : (a b : List ℕ) → pointwise nat_eq a b ≡ true → a ≡ b
pointwise-same [] [] h = refl
pointwise-same [] (y ∷ b) h = absurd (let no : ⊥ = cc in no)
pointwise-same (x ∷ a) [] h = absurd (let no : ⊥ = cc in no)
pointwise-same (x ∷ a) (y ∷ b) h =
    let parts = both (nat_eq x y) (pointwise nat_eq a b) h in
    let head = eqb-true x y parts.0 in
    let tail = pointwise-same a b parts.1 in
    cc

-- what the numbers of a collective stand for

stage_named : ℕ → Stage
stage_named number = if number == 0 then Building else Committed

op_named : ℕ → Op
op_named number = if number == 0 then Min else (if number == 1 then Max else Sum)

type_named : ℕ → NumType
type_named number =
    if number == 0 then Int
    else (if number == 1 then Uint
    else (if number == 2 then Long
    else (if number == 3 then Ulong
    else (if number == 4 then Float else Double))))

coll_named : List ℕ → Coll
coll_named fields =
    if get_or fields 0 0 == 0 then Barrier
    else (if get_or fields 0 0 == 1 then Allreduce (op_named (get_or fields 1 0)) (type_named (get_or fields 2 0)) (get_or fields 3 0)
    else (if get_or fields 0 0 == 2 then Create (get_or fields 1 0) (get_or fields 2 0)
    else Commit (get_or fields 1 0)))

stage_named-same : (x : Stage) → stage_named (stage_number x) ≡ x
unfolding stage_named
stage_named-same Building = refl
stage_named-same Committed = refl

op_named-same : (x : Op) → op_named (op_number x) ≡ x
unfolding op_named
op_named-same Min = refl
op_named-same Max = refl
op_named-same Sum = refl

type_named-same : (x : NumType) → type_named (type_number x) ≡ x
unfolding type_named
type_named-same Int = refl
type_named-same Uint = refl
type_named-same Long = refl
type_named-same Ulong = refl
type_named-same Float = refl
type_named-same Double = refl

coll_named-same : (x : Coll) → coll_named (coll_fields x) ≡ x
unfolding coll_named
coll_named-same Barrier = refl
coll_named-same (Allreduce op num_type count) =
    ap (λ (o : Op). Allreduce o (type_named (type_number num_type)) count) (op_named-same op)
    ∙ ap (λ (t : NumType). Allreduce op t count) (type_named-same num_type)
coll_named-same (Create segment size) = refl
coll_named-same (Commit mask) = refl

-- what the numbers of fields stand for
held_named : (form : RefusalForm) → List ℕ → Held form
held_named Bare fields = tt
held_named OneNumber fields = get_or fields 0 0
held_named TwoNumbers fields = (get_or fields 0 0, get_or fields 1 0)
held_named OneStage fields = stage_named (get_or fields 0 0)
held_named OneCollective fields = coll_named fields

-- the refusal of a row and fields
made_named : Option RefusalRow → List ℕ → Refusal
made_named None fields = BadRank
made_named (Some row) fields = row.made (held_named row.form fields)

-- the refusal of a number and fields
refusal_named : ℕ → List ℕ → Refusal
refusal_named number fields = made_named (row_in number refusal_rows) fields

refusal_named-same : (r : Refusal) → refusal_named (refusal_number r) (refusal_fields r) ≡ r
unfolding refusal_named made_named held_named
refusal_named-same (GroupStage stage) = ap GroupStage (stage_named-same stage)
refusal_named-same (ResumeOther kept) = ap ResumeOther (coll_named-same kept)
refusal_named-same (CollectiveMismatch kept) = ap CollectiveMismatch (coll_named-same kept)
refusal_named-same refusal = refl

pub same_refusal-same : (a b : Refusal) → same_refusal a b ≡ true → a ≡ b
same_refusal-same a b h =
    let parts = both (refusal_number a == refusal_number b) (pointwise nat_eq (refusal_fields a) (refusal_fields b)) h in
    let numbers = eqb-true (refusal_number a) (refusal_number b) parts.0 in
    let fields = pointwise-same (refusal_fields a) (refusal_fields b) parts.1 in
    sym (refusal_named-same a) ∙ ap (λ (n : ℕ). refusal_named n (refusal_fields a)) numbers
    ∙ ap (refusal_named (refusal_number b)) fields ∙ refusal_named-same b

pointwise-int : (a b : List ℤ) → pointwise int_eq a b ≡ true → a ≡ b
pointwise-int [] [] h = refl
pointwise-int [] (y ∷ b) h = absurd (let no : ⊥ = cc in no)
pointwise-int (x ∷ a) [] h = absurd (let no : ⊥ = cc in no)
pointwise-int (x ∷ a) (y ∷ b) h =
    let parts = both (int_eq x y) (pointwise int_eq a b) h in
    let head = (Decides-int_eq x y).0 parts.0 in
    let tail = pointwise-int a b parts.1 in
    cc

numbers_of : NumType → List ℤ → TypedNumbers
numbers_of num_type items = record { num_type = num_type; items = items }

same_numbers-same : (a b : TypedNumbers) → same_numbers a b ≡ true → a ≡ b
unfolding numbers_of
same_numbers-same a b h =
    let parts = both (type_number a.num_type == type_number b.num_type) (pointwise int_eq a.items b.items) h in
    let types : a.num_type ≡ b.num_type = sym (type_named-same a.num_type) ∙ ap type_named (eqb-true (type_number a.num_type) (type_number b.num_type) parts.0) ∙ type_named-same b.num_type in
    ap (λ (t : NumType). numbers_of t a.items) types ∙ ap (numbers_of b.num_type) (pointwise-int a.items b.items parts.1)

pub same_coll-same : (a b : Coll) → same_coll a b ≡ true → a ≡ b
same_coll-same a b h = sym (coll_named-same a) ∙ ap coll_named (pointwise-same (coll_fields a) (coll_fields b) h) ∙ coll_named-same b

args_with : Coll → TypedNumbers → Args
args_with coll values = record { coll = coll; values = values }

pub same_args-same : (a b : Args) → same_args a b ≡ true → a ≡ b
unfolding args_with
same_args-same a b h =
    let parts = both (same_coll a.coll b.coll) (same_numbers a.values b.values) h in
    ap (λ (c : Coll). args_with c a.values) (same_coll-same a.coll b.coll parts.0) ∙ ap (args_with b.coll) (same_numbers-same a.values b.values parts.1)

pub same_reply-same : (a b : Reply) → same_reply a b ≡ true → a ≡ b
same_reply-same replies.Done replies.Done h = refl
same_reply-same (replies.Value m) (replies.Value n) h = ap (λ (k : ℕ). replies.Value k) (eqb-true m n h)
same_reply-same (replies.Id m) (replies.Id n) h = ap (λ (k : ℕ). replies.Id k) (eqb-true m n h)
same_reply-same (replies.Bytes a) (replies.Bytes b) h = ap (λ (k : List ℕ). replies.Bytes k) (pointwise-same a b h)
same_reply-same (replies.Mask m) (replies.Mask n) h = ap (λ (k : ℕ). replies.Mask k) (eqb-true m n h)
same_reply-same (replies.List a) (replies.List b) h = ap (λ (k : TypedNumbers). replies.List k) (same_numbers-same a b h)
same_reply-same replies.Timeout replies.Timeout h = refl
same_reply-same (replies.Refused a) (replies.Refused b) h = ap (λ (k : Refusal). replies.Refused k) (same_refusal-same a b h)
same_reply-same _ _ h = absurd (let no : ⊥ = cc in no)

pub same_outcome-same : (a b : Outcome) → same_outcome a b ≡ true → a ≡ b
same_outcome-same Applied Applied h = refl
same_outcome-same Failed Failed h = refl
same_outcome-same Applied Failed h = absurd (let no : ⊥ = cc in no)
same_outcome-same Failed Applied h = absurd (let no : ⊥ = cc in no)
