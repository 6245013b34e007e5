-- A world stays one when a caller or a segment is declared.
use Rattle.std.proofs.Common.{zero, suc, Some, ◌≡◌, ℕ, ◌+◌, ◌<◌, ◌≤◌, Bool, true, false, cond, ◌&&◌, List, [], ◌∷◌, ◌++◌, count_by, ◌==◌, eqb, refl, ◌∙◌, zero-add, ap, arith, sym, subst}
use Rattle.std.proofs.lemmas.Bool.{eqb-true}
use Rattle.std.proofs.lemmas.List.Sums.{sum_by-append, sum_by-cons, sum_by_push}
use Rattle.std.specs.List.{list_any, slice_get}
use Rattle.gaspi_types.specs.World.{ShapeValue, IsShape, is_caller, is_segment, is_segment_size}
use Rattle.gaspi_types.specs.declared.shapes.DeclaredSegment.{DeclaredSegment}
use Rattle.gaspi_types.specs.declared.shapes.CallerId.{CallerId}

both : (a b : Bool) → (a && b) ≡ true → (a ≡ true) × (b ≡ true)
both true b h = (refl, h)
both false b h = absurd (let no : ⊥ = cc in no)

-- how many callers a rank has with one more
count_by-more : (cs : List CallerId) (c : CallerId) (r : ℕ) → count_by (λ c. c.rank == r) (cs ++ c ∷ []) ≡ count_by (λ c. c.rank == r) cs + cond (eqb c.rank r) 1 0
count_by-more cs c r =
    sum_by-append (λ (c : CallerId). cond (eqb c.rank r) 1 0) cs (c ∷ []) ∙ ap (λ n. count_by (λ (c : CallerId). c.rank == r) cs + n) (zero-add _)

more-fits : (before more limit : ℕ) (same : Bool) → before ≤ limit → (same ≡ true → before < limit) → more ≡ before + cond same 1 0 → more ≤ limit
more-fits before more limit true within room is = omega (arith, room refl)
more-fits before more limit false within room is = omega arith

-- nothing passes a test that no item passes
count_by-none : {T : Type 0} (p : T → Bool) (cs : List T) → list_any p cs ≡ false → count_by p cs ≡ 0
count_by-none p [] h = refl
count_by-none {T} p (c ∷ cs) h = go (p c) refl (λ rest. count_by-none p cs rest)
  where
    go : (b : Bool) → p c ≡ b → (list_any p cs ≡ false → count_by p cs ≡ 0) → count_by p (c ∷ cs) ≡ 0
    go true is rest = absurd (let any = rw is at h in let no : ⊥ = cc in no)
    go false is rest =
        let none = rest (rw is at h) in
        let sum = sum_by-cons (λ (d : T). cond (p d) 1 0) c cs in
        sum ∙ rw is (omega arith)

-- how many callers pass a test with one more
count_by-push : {T : Type 0} (p : T → Bool) (cs : List T) (c : T) → count_by p (cs ++ c ∷ []) ≡ count_by p cs + cond (p c) 1 0
count_by-push {T} p cs c = sum_by_push (λ (d : T). cond (p d) 1 0) cs c

-- a caller that was not there is there once
once-more : (callers : List CallerId) (c : CallerId) (rank thread : ℕ) → list_any (is_caller c.rank c.thread) callers ≡ false
    → count_by (is_caller rank thread) callers ≤ 1 → count_by (is_caller rank thread) (callers ++ c ∷ []) ≤ 1
once-more callers c rank thread new once = go (is_caller rank thread c) refl
  where
    go : (b : Bool) → is_caller rank thread c ≡ b → count_by (is_caller rank thread) (callers ++ c ∷ []) ≤ 1
    go true is =
        let parts = both (c.rank == rank) (c.thread == thread) is in
        let same_rank = eqb-true c.rank rank parts.0 in
        let same_thread = eqb-true c.thread thread parts.1 in
        let none : count_by (is_caller rank thread) callers ≡ 0 = count_by-none (is_caller rank thread) callers (subst (λ (r : ℕ). list_any (is_caller r thread) callers ≡ false) same_rank (subst (λ (t : ℕ). list_any (is_caller c.rank t) callers ≡ false) same_thread new)) in
        let push = count_by-push (is_caller rank thread) callers c in
        let one : cond {A = ℕ} (is_caller rank thread c) 1 0 ≡ 1 = ap (λ (b : Bool). cond {A = ℕ} b 1 0) is in
        omega arith
    go false is =
        let push = count_by-push (is_caller rank thread) callers c in
        let none : cond {A = ℕ} (is_caller rank thread c) 1 0 ≡ 0 = ap (λ (b : Bool). cond {A = ℕ} b 1 0) is in
        omega arith

-- what holds of each of a list holds of each with one more
within-push : {T : Type 0} {P : T → Type 0} (cs : List T) (c d : T) (place : ℕ) → ((p : ℕ) (e : T) → slice_get cs p ≡ Some e → P e) → P c → slice_get (cs ++ c ∷ []) place ≡ Some d → P d
within-push {T} {P} [] c d zero all new at = let same : c ≡ d = cc in subst P same new
within-push [] c d (suc place) all new at = absurd (let no : ⊥ = cc in no)
within-push {T} {P} (x ∷ cs) c d zero all new at = all 0 d at
within-push (x ∷ cs) c d (suc place) all new at = within-push cs c d place (λ p e here. all (suc p) e here) new at

-- a rank with room for one more caller
pub IsWorld-caller : (w : ShapeValue) (callers : List CallerId) (c : CallerId) → IsShape w → callers ≡ w.callers ++ c ∷ []
    → list_any (is_caller c.rank c.thread) w.callers ≡ false → count_by (λ d. d.rank == c.rank) w.callers < w.limits.events
    → c.rank < w.limits.ranks → c.thread < 4
    → IsShape (record { limits = w.limits; segments = w.segments; callers = callers })
IsWorld-caller w callers c sound is new room rank thread = record {
  limits = sound.limits;
  callers = λ r. rw is (more-fits _ _ _ (eqb c.rank r) (sound.callers r) (λ same. subst (λ (n : ℕ). count_by (λ (d : CallerId). d.rank == n) w.callers < w.limits.events) (eqb-true c.rank r same) room) (count_by-more w.callers c r));
  once = λ r t. rw is (once-more w.callers c r t new (sound.once r t));
  within = λ place d at. within-push w.callers c d place (λ p e here. sound.within p e here) (rank, thread) (subst (λ (cs : List CallerId). slice_get cs place ≡ Some d) is at);
  segments = sound.segments;
  declared_once = sound.declared_once;
}

-- the same as the code has it: the count and the test are of lists that were read, at the numbers that were told
pub IsWorld-counted : (w : ShapeValue) (callers seen looked : List CallerId) (c : CallerId) (rank thread count : ℕ) → IsShape w
    → callers ≡ w.callers ++ c ∷ [] → c.rank ≡ rank → c.thread ≡ thread → seen ≡ w.callers → count ≡ count_by (λ d. d.rank == rank) seen
    → count < w.limits.events → looked ≡ w.callers → list_any (is_caller rank thread) looked ≡ false → rank < w.limits.ranks → thread < 4
    → IsShape (record { limits = w.limits; segments = w.segments; callers = callers })
IsWorld-counted w callers seen looked c rank thread count sound is same same' read counted room read' new low few =
    IsWorld-caller w callers c sound is
    (subst (λ (t : ℕ). list_any (is_caller c.rank t) w.callers ≡ false) (sym same')
    (subst (λ (r : ℕ). list_any (is_caller r thread) w.callers ≡ false) (sym same)
    (subst (λ (cs : List CallerId). list_any (is_caller rank thread) cs ≡ false) read' new)))
    (subst (λ (n : ℕ). n < w.limits.events)
    (counted ∙ ap (λ (cs : List CallerId). count_by (λ (d : CallerId). d.rank == rank) cs) read
    ∙ ap (λ (n : ℕ). count_by (λ (d : CallerId). d.rank == n) w.callers) (sym same))
    room)
    (subst (λ (n : ℕ). n < w.limits.ranks) (sym same) low) (subst (λ (n : ℕ). n < 4) (sym same') few)

-- a segment that was not there is there once
segment-once : (segments : List DeclaredSegment) (d : DeclaredSegment) (rank segment : ℕ) → list_any (is_segment d.rank d.segment) segments ≡ false
    → count_by (is_segment rank segment) segments ≤ 1 → count_by (is_segment rank segment) (segments ++ d ∷ []) ≤ 1
segment-once segments d rank segment new once = go (is_segment rank segment d) refl
  where
    go : (b : Bool) → is_segment rank segment d ≡ b → count_by (is_segment rank segment) (segments ++ d ∷ []) ≤ 1
    go true is =
        let parts = both (d.rank == rank) (d.segment == segment) is in
        let same_rank = eqb-true d.rank rank parts.0 in
        let same_segment = eqb-true d.segment segment parts.1 in
        let none : count_by (is_segment rank segment) segments ≡ 0 = count_by-none (is_segment rank segment) segments (subst (λ (r : ℕ). list_any (is_segment r segment) segments ≡ false) same_rank (subst (λ (n : ℕ). list_any (is_segment d.rank n) segments ≡ false) same_segment new)) in
        let push = count_by-push (is_segment rank segment) segments d in
        let one : cond {A = ℕ} (is_segment rank segment d) 1 0 ≡ 1 = ap (λ (b : Bool). cond {A = ℕ} b 1 0) is in
        omega arith
    go false is =
        let push = count_by-push (is_segment rank segment) segments d in
        let none : cond {A = ℕ} (is_segment rank segment d) 1 0 ≡ 0 = ap (λ (b : Bool). cond {A = ℕ} b 1 0) is in
        omega arith

pub IsWorld-segment : (w : ShapeValue) (segments looked : List DeclaredSegment) (d : DeclaredSegment) (rank segment : ℕ) → IsShape w → segments ≡ w.segments ++ d ∷ [] → d.rank ≡ rank → d.segment ≡ segment
    → looked ≡ w.segments → list_any (is_segment rank segment) looked ≡ false → rank < w.limits.ranks → segment < 32 → is_segment_size d.size ≡ true
    → IsShape (record { limits = w.limits; segments = segments; callers = w.callers })
IsWorld-segment w segments looked d rank segment sound is same same' read new low few size = record {
  limits = sound.limits;
  callers = sound.callers;
  once = sound.once;
  within = sound.within;
  segments = λ place e at. within-push w.segments d e place (λ p x here. sound.segments p x here)
      (subst (λ (n : ℕ). n < w.limits.ranks) (sym same) low, subst (λ (n : ℕ). n < 32) (sym same') few, size) (subst (λ (ds : List DeclaredSegment). slice_get ds place ≡ Some e) is at);
  declared_once = λ r n. rw is (segment-once w.segments d r n
      (subst (λ (m : ℕ). list_any (is_segment d.rank m) w.segments ≡ false) (sym same')
      (subst (λ (m : ℕ). list_any (is_segment m segment) w.segments ≡ false) (sym same)
      (subst (λ (ds : List DeclaredSegment). list_any (is_segment rank segment) ds ≡ false) read new))) (sound.declared_once r n));
}
