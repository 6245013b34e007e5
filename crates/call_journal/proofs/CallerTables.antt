-- Tables by rank and thread in which the item of one caller changes.
use Rattle.std.proofs.Common.{◌≡◌, ℕ, zero, suc, Bool, true, false, ◌&&◌, List, [], ◌∷◌, length, map, Option, None, Some, ◌⊎◌, inl, inr, refl, sym, ap, subst, ◌∙◌, arith}
use Rattle.std.specs.List.{slice_get, slice_set, range_with_len}
use Rattle.std.proofs.lemmas.Bool.{ne_eqb}
use Rattle.std.proofs.lemmas.List.{length-map}
use Rattle.std.proofs.lemmas.List.FromFn.{length-map-range_with_len}
use Rattle.gaspi_types.specs.World.{is_caller}
use Rattle.gaspi_types.specs.declared.shapes.CallerId.{CallerId}
use Rattle.gaspi_types.specs.Tables.{changed_at}
use Rattle.gaspi_types.proofs.Items.{changed_at-found, length-changed_at, map-at}
use Rattle.call_journal.specs.CallerTables.{HasCallers, IsCallerTable}
use Rattle.call_journal.proofs.Callers.{range-item}

-- what stands in a list of which one item was changed: the changed item, or elsewhere what stood there
get-set : {X : Type 0} (xs : List X) (i j : ℕ) (y z : X) → slice_get (slice_set xs i y) j ≡ Some z → ((j ≡ i) × (z ≡ y)) ⊎ ((j ≡ i → ⊥) × (slice_get xs j ≡ Some z))
get-set [] i j y z at = absurd (let no : ⊥ = cc in no)
get-set (x ∷ xs) zero zero y z at = let same : y ≡ z = cc in inl (refl, sym same)
get-set (x ∷ xs) zero (suc j) y z at = inr ((λ same. omega (arith, same)), at)
get-set (x ∷ xs) (suc i) zero y z at = inr ((λ same. omega (arith, same)), at)
get-set (x ∷ xs) (suc i) (suc j) y z at = shift (get-set xs i j y z at)
  where
    shift : ((j ≡ i) × (z ≡ y)) ⊎ ((j ≡ i → ⊥) × (slice_get xs j ≡ Some z)) → ((suc j ≡ suc i) × (z ≡ y)) ⊎ ((suc j ≡ suc i → ⊥) × (slice_get xs j ≡ Some z))
    shift (inl at) = inl (ap suc at.0, at.1)
    shift (inr at) = inr ((λ same. at.0 (omega (arith, same))), at.1)

get-changed : {X : Type 0} (xs : List X) (i j : ℕ) (change : X → X) (z : X) → slice_get (changed_at xs i change) j ≡ Some z
    → ((x : X) × (slice_get xs i ≡ Some x) × (j ≡ i) × (z ≡ change x)) ⊎ ((j ≡ i → ⊥) × (slice_get xs j ≡ Some z))
get-changed {X} xs i j change z at = by_item (slice_get xs i) refl
  where
    by_item : (o : Option X) → slice_get xs i ≡ o → ((x : X) × (slice_get xs i ≡ Some x) × (j ≡ i) × (z ≡ change x)) ⊎ ((j ≡ i → ⊥) × (slice_get xs j ≡ Some z))
    by_item None there =
        let same : slice_get xs j ≡ Some z = rw there at at in
        inr ((λ here. let no : slice_get xs i ≡ Some z = subst (λ (k : ℕ). slice_get xs k ≡ Some z) here same in cc), same)
    by_item (Some x) there =
        elim (get-set xs i j (change x) z (subst (λ (ys : List X). slice_get ys j ≡ Some z) (changed_at-found xs i x change there) at)) [
          | inl w ↦ inl (x, there, w.0, w.1)
          | inr w ↦ inr w
        ]

-- the table with the item of a caller changed
abbrev pub changed_of : {A : Type 0} → List (List A) → CallerId → (A → A) → List (List A)
changed_of {A} table c change = changed_at table c.rank (λ (row : List A). changed_at row c.thread change)

callers-changed : {A : Type 0} (table : List (List A)) (c : CallerId) (change : A → A) → HasCallers table → HasCallers (changed_of table c change)
callers-changed {A} table c change has = record {
  ranks = length-changed_at table c.rank _ ∙ has.ranks;
  threads = λ rank row there.
      elim (get-changed table c.rank rank (λ (row : List A). changed_at row c.thread change) row there) [
        | inl w ↦ ap length w.3 ∙ (length-changed_at w.0 c.thread _ ∙ has.threads c.rank w.0 w.1)
        | inr w ↦ has.threads rank row w.1
      ];
}

apart-rank : (rank thread : ℕ) (c : CallerId) → (rank ≡ c.rank → ⊥) → is_caller rank thread c ≡ false
apart-rank rank thread c apart = let no = ne_eqb c.rank rank (λ same. apart (sym same)) in rw no refl

both-false : (b : Bool) → (b && false) ≡ false
both-false true = refl
both-false false = refl

apart-thread : (rank thread : ℕ) (c : CallerId) → (thread ≡ c.thread → ⊥) → is_caller rank thread c ≡ false
apart-thread rank thread c apart = let no = ne_eqb c.thread thread (λ same. apart (sym same)) in rw no (both-false _)

-- the item of a caller is what it becomes, and those of all others are what they were
pub table-changed : {A : Type 0} (was is : ℕ → ℕ → A → Type 0) (table : List (List A)) (c : CallerId) (change : A → A)
    → ((item : A) → was c.rank c.thread item → is c.rank c.thread (change item))
    → ((rank thread : ℕ) (item : A) → is_caller rank thread c ≡ false → was rank thread item → is rank thread item)
    → IsCallerTable was table → IsCallerTable is (changed_of table c change)
table-changed {A} was is table c change own others before = record {
  callers = callers-changed table c change before.callers;
  each = λ rank row there thread item at.
      elim (get-changed table c.rank rank (λ (row : List A). changed_at row c.thread change) row there) [
        | inl w ↦ in_row rank w.0 thread item w.1 w.2 (subst (λ (xs : List A). slice_get xs thread ≡ Some item) w.3 at)
        | inr w ↦ others rank thread item (apart-rank rank thread c w.0) (before.each rank row w.1 thread item at)
      ];
}
  where
    in_row : (rank : ℕ) (row : List A) (thread : ℕ) (item : A) → slice_get table c.rank ≡ Some row → rank ≡ c.rank
        → slice_get (changed_at row c.thread change) thread ≡ Some item → is rank thread item
    in_row rank row thread item there here at =
        subst (λ (r : ℕ). is r thread item) (sym here)
        (elim (get-changed row c.thread thread change item at) [
          | inl w ↦
              subst (λ (t : ℕ). is c.rank t item) (sym w.2)
              (subst (λ (x : A). is c.rank c.thread x) (sym w.3) (own w.0 (before.each c.rank row there c.thread w.0 w.1)))
          | inr w ↦ others c.rank thread item (apart-thread c.rank thread c w.0) (before.each c.rank row there thread item w.1)
        ])

-- what is known of each item says more
pub table-is : {A : Type 0} (was is : ℕ → ℕ → A → Type 0) (table : List (List A)) → ((rank thread : ℕ) (item : A) → was rank thread item → is rank thread item)
    → IsCallerTable was table → IsCallerTable is table
table-is {A} was is table more before = record {
  callers = before.callers;
  each = λ rank row there thread item at. more rank thread item (before.each rank row there thread item at);
}

-- the table of what each caller has by its rank and thread
pub table-made : {A : Type 0} (f : ℕ → ℕ → A) → IsCallerTable (λ rank thread item. item ≡ f rank thread) (map (λ (rank : ℕ). map (f rank) (range_with_len 0 4)) (range_with_len 0 16))
table-made {A} f = record {
  callers = record {
    ranks = length-map-range_with_len (λ (rank : ℕ). map (f rank) (range_with_len 0 4)) 0 16;
    threads = λ rank row there.
        let made = map-at (λ (rank : ℕ). map (f rank) (range_with_len 0 4)) (range_with_len 0 16) rank row there in
        ap length made.2 ∙ length-map-range_with_len (f made.0) 0 4;
  };
  each = λ rank row there thread item at.
      let made = map-at (λ (rank : ℕ). map (f rank) (range_with_len 0 4)) (range_with_len 0 16) rank row there in
      let one = map-at (f made.0) (range_with_len 0 4) thread item (subst (λ (xs : List A). slice_get xs thread ≡ Some item) made.2 at) in
      let same : made.0 ≡ rank = range-item 0 16 rank made.0 made.1 ∙ omega arith in
      let same' : one.0 ≡ thread = range-item 0 4 thread one.0 one.1 ∙ omega arith in
      one.2 ∙ (ap (λ (n : ℕ). f n one.0) same ∙ ap (λ (n : ℕ). f rank n) same');
}

-- a table of which each item was made of another's
pub table-mapped : {A B : Type 0} (was : ℕ → ℕ → A → Type 0) (is : ℕ → ℕ → B → Type 0) (f : A → B) (table : List (List A))
    → ((rank thread : ℕ) (item : A) → was rank thread item → is rank thread (f item)) → IsCallerTable was table → IsCallerTable is (map (map f) table)
table-mapped {A} {B} was is f table makes before = record {
  callers = record {
    ranks = length-map table (map f) ∙ before.callers.ranks;
    threads = λ rank row there.
        let made = map-at (map f) table rank row there in
        ap length made.2 ∙ (length-map made.0 f ∙ before.callers.threads rank made.0 made.1);
  };
  each = λ rank row there thread item at.
      let made = map-at (map f) table rank row there in
      let one = map-at f made.0 thread item (subst (λ (xs : List B). slice_get xs thread ≡ Some item) made.2 at) in
      subst (λ (x : B). is rank thread x) (sym one.2) (makes rank thread one.0 (before.each rank made.0 made.1 thread one.0 one.1));
}
