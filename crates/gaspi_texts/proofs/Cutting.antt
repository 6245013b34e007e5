-- A history cut by owner, each event with its place: the lists of all owners have each event once, at its place.
use Rattle.std.proofs.Common.{◌≡◌, ◌≢◌, ℕ, zero, suc, ◌+◌, ◌*◌, ◌<◌, ◌≤◌, Bool, true, false, cond, ◌==◌, eq-eqb, ne_eqb, List, [], ◌∷◌, ◌++◌, append-nil, length, slice_get, Option, Some, None, refl, ap, ◌∙◌, arith, length-append}
use mathlib.Core.Logic.{dite}
use native.Mathlib.Decide.{ℕ_discrete}
use Rattle.std.specs.List.{flat_map, range_with_len}
use Rattle.std.specs.Option.{option_to_list}
use Rattle.gaspi_types.specs.declared.events.Event.{Event}
use Rattle.gaspi_types.specs.declared.events.PlacedEvent.{PlacedEvent}
use Rattle.gaspi_types.proofs.Items.{none-past}
use Rattle.gaspi_texts.specs.Merges.{with_place, joined, AreCutOf, IsRisingFrom, AreRisingFrom, placed, cut}

-- the lists of so many owners, one behind another
abbrev pub all_cut : (Event → ℕ) → ℕ → List Event → List PlacedEvent
all_cut owner count h = flat_map (λ i. cut owner i 0 h) (range_with_len 0 count)

pub place-append : (k : ℕ) (xs ys : List PlacedEvent) → with_place k (xs ++ ys) ≡ with_place k xs ++ with_place k ys
place-append k [] ys = refl
place-append k (x ∷ xs) ys = go (k == x.place) (place-append k xs ys)
  where
    go : (b : Bool) → with_place k (xs ++ ys) ≡ with_place k xs ++ with_place k ys
        → cond b (x.event ∷ with_place k (xs ++ ys)) (with_place k (xs ++ ys)) ≡ cond b (x.event ∷ with_place k xs) (with_place k xs) ++ with_place k ys
    go true rest = ap (λ (l : List Event). x.event ∷ l) rest
    go false rest = rest

module _ (owner : Event → ℕ) where
  -- one event behind the others
  pub cut-last : (i place : ℕ) (h : List Event) (e : Event) → cut owner i place (h ++ e ∷ []) ≡ cut owner i place h ++ cond (i == owner e) (placed (place + length h) e ∷ []) []
  cut-last i place [] e = append-nil (cond (i == owner e) (placed place e ∷ []) []) ∙ ap (λ (k : ℕ). cond (i == owner e) (placed k e ∷ []) []) (omega arith)
  cut-last i place (x ∷ h) e = go (i == owner x) (cut-last i (suc place) h e ∙ ap (λ (k : ℕ). cut owner i (suc place) h ++ cond (i == owner e) (placed k e ∷ []) []) (omega arith))
    where
      go : (b : Bool) → cut owner i (suc place) (h ++ e ∷ []) ≡ cut owner i (suc place) h ++ cond (i == owner e) (placed (place + length (x ∷ h)) e ∷ []) []
          → cond b (placed place x ∷ []) [] ++ cut owner i (suc place) (h ++ e ∷ [])
          ≡ (cond b (placed place x ∷ []) [] ++ cut owner i (suc place) h) ++ cond (i == owner e) (placed (place + length (x ∷ h)) e ∷ []) []
      go true rest = ap (λ (l : List PlacedEvent). placed place x ∷ l) rest
      go false rest = rest

  -- an event of the owner or not, before the others
  head-else : (i n k : ℕ) (x : Event) (rest : List PlacedEvent) → k ≢ n → with_place k (cond (i == owner x) (placed n x ∷ []) [] ++ rest) ≡ with_place k rest
  head-else i n k x rest ne = go (i == owner x)
    where
      go : (b : Bool) → with_place k (cond b (placed n x ∷ []) [] ++ rest) ≡ with_place k rest
      go true = rw (ne_eqb k n ne) refl
      go false = refl

  head-here : (i n : ℕ) (x : Event) (rest : List PlacedEvent) → with_place n rest ≡ [] → with_place n (cond (i == owner x) (placed n x ∷ []) [] ++ rest) ≡ cond (i == owner x) (x ∷ []) []
  head-here i n x rest none = go (i == owner x)
    where
      go : (b : Bool) → with_place n (cond b (placed n x ∷ []) [] ++ rest) ≡ cond b (x ∷ []) []
      go true = rw (eq-eqb n n refl) (ap (λ (l : List Event). x ∷ l) none)
      go false = none

  before : (i n k : ℕ) (h : List Event) → k < n → with_place k (cut owner i n h) ≡ []
  before i n k [] lt = refl
  before i n k (x ∷ h) lt = head-else i n k x (cut owner i (suc n) h) (λ (q : k ≡ n). absurd (omega arith)) ∙ before i (suc n) k h (omega arith)

  cut-at : (i n k j : ℕ) (h : List Event) (e : Event) → j ≡ n + k → slice_get h k ≡ Some e → with_place j (cut owner i n h) ≡ cond (i == owner e) (e ∷ []) []
  cut-at i n k j [] e is at = absurd (let no : ⊥ = cc in no)
  cut-at i n zero j (x ∷ h) e is at =
      let same : x ≡ e = cc in
      let here : j ≡ n = omega arith in
      ap (λ (z : ℕ). with_place z (cut owner i n (x ∷ h))) here ∙ (head-here i n x (cut owner i (suc n) h) (before i (suc n) n h (omega arith)) ∙ ap (λ (z : Event). cond (i == owner z) (z ∷ []) []) same)
  cut-at i n (suc k) j (x ∷ h) e is at = head-else i n j x (cut owner i (suc n) h) (λ (q : j ≡ n). absurd (omega arith)) ∙ cut-at i (suc n) k j h e (omega arith) at

  cut-past : (i n j : ℕ) (h : List Event) → n + length h ≤ j → with_place j (cut owner i n h) ≡ []
  cut-past i n j [] le = refl
  cut-past i n j (x ∷ h) le = head-else i n j x (cut owner i (suc n) h) (λ (q : j ≡ n). absurd (omega arith)) ∙ cut-past i (suc n) j h (omega arith)

  past-from : (h : List Event) (a count j : ℕ) → length h ≤ j → with_place j (flat_map (λ i. cut owner i 0 h) (range_with_len a count)) ≡ []
  past-from h a zero j le = refl
  past-from h a (suc count) j le =
      place-append j (cut owner a 0 h) (flat_map (λ i. cut owner i 0 h) (range_with_len (a + 1) count))
      ∙ (ap (λ (l : List Event). l ++ with_place j (flat_map (λ i. cut owner i 0 h) (range_with_len (a + 1) count))) (cut-past a 0 j h (omega arith)) ∙ past-from h (a + 1) count j le)

  -- an event of an owner before these
  none-from : (h : List Event) (a count k : ℕ) (e : Event) → slice_get h k ≡ Some e → owner e < a → with_place k (flat_map (λ i. cut owner i 0 h) (range_with_len a count)) ≡ []
  none-from h a zero k e at lt = refl
  none-from h a (suc count) k e at lt =
      place-append k (cut owner a 0 h) (flat_map (λ i. cut owner i 0 h) (range_with_len (a + 1) count))
      ∙ (ap (λ (l : List Event). l ++ with_place k (flat_map (λ i. cut owner i 0 h) (range_with_len (a + 1) count)))
      (cut-at a 0 k k h e (omega arith) at ∙ ap (λ (b : Bool). cond b (e ∷ []) []) (ne_eqb a (owner e) (λ (q : a ≡ owner e). absurd (omega arith))))
      ∙ none-from h (a + 1) count k e at (omega arith))

  one-from : (h : List Event) (a count k : ℕ) (e : Event) → slice_get h k ≡ Some e → a ≤ owner e → owner e < a + count → with_place k (flat_map (λ i. cut owner i 0 h) (range_with_len a count)) ≡ e ∷ []
  one-from h a zero k e at le lt = absurd (omega arith)
  one-from h a (suc count) k e at le lt =
      place-append k (cut owner a 0 h) (flat_map (λ i. cut owner i 0 h) (range_with_len (a + 1) count))
      ∙ dite (ℕ_discrete a (owner e))
      (λ is. ap (λ (l : List Event). l ++ with_place k (flat_map (λ i. cut owner i 0 h) (range_with_len (a + 1) count))) (cut-at a 0 k k h e (omega arith) at ∙ ap (λ (b : Bool). cond b (e ∷ []) []) (eq-eqb a (owner e) is))
      ∙ ap (λ (l : List Event). e ∷ l) (none-from h (a + 1) count k e at (omega arith)))
      (λ ne. ap (λ (l : List Event). l ++ with_place k (flat_map (λ i. cut owner i 0 h) (range_with_len (a + 1) count))) (cut-at a 0 k k h e (omega arith) at ∙ ap (λ (b : Bool). cond b (e ∷ []) []) (ne_eqb a (owner e) ne))
      ∙ one-from h (a + 1) count k e at (omega arith) (omega arith))

  -- the lists of all owners have each event of the history once, at its place, and no other
  pub are-cut : (count : ℕ) (h : List Event) → ((k : ℕ) (e : Event) → slice_get h k ≡ Some e → owner e < count) → (k : ℕ) → with_place k (all_cut owner count h) ≡ option_to_list (slice_get h k)
  are-cut count h within k = go (slice_get h k) refl
    where
      go : (o : Option Event) → slice_get h k ≡ o → with_place k (all_cut owner count h) ≡ option_to_list o
      go None at = past-from h 0 count k (none-past h k at)
      go (Some e) at = one-from h 0 count k e at (omega arith) (let lt = within k e at in omega arith)

  -- lists that are those of the owners from a number on, in order
  joined-from : (h : List Event) (a : ℕ) (lists : List (List PlacedEvent)) → ((k : ℕ) (l : List PlacedEvent) → slice_get lists k ≡ Some l → l ≡ cut owner (a + k) 0 h)
      → joined lists ≡ flat_map (λ i. cut owner i 0 h) (range_with_len a (length lists))
  joined-from h a [] are = refl
  joined-from h a (l ∷ lists) are =
      let here : l ≡ cut owner a 0 h = are 0 l refl ∙ ap (λ (i : ℕ). cut owner i 0 h) (omega arith) in
      let rest = joined-from h (a + 1) lists (λ k x at. are (suc k) x at ∙ ap (λ (i : ℕ). cut owner i 0 h) (omega arith)) in
      ap (λ (x : List PlacedEvent). x ++ joined lists) here ∙ ap (λ (x : List PlacedEvent). cut owner a 0 h ++ x) rest

  -- Lists of which each is the history cut by an owner, in order, where all owners have a list, have each event once, at its
  -- place.
  pub joined-are-cut : (h : List Event) (lists : List (List PlacedEvent)) → ((k : ℕ) (l : List PlacedEvent) → slice_get lists k ≡ Some l → l ≡ cut owner k 0 h)
      → ((k : ℕ) (e : Event) → slice_get h k ≡ Some e → owner e < length lists) → AreCutOf lists h
  joined-are-cut h lists are within k =
      ap (λ (l : List PlacedEvent). with_place k l) (joined-from h 0 lists (λ j l at. are j l at ∙ ap (λ (i : ℕ). cut owner i 0 h) (omega arith)))
      ∙ are-cut (length lists) h within k

  rising-earlier : (n m : ℕ) (l : List PlacedEvent) → IsRisingFrom n l → m ≤ n → IsRisingFrom m l
  rising-earlier n m [] rises le = tt
  rising-earlier n m (x ∷ l) rises le = (omega (arith, rises.0), rises.1)

  -- the events of an owner are in rising order of places
  pub cut-rises : (i n : ℕ) (h : List Event) → IsRisingFrom n (cut owner i n h)
  cut-rises i n [] = tt
  cut-rises i n (x ∷ h) = go (i == owner x) (cut-rises i (suc n) h)
    where
      go : (b : Bool) → IsRisingFrom (suc n) (cut owner i (suc n) h) → IsRisingFrom n (cond b (placed n x ∷ []) [] ++ cut owner i (suc n) h)
      go true rest = (omega arith, rest)
      go false rest = rising-earlier (suc n) n (cut owner i (suc n) h) rest (omega arith)

  pub joined-rise : (h : List Event) (lists : List (List PlacedEvent)) → ((k : ℕ) (l : List PlacedEvent) → slice_get lists k ≡ Some l → l ≡ cut owner k 0 h) → AreRisingFrom 0 lists
  joined-rise h lists are k l at = rw (are k l at) (cut-rises k 0 h)

-- lists of at most so many events each have at most that many times their number
pub length-joined : (most : ℕ) (lists : List (List PlacedEvent)) → ((k : ℕ) (l : List PlacedEvent) → slice_get lists k ≡ Some l → length l ≤ most) → length (joined lists) ≤ length lists * most
length-joined most [] each = omega arith
length-joined most (l ∷ lists) each =
    let here = each 0 l refl in
    let rest = length-joined most lists (λ k x at. each (suc k) x at) in
    let whole = length-append l (joined lists) in
    omega arith
