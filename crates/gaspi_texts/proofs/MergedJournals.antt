-- Rank journals merged by place.
use Rattle.std.proofs.Common.{◌≡◌, ◌≢◌, ◌⊎◌, inl, inr, ℕ, zero, suc, ◌+◌, ◌<◌, ◌≤◌, Bool, true, false, cond, eq-eqb, ne_eqb, List, [], ◌∷◌, ◌++◌, append_assoc, length, get_or, set, slice_get, nat_lt, Option, Some, None, refl, sym, ap, subst, ◌∙◌, arith, length-append}
use Rattle.std.specs.Option.{option_to_list}
use Rattle.std.specs.List.{position, position_or_len}
use Rattle.std.proofs.lemmas.Bool.{eqb-true}
use Rattle.std.proofs.lemmas.Bool.Decides.{nat_tests}
use Rattle.std.proofs.lemmas.List.Quantifiers.{position-Some}
use Rattle.std.proofs.lemmas.List.Sums.{fails_before_first}
use Rattle.std.proofs.lemmas.Option.{slice_get_within, slice_get-get_or, get_or_from_slice_get}
use Rattle.gaspi_types.proofs.Items.{none-past, slice_get-set}
use Rattle.gaspi_types.specs.declared.events.Event.{Event}
use Rattle.gaspi_types.specs.declared.events.PlacedEvent.{PlacedEvent}
use Rattle.gaspi_texts.specs.Merges.{with_place, joined, AreCutOf, IsRisingFrom, AreRisingFrom, starts_at}
use Rattle.gaspi_texts.proofs.Cutting.{place-append}

-- a list that rises from a place has no event before it
none-before : (k n : ℕ) (l : List PlacedEvent) → IsRisingFrom n l → k < n → with_place k l ≡ []
none-before k n [] rises lt = refl
none-before k n (x ∷ l) rises lt =
    let first = rises.0 in
    let ne : k ≢ x.place = λ (q : k ≡ x.place). absurd (omega arith) in
    rw (ne_eqb k x.place ne) (none-before k (suc x.place) l rises.1 (omega arith))

-- where no event has its first place, a list rises from the next one
rises-later : (n : ℕ) (l : List PlacedEvent) → IsRisingFrom n l → with_place n l ≡ [] → IsRisingFrom (suc n) l
rises-later n [] rises none = tt
rises-later n (x ∷ l) rises none =
    let first = rises.0 in
    let ne : n ≢ x.place = λ (is : n ≡ x.place). absurd (let one = rw (eq-eqb n x.place is) at none in let no : ⊥ = cc in no) in
    (omega arith, rises.1)

none-at-head : (n : ℕ) (l : List PlacedEvent) → IsRisingFrom n l → starts_at n l ≡ false → with_place n l ≡ []
none-at-head n [] rises other = refl
none-at-head n (x ∷ l) rises other = let first = rises.0 in rw other (none-before n (suc x.place) l rises.1 (omega arith))

none-joined : (k : ℕ) (lists : List (List PlacedEvent)) → ((j : ℕ) (l : List PlacedEvent) → slice_get lists j ≡ Some l → with_place k l ≡ []) → with_place k (joined lists) ≡ []
none-joined k [] each = refl
none-joined k (l ∷ lists) each =
    place-append k l (joined lists) ∙ (ap (λ (z : List Event). z ++ with_place k (joined lists)) (each 0 l refl) ∙ none-joined k lists (λ j x at. each (suc j) x at))

no-parts : (a b : List Event) → a ++ b ≡ [] → (a ≡ []) × (b ≡ [])
no-parts [] b e = (refl, e)
no-parts (x ∷ a) b e = absurd (let no : ⊥ = cc in no)

none-within : (k : ℕ) (lists : List (List PlacedEvent)) (j : ℕ) (l : List PlacedEvent) → with_place k (joined lists) ≡ [] → slice_get lists j ≡ Some l → with_place k l ≡ []
none-within k [] j l none at = absurd (let no : ⊥ = cc in no)
none-within k (y ∷ ys) zero l none at =
    let same : y ≡ l = cc in
    let parts = no-parts (with_place k y) (with_place k (joined ys)) (sym (place-append k y (joined ys)) ∙ none) in
    ap (λ (z : List PlacedEvent). with_place k z) (sym same) ∙ parts.0
none-within k (y ∷ ys) (suc j) l none at =
    let parts = no-parts (with_place k y) (with_place k (joined ys)) (sym (place-append k y (joined ys)) ∙ none) in
    none-within k ys j l parts.1 at

-- an event taken out of the first place of a list
record IsTaken (before after : List (List PlacedEvent)) (x : PlacedEvent) : Type 0 where
  front : List PlacedEvent
  back : List PlacedEvent
  whole : joined before ≡ front ++ x ∷ back
  rest : joined after ≡ front ++ back

taken : (lists : List (List PlacedEvent)) (i : ℕ) (x : PlacedEvent) (l : List PlacedEvent) → slice_get lists i ≡ Some (x ∷ l) → IsTaken lists (set lists i l) x
taken [] i x l at = absurd (let no : ⊥ = cc in no)
taken (y ∷ ys) zero x l at =
    let same : y ≡ x ∷ l = cc in
    record { front = []; back = l ++ joined ys; whole = ap (λ (z : List PlacedEvent). z ++ joined ys) same; rest = refl }
taken (y ∷ ys) (suc i) x l at =
    let t = taken ys i x l at in
    record {
      front = y ++ t.front;
      back = t.back;
      whole = ap (λ (z : List PlacedEvent). y ++ z) t.whole ∙ sym (append_assoc y t.front (x ∷ t.back));
      rest = ap (λ (z : List PlacedEvent). y ++ z) t.rest ∙ sym (append_assoc y t.front t.back);
    }

only-one : (o : Option Event) (a b : List Event) (x : Event) → a ++ x ∷ b ≡ option_to_list o → (option_to_list o ≡ x ∷ []) × (a ++ b ≡ [])
only-one None [] b x e = absurd (let no : ⊥ = cc in no)
only-one None (y ∷ a) b x e = absurd (let no : ⊥ = cc in no)
only-one (Some z) [] b x e = let same : z ≡ x = cc in let none : b ≡ [] = cc in (ap (λ (w : Event). w ∷ []) same, none)
only-one (Some z) (y ∷ []) b x e = absurd (let no : ⊥ = cc in no)
only-one (Some z) (y ∷ w ∷ a) b x e = absurd (let no : ⊥ = cc in no)

one-of : (o : Option Event) (e : Event) → option_to_list o ≡ e ∷ [] → o ≡ Some e
one-of None e is = absurd (let no : ⊥ = cc in no)
one-of (Some x) e is = let same : x ≡ e = cc in ap (λ (z : Event). Some z) same

none-of : (o : Option Event) → option_to_list o ≡ [] → o ≡ None
none-of None is = refl
none-of (Some x) is = absurd (let no : ⊥ = cc in no)

last-or-before : (out : List Event) (x : Event) (k : ℕ) (e : Event) → slice_get (out ++ x ∷ []) k ≡ Some e → (slice_get out k ≡ Some e) ⊎ ((k ≡ length out) × (e ≡ x))
last-or-before [] x zero e at = inr (refl, (let same : x ≡ e = cc in sym same))
last-or-before [] x (suc k) e at = absurd (let no : ⊥ = cc in no)
last-or-before (y ∷ out) x zero e at = inl at
last-or-before (y ∷ out) x (suc k) e at = go (last-or-before out x k e at)
  where
    go : (slice_get out k ≡ Some e) ⊎ ((k ≡ length out) × (e ≡ x)) → (slice_get (y ∷ out) (suc k) ≡ Some e) ⊎ ((suc k ≡ length (y ∷ out)) × (e ≡ x))
    go (inl old) = inl old
    go (inr new) = inr (ap (λ (n : ℕ). suc n) new.0, new.1)

same-lists : (a b : List Event) → ((k : ℕ) (e : Event) → slice_get a k ≡ Some e → slice_get b k ≡ Some e) → length b ≤ length a → a ≡ b
same-lists [] [] each le = refl
same-lists [] (y ∷ b) each le = absurd (omega arith)
same-lists (x ∷ a) [] each le = absurd (let at = each 0 x refl in let no : ⊥ = cc in no)
same-lists (x ∷ a) (y ∷ b) each le =
    let at = each 0 x refl in
    let same : x ≡ y = cc in
    let rest = same-lists a b (λ k e there. each (suc k) e there) (omega arith) in
    ap (λ (z : Event). z ∷ a) same ∙ ap (λ (z : List Event). y ∷ z) rest

-- What is merged so far: each event of it was at its place, and all later ones are where they were.
pub record IsMerged (before now : List (List PlacedEvent)) (out : List Event) : Type 0 where
  pub rising : AreRisingFrom (length out) now
  pub each : (k : ℕ) (e : Event) → slice_get out k ≡ Some e → with_place k (joined before) ≡ e ∷ []
  pub later : (k : ℕ) → length out ≤ k → with_place k (joined now) ≡ with_place k (joined before)
  pub count : length (joined now) + length out ≡ length (joined before)

pub not-begun : (lists : List (List PlacedEvent)) → AreRisingFrom 0 lists → IsMerged lists lists []
not-begun lists rising = record {
  rising = rising;
  each = λ k e at. absurd (let no : ⊥ = cc in no);
  later = λ k le. refl;
  count = omega arith;
}

module _ (before now : List (List PlacedEvent)) (out journal : List Event) (cut : AreCutOf before journal) (so_far : IsMerged before now out)
    (i : ℕ) (x : PlacedEvent) (l : List PlacedEvent) (at : slice_get now i ≡ Some (x ∷ l)) (here : x.place ≡ length out) where
  t : IsTaken now (set now i l) x
  t = taken now i x l at

  found : with_place (length out) (joined now) ≡ with_place (length out) t.front ++ x.event ∷ with_place (length out) t.back
  found =
      let next = λ (b : Bool). with_place (length out) t.front ++ cond b (x.event ∷ with_place (length out) t.back) (with_place (length out) t.back) in
      ap (λ (z : List PlacedEvent). with_place (length out) z) t.whole
      ∙ (place-append (length out) t.front (x ∷ t.back) ∙ ap next (eq-eqb (length out) x.place (sym here)))

  one : (option_to_list (slice_get journal (length out)) ≡ x.event ∷ []) × (with_place (length out) t.front ++ with_place (length out) t.back ≡ [])
  one = only-one (slice_get journal (length out)) (with_place (length out) t.front) (with_place (length out) t.back) x.event (sym found ∙ (so_far.later (length out) (omega arith) ∙ cut (length out)))

  gone : with_place (length out) (joined (set now i l)) ≡ []
  gone = ap (λ (z : List PlacedEvent). with_place (length out) z) t.rest ∙ (place-append (length out) t.front t.back ∙ one.1)

  others : (k : ℕ) → k ≢ x.place → with_place k (joined (set now i l)) ≡ with_place k (joined now)
  others k ne =
      let next = λ (b : Bool). with_place k t.front ++ cond b (x.event ∷ with_place k t.back) (with_place k t.back) in
      let old : with_place k (joined now) ≡ with_place k t.front ++ with_place k t.back =
      ap (λ (z : List PlacedEvent). with_place k z) t.whole ∙ (place-append k t.front (x ∷ t.back) ∙ ap next (ne_eqb k x.place ne)) in
      ap (λ (z : List PlacedEvent). with_place k z) t.rest ∙ (place-append k t.front t.back ∙ sym old)

  longer : length (out ++ x.event ∷ []) ≡ suc (length out)
  longer = let l = length-append out (x.event ∷ []) in omega arith

  rising : (k : ℕ) (y : List PlacedEvent) → slice_get (set now i l) k ≡ Some y → IsRisingFrom (suc (length out)) y
  rising k y there = go (slice_get-set now i k l y there)
    where
      go : ((k ≡ i) × (y ≡ l)) ⊎ (slice_get now k ≡ Some y) → IsRisingFrom (suc (length out)) y
      go (inl same) = subst (λ (z : List PlacedEvent). IsRisingFrom (suc (length out)) z) (sym same.1) (subst (λ (n : ℕ). IsRisingFrom (suc n) l) here (so_far.rising i (x ∷ l) at).1)
      go (inr old) = rises-later (length out) y (so_far.rising k y old) (none-within (length out) (set now i l) k y gone there)

  each : (k : ℕ) (e : Event) → slice_get (out ++ x.event ∷ []) k ≡ Some e → with_place k (joined before) ≡ e ∷ []
  each k e there = go (last-or-before out x.event k e there)
    where
      go : (slice_get out k ≡ Some e) ⊎ ((k ≡ length out) × (e ≡ x.event)) → with_place k (joined before) ≡ e ∷ []
      go (inl old) = so_far.each k e old
      go (inr new) =
          ap (λ (n : ℕ). with_place n (joined before)) new.0 ∙ (cut (length out) ∙ (one.0 ∙ ap (λ (z : Event). z ∷ []) (sym new.1)))

  -- the event that has the next place is taken out of the list that begins with it
  pub merged-one : IsMerged before (set now i l) (out ++ x.event ∷ [])
  merged-one = record {
    rising = λ k y there. subst (λ (n : ℕ). IsRisingFrom n y) (sym longer) (rising k y there);
    each = each;
    later = λ k le. let more = longer in others k (λ (is : k ≡ x.place). absurd (omega arith)) ∙ so_far.later k (omega arith);
    count =
        let whole = ap (λ (z : List PlacedEvent). length z) t.whole in
        let rest = ap (λ (z : List PlacedEvent). length z) t.rest in
        let one_more = length-append t.front (x ∷ t.back) in
        let less = length-append t.front t.back in
        let more = longer in
        let old = so_far.count in
        omega arith;
  }

module _ (before now : List (List PlacedEvent)) (out journal : List Event) (cut : AreCutOf before journal) (so_far : IsMerged before now out)
    (none : (k : ℕ) (l : List PlacedEvent) → slice_get now k ≡ Some l → starts_at (length out) l ≡ false) where
  past : with_place (length out) (joined before) ≡ []
  past =
      sym (so_far.later (length out) (omega arith))
      ∙ none-joined (length out) now (λ k l at. none-at-head (length out) l (so_far.rising k l at) (none k l at))

  within : (k : ℕ) (e : Event) → slice_get out k ≡ Some e → slice_get journal k ≡ Some e
  within k e at = one-of (slice_get journal k) e (sym (cut k) ∙ so_far.each k e at)

  -- where no list begins with the next place, all events are merged
  pub all-merged : out ≡ journal
  all-merged = same-lists out journal within (none-past journal (length out) (none-of (slice_get journal (length out)) (sym (cut (length out)) ∙ past)))

not-less : (a b : ℕ) → nat_lt a b ≡ false → b ≤ a
not-less a b is = grind (arith, nat_tests)

-- where no list is found, none begins with the place
pub none-next : (n : ℕ) (lists : List (List PlacedEvent)) → position (starts_at n) lists ≡ None → (k : ℕ) (l : List PlacedEvent) → slice_get lists k ≡ Some l → starts_at n l ≡ false
none-next n lists none k l at = go (nat_lt (position_or_len (starts_at n) lists) (length lists)) refl
  where
    go : (b : Bool) → nat_lt (position_or_len (starts_at n) lists) (length lists) ≡ b → starts_at n l ≡ false
    go true is = absurd (let found = rw is at none in let no : ⊥ = cc in no)
    go false is =
        let inside = slice_get_within lists k l at in
        let past = not-less (position_or_len (starts_at n) lists) (length lists) is in
        subst (λ (z : List PlacedEvent). starts_at n z ≡ false) (get_or_from_slice_get lists k l l at) (fails_before_first (starts_at n) lists k l (omega arith))

-- the list that is found begins with an event at the place
pub next-there : (n : ℕ) (lists : List (List PlacedEvent)) (i : ℕ) → position (starts_at n) lists ≡ Some i
    → (rest : List PlacedEvent) × (first : PlacedEvent) × (slice_get lists i ≡ Some (first ∷ rest)) × (first.place ≡ n)
next-there n lists i found =
    let there = position-Some (starts_at n) lists i [] found in
    go (get_or lists i []) (slice_get-get_or lists i [] there.0) there.1
  where
    go : (l : List PlacedEvent) → slice_get lists i ≡ Some l → starts_at n l ≡ true → (rest : List PlacedEvent) × (first : PlacedEvent) × (slice_get lists i ≡ Some (first ∷ rest)) × (first.place ≡ n)
    go [] at passes = absurd (let no : ⊥ = cc in no)
    go (x ∷ l) at passes = (l, x, at, sym (eqb-true n x.place passes))

-- an event taken is one event less
pub one-less : (now : List (List PlacedEvent)) (i : ℕ) (x : PlacedEvent) (rest : List PlacedEvent) → slice_get now i ≡ Some (x ∷ rest) → length (joined (set now i rest)) + 1 ≡ length (joined now)
one-less now i x rest at =
    let t = taken now i x rest at in
    let whole = ap (λ (z : List PlacedEvent). length z) t.whole in
    let less = ap (λ (z : List PlacedEvent). length z) t.rest in
    let one_more = length-append t.front (x ∷ t.back) in
    let others = length-append t.front t.back in
    omega arith

-- the next event of the list that is found
pub merged-next : (before now : List (List PlacedEvent)) (out journal : List Event) (i : ℕ) (x : PlacedEvent) (rest : List PlacedEvent) → AreCutOf before journal → IsMerged before now out
    → position (starts_at (length out)) now ≡ Some i → slice_get now i ≡ Some (x ∷ rest) → IsMerged before (set now i rest) (out ++ x.event ∷ [])
merged-next before now out journal i x rest cut so_far found at =
    let there = next-there (length out) now i found in
    let both : ◌≡◌ {A = Option (List PlacedEvent)} (Some (there.1 ∷ there.0)) (Some (x ∷ rest)) = sym there.2 ∙ at in
    let same : there.1 ≡ x = cc in
    merged-one before now out journal cut so_far i x rest at (ap (λ (z : PlacedEvent). z.place) (sym same) ∙ there.3)

-- the list that is found, lent
pub lent-there : (n : ℕ) (lists : List (List PlacedEvent)) (i : ℕ) (lent : List PlacedEvent) → position (starts_at n) lists ≡ Some i → lent ≡ get_or lists i lent → slice_get lists i ≡ Some lent
lent-there n lists i lent found is =
    let there = position-Some (starts_at n) lists i lent found in
    slice_get-get_or lists i lent there.0 ∙ ap (λ (z : List PlacedEvent). Some z) (sym is)

pub lent-nonempty : (n : ℕ) (lists : List (List PlacedEvent)) (i : ℕ) (lent : List PlacedEvent) → position (starts_at n) lists ≡ Some i → lent ≡ get_or lists i lent → 0 < length lent
lent-nonempty n lists i lent found is =
    let there = next-there n lists i found in
    let both : ◌≡◌ {A = Option (List PlacedEvent)} (Some lent) (Some (there.1 ∷ there.0)) = sym (lent-there n lists i lent found is) ∙ there.2 in
    let same : lent ≡ there.1 ∷ there.0 = cc in
    let long = ap (λ (z : List PlacedEvent). length z) same in
    omega arith

pub taken-there : (n : ℕ) (lists : List (List PlacedEvent)) (i : ℕ) (lent : List PlacedEvent) (x : PlacedEvent) (rest : List PlacedEvent) → position (starts_at n) lists ≡ Some i → lent ≡ get_or lists i lent
    → lent ≡ x ∷ rest → slice_get lists i ≡ Some (x ∷ rest)
taken-there n lists i lent x rest found is taken = lent-there n lists i lent found is ∙ ap (λ (z : List PlacedEvent). Some z) taken
