-- The opening state is coherent.
use Rattle.std.proofs.Common.{◌≡◌, ℕ, ◌<◌, arith, List, [], ◌∷◌, length, map, replicate, Option, None, Some, refl, sym, ap, ◌∙◌, subst}
use Rattle.std.specs.List.{slice_get, range_with_len}
use Rattle.std.specs.Option.{option_map}
use Rattle.std.proofs.lemmas.List.{length-replicate}
use Rattle.std.proofs.lemmas.Option.{slice_get-map, get_or_from_slice_get}
use Rattle.gaspi_types.specs.SegmentTables.{extent_in, next_generation}
use Rattle.gaspi_types.specs.World.{ShapeValue}
use Rattle.gaspi_types.specs.declared.entries.Entry.{Entry}
use Rattle.gaspi_types.specs.declared.segments.Extent.{Extent}
use Rattle.gaspi_model.specs.State.{opening, opening_extents, opening_posts, opening_memory, opening_queue, opening_generations, generations_used, declared_size, new_slots}
use Rattle.gaspi_model.specs.Coherence.{counts_of, HasSlots, Tables, tables_of, AreMade, AreWithinSegments, AgreesOnSegments}
use Rattle.gaspi_types.specs.Segments.{new_segment, extent_of, extents_of}
use Rattle.gaspi_types.specs.declared.entries.Queue.{Queue}
use Rattle.gaspi_types.proofs.Extents.{extent-at}
use Rattle.gaspi_types.proofs.Items.{slice_get-replicate, map-at}

map-alike : {A B C : Type 0} (f : B → C) (g : A → B) (h : A → C) (xs : List A) → ((x : A) → h x ≡ f (g x)) → map h xs ≡ map f (map g xs)
map-alike f g h [] alike = refl
map-alike f g h (x ∷ xs) alike =
    let here = alike x in
    let rest = map-alike f g h xs alike in
    cc

segment-extent : (o : Option ℕ) → option_map (λ (size : ℕ). (let e : Extent = record { generation = 0; size = size } in e)) o ≡ option_map extent_of (option_map (new_segment 0) o)
segment-extent None = refl
segment-extent (Some size) =
    let same = length-replicate {A = ℕ} size 0 in
    rw same refl

own-agrees : (w : ShapeValue) (rank : ℕ) → (opening_posts w rank).segments.own ≡ extents_of (opening_memory w rank).segments
own-agrees w rank =
    map-alike (option_map extent_of) (λ (segment : ℕ). option_map (new_segment 0) (declared_size w rank segment))
    (λ (segment : ℕ). option_map (λ (size : ℕ). (let e : Extent = record { generation = 0; size = size } in e)) (declared_size w rank segment)) (range_with_len 0 32)
    (λ segment. segment-extent (declared_size w rank segment))

-- the slots of a declared segment are as many as there are to be
slot-count : (notes : ℕ) (o : Option ℕ) → option_map (λ (size : ℕ). notes) o ≡ option_map length (option_map (λ (size : ℕ). new_slots notes) o)
slot-count notes None = refl
slot-count notes (Some size) =
    let same = length-replicate {A = ℕ} notes 0 in
    rw same refl

extent-count : (notes : ℕ) (o : Option ℕ)
    → option_map (λ (size : ℕ). notes) o ≡ option_map (λ (x : Extent). notes) (option_map (λ (size : ℕ). (let e : Extent = record { generation = 0; size = size } in e)) o)
extent-count notes None = refl
extent-count notes (Some size) = refl

slots-agree : (w : ShapeValue) (rank : ℕ) → HasSlots w.limits.notes (opening_memory w rank)
slots-agree w rank =
    sym (map-alike (option_map length) (λ (segment : ℕ). option_map (λ (size : ℕ). new_slots w.limits.notes) (declared_size w rank segment))
    (λ (segment : ℕ). option_map (λ (size : ℕ). w.limits.notes) (declared_size w rank segment)) (range_with_len 0 32)
    (λ segment. slot-count w.limits.notes (declared_size w rank segment)))
    ∙ map-alike (option_map (λ (x : Extent). w.limits.notes)) (λ (segment : ℕ). option_map (λ (size : ℕ). (let e : Extent = record { generation = 0; size = size } in e)) (declared_size w rank segment))
    (λ (segment : ℕ). option_map (λ (size : ℕ). w.limits.notes) (declared_size w rank segment)) (range_with_len 0 32)
    (λ segment. extent-count w.limits.notes (declared_size w rank segment))
    ∙ ap (counts_of w.limits.notes) (own-agrees w rank)

-- each declared segment uses the first generation of its number
opening-made : (w : ShapeValue) (rank : ℕ) → AreMade (tables_of (opening_posts w rank))
opening-made w rank segment x at =
    let from = map-at (λ (k : ℕ). option_map (λ (size : ℕ). (let e : Extent = record { generation = 0; size = size } in e)) (declared_size w rank k)) (range_with_len 0 32) segment (Some x) (extent-at (opening_extents w rank) segment x at).1 in
    by-size from.0 from.1 (declared_size w rank from.0) refl from.2
  where
    by-size : (k : ℕ) → slice_get (range_with_len 0 32) segment ≡ Some k → (o : Option ℕ) → declared_size w rank k ≡ o
        → Some x ≡ option_map (λ (size : ℕ). (let e : Extent = record { generation = 0; size = size } in e)) (declared_size w rank k) → x.generation < next_generation (opening_generations w rank) segment
    by-size k here None is h = absurd (let none : ◌≡◌ {A = Option Extent} (Some x) None = rw is at h in let no : ⊥ = cc in no)
    by-size k here (Some size) is h =
        let some : ◌≡◌ {A = Option Extent} (Some x) (Some (record { generation = 0; size = size })) = rw is at h in
        let first : x.generation ≡ 0 = ap (λ (e : Extent). e.generation) (let same : ◌≡◌ {A = Extent} x (record { generation = 0; size = size }) = cc in same) in
        let used : slice_get (opening_generations w rank) segment ≡ Some 1 =
        slice_get-map (λ (n : ℕ). generations_used (declared_size w rank n)) (range_with_len 0 32) segment ∙ ap (option_map (λ (n : ℕ). generations_used (declared_size w rank n))) here ∙ rw is refl in
        let next : next_generation (opening_generations w rank) segment ≡ 1 = get_or_from_slice_get (opening_generations w rank) segment 1 0 used in
        omega arith

none-fit : (notes : ℕ) (tables : List Tables) (origin queues ranks : ℕ) → AreWithinSegments notes tables origin (replicate queues (opening_queue ranks))
none-fit notes tables origin queues ranks queue q at target lane here place e there mine theirs hm ht =
    let opened = slice_get-replicate queues (opening_queue ranks) q queue at in
    let none = slice_get-replicate ranks [] lane target (subst (λ (x : Queue). slice_get x.lanes target ≡ Some lane) opened here) in
    absurd (let nothing : slice_get {X = Entry} [] place ≡ Some e = subst (λ (l : List Entry). slice_get l place ≡ Some e) none there in let no : ⊥ = cc in no)

pub opens-coherent : (w : ShapeValue) → AgreesOnSegments (opening w)
opens-coherent w = record {
  own = λ rank posts memory hp hm.
      let p = map-at (opening_posts w) (range_with_len 0 w.limits.ranks) rank posts hp in
      let m = map-at (opening_memory w) (range_with_len 0 w.limits.ranks) rank memory hm in
      let same : p.0 ≡ m.0 = (let some : ◌≡◌ {A = Option ℕ} (Some p.0) (Some m.0) = sym p.1 ∙ m.1 in cc) in
      rw (p.2, m.2, same) (own-agrees w m.0);
  slots = λ rank memory hm.
      let m = map-at (opening_memory w) (range_with_len 0 w.limits.ranks) rank memory hm in
      subst (HasSlots w.limits.notes) (sym m.2) (slots-agree w m.0);
  made = λ rank posts hp.
      let p = map-at (opening_posts w) (range_with_len 0 w.limits.ranks) rank posts hp in
      rw p.2 (opening-made w p.0);
  known = λ rank posts hp.
      let p = map-at (opening_posts w) (range_with_len 0 w.limits.ranks) rank posts hp in
      rw p.2 (λ r table theirs ht hx segment x at.
      let known = map-at (opening_extents w) (range_with_len 0 w.limits.ranks) r table ht in
      let outer = map-at tables_of (map (opening_posts w) (range_with_len 0 w.limits.ranks)) r theirs hx in
      let inner = map-at (opening_posts w) (range_with_len 0 w.limits.ranks) r outer.0 outer.1 in
      let same : known.0 ≡ inner.0 = (let some : ◌≡◌ {A = Option ℕ} (Some known.0) (Some inner.0) = sym known.1 ∙ inner.1 in cc) in
      let opened : theirs ≡ tables_of (opening_posts w inner.0) = outer.2 ∙ ap tables_of inner.2 in
      let tables : table ≡ theirs.own = known.2 ∙ ap (opening_extents w) same ∙ ap (λ (x : Tables). x.own) (sym opened) in
      let here : extent_in theirs.own segment ≡ Some x = rw (sym tables) at in (
        rw opened (opening-made w inner.0 segment x (subst (λ (q : Tables). extent_in q.own segment ≡ Some x) opened here)),
        λ y there generation.
            let is : x ≡ y = (let some : ◌≡◌ {A = Option Extent} (Some x) (Some y) = sym here ∙ there in cc) in
            ap (λ (e : Extent). e.size) (sym is),
      ));
  entries = λ origin posts hp.
      let p = map-at (opening_posts w) (range_with_len 0 w.limits.ranks) origin posts hp in
      rw p.2 (none-fit w.limits.notes _ origin w.limits.queues w.limits.ranks);
}
