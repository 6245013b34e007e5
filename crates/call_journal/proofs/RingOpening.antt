-- The world of `bench`, and the ring at its start.
use Rattle.std.proofs.Common.{◌≡◌, ℕ, zero, suc, ◌+◌, ◌*◌, ◌<◌, ◌≤◌, Bool, true, false, ◌==◌, List, [], ◌∷◌, ◌++◌, map, replicate, find, Option, None, Some, refl, sym, ap, ◌∙◌, subst, arith, ◌⊎◌, inl, inr}
use Rattle.std.specs.List.{slice_get, count_by, sum_by, range_with_len}
use Rattle.std.specs.Option.{option_map, option_or, unwrap_or}
use Rattle.std.proofs.lemmas.Bool.{eq-eqb, eqb-true, ne_eqb, le-leb}
use Rattle.std.proofs.lemmas.List.Folds.{find-append, sum_by-replicate}
use Rattle.gaspi_types.specs.Lanes.{lane_owed}
use Rattle.gaspi_types.specs.Segments.{new_segment}
use Rattle.gaspi_types.specs.World.{ShapeValue, IsShape, are_limits, is_segment, is_caller, is_segment_size}
use Rattle.gaspi_types.specs.declared.entries.Entry.{Entry}
use Rattle.gaspi_types.specs.declared.entries.Queue.{Queue}
use Rattle.gaspi_types.specs.declared.segments.Extent.{Extent}
use Rattle.gaspi_types.specs.declared.shapes.CallerId.{CallerId}
use Rattle.gaspi_types.specs.declared.shapes.DeclaredSegment.{DeclaredSegment}
use Rattle.gaspi_types.proofs.Chains.{both}
use Rattle.gaspi_types.proofs.Extents.{extent-at}
use Rattle.gaspi_types.proofs.Items.{map-at, slice_get-replicate, append-parts, same-or-not}
use Rattle.gaspi_model.specs.State.{opening, opening_posts, opening_queue, opening_extents, opening_memory, declared_size, new_slots}
use Rattle.gaspi_model.specs.declared.states.Posts.{Posts}
use Rattle.gaspi_model.proofs.Sound.Opening.{opens}
use Rattle.rank_script.specs.Bench.{bench_shape, bench_segments, bench_callers}
use Rattle.call_journal.proofs.Callers.{range-item}
use Rattle.call_journal.proofs.Counts.{count-append}
use Rattle.call_journal.proofs.RingLanes.{lane_notes, IsRingLane}
use Rattle.call_journal.proofs.RingState.{HasZero, KnowsZero, IsRingQueue, IsRingPosts, IsRing, total, owed_of, notes_of, is_first_set, slot_of, owed_in, notes_in, slot_in, value_or}

-- The world.

world-limits : (ranks rounds : ℕ) → 1 ≤ ranks → ranks ≤ 16 → rounds ≤ 5000 → are_limits (bench_shape ranks rounds).limits ≡ true
world-limits ranks rounds some few short =
    rw (le-leb 1 ranks some, le-leb ranks 16 few, le-leb 1 (12 * rounds + 1) (omega arith), le-leb (12 * rounds + 1) 65536 (omega arith)) refl

-- of things that are listed by their ranks at most one is a rank's
one-each : {A : Type 0} (made : ℕ → List A) (item : ℕ → A) (p : A → Bool) (rank : ℕ) → made 0 ≡ [] → ((n : ℕ) → made (suc n) ≡ made n ++ item n ∷ []) → ((n : ℕ) → p (item n) ≡ true → n ≡ rank)
    → (n : ℕ) → (count_by p (made n) ≤ 1) × (n ≤ rank → count_by p (made n) ≡ 0)
one-each {A} made item p rank none more only zero = (rw none (omega arith), λ less. rw none refl)
one-each {A} made item p rank none more only (suc n) = go (one-each made item p rank none more only n) (p (item n)) refl
  where
    sum : count_by p (made (suc n)) ≡ count_by p (made n) + count_by p (item n ∷ [])
    sum = ap (count_by p) (more n) ∙ count-append p (made n) (item n ∷ [])

    go : (count_by p (made n) ≤ 1) × (n ≤ rank → count_by p (made n) ≡ 0) → (b : Bool) → p (item n) ≡ b → (count_by p (made (suc n)) ≤ 1) × (suc n ≤ rank → count_by p (made (suc n)) ≡ 0)
    go rest true is =
        let last : count_by p (item n ∷ []) ≡ 1 = rw is refl in
        let here = only n is in
        let before = rest.1 (omega arith) in
        (omega (arith, sum, last, before), λ less. absurd (let no : ⊥ = omega arith in no))
    go rest false is =
        let last : count_by p (item n ∷ []) ≡ 0 = rw is refl in
        let few = rest.0 in
        (omega (arith, sum, last, few), λ less. (let before = rest.1 (omega arith) in omega (arith, sum, last, before)))

callers-once : (p : CallerId → Bool) (rank : ℕ) → ((n : ℕ) → p (record { rank = n; thread = 0 }) ≡ true → n ≡ rank) → (n : ℕ) → count_by p (bench_callers n) ≤ 1
callers-once p rank only n = (one-each bench_callers (λ (k : ℕ). record { rank = k; thread = 0 }) p rank refl (λ k. refl) only n).0

segments-once : (p : DeclaredSegment → Bool) (rank : ℕ) → ((n : ℕ) → p (record { rank = n; segment = 0; size = 16 }) ≡ true → n ≡ rank) → (n : ℕ) → count_by p (bench_segments n) ≤ 1
segments-once p rank only n = (one-each bench_segments (λ (k : ℕ). record { rank = k; segment = 0; size = 16 }) p rank refl (λ k. refl) only n).0

callers-within : (n place : ℕ) (c : CallerId) → slice_get (bench_callers n) place ≡ Some c → (c.rank < n) × (c.thread < 4)
callers-within zero place c at = absurd (let no : ⊥ = cc in no)
callers-within (suc n) place c at = go (append-parts (bench_callers n) (record { rank = n; thread = 0 } ∷ []) place c at) (λ k before. callers-within n k c before)
  where
    last : (k : ℕ) → slice_get {X = CallerId} (record { rank = n; thread = 0 } ∷ []) k ≡ Some c → (c.rank < suc n) × (c.thread < 4)
    last zero at =
        let same : ◌≡◌ {A = CallerId} (record { rank = n; thread = 0 }) c = cc in
        subst (λ (x : CallerId). (x.rank < suc n) × (x.thread < 4)) same ((omega arith), (omega arith))
    last (suc k) at = absurd (let no : ⊥ = cc in no)

    go : ((k : ℕ) × (slice_get (bench_callers n) k ≡ Some c)) ⊎ ((k : ℕ) × (slice_get {X = CallerId} (record { rank = n; thread = 0 } ∷ []) k ≡ Some c))
        → ((k : ℕ) → slice_get (bench_callers n) k ≡ Some c → (c.rank < n) × (c.thread < 4)) → (c.rank < suc n) × (c.thread < 4)
    go (inl before) rest = (let is = rest before.0 before.1 in let less = is.0 in ((omega arith), is.1))
    go (inr here) rest = last here.0 here.1

segments-within : (n place : ℕ) (d : DeclaredSegment) → slice_get (bench_segments n) place ≡ Some d → (d.rank < n) × (d.segment < 32) × (is_segment_size d.size ≡ true)
segments-within zero place d at = absurd (let no : ⊥ = cc in no)
segments-within (suc n) place d at = go (append-parts (bench_segments n) (record { rank = n; segment = 0; size = 16 } ∷ []) place d at) (λ k before. segments-within n k d before)
  where
    last : (k : ℕ) → slice_get {X = DeclaredSegment} (record { rank = n; segment = 0; size = 16 } ∷ []) k ≡ Some d → (d.rank < suc n) × (d.segment < 32) × (is_segment_size d.size ≡ true)
    last zero at =
        let same : ◌≡◌ {A = DeclaredSegment} (record { rank = n; segment = 0; size = 16 }) d = cc in
        subst (λ (x : DeclaredSegment). (x.rank < suc n) × (x.segment < 32) × (is_segment_size x.size ≡ true)) same ((omega arith), (omega arith), refl)
    last (suc k) at = absurd (let no : ⊥ = cc in no)

    go : ((k : ℕ) × (slice_get (bench_segments n) k ≡ Some d)) ⊎ ((k : ℕ) × (slice_get {X = DeclaredSegment} (record { rank = n; segment = 0; size = 16 } ∷ []) k ≡ Some d))
        → ((k : ℕ) → slice_get (bench_segments n) k ≡ Some d → (d.rank < n) × (d.segment < 32) × (is_segment_size d.size ≡ true)) → (d.rank < suc n) × (d.segment < 32) × (is_segment_size d.size ≡ true)
    go (inl before) rest = (let is = rest before.0 before.1 in let less = is.0 in ((omega arith), is.1, is.2))
    go (inr here) rest = last here.0 here.1

pub bench-world : (ranks rounds : ℕ) → 1 ≤ ranks → ranks ≤ 16 → rounds ≤ 5000 → IsShape (bench_shape ranks rounds)
bench-world ranks rounds some few short = record {
  limits = world-limits ranks rounds some few short;
  callers = λ rank. (let one = callers-once (λ (c : CallerId). c.rank == rank) rank (λ n is. eqb-true n rank is) ranks in omega (arith, one));
  once = λ rank thread. callers-once (is_caller rank thread) rank (λ n is. eqb-true n rank (both (n == rank) (0 == thread) is).0) ranks;
  within = λ place c at. callers-within ranks place c at;
  segments = λ place d at. segments-within ranks place d at;
  declared_once = λ rank segment. segments-once (is_segment rank segment) rank (λ n is. eqb-true n rank (both (n == rank) (0 == segment) is).0) ranks;
}

-- each rank has its segment
segment-found : (n rank : ℕ) → rank < n → find (is_segment rank 0) (bench_segments n) ≡ Some (record { rank = rank; segment = 0; size = 16 })
segment-found zero rank less = absurd (let no : ⊥ = omega arith in no)
segment-found (suc n) rank less =
    find-append (is_segment rank 0) (bench_segments n) (record { rank = n; segment = 0; size = 16 } ∷ [])
    ∙ same-or-not n rank
    (λ here. subst (λ (r : ℕ). option_or (find (is_segment r 0) (bench_segments n)) (find (is_segment r 0) (record { rank = n; segment = 0; size = 16 } ∷ [])) ≡ Some (record { rank = r; segment = 0; size = 16 })) here
    (rw (earlier n n (omega arith), eq-eqb n n refl) refl))
    (λ apart. rw (segment-found n rank (omega arith)) refl)
  where
    earlier : (m r : ℕ) → m ≤ r → find (is_segment r 0) (bench_segments m) ≡ None
    earlier zero r small = refl
    earlier (suc m) r small =
        find-append (is_segment r 0) (bench_segments m) (record { rank = m; segment = 0; size = 16 } ∷ [])
        ∙ rw (earlier m r (omega arith), ne_eqb m r (λ same. (let no : ⊥ = omega arith in no))) refl

declared-there : (ranks rounds rank : ℕ) → rank < ranks → declared_size (bench_shape ranks rounds) rank 0 ≡ Some 16
declared-there ranks rounds rank less = ap (option_map (λ (d : DeclaredSegment). d.size)) (segment-found ranks rank less)

-- The ring at the start.

opening-knows : (w : ShapeValue) (rank : ℕ) → KnowsZero (opening_extents w rank)
opening-knows w rank x there =
    let at = extent-at (opening_extents w rank) 0 x there in
    let from = map-at (λ (segment : ℕ). option_map (λ (size : ℕ). record { generation = 0; size = size }) (declared_size w rank segment)) (range_with_len 0 32) 0 (Some x) at.1 in
    go (declared_size w rank from.0) from.2
  where
    go : (o : Option ℕ) → ◌≡◌ {A = Option Extent} (Some x) (option_map (λ (size : ℕ). record { generation = 0; size = size }) o) → x.generation ≡ 0
    go None is = absurd (let no : ⊥ = cc in no)
    go (Some size) is = (let same : ◌≡◌ {A = Extent} x (record { generation = 0; size = size }) = cc in ap (λ (e : Extent). e.generation) same)

opening-ring : (w : ShapeValue) (ranks rank : ℕ) → IsRingPosts ranks rank (opening_posts w rank).queues (opening_posts w rank).segments
opening-ring w ranks rank = record {
  own = opening-knows w rank;
  known = λ k extents at.
      (let from = map-at (opening_extents w) (range_with_len 0 w.limits.ranks) k extents at in subst KnowsZero (sym from.2) (opening-knows w from.0));
  queues = λ queue q at.
      subst (IsRingQueue ranks rank) (sym (slice_get-replicate w.limits.queues (opening_queue w.limits.ranks) q queue at)) (record {
        whole = refl;
        lanes = λ target lane here. subst (IsRingLane ranks rank target) (sym (slice_get-replicate w.limits.ranks [] lane target here)) (record { apart = λ other. refl; kinds = tt; closed = tt });
      });
}

opening-zero : (ranks rounds rank : ℕ) → rank < ranks → HasZero (opening_memory (bench_shape ranks rounds) rank)
opening-zero ranks rounds rank less = (new_segment 0 16, ap (option_map (new_segment 0)) (declared-there ranks rounds rank less), refl)

pub bench-ring : (ranks rounds : ℕ) → IsShape (bench_shape ranks rounds) → IsRing ranks (opening (bench_shape ranks rounds))
bench-ring ranks rounds world = record {
  sound = opens (bench_shape ranks rounds) world;
  many = refl;
  posts = λ rank p at.
      (let from = map-at (opening_posts (bench_shape ranks rounds)) (range_with_len 0 ranks) rank p at in
      let number : from.0 ≡ rank = range-item 0 ranks rank from.0 from.1 ∙ omega arith in
      let is : p ≡ opening_posts (bench_shape ranks rounds) rank = from.2 ∙ ap (opening_posts (bench_shape ranks rounds)) number in
      subst (λ (x : Posts). IsRingPosts ranks rank x.queues x.segments) (sym is) (opening-ring (bench_shape ranks rounds) ranks rank));
  memories = λ rank m at.
      (let from = map-at (opening_memory (bench_shape ranks rounds)) (range_with_len 0 ranks) rank m at in
      let number = range-item 0 ranks rank from.0 from.1 in
      let within = range-within 0 ranks rank from.0 from.1 in
      subst HasZero (sym from.2) (opening-zero ranks rounds from.0 (omega arith)));
}
  where
    range-within : (a n i r : ℕ) → slice_get (range_with_len a n) i ≡ Some r → i < n
    range-within a zero i r at = absurd (let no : ⊥ = cc in no)
    range-within a (suc n) zero r at = omega arith
    range-within a (suc n) (suc i) r at = (let rest = range-within (a + 1) n i r at in omega arith)

-- Nothing is counted in it.

opening-total : (f : List Entry → ℕ) (w : ShapeValue) (rank : ℕ) → f [] ≡ 0 → total f (opening_posts w rank).queues ≡ 0
opening-total f w rank none =
    let lanes : sum_by f (opening_queue w.limits.ranks).lanes ≡ w.limits.ranks * f [] = sum_by-replicate f w.limits.ranks [] in
    let empty : sum_by f (opening_queue w.limits.ranks).lanes ≡ 0 = lanes ∙ rw none (omega arith) in
    sum_by-replicate (λ (q : Queue). sum_by f q.lanes) w.limits.queues (opening_queue w.limits.ranks) ∙ rw empty (omega arith)

opening-value : {A : Type 0} (make : ℕ → A) (f : A → ℕ) (xs : List ℕ) (rank : ℕ) → ((k : ℕ) → f (make k) ≡ 0) → value_or 0 f (slice_get (map make xs) rank) ≡ 0
opening-value {A} make f xs rank none = go (slice_get (map make xs) rank) refl
  where
    go : (o : Option A) → slice_get (map make xs) rank ≡ o → value_or 0 f (slice_get (map make xs) rank) ≡ 0
    go None at = rw at refl
    go (Some x) at = (let from = map-at make xs rank x at in rw at (ap f from.2 ∙ none from.0))

pub opening-owed : (w : ShapeValue) (rank : ℕ) → owed_in (opening w) rank ≡ 0
opening-owed w rank = opening-value (opening_posts w) owed_of (range_with_len 0 w.limits.ranks) rank (λ k. opening-total lane_owed w k refl)

pub opening-notes : (w : ShapeValue) (rank : ℕ) → notes_in (opening w) rank ≡ 0
opening-notes w rank = opening-value (opening_posts w) notes_of (range_with_len 0 w.limits.ranks) rank (λ k. opening-total lane_notes w k refl)

unset : (notes : ℕ) → is_first_set (replicate notes 0) ≡ 0
unset zero = refl
unset (suc n) = refl

opening-slot_of : (w : ShapeValue) (rank : ℕ) → slot_of (opening_memory w rank) ≡ 0
opening-slot_of w rank = go (declared_size w rank 0)
  where
    go : (o : Option ℕ) → is_first_set (unwrap_or (option_map (λ (size : ℕ). new_slots w.limits.notes) o) []) ≡ 0
    go None = refl
    go (Some size) = unset w.limits.notes

pub opening-slot : (w : ShapeValue) (rank : ℕ) → slot_in (opening w) rank ≡ 0
opening-slot w rank = opening-value (opening_memory w) slot_of (range_with_len 0 w.limits.ranks) rank (λ k. opening-slot_of w k)
