-- The opening state is sound.
use Rattle.std.proofs.Common.{◌≡◌, ℕ, ◌+◌, ◌≤◌, Bool, true, false, ◌&&◌, ◌||◌, ◌==◌, List, [], ◌∷◌, Option, None, Some, refl, sym, ap, length, ◌∙◌, subst, arith, cond, if◌then◌else◌, map}
use Rattle.std.specs.List.{slice_get, count_by, list_any, range_with_len}
use Rattle.std.specs.Option.{option_map}
use Rattle.std.proofs.lemmas.Bool.Decides.{nat_tests}
use Rattle.std.proofs.lemmas.List.{length-replicate}
use Rattle.std.proofs.lemmas.List.FromFn.{length-map-range_with_len}
use Rattle.std.proofs.lemmas.List.Folds.{sum_by-replicate}
use Rattle.std.proofs.lemmas.List.Sums.{sum_by-cons}
use Rattle.std.proofs.lemmas.Option.{slice_get-map}
use Rattle.gaspi_types.specs.World.{ShapeValue, IsShape, is_caller}
use Rattle.gaspi_types.specs.Lanes.{lane_owed}
use Rattle.gaspi_types.specs.declared.shapes.CallerId.{CallerId}
use Rattle.gaspi_model.specs.State.{opening, opening_memory, opening_posts, opening_queue, opening_extents, opening_thread, declared_size, generations_used, entries_owed, is_running}
use Rattle.gaspi_types.specs.Queues.{queue_owed}
use Rattle.gaspi_types.proofs.Items.{slice_get-replicate, map-at}
use Rattle.gaspi_model.proofs.Sound.CoherentOpening.{opens-coherent}
use Rattle.gaspi_model.specs.Sound.{lane_failed, IsSoundQueue, IsSoundPosts, IsSound}
use Rattle.gaspi_types.specs.declared.entries.Entry.{Entry}
use Rattle.gaspi_types.specs.declared.segments.Extent.{Extent}
use Rattle.gaspi_types.specs.declared.entries.Queue.{Queue}
use Rattle.gaspi_model.specs.declared.states.ThreadState.TheVariants.{Absent, Running}
use Rattle.gaspi_model.proofs.Sound.GroupTables.{opening-groups}
use Rattle.gaspi_model.proofs.Sound.Inboxes.{empty-inbox}
use Rattle.gaspi_model.proofs.Sound.OpeningGroups.{opens-collectives}

option_map-some : {A B : Type 0} (f : A → B) (o : Option A) (y : B) → option_map f o ≡ Some y → (x : A) × (y ≡ f x)
option_map-some f None y h = absurd (let no : ⊥ = cc in no)
option_map-some f (Some x) y h = (x, (let same : f x ≡ y = cc in sym same))

-- whether a thread of a rank is declared, as a number
abbrev one : List CallerId → ℕ → ℕ → ℕ
one cs rank thread = cond (list_any (is_caller rank thread) cs) 1 0

abbrev four : List CallerId → ℕ → ℕ
four cs rank = one cs rank 0 + one cs rank 1 + one cs rank 2 + one cs rank 3

-- a caller is one thread
at-most-one : (n : ℕ) → cond (n == 0) 1 0 + cond (n == 1) 1 0 + cond (n == 2) 1 0 + cond (n == 3) 1 0 ≤ 1
at-most-one n = grind (arith, nat_tests)

or-adds : (a b c : Bool) → cond ((a && b) || c) 1 0 ≤ cond a (cond b 1 0) 0 + cond c 1 0
or-adds true true c = or-one c
  where
    or-one : (c : Bool) → 1 ≤ 1 + cond c 1 0
    or-one true = omega arith
    or-one false = omega arith
or-adds true false c = omega arith
or-adds false b c = omega arith

-- one caller more
caller-adds : (cs : List CallerId) (c : CallerId) (rank : ℕ) → four (c ∷ cs) rank ≤ cond (c.rank == rank) 1 0 + four cs rank
caller-adds cs c rank = go (c.rank == rank) (c.thread == 0) (c.thread == 1) (c.thread == 2) (c.thread == 3) _ _ _ _ _ _ _ _ (or-adds _ (c.thread == 0) (list_any (is_caller rank 0) cs)) (or-adds _ (c.thread == 1) (list_any (is_caller rank 1) cs))
    (or-adds _ (c.thread == 2) (list_any (is_caller rank 2) cs)) (or-adds _ (c.thread == 3) (list_any (is_caller rank 3) cs)) (at-most-one c.thread)
  where
    go : (a b0 b1 b2 b3 : Bool) (x0 x1 x2 x3 y0 y1 y2 y3 : ℕ) → x0 ≤ cond a (cond b0 1 0) 0 + y0 → x1 ≤ cond a (cond b1 1 0) 0 + y1
        → x2 ≤ cond a (cond b2 1 0) 0 + y2 → x3 ≤ cond a (cond b3 1 0) 0 + y3 → cond b0 1 0 + cond b1 1 0 + cond b2 1 0 + cond b3 1 0 ≤ 1
        → x0 + x1 + x2 + x3 ≤ cond a 1 0 + (y0 + y1 + y2 + y3)
    go true b0 b1 b2 b3 x0 x1 x2 x3 y0 y1 y2 y3 h0 h1 h2 h3 h = omega arith
    go false b0 b1 b2 b3 x0 x1 x2 x3 y0 y1 y2 y3 h0 h1 h2 h3 h = omega arith

-- no rank has more of its threads declared than it has callers
four-few : (cs : List CallerId) (rank : ℕ) → four cs rank ≤ count_by (λ c. c.rank == rank) cs
four-few [] rank = omega arith
four-few (c ∷ cs) rank =
    let rest = four-few cs rank in
    let sum = sum_by-cons (λ (d : CallerId). cond (d.rank == rank) 1 0) c cs in
    let more = caller-adds cs c rank in
    omega arith

running-declared : (b : Bool) → is_running (if b then Running else Absent) ≡ b
running-declared true = refl
running-declared false = refl

-- how many threads run at the start
threads-few : (w : ShapeValue) (rank : ℕ) → count_by is_running (map (opening_thread w rank) (range_with_len 0 4)) ≤ count_by (λ c. c.rank == rank) w.callers
threads-few w rank =
    let few = four-few w.callers rank in
    let r0 = running-declared (list_any (is_caller rank 0) w.callers) in
    let r1 = running-declared (list_any (is_caller rank 1) w.callers) in
    let r2 = running-declared (list_any (is_caller rank 2) w.callers) in
    let r3 = running-declared (list_any (is_caller rank 3) w.callers) in
    rw (r0, r1, r2, r3) (omega arith)

-- nothing is owed but the ends of the threads
entries-none : (w : ShapeValue) (rank : ℕ) → entries_owed (opening_posts w rank) ≡ 0
entries-none w rank =
    let lanes = sum_by-replicate lane_owed w.limits.ranks [] in
    let queues = sum_by-replicate queue_owed w.limits.queues (opening_queue w.limits.ranks) in
    queues ∙ rw lanes (omega arith)

empty-queue : (ranks depth : ℕ) → IsSoundQueue depth (opening_queue ranks)
empty-queue ranks depth = record {
  carried = λ target lane at. rw (slice_get-replicate ranks [] lane target at) (omega arith);
  from_posted = λ target lane at place e here posted.
      absurd (let none : slice_get {X = Entry} [] place ≡ Some e = subst (λ (l : List Entry). slice_get l place ≡ Some e) (slice_get-replicate ranks [] lane target at) here in let no : ⊥ = cc in no);
  opened = omega arith;
  failed = (let none = sum_by-replicate lane_failed ranks [] in none ∙ omega arith);
}

-- at most one generation of a number is used at the start
one-used : (declared : Option ℕ) → generations_used declared ≤ 1
one-used None = omega arith
one-used (Some size) = omega arith

-- the segment of a size that is declared
abbrev declared_extent : ℕ → Extent
declared_extent size = record { generation = 0; size = size }

opening-sound : (w : ShapeValue) (rank : ℕ) → IsShape w → IsSoundPosts w.limits (opening_posts w rank)
opening-sound w rank world = record {
  tables = record {
    queues = length-replicate w.limits.queues (opening_queue w.limits.ranks);
    corrupt = length-replicate w.limits.ranks false;
    own = length-map-range_with_len (λ (segment : ℕ). option_map declared_extent (declared_size w rank segment)) 0 32;
    known = length-map-range_with_len (opening_extents w) 0 w.limits.ranks;
    known_segments = λ k table at.
        let from = map-at (opening_extents w) (range_with_len 0 w.limits.ranks) k table at in
        ap length from.2 ∙ length-map-range_with_len (λ (segment : ℕ). option_map declared_extent (declared_size w from.0 segment)) 0 32;
    threads = length-map-range_with_len (opening_thread w rank) 0 4;
    pending = refl;
  };
  lanes = λ queue q at. rw (slice_get-replicate w.limits.queues (opening_queue w.limits.ranks) q queue at) (length-replicate w.limits.ranks []);
  room =
      (let none = entries-none w rank in
      let few = threads-few w rank in
      let callers = world.callers rank in
      omega arith);
  numbers = omega arith;
  numbered = length-map-range_with_len (λ (segment : ℕ). generations_used (declared_size w rank segment)) 0 32;
  generations = λ segment n at.
      let from = map-at (λ (k : ℕ). generations_used (declared_size w rank k)) (range_with_len 0 32) segment n at in
      let few = one-used (declared_size w rank from.0) in
      let is = from.2 in
      omega arith;
  rising = λ queue q at target lane here.
      let opened = slice_get-replicate w.limits.queues (opening_queue w.limits.ranks) q queue at in
      let none = slice_get-replicate w.limits.ranks [] lane target (subst (λ (x : Queue). slice_get x.lanes target ≡ Some lane) opened here) in
      rw none tt;
  queues = λ queue q at.
      rw (slice_get-replicate w.limits.queues (opening_queue w.limits.ranks) q queue at) (empty-queue w.limits.ranks w.limits.depth);
  groups = opening-groups w.limits.ranks;
}

pub opens : (w : ShapeValue) → IsShape w → IsSound (opening w)
opens w world = record {
  limits = world.limits;
  ranks = length-map-range_with_len (opening_posts w) 0 w.limits.ranks;
  memories = length-map-range_with_len (opening_memory w) 0 w.limits.ranks;
  posts = λ rank posts at.
      let here = option_map-some (opening_posts w) (slice_get (range_with_len 0 w.limits.ranks) rank) posts (sym (slice_get-map (opening_posts w) (range_with_len 0 w.limits.ranks) rank) ∙ at) in
      rw here.1 (opening-sound w here.0 world);
  inboxes = λ rank memory at.
      let from = map-at (opening_memory w) (range_with_len 0 w.limits.ranks) rank memory at in
      rw from.2 (empty-inbox w.limits);
  coherent = opens-coherent w;
  collectives = opens-collectives w;
}
