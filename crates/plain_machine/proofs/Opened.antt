-- The opening state: its ranks and queues have numbers in their ranges, and its ranks have taken the ends of their threads.
use Rattle.std.proofs.Common.{◌≡◌, ℕ, zero, suc, ◌+◌, ◌≤◌, true, List, [], ◌∷◌, ◌++◌, Some, replicate, length, map, count_by, slice_get, refl, sym, ap, ◌∙◌, arith}
use Rattle.std.specs.List.{range_with_len, flat_map, enumerate_from}
use Rattle.std.proofs.lemmas.Bool.Decides.{nat_tests}
use Rattle.std.proofs.lemmas.List.{length-replicate}
use Rattle.std.proofs.lemmas.List.Folds.{sum_by-replicate}
use Rattle.std.proofs.lemmas.List.FromFn.{length-map-range_with_len, get_or-map-range_with_len}
use Rattle.std.proofs.lemmas.Option.{get_or_from_slice_get, slice_get_within}
use Rattle.gaspi_types.specs.World.{ShapeValue, are_limits}
use Rattle.gaspi_types.specs.Lanes.{lane_owed}
use Rattle.gaspi_model.specs.State.{opening, opening_posts, opening_memory, opening_thread, opening_queue, is_running, entries_owed}
use Rattle.gaspi_types.specs.Queues.{queue_owed}
use Rattle.gaspi_model.specs.declared.states.Posts.{Posts}
use Rattle.plain_machine.specs.Machine.{HasBoundedNumbers, used_room_of}
use Rattle.plain_machine.specs.NonemptyLanes.{lane_if_nonempty, queue_nonempty_lanes, rank_nonempty_lanes, nonempty_lanes}
use Rattle.plain_machine.specs.declared.nonempty_lanes.LaneId.{LaneId}

pub fitting-opening : (w : ShapeValue) → are_limits w.limits ≡ true → HasBoundedNumbers (opening w)
fitting-opening w limited = record {
  ranks = rw (length-map-range_with_len (opening_posts w) 0 w.limits.ranks) (grind (arith, nat_tests));
  memories = length-map-range_with_len (opening_memory w) 0 w.limits.ranks ∙ sym (length-map-range_with_len (opening_posts w) 0 w.limits.ranks);
  queues = λ rank p there. few rank p there;
}
  where
    queue_count : w.limits.queues ≤ 8
    queue_count = grind (arith, nat_tests)

    few : (rank : ℕ) (p : Posts) → slice_get (opening w).posts rank ≡ Some p → length p.queues ≤ 8
    few rank p there =
        let within = slice_get_within (opening w).posts rank p there in
        let ranks = length-map-range_with_len (opening_posts w) 0 w.limits.ranks in
        let is : p ≡ opening_posts w rank = sym (get_or_from_slice_get (opening w).posts rank p p there) ∙ get_or-map-range_with_len (opening_posts w) 0 w.limits.ranks rank rank p (omega (arith, within, ranks)) (omega arith) in
        rw is rw (length-replicate w.limits.queues (opening_queue w.limits.ranks)) queue_count

-- no entry stands there
owed-opening : (w : ShapeValue) (rank : ℕ) → count_by is_running (map (opening_thread w rank) (range_with_len 0 4)) ≡ used_room_of (opening_posts w rank)
owed-opening w rank =
    let lanes = sum_by-replicate lane_owed w.limits.ranks [] in
    let queues = sum_by-replicate queue_owed w.limits.queues (opening_queue w.limits.ranks) in
    let none : queue_owed (opening_queue w.limits.ranks) ≡ 0 = omega (arith, lanes) in
    let nothing : entries_owed (opening_posts w rank) ≡ 0 = queues ∙ (rw none (omega arith)) in
    omega (arith, nothing)

same-map : {X : Type 0} (f g : ℕ → X) → ((n : ℕ) → f n ≡ g n) → (ns : List ℕ) → map f ns ≡ map g ns
same-map f g same [] = refl
same-map {X} f g same (n ∷ ns) = ap (λ (x : X). x ∷ map f ns) (same n) ∙ ap (λ (xs : List X). g n ∷ xs) (same-map f g same ns)

map-after-map : {X Y : Type 0} (f : X → Y) (g : ℕ → X) (ns : List ℕ) → map f (map g ns) ≡ map (λ n. f (g n)) ns
map-after-map f g [] = refl
map-after-map {X} {Y} f g (n ∷ ns) = ap (λ (ys : List Y). f (g n) ∷ ys) (map-after-map f g ns)

pub used-opening : (w : ShapeValue) (ns : List ℕ)
    → map (λ rank. count_by is_running (map (opening_thread w rank) (range_with_len 0 4))) ns ≡ map used_room_of (map (opening_posts w) ns)
used-opening w ns = same-map _ _ (owed-opening w) ns ∙ sym (map-after-map used_room_of (opening_posts w) ns)

-- no lane has an entry there

none-replicated : {X : Type 0} (h : ℕ × X → List LaneId) (n m : ℕ) (x : X) → ((j : ℕ) → h (j, x) ≡ []) → flat_map h (enumerate_from n (replicate m x)) ≡ []
none-replicated h n zero x none = refl
none-replicated {X} h n (suc m) x none = ap (λ (ys : List LaneId). ys ++ flat_map h (enumerate_from (n + 1) (replicate m x))) (none n) ∙ none-replicated h (n + 1) m x none

none-mapped : {X : Type 0} (h : ℕ × X → List LaneId) (f : ℕ → X) (n : ℕ) (ns : List ℕ) → ((j k : ℕ) → h (j, f k) ≡ []) → flat_map h (enumerate_from n (map f ns)) ≡ []
none-mapped h f n [] none = refl
none-mapped {X} h f n (k ∷ ns) none = ap (λ (ys : List LaneId). ys ++ flat_map h (enumerate_from (n + 1) (map f ns))) (none n k) ∙ none-mapped h f (n + 1) ns none

pub nonempty-opening : (w : ShapeValue) (ns : List ℕ) → [] ≡ nonempty_lanes (map (opening_posts w) ns)
nonempty-opening w ns = sym (none-mapped rank_nonempty_lanes (opening_posts w) 0 ns (λ origin rank. of_rank origin rank))
  where
    of_queue : (origin queue : ℕ) → queue_nonempty_lanes origin (queue, opening_queue w.limits.ranks) ≡ []
    of_queue origin queue = none-replicated (lane_if_nonempty origin queue) 0 w.limits.ranks [] (λ target. refl)

    of_rank : (origin rank : ℕ) → rank_nonempty_lanes (origin, opening_posts w rank) ≡ []
    of_rank origin rank = none-replicated (queue_nonempty_lanes origin) 0 w.limits.queues (opening_queue w.limits.ranks) (λ queue. of_queue origin queue)
