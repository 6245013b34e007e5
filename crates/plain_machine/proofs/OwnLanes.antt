-- The lanes of a rank among all that have an entry: those of earlier ranks stand before them, and those of later ones behind.
use Rattle.std.proofs.Common.{◌≡◌, ℕ, zero, suc, ◌+◌, Bool, true, false, ltb, leb, List, [], ◌∷◌, ◌++◌, Option, None, Some, slice_get, refl, sym, ap, ◌∙◌, arith, append_assoc}
use Rattle.std.specs.List.{flat_map, enumerate_from}
use Rattle.std.proofs.lemmas.Bool.{lt-ltb, le-ltb, le-leb, lt-leb}
use Rattle.gaspi_types.specs.declared.entries.Entry.{Entry}
use Rattle.gaspi_types.specs.declared.entries.Queue.{Queue}
use Rattle.gaspi_model.specs.declared.states.Posts.{Posts}
use Rattle.plain_machine.specs.NonemptyLanes.{lane_id, lane_if_nonempty, queue_nonempty_lanes, rank_nonempty_lanes, nonempty_lanes, nonempty_lanes_of}
use Rattle.plain_machine.specs.declared.nonempty_lanes.LaneId.{LaneId}
use Rattle.plain_machine.proofs.Halves.{Answer, joined}

mapped : {X : Type 0} (p : LaneId → Bool) (b : Bool) (h : ℕ × X → List LaneId) (n : ℕ) (xs : List X) → ((j k : ℕ) (x : X) → j ≡ n + k → Answer p b (h (j, x))) → Answer p b (flat_map h (enumerate_from n xs))
mapped p b h n [] each = tt
mapped p b h n (x ∷ xs) each =
    joined p b (h (n, x)) (flat_map h (enumerate_from (n + 1) xs)) (each n 0 x (omega arith))
    (mapped p b h (n + 1) xs (λ j k y at. each j (suc k) y (omega (arith, at))))

of_lane : (p : LaneId → Bool) (b : Bool) (origin queue target : ℕ) (lane : List Entry) → p (lane_id origin queue target) ≡ b → Answer p b (lane_if_nonempty origin queue (target, lane))
of_lane p b origin queue target [] is = tt
of_lane p b origin queue target (e ∷ lane) is = (is, tt)

of_queue : (p : LaneId → Bool) (b : Bool) (origin queue : ℕ) (q : Queue) → ((target : ℕ) → p (lane_id origin queue target) ≡ b) → Answer p b (queue_nonempty_lanes origin (queue, q))
of_queue p b origin queue q is = mapped p b (lane_if_nonempty origin queue) 0 q.lanes (λ target k lane at. of_lane p b origin queue target lane (is target))

of_rank : (p : LaneId → Bool) (b : Bool) (origin : ℕ) (posts : Posts) → ((queue target : ℕ) → p (lane_id origin queue target) ≡ b) → Answer p b (rank_nonempty_lanes (origin, posts))
of_rank p b origin posts is = mapped p b (queue_nonempty_lanes origin) 0 posts.queues (λ queue k q at. of_queue p b origin queue q (is queue))

-- The two tests: whether a lane is of an earlier rank, and whether it is of no later one.

abbrev pub is_earlier : ℕ → LaneId → Bool
is_earlier rank id = ltb id.origin rank

abbrev pub is_no_later : ℕ → LaneId → Bool
is_no_later rank id = leb id.origin rank

pub record IsSplit (rank : ℕ) (all own : List LaneId) : Type 0 where
  pub front : List LaneId
  pub back : List LaneId
  pub is : all ≡ front ++ (own ++ back)
  pub earlier : Answer (is_earlier rank) true front
  pub others : Answer (is_earlier rank) false (own ++ back)
  pub own_ones : Answer (is_no_later rank) true own
  pub later : Answer (is_no_later rank) false back

abbrev own_of : ℕ → Option Posts → List LaneId
own_of rank None = []
own_of rank (Some p) = rank_nonempty_lanes (rank, p)

split_from : (rank n k : ℕ) (posts : List Posts) → rank ≡ n + k → IsSplit rank (flat_map rank_nonempty_lanes (enumerate_from n posts)) (own_of rank (slice_get posts k))
split_from rank n k [] at = record { front = []; back = []; is = refl; earlier = tt; others = tt; own_ones = tt; later = tt }
split_from rank n zero (p ∷ posts) at =
    let same : n ≡ rank = omega (arith, at) in
    let back : List LaneId = flat_map rank_nonempty_lanes (enumerate_from (n + 1) posts) in
    record {
      front = [];
      back = back;
      is = ap (λ (j : ℕ). rank_nonempty_lanes (j, p) ++ back) same;
      earlier = tt;
      others = joined (is_earlier rank) false (rank_nonempty_lanes (rank, p)) back
          (of_rank (is_earlier rank) false rank p (λ queue target. le-ltb rank rank (omega arith)))
          (mapped (is_earlier rank) false rank_nonempty_lanes (n + 1) posts (λ j i q is. of_rank (is_earlier rank) false j q (λ queue target. le-ltb j rank (omega (arith, is, at)))));
      own_ones = of_rank (is_no_later rank) true rank p (λ queue target. le-leb rank rank (omega arith));
      later = mapped (is_no_later rank) false rank_nonempty_lanes (n + 1) posts (λ j i q is. of_rank (is_no_later rank) false j q (λ queue target. lt-leb j rank (omega (arith, is, at))));
    }
split_from rank n (suc k) (p ∷ posts) at =
    let rest = split_from rank (n + 1) k posts (omega (arith, at)) in
    record {
      front = rank_nonempty_lanes (n, p) ++ rest.front;
      back = rest.back;
      is = ap (λ (ys : List LaneId). rank_nonempty_lanes (n, p) ++ ys) rest.is ∙ sym (append_assoc (rank_nonempty_lanes (n, p)) rest.front (own_of rank (slice_get posts k) ++ rest.back));
      earlier = joined (is_earlier rank) true (rank_nonempty_lanes (n, p)) rest.front (of_rank (is_earlier rank) true n p (λ queue target. lt-ltb n rank (omega (arith, at)))) rest.earlier;
      others = rest.others;
      own_ones = rest.own_ones;
      later = rest.later;
    }

pub split : (posts : List Posts) (rank : ℕ) → IsSplit rank (nonempty_lanes posts) (nonempty_lanes_of posts rank)
split posts rank = by_item (slice_get posts rank) refl (split_from rank 0 rank posts (omega arith))
  where
    by_item : (o : Option Posts) → slice_get posts rank ≡ o → IsSplit rank (nonempty_lanes posts) (own_of rank (slice_get posts rank)) → IsSplit rank (nonempty_lanes posts) (nonempty_lanes_of posts rank)
    by_item None there is = rw there (rw there at is)
    by_item (Some p) there is = rw there (rw there at is)
