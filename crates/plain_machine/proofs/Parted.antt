-- The lanes that have an entry, before and after one lane changed: the same lanes stand before it and behind it.
use Rattle.std.proofs.Common.{◌≡◌, ℕ, zero, suc, ◌+◌, ◌<◌, ◌≤◌, Bool, true, false, List, [], ◌∷◌, ◌++◌, Some, length, slice_get, slice_set, refl, sym, ap, subst, ◌∙◌, arith, append_assoc}
use Rattle.std.specs.List.{flat_map, enumerate_from, prefix_len, insert, remove}
use Rattle.std.proofs.lemmas.Bool.{lt-ltb, le-ltb, eq-eqb, ne_eqb}
use Rattle.gaspi_types.specs.declared.entries.Entry.{Entry}
use Rattle.gaspi_types.specs.declared.entries.Queue.{Queue}
use Rattle.gaspi_model.specs.declared.states.Posts.{Posts}
use Rattle.plain_machine.specs.NonemptyLanes.{lane_id, lane_if_nonempty, queue_nonempty_lanes, rank_nonempty_lanes, nonempty_lanes, is_before}
use Rattle.plain_machine.specs.declared.nonempty_lanes.LaneId.{LaneId}
use Rattle.plain_machine.proofs.Halves.{Answer, joined, parted}
use Rattle.std.specs.List.Sorted.{IsPartitionedBy}

-- each of the lanes is before one, or none is
abbrev pub AreBefore : LaneId → Bool → List LaneId → Type 0
AreBefore id b [] = Unit {0}
AreBefore id b (x ∷ xs) = (is_before x id ≡ b) × AreBefore id b xs

-- two lists that differ in one part alone, with what is before a lane in front of it and nothing such behind it
pub record IsParted (id : LaneId) (old new part part' : List LaneId) : Type 0 where
  pub front : List LaneId
  pub back : List LaneId
  pub was : old ≡ front ++ (part ++ back)
  pub is : new ≡ front ++ (part' ++ back)
  pub earlier : AreBefore id true front
  pub later : AreBefore id false back

are_joined : (id : LaneId) (b : Bool) (xs ys : List LaneId) → AreBefore id b xs → AreBefore id b ys → AreBefore id b (xs ++ ys)
are_joined id b [] ys front back = back
are_joined id b (x ∷ xs) ys front back = (front.0, are_joined id b xs ys front.1 back)

are_mapped : {X : Type 0} (id : LaneId) (b : Bool) (h : ℕ × X → List LaneId) (n : ℕ) (xs : List X) → ((j k : ℕ) (x : X) → j ≡ n + k → AreBefore id b (h (j, x))) → AreBefore id b (flat_map h (enumerate_from n xs))
are_mapped id b h n [] each = tt
are_mapped id b h n (x ∷ xs) each =
    are_joined id b (h (n, x)) (flat_map h (enumerate_from (n + 1) xs)) (each n 0 x (omega arith))
    (are_mapped id b h (n + 1) xs (λ j k y at. each j (suc k) y (omega (arith, at))))

-- all lanes of a lane's place, of a queue, of a rank
are_lane : (id : LaneId) (b : Bool) (origin queue target : ℕ) (lane : List Entry) → is_before (lane_id origin queue target) id ≡ b → AreBefore id b (lane_if_nonempty origin queue (target, lane))
are_lane id b origin queue target [] is = tt
are_lane id b origin queue target (e ∷ lane) is = (is, tt)

are_queue : (id : LaneId) (b : Bool) (origin queue : ℕ) (q : Queue) → ((target : ℕ) → is_before (lane_id origin queue target) id ≡ b) → AreBefore id b (queue_nonempty_lanes origin (queue, q))
are_queue id b origin queue q is = are_mapped id b (lane_if_nonempty origin queue) 0 q.lanes (λ target k lane at. are_lane id b origin queue target lane (is target))

are_rank : (id : LaneId) (b : Bool) (origin : ℕ) (p : Posts) → ((queue target : ℕ) → is_before (lane_id origin queue target) id ≡ b) → AreBefore id b (rank_nonempty_lanes (origin, p))
are_rank id b origin p is = are_mapped id b (queue_nonempty_lanes origin) 0 p.queues (λ queue k q at. are_queue id b origin queue q (is queue))

-- lists with others in front or behind differ in the same part
parted_behind : (id : LaneId) (old new part part' rest : List LaneId) → IsParted id old new part part' → AreBefore id false rest → IsParted id (old ++ rest) (new ++ rest) part part'
parted_behind id old new part part' rest p later = record {
  front = p.front;
  back = p.back ++ rest;
  was = ap (λ (ys : List LaneId). ys ++ rest) p.was ∙ regrouped p.front part p.back rest;
  is = ap (λ (ys : List LaneId). ys ++ rest) p.is ∙ regrouped p.front part' p.back rest;
  earlier = p.earlier;
  later = are_joined id false p.back rest p.later later;
}
  where
    regrouped : (a b c d : List LaneId) → (a ++ (b ++ c)) ++ d ≡ a ++ (b ++ (c ++ d))
    regrouped a b c d = append_assoc a (b ++ c) d ∙ ap (λ (ys : List LaneId). a ++ ys) (append_assoc b c d)

parted_front : (id : LaneId) (old new part part' first : List LaneId) → IsParted id old new part part' → AreBefore id true first → IsParted id (first ++ old) (first ++ new) part part'
parted_front id old new part part' first p earlier = record {
  front = first ++ p.front;
  back = p.back;
  was = ap (λ (ys : List LaneId). first ++ ys) p.was ∙ split first p.front (part ++ p.back);
  is = ap (λ (ys : List LaneId). first ++ ys) p.is ∙ split first p.front (part' ++ p.back);
  earlier = are_joined id true first p.front earlier p.earlier;
  later = p.later;
}
  where
    split : (a b c : List LaneId) → a ++ (b ++ c) ≡ (a ++ b) ++ c
    split a b c = sym (append_assoc a b c)

-- the same parts in the lists of a table's items, where one item changed
parted_in : {X : Type 0} (id : LaneId) (h : ℕ × X → List LaneId) (n i : ℕ) (xs : List X) (x y : X) (part part' : List LaneId) → slice_get xs i ≡ Some x
    → ((j k : ℕ) (z : X) → j ≡ n + k → k < i → AreBefore id true (h (j, z)))
    → ((j k : ℕ) (z : X) → j ≡ n + k → i < k → AreBefore id false (h (j, z)))
    → ((j : ℕ) → j ≡ n + i → IsParted id (h (j, x)) (h (j, y)) part part')
    → IsParted id (flat_map h (enumerate_from n xs)) (flat_map h (enumerate_from n (slice_set xs i y))) part part'
parted_in id h n i [] x y part part' there front back here = absurd (let no : ⊥ = cc in no)
parted_in {X} id h n zero (z ∷ xs) x y part part' there front back here =
    let same : x ≡ z = cc in
    subst (λ (w : X). IsParted id (h (n, w) ++ flat_map h (enumerate_from (n + 1) xs)) (h (n, y) ++ flat_map h (enumerate_from (n + 1) xs)) part part') same
    (parted_behind id (h (n, x)) (h (n, y)) part part' (flat_map h (enumerate_from (n + 1) xs)) (here n (omega arith))
    (are_mapped id false h (n + 1) xs (λ j k w at. back j (suc k) w (omega (arith, at)) (omega arith))))
parted_in {X} id h n (suc i) (z ∷ xs) x y part part' there front back here =
    parted_front id (flat_map h (enumerate_from (n + 1) xs)) (flat_map h (enumerate_from (n + 1) (slice_set xs i y))) part part' (h (n, z))
    (parted_in id h (n + 1) i xs x y part part' there
    (λ j k w at less. front j (suc k) w (omega (arith, at)) (omega (arith, less)))
    (λ j k w at less. back j (suc k) w (omega (arith, at)) (omega (arith, less)))
    (λ j at. here j (omega (arith, at))))
    (front n 0 z (omega arith) (omega arith))

-- The order of lanes by their numbers.

before_rank : (o q t o' q' t' : ℕ) → o < o' → is_before (lane_id o q t) (lane_id o' q' t') ≡ true
before_rank o q t o' q' t' less = let here = lt-ltb o o' less in rw here refl

behind_rank : (o q t o' q' t' : ℕ) → o' < o → is_before (lane_id o q t) (lane_id o' q' t') ≡ false
behind_rank o q t o' q' t' less =
    let here = le-ltb o o' (omega (arith, less)) in let apart = ne_eqb o o' (omega (arith, less)) in rw here rw apart refl

before_queue : (o q t q' t' : ℕ) → q < q' → is_before (lane_id o q t) (lane_id o q' t') ≡ true
before_queue o q t q' t' less =
    let here = le-ltb o o (omega arith) in let same = eq-eqb o o refl in let there = lt-ltb q q' less in rw here rw same rw there refl

behind_queue : (o q t q' t' : ℕ) → q' < q → is_before (lane_id o q t) (lane_id o q' t') ≡ false
behind_queue o q t q' t' less =
    let here = le-ltb o o (omega arith) in let same = eq-eqb o o refl in
    let there = le-ltb q q' (omega (arith, less)) in let apart = ne_eqb q q' (omega (arith, less)) in rw here rw same rw there rw apart refl

before_target : (o q t t' : ℕ) → t < t' → is_before (lane_id o q t) (lane_id o q t') ≡ true
before_target o q t t' less =
    let here = le-ltb o o (omega arith) in let same = eq-eqb o o refl in
    let here_q = le-ltb q q (omega arith) in let same_q = eq-eqb q q refl in
    let there = lt-ltb t t' less in rw here rw same rw here_q rw same_q rw there refl

pub behind_target : (o q t t' : ℕ) → t' ≤ t → is_before (lane_id o q t) (lane_id o q t') ≡ false
behind_target o q t t' less =
    let here = le-ltb o o (omega arith) in let same = eq-eqb o o refl in
    let here_q = le-ltb q q (omega arith) in let same_q = eq-eqb q q refl in
    let there = le-ltb t t' less in rw here rw same rw here_q rw same_q rw there refl

-- where a lane, its queue and its origin's posts are replaced, the names differ in that lane's name alone
pub parted_by : (posts : List Posts) (o q t : ℕ) (p p' : Posts) (qu qu' : Queue) (lane lane' : List Entry)
    → slice_get posts o ≡ Some p → slice_get p.queues q ≡ Some qu → slice_get qu.lanes t ≡ Some lane
    → p'.queues ≡ slice_set p.queues q qu' → qu'.lanes ≡ slice_set qu.lanes t lane'
    → IsParted (lane_id o q t) (nonempty_lanes posts) (nonempty_lanes (slice_set posts o p')) (lane_if_nonempty o q (t, lane)) (lane_if_nonempty o q (t, lane'))
parted_by posts o q t p p' qu qu' lane lane' p_there q_there there queues lanes =
    parted_in id rank_nonempty_lanes 0 o posts p p' (lane_if_nonempty o q (t, lane)) (lane_if_nonempty o q (t, lane')) p_there
    (λ j k z at less. are_rank id true j z (λ queue target. before_rank j queue target o q t (omega (arith, at, less))))
    (λ j k z at less. are_rank id false j z (λ queue target. behind_rank j queue target o q t (omega (arith, at, less))))
    (λ j at. in_rank j (omega (arith, at)))
  where
    id : LaneId
    id = lane_id o q t

    in_queue : (j : ℕ) → j ≡ q → IsParted id (queue_nonempty_lanes o (j, qu)) (queue_nonempty_lanes o (j, qu')) (lane_if_nonempty o q (t, lane)) (lane_if_nonempty o q (t, lane'))
    in_queue j at =
        rw at (rw lanes
        (parted_in id (lane_if_nonempty o q) 0 t qu.lanes lane lane' (lane_if_nonempty o q (t, lane)) (lane_if_nonempty o q (t, lane')) there
        (λ j k z at less. are_lane id true o q j z (before_target o q j t (omega (arith, at, less))))
        (λ j k z at less. are_lane id false o q j z (behind_target o q j t (omega (arith, at, less))))
        (λ j at. in_lane j (omega (arith, at)))))
      where
        alone : (xs : List LaneId) → xs ≡ xs ++ []
        alone [] = refl
        alone (x ∷ xs) = ap (λ (ys : List LaneId). x ∷ ys) (alone xs)

        in_lane : (j : ℕ) → j ≡ t → IsParted id (lane_if_nonempty o q (j, lane)) (lane_if_nonempty o q (j, lane')) (lane_if_nonempty o q (t, lane)) (lane_if_nonempty o q (t, lane'))
        in_lane j at =
            subst (λ (k : ℕ). IsParted id (lane_if_nonempty o q (k, lane)) (lane_if_nonempty o q (k, lane')) (lane_if_nonempty o q (t, lane)) (lane_if_nonempty o q (t, lane'))) (sym at) (record {
              front = [];
              back = [];
              was = alone (lane_if_nonempty o q (t, lane));
              is = alone (lane_if_nonempty o q (t, lane'));
              earlier = tt;
              later = tt;
            })

    in_rank : (j : ℕ) → j ≡ o → IsParted id (rank_nonempty_lanes (j, p)) (rank_nonempty_lanes (j, p')) (lane_if_nonempty o q (t, lane)) (lane_if_nonempty o q (t, lane'))
    in_rank j at =
        rw at (rw queues
        (parted_in id (queue_nonempty_lanes o) 0 q p.queues qu qu' (lane_if_nonempty o q (t, lane)) (lane_if_nonempty o q (t, lane')) q_there
        (λ j k z at less. are_queue id true o j z (λ target. before_queue o j target q t (omega (arith, at, less))))
        (λ j k z at less. are_queue id false o j z (λ target. behind_queue o j target q t (omega (arith, at, less))))
        (λ j at. in_queue j (omega (arith, at)))))

-- What is done with the name: its place is behind those before it.

place_behind : (id : LaneId) (front rest : List LaneId) → AreBefore id true front → AreBefore id false rest → prefix_len (λ x. is_before x id) (front ++ rest) ≡ length front
place_behind id [] [] earlier later = refl
place_behind id [] (x ∷ rest) earlier later = rw later.0 refl
place_behind id (x ∷ front) rest earlier later =
    let more = place_behind id front rest earlier.1 later in rw earlier.0 (omega (arith, more))

inserted : (front rest : List LaneId) (id : LaneId) → insert (front ++ rest) (length front) id ≡ front ++ id ∷ rest
inserted [] rest id = refl
inserted (x ∷ front) rest id = ap (λ (ys : List LaneId). x ∷ ys) (inserted front rest id)

removed : (front rest : List LaneId) (id : LaneId) → remove (front ++ id ∷ rest) (length front) ≡ front ++ rest
removed [] rest id = refl
removed (x ∷ front) rest id = ap (λ (ys : List LaneId). x ∷ ys) (removed front rest id)

within : (front rest : List LaneId) (id : LaneId) → length front < length (front ++ id ∷ rest)
within [] rest id = omega arith
within (x ∷ front) rest id = let less = within front rest id in omega (arith, less)

pub named_by : (id : LaneId) (old new : List LaneId) → IsParted id old new [] (id ∷ []) → insert old (prefix_len (λ x. is_before x id) old) id ≡ new
named_by id old new p =
    let place = place_behind id p.front p.back p.earlier p.later in
    rw (p.was, p.is) rw place (inserted p.front p.back id)

pub unnamed_by : (id : LaneId) (old new : List LaneId) → IsParted id old new (id ∷ []) []
    → (prefix_len (λ x. is_before x id) old < length old) × (remove old (prefix_len (λ x. is_before x id) old) ≡ new)
unnamed_by id old new p =
    let self = behind_target id.origin id.queue id.target id.target (omega arith) in
    let place = place_behind id p.front (id ∷ p.back) p.earlier (self, p.later) in
    (rw p.was rw place (within p.front p.back id), rw (p.was, p.is) rw place (removed p.front p.back id))

-- the same name before and after
pub kept_by : (id : LaneId) (old new part : List LaneId) → IsParted id old new part part → new ≡ old
kept_by id old new part p = p.is ∙ sym p.was

-- the names before it stand in front of all others
pub parted_names : (id : LaneId) (old new part part' : List LaneId) → AreBefore id false part → IsParted id old new part part' → IsPartitionedBy (λ x. is_before x id) old
parted_names id old new part part' behind p =
    subst (IsPartitionedBy (λ (x : LaneId). is_before x id)) (sym p.was)
    (parted (λ x. is_before x id) p.front (part ++ p.back) (answers true p.front p.earlier) (joined (λ x. is_before x id) false part p.back (answers false part behind) (answers false p.back p.later)))
  where
    answers : (b : Bool) (xs : List LaneId) → AreBefore id b xs → Answer (λ x. is_before x id) b xs
    answers b [] are = tt
    answers b (x ∷ xs) are = (are.0, answers b xs are.1)
