-- Lists made of one list for each item, read at a place; and the transfers of all lanes by those that have an entry, and by rank.
use Rattle.std.proofs.Common.{◌≡◌, ℕ, zero, suc, ◌+◌, ◌<◌, ◌≤◌, Bool, true, false, List, [], ◌∷◌, ◌++◌, Option, None, Some, length, take, get_or, slice_get, sum_by, is_none, ◌&&◌, refl, sym, ap, subst, ◌∙◌, arith, length-append}
use Rattle.std.specs.List.{flat_map, enumerate_from, range_with_len}
use Rattle.std.specs.Option.{option_to_list}
use Rattle.std.proofs.lemmas.List.{append-nil, take_all}
use Rattle.std.proofs.lemmas.List.Folds.{length-flat_map-take}
use Rattle.std.proofs.lemmas.List.FromFn.{length-range_with_len, get_or-range_with_len}
use Rattle.std.proofs.lemmas.Option.{slice_get_within, slice_get_past}
use Rattle.std.proofs.lemmas.List.Concat.{flat_map-append}
use Rattle.std.proofs.lemmas.List.Sums.{sum_by-cons}
use Rattle.std.proofs.lemmas.Bool.Decides.{nat_tests}
use Rattle.gaspi_types.specs.World.{are_limits}
use Rattle.gaspi_types.specs.Lanes.{is_posted_phase, is_carried_phase, phase_owed, entry_owed, lane_owed, may_take, may_put}
use Rattle.gaspi_types.specs.declared.entries.Entry.{Entry}
use Rattle.gaspi_types.specs.declared.entries.Phase.{Phase}
use Rattle.gaspi_types.specs.declared.entries.Phase.TheVariants as phases
use Rattle.gaspi_types.specs.declared.events.Transfer.{Transfer}
use Rattle.gaspi_types.specs.declared.shapes.Limits.{Limits}
use Rattle.gaspi_model.specs.State.{entries_owed}
use Rattle.gaspi_types.specs.Queues.{queue_owed}
use Rattle.gaspi_model.specs.Sound.{IsSoundPosts}
use Rattle.gaspi_model.specs.Transfers.{transfer_of, lane_transfers, queue_transfers, rank_transfers, transfers}
use Rattle.gaspi_types.specs.declared.entries.Queue.{Queue}
use Rattle.gaspi_model.specs.declared.states.Posts.{Posts}
use Rattle.plain_machine.specs.NonemptyLanes.{lane_id, lane_if_nonempty, queue_nonempty_lanes, rank_nonempty_lanes, nonempty_lanes, nonempty_lanes_of, unbroken_entries, unbroken_transfers, entries_transfers}
use Rattle.plain_machine.specs.RankCounts.{transfers_of, HaveFewTransfers}
use Rattle.plain_machine.specs.declared.nonempty_lanes.LaneId.{LaneId}

-- Places in such a list.

get-front : {A : Type 0} (a b : List A) (k : ℕ) → k < length a → slice_get (a ++ b) k ≡ slice_get a k
get-front [] b k within = absurd (let no : ⊥ = omega (arith, within) in no)
get-front (x ∷ a) b zero within = refl
get-front (x ∷ a) b (suc k) within = get-front a b k (omega arith)

get-behind : {A : Type 0} (a b : List A) (k : ℕ) → slice_get (a ++ b) (length a + k) ≡ slice_get b k
get-behind {A} [] b k = ap (slice_get b) (let e : 0 + k ≡ k = omega arith in e)
get-behind {A} (x ∷ a) b k =
    let e : suc (length a) + k ≡ suc (length a + k) = omega arith in
    ap (slice_get (x ∷ (a ++ b))) e ∙ get-behind a b k

-- an item of the list of the i-th item stands behind the lists of those before
pub flat_map_here : {X A : Type 0} (f : X → List A) (xs : List X) (i j : ℕ) (d : X) → i < length xs → j < length (f (get_or xs i d))
    → slice_get (flat_map f xs) (length (flat_map f (take i xs)) + j) ≡ slice_get (f (get_or xs i d)) j
flat_map_here f [] i j d within inside = absurd (let no : ⊥ = omega (arith, within) in no)
flat_map_here f (x ∷ xs) zero j d within inside =
    let e : 0 + j ≡ j = omega arith in
    ap (slice_get (f x ++ flat_map f xs)) e ∙ get-front (f x) (flat_map f xs) j inside
flat_map_here f (x ∷ xs) (suc i) j d within inside =
    let long = length-append (f x) (flat_map f (take i xs)) in
    let e : length (f x ++ flat_map f (take i xs)) + j ≡ length (f x) + (length (flat_map f (take i xs)) + j) = omega (arith, long) in
    ap (slice_get (f x ++ flat_map f xs)) e
    ∙ (get-behind (f x) (flat_map f xs) (length (flat_map f (take i xs)) + j) ∙ flat_map_here f xs i j d (omega arith) inside)

-- an item that is sought by its place, in the list of the i-th item
pub sought_here : {X A : Type 0} (f : X → List A) (xs : List X) (i place left : ℕ) (x : X) (y : A) → i < length xs → x ≡ get_or xs i x
    → place ≡ length (flat_map f (take i xs)) + left → slice_get (f x) left ≡ Some y → slice_get (flat_map f xs) place ≡ Some y
sought_here {X} {A} f xs i place left x y within is at there =
    let item : slice_get (f (get_or xs i x)) left ≡ Some y = subst (λ (z : X). slice_get (f z) left ≡ Some y) is there in
    ap (slice_get (flat_map f xs)) at ∙ (flat_map_here f xs i left x within (slice_get_within (f (get_or xs i x)) left y item) ∙ item)

-- the same of a list of at most one
pub found_here : {X A : Type 0} (f : X → List A) (xs : List X) (i place left : ℕ) (x : X) (option : Option A) (y : A) → i < length xs → x ≡ get_or xs i x
    → place ≡ length (flat_map f (take i xs)) + left → left ≡ 0 → option_to_list option ≡ f x → option ≡ Some y → slice_get (flat_map f xs) place ≡ Some y
found_here {X} {A} f xs i place left x option y within is at first lists some =
    let list : f x ≡ y ∷ [] = sym lists ∙ ap option_to_list some in
    sought_here f xs i place left x y within is at (rw (list, first) refl)

-- a place that is past the lists of all items
pub sought_past : {X A : Type 0} (f : X → List A) (xs : List X) (i place left : ℕ) → length xs ≤ i
    → place ≡ length (flat_map f (take i xs)) + left → None ≡ slice_get (flat_map f xs) place
sought_past {X} f xs i place left past at =
    let all : length (flat_map f (take i xs)) ≡ length (flat_map f xs) = ap (λ (ys : List X). length (flat_map f ys)) (take_all i xs past) in
    sym (slice_get_past (flat_map f xs) place (omega (arith, at, all)))

-- the lists so far and the next one are no longer than all
pub counted_here : {X A : Type 0} (f : X → List A) (xs : List X) (i : ℕ) (x : X) → i < length xs → x ≡ get_or xs i x
    → length (flat_map f (take i xs)) + length (f x) ≤ length (flat_map f xs)
counted_here {X} f xs i x within is =
    subst (λ (z : X). length (flat_map f (take i xs)) + length (f z) ≤ length (flat_map f xs)) (sym is) (length-flat_map-take f xs i x within)

-- A list made of the lists of parts is made of the lists of the parts' parts.

-- nothing of nothing
pub flat_map-none : {X A : Type 0} (f : X → List A) (xs : List X) → ((x : X) → f x ≡ []) → flat_map f xs ≡ []
flat_map-none f [] none = refl
flat_map-none {X} {A} f (x ∷ xs) none = ap (λ (ys : List A). ys ++ flat_map f xs) (none x) ∙ flat_map-none f xs none

nested : {X A B : Type 0} (f : ℕ × X → List B) (g : A → List B) (h : ℕ × X → List A) (n : ℕ) (xs : List X)
    → ((j k : ℕ) (x : X) → j ≡ n + k → slice_get xs k ≡ Some x → f (j, x) ≡ flat_map g (h (j, x)))
    → flat_map f (enumerate_from n xs) ≡ flat_map g (flat_map h (enumerate_from n xs))
nested f g h n [] each = refl
nested {X} {A} {B} f g h n (x ∷ xs) each =
    ap (λ (ys : List B). ys ++ flat_map f (enumerate_from (n + 1) xs)) (each n 0 x (omega arith) refl)
    ∙ (ap (λ (ys : List B). flat_map g (h (n, x)) ++ ys)
    (nested f g h (n + 1) xs (λ j k y at there. each j (suc k) y (omega (arith, at)) there))
    ∙ sym (flat_map-append g (h (n, x)) (flat_map h (enumerate_from (n + 1) xs))))

abbrev no_transfers : ℕ × List Entry → List Transfer
no_transfers x = []

place : {X : Type 0} (xs : List X) (j k : ℕ) (x : X) → j ≡ 0 + k → slice_get xs k ≡ Some x → slice_get xs j ≡ Some x
place xs j k x at there = let same : j ≡ k = omega (arith, at) in rw same there

-- the transfers of all lanes of a rank are those of its lanes that have an entry
rank-nonempty : (limits : Limits) (posts : List Posts) (origin : ℕ) (p : Posts) → slice_get posts origin ≡ Some p → rank_transfers limits (origin, p) ≡ flat_map (unbroken_transfers limits posts) (rank_nonempty_lanes (origin, p))
rank-nonempty limits posts = of_rank
  where
    of_lane : (origin queue target : ℕ) (p : Posts) (q : Queue) (lane : List Entry) → slice_get posts origin ≡ Some p → slice_get p.queues queue ≡ Some q → is_none q.broken ≡ true
        → slice_get q.lanes target ≡ Some lane
        → lane_transfers origin queue limits (target, lane) ≡ flat_map (unbroken_transfers limits posts) (lane_if_nonempty origin queue (target, lane))
    of_lane origin queue target p q [] p_there q_there whole there = refl
    of_lane origin queue target p q (e ∷ lane) p_there q_there whole there =
        let entries : unbroken_entries posts (lane_id origin queue target) ≡ e ∷ lane = rw p_there rw q_there rw whole rw there refl in
        ap (entries_transfers limits (lane_id origin queue target)) (sym entries) ∙ sym (append-nil (unbroken_transfers limits posts (lane_id origin queue target)))

    nothing : (origin queue : ℕ) (p : Posts) (q : Queue) → slice_get posts origin ≡ Some p → slice_get p.queues queue ≡ Some q → is_none q.broken ≡ false
        → (j : ℕ) (lane : List Entry) → [] ≡ flat_map (unbroken_transfers limits posts) (lane_if_nonempty origin queue (j, lane))
    nothing origin queue p q p_there q_there broken j [] = refl
    nothing origin queue p q p_there q_there broken j (e ∷ lane) =
        let entries : unbroken_entries posts (lane_id origin queue j) ≡ [] = rw p_there rw q_there rw broken refl in
        ap (entries_transfers limits (lane_id origin queue j)) (sym entries) ∙ sym (append-nil (unbroken_transfers limits posts (lane_id origin queue j)))

    of_queue : (origin queue : ℕ) (p : Posts) (q : Queue) → slice_get posts origin ≡ Some p → slice_get p.queues queue ≡ Some q
        → queue_transfers origin limits (queue, q) ≡ flat_map (unbroken_transfers limits posts) (queue_nonempty_lanes origin (queue, q))
    of_queue origin queue p q p_there q_there = by_broken (is_none q.broken) refl
      where
        by_broken : (b : Bool) → is_none q.broken ≡ b → queue_transfers origin limits (queue, q) ≡ flat_map (unbroken_transfers limits posts) (queue_nonempty_lanes origin (queue, q))
        by_broken true whole =
            rw whole (nested (lane_transfers origin queue limits) (unbroken_transfers limits posts) (lane_if_nonempty origin queue) 0 q.lanes
            (λ target k lane at there. of_lane origin queue target p q lane p_there q_there whole (place q.lanes target k lane at there)))
        by_broken false broken =
            let none = flat_map-none no_transfers (enumerate_from 0 q.lanes) (λ x. refl) in
            rw broken (sym none
            ∙ nested no_transfers (unbroken_transfers limits posts) (lane_if_nonempty origin queue) 0 q.lanes
            (λ target k lane at there. nothing origin queue p q p_there q_there broken target lane))

    of_rank : (origin : ℕ) (p : Posts) → slice_get posts origin ≡ Some p → rank_transfers limits (origin, p) ≡ flat_map (unbroken_transfers limits posts) (rank_nonempty_lanes (origin, p))
    of_rank origin p there =
        nested (queue_transfers origin limits) (unbroken_transfers limits posts) (queue_nonempty_lanes origin) 0 p.queues
        (λ queue k q at q_there. of_queue origin queue p q there (place p.queues queue k q at q_there))

-- and so are those of all ranks
pub transfers-nonempty : (limits : Limits) (posts : List Posts) → transfers limits posts ≡ flat_map (unbroken_transfers limits posts) (nonempty_lanes posts)
transfers-nonempty limits posts = nested (rank_transfers limits) (unbroken_transfers limits posts) rank_nonempty_lanes 0 posts (λ origin k p at there. rank-nonempty limits posts origin p (place posts origin k p at there))

transfers_of-nonempty : (limits : Limits) (posts : List Posts) (rank : ℕ) → transfers_of limits posts rank ≡ flat_map (unbroken_transfers limits posts) (nonempty_lanes_of posts rank)
transfers_of-nonempty limits posts rank = by_item (slice_get posts rank) refl
  where
    by_item : (o : Option Posts) → slice_get posts rank ≡ o → transfers_of limits posts rank ≡ flat_map (unbroken_transfers limits posts) (nonempty_lanes_of posts rank)
    by_item None there = rw there refl
    by_item (Some p) there = rw there (rank-nonempty limits posts rank p there)

pub own_transfers : (limits : Limits) (posts : List Posts) (rank : ℕ) (lanes : List LaneId) → lanes ≡ nonempty_lanes_of posts rank
    → transfers_of limits posts rank ≡ flat_map (unbroken_transfers limits posts) lanes
own_transfers limits posts rank lanes is = transfers_of-nonempty limits posts rank ∙ ap (flat_map (unbroken_transfers limits posts)) (sym is)

-- All transfers are those of the ranks, one after another.

by_number : {X A : Type 0} (f : ℕ × X → List A) (g : ℕ → List A) (n : ℕ) (xs : List X) → ((j k : ℕ) (x : X) → j ≡ n + k → slice_get xs k ≡ Some x → f (j, x) ≡ g j)
    → flat_map f (enumerate_from n xs) ≡ flat_map g (range_with_len n (length xs))
by_number f g n [] each = refl
by_number {X} {A} f g n (x ∷ xs) each =
    ap (λ (ys : List A). ys ++ flat_map f (enumerate_from (n + 1) xs)) (each n 0 x (omega arith) refl)
    ∙ ap (λ (ys : List A). g n ++ ys) (by_number f g (n + 1) xs (λ j k y at there. each j (suc k) y (omega (arith, at)) there))

pub transfers-by_rank : (limits : Limits) (posts : List Posts) → transfers limits posts ≡ flat_map (transfers_of limits posts) (range_with_len 0 (length posts))
transfers-by_rank limits posts = by_number (rank_transfers limits) (transfers_of limits posts) 0 posts (λ origin k p at there. of_rank origin p (place posts origin k p at there))
  where
    of_rank : (origin : ℕ) (p : Posts) → slice_get posts origin ≡ Some p → rank_transfers limits (origin, p) ≡ transfers_of limits posts origin
    of_rank origin p there = rw there refl

take-range : (a n k : ℕ) → k ≤ n → take k (range_with_len a n) ≡ range_with_len a k
take-range a n zero few = refl
take-range a zero (suc k) few = absurd (let no : ⊥ = omega (arith, few) in no)
take-range a (suc n) (suc k) few = ap (λ (ys : List ℕ). a ∷ ys) (take-range (a + 1) n k (omega (arith, few)))

-- one rank more
counted_from : {A : Type 0} (f : ℕ → List A) (a n : ℕ) → length (flat_map f (range_with_len a (suc n))) ≡ length (flat_map f (range_with_len a n)) + length (f (a + n))
counted_from f a zero =
    let e : a + 0 ≡ a = omega arith in
    let long : length (f a ++ []) ≡ length (f a) + 0 = length-append (f a) [] in
    rw e (omega (arith, long))
counted_from f a (suc n) =
    let e : a + suc n ≡ (a + 1) + n = omega arith in
    let more : length (flat_map f (range_with_len (a + 1) (suc n))) ≡ length (flat_map f (range_with_len (a + 1) n)) + length (f ((a + 1) + n)) = counted_from f (a + 1) n in
    let whole : length (flat_map f (range_with_len a (suc (suc n)))) ≡ length (f a) + length (flat_map f (range_with_len (a + 1) (suc n))) = length-append (f a) (flat_map f (range_with_len (a + 1) (suc n))) in
    let part : length (flat_map f (range_with_len a (suc n))) ≡ length (f a) + length (flat_map f (range_with_len (a + 1) n)) = length-append (f a) (flat_map f (range_with_len (a + 1) n)) in
    rw e (omega (arith, more, whole, part))

pub counted_more : {A : Type 0} (f : ℕ → List A) (n : ℕ) → length (flat_map f (range_with_len 0 (n + 1))) ≡ length (flat_map f (range_with_len 0 n)) + length (f n)
counted_more f n =
    let e : n + 1 ≡ suc n = omega arith in
    let z : 0 + n ≡ n = omega arith in
    ap (λ (k : ℕ). length (flat_map f (range_with_len 0 k))) e ∙ (counted_from f 0 n ∙ ap (λ (k : ℕ). length (flat_map f (range_with_len 0 n)) + length (f k)) z)

-- an item that is sought by its place, in the list of a number
pub sought_at : {A : Type 0} (f : ℕ → List A) (n i place left : ℕ) (y : A) → i < n → place ≡ length (flat_map f (range_with_len 0 i)) + left → slice_get (f i) left ≡ Some y
    → slice_get (flat_map f (range_with_len 0 n)) place ≡ Some y
sought_at f n i place left y within at there =
    let long = length-range_with_len 0 n in
    let here : get_or (range_with_len 0 n) i i ≡ i = get_or-range_with_len 0 n i i within ∙ (let z : 0 + i ≡ i = omega arith in z) in
    sought_here f (range_with_len 0 n) i place left i y (omega (arith, long, within)) (sym here)
    (at ∙ ap (λ (ks : List ℕ). length (flat_map f ks) + left) (sym (take-range 0 n i (omega (arith, within))))) there

pub sought_behind : {A : Type 0} (f : ℕ → List A) (n place left : ℕ) → place ≡ length (flat_map f (range_with_len 0 n)) + left → None ≡ slice_get (flat_map f (range_with_len 0 n)) place
sought_behind f n place left at = sym (slice_get_past (flat_map f (range_with_len 0 n)) place (omega (arith, at)))

-- How many there are: each entry that may move owes an event.

bounded : {X A : Type 0} (f : ℕ × X → List A) (w : X → ℕ) (n : ℕ) (xs : List X)
    → ((j k : ℕ) (x : X) → slice_get xs k ≡ Some x → length (f (j, x)) ≤ w x) → length (flat_map f (enumerate_from n xs)) ≤ sum_by w xs
bounded f w n [] each = omega arith
bounded f w n (x ∷ xs) each =
    let long : length (flat_map f (enumerate_from n (x ∷ xs))) ≡ length (f (n, x)) + length (flat_map f (enumerate_from (n + 1) xs)) = length-append (f (n, x)) (flat_map f (enumerate_from (n + 1) xs)) in
    let sum : sum_by w (x ∷ xs) ≡ w x + sum_by w xs = sum_by-cons w x xs in
    let here = each n 0 x refl in
    let rest = bounded f w (n + 1) xs (λ j k y there. each j (suc k) y there) in
    omega (arith, long, sum, here, rest)

posted_owing : (p : Phase) → is_posted_phase p ≡ true → 1 ≤ phase_owed p
posted_owing phases.Posted is = omega arith
posted_owing (phases.Carried bytes) is = cc
posted_owing phases.Failed is = cc

carried_owing : (p : Phase) → is_carried_phase p ≡ true → 1 ≤ phase_owed p
carried_owing phases.Posted is = cc
carried_owing (phases.Carried bytes) is = omega arith
carried_owing phases.Failed is = cc

front_holds : (a b : Bool) → (a && b) ≡ true → a ≡ true
front_holds true b is = refl
front_holds false b is = cc

entry_few : (origin queue target : ℕ) (limits : Limits) (lane : List Entry) (e : Entry) → length (transfer_of origin queue target limits lane e) ≤ entry_owed e
entry_few origin queue target limits lane e = by_tests (may_take limits.depth lane e) refl (may_put lane e) refl
  where
    by_tests : (takes : Bool) → may_take limits.depth lane e ≡ takes → (puts : Bool) → may_put lane e ≡ puts → length (transfer_of origin queue target limits lane e) ≤ entry_owed e
    by_tests true takes puts puts_is = let owes = posted_owing e.phase (front_holds _ _ takes) in rw takes (omega (arith, owes))
    by_tests false takes true puts = let owes = carried_owing e.phase (front_holds _ _ puts) in rw takes rw puts (omega (arith, owes))
    by_tests false takes false puts = rw takes rw puts (omega arith)

lane_few : (origin queue target : ℕ) (limits : Limits) (lane entries : List Entry) → length (flat_map (transfer_of origin queue target limits lane) entries) ≤ lane_owed entries
lane_few origin queue target limits lane [] = omega arith
lane_few origin queue target limits lane (e ∷ entries) =
    let long : length (flat_map (transfer_of origin queue target limits lane) (e ∷ entries)) ≡ length (transfer_of origin queue target limits lane e) + length (flat_map (transfer_of origin queue target limits lane) entries) =
    length-append (transfer_of origin queue target limits lane e) (flat_map (transfer_of origin queue target limits lane) entries) in
    let sum : lane_owed (e ∷ entries) ≡ entry_owed e + lane_owed entries = sum_by-cons entry_owed e entries in
    let here = entry_few origin queue target limits lane e in
    let rest = lane_few origin queue target limits lane entries in
    omega (arith, long, sum, here, rest)

queue_few : (origin queue : ℕ) (limits : Limits) (q : Queue) → length (queue_transfers origin limits (queue, q)) ≤ queue_owed q
queue_few origin queue limits q = by_broken (is_none q.broken) refl
  where
    by_broken : (b : Bool) → is_none q.broken ≡ b → length (queue_transfers origin limits (queue, q)) ≤ queue_owed q
    by_broken true whole = rw whole (bounded (lane_transfers origin queue limits) lane_owed 0 q.lanes (λ target k lane there. lane_few origin queue target limits lane lane))
    by_broken false broken = rw broken (omega arith)

rank_few : (origin : ℕ) (limits : Limits) (p : Posts) → length (rank_transfers limits (origin, p)) ≤ entries_owed p
rank_few origin limits p = bounded (queue_transfers origin limits) queue_owed 0 p.queues (λ queue k q there. queue_few origin queue limits q)

-- no rank has more of them than it can have events
pub few_transfers : (limits : Limits) (posts : List Posts) → are_limits limits ≡ true → ((rank : ℕ) (p : Posts) → slice_get posts rank ≡ Some p → IsSoundPosts limits p) → HaveFewTransfers limits posts
few_transfers limits posts limited sound = λ rank. by_item rank (slice_get posts rank) refl
  where
    of_rank : (origin : ℕ) (p : Posts) → limits.events ≤ 65536 → IsSoundPosts limits p → length (rank_transfers limits (origin, p)) ≤ 65536
    of_rank origin p events posts =
        let few = rank_few origin limits p in
        let room = posts.room in
        omega (arith, few, room, events)

    by_item : (rank : ℕ) (o : Option Posts) → slice_get posts rank ≡ o → length (transfers_of limits posts rank) ≤ 65536
    by_item rank None there = rw there (omega arith)
    by_item rank (Some p) there =
        let events : limits.events ≤ 65536 = grind (arith, nat_tests) in
        rw there (of_rank rank p events (sound rank p there))
