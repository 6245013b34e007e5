-- A lane that has an entry, in a queue that is not broken, has a front, and no other lane has one.
use Rattle.std.proofs.Common.{◌≡◌, ℕ, zero, suc, ◌+◌, ◌≤◌, ◌&&◌, Bool, true, false, cond, nat_lt, List, [], ◌∷◌, Option, None, Some, IsSome, refl, sym, ap, ◌∙◌, subst, arith, is_none}
use Rattle.std.specs.List.{slice_get, sum_by, count_by}
use Rattle.std.specs.Option.{option_and_then}
use Rattle.std.proofs.lemmas.Bool.{ltb-false}
use Rattle.std.proofs.lemmas.Bool.Decides.{nat_tests}
use Rattle.std.proofs.lemmas.List.Sums.{sum_by-cons}
use Rattle.gaspi_types.specs.Lanes.{is_posted, is_carried, is_failed, is_posted_phase, is_carried_phase, is_failed_phase, carried_count}
use Rattle.gaspi_types.specs.World.{are_limits}
use Rattle.gaspi_types.specs.declared.entries.Entry.{Entry}
use Rattle.gaspi_types.specs.declared.entries.Phase.{Phase}
use Rattle.gaspi_types.specs.declared.entries.Phase.TheVariants as phases
use Rattle.gaspi_types.specs.declared.entries.Queue.{Queue}
use Rattle.gaspi_types.specs.declared.events.Transfer.{Transfer}
use Rattle.gaspi_types.specs.declared.shapes.Limits.{Limits}
use Rattle.gaspi_model.specs.Sound.{IsSound, lane_failed, failures}
use Rattle.gaspi_model.specs.Transfers.{transfers}
use Rattle.gaspi_model.specs.declared.states.State.{State}
use Rattle.post_queue.specs.MovableLanes.{is_nonempty_lane, is_movable_to, is_movable_lane}
use Rattle.post_queue.specs.Places.{first_carried}
use Rattle.post_queue.specs.Steps.{lane_front_posted, front_posted_in, front_carried_in}
use Rattle.rank_node.specs.Fronts.{front_of}
use Rattle.rank_node.specs.Lending.{IsPostsOf}
use Rattle.rank_node.specs.Values.{PostsValue}
use Rattle.gaspi_types.proofs.Chains.{both}
use Rattle.rank_node.proofs.FrontSteps.{some-first, put-some, take-some, front-put, front-take, listed-front}

by-phase : {P : Type 0} (phase : Phase) → (is_posted_phase phase ≡ true → P) → (is_carried_phase phase ≡ true → P) → (is_failed_phase phase ≡ true → P) → P
by-phase phases.Posted a b c = a refl
by-phase (phases.Carried bytes) a b c = b refl
by-phase phases.Failed a b c = c refl

count-cons : (test : Entry → Bool) (x : Entry) (lane : List Entry) → count_by test (x ∷ lane) ≡ cond (test x) 1 0 + count_by test lane
count-cons test x lane = sum_by-cons (λ (y : Entry). cond (test y) 1 0) x lane

-- where some are counted, one passes
counted-some : (test : Entry → Bool) (lane : List Entry) → 1 ≤ count_by test lane → (k : ℕ) × (e : Entry) × (slice_get lane k ≡ Some e) × (test e ≡ true)
counted-some test [] some = absurd (let no : ⊥ = omega arith in no)
counted-some test (x ∷ lane) some = go (test x) refl (λ (more : 1 ≤ count_by test lane). counted-some test lane more)
  where
    go : (b : Bool) → test x ≡ b → (1 ≤ count_by test lane → (k : ℕ) × (e : Entry) × (slice_get lane k ≡ Some e) × (test e ≡ true)) → (k : ℕ) × (e : Entry) × (slice_get (x ∷ lane) k ≡ Some e) × (test e ≡ true)
    go true is rest = (0, x, refl, is)
    go false is rest =
        let step : count_by test (x ∷ lane) ≡ 0 + count_by test lane = count-cons test x lane ∙ ap (λ (t : Bool). cond t 1 0 + count_by test lane) is in
        let found = rest (omega arith) in
        (suc found.0, found.1, found.2, found.3)

failed-counted : (e : Entry) (lane : List Entry) → is_failed e ≡ true → 1 ≤ lane_failed (e ∷ lane)
failed-counted e lane is =
    let step : count_by is_failed (e ∷ lane) ≡ 1 + count_by is_failed lane = count-cons is_failed e lane ∙ ap (λ (t : Bool). cond t 1 0 + count_by is_failed lane) is in
    omega arith

part-of-sum : {A : Type 0} (f : A → ℕ) (xs : List A) (k : ℕ) (x : A) → slice_get xs k ≡ Some x → f x ≤ sum_by f xs
part-of-sum f [] k x at = absurd (let no : ⊥ = cc in no)
part-of-sum f (y ∷ xs) zero x at = let same : y ≡ x = cc in let step = sum_by-cons f y xs in subst (λ (z : _). f z ≤ sum_by f (y ∷ xs)) same (omega arith)
part-of-sum f (y ∷ xs) (suc k) x at = let rest = part-of-sum f xs k x at in let step = sum_by-cons f y xs in omega arith

none-failed : (q : Queue) → is_none q.broken ≡ true → failures q.broken ≡ 0
none-failed q = go q.broken
  where
    go : (o : Option ℕ) → is_none o ≡ true → failures o ≡ 0
    go None whole = refl
    go (Some target) whole = absurd (let no : ⊥ = cc in no)

-- in a queue that is there and not broken
front-in : (s : State) (p : PostsValue) (queue target : ℕ) (q : Queue) → IsSound s → IsPostsOf s p.me p → slice_get p.posts.queues queue ≡ Some q → is_none q.broken ≡ true → is_nonempty_lane (slice_get q.lanes target) ≡ true
    → IsSome (front_of p queue target)
front-in s p queue target q sound is at whole nonempty = in-lanes (slice_get q.lanes target) refl nonempty
  where
    deep : (l : Limits) → are_limits l ≡ true → 1 ≤ l.depth
    deep l within = grind (arith, nat_tests)

    carried : (lane : List Entry) (k : ℕ) (e : Entry) → slice_get q.lanes target ≡ Some lane → slice_get lane k ≡ Some e → is_carried e ≡ true → IsSome (front_of p queue target)
    carried lane k e there here passes =
        let first = some-first is_carried lane k e here passes in
        front-put p queue target first.0 (put-some p.posts.queues queue target q lane first.0 at whole there first.1)

    posted : (lane : List Entry) (k : ℕ) (e : Entry) → slice_get q.lanes target ≡ Some lane → slice_get lane k ≡ Some e → is_posted e ≡ true → (b : Bool) → nat_lt (carried_count lane) p.limits.depth ≡ b → IsSome (front_of p queue target)
    posted lane k e there here passes true room =
        let first = some-first is_posted lane k e here passes in
        front-take p queue target first.0 (take-some p.limits.depth p.posts.queues queue target q lane first.0 at whole there room first.1)
    posted lane k e there here passes false full =
        let past = ltb-false (carried_count lane) p.limits.depth full in
        let one = deep s.limits sound.limits in
        let same = ap (λ (l : Limits). l.depth) is.limits in
        let some = counted-some is_carried lane (omega arith) in
        carried lane some.0 some.1 there some.2 some.3

    failed : (lane : List Entry) (e : Entry) (rest : List Entry) → lane ≡ e ∷ rest → slice_get q.lanes target ≡ Some lane → is_failed e ≡ true → ⊥
    failed lane e rest first there passes =
        let all = ((sound.posts p.me p.posts is.posts).queues queue q at).failed in
        let none = none-failed q whole in
        let part = part-of-sum lane_failed q.lanes target lane there in
        let one : 1 ≤ lane_failed lane = subst (λ (l : List Entry). 1 ≤ lane_failed l) (sym first) (failed-counted e rest passes) in
        omega arith

    in-lanes : (o : Option (List Entry)) → slice_get q.lanes target ≡ o → is_nonempty_lane o ≡ true → IsSome (front_of p queue target)
    in-lanes None there some = absurd (let no : ⊥ = cc in no)
    in-lanes (Some []) there some = absurd (let no : ⊥ = cc in no)
    in-lanes (Some (e ∷ rest)) there some =
        by-phase e.phase
        (λ passes. posted (e ∷ rest) 0 e there refl passes (nat_lt (carried_count (e ∷ rest)) p.limits.depth) refl)
        (λ passes. carried (e ∷ rest) 0 e there refl passes)
        (λ passes. absurd (failed (e ∷ rest) e rest refl there passes))

pub movable-front : (s : State) (p : PostsValue) (queue target : ℕ) → IsSound s → IsPostsOf s p.me p → is_movable_lane p.posts.queues queue target ≡ true → IsSome (front_of p queue target)
movable-front s p queue target sound is some = go (slice_get p.posts.queues queue) refl some
  where
    go : (o : Option Queue) → slice_get p.posts.queues queue ≡ o → is_movable_to o target ≡ true → IsSome (front_of p queue target)
    go None at some = absurd (let no : ⊥ = cc in no)
    go (Some q) at some =
        let parts = both (is_none q.broken) (is_nonempty_lane (slice_get q.lanes target)) some in
        front-in s p queue target q sound is at parts.0 parts.1

-- where a lane has no entry, or its queue is broken, nothing comes next
empty-lane : (choose : List Entry → Option Entry) (o : Option (List Entry)) → choose [] ≡ None → is_nonempty_lane o ≡ false → option_and_then choose o ≡ None
empty-lane choose None empty none = refl
empty-lane choose (Some []) empty none = empty
empty-lane choose (Some (e ∷ lane)) empty none = absurd (let no : ⊥ = cc in no)

unmovable-put : (target : ℕ) (o : Option Queue) → is_movable_to o target ≡ false → option_and_then (front_carried_in target) o ≡ None
unmovable-put target None none = refl
unmovable-put target (Some q) none = go (is_none q.broken) refl none
  where
    go : (b : Bool) → is_none q.broken ≡ b → (b && is_nonempty_lane (slice_get q.lanes target)) ≡ false → front_carried_in target q ≡ None
    go true whole none = rw whole (empty-lane first_carried (slice_get q.lanes target) refl none)
    go false broken none = rw broken refl

empty-take : (depth : ℕ) → lane_front_posted depth [] ≡ None
empty-take depth = go (nat_lt (carried_count []) depth) refl
  where
    go : (b : Bool) → nat_lt (carried_count []) depth ≡ b → lane_front_posted depth [] ≡ None
    go true room = rw room refl
    go false full = rw full refl

unmovable-take : (depth target : ℕ) (o : Option Queue) → is_movable_to o target ≡ false → option_and_then (front_posted_in depth target) o ≡ None
unmovable-take depth target None none = refl
unmovable-take depth target (Some q) none = go (is_none q.broken) refl none
  where
    go : (b : Bool) → is_none q.broken ≡ b → (b && is_nonempty_lane (slice_get q.lanes target)) ≡ false → front_posted_in depth target q ≡ None
    go true whole none = rw whole (empty-lane (lane_front_posted depth) (slice_get q.lanes target) (empty-take depth) none)
    go false broken none = rw broken refl

pub unmovable-front : (p : PostsValue) (queue target : ℕ) → is_movable_lane p.posts.queues queue target ≡ false → front_of p queue target ≡ None
unmovable-front p queue target none =
    let puts = unmovable-put target (slice_get p.posts.queues queue) none in
    let takes = unmovable-take p.limits.depth target (slice_get p.posts.queues queue) none in
    rw (puts, takes) refl

-- where no lane may be moved no transfer of the rank is permitted
pub none-listed : (s : State) (p : PostsValue) (t : Transfer) (k : ℕ) → IsPostsOf s p.me p → ((queue target : ℕ) → is_movable_lane p.posts.queues queue target ≡ false)
    → slice_get (transfers s.limits s.posts) k ≡ Some t → t.origin ≡ p.me → ⊥
none-listed s p t k is none at mine =
    let front = listed-front s p t k (subst (λ (rank : ℕ). IsPostsOf s rank p) (sym mine) is) at in
    let nothing = unmovable-front p t.queue t.target (none t.queue t.target) in
    (let never = rw nothing at front in let no : ⊥ = cc in no)
