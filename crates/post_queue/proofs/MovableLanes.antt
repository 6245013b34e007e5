-- The lanes that a worker may move, and which of them comes next.
use Rattle.std.proofs.Common.{◌≡◌, ◌≢◌, inl, inr, ℕ, zero, suc, ◌+◌, ◌<◌, ◌≤◌, nat_lt, ◌&&◌, Bool, true, false, List, [], ◌∷◌, ◌++◌, drop, length, map, replicate, Option, None, Some, IsSome, IfSome, is_none, refl, sym, ap, ◌∙◌, subst, arith}
use Rattle.std.specs.List.{slice_get, slice_set, position, position_or_len}
use Rattle.std.specs.Option.{option_map, option_and_then, is_some, unwrap_or}
use Rattle.std.proofs.lemmas.List.{length-map, length-replicate}
use Rattle.std.proofs.lemmas.List.Elements.{All-replicate}
use Rattle.std.proofs.lemmas.Nat.Bits.{bit_at-zero}
use Rattle.std.proofs.lemmas.Option.{slice_get-map, slice_get_within}
use Rattle.gaspi_types.specs.Masks.{is_member}
use Rattle.gaspi_types.specs.declared.entries.Entry.{Entry}
use Rattle.gaspi_types.specs.Queues.{with_entries}
use Rattle.gaspi_types.specs.declared.entries.Phase.TheVariants.{Carried, Failed}
use Rattle.gaspi_types.specs.declared.entries.Queue.{Queue}
use Rattle.gaspi_types.proofs.Chains.{both}
use Rattle.gaspi_types.proofs.Items.{same-or-not, slice_get-set_same, slice_get-set_other, length-changed_at}
use Rattle.post_queue.specs.LaneStates.{LaneValue}
use Rattle.post_queue.specs.LanesStates.{LanesState, empty_queue, queue_in}
use Rattle.post_queue.specs.LeastFrom.{IsLeastFrom, AnswersLeast}
use Rattle.post_queue.specs.MovableLanes.{is_nonempty_lane, is_movable_to, is_movable_lane, is_movable, is_movable_in, is_movable_queue, is_movable_state, AreMarked, IsBefore, IsPassed, IsNextLane}
use Rattle.post_queue.specs.Nonempty.{is_nonempty, is_nonempty_at, IsNonempty}
use Rattle.post_queue.specs.QueueStates.{QueueState, entries_of, queue_of, state_of}
use Rattle.post_queue.specs.Places.{posted_position, with_phase}
use Rattle.post_queue.specs.Steps.{lane_head, carried_in, put_done_in, posted_failed_in, head_failed_in, no_entries, purged_queue}
use Rattle.post_queue.proofs.Heads.{lane-there, lane-none}
use Rattle.post_queue.proofs.Queues.{queues-alike}

-- A queue is movable exactly where it has a movable lane.

nonempty-head : (o : Option (List Entry)) → IsSome (option_and_then lane_head o) → is_nonempty_lane o ≡ true
nonempty-head None some = absurd (let no : ⊥ = cc in no)
nonempty-head (Some []) some = absurd (let no : ⊥ = cc in no)
nonempty-head (Some (e ∷ lane)) some = refl

empty-head : (o : Option (List Entry)) → option_and_then lane_head o ≡ None → is_nonempty_lane o ≡ false
empty-head None none = refl
empty-head (Some []) none = refl
empty-head (Some (e ∷ lane)) none = absurd (let no : ⊥ = cc in no)

and-false : (a b : Bool) → b ≡ false → (a && b) ≡ false
and-false true b is = is
and-false false b is = refl

movable-to : (q : Queue) → is_movable q ≡ true → (target : ℕ) × (is_movable_to (Some q) target ≡ true)
movable-to q movable =
    let parts = both (is_none q.broken) (is_some (position is_nonempty q.lanes)) movable in
    go (position is_nonempty q.lanes) refl parts.1 parts.0
  where
    go : (o : Option ℕ) → position is_nonempty q.lanes ≡ o → is_some o ≡ true → is_none q.broken ≡ true → (target : ℕ) × (is_movable_to (Some q) target ≡ true)
    go None at some whole = absurd (let no : ⊥ = cc in no)
    go (Some target) at some whole = (target, rw (whole, nonempty-head (slice_get q.lanes target) (lane-there q.lanes target at)) refl)

unmovable-to : (q : Queue) (target : ℕ) → is_movable q ≡ false → is_movable_to (Some q) target ≡ false
unmovable-to q target none = by-mark (is_none q.broken) refl
  where
    by-lane : (o : Option ℕ) → position is_nonempty q.lanes ≡ o → is_none q.broken ≡ true → is_movable_to (Some q) target ≡ false
    by-lane None at whole = and-false (is_none q.broken) (is_nonempty_lane (slice_get q.lanes target)) (empty-head (slice_get q.lanes target) (lane-none q.lanes target at))
    by-lane (Some first) at whole = absurd (let movable : is_movable q ≡ true = rw (whole, at) refl in let no : ⊥ = cc in no)

    by-mark : (b : Bool) → is_none q.broken ≡ b → is_movable_to (Some q) target ≡ false
    by-mark true whole = by-lane (position is_nonempty q.lanes) refl whole
    by-mark false broken = rw broken refl

pub unmovable : (queues : List Queue) (queue target : ℕ) → is_movable_queue queues queue ≡ false → is_movable_lane queues queue target ≡ false
unmovable queues queue target = go (slice_get queues queue)
  where
    go : (o : Option Queue) → is_movable_in o ≡ false → is_movable_to o target ≡ false
    go None none = refl
    go (Some q) none = unmovable-to q target none

movable : (queues : List Queue) (queue : ℕ) → is_movable_queue queues queue ≡ true → (target : ℕ) × (is_movable_lane queues queue target ≡ true)
movable queues queue = go (slice_get queues queue)
  where
    go : (o : Option Queue) → is_movable_in o ≡ true → (target : ℕ) × (is_movable_to o target ≡ true)
    go None some = absurd (let no : ⊥ = cc in no)
    go (Some q) some = movable-to q some

-- no queue, no lane
pub none-movable : (queues : List Queue) (queue target : ℕ) → AnswersLeast (is_movable_queue queues) 0 None → is_movable_lane queues queue target ≡ false
none-movable queues queue target none = unmovable queues queue target (none queue (omega arith))

-- Which comes next.

-- a lane behind, in the same queue or a later one, where none is movable there
no-later : (queues : List Queue) (after other : ℕ × ℕ) → AnswersLeast (is_movable_lane queues after.0) (after.1 + 1) None → ((queue : ℕ) → after.0 < queue → is_movable_queue queues queue ≡ false)
    → IsBefore after other → is_movable_lane queues other.0 other.1 ≡ false
no-later queues after other here later (inl less) = unmovable queues other.0 other.1 (later other.0 less)
no-later queues after other here later (inr behind) =
    subst (λ (queue : ℕ). is_movable_lane queues queue other.1 ≡ false) behind.0 (here other.1 (let less = behind.1 in omega arith))

-- a lane before the first one of the first movable queue
no-sooner : (queues : List Queue) (from queue target : ℕ) (other : ℕ × ℕ) → IsLeastFrom (is_movable_queue queues) from queue → IsLeastFrom (is_movable_lane queues queue) 0 target → from ≤ other.0
    → IsBefore other (queue, target) → is_movable_lane queues other.0 other.1 ≡ false
no-sooner queues from queue target other first lane low (inl less) = unmovable queues other.0 other.1 (first.none_before other.0 low less)
no-sooner queues from queue target other first lane low (inr behind) =
    subst (λ (queue' : ℕ). is_movable_lane queues queue' other.1 ≡ false) (sym behind.0) (lane.none_before other.1 (omega arith) behind.1)

-- it is in the same queue
pub next-here : (queues : List Queue) (after : ℕ × ℕ) (target : ℕ) → AnswersLeast (is_movable_lane queues after.0) (after.1 + 1) (Some target) → IsNextLane queues after (after.0, target)
next-here queues after target is = record { movable = is.passes; first = first }
  where
    between : (other : ℕ × ℕ) → IsBefore after other → IsBefore other (after.0, target) → is_movable_lane queues other.0 other.1 ≡ false
    between other (inl less) (inl more) = absurd (let no : ⊥ = omega arith in no)
    between other (inl less) (inr same) = absurd (let is = same.0 in let no : ⊥ = omega arith in no)
    between other (inr same) (inl more) = absurd (let is = same.0 in let no : ⊥ = omega arith in no)
    between other (inr behind) (inr before) =
        subst (λ (queue : ℕ). is_movable_lane queues queue other.1 ≡ false) behind.0 (is.none_before other.1 (let less = behind.1 in omega arith) before.1)

    first : (other : ℕ × ℕ) → IsPassed after (after.0, target) other → is_movable_lane queues other.0 other.1 ≡ false
    first other (inl passed) = between other passed.0 passed.1
    first other (inr round) = absurd (round.0 (inr (refl, let low = is.low in omega arith)))

-- it is in a later queue, or where none is movable, in the first one
pub next-behind : (queues : List Queue) (after : ℕ × ℕ) (first target : ℕ) (later : Option ℕ) → AnswersLeast (is_movable_queue queues) 0 (Some first) → AnswersLeast (is_movable_queue queues) (after.0 + 1) later
    → AnswersLeast (is_movable_lane queues after.0) (after.1 + 1) None → AnswersLeast (is_movable_lane queues (unwrap_or later first)) 0 (Some target)
    → IsNextLane queues after (unwrap_or later first, target)
next-behind queues after first target None start later here lane = record { movable = lane.passes; first = passed }
  where
    behind : (other : ℕ × ℕ) → IsBefore after other → is_movable_lane queues other.0 other.1 ≡ false
    behind other before = no-later queues after other here (λ queue less. later queue (omega arith)) before

    passed : (other : ℕ × ℕ) → IsPassed after (first, target) other → is_movable_lane queues other.0 other.1 ≡ false
    passed other (inl between) = behind other between.0
    passed other (inr (round, inl before)) = behind other before
    passed other (inr (round, inr before)) = no-sooner queues 0 first target other start lane (omega arith) before
next-behind queues after first target (Some queue) start later here lane = record { movable = lane.passes; first = passed }
  where
    between : (other : ℕ × ℕ) → IsBefore after other → IsBefore other (queue, target) → is_movable_lane queues other.0 other.1 ≡ false
    between other (inl less) before = no-sooner queues (after.0 + 1) queue target other later lane (omega arith) before
    between other (inr same) before = subst (λ (queue' : ℕ). is_movable_lane queues queue' other.1 ≡ false) same.0 (here other.1 (let less = same.1 in omega arith))

    passed : (other : ℕ × ℕ) → IsPassed after (queue, target) other → is_movable_lane queues other.0 other.1 ≡ false
    passed other (inl both) = between other both.0 both.1
    passed other (inr round) = absurd (round.0 (inl (let low = later.low in omega arith)))

-- a movable queue has a first movable lane
pub lane-answered : (queues : List Queue) (first from : ℕ) (later : Option ℕ) → AnswersLeast (is_movable_queue queues) 0 (Some first) → AnswersLeast (is_movable_queue queues) from later
    → AnswersLeast (is_movable_lane queues (unwrap_or later first)) 0 None → ⊥
lane-answered queues first from None start later none =
    let some = movable queues first start.passes in
    let never = none some.0 (omega arith) in
    (let no : ⊥ = let a = some.1 in cc in no)
lane-answered queues first from (Some queue) start later none =
    let some = movable queues queue later.passes in
    let never = none some.0 (omega arith) in
    (let no : ⊥ = let a = some.1 in cc in no)

-- What the sets of targets and of queues tell.

lane-of : (lanes : List LaneValue) (target : ℕ) → is_nonempty_lane (slice_get (map entries_of lanes) target) ≡ is_nonempty_at (slice_get lanes target)
lane-of lanes target = ap is_nonempty_lane (slice_get-map entries_of lanes target) ∙ go (slice_get lanes target)
  where
    go : (o : Option LaneValue) → is_nonempty_lane (option_map entries_of o) ≡ is_nonempty_at o
    go None = refl
    go (Some lane) = refl

past-lanes : (lanes : List LaneValue) (target : ℕ) → length lanes ≤ target → is_nonempty_at (slice_get lanes target) ≡ false
past-lanes [] target past = refl
past-lanes (x ∷ lanes) zero past = absurd (let no : ⊥ = omega arith in no)
past-lanes (x ∷ lanes) (suc target) past = past-lanes lanes target (omega arith)

-- a member that is sought in a set is one of that test
pub least-same : (mask from : ℕ) (test : ℕ → Bool) (answer : Option ℕ) → ((n : ℕ) → n < 32 → is_member mask n ≡ test n) → ((n : ℕ) → 32 ≤ n → test n ≡ false)
    → IfSome answer (λ (n : ℕ). n < 32) → AnswersLeast (is_member mask) from answer → AnswersLeast test from answer
least-same mask from test None same past bound is = λ other low. by-size other low (nat_lt other 32) refl
  where
    by-size : (other : ℕ) → from ≤ other → (b : Bool) → nat_lt other 32 ≡ b → test other ≡ false
    by-size other low true less = sym (same other (grind arith)) ∙ is other low
    by-size other low false more = past other (grind arith)
least-same mask from test (Some n) same past bound is = record {
  low = is.low;
  passes = sym (same n bound) ∙ is.passes;
  none_before = λ other low less. sym (same other (omega arith)) ∙ is.none_before other low less;
}

pub lanes-answer : (depth open_count : ℕ) (broken : Option ℕ) (lanes : List LaneValue) (nonempty from : ℕ) (s : QueueState) (answer : Option ℕ) → state_of depth (queue_of open_count broken lanes) ≡ s → broken ≡ None → length (map entries_of lanes) ≤ 16
    → IsNonempty nonempty lanes → IfSome answer (λ (n : ℕ). n < 32) → AnswersLeast (is_member nonempty) from answer → AnswersLeast (is_movable_to (Some s.queue)) from answer
lanes-answer depth open_count broken lanes nonempty from s answer is none few marks bound least =
    let size = length-map lanes entries_of in
    rw (← is) (rw none (least-same nonempty from (λ (target : ℕ). is_nonempty_lane (slice_get (map entries_of lanes) target)) answer (λ n less. marks n less ∙ sym (lane-of lanes n))
    (λ n past. lane-of lanes n ∙ past-lanes lanes n (omega arith)) bound least))

pub lanes-broken : (depth open_count : ℕ) (broken : Option ℕ) (lanes : List LaneValue) (from : ℕ) (s : QueueState) → state_of depth (queue_of open_count broken lanes) ≡ s → is_some broken ≡ true
    → AnswersLeast (is_movable_to (Some s.queue)) from None
lanes-broken depth open_count None lanes from s is some = absurd (let no : ⊥ = cc in no)
lanes-broken depth open_count (Some rank) lanes from s is some = λ other low. rw (← is) refl

-- a target that is a member is below the number of lanes
lane-within : (lanes : List LaneValue) (target : ℕ) → is_nonempty_at (slice_get lanes target) ≡ true → target < length lanes
lane-within lanes target some = go (slice_get lanes target) refl some
  where
    go : (o : Option LaneValue) → slice_get lanes target ≡ o → is_nonempty_at o ≡ true → target < length lanes
    go None at some = absurd (let no : ⊥ = cc in no)
    go (Some lane) at some = slice_get_within lanes target lane at

pub member-within : (lanes : List LaneValue) (nonempty from target : ℕ) → length (map entries_of lanes) ≤ 16 → IsNonempty nonempty lanes → target < 32 → AnswersLeast (is_member nonempty) from (Some target) → target < 16
member-within lanes nonempty from target few marks bound least =
    let size = length-map lanes entries_of in
    let within = lane-within lanes target (sym (marks target bound) ∙ least.passes) in
    omega arith

-- Queues with their depths, and as the machine has them.

queue-of : (queues : List QueueState) (queue : ℕ) → is_movable_in (slice_get (map queue_in queues) queue) ≡ is_movable_state (slice_get queues queue)
queue-of queues queue = ap is_movable_in (slice_get-map queue_in queues queue) ∙ go (slice_get queues queue)
  where
    go : (o : Option QueueState) → is_movable_in (option_map queue_in o) ≡ is_movable_state o
    go None = refl
    go (Some q) = refl

queue-within : (queues : List QueueState) (queue : ℕ) → is_movable_state (slice_get queues queue) ≡ true → queue < length queues
queue-within queues queue some = go (slice_get queues queue) refl some
  where
    go : (o : Option QueueState) → slice_get queues queue ≡ o → is_movable_state o ≡ true → queue < length queues
    go None at some = absurd (let no : ⊥ = cc in no)
    go (Some q) at some = slice_get_within queues queue q at

past-queues : (queues : List QueueState) (queue : ℕ) → length queues ≤ queue → is_movable_state (slice_get queues queue) ≡ false
past-queues [] queue past = refl
past-queues (x ∷ queues) zero past = absurd (let no : ⊥ = omega arith in no)
past-queues (x ∷ queues) (suc queue) past = past-queues queues queue (omega arith)

-- the queues of a state
abbrev pub lanes_state : ℕ → ℕ → ℕ → List QueueState → LanesState
lanes_state depth ranks next queues = record { depth = depth; ranks = ranks; next = next; queues = map queue_in queues }

pub queue-answer : (depth ranks next : ℕ) (queues : List QueueState) (movable from : ℕ) (s : LanesState) (answer : Option ℕ) → lanes_state depth ranks next queues ≡ s → AreMarked depth ranks queues movable
    → IfSome answer (λ (n : ℕ). n < 32) → AnswersLeast (is_member movable) from answer → AnswersLeast (is_movable_queue s.queues) from answer
queue-answer depth ranks next queues movable from s answer is marked bound least =
    let few = marked.lanes.few in
    rw (← is) (least-same movable from (λ (queue : ℕ). is_movable_in (slice_get (map queue_in queues) queue)) answer (λ n less. marked.marks n less ∙ sym (queue-of queues n))
    (λ n past. queue-of queues n ∙ past-queues queues n (omega arith)) bound least)

pub queue-bound : (depth ranks : ℕ) (queues : List QueueState) (movable from queue : ℕ) → AreMarked depth ranks queues movable → queue < 32 → AnswersLeast (is_member movable) from (Some queue) → queue < 8
queue-bound depth ranks queues movable from queue marked bound least =
    let few = marked.lanes.few in
    let within = queue-within queues queue (sym (marked.marks queue bound) ∙ least.passes) in
    omega arith

pub lane-answer : (depth ranks next : ℕ) (queues : List QueueState) (queue from : ℕ) (x : QueueState) (s : LanesState) (answer : Option ℕ) → lanes_state depth ranks next queues ≡ s → slice_get queues queue ≡ Some x
    → AnswersLeast (is_movable_to (Some x.queue)) from answer → AnswersLeast (is_movable_lane s.queues queue) from answer
lane-answer depth ranks next queues queue from x s answer is at least =
    let there : slice_get (map queue_in queues) queue ≡ Some x.queue = slice_get-map queue_in queues queue ∙ ap (option_map queue_in) at in
    rw (← is) (subst (λ (o : Option Queue). AnswersLeast (λ (target : ℕ). is_movable_to o target) from answer) (sym there) least)

pub lane-missing : (depth ranks next : ℕ) (queues : List QueueState) (queue from : ℕ) (s : LanesState) → lanes_state depth ranks next queues ≡ s → slice_get queues queue ≡ None
    → AnswersLeast (is_movable_lane s.queues queue) from None
lane-missing depth ranks next queues queue from s is at = λ other low.
    let there : slice_get (map queue_in queues) queue ≡ None = slice_get-map queue_in queues queue ∙ ap (option_map queue_in) at in
    rw (← is) (ap (λ (o : Option Queue). is_movable_to o other) there)

-- What the calls keep.

if-at : (o : Option QueueState) (q : QueueState) (P : QueueState → Type 0) → o ≡ Some q → IfSome o P → P q
if-at o q P is h = let here = subst (λ (o : Option QueueState). IfSome o P) is h in here

pub marks-changed : (depth ranks movable movable' : ℕ) (queues : List QueueState) (place : ℕ) (x y : QueueState) (change : Queue → Queue) → AreMarked depth ranks queues movable → slice_get queues place ≡ Some x
    → y ≡ state_of x.depth (change x.queue) → length (change x.queue).lanes ≡ length x.queue.lanes
    → IfSome (slice_get (slice_set queues place y) place) (λ (q : QueueState). is_member movable' place ≡ is_movable q.queue)
    → ((other : ℕ) → other < 32 → other ≢ place → is_member movable' other ≡ is_member movable other)
    → AreMarked depth ranks (slice_set queues place y) movable'
marks-changed depth ranks movable movable' queues place x y change marked at new wide here others = record {
  lanes = queues-alike depth ranks queues place x y marked.lanes at (ap (λ (q : QueueState). q.depth) new) (ap (λ (q : QueueState). length q.queue.lanes) new ∙ wide);
  marks = λ queue less.
      same-or-not queue place
      (λ same. subst (λ (k : ℕ). is_member movable' k ≡ is_movable_state (slice_get (slice_set queues place y) k)) (sym same)
      (rw (slice_get-set_same queues place x y at) (if-at (slice_get (slice_set queues place y) place) y (λ (q : QueueState). is_member movable' place ≡ is_movable q.queue) (slice_get-set_same queues place x y at) here)))
      (λ apart. rw (slice_get-set_other queues place queue y (λ e. apart (sym e))) (others queue less apart ∙ marked.marks queue less));
}

none-empty : (n : ℕ) → position_or_len is_nonempty (replicate n []) ≡ n
none-empty zero = refl
none-empty (suc n) = let rest = none-empty n in ap (λ (m : ℕ). 1 + m) rest ∙ omega arith

not-below : (n : ℕ) → nat_lt n n ≡ false
not-below n = grind arith

empty-unmovable : (ranks : ℕ) → is_movable (empty_queue ranks) ≡ false
empty-unmovable ranks = let last = none-empty ranks in rw (last, length-replicate, not-below ranks) refl

fresh-unmovable : (n queue : ℕ) (q : QueueState) → is_movable q.queue ≡ false → is_movable_state (slice_get (replicate n q) queue) ≡ false
fresh-unmovable zero queue q none = refl
fresh-unmovable (suc n) zero q none = none
fresh-unmovable (suc n) (suc queue) q none = fresh-unmovable n queue q none

pub new-marks : (depth ranks n : ℕ) (queues : List QueueState) → depth ≤ 256 → n ≤ 8 → queues ≡ replicate n (state_of depth (empty_queue ranks)) → AreMarked depth ranks queues 0
new-marks depth ranks n queues deep few is = rw is (record {
  lanes = record {
    deep = deep;
    few = rw length-replicate few;
    depths = All-replicate (λ (q : QueueState). q.depth ≡ depth) n (state_of depth (empty_queue ranks)) refl;
    lanes = All-replicate (λ (q : QueueState). length q.queue.lanes ≡ ranks) n (state_of depth (empty_queue ranks)) (rw length-replicate refl);
  };
  marks = λ queue less. let zero' = bit_at-zero queue in rw zero' (sym (fresh-unmovable n queue (state_of depth (empty_queue ranks)) (empty-unmovable ranks)));
})

-- no step takes or makes a lane
pub width-taken : (target : ℕ) (bytes : List ℕ) (q : Queue) → length (carried_in target bytes q).lanes ≡ length q.lanes
width-taken target bytes q = length-changed_at q.lanes target (λ (lane : List Entry). with_phase lane (posted_position lane) (Carried bytes))

pub width-removed : (target : ℕ) (q : Queue) → length (put_done_in target q).lanes ≡ length q.lanes
width-removed target q = length-changed_at q.lanes target (λ (lane : List Entry). drop 1 lane)

pub width-posted_failed : (target : ℕ) (q : Queue) → length (posted_failed_in target q).lanes ≡ length q.lanes
width-posted_failed target q = length-changed_at q.lanes target (λ (lane : List Entry). with_phase lane (posted_position lane) Failed)

pub width-head_failed : (target : ℕ) (q : Queue) → length (head_failed_in target q).lanes ≡ length q.lanes
width-head_failed target q = length-changed_at q.lanes target (λ (lane : List Entry). with_phase lane 0 Failed)

pub width-entries : (target : ℕ) (entries : List Entry) (q : Queue) → length (with_entries target entries q).lanes ≡ length q.lanes
width-entries target entries q = length-changed_at q.lanes target (λ (lane : List Entry). lane ++ entries)

pub width-purged : (q : Queue) → length (purged_queue q).lanes ≡ length q.lanes
width-purged q = length-map q.lanes no_entries
