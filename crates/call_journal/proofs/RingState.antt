-- A state of the ring, and what is counted in it.
use Rattle.std.proofs.Common.{◌≡◌, ℕ, ◌+◌, ◌*◌, ◌≤◌, Bool, false, ◌==◌, cond, List, [], ◌∷◌, Option, None, Some, refl, sym, ap, ◌∙◌, arith, ◌⊎◌, inl, inr}
use Rattle.std.specs.List.{slice_get, slice_set, sum_by}
use Rattle.gaspi_types.specs.Lanes.{lane_owed}
use Rattle.gaspi_types.specs.Replies.{is_done}
use Rattle.gaspi_types.specs.SegmentBytes.{range_of}
use Rattle.gaspi_types.specs.SegmentTables.{extent_in}
use Rattle.gaspi_types.specs.declared.calls.Call.{Call}
use Rattle.gaspi_types.specs.declared.calls.Call.TheVariants.{WriteNotify}
use Rattle.gaspi_types.specs.declared.entries.Entry.{Entry}
use Rattle.gaspi_types.specs.declared.entries.Queue.{Queue}
use Rattle.gaspi_types.specs.declared.events.Event.{Event}
use Rattle.gaspi_types.specs.declared.events.Event.TheVariants.{Called, Joined, Take, Put}
use Rattle.gaspi_types.specs.declared.replies.Reply.{Reply}
use Rattle.gaspi_types.specs.declared.segments.Extent.{Extent}
use Rattle.gaspi_types.specs.declared.segments.Segment.{Segment}
use Rattle.gaspi_types.specs.declared.segments.SegmentTable.{SegmentTable}
use Rattle.gaspi_types.proofs.Items.{slice_get-set, slice_get-set_same, slice_get-set_other, sum_by-changed}
use Rattle.gaspi_model.specs.Memories.{bytes_of, slots_of}
use Rattle.gaspi_model.specs.Sound.{IsSound}
use Rattle.gaspi_model.specs.State.{segment_at}
use Rattle.gaspi_model.specs.Step.{owner_of}
use Rattle.gaspi_model.specs.declared.states.Posts.{Posts}
use Rattle.gaspi_model.specs.declared.states.Memory.{Memory}
use Rattle.gaspi_model.specs.declared.states.State.{State}
use Rattle.rank_script.specs.Bench.{right_of}
use Rattle.call_journal.proofs.RingLanes.{IsRingLane, lane_notes}
use Rattle.call_journal.proofs.Totals.{is_found}

-- segment 0 is there in its first generation
abbrev pub HasZero : Memory → Type 0
HasZero memory = (item : Segment) × (segment_at memory 0 ≡ Some item) × (item.generation ≡ 0)

-- what is known of a segment 0 is its first generation
abbrev pub KnowsZero : List (Option Extent) → Type 0
KnowsZero table = (x : Extent) → extent_in table 0 ≡ Some x → x.generation ≡ 0

pub record IsRingQueue (ranks me : ℕ) (q : Queue) : Type 0 where
  pub whole : q.broken ≡ None
  pub lanes : (target : ℕ) (lane : List Entry) → slice_get q.lanes target ≡ Some lane → IsRingLane ranks me target lane

pub record IsRingPosts (ranks me : ℕ) (table : List Queue) (segments : SegmentTable) : Type 0 where
  pub own : KnowsZero segments.own
  pub known : (rank : ℕ) (extents : List (Option Extent)) → slice_get segments.known rank ≡ Some extents → KnowsZero extents
  pub queues : (queue : ℕ) (q : Queue) → slice_get table queue ≡ Some q → IsRingQueue ranks me q

pub record IsRing (ranks : ℕ) (s : State) : Type 0 where
  pub sound : IsSound s
  pub many : s.limits.ranks ≡ ranks
  pub posts : (rank : ℕ) (p : Posts) → slice_get s.posts rank ≡ Some p → IsRingPosts ranks rank p.queues p.segments
  pub memories : (rank : ℕ) (memory : Memory) → slice_get s.memories rank ≡ Some memory → HasZero memory

-- Sums over the lanes of a rank.

abbrev pub total : (List Entry → ℕ) → List Queue → ℕ
total f queues = sum_by (λ (q : Queue). sum_by f q.lanes) queues

pub total-changed : (f : List Entry → ℕ) (queues : List Queue) (queue : ℕ) (q q' : Queue) (target : ℕ) (lane lane' : List Entry) → slice_get queues queue ≡ Some q → slice_get q.lanes target ≡ Some lane
    → q'.lanes ≡ slice_set q.lanes target lane' → total f (slice_set queues queue q') + f lane ≡ total f queues + f lane'
total-changed f queues queue q q' target lane lane' at here is =
    let outer : total f (slice_set queues queue q') + sum_by f q.lanes ≡ total f queues + sum_by f q'.lanes = sum_by-changed (λ (x : Queue). sum_by f x.lanes) queues queue q q' at in
    let inner : sum_by f (slice_set q.lanes target lane') + f lane ≡ sum_by f q.lanes + f lane' = sum_by-changed f q.lanes target lane lane' here in
    let same : sum_by f q'.lanes ≡ sum_by f (slice_set q.lanes target lane') = ap (sum_by f) is in
    omega arith

-- a queue with the same lanes
pub total-kept : (f : List Entry → ℕ) (queues : List Queue) (queue : ℕ) (q q' : Queue) → slice_get queues queue ≡ Some q → q'.lanes ≡ q.lanes → total f (slice_set queues queue q') ≡ total f queues
total-kept f queues queue q q' at is =
    let outer : total f (slice_set queues queue q') + sum_by f q.lanes ≡ total f queues + sum_by f q'.lanes = sum_by-changed (λ (x : Queue). sum_by f x.lanes) queues queue q q' at in
    let same : sum_by f q'.lanes ≡ sum_by f q.lanes = ap (sum_by f) is in
    omega arith

abbrev pub owed_of : Posts → ℕ
owed_of posts = total lane_owed posts.queues

abbrev pub notes_of : Posts → ℕ
notes_of posts = total lane_notes posts.queues

-- 1 where slot 0 of segment 0 is set
abbrev pub is_first_set : List ℕ → ℕ
is_first_set [] = 0
is_first_set (x ∷ xs) = cond (x == 0) 0 1

abbrev pub slot_of : Memory → ℕ
slot_of memory = is_first_set (slots_of memory 0)

-- the second eight bytes of segment 0
abbrev pub word_of : Memory → List ℕ
word_of memory = range_of (bytes_of memory 0) 8 8

-- Values at a place of a table.

abbrev pub value_or : {A B : Type 0} → B → (A → B) → Option A → B
value_or none f None = none
value_or none f (Some x) = f x

abbrev pub value_at : {A B : Type 0} → B → (A → B) → List A → ℕ → B
value_at none f xs i = value_or none f (slice_get xs i)

pub value-there : {A B : Type 0} (none : B) (f : A → B) (xs : List A) (i : ℕ) (x : A) → slice_get xs i ≡ Some x → value_at none f xs i ≡ f x
value-there none f xs i x at = rw at refl

pub value-same : {A B : Type 0} (none : B) (f : A → B) (xs : List A) (i : ℕ) (x y : A) → slice_get xs i ≡ Some x → value_at none f (slice_set xs i y) i ≡ f y
value-same none f xs i x y at = rw (slice_get-set_same xs i x y at) refl

pub value-other : {A B : Type 0} (none : B) (f : A → B) (xs : List A) (i j : ℕ) (y : A) → (i ≡ j → ⊥) → value_at none f (slice_set xs i y) j ≡ value_at none f xs j
value-other none f xs i j y apart = rw (slice_get-set_other xs i j y apart) refl

abbrev pub owed_in : State → ℕ → ℕ
owed_in s rank = value_at 0 owed_of s.posts rank

abbrev pub notes_in : State → ℕ → ℕ
notes_in s rank = value_at 0 notes_of s.posts rank

abbrev pub slot_in : State → ℕ → ℕ
slot_in s rank = value_at 0 slot_of s.memories rank

abbrev pub second_word : State → ℕ → List ℕ
second_word s rank = value_at [] word_of s.memories rank

-- What events count as.

abbrev pub is_post : Call → Reply → Bool
is_post (WriteNotify call) reply = is_done reply
is_post call reply = false

abbrev pub one_if : Bool → ℕ
one_if b = cond b 1 0

abbrev pub resets : Event → ℕ
resets (Called c call reply) = one_if (is_found call reply)
resets (Joined c id args) = 0
resets (Take origin queue target number outcome) = 0
resets (Put origin queue target number outcome) = 0

abbrev pub posts_made : Event → ℕ
posts_made (Called c call reply) = one_if (is_post call reply)
posts_made (Joined c id args) = 0
posts_made (Take origin queue target number outcome) = 0
posts_made (Put origin queue target number outcome) = 0

abbrev pub moves : Event → ℕ
moves (Called c call reply) = 0
moves (Joined c id args) = 0
moves (Take origin queue target number outcome) = 1
moves (Put origin queue target number outcome) = 1

-- of a rank
abbrev pub counted_for : (Event → ℕ) → ℕ → Event → ℕ
counted_for f rank e = cond (owner_of e == rank) (f e) 0

-- An event of a rank: which posts and which memory it changed.
pub record IsMoved (s t : State) (me x : ℕ) (p p' : Posts) (m m' : Memory) : Type 0 where
  pub posts_there : slice_get s.posts me ≡ Some p
  pub memory_there : slice_get s.memories x ≡ Some m
  pub posts : t.posts ≡ slice_set s.posts me p'
  pub memories : t.memories ≡ slice_set s.memories x m'

-- in its rank's own memory at most
pub record IsOwn (e : Event) (me x : ℕ) (p p' : Posts) (m m' : Memory) : Type 0 where
  pub place : x ≡ me
  pub slot : slot_of m' + resets e ≤ slot_of m
  pub notes : notes_of p' ≤ notes_of p + posts_made e
  pub word : word_of m' ≡ word_of m

-- into that of its right neighbour: a notification stands in its lanes
pub record IsSent (ranks : ℕ) (e : Event) (me x : ℕ) (p p' : Posts) (m m' : Memory) : Type 0 where
  pub place : x ≡ right_of ranks me
  pub reset : resets e ≡ 0
  pub post : posts_made e ≡ 0
  pub slot : slot_of m' + notes_of p' ≤ slot_of m + notes_of p
  pub some : 1 ≤ notes_of p

pub record IsLocal (ranks : ℕ) (s t : State) (e : Event) : Type 0 where
  pub x : ℕ
  pub p : Posts
  pub p' : Posts
  pub m : Memory
  pub m' : Memory
  pub moved : IsMoved s t (owner_of e) x p p' m m'
  pub ring_posts : IsRingPosts ranks (owner_of e) p'.queues p'.segments
  pub ring_memory : HasZero m'
  pub owed : moves e + owed_of p' ≡ owed_of p + 4 * posts_made e
  pub effect : IsOwn e (owner_of e) x p p' m m' ⊎ IsSent ranks e (owner_of e) x p p' m m'

-- A queue of a rank with a lane replaced.

pub queue-lane : (ranks me : ℕ) (q q' : Queue) (target : ℕ) (lane' : List Entry) → IsRingQueue ranks me q → q'.lanes ≡ slice_set q.lanes target lane' → q'.broken ≡ q.broken
    → IsRingLane ranks me target lane' → IsRingQueue ranks me q'
queue-lane ranks me q q' target lane' ring is whole new = record {
  whole = whole ∙ ring.whole;
  lanes = λ k lane at. go k lane (slice_get-set q.lanes target k lane' lane (sym (ap (λ (xs : List (List Entry)). slice_get xs k) is) ∙ at));
}
  where
    go : (k : ℕ) (lane : List Entry) → ((k ≡ target) × (lane ≡ lane')) ⊎ (slice_get q.lanes k ≡ Some lane) → IsRingLane ranks me k lane
    go k lane (inl same) = rw (same.0, same.1) new
    go k lane (inr was) = ring.lanes k lane was

pub queue-kept : (ranks me : ℕ) (q q' : Queue) → IsRingQueue ranks me q → q'.lanes ≡ q.lanes → q'.broken ≡ q.broken → IsRingQueue ranks me q'
queue-kept ranks me q q' ring is whole = record {
  whole = whole ∙ ring.whole;
  lanes = λ k lane at. ring.lanes k lane (sym (ap (λ (xs : List (List Entry)). slice_get xs k) is) ∙ at);
}

pub posts-queue : (ranks me : ℕ) (queues queues' : List Queue) (segments : SegmentTable) (queue : ℕ) (q' : Queue) → IsRingPosts ranks me queues segments → queues' ≡ slice_set queues queue q'
    → IsRingQueue ranks me q' → IsRingPosts ranks me queues' segments
posts-queue ranks me queues queues' segments queue q' ring is new = record {
  own = ring.own;
  known = ring.known;
  queues = λ k q at. go k q (slice_get-set queues queue k q' q (sym (ap (λ (xs : List Queue). slice_get xs k) is) ∙ at));
}
  where
    go : (k : ℕ) (q : Queue) → ((k ≡ queue) × (q ≡ q')) ⊎ (slice_get queues k ≡ Some q) → IsRingQueue ranks me q
    go k q (inl same) = rw same.1 new
    go k q (inr was) = ring.queues k q was
