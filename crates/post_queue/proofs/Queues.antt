-- What the steps of a queue keep, and what its state says of them.
use Rattle.std.proofs.Common.{◌≡◌, ℕ, zero, suc, ◌+◌, ◌*◌, ◌<◌, ◌≤◌, Bool, true, false, not, nat_lt, ◌==◌, List, [], ◌∷◌, ◌++◌, length, map, drop, replicate, get_or, Option, None, Some, IsSome, Result, Ok, refl, sym, ◌∙◌, ap, subst, arith, append_assoc, append-nil, length-append}
use Rattle.std.specs.List.{All, slice_get, slice_set, sum_by, count_by, list_any, position, position_or_len}
use Rattle.std.specs.Option.{option_map, option_and_then, is_some, IsSomeAnd, IfSome}
use Rattle.std.proofs.lemmas.Bool.{eqb-true, ltb-true, ltb-false, lt-ltb, le-ltb}
use Rattle.std.proofs.lemmas.List.{length-set, map-set, length-map, length-replicate, get_or-replicate, get_or_past}
use Rattle.std.proofs.lemmas.List.Elements.{All-cons, All-head, All-tail, All-set, All-replicate}
use Rattle.std.proofs.lemmas.List.Sums.{sum_by-cons, sum_by_push, passes_at_first}
use Rattle.std.proofs.lemmas.Option.{slice_get-map, slice_get_within, get_or_from_slice_get}
use Rattle.gaspi_types.specs.Lanes.{is_posted, is_carried, is_failed, is_posted_phase, is_carried_phase, is_user, entry_owed, carried_count, is_awaited, has_awaited, posted_entries}
use Rattle.gaspi_types.specs.Queues.{with_entries, queue_owed}
use Rattle.gaspi_types.specs.Tables.{changed_at}
use Rattle.gaspi_types.specs.declared.entries.Entry.{Entry}
use Rattle.gaspi_types.specs.declared.entries.Kind.{Kind}
use Rattle.gaspi_types.specs.declared.entries.Phase.{Phase}
use Rattle.gaspi_types.specs.declared.entries.Phase.TheVariants.{Posted, Carried, Failed}
use Rattle.gaspi_types.specs.declared.entries.Queue.{Queue}
use Rattle.gaspi_types.specs.declared.replies.Refusal.{Refusal}
use Rattle.gaspi_types.proofs.Items.{sum_by-changed, changed_at-found, set-there, length-changed_at}
use Rattle.post_queue.specs.Kinds.{one_if, progress_of, is_awaited_entry}
use Rattle.post_queue.specs.LaneStates.{LaneValue}
use Rattle.post_queue.specs.Places.{first_posted, first_carried, with_phase}
use Rattle.post_queue.specs.QueueStates.{cleared, cleared_prefix, QueueState, entries_of, queue_of, state_of, IsCounted, IsQueue}
use Rattle.post_queue.specs.LanesStates.{LanesState, queue_in, with_queue, with_posted, IsLanes}
use Rattle.post_queue.specs.Steps.{lane_front_posted, front_posted_in, front_carried_in, lane_head, head_in, wait_in, no_entries, purged_queue}
use Rattle.post_queue.specs.QueueCounts.{counted, total, no_counts, with_entry, without_entry, AreBounded}
use Rattle.post_queue.specs.declared.kinds.PhaseKind.{PhaseKind}
use Rattle.post_queue.specs.declared.kinds.PhaseKind.TheVariants as progress
use Rattle.post_queue.specs.declared.queue_counts.QueueCounts.{QueueCounts}
use Rattle.post_queue.proofs.Counts.{weigh, stepped, stepped-is, total-set, total-bound, total-none, lane-le, any-total, total-same, small-weight, small-owed, total-le, posted-awaited, awaited-same}
use Rattle.post_queue.proofs.Rings.{in_phase}

-- What may come next.

pub record TakeAt (depth : ℕ) (broken : Option ℕ) (lane : List Entry) (P : Entry → Type 0) : Type 0 where
  pub unbroken : broken ≡ None
  pub room : carried_count lane < depth
  pub there : IsSomeAnd (first_posted lane) P

pub take-at : (depth target open_count : ℕ) (broken : Option ℕ) (lanes : List (List Entry)) (lane : List Entry) (P : Entry → Type 0) → slice_get lanes target ≡ Some lane
    → IsSomeAnd (front_posted_in depth target (record { open_count = open_count; broken = broken; lanes = lanes })) P → TakeAt depth broken lane P
take-at depth target open_count (Some rank) lanes lane P at h = absurd h
take-at depth target open_count None lanes lane P at h = go (nat_lt (carried_count lane) depth) refl (subst (λ (o : Option (List Entry)). IsSomeAnd (option_and_then (lane_front_posted depth) o) P) at h)
  where
    go : (t : Bool) → nat_lt (carried_count lane) depth ≡ t → IsSomeAnd (lane_front_posted depth lane) P → TakeAt depth None lane P
    go true is h = record { unbroken = refl; room = ltb-true (carried_count lane) depth is; there = rw is at h }
    go false is h = absurd (rw is at h)

pub put-at : (target open_count : ℕ) (broken : Option ℕ) (lanes : List (List Entry)) (lane : List Entry) → slice_get lanes target ≡ Some lane
    → IsSome (front_carried_in target (record { open_count = open_count; broken = broken; lanes = lanes })) → (broken ≡ None) × IsSome (first_carried lane)
put-at target open_count (Some rank) lanes lane at h = absurd (let no : ⊥ = cc in no)
put-at target open_count None lanes lane at h = (refl, subst (λ (o : Option (List Entry)). IsSome (option_and_then first_carried o)) at h)

pub take-there : (o : Option Entry) → IsSome o → IsSomeAnd o (λ (e : Entry). Unit {0})
take-there (Some x) h = tt
take-there None h = absurd (let no : ⊥ = cc in no)

pub some-of : (o : Option Entry) → IsSome o → (e : Entry) × (o ≡ Some e)
some-of (Some x) h = (x, refl)
some-of None h = absurd (let no : ⊥ = cc in no)

-- what the first posted entry and the first carried one are
pub passes-at : (p : Entry → Bool) (lane : List Entry) (e : Entry) → slice_get lane (position_or_len p lane) ≡ Some e → p e ≡ true
passes-at p lane e at =
    let less = slice_get_within lane (position_or_len p lane) e at in
    subst (λ (x : Entry). p x ≡ true) (get_or_from_slice_get lane (position_or_len p lane) e e at) (passes_at_first p lane e less)

pub posted-progress : (lane : List Entry) (e : Entry) → first_posted lane ≡ Some e → progress_of e.phase ≡ progress.Posted
posted-progress lane e at = go e.phase (passes-at is_posted lane e at)
  where
    go : (phase : Phase) → is_posted_phase phase ≡ true → progress_of phase ≡ progress.Posted
    go Posted h = refl
    go (Carried bytes) h = absurd (let no : ⊥ = cc in no)
    go Failed h = absurd (let no : ⊥ = cc in no)

pub carried-progress : (lane : List Entry) (e : Entry) → first_carried lane ≡ Some e → progress_of e.phase ≡ progress.Carried
carried-progress lane e at = go e.phase (passes-at is_carried lane e at)
  where
    go : (phase : Phase) → is_carried_phase phase ≡ true → progress_of phase ≡ progress.Carried
    go Posted h = absurd (let no : ⊥ = cc in no)
    go (Carried bytes) h = refl
    go Failed h = absurd (let no : ⊥ = cc in no)

-- Lanes with their room, and as lists of entries.

pub lane-at : (lanes : List LaneValue) (target : ℕ) (x : LaneValue) → slice_get lanes target ≡ Some x → slice_get (map entries_of lanes) target ≡ Some x.entries
lane-at lanes target x at = slice_get-map entries_of lanes target ∙ ap (option_map entries_of) at

lanes-changed : (lanes : List LaneValue) (target : ℕ) (x y : LaneValue) (change : List Entry → List Entry) → slice_get lanes target ≡ Some x → y.entries ≡ change x.entries
    → map entries_of (slice_set lanes target y) ≡ changed_at (map entries_of lanes) target change
lanes-changed lanes target x y change at new =
    map-set entries_of lanes target y
    ∙ (ap (λ (es : List Entry). slice_set (map entries_of lanes) target es) new
    ∙ sym (changed_at-found (map entries_of lanes) target x.entries change (lane-at lanes target x at)))

-- the state with other lanes
abbrev pub laned : ℕ → ℕ → Option ℕ → List (List Entry) → QueueState
laned depth open_count broken lanes = state_of depth (record { open_count = open_count; broken = broken; lanes = lanes })

pub state-changed : (depth open_count : ℕ) (broken : Option ℕ) (lanes : List LaneValue) (place target : ℕ) (x y : LaneValue) (change : List Entry → List Entry) → place ≡ target → slice_get lanes place ≡ Some x → y.entries ≡ change x.entries
    → laned depth open_count broken (map entries_of (slice_set lanes place y)) ≡ laned depth open_count broken (changed_at (map entries_of lanes) target change)
state-changed depth open_count broken lanes place target x y change same at new =
    ap (λ (ls : List (List Entry)). laned depth open_count broken ls) (rw (← same) (lanes-changed lanes place x y change at new))

-- a lane that the code holds, and what may come next in it
pub taking : (depth open_count : ℕ) (broken : Option ℕ) (lanes : List LaneValue) (place target : ℕ) (x : LaneValue) (s : QueueState) (P : Entry → Type 0) → place ≡ target → slice_get lanes place ≡ Some x
    → state_of depth (queue_of open_count broken lanes) ≡ s → IsSomeAnd (front_posted_in s.depth target s.queue) P → TakeAt depth broken x.entries P
taking depth open_count broken lanes place target x s P same at is h =
    take-at depth target open_count broken (map entries_of lanes) x.entries P (rw (← same) (lane-at lanes place x at))
    (subst (λ (s : QueueState). IsSomeAnd (front_posted_in s.depth target s.queue) P) (sym is) h)

pub putting : (depth open_count : ℕ) (broken : Option ℕ) (lanes : List LaneValue) (place target : ℕ) (x : LaneValue) (s : QueueState) → place ≡ target → slice_get lanes place ≡ Some x
    → state_of depth (queue_of open_count broken lanes) ≡ s → IsSome (front_carried_in target s.queue) → (broken ≡ None) × IsSome (first_carried x.entries)
putting depth open_count broken lanes place target x s same at is h =
    put-at target open_count broken (map entries_of lanes) x.entries (rw (← same) (lane-at lanes place x at))
    (subst (λ (s : QueueState). IsSome (front_carried_in target s.queue)) (sym is) h)

pub at-if : (P : Entry → Type 0) (o : Option Entry) (x : Entry) → o ≡ Some x → IfSome o P → P x
at-if P o x is h = let at = subst (λ (o : Option Entry). IfSome o P) is h in at

all-at : {A : Type 0} (P : A → Type 0) (xs : List A) (i : ℕ) (x : A) → slice_get xs i ≡ Some x → All P xs → P x
all-at P xs i x at all = subst P (get_or_from_slice_get xs i x x at) (all i x (slice_get_within xs i x at))

pub room-at : {depth open_count : ℕ} {broken : Option ℕ} {t : QueueCounts} (lanes : List LaneValue) (target : ℕ) (x : LaneValue) → IsQueue depth open_count broken lanes t → slice_get lanes target ≡ Some x → x.depth ≡ depth
room-at {depth} lanes target x inv at = all-at (λ (lane : LaneValue). lane.depth ≡ depth) lanes target x at inv.rooms

pub whole-at : {depth open_count : ℕ} {broken : Option ℕ} {t : QueueCounts} (lanes : List LaneValue) (target : ℕ) (x : LaneValue) → IsQueue depth open_count broken lanes t → broken ≡ None → slice_get lanes target ≡ Some x → count_by is_failed x.entries ≡ 0
whole-at lanes target x inv unbroken at =
    let none = inv.counts.whole unbroken in
    let le = lane-le (counted is_failed) (map entries_of lanes) target x.entries (lane-at lanes target x at) in
    omega arith

pub posted-at : {depth open_count : ℕ} {broken : Option ℕ} {t : QueueCounts} (lanes : List LaneValue) (target : ℕ) (x : LaneValue) → IsQueue depth open_count broken lanes t → slice_get lanes target ≡ Some x → count_by is_posted x.entries ≤ open_count
posted-at lanes target x inv at =
    let posted = inv.counts.posted in
    let le = lane-le (counted is_posted) (map entries_of lanes) target x.entries (lane-at lanes target x at) in
    omega arith

-- the counts are small
pub small-tally : {depth open_count : ℕ} {broken : Option ℕ} {lanes : List LaneValue} {t : QueueCounts} → IsQueue depth open_count broken lanes t → AreBounded t
small-tally {depth} {open_count} {broken} {lanes} {t} inv =
    let counts = inv.counts in
    record {
      awaited = (let bound = total-bound (counted is_awaited_entry) (map entries_of lanes) (small-weight is_awaited_entry) counts.few counts.short in let is = counts.tally.awaited in omega arith);
      owed = (let bound = total-bound entry_owed (map entries_of lanes) small-owed counts.few counts.short in let is = counts.tally.owed in omega arith);
      users = λ segment. user segment (nat_lt segment 32) refl;
    }
  where
    user : (segment : ℕ) (b : Bool) → nat_lt segment 32 ≡ b → get_or t.users segment 0 ≤ 65535
    user segment true less =
        let counts = inv.counts in
        let bound = total-bound (counted (is_user segment)) (map entries_of lanes) (small-weight (is_user segment)) counts.few counts.short in
        let is = counts.tally.users segment (ltb-true segment 32 less) in
        omega arith
    user segment false past =
        let size = inv.counts.tally.size in
        let over = ltb-false segment 32 past in
        let read = get_or_past t.users segment 0 (omega arith) in
        omega arith

-- One step of one lane.
pub queue-step : {depth open_count : ℕ} {broken : Option ℕ} {t : QueueCounts} (lanes : List LaneValue) (open' : ℕ) (broken' : Option ℕ) (target : ℕ) (x y : LaneValue) (before after : Option Entry) (t' : QueueCounts)
    → IsQueue depth open_count broken lanes t → slice_get lanes target ≡ Some x → y.depth ≡ x.depth → length y.entries ≤ 2 * y.depth
    → ((f : Entry → ℕ) → sum_by f y.entries + weigh f before ≡ sum_by f x.entries + weigh f after)
    → t' ≡ stepped t before after → open' ≤ depth
    → open_count + weigh (counted is_posted) after ≤ open' + weigh (counted is_posted) before
    → (broken' ≡ None → (broken ≡ None) × (weigh (counted is_failed) after ≡ 0))
    → IsQueue depth open' broken' (slice_set lanes target y) t'
queue-step {depth} {open_count} {broken} {t} lanes open' broken' target x y before after t' inv at deep long moved tally within posted whole =
    let room = room-at lanes target x inv at in
    let same = map-set entries_of lanes target y in
    record {
      rooms = All-set (λ (lane : LaneValue). lane.depth ≡ depth) lanes target y (deep ∙ room) inv.rooms;
      counts = record {
        deep = inv.counts.deep;
        few = rw (same, length-set (map entries_of lanes) target y.entries) inv.counts.few;
        short = rw same (All-set (λ (lane : List Entry). length lane ≤ 512) (map entries_of lanes) target y.entries (let d = inv.counts.deep in omega arith) inv.counts.short);
        posted = rw same (let here = sums (counted is_posted) in let was = inv.counts.posted in omega arith);
        within = within;
        whole = λ unbroken. rw same (let parts = whole unbroken in let none = inv.counts.whole parts.0 in let zero' = parts.1 in let here = sums (counted is_failed) in omega arith);
        tally = rw (same, tally) (stepped-is t (λ (f : Entry → ℕ). total f (map entries_of lanes)) (λ (f : Entry → ℕ). total f (slice_set (map entries_of lanes) target y.entries)) before after inv.counts.tally sums);
      };
    }
  where
    sums : (f : Entry → ℕ) → total f (slice_set (map entries_of lanes) target y.entries) + weigh f before ≡ total f (map entries_of lanes) + weigh f after
    sums f =
        let lane = moved f in
        let all = total-set f (map entries_of lanes) target x.entries y.entries (lane-at lanes target x at) in
        omega arith

-- an entry in another phase
pub phase-moved : (lane : List Entry) (place : ℕ) (e : Entry) (phase : Phase) → slice_get lane place ≡ Some e → (f : Entry → ℕ) → sum_by f (with_phase lane place phase) + f e ≡ sum_by f lane + f (in_phase e phase)
phase-moved lane place e phase at f =
    rw (changed_at-found lane place e (λ (e : Entry). in_phase e phase) at) (sum_by-changed f lane place e (in_phase e phase) at)

pub phase-step : {depth open_count : ℕ} {broken : Option ℕ} {t : QueueCounts} (lanes : List LaneValue) (broken' : Option ℕ) (target : ℕ) (x y : LaneValue) (place : ℕ) (e : Entry) (phase : Phase) (kind : Kind) (was : PhaseKind) (t1 t2 : QueueCounts)
    → IsQueue depth open_count broken lanes t → slice_get lanes target ≡ Some x → slice_get x.entries place ≡ Some e → progress_of e.phase ≡ was → kind ≡ e.kind
    → y ≡ record { depth = x.depth; entries = with_phase x.entries place phase } → length y.entries ≤ 2 * y.depth
    → t1 ≡ with_entry t kind (progress_of phase) → t2 ≡ without_entry t1 kind was
    → counted is_posted (in_phase e phase) ≡ 0 → (broken' ≡ None → (broken ≡ None) × (counted is_failed (in_phase e phase) ≡ 0))
    → IsQueue depth open_count broken' (slice_set lanes target y) t2
phase-step {depth} {open_count} {broken} {t} lanes broken' target x y place e phase kind was t1 t2 inv at there progress kinds new long one two unposted whole =
    queue-step lanes open_count broken' target x y (Some e) (Some (in_phase e phase)) t2 inv at (ap (λ (l : LaneValue). l.depth) new) long
    (λ f. rw (ap (λ (l : LaneValue). l.entries) new) (phase-moved x.entries place e phase there f))
    (two ∙ rw (one, kinds, ← progress) refl)
    inv.counts.within (omega arith) whole

-- the head goes
pub head-moved : (lane : List Entry) (e : Entry) → slice_get lane 0 ≡ Some e → (f : Entry → ℕ) → sum_by f (drop 1 lane) + f e ≡ sum_by f lane
head-moved [] e at f = absurd (let no : ⊥ = cc in no)
head-moved (x ∷ lane) e at f =
    let same : x ≡ e = cc in
    let step = sum_by-cons f x lane in
    rw (← same) (omega arith)

pub unposted-at : (lane : List Entry) (e : Entry) → first_carried lane ≡ Some e → counted is_posted e ≡ 0
unposted-at lane e at = go e.phase (passes-at is_carried lane e at)
  where
    go : (phase : Phase) → is_carried_phase phase ≡ true → one_if (is_posted_phase phase) ≡ 0
    go Posted h = absurd (let no : ⊥ = cc in no)
    go (Carried bytes) h = refl
    go Failed h = refl

pub head-step : {depth open_count : ℕ} {broken : Option ℕ} {t : QueueCounts} (lanes : List LaneValue) (target : ℕ) (x y : LaneValue) (e : Entry) (kind : Kind) (was : PhaseKind) (t' : QueueCounts)
    → IsQueue depth open_count broken lanes t → slice_get lanes target ≡ Some x → slice_get x.entries 0 ≡ Some e → progress_of e.phase ≡ was → kind ≡ e.kind
    → broken ≡ None → counted is_posted e ≡ 0
    → y ≡ record { depth = x.depth; entries = drop 1 x.entries } → length y.entries ≤ 2 * y.depth
    → t' ≡ without_entry t kind was
    → IsQueue depth open_count broken (slice_set lanes target y) t'
head-step {depth} {open_count} {broken} {t} lanes target x y e kind was t' inv at there progress kinds unbroken unposted new long lower =
    queue-step lanes open_count broken target x y (Some e) None t' inv at (ap (λ (l : LaneValue). l.depth) new) long
    (λ f. rw (ap (λ (l : LaneValue). l.entries) new) (head-moved x.entries e there f ∙ omega arith))
    (lower ∙ rw (kinds, ← progress) refl)
    inv.counts.within (omega arith) (λ same. (same, refl))

-- an entry comes to the end of a lane
pub post-step : {depth open_count : ℕ} {broken : Option ℕ} {t : QueueCounts} (lanes : List LaneValue) (target : ℕ) (x y : LaneValue) (number : ℕ) (kind : Kind) (t' : QueueCounts)
    → IsQueue depth open_count broken lanes t → slice_get lanes target ≡ Some x → open_count < depth
    → y ≡ record { depth = x.depth; entries = x.entries ++ record { number = number; kind = kind; phase = Posted } ∷ [] } → length y.entries ≤ 2 * y.depth
    → t' ≡ with_entry t kind progress.Posted
    → IsQueue depth (open_count + 1) broken (slice_set lanes target y) t'
post-step {depth} {open_count} {broken} {t} lanes target x y number kind t' inv at room new long raise =
    queue-step lanes (open_count + 1) broken target x y None (Some (record { number = number; kind = kind; phase = Posted })) t' inv at (ap (λ (l : LaneValue). l.depth) new) long
    (λ f. rw (ap (λ (l : LaneValue). l.entries) new) (let step = sum_by_push f x.entries (record { number = number; kind = kind; phase = Posted }) in omega arith))
    raise (omega arith) (omega arith) (λ same. (same, refl))

-- what a queue's functions read
pub not-broken : (o : Option ℕ) → is_some o ≡ false → o ≡ None
not-broken None h = refl
not-broken (Some x) h = absurd (let no : ⊥ = cc in no)

pub take-read : (depth target open_count : ℕ) (lanes : List (List Entry)) (lane : List Entry) → slice_get lanes target ≡ Some lane → carried_count lane < depth
    → front_posted_in depth target (record { open_count = open_count; broken = None; lanes = lanes }) ≡ first_posted lane
take-read depth target open_count lanes lane at room = rw (at, lt-ltb (carried_count lane) depth room) refl

pub take-none : (depth target open_count : ℕ) (lanes : List (List Entry)) (lane : List Entry) → slice_get lanes target ≡ Some lane → depth ≤ carried_count lane
    → front_posted_in depth target (record { open_count = open_count; broken = None; lanes = lanes }) ≡ None
take-none depth target open_count lanes lane at full = rw (at, le-ltb (carried_count lane) depth full) refl

pub put-read : (target open_count : ℕ) (lanes : List (List Entry)) (lane : List Entry) → slice_get lanes target ≡ Some lane
    → front_carried_in target (record { open_count = open_count; broken = None; lanes = lanes }) ≡ first_carried lane
put-read target open_count lanes lane at = rw at refl

-- a queue with no entry
pub empty-counts : (depth n : ℕ) → depth ≤ 256 → n ≤ 16 → IsCounted depth (record { open_count = 0; broken = None; lanes = replicate n [] }) no_counts
empty-counts depth n deep few =
    let none = λ (f : Entry → ℕ). total-none f n in
    record {
      deep = deep;
      few = rw length-replicate few;
      short = All-replicate (λ (lane : List Entry). length lane ≤ 512) n [] (omega arith);
      posted = (let here = total-none (counted is_posted) n in omega arith);
      within = omega arith;
      whole = λ unbroken. total-none (counted is_failed) n;
      tally = record {
        awaited = sym (total-none (counted is_awaited_entry) n);
        owed = sym (total-none entry_owed n);
        size = refl;
        users = λ segment less. get_or-replicate 32 segment 0 0 less ∙ sym (total-none (counted (is_user segment)) n);
      };
    }

-- a wait that is ready leaves no posted entry
pub wait-none : (open_count : ℕ) (broken : Option ℕ) (lanes : List (List Entry)) → wait_in (record { open_count = open_count; broken = broken; lanes = lanes }) ≡ Ok true → total (counted is_posted) lanes ≡ 0
wait-none open_count (Some rank) lanes h = absurd (let no : ⊥ = cc in no)
wait-none open_count None lanes h =
    let ready : not (list_any has_awaited lanes) ≡ true = cc in
    let none = zero-from (total (counted is_awaited) lanes) (rw (any-total is_awaited lanes) at ready) in
    let less = total-le (counted is_posted) (counted is_awaited) posted-awaited lanes in
    omega arith
  where
    zero-from : (n : ℕ) → not (not (n == 0)) ≡ true → n ≡ 0
    zero-from n h = go (n == 0) refl
      where
        go : (t : Bool) → (n == 0) ≡ t → n ≡ 0
        go true is = eqb-true n 0 is
        go false is = absurd (let same : not (not false) ≡ true = rw is at h in let no : ⊥ = cc in no)

pub wait-read : (awaited : ℕ) (lanes : List (List Entry)) → awaited ≡ total (counted is_awaited_entry) lanes → (awaited == 0) ≡ not (list_any has_awaited lanes)
wait-read awaited lanes is =
    let same = total-same (counted is_awaited_entry) (counted is_awaited) (λ e. ap one_if (awaited-same e)) lanes in
    rw (any-total is_awaited lanes, is, same) (sym (twice (total (counted is_awaited) lanes == 0)))
  where
    twice : (t : Bool) → not (not t) ≡ t
    twice true = refl
    twice false = refl

pub wait-ready : (depth open_count awaited : ℕ) (broken : Option ℕ) (lanes : List (List Entry)) (s : QueueState) → broken ≡ None → awaited ≡ total (counted is_awaited_entry) lanes
    → state_of depth (record { open_count = open_count; broken = broken; lanes = lanes }) ≡ s → ◌≡◌ {A = Result Bool Refusal} (Ok (awaited == 0)) (wait_in s.queue)
wait-ready depth open_count awaited broken lanes s none is same = rw (← same) (rw none (ap (λ (b : Bool). Ok b) (wait-read awaited lanes is)))

-- Reads of a lane that the code holds.

pub taken-read : (depth open_count : ℕ) (broken : Option ℕ) (lanes : List LaneValue) (place target : ℕ) (x : LaneValue) (s : QueueState) → place ≡ target → slice_get lanes place ≡ Some x → broken ≡ None
    → state_of depth (queue_of open_count broken lanes) ≡ s → carried_count x.entries < depth → first_posted x.entries ≡ front_posted_in s.depth target s.queue
taken-read depth open_count broken lanes place target x s same at none is room =
    rw (← is) (rw none (sym (take-read depth target open_count (map entries_of lanes) x.entries (rw (← same) (lane-at lanes place x at)) room)))

pub taken-none : (depth open_count : ℕ) (broken : Option ℕ) (lanes : List LaneValue) (place target : ℕ) (x : LaneValue) (s : QueueState) → place ≡ target → slice_get lanes place ≡ Some x → broken ≡ None
    → state_of depth (queue_of open_count broken lanes) ≡ s → depth ≤ carried_count x.entries → None ≡ front_posted_in s.depth target s.queue
taken-none depth open_count broken lanes place target x s same at none is full =
    rw (← is) (rw none (sym (take-none depth target open_count (map entries_of lanes) x.entries (rw (← same) (lane-at lanes place x at)) full)))

pub put-reads : (depth open_count : ℕ) (broken : Option ℕ) (lanes : List LaneValue) (place target : ℕ) (x : LaneValue) (s : QueueState) → place ≡ target → slice_get lanes place ≡ Some x → broken ≡ None
    → state_of depth (queue_of open_count broken lanes) ≡ s → first_carried x.entries ≡ front_carried_in target s.queue
put-reads depth open_count broken lanes place target x s same at none is =
    rw (← is) (rw none (sym (put-read target open_count (map entries_of lanes) x.entries (rw (← same) (lane-at lanes place x at)))))

pub head-read : (depth open_count : ℕ) (broken : Option ℕ) (lanes : List LaneValue) (place target : ℕ) (x : LaneValue) (s : QueueState) → place ≡ target → slice_get lanes place ≡ Some x
    → state_of depth (queue_of open_count broken lanes) ≡ s → head_in target s.queue ≡ slice_get x.entries 0
head-read depth open_count broken lanes place target x s same at is =
    let there : slice_get (map entries_of lanes) target ≡ Some x.entries = rw (← same) (lane-at lanes place x at) in
    rw (← is) (ap (λ (o : Option (List Entry)). option_and_then lane_head o) there)

-- Lanes whose entries go, one after another.

pub cleared-length : (n : ℕ) (lanes : List LaneValue) → length (cleared_prefix n lanes) ≡ length lanes
cleared-length zero lanes = refl
cleared-length (suc n) [] = refl
cleared-length (suc n) (x ∷ lanes) = ap (λ (m : ℕ). suc m) (cleared-length n lanes)

pub cleared-more : (n : ℕ) (lanes : List LaneValue) (x : LaneValue) → slice_get (cleared_prefix n lanes) n ≡ Some x → slice_set (cleared_prefix n lanes) n (cleared x) ≡ cleared_prefix (suc n) lanes
cleared-more zero [] x at = refl
cleared-more zero (y ∷ lanes) x at = let same : y ≡ x = cc in rw same refl
cleared-more (suc n) [] x at = refl
cleared-more (suc n) (y ∷ lanes) x at = ap (λ (rest : List LaneValue). cleared y ∷ rest) (cleared-more n lanes x at)

pub cleared-all : (lanes : List LaneValue) → map entries_of (cleared_prefix (length lanes) lanes) ≡ replicate (length lanes) []
cleared-all [] = refl
cleared-all (x ∷ lanes) = ap (λ (rest : List (List Entry)). [] ∷ rest) (cleared-all lanes)

pub cleared-rooms : (P : LaneValue → Type 0) (n : ℕ) (lanes : List LaneValue) → ((x : LaneValue) → P x → P (cleared x)) → All P lanes → All P (cleared_prefix n lanes)
cleared-rooms P zero lanes kept all = all
cleared-rooms P (suc n) [] kept all = all
cleared-rooms P (suc n) (x ∷ lanes) kept all =
    All-cons P (cleared x) (cleared_prefix n lanes) (kept x (All-head P x lanes all)) (cleared-rooms P n lanes kept (All-tail P x lanes all))

pub emptied : (lanes : List (List Entry)) → map no_entries lanes ≡ replicate (length lanes) []
emptied [] = refl
emptied (x ∷ lanes) = ap (λ (rest : List (List Entry)). [] ∷ rest) (emptied lanes)

-- empty lanes
pub fresh : (n depth : ℕ) → map entries_of (replicate n (record { depth = depth; entries = [] })) ≡ replicate n []
fresh zero depth = refl
fresh (suc n) depth = ap (λ (rest : List (List Entry)). [] ∷ rest) (fresh n depth)

pub purged-queue : {depth open_count : ℕ} {broken : Option ℕ} {t : QueueCounts} (lanes lanes' : List LaneValue) (t' : QueueCounts) → IsQueue depth open_count broken lanes t → lanes' ≡ cleared_prefix (length lanes) lanes → t' ≡ no_counts
    → IsQueue depth 0 None lanes' t'
purged-queue {depth} lanes lanes' t' inv is none = rw (is, none) (record {
  rooms = cleared-rooms (λ (lane : LaneValue). lane.depth ≡ depth) (length lanes) lanes (λ x same. same) inv.rooms;
  counts = rw cleared-all (empty-counts depth (length lanes) inv.counts.deep (rw length-map at inv.counts.few));
})

pub purged-state : (depth open_count : ℕ) (broken : Option ℕ) (lanes lanes' : List LaneValue) (s : QueueState) → state_of depth (queue_of open_count broken lanes) ≡ s → lanes' ≡ cleared_prefix (length lanes) lanes
    → state_of depth (queue_of 0 None lanes') ≡ state_of s.depth (purged_queue s.queue)
purged-state depth open_count broken lanes lanes' s same is =
    rw (← same) (ap (λ (ls : List (List Entry)). laned depth 0 None ls) (rw is (cleared-all lanes ∙ (ap (λ (n : ℕ). replicate n []) (sym (length-map lanes entries_of)) ∙ sym (emptied (map entries_of lanes))))))

pub new-queue : (depth n : ℕ) (lanes : List LaneValue) (t : QueueCounts) → depth ≤ 256 → n ≤ 16 → lanes ≡ replicate n (record { depth = depth; entries = [] }) → t ≡ no_counts → IsQueue depth 0 None lanes t
new-queue depth n lanes t deep few is none = rw (is, none) (record {
  rooms = All-replicate (λ (lane : LaneValue). lane.depth ≡ depth) n (record { depth = depth; entries = [] }) refl;
  counts = rw fresh (empty-counts depth n deep few);
})

-- Entries that come one after another.

with-none : (target : ℕ) (q : Queue) → with_entries target [] q ≡ q
with-none target q = go (slice_get q.lanes target) refl
  where
    lanes : changed_at q.lanes target (λ (lane : List Entry). lane ++ []) ≡ q.lanes → with_entries target [] q ≡ q
    lanes same = rw same (ap (λ (n : ℕ). record { open_count = n; broken = q.broken; lanes = q.lanes }) (omega arith))

    go : (o : Option (List Entry)) → slice_get q.lanes target ≡ o → with_entries target [] q ≡ q
    go None at = lanes (rw at refl)
    go (Some lane) at = lanes (changed_at-found q.lanes target lane (λ (lane : List Entry). lane ++ []) at ∙ set-there q.lanes target (lane ++ []) (at ∙ ap (λ (es : List Entry). Some es) (sym (append-nil lane))))

changed-behind : (x : List Entry) (lanes : List (List Entry)) (target : ℕ) (change : List Entry → List Entry) → changed_at (x ∷ lanes) (suc target) change ≡ x ∷ changed_at lanes target change
changed-behind x lanes target change = go (slice_get lanes target) refl
  where
    go : (o : Option (List Entry)) → slice_get lanes target ≡ o → changed_at (x ∷ lanes) (suc target) change ≡ x ∷ changed_at lanes target change
    go None at = rw at refl
    go (Some lane) at = rw at refl

twice-changed : (lanes : List (List Entry)) (target : ℕ) (a b : List Entry)
    → changed_at (changed_at lanes target (λ (lane : List Entry). lane ++ a)) target (λ (lane : List Entry). lane ++ b) ≡ changed_at lanes target (λ (lane : List Entry). lane ++ (a ++ b))
twice-changed [] zero a b = refl
twice-changed [] (suc target) a b = refl
twice-changed (x ∷ lanes) zero a b = ap (λ (lane : List Entry). lane ∷ lanes) (append_assoc x a b)
twice-changed (x ∷ lanes) (suc target) a b =
    ap (λ (ls : List (List Entry)). changed_at ls (suc target) (λ (lane : List Entry). lane ++ b)) (changed-behind x lanes target (λ (lane : List Entry). lane ++ a))
    ∙ (changed-behind x (changed_at lanes target (λ (lane : List Entry). lane ++ a)) target (λ (lane : List Entry). lane ++ b)
    ∙ (ap (λ (ls : List (List Entry)). x ∷ ls) (twice-changed lanes target a b)
    ∙ sym (changed-behind x lanes target (λ (lane : List Entry). lane ++ (a ++ b)))))

with-more : (target : ℕ) (a b : List Entry) (q : Queue) → with_entries target b (with_entries target a q) ≡ with_entries target (a ++ b) q
with-more target a b q =
    let long = length-append a b in
    parts (q.open_count + length a + length b) (q.open_count + length (a ++ b)) _ _ (omega arith) (twice-changed q.lanes target a b)
  where
    parts : (m n : ℕ) (ls ms : List (List Entry)) → m ≡ n → ls ≡ ms → ◌≡◌ {A = Queue} (record { open_count = m; broken = q.broken; lanes = ls }) (record { open_count = n; broken = q.broken; lanes = ms })
    parts m n ls ms same alike = rw (same, alike) refl

-- the first of some entries, taken out
pub one-taken : (entries rest : List Kind) (kind : Kind) → Some kind ≡ slice_get entries 0 → rest ≡ drop 1 entries → entries ≡ kind ∷ rest
one-taken [] rest kind first is = absurd (let no : ⊥ = cc in no)
one-taken (x ∷ entries) rest kind first is = cc

-- the first entry is posted, and then those behind it
pub next-posted : (now after : QueueState) (target number : ℕ) (entries rest : List Kind) (kind : Kind) → entries ≡ kind ∷ rest → after ≡ state_of now.depth (with_entries target (posted_entries number (kind ∷ [])) now.queue)
    → state_of after.depth (with_entries target (posted_entries (number + 1) rest) after.queue) ≡ state_of now.depth (with_entries target (posted_entries number entries) now.queue)
next-posted now after target number entries rest kind all is =
    rw (is, all) (ap (λ (q : Queue). state_of now.depth q) (with-more target (posted_entries number (kind ∷ [])) (posted_entries (number + 1) rest) now.queue))

pub same-targets : (now after : QueueState) (target : ℕ) (entries : List Entry) → after ≡ state_of now.depth (with_entries target entries now.queue) → length after.queue.lanes ≡ length now.queue.lanes
same-targets now after target entries is =
    ap (λ (s : QueueState). length s.queue.lanes) is ∙ length-changed_at now.queue.lanes target (λ (lane : List Entry). lane ++ entries)

-- no entry is left to be posted
pub all-posted : (now done : QueueState) (target number : ℕ) (entries : List Kind) → None ≡ slice_get entries 0 → state_of now.depth (with_entries target (posted_entries number entries) now.queue) ≡ done → now ≡ done
all-posted now done target number [] none is = ap (λ (q : Queue). state_of now.depth q) (sym (with-none target now.queue)) ∙ is
all-posted now done target number (x ∷ entries) none is = absurd (let no : ⊥ = cc in no)

-- Queues with their depths, and as the machine has them.

changed-queues : (queues : List QueueState) (place : ℕ) (x y : QueueState) (change : Queue → Queue) → slice_get queues place ≡ Some x → y ≡ state_of x.depth (change x.queue)
    → map queue_in (slice_set queues place y) ≡ changed_at (map queue_in queues) place change
changed-queues queues place x y change at new =
    map-set queue_in queues place y
    ∙ (ap (λ (q : QueueState). slice_set (map queue_in queues) place q.queue) new
    ∙ sym (changed_at-found (map queue_in queues) place x.queue change (slice_get-map queue_in queues place ∙ ap (option_map queue_in) at)))

pub queues-changed : (depth ranks next : ℕ) (queues : List QueueState) (place : ℕ) (x y : QueueState) (s : LanesState) (change : Queue → Queue) → slice_get queues place ≡ Some x → y ≡ state_of x.depth (change x.queue)
    → record { depth = depth; ranks = ranks; next = next; queues = map queue_in queues } ≡ s
    → record { depth = depth; ranks = ranks; next = next; queues = map queue_in (slice_set queues place y) } ≡ with_queue s place change
queues-changed depth ranks next queues place x y s change at new is =
    rw (← is) (rw (changed-queues queues place x y change at new) refl)

pub queues-posted : (depth ranks next n : ℕ) (queues : List QueueState) (place target : ℕ) (x y : QueueState) (s : LanesState) (kinds : List Kind) → slice_get queues place ≡ Some x → y ≡ state_of x.depth (with_entries target (posted_entries next kinds) x.queue)
    → n ≡ next + length kinds
    → record { depth = depth; ranks = ranks; next = next; queues = map queue_in queues } ≡ s
    → record { depth = depth; ranks = ranks; next = n; queues = map queue_in (slice_set queues place y) } ≡ with_posted s place target kinds
queues-posted depth ranks next n queues place target x y s kinds at new count is =
    rw (← is) (rw (changed-queues queues place x y (with_entries target (posted_entries next kinds)) at new, count) refl)

pub position-map : (p : Queue → Bool) (queues : List QueueState) → position p (map queue_in queues) ≡ position (λ (q : QueueState). p q.queue) queues
position-map p queues = rw (length-map, first queues) refl
  where
    first : (queues : List QueueState) → position_or_len p (map queue_in queues) ≡ position_or_len (λ (q : QueueState). p q.queue) queues
    first [] = refl
    first (x ∷ queues) = go (p x.queue) refl (first queues)
      where
        go : (t : Bool) → p x.queue ≡ t → position_or_len p (map queue_in queues) ≡ position_or_len (λ (q : QueueState). p q.queue) queues → position_or_len p (map queue_in (x ∷ queues)) ≡ position_or_len (λ (q : QueueState). p q.queue) (x ∷ queues)
        go t is rest = rw (is, rest) refl

pub queues-alike : (depth ranks : ℕ) (queues : List QueueState) (place : ℕ) (x y : QueueState) → IsLanes depth ranks queues → slice_get queues place ≡ Some x → y.depth ≡ x.depth → length y.queue.lanes ≡ length x.queue.lanes
    → IsLanes depth ranks (slice_set queues place y)
queues-alike depth ranks queues place x y inv at deep wide = record {
  deep = inv.deep;
  few = rw length-set inv.few;
  depths = All-set (λ (q : QueueState). q.depth ≡ depth) queues place y (deep ∙ all-at (λ (q : QueueState). q.depth ≡ depth) queues place x at inv.depths) inv.depths;
  lanes = All-set (λ (q : QueueState). length q.queue.lanes ≡ ranks) queues place y (wide ∙ all-at (λ (q : QueueState). length q.queue.lanes ≡ ranks) queues place x at inv.lanes) inv.lanes;
}

pub fresh-queues : (n : ℕ) (q : QueueState) → map queue_in (replicate n q) ≡ replicate n q.queue
fresh-queues zero q = refl
fresh-queues (suc n) q = ap (λ (rest : List Queue). q.queue ∷ rest) (fresh-queues n q)

pub owed-sum : (queues : List QueueState) → sum_by queue_owed (map queue_in queues) ≡ sum_by (λ (q : QueueState). queue_owed q.queue) queues
owed-sum [] = refl
owed-sum (x ∷ queues) =
    let rest = owed-sum queues in
    let a = sum_by-cons queue_owed x.queue (map queue_in queues) in
    let b = sum_by-cons (λ (q : QueueState). queue_owed q.queue) x queues in
    omega arith
