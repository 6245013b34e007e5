-- What a step does to the room that a rank has taken.
use Rattle.std.proofs.Common.{◌≡◌, ℕ, ◌+◌, ◌*◌, ◌≤◌, true, false, List, [], ◌∷◌, length, Option, None, Some, Result, Ok, refl, sym, ◌∙◌, subst, arith, nat_lt, nat_le}
use Rattle.std.specs.List.{slice_get, slice_set, sum_by, remove}
use Rattle.std.proofs.lemmas.List.Sums.{sum_by-remove, sum_by-cons}
use Rattle.std.proofs.lemmas.Option.{slice_get_within, get_or_from_slice_get}
use Rattle.gaspi_types.specs.Lanes.{lane_owed, entry_owed, phase_owed, posted_entries, is_posted, is_posted_phase, is_carried, is_carried_phase}
use Rattle.gaspi_types.specs.declared.entries.Entry.{Entry}
use Rattle.gaspi_types.specs.declared.entries.Kind.{Kind}
use Rattle.gaspi_types.specs.declared.entries.Phase.{Phase}
use Rattle.gaspi_types.specs.declared.entries.Phase.TheVariants as phases
use Rattle.gaspi_types.specs.CallRows.{row_of, is_end, entries_of}
use Rattle.gaspi_types.specs.declared.call_rows.Posting.{Posting}
use Rattle.gaspi_types.specs.declared.calls.Call.{Call}
use Rattle.gaspi_types.specs.declared.calls.Call.TheVariants.{Write, Read, Notify, WriteNotify, ReadNotify, WriteList, WriteListNotify, ReadList, ReadListNotify, End}
use Rattle.gaspi_types.specs.declared.shapes.Limits.{Limits}
use Rattle.gaspi_model.specs.Calls.{requested_kinds}
use Rattle.gaspi_types.specs.declared.events.Outcome.{Outcome}
use Rattle.gaspi_types.specs.declared.events.Outcome.TheVariants.{Applied, Failed}
use Rattle.gaspi_model.specs.State.{owed}
use Rattle.gaspi_types.specs.Queues.{queue_owed}
use Rattle.gaspi_model.specs.Posting.{counted}
use Rattle.gaspi_types.specs.Tables.{changed_at}
use Rattle.gaspi_model.specs.PostCalls.{post_request_result}
use Rattle.gaspi_model.specs.Transfers.{EntryPosition, source_bytes, PostsAndMemory}
use Rattle.gaspi_types.specs.declared.entries.Queue.{Queue}
use Rattle.gaspi_model.specs.declared.states.Posts.{Posts}
use Rattle.gaspi_model.specs.declared.states.Memory.{Memory}
use Rattle.gaspi_types.specs.declared.replies.Reply.{Reply}
use Rattle.gaspi_types.specs.declared.replies.Reply.TheVariants as replies
use Rattle.gaspi_types.specs.declared.replies.Refusal.{Refusal}
use Rattle.gaspi_types.specs.declared.replies.Refusal.TheVariants.{BadRank, BadQueue, QueueBroken}
use Rattle.gaspi_types.proofs.Chains.{both, bind_then, check_then, found_then, absent_then, same_Ok}
use Rattle.gaspi_model.proofs.Asked.{asked-by, entries-few}
use Rattle.gaspi_model.proofs.Made.{IsTake, IsPut}
use Rattle.gaspi_types.proofs.Items.{sum_by-changed, changed_at-found}
use Rattle.gaspi_model.proofs.FoundEntries.{IsFound, with_lane, with_phase, queue_with_failed, failed_with}

-- a queue of a rank changed
pub entries_owed-queue : (queues : List Queue) (queue : ℕ) (q : Queue) (change : Queue → Queue) → slice_get queues queue ≡ Some q
    → sum_by queue_owed (changed_at queues queue change) + queue_owed q ≡ sum_by queue_owed queues + queue_owed (change q)
entries_owed-queue queues queue q change at =
    rw (changed_at-found queues queue q change at) (sum_by-changed queue_owed queues queue q (change q) at)

-- a lane of a queue replaced
pub queue_owed-lane : (lanes : List (List Entry)) (target : ℕ) (lane lane' : List Entry) → slice_get lanes target ≡ Some lane
    → sum_by lane_owed (slice_set lanes target lane') + lane_owed lane ≡ sum_by lane_owed lanes + lane_owed lane'
queue_owed-lane lanes target lane lane' at = sum_by-changed lane_owed lanes target lane lane' at

-- the entries of a post owe two each
pub lane_owed-posted : (number : ℕ) (kinds : List Kind) → lane_owed (posted_entries number kinds) ≡ 2 * length kinds
lane_owed-posted number [] = refl
lane_owed-posted number (kind ∷ kinds) =
    sum_by-cons entry_owed (record { number = number; kind = kind; phase = phases.Posted }) (posted_entries (number + 1) kinds)
    ∙ (let rest = lane_owed-posted (number + 1) kinds in omega arith)

-- an entry of a lane in another phase
pub lane_owed-phase : (lane : List Entry) (place : ℕ) (e : Entry) (phase : Phase) → slice_get lane place ≡ Some e
    → lane_owed (with_phase lane place e phase) + entry_owed e ≡ lane_owed lane + phase_owed phase
lane_owed-phase lane place e phase at = sum_by-changed entry_owed lane place e (record e { phase = phase }) at

-- an entry of a lane gone
pub lane_owed-remove : (lane : List Entry) (place : ℕ) (e : Entry) → slice_get lane place ≡ Some e
    → lane_owed (remove lane place) + entry_owed e ≡ lane_owed lane
lane_owed-remove lane place e at =
    let there = get_or_from_slice_get lane place e e at in
    subst (λ (x : Entry). lane_owed (remove lane place) + entry_owed x ≡ lane_owed lane) there (sum_by-remove entry_owed lane place e (slice_get_within lane place e at))

pub posted_owes : (phase : Phase) → is_posted_phase phase ≡ true → phase_owed phase ≡ 2
posted_owes phases.Posted h = refl
posted_owes (phases.Carried bytes) h = absurd (let no : ⊥ = cc in no)
posted_owes phases.Failed h = absurd (let no : ⊥ = cc in no)

pub carried_owes : (phase : Phase) → is_carried_phase phase ≡ true → phase_owed phase ≡ 1
carried_owes phases.Posted h = absurd (let no : ⊥ = cc in no)
carried_owes (phases.Carried bytes) h = refl
carried_owes phases.Failed h = absurd (let no : ⊥ = cc in no)

-- an event more, and owing one less: the room taken stays
pub with_lane-owed : (posts : Posts) (queue target number : ℕ) (at : EntryPosition) (lane : List Entry) → IsFound posts queue target number at
    → lane_owed lane + 1 ≡ lane_owed at.lane
    → (counted (with_lane posts queue target lane)).events + owed (counted (with_lane posts queue target lane)) ≡ posts.events + owed posts
with_lane-owed posts queue target number at lane is less =
    let a = entries_owed-queue posts.queues queue at.queue (λ (q : Queue). record q { lanes = slice_set q.lanes target lane }) is.in_posts in
    let b = queue_owed-lane at.queue.lanes target at.lane lane is.in_queue in
    omega arith

-- an event more, and an entry that failed, which owes nothing
failed-owed : (posts : Posts) (queue target number : ℕ) (at : EntryPosition) → IsFound posts queue target number at
    → (counted (failed_with posts queue target at)).events + owed (counted (failed_with posts queue target at)) + entry_owed at.entry ≡ posts.events + owed posts + 1
failed-owed posts queue target number at is =
    let lane = lane_owed-phase at.lane at.position at.entry phases.Failed is.in_lane in
    let lanes = queue_owed-lane at.queue.lanes target at.lane (with_phase at.lane at.position at.entry phases.Failed) is.in_queue in
    let queues = entries_owed-queue posts.queues queue at.queue (queue_with_failed target at) is.in_posts in
    omega arith

-- a take that failed leaves one less
abbrev pub take_spares : Outcome → ℕ
take_spares Applied = 0
take_spares Failed = 1

pub take-owed : (limits : Limits) (posts : Posts) (memory : Memory) (queue target number : ℕ) (outcome : Outcome) (after : Posts) (at : EntryPosition)
    → IsTake limits posts memory queue target number outcome after at → after.events + owed after + take_spares outcome ≡ posts.events + owed posts
take-owed limits posts memory queue target number Failed after at h =
    let two = posted_owes at.entry.phase (both (is_posted at.entry) _ h.permitted).0 in
    let failed = failed-owed posts queue target number at h.is in
    rw h.leaves (omega arith)
take-owed limits posts memory queue target number Applied after at h =
    let phase = phases.Carried (source_bytes memory at.entry.kind) in
    let two = posted_owes at.entry.phase (both (is_posted at.entry) _ h.permitted).0 in
    let lane = lane_owed-phase at.lane at.position at.entry phase h.is.in_lane in
    let owes = with_lane-owed posts queue target number at (with_phase at.lane at.position at.entry phase) h.is (omega arith) in
    rw h.leaves (omega arith)

pub put-owed : (posts : Posts) (memory : Memory) (queue target number : ℕ) (outcome : Outcome) (after : PostsAndMemory) (at : EntryPosition)
    → IsPut posts memory queue target number outcome after at → after.posts.events + owed after.posts ≡ posts.events + owed posts
put-owed posts memory queue target number Applied after at h =
    let one = carried_owes at.entry.phase (both (is_carried at.entry) _ h.permitted).0 in
    let lane = lane_owed-remove at.lane at.position at.entry h.is.in_lane in
    rw h.leaves (with_lane-owed posts queue target number at _ h.is (omega arith))
put-owed posts memory queue target number Failed after at h =
    let one = carried_owes at.entry.phase (both (is_carried at.entry) _ h.permitted).0 in
    let failed = failed-owed posts queue target number at h.is in
    rw h.leaves (omega arith)

-- A call that is recorded: the room that is taken grows by its charge.

-- a call that posts asks for as many entries as its row says, and for at least one
pub asks-counted : (limits : Limits) (me : ℕ) (posts : Posts) (call : Call) (to : Posting) (kinds : List Kind) → (row_of call).posting ≡ Some to
    → requested_kinds limits me posts call ≡ Ok kinds → length kinds ≡ to.entries
asks-counted limits me posts call to kinds is h = (asked-by limits.notes me posts.segments call to kinds is h).count

pub asks-some : (limits : Limits) (me : ℕ) (posts : Posts) (call : Call) (to : Posting) (kinds : List Kind) → (row_of call).posting ≡ Some to
    → requested_kinds limits me posts call ≡ Ok kinds → 1 ≤ to.entries
asks-some limits me posts call to kinds is h = (asked-by limits.notes me posts.segments call to kinds is h).some

-- and is no end
pub posting-goes_on : (call : Call) (to : Posting) → (row_of call).posting ≡ Some to → is_end call ≡ false
posting-goes_on End to is = absurd (let no : ⊥ = cc in no)
posting-goes_on other to is = refl

-- it asks for at most one entry more than a list may have items
pub few-posted : (call : Call) → entries_of call ≤ 257
few-posted (Write call) = omega arith
few-posted (Read call) = omega arith
few-posted (Notify call) = omega arith
few-posted (WriteNotify call) = omega arith
few-posted (ReadNotify call) = omega arith
few-posted (WriteList call) = let few = entries-few (length call.items) 0 in omega (arith, few)
few-posted (WriteListNotify call) = let few = entries-few (length call.items) 1 in omega (arith, few)
few-posted (ReadList call) = let few = entries-few (length call.items) 0 in omega (arith, few)
few-posted (ReadListNotify call) = let few = entries-few (length call.items) 1 in omega (arith, few)
few-posted other = omega arith

-- a post that was taken
pub record IsPosted (limits : Limits) (posts : Posts) (rank queue : ℕ) (asked : Result (List Kind) Refusal) (reply : Option Reply) (q : Queue) (kinds : List Kind) : Type 0 where
  pub ranked : nat_lt rank limits.ranks ≡ true
  pub in_posts : slice_get posts.queues queue ≡ Some q
  pub asks : asked ≡ Ok kinds
  pub whole : q.broken ≡ None
  pub room : nat_le (q.open_count + length kinds) limits.depth ≡ true
  pub done : reply ≡ Some replies.Done

pub post-ok : (limits : Limits) (posts : Posts) (rank queue : ℕ) (asked : Result (List Kind) Refusal) (reply : Option Reply) → post_request_result limits posts rank queue asked ≡ Ok reply
    → (q : Queue) × (kinds : List Kind) × IsPosted limits posts rank queue asked reply q kinds
post-ok limits posts rank queue asked reply h =
    check_then (nat_lt rank limits.ranks) BadRank _ reply h (λ ranked h1.
    found_then (slice_get posts.queues queue) BadQueue _ reply h1 (λ q hq h2.
    bind_then asked _ reply h2 (λ kinds hk h3.
    absent_then q.broken QueueBroken _ reply h3 (λ whole h4.
    check_then (nat_le (q.open_count + length kinds) limits.depth) _ _ reply h4 (λ room h5.
    (q, kinds, record { ranked = ranked; in_posts = hq; asks = hk; whole = whole; room = room; done = sym (same_Ok _ _ h5) }))))))
