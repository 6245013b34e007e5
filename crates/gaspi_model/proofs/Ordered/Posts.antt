-- The entries of a post that is done stand in its lane.
use Rattle.std.proofs.Common.{◌≡◌, ℕ, zero, suc, ◌+◌, ◌<◌, Bool, true, List, [], ◌∷◌, ◌++◌, length, Option, None, Some, Result, Ok, refl, sym, ap, ◌∙◌, subst, arith}
use Rattle.std.specs.List.{slice_get, slice_set}
use Rattle.std.proofs.lemmas.Bool.{ltb-true}
use Rattle.gaspi_types.specs.Lanes.{posted_entries}
use Rattle.gaspi_types.specs.Posts.{slot_in, write_item, read_item, write_notify_item, read_notify_item, transfer_kind, write_kinds, read_kinds, notify_kinds, write_notify_kinds, read_notify_kinds, write_list_kinds, write_list_notify_kinds, read_list_kinds, read_list_notify_kinds}
use Rattle.gaspi_types.specs.World.{ShapeValue, IsShape}
use Rattle.gaspi_types.specs.declared.entries.Entry.{Entry}
use Rattle.gaspi_types.specs.declared.entries.Kind.{Kind}
use Rattle.gaspi_types.specs.declared.entries.Kind.TheVariants.{Notify, ReadNote}
use Rattle.gaspi_types.specs.declared.entries.Phase.TheVariants as phases
use Rattle.gaspi_types.specs.declared.shapes.CallerId.{CallerId}
use Rattle.gaspi_types.specs.declared.calls.Call.{Call}
use Rattle.gaspi_types.specs.declared.calls.Call.TheVariants as calls
use Rattle.gaspi_types.specs.declared.calls.posts.Write as write
use Rattle.gaspi_types.specs.declared.calls.posts.Read as read
use Rattle.gaspi_types.specs.declared.calls.posts.Notify as notify
use Rattle.gaspi_types.specs.declared.calls.posts.WriteNotify as write_notify
use Rattle.gaspi_types.specs.declared.calls.posts.ReadNotify as read_notify
use Rattle.gaspi_types.specs.declared.calls.posts.WriteList as write_list
use Rattle.gaspi_types.specs.declared.calls.posts.WriteListNotify as write_list_notify
use Rattle.gaspi_types.specs.declared.calls.posts.ReadList as read_list
use Rattle.gaspi_types.specs.declared.calls.posts.ReadListNotify as read_list_notify
use Rattle.gaspi_types.specs.declared.calls.posts.Item.{Item}
use Rattle.gaspi_types.specs.declared.entries.Direction.{Direction}
use Rattle.gaspi_types.specs.declared.entries.Direction.TheVariants.{Outward, Inward}
use Rattle.gaspi_types.specs.declared.entries.Endpoints.{Endpoints}
use Rattle.gaspi_types.specs.declared.segments.Extent.{Extent}
use Rattle.gaspi_types.specs.declared.shapes.Limits.{Limits}
use Rattle.gaspi_types.specs.declared.replies.Refusal.{Refusal}
use Rattle.gaspi_types.specs.declared.replies.Reply.TheVariants as replies
use Rattle.gaspi_types.specs.declared.events.Event.{Event}
use Rattle.gaspi_types.specs.declared.events.Event.TheVariants.{Called}
use Rattle.gaspi_model.specs.State.{opening}
use Rattle.gaspi_model.specs.Posting.{with_post, counted}
use Rattle.gaspi_types.specs.Queues.{with_entries}
use Rattle.gaspi_model.specs.PostCalls.{post_request_result}
use Rattle.gaspi_model.specs.Calls.{call_result, posts_effect}
use Rattle.gaspi_model.specs.Transfers.{PostsAndMemory, find_entry}
use Rattle.gaspi_model.specs.Step.{step, reached, is_legal}
use Rattle.gaspi_model.specs.Shards.{entry_after}
use Rattle.gaspi_model.specs.Sound.{IsSound}
use Rattle.gaspi_types.specs.Lanes.{is_write, is_read, is_notify, is_read_note}
use Rattle.gaspi_model.specs.Order.{IsInLane, AreInLane, IsWriteInLane, IsReadInLane, IsNotificationInLane, IsReadNoteInLane}
use Rattle.gaspi_types.specs.declared.entries.Queue.{Queue}
use Rattle.gaspi_model.specs.declared.states.Posts.{Posts}
use Rattle.gaspi_model.specs.declared.states.Memory.{Memory}
use Rattle.gaspi_model.specs.declared.states.State.{State}
use Rattle.gaspi_model.specs.declared.states.Why.{Why}
use Rattle.gaspi_model.specs.declared.states.Why.TheVariants as whys
use Rattle.gaspi_model.proofs.Asked.{AreTransfers, near_in, far_in, transfers-length, alone-ok, noted_writes-ok, noted_reads-ok, listed-ok}
use Rattle.gaspi_types.specs.CallRows.{row_of}
use Rattle.gaspi_model.proofs.Made.{step-called}
use Rattle.gaspi_model.proofs.Same.{same_reply-same}
use Rattle.gaspi_types.proofs.Items.{slice_get-set_same, past-none, prefix-of-joined, behind-of-joined}
use Rattle.gaspi_model.proofs.Sound.Rising.{position_of-rising}
use Rattle.gaspi_model.proofs.Sound.Accounts.{post-ok}
use Rattle.gaspi_model.proofs.FoundReplies.{found-reply}
use Rattle.gaspi_model.proofs.Sound.Registered.{registered-mine}
use Rattle.gaspi_model.proofs.Histories.{reached-sound, after-both, after-first, leads}
use Rattle.gaspi_model.proofs.Sound.Steps.{steps}

-- an entry of a lane stands under its number
entry-stands : (t : State) (posts : Posts) (q : Queue) (lane : List Entry) (origin queue target place : ℕ) (e : Entry) → slice_get t.posts origin ≡ Some posts → slice_get posts.queues queue ≡ Some q
    → slice_get q.lanes target ≡ Some lane → slice_get lane place ≡ Some e → IsSound t → entry_after t origin queue target e.number ≡ Some e
entry-stands t posts q lane origin queue target place e hp hq hl he sound =
    let rising = (sound.posts origin posts hp).rising queue q hq target lane hl in
    let at = position_of-rising posts.next lane place e rising he in
    let found : find_entry posts queue target e.number whys.Put ≡ Ok (record { queue = q; lane = lane; position = place; entry = e }) = rw (hq, hl, at, he) refl in
    rw (hp, found) refl

-- what a post leaves in its lane: all that it asks for
record PostLeaves (t : State) (origin queue target next : ℕ) (asked : Result (List Kind) Refusal) : Type 0 where
  kinds : List Kind
  asks : asked ≡ Ok kinds
  stand : (k : ℕ) (e : Entry) → slice_get (posted_entries next kinds) k ≡ Some e → entry_after t origin queue target e.number ≡ Some e

-- a call that posts so
record IsPosting (limits : Limits) (me thread : ℕ) (posts : Posts) (call : Call) (rank queue : ℕ) (asked : Result (List Kind) Refusal) : Type 0 where
  finds : (memory : Memory) → call_result limits me posts memory call ≡ post_request_result limits posts rank queue asked
  leaves : posts_effect limits me posts thread call ≡ with_post posts queue rank asked
  plain : (row_of call).group ≡ None

post-leaves : (s t : State) (c : CallerId) (call : Call) (rank queue : ℕ) (posts : Posts) (asked : Result (List Kind) Refusal) → IsSound s → slice_get s.posts c.rank ≡ Some posts
    → IsPosting s.limits c.rank c.thread posts call rank queue asked → step s (Called c call replies.Done) ≡ Ok t → PostLeaves t c.rank queue rank posts.next asked
post-leaves s t c call rank queue posts asked sound hp so h =
    let made = step-called s t c call replies.Done so.plain h in
    let m = made.3 in
    let same : made.0 ≡ posts = (let some : ◌≡◌ {A = Option Posts} (Some made.0) (Some posts) = sym m.posts_there ∙ hp in cc) in
    let finds = found-reply s.limits c.rank made.0 made.1 c.thread call replies.Done (same_reply-same _ _ m.is.answered) refl in
    let finds' : post_request_result s.limits posts rank queue asked ≡ Ok (Some replies.Done) =
    sym (so.finds made.1) ∙ subst (λ (x : Posts). call_result s.limits c.rank x made.1 call ≡ Ok (Some replies.Done)) same finds in
    let posted = post-ok s.limits posts rank queue asked (Some replies.Done) finds' in
    let p = posted.2 in
    let later : made.2.posts ≡ counted (with_post posts queue rank (Ok posted.1)) =
    ap (λ (x : PostsAndMemory). x.posts) m.is.leaves ∙ ap (λ (x : Posts). counted (posts_effect s.limits c.rank x c.thread call)) same ∙ ap counted so.leaves
    ∙ ap (λ (a : Result (List Kind) Refusal). counted (with_post posts queue rank a)) p.asks in
    let there : slice_get t.posts c.rank ≡ Some made.2.posts = ap (λ (x : State). slice_get x.posts c.rank) m.leaves
    ∙ registered-mine s.limits.ranks c.rank made.0 call replies.Done (slice_set s.posts c.rank made.2.posts) ∙ slice_get-set_same s.posts c.rank made.0 made.2.posts m.posts_there in
    let lanes = (sound.posts c.rank posts hp).lanes queue posted.0 p.in_posts in
    record {
      kinds = posted.1;
      asks = p.asks;
      stand = with-lane posts made.2.posts posted.0 posted.1 there later p.in_posts (steps s t (Called c call replies.Done) sound h) (slice_get posted.0.lanes rank) refl
          (ltb-true rank s.limits.ranks p.ranked) lanes;
    }
  where
    in-lane : (before later : Posts) (q : Queue) (kinds : List Kind) → slice_get t.posts c.rank ≡ Some later → later ≡ counted (with_post before queue rank (Ok kinds))
        → slice_get before.queues queue ≡ Some q → IsSound t → (lane : List Entry) → slice_get q.lanes rank ≡ Some lane
        → (k : ℕ) (e : Entry) → slice_get (posted_entries before.next kinds) k ≡ Some e → entry_after t c.rank queue rank e.number ≡ Some e
    in-lane before later q kinds there is hq sound' lane hl k e at =
        let changed = with_entries rank (posted_entries before.next kinds) q in
        let queue_there : slice_get later.queues queue ≡ Some changed = rw (is, hq) (slice_get-set_same before.queues queue q changed hq) in
        let lane' = lane ++ posted_entries before.next kinds in
        let lane_there : slice_get changed.lanes rank ≡ Some lane' = rw hl (slice_get-set_same q.lanes rank lane lane' hl) in
        entry-stands t later changed lane' c.rank queue rank (length lane + k) e there queue_there lane_there
        (behind-of-joined lane (posted_entries before.next kinds) k (length lane + k) refl ∙ at) sound'

    with-lane : (before later : Posts) (q : Queue) (kinds : List Kind) → slice_get t.posts c.rank ≡ Some later → later ≡ counted (with_post before queue rank (Ok kinds))
        → slice_get before.queues queue ≡ Some q → IsSound t → (o : Option (List Entry)) → slice_get q.lanes rank ≡ o → rank < s.limits.ranks → length q.lanes ≡ s.limits.ranks
        → (k : ℕ) (e : Entry) → slice_get (posted_entries before.next kinds) k ≡ Some e → entry_after t c.rank queue rank e.number ≡ Some e
    with-lane before later q kinds there is hq sound' (Some lane) hl within lanes = in-lane before later q kinds there is hq sound' lane hl
    with-lane before later q kinds there is hq sound' None hl within lanes = absurd (past-none q.lanes rank (omega arith) hl)

-- the state after a post that a legal history ends with
record AfterPost (w : ShapeValue) (history : List Event) (c : CallerId) (call : Call) (rank queue next : ℕ) (asked : Result (List Kind) Refusal) : Type 0 where
  state : State
  leads_to : reached w (history ++ Called c call replies.Done ∷ []) ≡ Ok state
  leaves : PostLeaves state c.rank queue rank next asked

after-post : (w : ShapeValue) (history : List Event) (c : CallerId) (call : Call) (rank queue : ℕ) (s : State) (posts : Posts) (asked : Result (List Kind) Refusal) → IsShape w → reached w history ≡ Ok s
    → slice_get s.posts c.rank ≡ Some posts → IsPosting s.limits c.rank c.thread posts call rank queue asked → is_legal w (history ++ Called c call replies.Done ∷ []) ≡ true
    → AfterPost w history c call rank queue posts.next asked
after-post w history c call rank queue s posts asked world h hp so legal =
    let event : Event = Called c call replies.Done in
    let end = leads (reached w (history ++ event ∷ [])) legal in
    let whole = after-both (opening w) end.0 history (event ∷ []) end.1 in
    let same : whole.0 ≡ s = (let ok : ◌≡◌ {A = Result State Why} (Ok whole.0) (Ok s) = sym whole.1 ∙ h in cc) in
    let last = after-first whole.0 end.0 event [] whole.2 in
    let is_end : last.0 ≡ end.0 = (let ok : ◌≡◌ {A = Result State Why} (Ok last.0) (Ok end.0) = last.2 in cc) in
    let step_s : step s event ≡ Ok last.0 = subst (λ (x : State). step x event ≡ Ok last.0) same last.1 in
    record {
      state = last.0;
      leads_to = end.1 ∙ ap (λ (x : State). Ok x) (sym is_end);
      leaves = post-leaves s last.0 c call rank queue posts asked (reached-sound w history s world h) hp so step_s;
    }

-- the entry at a place of those of a post
posted-at : (next : ℕ) (kinds : List Kind) (k : ℕ) (kind : Kind) → slice_get kinds k ≡ Some kind
    → slice_get (posted_entries next kinds) k ≡ Some (record { number = next + k; kind = kind; phase = phases.Posted })
posted-at next [] k kind at = absurd (let no : ⊥ = cc in no)
posted-at next (x ∷ kinds) zero kind at =
    let same : x ≡ kind = cc in
    let number : next ≡ next + 0 = omega arith in
    ap (λ (y : Kind). Some (record { number = next; kind = y; phase = phases.Posted })) same ∙ ap (λ (n : ℕ). Some (record { number = n; kind = kind; phase = phases.Posted })) number
posted-at next (x ∷ kinds) (suc k) kind at =
    let number : next + 1 + k ≡ next + suc k = omega arith in
    posted-at (next + 1) kinds k kind at ∙ ap (λ (n : ℕ). Some (record { number = n; kind = kind; phase = phases.Posted })) number

-- an entry of a post stands after it
stands-at : (is_kind : Entry → Bool) (w : ShapeValue) (history : List Event) (c : CallerId) (call : Call) (rank queue next : ℕ) (asked : Result (List Kind) Refusal) (k : ℕ) (kind : Kind)
    → (a : AfterPost w history c call rank queue next asked) → slice_get a.leaves.kinds k ≡ Some kind → is_kind (record { number = next + k; kind = kind; phase = phases.Posted }) ≡ true
    → IsInLane is_kind w (history ++ Called c call replies.Done ∷ []) c.rank queue rank (next + k)
stands-at is_kind w history c call rank queue next asked k kind a at is =
    let e : Entry = record { number = next + k; kind = kind; phase = phases.Posted } in
    record { state = a.state; entry = e; leads = a.leads_to; stands = a.leaves.stand k e (posted-at next a.leaves.kinds k kind at); kind = is }

-- the transfers of a post
transfer-at : (direction : Direction) (near far : ℕ → Option Extent) (items : List Item) (kinds : List Kind) (k : ℕ) → AreTransfers direction near far items kinds → k < length items
    → (ends : Endpoints) × (slice_get kinds k ≡ Some (transfer_kind direction ends))
transfer-at direction near far [] [] k are less = absurd (let no : ⊥ = omega arith in no)
transfer-at direction near far [] (kind ∷ kinds) k are less = absurd are
transfer-at direction near far (item ∷ items) [] k are less = absurd are
transfer-at direction near far (item ∷ items) (kind ∷ kinds) zero are less = (are.0.ends, ap (λ (x : Kind). Some x) are.0.is)
transfer-at direction near far (item ∷ items) (kind ∷ kinds) (suc k) are less = transfer-at direction near far items kinds k are.1 (omega arith)

-- of a kind as a transfer's
abbrev IsKindOf : Direction → (Entry → Bool) → Type 0
IsKindOf direction is_kind = (n : ℕ) (ends : Endpoints) → is_kind (record { number = n; kind = transfer_kind direction ends; phase = phases.Posted }) ≡ true

transfers-stand : (direction : Direction) (is_kind : Entry → Bool) (near far : ℕ → Option Extent) (items : List Item) (transfers rest : List Kind)
    → (w : ShapeValue) (history : List Event) (c : CallerId) (call : Call) (rank queue next : ℕ) (asked : Result (List Kind) Refusal) (a : AfterPost w history c call rank queue next asked)
    → IsKindOf direction is_kind → AreTransfers direction near far items transfers → a.leaves.kinds ≡ transfers ++ rest
    → AreInLane is_kind w (history ++ Called c call replies.Done ∷ []) c.rank queue rank next (length items)
transfers-stand direction is_kind near far items transfers rest w history c call rank queue next asked a kinds are is k less =
    let many = transfers-length direction near far items transfers are in
    let at = transfer-at direction near far items transfers k are less in
    let there : slice_get a.leaves.kinds k ≡ Some (transfer_kind direction at.0) =
    ap (λ (x : List Kind). slice_get x k) is ∙ prefix-of-joined transfers rest k (omega arith) ∙ at.1 in
    stands-at is_kind w history c call rank queue next asked k (transfer_kind direction at.0) a there (kinds (next + k) at.0)

-- and a notification behind them
note-stands : (direction : Direction) (is_kind : Entry → Bool) (near far : ℕ → Option Extent) (items : List Item) (transfers : List Kind) (note : Kind)
    → (w : ShapeValue) (history : List Event) (c : CallerId) (call : Call) (rank queue next : ℕ) (asked : Result (List Kind) Refusal) (a : AfterPost w history c call rank queue next asked)
    → ((n : ℕ) → is_kind (record { number = n; kind = note; phase = phases.Posted }) ≡ true) → AreTransfers direction near far items transfers → a.leaves.kinds ≡ transfers ++ note ∷ []
    → IsInLane is_kind w (history ++ Called c call replies.Done ∷ []) c.rank queue rank (next + length items)
note-stands direction is_kind near far items transfers note w history c call rank queue next asked a kind are is =
    let many = transfers-length direction near far items transfers are in
    let there : slice_get a.leaves.kinds (length items) ≡ Some note =
    ap (λ (x : List Kind). slice_get x (length items)) is ∙ behind-of-joined transfers (note ∷ []) 0 (length items) (omega arith) in
    stands-at is_kind w history c call rank queue next asked (length items) note a there (kind (next + length items))

-- transfers alone have nothing behind them
nothing-behind : (kinds : List Kind) → kinds ≡ kinds ++ []
nothing-behind [] = refl
nothing-behind (kind ∷ kinds) = ap (λ (rest : List Kind). kind ∷ rest) (nothing-behind kinds)

-- the number of the first
first-of : (is_kind : Entry → Bool) (w : ShapeValue) (history : List Event) (origin queue target next : ℕ) (count : ℕ) → 0 < count → AreInLane is_kind w history origin queue target next count
    → IsInLane is_kind w history origin queue target next
first-of is_kind w history origin queue target next count some all =
    let number : next + 0 ≡ next = omega arith in
    subst (λ (n : ℕ). IsInLane is_kind w history origin queue target n) number (all 0 some)

writes : IsKindOf Outward is_write
writes n ends = refl

reads : IsKindOf Inward is_read
reads n ends = refl

pub posted-write : (w : ShapeValue) (history : List Event) (c : CallerId) (call : write.Write) (s : State) (posts : Posts) → IsShape w → reached w history ≡ Ok s
    → slice_get s.posts c.rank ≡ Some posts → is_legal w (history ++ Called c (calls.Write call) replies.Done ∷ []) ≡ true
    → IsWriteInLane w (history ++ Called c (calls.Write call) replies.Done ∷ []) c.rank call.queue call.rank posts.next
posted-write w history c call s posts world h hp legal =
    let asked = write_kinds c.rank posts.segments call in
    let a = after-post w history c (calls.Write call) call.rank call.queue s posts asked world h hp (record { finds = λ memory. refl; leaves = refl; plain = refl }) legal in
    let are = alone-ok Outward c.rank posts.segments call.rank (write_item call ∷ []) a.leaves.kinds a.leaves.asks in
    first-of is_write w (history ++ Called c (calls.Write call) replies.Done ∷ []) c.rank call.queue call.rank posts.next 1 (omega arith)
    (transfers-stand Outward is_write (near_in posts.segments) (far_in c.rank posts.segments call.rank) (write_item call ∷ []) a.leaves.kinds [] w history c (calls.Write call) call.rank call.queue posts.next asked a writes are (nothing-behind a.leaves.kinds))

pub posted-read : (w : ShapeValue) (history : List Event) (c : CallerId) (call : read.Read) (s : State) (posts : Posts) → IsShape w → reached w history ≡ Ok s
    → slice_get s.posts c.rank ≡ Some posts → is_legal w (history ++ Called c (calls.Read call) replies.Done ∷ []) ≡ true
    → IsReadInLane w (history ++ Called c (calls.Read call) replies.Done ∷ []) c.rank call.queue call.rank posts.next
posted-read w history c call s posts world h hp legal =
    let asked = read_kinds c.rank posts.segments call in
    let a = after-post w history c (calls.Read call) call.rank call.queue s posts asked world h hp (record { finds = λ memory. refl; leaves = refl; plain = refl }) legal in
    let are = alone-ok Inward c.rank posts.segments call.rank (read_item call ∷ []) a.leaves.kinds a.leaves.asks in
    first-of is_read w (history ++ Called c (calls.Read call) replies.Done ∷ []) c.rank call.queue call.rank posts.next 1 (omega arith)
    (transfers-stand Inward is_read (near_in posts.segments) (far_in c.rank posts.segments call.rank) (read_item call ∷ []) a.leaves.kinds [] w history c (calls.Read call) call.rank call.queue posts.next asked a reads are (nothing-behind a.leaves.kinds))

pub posted-notify : (w : ShapeValue) (history : List Event) (c : CallerId) (call : notify.Notify) (s : State) (posts : Posts) → IsShape w → reached w history ≡ Ok s
    → slice_get s.posts c.rank ≡ Some posts → is_legal w (history ++ Called c (calls.Notify call) replies.Done ∷ []) ≡ true
    → IsNotificationInLane w (history ++ Called c (calls.Notify call) replies.Done ∷ []) c.rank call.queue call.rank posts.next
posted-notify w history c call s posts world h hp legal =
    let asked = notify_kinds s.limits.notes c.rank posts.segments call in
    let a = after-post w history c (calls.Notify call) call.rank call.queue s posts asked world h hp (record { finds = λ memory. refl; leaves = refl; plain = refl }) legal in
    let k = noted_writes-ok s.limits.notes c.rank posts.segments call.rank [] call.rseg call.note call.value a.leaves.kinds a.leaves.asks in
    let number : posts.next + 0 ≡ posts.next = omega arith in
    subst (λ (n : ℕ). IsNotificationInLane w (history ++ Called c (calls.Notify call) replies.Done ∷ []) c.rank call.queue call.rank n) number
    (note-stands Outward is_notify (near_in posts.segments) (far_in c.rank posts.segments call.rank) [] k.transfers (Notify (slot_in k.theirs call.rseg call.note) call.value) w history c (calls.Notify call) call.rank call.queue posts.next asked a (λ n. refl) k.are k.is)

pub posted-write_notify : (w : ShapeValue) (history : List Event) (c : CallerId) (call : write_notify.WriteNotify) (s : State) (posts : Posts) → IsShape w → reached w history ≡ Ok s
    → slice_get s.posts c.rank ≡ Some posts → is_legal w (history ++ Called c (calls.WriteNotify call) replies.Done ∷ []) ≡ true
    → IsWriteInLane w (history ++ Called c (calls.WriteNotify call) replies.Done ∷ []) c.rank call.queue call.rank posts.next
    × IsNotificationInLane w (history ++ Called c (calls.WriteNotify call) replies.Done ∷ []) c.rank call.queue call.rank (posts.next + 1)
posted-write_notify w history c call s posts world h hp legal =
    let asked = write_notify_kinds s.limits.notes c.rank posts.segments call in
    let a = after-post w history c (calls.WriteNotify call) call.rank call.queue s posts asked world h hp (record { finds = λ memory. refl; leaves = refl; plain = refl }) legal in
    let k = noted_writes-ok s.limits.notes c.rank posts.segments call.rank (write_notify_item call ∷ []) call.rseg call.note call.value a.leaves.kinds a.leaves.asks in
    let note = Notify (slot_in k.theirs call.rseg call.note) call.value in (
      first-of is_write w (history ++ Called c (calls.WriteNotify call) replies.Done ∷ []) c.rank call.queue call.rank posts.next 1 (omega arith)
          (transfers-stand Outward is_write (near_in posts.segments) (far_in c.rank posts.segments call.rank) (write_notify_item call ∷ []) k.transfers (note ∷ []) w history c (calls.WriteNotify call) call.rank call.queue posts.next asked a writes k.are k.is),
      note-stands Outward is_notify (near_in posts.segments) (far_in c.rank posts.segments call.rank) (write_notify_item call ∷ []) k.transfers note w history c (calls.WriteNotify call) call.rank call.queue posts.next asked a (λ n. refl) k.are k.is,
    )

pub posted-read_notify : (w : ShapeValue) (history : List Event) (c : CallerId) (call : read_notify.ReadNotify) (s : State) (posts : Posts) → IsShape w → reached w history ≡ Ok s
    → slice_get s.posts c.rank ≡ Some posts → is_legal w (history ++ Called c (calls.ReadNotify call) replies.Done ∷ []) ≡ true
    → IsReadInLane w (history ++ Called c (calls.ReadNotify call) replies.Done ∷ []) c.rank call.queue call.rank posts.next
    × IsReadNoteInLane w (history ++ Called c (calls.ReadNotify call) replies.Done ∷ []) c.rank call.queue call.rank (posts.next + 1)
posted-read_notify w history c call s posts world h hp legal =
    let asked = read_notify_kinds s.limits.notes c.rank posts.segments call in
    let a = after-post w history c (calls.ReadNotify call) call.rank call.queue s posts asked world h hp (record { finds = λ memory. refl; leaves = refl; plain = refl }) legal in
    let k = noted_reads-ok s.limits.notes c.rank posts.segments call.rank (read_notify_item call ∷ []) call.seg call.note a.leaves.kinds a.leaves.asks in
    let note = ReadNote (slot_in k.mine call.seg call.note) in (
      first-of is_read w (history ++ Called c (calls.ReadNotify call) replies.Done ∷ []) c.rank call.queue call.rank posts.next 1 (omega arith)
          (transfers-stand Inward is_read (near_in posts.segments) (far_in c.rank posts.segments call.rank) (read_notify_item call ∷ []) k.transfers (note ∷ []) w history c (calls.ReadNotify call) call.rank call.queue posts.next asked a reads k.are k.is),
      note-stands Inward is_read_note (near_in posts.segments) (far_in c.rank posts.segments call.rank) (read_notify_item call ∷ []) k.transfers note w history c (calls.ReadNotify call) call.rank call.queue posts.next asked a (λ n. refl) k.are k.is,
    )

pub posted-write_list : (w : ShapeValue) (history : List Event) (c : CallerId) (call : write_list.WriteList) (s : State) (posts : Posts) → IsShape w → reached w history ≡ Ok s
    → slice_get s.posts c.rank ≡ Some posts → is_legal w (history ++ Called c (calls.WriteList call) replies.Done ∷ []) ≡ true
    → AreInLane is_write w (history ++ Called c (calls.WriteList call) replies.Done ∷ []) c.rank call.queue call.rank posts.next (length call.items)
posted-write_list w history c call s posts world h hp legal =
    let asked = write_list_kinds c.rank posts.segments call in
    let a = after-post w history c (calls.WriteList call) call.rank call.queue s posts asked world h hp (record { finds = λ memory. refl; leaves = refl; plain = refl }) legal in
    let l = listed-ok call.items _ a.leaves.kinds a.leaves.asks in
    let are = alone-ok Outward c.rank posts.segments call.rank call.items a.leaves.kinds l.1 in
    transfers-stand Outward is_write (near_in posts.segments) (far_in c.rank posts.segments call.rank) call.items a.leaves.kinds [] w history c (calls.WriteList call) call.rank call.queue posts.next asked a writes are (nothing-behind a.leaves.kinds)

pub posted-read_list : (w : ShapeValue) (history : List Event) (c : CallerId) (call : read_list.ReadList) (s : State) (posts : Posts) → IsShape w → reached w history ≡ Ok s
    → slice_get s.posts c.rank ≡ Some posts → is_legal w (history ++ Called c (calls.ReadList call) replies.Done ∷ []) ≡ true
    → AreInLane is_read w (history ++ Called c (calls.ReadList call) replies.Done ∷ []) c.rank call.queue call.rank posts.next (length call.items)
posted-read_list w history c call s posts world h hp legal =
    let asked = read_list_kinds c.rank posts.segments call in
    let a = after-post w history c (calls.ReadList call) call.rank call.queue s posts asked world h hp (record { finds = λ memory. refl; leaves = refl; plain = refl }) legal in
    let l = listed-ok call.items _ a.leaves.kinds a.leaves.asks in
    let are = alone-ok Inward c.rank posts.segments call.rank call.items a.leaves.kinds l.1 in
    transfers-stand Inward is_read (near_in posts.segments) (far_in c.rank posts.segments call.rank) call.items a.leaves.kinds [] w history c (calls.ReadList call) call.rank call.queue posts.next asked a reads are (nothing-behind a.leaves.kinds)

pub posted-write_list_notify : (w : ShapeValue) (history : List Event) (c : CallerId) (call : write_list_notify.WriteListNotify) (s : State) (posts : Posts) → IsShape w → reached w history ≡ Ok s
    → slice_get s.posts c.rank ≡ Some posts → is_legal w (history ++ Called c (calls.WriteListNotify call) replies.Done ∷ []) ≡ true
    → AreInLane is_write w (history ++ Called c (calls.WriteListNotify call) replies.Done ∷ []) c.rank call.queue call.rank posts.next (length call.items)
    × IsNotificationInLane w (history ++ Called c (calls.WriteListNotify call) replies.Done ∷ []) c.rank call.queue call.rank (posts.next + length call.items)
posted-write_list_notify w history c call s posts world h hp legal =
    let asked = write_list_notify_kinds s.limits.notes c.rank posts.segments call in
    let a = after-post w history c (calls.WriteListNotify call) call.rank call.queue s posts asked world h hp (record { finds = λ memory. refl; leaves = refl; plain = refl }) legal in
    let l = listed-ok call.items _ a.leaves.kinds a.leaves.asks in
    let k = noted_writes-ok s.limits.notes c.rank posts.segments call.rank call.items call.nseg call.note call.value a.leaves.kinds l.1 in
    let note = Notify (slot_in k.theirs call.nseg call.note) call.value in (
      transfers-stand Outward is_write (near_in posts.segments) (far_in c.rank posts.segments call.rank) call.items k.transfers (note ∷ []) w history c (calls.WriteListNotify call) call.rank call.queue posts.next asked a writes k.are k.is,
      note-stands Outward is_notify (near_in posts.segments) (far_in c.rank posts.segments call.rank) call.items k.transfers note w history c (calls.WriteListNotify call) call.rank call.queue posts.next asked a (λ n. refl) k.are k.is,
    )

pub posted-read_list_notify : (w : ShapeValue) (history : List Event) (c : CallerId) (call : read_list_notify.ReadListNotify) (s : State) (posts : Posts) → IsShape w → reached w history ≡ Ok s
    → slice_get s.posts c.rank ≡ Some posts → is_legal w (history ++ Called c (calls.ReadListNotify call) replies.Done ∷ []) ≡ true
    → AreInLane is_read w (history ++ Called c (calls.ReadListNotify call) replies.Done ∷ []) c.rank call.queue call.rank posts.next (length call.items)
    × IsReadNoteInLane w (history ++ Called c (calls.ReadListNotify call) replies.Done ∷ []) c.rank call.queue call.rank (posts.next + length call.items)
posted-read_list_notify w history c call s posts world h hp legal =
    let asked = read_list_notify_kinds s.limits.notes c.rank posts.segments call in
    let a = after-post w history c (calls.ReadListNotify call) call.rank call.queue s posts asked world h hp (record { finds = λ memory. refl; leaves = refl; plain = refl }) legal in
    let l = listed-ok call.items _ a.leaves.kinds a.leaves.asks in
    let k = noted_reads-ok s.limits.notes c.rank posts.segments call.rank call.items call.nseg call.note a.leaves.kinds l.1 in
    let note = ReadNote (slot_in k.mine call.nseg call.note) in (
      transfers-stand Inward is_read (near_in posts.segments) (far_in c.rank posts.segments call.rank) call.items k.transfers (note ∷ []) w history c (calls.ReadListNotify call) call.rank call.queue posts.next asked a reads k.are k.is,
      note-stands Inward is_read_note (near_in posts.segments) (far_in c.rank posts.segments call.rank) call.items k.transfers note w history c (calls.ReadListNotify call) call.rank call.queue posts.next asked a (λ n. refl) k.are k.is,
    )
