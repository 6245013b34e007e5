-- What a look finds fits the memory that is taken for its call.
use Rattle.std.proofs.Common.{◌≡◌, ℕ, Bool, true, false, nat_lt, List, length, drop, Option, None, Some, Result, Ok, Err, refl, sym, subst, arith, if◌then◌else◌}
use Rattle.std.specs.List.{slice_get}
use Rattle.std.specs.Option.{option_map}
use Rattle.std.specs.Prelude.{IfOk}
use Rattle.std.proofs.lemmas.List.{length-take}
use Rattle.std.proofs.Math.Nat.{min-le_left}
use Rattle.gaspi_types.specs.CallRows.{row_of}
use Rattle.gaspi_types.specs.Checks.{◌>>=◌, check, ok_or, err_if_some}
use Rattle.gaspi_types.specs.Groups.{building_at, delete_checks}
use Rattle.gaspi_types.specs.Inboxes.{passive_checks, first_within}
use Rattle.gaspi_types.specs.SegmentBytes.{range_of}
use Rattle.gaspi_types.specs.Segments.{is_generation}
use Rattle.gaspi_types.specs.SegmentTables.{extent_in, known_extent, own_range_checks}
use Rattle.gaspi_types.specs.Slots.{is_slot_range}
use Rattle.gaspi_types.specs.declared.call_rows.Posting.{Posting}
use Rattle.gaspi_types.specs.declared.calls.Call.{Call}
use Rattle.gaspi_types.specs.declared.calls.Call.TheVariants as calls
use Rattle.gaspi_types.specs.declared.calls.memory.Load as load
use Rattle.gaspi_types.specs.declared.entries.Kind.{Kind}
use Rattle.gaspi_types.specs.declared.inboxes.Message.{Message}
use Rattle.gaspi_types.specs.declared.replies.Ready.{Ready}
use Rattle.gaspi_types.specs.declared.replies.Ready.TheVariants as ready
use Rattle.gaspi_types.specs.declared.replies.Refusal.{Refusal}
use Rattle.gaspi_types.specs.declared.replies.Refusal.TheVariants.{BadRank, NoSegment, BadQueue, BadNote, QueueBroken, Unregistered, CallerEnded}
use Rattle.gaspi_types.specs.declared.replies.Reply.{Reply}
use Rattle.gaspi_types.specs.declared.replies.Reply.TheVariants as replies
use Rattle.gaspi_types.proofs.Chains.{bind_then}
use Rattle.gaspi_model.specs.AtomicCalls.{word_result}
use Rattle.gaspi_model.specs.Calls.{plain_result, requested_kinds, call_result, answer_of_result, answer}
use Rattle.gaspi_model.specs.Memories.{bytes_of}
use Rattle.gaspi_model.specs.MemoryCalls.{load_result}
use Rattle.gaspi_model.specs.PostCalls.{post_request_result}
use Rattle.gaspi_model.specs.State.{is_running, thread_at, segment_at}
use Rattle.gaspi_model.specs.declared.states.Memory.{Memory}
use Rattle.rank_node.specs.Rooms.{IsReservedFor, ReplyFitsReserved, FitsReserved}
use Rattle.rank_node.specs.Values.{PostsValue, MemoryValue}
use Rattle.rank_node.specs.declared.rooms.Room.{Room}

-- what a call finds
abbrev Finds : Type 0
Finds = Result (Option Reply) Refusal

done-fits : (room : Room) (reply found : Reply) → ◌≡◌ {A = Finds} (Ok (Some found)) (Ok (Some reply)) → ReplyFitsReserved found room → ReplyFitsReserved reply room
done-fits room reply found h fits = subst (λ (x : Reply). ReplyFitsReserved x room) (let is : found ≡ reply = cc in is) fits

then-fits : {A : Type 0} (room : Room) (reply : Reply) (r : Result A Refusal) (f : A → Finds) → (r >>= f) ≡ Ok (Some reply) → ((x : A) → f x ≡ Ok (Some reply) → ReplyFitsReserved reply room) → ReplyFitsReserved reply room
then-fits room reply (Ok x) f h go = go x h
then-fits room reply (Err e) f h go = absurd (let no : ⊥ = cc in no)

if-fits : (room : Room) (reply : Reply) (b : Bool) (x y : Option Reply) → ◌≡◌ {A = Finds} (Ok (if b then x else y)) (Ok (Some reply))
    → (◌≡◌ {A = Finds} (Ok x) (Ok (Some reply)) → ReplyFitsReserved reply room) → (◌≡◌ {A = Finds} (Ok y) (Ok (Some reply)) → ReplyFitsReserved reply room) → ReplyFitsReserved reply room
if-fits room reply true x y h first second = first h
if-fits room reply false x y h first second = second h

map-fits : {A : Type 0} (room : Room) (reply : Reply) (o : Option A) (f : A → Reply) → ◌≡◌ {A = Finds} (Ok (option_map f o)) (Ok (Some reply)) → ((x : A) → ReplyFitsReserved (f x) room) → ReplyFitsReserved reply room
map-fits room reply (Some x) f h fits = done-fits room reply (f x) h (fits x)
map-fits room reply None f h fits = absurd (let no : ⊥ = cc in no)

none-fits : {P : Type 0} (reply : Reply) → ◌≡◌ {A = Finds} (Ok None) (Ok (Some reply)) → P
none-fits reply h = absurd (let no : ⊥ = cc in no)

asked-fits : (p : PostsValue) (room : Room) (reply : Reply) (rank queue : ℕ) (asked : Result (List Kind) Refusal) → post_request_result p.limits p.posts rank queue asked ≡ Ok (Some reply) → ReplyFitsReserved reply room
asked-fits p room reply rank queue asked h =
    then-fits room reply (check (nat_lt rank p.limits.ranks) BadRank) _ h (λ ranked h1. then-fits room reply (ok_or (slice_get p.posts.queues queue) BadQueue) _ h1 (λ q h2. then-fits room reply asked _ h2 (λ kinds h3.
    then-fits room reply (err_if_some q.broken QueueBroken) _ h3 (λ whole h4. then-fits room reply _ _ h4 (λ free h5. done-fits room reply replies.Done h5 tt)))))

-- a load reads no more bytes than it says
load-fits : (p : PostsValue) (memory : Memory) (call : load.Load) (room : Room) (reply : Reply) → (own_range_checks p.posts.segments.own call.seg call.offset call.size ≡ Ok tt → length room.bytes ≡ call.size)
    → load_result p.posts memory call ≡ Ok (Some reply) → ReplyFitsReserved reply room
load-fits p memory call room reply has h =
    bind_then (own_range_checks p.posts.segments.own call.seg call.offset call.size) _ (Some reply) h (λ u fits h1.
    done-fits room reply (replies.Bytes (range_of (bytes_of memory call.seg) call.offset call.size)) h1 (
    let cut = length-take call.size (drop call.offset (bytes_of memory call.seg)) in
    let least = min-le_left call.size (length (drop call.offset (bytes_of memory call.seg))) in
    let many = has fits in
    omega (arith, cut, least, many)))

word-fits : (p : PostsValue) (memory : Memory) (seg offset rank : ℕ) (room : Room) (reply : Reply) → word_result p.limits p.me p.posts memory seg offset rank ≡ Ok (Some reply) → ReplyFitsReserved reply room
word-fits p memory seg offset rank room reply h =
    then-fits room reply (check (nat_lt rank p.limits.ranks) BadRank) _ h (λ ranked h1. then-fits room reply (ok_or (known_extent p.me p.posts.segments rank seg) Unregistered) _ h1 (λ theirs h2.
    then-fits room reply (check (is_generation theirs.generation (segment_at memory seg)) Unregistered) _ h2 (λ there h3. then-fits room reply _ _ h3 (λ fits h4. done-fits room reply _ h4 tt))))

plain-fits : (p : PostsValue) (own : MemoryValue) (memory : Memory) (call : Call) (room : Room) (reply : Reply) → IsReservedFor p own call room → plain_result p.limits p.me p.posts memory call ≡ Ok (Some reply) → ReplyFitsReserved reply room
plain-fits p own memory (calls.Alloc call) room reply is h = then-fits room reply _ _ h (λ x1 h1. done-fits room reply _ h1 tt)
plain-fits p own memory (calls.Register call) room reply is h = then-fits room reply (check (nat_lt call.rank p.limits.ranks) BadRank) _ h (λ x1 h1. then-fits room reply _ _ h1 (λ x2 h2. done-fits room reply _ h2 tt))
plain-fits p own memory (calls.Delete call) room reply is h = then-fits room reply (ok_or (extent_in p.posts.segments.own call.seg) NoSegment) _ h (λ x1 h1. then-fits room reply _ _ h1 (λ x2 h2. done-fits room reply _ h2 tt))
plain-fits p own memory (calls.Store call) room reply is h = then-fits room reply _ _ h (λ x1 h1. done-fits room reply _ h1 tt)
plain-fits p own memory (calls.Load call) room reply is h = load-fits p memory call room reply is.bytes h
plain-fits p own memory (calls.Wait call) room reply is h = then-fits room reply (ok_or (slice_get p.posts.queues call.queue) BadQueue) _ h (λ x1 h1. then-fits room reply (err_if_some x1.broken QueueBroken) _ h1 (λ x2 h2. if-fits room reply _ _ _ h2 (none-fits reply) (λ done. done-fits room reply replies.Done done tt)))
plain-fits p own memory (calls.Purge call) room reply is h = then-fits room reply _ _ h (λ x1 h1. done-fits room reply _ h1 tt)
plain-fits p own memory (calls.Qsize call) room reply is h = then-fits room reply _ _ h (λ x1 h1. done-fits room reply _ h1 tt)
plain-fits p own memory (calls.Waitsome call) room reply is h = then-fits room reply (ok_or (extent_in p.posts.segments.own call.seg) NoSegment) _ h (λ x1 h1. then-fits room reply (check (is_slot_range call.begin call.num p.limits.notes) BadNote) _ h1 (λ x2 h2. map-fits room reply _ replies.Id h2 (λ n. tt)))
plain-fits p own memory (calls.Reset call) room reply is h = then-fits room reply (ok_or (extent_in p.posts.segments.own call.seg) NoSegment) _ h (λ x1 h1. then-fits room reply _ _ h1 (λ x2 h2. done-fits room reply _ h2 tt))
plain-fits p own memory (calls.PassiveSend call) room reply is h = then-fits room reply (check (nat_lt call.rank p.limits.ranks) BadRank) _ h (λ x1 h1. then-fits room reply (passive_checks p.posts.segments.own call.seg call.offset call.size) _ h1 (λ x2 h2. if-fits room reply _ _ _ h2 (λ done. done-fits room reply replies.Done done tt) (none-fits reply)))
plain-fits p own memory (calls.PassiveReceive call) room reply is h = then-fits room reply (passive_checks p.posts.segments.own call.seg call.offset call.size) _ h (λ x1 h1. then-fits room reply (first_within call.size memory.inbox) _ h1 (λ x2 h2. map-fits room reply x2 (λ (m : Message). replies.Id m.sender) h2 (λ m. tt)))
plain-fits p own memory (calls.FetchAdd call) room reply is h = word-fits p memory call.seg call.offset call.rank room reply h
plain-fits p own memory (calls.CompareSwap call) room reply is h = word-fits p memory call.seg call.offset call.rank room reply h
plain-fits p own memory calls.GroupCreate room reply is h = then-fits room reply _ _ h (λ x1 h1. done-fits room reply _ h1 tt)
plain-fits p own memory (calls.GroupAdd call) room reply is h = then-fits room reply (check (nat_lt call.rank p.limits.ranks) BadRank) _ h (λ x1 h1. then-fits room reply (building_at p.posts.groups call.group) _ h1 (λ x2 h2. then-fits room reply _ _ h2 (λ x3 h3. done-fits room reply _ h3 tt)))
plain-fits p own memory (calls.GroupDelete call) room reply is h = then-fits room reply (delete_checks p.posts.groups call.group) _ h (λ x1 h1. then-fits room reply _ _ h1 (λ x2 h2. done-fits room reply _ h2 tt))
plain-fits p own memory calls.State room reply is h = done-fits room reply _ h tt
plain-fits p own memory call room reply is h = done-fits room reply replies.Done h tt

call-fits : (p : PostsValue) (own : MemoryValue) (memory : Memory) (call : Call) (room : Room) (reply : Reply) → IsReservedFor p own call room → call_result p.limits p.me p.posts memory call ≡ Ok (Some reply) → ReplyFitsReserved reply room
call-fits p own memory call room reply is h = go (row_of call).posting refl
  where
    go : (o : Option Posting) → (row_of call).posting ≡ o → ReplyFitsReserved reply room
    go None none = plain-fits p own memory call room reply is (rw none at h)
    go (Some to) some = asked-fits p room reply to.rank to.queue (requested_kinds p.limits p.me p.posts call) (rw some at h)

ready-fits : (r : Finds) (room : Room) → ((reply : Reply) → r ≡ Ok (Some reply) → ReplyFitsReserved reply room) → FitsReserved (answer_of_result r) room
ready-fits (Ok None) room fits = tt
ready-fits (Ok (Some reply)) room fits = fits reply refl
ready-fits (Err refusal) room fits = tt

answer-fits : (p : PostsValue) (own : MemoryValue) (memory : Memory) (thread : ℕ) (call : Call) (room : Room) → IsReservedFor p own call room
    → FitsReserved (answer p.limits p.me p.posts memory thread call) room
answer-fits p own memory thread call room is = go (is_running (thread_at p.posts thread))
  where
    go : (b : Bool) → FitsReserved (if b then answer_of_result (call_result p.limits p.me p.posts memory call) else ready.Reply (replies.Refused CallerEnded)) room
    go true = ready-fits (call_result p.limits p.me p.posts memory call) room (λ reply h. call-fits p own memory call room reply is h)
    go false = tt

-- what a look found at a call that is no collective
pub look-fits : {E : Type 0} (p : PostsValue) (own : MemoryValue) (memory : Memory) (thread : ℕ) (call : Call) (room : Room) (r : Result Ready E) → IsReservedFor p own call room
    → IfOk r (λ found. found ≡ answer p.limits p.me p.posts memory thread call) → IfOk r (λ found. FitsReserved found room)
look-fits p own memory thread call room (Ok found) is same = subst (λ (x : Ready). FitsReserved x room) (sym same) (answer-fits p own memory thread call room is)
look-fits p own memory thread call room (Err e) is same = same
