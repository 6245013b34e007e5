-- A call that is answered neither with a refusal nor with a timeout may make its effects.
use Rattle.std.proofs.Common.{◌≡◌, ℕ, ◌+◌, ◌<◌, ◌≤◌, ◌^◌, Bool, true, false, cond, nat_lt, nat_le, List, length, Option, None, Some, Result, Ok, refl, sym, ap, ◌∙◌, subst, arith}
use Rattle.std.specs.List.{slice_get, list_any}
use Rattle.std.proofs.lemmas.Bool.{le-leb}
use Rattle.std.proofs.lemmas.Bool.Decides.{nat_tests}
use Rattle.gaspi_types.specs.CallRows.{row_of}
use Rattle.gaspi_types.specs.Inboxes.{is_passive_size}
use Rattle.gaspi_types.specs.Lanes.{has_awaited}
use Rattle.gaspi_types.specs.SegmentTables.{alloc_checks}
use Rattle.gaspi_types.specs.World.{are_limits}
use Rattle.gaspi_types.specs.declared.call_rows.Posting.{Posting}
use Rattle.gaspi_types.specs.declared.calls.Call.{Call}
use Rattle.gaspi_types.specs.declared.calls.Call.TheVariants.{Alloc, Wait, PassiveSend, PassiveReceive, GroupCreate, GroupAdd, GroupDelete}
use Rattle.gaspi_types.specs.declared.calls.queues.Wait as wait
use Rattle.gaspi_types.specs.declared.entries.Kind.{Kind}
use Rattle.gaspi_types.specs.declared.inboxes.Message.{Message}
use Rattle.gaspi_types.specs.declared.replies.Refusal.{Refusal}
use Rattle.gaspi_types.specs.declared.replies.Reply.{Reply}
use Rattle.gaspi_types.specs.declared.replies.Reply.TheVariants.{Done}
use Rattle.gaspi_types.specs.declared.shapes.Limits.{Limits}
use Rattle.gaspi_types.proofs.Chains.{bind_then, check_then, found_then, absent_then}
use Rattle.gaspi_model.specs.Calls.{requested_kinds, call_result}
use Rattle.gaspi_model.specs.PostCalls.{post_request_result}
use Rattle.gaspi_model.specs.QueueCalls.{wait_result}
use Rattle.gaspi_model.specs.Sound.{IsSoundPosts}
use Rattle.gaspi_model.specs.declared.states.Posts.{Posts}
use Rattle.gaspi_model.specs.declared.states.Memory.{Memory}
use Rattle.gaspi_model.proofs.GroupFinds.{create-found, add-found, drop-found}
use Rattle.gaspi_model.proofs.PassiveFinds.{send-found, receive-found}
use Rattle.plain_calls.specs.NumberBounds.{CallIsBounded, PostIsBounded}
use Rattle.plain_calls.proofs.CallBounds.{IsFound, alloc_room, room_by}
use Rattle.plain_calls.proofs.Postings.{posting_of, post_by}
use Rattle.rank_node.specs.Effects.{MayPostOf, MayChangePosts, MayAffectPosts, MayAffectMemory, IsMadeByCall}
use Rattle.rank_node.specs.Rooms.{HasEntries, HasMade}
use Rattle.rank_node.specs.Values.{PostsValue, MemoryValue}
use Rattle.rank_node.specs.declared.making.MadeSegment.{MadeSegment}

-- a wait is answered by Done alone
wait-done : (posts : Posts) (call : wait.Wait) (reply : Reply) → wait_result posts call ≡ Ok (Some reply) → wait_result posts call ≡ Ok (Some Done)
wait-done posts call reply is =
    found_then (slice_get posts.queues call.queue) _ _ (Some reply) is (λ q there more.
    absent_then q.broken _ _ (Some reply) more (λ whole more.
    let done : reply ≡ Done = by-test (list_any has_awaited q.lanes) more in
    is ∙ ap (λ (r : Reply). Ok (Some r)) done))
  where
    by-test : (b : Bool) → ◌≡◌ {A = Result (Option Reply) Refusal} (Ok (cond b None (Some Done))) (Ok (Some reply)) → reply ≡ Done
    by-test true is = absurd (let no : ⊥ = cc in no)
    by-test false is = cc

few-ranks : (limits : Limits) → are_limits limits ≡ true → limits.ranks ≤ 16
few-ranks limits within = grind (arith, nat_tests)

may-change : (p : PostsValue) (m : Memory) (call : Call) (reply : Reply) → are_limits p.limits ≡ true → IsSoundPosts p.limits p.posts → (row_of call).posting ≡ None
    → call_result p.limits p.me p.posts m call ≡ Ok (Some reply) → MayChangePosts p call
may-change p m (Alloc call) reply limits sound plain finds = alloc_room p.limits p.posts call reply limits sound finds
may-change p m (Wait call) reply limits sound plain finds = wait-done p.posts call reply finds
may-change p m GroupCreate reply limits sound plain finds = let f = create-found p.posts reply finds in rw f.room refl
may-change p m (GroupAdd call) reply limits sound plain finds =
    let f = add-found p.limits p.posts call reply finds in
    let ranked = f.ranked in
    let few = few-ranks p.limits limits in
    (grind (arith, nat_tests), rw (f.there, f.building) refl)
may-change p m (GroupDelete call) reply limits sound plain finds = let f = drop-found p.posts call reply finds in rw (f.there, f.other) refl
may-change p m call reply limits sound plain finds = tt

may-post : (p : PostsValue) (m : Memory) (thread : ℕ) (call : Call) (reply : Reply) (to : Posting) (entries : Option (List Kind)) → are_limits p.limits ≡ true → IsSoundPosts p.limits p.posts
    → (row_of call).posting ≡ Some to → IsFound p.limits p.me p.posts m thread call reply → HasEntries (Some to) (requested_kinds p.limits p.me p.posts call) entries → MayPostOf p to call entries
may-post p m thread call reply to entries limits sound posts f has =
    let here = (posting_of p.limits p.me p.posts call to posts).finds m in
    let is = post_by p.limits p.posts to.rank to.queue (requested_kinds p.limits p.me p.posts call) f.reply_found (sym here ∙ f.finds) in
    let bounded = room_by p.limits p.me p.posts m thread call reply is.kinds is.made limits sound f in
    record {
      kinds = is.kinds;
      there = has is.kinds is.made;
      asked = is.made;
      may = record {
        ranks = few-ranks p.limits limits;
        finds = finds-done is.kinds is.made (sym here ∙ f.finds);
        numbers = numbers is.kinds (row_of call).posting posts bounded;
      };
    }
  where
    finds-done : (kinds : List Kind) → requested_kinds p.limits p.me p.posts call ≡ Ok kinds
        → post_request_result p.limits p.posts to.rank to.queue (requested_kinds p.limits p.me p.posts call) ≡ Ok (Some f.reply_found) → post_request_result p.limits p.posts to.rank to.queue (Ok kinds) ≡ Ok (Some Done)
    finds-done kinds asked is =
        let at = subst (λ (r : Result (List Kind) Refusal). post_request_result p.limits p.posts to.rank to.queue r ≡ Ok (Some f.reply_found)) asked is in
        check_then (nat_lt to.rank p.limits.ranks) _ _ (Some f.reply_found) at (λ ranked more.
        found_then (slice_get p.posts.queues to.queue) _ _ (Some f.reply_found) more (λ q there more.
        absent_then q.broken _ _ (Some f.reply_found) more (λ whole more.
        check_then (nat_le (q.open_count + length kinds) p.limits.depth) _ _ (Some f.reply_found) more (λ room more.
        rw (ranked, there, whole, room) refl))))

    numbers : (kinds : List Kind) (posting : Option Posting) → posting ≡ Some to → CallIsBounded p.posts call (length kinds) → p.posts.next + length kinds < 2 ^ 32
    numbers kinds posting is bounded =
        let here : PostIsBounded p.posts (Some to) (length kinds) = subst (λ (o : Option Posting). PostIsBounded p.posts o (length kinds)) posts bounded.posting in
        here.numbers

-- in the posts
pub may-affect : (p : PostsValue) (m : Memory) (thread : ℕ) (call : Call) (reply : Reply) (entries : Option (List Kind)) → are_limits p.limits ≡ true → IsSoundPosts p.limits p.posts
    → IsFound p.limits p.me p.posts m thread call reply → HasEntries (row_of call).posting (requested_kinds p.limits p.me p.posts call) entries
    → MayAffectPosts p (row_of call).posting call entries
may-affect p m thread call reply entries limits sound f has = go (row_of call).posting refl has
  where
    go : (to : Option Posting) → (row_of call).posting ≡ to → HasEntries to (requested_kinds p.limits p.me p.posts call) entries → MayAffectPosts p to call entries
    go None is has = may-change p m call f.reply_found limits sound is f.finds
    go (Some to) is has = may-post p m thread call reply to entries limits sound is f has

-- and in the memory that it works on
pub may-affect-memory : (p : PostsValue) (m : MemoryValue) (call : Call) (reply : Reply) (made : Option MadeSegment) (message : Option Message) → m.capacity ≡ p.limits.inbox
    → call_result p.limits p.me p.posts m.memory call ≡ Ok (Some reply) → HasMade p call made
    → ((x : Message) → message ≡ Some x → is_passive_size (length x.bytes) ≡ true) → MayAffectMemory m call made message
may-affect-memory p m (Alloc call) reply made message capacity finds has sized =
    bind_then (alloc_checks p.posts.segments.own call.seg call.size) _ (Some reply) finds (λ u fits more. rw (has fits) refl)
may-affect-memory p m (PassiveSend call) reply made None capacity finds has sized = tt
may-affect-memory p m (PassiveSend call) reply made (Some message) capacity finds has sized =
    let f = send-found p.limits p.posts m.memory call reply finds in
    record { sized = sized message refl; room = rw capacity f.room }
may-affect-memory p m (PassiveReceive call) reply made message capacity finds has sized =
    let f = receive-found p.posts m.memory call reply finds in
    rw f.inbox (rw (le-leb (length f.message.bytes) call.size f.fits) refl)
may-affect-memory p m call reply made message capacity finds has sized = tt

pub made-there : (p : PostsValue) (m : Memory) (call : Call) (reply : Reply) (made : Option MadeSegment) → call_result p.limits p.me p.posts m call ≡ Ok (Some reply) → HasMade p call made → IsMadeByCall p call made
made-there p m (Alloc call) reply made finds has =
    bind_then (alloc_checks p.posts.segments.own call.seg call.size) _ (Some reply) finds (λ u fits more. has fits)
made-there p m call reply made finds has = tt
