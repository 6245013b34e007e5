-- The groups of a rank along a history: their numbers rise, and a committed one stays until it is dropped.
use Rattle.std.proofs.Common.{◌≡◌, ℕ, ◌+◌, ◌<◌, ◌≤◌, Bool, true, false, ◌==◌, ◌&&◌, List, [], ◌∷◌, ◌++◌, Option, None, Some, Ok, refl, sym, ap, ◌∙◌, subst, arith, if◌then◌else◌, inl, inr}
use Rattle.std.specs.List.{slice_get, slice_set}
use Rattle.std.specs.Option.{option_map, option_and_then}
use Rattle.std.proofs.lemmas.Bool.{eqb-true, eqb-false, eq-eqb}
use Rattle.gaspi_types.specs.CallRows.{row_of}
use Rattle.gaspi_types.specs.Groups.{is_building, building_at, handle_of_all, handle_at, with_group, with_added, without_group, with_committed, new_handle}
use Rattle.gaspi_types.specs.Replies.{is_idle}
use Rattle.gaspi_types.specs.World.{ShapeValue, IsShape}
use Rattle.gaspi_types.specs.declared.call_rows.Posting.{Posting}
use Rattle.gaspi_types.specs.declared.calls.Call.{Call}
use Rattle.gaspi_types.specs.declared.calls.Call.TheVariants.{GroupCreate, GroupAdd, GroupDelete}
use Rattle.gaspi_types.specs.declared.collectives.Stage.{Stage}
use Rattle.gaspi_types.specs.declared.collectives.Stage.TheVariants.{Committed}
use Rattle.gaspi_types.specs.declared.events.Event.{Event}
use Rattle.gaspi_types.specs.declared.events.Event.TheVariants.{Called, Joined, Take, Put}
use Rattle.gaspi_types.specs.declared.events.Outcome.{Outcome}
use Rattle.gaspi_types.specs.declared.events.Outcome.TheVariants.{Applied, Failed}
use Rattle.gaspi_types.specs.declared.groups.Handle.{Handle}
use Rattle.gaspi_types.specs.declared.groups.Handles.{Handles}
use Rattle.gaspi_types.specs.declared.replies.Reply.{Reply}
use Rattle.gaspi_types.specs.declared.replies.Reply.TheVariants as replies
use Rattle.gaspi_types.specs.declared.shapes.CallerId.{CallerId}
use Rattle.gaspi_types.specs.declared.shapes.Limits.{Limits}
use Rattle.gaspi_types.proofs.Items.{slice_get-set_same, slice_get-set_other, there-within}
use Rattle.gaspi_model.specs.Calls.{requested_kinds, plain_effect, posts_effect, posts_after}
use Rattle.gaspi_model.specs.RankGroups.{handle_of, is_drop_of}
use Rattle.gaspi_model.specs.Sound.{IsSound}
use Rattle.gaspi_model.specs.State.{opening}
use Rattle.gaspi_model.specs.Step.{step, after, reached, is_legal}
use Rattle.gaspi_model.specs.Transfers.{EntryPosition, PostsAndMemory}
use Rattle.gaspi_model.specs.declared.states.Posts.{Posts}
use Rattle.gaspi_model.specs.declared.states.Memory.{Memory}
use Rattle.gaspi_model.specs.declared.states.State.{State}
use Rattle.gaspi_model.proofs.FoundReplies.{found-reply}
use Rattle.gaspi_model.proofs.GroupFinds.{create-found, add-found, drop-found}
use Rattle.gaspi_model.proofs.Histories.{after-first, after-both, after-limits, leads, reached-sound}
use Rattle.gaspi_types.specs.Collectives.{round_segments}
use Rattle.gaspi_types.specs.declared.calls.Call.TheVariants as calls
use Rattle.gaspi_types.specs.declared.collectives.Coll.{Coll}
use Rattle.gaspi_types.specs.declared.collectives.Coll.TheVariants as colls
use Rattle.gaspi_types.specs.declared.groups.Args.{Args}
use Rattle.gaspi_types.specs.declared.groups.Group.{Group}
use Rattle.gaspi_types.specs.declared.groups.MemberSegment.{MemberSegment}
use Rattle.gaspi_model.specs.Posting.{counted}
use Rattle.gaspi_model.specs.CollectiveCalls.{with_made_known, posts_at_completion, completed_posts, made_posts, joined_posts}
use Rattle.gaspi_model.specs.Step.{PostsAndGroup, group_in}
use Rattle.gaspi_types.proofs.Chains.{bind_then, found_then, check_then, same_Ok}
use Rattle.gaspi_types.specs.declared.replies.Refusal.TheVariants.{NoGroup, GroupStage}
use Rattle.gaspi_model.proofs.CollectiveFinds.{done-found}
use Rattle.gaspi_model.proofs.GroupSteps.{step-completed, step-joined}
use Rattle.gaspi_model.proofs.CollectivePosts.{made-known}
use Rattle.gaspi_model.proofs.Made.{IsTake, IsPut, step-called, step-take, step-put}
use Rattle.gaspi_model.proofs.Same.{same_reply-same}
use Rattle.gaspi_model.proofs.Sound.GroupTables.{entry-set_other, made-there, with_post-groups}
use Rattle.gaspi_model.proofs.Sound.Registered.{IsTold, registering, registered-get}

-- the groups of a rank
abbrev groups_in : Option Posts → Option Handles
groups_in posts = option_map (λ (p : Posts). p.groups) posts

abbrev groups_of : State → ℕ → Option Handles
groups_of s rank = groups_in (slice_get s.posts rank)

-- what a call leaves of the groups of its rank that was answered neither with a refusal nor with a timeout
abbrev groups_done : Handles → Call → Handles
groups_done groups GroupCreate = with_group groups
groups_done groups (GroupAdd call) = with_added groups call.group call.rank
groups_done groups (GroupDelete call) = without_group groups call.group
groups_done groups (calls.Commit call) = with_committed groups call.group
groups_done groups call = groups

abbrev groups_after : Handles → Call → Reply → Handles
groups_after groups call reply = if is_idle reply then groups else groups_done groups call

-- what an event leaves of the groups of a rank
abbrev event_groups : Event → ℕ → Handles → Handles
event_groups (Called c call reply) rank groups = if c.rank == rank then groups_after groups call reply else groups
event_groups transfer rank groups = groups

-- of the posts of all ranks, with those of one replaced
set-groups : (table : List Posts) (place : ℕ) (old new : Posts) (rank : ℕ) → slice_get table place ≡ Some old
    → groups_in (slice_get (slice_set table place new) rank) ≡ (if place == rank then Some new.groups else groups_in (slice_get table rank))
set-groups table place old new rank there = go (place == rank) refl
  where
    go : (b : Bool) → (place == rank) ≡ b → groups_in (slice_get (slice_set table place new) rank) ≡ (if place == rank then Some new.groups else groups_in (slice_get table rank))
    go true is =
        rw is (subst (λ (k : ℕ). groups_in (slice_get (slice_set table place new) k) ≡ Some new.groups) (eqb-true place rank is) (ap groups_in (slice_get-set_same table place old new there)))
    go false is = rw is (ap groups_in (slice_get-set_other table place rank new (λ e. eqb-false place rank is e)))

set-same_groups : (table : List Posts) (place : ℕ) (old new : Posts) (rank : ℕ) → slice_get table place ≡ Some old → new.groups ≡ old.groups
    → groups_in (slice_get (slice_set table place new) rank) ≡ groups_in (slice_get table rank)
set-same_groups table place old new rank there same = set-groups table place old new rank there ∙ go (place == rank) refl
  where
    go : (b : Bool) → (place == rank) ≡ b → (if b then Some new.groups else groups_in (slice_get table rank)) ≡ groups_in (slice_get table rank)
    go true is = ap (λ (g : Handles). Some g) same ∙ subst (λ (k : ℕ). Some old.groups ≡ groups_in (slice_get table k)) (eqb-true place rank is) (sym (ap groups_in there))
    go false is = refl

at_completion-groups : (ranks me : ℕ) (p : Posts) (call : Call) (reply : Reply) (all : List Posts) (rank : ℕ) → groups_in (slice_get (registering ranks me p call reply all) rank) ≡ groups_in (slice_get all rank)
at_completion-groups ranks me p call reply all rank = go (registered-get ranks me p call reply all rank)
  where
    go : IsTold all (registering ranks me p call reply all) rank → groups_in (slice_get (registering ranks me p call reply all) rank) ≡ groups_in (slice_get all rank)
    go (inl same) = ap groups_in same
    go (inr (x, known, before, now)) = ap groups_in now ∙ sym (ap groups_in before)

-- the groups after a call
post-groups : (groups : Handles) (call : Call) (to : Posting) → (row_of call).posting ≡ Some to → groups_done groups call ≡ groups
post-groups groups GroupCreate to is = absurd (let no : ⊥ = cc in no)
post-groups groups (GroupAdd call) to is = absurd (let no : ⊥ = cc in no)
post-groups groups (GroupDelete call) to is = absurd (let no : ⊥ = cc in no)
post-groups groups (calls.Commit call) to is = absurd (let no : ⊥ = cc in no)
post-groups groups other to is = refl

plain-groups : (posts : Posts) (thread : ℕ) (call : Call) → (row_of call).group ≡ None → (plain_effect posts thread call).groups ≡ groups_done posts.groups call
plain-groups posts thread GroupCreate plain = refl
plain-groups posts thread (GroupAdd call) plain = refl
plain-groups posts thread (GroupDelete call) plain = refl
plain-groups posts thread (calls.Commit call) plain = absurd (let no : ⊥ = cc in no)
plain-groups posts thread other plain = refl

called-groups : (limits : Limits) (me : ℕ) (posts : Posts) (thread : ℕ) (call : Call) (reply : Reply) → (row_of call).group ≡ None → (posts_after limits me posts thread call reply).groups ≡ groups_after posts.groups call reply
called-groups limits me posts thread call reply plain = go (is_idle reply) refl
  where
    done : (o : Option Posting) → (row_of call).posting ≡ o → (posts_effect limits me posts thread call).groups ≡ groups_done posts.groups call
    done None none = rw none (plain-groups posts thread call plain)
    done (Some to) post = rw post (with_post-groups posts to.queue to.rank (requested_kinds limits me posts call) ∙ sym (post-groups posts.groups call to post))

    go : (b : Bool) → is_idle reply ≡ b → (posts_after limits me posts thread call reply).groups ≡ groups_after posts.groups call reply
    go true idle = rw idle refl
    go false awake = rw awake (done (row_of call).posting refl)

-- the groups of a rank after a step
same-groups : (o : Option Handles) → o ≡ option_map (λ (g : Handles). g) o
same-groups None = refl
same-groups (Some g) = refl

-- what a collective that is done, and a join, leave of the groups
made-groups : (seg size : ℕ) (made : List MemberSegment) (posts : Posts) → (with_made_known seg size made posts).groups ≡ posts.groups
made-groups seg size made posts = ap (λ (p : Posts). p.groups) (made-known seg size made posts).1

at_completion-left : (group : Group) (me id : ℕ) (call : Call) (posts : Posts) → (row_of call).group ≡ Some id → (posts_at_completion group me id call posts).groups ≡ groups_done posts.groups call
at_completion-left group me id (calls.Commit call) posts named = (let same : call.group ≡ id = cc in ap (with_committed posts.groups) (sym same))
at_completion-left group me id (calls.Create call) posts named = made-groups call.seg call.size (round_segments group me) posts
at_completion-left group me id (calls.Barrier call) posts named = refl
at_completion-left group me id (calls.Allreduce call) posts named = refl
at_completion-left group me id other posts named = absurd (let no : ⊥ = cc in no)

completed-groups : (b : Bool) (posts : Posts) (group : Group) (me id : ℕ) (call : Call) → (row_of call).group ≡ Some id
    → (counted (if b then posts else completed_posts posts group me id call)).groups ≡ (if b then posts.groups else groups_done posts.groups call)
completed-groups true posts group me id call named = refl
completed-groups false posts group me id call named = at_completion-left group me id call posts named

joined-groups : (posts : Posts) (thread id : ℕ) (args : Args) → (counted (joined_posts posts thread id args)).groups ≡ posts.groups
joined-groups posts thread id args = go args.coll
  where
    go : (coll : Coll) → (made_posts posts coll).groups ≡ posts.groups
    go colls.Barrier = refl
    go (colls.Allreduce op t n) = refl
    go (colls.Create seg size) = refl
    go (colls.Commit mask) = refl

by-rank : (s : State) (c : CallerId) (call : Call) (reply : Reply) (rank : ℕ) (posts new : Posts) → slice_get s.posts c.rank ≡ Some posts → new.groups ≡ groups_after posts.groups call reply → (b : Bool) → (c.rank == rank) ≡ b
    → (if b then Some new.groups else groups_of s rank) ≡ option_map (λ (g : Handles). if b then groups_after g call reply else g) (groups_of s rank)
by-rank s c call reply rank posts new there left true is =
    let here : groups_of s rank ≡ Some posts.groups = subst (λ (k : ℕ). groups_of s k ≡ Some posts.groups) (eqb-true c.rank rank is) (ap groups_in there) in
    ap (λ (g : Handles). Some g) left ∙ ap (λ (o : Option Handles). option_map (λ (g : Handles). groups_after g call reply) o) (sym here)
by-rank s c call reply rank posts new there left false is = same-groups (groups_of s rank)

step-groups : (s t : State) (e : Event) (rank : ℕ) → step s e ≡ Ok t → groups_of t rank ≡ option_map (event_groups e rank) (groups_of s rank)
step-groups s t (Joined c id args) rank h =
    let made = step-joined s t c id args h in
    let m = made.2 in
    let left : made.1.posts.groups ≡ made.0.groups = ap (λ (w : PostsAndGroup). w.posts.groups) m.is.leaves ∙ joined-groups made.0 c.thread id args in
    ap (λ (x : State). groups_of x rank) m.leaves
    ∙ set-same_groups s.posts c.rank made.0 made.1.posts rank m.posts_there left
    ∙ same-groups (groups_of s rank)
step-groups s t (Called c call reply) rank h = by-group (row_of call).group refl
  where
    by-group : (o : Option ℕ) → (row_of call).group ≡ o → groups_of t rank ≡ option_map (event_groups (Called c call reply) rank) (groups_of s rank)
    by-group None plain =
        let made = step-called s t c call reply plain h in
        let m = made.3 in
        let left : made.2.posts.groups ≡ groups_after made.0.groups call reply =
        ap (λ (w : PostsAndMemory). w.posts.groups) m.is.leaves ∙ called-groups s.limits c.rank made.0 c.thread call reply plain in
        ap (λ (x : State). groups_of x rank) m.leaves
        ∙ at_completion-groups s.limits.ranks c.rank made.0 call reply (slice_set s.posts c.rank made.2.posts) rank
        ∙ set-groups s.posts c.rank made.0 made.2.posts rank m.posts_there
        ∙ by-rank s c call reply rank made.0 made.2.posts m.posts_there left (c.rank == rank) refl
    by-group (Some id) named =
        let made = step-completed s t c id call reply named h in
        let m = made.2 in
        let left : made.1.posts.groups ≡ groups_after made.0.groups call reply =
        ap (λ (w : PostsAndGroup). w.posts.groups) m.is.leaves ∙ completed-groups (is_idle reply) made.0 (group_in s id) c.rank id call named in
        ap (λ (x : State). groups_of x rank) m.leaves
        ∙ set-groups s.posts c.rank made.0 made.1.posts rank m.posts_there
        ∙ by-rank s c call reply rank made.0 made.1.posts m.posts_there left (c.rank == rank) refl
step-groups s t (Take origin queue target number outcome) rank h =
    let made = step-take s t origin queue target number outcome h in
    let m = made.4 in
    ap (λ (x : State). groups_of x rank) m.leaves
    ∙ set-same_groups s.posts origin made.0 made.2 rank m.posts_there (same-take made.0 made.1 outcome made.2 made.3 m.is)
    ∙ same-groups (groups_of s rank)
  where
    same-take : (posts : Posts) (memory : Memory) (outcome : Outcome) (after : Posts) (at : EntryPosition) → IsTake s.limits posts memory queue target number outcome after at → after.groups ≡ posts.groups
    same-take posts memory Applied after at h = ap (λ (p : Posts). p.groups) h.leaves
    same-take posts memory Failed after at h = ap (λ (p : Posts). p.groups) h.leaves
step-groups s t (Put origin queue target number outcome) rank h =
    let made = step-put s t origin queue target number outcome h in
    let m = made.4 in
    ap (λ (x : State). groups_of x rank) m.leaves
    ∙ set-same_groups s.posts origin made.0 made.2.posts rank m.posts_there (same-put made.0 made.1 outcome made.2 made.3 m.is)
    ∙ same-groups (groups_of s rank)
  where
    same-put : (posts : Posts) (memory : Memory) (outcome : Outcome) (after : PostsAndMemory) (at : EntryPosition) → IsPut posts memory queue target number outcome after at → after.posts.groups ≡ posts.groups
    same-put posts memory Applied after at h = ap (λ (w : PostsAndMemory). w.posts.groups) h.leaves
    same-put posts memory Failed after at h = ap (λ (w : PostsAndMemory). w.posts.groups) h.leaves

-- how many groups a rank has made: never fewer later, and one more by each group that is made
abbrev made_in : Option Handles → ℕ
made_in None = 0
made_in (Some groups) = groups.last_id

done-made : (groups : Handles) (call : Call) → groups.last_id ≤ (groups_done groups call).last_id
done-made groups GroupCreate = omega arith
done-made groups other = omega arith

event-made : (groups : Handles) (e : Event) (rank : ℕ) → groups.last_id ≤ (event_groups e rank groups).last_id
event-made groups (Called c call reply) rank = go (c.rank == rank) (is_idle reply)
  where
    go : (mine idle : Bool) → groups.last_id ≤ (if mine then (if idle then groups else groups_done groups call) else groups).last_id
    go false idle = omega arith
    go true true = omega arith
    go true false = done-made groups call
event-made groups transfer rank = omega arith

option-made : (o : Option Handles) (e : Event) (rank : ℕ) → made_in o ≤ made_in (option_map (event_groups e rank) o)
option-made None e rank = omega arith
option-made (Some groups) e rank = event-made groups e rank

after-made : (s t : State) (events : List Event) (rank : ℕ) → after s events ≡ Ok t → made_in (groups_of s rank) ≤ made_in (groups_of t rank)
after-made s t [] rank h = (let same : s ≡ t = cc in let made = ap (λ (x : State). made_in (groups_of x rank)) same in omega arith)
after-made s t (e ∷ events) rank h =
    let first = after-first s t e events h in
    let one = option-made (groups_of s rank) e rank in
    let is = ap made_in (step-groups s first.0 e rank first.1) in
    let rest = after-made first.0 t events rank first.2 in
    omega arith

same-id : (a b : ℕ) → replies.Id a ≡ replies.Id b → a ≡ b
same-id a b h = cc

create-made : (s t : State) (c : CallerId) (id : ℕ) → step s (Called c GroupCreate (replies.Id id)) ≡ Ok t → (id ≡ made_in (groups_of s c.rank) + 1) × (made_in (groups_of t c.rank) ≡ id)
create-made s t c id h =
    let made = step-called s t c GroupCreate (replies.Id id) refl h in
    let m = made.3 in
    let found = create-found made.0 (replies.Id id) (found-reply s.limits c.rank made.0 made.1 c.thread GroupCreate (replies.Id id) (same_reply-same _ _ m.is.answered) refl) in
    let here : groups_of s c.rank ≡ Some made.0.groups = ap groups_in m.posts_there in
    let next : id ≡ made.0.groups.last_id + 1 = same-id id (made.0.groups.last_id + 1) found.answers in
    let before : made_in (groups_of s c.rank) ≡ made.0.groups.last_id = ap made_in here in
    let mine = eq-eqb c.rank c.rank refl in
    let later : made_in (groups_of t c.rank) ≡ made.0.groups.last_id + 1 = ap made_in (step-groups s t (Called c GroupCreate (replies.Id id)) c.rank h)
    ∙ ap (λ (o : Option Handles). made_in (option_map (event_groups (Called c GroupCreate (replies.Id id)) c.rank) o)) here
    ∙ ap (λ (b : Bool). (if b then with_group made.0.groups else made.0.groups).last_id) mine in
    (omega arith, omega arith)

pub numbers-rise : (w : ShapeValue) (earlier later rest : List Event) (c d : CallerId) (m n : ℕ) → c.rank ≡ d.rank
    → is_legal w (earlier ++ Called c GroupCreate (replies.Id m) ∷ later ++ Called d GroupCreate (replies.Id n) ∷ rest) ≡ true → m < n
numbers-rise w earlier later rest c d m n same legal =
    let one : Event = Called c GroupCreate (replies.Id m) in
    let two : Event = Called d GroupCreate (replies.Id n) in
    let end = leads (reached w (earlier ++ one ∷ later ++ two ∷ rest)) legal in
    let last = after-both (opening w) end.0 (earlier ++ one ∷ later) (two ∷ rest) end.1 in
    let second = after-first last.0 end.0 two rest last.2 in
    let start = after-both (opening w) last.0 earlier (one ∷ later) last.1 in
    let first = after-first start.0 last.0 one later start.2 in
    let made = create-made start.0 first.0 c m first.1 in
    let more = after-made first.0 last.0 later c.rank first.2 in
    let again = create-made last.0 second.0 d n second.1 in
    let there = ap (λ (k : ℕ). made_in (groups_of last.0 k)) same in
    let m_is = made.1 in
    let n_is = again.0 in
    omega arith

-- A committed group stays.
handle-groups : (s : State) (rank id : ℕ) → handle_of s rank id ≡ option_and_then (λ (g : Handles). handle_at g id) (groups_of s rank)
handle-groups s rank id = go (slice_get s.posts rank) refl
  where
    go : (o : Option Posts) → slice_get s.posts rank ≡ o → handle_of s rank id ≡ option_and_then (λ (g : Handles). handle_at g id) (groups_of s rank)
    go None at = rw at refl
    go (Some posts) at = rw at refl

-- where the posts of a rank have such groups, what becomes of them by a step tells what becomes of a group
handle-after : (s t : State) (e : Event) (rank id : ℕ) (posts : Posts) (h : Handle) → step s e ≡ Ok t → slice_get s.posts rank ≡ Some posts → handle_at (event_groups e rank posts.groups) id ≡ Some h
    → handle_of t rank id ≡ Some h
handle-after s t e rank id posts h made there is =
    handle-groups t rank id
    ∙ ap (option_and_then (λ (g : Handles). handle_at g id)) (step-groups s t e rank made ∙ ap (λ (o : Option Posts). option_map (event_groups e rank) (groups_in o)) there)
    ∙ is

building-apart : (h : Handle) → h.stage ≡ Committed → is_building h.stage ≡ true → ⊥
building-apart h committed building = (let is : is_building Committed ≡ true = subst (λ (x : Stage). is_building x ≡ true) committed building in let no : ⊥ = cc in no)

same-handle : (groups : Handles) (a b : ℕ) (x y : Handle) → a ≡ b → handle_at groups a ≡ Some x → handle_at groups b ≡ Some y → x ≡ y
same-handle groups a b x y same ha hb =
    let some : ◌≡◌ {A = Option Handle} (Some x) (Some y) = sym ha ∙ ap (handle_at groups) same ∙ hb in cc

building-there : (groups : Handles) (id : ℕ) (h : Handle) → building_at groups id ≡ Ok h → (handle_at groups id ≡ Some h) × (is_building h.stage ≡ true)
building-there groups id h is =
    found_then (handle_at groups id) NoGroup _ h is (λ x there h1.
    check_then (is_building x.stage) (GroupStage x.stage) _ h h1 (λ building h2.
    let same : x ≡ h = same_Ok _ _ h2 in
    (there ∙ ap (λ (y : Handle). Some y) same, subst (λ (y : Handle). is_building y.stage ≡ true) same building)))

call-keeps : (s t : State) (c : CallerId) (call : Call) (reply : Reply) (id : ℕ) (posts : Posts) (h : Handle) → IsSound s → step s (Called c call reply) ≡ Ok t → slice_get s.posts c.rank ≡ Some posts
    → handle_at posts.groups id ≡ Some h → h.stage ≡ Committed → is_drop_of c.rank id (Called c call reply) ≡ false → is_idle reply ≡ false → handle_at (groups_done posts.groups call) id ≡ Some h
call-keeps s t c GroupCreate reply id posts h sound made there at committed kept awake =
    let few = made-there s.limits.ranks posts.groups id h (sound.posts c.rank posts there).groups at in
    entry-set_other posts.groups.table (posts.groups.last_id + 1) id (Some new_handle) (λ same. (let no : ⊥ = omega arith in no)) ∙ at
call-keeps s t c (GroupAdd call) reply id posts h sound made there at committed kept awake =
    let called = step-called s t c (GroupAdd call) reply refl made in
    let m = called.3 in
    let same : called.0 ≡ posts = (let some : ◌≡◌ {A = Option Posts} (Some called.0) (Some posts) = sym m.posts_there ∙ there in cc) in
    let finds = found-reply s.limits c.rank called.0 called.1 c.thread (GroupAdd call) reply (same_reply-same _ _ m.is.answered) awake in
    let found = add-found s.limits called.0 call reply finds in
    let theirs : handle_at posts.groups call.group ≡ Some found.handle = subst (λ (p : Posts). handle_at p.groups call.group ≡ Some found.handle) same found.there in
    entry-set_other posts.groups.table call.group id _ (λ is.
    building-apart h committed (subst (λ (x : Handle). is_building x.stage ≡ true) (same-handle posts.groups call.group id found.handle h is theirs at) found.building)) ∙ at
call-keeps s t c (GroupDelete call) reply id posts h sound made there at committed kept awake =
    let called = step-called s t c (GroupDelete call) reply refl made in
    let m = called.3 in
    let finds = found-reply s.limits c.rank called.0 called.1 c.thread (GroupDelete call) reply (same_reply-same _ _ m.is.answered) awake in
    let found = drop-found called.0 call reply finds in
    let done : is_drop_of c.rank id (Called c (GroupDelete call) replies.Done) ≡ false = subst (λ (r : Reply). is_drop_of c.rank id (Called c (GroupDelete call) r) ≡ false) found.done kept in
    entry-set_other posts.groups.table call.group id None (λ is.
    (let dropped : ((c.rank == c.rank) && (call.group == id)) ≡ true = rw (eq-eqb c.rank c.rank refl, eq-eqb call.group id is) refl in let no : ⊥ = cc in no)) ∙ at
call-keeps s t c (calls.Commit call) reply id posts h sound made there at committed kept awake =
    let met = step-completed s t c call.group (calls.Commit call) reply refl made in
    let m = met.2 in
    let same : met.0 ≡ posts = (let some : ◌≡◌ {A = Option Posts} (Some met.0) (Some posts) = sym m.posts_there ∙ there in cc) in
    let found = done-found met.0 (group_in s call.group) c.rank c.thread call.group (calls.Commit call) reply m.is.answered awake in
    bind_then (building_at met.0.groups call.group) _ found.0 found.2.staged (λ handle built h1.
    let theirs = building-there posts.groups call.group handle (subst (λ (p : Posts). building_at p.groups call.group ≡ Ok handle) same built) in
    entry-set_other posts.groups.table call.group id _ (λ is.
    building-apart h committed (subst (λ (x : Handle). is_building x.stage ≡ true) (same-handle posts.groups call.group id handle h is theirs.0 at) theirs.1)) ∙ at)
call-keeps s t c other reply id posts h sound made there at committed kept awake = at

pub committed-kept : (s t : State) (e : Event) (rank id : ℕ) (h : Handle) → IsSound s → step s e ≡ Ok t → handle_of s rank id ≡ Some h → h.stage ≡ Committed → is_drop_of rank id e ≡ false
    → handle_of t rank id ≡ Some h
committed-kept s t e rank id h sound made there committed kept = go (slice_get s.posts rank) refl
  where
    event : (e : Event) (posts : Posts) → step s e ≡ Ok t → slice_get s.posts rank ≡ Some posts → handle_at posts.groups id ≡ Some h → is_drop_of rank id e ≡ false
        → handle_at (event_groups e rank posts.groups) id ≡ Some h
    event (Called c call reply) posts made there at kept = by-rank (c.rank == rank) refl (is_idle reply) refl
      where
        by-rank : (mine : Bool) → (c.rank == rank) ≡ mine → (idle : Bool) → is_idle reply ≡ idle → handle_at (if mine then (if idle then posts.groups else groups_done posts.groups call) else posts.groups) id ≡ Some h
        by-rank false is idle asleep = at
        by-rank true is true asleep = at
        by-rank true is false awake =
            let here = eqb-true c.rank rank is in
            let here_there = subst (λ (k : ℕ). slice_get s.posts k ≡ Some posts) (sym here) there in
            let here_kept = subst (λ (k : ℕ). is_drop_of k id (Called c call reply) ≡ false) (sym here) kept in
            call-keeps s t c call reply id posts h sound made here_there at committed here_kept awake
    event (Joined c k args) posts made there at kept = at
    event (Take origin queue target number outcome) posts made there at kept = at
    event (Put origin queue target number outcome) posts made there at kept = at

    go : (o : Option Posts) → slice_get s.posts rank ≡ o → handle_of t rank id ≡ Some h
    go None at = absurd (let none = rw at at there in let no : ⊥ = cc in no)
    go (Some posts) at =
        let is : handle_at posts.groups id ≡ Some h = rw at at there in
        handle-after s t e rank id posts h made at (event e posts made at is kept)

-- group 0 has every rank, and stays so
pub all-ranks : (w : ShapeValue) (history : List Event) (s : State) (rank : ℕ) → IsShape w → reached w history ≡ Ok s → rank < w.limits.ranks → handle_of s rank 0 ≡ Some (handle_of_all w.limits.ranks)
all-ranks w history s rank world h less =
    let sound = reached-sound w history s world h in
    let limits = after-limits (opening w) s history h in
    let ranks : s.limits.ranks ≡ w.limits.ranks = ap (λ (l : Limits). l.ranks) limits in
    let posts = there-within s.posts rank (let many = sound.ranks in omega arith) in
    in-posts posts.0 posts.1 ((sound.posts rank posts.0 posts.1).groups.all ∙ ap (λ (n : ℕ). Some (handle_of_all n)) ranks)
  where
    in-posts : (posts : Posts) → slice_get s.posts rank ≡ Some posts → handle_at posts.groups 0 ≡ Some (handle_of_all w.limits.ranks) → handle_of s rank 0 ≡ Some (handle_of_all w.limits.ranks)
    in-posts posts at is = rw at is
