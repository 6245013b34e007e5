-- What an event on no group keeps of what ranks have to do with groups.
use Rattle.std.proofs.Common.{◌≡◌, ℕ, ◌+◌, ◌<◌, ◌≤◌, Bool, true, false, List, Option, None, Some, Result, Ok, Err, refl, sym, ap, ◌∙◌, subst, arith, ◌⊎◌, inl, inr}
use Rattle.std.specs.List.{slice_get, slice_set}
use Rattle.std.specs.Option.{option_map}
use Rattle.gaspi_types.specs.CallRows.{row_of}
use Rattle.gaspi_types.specs.Groups.{is_building, new_handle, handle_at}
use Rattle.gaspi_types.specs.Masks.{with_member}
use Rattle.gaspi_types.specs.Replies.{is_idle}
use Rattle.gaspi_types.specs.Tables.{item_at}
use Rattle.gaspi_types.specs.declared.call_rows.Posting.{Posting}
use Rattle.gaspi_types.specs.declared.calls.Call.{Call}
use Rattle.gaspi_types.specs.declared.calls.Call.TheVariants.{GroupCreate, GroupAdd, GroupDelete}
use Rattle.gaspi_types.specs.declared.collectives.Stage.{Stage}
use Rattle.gaspi_types.specs.declared.collectives.Stage.TheVariants.{Building, Committed}
use Rattle.gaspi_types.specs.declared.entries.Kind.{Kind}
use Rattle.gaspi_types.specs.declared.events.Outcome.{Outcome}
use Rattle.gaspi_types.specs.declared.events.Outcome.TheVariants.{Applied, Failed}
use Rattle.gaspi_types.specs.declared.events.Event.TheVariants.{Called, Take, Put}
use Rattle.gaspi_types.specs.declared.groups.Handle.{Handle}
use Rattle.gaspi_types.specs.declared.groups.Handles.{Handles}
use Rattle.gaspi_types.specs.declared.groups.PendingCollective.{PendingCollective}
use Rattle.gaspi_types.specs.declared.replies.Refusal.{Refusal}
use Rattle.gaspi_types.specs.declared.replies.Reply.{Reply}
use Rattle.gaspi_types.specs.declared.segments.Extent.{Extent}
use Rattle.gaspi_types.specs.declared.shapes.CallerId.{CallerId}
use Rattle.gaspi_types.specs.declared.shapes.Limits.{Limits}
use Rattle.gaspi_model.specs.Calls.{plain_result, plain_effect, posts_effect, posts_after, call_result, requested_kinds, answer, recorded_reply}
use Rattle.gaspi_model.specs.Contributions.{AreSoundCollectives}
use Rattle.gaspi_model.specs.Posting.{with_post, counted}
use Rattle.gaspi_model.specs.Sound.{IsSound}
use Rattle.gaspi_model.specs.Step.{step}
use Rattle.gaspi_model.specs.Transfers.{EntryPosition, PostsAndMemory}
use Rattle.gaspi_model.specs.declared.states.Posts.{Posts}
use Rattle.gaspi_model.specs.declared.states.Memory.{Memory}
use Rattle.gaspi_model.specs.declared.states.State.{State}
use Rattle.gaspi_types.proofs.Items.{same-or-not}
use Rattle.gaspi_model.proofs.FoundReplies.{found-reply}
use Rattle.gaspi_model.proofs.GroupFinds.{add-found, drop-found}
use Rattle.gaspi_model.proofs.Made.{IsTake, IsPut}
use Rattle.gaspi_model.proofs.Same.{same_reply-same}
use Rattle.gaspi_model.proofs.OnPostsAndMemory.{sound-called, sound-take, sound-put}
use Rattle.gaspi_model.specs.Changes.{IsOnlyCounted}
use Rattle.gaspi_model.proofs.Sound.CoherentSteps.{ComesFrom, called-from, take-from, put-from, idle-from}
use Rattle.gaspi_model.proofs.Sound.Contributions.{StaysPosts, collectives-stay, at-set}
use Rattle.gaspi_model.proofs.Sound.GroupTables.{entry-set, entry-set_other}
use Rattle.gaspi_model.specs.Coherence.{tables_of}
use Rattle.gaspi_model.proofs.Sound.Successors.{Succeeds}
use Rattle.gaspi_model.proofs.Sound.Registered.{registering, registered-from}

-- the pendings, the groups and the count of events of a rank, segments aside
pub record KeepsGroups (before after : Posts) : Type 0 where
  pub pending : after.pending ≡ before.pending
  pub events : before.events ≤ after.events
  pub made : before.groups.last_id ≤ after.groups.last_id
  pub building : (id : ℕ) (h : Handle) → handle_at after.groups id ≡ Some h → h.stage ≡ Building
      → ((k : Handle) × (handle_at before.groups id ≡ Some k) × (k.stage ≡ Building)) ⊎ (before.groups.last_id < id)
  pub committed : (id : ℕ) (h : Handle) → handle_at after.groups id ≡ Some h → h.stage ≡ Committed → handle_at before.groups id ≡ Some h
  pub held : (id : ℕ) (h : Handle) (p : PendingCollective) → item_at before.pending id ≡ Some p → id ≤ before.groups.last_id → handle_at before.groups id ≡ Some h → handle_at after.groups id ≡ Some h

-- the same groups
pub same-groups : (before after : Posts) → after.pending ≡ before.pending → before.events ≤ after.events → after.groups ≡ before.groups → KeepsGroups before after
same-groups before after pending events groups = record {
  pending = pending;
  events = events;
  made = (let same = ap (λ (g : Handles). g.last_id) groups in omega arith);
  building = λ id h at stage. inl (h, sym (ap (λ (g : Handles). handle_at g id) groups) ∙ at, stage);
  committed = λ id h at stage. sym (ap (λ (g : Handles). handle_at g id) groups) ∙ at;
  held = λ id h p pends made there. ap (λ (g : Handles). handle_at g id) groups ∙ there;
}

-- a group on which nothing is pending may change
other-held : (posts : Posts) (place : ℕ) (x : Option Handle) → item_at posts.pending place ≡ None → (id : ℕ) (h : Handle) (p : PendingCollective) → item_at posts.pending id ≡ Some p → handle_at posts.groups id ≡ Some h
    → item_at (slice_set posts.groups.table place x) id ≡ Some h
other-held posts place x idle id h p pends there = same-or-not place id
    (λ same.
    absurd (let none : ◌≡◌ {A = Option PendingCollective} None (Some p) = sym (subst (λ (n : ℕ). item_at posts.pending n ≡ None) same idle) ∙ pends in let no : ⊥ = cc in no))
    (λ apart. entry-set_other posts.groups.table place id x apart ∙ there)

building-not : (s : Stage) → s ≡ Committed → is_building s ≡ true → ⊥
building-not s committed building = (let is : is_building Committed ≡ true = subst (λ (x : Stage). is_building x ≡ true) committed building in let no : ⊥ = cc in no)

is-building : (s : Stage) → is_building s ≡ true → s ≡ Building
is-building Building h = refl
is-building Committed h = absurd (let no : ⊥ = cc in no)

plain-keeps : (limits : Limits) (me : ℕ) (posts : Posts) (memory : Memory) (thread : ℕ) (call : Call) (reply : Reply) → plain_result limits me posts memory call ≡ Ok (Some reply) → KeepsGroups posts (plain_effect posts thread call)
plain-keeps limits me posts memory thread GroupCreate reply finds = record {
  pending = refl;
  events = omega arith;
  made = omega arith;
  building = λ id h at stage. building id h stage (entry-set posts.groups.table (posts.groups.last_id + 1) id (Some new_handle) h at);
  committed = λ id h at stage. committed id h stage (entry-set posts.groups.table (posts.groups.last_id + 1) id (Some new_handle) h at);
  held = λ id h p pends within there. entry-set_other posts.groups.table (posts.groups.last_id + 1) id (Some new_handle) (λ same. omega arith) ∙ there;
}
  where
    building : (id : ℕ) (h : Handle) → h.stage ≡ Building → ((id ≡ posts.groups.last_id + 1) × (◌≡◌ {A = Option Handle} (Some new_handle) (Some h))) ⊎ (handle_at posts.groups id ≡ Some h)
        → ((k : Handle) × (handle_at posts.groups id ≡ Some k) × (k.stage ≡ Building)) ⊎ (posts.groups.last_id < id)
    building id h stage (inl new) = inr (let is = new.0 in omega arith)
    building id h stage (inr was) = inl (h, was, stage)

    committed : (id : ℕ) (h : Handle) → h.stage ≡ Committed → ((id ≡ posts.groups.last_id + 1) × (◌≡◌ {A = Option Handle} (Some new_handle) (Some h))) ⊎ (handle_at posts.groups id ≡ Some h) → handle_at posts.groups id ≡ Some h
    committed id h stage (inl new) = absurd (let same : new_handle ≡ h = (let some = new.1 in cc) in let is : Building ≡ Committed = ap (λ (x : Handle). x.stage) same ∙ stage in let no : ⊥ = cc in no)
    committed id h stage (inr was) = was
plain-keeps limits me posts memory thread (GroupAdd call) reply finds =
    let found = add-found limits posts call reply finds in
    record {
      pending = refl;
      events = omega arith;
      made = omega arith;
      building = λ id h at stage. building found.handle found.there (is-building found.handle.stage found.building) id h stage (entry-set posts.groups.table call.group id _ h at);
      committed = λ id h at stage. committed found.handle found.there found.building id h stage (entry-set posts.groups.table call.group id _ h at);
      held = λ id h p pends within there. other-held posts call.group _ found.idle id h p pends there;
    }
  where
    added : Handle → Handle
    added x = record x { members = with_member x.members call.rank }

    building : (k : Handle) → handle_at posts.groups call.group ≡ Some k → k.stage ≡ Building → (id : ℕ) (h : Handle) → h.stage ≡ Building
        → ((id ≡ call.group) × (option_map (λ (x : Handle). record x { members = with_member x.members call.rank }) (handle_at posts.groups call.group) ≡ Some h)) ⊎ (handle_at posts.groups id ≡ Some h)
        → ((k : Handle) × (handle_at posts.groups id ≡ Some k) × (k.stage ≡ Building)) ⊎ (posts.groups.last_id < id)
    building k there is id h stage (inl new) = inl (k, subst (λ (n : ℕ). handle_at posts.groups n ≡ Some k) (sym new.0) there, is)
    building k there is id h stage (inr was) = inl (h, was, stage)

    committed : (k : Handle) → handle_at posts.groups call.group ≡ Some k → is_building k.stage ≡ true → (id : ℕ) (h : Handle) → h.stage ≡ Committed
        → ((id ≡ call.group) × (option_map (λ (x : Handle). record x { members = with_member x.members call.rank }) (handle_at posts.groups call.group) ≡ Some h)) ⊎ (handle_at posts.groups id ≡ Some h)
        → handle_at posts.groups id ≡ Some h
    committed k there building id h stage (inl new) =
        absurd (let some : ◌≡◌ {A = Option Handle} (Some (record k { members = with_member k.members call.rank })) (Some h) = sym (ap (option_map (λ (x : Handle). record x { members = with_member x.members call.rank })) there) ∙ new.1 in
        let same : record k { members = with_member k.members call.rank } ≡ h = cc in
        building-not k.stage (ap (λ (x : Handle). x.stage) same ∙ stage) building)
    committed k there building id h stage (inr was) = was
plain-keeps limits me posts memory thread (GroupDelete call) reply finds = record {
  held = λ id h p pends within there. other-held posts call.group None (drop-found posts call reply finds).idle id h p pends there;
  pending = refl;
  events = omega arith;
  made = omega arith;
  building = λ id h at stage. inl (h, was id h (entry-set posts.groups.table call.group id None h at), stage);
  committed = λ id h at stage. was id h (entry-set posts.groups.table call.group id None h at);
}
  where
    was : (id : ℕ) (h : Handle) → ((id ≡ call.group) × (None ≡ Some h)) ⊎ (handle_at posts.groups id ≡ Some h) → handle_at posts.groups id ≡ Some h
    was id h (inl none) = absurd (let gone = none.1 in let no : ⊥ = cc in no)
    was id h (inr there) = there
plain-keeps limits me posts memory thread other reply finds = same-groups posts (plain_effect posts thread other) refl (omega arith) refl

post-keeps : (posts : Posts) (queue target : ℕ) (asked : Result (List Kind) Refusal) → KeepsGroups posts (with_post posts queue target asked)
post-keeps posts queue target (Ok kinds) = same-groups posts (with_post posts queue target (Ok kinds)) refl (omega arith) refl
post-keeps posts queue target (Err refusal) = same-groups posts posts refl (omega arith) refl

counted-keeps : (before after : Posts) → KeepsGroups before after → KeepsGroups before (counted after)
counted-keeps before after keeps = record { pending = keeps.pending; events = (let more = keeps.events in omega arith); made = keeps.made; building = keeps.building; committed = keeps.committed; held = keeps.held }

called-keeps : (limits : Limits) (me : ℕ) (posts : Posts) (memory : Memory) (thread : ℕ) (call : Call) (reply : Reply) → reply ≡ recorded_reply (answer limits me posts memory thread call)
    → KeepsGroups posts (posts_after limits me posts thread call reply)
called-keeps limits me posts memory thread call reply is = go (is_idle reply) refl
  where
    done : call_result limits me posts memory call ≡ Ok (Some reply) → (o : Option Posting) → (row_of call).posting ≡ o → KeepsGroups posts (posts_effect limits me posts thread call)
    done finds None none = rw none (plain-keeps limits me posts memory thread call reply (rw none at finds))
    done finds (Some to) post = rw post (post-keeps posts to.queue to.rank (requested_kinds limits me posts call))

    go : (b : Bool) → is_idle reply ≡ b → KeepsGroups posts (posts_after limits me posts thread call reply)
    go true idle = rw idle (same-groups posts (counted posts) refl (omega arith) refl)
    go false awake = rw awake (counted-keeps posts _ (done (found-reply limits me posts memory thread call reply is awake) (row_of call).posting refl))

itself : (posts : Posts) → KeepsGroups posts posts
itself posts = same-groups posts posts refl (omega arith) refl

-- of all ranks
abbrev pub KeepAll : State → State → Type 0
KeepAll s t = (rank : ℕ) (after : Posts) → slice_get t.posts rank ≡ Some after → (before : Posts) × (slice_get s.posts rank ≡ Some before) × KeepsGroups before after

pub one-keeps : (table : List Posts) (me : ℕ) (posts new : Posts) → slice_get table me ≡ Some posts → KeepsGroups posts new
    → (rank : ℕ) (after : Posts) → slice_get (slice_set table me new) rank ≡ Some after → (before : Posts) × (slice_get table rank ≡ Some before) × KeepsGroups before after
one-keeps table me posts new there keeps rank after at =
    at-set {P = (before : Posts) × (slice_get table rank ≡ Some before) × KeepsGroups before after} table me posts new rank after there at
    (λ same is. (posts, subst (λ (k : ℕ). slice_get table k ≡ Some posts) same there, rw is keeps))
    (λ apart was. (after, was, itself after))

known-keeps : (before x : Posts) (known : List (List (Option Extent))) → KeepsGroups before x → KeepsGroups before (record x { segments = record x.segments { known = known } })
known-keeps before x known keeps = record { pending = keeps.pending; events = keeps.events; made = keeps.made; building = keeps.building; committed = keeps.committed; held = keeps.held }

pub plain-collectives : (s t : State) → AreSoundCollectives s → ComesFrom s t → t.groups ≡ s.groups → KeepAll s t → AreSoundCollectives t
plain-collectives s t sound from groups keeps = collectives-stay s t sound from.limits groups (λ rank after at.
    let k = keeps rank after at in
    let f = from.posts rank after at in
    let same : f.0 ≡ k.0 = (let some : ◌≡◌ {A = Option Posts} (Some f.0) (Some k.0) = sym f.1 ∙ k.1 in cc) in
    (k.0, k.1, stays k.0 f.0 after same k.2 f.2.succeeds))
  where
    stays : (before other after : Posts) → other ≡ before → KeepsGroups before after → Succeeds (tables_of other) (tables_of after) → StaysPosts before after
    stays before other after same keeps succeeds = record {
      pending = keeps.pending;
      events = keeps.events;
      made = keeps.made;
      building = keeps.building;
      committed = keeps.committed;
      held = keeps.held;
      succeeds = subst (λ (x : Posts). Succeeds (tables_of x) (tables_of after)) same succeeds;
    }

pub called-collectives : (s t : State) (c : CallerId) (call : Call) (reply : Reply) → (row_of call).group ≡ None → IsSound s → step s (Called c call reply) ≡ Ok t → AreSoundCollectives t
called-collectives s t c call reply plain sound h =
    let made = sound-called s t c call reply plain sound h in
    let m = made.3 in
    let keeps = called-keeps s.limits c.rank made.0 made.1 c.thread call reply (same_reply-same _ _ m.is.answered) in
    plain-collectives s t sound.collectives (called-from s t c call reply plain sound h) (ap (λ (x : State). x.groups) m.leaves)
    (λ rank after at.
    let there : slice_get (registering s.limits.ranks c.rank made.0 call reply (slice_set s.posts c.rank made.2.posts)) rank ≡ Some after = ap (λ (x : State). slice_get x.posts rank) (sym m.leaves) ∙ at in
    let from = registered-from s.limits.ranks c.rank made.0 call reply (slice_set s.posts c.rank made.2.posts) rank after there in
    let one = one-keeps s.posts c.rank made.0 made.2.posts m.posts_there (rw m.is.leaves keeps) rank from.0 from.2 in
    (one.0, one.1, subst (λ (x : Posts). KeepsGroups one.0 x) (sym from.3) (known-keeps one.0 from.0 from.1 one.2)))

pub take-collectives : (s t : State) (origin queue target number : ℕ) (outcome : Outcome) → IsSound s → step s (Take origin queue target number outcome) ≡ Ok t → AreSoundCollectives t
take-collectives s t origin queue target number outcome sound h =
    let made = sound-take s t origin queue target number outcome sound h in
    let m = made.4 in
    plain-collectives s t sound.collectives (take-from s t origin queue target number outcome sound h) (ap (λ (x : State). x.groups) m.leaves)
    (λ rank after at.
    one-keeps s.posts origin made.0 made.2 m.posts_there (taken made.0 made.1 outcome made.2 made.3 m.is) rank after (ap (λ (x : State). slice_get x.posts rank) (sym m.leaves) ∙ at))
  where
    taken : (posts : Posts) (memory : Memory) (outcome : Outcome) (after : Posts) (at : EntryPosition) → IsTake s.limits posts memory queue target number outcome after at → KeepsGroups posts after
    taken posts memory Applied after at is = rw is.leaves (same-groups posts _ refl (omega arith) refl)
    taken posts memory Failed after at is = rw is.leaves (same-groups posts _ refl (omega arith) refl)

pub put-collectives : (s t : State) (origin queue target number : ℕ) (outcome : Outcome) → IsSound s → step s (Put origin queue target number outcome) ≡ Ok t → AreSoundCollectives t
put-collectives s t origin queue target number outcome sound h =
    let made = sound-put s t origin queue target number outcome sound h in
    let m = made.4 in
    plain-collectives s t sound.collectives (put-from s t origin queue target number outcome sound h) (ap (λ (x : State). x.groups) m.leaves)
    (λ rank after at.
    one-keeps s.posts origin made.0 made.2.posts m.posts_there (put made.0 made.1 outcome made.2 made.3 m.is) rank after (ap (λ (x : State). slice_get x.posts rank) (sym m.leaves) ∙ at))
  where
    put : (posts : Posts) (memory : Memory) (outcome : Outcome) (after : PostsAndMemory) (at : EntryPosition) → IsPut posts memory queue target number outcome after at → KeepsGroups posts after.posts
    put posts memory Applied after at is = rw is.leaves (same-groups posts _ refl (omega arith) refl)
    put posts memory Failed after at is = rw is.leaves (same-groups posts _ refl (omega arith) refl)

-- a refusal or a timeout
pub idle-collectives : (s t : State) (rank : ℕ) → IsSound s → IsOnlyCounted s t rank → AreSoundCollectives t
idle-collectives s t rank sound only =
    plain-collectives s t sound.collectives (idle-from s t rank sound only) (ap (λ (x : State). x.groups) only.after)
    (λ r after at.
    one-keeps s.posts rank only.posts (counted only.posts) only.there (same-groups only.posts (counted only.posts) refl (omega arith) refl) r after (ap (λ (x : State). slice_get x.posts r) (sym only.after) ∙ at))
