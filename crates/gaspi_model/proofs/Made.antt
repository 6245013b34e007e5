-- What a transfer that was made says, and what a call that was recorded says.
use Rattle.std.proofs.Common.{◌≡◌, ℕ, zero, suc, ◌+◌, Bool, true, false, ◌==◌, nat_lt, if◌then◌else◌, ◌⊎◌, inl, inr, List, [], ◌∷◌, Option, None, Some, Ok, refl, sym, ap, ◌∙◌, subst, is_none, length, nat_le}
use Rattle.std.specs.List.{slice_get, slice_set}
use Rattle.gaspi_types.specs.Lanes.{may_take, may_put}
use Rattle.gaspi_types.specs.Replies.{same_reply}
use Rattle.std.specs.Option.{option_map}
use Rattle.std.proofs.lemmas.Bool.{eq-eqb}
use Rattle.std.proofs.lemmas.List.{length-set}
use Rattle.gaspi_types.specs.CallRows.{row_of}
use Rattle.gaspi_types.specs.Footprints.{footprint_of, take_footprint, put_footprint}
use Rattle.gaspi_types.specs.declared.entries.Entry.{Entry}
use Rattle.gaspi_types.specs.declared.entries.Kind.{Kind}
use Rattle.gaspi_types.specs.declared.entries.Kind.TheVariants.{Write, Read, Notify, ReadNote}
use Rattle.gaspi_types.specs.declared.footprints.DeclaredFootprint.{DeclaredFootprint}
use Rattle.gaspi_types.specs.declared.footprints.DeclaredFootprint.TheVariants as touches
use Rattle.gaspi_types.specs.declared.groups.Group as groups
use Rattle.gaspi_types.specs.declared.footprints.Footprint.{Footprint}
use Rattle.gaspi_types.specs.declared.footprints.Footprint.TheVariants.{Alone, OwnMemory, PeerMemory, BothMemories, PeerPosts, Group, GroupAndMemory}
use Rattle.gaspi_types.specs.declared.shapes.Limits.{Limits}
use Rattle.gaspi_types.specs.declared.shapes.CallerId.{CallerId}
use Rattle.gaspi_types.specs.declared.calls.Call.{Call}
use Rattle.gaspi_types.specs.declared.replies.Reply.{Reply}
use Rattle.gaspi_types.specs.declared.events.Outcome.{Outcome}
use Rattle.gaspi_types.specs.declared.events.Event.TheVariants.{Called, Take, Put}
use Rattle.gaspi_model.specs.State.{owed, thread_at}
use Rattle.gaspi_types.specs.Tables.{changed_at}
use Rattle.gaspi_model.specs.Calls.{answer, recorded_reply, charge, posts_after, memory_after, peer_after}
use Rattle.gaspi_model.specs.Transfers.{EntryPosition, find_entry, take_result, take, put, source_bytes, memory_with, memory_after_put, take_outcome, put_outcome, same_outcome, entry_in, PostsAndMemory}
use Rattle.gaspi_types.specs.declared.inboxes.Message.{Message}
use Rattle.gaspi_model.specs.Step.{step, call_message, called, is_there, on_parts, called_on, declared_entry_footprint}
use Rattle.gaspi_model.specs.Parts.{memory_or_none, empty_memory, part_at, with_part, parts_of, with_parts, part_numbers, accessed_memory, with_accessed_memory}
use Rattle.gaspi_model.specs.declared.states.Posts.{Posts}
use Rattle.gaspi_model.specs.declared.states.Memory.{Memory}
use Rattle.gaspi_model.specs.declared.states.State.{State}
use Rattle.gaspi_model.specs.declared.states.Why.TheVariants as whys
use Rattle.gaspi_types.proofs.Items.{set-there, slice_get-set_other}
use Rattle.gaspi_model.proofs.Sound.Registered.{registering, registered_at, changed_peer, peer-touched}
use Rattle.gaspi_types.proofs.Chains.{bind_then, check_then, found_then, same_Ok}
use Rattle.gaspi_model.proofs.FoundEntries.{IsFound, find_entry-ok, take_with, put_with, take-found, put-found}

-- a take that was made
pub record IsTake (limits : Limits) (posts : Posts) (memory : Memory) (queue target number : ℕ) (outcome : Outcome) (after : Posts) (at : EntryPosition) : Type 0 where
  pub is : IsFound posts queue target number at
  pub whole : is_none at.queue.broken ≡ true
  pub permitted : may_take limits.depth at.lane at.entry ≡ true
  pub fits : same_outcome outcome (take_outcome memory at.entry.kind) ≡ true
  pub leaves : after ≡ take_with posts queue target at (source_bytes memory at.entry.kind) outcome

pub take-ok : (limits : Limits) (posts : Posts) (memory : Memory) (queue target number : ℕ) (outcome : Outcome) (after : Posts)
    → take limits posts memory queue target number outcome ≡ Ok after → (at : EntryPosition) × IsTake limits posts memory queue target number outcome after at
take-ok limits posts memory queue target number outcome after h =
    bind_then (find_entry posts queue target number _) _ after h (λ at hf h1.
    bind_then (take_result limits memory at outcome) _ after h1 (λ bytes given h2.
    check_then (is_none at.queue.broken) _ _ bytes given (λ whole h3.
    check_then (may_take limits.depth at.lane at.entry) _ _ bytes h3 (λ permitted h4.
    check_then (same_outcome outcome (take_outcome memory at.entry.kind)) _ _ bytes h4 (λ fits h5.
    let is = find_entry-ok posts queue target number _ at hf in
    let leaves = sym (same_Ok _ _ h2) ∙ take-found posts queue target number at bytes outcome is in
    (at, record { is = is; whole = whole; permitted = permitted; fits = fits; leaves = rw (same_Ok _ _ h5) leaves }))))))

-- a put that was made
pub record IsPut (posts : Posts) (memory : Memory) (queue target number : ℕ) (outcome : Outcome) (after : PostsAndMemory) (at : EntryPosition) : Type 0 where
  pub is : IsFound posts queue target number at
  pub whole : is_none at.queue.broken ≡ true
  pub permitted : may_put at.lane at.entry ≡ true
  pub fits : same_outcome outcome (put_outcome memory at.entry.kind) ≡ true
  pub leaves : after ≡ record { posts = put_with posts queue target at outcome; memory = memory_with memory at outcome }

pub put-ok : (posts : Posts) (memory : Memory) (queue target number : ℕ) (outcome : Outcome) (after : PostsAndMemory)
    → put posts memory queue target number outcome ≡ Ok after → (at : EntryPosition) × IsPut posts memory queue target number outcome after at
put-ok posts memory queue target number outcome after h =
    bind_then (find_entry posts queue target number _) _ after h (λ at hf h1.
    bind_then (memory_after_put memory at outcome) _ after h1 (λ left given h2.
    check_then (is_none at.queue.broken) _ _ left given (λ whole h3.
    check_then (may_put at.lane at.entry) _ _ left h3 (λ permitted h4.
    check_then (same_outcome outcome (put_outcome memory at.entry.kind)) _ _ left h4 (λ fits h5.
    let is = find_entry-ok posts queue target number _ at hf in
    let leaves = sym (same_Ok _ _ h2) ∙ ap (λ (p : Posts). record { posts = p; memory = left }) (put-found posts queue target number at outcome is) in
    (at, record { is = is; whole = whole; permitted = permitted; fits = fits; leaves = rw (same_Ok _ _ h5) leaves }))))))

-- a call that was recorded
pub record IsCalled (limits : Limits) (me : ℕ) (posts : Posts) (brought : Option Message) (memory : Memory) (thread : ℕ) (call : Call) (reply : Reply) (after : PostsAndMemory) : Type 0 where
  pub there : is_there (thread_at posts thread) ≡ true
  pub answered : same_reply reply (recorded_reply (answer limits me posts memory thread call)) ≡ true
  pub room : nat_le (posts.events + owed posts + charge (thread_at posts thread) call reply) limits.events ≡ true
  pub leaves : after ≡ record { posts = posts_after limits me posts thread call reply; memory = memory_after limits posts brought memory call reply }

pub called-ok : (limits : Limits) (me : ℕ) (posts : Posts) (brought : Option Message) (memory : Memory) (thread : ℕ) (call : Call) (reply : Reply) (after : PostsAndMemory)
    → called limits me posts brought memory thread call reply ≡ Ok after → IsCalled limits me posts brought memory thread call reply after
called-ok limits me posts brought memory thread call reply after h =
    check_then (is_there (thread_at posts thread)) whys.Caller _ after h (λ there h1.
    check_then (same_reply reply (recorded_reply (answer limits me posts memory thread call))) whys.Reply _ after h1 (λ answered h2.
    check_then (nat_le (posts.events + owed posts + charge (thread_at posts thread) call reply) limits.events) whys.Limit _ after h2 (λ room h3.
    record { there = there; answered = answered; room = room; leaves = sym (same_Ok _ _ h3) })))

-- The memory that an event of that reach works on, in the memories of all ranks, and those with it replaced.
abbrev pub memory_at : Footprint → ℕ → List Memory → Memory
memory_at Alone me all = empty_memory
memory_at OwnMemory me all = memory_or_none (slice_get all me)
memory_at (PeerMemory rank) me all = memory_or_none (slice_get all rank)
memory_at (BothMemories rank) me all = memory_or_none (slice_get all rank)
memory_at (PeerPosts rank) me all = empty_memory
memory_at (Group id) me all = empty_memory
memory_at (GroupAndMemory id) me all = memory_or_none (slice_get all me)

abbrev pub memories_at : Footprint → ℕ → Memory → List Memory → List Memory
memories_at Alone me memory all = all
memories_at OwnMemory me memory all = slice_set all me memory
memories_at (PeerMemory rank) me memory all = slice_set all rank memory
memories_at (BothMemories rank) me memory all = slice_set all rank memory
memories_at (PeerPosts rank) me memory all = all
memories_at (Group id) me memory all = all
memories_at (GroupAndMemory id) me memory all = slice_set all me memory

pub on_memory-at : (s : State) (posts : Posts) (me : ℕ) (footprint : Footprint) → accessed_memory footprint (parts_of s posts (part_numbers me footprint)) ≡ memory_at footprint me s.memories
on_memory-at s posts me Alone = refl
on_memory-at s posts me OwnMemory = refl
on_memory-at s posts me (PeerMemory rank) = refl
on_memory-at s posts me (BothMemories rank) = refl
on_memory-at s posts me (PeerPosts rank) = refl
on_memory-at s posts me (Group id) = refl
on_memory-at s posts me (GroupAndMemory id) = refl

-- what stands there, or nothing, set there changes nothing
same-set : (all : List Memory) (place : ℕ) → slice_set all place (memory_or_none (slice_get all place)) ≡ all
same-set all place = go (slice_get all place) refl
  where
    none-set : (xs : List Memory) (k : ℕ) (x : Memory) → slice_get xs k ≡ None → slice_set xs k x ≡ xs
    none-set [] k x at = refl
    none-set (y ∷ xs) zero x at = absurd (let no : ⊥ = cc in no)
    none-set (y ∷ xs) (suc k) x at = ap (λ (rest : List Memory). y ∷ rest) (none-set xs k x at)

    go : (o : Option Memory) → slice_get all place ≡ o → slice_set all place (memory_or_none (slice_get all place)) ≡ all
    go None at = none-set all place _ at
    go (Some x) at = rw at (set-there all place x at)

pub memories-same : (footprint : Footprint) (me : ℕ) (all : List Memory) → memories_at footprint me (memory_at footprint me all) all ≡ all
memories-same Alone me all = refl
memories-same OwnMemory me all = same-set all me
memories-same (PeerMemory rank) me all = same-set all rank
memories-same (BothMemories rank) me all = same-set all rank
memories-same (PeerPosts rank) me all = refl
memories-same (Group id) me all = refl
memories-same (GroupAndMemory id) me all = same-set all me

pub memories-length : (footprint : Footprint) (me : ℕ) (memory : Memory) (all : List Memory) → length (memories_at footprint me memory all) ≡ length all
memories-length Alone me memory all = refl
memories-length OwnMemory me memory all = length-set all me memory
memories-length (PeerMemory rank) me memory all = length-set all rank memory
memories-length (BothMemories rank) me memory all = length-set all rank memory
memories-length (PeerPosts rank) me memory all = refl
memories-length (Group id) me memory all = refl
memories-length (GroupAndMemory id) me memory all = length-set all me memory

-- a memory that is written back as it was
pub part-same : {A : Type 0} (table : List A) (touched : Option ℕ) → with_part table touched (part_at table touched) ≡ table
part-same table None = refl
part-same {A} table (Some place) = go (slice_get table place) refl
  where
    go : (o : Option A) → slice_get table place ≡ o → with_part table (Some place) (slice_get table place) ≡ table
    go None at = rw at refl
    go (Some x) at = rw at (set-there table place x at)

-- The state after a step on the parts of a reach: the owner's posts are replaced, those of a peer changed, and the memory
-- that is worked on is replaced.
lifted-after : (s : State) (me : ℕ) (footprint : Footprint) (before after : Posts) (memory : Memory) (change : Posts → Posts) → ((rank : ℕ) → footprint ≡ PeerPosts rank → me ≡ rank → ⊥)
    → with_parts s me (part_numbers me footprint) (record (with_accessed_memory footprint (parts_of s before (part_numbers me footprint)) memory) {
      posts = after;
      peer_posts = option_map change (parts_of s before (part_numbers me footprint)).peer_posts;
    })
    ≡ record s { posts = changed_peer footprint (slice_set s.posts me after) change; memories = memories_at footprint me memory s.memories }
lifted-after s me Alone before after memory change apart = refl
lifted-after s me OwnMemory before after memory change apart = refl
lifted-after s me (PeerMemory rank) before after memory change apart = refl
lifted-after s me (BothMemories rank) before after memory change apart =
    ap (λ (x : List Memory). record s { posts = slice_set s.posts me after; memories = slice_set x rank memory }) (part-same s.memories (Some me))
lifted-after s me (Group id) before after memory change apart =
    ap (λ (x : List groups.Group). record s { posts = slice_set s.posts me after; groups = x }) (part-same s.groups (Some id))
lifted-after s me (GroupAndMemory id) before after memory change apart =
    ap (λ (x : List groups.Group). record s { posts = slice_set s.posts me after; memories = slice_set s.memories me memory; groups = x }) (part-same s.groups (Some id))
lifted-after s me (PeerPosts rank) before after memory change apart = ap (λ (x : List Posts). record s { posts = x }) (go (slice_get s.posts rank) refl)
  where
    other : slice_get (slice_set s.posts me after) rank ≡ slice_get s.posts rank
    other = slice_get-set_other s.posts me rank after (apart rank refl)

    go : (o : Option Posts) → slice_get s.posts rank ≡ o
        → with_part (slice_set s.posts me after) (Some rank) (option_map change (slice_get s.posts rank)) ≡ changed_at (slice_set s.posts me after) rank change
    go None at = rw (other, at) refl
    go (Some x) at = rw (other, at) refl

-- the reach of a call
abbrev pub call-footprint : ℕ → ℕ → Call → Footprint
call-footprint ranks me call = footprint_of ranks me (row_of call).footprint

-- a peer that the owner is, is none
pub peer-apart : (ranks me : ℕ) (declaration : DeclaredFootprint) (rank : ℕ) → footprint_of ranks me declaration ≡ PeerPosts rank → me ≡ rank → ⊥
peer-apart ranks me declaration rank is same =
    let other = (peer-touched ranks me rank declaration is).1 in
    let mine = eq-eqb rank me (sym same) in
    let no : ⊥ = cc in no

-- the step of each kind of event
pub record IsCalledStep (s t : State) (c : CallerId) (call : Call) (reply : Reply) (posts : Posts) (memory : Memory) (after : PostsAndMemory) : Type 0 where
  pub posts_there : slice_get s.posts c.rank ≡ Some posts
  pub worked : memory ≡ memory_at (call-footprint s.limits.ranks c.rank call) c.rank s.memories
  pub is : IsCalled s.limits c.rank posts (call_message s c.rank call) memory c.thread call reply after
  pub leaves : t ≡ record s {
    posts = registering s.limits.ranks c.rank posts call reply (slice_set s.posts c.rank after.posts);
    memories = memories_at (call-footprint s.limits.ranks c.rank call) c.rank after.memory s.memories;
  }

pub step-called : (s t : State) (c : CallerId) (call : Call) (reply : Reply) → (row_of call).group ≡ None → step s (Called c call reply) ≡ Ok t
    → (posts : Posts) × (memory : Memory) × (after : PostsAndMemory) × IsCalledStep s t c call reply posts memory after
step-called s t c call reply plain h =
    found_then (slice_get s.posts c.rank) whys.Caller _ t h (λ posts hp h1.
    bind_then (on_parts s.limits footprint (Called c call reply) (parts_of s posts (part_numbers c.rank footprint))) _ t h1 (λ parts hl0 h2.
    let hl : called_on s.limits footprint c call reply (parts_of s posts (part_numbers c.rank footprint)) ≡ Ok parts = rw plain at hl0 in
    bind_then (called s.limits c.rank posts (call_message s c.rank call) (accessed_memory footprint (parts_of s posts (part_numbers c.rank footprint))) c.thread call reply) _ parts hl (λ after ha h3.
    let worked = on_memory-at s posts c.rank footprint in
    let ends = lifted-after s c.rank footprint posts after.posts after.memory (peer_after c.rank posts call reply) (peer-apart s.limits.ranks c.rank (row_of call).footprint) in
    let told_is = told-changed posts (slice_set s.posts c.rank after.posts) in
    let state : t ≡ with_parts s c.rank (part_numbers c.rank footprint) parts = sym (same_Ok _ _ h2) in (
      posts,
      memory_at footprint c.rank s.memories,
      after,
      record {
        posts_there = hp;
        worked = refl;
        is = called-ok _ _ _ _ _ _ _ _ _ (subst (λ (m : Memory). called s.limits c.rank posts (call_message s c.rank call) m c.thread call reply ≡ Ok after) worked ha);
        leaves = state ∙ ap (with_parts s c.rank (part_numbers c.rank footprint)) (sym (same_Ok _ _ h3)) ∙ ends
            ∙ ap (λ (x : List Posts). record s { posts = x; memories = memories_at footprint c.rank after.memory s.memories }) told_is;
      },
    ))))
  where
    footprint : Footprint
    footprint = call-footprint s.limits.ranks c.rank call

    told-changed : (posts : Posts) (all : List Posts) → changed_peer footprint all (peer_after c.rank posts call reply) ≡ registering s.limits.ranks c.rank posts call reply all
    told-changed posts all = go footprint
      where
        go : (r : Footprint) → changed_peer r all (peer_after c.rank posts call reply) ≡ registered_at r c.rank posts call reply all
        go Alone = refl
        go OwnMemory = refl
        go (PeerMemory rank) = refl
        go (BothMemories rank) = refl
        go (PeerPosts rank) = refl
        go (Group id) = refl
        go (GroupAndMemory id) = refl

-- the reach of the take and of the put of an entry
abbrev pub take-footprint : ℕ → ℕ → ℕ → Kind → Footprint
take-footprint ranks origin target kind = footprint_of ranks origin (take_footprint target kind)

abbrev pub put-footprint : ℕ → ℕ → ℕ → Kind → Footprint
put-footprint ranks origin target kind = footprint_of ranks origin (put_footprint target kind)

pub record IsTakeStep (s t : State) (origin queue target number : ℕ) (outcome : Outcome) (posts : Posts) (memory : Memory) (after : Posts) (at : EntryPosition) : Type 0 where
  pub posts_there : slice_get s.posts origin ≡ Some posts
  pub worked : memory ≡ memory_at (take-footprint s.limits.ranks origin target at.entry.kind) origin s.memories
  pub is : IsTake s.limits posts memory queue target number outcome after at
  pub leaves : t ≡ record s { posts = slice_set s.posts origin after }

pub record IsPutStep (s t : State) (origin queue target number : ℕ) (outcome : Outcome) (posts : Posts) (memory : Memory) (after : PostsAndMemory) (at : EntryPosition) : Type 0 where
  pub posts_there : slice_get s.posts origin ≡ Some posts
  pub worked : memory ≡ memory_at (put-footprint s.limits.ranks origin target at.entry.kind) origin s.memories
  pub is : IsPut posts memory queue target number outcome after at
  pub leaves : t ≡ record s {
    posts = slice_set s.posts origin after.posts;
    memories = memories_at (put-footprint s.limits.ranks origin target at.entry.kind) origin after.memory s.memories;
  }

-- a reach that is another is the same of a group
onto : {r r' : Footprint} {id : ℕ} → r ≡ r' → (r ≡ Group id) ⊎ (r ≡ GroupAndMemory id) → (r' ≡ Group id) ⊎ (r' ≡ GroupAndMemory id)
onto same (inl is) = inl (sym same ∙ is)
onto same (inr is) = inr (sym same ∙ is)

-- whether a touch is of a group
abbrev pub is_grouped : DeclaredFootprint → Bool
is_grouped touches.Nothing = false
is_grouped touches.OwnMemory = false
is_grouped (touches.MemoryOf rank) = false
is_grouped (touches.BothMemories rank) = false
is_grouped (touches.PostsOf rank) = false
is_grouped (touches.GroupOf id) = true
is_grouped (touches.GroupAndMemory id) = true

ungrouped : (ranks me id : ℕ) (declaration : DeclaredFootprint) → is_grouped declaration ≡ false → (footprint_of ranks me declaration ≡ Group id) ⊎ (footprint_of ranks me declaration ≡ GroupAndMemory id) → ⊥
ungrouped ranks me id touches.Nothing plain (inl is) = (let no : ⊥ = cc in no)
ungrouped ranks me id touches.Nothing plain (inr is) = (let no : ⊥ = cc in no)
ungrouped ranks me id touches.OwnMemory plain (inl is) = (let no : ⊥ = cc in no)
ungrouped ranks me id touches.OwnMemory plain (inr is) = (let no : ⊥ = cc in no)
ungrouped ranks me id (touches.MemoryOf r) plain is = go (r == me) (nat_lt r ranks) is
  where
    go : (b c : Bool) → ((if b then OwnMemory else (if c then PeerMemory r else Alone)) ≡ Group id) ⊎ ((if b then OwnMemory else (if c then PeerMemory r else Alone)) ≡ GroupAndMemory id) → ⊥
    go true c (inl h) = cc
    go true c (inr h) = cc
    go false true (inl h) = cc
    go false true (inr h) = cc
    go false false (inl h) = cc
    go false false (inr h) = cc
ungrouped ranks me id (touches.BothMemories r) plain is = go (r == me) (nat_lt r ranks) is
  where
    go : (b c : Bool) → ((if b then OwnMemory else (if c then BothMemories r else Alone)) ≡ Group id) ⊎ ((if b then OwnMemory else (if c then BothMemories r else Alone)) ≡ GroupAndMemory id) → ⊥
    go true c (inl h) = cc
    go true c (inr h) = cc
    go false true (inl h) = cc
    go false true (inr h) = cc
    go false false (inl h) = cc
    go false false (inr h) = cc
ungrouped ranks me id (touches.PostsOf r) plain is = go (r == me) (nat_lt r ranks) is
  where
    go : (b c : Bool) → ((if b then Alone else (if c then PeerPosts r else Alone)) ≡ Group id) ⊎ ((if b then Alone else (if c then PeerPosts r else Alone)) ≡ GroupAndMemory id) → ⊥
    go true c (inl h) = cc
    go true c (inr h) = cc
    go false true (inl h) = cc
    go false true (inr h) = cc
    go false false (inl h) = cc
    go false false (inr h) = cc
ungrouped ranks me id (touches.GroupOf g) plain is = (let no : ⊥ = cc in no)
ungrouped ranks me id (touches.GroupAndMemory g) plain is = (let no : ⊥ = cc in no)

take-plain : (target : ℕ) (kind : Kind) → is_grouped (take_footprint target kind) ≡ false
take-plain target (Write own to) = refl
take-plain target (Read own to) = refl
take-plain target (Notify to value) = refl
take-plain target (ReadNote own) = refl

put-plain : (target : ℕ) (kind : Kind) → is_grouped (put_footprint target kind) ≡ false
put-plain target (Write own to) = refl
put-plain target (Read own to) = refl
put-plain target (Notify to value) = refl
put-plain target (ReadNote own) = refl

-- the entry that was found is the one by which the reach is told
pub entry-found : (posts : Posts) (queue target number : ℕ) (at : EntryPosition) → IsFound posts queue target number at → entry_in posts queue target number ≡ Some at.entry
entry-found posts queue target number at is = rw (is.in_posts, is.in_queue, is.numbered, is.in_lane) refl

-- no transfer reaches a peer's posts
take-alone : (ranks origin target : ℕ) (kind : Kind) (rank : ℕ) → take-footprint ranks origin target kind ≡ PeerPosts rank → ⊥
take-alone ranks origin target kind rank is = go kind (peer-touched ranks origin rank (take_footprint target kind) is).0
  where
    go : (k : Kind) → take_footprint target k ≡ touches.PostsOf rank → ⊥
    go (Write own to) touched = (let no : ⊥ = cc in no)
    go (Read own to) touched = (let no : ⊥ = cc in no)
    go (Notify to value) touched = (let no : ⊥ = cc in no)
    go (ReadNote own) touched = (let no : ⊥ = cc in no)

put-alone : (ranks origin target : ℕ) (kind : Kind) (rank : ℕ) → put-footprint ranks origin target kind ≡ PeerPosts rank → ⊥
put-alone ranks origin target kind rank is = go kind (peer-touched ranks origin rank (put_footprint target kind) is).0
  where
    go : (k : Kind) → put_footprint target k ≡ touches.PostsOf rank → ⊥
    go (Write own to) touched = (let no : ⊥ = cc in no)
    go (Read own to) touched = (let no : ⊥ = cc in no)
    go (Notify to value) touched = (let no : ⊥ = cc in no)
    go (ReadNote own) touched = (let no : ⊥ = cc in no)

-- nor a group
take-ungrouped : (ranks origin target : ℕ) (kind : Kind) (id : ℕ) → (take-footprint ranks origin target kind ≡ Group id) ⊎ (take-footprint ranks origin target kind ≡ GroupAndMemory id) → ⊥
take-ungrouped ranks origin target kind id (inl is) = ungrouped ranks origin id (take_footprint target kind) (take-plain target kind) (inl is)
take-ungrouped ranks origin target kind id (inr is) = ungrouped ranks origin id (take_footprint target kind) (take-plain target kind) (inr is)

put-ungrouped : (ranks origin target : ℕ) (kind : Kind) (id : ℕ) → (put-footprint ranks origin target kind ≡ Group id) ⊎ (put-footprint ranks origin target kind ≡ GroupAndMemory id) → ⊥
put-ungrouped ranks origin target kind id (inl is) = ungrouped ranks origin id (put_footprint target kind) (put-plain target kind) (inl is)
put-ungrouped ranks origin target kind id (inr is) = ungrouped ranks origin id (put_footprint target kind) (put-plain target kind) (inr is)

pub step-take : (s t : State) (origin queue target number : ℕ) (outcome : Outcome) → step s (Take origin queue target number outcome) ≡ Ok t
    → (posts : Posts) × (memory : Memory) × (after : Posts) × (at : EntryPosition) × IsTakeStep s t origin queue target number outcome posts memory after at
step-take s t origin queue target number outcome h =
    found_then (slice_get s.posts origin) _ _ t h (λ posts hp h1.
    bind_then (on_parts s.limits (footprint posts) (Take origin queue target number outcome) (parts_of s posts (part_numbers origin (footprint posts)))) _ t h1 (λ parts hl h2.
    bind_then (take s.limits posts (accessed_memory (footprint posts) (parts_of s posts (part_numbers origin (footprint posts)))) queue target number outcome) _ parts hl (λ after ha h3.
    let taken = take-ok s.limits posts (accessed_memory (footprint posts) (parts_of s posts (part_numbers origin (footprint posts)))) queue target number outcome after ha in
    let reaches = footprint-is posts taken.0.entry (entry-found posts queue target number taken.0 taken.1.is) in
    let state : t ≡ with_parts s origin (part_numbers origin (footprint posts)) parts = sym (same_Ok _ _ h2) in (
      posts,
      memory_at (take-footprint s.limits.ranks origin target taken.0.entry.kind) origin s.memories,
      after,
      taken.0,
      record {
        posts_there = hp;
        worked = refl;
        is = subst (λ (m : Memory). IsTake s.limits posts m queue target number outcome after taken.0)
            (on_memory-at s posts origin (footprint posts) ∙ ap (λ (r : Footprint). memory_at r origin s.memories) reaches) taken.1;
        leaves = state ∙ ap (with_parts s origin (part_numbers origin (footprint posts))) (sym (same_Ok _ _ h3))
            ∙ leaves posts after (footprint posts) (λ rank is. take-alone s.limits.ranks origin target taken.0.entry.kind rank (sym reaches ∙ is))
            (λ id is. take-ungrouped s.limits.ranks origin target taken.0.entry.kind id (onto reaches is));
      },
    ))))
  where
    footprint : Posts → Footprint
    footprint posts = footprint_of s.limits.ranks origin (declared_entry_footprint (take_footprint target) (entry_in posts queue target number))

    footprint-is : (posts : Posts) (e : Entry) → entry_in posts queue target number ≡ Some e → footprint posts ≡ take-footprint s.limits.ranks origin target e.kind
    footprint-is posts e found = rw found refl

    leaves : (posts after : Posts) (r : Footprint) → ((rank : ℕ) → r ≡ PeerPosts rank → ⊥) → ((id : ℕ) → (r ≡ Group id) ⊎ (r ≡ GroupAndMemory id) → ⊥)
        → with_parts s origin (part_numbers origin r) (record (parts_of s posts (part_numbers origin r)) { posts = after }) ≡ record s { posts = slice_set s.posts origin after }
    leaves posts after Alone none ungrouped = refl
    leaves posts after OwnMemory none ungrouped = ap (λ (x : List Memory). record s { posts = slice_set s.posts origin after; memories = x }) (part-same s.memories (Some origin))
    leaves posts after (PeerMemory rank) none ungrouped = ap (λ (x : List Memory). record s { posts = slice_set s.posts origin after; memories = x }) (part-same s.memories (Some rank))
    leaves posts after (BothMemories rank) none ungrouped =
        ap (λ (x : List Memory). record s { posts = slice_set s.posts origin after; memories = with_part x (Some rank) (slice_get s.memories rank) }) (part-same s.memories (Some origin))
        ∙ ap (λ (x : List Memory). record s { posts = slice_set s.posts origin after; memories = x }) (part-same s.memories (Some rank))
    leaves posts after (PeerPosts rank) none ungrouped = absurd (none rank refl)
    leaves posts after (Group id) none ungrouped = absurd (ungrouped id (inl refl))
    leaves posts after (GroupAndMemory id) none ungrouped = absurd (ungrouped id (inr refl))

pub step-put : (s t : State) (origin queue target number : ℕ) (outcome : Outcome) → step s (Put origin queue target number outcome) ≡ Ok t
    → (posts : Posts) × (memory : Memory) × (after : PostsAndMemory) × (at : EntryPosition) × IsPutStep s t origin queue target number outcome posts memory after at
step-put s t origin queue target number outcome h =
    found_then (slice_get s.posts origin) _ _ t h (λ posts hp h1.
    bind_then (on_parts s.limits (footprint posts) (Put origin queue target number outcome) (parts_of s posts (part_numbers origin (footprint posts)))) _ t h1 (λ parts hl h2.
    bind_then (put posts (accessed_memory (footprint posts) (parts_of s posts (part_numbers origin (footprint posts)))) queue target number outcome) _ parts hl (λ after ha h3.
    let made = put-ok posts _ queue target number outcome after ha in
    let reaches = footprint-is posts made.0.entry (entry-found posts queue target number made.0 made.1.is) in
    let state : t ≡ with_parts s origin (part_numbers origin (footprint posts)) parts = sym (same_Ok _ _ h2) in (
      posts,
      memory_at (put-footprint s.limits.ranks origin target made.0.entry.kind) origin s.memories,
      after,
      made.0,
      record {
        posts_there = hp;
        worked = refl;
        is = subst (λ (m : Memory). IsPut posts m queue target number outcome after made.0)
            (on_memory-at s posts origin (footprint posts) ∙ ap (λ (r : Footprint). memory_at r origin s.memories) reaches) made.1;
        leaves = state ∙ ap (with_parts s origin (part_numbers origin (footprint posts))) (sym (same_Ok _ _ h3))
            ∙ leaves posts after (footprint posts) (λ rank is. put-alone s.limits.ranks origin target made.0.entry.kind rank (sym reaches ∙ is))
            (λ id is. put-ungrouped s.limits.ranks origin target made.0.entry.kind id (onto reaches is))
            ∙ ap (λ (r : Footprint). record s { posts = slice_set s.posts origin after.posts; memories = memories_at r origin after.memory s.memories }) reaches;
      },
    ))))
  where
    footprint : Posts → Footprint
    footprint posts = footprint_of s.limits.ranks origin (declared_entry_footprint (put_footprint target) (entry_in posts queue target number))

    footprint-is : (posts : Posts) (e : Entry) → entry_in posts queue target number ≡ Some e → footprint posts ≡ put-footprint s.limits.ranks origin target e.kind
    footprint-is posts e found = rw found refl

    leaves : (posts : Posts) (after : PostsAndMemory) (r : Footprint) → ((rank : ℕ) → r ≡ PeerPosts rank → ⊥) → ((id : ℕ) → (r ≡ Group id) ⊎ (r ≡ GroupAndMemory id) → ⊥)
        → with_parts s origin (part_numbers origin r) (record (with_accessed_memory r (parts_of s posts (part_numbers origin r)) after.memory) { posts = after.posts })
        ≡ record s { posts = slice_set s.posts origin after.posts; memories = memories_at r origin after.memory s.memories }
    leaves posts after Alone none ungrouped = refl
    leaves posts after OwnMemory none ungrouped = refl
    leaves posts after (PeerMemory rank) none ungrouped = refl
    leaves posts after (BothMemories rank) none ungrouped =
        ap (λ (x : List Memory). record s { posts = slice_set s.posts origin after.posts; memories = slice_set x rank after.memory }) (part-same s.memories (Some origin))
    leaves posts after (PeerPosts rank) none ungrouped = absurd (none rank refl)
    leaves posts after (Group id) none ungrouped = absurd (ungrouped id (inl refl))
    leaves posts after (GroupAndMemory id) none ungrouped = absurd (ungrouped id (inr refl))
