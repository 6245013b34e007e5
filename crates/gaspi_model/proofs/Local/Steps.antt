-- An event reads and changes the parts of its shards alone.
use Rattle.std.proofs.Common.{◌≡◌, ℕ, ◌+◌, ◌≤◌, Bool, true, false, ◌==◌, nat_eq, nat_lt, ◌||◌, List, [], ◌∷◌, map, length, Option, None, Some, Ok, refl, sym, ap, ◌∙◌, subst, arith, cond, if◌then◌else◌}
use Rattle.std.specs.List.{slice_get, count_by, list_any}
use Rattle.std.proofs.lemmas.Bool.{eq-eqb, eqb-true}
use Rattle.std.proofs.lemmas.List.Sums.{sum_by-cons}
use Rattle.gaspi_types.specs.CallRows.{row_of}
use Rattle.gaspi_types.specs.Footprints.{footprint_of, take_footprint, put_footprint}
use Rattle.gaspi_types.specs.declared.shapes.CallerId.{CallerId}
use Rattle.gaspi_types.specs.declared.shapes.Limits.{Limits}
use Rattle.gaspi_types.specs.declared.calls.Call.{Call}
use Rattle.gaspi_types.specs.declared.calls.Call.TheVariants.{Write, Read, Notify, WriteNotify, ReadNotify, WriteList, WriteListNotify, ReadList, ReadListNotify, Wait}
use Rattle.gaspi_types.specs.declared.calls.Call.TheVariants as calls
use Rattle.gaspi_types.specs.declared.calls.queues.Wait as wait
use Rattle.gaspi_types.specs.declared.calls.collectives.Create as create
use Rattle.gaspi_types.specs.declared.calls.queues.Purge as purge
use Rattle.gaspi_types.specs.declared.calls.queues.Qsize as qsize
use Rattle.gaspi_types.specs.declared.calls.passive.PassiveSend as send
use Rattle.gaspi_types.specs.declared.calls.passive.PassiveReceive as receive
use Rattle.gaspi_types.specs.declared.entries.Entry.{Entry}
use Rattle.gaspi_types.specs.declared.entries.Kind.{Kind}
use Rattle.gaspi_types.specs.declared.entries.Kind.TheVariants as kinds
use Rattle.gaspi_types.specs.declared.call_rows.Posting.{Posting}
use Rattle.gaspi_types.specs.declared.replies.Reply.{Reply}
use Rattle.gaspi_types.specs.declared.events.Event.{Event}
use Rattle.gaspi_types.specs.declared.events.Event.TheVariants.{Called, Joined, Take, Put}
use Rattle.gaspi_types.specs.declared.footprints.DeclaredFootprint.{DeclaredFootprint}
use Rattle.gaspi_types.specs.declared.footprints.DeclaredFootprint.TheVariants as touches
use Rattle.gaspi_types.specs.declared.footprints.Footprint.{Footprint}
use Rattle.gaspi_types.specs.declared.footprints.Footprint.TheVariants.{Alone, OwnMemory, PeerMemory, BothMemories, PeerPosts, Group, GroupAndMemory}
use Rattle.gaspi_model.specs.Parts.{part_numbers, lifted}
use Rattle.gaspi_types.specs.declared.collectives.Coll.{Coll}
use Rattle.gaspi_types.specs.declared.collectives.Coll.TheVariants as colls
use Rattle.gaspi_types.specs.declared.groups.Args.{Args}
use Rattle.gaspi_model.specs.Step.{step, owner_of, declared_entry_footprint, join_footprint, declared_footprint, event_footprint, local_step, cause_without_owner}
use Rattle.gaspi_model.specs.Transfers.{entry_in}
use Rattle.gaspi_model.specs.Shards.{event_shards, footprint_shards, is_wide, is_create, group_shards, create_shards, send_shards, is_group_call, is_shard, same_shard, AgreeOnShard, AgreeOn, HaveSameResult, numbers_of, without_repeats}
use Rattle.gaspi_model.specs.declared.states.Posts.{Posts}
use Rattle.gaspi_model.specs.declared.states.State.{State}
use Rattle.gaspi_model.specs.declared.states.Shard.{Shard}
use Rattle.gaspi_model.specs.declared.states.Shard.TheVariants as shards
use Rattle.gaspi_types.proofs.Chains.{found_then}
use Rattle.gaspi_model.proofs.Local.Lifting.{first-is-shard, owner-is-shard, lifted-frame, lifted-determined}
use Rattle.gaspi_model.proofs.Sound.Registered.{peer-touched, both-touched}

pub frame : (s t : State) (e : Event) (shard : Shard) → step s e ≡ Ok t → is_shard (event_shards s e) shard ≡ false → AgreeOnShard t s shard
frame s t e shard h out =
    found_then (slice_get s.posts (owner_of e)) (cause_without_owner e) _ t h (λ posts at rest.
    lifted-frame s t (owner_of e) (cause_without_owner e) (λ x. event_footprint s.limits x e) (local_step s.limits e) posts shard h at (rw at at out))

pub owner-among : (s : State) (e : Event) → is_shard (event_shards s e) (shards.Posts (owner_of e)) ≡ true
owner-among s e = go (slice_get s.posts (owner_of e)) refl
  where
    go : (o : Option Posts) → slice_get s.posts (owner_of e) ≡ o → is_shard (event_shards s e) (shards.Posts (owner_of e)) ≡ true
    go None at = rw at (first-is-shard (shards.Posts (owner_of e)) [])
    go (Some posts) at = rw at (owner-is-shard (owner_of e) (event_footprint s.limits posts e))

pub determined : (s s' : State) (e : Event) → AgreeOn (is_shard (event_shards s e)) s s' → HaveSameResult s s' (step s e) (step s' e)
determined s s' e agree =
    subst (λ (l : Limits). HaveSameResult s s' (step s e) (lifted s' (owner_of e) (cause_without_owner e) (λ x. part_numbers (owner_of e) (event_footprint l x e)) (local_step l e))) agree.limits
    (lifted-determined s s' (owner_of e) (cause_without_owner e) (λ x. event_footprint s.limits x e) (local_step s.limits e) agree.limits
    (agree.parts (shards.Posts (owner_of e)) (owner-among s e))
    (λ posts at. record { limits = agree.limits; parts = λ shard is. agree.parts shard (rw at is) }))

-- the footprint is told by the owner's posts, and the reply is no matter of it
pub footprint-by-owner : (s s' : State) (e : Event) → s.limits ≡ s'.limits → AgreeOnShard s s' (shards.Posts (owner_of e)) → event_shards s e ≡ event_shards s' e
footprint-by-owner s s' e limits same = rw (limits, same) refl

pub footprint-by-call : (s : State) (c : CallerId) (call : Call) (reply reply' : Reply) → event_shards s (Called c call reply) ≡ event_shards s (Called c call reply')
footprint-by-call s c call reply reply' = refl

-- No shard stands twice in a footprint.
once-of-two : (a b k : ℕ) → (b == a) ≡ false → cond (a == k) 1 0 + cond (b == k) 1 0 ≤ 1
once-of-two a b k other = go (a == k) refl (b == k) refl
  where
    go : (x : Bool) → (a == k) ≡ x → (y : Bool) → (b == k) ≡ y → cond (a == k) 1 0 + cond (b == k) 1 0 ≤ 1
    go true is true is' =
        absurd (let same : b ≡ a = eqb-true b k is' ∙ sym (eqb-true a k is) in let yes = eq-eqb b a same in let no : ⊥ = cc in no)
    go true is false is' = rw (is, is') (omega arith)
    go false is true is' = rw (is, is') (omega arith)
    go false is false is' = rw (is, is') (omega arith)

either : {P : Type 0} (b : Bool) → (b ≡ true → P) → (b ≡ false → P) → P
either true same other = same refl
either false same other = other refl

footprint-once : (me : ℕ) (footprint : Footprint) → ((rank : ℕ) → footprint ≡ PeerPosts rank → (rank == me) ≡ false) → ((rank : ℕ) → footprint ≡ BothMemories rank → (rank == me) ≡ false)
    → (shard : Shard) → count_by (λ x. same_shard x shard) (footprint_shards me footprint) ≤ 1
footprint-once me Alone other both (shards.Posts k) = either (me == k) (λ is. rw is (omega arith)) (λ is. rw is (omega arith))
footprint-once me Alone other both (shards.Memory k) = omega arith
footprint-once me OwnMemory other both (shards.Posts k) = either (me == k) (λ is. rw is (omega arith)) (λ is. rw is (omega arith))
footprint-once me OwnMemory other both (shards.Memory k) = either (me == k) (λ is. rw is (omega arith)) (λ is. rw is (omega arith))
footprint-once me (PeerMemory rank) other both (shards.Posts k) = either (me == k) (λ is. rw is (omega arith)) (λ is. rw is (omega arith))
footprint-once me (PeerMemory rank) other both (shards.Memory k) = either (rank == k) (λ is. rw is (omega arith)) (λ is. rw is (omega arith))
footprint-once me (BothMemories rank) other both (shards.Posts k) = either (me == k) (λ is. rw is (omega arith)) (λ is. rw is (omega arith))
footprint-once me (BothMemories rank) other both (shards.Memory k) = let two = once-of-two me rank k (both rank refl) in omega arith
footprint-once me (PeerPosts rank) other both (shards.Posts k) = let two = once-of-two me rank k (other rank refl) in omega arith
footprint-once me (PeerPosts rank) other both (shards.Memory k) = omega arith
footprint-once me (Group id) other both (shards.Posts k) = either (me == k) (λ is. rw is (omega arith)) (λ is. rw is (omega arith))
footprint-once me (Group id) other both (shards.Memory k) = omega arith
footprint-once me (Group id) other both (shards.Group k) = either (id == k) (λ is. rw is (omega arith)) (λ is. rw is (omega arith))
footprint-once me (GroupAndMemory id) other both (shards.Posts k) = either (me == k) (λ is. rw is (omega arith)) (λ is. rw is (omega arith))
footprint-once me (GroupAndMemory id) other both (shards.Memory k) = either (me == k) (λ is. rw is (omega arith)) (λ is. rw is (omega arith))
footprint-once me (GroupAndMemory id) other both (shards.Group k) = either (id == k) (λ is. rw is (omega arith)) (λ is. rw is (omega arith))
footprint-once me Alone other both (shards.Group k) = omega arith
footprint-once me OwnMemory other both (shards.Group k) = omega arith
footprint-once me (PeerMemory rank) other both (shards.Group k) = omega arith
footprint-once me (BothMemories rank) other both (shards.Group k) = omega arith
footprint-once me (PeerPosts rank) other both (shards.Group k) = omega arith

pub once : (s : State) (e : Event) (shard : Shard) → count_by (λ x. same_shard x shard) (event_shards s e) ≤ 1
once s e shard = go (slice_get s.posts (owner_of e)) refl
  where
    go : (o : Option Posts) → slice_get s.posts (owner_of e) ≡ o → count_by (λ x. same_shard x shard) (event_shards s e) ≤ 1
    go None at = rw at (footprint-once (owner_of e) Alone (λ rank is. (let no : ⊥ = cc in absurd no)) (λ rank is. (let no : ⊥ = cc in absurd no)) shard)
    go (Some posts) at =
        rw at (footprint-once (owner_of e) (event_footprint s.limits posts e) (λ rank is. (peer-touched s.limits.ranks (owner_of e) rank (declared_footprint posts e) is).1)
        (λ rank is. (both-touched s.limits.ranks (owner_of e) rank (declared_footprint posts e) is).1) shard)

-- most events have at most one shard beside their owner's posts
abbrev is_both : DeclaredFootprint → Bool
is_both (touches.BothMemories rank) = true
is_both (touches.GroupAndMemory id) = true
is_both declaration = false

footprint-few : (ranks me : ℕ) (declaration : DeclaredFootprint) → is_both declaration ≡ false → length (footprint_shards me (footprint_of ranks me declaration)) ≤ 2
footprint-few ranks me touches.Nothing h = omega arith
footprint-few ranks me touches.OwnMemory h = omega arith
footprint-few ranks me (touches.MemoryOf rank) h = go (rank == me) (nat_lt rank ranks)
  where
    go : (b c : Bool) → length (footprint_shards me (if b then OwnMemory else (if c then PeerMemory rank else Alone))) ≤ 2
    go true c = omega arith
    go false true = omega arith
    go false false = omega arith
footprint-few ranks me (touches.BothMemories rank) h = absurd (let no : ⊥ = cc in no)
footprint-few ranks me (touches.PostsOf rank) h = go (rank == me) (nat_lt rank ranks)
  where
    go : (b c : Bool) → length (footprint_shards me (if b then Alone else (if c then PeerPosts rank else Alone))) ≤ 2
    go true c = omega arith
    go false true = omega arith
    go false false = omega arith
footprint-few ranks me (touches.GroupOf id) h = go (nat_lt id 8)
  where
    go : (b : Bool) → length (footprint_shards me (if b then Group id else Alone)) ≤ 2
    go true = omega arith
    go false = omega arith
footprint-few ranks me (touches.GroupAndMemory id) h = absurd (let no : ⊥ = cc in no)

call-both : (c : CallerId) (call : Call) (reply : Reply) → is_wide (Called c call reply) ≡ false → is_both (row_of call).footprint ≡ false
call-both c (calls.PassiveSend call) reply h = absurd (let no : ⊥ = cc in no)
call-both c (calls.Create call) reply h = absurd (let no : ⊥ = cc in no)
call-both c call reply h = refl

take-both : (target : ℕ) (o : Option Entry) → is_both (declared_entry_footprint (take_footprint target) o) ≡ false
take-both target None = refl
take-both target (Some e) = by-kind e.kind
  where
    by-kind : (kind : Kind) → is_both (take_footprint target kind) ≡ false
    by-kind (kinds.Write own to) = refl
    by-kind (kinds.Read own to) = refl
    by-kind (kinds.Notify to value) = refl
    by-kind (kinds.ReadNote own) = refl

put-both : (target : ℕ) (o : Option Entry) → is_both (declared_entry_footprint (put_footprint target) o) ≡ false
put-both target None = refl
put-both target (Some e) = by-kind e.kind
  where
    by-kind : (kind : Kind) → is_both (put_footprint target kind) ≡ false
    by-kind (kinds.Write own to) = refl
    by-kind (kinds.Read own to) = refl
    by-kind (kinds.Notify to value) = refl
    by-kind (kinds.ReadNote own) = refl

join-both : (id : ℕ) (coll : Coll) → is_create coll ≡ false → is_both (join_footprint id coll) ≡ false
join-both id colls.Barrier h = refl
join-both id (colls.Allreduce op t n) h = refl
join-both id (colls.Create seg size) h = absurd (let no : ⊥ = cc in no)
join-both id (colls.Commit mask) h = refl

event-both : (posts : Posts) (e : Event) → is_wide e ≡ false → is_both (declared_footprint posts e) ≡ false
event-both posts (Joined c id args) h = join-both id args.coll h
event-both posts (Called c call reply) h = call-both c call reply h
event-both posts (Take origin queue target number outcome) h = take-both target (entry_in posts queue target number)
event-both posts (Put origin queue target number outcome) h = put-both target (entry_in posts queue target number)

pub few : (s : State) (e : Event) → is_wide e ≡ false → length (event_shards s e) ≤ 2
few s e h = go (slice_get s.posts (owner_of e)) refl
  where
    go : (o : Option Posts) → slice_get s.posts (owner_of e) ≡ o → length (event_shards s e) ≤ 2
    go None at = rw at (omega arith)
    go (Some posts) at = rw at (footprint-few s.limits.ranks (owner_of e) (declared_footprint posts e) (event-both posts e h))

-- a call that posts reaches its owner's posts alone
pub posting-reaches-none : (call : Call) (to : Posting) → (row_of call).posting ≡ Some to → (row_of call).footprint ≡ touches.Nothing
posting-reaches-none (Write call) to is = refl
posting-reaches-none (Read call) to is = refl
posting-reaches-none (Notify call) to is = refl
posting-reaches-none (WriteNotify call) to is = refl
posting-reaches-none (ReadNotify call) to is = refl
posting-reaches-none (WriteList call) to is = refl
posting-reaches-none (WriteListNotify call) to is = refl
posting-reaches-none (ReadList call) to is = refl
posting-reaches-none (ReadListNotify call) to is = refl
posting-reaches-none call to is = absurd (let no : ⊥ = cc in no)

-- and is no collective
pub posting-plain : (call : Call) (to : Posting) → (row_of call).posting ≡ Some to → (row_of call).group ≡ None
posting-plain (Write call) to is = refl
posting-plain (Read call) to is = refl
posting-plain (Notify call) to is = refl
posting-plain (WriteNotify call) to is = refl
posting-plain (ReadNotify call) to is = refl
posting-plain (WriteList call) to is = refl
posting-plain (WriteListNotify call) to is = refl
posting-plain (ReadList call) to is = refl
posting-plain (ReadListNotify call) to is = refl
posting-plain call to is = absurd (let no : ⊥ = cc in no)

-- A collective and its join have their group, and where a segment is made the own memory.
grouped : (s : State) (posts : Posts) (me id : ℕ) → slice_get s.posts me ≡ Some posts
    → footprint_shards me (footprint_of s.limits.ranks me (touches.GroupOf id)) ≡ shards.Posts me ∷ group_shards id
grouped s posts me id at = go (nat_lt id 8)
  where
    go : (b : Bool) → footprint_shards me (if b then Group id else Alone) ≡ shards.Posts me ∷ (if b then shards.Group id ∷ [] else [])
    go true = refl
    go false = refl

made-grouped : (s : State) (posts : Posts) (me id : ℕ) → slice_get s.posts me ≡ Some posts
    → footprint_shards me (footprint_of s.limits.ranks me (touches.GroupAndMemory id)) ≡ shards.Posts me ∷ create_shards me id
made-grouped s posts me id at = go (nat_lt id 8)
  where
    go : (b : Bool) → footprint_shards me (if b then GroupAndMemory id else Alone) ≡ shards.Posts me ∷ (if b then shards.Memory me ∷ shards.Group id ∷ [] else [])
    go true = refl
    go false = refl

pub collective-group : (s : State) (posts : Posts) (c : CallerId) (call : Call) (id : ℕ) (reply : Reply) → slice_get s.posts c.rank ≡ Some posts → (row_of call).group ≡ Some id → is_wide (Called c call reply) ≡ false
    → event_shards s (Called c call reply) ≡ shards.Posts c.rank ∷ group_shards id
collective-group s posts c (calls.Commit call) id reply at named narrow = (let same : call.group ≡ id = cc in rw at (grouped s posts c.rank call.group at ∙ ap (λ (k : ℕ). shards.Posts c.rank ∷ group_shards k) same))
collective-group s posts c (calls.Barrier call) id reply at named narrow = (let same : call.group ≡ id = cc in rw at (grouped s posts c.rank call.group at ∙ ap (λ (k : ℕ). shards.Posts c.rank ∷ group_shards k) same))
collective-group s posts c (calls.Allreduce call) id reply at named narrow = (let same : call.group ≡ id = cc in rw at (grouped s posts c.rank call.group at ∙ ap (λ (k : ℕ). shards.Posts c.rank ∷ group_shards k) same))
collective-group s posts c (calls.Create call) id reply at named narrow = absurd (let no : ⊥ = cc in no)
collective-group s posts c other id reply at named narrow = absurd (let no : ⊥ = cc in no)

pub create-group : (s : State) (posts : Posts) (c : CallerId) (call : create.Create) (reply : Reply) → slice_get s.posts c.rank ≡ Some posts
    → event_shards s (Called c (calls.Create call) reply) ≡ shards.Posts c.rank ∷ create_shards c.rank call.group
create-group s posts c call reply at = rw at (made-grouped s posts c.rank call.group at)

pub join-group : (s : State) (posts : Posts) (c : CallerId) (id : ℕ) (args : Args) → slice_get s.posts c.rank ≡ Some posts
    → event_shards s (Joined c id args) ≡ shards.Posts c.rank ∷ (if is_create args.coll then create_shards c.rank id else group_shards id)
join-group s posts c id args at = rw at (go args.coll)
  where
    go : (coll : Coll) → footprint_shards c.rank (footprint_of s.limits.ranks c.rank (join_footprint id coll)) ≡ shards.Posts c.rank ∷ (if is_create coll then create_shards c.rank id else group_shards id)
    go colls.Barrier = grouped s posts c.rank id at
    go (colls.Allreduce op t n) = grouped s posts c.rank id at
    go (colls.Create seg size) = made-grouped s posts c.rank id at
    go (colls.Commit mask) = grouped s posts c.rank id at

untouched : (s : State) (c : CallerId) (call : Call) (reply : Reply) → (row_of call).footprint ≡ touches.Nothing → event_shards s (Called c call reply) ≡ shards.Posts c.rank ∷ []
untouched s c call reply none = go (slice_get s.posts c.rank) refl
  where
    go : (o : Option Posts) → slice_get s.posts c.rank ≡ o → event_shards s (Called c call reply) ≡ shards.Posts c.rank ∷ []
    go None at = rw at refl
    go (Some posts) at = rw at (ap (λ (declaration : DeclaredFootprint). footprint_shards c.rank (footprint_of s.limits.ranks c.rank declaration)) none)

pub posting-alone : (s : State) (c : CallerId) (call : Call) (reply : Reply) (to : Posting) → (row_of call).posting ≡ Some to → event_shards s (Called c call reply) ≡ shards.Posts c.rank ∷ []
posting-alone s c call reply to posts = untouched s c call reply (posting-reaches-none call to posts)

pub wait-alone : (s : State) (c : CallerId) (call : wait.Wait) (reply : Reply) → event_shards s (Called c (Wait call) reply) ≡ shards.Posts c.rank ∷ []
wait-alone s c call reply = untouched s c (Wait call) reply refl

pub purge-alone : (s : State) (c : CallerId) (call : purge.Purge) (reply : Reply) → event_shards s (Called c (calls.Purge call) reply) ≡ shards.Posts c.rank ∷ []
purge-alone s c call reply = untouched s c (calls.Purge call) reply refl

pub qsize-alone : (s : State) (c : CallerId) (call : qsize.Qsize) (reply : Reply) → event_shards s (Called c (calls.Qsize call) reply) ≡ shards.Posts c.rank ∷ []
qsize-alone s c call reply = untouched s c (calls.Qsize call) reply refl

pub state-alone : (s : State) (c : CallerId) (reply : Reply) → event_shards s (Called c calls.State reply) ≡ shards.Posts c.rank ∷ []
state-alone s c reply = untouched s c calls.State reply refl

group-touches : (call : Call) → is_group_call call ≡ true → (row_of call).footprint ≡ touches.Nothing
group-touches calls.GroupCreate h = refl
group-touches (calls.GroupAdd call) h = refl
group-touches (calls.GroupDelete call) h = refl
group-touches call h = absurd (let no : ⊥ = cc in no)

pub group-alone : (s : State) (c : CallerId) (call : Call) (reply : Reply) → is_group_call call ≡ true → event_shards s (Called c call reply) ≡ shards.Posts c.rank ∷ []
group-alone s c call reply is = untouched s c call reply (group-touches call is)

pub receive-own : (s : State) (posts : Posts) (c : CallerId) (call : receive.PassiveReceive) (reply : Reply) → slice_get s.posts c.rank ≡ Some posts
    → event_shards s (Called c (calls.PassiveReceive call) reply) ≡ shards.Posts c.rank ∷ shards.Memory c.rank ∷ []
receive-own s posts c call reply at = rw at refl

pub send-both : (s : State) (posts : Posts) (c : CallerId) (call : send.PassiveSend) (reply : Reply) → slice_get s.posts c.rank ≡ Some posts
    → event_shards s (Called c (calls.PassiveSend call) reply) ≡ shards.Posts c.rank ∷ send_shards s.limits.ranks c.rank call.rank
send-both s posts c call reply at = rw at (go (call.rank == c.rank) (nat_lt call.rank s.limits.ranks))
  where
    go : (b d : Bool) → footprint_shards c.rank (if b then OwnMemory else (if d then BothMemories call.rank else Alone))
        ≡ shards.Posts c.rank ∷ (if b then shards.Memory c.rank ∷ [] else (if d then shards.Memory c.rank ∷ shards.Memory call.rank ∷ [] else []))
    go true d = refl
    go false true = refl
    go false false = refl

-- Coarser shards.

same-shards : (a b : Shard) → same_shard a b ≡ true → a ≡ b
same-shards (shards.Posts m) (shards.Posts n) h = ap shards.Posts (eqb-true m n h)
same-shards (shards.Posts m) (shards.Memory n) h = absurd (let no : ⊥ = cc in no)
same-shards (shards.Memory m) (shards.Posts n) h = absurd (let no : ⊥ = cc in no)
same-shards (shards.Memory m) (shards.Memory n) h = ap shards.Memory (eqb-true m n h)
same-shards (shards.Group m) (shards.Group n) h = ap shards.Group (eqb-true m n h)
same-shards (shards.Posts m) (shards.Group n) h = absurd (let no : ⊥ = cc in no)
same-shards (shards.Memory m) (shards.Group n) h = absurd (let no : ⊥ = cc in no)
same-shards (shards.Group m) (shards.Posts n) h = absurd (let no : ⊥ = cc in no)
same-shards (shards.Group m) (shards.Memory n) h = absurd (let no : ⊥ = cc in no)

-- what is a shard of a list has its number among theirs
pub numbered-among : (number : Shard → ℕ) (list : List Shard) (shard : Shard) → is_shard list shard ≡ true → list_any (nat_eq (number shard)) (map number list) ≡ true
numbered-among number [] shard h = absurd (let no : ⊥ = cc in no)
numbered-among number (x ∷ list) shard h = go (same_shard x shard) refl (λ rest. numbered-among number list shard rest)
  where
    later : (b c : Bool) → c ≡ true → (b || c) ≡ true
    later true c rest = refl
    later false c rest = rest

    go : (b : Bool) → same_shard x shard ≡ b → (is_shard list shard ≡ true → list_any (nat_eq (number shard)) (map number list) ≡ true) → list_any (nat_eq (number shard)) (map number (x ∷ list)) ≡ true
    go true is rest =
        let same = ap number (same-shards x shard is) in
        rw (eq-eqb (number shard) (number x) (sym same)) refl
    go false is rest = later (nat_eq (number shard) (number x)) (list_any (nat_eq (number shard)) (map number list)) (rest (rw is at h))

-- numbers without repeats are the same numbers
same-among : (list : List ℕ) (n : ℕ) → list_any (nat_eq n) (without_repeats list) ≡ list_any (nat_eq n) list
same-among [] n = refl
same-among (x ∷ list) n = go (list_any (nat_eq x) list) refl (same-among list n)
  where
    covered : (b : Bool) → nat_eq n x ≡ b → list_any (nat_eq x) list ≡ true → list_any (nat_eq n) list ≡ (b || list_any (nat_eq n) list)
    covered true is there = rw (eqb-true n x is) there
    covered false is there = refl

    go : (b : Bool) → list_any (nat_eq x) list ≡ b → list_any (nat_eq n) (without_repeats list) ≡ list_any (nat_eq n) list → list_any (nat_eq n) (without_repeats (x ∷ list)) ≡ list_any (nat_eq n) (x ∷ list)
    go true there rest = rw there (rest ∙ covered (nat_eq n x) refl there)
    go false there rest = rw there (ap (λ (b : Bool). nat_eq n x || b) rest)

-- each of them once
none-counted : (list : List ℕ) (n : ℕ) → list_any (nat_eq n) list ≡ false → count_by (λ m. m == n) list ≡ 0
none-counted [] n none = refl
none-counted (x ∷ list) n none = go (x == n) refl (none-counted list n (behind (nat_eq n x) none))
  where
    behind : (b : Bool) → (b || list_any (nat_eq n) list) ≡ false → list_any (nat_eq n) list ≡ false
    behind true none = absurd (let no : ⊥ = cc in no)
    behind false none = none

    go : (b : Bool) → (x == n) ≡ b → count_by (λ m. m == n) list ≡ 0 → count_by (λ m. m == n) (x ∷ list) ≡ 0
    go true is rest = absurd (let there = rw (eq-eqb n x (sym (eqb-true x n is))) at none in let no : ⊥ = cc in no)
    go false is rest = rw is rest

counted-cons : (x n : ℕ) (list : List ℕ) → count_by (λ m. m == n) (x ∷ list) ≡ cond (x == n) 1 0 + count_by (λ m. m == n) list
counted-cons x n list = sum_by-cons (λ (m : ℕ). cond (m == n) 1 0) x list

once-counted : (list : List ℕ) (n : ℕ) → count_by (λ m. m == n) (without_repeats list) ≤ 1
once-counted [] n = omega arith
once-counted (x ∷ list) n = go (list_any (nat_eq x) list) refl (x == n) refl (once-counted list n)
  where
    go : (b : Bool) → list_any (nat_eq x) list ≡ b → (c : Bool) → (x == n) ≡ c → count_by (λ m. m == n) (without_repeats list) ≤ 1 → count_by (λ m. m == n) (without_repeats (x ∷ list)) ≤ 1
    go true there c is rest = rw there rest
    go false there true is rest =
        let none = none-counted (without_repeats list) n (same-among list n ∙ subst (λ (k : ℕ). list_any (nat_eq k) list ≡ false) (eqb-true x n is) there) in
        let one : count_by (λ m. m == n) (x ∷ without_repeats list) ≡ 1 = counted-cons x n (without_repeats list) ∙ rw (is, none) refl in
        rw there (omega arith)
    go false there false is rest =
        let same : count_by (λ m. m == n) (x ∷ without_repeats list) ≡ count_by (λ m. m == n) (without_repeats list) = counted-cons x n (without_repeats list) ∙ rw is (omega arith) in
        rw there (omega arith)

pub coarse-once : (number : Shard → ℕ) (s : State) (e : Event) (n : ℕ) → count_by (λ m. m == n) (numbers_of number s e) ≤ 1
coarse-once number s e n = once-counted (map number (event_shards s e)) n

-- what is a shard of an event has its number among the event's
numbered : (number : Shard → ℕ) (s : State) (e : Event) (shard : Shard) → is_shard (event_shards s e) shard ≡ true → list_any (nat_eq (number shard)) (numbers_of number s e) ≡ true
numbered number s e shard is = same-among (map number (event_shards s e)) (number shard) ∙ numbered-among number (event_shards s e) shard is

pub coarse-frame : (number : Shard → ℕ) (s t : State) (e : Event) (shard : Shard) → step s e ≡ Ok t → list_any (nat_eq (number shard)) (numbers_of number s e) ≡ false → AgreeOnShard t s shard
coarse-frame number s t e shard h out = frame s t e shard h (by-test (is_shard (event_shards s e) shard) refl)
  where
    by-test : (b : Bool) → is_shard (event_shards s e) shard ≡ b → is_shard (event_shards s e) shard ≡ false
    by-test true is = absurd (let among = numbered number s e shard is in let no : ⊥ = cc in no)
    by-test false is = is

pub coarse-determined : (number : Shard → ℕ) (s s' : State) (e : Event) → AgreeOn (λ shard. list_any (nat_eq (number shard)) (numbers_of number s e)) s s' → HaveSameResult s s' (step s e) (step s' e)
coarse-determined number s s' e agree =
    determined s s' e (record { limits = agree.limits; parts = λ shard is. agree.parts shard (numbered number s e shard is) })

pub coarse-owner : (number : Shard → ℕ) (s : State) (e : Event) → list_any (nat_eq (number (shards.Posts (owner_of e)))) (numbers_of number s e) ≡ true
coarse-owner number s e = numbered number s e (shards.Posts (owner_of e)) (owner-among s e)
