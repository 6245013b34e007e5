-- In a sound state the memory that an event works on is there: its owner's, or that of a rank that it names.
use Rattle.std.proofs.Common.{◌≡◌, ℕ, ◌<◌, Bool, true, false, ◌==◌, nat_lt, List, length, Option, None, Some, Ok, refl, sym, ap, ◌∙◌, subst, arith, if◌then◌else◌}
use Rattle.std.specs.List.{slice_get, slice_set}
use Rattle.std.proofs.lemmas.Bool.{ltb-true, lt-ltb, eqb-true}
use Rattle.std.proofs.lemmas.Option.{slice_get_within}
use Rattle.gaspi_types.specs.CallRows.{row_of}
use Rattle.gaspi_types.specs.Footprints.{footprint_of, put_footprint}
use Rattle.gaspi_types.specs.Replies.{is_idle, same_reply}
use Rattle.gaspi_types.specs.declared.shapes.Limits.{Limits}
use Rattle.gaspi_types.specs.declared.shapes.CallerId.{CallerId}
use Rattle.gaspi_types.specs.declared.calls.Call.{Call}
use Rattle.gaspi_types.specs.declared.calls.Call.TheVariants.{Alloc, Delete, Store, Load, Waitsome, Reset, PassiveSend, PassiveReceive, FetchAdd, CompareSwap}
use Rattle.gaspi_types.specs.declared.entries.Kind.{Kind}
use Rattle.gaspi_types.specs.declared.entries.Kind.TheVariants.{Write, Read, Notify, ReadNote}
use Rattle.gaspi_types.specs.declared.events.Outcome.{Outcome}
use Rattle.gaspi_types.specs.declared.events.Event.TheVariants.{Called, Take, Put}
use Rattle.gaspi_types.specs.declared.replies.Reply.{Reply}
use Rattle.gaspi_types.specs.declared.footprints.DeclaredFootprint.{DeclaredFootprint}
use Rattle.gaspi_types.specs.declared.footprints.DeclaredFootprint.TheVariants as touches
use Rattle.gaspi_types.specs.declared.footprints.Footprint.{Footprint}
use Rattle.gaspi_types.specs.declared.footprints.Footprint.TheVariants.{Alone, OwnMemory, PeerMemory, BothMemories, PeerPosts, Group, GroupAndMemory}
use Rattle.gaspi_model.specs.State.{thread_at, is_running}
use Rattle.gaspi_model.specs.Calls.{call_result, answer, recorded_reply, answer_of_result, memory_effect, memory_after}
use Rattle.gaspi_model.specs.Parts.{memory_or_none}
use Rattle.gaspi_model.specs.Changes.{take_rank, put_rank}
use Rattle.gaspi_model.specs.Transfers.{EntryPosition, PostsAndMemory, source_bytes, take_outcome, same_outcome}
use Rattle.gaspi_types.specs.declared.inboxes.Message.{Message}
use Rattle.gaspi_model.specs.Step.{step, call_message}
use Rattle.gaspi_model.specs.Sound.{IsSound}
use Rattle.gaspi_model.specs.declared.states.Posts.{Posts}
use Rattle.gaspi_model.specs.declared.states.Memory.{Memory}
use Rattle.gaspi_model.specs.declared.states.State.{State}
use Rattle.gaspi_model.proofs.FoundReplies.{found-reply}
use Rattle.gaspi_model.proofs.Same.{same_reply-same}
use Rattle.gaspi_types.proofs.Items.{set-there, there-within}
use Rattle.gaspi_model.proofs.Sound.Registered.{registering}
use Rattle.gaspi_model.proofs.FoundEntries.{IsFound, take_with}
use Rattle.gaspi_model.proofs.Made.{IsTake, IsPut, IsCalled, memory_at, memories_at, call-footprint, take-footprint, put-footprint, IsCalledStep, step-called, step-take, step-put}

-- there is a memory for each rank
pub record HasMemories (s : State) : Type 0 where
  pub ranks : length s.posts ≡ s.limits.ranks
  pub memories : length s.memories ≡ s.limits.ranks

-- the rank whose memory an event of that reach works on; where it works on none, its owner's
abbrev pub memory_place : Footprint → ℕ → ℕ
memory_place Alone me = me
memory_place OwnMemory me = me
memory_place (PeerMemory rank) me = rank
memory_place (BothMemories rank) me = rank
memory_place (PeerPosts rank) me = me
memory_place (Group id) me = me
memory_place (GroupAndMemory id) me = me

abbrev pub memory_rank : Limits → ℕ → Call → ℕ
memory_rank limits me call = memory_place (call-footprint limits.ranks me call) me

-- that is a rank
pub place-within : (ranks me : ℕ) (declaration : DeclaredFootprint) → me < ranks → memory_place (footprint_of ranks me declaration) me < ranks
place-within ranks me touches.Nothing less = less
place-within ranks me touches.OwnMemory less = less
place-within ranks me (touches.MemoryOf r) less = go (r == me) (nat_lt r ranks) refl
  where
    go : (b c : Bool) → nat_lt r ranks ≡ c → memory_place (if b then OwnMemory else (if c then PeerMemory r else Alone)) me < ranks
    go true c is = less
    go false true is = ltb-true r ranks is
    go false false is = less
place-within ranks me (touches.BothMemories r) less = go (r == me) (nat_lt r ranks) refl
  where
    go : (b c : Bool) → nat_lt r ranks ≡ c → memory_place (if b then OwnMemory else (if c then BothMemories r else Alone)) me < ranks
    go true c is = less
    go false true is = ltb-true r ranks is
    go false false is = less
place-within ranks me (touches.PostsOf r) less = go (r == me) (nat_lt r ranks)
  where
    go : (b c : Bool) → memory_place (if b then Alone else (if c then PeerPosts r else Alone)) me < ranks
    go true c = less
    go false true = less
    go false false = less
place-within ranks me (touches.GroupOf id) less = go (nat_lt id 8)
  where
    go : (b : Bool) → memory_place (if b then Group id else Alone) me < ranks
    go true = less
    go false = less
place-within ranks me (touches.GroupAndMemory id) less = go (nat_lt id 8)
  where
    go : (b : Bool) → memory_place (if b then GroupAndMemory id else Alone) me < ranks
    go true = less
    go false = less

-- whether an event of that reach works on no memory
abbrev pub is_off_memory : Footprint → Bool
is_off_memory Alone = true
is_off_memory OwnMemory = false
is_off_memory (PeerMemory rank) = false
is_off_memory (BothMemories rank) = false
is_off_memory (PeerPosts rank) = true
is_off_memory (Group id) = true
is_off_memory (GroupAndMemory id) = false

-- An atomic that works on no memory names no rank.
word-off_memory : (limits : Limits) (me : ℕ) (posts : Posts) (m : Memory) (seg offset rank : ℕ) → is_off_memory (footprint_of limits.ranks me (touches.MemoryOf rank)) ≡ true → nat_lt rank limits.ranks ≡ false
word-off_memory limits me posts m seg offset rank h = go (rank == me) (nat_lt rank limits.ranks) refl h
  where
    go : (b c : Bool) → nat_lt rank limits.ranks ≡ c → is_off_memory (if b then OwnMemory else (if c then PeerMemory rank else Alone)) ≡ true → nat_lt rank limits.ranks ≡ false
    go true c is h = absurd (let no : ⊥ = cc in no)
    go false true is h = absurd (let no : ⊥ = cc in no)
    go false false is h = is

-- So does a send.
send-off_memory : (limits : Limits) (me rank : ℕ) → is_off_memory (footprint_of limits.ranks me (touches.BothMemories rank)) ≡ true → nat_lt rank limits.ranks ≡ false
send-off_memory limits me rank h = go (rank == me) (nat_lt rank limits.ranks) refl h
  where
    go : (b c : Bool) → nat_lt rank limits.ranks ≡ c → is_off_memory (if b then OwnMemory else (if c then BothMemories rank else Alone)) ≡ true → nat_lt rank limits.ranks ≡ false
    go true c is h = absurd (let no : ⊥ = cc in no)
    go false true is h = absurd (let no : ⊥ = cc in no)
    go false false is h = is

-- A call that works on no memory finds the same whatever the memory is, and leaves it.
pub result-off_memory : (limits : Limits) (me : ℕ) (posts : Posts) (m m' : Memory) (call : Call) → is_off_memory (call-footprint limits.ranks me call) ≡ true
    → call_result limits me posts m call ≡ call_result limits me posts m' call
result-off_memory limits me posts m m' (Load call) h = absurd (let no : ⊥ = cc in no)
result-off_memory limits me posts m m' (Waitsome call) h = absurd (let no : ⊥ = cc in no)
result-off_memory limits me posts m m' (Reset call) h = absurd (let no : ⊥ = cc in no)
result-off_memory limits me posts m m' (PassiveSend call) h = rw (send-off_memory limits me call.rank h) refl
result-off_memory limits me posts m m' (PassiveReceive call) h = absurd (let no : ⊥ = cc in no)
result-off_memory limits me posts m m' (FetchAdd call) h = rw (word-off_memory limits me posts m call.seg call.offset call.rank h) refl
result-off_memory limits me posts m m' (CompareSwap call) h = rw (word-off_memory limits me posts m call.seg call.offset call.rank h) refl
result-off_memory limits me posts m m' other h = refl

done-off_memory : (limits : Limits) (me : ℕ) (posts : Posts) (brought : Option Message) (m : Memory) (call : Call) (reply : Reply) → is_off_memory (call-footprint limits.ranks me call) ≡ true
    → call_result limits me posts m call ≡ Ok (Some reply) → memory_effect limits posts brought m call ≡ m
done-off_memory limits me posts brought m (Alloc call) reply h finds = absurd (let no : ⊥ = cc in no)
done-off_memory limits me posts brought m (Delete call) reply h finds = absurd (let no : ⊥ = cc in no)
done-off_memory limits me posts brought m (Store call) reply h finds = absurd (let no : ⊥ = cc in no)
done-off_memory limits me posts brought m (Reset call) reply h finds = absurd (let no : ⊥ = cc in no)
done-off_memory limits me posts brought m (PassiveSend call) reply h finds =
    absurd (let refused = rw (send-off_memory limits me call.rank h) at finds in let no : ⊥ = cc in no)
done-off_memory limits me posts brought m (PassiveReceive call) reply h finds = absurd (let no : ⊥ = cc in no)
done-off_memory limits me posts brought m (FetchAdd call) reply h finds =
    absurd (let refused = rw (word-off_memory limits me posts m call.seg call.offset call.rank h) at finds in let no : ⊥ = cc in no)
done-off_memory limits me posts brought m (CompareSwap call) reply h finds =
    absurd (let refused = rw (word-off_memory limits me posts m call.seg call.offset call.rank h) at finds in let no : ⊥ = cc in no)
done-off_memory limits me posts brought m other reply h finds = refl

pub answer-off_memory : (limits : Limits) (me : ℕ) (posts : Posts) (m m' : Memory) (thread : ℕ) (call : Call) → is_off_memory (call-footprint limits.ranks me call) ≡ true
    → answer limits me posts m thread call ≡ answer limits me posts m' thread call
answer-off_memory limits me posts m m' thread call h = go (is_running (thread_at posts thread)) refl
  where
    go : (b : Bool) → is_running (thread_at posts thread) ≡ b → answer limits me posts m thread call ≡ answer limits me posts m' thread call
    go true is = rw is (ap answer_of_result (result-off_memory limits me posts m m' call h))
    go false is = rw is refl

called-off_memory : (limits : Limits) (me : ℕ) (posts : Posts) (brought : Option Message) (m m' : Memory) (thread : ℕ) (call : Call) (reply : Reply) (after : PostsAndMemory)
    → is_off_memory (call-footprint limits.ranks me call) ≡ true → IsCalled limits me posts brought m thread call reply after
    → IsCalled limits me posts brought m' thread call reply (record { posts = after.posts; memory = m' })
called-off_memory limits me posts brought m m' thread call reply after h is = record {
  there = is.there;
  answered = answered;
  room = is.room;
  leaves = ap (λ (p : Posts). let x : PostsAndMemory = record { posts = p; memory = m' } in x) (ap (λ (x : PostsAndMemory). x.posts) is.leaves)
      ∙ ap (λ (k : Memory). let x : PostsAndMemory = record { posts = _; memory = k } in x) (sym (kept (is_idle reply) refl));
}
  where
    answered : same_reply reply (recorded_reply (answer limits me posts m' thread call)) ≡ true
    answered = subst (λ (r : _). same_reply reply (recorded_reply r) ≡ true) (answer-off_memory limits me posts m m' thread call h) is.answered

    kept : (b : Bool) → is_idle reply ≡ b → memory_after limits posts brought m' call reply ≡ m'
    kept true idle = rw idle refl
    kept false awake =
        rw awake (done-off_memory limits me posts brought m' call reply h (found-reply limits me posts m' thread call reply (same_reply-same _ _ answered) awake))

-- a call's step, by the place of the memory that it works on
pub record IsCalledThere (s t : State) (c : CallerId) (call : Call) (reply : Reply) (posts : Posts) (memory : Memory) (after : PostsAndMemory) : Type 0 where
  pub posts_there : slice_get s.posts c.rank ≡ Some posts
  pub memory_there : slice_get s.memories (memory_rank s.limits c.rank call) ≡ Some memory
  pub is : IsCalled s.limits c.rank posts (call_message s c.rank call) memory c.thread call reply after
  pub leaves : t ≡ record s {
    posts = registering s.limits.ranks c.rank posts call reply (slice_set s.posts c.rank after.posts);
    memories = slice_set s.memories (memory_rank s.limits c.rank call) after.memory;
  }

pub called-there : (s t : State) (c : CallerId) (call : Call) (reply : Reply) → (row_of call).group ≡ None → HasMemories s → step s (Called c call reply) ≡ Ok t
    → (posts : Posts) × (memory : Memory) × (after : PostsAndMemory) × IsCalledThere s t c call reply posts memory after
called-there s t c call reply plain has h =
    let made = step-called s t c call reply plain h in
    let within = slice_get_within s.posts c.rank made.0 made.3.posts_there in
    let place = place-within s.limits.ranks c.rank (row_of call).footprint (let ranks = has.ranks in omega arith) in
    let there = there-within s.memories (memory_rank s.limits c.rank call) (let memories = has.memories in omega arith) in
    by-footprint (call-footprint s.limits.ranks c.rank call) refl made.0 made.1 made.2 made.3 there.0 there.1
  where
    -- the memory is worked on
    worked : (posts : Posts) (m : Memory) (after : PostsAndMemory) → IsCalledStep s t c call reply posts m after → (memory : Memory) → slice_get s.memories (memory_rank s.limits c.rank call) ≡ Some memory
        → memory_at (call-footprint s.limits.ranks c.rank call) c.rank s.memories ≡ memory
        → memories_at (call-footprint s.limits.ranks c.rank call) c.rank after.memory s.memories ≡ slice_set s.memories (memory_rank s.limits c.rank call) after.memory
        → (posts : Posts) × (memory : Memory) × (after : PostsAndMemory) × IsCalledThere s t c call reply posts memory after
    worked posts m after made memory there same sets = (
      posts,
      memory,
      after,
      record {
        posts_there = made.posts_there;
        memory_there = there;
        is = subst (λ (x : Memory). IsCalled s.limits c.rank posts (call_message s c.rank call) x c.thread call reply after) (made.worked ∙ same) made.is;
        leaves = made.leaves
            ∙ ap (λ (x : List Memory). record s { posts = registering s.limits.ranks c.rank posts call reply (slice_set s.posts c.rank after.posts); memories = x }) sets;
      },
    )

    -- none is
    unworked : (posts : Posts) (m : Memory) (after : PostsAndMemory) → IsCalledStep s t c call reply posts m after → (memory : Memory) → slice_get s.memories (memory_rank s.limits c.rank call) ≡ Some memory
        → is_off_memory (call-footprint s.limits.ranks c.rank call) ≡ true
        → memories_at (call-footprint s.limits.ranks c.rank call) c.rank after.memory s.memories ≡ s.memories
        → (posts : Posts) × (memory : Memory) × (after : PostsAndMemory) × IsCalledThere s t c call reply posts memory after
    unworked posts m after made memory there none same = (
      posts,
      memory,
      record { posts = after.posts; memory = memory },
      record {
        posts_there = made.posts_there;
        memory_there = there;
        is = called-off_memory s.limits c.rank posts (call_message s c.rank call) m memory c.thread call reply after none made.is;
        leaves = made.leaves
            ∙ ap (λ (x : List Memory). record s { posts = registering s.limits.ranks c.rank posts call reply (slice_set s.posts c.rank after.posts); memories = x })
            (same ∙ sym (set-there s.memories (memory_rank s.limits c.rank call) memory there));
      },
    )

    by-footprint : (r : Footprint) → call-footprint s.limits.ranks c.rank call ≡ r → (posts : Posts) (m : Memory) (after : PostsAndMemory) → IsCalledStep s t c call reply posts m after
        → (memory : Memory) → slice_get s.memories (memory_rank s.limits c.rank call) ≡ Some memory
        → (posts : Posts) × (memory : Memory) × (after : PostsAndMemory) × IsCalledThere s t c call reply posts memory after
    by-footprint Alone is posts m after made memory there = unworked posts m after made memory there (rw is refl) (rw is refl)
    by-footprint OwnMemory is posts m after made memory there =
        let here : slice_get s.memories c.rank ≡ Some memory = rw is at there in
        worked posts m after made memory there (rw (is, here) refl) (rw is refl)
    by-footprint (PeerMemory rank) is posts m after made memory there =
        let here : slice_get s.memories rank ≡ Some memory = rw is at there in
        worked posts m after made memory there (rw (is, here) refl) (rw is refl)
    by-footprint (BothMemories rank) is posts m after made memory there =
        let here : slice_get s.memories rank ≡ Some memory = rw is at there in
        worked posts m after made memory there (rw (is, here) refl) (rw is refl)
    by-footprint (PeerPosts rank) is posts m after made memory there = unworked posts m after made memory there (rw is refl) (rw is refl)
    by-footprint (Group id) is posts m after made memory there = unworked posts m after made memory there (rw is refl) (rw is refl)
    by-footprint (GroupAndMemory id) is posts m after made memory there =
        let here : slice_get s.memories c.rank ≡ Some memory = rw is at there in
        worked posts m after made memory there (rw (is, here) refl) (rw is refl)

-- The memory that an event of some reach works on is there.
pub on_memory-there : (s : State) (me : ℕ) (declaration : DeclaredFootprint) → HasMemories s → me < s.limits.ranks → is_off_memory (footprint_of s.limits.ranks me declaration) ≡ false
    → slice_get s.memories (memory_place (footprint_of s.limits.ranks me declaration) me) ≡ Some (memory_at (footprint_of s.limits.ranks me declaration) me s.memories)
on_memory-there s me declaration has less worked =
    let place = place-within s.limits.ranks me declaration less in
    let there = there-within s.memories (memory_place (footprint_of s.limits.ranks me declaration) me) (let memories = has.memories in omega arith) in
    go (footprint_of s.limits.ranks me declaration) worked there.0 there.1
  where
    go : (r : Footprint) → is_off_memory r ≡ false → (m : Memory) → slice_get s.memories (memory_place r me) ≡ Some m → slice_get s.memories (memory_place r me) ≡ Some (memory_at r me s.memories)
    go Alone works m at = absurd (let none : ⊥ = cc in none)
    go OwnMemory works m at = at ∙ ap (λ (x : Memory). Some x) (sym (ap memory_or_none at))
    go (PeerMemory rank) works m at = at ∙ ap (λ (x : Memory). Some x) (sym (ap memory_or_none at))
    go (BothMemories rank) works m at = at ∙ ap (λ (x : Memory). Some x) (sym (ap memory_or_none at))
    go (PeerPosts rank) works m at = absurd (let none : ⊥ = cc in none)
    go (Group id) works m at = absurd (let none : ⊥ = cc in none)
    go (GroupAndMemory id) works m at = at ∙ ap (λ (x : Memory). Some x) (sym (ap memory_or_none at))

on_memory-set : (r : Footprint) (me : ℕ) (memory : Memory) (all : List Memory) → is_off_memory r ≡ false → memories_at r me memory all ≡ slice_set all (memory_place r me) memory
on_memory-set Alone me memory all works = absurd (let none : ⊥ = cc in none)
on_memory-set OwnMemory me memory all works = refl
on_memory-set (PeerMemory rank) me memory all works = refl
on_memory-set (BothMemories rank) me memory all works = refl
on_memory-set (PeerPosts rank) me memory all works = absurd (let none : ⊥ = cc in none)
on_memory-set (Group id) me memory all works = absurd (let none : ⊥ = cc in none)
on_memory-set (GroupAndMemory id) me memory all works = refl

-- that of a rank is worked on
rank-on_memory : (ranks rank me : ℕ) → nat_lt rank ranks ≡ true
    → (is_off_memory (footprint_of ranks me (touches.MemoryOf rank)) ≡ false) × (memory_place (footprint_of ranks me (touches.MemoryOf rank)) me ≡ rank)
rank-on_memory ranks rank me less = go (rank == me) refl
  where
    go : (b : Bool) → (rank == me) ≡ b → (is_off_memory (footprint_of ranks me (touches.MemoryOf rank)) ≡ false) × (memory_place (footprint_of ranks me (touches.MemoryOf rank)) me ≡ rank)
    go true is = (rw is refl, rw is (sym (eqb-true rank me is)))
    go false is = (rw (is, less) refl, rw (is, less) refl)

-- The memory from which an entry takes: where it takes nothing, any.
take-memory : (s : State) (origin target : ℕ) (kind : Kind) → HasMemories s → origin < s.limits.ranks → nat_lt target s.limits.ranks ≡ true
    → (memory : Memory) × (slice_get s.memories (take_rank origin target kind) ≡ Some memory)
    × (source_bytes (memory_at (take-footprint s.limits.ranks origin target kind) origin s.memories) kind ≡ source_bytes memory kind)
    × (take_outcome (memory_at (take-footprint s.limits.ranks origin target kind) origin s.memories) kind ≡ take_outcome memory kind)
take-memory s origin target (Write own to) has mine theirs =
    (memory_at OwnMemory origin s.memories, on_memory-there s origin touches.OwnMemory has mine refl, refl, refl)
take-memory s origin target (Read own to) has mine theirs =
    let worked = rank-on_memory s.limits.ranks target origin theirs in
    let footprint = footprint_of s.limits.ranks origin (touches.MemoryOf target) in
    (memory_at footprint origin s.memories, ap (slice_get s.memories) (sym worked.1) ∙ on_memory-there s origin (touches.MemoryOf target) has mine worked.0, refl, refl)
take-memory s origin target (Notify to value) has mine theirs = (memory_at OwnMemory origin s.memories, on_memory-there s origin touches.OwnMemory has mine refl, refl, refl)
take-memory s origin target (ReadNote own) has mine theirs = (memory_at OwnMemory origin s.memories, on_memory-there s origin touches.OwnMemory has mine refl, refl, refl)

-- a put works on the memory of its target, or on that of its origin
put-on_memory : (ranks origin target : ℕ) (kind : Kind) → nat_lt target ranks ≡ true
    → (is_off_memory (put-footprint ranks origin target kind) ≡ false) × (memory_place (put-footprint ranks origin target kind) origin ≡ put_rank origin target kind)
put-on_memory ranks origin target (Write own to) less = rank-on_memory ranks target origin less
put-on_memory ranks origin target (Read own to) less = (refl, refl)
put-on_memory ranks origin target (Notify to value) less = rank-on_memory ranks target origin less
put-on_memory ranks origin target (ReadNote own) less = (refl, refl)

-- a take's step, by the rank from whose memory it takes
pub record IsTakeThere (s t : State) (origin queue target number : ℕ) (outcome : Outcome) (posts : Posts) (memory : Memory) (after : Posts) (at : EntryPosition) : Type 0 where
  pub posts_there : slice_get s.posts origin ≡ Some posts
  pub memory_there : slice_get s.memories (take_rank origin target at.entry.kind) ≡ Some memory
  pub is : IsTake s.limits posts memory queue target number outcome after at
  pub leaves : t ≡ record s { posts = slice_set s.posts origin after }

-- a put's step, by the rank into whose memory it puts
pub record IsPutThere (s t : State) (origin queue target number : ℕ) (outcome : Outcome) (posts : Posts) (memory : Memory) (after : PostsAndMemory) (at : EntryPosition) : Type 0 where
  pub posts_there : slice_get s.posts origin ≡ Some posts
  pub memory_there : slice_get s.memories (put_rank origin target at.entry.kind) ≡ Some memory
  pub is : IsPut posts memory queue target number outcome after at
  pub leaves : t ≡ record s { posts = slice_set s.posts origin after.posts; memories = slice_set s.memories (put_rank origin target at.entry.kind) after.memory }

-- In a sound state.

pub has-memories : (s : State) → IsSound s → HasMemories s
has-memories s sound = record { ranks = sound.ranks; memories = sound.memories }

pub sound-called : (s t : State) (c : CallerId) (call : Call) (reply : Reply) → (row_of call).group ≡ None → IsSound s → step s (Called c call reply) ≡ Ok t
    → (posts : Posts) × (memory : Memory) × (after : PostsAndMemory) × IsCalledThere s t c call reply posts memory after
sound-called s t c call reply plain sound h = called-there s t c call reply plain (has-memories s sound) h

-- the target of an entry that was found is a rank
target-ranked : (s : State) (origin queue target number : ℕ) (posts : Posts) (at : EntryPosition) → IsSound s → slice_get s.posts origin ≡ Some posts → IsFound posts queue target number at
    → nat_lt target s.limits.ranks ≡ true
target-ranked s origin queue target number posts at sound there is =
    let lanes = (sound.posts origin posts there).lanes queue at.queue is.in_posts in
    let within = slice_get_within at.queue.lanes target at.lane is.in_queue in
    lt-ltb target s.limits.ranks (omega arith)

pub sound-take : (s t : State) (origin queue target number : ℕ) (outcome : Outcome) → IsSound s → step s (Take origin queue target number outcome) ≡ Ok t
    → (posts : Posts) × (memory : Memory) × (after : Posts) × (at : EntryPosition) × IsTakeThere s t origin queue target number outcome posts memory after at
sound-take s t origin queue target number outcome sound h =
    let made = step-take s t origin queue target number outcome h in
    let m = made.4 in
    let at = made.3 in
    let within = slice_get_within s.posts origin made.0 m.posts_there in
    let memory = take-memory s origin target at.entry.kind (has-memories s sound) (let ranks = sound.ranks in omega arith) (target-ranked s origin queue target number made.0 at sound m.posts_there m.is.is) in
    let bytes = ap (λ (x : Memory). source_bytes x at.entry.kind) m.worked ∙ memory.2 in
    let outcomes = ap (λ (x : Memory). take_outcome x at.entry.kind) m.worked ∙ memory.3 in (
      made.0,
      memory.0,
      made.2,
      at,
      record {
        posts_there = m.posts_there;
        memory_there = memory.1;
        is = record {
          is = m.is.is;
          whole = m.is.whole;
          permitted = m.is.permitted;
          fits = subst (λ (o : Outcome). same_outcome outcome o ≡ true) outcomes m.is.fits;
          leaves = m.is.leaves ∙ ap (λ (b : List ℕ). take_with made.0 queue target at b outcome) bytes;
        };
        leaves = m.leaves;
      },
    )

pub sound-put : (s t : State) (origin queue target number : ℕ) (outcome : Outcome) → IsSound s → step s (Put origin queue target number outcome) ≡ Ok t
    → (posts : Posts) × (memory : Memory) × (after : PostsAndMemory) × (at : EntryPosition) × IsPutThere s t origin queue target number outcome posts memory after at
sound-put s t origin queue target number outcome sound h =
    let made = step-put s t origin queue target number outcome h in
    let m = made.4 in
    let at = made.3 in
    let kind = at.entry.kind in
    let within = slice_get_within s.posts origin made.0 m.posts_there in
    let worked = put-on_memory s.limits.ranks origin target kind (target-ranked s origin queue target number made.0 at sound m.posts_there m.is.is) in
    let there = on_memory-there s origin (put_footprint target kind) (has-memories s sound) (let ranks = sound.ranks in omega arith) worked.0 in
    let sets = on_memory-set (put-footprint s.limits.ranks origin target kind) origin made.2.memory s.memories worked.0 in (
      made.0,
      made.1,
      made.2,
      at,
      record {
        posts_there = m.posts_there;
        memory_there = ap (slice_get s.memories) (sym worked.1) ∙ there ∙ ap (λ (x : Memory). Some x) (sym m.worked);
        is = m.is;
        leaves = m.leaves
            ∙ ap (λ (x : List Memory). record s { posts = slice_set s.posts origin made.2.posts; memories = x }) (sets ∙ ap (λ (n : ℕ). slice_set s.memories n made.2.memory) worked.1);
      },
    )
