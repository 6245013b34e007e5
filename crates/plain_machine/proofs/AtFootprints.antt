-- What is reached: a peer is another rank of the world; and what an event does to the whole state.
use Rattle.std.proofs.Common.{◌≡◌, ℕ, ◌<◌, Bool, true, false, ◌==◌, nat_lt, if◌then◌else◌, List, length, Option, None, Some, Result, Ok, Err, slice_get, slice_set, refl, sym, ap, ◌∙◌}
use Rattle.std.proofs.lemmas.Bool.{eq-eqb, ltb-true}
use Rattle.std.proofs.lemmas.List.{length-set}
use Rattle.std.specs.Option.{option_map}
use Rattle.gaspi_types.specs.CallRows.{row_of}
use Rattle.gaspi_types.specs.Checks.{◌>>=◌, ok_or}
use Rattle.gaspi_types.specs.Footprints.{footprint_of, take_footprint, put_footprint}
use Rattle.gaspi_types.specs.declared.calls.Call.{Call}
use Rattle.gaspi_types.specs.declared.events.Event.TheVariants.{Called, Take, Put}
use Rattle.gaspi_types.specs.declared.events.Outcome.{Outcome}
use Rattle.gaspi_types.specs.declared.groups.Group as groups
use Rattle.gaspi_types.specs.declared.replies.Reply.{Reply}
use Rattle.gaspi_types.specs.declared.shapes.CallerId.{CallerId}
use Rattle.gaspi_types.specs.declared.footprints.DeclaredFootprint.{DeclaredFootprint}
use Rattle.gaspi_types.specs.declared.footprints.DeclaredFootprint.TheVariants as touches
use Rattle.gaspi_types.specs.declared.footprints.Footprint.{Footprint}
use Rattle.gaspi_types.specs.declared.footprints.Footprint.TheVariants.{Alone, OwnMemory, PeerMemory, BothMemories, PeerPosts, Group, GroupAndMemory}
use Rattle.gaspi_model.specs.Calls.{peer_after}
use Rattle.gaspi_model.specs.Parts.{part_numbers, parts_of, part_at, with_part, accessed_memory}
use Rattle.gaspi_types.specs.Tables.{changed_at}
use Rattle.gaspi_model.specs.Step.{step, called, call_message, declared_entry_footprint}
use Rattle.gaspi_model.proofs.Sound.Registered.{both-touched}
use Rattle.gaspi_model.specs.Transfers.{entry_in, take, put, PostsAndMemory}
use Rattle.gaspi_model.specs.declared.states.Posts.{Posts}
use Rattle.gaspi_model.specs.declared.states.Memory.{Memory}
use Rattle.gaspi_model.specs.declared.states.State.{State}
use Rattle.gaspi_model.specs.declared.states.Why.{Why}
use Rattle.gaspi_model.specs.declared.states.Why.TheVariants as whys
use Rattle.gaspi_types.proofs.Items.{slice_get-set_other, set-there}
use Rattle.plain_machine.specs.Footprints.{call_footprint, entry_footprint, memory_at, with_memory_at, with_peer_at, PostsAndLentMemory, call_lent}
use Rattle.gaspi_types.proofs.Chains.{bind_then, found_there}
use Rattle.plain_calls.proofs.Queues.{peer_queues}

pub record IsPeer (ranks me rank : ℕ) : Type 0 where
  pub apart : (rank == me) ≡ false
  pub within : rank < ranks

-- a peer whose memory is reached
pub memory_peer : (ranks me rank : ℕ) (declaration : DeclaredFootprint) → footprint_of ranks me declaration ≡ PeerMemory rank → IsPeer ranks me rank
memory_peer ranks me rank touches.Nothing is = absurd (let no : ⊥ = cc in no)
memory_peer ranks me rank touches.OwnMemory is = absurd (let no : ⊥ = cc in no)
memory_peer ranks me rank (touches.MemoryOf named) is = by_tests (named == me) (nat_lt named ranks) refl refl is
  where
    by_tests : (same less : Bool) → (named == me) ≡ same → nat_lt named ranks ≡ less → (if same then OwnMemory else (if less then PeerMemory named else Alone)) ≡ PeerMemory rank → IsPeer ranks me rank
    by_tests true less a b is = absurd (let no : ⊥ = cc in no)
    by_tests false false a b is = absurd (let no : ⊥ = cc in no)
    by_tests false true a b is = let same : named ≡ rank = cc in rw (← same) (record { apart = a; within = ltb-true named ranks b })
memory_peer ranks me rank (touches.BothMemories named) is = by_tests (named == me) (nat_lt named ranks) is
  where
    by_tests : (same less : Bool) → (if same then OwnMemory else (if less then BothMemories named else Alone)) ≡ PeerMemory rank → IsPeer ranks me rank
    by_tests true less is = absurd (let no : ⊥ = cc in no)
    by_tests false false is = absurd (let no : ⊥ = cc in no)
    by_tests false true is = absurd (let no : ⊥ = cc in no)
memory_peer ranks me rank (touches.PostsOf named) is = by_tests (named == me) (nat_lt named ranks) is
  where
    by_tests : (same less : Bool) → (if same then Alone else (if less then PeerPosts named else Alone)) ≡ PeerMemory rank → IsPeer ranks me rank
    by_tests true less is = absurd (let no : ⊥ = cc in no)
    by_tests false false is = absurd (let no : ⊥ = cc in no)
    by_tests false true is = absurd (let no : ⊥ = cc in no)
memory_peer ranks me rank (touches.GroupOf id) is = by_test (nat_lt id 8) is
  where
    by_test : (less : Bool) → (if less then Group id else Alone) ≡ PeerMemory rank → IsPeer ranks me rank
    by_test true is = absurd (let no : ⊥ = cc in no)
    by_test false is = absurd (let no : ⊥ = cc in no)
memory_peer ranks me rank (touches.GroupAndMemory id) is = by_test (nat_lt id 8) is
  where
    by_test : (less : Bool) → (if less then GroupAndMemory id else Alone) ≡ PeerMemory rank → IsPeer ranks me rank
    by_test true is = absurd (let no : ⊥ = cc in no)
    by_test false is = absurd (let no : ⊥ = cc in no)

-- a peer whose memory is reached beside the own one
pub both_peer : (ranks me rank : ℕ) (declaration : DeclaredFootprint) → footprint_of ranks me declaration ≡ BothMemories rank → IsPeer ranks me rank
both_peer ranks me rank declaration is = let touched = both-touched ranks me rank declaration is in record { apart = touched.1; within = ltb-true rank ranks touched.2 }

-- a peer whose posts are reached
pub posts_peer : (ranks me rank : ℕ) (declaration : DeclaredFootprint) → footprint_of ranks me declaration ≡ PeerPosts rank → IsPeer ranks me rank
posts_peer ranks me rank touches.Nothing is = absurd (let no : ⊥ = cc in no)
posts_peer ranks me rank touches.OwnMemory is = absurd (let no : ⊥ = cc in no)
posts_peer ranks me rank (touches.MemoryOf named) is = by_tests (named == me) (nat_lt named ranks) is
  where
    by_tests : (same less : Bool) → (if same then OwnMemory else (if less then PeerMemory named else Alone)) ≡ PeerPosts rank → IsPeer ranks me rank
    by_tests true less is = absurd (let no : ⊥ = cc in no)
    by_tests false false is = absurd (let no : ⊥ = cc in no)
    by_tests false true is = absurd (let no : ⊥ = cc in no)
posts_peer ranks me rank (touches.BothMemories named) is = by_tests (named == me) (nat_lt named ranks) is
  where
    by_tests : (same less : Bool) → (if same then OwnMemory else (if less then BothMemories named else Alone)) ≡ PeerPosts rank → IsPeer ranks me rank
    by_tests true less is = absurd (let no : ⊥ = cc in no)
    by_tests false false is = absurd (let no : ⊥ = cc in no)
    by_tests false true is = absurd (let no : ⊥ = cc in no)
posts_peer ranks me rank (touches.PostsOf named) is = by_tests (named == me) (nat_lt named ranks) refl refl is
  where
    by_tests : (same less : Bool) → (named == me) ≡ same → nat_lt named ranks ≡ less → (if same then Alone else (if less then PeerPosts named else Alone)) ≡ PeerPosts rank → IsPeer ranks me rank
    by_tests true less a b is = absurd (let no : ⊥ = cc in no)
    by_tests false false a b is = absurd (let no : ⊥ = cc in no)
    by_tests false true a b is = let same : named ≡ rank = cc in rw (← same) (record { apart = a; within = ltb-true named ranks b })
posts_peer ranks me rank (touches.GroupOf id) is = by_test (nat_lt id 8) is
  where
    by_test : (less : Bool) → (if less then Group id else Alone) ≡ PeerPosts rank → IsPeer ranks me rank
    by_test true is = absurd (let no : ⊥ = cc in no)
    by_test false is = absurd (let no : ⊥ = cc in no)
posts_peer ranks me rank (touches.GroupAndMemory id) is = by_test (nat_lt id 8) is
  where
    by_test : (less : Bool) → (if less then GroupAndMemory id else Alone) ≡ PeerPosts rank → IsPeer ranks me rank
    by_test true is = absurd (let no : ⊥ = cc in no)
    by_test false is = absurd (let no : ⊥ = cc in no)

-- the memory that is worked on, among all
pub memory_as : (s : State) (me : ℕ) (posts : Posts) (footprint : Footprint) → accessed_memory footprint (parts_of s posts (part_numbers me footprint)) ≡ memory_at s.memories me footprint
memory_as s me posts Alone = refl
memory_as s me posts OwnMemory = refl
memory_as s me posts (PeerMemory rank) = refl
memory_as s me posts (BothMemories rank) = refl
memory_as s me posts (PeerPosts rank) = refl
memory_as s me posts (Group id) = refl
memory_as s me posts (GroupAndMemory id) = refl

-- a part that is written back as it was
written_back : {X : Type 0} (table : List X) (place : Option ℕ) → with_part table place (part_at table place) ≡ table
written_back table None = refl
written_back {X} table (Some place) = by_item (slice_get table place) refl
  where
    by_item : (o : Option X) → slice_get table place ≡ o → with_part table (Some place) (slice_get table place) ≡ table
    by_item None there = rw there refl
    by_item (Some x) there = rw there (set-there table place x there)

-- the posts of a peer stand there after its owner's changed
pub peer_there : (all : List Posts) (me rank : ℕ) (posts : Posts) → (rank == me) ≡ false → slice_get (slice_set all me posts) rank ≡ slice_get all rank
peer_there all me rank posts apart = slice_get-set_other all me rank posts (λ same. let yes = eq-eqb rank me (sym same) in let no : ⊥ = cc in no)

peer_changed : (all : List Posts) (me rank : ℕ) (posts : Posts) (change : Posts → Posts) → (rank == me) ≡ false
    → with_part (slice_set all me posts) (Some rank) (option_map change (slice_get all rank)) ≡ changed_at (slice_set all me posts) rank change
peer_changed all me rank posts change apart = by_item (slice_get all rank) refl
  where
    by_item : (o : Option Posts) → slice_get all rank ≡ o
        → with_part (slice_set all me posts) (Some rank) (option_map change (slice_get all rank)) ≡ changed_at (slice_set all me posts) rank change
    by_item None there = let kept = peer_there all me rank posts apart ∙ there in rw there rw kept refl
    by_item (Some p) there = let kept = peer_there all me rank posts apart ∙ there in rw there rw kept refl

peer_kept : (all : List Posts) (me rank : ℕ) (posts : Posts) → (rank == me) ≡ false → with_part (slice_set all me posts) (Some rank) (slice_get all rank) ≡ slice_set all me posts
peer_kept all me rank posts apart =
    ap (with_part (slice_set all me posts) (Some rank)) (sym (peer_there all me rank posts apart)) ∙ written_back (slice_set all me posts) (Some rank)

-- A call that is no collective in the whole state: on its rank's posts and the memory that it works on, and then its peer is told.
pub called_as : (s : State) (c : CallerId) (call : Call) (reply : Reply) (p : Posts) (footprint : Footprint) → (row_of call).group ≡ None → slice_get s.posts c.rank ≡ Some p → call_footprint s.limits c.rank call ≡ footprint
    → step s (Called c call reply)
    ≡ (call_lent s.limits s.posts (call_message s c.rank call) (memory_at s.memories c.rank footprint) c call reply
    >>= (λ w. Ok (record s { posts = with_peer_at footprint (peer_after c.rank p call reply) w.posts; memories = with_memory_at s.memories c.rank footprint w.memory })))
called_as s c call reply p footprint plain there is = by_footprint footprint is (called s.limits c.rank p (call_message s c.rank call) (memory_at s.memories c.rank footprint) c.thread call reply) refl
  where
    by_footprint : (footprint : Footprint) → call_footprint s.limits c.rank call ≡ footprint → (r : Result PostsAndMemory Why) → called s.limits c.rank p (call_message s c.rank call) (memory_at s.memories c.rank footprint) c.thread call reply ≡ r
        → step s (Called c call reply)
        ≡ (call_lent s.limits s.posts (call_message s c.rank call) (memory_at s.memories c.rank footprint) c call reply
        >>= (λ w. Ok (record s { posts = with_peer_at footprint (peer_after c.rank p call reply) w.posts; memories = with_memory_at s.memories c.rank footprint w.memory })))
    by_footprint Alone is (Ok w) steps = rw (there, is, plain) rw (rw is at steps) refl
    by_footprint Alone is (Err why) steps = rw (there, is, plain) rw (rw is at steps) refl
    by_footprint OwnMemory is (Ok w) steps = rw (there, is, plain) rw (rw is at steps) refl
    by_footprint OwnMemory is (Err why) steps = rw (there, is, plain) rw (rw is at steps) refl
    by_footprint (PeerMemory rank) is (Ok w) steps = rw (there, is, plain) rw (rw is at steps) refl
    by_footprint (PeerMemory rank) is (Err why) steps = rw (there, is, plain) rw (rw is at steps) refl
    by_footprint (BothMemories rank) is (Ok w) steps =
        rw (there, is, plain) rw (rw is at steps)
        (ap (λ (ms : List Memory). Ok (record s { posts = slice_set s.posts c.rank w.posts; memories = slice_set ms rank w.memory })) (written_back s.memories (Some c.rank)))
    by_footprint (BothMemories rank) is (Err why) steps = rw (there, is, plain) rw (rw is at steps) refl
    by_footprint (PeerPosts rank) is (Ok w) steps =
        let peer = posts_peer s.limits.ranks c.rank rank (row_of call).footprint is in
        rw (there, is, plain) rw (rw is at steps)
        (ap (λ (ps : List Posts). Ok (record s { posts = ps })) (peer_changed s.posts c.rank rank w.posts (peer_after c.rank p call reply) peer.apart))
    by_footprint (PeerPosts rank) is (Err why) steps = rw (there, is, plain) rw (rw is at steps) refl
    by_footprint (Group id) is (Ok w) steps =
        rw (there, is, plain) rw (rw is at steps) (ap (λ (gs : List groups.Group). Ok (record s { posts = slice_set s.posts c.rank w.posts; groups = gs })) (written_back s.groups (Some id)))
    by_footprint (Group id) is (Err why) steps = rw (there, is, plain) rw (rw is at steps) refl
    by_footprint (GroupAndMemory id) is (Ok w) steps =
        rw (there, is, plain) rw (rw is at steps)
        (ap (λ (gs : List groups.Group). Ok (record s { posts = slice_set s.posts c.rank w.posts; memories = slice_set s.memories c.rank w.memory; groups = gs })) (written_back s.groups (Some id)))
    by_footprint (GroupAndMemory id) is (Err why) steps = rw (there, is, plain) rw (rw is at steps) refl

-- A take in the whole state: it reads the memory that it works on.
pub take_as : (s : State) (origin queue target number : ℕ) (outcome : Outcome) (p : Posts) (footprint : Footprint) → slice_get s.posts origin ≡ Some p
    → entry_footprint s.limits origin (take_footprint target) p queue target number ≡ footprint
    → step s (Take origin queue target number outcome)
    ≡ (take s.limits p (memory_at s.memories origin footprint) queue target number outcome >>= (λ after. Ok (record s { posts = slice_set s.posts origin after })))
take_as s origin queue target number outcome p footprint there is = by_footprint footprint is (take s.limits p (memory_at s.memories origin footprint) queue target number outcome) refl
  where
    by_footprint : (footprint : Footprint) → entry_footprint s.limits origin (take_footprint target) p queue target number ≡ footprint
        → (r : Result Posts Why) → take s.limits p (memory_at s.memories origin footprint) queue target number outcome ≡ r
        → step s (Take origin queue target number outcome)
        ≡ (take s.limits p (memory_at s.memories origin footprint) queue target number outcome >>= (λ after. Ok (record s { posts = slice_set s.posts origin after })))
    by_footprint Alone is (Ok after) steps = rw (there, is) rw steps refl
    by_footprint Alone is (Err why) steps = rw (there, is) rw steps refl
    by_footprint OwnMemory is (Ok after) steps =
        rw (there, is) rw steps
        (ap (λ (ms : List Memory). Ok (record s { posts = slice_set s.posts origin after; memories = ms })) (written_back s.memories (Some origin)))
    by_footprint OwnMemory is (Err why) steps = rw (there, is) rw steps refl
    by_footprint (PeerMemory rank) is (Ok after) steps =
        rw (there, is) rw steps
        (ap (λ (ms : List Memory). Ok (record s { posts = slice_set s.posts origin after; memories = ms })) (written_back s.memories (Some rank)))
    by_footprint (PeerMemory rank) is (Err why) steps = rw (there, is) rw steps refl
    by_footprint (BothMemories rank) is (Ok after) steps =
        rw (there, is) rw steps
        (ap (λ (ms : List Memory). Ok (record s { posts = slice_set s.posts origin after; memories = with_part ms (Some rank) (slice_get s.memories rank) })) (written_back s.memories (Some origin))
        ∙ ap (λ (ms : List Memory). Ok (record s { posts = slice_set s.posts origin after; memories = ms })) (written_back s.memories (Some rank)))
    by_footprint (BothMemories rank) is (Err why) steps = rw (there, is) rw steps refl
    by_footprint (PeerPosts rank) is (Ok after) steps =
        let peer = posts_peer s.limits.ranks origin rank (declared_entry_footprint (take_footprint target) (entry_in p queue target number)) is in
        rw (there, is) rw steps (ap (λ (ps : List Posts). Ok (record s { posts = ps })) (peer_kept s.posts origin rank after peer.apart))
    by_footprint (PeerPosts rank) is (Err why) steps = rw (there, is) rw steps refl
    by_footprint (Group id) is (Ok after) steps =
        rw (there, is) rw steps (ap (λ (gs : List groups.Group). Ok (record s { posts = slice_set s.posts origin after; groups = gs })) (written_back s.groups (Some id)))
    by_footprint (Group id) is (Err why) steps = rw (there, is) rw steps refl
    by_footprint (GroupAndMemory id) is (Ok after) steps =
        rw (there, is) rw steps
        (ap (λ (ms : List Memory). Ok (record s { posts = slice_set s.posts origin after; memories = ms; groups = with_part s.groups (Some id) (slice_get s.groups id) })) (written_back s.memories (Some origin))
        ∙ ap (λ (gs : List groups.Group). Ok (record s { posts = slice_set s.posts origin after; groups = gs })) (written_back s.groups (Some id)))
    by_footprint (GroupAndMemory id) is (Err why) steps = rw (there, is) rw steps refl

-- A put in the whole state: it changes the memory that it works on.
pub put_as : (s : State) (origin queue target number : ℕ) (outcome : Outcome) (p : Posts) (footprint : Footprint) → slice_get s.posts origin ≡ Some p
    → entry_footprint s.limits origin (put_footprint target) p queue target number ≡ footprint
    → step s (Put origin queue target number outcome)
    ≡ (put p (memory_at s.memories origin footprint) queue target number outcome
    >>= (λ after. Ok (record s { posts = slice_set s.posts origin after.posts; memories = with_memory_at s.memories origin footprint after.memory })))
put_as s origin queue target number outcome p footprint there is = by_footprint footprint is (put p (memory_at s.memories origin footprint) queue target number outcome) refl
  where
    by_footprint : (footprint : Footprint) → entry_footprint s.limits origin (put_footprint target) p queue target number ≡ footprint
        → (r : Result PostsAndMemory Why) → put p (memory_at s.memories origin footprint) queue target number outcome ≡ r
        → step s (Put origin queue target number outcome)
        ≡ (put p (memory_at s.memories origin footprint) queue target number outcome
        >>= (λ after. Ok (record s { posts = slice_set s.posts origin after.posts; memories = with_memory_at s.memories origin footprint after.memory })))
    by_footprint Alone is (Ok w) steps = rw (there, is) rw steps refl
    by_footprint Alone is (Err why) steps = rw (there, is) rw steps refl
    by_footprint OwnMemory is (Ok w) steps = rw (there, is) rw steps refl
    by_footprint OwnMemory is (Err why) steps = rw (there, is) rw steps refl
    by_footprint (PeerMemory rank) is (Ok w) steps = rw (there, is) rw steps refl
    by_footprint (PeerMemory rank) is (Err why) steps = rw (there, is) rw steps refl
    by_footprint (BothMemories rank) is (Ok w) steps =
        rw (there, is) rw steps
        (ap (λ (ms : List Memory). Ok (record s { posts = slice_set s.posts origin w.posts; memories = slice_set ms rank w.memory })) (written_back s.memories (Some origin)))
    by_footprint (BothMemories rank) is (Err why) steps = rw (there, is) rw steps refl
    by_footprint (PeerPosts rank) is (Ok w) steps =
        let peer = posts_peer s.limits.ranks origin rank (declared_entry_footprint (put_footprint target) (entry_in p queue target number)) is in
        rw (there, is) rw steps (ap (λ (ps : List Posts). Ok (record s { posts = ps })) (peer_kept s.posts origin rank w.posts peer.apart))
    by_footprint (PeerPosts rank) is (Err why) steps = rw (there, is) rw steps refl
    by_footprint (Group id) is (Ok w) steps =
        rw (there, is) rw steps (ap (λ (gs : List groups.Group). Ok (record s { posts = slice_set s.posts origin w.posts; groups = gs })) (written_back s.groups (Some id)))
    by_footprint (Group id) is (Err why) steps = rw (there, is) rw steps refl
    by_footprint (GroupAndMemory id) is (Ok w) steps =
        rw (there, is) rw steps
        (ap (λ (gs : List groups.Group). Ok (record s { posts = slice_set s.posts origin w.posts; memories = slice_set s.memories origin w.memory; groups = gs })) (written_back s.groups (Some id)))
    by_footprint (GroupAndMemory id) is (Err why) steps = rw (there, is) rw steps refl

length-with : (memories : List Memory) (me : ℕ) (footprint : Footprint) (memory : Memory) → length (with_memory_at memories me footprint memory) ≡ length memories
length-with memories me Alone memory = refl
length-with memories me OwnMemory memory = length-set memories me memory
length-with memories me (PeerMemory rank) memory = length-set memories rank memory
length-with memories me (BothMemories rank) memory = length-set memories rank memory
length-with memories me (PeerPosts rank) memory = refl
length-with memories me (Group id) memory = refl
length-with memories me (GroupAndMemory id) memory = length-set memories me memory

-- A step that was made, read backwards.

pub record IsCalled (s t : State) (c : CallerId) (call : Call) (reply : Reply) : Type 0 where
  pub p : Posts
  pub there : slice_get s.posts c.rank ≡ Some p
  pub memory : Memory
  pub after : PostsAndMemory
  pub steps : called s.limits c.rank p (call_message s c.rank call) memory c.thread call reply ≡ Ok after
  pub posts : with_peer_at (call_footprint s.limits c.rank call) (peer_after c.rank p call reply) (slice_set s.posts c.rank after.posts) ≡ t.posts
  pub memories : length t.memories ≡ length s.memories

pub called_back : (s t : State) (c : CallerId) (call : Call) (reply : Reply) → (row_of call).group ≡ None → step s (Called c call reply) ≡ Ok t → IsCalled s t c call reply
called_back s t c call reply plain is =
    bind_then (ok_or (slice_get s.posts c.rank) whys.Caller) _ _ is (λ p p_there more. by_posts p (found_there _ _ _ p_there))
  where
    footprint : Footprint
    footprint = call_footprint s.limits c.rank call

    same : (p : Posts) (after : PostsAndMemory) (w : PostsAndLentMemory) → ◌≡◌ {A = Result PostsAndLentMemory Why} (Ok (record { posts = slice_set s.posts c.rank after.posts; memory = after.memory })) (Ok w)
        → ◌≡◌ {A = Result State Why} (Ok (record s { posts = with_peer_at footprint (peer_after c.rank p call reply) w.posts; memories = with_memory_at s.memories c.rank footprint w.memory })) (Ok t)
        → slice_get s.posts c.rank ≡ Some p → called s.limits c.rank p (call_message s c.rank call) (memory_at s.memories c.rank footprint) c.thread call reply ≡ Ok after → IsCalled s t c call reply
    same p after w lent is there steps =
        let a : record { posts = slice_set s.posts c.rank after.posts; memory = after.memory } ≡ w = cc in
        let b : record s { posts = with_peer_at footprint (peer_after c.rank p call reply) w.posts; memories = with_memory_at s.memories c.rank footprint w.memory } ≡ t = cc in
        record {
          p = p;
          there = there;
          memory = memory_at s.memories c.rank footprint;
          after = after;
          steps = steps;
          posts = ap (λ (x : PostsAndLentMemory). with_peer_at footprint (peer_after c.rank p call reply) x.posts) a ∙ ap (λ (x : State). x.posts) b;
          memories = ap (λ (x : State). length x.memories) (sym b) ∙ length-with s.memories c.rank footprint w.memory;
        }

    by_posts : (p : Posts) → slice_get s.posts c.rank ≡ Some p → IsCalled s t c call reply
    by_posts p there =
        bind_then (called s.limits c.rank p (call_message s c.rank call) (memory_at s.memories c.rank footprint) c.thread call reply >>= (λ after. Ok (record { posts = slice_set s.posts c.rank after.posts; memory = after.memory }))) _ _
        (rw there at (sym (called_as s c call reply p footprint plain there refl) ∙ is)) (λ w lent more.
        bind_then (called s.limits c.rank p (call_message s c.rank call) (memory_at s.memories c.rank footprint) c.thread call reply) _ _ lent (λ after steps done.
        same p after w done more there steps))

pub record IsTaken (s t : State) (origin queue target number : ℕ) (outcome : Outcome) : Type 0 where
  pub p : Posts
  pub there : slice_get s.posts origin ≡ Some p
  pub memory : Memory
  pub after : Posts
  pub steps : take s.limits p memory queue target number outcome ≡ Ok after
  pub is : record s { posts = slice_set s.posts origin after } ≡ t

pub used_back : (s t : State) (origin queue target number : ℕ) (outcome : Outcome) → step s (Take origin queue target number outcome) ≡ Ok t → IsTaken s t origin queue target number outcome
used_back s t origin queue target number outcome is =
    bind_then (ok_or (slice_get s.posts origin) _) _ _ is (λ p p_there more. by_posts p (found_there _ _ _ p_there))
  where
    same : (p after : Posts) (memory : Memory) → ◌≡◌ {A = Result State Why} (Ok (record s { posts = slice_set s.posts origin after })) (Ok t)
        → slice_get s.posts origin ≡ Some p → take s.limits p memory queue target number outcome ≡ Ok after → IsTaken s t origin queue target number outcome
    same p after memory is there steps =
        let a : record s { posts = slice_set s.posts origin after } ≡ t = cc in
        record { p = p; there = there; memory = memory; after = after; steps = steps; is = a }

    by_posts : (p : Posts) → slice_get s.posts origin ≡ Some p → IsTaken s t origin queue target number outcome
    by_posts p there =
        let footprint = entry_footprint s.limits origin (take_footprint target) p queue target number in
        bind_then (take s.limits p (memory_at s.memories origin footprint) queue target number outcome) _ _
        (sym (take_as s origin queue target number outcome p footprint there refl) ∙ is) (λ after steps more.
        same p after (memory_at s.memories origin footprint) more there steps)

pub record IsPut (s t : State) (origin queue target number : ℕ) (outcome : Outcome) : Type 0 where
  pub p : Posts
  pub there : slice_get s.posts origin ≡ Some p
  pub memory : Memory
  pub after : PostsAndMemory
  pub steps : put p memory queue target number outcome ≡ Ok after
  pub posts : slice_set s.posts origin after.posts ≡ t.posts
  pub memories : length t.memories ≡ length s.memories

pub put_back : (s t : State) (origin queue target number : ℕ) (outcome : Outcome) → step s (Put origin queue target number outcome) ≡ Ok t → IsPut s t origin queue target number outcome
put_back s t origin queue target number outcome is =
    bind_then (ok_or (slice_get s.posts origin) _) _ _ is (λ p p_there more. by_posts p (found_there _ _ _ p_there))
  where
    same : (p : Posts) (footprint : Footprint) (after : PostsAndMemory)
        → ◌≡◌ {A = Result State Why} (Ok (record s { posts = slice_set s.posts origin after.posts; memories = with_memory_at s.memories origin footprint after.memory })) (Ok t)
        → slice_get s.posts origin ≡ Some p → put p (memory_at s.memories origin footprint) queue target number outcome ≡ Ok after → IsPut s t origin queue target number outcome
    same p footprint after is there steps =
        let a : record s { posts = slice_set s.posts origin after.posts; memories = with_memory_at s.memories origin footprint after.memory } ≡ t = cc in
        record {
          p = p;
          there = there;
          memory = memory_at s.memories origin footprint;
          after = after;
          steps = steps;
          posts = ap (λ (x : State). x.posts) a;
          memories = ap (λ (x : State). length x.memories) (sym a) ∙ length-with s.memories origin footprint after.memory;
        }

    by_posts : (p : Posts) → slice_get s.posts origin ≡ Some p → IsPut s t origin queue target number outcome
    by_posts p there =
        let footprint = entry_footprint s.limits origin (put_footprint target) p queue target number in
        bind_then (put p (memory_at s.memories origin footprint) queue target number outcome) _ _
        (sym (put_as s origin queue target number outcome p footprint there refl) ∙ is) (λ after steps more.
        same p footprint after more there steps)

-- what holds of the posts of all ranks, and with a peer's so changed that its queues stay, holds where a call has told its peer
pub registered_by : (P : List Posts → Type 0) (footprint : Footprint) (me : ℕ) (p : Posts) (call : Call) (reply : Reply) (all : List Posts) → P all
    → ((rank : ℕ) (change : Posts → Posts) → ((peer : Posts) → (change peer).queues ≡ peer.queues) → P (changed_at all rank change))
    → P (with_peer_at footprint (peer_after me p call reply) all)
registered_by P Alone me p call reply all kept changed = kept
registered_by P OwnMemory me p call reply all kept changed = kept
registered_by P (PeerMemory rank) me p call reply all kept changed = kept
registered_by P (BothMemories rank) me p call reply all kept changed = kept
registered_by P (PeerPosts rank) me p call reply all kept changed = changed rank (peer_after me p call reply) (peer_queues me p call reply)
registered_by P (Group id) me p call reply all kept changed = kept
registered_by P (GroupAndMemory id) me p call reply all kept changed = kept
