-- The front of a lane is a step of the machine, and where there is none the machine permits no transfer of the lane.
use Rattle.std.proofs.Common.{◌≡◌, ℕ, zero, suc, ◌+◌, ◌<◌, Bool, true, false, nat_lt, List, [], ◌∷◌, length, Option, None, Some, IsOk, IsSome, Result, Ok, Err, refl, sym, ap, ◌∙◌, subst, arith, is_none, if◌then◌else◌, get_or}
use Rattle.std.specs.List.{slice_get, flat_map, enumerate_from, position_or_len}
use Rattle.std.specs.Option.{option_and_then, IsSomeAnd}
use Rattle.std.proofs.lemmas.Option.{slice_get_within}
use Rattle.gaspi_types.specs.Lanes.{is_posted, is_carried, is_carried_phase, carried_count, may_take, may_put, position_of}
use Rattle.gaspi_types.specs.Footprints.{footprint_of, take_footprint, put_footprint}
use Rattle.gaspi_types.specs.declared.entries.Entry.{Entry}
use Rattle.gaspi_types.specs.declared.entries.Phase.{Phase}
use Rattle.gaspi_types.specs.declared.entries.Phase.TheVariants as phases
use Rattle.gaspi_types.specs.declared.entries.Queue.{Queue}
use Rattle.gaspi_types.specs.declared.events.Event.{Event}
use Rattle.gaspi_types.specs.declared.events.Outcome.{Outcome}
use Rattle.gaspi_types.specs.declared.events.Transfer.{Transfer}
use Rattle.gaspi_types.specs.declared.shapes.Limits.{Limits}
use Rattle.gaspi_model.specs.Sound.{IsSound, AreAbove, AreRising}
use Rattle.gaspi_model.specs.Step.{step, transfer_event, transfer_outcome, event_footprint, declared_entry_footprint}
use Rattle.gaspi_model.specs.Transfers.{transfer_of, lane_transfers, queue_transfers, rank_transfers, transfers, take_outcome, put_outcome, entry_in}
use Rattle.gaspi_model.specs.declared.states.Posts.{Posts}
use Rattle.gaspi_model.specs.declared.states.State.{State}
use Rattle.post_queue.specs.LanesStates.{front_posted_of, front_carried_of, head_of}
use Rattle.post_queue.specs.Places.{posted_position, first_posted, first_carried}
use Rattle.post_queue.specs.Rising.{IsRising}
use Rattle.post_queue.specs.Steps.{lane_front_posted, front_posted_in, front_carried_in}
use Rattle.rank_node.specs.Fronts.{IsFront, front_entry, front_of, front_outcome, front_with, transfer_footprint}
use Rattle.rank_node.specs.Lending.{IsPostsOf, Lends, IsStepOn}
use Rattle.rank_node.specs.TransferSteps.{IsFirstPosted, IsFirstCarried, LendsForTransfer, chosen_in, lent_memory}
use Rattle.rank_node.specs.Transfers.{lanes_of, take_of, put_of, event_of}
use Rattle.rank_node.specs.Values.{PostsValue}
use Rattle.rank_node.specs.declared.nodes.Node.{Node}
use Rattle.rank_node.specs.declared.nodes.GroupNode.{GroupNode}
use Rattle.gaspi_types.proofs.Chains.{both}
use Rattle.gaspi_types.proofs.Items.{prefix-of-joined, behind-of-joined}
use Rattle.gaspi_model.proofs.Listed.Enabled.{transfer-is_step, listed, IsListed}
use Rattle.gaspi_model.proofs.Made.{entry-found}
use Rattle.gaspi_model.proofs.Sound.Rising.{position_of-rising}
use Rattle.post_queue.proofs.Queues.{passes-at}
use Rattle.post_queue.proofs.Rising.{put-permitted}
use Rattle.rank_node.proofs.LentPuts.{put-ends}
use Rattle.rank_node.proofs.LentTakes.{take-ends}
use Rattle.rank_node.proofs.NextEntries.{same-some}

-- An item of a part is one of the whole.
flat_map-there : {A B : Type 0} (f : A → List B) (xs : List A) (i j : ℕ) (x : A) (y : B) → slice_get xs i ≡ Some x → slice_get (f x) j ≡ Some y → (k : ℕ) × (slice_get (flat_map f xs) k ≡ Some y)
flat_map-there f [] i j x y at here = absurd (let no : ⊥ = cc in no)
flat_map-there f (z ∷ xs) zero j x y at here =
    let same : z ≡ x = cc in
    let first : slice_get (f z) j ≡ Some y = rw same here in
    (j, prefix-of-joined (f z) (flat_map f xs) j (slice_get_within (f z) j y first) ∙ first)
flat_map-there f (z ∷ xs) (suc i) j x y at here =
    let rest = flat_map-there f xs i j x y at here in
    (length (f z) + rest.0, behind-of-joined (f z) (flat_map f xs) rest.0 (length (f z) + rest.0) refl ∙ rest.1)

enumerate-there : {A : Type 0} (n : ℕ) (xs : List A) (i : ℕ) (x : A) → slice_get xs i ≡ Some x → slice_get (enumerate_from n xs) i ≡ Some (n + i, x)
enumerate-there n [] i x at = absurd (let no : ⊥ = cc in no)
enumerate-there {A} n (y ∷ xs) zero x at =
    let same : y ≡ x = cc in
    ap (λ (z : A). Some (n, z)) same ∙ ap (λ (k : ℕ). Some (k, x)) (let more : n ≡ n + 0 = omega arith in more)
enumerate-there {A} n (y ∷ xs) (suc i) x at = enumerate-there (n + 1) xs i x at ∙ ap (λ (k : ℕ). Some (k, x)) (let more : n + 1 + i ≡ n + suc i = omega arith in more)

from-start : {A : Type 0} (xs : List A) (i : ℕ) (x : A) → slice_get xs i ≡ Some x → slice_get (enumerate_from 0 xs) i ≡ Some (i, x)
from-start {A} xs i x at = enumerate-there 0 xs i x at ∙ ap (λ (k : ℕ). Some (k, x)) (let more : 0 + i ≡ i = omega arith in more)

listed-there : (s : State) (posts : Posts) (q : Queue) (lane : List Entry) (place : ℕ) (e : Entry) (origin queue target : ℕ) (t : Transfer) → slice_get s.posts origin ≡ Some posts
    → slice_get posts.queues queue ≡ Some q → is_none q.broken ≡ true → slice_get q.lanes target ≡ Some lane → slice_get lane place ≡ Some e
    → slice_get (transfer_of origin queue target s.limits lane e) 0 ≡ Some t → (k : ℕ) × (slice_get (transfers s.limits s.posts) k ≡ Some t)
listed-there s posts q lane place e origin queue target t hp hq whole hl he here =
    let one = flat_map-there (transfer_of origin queue target s.limits lane) lane place 0 e t he here in
    let lanes = flat_map-there (lane_transfers origin queue s.limits) (enumerate_from 0 q.lanes) target one.0 (target, lane) t (from-start q.lanes target lane hl) one.1 in
    let open_queue : slice_get (queue_transfers origin s.limits (queue, q)) lanes.0 ≡ Some t = rw whole lanes.1 in
    let queues = flat_map-there (queue_transfers origin s.limits) (enumerate_from 0 posts.queues) queue lanes.0 (queue, q) t (from-start posts.queues queue q hq) open_queue in
    flat_map-there (rank_transfers s.limits) (enumerate_from 0 s.posts) origin queues.0 (origin, posts) t (from-start s.posts origin posts hp) queues.1

-- what stands where a lane has something next
pub record IsNextAt (queues : List Queue) (queue target : ℕ) (choose : List Entry → Option Entry) (e : Entry) : Type 0 where
  pub q : Queue
  pub lane : List Entry
  pub queue_there : slice_get queues queue ≡ Some q
  pub whole : is_none q.broken ≡ true
  pub lane_there : slice_get q.lanes target ≡ Some lane
  pub chosen : choose lane ≡ Some e

next-at : (queues : List Queue) (queue target : ℕ) (choose : List Entry → Option Entry) (e : Entry)
    → option_and_then (λ (q : Queue). if is_none q.broken then option_and_then choose (slice_get q.lanes target) else None) (slice_get queues queue) ≡ Some e
    → IsNextAt queues queue target choose e
next-at queues queue target choose e h = in-queues (slice_get queues queue) refl h
  where
    in-lanes : (q : Queue) → slice_get queues queue ≡ Some q → is_none q.broken ≡ true → (o : Option (List Entry)) → slice_get q.lanes target ≡ o → option_and_then choose o ≡ Some e → IsNextAt queues queue target choose e
    in-lanes q at whole None there h = absurd (let no : ⊥ = cc in no)
    in-lanes q at whole (Some lane) there h = record { q = q; lane = lane; queue_there = at; whole = whole; lane_there = there; chosen = h }

    in-queue : (q : Queue) → slice_get queues queue ≡ Some q → (b : Bool) → is_none q.broken ≡ b → (if b then option_and_then choose (slice_get q.lanes target) else None) ≡ Some e → IsNextAt queues queue target choose e
    in-queue q at true whole h = in-lanes q at whole (slice_get q.lanes target) refl h
    in-queue q at false whole h = absurd (let no : ⊥ = cc in no)

    in-queues : (o : Option Queue) → slice_get queues queue ≡ o → option_and_then (λ (q : Queue). if is_none q.broken then option_and_then choose (slice_get q.lanes target) else None) o ≡ Some e → IsNextAt queues queue target choose e
    in-queues None at h = absurd (let no : ⊥ = cc in no)
    in-queues (Some q) at h = in-queue q at (is_none q.broken) refl h

-- the numbers of a lane rise
above-get : (n : ℕ) (lane : List Entry) (k : ℕ) (d : Entry) → AreAbove n lane → k < length lane → n < (get_or lane k d).number
above-get n [] k d above less = absurd (let no : ⊥ = omega arith in no)
above-get n (x ∷ lane) zero d above less = above.0
above-get n (x ∷ lane) (suc k) d above less = above-get n lane k d above.1 (omega arith)

rises : (next : ℕ) (lane : List Entry) → AreRising next lane → IsRising lane
rises next [] rising i j d less within = absurd (let no : ⊥ = omega arith in no)
rises next (x ∷ lane) rising zero zero d less within = absurd (let no : ⊥ = omega arith in no)
rises next (x ∷ lane) rising zero (suc j) d less within = above-get x.number lane j d rising.1 (omega arith)
rises next (x ∷ lane) rising (suc i) zero d less within = absurd (let no : ⊥ = omega arith in no)
rises next (x ∷ lane) rising (suc i) (suc j) d less within = rises next lane rising.2 i j d (omega arith) (omega arith)

carried-waits : (depth : ℕ) (lane : List Entry) (e : Entry) → is_carried e ≡ true → may_take depth lane e ≡ false
carried-waits depth lane e carried = go e.phase refl carried
  where
    go : (phase : Phase) → e.phase ≡ phase → is_carried_phase e.phase ≡ true → may_take depth lane e ≡ false
    go phases.Posted is h = absurd (let never = rw is at h in let no : ⊥ = cc in no)
    go (phases.Carried bytes) is h = rw is refl
    go phases.Failed is h = rw is refl

-- the first posted entry where there is room
lane-take : (depth : ℕ) (lane : List Entry) (e : Entry) → lane_front_posted depth lane ≡ Some e → (first_posted lane ≡ Some e) × (may_take depth lane e ≡ true)
lane-take depth lane e h = go (nat_lt (carried_count lane) depth) refl h
  where
    go : (b : Bool) → nat_lt (carried_count lane) depth ≡ b → (if b then first_posted lane else None) ≡ Some e → (first_posted lane ≡ Some e) × (may_take depth lane e ≡ true)
    go true room h = (h, rw (passes-at is_posted lane e h, room) refl)
    go false room h = absurd (let no : ⊥ = cc in no)

-- a transfer by its parts
abbrev parted : Transfer → ℕ → Bool → Transfer
parted t number put = record { origin = t.origin; queue = t.queue; target = t.target; number = number; put = put }

parted-same : (t : Transfer) (number : ℕ) (put : Bool) → t.number ≡ number → t.put ≡ put → t ≡ parted t number put
parted-same t number put numbered is = ap (λ (n : ℕ). parted t n t.put) numbered ∙ ap (λ (b : Bool). parted t number b) is

take-front : (s : State) (p : PostsValue) (t : Transfer) (e : Entry) → IsSound s → IsPostsOf s t.origin p → t ≡ parted t e.number false → front_posted_of (lanes_of p) t.queue t.target ≡ Some e → IsOk (step s (transfer_event s t))
take-front s p t e sound is same next =
    let at = next-at p.posts.queues t.queue t.target (lane_front_posted p.limits.depth) e next in
    let taken = lane-take p.limits.depth at.lane e at.chosen in
    let permitted : may_take s.limits.depth at.lane e ≡ true = subst (λ (l : Limits). may_take l.depth at.lane e ≡ true) is.limits taken.1 in
    let here : slice_get (transfer_of t.origin t.queue t.target s.limits at.lane e) 0 ≡ Some t = rw permitted (ap (λ (x : Transfer). Some x) (sym same)) in
    let k = listed-there s p.posts at.q at.lane (posted_position at.lane) e t.origin t.queue t.target t is.posts at.queue_there at.whole at.lane_there taken.0 here in
    transfer-is_step s t k.0 sound k.1

put-front : (s : State) (p : PostsValue) (t : Transfer) (e : Entry) → IsSound s → IsPostsOf s t.origin p → t ≡ parted t e.number true → front_carried_of (lanes_of p) t.queue t.target ≡ Some e
    → head_of (lanes_of p) t.queue t.target ≡ Some e → IsOk (step s (transfer_event s t))
put-front s p t e sound is same next head =
    let at = next-at p.posts.queues t.queue t.target first_carried e next in
    let rising = (sound.posts t.origin p.posts is.posts).rising t.queue at.q at.queue_there t.target at.lane at.lane_there in
    let first : slice_get at.lane 0 ≡ Some e = sym (let x : head_of (lanes_of p) t.queue t.target ≡ slice_get at.lane 0 = rw (at.queue_there, at.lane_there) refl in x) ∙ head in
    let carried = passes-at is_carried at.lane e at.chosen in
    let permitted : may_put at.lane e ≡ true = put-permitted at.lane e (rises p.posts.next at.lane rising) first carried in
    let here : slice_get (transfer_of t.origin t.queue t.target s.limits at.lane e) 0 ≡ Some t = rw (carried-waits s.limits.depth at.lane e carried, permitted) (ap (λ (x : Transfer). Some x) (sym same)) in
    let k = listed-there s p.posts at.q at.lane 0 e t.origin t.queue t.target t is.posts at.queue_there at.whole at.lane_there first here in
    transfer-is_step s t k.0 sound k.1

front-puts : (p : PostsValue) (t : Transfer) (e : Entry) → t.put ≡ true → front_entry p t ≡ Some e → front_carried_of (lanes_of p) t.queue t.target ≡ Some e
front-puts p t e puts next = rw puts at next

front-takes : (p : PostsValue) (t : Transfer) (e : Entry) → t.put ≡ false → front_entry p t ≡ Some e → front_posted_of (lanes_of p) t.queue t.target ≡ Some e
front-takes p t e takes next = rw takes at next

pub front-is_step : (s : State) (p : PostsValue) (t : Transfer) → IsSound s → IsPostsOf s t.origin p → IsFront p t → IsOk (step s (transfer_event s t))
front-is_step s p t sound is front = go t.put refl
  where
    go : (b : Bool) → t.put ≡ b → IsOk (step s (transfer_event s t))
    go true puts = put-front s p t front.entry sound is (parted-same t front.entry.number true front.numbered puts) (front-puts p t front.entry puts front.next) (front.head puts)
    go false takes = take-front s p t front.entry sound is (parted-same t front.entry.number false front.numbered takes) (front-takes p t front.entry takes front.next)

-- the posts are those of a rank that is their own
pub mine-of : (s : State) (p : PostsValue) (t : Transfer) → t.origin ≡ p.me → IsPostsOf s p.me p → IsPostsOf s t.origin p
mine-of s p t mine is = subst (λ (rank : ℕ). IsPostsOf s rank p) (sym mine) is

-- It is the transfer of the first carried entry, or of the first posted one.

some-there : {A : Type 0} (o : Option A) (x : A) (P : A → Type 0) → o ≡ Some x → P x → IsSomeAnd o P
some-there o x P is h = subst (λ (o : Option _). IsSomeAnd o P) (sym is) h

pub first-carried : (p : PostsValue) (t : Transfer) → IsFront p t → t.put ≡ true → IsFirstCarried p t
first-carried p t front puts =
    let at = next-at p.posts.queues t.queue t.target first_carried front.entry (front-puts p t front.entry puts front.next) in
    let there : chosen_in first_carried p t ≡ Some front.entry = rw (at.queue_there, at.lane_there) at.chosen in
    some-there (chosen_in first_carried p t) front.entry (λ (e : Entry). e.number ≡ t.number) there (sym front.numbered)

pub first-posted : (p : PostsValue) (t : Transfer) → IsFront p t → t.put ≡ false → IsFirstPosted p t
first-posted p t front takes =
    let at = next-at p.posts.queues t.queue t.target (lane_front_posted p.limits.depth) front.entry (front-takes p t front.entry takes front.next) in
    let there : chosen_in first_posted p t ≡ Some front.entry = rw (at.queue_there, at.lane_there) (lane-take p.limits.depth at.lane front.entry at.chosen).0 in
    some-there (chosen_in first_posted p t) front.entry (λ (e : Entry). e.number ≡ t.number) there (sym front.numbered)

-- Its entry is found by its number, so its footprint is told by the kind.

entry-found_next : (s : State) (p : PostsValue) (t : Transfer) (q : Queue) (lane : List Entry) (place : ℕ) (e : Entry) → IsSound s → IsPostsOf s t.origin p → slice_get p.posts.queues t.queue ≡ Some q
    → slice_get q.lanes t.target ≡ Some lane → slice_get lane place ≡ Some e → t.number ≡ e.number → entry_in p.posts t.queue t.target t.number ≡ Some e
entry-found_next s p t q lane place e sound is queue_there lane_there there numbered =
    let rising = (sound.posts t.origin p.posts is.posts).rising t.queue q queue_there t.target lane lane_there in
    entry-found p.posts t.queue t.target t.number (record { queue = q; lane = lane; position = place; entry = e }) (record {
      in_posts = queue_there;
      in_queue = lane_there;
      numbered = subst (λ (n : ℕ). position_of lane n ≡ Some place) (sym numbered) (position_of-rising p.posts.next lane place e rising there);
      in_lane = there;
    })

pub front-footprint : (s : State) (p : PostsValue) (t : Transfer) (e : Entry) (outcome : Outcome) → IsSound s → IsPostsOf s t.origin p → IsFront p t → front_entry p t ≡ Some e
    → event_footprint s.limits p.posts (event_of t outcome) ≡ transfer_footprint s.limits.ranks t e.kind
front-footprint s p t e outcome sound is front next = by t.put refl
  where
    numbered : t.number ≡ e.number
    numbered = front.numbered ∙ ap (λ (x : Entry). x.number) (same-some (front_entry p t) front.entry e front.next next)

    by : (b : Bool) → t.put ≡ b → event_footprint s.limits p.posts (event_of t outcome) ≡ transfer_footprint s.limits.ranks t e.kind
    by true puts =
        let at = next-at p.posts.queues t.queue t.target first_carried e (front-puts p t e puts next) in
        let found = entry-found_next s p t at.q at.lane (position_or_len is_carried at.lane) e sound is at.queue_there at.lane_there at.chosen numbered in
        rw puts (ap (λ (o : Option Entry). footprint_of s.limits.ranks t.origin (declared_entry_footprint (put_footprint t.target) o)) found)
    by false takes =
        let at = next-at p.posts.queues t.queue t.target (lane_front_posted p.limits.depth) e (front-takes p t e takes next) in
        let found = entry-found_next s p t at.q at.lane (posted_position at.lane) e sound is at.queue_there at.lane_there (lane-take p.limits.depth at.lane e at.chosen).0 numbered in
        rw takes (ap (λ (o : Option Entry). footprint_of s.limits.ranks t.origin (declared_entry_footprint (take_footprint t.target) o)) found)

-- The outcome that the nodes tell is the machine's.

pub front-ends : (s after : State) (own : Node) (peer : Option Node) (group : Option GroupNode) (t : Transfer) (outcome : Outcome) → IsFront own.posts t → IsStepOn s after (event_of t outcome) own peer group
    → front_outcome own.posts (lent_memory own peer) t ≡ Some outcome
front-ends s after own peer group t outcome front w = by t.put refl
  where
    by : (b : Bool) → t.put ≡ b → front_outcome own.posts (lent_memory own peer) t ≡ Some outcome
    by true puts =
        let is : IsStepOn s after (put_of t outcome) own peer group = rw puts at w in
        let next = front-puts own.posts t front.entry puts front.next in
        let ends = put-ends s after outcome own peer group t front.entry is (first-carried own.posts t front puts) next in
        rw (puts, next) (ap (λ (o : Outcome). Some o) ends)
    by false takes =
        let is : IsStepOn s after (take_of t outcome) own peer group = rw takes at w in
        let next = front-takes own.posts t front.entry takes front.next in
        let ends = take-ends s after outcome own peer group t front.entry is (first-posted own.posts t front takes) next in
        rw (takes, next) (ap (λ (o : Outcome). Some o) ends)

ok-of : {A E : Type 0} (r : Result A E) → IsOk r → (x : A) × (r ≡ Ok x)
ok-of (Ok x) h = (x, refl)
ok-of (Err e) h = absurd (let no : ⊥ = cc in no)

pub front-outcome : (s : State) (own : Node) (peer : Option Node) (group : Option GroupNode) (t : Transfer) (result : Outcome) → IsFront own.posts t → front_outcome own.posts (lent_memory own peer) t ≡ Some result
    → IsSound s → LendsForTransfer s t own peer group → (event_of t result ≡ transfer_event s t) × IsOk (step s (event_of t result))
front-outcome s own peer group t result front told sound lends =
    let ok = front-is_step s own.posts t sound lends.own_node.posts front in
    let after = ok-of (step s (transfer_event s t)) ok in
    let same = by t.put refl after.0 after.1 in
    (same, subst (λ (e : Event). IsOk (step s e)) (sym same) ok)
  where
    by : (b : Bool) → t.put ≡ b → (after : State) → step s (transfer_event s t) ≡ Ok after → event_of t result ≡ transfer_event s t
    by true puts after h =
        let o = transfer_outcome s t put_outcome in
        let event : transfer_event s t ≡ put_of t o = rw puts refl in
        let lent : Lends s t.origin (event_footprint s.limits own.posts.posts (put_of t o)) own peer group = rw puts at lends in
        let is : IsStepOn s after (put_of t o) own peer group = record { sound = sound; lends = lent; is_step = subst (λ (x : Event). step s x ≡ Ok after) event h } in
        let next = front-puts own.posts t front.entry puts front.next in
        let ends = put-ends s after o own peer group t front.entry is (first-carried own.posts t front puts) next in
        let tells : ◌≡◌ {A = Option Outcome} (Some (put_outcome (lent_memory own peer) front.entry.kind)) (Some result) = rw (puts, next) at told in
        let result_is : result ≡ o = (let same : put_outcome (lent_memory own peer) front.entry.kind ≡ result = cc in sym same ∙ ends) in
        rw puts (ap (λ (x : Outcome). put_of t x) result_is)
    by false takes after h =
        let o = transfer_outcome s t take_outcome in
        let event : transfer_event s t ≡ take_of t o = rw takes refl in
        let lent : Lends s t.origin (event_footprint s.limits own.posts.posts (take_of t o)) own peer group = rw takes at lends in
        let is : IsStepOn s after (take_of t o) own peer group = record { sound = sound; lends = lent; is_step = subst (λ (x : Event). step s x ≡ Ok after) event h } in
        let next = front-takes own.posts t front.entry takes front.next in
        let ends = take-ends s after o own peer group t front.entry is (first-posted own.posts t front takes) next in
        let tells : ◌≡◌ {A = Option Outcome} (Some (take_outcome (lent_memory own peer) front.entry.kind)) (Some result) = rw (takes, next) at told in
        let result_is : result ≡ o = (let same : take_outcome (lent_memory own peer) front.entry.kind ≡ result = cc in sym same ∙ ends) in
        rw takes (ap (λ (x : Outcome). take_of t x) result_is)

-- Where a transfer is permitted its lane has a front.

-- where one passes, one is the first
pub some-first : (test : Entry → Bool) (lane : List Entry) (k : ℕ) (e : Entry) → slice_get lane k ≡ Some e → test e ≡ true → (x : Entry) × (slice_get lane (position_or_len test lane) ≡ Some x)
some-first test [] k e at pass = absurd (let no : ⊥ = cc in no)
some-first test (y ∷ lane) zero e at pass = let same : y ≡ e = cc in let passes : test y ≡ true = rw same pass in (y, rw passes refl)
some-first test (y ∷ lane) (suc k) e at pass = go (test y) refl (some-first test lane k e at pass)
  where
    go : (b : Bool) → test y ≡ b → (x : Entry) × (slice_get lane (position_or_len test lane) ≡ Some x) → (x : Entry) × (slice_get (y ∷ lane) (position_or_len test (y ∷ lane)) ≡ Some x)
    go true is rest = (y, rw is refl)
    go false is rest = (rest.0, rw is (subst (λ (m : ℕ). slice_get (y ∷ lane) m ≡ Some rest.0) (let more : suc (position_or_len test lane) ≡ 1 + position_or_len test lane = omega arith in more) rest.1))

pub put-some : (queues : List Queue) (queue target : ℕ) (q : Queue) (lane : List Entry) (x : Entry) → slice_get queues queue ≡ Some q → is_none q.broken ≡ true → slice_get q.lanes target ≡ Some lane
    → first_carried lane ≡ Some x → option_and_then (front_carried_in target) (slice_get queues queue) ≡ Some x
put-some queues queue target q lane x at whole there first = rw (at, whole, there, first) refl

pub take-some : (depth : ℕ) (queues : List Queue) (queue target : ℕ) (q : Queue) (lane : List Entry) (x : Entry) → slice_get queues queue ≡ Some q → is_none q.broken ≡ true → slice_get q.lanes target ≡ Some lane
    → nat_lt (carried_count lane) depth ≡ true → first_posted lane ≡ Some x → option_and_then (front_posted_in depth target) (slice_get queues queue) ≡ Some x
take-some depth queues queue target q lane x at whole there room first = rw (at, whole, there, room, first) refl

-- a lane that has an entry to be put, or to take its bytes, has a front
pub front-put : (p : PostsValue) (queue target : ℕ) (e : Entry) → front_carried_of (lanes_of p) queue target ≡ Some e → IsSome (front_of p queue target)
front-put p queue target e next = rw next refl

pub front-take : (p : PostsValue) (queue target : ℕ) (e : Entry) → front_posted_of (lanes_of p) queue target ≡ Some e → IsSome (front_of p queue target)
front-take p queue target e next = go (front_carried_of (lanes_of p) queue target) next
  where
    go : (o : Option Entry) → front_posted_of (lanes_of p) queue target ≡ Some e → IsSome (front_with p.me queue target o (front_posted_of (lanes_of p) queue target))
    go None next = rw next refl
    go (Some x) next = refl

pub listed-front : (s : State) (p : PostsValue) (t : Transfer) (k : ℕ) → IsPostsOf s t.origin p → slice_get (transfers s.limits s.posts) k ≡ Some t → IsSome (front_of p t.queue t.target)
listed-front s p t k is at =
    let l = listed s.limits s.posts t k at in
    go l.0 l.1 l.2 l.3 l.4 l.5
  where
    go : (posts : Posts) (q : Queue) (lane : List Entry) (place : ℕ) (e : Entry) → IsListed s.limits s.posts t posts q lane place e → IsSome (front_of p t.queue t.target)
    go posts q lane place e l =
        let mine : p.posts ≡ posts = same-some (slice_get s.posts t.origin) p.posts posts is.posts l.posts_there in
        let there : slice_get p.posts.queues t.queue ≡ Some q = rw mine l.queue_there in
        by t.put refl there
      where
        by : (b : Bool) → t.put ≡ b → slice_get p.posts.queues t.queue ≡ Some q → IsSome (front_of p t.queue t.target)
        by true puts there =
            let permitted : may_put lane e ≡ true = rw puts at l.permitted in
            let first = some-first is_carried lane place e l.entry_there (both (is_carried e) _ permitted).0 in
            front-put p t.queue t.target first.0 (put-some p.posts.queues t.queue t.target q lane first.0 there l.whole l.lane_there first.1)
        by false takes there =
            let permitted : may_take s.limits.depth lane e ≡ true = rw takes at l.permitted in
            let parts = both (is_posted e) (nat_lt (carried_count lane) s.limits.depth) permitted in
            let first = some-first is_posted lane place e l.entry_there parts.0 in
            let room : nat_lt (carried_count lane) p.limits.depth ≡ true = subst (λ (l : Limits). nat_lt (carried_count lane) l.depth ≡ true) (sym is.limits) parts.1 in
            front-take p t.queue t.target first.0 (take-some p.limits.depth p.posts.queues t.queue t.target q lane first.0 there l.whole l.lane_there room first.1)
