-- The next transfer of a rank, as the node of the rank tells it, is a transfer that may come next in the state.
use Rattle.std.proofs.Common.{◌≡◌, ℕ, zero, suc, ◌<◌, inr, Bool, true, false, ◌||◌, eqb, List, [], ◌∷◌, Option, None, Some, IsOk, Result, Ok, Err, refl, sym, ap, ◌∙◌, subst, if◌then◌else◌}
use Rattle.std.specs.List.{list_any, slice_get}
use Rattle.gaspi_types.specs.Footprints.{take_footprint, put_footprint}
use Rattle.gaspi_types.specs.World.{ShapeValue, IsShape}
use Rattle.gaspi_types.specs.declared.entries.Entry.{Entry}
use Rattle.gaspi_types.specs.declared.events.Event.{Event}
use Rattle.gaspi_types.specs.declared.events.Event.TheVariants.{Take, Put}
use Rattle.gaspi_types.specs.declared.events.Outcome.{Outcome}
use Rattle.gaspi_types.specs.declared.events.Transfer.{Transfer}
use Rattle.gaspi_types.specs.declared.shapes.Limits.{Limits}
use Rattle.gaspi_model.specs.Shards.{numbers_of}
use Rattle.gaspi_model.specs.Sound.{IsSound}
use Rattle.gaspi_model.specs.State.{thread_at, is_running}
use Rattle.gaspi_model.specs.Step.{step, is_legal, is_active, owner_of, event_footprint, transfer_event, transfer_outcome}
use Rattle.gaspi_model.specs.Transfers.{transfers, take_outcome, put_outcome}
use Rattle.gaspi_model.specs.declared.states.Posts.{Posts}
use Rattle.gaspi_model.specs.declared.states.State.{State}
use Rattle.gaspi_model.specs.declared.states.ThreadState.{ThreadState}
use Rattle.gaspi_model.specs.declared.states.Why.{Why}
use Rattle.gaspi_model.proofs.Histories.{reached-sound}
use Rattle.gaspi_model.proofs.Listed.Steps.{take-listed, put-listed}
use Rattle.post_queue.specs.MovableLanes.{is_movable_lane}
use Rattle.rank_node.specs.Fronts.{IsFront, front_entry, transfer_footprint}
use Rattle.rank_node.specs.Lending.{IsPostsOf}
use Rattle.rank_node.specs.Transfers.{take_of, put_of, event_of}
use Rattle.rank_node.specs.Values.{PostsValue}
use Rattle.gaspi_world.specs.Numbering.{by_ranks}
use Rattle.gaspi_world.specs.RankShards.{IsEither, rank_other, either-event}
use Rattle.gaspi_world.specs.ShardLaws.{arrives, limits-are, state-is}
use Rattle.gaspi_world.specs.ShardMachine.{state_after}
use Rattle.gaspi_world.specs.HeldShards.{IsOtherShard}
use Rattle.gaspi_world.specs.Transfers.{HasNoEnabledTransfer, HasActive, HaveEnded}
use Rattle.gaspi_world.proofs.HeldNodes.{other-shard, IsFootprint, footprint-is}

-- What is known of fronts: they are steps, and their entry tells what they reach.
pub record FrontLaws : Type 0 where
  pub steps : (s : State) (p : PostsValue) (t : Transfer) → IsSound s → IsPostsOf s p.me p → IsFront p t → IsOk (step s (transfer_event s t))
  pub footprint : (s : State) (p : PostsValue) (t : Transfer) (e : Entry) (outcome : Outcome) → IsSound s → IsPostsOf s p.me p → IsFront p t → front_entry p t ≡ Some e → event_footprint s.limits p.posts (event_of t outcome) ≡ transfer_footprint s.limits.ranks t e.kind

-- where no lane may be moved there is no transfer of the rank
abbrev pub NoneLaw : Type 0
NoneLaw = (s : State) (p : PostsValue) (t : Transfer) (k : ℕ) → IsPostsOf s p.me p → ((queue target : ℕ) → is_movable_lane p.posts.queues queue target ≡ false) → slice_get (transfers s.limits s.posts) k ≡ Some t → t.origin ≡ p.me → ⊥

-- the posts of a rank, by what they say that it is
pub by-me : (s : State) (rank : ℕ) (p : PostsValue) → IsPostsOf s rank p → IsPostsOf s p.me p
by-me s rank p is = subst (λ (r : ℕ). IsPostsOf s r p) (sym is.me) is

-- the event of a transfer, by how it ends
pub event-put : (t : Transfer) (outcome : Outcome) → t.put ≡ true → event_of t outcome ≡ put_of t outcome
event-put t outcome put = ap (λ (b : Bool). if b then put_of t outcome else take_of t outcome) put

pub event-take : (t : Transfer) (outcome : Outcome) → t.put ≡ false → event_of t outcome ≡ take_of t outcome
event-take t outcome put = ap (λ (b : Bool). if b then put_of t outcome else take_of t outcome) put

pub owner-origin : (t : Transfer) (outcome : Outcome) → owner_of (event_of t outcome) ≡ t.origin
owner-origin t outcome = go t.put
  where
    go : (b : Bool) → owner_of (if b then put_of t outcome else take_of t outcome) ≡ t.origin
    go true = refl
    go false = refl

-- the machine's event of a transfer is one of those
machine-event : (s : State) (t : Transfer) → (outcome : Outcome) × (event_of t outcome ≡ transfer_event s t)
machine-event s t = go t.put
  where
    go : (b : Bool) → (outcome : Outcome) × ((if b then put_of t outcome else take_of t outcome) ≡ (if b then Put t.origin t.queue t.target t.number (transfer_outcome s t put_outcome) else Take t.origin t.queue t.target t.number (transfer_outcome s t take_outcome)))
    go true = (transfer_outcome s t put_outcome, refl)
    go false = (transfer_outcome s t take_outcome, refl)

-- a step leads to a state
pub ok-state : (r : Result State Why) → IsOk r → (t : State) × (r ≡ Ok t)
ok-state (Ok t) ok = (t, refl)
ok-state (Err why) ok = absurd (let no : ⊥ = cc in no)

-- a transfer that is a step is listed
listed-at : (s : State) (t : Transfer) → IsOk (step s (transfer_event s t)) → (k : ℕ) × (slice_get (transfers s.limits s.posts) k ≡ Some t)
listed-at s t ok = go t.put ok
  where
    go : (b : Bool) → IsOk (step s (if b then Put t.origin t.queue t.target t.number (transfer_outcome s t put_outcome) else Take t.origin t.queue t.target t.number (transfer_outcome s t take_outcome)))
        → (k : ℕ) × (slice_get (transfers s.limits s.posts) k ≡ Some (record { origin = t.origin; queue = t.queue; target = t.target; number = t.number; put = b }))
    go true ok = (let next = ok-state (step s (Put t.origin t.queue t.target t.number (transfer_outcome s t put_outcome))) ok in put-listed s next.0 t.origin t.queue t.target t.number (transfer_outcome s t put_outcome) next.1)
    go false ok = (let next = ok-state (step s (Take t.origin t.queue t.target t.number (transfer_outcome s t take_outcome))) ok in take-listed s next.0 t.origin t.queue t.target t.number (transfer_outcome s t take_outcome) next.1)

pub front-other : (w : ShapeValue) (me : ℕ) (t : Transfer) (e : Entry) → me < w.limits.ranks → t.origin ≡ me → IsOtherShard w me (rank_other w.limits.ranks (transfer_footprint w.limits.ranks t e.kind))
front-other w me t e lt mine =
    let footprint = transfer_footprint w.limits.ranks t e.kind in
    other-shard w me footprint lt (subst (λ (n : ℕ). IsFootprint w.limits.ranks n footprint) mine (footprint-is w.limits.ranks t.origin (if t.put then put_footprint t.target e.kind else take_footprint t.target e.kind)))

module _ (w : ShapeValue) (world : IsShape w) (laws : FrontLaws) (h : List Event) (legal : is_legal w h ≡ true) (p : PostsValue) (t : Transfer) (front : IsFront p t) where
  sound : IsSound (state_after w h)
  sound = reached-sound w h (state_after w h) world (arrives w h legal)

  -- what the event of a front reaches
  pub front-footprint : (rank : ℕ) (e : Entry) (outcome : Outcome) → IsPostsOf (state_after w h) rank p → front_entry p t ≡ Some e → event_footprint w.limits p.posts (event_of t outcome) ≡ transfer_footprint w.limits.ranks t e.kind
  front-footprint rank e outcome is next =
      subst (λ (l : Limits). event_footprint l p.posts (event_of t outcome) ≡ transfer_footprint l.ranks t e.kind) (limits-are w h legal) (laws.footprint (state_after w h) p t e outcome sound (by-me (state_after w h) rank p is) front next)

  -- a front is listed
  pub front-listed : (rank : ℕ) → IsPostsOf (state_after w h) rank p → (k : ℕ) × (slice_get (transfers (state_after w h).limits (state_after w h).posts) k ≡ Some t)
  front-listed rank is = listed-at (state_after w h) t (laws.steps (state_after w h) p t sound (by-me (state_after w h) rank p is) front)

  -- its other shard is one of the event's
  pub front-among : (rank : ℕ) (e : Entry) (j : ℕ) → IsPostsOf (state_after w h) rank p → front_entry p t ≡ Some e → rank_other w.limits.ranks (transfer_footprint w.limits.ranks t e.kind) ≡ Some j
      → list_any (eqb j) (numbers_of (by_ranks w).number (state_after w h) (transfer_event (state_after w h) t)) ≡ true
  front-among rank e j is next other =
      let event = machine-event (state_after w h) t in
      let o = event.0 in
      let owner : owner_of (event_of t o) ≡ rank = owner-origin t o ∙ (front.mine ∙ is.me) in
      let there : slice_get (state_after w h).posts (owner_of (event_of t o)) ≡ Some p.posts = ap (λ (r : ℕ). slice_get (state_after w h).posts r) owner ∙ is.posts in
      let footprint : rank_other w.limits.ranks (event_footprint w.limits p.posts (event_of t o)) ≡ Some j = ap (rank_other w.limits.ranks) (front-footprint rank e o is next) ∙ other in
      let either : IsEither (owner_of (event_of t o)) (rank_other w.limits.ranks (event_footprint w.limits p.posts (event_of t o))) j =
      subst (λ (x : Option ℕ). IsEither (owner_of (event_of t o)) x j) (sym footprint) (inr refl) in
      subst (λ (y : Event). list_any (eqb j) (numbers_of (by_ranks w).number (state_after w h) y) ≡ true) event.1 (either-event w h (event_of t o) p.posts j legal there either)

-- Threads of a rank that have not ended.
some-running : (list : List ThreadState) → list_any is_running list ≡ true → (k : ℕ) × (t : ThreadState) × (slice_get list k ≡ Some t) × (is_running t ≡ true)
some-running [] any = absurd (let no : ⊥ = cc in no)
some-running (t ∷ list) any = go (λ some. some-running list some) (is_running t) refl any
  where
    go : (list_any is_running list ≡ true → (k : ℕ) × (x : ThreadState) × (slice_get list k ≡ Some x) × (is_running x ≡ true)) → (b : Bool) → is_running t ≡ b → (b || list_any is_running list) ≡ true
        → (k : ℕ) × (x : ThreadState) × (slice_get (t ∷ list) k ≡ Some x) × (is_running x ≡ true)
    go later true is any = (zero, t, refl, is)
    go later false is any = (let rest = later any in (suc rest.0, rest.1, rest.2, rest.3))

none-running : (list : List ThreadState) (k : ℕ) (t : ThreadState) → list_any is_running list ≡ false → slice_get list k ≡ Some t → is_running t ≡ false
none-running [] k t none at = absurd (let no : ⊥ = cc in no)
none-running (x ∷ list) k t none at = go (λ j rest there. none-running list j t rest there) k (is_running x) refl none at
  where
    go : ((j : ℕ) → list_any is_running list ≡ false → slice_get list j ≡ Some t → is_running t ≡ false) → (k : ℕ) (b : Bool) → is_running x ≡ b → (b || list_any is_running list) ≡ false → slice_get (x ∷ list) k ≡ Some t
        → is_running t ≡ false
    go later k true is none at = absurd (let no : ⊥ = cc in no)
    go later zero false is none at = (let same : x ≡ t = cc in ap is_running (sym same) ∙ is)
    go later (suc k) false is none at = later k none at

active-in : (s : State) (rank thread : ℕ) (posts : Posts) → slice_get s.posts rank ≡ Some posts → is_active s rank thread ≡ is_running (thread_at posts thread)
active-in s rank thread posts at = rw at refl

thread-there : (posts : Posts) (k : ℕ) (t : ThreadState) → slice_get posts.threads k ≡ Some t → thread_at posts k ≡ t
thread-there posts k t at = rw at refl

none-active : (posts : Posts) (thread : ℕ) → list_any is_running posts.threads ≡ false → is_running (thread_at posts thread) ≡ false
none-active posts thread none = go (slice_get posts.threads thread) refl
  where
    go : (o : Option ThreadState) → slice_get posts.threads thread ≡ o → is_running (thread_at posts thread) ≡ false
    go None at = rw at refl
    go (Some t) at = ap is_running (thread-there posts thread t at) ∙ none-running posts.threads thread t none at

module _ (w : ShapeValue) (h : List Event) (legal : is_legal w h ≡ true) (rank : ℕ) (p : PostsValue) (is : IsPostsOf (state_after w h) rank p) where
  -- a thread of the rank has not ended after the history; all have
  pub has-active : list_any is_running p.posts.threads ≡ true → HasActive w h rank
  has-active any =
      let thread = some-running p.posts.threads any in
      (state_after w h, arrives w h legal, (thread.0, active-in (state_after w h) rank thread.0 p.posts is.posts ∙ (ap is_running (thread-there p.posts thread.0 thread.1 thread.2) ∙ thread.3)))

  pub have-ended : list_any is_running p.posts.threads ≡ false → HaveEnded w h rank
  have-ended none s reached_is thread =
      subst (λ (x : State). is_active x rank thread ≡ false) (state-is w h s reached_is) (active-in (state_after w h) rank thread p.posts is.posts ∙ none-active p.posts thread none)

  -- no transfer of the rank may come next, where no lane may be moved
  pub no-transfer : NoneLaw → ((queue target : ℕ) → is_movable_lane p.posts.queues queue target ≡ false) → HasNoEnabledTransfer w h rank
  no-transfer law none s reached_is k t at mine =
      law (state_after w h) p t k (by-me (state_after w h) rank p is) none (subst (λ (x : State). slice_get (transfers x.limits x.posts) k ≡ Some t) (sym (state-is w h s reached_is)) at) (mine ∙ sym is.me)
