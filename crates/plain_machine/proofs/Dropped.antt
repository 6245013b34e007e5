-- What a purge does to the names of the lanes that have an entry: those of its queue go, and all others stay.
use Rattle.std.proofs.Common.{◌≡◌, ℕ, zero, suc, ◌+◌, Bool, true, false, List, [], ◌∷◌, map, Option, None, Some, Ok, slice_get, slice_set, refl, sym, ap, ◌∙◌, subst, arith, if◌then◌else◌}
use Rattle.std.specs.List.{filter, flat_map, enumerate_from}
use Rattle.std.proofs.lemmas.Bool.{eq-eqb, ne_eqb}
use Rattle.std.proofs.lemmas.List.Elements.{filter-append}
use Rattle.gaspi_types.specs.CallRows.{row_of}
use Rattle.gaspi_types.specs.Replies.{is_idle}
use Rattle.gaspi_types.specs.declared.calls.Call.{Call}
use Rattle.gaspi_types.specs.declared.calls.Call.TheVariants.{Purge}
use Rattle.gaspi_types.specs.declared.entries.Entry.{Entry}
use Rattle.gaspi_types.specs.declared.entries.Queue.{Queue}
use Rattle.gaspi_types.specs.declared.events.Event.TheVariants.{Called}
use Rattle.gaspi_types.specs.declared.replies.Reply.{Reply}
use Rattle.gaspi_types.specs.declared.replies.Refusal.TheVariants.{BadQueue}
use Rattle.gaspi_types.specs.declared.shapes.CallerId.{CallerId}
use Rattle.gaspi_types.specs.declared.shapes.Limits.{Limits}
use Rattle.gaspi_types.specs.Tables.{changed_at}
use Rattle.gaspi_types.proofs.Chains.{found_then}
use Rattle.gaspi_types.proofs.Items.{changed_at-found}
use Rattle.gaspi_model.specs.Calls.{call_result, posts_effect}
use Rattle.gaspi_model.specs.Posting.{counted}
use Rattle.gaspi_model.specs.QueueCalls.{emptied, without_entries, purged}
use Rattle.gaspi_model.specs.Step.{step}
use Rattle.gaspi_model.specs.declared.states.Memory.{Memory}
use Rattle.gaspi_model.specs.declared.states.Posts.{Posts}
use Rattle.gaspi_model.specs.declared.states.State.{State}
use Rattle.plain_calls.specs.NumberBounds.{purged_queue}
use Rattle.plain_calls.proofs.CallBounds.{found_by}
use Rattle.plain_calls.proofs.Queues.{purge_queues}
use Rattle.plain_machine.specs.NonemptyLanes.{lane_id, lane_if_nonempty, queue_nonempty_lanes, rank_nonempty_lanes, nonempty_lanes, event_purge, is_elsewhere}
use Rattle.plain_machine.specs.declared.nonempty_lanes.LaneId.{LaneId}
use Rattle.plain_machine.proofs.OnGroups.{purges_plain}
use Rattle.plain_machine.proofs.Renamed.{call_posts}

-- Lists made from the items of a list, of which a test keeps all, none, or those of all items but one.

all_kept : {X : Type 0} (keep : LaneId → Bool) (h : ℕ × X → List LaneId) (n : ℕ) (xs : List X) → ((j k : ℕ) (x : X) → j ≡ n + k → filter keep (h (j, x)) ≡ h (j, x))
    → filter keep (flat_map h (enumerate_from n xs)) ≡ flat_map h (enumerate_from n xs)
all_kept keep h n [] each = refl
all_kept keep h n (x ∷ xs) each =
    filter-append keep (h (n, x)) (flat_map h (enumerate_from (n + 1) xs))
    ∙ (rw (each n 0 x (omega arith), all_kept keep h (n + 1) xs (λ j k y at. each j (suc k) y (omega (arith, at)))) refl)

none_kept : {X : Type 0} (keep : LaneId → Bool) (h : ℕ × X → List LaneId) (n : ℕ) (xs : List X) → ((j : ℕ) (x : X) → filter keep (h (j, x)) ≡ [])
    → filter keep (flat_map h (enumerate_from n xs)) ≡ []
none_kept keep h n [] each = refl
none_kept keep h n (x ∷ xs) each =
    filter-append keep (h (n, x)) (flat_map h (enumerate_from (n + 1) xs))
    ∙ (rw (each n x, none_kept keep h (n + 1) xs each) refl)

kept_but : {X : Type 0} (keep : LaneId → Bool) (h : ℕ × X → List LaneId) (n i : ℕ) (xs : List X) (x y : X) → slice_get xs i ≡ Some x
    → ((j k : ℕ) (z : X) → j ≡ n + k → (k ≡ i → ⊥) → filter keep (h (j, z)) ≡ h (j, z))
    → ((j : ℕ) → j ≡ n + i → filter keep (h (j, x)) ≡ h (j, y))
    → filter keep (flat_map h (enumerate_from n xs)) ≡ flat_map h (enumerate_from n (slice_set xs i y))
kept_but keep h n i [] x y there others here = absurd (let no : ⊥ = cc in no)
kept_but {X} keep h n zero (z ∷ xs) x y there others here =
    let same : x ≡ z = cc in
    let first : filter keep (h (n, z)) ≡ h (n, y) = ap (λ (w : X). filter keep (h (n, w))) (sym same) ∙ here n (omega arith) in
    filter-append keep (h (n, z)) (flat_map h (enumerate_from (n + 1) xs))
    ∙ (rw (first, all_kept keep h (n + 1) xs (λ j k w at. others j (suc k) w (omega (arith, at)) (λ is. let no : ⊥ = omega (arith, is) in no))) refl)
kept_but keep h n (suc i) (z ∷ xs) x y there others here =
    filter-append keep (h (n, z)) (flat_map h (enumerate_from (n + 1) xs))
    ∙ (rw (
      others n 0 z (omega arith) (λ is. let no : ⊥ = omega (arith, is) in no),
      kept_but keep h (n + 1) i xs x y there
          (λ j k w at apart. others j (suc k) w (omega (arith, at)) (λ is. apart (omega (arith, is))))
          (λ j at. here j (omega (arith, at))),
    ) refl)

-- The names of a lane, a queue and a rank.

lane_kept : (keep : LaneId → Bool) (origin queue target : ℕ) (lane : List Entry) → keep (lane_id origin queue target) ≡ true
    → filter keep (lane_if_nonempty origin queue (target, lane)) ≡ lane_if_nonempty origin queue (target, lane)
lane_kept keep origin queue target [] keeps = refl
lane_kept keep origin queue target (e ∷ lane) keeps = rw keeps refl

lane_dropped : (keep : LaneId → Bool) (origin queue target : ℕ) (lane : List Entry) → keep (lane_id origin queue target) ≡ false
    → filter keep (lane_if_nonempty origin queue (target, lane)) ≡ []
lane_dropped keep origin queue target [] drops = refl
lane_dropped keep origin queue target (e ∷ lane) drops = rw drops refl

queue_kept : (keep : LaneId → Bool) (origin queue : ℕ) (q : Queue) → ((target : ℕ) → keep (lane_id origin queue target) ≡ true)
    → filter keep (queue_nonempty_lanes origin (queue, q)) ≡ queue_nonempty_lanes origin (queue, q)
queue_kept keep origin queue q keeps = all_kept keep (lane_if_nonempty origin queue) 0 q.lanes (λ target k lane at. lane_kept keep origin queue target lane (keeps target))

none_named : (origin queue n : ℕ) (lanes : List (List Entry)) → flat_map (lane_if_nonempty origin queue) (enumerate_from n (map without_entries lanes)) ≡ []
none_named origin queue n [] = refl
none_named origin queue n (lane ∷ lanes) = none_named origin queue (n + 1) lanes

queue_dropped : (keep : LaneId → Bool) (origin queue : ℕ) (q : Queue) → ((target : ℕ) → keep (lane_id origin queue target) ≡ false)
    → filter keep (queue_nonempty_lanes origin (queue, q)) ≡ queue_nonempty_lanes origin (queue, emptied q)
queue_dropped keep origin queue q drops =
    none_kept keep (lane_if_nonempty origin queue) 0 q.lanes (λ target lane. lane_dropped keep origin queue target lane (drops target)) ∙ sym (none_named origin queue 0 q.lanes)

rank_kept : (keep : LaneId → Bool) (origin : ℕ) (p : Posts) → ((queue target : ℕ) → keep (lane_id origin queue target) ≡ true)
    → filter keep (rank_nonempty_lanes (origin, p)) ≡ rank_nonempty_lanes (origin, p)
rank_kept keep origin p keeps = all_kept keep (queue_nonempty_lanes origin) 0 p.queues (λ queue k q at. queue_kept keep origin queue q (keeps queue))

-- The lanes of an origin's queue, and those elsewhere.

other_rank : (origin queue j k target : ℕ) → (j ≡ origin → ⊥) → is_elsewhere origin queue (lane_id j k target) ≡ true
other_rank origin queue j k target apart = rw (ne_eqb j origin apart) refl

other_queue : (origin queue k target : ℕ) → (k ≡ queue → ⊥) → is_elsewhere origin queue (lane_id origin k target) ≡ true
other_queue origin queue k target apart = rw (eq-eqb origin origin refl, ne_eqb k queue apart) refl

this_queue : (origin queue target : ℕ) → is_elsewhere origin queue (lane_id origin queue target) ≡ false
this_queue origin queue target = rw (eq-eqb origin origin refl, eq-eqb queue queue refl) refl

-- the names of a rank whose queue is emptied
rank_dropped : (origin queue : ℕ) (p p' : Posts) (q : Queue) → slice_get p.queues queue ≡ Some q → p'.queues ≡ changed_at p.queues queue emptied
    → filter (is_elsewhere origin queue) (rank_nonempty_lanes (origin, p)) ≡ rank_nonempty_lanes (origin, p')
rank_dropped origin queue p p' q there changed =
    kept_but (is_elsewhere origin queue) (queue_nonempty_lanes origin) 0 queue p.queues q (emptied q) there others here
    ∙ ap (λ (qs : List Queue). flat_map (queue_nonempty_lanes origin) (enumerate_from 0 qs)) (sym (changed ∙ changed_at-found p.queues queue q emptied there))
  where
    others : (j k : ℕ) (z : Queue) → j ≡ 0 + k → (k ≡ queue → ⊥) → filter (is_elsewhere origin queue) (queue_nonempty_lanes origin (j, z)) ≡ queue_nonempty_lanes origin (j, z)
    others j k z at apart = queue_kept (is_elsewhere origin queue) origin j z (λ target. other_queue origin queue j target (λ is. apart (omega (arith, at, is))))

    here : (j : ℕ) → j ≡ 0 + queue → filter (is_elsewhere origin queue) (queue_nonempty_lanes origin (j, q)) ≡ queue_nonempty_lanes origin (j, emptied q)
    here j at =
        let same : queue ≡ j = omega (arith, at) in
        subst (λ (n : ℕ). filter (is_elsewhere origin queue) (queue_nonempty_lanes origin (n, q)) ≡ queue_nonempty_lanes origin (n, emptied q)) same
        (queue_dropped (is_elsewhere origin queue) origin queue q (λ target. this_queue origin queue target))

-- A purge that is done.

some_purge : (idle : Bool) (o : Option ℕ) (queue : ℕ) → (if idle then None else o) ≡ Some queue → (idle ≡ false) × (o ≡ Some queue)
some_purge true o queue is = absurd (let no : ⊥ = cc in no)
some_purge false o queue is = (refl, is)

-- its queue is there
purge_there : (limits : Limits) (me : ℕ) (posts : Posts) (memory : Memory) (call : Call) (queue : ℕ) (reply : Reply) → purged_queue call ≡ Some queue
    → call_result limits me posts memory call ≡ Ok (Some reply) → (q : Queue) × (slice_get posts.queues queue ≡ Some q)
purge_there limits me posts memory (Purge call) queue reply is finds =
    found_then (slice_get posts.queues call.queue) BadQueue _ (Some reply) finds (λ q there more.
    let same : call.queue ≡ queue = cc in
    (q, subst (λ (n : ℕ). slice_get posts.queues n ≡ Some q) same there))
purge_there limits me posts memory call queue reply is finds = absurd (let no : ⊥ = cc in no)

-- a purge that is done
purging_done : (s t : State) (c : CallerId) (call : Call) (reply : Reply) (queue : ℕ) → is_idle reply ≡ false → purged_queue call ≡ Some queue → (row_of call).group ≡ None → step s (Called c call reply) ≡ Ok t
    → nonempty_lanes t.posts ≡ filter (is_elsewhere c.rank queue) (nonempty_lanes s.posts)
purging_done s t c call reply queue busy purges plain is =
    let done = call_posts s t c call reply plain is in
    let after : counted (posts_effect s.limits c.rank done.p c.thread call) ≡ done.p' = rw busy at done.by.1.after_is in
    let made = purge_queues s.limits c.rank done.p c.thread call queue purges in
    let f = found_by s.limits c.rank done.p done.by.0 c.thread call reply done.by.1.replied busy in
    let at = purge_there s.limits c.rank done.p done.by.0 call queue f.reply_found purges f.finds in
    let same : counted (purged done.p queue) ≡ done.p' = ap counted (sym made) ∙ after in
    done.is
    ∙ ap (λ (x : Posts). nonempty_lanes (slice_set s.posts c.rank x)) (sym same)
    ∙ sym (kept_but (is_elsewhere c.rank queue) rank_nonempty_lanes 0 c.rank s.posts done.p (counted (purged done.p queue)) done.there others (here done.p at.0 at.1))
  where
    others : (j k : ℕ) (z : Posts) → j ≡ 0 + k → (k ≡ c.rank → ⊥) → filter (is_elsewhere c.rank queue) (rank_nonempty_lanes (j, z)) ≡ rank_nonempty_lanes (j, z)
    others j k z at apart = rank_kept (is_elsewhere c.rank queue) j z (λ k' target. other_rank c.rank queue j k' target (λ is. apart (omega (arith, at, is))))

    here : (p : Posts) (q : Queue) → slice_get p.queues queue ≡ Some q → (j : ℕ) → j ≡ 0 + c.rank
        → filter (is_elsewhere c.rank queue) (rank_nonempty_lanes (j, p)) ≡ rank_nonempty_lanes (j, counted (purged p queue))
    here p q there j at =
        let same : c.rank ≡ j = omega (arith, at) in
        subst (λ (n : ℕ). filter (is_elsewhere c.rank queue) (rank_nonempty_lanes (n, p)) ≡ rank_nonempty_lanes (n, counted (purged p queue))) same
        (rank_dropped c.rank queue p (counted (purged p queue)) q there refl)

pub purging : (s t : State) (c : CallerId) (call : Call) (reply : Reply) (queue : ℕ) → event_purge (Called c call reply) ≡ Some queue → step s (Called c call reply) ≡ Ok t
    → nonempty_lanes t.posts ≡ filter (is_elsewhere c.rank queue) (nonempty_lanes s.posts)
purging s t c call reply queue purge is =
    let awake = some_purge (is_idle reply) (purged_queue call) queue purge in
    purging_done s t c call reply queue awake.0 awake.1 (purges_plain call queue awake.1) is
