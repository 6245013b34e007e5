-- A transfer that is a step is listed.
use Rattle.std.proofs.Common.{◌≡◌, ℕ, zero, suc, ◌+◌, true, false, List, [], ◌∷◌, length, Some, Ok, refl, ap, ◌∙◌, arith, is_none}
use Rattle.std.specs.List.{slice_get, flat_map, enumerate_from}
use Rattle.gaspi_types.specs.Lanes.{may_take, is_carried, is_carried_phase}
use Rattle.gaspi_types.specs.declared.entries.Entry.{Entry}
use Rattle.gaspi_types.specs.declared.entries.Phase.{Phase}
use Rattle.gaspi_types.specs.declared.entries.Phase.TheVariants as phases
use Rattle.gaspi_types.specs.declared.events.Outcome.{Outcome}
use Rattle.gaspi_types.specs.declared.events.Event.TheVariants.{Take, Put}
use Rattle.gaspi_types.specs.declared.events.Transfer.{Transfer}
use Rattle.gaspi_model.specs.Transfers.{EntryPosition, transfer_of, lane_transfers, queue_transfers, rank_transfers, transfers}
use Rattle.gaspi_model.specs.Step.{step}
use Rattle.gaspi_model.specs.declared.states.Posts.{Posts}
use Rattle.gaspi_model.specs.declared.states.State.{State}
use Rattle.gaspi_types.proofs.Chains.{both}
use Rattle.gaspi_model.proofs.Made.{step-take, step-put}
use Rattle.gaspi_model.proofs.Ordered.Notifications.{found-number}
use Rattle.gaspi_types.proofs.Items.{prefix-of-joined, behind-of-joined}
use Rattle.std.proofs.lemmas.Option.{slice_get_within}
use Rattle.gaspi_model.proofs.FoundEntries.{IsFound}

-- an item of a part is one of the whole
flat_map-there : {A B : Type 0} (f : A → List B) (xs : List A) (i j : ℕ) (x : A) (y : B) → slice_get xs i ≡ Some x → slice_get (f x) j ≡ Some y → (k : ℕ) × (slice_get (flat_map f xs) k ≡ Some y)
flat_map-there f [] i j x y at here = absurd (let no : ⊥ = cc in no)
flat_map-there f (z ∷ xs) zero j x y at here =
    let same : z ≡ x = cc in
    let first : slice_get (f z) j ≡ Some y = rw same here in
    (j, prefix-of-joined (f z) (flat_map f xs) j (slice_get_within (f z) j y first) ∙ first)
flat_map-there f (z ∷ xs) (suc i) j x y at here =
    let rest = flat_map-there f xs i j x y at here in
    (length (f z) + rest.0, behind-of-joined (f z) (flat_map f xs) rest.0 (length (f z) + rest.0) refl ∙ rest.1)

enumerate-there : {A : Type 0} (n : ℕ) (xs : List A) (i : ℕ) (x : A) → slice_get xs i ≡ Some x → slice_get (enumerate_from n xs) i ≡ Some (n + i, x)
enumerate-there n [] i x at = absurd (let no : ⊥ = cc in no)
enumerate-there {A} n (y ∷ xs) zero x at =
    let same : y ≡ x = cc in
    ap (λ (z : A). Some (n, z)) same ∙ ap (λ (k : ℕ). Some (k, x)) (let more : n ≡ n + 0 = omega arith in more)
enumerate-there {A} n (y ∷ xs) (suc i) x at = enumerate-there (n + 1) xs i x at ∙ ap (λ (k : ℕ). Some (k, x)) (let more : n + 1 + i ≡ n + suc i = omega arith in more)

from-start : {A : Type 0} (xs : List A) (i : ℕ) (x : A) → slice_get xs i ≡ Some x → slice_get (enumerate_from 0 xs) i ≡ Some (i, x)
from-start {A} xs i x at = enumerate-there 0 xs i x at ∙ ap (λ (k : ℕ). Some (k, x)) (let more : 0 + i ≡ i = omega arith in more)

-- the transfer of an entry that was found is listed
listed-there : (s : State) (posts : Posts) (origin queue target number : ℕ) (at : EntryPosition) (t : Transfer) → slice_get s.posts origin ≡ Some posts → IsFound posts queue target number at → is_none at.queue.broken ≡ true
    → slice_get (transfer_of origin queue target s.limits at.lane at.entry) 0 ≡ Some t → (k : ℕ) × (slice_get (transfers s.limits s.posts) k ≡ Some t)
listed-there s posts origin queue target number at t hp is whole here =
    let lane = flat_map-there (transfer_of origin queue target s.limits at.lane) at.lane at.position 0 at.entry t is.in_lane here in
    let lanes = flat_map-there (lane_transfers origin queue s.limits) (enumerate_from 0 at.queue.lanes) target lane.0 (target, at.lane) t (from-start at.queue.lanes target at.lane is.in_queue) lane.1 in
    let open_queue : slice_get (queue_transfers origin s.limits (queue, at.queue)) lanes.0 ≡ Some t = rw whole lanes.1 in
    let queues = flat_map-there (queue_transfers origin s.limits) (enumerate_from 0 posts.queues) queue lanes.0 (queue, at.queue) t (from-start posts.queues queue at.queue is.in_posts) open_queue in
    flat_map-there (rank_transfers s.limits) (enumerate_from 0 s.posts) origin queues.0 (origin, posts) t (from-start s.posts origin posts hp) queues.1

pub take-listed : (s t : State) (origin queue target number : ℕ) (outcome : Outcome) → step s (Take origin queue target number outcome) ≡ Ok t
    → (k : ℕ) × (slice_get (transfers s.limits s.posts) k ≡ Some (record { origin = origin; queue = queue; target = target; number = number; put = false }))
take-listed s t origin queue target number outcome h =
    let made = step-take s t origin queue target number outcome h in
    let m = made.4 in
    let at = made.3 in
    let numbered = found-number at.lane number at.position at.entry m.is.is.numbered m.is.is.in_lane in
    listed-there s made.0 origin queue target number at (record { origin = origin; queue = queue; target = target; number = number; put = false }) m.posts_there m.is.is m.is.whole
    (rw m.is.permitted (ap (λ (n : ℕ). Some (let x : Transfer = record { origin = origin; queue = queue; target = target; number = n; put = false } in x)) numbered))

carried-waits : (depth : ℕ) (lane : List Entry) (e : Entry) → is_carried e ≡ true → may_take depth lane e ≡ false
carried-waits depth lane e carried = go e.phase refl carried
  where
    go : (p : Phase) → e.phase ≡ p → is_carried_phase e.phase ≡ true → may_take depth lane e ≡ false
    go phases.Posted is h = absurd (let never = rw is at h in let no : ⊥ = cc in no)
    go (phases.Carried bytes) is h = rw is refl
    go phases.Failed is h = rw is refl

pub put-listed : (s t : State) (origin queue target number : ℕ) (outcome : Outcome) → step s (Put origin queue target number outcome) ≡ Ok t
    → (k : ℕ) × (slice_get (transfers s.limits s.posts) k ≡ Some (record { origin = origin; queue = queue; target = target; number = number; put = true }))
put-listed s t origin queue target number outcome h =
    let made = step-put s t origin queue target number outcome h in
    let m = made.4 in
    let at = made.3 in
    let numbered = found-number at.lane number at.position at.entry m.is.is.numbered m.is.is.in_lane in
    let waits = carried-waits s.limits.depth at.lane at.entry (both (is_carried at.entry) _ m.is.permitted).0 in
    listed-there s made.0 origin queue target number at (record { origin = origin; queue = queue; target = target; number = number; put = true }) m.posts_there m.is.is m.is.whole
    (rw (waits, m.is.permitted) (ap (λ (n : ℕ). Some (let x : Transfer = record { origin = origin; queue = queue; target = target; number = n; put = true } in x)) numbered))
