-- Where no transfer may come next, every lane of a queue that is not broken is empty.
use Rattle.std.proofs.Common.{◌≡◌, ℕ, zero, suc, ◌+◌, ◌≤◌, Bool, true, false, ◌&&◌, nat_lt, nat_le, is_none, List, [], ◌∷◌, ◌++◌, length, Option, None, Some, refl, sym, ap, ◌∙◌, arith, cond}
use Rattle.std.specs.List.{slice_get, sum_by, flat_map, enumerate_from, list_any}
use Rattle.std.proofs.lemmas.Bool.{lt-ltb, ltb-true, le-leb}
use Rattle.std.proofs.lemmas.List.Sums.{sum_by-cons, count_by-le-length}
use Rattle.gaspi_types.specs.Lanes.{is_posted, is_carried, is_failed, is_write, is_read, carried_count, may_take, may_put, may_put_kind}
use Rattle.gaspi_types.specs.declared.entries.Entry.{Entry}
use Rattle.gaspi_types.specs.declared.entries.Kind.{Kind}
use Rattle.gaspi_types.specs.declared.entries.Kind.TheVariants.{Write, Read, Notify, ReadNote}
use Rattle.gaspi_types.specs.declared.entries.Phase.{Phase}
use Rattle.gaspi_types.specs.declared.entries.Phase.TheVariants as phases
use Rattle.gaspi_types.specs.declared.shapes.Limits.{Limits}
use Rattle.gaspi_model.specs.Transfers.{transfer_of, lane_transfers, queue_transfers, rank_transfers, transfers}
use Rattle.gaspi_model.specs.Settled.{AreLanesEmpty}
use Rattle.gaspi_model.specs.Sound.{AreAbove, AreRising, lane_from, lane_failed, failures, IsSoundQueue, IsSound}
use Rattle.gaspi_types.specs.declared.entries.Queue.{Queue}
use Rattle.gaspi_model.specs.declared.states.State.{State}
use Rattle.gaspi_model.proofs.Sound.OpenCounts.{one-if, one-if-not}

-- Parts of what is empty are empty.

empty-both : {A : Type 0} (xs ys : List A) → xs ++ ys ≡ [] → (xs ≡ []) × (ys ≡ [])
empty-both [] ys h = (refl, h)
empty-both (x ∷ xs) ys h = absurd (let no : ⊥ = cc in no)

empty-part : {A B : Type 0} (f : A → List B) (xs : List A) (k : ℕ) (x : A) → flat_map f xs ≡ [] → slice_get xs k ≡ Some x → f x ≡ []
empty-part f [] k x h at = absurd (let no : ⊥ = cc in no)
empty-part f (y ∷ xs) zero x h at = let same : y ≡ x = cc in rw (sym same) (empty-both (f y) (flat_map f xs) h).0
empty-part f (y ∷ xs) (suc k) x h at = empty-part f xs k x (empty-both (f y) (flat_map f xs) h).1 at

numbered : {A : Type 0} (n : ℕ) (xs : List A) (k : ℕ) (x : A) → slice_get xs k ≡ Some x → (i : ℕ) × (i ≡ n + k) × (slice_get (enumerate_from n xs) k ≡ Some (i, x))
numbered n [] k x at = absurd (let no : ⊥ = cc in no)
numbered n (y ∷ xs) zero x at = let same : y ≡ x = cc in (n, omega arith, rw same refl)
numbered n (y ∷ xs) (suc k) x at = let rest = numbered (n + 1) xs k x at in (rest.0, (let is = rest.1 in omega arith), rest.2)

-- an entry of a lane may neither take its bytes nor be put
no-transfer : (origin queue target : ℕ) (limits : Limits) (lane : List Entry) (e : Entry) → transfer_of origin queue target limits lane e ≡ [] → (may_take limits.depth lane e ≡ false) × (may_put lane e ≡ false)
no-transfer origin queue target limits lane e h = by-take (may_take limits.depth lane e) refl
  where
    by-put : may_take limits.depth lane e ≡ false → (b : Bool) → may_put lane e ≡ b → (may_take limits.depth lane e ≡ false) × (may_put lane e ≡ false)
    by-put take false put = (take, put)
    by-put take true put = absurd (let some = rw (take, put) at h in let no : ⊥ = cc in no)

    by-take : (b : Bool) → may_take limits.depth lane e ≡ b → (may_take limits.depth lane e ≡ false) × (may_put lane e ≡ false)
    by-take true take = absurd (let some = rw take at h in let no : ⊥ = cc in no)
    by-take false take = by-put take (may_put lane e) refl

-- a sum is not less than a part of it
part-of-sum : {A : Type 0} (f : A → ℕ) (xs : List A) (k : ℕ) (x : A) → slice_get xs k ≡ Some x → f x ≤ sum_by f xs
part-of-sum f [] k x at = absurd (let no : ⊥ = cc in no)
part-of-sum f (y ∷ xs) zero x at =
    let same : y ≡ x = cc in
    let sum = sum_by-cons f y xs in
    rw (sym same) (omega arith)
part-of-sum f (y ∷ xs) (suc k) x at =
    let rest = part-of-sum f xs k x at in
    let sum = sum_by-cons f y xs in
    omega arith

-- all of a lane that is above a number is from it on, and none of it is an earlier write
all-above : (n : ℕ) (lane : List Entry) → AreAbove n lane → lane_from n lane ≡ length lane
all-above n [] above = refl
all-above n (e ∷ lane) above =
    let rest = all-above n lane above.1 in
    let here = le-leb n e.number (let less = above.0 in omega arith) in
    sum_by-cons (λ (x : Entry). cond (nat_le n x.number) 1 0) e lane ∙ rw here (omega arith)

not-less : (m n : ℕ) → n ≤ m → nat_lt m n ≡ false
not-less m n le = go (nat_lt m n) refl
  where
    go : (b : Bool) → nat_lt m n ≡ b → nat_lt m n ≡ false
    go false is = is
    go true is = absurd (let less = ltb-true m n is in omega arith)

and-false : (a : Bool) → (a && false) ≡ false
and-false true = refl
and-false false = refl

none-earlier : (is_kind : Entry → Bool) (n : ℕ) (lane : List Entry) → AreAbove n lane → list_any (λ e. is_kind e && nat_lt e.number n) lane ≡ false
none-earlier is_kind n [] above = refl
none-earlier is_kind n (e ∷ lane) above =
    let rest = none-earlier is_kind n lane above.1 in
    let here = not-less e.number n (let less = above.0 in omega arith) in
    rw (here, and-false (is_kind e)) rest

-- the first entry of a lane may be put once it has taken its bytes
first-may_put : (next : ℕ) (e : Entry) (lane : List Entry) → AreRising next (e ∷ lane) → is_carried e ≡ true → may_put (e ∷ lane) e ≡ true
first-may_put next e lane rising carried = rw carried (by-kind e.kind)
  where
    by-kind : (k : Kind) → may_put_kind (e ∷ lane) e.number k ≡ true
    by-kind (Write own target) = refl
    by-kind (Read own target) = refl
    by-kind (Notify target value) =
        let self = not-less e.number e.number (omega arith) in
        let rest = none-earlier is_write e.number lane rising.1 in
        rw (self, and-false (is_write e), rest) refl
    by-kind (ReadNote own) =
        let self = not-less e.number e.number (omega arith) in
        let rest = none-earlier is_read e.number lane rising.1 in
        rw (self, and-false (is_read e), rest) refl

-- an entry is posted, carried or failed
by-phase : {P : Type 0} (e : Entry) → (is_posted e ≡ true → is_carried e ≡ false → P) → (is_carried e ≡ true → P) → (is_failed e ≡ true → P) → P
by-phase {P} e posted carried failed = go e.phase refl
  where
    go : (phase : Phase) → e.phase ≡ phase → P
    go phases.Posted is = posted (rw is refl) (rw is refl)
    go (phases.Carried bytes) is = carried (rw is refl)
    go phases.Failed is = failed (rw is refl)

-- A lane with an entry, none of which may move, in a queue that is not broken: there is none.
no-lane : (limits : Limits) (q : Queue) (target next : ℕ) (e : Entry) (lane : List Entry) → IsSoundQueue limits.depth q → is_none q.broken ≡ true → slice_get q.lanes target ≡ Some (e ∷ lane)
    → AreRising next (e ∷ lane) → may_take limits.depth (e ∷ lane) e ≡ false → may_put (e ∷ lane) e ≡ false → ⊥
no-lane limits q target next e lane sound whole at rising take put =
    by-phase e
    (λ posted still.
    let whole_lane : lane_from e.number (e ∷ lane) ≡ suc (length lane) =
    sum_by-cons (λ (x : Entry). cond (nat_le e.number x.number) 1 0) e lane
    ∙ (let here = le-leb e.number e.number (omega arith) in let rest = all-above e.number lane rising.1 in rw here (omega arith)) in
    let part = part-of-sum (lane_from e.number) q.lanes target (e ∷ lane) at in
    let most = sound.from_posted target (e ∷ lane) at 0 e refl posted in
    let opened = sound.opened in
    let carried : carried_count (e ∷ lane) ≤ length lane =
    (let sum = sum_by-cons (λ (x : Entry). cond (is_carried x) 1 0) e lane in
    let rest = count_by-le-length is_carried lane in
    let none = one-if-not (is_carried e) still in
    omega arith) in
    let room = lt-ltb (carried_count (e ∷ lane)) limits.depth (omega arith) in
    let yes : may_take limits.depth (e ∷ lane) e ≡ true = rw (posted, room) refl in
    cc)
    (λ carried. let yes = first-may_put next e lane rising carried in cc)
    (λ failed.
    let here = one-if (is_failed e) failed in
    let sum = sum_by-cons (λ (x : Entry). cond (is_failed x) 1 0) e lane in
    let part = part-of-sum lane_failed q.lanes target (e ∷ lane) at in
    let none = sound.failed in
    let unmarked = unbroken q.broken whole in
    omega arith)
  where
    unbroken : (broken : Option ℕ) → is_none broken ≡ true → failures broken ≡ 0
    unbroken None h = refl
    unbroken (Some rank) h = absurd (let no : ⊥ = cc in no)

pub lanes-empty : (s : State) → IsSound s → transfers s.limits s.posts ≡ [] → AreLanesEmpty s
lanes-empty s sound none origin posts hp queue q hq whole target lane hl = by-lane lane hl
  where
    of-rank : rank_transfers s.limits (origin, posts) ≡ []
    of-rank =
        let n = numbered 0 s.posts origin posts hp in
        let at : slice_get (enumerate_from 0 s.posts) origin ≡ Some (origin, posts) = n.2 ∙ ap (λ (i : ℕ). Some (i, posts)) (n.1 ∙ omega arith) in
        empty-part (rank_transfers s.limits) (enumerate_from 0 s.posts) origin (origin, posts) none at

    of-queue : queue_transfers origin s.limits (queue, q) ≡ []
    of-queue =
        let n = numbered 0 posts.queues queue q hq in
        let at : slice_get (enumerate_from 0 posts.queues) queue ≡ Some (queue, q) = n.2 ∙ ap (λ (i : ℕ). Some (i, q)) (n.1 ∙ omega arith) in
        empty-part (queue_transfers origin s.limits) (enumerate_from 0 posts.queues) queue (queue, q) of-rank at

    of-lanes : flat_map (lane_transfers origin queue s.limits) (enumerate_from 0 q.lanes) ≡ []
    of-lanes = rw whole at of-queue

    of-lane : (l : List Entry) → slice_get q.lanes target ≡ Some l → lane_transfers origin queue s.limits (target, l) ≡ []
    of-lane l at_l =
        let n = numbered 0 q.lanes target l at_l in
        let at : slice_get (enumerate_from 0 q.lanes) target ≡ Some (target, l) = n.2 ∙ ap (λ (i : ℕ). Some (i, l)) (n.1 ∙ omega arith) in
        empty-part (lane_transfers origin queue s.limits) (enumerate_from 0 q.lanes) target (target, l) of-lanes at

    by-lane : (l : List Entry) → slice_get q.lanes target ≡ Some l → l ≡ []
    by-lane [] at = refl
    by-lane (e ∷ l) at =
        let p = sound.posts origin posts hp in
        let first = no-transfer origin queue target s.limits (e ∷ l) e (empty-part (transfer_of origin queue target s.limits (e ∷ l)) (e ∷ l) 0 e (of-lane (e ∷ l) at) refl) in
        absurd (no-lane s.limits q target posts.next e l (p.queues queue q hq) whole at (p.rising queue q hq target (e ∷ l) at) first.0 first.1)
