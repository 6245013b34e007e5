-- What is carried, and what is open: each event keeps the queues of a rank sound.
use Rattle.std.proofs.Common.{◌≡◌, map, ℕ, zero, suc, ◌+◌, ◌<◌, ◌≤◌, Bool, true, false, ◌||◌, nat_lt, nat_le, List, [], ◌∷◌, ◌++◌, length, remove, Option, None, Some, refl, sym, ap, ◌∙◌, subst, arith, cond, ◌⊎◌, inl, inr}
use Rattle.std.specs.List.{slice_get, slice_set, sum_by, count_by, list_any}
use Rattle.std.proofs.lemmas.Bool.{ltb-true, leb-true}
use Rattle.std.proofs.lemmas.List.Sums.{sum_by-cons, sum_by-append, sum_by-remove, count_by-le-length}
use Rattle.std.proofs.lemmas.Option.{slice_get_within, get_or_from_slice_get}
use Rattle.gaspi_types.specs.Lanes.{is_posted, is_posted_phase, is_carried, is_carried_phase, is_failed, is_failed_phase, carried_count, is_awaited, has_awaited, posted_entries}
use Rattle.gaspi_types.specs.declared.entries.Entry.{Entry}
use Rattle.gaspi_types.specs.declared.entries.Kind.{Kind}
use Rattle.gaspi_types.specs.declared.entries.Phase.{Phase}
use Rattle.gaspi_types.specs.declared.entries.Phase.TheVariants as phases
use Rattle.gaspi_types.specs.Queues.{with_entries}
use Rattle.gaspi_model.specs.QueueCalls.{emptied, without_entries}
use Rattle.gaspi_model.specs.Sound.{AreRising, lane_from, queue_from, lane_failed, queue_failed, failures, IsSoundQueue}
use Rattle.gaspi_types.specs.declared.entries.Queue.{Queue}
use Rattle.gaspi_types.proofs.Items.{slice_get-set, sum_by-changed, map-at, remove-part, append-parts}
use Rattle.gaspi_model.proofs.FoundEntries.{with_phase}

-- Counts over a list after a change.

pub count-set : {A : Type 0} (p : A → Bool) (xs : List A) (i : ℕ) (x y : A) → slice_get xs i ≡ Some x → count_by p (slice_set xs i y) + cond (p x) 1 0 ≡ count_by p xs + cond (p y) 1 0
count-set p xs i x y at = sum_by-changed (λ (z : _). cond (p z) 1 0) xs i x y at

pub count-remove : {A : Type 0} (p : A → Bool) (xs : List A) (i : ℕ) (x : A) → slice_get xs i ≡ Some x → count_by p (remove xs i) + cond (p x) 1 0 ≡ count_by p xs
count-remove p xs i x at =
    let there = get_or_from_slice_get xs i x x at in
    subst (λ (z : _). count_by p (remove xs i) + cond (p z) 1 0 ≡ count_by p xs) there (sum_by-remove (λ (z : _). cond (p z) 1 0) xs i x (slice_get_within xs i x at))

pub count-append : {A : Type 0} (p : A → Bool) (xs ys : List A) → count_by p (xs ++ ys) ≡ count_by p xs + count_by p ys
count-append p xs ys = sum_by-append (λ (z : _). cond (p z) 1 0) xs ys

pub one-if : (b : Bool) → b ≡ true → cond {A = ℕ} b 1 0 ≡ 1
one-if true h = refl
one-if false h = absurd (let no : ⊥ = cc in no)

pub one-if-not : (b : Bool) → b ≡ false → cond {A = ℕ} b 1 0 ≡ 0
one-if-not true h = absurd (let no : ⊥ = cc in no)
one-if-not false h = refl

one-or-none : (b : Bool) → cond b 1 0 ≤ 1
one-or-none true = omega arith
one-or-none false = omega arith

-- an entry in another phase has its number still
from-phase : (n : ℕ) (lane : List Entry) (place : ℕ) (e : Entry) (phase : Phase) → slice_get lane place ≡ Some e → lane_from n (with_phase lane place e phase) ≡ lane_from n lane
from-phase n lane place e phase at =
    let set = count-set (λ (x : Entry). nat_le n x.number) lane place e (record e { phase = phase }) at in
    omega arith

from-remove : (n : ℕ) (lane : List Entry) (place : ℕ) (e : Entry) → slice_get lane place ≡ Some e → lane_from n (remove lane place) ≤ lane_from n lane
from-remove n lane place e at = let less = count-remove (λ (x : Entry). nat_le n x.number) lane place e at in omega arith

-- the entries of a post
pub posted-length : (number : ℕ) (kinds : List Kind) → length (posted_entries number kinds) ≡ length kinds
posted-length number [] = refl
posted-length number (kind ∷ kinds) = ap (λ (k : ℕ). suc k) (posted-length (number + 1) kinds)

none-carried : (number : ℕ) (kinds : List Kind) → carried_count (posted_entries number kinds) ≡ 0
none-carried number [] = refl
none-carried number (kind ∷ kinds) = sum_by-cons (λ (e : Entry). cond (is_carried e) 1 0) (record { number = number; kind = kind; phase = phases.Posted }) (posted_entries (number + 1) kinds)
    ∙ (let rest = none-carried (number + 1) kinds in omega arith)

none-failed : (number : ℕ) (kinds : List Kind) → lane_failed (posted_entries number kinds) ≡ 0
none-failed number [] = refl
none-failed number (kind ∷ kinds) =
    sum_by-cons (λ (e : Entry). cond (is_failed e) 1 0) (record { number = number; kind = kind; phase = phases.Posted }) (posted_entries (number + 1) kinds)
    ∙ (let rest = none-failed (number + 1) kinds in omega arith)

-- what is posted, and what is carried, has not failed
pub posted-unfailed : (phase : Phase) → is_posted_phase phase ≡ true → is_failed_phase phase ≡ false
posted-unfailed phases.Posted h = refl
posted-unfailed (phases.Carried bytes) h = refl
posted-unfailed phases.Failed h = absurd (let no : ⊥ = cc in no)

pub carried-unfailed : (phase : Phase) → is_carried_phase phase ≡ true → is_failed_phase phase ≡ false
carried-unfailed phases.Posted h = refl
carried-unfailed (phases.Carried bytes) h = refl
carried-unfailed phases.Failed h = absurd (let no : ⊥ = cc in no)

posted-from : (number : ℕ) (kinds : List Kind) (k : ℕ) (e : Entry) → slice_get (posted_entries number kinds) k ≡ Some e → number ≤ e.number
posted-from number [] k e at = absurd (let no : ⊥ = cc in no)
posted-from number (kind ∷ kinds) zero e at =
    let some : ◌≡◌ {A = Option Entry} (Some (record { number = number; kind = kind; phase = phases.Posted })) (Some e) = at in
    let same : ◌≡◌ {A = Entry} (record { number = number; kind = kind; phase = phases.Posted }) e = cc in
    let n : number ≡ e.number = ap (λ (x : Entry). x.number) same in
    omega arith
posted-from number (kind ∷ kinds) (suc k) e at = let rest = posted-from (number + 1) kinds k e at in omega arith

-- a lane whose numbers are below n has none from n on
none-from : (next n : ℕ) (lane : List Entry) → next ≤ n → AreRising next lane → lane_from n lane ≡ 0
none-from next n [] less rising = refl
none-from next n (e ∷ lane) less rising =
    let below : nat_le n e.number ≡ false = not-from n e.number (let here = rising.0 in omega arith) in
    let rest = none-from next n lane less rising.2 in
    sum_by-cons (λ (x : Entry). cond (nat_le n x.number) 1 0) e lane ∙ rw (below, rest) refl
  where
    not-from : (m k : ℕ) → k < m → nat_le m k ≡ false
    not-from m k below = go (nat_le m k) refl
      where
        go : (b : Bool) → nat_le m k ≡ b → nat_le m k ≡ false
        go true is = absurd (let over = leb-true m k is in omega arith)
        go false is = is

sum-none : {A : Type 0} (f : A → ℕ) (xs : List A) → ((k : ℕ) (x : A) → slice_get xs k ≡ Some x → f x ≡ 0) → sum_by f xs ≡ 0
sum-none f [] all = refl
sum-none f (x ∷ xs) all =
    let here = all 0 x refl in
    let rest = sum-none f xs (λ k y at. all (suc k) y at) in
    sum_by-cons f x xs ∙ rw (here, rest) refl

-- A lane of a queue replaced by one that carries no more than it may, has no more entries from any number on, and whose
-- posted entries stood in the old one.
pub queue-lane : (depth : ℕ) (q q' : Queue) (target : ℕ) (lane lane' : List Entry) → IsSoundQueue depth q → slice_get q.lanes target ≡ Some lane
    → q'.lanes ≡ slice_set q.lanes target lane' → q'.open_count ≡ q.open_count → carried_count lane' ≤ depth → ((n : ℕ) → lane_from n lane' ≤ lane_from n lane)
    → ((place : ℕ) (e : Entry) → slice_get lane' place ≡ Some e → is_posted e ≡ true → (k : ℕ) × (slice_get lane k ≡ Some e))
    → failures q'.broken + lane_failed lane ≡ failures q.broken + lane_failed lane' → IsSoundQueue depth q'
queue-lane depth q q' target lane lane' sound at lanes count carried fewer old marks = record {
  carried = λ t l here. carried-of t l (slice_get-set q.lanes target t lane' l (rw lanes at here));
  from_posted = λ t l here place e there posted.
      let less = fewer e.number in
      let sum : sum_by (lane_from e.number) (slice_set q.lanes target lane') + lane_from e.number lane ≡ sum_by (lane_from e.number) q.lanes + lane_from e.number lane' =
      sum_by-changed (lane_from e.number) q.lanes target lane lane' at in
      let before = posted-of t l place e (slice_get-set q.lanes target t lane' l (rw lanes at here)) there posted in
      let total : queue_from e.number q' ≡ sum_by (lane_from e.number) (slice_set q.lanes target lane') = rw lanes refl in
      omega arith;
  opened = (let few = sound.opened in omega arith);
  failed =
      (let sum : sum_by lane_failed (slice_set q.lanes target lane') + lane_failed lane ≡ sum_by lane_failed q.lanes + lane_failed lane' = sum_by-changed lane_failed q.lanes target lane lane' at in
      let total : queue_failed q' ≡ sum_by lane_failed (slice_set q.lanes target lane') = rw lanes refl in
      let before = sound.failed in
      omega arith);
}
  where
    carried-of : (t : ℕ) (l : List Entry) → ((t ≡ target) × (l ≡ lane')) ⊎ (slice_get q.lanes t ≡ Some l) → carried_count l ≤ depth
    carried-of t l (inl here) = rw here.1 carried
    carried-of t l (inr there) = sound.carried t l there

    posted-of : (t : ℕ) (l : List Entry) (place : ℕ) (e : Entry) → ((t ≡ target) × (l ≡ lane')) ⊎ (slice_get q.lanes t ≡ Some l) → slice_get l place ≡ Some e → is_posted e ≡ true
        → queue_from e.number q ≤ q.open_count
    posted-of t l place e (inl here) there posted =
        let was = old place e (subst (λ (x : List Entry). slice_get x place ≡ Some e) here.1 there) posted in
        sound.from_posted target lane at was.0 e was.1 posted
    posted-of t l place e (inr is) there posted = sound.from_posted t l is place e there posted

-- an entry in a phase that is not the posted one
pub queue-phase : (depth : ℕ) (q q' : Queue) (target : ℕ) (lane : List Entry) (place : ℕ) (e : Entry) (phase : Phase) → IsSoundQueue depth q → slice_get q.lanes target ≡ Some lane
    → slice_get lane place ≡ Some e → q'.lanes ≡ slice_set q.lanes target (with_phase lane place e phase) → q'.open_count ≡ q.open_count
    → is_posted_phase phase ≡ false → carried_count (with_phase lane place e phase) ≤ depth
    → failures q'.broken + cond (is_failed e) 1 0 ≡ failures q.broken + cond (is_failed_phase phase) 1 0 → IsSoundQueue depth q'
queue-phase depth q q' target lane place e phase sound at here lanes count apart carried marks =
    queue-lane depth q q' target lane (with_phase lane place e phase) sound at lanes count carried
    (λ n. let same = from-phase n lane place e phase here in omega arith)
    (λ k x there posted. old k x posted (slice_get-set lane place k (record e { phase = phase }) x there))
    (let set = count-set is_failed lane place e (record e { phase = phase }) here in omega arith)
  where
    old : (k : ℕ) (x : Entry) → is_posted x ≡ true → ((k ≡ place) × (x ≡ record e { phase = phase })) ⊎ (slice_get lane k ≡ Some x) → (j : ℕ) × (slice_get lane j ≡ Some x)
    old k x posted (inl is) = absurd (let is_phase : x.phase ≡ phase = ap (λ (y : Entry). y.phase) is.1 in let none : is_posted_phase phase ≡ true = subst (λ (p : Phase). is_posted_phase p ≡ true) is_phase posted in let no : ⊥ = cc in no)
    old k x posted (inr there) = (k, there)

-- one more of a lane carried, where fewer than that many are
pub carried-more : (depth : ℕ) (lane : List Entry) (place : ℕ) (e : Entry) (phase : Phase) → slice_get lane place ≡ Some e → nat_lt (carried_count lane) depth ≡ true
    → carried_count (with_phase lane place e phase) ≤ depth
carried-more depth lane place e phase at less =
    let fewer = ltb-true (carried_count lane) depth less in
    let set = count-set is_carried lane place e (record e { phase = phase }) at in
    let one = one-or-none (is_carried_phase phase) in
    omega arith

-- no more of a lane carried
pub carried-failed : (depth : ℕ) (lane : List Entry) (place : ℕ) (e : Entry) → slice_get lane place ≡ Some e → carried_count lane ≤ depth
    → carried_count (with_phase lane place e phases.Failed) ≤ depth
carried-failed depth lane place e at few =
    let set = count-set is_carried lane place e (record e { phase = phases.Failed }) at in
    omega arith

-- an entry gone
pub queue-remove : (depth : ℕ) (q q' : Queue) (target : ℕ) (lane : List Entry) (place : ℕ) (e : Entry) → IsSoundQueue depth q → slice_get q.lanes target ≡ Some lane
    → slice_get lane place ≡ Some e → q'.lanes ≡ slice_set q.lanes target (remove lane place) → q'.open_count ≡ q.open_count → q'.broken ≡ q.broken → is_failed e ≡ false
    → IsSoundQueue depth q'
queue-remove depth q q' target lane place e sound at here lanes count marks whole =
    queue-lane depth q q' target lane (remove lane place) sound at lanes count
    (let less = count-remove is_carried lane place e here in let few = sound.carried target lane at in omega arith)
    (λ n. from-remove n lane place e here)
    (λ k x there posted. remove-part lane place k x there)
    (let less : lane_failed (remove lane place) + cond (is_failed e) 1 0 ≡ lane_failed lane = count-remove is_failed lane place e here in
    let none = one-if-not (is_failed e) whole in
    let same = ap failures marks in
    omega arith)

-- a wait that was done: no entry of the queue is posted, among others
pub queue-waited : (depth : ℕ) (q : Queue) → IsSoundQueue depth q → list_any has_awaited q.lanes ≡ false → IsSoundQueue depth (record q { open_count = 0 })
queue-waited depth q sound none = record {
  carried = sound.carried;
  from_posted = λ t l here place e there posted. absurd (any-lane q.lanes t l place e here there posted none);
  opened = omega arith;
  failed = sound.failed;
}
  where
    any-entry : (lane : List Entry) (place : ℕ) (e : Entry) → slice_get lane place ≡ Some e → is_posted e ≡ true → has_awaited lane ≡ false → ⊥
    any-entry [] place e at posted none = cc
    any-entry (x ∷ lane) zero e at posted none = let same : x ≡ e = cc in let yes : is_awaited x ≡ true = rw (same, posted) refl in let out = rw yes at none in cc
    any-entry (x ∷ lane) (suc place) e at posted none = any-entry lane place e at posted (second (is_awaited x) (list_any is_awaited lane) none)
      where
        second : (a b : Bool) → (a || b) ≡ false → b ≡ false
        second true b h = absurd (let no : ⊥ = cc in no)
        second false b h = h

    any-lane : (lanes : List (List Entry)) (t : ℕ) (l : List Entry) (place : ℕ) (e : Entry) → slice_get lanes t ≡ Some l → slice_get l place ≡ Some e → is_posted e ≡ true
        → list_any has_awaited lanes ≡ false → ⊥
    any-lane [] t l place e here there posted none = cc
    any-lane (x ∷ lanes) zero l place e here there posted none =
        let same : x ≡ l = cc in
        any-entry l place e there posted (rw (sym same) (first (has_awaited x) (list_any has_awaited lanes) none))
      where
        first : (a b : Bool) → (a || b) ≡ false → a ≡ false
        first true b h = absurd (let no : ⊥ = cc in no)
        first false b h = refl
    any-lane (x ∷ lanes) (suc t) l place e here there posted none = any-lane lanes t l place e here there posted (second (has_awaited x) (list_any has_awaited lanes) none)
      where
        second : (a b : Bool) → (a || b) ≡ false → b ≡ false
        second true b h = absurd (let no : ⊥ = cc in no)
        second false b h = h

-- no lane of an emptied queue has an entry
pub emptied-lane : (lanes : List (List Entry)) (target : ℕ) (lane : List Entry) → slice_get (map without_entries lanes) target ≡ Some lane → lane ≡ []
emptied-lane lanes target lane there = (map-at without_entries lanes target lane there).2

-- so nothing is summed up over its entries
pub sum-emptied : (f : List Entry → ℕ) (lanes : List (List Entry)) → f [] ≡ 0 → sum_by f (map without_entries lanes) ≡ 0
sum-emptied f lanes nothing = sum-none f (map without_entries lanes) (λ k x at. ap f (emptied-lane lanes k x at) ∙ nothing)

-- a purge that was done: no entry is left
pub queue-purged : (depth : ℕ) (q : Queue) → IsSoundQueue depth (emptied q)
queue-purged depth q = record {
  carried = λ t l here. (let none = ap carried_count (emptied-lane q.lanes t l here) in omega arith);
  from_posted = λ t l here place e there posted.
      absurd (let none : ◌≡◌ {A = Option Entry} None (Some e) = subst (λ (x : List Entry). slice_get x place ≡ Some e) (emptied-lane q.lanes t l here) there in let no : ⊥ = cc in no);
  opened = omega arith;
  failed = sum-emptied lane_failed q.lanes refl;
}

-- a post: its entries are the newest, and open as many more
pub queue-posted : (depth next : ℕ) (q : Queue) (target : ℕ) (kinds : List Kind) → IsSoundQueue depth q
    → ((t : ℕ) (lane : List Entry) → slice_get q.lanes t ≡ Some lane → AreRising next lane) → q.open_count + length kinds ≤ depth
    → IsSoundQueue depth (with_entries target (posted_entries next kinds) q)
queue-posted depth next q target kinds sound rising fits = go (slice_get q.lanes target) refl
  where
    entries : List Entry
    entries = posted_entries next kinds

    some : (lane : List Entry) → slice_get q.lanes target ≡ Some lane → (q' : Queue) → q'.lanes ≡ slice_set q.lanes target (lane ++ posted_entries next kinds)
        → q'.open_count ≡ q.open_count + length (posted_entries next kinds) → q'.broken ≡ q.broken → IsSoundQueue depth q'
    some lane at q' lanes count marks = record {
      carried = λ t l here. carried-of t l (slice_get-set q.lanes target t (lane ++ posted_entries next kinds) l (rw lanes at here));
      from_posted = λ t l here place e there posted.
          let most = grows e.number in
          from-of t l place e (slice_get-set q.lanes target t (lane ++ posted_entries next kinds) l (rw lanes at here)) there posted;
      opened = (let more = posted-length next kinds in omega arith);
      failed =
          (let sum : sum_by lane_failed (slice_set q.lanes target (lane ++ posted_entries next kinds)) + lane_failed lane ≡ sum_by lane_failed q.lanes + lane_failed (lane ++ posted_entries next kinds) =
          sum_by-changed lane_failed q.lanes target lane (lane ++ posted_entries next kinds) at in
          let both : lane_failed (lane ++ posted_entries next kinds) ≡ lane_failed lane + lane_failed (posted_entries next kinds) = count-append is_failed lane (posted_entries next kinds) in
          let none = none-failed next kinds in
          let total : queue_failed q' ≡ sum_by lane_failed (slice_set q.lanes target (lane ++ posted_entries next kinds)) = rw lanes refl in
          let before = sound.failed in
          let same = ap failures marks in
          omega arith);
    }
      where
        carried-of : (t : ℕ) (l : List Entry) → ((t ≡ target) × (l ≡ lane ++ posted_entries next kinds)) ⊎ (slice_get q.lanes t ≡ Some l) → carried_count l ≤ depth
        carried-of t l (inl here) =
            let sum = count-append is_carried lane (posted_entries next kinds) in
            let none = none-carried next kinds in
            let few = sound.carried target lane at in
            rw here.1 (omega arith)
        carried-of t l (inr there) = sound.carried t l there

        grows : (n : ℕ) → queue_from n q' ≤ queue_from n q + length kinds
        grows n =
            let sum = sum_by-changed (lane_from n) q.lanes target lane (lane ++ posted_entries next kinds) at in
            let both = count-append (λ (x : Entry). nat_le n x.number) lane (posted_entries next kinds) in
            let most = count_by-le-length (λ (x : Entry). nat_le n x.number) (posted_entries next kinds) in
            let more = posted-length next kinds in
            let total : queue_from n q' ≡ sum_by (lane_from n) (slice_set q.lanes target (lane ++ posted_entries next kinds)) = rw lanes refl in
            omega arith

        in-lane : (e : Entry) → is_posted e ≡ true → ((j : ℕ) × (slice_get lane j ≡ Some e)) ⊎ ((j : ℕ) × (slice_get (posted_entries next kinds) j ≡ Some e))
            → queue_from e.number q' ≤ q'.open_count
        in-lane e posted (inl old) =
            let before = sound.from_posted target lane at old.0 e old.1 posted in
            let most = grows e.number in
            let more = posted-length next kinds in
            omega arith
        in-lane e posted (inr new) =
            let from = posted-from next kinds new.0 e new.1 in
            let none = sum-none (lane_from e.number) q.lanes (λ k l here. none-from next e.number l from (rising k l here)) in
            let most = grows e.number in
            let more = posted-length next kinds in
            omega arith

        from-of : (t : ℕ) (l : List Entry) (place : ℕ) (e : Entry) → ((t ≡ target) × (l ≡ lane ++ posted_entries next kinds)) ⊎ (slice_get q.lanes t ≡ Some l)
            → slice_get l place ≡ Some e → is_posted e ≡ true → queue_from e.number q' ≤ q'.open_count
        from-of t l place e (inl here) there posted =
            in-lane e posted (append-parts lane (posted_entries next kinds) place e (subst (λ (x : List Entry). slice_get x place ≡ Some e) here.1 there))
        from-of t l place e (inr is) there posted =
            let before = sound.from_posted t l is place e there posted in
            let most = grows e.number in
            let more = posted-length next kinds in
            omega arith

    go : (o : Option (List Entry)) → slice_get q.lanes target ≡ o → IsSoundQueue depth (with_entries target (posted_entries next kinds) q)
    go (Some lane) at = some lane at (with_entries target (posted_entries next kinds) q) (rw at refl) refl refl
    go None at =
        let same : (with_entries target (posted_entries next kinds) q).lanes ≡ q.lanes = rw at refl in
        let more = posted-length next kinds in
        record {
          carried = λ t l here. sound.carried t l (rw same at here);
          from_posted = λ t l here place e there posted.
              let before = sound.from_posted t l (rw same at here) place e there posted in
              let total : queue_from e.number (with_entries target (posted_entries next kinds) q) ≡ queue_from e.number q = rw same refl in
              omega arith;
          opened = omega arith;
          failed = rw same sound.failed;
        }
