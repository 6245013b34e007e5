-- The lanes of the ring: writes into segment 0, and behind each a notification.
use Rattle.std.proofs.Common.{◌≡◌, ℕ, zero, suc, ◌+◌, ◌<◌, ◌≤◌, Bool, true, false, ◌&&◌, ◌||◌, not, nat_lt, cond, List, [], ◌∷◌, ◌++◌, Some, ◌⊎◌, inl, inr, refl, sym, subst, arith, remove}
use Rattle.std.specs.List.{slice_get, count_by}
use Rattle.std.proofs.lemmas.Bool.{lt-ltb}
use Rattle.gaspi_types.specs.Kinds.{is_write_kind, is_notify_kind}
use Rattle.gaspi_types.specs.Lanes.{is_write, is_notify, has_earlier_write, may_put_kind}
use Rattle.gaspi_types.specs.declared.entries.Entry.{Entry}
use Rattle.gaspi_types.specs.declared.entries.Kind.{Kind}
use Rattle.gaspi_types.specs.declared.entries.Kind.TheVariants.{Write, Read, Notify, ReadNote}
use Rattle.gaspi_types.specs.declared.entries.Phase.{Phase}
use Rattle.gaspi_model.specs.Sound.{AreAbove, AreRising}
use Rattle.gaspi_model.proofs.FoundEntries.{with_phase}
use Rattle.gaspi_model.proofs.Sound.OpenCounts.{count-set, count-remove, count-append, one-if, one-if-not}
use Rattle.rank_script.specs.Bench.{right_of}
use Rattle.call_journal.proofs.Counts.{count-cons}

-- a write, or a notification, of segment 0 in its first generation
abbrev pub IsRingKind : Kind → Type 0
IsRingKind (Write own target) = (target.segment ≡ 0) × (target.generation ≡ 0)
IsRingKind (Read own target) = ⊥
IsRingKind (Notify target value) = (target.segment ≡ 0) × (target.generation ≡ 0)
IsRingKind (ReadNote own) = ⊥

abbrev pub AreRingKinds : List Entry → Type 0
AreRingKinds [] = Unit {0}
AreRingKinds (e ∷ lane) = IsRingKind e.kind × AreRingKinds lane

abbrev pub lane_notes : List Entry → ℕ
lane_notes lane = count_by is_notify lane

-- behind each entry that is no notification stands one
abbrev pub IsClosed : List Entry → Type 0
IsClosed [] = Unit {0}
IsClosed (e ∷ lane) = ((is_notify e ≡ true) ⊎ (1 ≤ lane_notes lane)) × IsClosed lane

-- a lane of a rank to a target: that to another than its right neighbour is empty
pub record IsRingLane (ranks me target : ℕ) (lane : List Entry) : Type 0 where
  pub apart : (target ≡ right_of ranks me → ⊥) → lane ≡ []
  pub kinds : AreRingKinds lane
  pub closed : IsClosed lane

pub notes-cons : (e : Entry) (lane : List Entry) → lane_notes (e ∷ lane) ≡ cond (is_notify e) 1 0 + lane_notes lane
notes-cons e lane = count-cons is_notify e lane

pub closed-empty : (lane : List Entry) → IsClosed lane → lane_notes lane ≡ 0 → lane ≡ []
closed-empty [] closed none = refl
closed-empty (e ∷ lane) closed none = go closed.0
  where
    go : (is_notify e ≡ true) ⊎ (1 ≤ lane_notes lane) → e ∷ lane ≡ []
    go (inl so) = absurd (let cons = notes-cons e lane in let one = one-if (is_notify e) so in let no : ⊥ = omega (arith, one, cons, none) in no)
    go (inr some) = absurd (let cons = notes-cons e lane in let no : ⊥ = omega arith in no)

pub kind-at : (lane : List Entry) (place : ℕ) (e : Entry) → AreRingKinds lane → slice_get lane place ≡ Some e → IsRingKind e.kind
kind-at [] place e kinds at = absurd (let no : ⊥ = cc in no)
kind-at (x ∷ lane) zero e kinds at = (let same : x ≡ e = cc in subst (λ (y : Entry). IsRingKind y.kind) same kinds.0)
kind-at (x ∷ lane) (suc place) e kinds at = kind-at lane place e kinds.1 at

-- an entry in another phase

pub kinds-phase : (lane : List Entry) (place : ℕ) (e : Entry) (phase : Phase) → slice_get lane place ≡ Some e → AreRingKinds lane → AreRingKinds (with_phase lane place e phase)
kinds-phase [] place e phase at kinds = absurd (let no : ⊥ = cc in no)
kinds-phase (x ∷ lane) zero e phase at kinds = (kind-at (x ∷ lane) zero e kinds at, kinds.1)
kinds-phase (x ∷ lane) (suc place) e phase at kinds = (kinds.0, kinds-phase lane place e phase at kinds.1)

pub notes-phase : (lane : List Entry) (place : ℕ) (e : Entry) (phase : Phase) → slice_get lane place ≡ Some e → lane_notes (with_phase lane place e phase) ≡ lane_notes lane
notes-phase lane place e phase at =
    let set : lane_notes (with_phase lane place e phase) + cond (is_notify e) 1 0 ≡ lane_notes lane + cond (is_notify e) 1 0 = count-set is_notify lane place e (record e { phase = phase }) at in
    omega arith

pub closed-phase : (lane : List Entry) (place : ℕ) (e : Entry) (phase : Phase) → slice_get lane place ≡ Some e → IsClosed lane → IsClosed (with_phase lane place e phase)
closed-phase [] place e phase at closed = absurd (let no : ⊥ = cc in no)
closed-phase (x ∷ lane) zero e phase at closed =
    let same : x ≡ e = cc in
    (subst (λ (y : Entry). (is_notify y ≡ true) ⊎ (1 ≤ lane_notes lane)) same closed.0, closed.1)
closed-phase (x ∷ lane) (suc place) e phase at closed =
    let same = notes-phase lane place e phase at in
    (subst (λ (n : ℕ). (is_notify x ≡ true) ⊎ (1 ≤ n)) (sym same) closed.0, closed-phase lane place e phase at closed.1)

-- an entry taken out

pub kinds-remove : (lane : List Entry) (place : ℕ) → AreRingKinds lane → AreRingKinds (remove lane place)
kinds-remove [] zero kinds = tt
kinds-remove [] (suc place) kinds = tt
kinds-remove (x ∷ lane) zero kinds = kinds.1
kinds-remove (x ∷ lane) (suc place) kinds = (kinds.0, kinds-remove lane place kinds.1)

pub notes-remove : (lane : List Entry) (place : ℕ) (e : Entry) → slice_get lane place ≡ Some e → lane_notes (remove lane place) + cond (is_notify e) 1 0 ≡ lane_notes lane
notes-remove lane place e at = count-remove is_notify lane place e at

above-at : (n : ℕ) (lane : List Entry) (place : ℕ) (e : Entry) → AreAbove n lane → slice_get lane place ≡ Some e → n < e.number
above-at n [] place e above at = absurd (let no : ⊥ = cc in no)
above-at n (x ∷ lane) zero e above at = (let same : x ≡ e = cc in subst (λ (y : Entry). n < y.number) same above.0)
above-at n (x ∷ lane) (suc place) e above at = above-at n lane place e above.1 at

either-false : (a b : Bool) → (a || b) ≡ false → (a ≡ false) × (b ≡ false)
either-false true b h = absurd (let no : ⊥ = cc in no)
either-false false b h = (refl, h)

earlier-cons : (x : Entry) (lane : List Entry) (n : ℕ) → has_earlier_write (x ∷ lane) n ≡ false → ((is_write x && nat_lt x.number n) ≡ false) × (has_earlier_write lane n ≡ false)
earlier-cons x lane n h = either-false (is_write x && nat_lt x.number n) (has_earlier_write lane n) h

ring-notify : (kind : Kind) (b : Bool) → IsRingKind kind → b ≡ true → (is_write_kind kind && b) ≡ false → is_notify_kind kind ≡ true
ring-notify (Write own target) b ring so none = absurd (let no : ⊥ = cc in no)
ring-notify (Read own target) b ring so none = absurd ring
ring-notify (Notify target value) b ring so none = refl
ring-notify (ReadNote own) b ring so none = absurd ring

pub closed-remove : (next : ℕ) (lane : List Entry) (place : ℕ) (e : Entry) → slice_get lane place ≡ Some e → AreRingKinds lane → AreRising next lane → IsClosed lane
    → (is_notify e ≡ true → has_earlier_write lane e.number ≡ false) → IsClosed (remove lane place)
closed-remove next [] place e at kinds rising closed first = absurd (let no : ⊥ = cc in no)
closed-remove next (x ∷ lane) zero e at kinds rising closed first = closed.1
closed-remove next (x ∷ lane) (suc place) e at kinds rising closed first =
    (go closed.0, closed-remove next lane place e at kinds.1 rising.2 closed.1 (λ so. (earlier-cons x lane e.number (first so)).1))
  where
    by : (b : Bool) → is_notify e ≡ b → 1 ≤ lane_notes lane → (is_notify x ≡ true) ⊎ (1 ≤ lane_notes (remove lane place))
    by true so some =
        let less = lt-ltb x.number e.number (above-at x.number lane place e rising.1 at) in
        inl (ring-notify x.kind (nat_lt x.number e.number) kinds.0 less (earlier-cons x lane e.number (first so)).0)
    by false absent some =
        let gone = notes-remove lane place e at in
        let none = one-if-not (is_notify e) absent in
        inr (omega (arith, none, gone, some))

    go : (is_notify x ≡ true) ⊎ (1 ≤ lane_notes lane) → (is_notify x ≡ true) ⊎ (1 ≤ lane_notes (remove lane place))
    go (inl so) = inl so
    go (inr some) = by (is_notify e) refl some

-- a notification that may be put has no write before it
pub put-first : (lane : List Entry) (number : ℕ) (kind : Kind) → is_notify_kind kind ≡ true → may_put_kind lane number kind ≡ true → has_earlier_write lane number ≡ false
put-first lane number (Write own target) so may = absurd (let no : ⊥ = cc in no)
put-first lane number (Read own target) so may = absurd (let no : ⊥ = cc in no)
put-first lane number (Notify target value) so may = go (has_earlier_write lane number) may
  where
    go : (b : Bool) → not b ≡ true → b ≡ false
    go true h = absurd (let no : ⊥ = cc in no)
    go false h = refl
put-first lane number (ReadNote own) so may = absurd (let no : ⊥ = cc in no)

-- a write and a notification appended

pub kinds-append : (a b : List Entry) → AreRingKinds a → AreRingKinds b → AreRingKinds (a ++ b)
kinds-append [] b kinds more = more
kinds-append (x ∷ a) b kinds more = (kinds.0, kinds-append a b kinds.1 more)

pub closed-append : (a b : List Entry) → IsClosed a → IsClosed b → IsClosed (a ++ b)
closed-append [] b closed more = more
closed-append (x ∷ a) b closed more = (go closed.0, closed-append a b closed.1 more)
  where
    go : (is_notify x ≡ true) ⊎ (1 ≤ lane_notes a) → (is_notify x ≡ true) ⊎ (1 ≤ lane_notes (a ++ b))
    go (inl so) = inl so
    go (inr some) = (let sum = count-append is_notify a b in inr (omega arith))

pub notes-append : (a b : List Entry) → lane_notes (a ++ b) ≡ lane_notes a + lane_notes b
notes-append a b = count-append is_notify a b
