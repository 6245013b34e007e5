-- Two lists, of which the first has no posted entry and the second has nothing else, as one lane.
use Rattle.std.proofs.Common.{◌≡◌, ℕ, ◌*◌, ◌<◌, ◌≤◌, Bool, true, false, cond, List, [], ◌∷◌, ◌++◌, length, drop, Option, None, Some, IsSome, refl, sym, ◌∙◌, ap, subst, arith, length-append, length-drop}
use Rattle.std.specs.List.{All, slice_get, slice_set, count_by, position_or_len}
use Rattle.std.specs.Borrow.{Bor, MutBor}
use Rattle.std.specs.Option.{IfSome, IsSomeAnd, option_copied, option_copied_mut}
use Rattle.std.proofs.lemmas.List.Sums.{sum_by-cons, sum_by-append}
use Rattle.std.proofs.lemmas.List.Elements.{All-push, All-drop, All-head, All-tail, All-cons, All-nil}
use Rattle.std.proofs.lemmas.Option.{slice_get_past}
use Rattle.gaspi_types.specs.Lanes.{is_posted_phase, is_carried_phase, is_failed_phase, is_posted, is_carried, is_failed, carried_count}
use Rattle.gaspi_types.specs.declared.entries.Entry.{Entry}
use Rattle.gaspi_types.specs.declared.entries.Phase.{Phase}
use Rattle.gaspi_types.specs.declared.entries.Phase.TheVariants.{Posted, Carried, Failed}
use Rattle.gaspi_types.proofs.Items.{changed_at-found, behind-of-joined}
use Rattle.circular_buffer.specs.Buffer.{Buffer, buffer}
use Rattle.post_queue.specs.Kinds.{one_if}
use Rattle.post_queue.specs.LaneStates.{LaneValue, lane_of, AreRings}
use Rattle.post_queue.specs.Places.{posted_position, first_posted, first_carried, with_phase}

abbrev pub Taken : List Entry → Type 0
Taken a = All (λ (e : Entry). is_posted e ≡ false) a

abbrev pub Waiting : List Entry → Type 0
Waiting b = All (λ (e : Entry). is_posted e ≡ true) b

abbrev pub AllCarried : List Entry → Type 0
AllCarried a = All (λ (e : Entry). is_carried e ≡ true) a

-- Counts.

pub count-none : (p : Entry → Bool) (xs : List Entry) → All (λ (e : Entry). p e ≡ false) xs → count_by p xs ≡ 0
count-none p [] h = refl
count-none p (x ∷ xs) h =
    let rest = count-none p xs (All-tail (λ (e : Entry). p e ≡ false) x xs h) in
    let here : one_if (p x) ≡ 0 = rw (All-head (λ (e : Entry). p e ≡ false) x xs h) refl in
    let step = sum_by-cons (λ (e : Entry). cond (p e) 1 0) x xs in
    omega arith

pub count-all : (p : Entry → Bool) (xs : List Entry) → All (λ (e : Entry). p e ≡ true) xs → count_by p xs ≡ length xs
count-all p [] h = refl
count-all p (x ∷ xs) h =
    let rest = count-all p xs (All-tail (λ (e : Entry). p e ≡ true) x xs h) in
    let here : one_if (p x) ≡ 1 = rw (All-head (λ (e : Entry). p e ≡ true) x xs h) refl in
    let step = sum_by-cons (λ (e : Entry). cond (p e) 1 0) x xs in
    omega arith

pub none-counted : (p : Entry → Bool) (xs : List Entry) → count_by p xs ≡ 0 → All (λ (e : Entry). p e ≡ false) xs
none-counted p [] h = All-nil (λ (e : Entry). p e ≡ false)
none-counted p (x ∷ xs) h =
    let step = sum_by-cons (λ (e : Entry). cond (p e) 1 0) x xs in
    let rest : count_by p xs ≡ 0 = omega arith in
    let here : one_if (p x) ≡ 0 = omega arith in
    All-cons (λ (e : Entry). p e ≡ false) x xs (fails (p x) here) (none-counted p xs rest)
  where
    fails : (t : Bool) → one_if t ≡ 0 → t ≡ false
    fails true is = absurd (omega arith)
    fails false is = refl

pub count-posted : (a b : List Entry) → Taken a → Waiting b → count_by is_posted (a ++ b) ≡ length b
count-posted a b taken waiting =
    let none = count-none is_posted a taken in
    let all = count-all is_posted b waiting in
    let both = sum_by-append (λ (e : Entry). cond (is_posted e) 1 0) a b in
    omega arith

-- Places.

pub place-seam : (p : Entry → Bool) (a b : List Entry) → All (λ (e : Entry). p e ≡ false) a → All (λ (e : Entry). p e ≡ true) b → position_or_len p (a ++ b) ≡ length a
place-seam p [] [] none all = refl
place-seam p [] (e ∷ b) none all = rw (All-head (λ (e : Entry). p e ≡ true) e b all) refl
place-seam p (x ∷ a) b none all =
    let rest = place-seam p a b (All-tail (λ (e : Entry). p e ≡ false) x a none) all in
    rw (All-head (λ (e : Entry). p e ≡ false) x a none) (omega arith)

pub first-posted : (a b : List Entry) → Taken a → Waiting b → first_posted (a ++ b) ≡ slice_get b 0
first-posted a b taken waiting = rw (place-seam is_posted a b taken waiting) (behind-of-joined a b 0 (length a) (omega arith))

-- where none failed, what was taken is carried
pub carried-all : (a b : List Entry) → Taken a → count_by is_failed (a ++ b) ≡ 0 → AllCarried a
carried-all a b taken whole =
    let both = sum_by-append (λ (e : Entry). cond (is_failed e) 1 0) a b in
    go a taken (none-counted is_failed a (omega arith))
  where
    phase : (ph : Phase) → is_posted_phase ph ≡ false → is_failed_phase ph ≡ false → is_carried_phase ph ≡ true
    phase Posted not-posted not-failed = absurd (let no : ⊥ = cc in no)
    phase (Carried bytes) not-posted not-failed = refl
    phase Failed not-posted not-failed = absurd (let no : ⊥ = cc in no)

    go : (a : List Entry) → Taken a → All (λ (e : Entry). is_failed e ≡ false) a → AllCarried a
    go a taken whole k d less = phase _ (taken k d less) (whole k d less)

waiting-apart : (b : List Entry) → Waiting b → All (λ (e : Entry). is_carried e ≡ false) b
waiting-apart b waiting k d less = phase _ (waiting k d less)
  where
    phase : (ph : Phase) → is_posted_phase ph ≡ true → is_carried_phase ph ≡ false
    phase Posted posted = refl
    phase (Carried bytes) posted = absurd (let no : ⊥ = cc in no)
    phase Failed posted = absurd (let no : ⊥ = cc in no)

pub count-carried : (a b : List Entry) → Taken a → Waiting b → count_by is_failed (a ++ b) ≡ 0 → carried_count (a ++ b) ≡ length a
count-carried a b taken waiting whole =
    let all = count-all is_carried a (carried-all a b taken whole) in
    let none = count-none is_carried b (waiting-apart b waiting) in
    let both = sum_by-append (λ (e : Entry). cond (is_carried e) 1 0) a b in
    omega arith

place-none : (p : Entry → Bool) (b : List Entry) → All (λ (e : Entry). p e ≡ false) b → position_or_len p b ≡ length b
place-none p [] none = refl
place-none p (x ∷ b) none =
    let rest = place-none p b (All-tail (λ (e : Entry). p e ≡ false) x b none) in
    rw (All-head (λ (e : Entry). p e ≡ false) x b none) (omega arith)

pub first-carried : (a b : List Entry) → Taken a → Waiting b → count_by is_failed (a ++ b) ≡ 0 → first_carried (a ++ b) ≡ slice_get a 0
first-carried a b taken waiting whole = go a b (carried-all a b taken whole) (waiting-apart b waiting)
  where
    go : (a b : List Entry) → AllCarried a → All (λ (e : Entry). is_carried e ≡ false) b → first_carried (a ++ b) ≡ slice_get a 0
    go [] b all none = rw (place-none is_carried b none) (slice_get_past b (length b) (omega arith))
    go (x ∷ a) b all none = rw (All-head (λ (e : Entry). is_carried e ≡ true) x a all) refl

pub head-carried : (a b : List Entry) → IsSome (slice_get a 0) → slice_get (a ++ b) 0 ≡ slice_get a 0
head-carried [] b there = absurd (let no : ⊥ = cc in no)
head-carried (x ∷ a) b there = refl

-- Changes.

set-seam : (a b : List Entry) (e y : Entry) → slice_set (a ++ e ∷ b) (length a) y ≡ (a ++ y ∷ []) ++ b
set-seam [] b e y = refl
set-seam (x ∷ a) b e y = rw (ap (λ (rest : List Entry). x ∷ rest) (set-seam a b e y)) refl

abbrev pub in_phase : Entry → Phase → Entry
in_phase e phase = record { number = e.number; kind = e.kind; phase = phase }

-- the first posted entry in another phase
pub phase-seam : (a b : List Entry) (e : Entry) (phase : Phase) → Taken a → Waiting b → slice_get b 0 ≡ Some e
    → with_phase (a ++ b) (posted_position (a ++ b)) phase ≡ (a ++ in_phase e phase ∷ []) ++ drop 1 b
phase-seam a [] e phase taken waiting at = absurd (let no : ⊥ = cc in no)
phase-seam a (x ∷ b) e phase taken waiting at =
    let same : x ≡ e = cc in
    let there : slice_get (a ++ x ∷ b) (length a) ≡ Some x = behind-of-joined a (x ∷ b) 0 (length a) (omega arith) in
    rw (← same) (rw (place-seam is_posted a (x ∷ b) taken waiting)
    (changed_at-found (a ++ x ∷ b) (length a) x (λ (e : Entry). in_phase e phase) there ∙ set-seam a b x (in_phase x phase)))

-- the head in another phase
pub phase-head : (a b : List Entry) (e : Entry) (phase : Phase) → slice_get a 0 ≡ Some e → with_phase (a ++ b) 0 phase ≡ slice_set a 0 (in_phase e phase) ++ b
phase-head [] b e phase at = absurd (let no : ⊥ = cc in no)
phase-head (x ∷ a) b e phase at = let same : x ≡ e = cc in rw (← same) refl

-- a lane without its head
pub drop-head : (a b : List Entry) (e : Entry) → slice_get a 0 ≡ Some e → drop 1 (a ++ b) ≡ drop 1 a ++ b
drop-head [] b e at = absurd (let no : ⊥ = cc in no)
drop-head (x ∷ a) b e at = refl

-- Two rings as a lane.

abbrev pub lane_state : ℕ → List Entry → LaneValue
lane_state depth entries = record { depth = depth; entries = entries }

pub first-waits : {A B : Buffer Entry} {s : LaneValue} → AreRings A B → lane_of A B ≡ s → first_posted s.entries ≡ slice_get B.items 0
first-waits inv is = rw (← ap (λ (s : LaneValue). s.entries) is) (first-posted _ _ inv.taken inv.waiting)

pub count-waits : {A B : Buffer Entry} {s : LaneValue} → AreRings A B → lane_of A B ≡ s → count_by is_posted s.entries ≡ length B.items
count-waits inv is = rw (← ap (λ (s : LaneValue). s.entries) is) (count-posted _ _ inv.taken inv.waiting)

pub first-taken : {A B : Buffer Entry} {s : LaneValue} → AreRings A B → lane_of A B ≡ s → count_by is_failed s.entries ≡ 0 → first_carried s.entries ≡ slice_get A.items 0
first-taken inv is whole =
    let entries = ap (λ (s : LaneValue). s.entries) is in
    rw (← entries) (first-carried _ _ inv.taken inv.waiting (rw entries whole))

pub count-taken : {A B : Buffer Entry} {s : LaneValue} → AreRings A B → lane_of A B ≡ s → count_by is_failed s.entries ≡ 0 → carried_count s.entries ≡ length A.items
count-taken inv is whole =
    let entries = ap (λ (s : LaneValue). s.entries) is in
    rw (← entries) (count-carried _ _ inv.taken inv.waiting (rw entries whole))

pub head-taken : (A B : Buffer Entry) {s : LaneValue} → lane_of A B ≡ s → IsSome (slice_get A.items 0) → slice_get s.entries 0 ≡ slice_get A.items 0
head-taken A B is there = rw (← ap (λ (s : LaneValue). s.entries) is) (head-carried A.items B.items there)

-- the front of the posted ring goes, in another phase, to the back of the other one
pub rings-moved : {A B : Buffer Entry} (y : Entry) → AreRings A B → length A.items < A.capacity → is_posted y ≡ false
    → AreRings (buffer (A.items ++ y ∷ []) A.capacity) (buffer (drop 1 B.items) B.capacity)
rings-moved {A} {B} y inv room apart = record {
  same = inv.same;
  carried_fit = (let long = length-append A.items (y ∷ []) in omega arith);
  posted_fit = (let short = length-drop 1 B.items in let fit = inv.posted_fit in omega arith);
  taken = All-push (λ (e : Entry). is_posted e ≡ false) A.items y inv.taken apart;
  waiting = All-drop (λ (e : Entry). is_posted e ≡ true) 1 B.items inv.waiting;
}

pub lane-moved : {A B : Buffer Entry} {s : LaneValue} (w y : Entry) (phase : Phase) → AreRings A B → lane_of A B ≡ s → slice_get B.items 0 ≡ Some w → y ≡ in_phase w phase
    → lane_of (buffer (A.items ++ y ∷ []) A.capacity) (buffer (drop 1 B.items) B.capacity) ≡ record { depth = s.depth; entries = with_phase s.entries (posted_position s.entries) phase }
lane-moved {A} {B} w y phase inv is at new =
    rw new (rw (← is) (ap (λ (es : List Entry). lane_state A.capacity es) (sym (phase-seam A.items B.items w phase inv.taken inv.waiting at))))

-- the front of the carried ring goes
pub rings-removed : {A B : Buffer Entry} → AreRings A B → AreRings (buffer (drop 1 A.items) A.capacity) B
rings-removed {A} {B} inv = record {
  same = inv.same;
  carried_fit = (let short = length-drop 1 A.items in let fit = inv.carried_fit in omega arith);
  posted_fit = inv.posted_fit;
  taken = All-drop (λ (e : Entry). is_posted e ≡ false) 1 A.items inv.taken;
  waiting = inv.waiting;
}

-- the front of the carried ring in another phase
pub lane-failed : (A B : Buffer Entry) {s : LaneValue} (w y : Entry) (phase : Phase) → lane_of A B ≡ s → slice_get A.items 0 ≡ Some w → y ≡ in_phase w phase
    → lane_of (buffer (slice_set A.items 0 y) A.capacity) B ≡ record { depth = s.depth; entries = with_phase s.entries 0 phase }
lane-failed A B w y phase is at new =
    rw new (rw (← is) (ap (λ (es : List Entry). lane_state A.capacity es) (sym (phase-head A.items B.items w phase at))))

-- an entry comes to the back of the posted ring
pub rings-posted : {A B : Buffer Entry} (y : Entry) → AreRings A B → length B.items < B.capacity → is_posted y ≡ true
    → AreRings A (buffer (B.items ++ y ∷ []) B.capacity)
rings-posted {A} {B} y inv room posted = record {
  same = inv.same;
  carried_fit = inv.carried_fit;
  posted_fit = (let long = length-append B.items (y ∷ []) in omega arith);
  taken = inv.taken;
  waiting = All-push (λ (e : Entry). is_posted e ≡ true) B.items y inv.waiting posted;
}

-- both together hold twice as many
pub rings-bound : {A B : Buffer Entry} → AreRings A B → length (A.items ++ B.items) ≤ 2 * A.capacity
rings-bound {A} {B} inv =
    let long = length-append A.items B.items in
    let same = inv.same in
    let left = inv.carried_fit in
    let right = inv.posted_fit in
    omega arith

-- What is there.

pub some-from : (P : Entry → Type 0) (o : Option Entry) → IsSomeAnd o P → IsSome o
some-from P (Some x) h = refl
some-from P None h = absurd h

pub at-some : (P : Entry → Type 0) (o : Option Entry) (x : Entry) → o ≡ Some x → IsSomeAnd o P → P x
at-some P o x is h = let at = subst (λ (o : Option Entry). IsSomeAnd o P) is h in at

pub if-some : (P : Entry → Type 0) (o : Option Entry) (x : Entry) → o ≡ Some x → P x → IfSome o P
if-some P o x is h = subst (λ (o : Option Entry). IfSome o P) (sym is) h

pub lent-some : (o : Option (MutBor Entry)) → IsSome (option_copied_mut o) → IsSome o
lent-some (Some x) h = refl
lent-some None h = h

pub lent-at : (o : Option (MutBor Entry)) (r : MutBor Entry) (x : Option Entry) → o ≡ Some r → option_copied_mut o ≡ x → x ≡ Some r.now
lent-at o r x is at = sym at ∙ ap option_copied_mut is

pub head-lent : (A B : Buffer Entry) {s : LaneValue} (o : Option (Bor Entry)) → lane_of A B ≡ s → option_copied o ≡ slice_get A.items 0 → IfSome o (λ (e : Bor Entry). slice_get s.entries 0 ≡ Some e.now)
head-lent A B None is at = tt
head-lent A B (Some e) is at = head-taken A B is (rw (← at) refl) ∙ sym at
