-- Sums over the entries of a queue, and the tally that keeps them.
use Rattle.std.proofs.Common.{◌≡◌, ℕ, zero, suc, ◌+◌, ◌-◌, ◌<◌, ◌≤◌, Bool, true, false, not, ◌||◌, ◌==◌, List, [], ◌∷◌, length, replicate, get_or, Option, None, Some, refl, sym, ◌∙◌, ap, subst, arith, zero-add}
use Rattle.std.specs.List.{All, slice_get, slice_set, sum_by, list_any}
use Rattle.std.proofs.lemmas.Bool.{eq-eqb, eqb-true}
use Rattle.std.proofs.lemmas.List.{get_or-set_same, get_or-set_other}
use Rattle.std.proofs.lemmas.List.Sums.{sum_by-cons, sum_by-le, get_or-le-sum_by}
use Rattle.std.proofs.lemmas.Option.{slice_get_within, get_or_from_slice_get}
use Rattle.gaspi_types.specs.Kinds.{is_read_kind, is_read_note_kind}
use Rattle.gaspi_types.specs.Lanes.{is_posted, is_awaited, uses, is_user, phase_owed, entry_owed, is_posted_phase}
use Rattle.gaspi_types.specs.Tables.{changed_at}
use Rattle.gaspi_types.specs.declared.entries.Entry.{Entry}
use Rattle.gaspi_types.specs.declared.entries.Kind.{Kind}
use Rattle.gaspi_types.specs.declared.entries.Kind.TheVariants.{Write, Read, Notify, ReadNote}
use Rattle.gaspi_types.specs.declared.entries.Phase.{Phase}
use Rattle.gaspi_types.specs.declared.entries.Phase.TheVariants.{Posted, Carried, Failed}
use Rattle.gaspi_types.proofs.Items.{sum_by-changed, changed_at-found, length-changed_at, same-or-not, there-within}
use Rattle.post_queue.specs.Kinds as kinds
use Rattle.post_queue.specs.Kinds.{one_if, progress_of, used_segment, is_awaited_entry, events_owed}
use Rattle.post_queue.specs.QueueCounts.{counted, total, with_entry, without_entry, with_user, without_user, AreQueueCounts}
use Rattle.post_queue.specs.declared.queue_counts.QueueCounts.{QueueCounts}

-- a number of an entry, or nothing
abbrev pub weigh : (Entry → ℕ) → Option Entry → ℕ
weigh f None = 0
weigh f (Some e) = f e

-- What depends on kinds and phases, in both spellings.

owed-same : (phase : Phase) → phase_owed phase ≡ events_owed (progress_of phase)
owed-same Posted = refl
owed-same (Carried bytes) = refl
owed-same Failed = refl

abbrev pub names : ℕ → Option ℕ → Bool
names segment None = false
names segment (Some s) = s == segment

user-same : (segment : ℕ) (kind : Kind) (phase : Phase) → uses segment phase kind ≡ names segment (used_segment kind (progress_of phase))
user-same segment (Write own target) Posted = refl
user-same segment (Write own target) (Carried bytes) = refl
user-same segment (Write own target) Failed = refl
user-same segment (Read own target) Posted = refl
user-same segment (Read own target) (Carried bytes) = refl
user-same segment (Read own target) Failed = refl
user-same segment (Notify target value) phase = refl
user-same segment (ReadNote own) Posted = refl
user-same segment (ReadNote own) (Carried bytes) = refl
user-same segment (ReadNote own) Failed = refl

pub awaited-same : (e : Entry) → is_awaited_entry e ≡ is_awaited e
awaited-same e = go e.kind e.phase
  where
    go : (kind : Kind) (phase : Phase) → kinds.is_awaited kind (progress_of phase) ≡ (is_posted_phase phase || is_read_kind kind || is_read_note_kind kind)
    go (Write own target) Posted = refl
    go (Write own target) (Carried bytes) = refl
    go (Write own target) Failed = refl
    go (Read own target) Posted = refl
    go (Read own target) (Carried bytes) = refl
    go (Read own target) Failed = refl
    go (Notify target value) Posted = refl
    go (Notify target value) (Carried bytes) = refl
    go (Notify target value) Failed = refl
    go (ReadNote own) Posted = refl
    go (ReadNote own) (Carried bytes) = refl
    go (ReadNote own) Failed = refl

-- what is posted is awaited
pub posted-awaited : (e : Entry) → counted is_posted e ≤ counted is_awaited e
posted-awaited e = go (is_posted e) refl
  where
    go : (b : Bool) → is_posted e ≡ b → counted is_posted e ≤ counted is_awaited e
    go true is = rw is (omega arith)
    go false is = rw is (omega arith)

-- The counts of segments.

at-other : (users : List ℕ) (s segment : ℕ) (change : ℕ → ℕ) → (s ≡ segment → ⊥) → get_or (changed_at users s change) segment 0 ≡ get_or users segment 0
at-other users s segment change apart = go (slice_get users s) refl
  where
    go : (o : Option ℕ) → slice_get users s ≡ o → get_or (changed_at users s change) segment 0 ≡ get_or users segment 0
    go None at = rw at refl
    go (Some n) at = rw at (get_or-set_other users s segment (change n) 0 (λ e. apart (sym e)))

at-same : (users : List ℕ) (s : ℕ) (change : ℕ → ℕ) → s < length users → get_or (changed_at users s change) s 0 ≡ change (get_or users s 0)
at-same users s change less =
    let there = there-within users s less in
    let read = get_or_from_slice_get users s there.0 0 there.1 in
    rw (changed_at-found users s there.0 change there.1, get_or-set_same users s (change there.0) 0 less) (sym (ap change read))

raise-user : (u : Option ℕ) (users : List ℕ) (segment : ℕ) → segment < length users → get_or (with_user u users) segment 0 ≡ get_or users segment 0 + one_if (names segment u)
raise-user None users segment less = omega arith
raise-user (Some s) users segment less = same-or-not s segment
    (λ same. let yes : (s == segment) ≡ true = eq-eqb s segment same in rw (same, eq-eqb segment segment refl) (at-same users segment (λ (n : ℕ). n + 1) less))
    (λ apart. rw (not-same s segment apart, at-other users s segment (λ (n : ℕ). n + 1) apart) (omega arith))
  where
    not-same : (a b : ℕ) → (a ≡ b → ⊥) → (a == b) ≡ false
    not-same a b apart = go (a == b) refl
      where
        go : (t : Bool) → (a == b) ≡ t → t ≡ false
        go true is = absurd (apart (eqb-true a b is))
        go false is = refl

lower-user : (u : Option ℕ) (users : List ℕ) (segment : ℕ) → segment < length users → get_or (without_user u users) segment 0 ≡ get_or users segment 0 - one_if (names segment u)
lower-user None users segment less = omega arith
lower-user (Some s) users segment less = same-or-not s segment
    (λ same. rw (same, eq-eqb segment segment refl) (at-same users segment (λ (n : ℕ). n - 1) less))
    (λ apart. rw (not-same s segment apart, at-other users s segment (λ (n : ℕ). n - 1) apart) (omega arith))
  where
    not-same : (a b : ℕ) → (a ≡ b → ⊥) → (a == b) ≡ false
    not-same a b apart = go (a == b) refl
      where
        go : (t : Bool) → (a == b) ≡ t → t ≡ false
        go true is = absurd (apart (eqb-true a b is))
        go false is = refl

raised-length : (u : Option ℕ) (users : List ℕ) → length (with_user u users) ≡ length users
raised-length None users = refl
raised-length (Some s) users = length-changed_at users s (λ (n : ℕ). n + 1)

lowered-length : (u : Option ℕ) (users : List ℕ) → length (without_user u users) ≡ length users
lowered-length None users = refl
lowered-length (Some s) users = length-changed_at users s (λ (n : ℕ). n - 1)

-- A tally with one entry more, or one less.

user-count : (segment : ℕ) (e : Entry) → counted (is_user segment) e ≡ one_if (names segment (used_segment e.kind (progress_of e.phase)))
user-count segment e = ap one_if (user-same segment e.kind e.phase)

pub raised-is : (t : QueueCounts) (F G : (Entry → ℕ) → ℕ) (e : Entry) → AreQueueCounts t F → ((f : Entry → ℕ) → G f ≡ F f + f e) → AreQueueCounts (with_entry t e.kind (progress_of e.phase)) G
raised-is t F G e is more = record {
  awaited = (let here = more (counted is_awaited_entry) in let was = is.awaited in omega arith);
  owed = (let here = more entry_owed in let was = is.owed in let same = owed-same e.phase in omega arith);
  size = raised-length (used_segment e.kind (progress_of e.phase)) t.users ∙ is.size;
  users = λ segment less.
      let here = more (counted (is_user segment)) in
      let was = is.users segment less in
      let count = user-count segment e in
      let size = is.size in
      let within : segment < length t.users = omega arith in
      let step = raise-user (used_segment e.kind (progress_of e.phase)) t.users segment within in
      omega arith;
}

pub lowered-is : (t : QueueCounts) (F G : (Entry → ℕ) → ℕ) (e : Entry) → AreQueueCounts t F → ((f : Entry → ℕ) → G f + f e ≡ F f) → AreQueueCounts (without_entry t e.kind (progress_of e.phase)) G
lowered-is t F G e is less = record {
  awaited = (let here = less (counted is_awaited_entry) in let was = is.awaited in omega arith);
  owed = (let here = less entry_owed in let was = is.owed in let same = owed-same e.phase in omega arith);
  size = lowered-length (used_segment e.kind (progress_of e.phase)) t.users ∙ is.size;
  users = λ segment below.
      let here = less (counted (is_user segment)) in
      let was = is.users segment below in
      let count = user-count segment e in
      let size = is.size in
      let within : segment < length t.users = omega arith in
      let step = lower-user (used_segment e.kind (progress_of e.phase)) t.users segment within in
      omega arith;
}

-- one entry less, and one more
abbrev pub stepped : QueueCounts → Option Entry → Option Entry → QueueCounts
stepped t before after = lower_by (raise_by t after) before
  where
    raise_by : QueueCounts → Option Entry → QueueCounts
    raise_by t None = t
    raise_by t (Some e) = with_entry t e.kind (progress_of e.phase)

    lower_by : QueueCounts → Option Entry → QueueCounts
    lower_by t None = t
    lower_by t (Some e) = without_entry t e.kind (progress_of e.phase)

same-sums : (t : QueueCounts) (F G : (Entry → ℕ) → ℕ) → AreQueueCounts t F → ((f : Entry → ℕ) → G f ≡ F f) → AreQueueCounts t G
same-sums t F G is same = record {
  awaited = is.awaited ∙ sym (same (counted is_awaited_entry));
  owed = is.owed ∙ sym (same entry_owed);
  size = is.size;
  users = λ segment less. is.users segment less ∙ sym (same (counted (is_user segment)));
}

pub stepped-is : (t : QueueCounts) (F G : (Entry → ℕ) → ℕ) (before after : Option Entry) → AreQueueCounts t F → ((f : Entry → ℕ) → G f + weigh f before ≡ F f + weigh f after) → AreQueueCounts (stepped t before after) G
stepped-is t F G None None is step = same-sums t F G is (λ f. let here = step f in omega arith)
stepped-is t F G None (Some a) is step = raised-is t F G a is (λ f. let here = step f in omega arith)
stepped-is t F G (Some b) None is step = lowered-is t F G b is (λ f. let here = step f in omega arith)
stepped-is t F G (Some b) (Some a) is step =
    lowered-is (with_entry t a.kind (progress_of a.phase)) (λ f. F f + f a) G b (raised-is t F (λ f. F f + f a) a is (λ f. refl)) step

-- Sums over lanes.

pub total-set : (f : Entry → ℕ) (lanes : List (List Entry)) (target : ℕ) (x y : List Entry) → slice_get lanes target ≡ Some x
    → total f (slice_set lanes target y) + sum_by f x ≡ total f lanes + sum_by f y
total-set f lanes target x y at = sum_by-changed (λ (lane : List Entry). sum_by f lane) lanes target x y at

pub lane-le : (f : Entry → ℕ) (lanes : List (List Entry)) (target : ℕ) (x : List Entry) → slice_get lanes target ≡ Some x → sum_by f x ≤ total f lanes
lane-le f lanes target x at =
    subst (λ (lane : List Entry). sum_by f lane ≤ total f lanes) (get_or_from_slice_get lanes target x x at)
    (get_or-le-sum_by (λ (lane : List Entry). sum_by f lane) lanes target x (slice_get_within lanes target x at))

pub total-bound : (f : Entry → ℕ) (lanes : List (List Entry)) → ((e : Entry) → f e ≤ 2) → length lanes ≤ 16 → All (λ (lane : List Entry). length lane ≤ 512) lanes → total f lanes ≤ 16384
total-bound f lanes small few short =
    let all = sum_by-le (λ (lane : List Entry). sum_by f lane) 1024 lanes
    (λ k d less.
    let lane = get_or lanes k d in
    let one = sum_by-le f 2 lane (λ i e within. small (get_or lane i e)) in
    let long : length lane ≤ 512 = short k d less in
    omega arith) in
    omega arith

pub total-none : (f : Entry → ℕ) (n : ℕ) → total f (replicate n []) ≡ 0
total-none f zero = refl
total-none f (suc n) =
    let rest = total-none f n in
    let step = sum_by-cons (λ (lane : List Entry). sum_by f lane) [] (replicate n []) in
    let empty : sum_by f [] ≡ 0 = refl in
    step ∙ omega arith

-- A test passes somewhere where its count is not 0.

above-zero : (n : ℕ) → (n == 0) ≡ false → 0 < n
above-zero zero is = absurd (let no : ⊥ = cc in no)
above-zero (suc n) is = omega arith

positive : (n : ℕ) → 0 < n → not (n == 0) ≡ true
positive n less = go (n == 0) refl
  where
    go : (t : Bool) → (n == 0) ≡ t → not (n == 0) ≡ true
    go true is = let none = eqb-true n 0 is in absurd (omega arith)
    go false is = rw is refl

either-counts : (a b : ℕ) → (not (a == 0) || not (b == 0)) ≡ not ((a + b) == 0)
either-counts a b = go (a == 0) refl
  where
    go : (t : Bool) → (a == 0) ≡ t → (not (a == 0) || not (b == 0)) ≡ not ((a + b) == 0)
    go true is = let none : a ≡ 0 = eqb-true a 0 is in rw (none, zero-add) refl
    go false is = let some = above-zero a is in rw is (sym (positive (a + b) (omega arith)))

any-count : {A : Type 0} (p : A → Bool) (f : A → ℕ) → ((x : A) → p x ≡ not (f x == 0)) → (xs : List A) → list_any p xs ≡ not (sum_by f xs == 0)
any-count p f same [] = refl
any-count p f same (x ∷ xs) =
    let rest = any-count p f same xs in
    let step = sum_by-cons f x xs in
    rw (step, same x, rest) (either-counts (f x) (sum_by f xs))

pub any-total : (p : Entry → Bool) (lanes : List (List Entry)) → list_any (λ (lane : List Entry). list_any p lane) lanes ≡ not (total (counted p) lanes == 0)
any-total p lanes =
    any-count (λ (lane : List Entry). list_any p lane) (λ (lane : List Entry). sum_by (counted p) lane)
    (λ lane. any-count p (counted p) (λ e. one (p e)) lane) lanes
  where
    one : (t : Bool) → t ≡ not (one_if t == 0)
    one true = refl
    one false = refl

pub total-le : (f g : Entry → ℕ) → ((e : Entry) → f e ≤ g e) → (lanes : List (List Entry)) → total f lanes ≤ total g lanes
total-le f g less lanes = sums lanes
  where
    sum : (xs : List Entry) → sum_by f xs ≤ sum_by g xs
    sum [] = omega arith
    sum (x ∷ xs) =
        let rest = sum xs in
        let a = sum_by-cons f x xs in
        let b = sum_by-cons g x xs in
        let here = less x in
        omega arith

    sums : (xs : List (List Entry)) → total f xs ≤ total g xs
    sums [] = omega arith
    sums (x ∷ xs) =
        let rest = sums xs in
        let a = sum_by-cons (λ (lane : List Entry). sum_by f lane) x xs in
        let b = sum_by-cons (λ (lane : List Entry). sum_by g lane) x xs in
        let here = sum x in
        omega arith

pub total-same : (f g : Entry → ℕ) → ((e : Entry) → f e ≡ g e) → (lanes : List (List Entry)) → total f lanes ≡ total g lanes
total-same f g same lanes = sums lanes
  where
    sum : (xs : List Entry) → sum_by f xs ≡ sum_by g xs
    sum [] = refl
    sum (x ∷ xs) =
        let rest = sum xs in
        let a = sum_by-cons f x xs in
        let b = sum_by-cons g x xs in
        let here = same x in
        omega arith

    sums : (lanes : List (List Entry)) → total f lanes ≡ total g lanes
    sums [] = refl
    sums (x ∷ lanes) =
        let rest = sums lanes in
        let a = sum_by-cons (λ (lane : List Entry). sum_by f lane) x lanes in
        let b = sum_by-cons (λ (lane : List Entry). sum_by g lane) x lanes in
        let here = sum x in
        omega arith

pub small-weight : (p : Entry → Bool) (e : Entry) → counted p e ≤ 2
small-weight p e = go (p e)
  where
    go : (t : Bool) → one_if t ≤ 2
    go true = omega arith
    go false = omega arith

pub small-owed : (e : Entry) → entry_owed e ≤ 2
small-owed e = go e.phase
  where
    go : (phase : Phase) → phase_owed phase ≤ 2
    go Posted = omega arith
    go (Carried bytes) = omega arith
    go Failed = omega arith
