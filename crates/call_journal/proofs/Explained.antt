-- The writes of a lane at the put of a notification are those for which it stands.
use Rattle.std.proofs.Common.{◌≡◌, ℕ, zero, suc, ◌+◌, ◌<◌, ◌≤◌, arith, Bool, true, false, nat_lt, List, [], ◌∷◌, ◌++◌, length, take, drop, Option, None, Some, refl, sym, ap, ◌∙◌, subst, if◌then◌else◌}
use Rattle.std.specs.List.{slice_get, list_any}
use Rattle.std.proofs.lemmas.Bool.{lt-ltb, ltb-true}
use Rattle.gaspi_types.proofs.Items.{behind-of-joined, rest-of-dropped, flat_map-parts}
use Rattle.gaspi_types.specs.World.{ShapeValue, IsShape}
use Rattle.gaspi_types.specs.declared.events.Event.{Event}
use Rattle.gaspi_types.specs.declared.events.Event.TheVariants.{Called, Joined, Take, Put}
use Rattle.gaspi_types.specs.declared.events.Outcome.TheVariants.{Applied, Failed}
use Rattle.gaspi_model.specs.Order.{IsNotificationInLane, is_purge_of}
use Rattle.gaspi_model.specs.Shards.{entry_after}
use Rattle.gaspi_model.specs.Step.{is_legal}
use Rattle.gaspi_model.proofs.Made.{step-put, entry-found}
use Rattle.gaspi_model.proofs.Ordered.Notifications.{order}
use Rattle.call_journal.specs.Explanations.{IsNotificationPut, IsCovered, IsExplained}
use Rattle.call_journal.specs.LaneWrites.{arrived, arrived_one, arrived_with, put_at, put_of}
use Rattle.call_journal.specs.Tracked.{IsPutAt, HasPut, IsListed, IsTracked, Rise}
use Rattle.call_journal.specs.declared.answers.CoveredWrite.{CoveredWrite}
use Rattle.call_journal.specs.declared.lane_writes.EntryPut.{EntryPut}
use Rattle.call_journal.specs.declared.lane_writes.LaneWrite.{LaneWrite}
use Rattle.call_journal.proofs.Places.{parted, step-at, taken-from}

-- where a write comes from that arrived
record IsArrived (number : ℕ) (writes : List LaneWrite) (y : CoveredWrite) : Type 0 where
  place : ℕ
  x : LaneWrite
  there : slice_get writes place ≡ Some x
  smaller : x.number < number
  put : x.put ≡ Some y.put
  post_is : y.post ≡ x.post
  number_is : y.number ≡ x.number

one-from : (number : ℕ) (writes : List LaneWrite) (place : ℕ) (x : LaneWrite) (k : ℕ) (y : CoveredWrite) → slice_get writes place ≡ Some x → slice_get (arrived_one number x) k ≡ Some y → IsArrived number writes y
one-from number writes place x k y there h = go (nat_lt x.number number) refl
  where
    with-put : x.number < number → (o : Option ℕ) → x.put ≡ o → (k : ℕ) → slice_get (arrived_with x o) k ≡ Some y → IsArrived number writes y
    with-put less None is k at = absurd (let no : ⊥ = cc in no)
    with-put less (Some put) is zero at =
        let same : record { post = x.post; number = x.number; put = put } ≡ y = cc in
        record {
          place = place;
          x = x;
          there = there;
          smaller = less;
          put = is ∙ ap (λ (z : CoveredWrite). Some z.put) same;
          post_is = ap (λ (z : CoveredWrite). z.post) (sym same);
          number_is = ap (λ (z : CoveredWrite). z.number) (sym same);
        }
    with-put less (Some put) is (suc k) at = absurd (let no : ⊥ = cc in no)

    go : (b : Bool) → nat_lt x.number number ≡ b → IsArrived number writes y
    go true is = with-put (ltb-true x.number number is) x.put refl k (rw is at h)
    go false is = absurd (let none : slice_get {X = CoveredWrite} [] k ≡ Some y = rw is at h in let no : ⊥ = cc in no)

arrived-from : (number : ℕ) (writes : List LaneWrite) (k : ℕ) (y : CoveredWrite) → slice_get (arrived number writes) k ≡ Some y → IsArrived number writes y
arrived-from number writes k y h =
    let parts = flat_map-parts (arrived_one number) writes k y h in
    one-from number writes parts.0 parts.1 parts.2 y parts.3 parts.4

-- a write that is put stands there
arrived-at : (number : ℕ) (writes : List LaneWrite) (j : ℕ) (x : LaneWrite) (put : ℕ) → slice_get writes j ≡ Some x → x.number < number → x.put ≡ Some put
    → (k : ℕ) × (slice_get (arrived number writes) k ≡ Some (record { post = x.post; number = x.number; put = put }))
arrived-at number [] j x put at less is = absurd (let no : ⊥ = cc in no)
arrived-at number (w ∷ writes) zero x put at less is =
    let same : w ≡ x = cc in
    (0, rw (same, lt-ltb x.number number less, is) refl)
arrived-at number (w ∷ writes) (suc j) x put at less is =
    let rest = arrived-at number writes j x put at less is in
    (length (arrived_one number w) + rest.0, behind-of-joined (arrived_one number w) (arrived number writes) rest.0 (length (arrived_one number w) + rest.0) refl ∙ rest.1)

-- the numbers of what arrived rise
abbrev RiseFrom : ℕ → List CoveredWrite → Type 0
RiseFrom low [] = Unit {0}
RiseFrom low (y ∷ ys) = (low ≤ y.number) × RiseFrom (y.number + 1) ys

rise-less : (low low' : ℕ) (ys : List CoveredWrite) → low ≤ low' → RiseFrom low' ys → RiseFrom low ys
rise-less low low' [] less rise = tt
rise-less low low' (y ∷ ys) less rise = ((let here = rise.0 in omega arith), rise.1)

arrived-rise : (number low : ℕ) (writes : List LaneWrite) (high : ℕ) → Rise low writes high → RiseFrom low (arrived number writes)
arrived-rise number low [] high rise = tt
arrived-rise number low (x ∷ writes) high rise = go (nat_lt x.number number) x.put (arrived-rise number (x.number + 1) writes high rise.1)
  where
    go : (b : Bool) (o : Option ℕ) → RiseFrom (x.number + 1) (arrived number writes) → RiseFrom low ((if b then arrived_with x o else []) ++ arrived number writes)
    go true (Some put) rest = (rise.0, rest)
    go true None rest = rise-less low (x.number + 1) (arrived number writes) (let here = rise.0 in omega arith) rest
    go false o rest = rise-less low (x.number + 1) (arrived number writes) (let here = rise.0 in omega arith) rest

rise-above : (low : ℕ) (ys : List CoveredWrite) (k : ℕ) (y : CoveredWrite) → RiseFrom low ys → slice_get ys k ≡ Some y → low ≤ y.number
rise-above low [] k y rise at = absurd (let no : ⊥ = cc in no)
rise-above low (x ∷ ys) zero y rise at = let same : x ≡ y = cc in subst (λ (z : CoveredWrite). low ≤ z.number) same rise.0
rise-above low (x ∷ ys) (suc k) y rise at = let rest = rise-above (x.number + 1) ys k y rise.1 at in let here = rise.0 in omega arith

rise-apart : (low : ℕ) (ys : List CoveredWrite) (j k : ℕ) (x y : CoveredWrite) → RiseFrom low ys → j < k → slice_get ys j ≡ Some x → slice_get ys k ≡ Some y → x.number < y.number
rise-apart low [] j k x y rise less hx hy = absurd (let no : ⊥ = cc in no)
rise-apart low (z ∷ ys) zero zero x y rise less hx hy = absurd (let no : ⊥ = omega arith in no)
rise-apart low (z ∷ ys) zero (suc k) x y rise less hx hy =
    let same : z ≡ x = cc in
    let above = rise-above (z.number + 1) ys k y rise.1 hy in
    subst (λ (v : CoveredWrite). v.number < y.number) same (omega arith)
rise-apart low (z ∷ ys) (suc j) zero x y rise less hx hy = absurd (let no : ⊥ = omega arith in no)
rise-apart low (z ∷ ys) (suc j) (suc k) x y rise less hx hy = rise-apart (z.number + 1) ys j k x y rise.1 (omega arith) hx hy

-- a part of a list, between two places
take-parts : {A : Type 0} (a b : ℕ) (xs : List A) → a ≤ b → take a xs ++ drop a (take b xs) ≡ take b xs
take-parts zero b xs less = refl
take-parts (suc a) zero xs less = absurd (let no : ⊥ = omega arith in no)
take-parts (suc a) (suc b) [] less = refl
take-parts {A} (suc a) (suc b) (x ∷ xs) less = ap (λ (ys : List A). x ∷ ys) (take-parts a b xs (omega arith))

between : {A : Type 0} (a b : ℕ) (xs : List A) (k : ℕ) (x : A) → slice_get (drop a (take b xs)) k ≡ Some x → (a + k < b) × (slice_get xs (a + k) ≡ Some x)
between a b xs k x at = taken-from b xs (a + k) x (sym (rest-of-dropped a (take b xs) k (a + k) refl) ∙ at)

none-any : {A : Type 0} (p : A → Bool) (xs : List A) → ((k : ℕ) (x : A) → slice_get xs k ≡ Some x → p x ≡ false) → list_any p xs ≡ false
none-any p [] none = refl
none-any p (x ∷ xs) none = rw (none 0 x refl) (none-any p xs (λ k y at. none (suc k) y at))

module _ (w : ShapeValue) (world : IsShape w) (journal : List Event) (legal : is_legal w journal ≡ true) (place : ℕ) (at : EntryPut) (there : IsPutAt journal at at.number place) (next : ℕ) (notified : Bool) (writes : List LaneWrite) (tracked : IsTracked w journal place at next notified writes) where
  -- an entry stands there that is put, and it is a notification where it was posted as one
  pub note-stands : notified ≡ true → IsNotificationPut w journal place at.origin at.queue at.target at.number
  note-stands is =
      let here = step-at w journal place _ legal there in
      let made = step-put here.s here.t at.origin at.queue at.target at.number Applied here.step_is in
      let f = made.4 in
      let entry = entry-found made.0 at.queue at.target at.number made.3 f.is.is in
      let stands : entry_after here.s at.origin at.queue at.target at.number ≡ Some made.3.entry = rw f.posts_there entry in
      record {
        there = there;
        stands = record { state = here.s; entry = made.3.entry; leads = here.before; stands = stands; kind = tracked.note here.s made.3.entry here.before stands ∙ is };
      }

  pub no-note : notified ≡ false → (origin queue target number : ℕ) → IsNotificationPut w journal place origin queue target number → ⊥
  no-note is origin queue target number put =
      let same : ◌≡◌ {A = Option Event} (Some (Put at.origin at.queue at.target at.number Applied)) (Some (Put origin queue target number Applied)) = sym there ∙ put.there in
      let origin_is : origin ≡ at.origin = cc in
      let queue_is : queue ≡ at.queue = cc in
      let target_is : target ≡ at.target = cc in
      let number_is : number ≡ at.number = cc in
      let stands : entry_after put.stands.state at.origin at.queue at.target at.number ≡ Some put.stands.entry =
      subst (λ (n : ℕ). entry_after put.stands.state at.origin at.queue at.target n ≡ Some put.stands.entry) number_is
      (subst (λ (t : ℕ). entry_after put.stands.state at.origin at.queue t number ≡ Some put.stands.entry) target_is
      (subst (λ (q : ℕ). entry_after put.stands.state at.origin q target number ≡ Some put.stands.entry) queue_is
      (subst (λ (o : ℕ). entry_after put.stands.state o queue target number ≡ Some put.stands.entry) origin_is put.stands.stands))) in
      let both : false ≡ true = sym is ∙ sym (tracked.note put.stands.state put.stands.entry put.stands.leads stands) ∙ put.stands.kind in
      let no : ⊥ = cc in no

  -- each earlier write of the lane is put
  put-there : IsNotificationInLane w (take place journal) at.origin at.queue at.target at.number → (x : LaneWrite) → IsListed w journal place at x → x.number < at.number → (put : ℕ) × (x.put ≡ Some put) × (put < place) × IsPutAt journal at x.number put
  put-there note x listed less = go x.put refl listed.put
    where
      none : HasPut journal place at x.post x.number None → ⊥
      none never =
          let earlier = take (x.post + 1) journal in
          let later = drop (x.post + 1) (take place journal) in
          let put-event : Event = Put at.origin at.queue at.target at.number Applied in
          let inside : earlier ++ later ≡ take place journal = take-parts (x.post + 1) place journal (let e = listed.earlier in omega arith) in
          let whole : journal ≡ earlier ++ later ++ put-event ∷ drop (place + 1) journal =
          parted journal place put-event there ∙ ap (λ (events : List Event). events ++ put-event ∷ drop (place + 1) journal) (sym inside) in
          let unpurged : list_any (is_purge_of at.origin at.queue) later ≡ false =
          none-any (is_purge_of at.origin at.queue) later (λ k y h. let b = between (x.post + 1) place journal k y h in listed.unpurged (x.post + 1 + k) y (omega arith) b.0 b.1) in
          let found = order w earlier later (drop (place + 1) journal) at.origin at.queue at.target x.number at.number
          (subst (λ (events : List Event). is_legal w events ≡ true) whole legal) listed.posted.after
          (subst (λ (events : List Event). IsNotificationInLane w events at.origin at.queue at.target at.number) (sym inside) note) less unpurged in
          let b = between (x.post + 1) place journal found.0 (Put at.origin at.queue at.target x.number Applied) found.1 in
          never (x.post + 1 + found.0) (omega arith) b.0 b.1

      go : (o : Option ℕ) → x.put ≡ o → HasPut journal place at x.post x.number o → (put : ℕ) × (x.put ≡ Some put) × (put < place) × IsPutAt journal at x.number put
      go (Some put) is has = (put, is, has.0, has.1)
      go None is has = absurd (none has)

  pub explained : notified ≡ true → Rise 0 writes next → IsExplained w journal place (arrived at.number writes)
  explained is rise =
      let note = note-stands is in
      record {
        origin = at.origin;
        queue = at.queue;
        target = at.target;
        number = at.number;
        note = note;
        rising = λ j k x y less hx hy. rise-apart 0 (arrived at.number writes) j k x y (arrived-rise at.number 0 writes next rise) less hx hy;
        covered = λ k y h.
            let from = arrived-from at.number writes k y h in
            let listed = tracked.listed from.place from.x from.there in
            subst (λ (p : ℕ). IsCovered w journal place at.origin at.queue at.target at.number p y.number) (sym from.post_is)
            (subst (λ (n : ℕ). IsCovered w journal place at.origin at.queue at.target at.number from.x.post n) (sym from.number_is)
            (record { smaller = from.smaller; earlier = listed.earlier; posted = listed.posted; unpurged = listed.unpurged }));
        arrived = λ k y h. (put-of note.stands k y h).0;
        put = λ k y h. (put-of note.stands k y h).1;
        all = λ post m c.
            let old = tracked.all post m c.earlier c.posted c.unpurged in
            let listed = tracked.listed old.0 old.1 old.2 in
            let less : old.1.number < at.number = subst (λ (n : ℕ). n < at.number) (sym old.4) c.smaller in
            let put = put-there note.stands old.1 listed less in
            let new = arrived-at at.number writes old.0 old.1 put.0 old.2 less put.1 in
            (new.0, record { post = old.1.post; number = old.1.number; put = put.0 }, new.1, old.3, old.4);
      }
    where
      put-of : IsNotificationInLane w (take place journal) at.origin at.queue at.target at.number → (k : ℕ) (y : CoveredWrite) → slice_get (arrived at.number writes) k ≡ Some y
          → (y.put < place) × (slice_get journal y.put ≡ Some (Put at.origin at.queue at.target y.number Applied))
      put-of note k y h =
          let from = arrived-from at.number writes k y h in
          let listed = tracked.listed from.place from.x from.there in
          let put = put-there note from.x listed from.smaller in
          let same : put.0 ≡ y.put = (let some : ◌≡◌ {A = Option ℕ} (Some put.0) (Some y.put) = sym put.1 ∙ from.put in cc) in (
            subst (λ (p : ℕ). p < place) same put.2,
            subst (λ (p : ℕ). slice_get journal p ≡ Some (Put at.origin at.queue at.target y.number Applied)) same
                (subst (λ (n : ℕ). slice_get journal put.0 ≡ Some (Put at.origin at.queue at.target n Applied)) (sym from.number_is) put.3),
          )

-- the put that stands at a place of a journal
pub put-there-is : (journal : List Event) (place : ℕ) (at : EntryPut) → put_at journal place ≡ Some at → IsPutAt journal at at.number place
put-there-is journal place at h = go (slice_get journal place) refl
  where
    of-event : (e : Event) → put_of e ≡ Some at → e ≡ Put at.origin at.queue at.target at.number Applied
    of-event (Put origin queue target number Applied) is =
        let same : record { origin = origin; queue = queue; target = target; number = number } ≡ at = cc in
        ap (λ (a : EntryPut). Put a.origin a.queue a.target a.number Applied) same
    of-event (Put origin queue target number Failed) is = absurd (let no : ⊥ = cc in no)
    of-event (Take origin queue target number outcome) is = absurd (let no : ⊥ = cc in no)
    of-event (Called c call reply) is = absurd (let no : ⊥ = cc in no)
    of-event (Joined c id args) is = absurd (let no : ⊥ = cc in no)

    go : (o : Option Event) → slice_get journal place ≡ o → IsPutAt journal at at.number place
    go None is = absurd (let none : ◌≡◌ {A = Option EntryPut} None (Some at) = rw is at h in let no : ⊥ = cc in no)
    go (Some e) is = is ∙ ap (λ (x : Event). Some x) (of-event e (rw is at h))

-- where there is none, there is no notification
pub no-put : (w : ShapeValue) (journal : List Event) (place : ℕ) → put_at journal place ≡ None → (origin queue target number : ℕ) → IsNotificationPut w journal place origin queue target number → ⊥
no-put w journal place none origin queue target number put =
    let some : ◌≡◌ {A = Option EntryPut} None (Some (record { origin = origin; queue = queue; target = target; number = number })) = sym none ∙ rw put.there refl in
    let no : ⊥ = cc in no
