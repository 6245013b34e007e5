-- What stands in the lanes of a state, and the states of a legal history before and after each of its events.
use Rattle.std.proofs.Common.{◌≡◌, ℕ, zero, suc, ◌+◌, ◌<◌, arith, true, List, [], ◌∷◌, ◌++◌, take, drop, Option, None, Some, Result, Ok, Err, refl, sym, ap, ◌∙◌, subst}
use Rattle.std.specs.List.{slice_get}
use Rattle.gaspi_types.specs.World.{ShapeValue}
use Rattle.gaspi_types.specs.declared.entries.Entry.{Entry}
use Rattle.gaspi_types.specs.declared.entries.Kind.{Kind}
use Rattle.gaspi_types.specs.declared.events.Event.{Event}
use Rattle.gaspi_model.specs.Shards.{entry_after}
use Rattle.gaspi_model.specs.Sound.{IsSound, AreRising}
use Rattle.gaspi_model.specs.State.{opening}
use Rattle.gaspi_model.specs.Step.{step, after, reached, is_legal}
use Rattle.gaspi_model.specs.Transfers.{EntryPosition, find_entry}
use Rattle.gaspi_model.specs.declared.states.Posts.{Posts}
use Rattle.gaspi_model.specs.declared.states.State.{State}
use Rattle.gaspi_model.specs.declared.states.Why.{Why}
use Rattle.gaspi_model.specs.declared.states.Why.TheVariants as whys
use Rattle.gaspi_model.proofs.FoundEntries.{find_entry-ok}
use Rattle.gaspi_model.proofs.Histories.{after-both, after-first, after-joined, after-step, leads}
use Rattle.gaspi_model.proofs.Ordered.Notifications.{found-number}
use Rattle.gaspi_model.proofs.Sound.Rising.{position_of-rising}
use Rattle.call_journal.proofs.Standing.{InQueues}

-- an entry of a lane of a rank
pub record StandsIn (s : State) (origin queue target m : ℕ) (kind : Kind) : Type 0 where
  pub posts : Posts
  pub there : slice_get s.posts origin ≡ Some posts
  pub in_queues : InQueues posts.queues queue target m kind

pub stands-in : (s : State) (origin queue target m : ℕ) (e : Entry) → entry_after s origin queue target m ≡ Some e → StandsIn s origin queue target m e.kind
stands-in s origin queue target m e h = with-posts (slice_get s.posts origin) refl
  where
    with-found : (posts : Posts) → slice_get s.posts origin ≡ Some posts → (r : Result EntryPosition Why) → find_entry posts queue target m whys.Put ≡ r → StandsIn s origin queue target m e.kind
    with-found posts hp (Ok at) hf =
        let some : ◌≡◌ {A = Option Entry} (Some at.entry) (Some e) = rw (hp, hf) at h in
        let same : at.entry ≡ e = cc in
        let f = find_entry-ok posts queue target m _ at hf in
        record {
          posts = posts;
          there = hp;
          in_queues = record {
            q = at.queue;
            queue_there = f.in_posts;
            in_queue = record {
              lane = at.lane;
              lane_there = f.in_queue;
              has = record { place = at.position; entry = at.entry; there = f.in_lane; numbered = found-number at.lane m at.position at.entry f.numbered f.in_lane; kind_is = ap (λ (x : Entry). x.kind) same };
            };
          };
        }
    with-found posts hp (Err why) hf = absurd (let none : ◌≡◌ {A = Option Entry} None (Some e) = rw (hp, hf) at h in let no : ⊥ = cc in no)

    with-posts : (o : Option Posts) → slice_get s.posts origin ≡ o → StandsIn s origin queue target m e.kind
    with-posts None hp = absurd (let none : ◌≡◌ {A = Option Entry} None (Some e) = rw hp at h in let no : ⊥ = cc in no)
    with-posts (Some posts) hp = with-found posts hp (find_entry posts queue target m whys.Put) refl

rising-below : (next : ℕ) (lane : List Entry) (place : ℕ) (e : Entry) → AreRising next lane → slice_get lane place ≡ Some e → e.number < next
rising-below next [] place e rising at = absurd (let no : ⊥ = cc in no)
rising-below next (x ∷ lane) zero e rising at = let same : x ≡ e = cc in subst (λ (y : Entry). y.number < next) same rising.0
rising-below next (x ∷ lane) (suc place) e rising at = rising-below next lane place e rising.2 at

lane-rising : (s : State) (origin queue target m : ℕ) (kind : Kind) (posts : Posts) (i : InQueues posts.queues queue target m kind) → IsSound s → slice_get s.posts origin ≡ Some posts → AreRising posts.next i.in_queue.lane
lane-rising s origin queue target m kind posts i sound there = (sound.posts origin posts there).rising queue i.q i.queue_there target i.in_queue.lane i.in_queue.lane_there

-- its number is below the rank's next one
pub stands-below : (s : State) (origin queue target m : ℕ) (kind : Kind) (posts : Posts) → IsSound s → slice_get s.posts origin ≡ Some posts → InQueues posts.queues queue target m kind → m < posts.next
stands-below s origin queue target m kind posts sound there i =
    let has = i.in_queue.has in
    let below = rising-below posts.next i.in_queue.lane has.place has.entry (lane-rising s origin queue target m kind posts i sound there) has.there in
    subst (λ (n : ℕ). n < posts.next) has.numbered below

-- and it stands there under its number
pub is-standing : (s : State) (origin queue target m : ℕ) (kind : Kind) (posts : Posts) → IsSound s → slice_get s.posts origin ≡ Some posts → InQueues posts.queues queue target m kind
    → (e : Entry) × (entry_after s origin queue target m ≡ Some e) × (e.kind ≡ kind)
is-standing s origin queue target m kind posts sound there i =
    let has = i.in_queue.has in
    let at = position_of-rising posts.next i.in_queue.lane has.place has.entry (lane-rising s origin queue target m kind posts i sound there) has.there in
    let found : find_entry posts queue target has.entry.number whys.Put ≡ Ok (record { queue = i.q; lane = i.in_queue.lane; position = has.place; entry = has.entry }) =
    rw (i.queue_there, i.in_queue.lane_there, at, has.there) refl in
    let stands : entry_after s origin queue target has.entry.number ≡ Some has.entry = rw (there, found) refl in
    (has.entry, subst (λ (n : ℕ). entry_after s origin queue target n ≡ Some has.entry) has.numbered stands, has.kind_is)

-- a list parted at one of its items
parted-behind : {A : Type 0} (xs : List A) (place : ℕ) (x : A) → slice_get xs place ≡ Some x → xs ≡ take place xs ++ x ∷ drop (suc place) xs
parted-behind [] place x at = absurd (let no : ⊥ = cc in no)
parted-behind {A} (y ∷ xs) zero x at = let same : y ≡ x = cc in ap (λ (z : A). z ∷ xs) same
parted-behind {A} (y ∷ xs) (suc place) x at = ap (λ (zs : List A). y ∷ zs) (parted-behind xs place x at)

pub parted : {A : Type 0} (xs : List A) (place : ℕ) (x : A) → slice_get xs place ≡ Some x → xs ≡ take place xs ++ x ∷ drop (place + 1) xs
parted {A} xs place x at = subst (λ (n : ℕ). xs ≡ take place xs ++ x ∷ drop n xs) {x = suc place} (omega arith) (parted-behind xs place x at)

taken-behind : {A : Type 0} (xs : List A) (place : ℕ) (x : A) → slice_get xs place ≡ Some x → take (suc place) xs ≡ take place xs ++ x ∷ []
taken-behind [] place x at = absurd (let no : ⊥ = cc in no)
taken-behind {A} (y ∷ xs) zero x at = let same : y ≡ x = cc in ap (λ (z : A). z ∷ []) same
taken-behind {A} (y ∷ xs) (suc place) x at = ap (λ (zs : List A). y ∷ zs) (taken-behind xs place x at)

pub taken-more : {A : Type 0} (xs : List A) (place : ℕ) (x : A) → slice_get xs place ≡ Some x → take (place + 1) xs ≡ take place xs ++ x ∷ []
taken-more {A} xs place x at = subst (λ (n : ℕ). take n xs ≡ take place xs ++ x ∷ []) {x = suc place} (omega arith) (taken-behind xs place x at)

-- what stands in a beginning of a list
pub taken-from : {A : Type 0} (n : ℕ) (xs : List A) (k : ℕ) (x : A) → slice_get (take n xs) k ≡ Some x → (k < n) × (slice_get xs k ≡ Some x)
taken-from zero xs k x at = absurd (let no : ⊥ = cc in no)
taken-from (suc n) [] k x at = absurd (let no : ⊥ = cc in no)
taken-from (suc n) (y ∷ xs) zero x at = (omega arith, at)
taken-from (suc n) (y ∷ xs) (suc k) x at = let rest = taken-from n xs k x at in let less = rest.0 in (omega arith, rest.1)

-- an event of a legal history: the states before and after it
pub record IsStepAt (w : ShapeValue) (journal : List Event) (place : ℕ) (e : Event) : Type 0 where
  pub s : State
  pub t : State
  pub before : reached w (take place journal) ≡ Ok s
  pub step_is : step s e ≡ Ok t
  pub later : reached w (take (place + 1) journal) ≡ Ok t

pub step-at : (w : ShapeValue) (journal : List Event) (place : ℕ) (e : Event) → is_legal w journal ≡ true → slice_get journal place ≡ Some e → IsStepAt w journal place e
step-at w journal place e legal at =
    let end = leads (reached w journal) legal in
    let whole : after (opening w) (take place journal ++ e ∷ drop (place + 1) journal) ≡ Ok end.0 = subst (λ (events : List Event). after (opening w) events ≡ Ok end.0) (parted journal place e at) end.1 in
    let both = after-both (opening w) end.0 (take place journal) (e ∷ drop (place + 1) journal) whole in
    let first = after-first both.0 end.0 e (drop (place + 1) journal) both.2 in
    record {
      s = both.0;
      t = first.0;
      before = both.1;
      step_is = first.1;
      later = ap (λ (events : List Event). reached w events) (taken-more journal place e at) ∙ after-joined (opening w) both.0 (take place journal) (e ∷ []) both.1 ∙ after-step both.0 first.0 e [] first.1;
    }

-- events lead to one state
pub same-state : (r : Result State Why) (s t : State) → r ≡ Ok s → r ≡ Ok t → s ≡ t
same-state r s t hs ht = (let ok : ◌≡◌ {A = Result State Why} (Ok s) (Ok t) = sym hs ∙ ht in cc)
