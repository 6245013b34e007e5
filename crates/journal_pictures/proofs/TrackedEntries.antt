-- In a legal history a trace has each entry that may be put: among those that it takes for open stands every entry of a queue that is not
-- broken, under its number, with what it brings.
use Rattle.std.proofs.Common.{◌≡◌, ℕ, zero, suc, ◌+◌, ◌<◌, ◌≤◌, arith, Bool, true, false, not, ◌==◌, List, [], ◌∷◌, ◌++◌, filter, find, length, take, nat_lt, Option, None, Some, Ok, refl, sym, ap, ◌∙◌, subst, ◌⊎◌, inl, inr, if◌then◌else◌}
use Rattle.std.specs.List.{slice_get}
use Rattle.std.specs.Option.{option_map}
use Rattle.std.proofs.lemmas.Bool.{eq-eqb, eqb-true, leb-true, lt-ltb, ne_eqb}
use Rattle.std.proofs.lemmas.List.{length-append, length-replicate}
use Rattle.std.proofs.lemmas.Option.{slice_get_within}
use Rattle.gaspi_types.proofs.Chains.{both}
use Rattle.gaspi_types.proofs.Items.{append-parts, behind-of-joined, prefix-of-joined, slice_get-replicate, there-within}
use Rattle.gaspi_types.specs.CallRows.{row_of, entries_of}
use Rattle.gaspi_types.specs.CallRows as rows
use Rattle.gaspi_types.specs.Ranges.{is_between}
use Rattle.gaspi_types.specs.World.{ShapeValue, IsShape, are_limits}
use Rattle.gaspi_types.specs.declared.call_rows.Posting.{Posting}
use Rattle.gaspi_types.specs.declared.calls.Call.{Call}
use Rattle.gaspi_types.specs.declared.calls.Call.TheVariants.{Purge}
use Rattle.gaspi_types.specs.declared.calls.queues.Purge as purge
use Rattle.gaspi_types.specs.declared.entries.Kind.{Kind}
use Rattle.gaspi_types.specs.declared.events.Event.{Event}
use Rattle.gaspi_types.specs.declared.events.Event.TheVariants.{Called, Joined, Take, Put}
use Rattle.gaspi_types.specs.declared.events.Outcome.TheVariants.{Applied, Failed}
use Rattle.gaspi_types.specs.declared.replies.Reply.TheVariants as replies
use Rattle.gaspi_types.specs.declared.shapes.Limits.{Limits}
use Rattle.gaspi_model.specs.Sound.{IsSound}
use Rattle.gaspi_model.specs.Step.{step, reached, is_legal, owner_of}
use Rattle.gaspi_model.specs.declared.states.Posts.{Posts}
use Rattle.gaspi_model.specs.declared.states.State.{State}
use Rattle.gaspi_model.proofs.Histories.{reached-sound}
use Rattle.gaspi_model.proofs.Sound.GroupEvents.{ranks-few}
use Rattle.gaspi_model.proofs.Sound.Registered.{changed_at-get}
use Rattle.call_journal.specs.LaneWrites.{post_of, post_in, entries_in}
use Rattle.call_journal.proofs.Places.{step-at, stands-below, same-state}
use Rattle.call_journal.proofs.Standing.{IsNew, Changed, from-before, next-after, post-done-by}
use Rattle.journal_pictures.specs.Arrows.{open_after, open_at}
use Rattle.journal_pictures.specs.Deliveries.{deliveries_of, posted_in, posted}
use Rattle.journal_pictures.specs.OpenEntries.{after_call, entries_after, entries_to, is_in_queue, is_numbered, new_entries, numbered, rank_after, without_number}
use Rattle.journal_pictures.specs.Trace.{nothing_open}
use Rattle.journal_pictures.specs.declared.deliveries.Delivery.{Delivery}
use Rattle.journal_pictures.specs.declared.open_entries.OpenEntry.{OpenEntry}
use Rattle.journal_pictures.specs.declared.open_entries.RankEntries.{RankEntries}
use Rattle.journal_pictures.proofs.Brought.{AreBrought, brought-at, posted-by, shifted, taken-suc}
use Rattle.journal_pictures.proofs.DeliveryTables.{posted-more}
use Rattle.journal_pictures.proofs.WholeQueues.{AreApart, Ends, IsInWhole, apart-more, still-whole}

-- What a filter leaves of a list, and what it comes from.

pub filter-kept : {A : Type 0} (p : A → Bool) (xs : List A) (k : ℕ) (x : A) → slice_get xs k ≡ Some x → p x ≡ true → (j : ℕ) × (slice_get (filter p xs) j ≡ Some x)
filter-kept p [] k x at passes = absurd (let no : ⊥ = cc in no)
filter-kept {A} p (y ∷ xs) zero x at passes =
    let same : y ≡ x = cc in
    let first : p y ≡ true = ap p same ∙ passes in
    rw first (0, at)
filter-kept {A} p (y ∷ xs) (suc k) x at passes = go (p y) refl (filter-kept p xs k x at passes)
  where
    go : (b : Bool) → p y ≡ b → (j : ℕ) × (slice_get (filter p xs) j ≡ Some x) → (j : ℕ) × (slice_get (filter p (y ∷ xs)) j ≡ Some x)
    go true is rest = rw is (suc rest.0, rest.1)
    go false is rest = rw is rest

pub filter-from : {A : Type 0} (p : A → Bool) (xs : List A) (k : ℕ) (x : A) → slice_get (filter p xs) k ≡ Some x → (j : ℕ) × (slice_get xs j ≡ Some x)
filter-from p [] k x at = absurd (let no : ⊥ = cc in no)
filter-from {A} p (y ∷ xs) k x at = go (p y) refl k at (λ j h. filter-from p xs j x h)
  where
    go : (b : Bool) → p y ≡ b → (k : ℕ) → slice_get (filter p (y ∷ xs)) k ≡ Some x → ((j : ℕ) → slice_get (filter p xs) j ≡ Some x → (i : ℕ) × (slice_get xs i ≡ Some x)) → (j : ℕ) × (slice_get (y ∷ xs) j ≡ Some x)
    go true is zero at rest = (0, rw is at at)
    go true is (suc k) at rest = let from = rest k (rw is at at) in (suc from.0, from.1)
    go false is k at rest = let from = rest k (rw is at at) in (suc from.0, from.1)

-- what is found where something passes
pub find-some : {A : Type 0} (p : A → Bool) (xs : List A) (k : ℕ) (x : A) → slice_get xs k ≡ Some x → p x ≡ true → (j : ℕ) × (y : A) × (find p xs ≡ Some y) × (slice_get xs j ≡ Some y) × (p y ≡ true)
find-some p [] k x at passes = absurd (let no : ⊥ = cc in no)
find-some {A} p (z ∷ xs) k x at passes = go (p z) refl k at (λ j h. find-some p xs j x h passes)
  where
    go : (b : Bool) → p z ≡ b → (k : ℕ) → slice_get (z ∷ xs) k ≡ Some x → ((j : ℕ) → slice_get xs j ≡ Some x → (i : ℕ) × (y : A) × (find p xs ≡ Some y) × (slice_get xs i ≡ Some y) × (p y ≡ true))
        → (j : ℕ) × (y : A) × (find p (z ∷ xs) ≡ Some y) × (slice_get (z ∷ xs) j ≡ Some y) × (p y ≡ true)
    go true is k at rest = (0, z, rw is refl, refl, is)
    go false is zero at rest = absurd (let same : z ≡ x = cc in let yes : p z ≡ true = ap p same ∙ passes in let no : ⊥ = cc in no)
    go false is (suc k) at rest = let found = rest k at in (suc found.0, found.1, rw is found.2, found.3, found.4)

-- Entries that are numbered.

numbered-at : (queue target n : ℕ) (ds : List Delivery) (k : ℕ) (d : Delivery) → slice_get ds k ≡ Some d
    → slice_get (numbered queue target n ds) k ≡ Some (record { queue = queue; target = target; number = n + k; delivery = d })
numbered-at queue target n [] k d at = absurd (let no : ⊥ = cc in no)
numbered-at queue target n (x ∷ ds) zero d at =
    let same : x ≡ d = cc in
    let number : n ≡ n + 0 = omega arith in
    ap (λ (y : Delivery). Some (record { queue = queue; target = target; number = n; delivery = y })) same ∙ ap (λ (m : ℕ). Some (record { queue = queue; target = target; number = m; delivery = d })) number
numbered-at queue target n (x ∷ ds) (suc k) d at =
    let number : n + 1 + k ≡ n + suc k = omega arith in
    numbered-at queue target (n + 1) ds k d at ∙ ap (λ (m : ℕ). Some (record { queue = queue; target = target; number = m; delivery = d })) number

numbered-from : (queue target n : ℕ) (ds : List Delivery) (k : ℕ) (x : OpenEntry) → slice_get (numbered queue target n ds) k ≡ Some x → (x.number ≡ n + k) × (slice_get ds k ≡ Some x.delivery)
numbered-from queue target n [] k x at = absurd (let no : ⊥ = cc in no)
numbered-from queue target n (d ∷ ds) zero x at =
    let number : n ≡ x.number = cc in
    let delivery : d ≡ x.delivery = cc in
    (omega arith, ap (λ (y : Delivery). Some y) delivery)
numbered-from queue target n (d ∷ ds) (suc k) x at =
    let rest = numbered-from queue target (n + 1) ds k x at in
    let number = rest.0 in
    (omega arith, rest.1)

new-from : (call : Call) (next k : ℕ) (x : OpenEntry) → slice_get (new_entries next call) k ≡ Some x → (x.number ≡ next + k) × (slice_get (deliveries_of call) k ≡ Some x.delivery)
new-from call next k x at = by-posting (row_of call).posting at
  where
    by-queue : (to : Posting) (b : Bool) → slice_get (if b then numbered to.queue to.rank next (deliveries_of call) else []) k ≡ Some x → (x.number ≡ next + k) × (slice_get (deliveries_of call) k ≡ Some x.delivery)
    by-queue to true h = numbered-from to.queue to.rank next (deliveries_of call) k x h
    by-queue to false h = absurd (let no : ⊥ = cc in no)

    by-posting : (o : Option Posting) → slice_get (entries_to o next (deliveries_of call)) k ≡ Some x → (x.number ≡ next + k) × (slice_get (deliveries_of call) k ≡ Some x.delivery)
    by-posting None h = absurd (let no : ⊥ = cc in no)
    by-posting (Some to) h = by-queue to (nat_lt to.queue 8) h

-- the open entries after a call come from those before, or are new
abbrev ComesFrom : RankEntries → Call → OpenEntry → Type 0
ComesFrom r call x = ((j : ℕ) × (slice_get r.entries j ≡ Some x)) ⊎ ((j : ℕ) × (x.number ≡ r.next + j) × (slice_get (deliveries_of call) j ≡ Some x.delivery))

call-from : (call : Call) (r : RankEntries) (k : ℕ) (x : OpenEntry) → slice_get (after_call call r).entries k ≡ Some x → ComesFrom r call x
call-from (Purge call) r k x at = inl (filter-from _ r.entries k x at)
call-from call r k x at = go (append-parts r.entries (new_entries r.next call) k x at)
  where
    go : ((j : ℕ) × (slice_get r.entries j ≡ Some x)) ⊎ ((j : ℕ) × (slice_get (new_entries r.next call) j ≡ Some x)) → ComesFrom r call x
    go (inl old) = inl old
    go (inr new) = let from = new-from call r.next new.0 x new.1 in inr (new.0, from.0, from.1)

call-next : (call : Call) (r : RankEntries) → (after_call call r).next ≡ r.next + entries_of call
call-next (Purge call) r = omega arith
call-next call r = refl

-- of a call that posts
posting-after : (call : Call) (to : Posting) (r : RankEntries) → (row_of call).posting ≡ Some to → after_call call r ≡ record { next = r.next + entries_of call; entries = r.entries ++ new_entries r.next call }
posting-after (Purge call) to r is = absurd (let no : ⊥ = cc in no)
posting-after call to r is = refl

-- The entries of a rank after an event, which may be another rank's.
abbrev pub own_after : ℕ → Event → RankEntries → RankEntries
own_after origin e r = if owner_of e == origin then rank_after e r else r

own-there : (ranks : List RankEntries) (origin : ℕ) (e : Event) (r : RankEntries) → slice_get ranks origin ≡ Some r → slice_get (entries_after e ranks) origin ≡ Some (own_after origin e r)
own-there ranks origin e r there = changed_at-get ranks (owner_of e) origin (rank_after e) ∙ go (owner_of e == origin)
  where
    go : (b : Bool) → (if b then option_map (rank_after e) (slice_get ranks origin) else slice_get ranks origin) ≡ Some (if b then rank_after e r else r)
    go true = ap (option_map (rank_after e)) there
    go false = there

-- the next number grows by what the event posts
same-next : (b : Bool) (x r : RankEntries) → x.next ≡ r.next → (if b then x else r).next ≡ r.next + 0
same-next true x r same = omega arith
same-next false x r same = omega arith

own-next : (origin : ℕ) (e : Event) (r : RankEntries) → (own_after origin e r).next ≡ r.next + entries_in (post_of origin e)
own-next origin (Called c call replies.Done) r = go (c.rank == origin)
  where
    counted : (o : Option Posting) → rows.entries_in o ≡ entries_in (post_in call o)
    counted None = refl
    counted (Some to) = refl

    go : (b : Bool) → (if b then after_call call r else r).next ≡ r.next + entries_in (if b then post_in call (row_of call).posting else None)
    go true = call-next call r ∙ ap (λ (n : ℕ). r.next + n) (counted (row_of call).posting)
    go false = omega arith
own-next origin (Called c call reply) r = same-next (c.rank == origin) r r refl
own-next origin (Joined c id args) r = same-next (c.rank == origin) r r refl
own-next origin (Take o queue target number Failed) r = same-next (o == origin) (record r { entries = without_number number r.entries }) r refl
own-next origin (Take o queue target number Applied) r = same-next (o == origin) r r refl
own-next origin (Put o queue target number outcome) r = same-next (o == origin) (record r { entries = without_number number r.entries }) r refl

-- each open entry brings what was posted under its number
abbrev Bring : RankEntries → List Delivery → Type 0
Bring r list = (k : ℕ) (x : OpenEntry) → slice_get r.entries k ≡ Some x → slice_get list x.number ≡ Some x.delivery

still-there : (list more : List Delivery) (n : ℕ) (d : Delivery) → slice_get list n ≡ Some d → slice_get (list ++ more) n ≡ Some d
still-there list more n d at = prefix-of-joined list more n (slice_get_within list n d at) ∙ at

fewer-bring : (b : Bool) (r : RankEntries) (entries : List OpenEntry) (list : List Delivery) → ((k : ℕ) (x : OpenEntry) → slice_get entries k ≡ Some x → (j : ℕ) × (slice_get r.entries j ≡ Some x)) → Bring r list
    → Bring (if b then record r { entries = entries } else r) (list ++ [])
fewer-bring true r entries list from was k x at = let old = from k x at in still-there list [] x.number x.delivery (was old.0 x old.1)
fewer-bring false r entries list from was k x at = still-there list [] x.number x.delivery (was k x at)

own-bring : (origin : ℕ) (e : Event) (r : RankEntries) (list : List Delivery) → r.next ≡ length list → Bring r list → Bring (own_after origin e r) (list ++ posted_in origin e)
own-bring origin (Called c call replies.Done) r list next was = go (c.rank == origin)
  where
    by-part : (x : OpenEntry) → ComesFrom r call x → slice_get (list ++ deliveries_of call) x.number ≡ Some x.delivery
    by-part x (inl old) = still-there list (deliveries_of call) x.number x.delivery (was old.0 x old.1)
    by-part x (inr new) = behind-of-joined list (deliveries_of call) new.0 x.number (new.1 ∙ ap (λ (n : ℕ). n + new.0) next) ∙ new.2

    go : (b : Bool) → Bring (if b then after_call call r else r) (list ++ (if b then deliveries_of call else []))
    go true = λ k x at. by-part x (call-from call r k x at)
    go false = λ k x at. still-there list [] x.number x.delivery (was k x at)
own-bring origin (Called c call reply) r list next was = fewer-bring (c.rank == origin) r r.entries list (λ k x at. (k, at)) was
own-bring origin (Joined c id args) r list next was = fewer-bring (c.rank == origin) r r.entries list (λ k x at. (k, at)) was
own-bring origin (Take o queue target number Failed) r list next was = fewer-bring (o == origin) r (without_number number r.entries) list (λ k x at. filter-from _ r.entries k x at) was
own-bring origin (Take o queue target number Applied) r list next was = fewer-bring (o == origin) r r.entries list (λ k x at. (k, at)) was
own-bring origin (Put o queue target number outcome) r list next was = fewer-bring (o == origin) r (without_number number r.entries) list (λ k x at. filter-from _ r.entries k x at) was

-- An entry of a number and a queue is among the open ones.
pub record IsListed (entries : List OpenEntry) (queue m : ℕ) : Type 0 where
  pub index : ℕ
  pub entry : OpenEntry
  pub there : slice_get entries index ≡ Some entry
  pub numbered : entry.number ≡ m
  pub queued : entry.queue ≡ queue

listed-filter : (p : OpenEntry → Bool) (entries : List OpenEntry) (queue m : ℕ) (l : IsListed entries queue m) → p l.entry ≡ true → IsListed (filter p entries) queue m
listed-filter p entries queue m l passes =
    let kept = filter-kept p entries l.index l.entry l.there passes in
    record { index = kept.0; entry = l.entry; there = kept.1; numbered = l.numbered; queued = l.queued }

listed-append : (entries more : List OpenEntry) (queue m : ℕ) → IsListed entries queue m → IsListed (entries ++ more) queue m
listed-append entries more queue m l =
    record { index = l.index; entry = l.entry; there = prefix-of-joined entries more l.index (slice_get_within entries l.index l.entry l.there) ∙ l.there; numbered = l.numbered; queued = l.queued }

other-number : (b : Bool) (r : RankEntries) (number queue m : ℕ) → IsListed r.entries queue m → (b ≡ true → number ≡ m → ⊥) → IsListed (if b then record r { entries = without_number number r.entries } else r).entries queue m
other-number true r number queue m l apart =
    listed-filter (λ x. not (is_numbered number x)) r.entries queue m l (ap not (ne_eqb l.entry.number number (λ same. apart refl (sym same ∙ l.numbered))))
other-number false r number queue m l apart = l

same-listed : (b : Bool) (r : RankEntries) (queue m : ℕ) → IsListed r.entries queue m → IsListed (if b then r else r).entries queue m
same-listed true r queue m l = l
same-listed false r queue m l = l

call-kept : (call : Call) (r : RankEntries) (queue m : ℕ) → IsListed r.entries queue m → ((x : purge.Purge) → call ≡ Purge x → x.queue ≡ queue → ⊥) → IsListed (after_call call r).entries queue m
call-kept (Purge call) r queue m l spared =
    listed-filter (λ x. not (is_in_queue call.queue x)) r.entries queue m l (ap not (ne_eqb l.entry.queue call.queue (λ same. spared call refl (sym same ∙ l.queued))))
call-kept call r queue m l spared = listed-append r.entries (new_entries r.next call) queue m l

-- an open entry stays so where the event does not end it
own-kept : (origin : ℕ) (e : Event) (r : RankEntries) (queue m : ℕ) → IsListed r.entries queue m → (Ends e origin queue m → ⊥) → IsListed (own_after origin e r).entries queue m
own-kept origin (Called c call replies.Done) r queue m l spared = go (c.rank == origin) refl
  where
    ends : (x : purge.Purge) → call ≡ Purge x → c.rank ≡ origin → x.queue ≡ queue → Ends (Called c call replies.Done) origin queue m
    ends x is mine same = rw is (mine, same)

    go : (b : Bool) → (c.rank == origin) ≡ b → IsListed (if b then after_call call r else r).entries queue m
    go true is = call-kept call r queue m l (λ x purged same. spared (ends x purged (eqb-true c.rank origin is) same))
    go false is = l
own-kept origin (Called c call reply) r queue m l spared = same-listed (c.rank == origin) r queue m l
own-kept origin (Joined c id args) r queue m l spared = same-listed (c.rank == origin) r queue m l
own-kept origin (Take o q target number Failed) r queue m l spared = other-number (o == origin) r number queue m l (λ mine same. spared (eqb-true o origin mine, same))
own-kept origin (Take o q target number Applied) r queue m l spared = same-listed (o == origin) r queue m l
own-kept origin (Put o q target number outcome) r queue m l spared = other-number (o == origin) r number queue m l (λ mine same. spared (eqb-true o origin mine, same))

-- what an event posts is open after it
own-new : (origin : ℕ) (e : Event) (r : RankEntries) (queue target next m : ℕ) (kind : Kind) → IsNew origin e queue target next m kind → r.next ≡ next → queue < 8 → m < next + length (posted_in origin e)
    → IsListed (own_after origin e r).entries queue m
own-new origin e r queue target next m kind new same few below =
    let d = post-done-by origin e new.post new.is in
    let to = new.post.posting in
    let ds = deliveries_of d.call in
    let brings : posted_in origin e ≡ ds = posted-by origin e d.c d.call d.event d.mine in
    let many : length (posted_in origin e) ≡ length ds = ap length brings in
    let number = new.numbered in
    let at = there-within ds new.place (omega arith) in
    let queue_is = new.to_queue in
    let in_limit : nat_lt to.queue 8 ≡ true = lt-ltb to.queue 8 (omega arith) in
    let own : own_after origin e r ≡ after_call d.call r = ap (λ (x : Event). own_after origin x r) d.event ∙ rw (eq-eqb d.c.rank origin d.mine) refl in
    let all : (own_after origin e r).entries ≡ r.entries ++ new_entries r.next d.call = ap (λ (x : RankEntries). x.entries) (own ∙ posting-after d.call to r d.posting) in
    let entries : new_entries r.next d.call ≡ numbered to.queue to.rank r.next ds = rw (d.posting, in_limit) refl in
    record {
      index = length r.entries + new.place;
      entry = record { queue = to.queue; target = to.rank; number = r.next + new.place; delivery = at.0 };
      there = ap (λ (xs : List OpenEntry). slice_get xs (length r.entries + new.place)) all
          ∙ behind-of-joined r.entries (new_entries r.next d.call) new.place (length r.entries + new.place) refl
          ∙ ap (λ (xs : List OpenEntry). slice_get xs new.place) entries
          ∙ numbered-at to.queue to.rank r.next ds new.place at.0 at.1;
      numbered = omega arith;
      queued = new.to_queue;
    }

-- What a trace takes for open of a rank: the next number is the rank's, each entry brings what was posted under its number, and each entry
-- of a queue that is not broken is there.
pub record AreOpen (r : RankEntries) (posts : Posts) (list : List Delivery) : Type 0 where
  pub next : r.next ≡ posts.next
  pub brings : Bring r list
  pub listed : (queue target m : ℕ) (kind : Kind) → IsInWhole posts.queues queue target m kind → IsListed r.entries queue m
  pub apart : AreApart posts.queues

-- a world has few queues
few-queues : (limits : Limits) → are_limits limits ≡ true → limits.queues ≤ 8
few-queues limits h =
    let rest = (both (is_between 1 16 limits.ranks) _ h).1 in
    leb-true limits.queues 8 (both _ _ (both (is_between 1 8 limits.queues) _ rest).0).1

open-more : (s t : State) (e : Event) (origin : ℕ) (r : RankEntries) (before after : Posts) (list : List Delivery) → IsSound s → IsSound t → step s e ≡ Ok t → slice_get s.posts origin ≡ Some before
    → slice_get t.posts origin ≡ Some after → AreBrought before list → AreBrought after (list ++ posted_in origin e) → AreOpen r before list → AreOpen (own_after origin e r) after (list ++ posted_in origin e)
open-more s t e origin r before after list sound sound' h was now first second is =
    let from = from-before s t e h origin after now in
    let some : ◌≡◌ {A = Option Posts} (Some from.before) (Some before) = sym from.there ∙ was in
    let same : from.before ≡ before = cc in
    let changed : Changed s.limits e origin before after = subst (λ (p : Posts). Changed s.limits e origin p after) same from.changed in
    let grown = next-after s.limits e origin before after changed in
    let own = own-next origin e r in
    let next = is.next in
    let known = first.next in
    let known' = second.next in
    let many = length-append list (posted_in origin e) in
    record {
      next = omega arith;
      brings = own-bring origin e r list (omega arith) is.brings;
      listed = λ queue target m kind i. by-part grown queue target m kind i (still-whole s t e origin before after sound h was now changed is.apart queue target m kind i);
      apart = apart-more s e origin before after sound was changed is.apart;
    }
  where
    by-part : after.next ≡ before.next + entries_in (post_of origin e) → (queue target m : ℕ) (kind : Kind) → IsInWhole after.queues queue target m kind
        → (IsInWhole before.queues queue target m kind × (Ends e origin queue m → ⊥)) ⊎ IsNew origin e queue target before.next m kind → IsListed (own_after origin e r).entries queue m
    by-part grown queue target m kind i (inl old) = own-kept origin e r queue m (is.listed queue target m kind old.0) old.1
    by-part grown queue target m kind i (inr new) =
        let within = slice_get_within after.queues queue i.stands.q i.stands.queue_there in
        let queues = (sound'.posts origin after now).tables.queues in
        let few = few-queues t.limits sound'.limits in
        let below = stands-below t origin queue target m kind after sound' now i.stands in
        let known = first.next in
        let known' = second.next in
        let many = length-append list (posted_in origin e) in
        own-new origin e r queue target before.next m kind new is.next (omega arith) (omega arith)

open-append : (ranks : List RankEntries) (events : List Event) (e : Event) → open_after ranks (events ++ e ∷ []) ≡ entries_after e (open_after ranks events)
open-append ranks [] e = refl
open-append ranks (x ∷ events) e = open-append (entries_after x ranks) events e

-- one event more
pub open-suc : (journal : List Event) (place : ℕ) (e : Event) → slice_get journal place ≡ Some e → open_at journal (suc place) ≡ entries_after e (open_at journal place)
open-suc journal place e at = ap (open_after nothing_open) (taken-suc journal place e at) ∙ open-append nothing_open (take place journal) e

-- the open entries of a rank at a place
pub record IsOpenAt (journal : List Event) (place origin : ℕ) (posts : Posts) : Type 0 where
  pub own : RankEntries
  pub there : slice_get (open_at journal place) origin ≡ Some own
  pub are : AreOpen own posts (posted origin (take place journal))

module _ (w : ShapeValue) (world : IsShape w) (journal : List Event) (legal : is_legal w journal ≡ true) (origin : ℕ) where
  pub tracked-at : (place : ℕ) → place ≤ length journal → (s : State) → reached w (take place journal) ≡ Ok s → (posts : Posts) → slice_get s.posts origin ≡ Some posts → IsOpenAt journal place origin posts
  tracked-at zero within s leads posts there =
      let sound = reached-sound w [] s world leads in
      let few = ranks-few s.limits sound.limits in
      let many = sound.ranks in
      let is_rank = slice_get_within s.posts origin posts there in
      let count = length-replicate {A = RankEntries} 16 (record { next = 0; entries = [] }) in
      let r = there-within nothing_open origin (omega arith) in
      let empty = slice_get-replicate 16 (record { next = 0; entries = [] }) r.0 origin r.1 in
      let first = (brought-at w world journal legal origin zero within s leads posts there).next in
      let next : r.0.next ≡ 0 = ap (λ (x : RankEntries). x.next) empty in
      record {
        own = r.0;
        there = r.1;
        are = record {
          next = omega arith;
          brings = λ k x at.
              let none : slice_get {X = OpenEntry} [] k ≡ Some x = ap (λ (y : RankEntries). slice_get y.entries k) (sym empty) ∙ at in
              absurd (let no : ⊥ = cc in no);
          listed = λ queue target m kind i.
              absurd (let below = stands-below s origin queue target m kind posts sound there i.stands in let no : ⊥ = omega arith in no);
          apart = λ queue target queue' target' m kind kind' a b.
              absurd (let below = stands-below s origin queue target m kind posts sound there a in let no : ⊥ = omega arith in no);
        };
      }
  tracked-at (suc place) within s leads posts there =
      let x = there-within journal place (omega arith) in
      let here = step-at w journal place x.0 legal x.1 in
      let later : reached w (take (suc place) journal) ≡ Ok here.t = subst (λ (n : ℕ). reached w (take n journal) ≡ Ok here.t) (shifted place) here.later in
      let same = same-state (reached w (take (suc place) journal)) s here.t leads later in
      let now : slice_get here.t.posts origin ≡ Some posts = subst (λ (y : State). slice_get y.posts origin ≡ Some posts) same there in
      let from = from-before here.s here.t x.0 here.step_is origin posts now in
      let before = tracked-at place (omega arith) here.s here.before from.before from.there in
      let first = brought-at w world journal legal origin place (omega arith) here.s here.before from.before from.there in
      let second = brought-at w world journal legal origin (suc place) within s leads posts there in
      let all : posted origin (take (suc place) journal) ≡ posted origin (take place journal) ++ posted_in origin x.0 = ap (posted origin) (taken-suc journal place x.0 x.1) ∙ posted-more origin (take place journal) x.0 in
      let more = open-more here.s here.t x.0 origin before.own from.before posts (posted origin (take place journal)) (reached-sound w (take place journal) here.s world here.before)
      (reached-sound w (take (suc place) journal) here.t world later) here.step_is from.there now first (subst (λ (ds : List Delivery). AreBrought posts ds) all second) before.are in
      record {
        own = own_after origin x.0 before.own;
        there = ap (λ (rs : List RankEntries). slice_get rs origin) (open-suc journal place x.0 x.1) ∙ own-there (open_at journal place) origin x.0 before.own before.there;
        are = subst (λ (ds : List Delivery). AreOpen (own_after origin x.0 before.own) posts ds) (sym all) more;
      }
