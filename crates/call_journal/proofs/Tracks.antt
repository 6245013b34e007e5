-- The writes of a lane, followed through a legal journal.
use Rattle.std.proofs.Common.{◌≡◌, ℕ, zero, suc, ◌+◌, ◌<◌, arith, Bool, true, false, ◌==◌, ◌&&◌, ◌||◌, List, [], ◌++◌, length, get_or, take, Option, None, Some, Result, Ok, refl, sym, ap, ◌∙◌, subst, ◌⊎◌, inl, inr, if◌then◌else◌}
use Rattle.std.specs.List.{slice_get}
use Rattle.std.specs.Option.{option_map}
use Rattle.std.proofs.lemmas.Bool.{eq-eqb, eqb-true}
use Rattle.std.proofs.lemmas.Option.{get_or_from_slice_get, slice_get-map, slice_get_within}
use Rattle.gaspi_types.proofs.Chains.{both}
use Rattle.gaspi_types.proofs.Items.{map-at, append-parts, prefix-of-joined, behind-of-joined, same-or-not, there-within}
use Rattle.gaspi_types.specs.World.{ShapeValue, IsShape}
use Rattle.gaspi_types.specs.declared.events.Event.{Event}
use Rattle.gaspi_types.specs.declared.events.Event.TheVariants.{Called, Joined, Take, Put}
use Rattle.gaspi_types.specs.declared.events.Outcome.TheVariants.{Applied, Failed}
use Rattle.gaspi_model.specs.Order.{is_purge_of}
use Rattle.gaspi_model.specs.Step.{is_legal}
use Rattle.call_journal.specs.Explanations.{IsPostedAt, IsUnpurged}
use Rattle.call_journal.specs.LaneWrites.{post_of, entries_in, goes_to, put_in, put_here, with_put, new_writes, writes_to, is_notification_of, writes_after}
use Rattle.call_journal.specs.Tracked.{IsPutAt, HasPut, IsListed, IsTracked}
use Rattle.call_journal.specs.declared.lane_writes.EntryPut.{EntryPut}
use Rattle.call_journal.specs.declared.lane_writes.LaneWrite.{LaneWrite}
use Rattle.call_journal.specs.declared.lane_writes.Post.{Post}
use Rattle.std.specs.List.{range_with_len}
use Rattle.gaspi_model.specs.State.{opening, opening_posts}
use Rattle.gaspi_model.specs.Step.{reached}
use Rattle.gaspi_model.specs.declared.states.Posts.{Posts}
use Rattle.gaspi_model.specs.declared.states.State.{State}
use Rattle.gaspi_model.specs.declared.states.Why.{Why}
use Rattle.gaspi_model.proofs.Histories.{reached-sound}
use Rattle.call_journal.proofs.Places.{stands-in, stands-below, taken-from}
use Rattle.call_journal.proofs.Begun.{next-more, begun, only-begun, note-more}

-- the writes of a post, one by one
new-from : (place next count k : ℕ) (x : LaneWrite) → slice_get (new_writes place next count) k ≡ Some x → (x ≡ record { post = place; number = next + k; put = None }) × (k < count)
new-from place next zero k x at = absurd (let no : ⊥ = cc in no)
new-from place next (suc count) zero x at =
    let same : record { post = place; number = next; put = None } ≡ x = cc in
    (sym same ∙ ap (λ (n : ℕ). record { post = place; number = n; put = None }) (omega arith), omega arith)
new-from place next (suc count) (suc k) x at =
    let rest = new-from place (next + 1) count k x at in
    let less = rest.1 in
    (rest.0 ∙ ap (λ (n : ℕ). record { post = place; number = n; put = None }) (omega arith), omega arith)

new-at : (place next count k : ℕ) → k < count → slice_get (new_writes place next count) k ≡ Some (record { post = place; number = next + k; put = None })
new-at place next zero k less = absurd (let no : ⊥ = omega arith in no)
new-at place next (suc count) zero less = ap (λ (n : ℕ). Some (record { post = place; number = n; put = None })) (omega arith)
new-at place next (suc count) (suc k) less = new-at place (next + 1) count k (omega arith) ∙ ap (λ (n : ℕ). Some (record { post = place; number = n; put = None })) (omega arith)

-- what an event has put that has put an entry of the lane
put-is : (at : EntryPut) (e : Event) (number : ℕ) → put_in at e ≡ Some number → e ≡ Put at.origin at.queue at.target number Applied
put-is at (Put origin queue target n Applied) number h = go ((origin == at.origin) && ((queue == at.queue) && (target == at.target))) refl
  where
    go : (b : Bool) → ((origin == at.origin) && ((queue == at.queue) && (target == at.target))) ≡ b → Put origin queue target n Applied ≡ Put at.origin at.queue at.target number Applied
    go true is =
        let some : ◌≡◌ {A = Option ℕ} (Some n) (Some number) = rw is at h in
        let same : n ≡ number = cc in
        let a = both (origin == at.origin) ((queue == at.queue) && (target == at.target)) is in
        let b = both (queue == at.queue) (target == at.target) a.1 in
        rw (eqb-true origin at.origin a.0, eqb-true queue at.queue b.0, eqb-true target at.target b.1, same) refl
    go false is = absurd (let none : ◌≡◌ {A = Option ℕ} None (Some number) = rw is at h in let no : ⊥ = cc in no)
put-is at (Put origin queue target n Failed) number h = absurd (let no : ⊥ = cc in no)
put-is at (Take origin queue target n outcome) number h = absurd (let no : ⊥ = cc in no)
put-is at (Called c call reply) number h = absurd (let no : ⊥ = cc in no)
put-is at (Joined c id args) number h = absurd (let no : ⊥ = cc in no)

is-put : (at : EntryPut) (number : ℕ) → put_in at (Put at.origin at.queue at.target number Applied) ≡ Some number
is-put at number = rw (eq-eqb at.origin at.origin refl, eq-eqb at.queue at.queue refl, eq-eqb at.target at.target refl) refl

-- where a write comes from that stands in the list after a put
record FromList (put : Option ℕ) (place : ℕ) (writes : List LaneWrite) (k : ℕ) (x : LaneWrite) : Type 0 where
  old : LaneWrite
  there : slice_get writes k ≡ Some old
  post : x.post ≡ old.post
  number : x.number ≡ old.number
  same : (put ≡ Some old.number → ⊥) → x.put ≡ old.put
  now : put ≡ Some old.number → x.put ≡ Some place

put-from : (number place : ℕ) (writes : List LaneWrite) (k : ℕ) (x old : LaneWrite) → slice_get writes k ≡ Some old → x ≡ put_here number place old → FromList (Some number) place writes k x
put-from number place writes k x old there is = go (old.number == number) refl
  where
    go : (b : Bool) → (old.number == number) ≡ b → FromList (Some number) place writes k x
    go true same =
        let now : x ≡ record old { put = Some place } = rw same at is in
        record {
          old = old;
          there = there;
          post = ap (λ (y : LaneWrite). y.post) now;
          number = ap (λ (y : LaneWrite). y.number) now;
          same = λ other. absurd (other (ap (λ (n : ℕ). Some n) (sym (eqb-true old.number number same))));
          now = λ here. ap (λ (y : LaneWrite). y.put) now;
        }
    go false apart =
        let now : x ≡ old = rw apart at is in
        record {
          old = old;
          there = there;
          post = ap (λ (y : LaneWrite). y.post) now;
          number = ap (λ (y : LaneWrite). y.number) now;
          same = λ other. ap (λ (y : LaneWrite). y.put) now;
          now = λ here. absurd (let is_number : number ≡ old.number = cc in let yes = eq-eqb old.number number (sym is_number) in let no : ⊥ = cc in no);
        }

with_put-from : (put : Option ℕ) (place : ℕ) (writes : List LaneWrite) (k : ℕ) (x : LaneWrite) → slice_get (with_put put place writes) k ≡ Some x → FromList put place writes k x
with_put-from None place writes k x at = record { old = x; there = at; post = refl; number = refl; same = λ other. refl; now = λ h. absurd (let no : ⊥ = cc in no) }
with_put-from (Some number) place writes k x at =
    let from = map-at (put_here number place) writes k x at in
    put-from number place writes k x from.0 from.1 from.2

-- and what stands there of one that stood in the list
record InList (place : ℕ) (list : List LaneWrite) (k : ℕ) (old : LaneWrite) : Type 0 where
  new : LaneWrite
  there : slice_get list k ≡ Some new
  post : new.post ≡ old.post
  number : new.number ≡ old.number

here-kept : (number place : ℕ) (x : LaneWrite) → ((put_here number place x).post ≡ x.post) × ((put_here number place x).number ≡ x.number)
here-kept number place x = go (x.number == number) refl
  where
    go : (b : Bool) → (x.number == number) ≡ b → ((put_here number place x).post ≡ x.post) × ((put_here number place x).number ≡ x.number)
    go true is = rw is (refl, refl)
    go false is = rw is (refl, refl)

with_put-at : (put : Option ℕ) (place : ℕ) (writes : List LaneWrite) (k : ℕ) (old : LaneWrite) → slice_get writes k ≡ Some old → InList place (with_put put place writes) k old
with_put-at None place writes k old at = record { new = old; there = at; post = refl; number = refl }
with_put-at (Some number) place writes k old at = record {
  new = put_here number place old;
  there = slice_get-map (put_here number place) writes k ∙ ap (option_map (put_here number place)) at;
  post = (here-kept number place old).0;
  number = (here-kept number place old).1;
}

module _ (w : ShapeValue) (world : IsShape w) (journal : List Event) (legal : is_legal w journal ≡ true) (place : ℕ) (e : Event) (there : slice_get journal place ≡ Some e) (at : EntryPut) (next : ℕ) (notified : Bool) (writes : List LaneWrite) (tracked : IsTracked w journal place at next notified writes) where
  abbrev purged : Bool
  purged = is_purge_of at.origin at.queue e

  abbrev put : Option ℕ
  put = put_in at e

  abbrev count : ℕ
  count = writes_to at (post_of at.origin e)

  abbrev base : List LaneWrite
  base = if purged then [] else with_put put place writes

  abbrev more : List LaneWrite
  more = new_writes place next count

  unpurged-more : (post : ℕ) → purged ≡ false → IsUnpurged journal post place at.origin at.queue → IsUnpurged journal post (place + 1) at.origin at.queue
  unpurged-more post none before k x after within is =
      same-or-not k place
      (λ same.
      let here : slice_get journal place ≡ Some x = subst (λ (n : ℕ). slice_get journal n ≡ Some x) same is in
      let event : e ≡ x = (let some : ◌≡◌ {A = Option Event} (Some e) (Some x) = sym there ∙ here in cc) in
      subst (λ (y : Event). is_purge_of at.origin at.queue y ≡ false) event none)
      (λ apart. before k x after (omega arith) is)

  -- the put of a write of the list, a place further
  put-more : (post number : ℕ) (old new : Option ℕ) → HasPut journal place at post number old → ((put ≡ Some number → ⊥) → new ≡ old) → (put ≡ Some number → new ≡ Some place) → HasPut journal (place + 1) at post number new
  put-more post number old new has same now = go put refl
    where
      event : put ≡ Some number → IsPutAt journal at number place
      event is = there ∙ ap (λ (x : Event). Some x) (put-is at e number is)

      grown : (put ≡ Some number → ⊥) → (o : Option ℕ) → HasPut journal place at post number o → HasPut journal (place + 1) at post number o
      grown other (Some p) h = ((let less = h.0 in omega arith), h.1)
      grown other None h = λ k after within is.
          same-or-not k place
          (λ here.
          let is_e : e ≡ Put at.origin at.queue at.target number Applied =
          (let some : ◌≡◌ {A = Option Event} (Some e) (Some (Put at.origin at.queue at.target number Applied)) = sym there ∙ subst (λ (n : ℕ). slice_get journal n ≡ Some (Put at.origin at.queue at.target number Applied)) here is in cc) in
          other (ap (put_in at) is_e ∙ is-put at number))
          (λ apart. h k after (omega arith) is)

      as-now : put ≡ Some number → HasPut journal (place + 1) at post number new
      as-now is = subst (λ (o : Option ℕ). HasPut journal (place + 1) at post number o) (sym (now is)) (omega arith, event is)

      as-before : (put ≡ Some number → ⊥) → HasPut journal (place + 1) at post number new
      as-before other = subst (λ (o : Option ℕ). HasPut journal (place + 1) at post number o) (sym (same other)) (grown other old has)

      go : (o : Option ℕ) → put ≡ o → HasPut journal (place + 1) at post number new
      go None is = as-before (λ some. let no : ⊥ = cc in no)
      go (Some n) is = same-or-not n number (λ same. as-now (is ∙ ap (λ (m : ℕ). Some m) same)) (λ apart. as-before (λ some. apart (let both : ◌≡◌ {A = Option ℕ} (Some n) (Some number) = sym is ∙ some in cc)))

  listed-base : (b : Bool) → purged ≡ b → (k : ℕ) (x : LaneWrite) → slice_get (if b then [] else with_put put place writes) k ≡ Some x → IsListed w journal (place + 1) at x
  listed-base true is k x h = absurd (let no : ⊥ = cc in no)
  listed-base false is k x h =
      let from = with_put-from put place writes k x h in
      let old = tracked.listed k from.old from.there in
      let earlier = old.earlier in
      let post = from.post in
      record {
        earlier = omega arith;
        posted = subst (λ (p : ℕ). IsPostedAt w journal p at.origin at.queue at.target x.number) (sym from.post)
            (subst (λ (n : ℕ). IsPostedAt w journal from.old.post at.origin at.queue at.target n) (sym from.number) old.posted);
        unpurged = subst (λ (p : ℕ). IsUnpurged journal p (place + 1) at.origin at.queue) (sym from.post) (unpurged-more from.old.post is old.unpurged);
        put = subst (λ (p : ℕ). HasPut journal (place + 1) at p x.number x.put) (sym from.post)
            (subst (λ (n : ℕ). HasPut journal (place + 1) at from.old.post n x.put) (sym from.number) (put-more from.old.post from.old.number from.old.put x.put old.put from.same from.now));
      }

  listed-new : (k : ℕ) (x : LaneWrite) → slice_get more k ≡ Some x → IsListed w journal (place + 1) at x
  listed-new k x h =
      let from = new-from place next count k x h in
      subst (λ (y : LaneWrite). IsListed w journal (place + 1) at y) (sym from.0) (record {
        earlier = omega arith;
        posted = by-post (post_of at.origin e) refl from.1;
        unpurged = λ j y after within is. absurd (let no : ⊥ = omega arith in no);
        put = λ j after within is. let no : ⊥ = omega arith in no;
      })
    where
      by-lane : (post : Post) → post_of at.origin e ≡ Some post → (b : Bool) → goes_to at post ≡ b → k < (if b then post.writes else 0) → IsPostedAt w journal place at.origin at.queue at.target (next + k)
      by-lane post is true goes less = begun w world journal legal place e there at next tracked.numbered post is goes k less
      by-lane post is false goes less = absurd (let no : ⊥ = omega arith in no)

      by-post : (o : Option Post) → post_of at.origin e ≡ o → k < writes_to at o → IsPostedAt w journal place at.origin at.queue at.target (next + k)
      by-post None is less = absurd (let no : ⊥ = omega arith in no)
      by-post (Some post) is less = by-lane post is (goes_to at post) refl less

  all-base : (b : Bool) → purged ≡ b → (post m : ℕ) → post < place → IsPostedAt w journal post at.origin at.queue at.target m → IsUnpurged journal post (place + 1) at.origin at.queue
      → (k : ℕ) × (x : LaneWrite) × (slice_get ((if b then [] else with_put put place writes) ++ more) k ≡ Some x) × (x.post ≡ post) × (x.number ≡ m)
  all-base true is post m less posted unpurged = absurd (let both : true ≡ false = sym is ∙ unpurged place e less (omega arith) there in let no : ⊥ = cc in no)
  all-base false is post m less posted unpurged =
      let old = tracked.all post m less posted (λ k x after within h. unpurged k x after (omega arith) h) in
      let new = with_put-at put place writes old.0 old.1 old.2 in
      (old.0, new.new, prefix-of-joined (with_put put place writes) more old.0 (slice_get_within (with_put put place writes) old.0 new.new new.there) ∙ new.there, new.post ∙ old.3, new.number ∙ old.4)

  all-new : (m : ℕ) → IsPostedAt w journal place at.origin at.queue at.target m → (k : ℕ) × (x : LaneWrite) × (slice_get (base ++ more) k ≡ Some x) × (x.post ≡ place) × (x.number ≡ m)
  all-new m posted =
      let b = only-begun w world journal legal place e there at next tracked.numbered m posted in
      let many : count ≡ b.post.writes = rw (b.is, b.goes) refl in
      let few = b.few in
      let number = b.numbered in
      (length base + b.place, record { post = place; number = next + b.place; put = None }, behind-of-joined base more b.place (length base + b.place) refl ∙ new-at place next count b.place (omega arith), refl, sym number)

  -- what is known a place further
  pub tracked-more : IsTracked w journal (place + 1) at (next + entries_in (post_of at.origin e)) (notified || is_notification_of at next (post_of at.origin e)) (writes_after at place e next writes)
  tracked-more = record {
    numbered = next-more w world journal legal place e there at next tracked.numbered;
    listed = λ k x h. parts k x (append-parts base more k x h);
    all = λ post m less posted unpurged.
        same-or-not post place
        (λ same. subst (λ (p : ℕ). (k : ℕ) × (x : LaneWrite) × (slice_get (base ++ more) k ≡ Some x) × (x.post ≡ p) × (x.number ≡ m)) (sym same)
        (all-new m (subst (λ (p : ℕ). IsPostedAt w journal p at.origin at.queue at.target m) same posted)))
        (λ apart. all-base purged refl post m (omega arith) posted unpurged);
    note = note-more w world journal legal place e there at next tracked.numbered notified tracked.posted tracked.note;
    posted = below notified refl (post_of at.origin e);
  }
    where
      parts : (k : ℕ) (x : LaneWrite) → ((j : ℕ) × (slice_get base j ≡ Some x)) ⊎ ((j : ℕ) × (slice_get more j ≡ Some x)) → IsListed w journal (place + 1) at x
      parts k x (inl b) = listed-base purged refl b.0 x b.1
      parts k x (inr n) = listed-new n.0 x n.1

      by-note : (o : Option Post) → is_notification_of at next o ≡ true → at.number < next + entries_in o
      by-note None h = absurd (let no : ⊥ = cc in no)
      by-note (Some post) h =
          let a = both (goes_to at post) (post.notified && (next + post.posting.entries == at.number + 1)) h in
          let b = both post.notified (next + post.posting.entries == at.number + 1) a.1 in
          let same = eqb-true (next + post.posting.entries) (at.number + 1) b.1 in
          omega arith

      below : (b : Bool) → notified ≡ b → (o : Option Post) → (notified || is_notification_of at next o) ≡ true → at.number < next + entries_in o
      below true is o h = let less = tracked.posted is in omega arith
      below false is o h = by-note o (rw is at h)

-- at the beginning of a journal nothing is known
pub tracked-first : (w : ShapeValue) → IsShape w → (journal : List Event) (at : EntryPut) → IsTracked w journal 0 at 0 false []
tracked-first w world journal at = record {
  numbered = λ s posts leads there. first-next s posts leads there;
  listed = λ k x h. absurd (let no : ⊥ = cc in no);
  all = λ post m less posted unpurged. absurd (let no : ⊥ = omega arith in no);
  note = λ s x leads stands.
      let i = stands-in s at.origin at.queue at.target at.number x stands in
      let below = stands-below s at.origin at.queue at.target at.number x.kind i.posts (reached-sound w [] s world leads) i.there i.in_queues in
      let next = first-next s i.posts leads i.there in
      absurd (let no : ⊥ = omega arith in no);
  posted = λ h. absurd (let no : ⊥ = cc in no);
}
  where
    first-next : (s : State) (posts : Posts) → reached w [] ≡ Ok s → slice_get s.posts at.origin ≡ Some posts → posts.next ≡ 0
    first-next s posts leads there =
        let same : opening w ≡ s = (let ok : ◌≡◌ {A = Result State Why} (Ok (opening w)) (Ok s) = leads in cc) in
        let from = map-at (opening_posts w) (range_with_len 0 w.limits.ranks) at.origin posts (subst (λ (x : State). slice_get x.posts at.origin ≡ Some posts) (sym same) there) in
        ap (λ (p : Posts). p.next) from.2

-- the event that is passed next
pub event-at : {A : Type 0} (xs : List A) (place before : ℕ) (x : A) → before < length (take place xs) → x ≡ get_or (take place xs) before x → slice_get xs before ≡ Some x
event-at {A} xs place before x within is =
    let y = there-within (take place xs) before within in
    let same : x ≡ y.0 = is ∙ get_or_from_slice_get (take place xs) before y.0 x y.1 in
    (taken-from place xs before y.0 y.1).1 ∙ ap (λ (z : A). Some z) (sym same)

pub tracked-as : (w : ShapeValue) (journal : List Event) (place : ℕ) (at : EntryPut) (next next' : ℕ) (notified notified' : Bool) (writes writes' : List LaneWrite) → next' ≡ next → notified' ≡ notified → writes' ≡ writes
    → IsTracked w journal place at next notified writes → IsTracked w journal place at next' notified' writes'
tracked-as w journal place at next next' notified notified' writes writes' a b c tracked = rw (a, b, c) tracked
