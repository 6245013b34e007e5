-- What begins to stand in a lane by an event of a legal history.
use Rattle.std.proofs.Common.{◌≡◌, ℕ, ◌+◌, ◌<◌, ◌≤◌, arith, Bool, true, false, ◌==◌, ◌&&◌, ◌||◌, List, take, Option, None, Some, Ok, refl, sym, ap, ◌∙◌, subst, ◌⊎◌, inl, inr}
use Rattle.std.specs.List.{slice_get}
use Rattle.std.proofs.lemmas.Bool.{eq-eqb, eqb-true, ne_eqb, ltb-true}
use Rattle.gaspi_types.proofs.Chains.{both}
use Rattle.gaspi_types.proofs.Items.{same-or-not}
use Rattle.gaspi_types.specs.Kinds.{is_write_kind, is_notify_kind}
use Rattle.gaspi_types.specs.Lanes.{is_notify}
use Rattle.gaspi_types.specs.World.{ShapeValue, IsShape}
use Rattle.gaspi_types.specs.declared.entries.Entry.{Entry}
use Rattle.gaspi_types.specs.declared.entries.Kind.{Kind}
use Rattle.gaspi_types.specs.declared.events.Event.{Event}
use Rattle.gaspi_model.specs.Shards.{entry_after}
use Rattle.gaspi_model.specs.Sound.{IsSound}
use Rattle.gaspi_model.specs.Step.{reached, is_legal}
use Rattle.gaspi_model.specs.declared.states.Posts.{Posts}
use Rattle.gaspi_model.specs.declared.states.State.{State}
use Rattle.gaspi_model.proofs.Histories.{reached-sound}
use Rattle.call_journal.specs.Explanations.{IsPostedAt}
use Rattle.call_journal.specs.LaneWrites.{post_of, entries_in, goes_to, is_notification_of}
use Rattle.call_journal.specs.declared.lane_writes.EntryPut.{EntryPut}
use Rattle.call_journal.specs.declared.lane_writes.Post.{Post}
use Rattle.call_journal.proofs.Places.{IsStepAt, step-at, stands-in, stands-below, is-standing, same-state}
use Rattle.call_journal.proofs.Standing.{InQueues, FromBefore, from-before, IsNew, next-after, entry-from, posted-some, write-posted}

-- a number of an entry of the rank so far is that of the rank's posts
abbrev pub IsNextAt : ShapeValue → List Event → (place origin next : ℕ) → Type 0
IsNextAt w journal place origin next = (s : State) (posts : Posts) → reached w (take place journal) ≡ Ok s → slice_get s.posts origin ≡ Some posts → posts.next ≡ next

-- a lane that an entry is of
goes-both : (at : EntryPut) (post : Post) → goes_to at post ≡ true → (post.posting.rank ≡ at.target) × (post.posting.queue ≡ at.queue)
goes-both at post goes = let b = both (post.posting.rank == at.target) (post.posting.queue == at.queue) goes in (eqb-true _ _ b.0, eqb-true _ _ b.1)

goes-there : (at : EntryPut) (post : Post) → post.posting.rank ≡ at.target → post.posting.queue ≡ at.queue → goes_to at post ≡ true
goes-there at post rank queue = rw (eq-eqb _ _ rank, eq-eqb _ _ queue) refl

-- a write that the event at a place has posted
pub record IsBegun (at : EntryPut) (e : Event) (next m : ℕ) : Type 0 where
  pub post : Post
  pub is : post_of at.origin e ≡ Some post
  pub goes : goes_to at post ≡ true
  pub place : ℕ
  pub numbered : m ≡ next + place
  pub few : place < post.writes

module _ (w : ShapeValue) (world : IsShape w) (journal : List Event) (legal : is_legal w journal ≡ true) (place : ℕ) (e : Event) (there : slice_get journal place ≡ Some e) (at : EntryPut) (next : ℕ) (numbered : IsNextAt w journal place at.origin next) where
  here : IsStepAt w journal place e
  here = step-at w journal place e legal there

  before-sound : IsSound here.s
  before-sound = reached-sound w (take place journal) here.s world here.before

  later-sound : IsSound here.t
  later-sound = reached-sound w (take (place + 1) journal) here.t world here.later

  pub next-more : IsNextAt w journal (place + 1) at.origin (next + entries_in (post_of at.origin e))
  next-more t posts leads posts_there =
      let same = same-state (reached w (take (place + 1) journal)) t here.t leads here.later in
      let from = from-before here.s here.t e here.step_is at.origin posts (subst (λ (x : State). slice_get x.posts at.origin ≡ Some posts) same posts_there) in
      let old = numbered here.s from.before here.before from.there in
      let new = next-after here.s.limits e at.origin from.before posts from.changed in
      omega arith

  pub begun : (post : Post) → post_of at.origin e ≡ Some post → goes_to at post ≡ true → (k : ℕ) → k < post.writes → IsPostedAt w journal place at.origin at.queue at.target (next + k)
  begun post is goes k less =
      let wp = write-posted here.s here.t e before-sound here.step_is at.origin post is k less in
      let lane = goes-both at post goes in
      let old : wp.before.next ≡ next = numbered here.s wp.before here.before wp.there in
      let stands : InQueues wp.posts.queues at.queue at.target (next + k) wp.kind =
      subst (λ (n : ℕ). InQueues wp.posts.queues at.queue at.target (n + k) wp.kind) old
      (subst (λ (q : ℕ). InQueues wp.posts.queues q at.target (wp.before.next + k) wp.kind) lane.1
      (subst (λ (t : ℕ). InQueues wp.posts.queues post.posting.queue t (wp.before.next + k) wp.kind) lane.0 wp.stands)) in
      let entry = is-standing here.t at.origin at.queue at.target (next + k) wp.kind wp.posts later-sound wp.after_there stands in
      record {
        after = record { state = here.t; entry = entry.0; leads = here.later; stands = entry.1; kind = rw entry.2 wp.write };
        before = λ h.
            let same = same-state (reached w (take place journal)) h.state here.s h.leads here.before in
            let i = stands-in here.s at.origin at.queue at.target (next + k) h.entry (subst (λ (x : State). entry_after x at.origin at.queue at.target (next + k) ≡ Some h.entry) same h.stands) in
            let below = stands-below here.s at.origin at.queue at.target (next + k) h.entry.kind i.posts before-sound i.there i.in_queues in
            let is_next = numbered here.s i.posts here.before i.there in
            omega arith;
      }

  pub only-begun : (m : ℕ) → IsPostedAt w journal place at.origin at.queue at.target m → IsBegun at e next m
  only-begun m h =
      let same = same-state (reached w (take (place + 1) journal)) h.after.state here.t h.after.leads here.later in
      let i = stands-in here.t at.origin at.queue at.target m h.after.entry (subst (λ (x : State). entry_after x at.origin at.queue at.target m ≡ Some h.after.entry) same h.after.stands) in
      let from = from-before here.s here.t e here.step_is at.origin i.posts i.there in
      go h.after.entry.kind h.after.kind from (entry-from here.s.limits e at.origin from.before i.posts from.changed at.queue at.target m h.after.entry.kind i.in_queues)
    where
      go : (kind : Kind) → is_write_kind kind ≡ true → {after : Posts} (from : FromBefore here.s e at.origin after) → InQueues from.before.queues at.queue at.target m kind ⊎ IsNew at.origin e at.queue at.target from.before.next m kind → IsBegun at e next m
      go kind write from (inl old) =
          let entry = is-standing here.s at.origin at.queue at.target m kind from.before before-sound from.there old in
          absurd (h.before (record { state = here.s; entry = entry.0; leads = here.before; stands = entry.1; kind = rw entry.2 write }))
      go kind write from (inr new) =
          let old = numbered here.s from.before here.before from.there in
          record {
            post = new.post;
            is = new.is;
            goes = goes-there at new.post new.to_target new.to_queue;
            place = new.place;
            numbered = new.numbered ∙ ap (λ (n : ℕ). n + new.place) old;
            few = ltb-true new.place new.post.writes (sym new.write ∙ write);
          }

  -- whether the entry itself is a notification
  pub note-more : (notified : Bool) → (notified ≡ true → at.number < next)
      → ((s : State) (x : Entry) → reached w (take place journal) ≡ Ok s → entry_after s at.origin at.queue at.target at.number ≡ Some x → is_notify x ≡ notified)
      → (t : State) (x : Entry) → reached w (take (place + 1) journal) ≡ Ok t → entry_after t at.origin at.queue at.target at.number ≡ Some x → is_notify x ≡ (notified || is_notification_of at next (post_of at.origin e))
  note-more notified posted note t x leads stands =
      let same = same-state (reached w (take (place + 1) journal)) t here.t leads here.later in
      let i = stands-in here.t at.origin at.queue at.target at.number x (subst (λ (y : State). entry_after y at.origin at.queue at.target at.number ≡ Some x) same stands) in
      let from = from-before here.s here.t e here.step_is at.origin i.posts i.there in
      go from (entry-from here.s.limits e at.origin from.before i.posts from.changed at.queue at.target at.number x.kind i.in_queues)
    where
      -- one that stood before was not posted now
      not-now : {new : Posts} (from : FromBefore here.s e at.origin new) → at.number < next → (o : Option Post) → post_of at.origin e ≡ o → is_notification_of at next o ≡ false
      not-now from below None is = refl
      not-now {new} from below (Some post) is =
          let some = posted-some here.s.limits e at.origin from.before new from.changed post is in
          rw (ne_eqb (next + post.posting.entries) (at.number + 1) (λ same. let no : ⊥ = omega arith in no)) (no-note (goes_to at post) post.notified)
        where
          no-note : (a b : Bool) → (a && (b && false)) ≡ false
          no-note true true = refl
          no-note true false = refl
          no-note false b = refl

      or-false : (b : Bool) → b ≡ (b || false)
      or-false true = refl
      or-false false = refl

      shifted : (a b c : ℕ) → (a + 1 == b) ≡ (c + b == c + a + 1)
      shifted a b c = same-or-not (a + 1) b
          (λ same. eq-eqb (a + 1) b same ∙ sym (eq-eqb (c + b) (c + a + 1) (omega arith)))
          (λ apart. ne_eqb (a + 1) b apart ∙ sym (ne_eqb (c + b) (c + a + 1) (λ same. apart (omega arith))))

      fresh : (b : Bool) → notified ≡ b → next ≤ at.number → notified ≡ false
      fresh true is above = absurd (let below = posted is in let no : ⊥ = omega arith in no)
      fresh false is above = is

      go : {new : Posts} (from : FromBefore here.s e at.origin new) → InQueues from.before.queues at.queue at.target at.number x.kind ⊎ IsNew at.origin e at.queue at.target from.before.next at.number x.kind
          → is_notify x ≡ (notified || is_notification_of at next (post_of at.origin e))
      go from (inl old) =
          let entry = is-standing here.s at.origin at.queue at.target at.number x.kind from.before before-sound from.there old in
          let below = stands-below here.s at.origin at.queue at.target at.number x.kind from.before before-sound from.there old in
          let is_next = numbered here.s from.before here.before from.there in
          ap is_notify_kind (sym entry.2) ∙ note here.s entry.0 here.before entry.1 ∙ or-false notified
          ∙ ap (λ (b : Bool). notified || b) (sym (not-now from (omega arith) (post_of at.origin e) refl))
      go from (inr new) =
          let is_next = numbered here.s from.before here.before from.there in
          let number = new.numbered in
          let not_before = fresh notified refl (omega arith) in
          let goes = goes-there at new.post new.to_target new.to_queue in
          let number' : at.number ≡ next + new.place = omega arith in
          let tests = shifted new.place new.post.posting.entries next in
          rw (not_before, new.is, goes) (new.note ∙ ap (λ (b : Bool). new.post.notified && b) (tests ∙ ap (λ (n : ℕ). next + new.post.posting.entries == n + 1) (sym number')))
