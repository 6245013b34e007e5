-- What the entries bring that stand in a state is what its history says.
use Rattle.std.proofs.Common.{◌≡◌, ℕ, zero, suc, ◌+◌, ◌≤◌, Bool, true, false, ◌==◌, List, [], ◌∷◌, ◌++◌, length, map, take, Option, None, Some, Result, Ok, refl, sym, ap, ◌∙◌, subst, ◌⊎◌, inl, inr, arith}
use Rattle.std.specs.Prelude.{if◌then◌else◌}
use Rattle.std.specs.Option.{option_map}
use Rattle.std.specs.List.{slice_get, slice_set, range_with_len}
use Rattle.std.proofs.lemmas.Bool.{eq-eqb}
use Rattle.std.proofs.lemmas.List.{append-nil, length-append, length-map}
use Rattle.std.proofs.lemmas.Option.{slice_get-map, slice_get_within}
use Rattle.gaspi_types.proofs.Items.{append-parts, behind-of-joined, prefix-of-joined, map-at, slice_get-set, slice_get-set_same, there-within}
use Rattle.gaspi_types.specs.CallRows.{row_of}
use Rattle.gaspi_types.specs.Lanes.{posted_entries}
use Rattle.gaspi_types.specs.World.{ShapeValue, IsShape}
use Rattle.gaspi_types.specs.declared.call_rows.Posting.{Posting}
use Rattle.gaspi_types.specs.declared.calls.Call.{Call}
use Rattle.gaspi_types.specs.declared.entries.Entry.{Entry}
use Rattle.gaspi_types.specs.declared.entries.Kind.{Kind}
use Rattle.gaspi_types.specs.declared.entries.Queue.{Queue}
use Rattle.gaspi_types.specs.declared.events.Event.{Event}
use Rattle.gaspi_types.specs.declared.events.Event.TheVariants.{Called, Joined, Take, Put}
use Rattle.gaspi_types.specs.declared.replies.Reply.TheVariants as replies
use Rattle.gaspi_types.specs.declared.shapes.CallerId.{CallerId}
use Rattle.gaspi_model.specs.Posting.{counted}
use Rattle.gaspi_model.specs.Sound.{IsSound}
use Rattle.gaspi_model.specs.State.{opening, opening_posts}
use Rattle.gaspi_model.specs.Step.{step, reached, is_legal}
use Rattle.gaspi_model.specs.declared.states.Posts.{Posts}
use Rattle.gaspi_model.specs.declared.states.State.{State}
use Rattle.gaspi_model.specs.declared.states.Why.{Why}
use Rattle.gaspi_model.proofs.Changed.Posted.{post-done}
use Rattle.gaspi_model.proofs.Histories.{reached-sound}
use Rattle.call_journal.specs.LaneWrites.{post_of, post_in}
use Rattle.call_journal.specs.declared.lane_writes.Post.{Post}
use Rattle.call_journal.proofs.Places.{step-at, stands-below, same-state, taken-more}
use Rattle.call_journal.proofs.Standing.{InLane, InQueue, InQueues, Changed, Quiet, Posted, from-before, post-done-by}
use Rattle.journal_pictures.specs.Deliveries.{delivery_of, deliveries_of, posted_in, posted}
use Rattle.journal_pictures.specs.declared.deliveries.Delivery.{Delivery}
use Rattle.journal_pictures.proofs.DeliveryTables.{posted-more}
use Rattle.journal_pictures.proofs.PostedKinds.{call-brings, unposting}

-- what a rank has posted so far, by number, is what those of its entries bring that stand
pub record AreBrought (posts : Posts) (list : List Delivery) : Type 0 where
  pub next : posts.next ≡ length list
  pub each : (queue target m : ℕ) (kind : Kind) → InQueues posts.queues queue target m kind → slice_get list m ≡ Some (delivery_of kind)

-- an entry of a post
record IsPostedEntry (next : ℕ) (kinds : List Kind) (m : ℕ) (kind : Kind) : Type 0 where
  place : ℕ
  there : slice_get kinds place ≡ Some kind
  numbered : m ≡ next + place

posted-entry : (next : ℕ) (kinds : List Kind) (k : ℕ) (e : Entry) → slice_get (posted_entries next kinds) k ≡ Some e → IsPostedEntry next kinds e.number e.kind
posted-entry next [] k e at = absurd (let no : ⊥ = cc in no)
posted-entry next (x ∷ kinds) zero e at =
    let number : next ≡ e.number = cc in
    let kind : x ≡ e.kind = cc in
    record { place = 0; there = ap (λ (y : Kind). Some y) kind; numbered = omega arith }
posted-entry next (x ∷ kinds) (suc k) e at =
    let rest = posted-entry (next + 1) kinds k e at in
    let number = rest.numbered in
    record { place = suc rest.place; there = rest.there; numbered = omega arith }

-- what stands after a post stood before, or is one of its entries
after-post : {P : Type 0} (queues : List Queue) (q : Queue) (lane : List Entry) (next : ℕ) (kinds : List Kind) (count to_queue to_target : ℕ) → slice_get queues to_queue ≡ Some q → slice_get q.lanes to_target ≡ Some lane
    → (queue target m : ℕ) (kind : Kind)
    → InQueues (slice_set queues to_queue (record q { open_count = count; lanes = slice_set q.lanes to_target (lane ++ posted_entries next kinds) })) queue target m kind
    → (InQueues queues queue target m kind → P) → (IsPostedEntry next kinds m kind → P) → P
after-post {P} queues q lane next kinds count to_queue to_target q_there lane_there queue target m kind h old new = by-queue (slice_get-set queues to_queue queue q' h.q h.queue_there)
  where
    entries : List Entry
    entries = posted_entries next kinds

    q' : Queue
    q' = record q { open_count = count; lanes = slice_set q.lanes to_target (lane ++ entries) }

    by-entry : (queue ≡ to_queue) → (target ≡ to_target) → (has : InLane (lane ++ entries) m kind)
        → ((j : ℕ) × (slice_get lane j ≡ Some has.entry)) ⊎ ((j : ℕ) × (slice_get entries j ≡ Some has.entry)) → P
    by-entry same here has (inl before) = old (record {
      q = q;
      queue_there = ap (slice_get queues) same ∙ q_there;
      in_queue = record {
        lane = lane;
        lane_there = ap (slice_get q.lanes) here ∙ lane_there;
        has = record { place = before.0; entry = has.entry; there = before.1; numbered = has.numbered; kind_is = has.kind_is };
      };
    })
    by-entry same here has (inr posted) =
        let p = posted-entry next kinds posted.0 has.entry posted.1 in
        new (record { place = p.place; there = rw (sym has.kind_is) p.there; numbered = sym has.numbered ∙ p.numbered })

    by-lane : (queue ≡ to_queue) → (i : InQueue q' target m kind) → ((target ≡ to_target) × (i.lane ≡ lane ++ entries)) ⊎ (slice_get q.lanes target ≡ Some i.lane) → P
    by-lane same i (inl is) =
        let has : InLane (lane ++ entries) m kind = subst (λ (l : List Entry). InLane l m kind) is.1 i.has in
        by-entry same is.0 has (append-parts lane entries has.place has.entry has.there)
    by-lane same i (inr before) = old (record {
      q = q;
      queue_there = ap (slice_get queues) same ∙ q_there;
      in_queue = record { lane = i.lane; lane_there = before; has = i.has };
    })

    by-queue : ((queue ≡ to_queue) × (h.q ≡ q')) ⊎ (slice_get queues queue ≡ Some h.q) → P
    by-queue (inl is) =
        let i : InQueue q' target m kind = subst (λ (x : Queue). InQueue x target m kind) is.1 h.in_queue in
        by-lane is.0 i (slice_get-set q.lanes to_target target (lane ++ entries) i.lane i.lane_there)
    by-queue (inr there) = old (record { q = h.q; queue_there = there; in_queue = h.in_queue })

-- an event that posts nothing
nothing-posted : (origin : ℕ) (e : Event) → post_of origin e ≡ None → posted_in origin e ≡ []
nothing-posted origin (Called c call replies.Done) none = go (c.rank == origin) refl
  where
    by-posting : (o : Option Posting) → (row_of call).posting ≡ o → post_in call o ≡ None → deliveries_of call ≡ []
    by-posting None is h = unposting call is
    by-posting (Some to) is h = absurd (let no : ⊥ = cc in no)

    go : (b : Bool) → (c.rank == origin) ≡ b → (if b then deliveries_of call else []) ≡ []
    go false is = refl
    go true is = by-posting (row_of call).posting refl (rw is at none)
nothing-posted origin (Called c call other) none = refl
nothing-posted origin (Joined c id args) none = refl
nothing-posted origin (Take o queue target number outcome) none = refl
nothing-posted origin (Put o queue target number outcome) none = refl

-- the posts of a rank, where they were replaced
pub replaced-there : (s t : State) (rank origin : ℕ) (posts after : Posts) → rank ≡ origin → t.posts ≡ slice_set s.posts rank after → slice_get s.posts rank ≡ Some posts → slice_get t.posts origin ≡ Some after
replaced-there s t rank origin posts after same all there =
    subst (λ (k : ℕ). slice_get t.posts k ≡ Some after) same (rw all (slice_get-set_same s.posts rank posts after there))

-- the posts of a rank with the entries of a post
abbrev with_kinds : Posts → Queue → List Entry → List Kind → ℕ → ℕ → Posts
with_kinds before q lane kinds to_queue to_target = record (counted before) {
  queues = slice_set before.queues to_queue (record q {
    open_count = q.open_count + length kinds;
    lanes = slice_set q.lanes to_target (lane ++ posted_entries before.next kinds);
  });
  next = before.next + length kinds;
}

post-brings : (before : Posts) (list : List Delivery) (q : Queue) (lane : List Entry) (kinds : List Kind) (to_queue to_target : ℕ) → AreBrought before list
    → slice_get before.queues to_queue ≡ Some q → slice_get q.lanes to_target ≡ Some lane → AreBrought (with_kinds before q lane kinds to_queue to_target) (list ++ map delivery_of kinds)
post-brings before list q lane kinds to_queue to_target was q_there lane_there = record {
  next = (let many = length-append list (map delivery_of kinds) in let each : length (map delivery_of kinds) ≡ length kinds = length-map kinds delivery_of in let first = was.next in omega arith);
  each = λ queue target m kind i.
      after-post before.queues q lane before.next kinds (q.open_count + length kinds) to_queue to_target q_there lane_there queue target m kind i
      (λ old. let at = was.each queue target m kind old in prefix-of-joined list (map delivery_of kinds) m (slice_get_within list m _ at) ∙ at)
      (λ new. behind-of-joined list (map delivery_of kinds) new.place m (new.numbered ∙ ap (λ (n : ℕ). n + new.place) was.next)
      ∙ (slice_get-map delivery_of kinds new.place ∙ ap (option_map delivery_of) new.there));
}

-- the posts of a rank are one
same-posts : (t : State) (origin : ℕ) (posts after : Posts) (list : List Delivery) → slice_get t.posts origin ≡ Some posts → slice_get t.posts origin ≡ Some after → AreBrought after list → AreBrought posts list
same-posts t origin posts after list there now brought =
    let same : after ≡ posts = (let some : ◌≡◌ {A = Option Posts} (Some after) (Some posts) = sym now ∙ there in cc) in
    subst (λ (p : Posts). AreBrought p list) same brought

-- a call that is done
pub posted-by : (origin : ℕ) (e : Event) (c : CallerId) (call : Call) → e ≡ Called c call replies.Done → c.rank ≡ origin → posted_in origin e ≡ deliveries_of call
posted-by origin e c call event mine = ap (posted_in origin) event ∙ (rw (eq-eqb c.rank origin mine) refl)

-- what a rank has posted, one event more
brought-more : (s t : State) (e : Event) (origin : ℕ) (list : List Delivery) → IsSound s → step s e ≡ Ok t
    → ((posts : Posts) → slice_get s.posts origin ≡ Some posts → AreBrought posts list)
    → (posts : Posts) → slice_get t.posts origin ≡ Some posts → AreBrought posts (list ++ posted_in origin e)
brought-more s t e origin list sound h known posts there = go (post_of origin e) refl
  where
    quiet : (before : Posts) → AreBrought before list → post_of origin e ≡ None → Changed s.limits e origin before posts → AreBrought posts (list ++ posted_in origin e)
    quiet before was none (Quiet none' next shrinks) =
        let same : list ++ posted_in origin e ≡ list = ap (λ (ds : List Delivery). list ++ ds) (nothing-posted origin e none) ∙ append-nil list in
        rw same (record { next = next ∙ was.next; each = λ queue target m kind i. was.each queue target m kind (shrinks queue target m kind i) })
    quiet before was none (Posted call to kinds is posting asks next queues) =
        absurd (let some : ◌≡◌ {A = Option Post} None (post_in call (Some to)) = sym none ∙ is in let no : ⊥ = cc in no)

    go : (o : Option Post) → post_of origin e ≡ o → AreBrought posts (list ++ posted_in origin e)
    go None none =
        let from = from-before s t e h origin posts there in
        quiet from.before (known from.before from.there) none from.changed
    go (Some post) is =
        let d = post-done-by origin e post is in
        let p = post-done s t d.c d.call post.posting sound d.posting (subst (λ (x : Event). step s x ≡ Ok t) d.event h) in
        let was = known p.posts (subst (λ (k : ℕ). slice_get s.posts k ≡ Some p.posts) d.mine p.posts_there) in
        let now = replaced-there s t d.c.rank origin p.posts _ d.mine (ap (λ (x : State). x.posts) p.after) p.posts_there in
        rw (posted-by origin e d.c d.call d.event d.mine ∙ sym (call-brings s.limits.notes d.c.rank p.posts.segments d.call post.posting p.kinds d.posting p.asks))
        (same-posts t origin posts _ (list ++ map delivery_of p.kinds) there now (post-brings p.posts list p.q p.lane p.kinds post.posting.queue post.posting.rank was p.queue_there p.lane_there))

pub shifted : (n : ℕ) → n + 1 ≡ suc n
shifted n = omega arith

-- one event more
pub taken-suc : (journal : List Event) (place : ℕ) (e : Event) → slice_get journal place ≡ Some e → take (suc place) journal ≡ take place journal ++ e ∷ []
taken-suc journal place e at = subst (λ (n : ℕ). take n journal ≡ take place journal ++ e ∷ []) (shifted place) (taken-more journal place e at)

module _ (w : ShapeValue) (world : IsShape w) (journal : List Event) (legal : is_legal w journal ≡ true) (origin : ℕ) where
  -- what it has posted up to a place
  pub brought-at : (place : ℕ) → place ≤ length journal → (s : State) → reached w (take place journal) ≡ Ok s → (posts : Posts) → slice_get s.posts origin ≡ Some posts
      → AreBrought posts (posted origin (take place journal))
  brought-at zero within s leads posts there =
      let same : opening w ≡ s = (let ok : ◌≡◌ {A = Result State Why} (Ok (opening w)) (Ok s) = leads in cc) in
      let from = map-at (opening_posts w) (range_with_len 0 w.limits.ranks) origin posts (subst (λ (x : State). slice_get x.posts origin ≡ Some posts) (sym same) there) in
      let next : posts.next ≡ 0 = ap (λ (p : Posts). p.next) from.2 in
      record {
        next = next;
        each = λ queue target m kind i.
            absurd (let below = stands-below s origin queue target m kind posts (reached-sound w [] s world leads) there i in let no : ⊥ = omega arith in no);
      }
  brought-at (suc place) within s leads posts there =
      let x = there-within journal place (omega arith) in
      let here = step-at w journal place x.0 legal x.1 in
      let later : reached w (take (suc place) journal) ≡ Ok here.t = subst (λ (n : ℕ). reached w (take n journal) ≡ Ok here.t) (shifted place) here.later in
      let same = same-state (reached w (take (suc place) journal)) s here.t leads later in
      let all : posted origin (take (suc place) journal) ≡ posted origin (take place journal) ++ posted_in origin x.0 = ap (posted origin) (taken-suc journal place x.0 x.1) ∙ posted-more origin (take place journal) x.0 in
      rw all
      (brought-more here.s here.t x.0 origin (posted origin (take place journal)) (reached-sound w (take place journal) here.s world here.before) here.step_is
      (λ before before_there. brought-at place (omega arith) here.s here.before before before_there)
      posts (subst (λ (y : State). slice_get y.posts origin ≡ Some posts) same there))
