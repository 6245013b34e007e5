-- A rank has as many events in its part of the journal as its count says.
use Rattle.std.proofs.Common.{◌≡◌, ℕ, suc, ◌+◌, ◌<◌, Bool, true, false, cond, eqb, eq-eqb, ne_eqb, List, [], ◌∷◌, ◌++◌, length, length-append, Option, None, Some, Ok, refl, sym, ap, ◌∙◌, subst, arith}
use Rattle.std.specs.List.{slice_get, slice_set, range_with_len}
use Rattle.gaspi_types.specs.CallRows.{row_of}
use Rattle.gaspi_types.specs.World.{ShapeValue, IsShape}
use Rattle.gaspi_types.specs.declared.calls.Call.{Call}
use Rattle.gaspi_types.specs.declared.events.Event.{Event}
use Rattle.gaspi_types.specs.declared.events.PlacedEvent.{PlacedEvent}
use Rattle.gaspi_types.specs.declared.events.Event.TheVariants.{Called, Joined, Take, Put}
use Rattle.gaspi_types.specs.declared.replies.Reply.{Reply}
use Rattle.std.proofs.Math.Bridge.{le_prop}
use Rattle.std.proofs.Math.Logic.{∥∥₁_elim}
use Rattle.gaspi_types.specs.declared.shapes.Limits.{Limits}
use Rattle.gaspi_types.proofs.Items.{slice_get-set_same, slice_get-set_other, same-or-not, map-at, there-within}
use Rattle.gaspi_model.specs.Sound.{IsSound}
use Rattle.gaspi_model.specs.State.{opening, opening_posts}
use Rattle.gaspi_model.specs.Step.{step, after, reached, is_legal, owner_of, call_message}
use Rattle.gaspi_model.specs.declared.states.Posts.{Posts}
use Rattle.gaspi_model.specs.declared.states.State.{State}
use Rattle.gaspi_model.proofs.Histories.{after-first, prefix, reached-sound}
use Rattle.gaspi_model.proofs.Made.{step-called, step-take, step-put}
use Rattle.gaspi_model.proofs.CollectivePosts.{IsMet, on_group-called, on_group-joined}
use Rattle.gaspi_model.proofs.Sound.Opening.{opens}
use Rattle.gaspi_model.proofs.Sound.Steps.{steps, called-events, take-events, put-events, depth-few}
use Rattle.gaspi_model.proofs.Sound.Registered.{registering, registered-from}
use Rattle.gaspi_world.specs.ShardLaws.{arrives, limits-are, last-step, owner-within}
use Rattle.gaspi_world.specs.RankJournals.{journal_of, journal_from, recorded_by, placed_at, journal-last, own-noted}
use Rattle.gaspi_world.specs.ShardMachine.{state_after}

-- posts afterwards come from posts before, with one event more where they are the owner's
abbrev Counts : List Posts → List Posts → ℕ → Type 0
Counts before after me = (rank : ℕ) (q : Posts) → slice_get after rank ≡ Some q → (p : Posts) × (slice_get before rank ≡ Some p) × (q.events ≡ p.events + cond (eqb rank me) 1 0)

set-counts : (table : List Posts) (me : ℕ) (posts after : Posts) → slice_get table me ≡ Some posts → after.events ≡ posts.events + 1 → Counts table (slice_set table me after) me
set-counts table me posts after at more rank q there = same-or-not rank me
    (λ is.
    let here : slice_get (slice_set table me after) me ≡ Some q = subst (λ (k : ℕ). slice_get (slice_set table me after) k ≡ Some q) is there in
    let new : after ≡ q = (let some : ◌≡◌ {A = Option Posts} (Some after) (Some q) = sym (slice_get-set_same table me posts after at) ∙ here in cc) in (
      posts,
      subst (λ (k : ℕ). slice_get table k ≡ Some posts) (sym is) at,
      subst (λ (b : Bool). q.events ≡ posts.events + cond b 1 0) (sym (eq-eqb rank me is)) (ap (λ (p : Posts). p.events) (sym new) ∙ more),
    ))
    (λ apart. (
      q,
      sym (slice_get-set_other table me rank after (λ e. apart (sym e))) ∙ there,
      subst (λ (b : Bool). q.events ≡ q.events + cond b 1 0) (sym (ne_eqb rank me apart)) (omega arith),
    ))

registered-counts : (table : List Posts) (ranks me : ℕ) (p posts after : Posts) (call : Call) (reply : Reply) → slice_get table me ≡ Some posts → after.events ≡ posts.events + 1 → Counts table (registering ranks me p call reply (slice_set table me after)) me
registered-counts table ranks me p posts after call reply at more rank q there =
    let from = registered-from ranks me p call reply (slice_set table me after) rank q there in
    let was = set-counts table me posts after at more rank from.0 from.2 in
    (was.0, was.1, ap (λ (x : Posts). x.events) from.3 ∙ was.2)

on_group-counts : (s t : State) (me : ℕ) (posts after : Posts) → IsMet s t me posts after → Counts s.posts t.posts me
on_group-counts s t me posts after met rank q there =
    set-counts s.posts me posts after met.there met.keeps.events rank q (ap (λ (all : List Posts). slice_get all rank) (sym met.leaves) ∙ there)

step-counts : (s t : State) (e : Event) → IsSound s → step s e ≡ Ok t → Counts s.posts t.posts (owner_of e)
step-counts s t (Joined c id args) sound h = let met = on_group-joined s t c id args h in on_group-counts s t c.rank met.0 met.1 met.2
step-counts s t (Called c call reply) sound h = by-group (row_of call).group refl
  where
    by-group : (o : Option ℕ) → (row_of call).group ≡ o → Counts s.posts t.posts c.rank
    by-group (Some id) named = let met = on_group-called s t c id call reply named h in on_group-counts s t c.rank met.0 met.1 met.2
    by-group None plain = λ rank q there.
        let made = step-called s t c call reply plain h in
        let m = made.3 in
        let more = called-events s.limits c.rank made.0 (call_message s c.rank call) made.1 c.thread call reply made.2 (depth-few s.limits sound.limits) (sound.posts c.rank made.0 m.posts_there) m.is in
        registered-counts s.posts s.limits.ranks c.rank made.0 made.0 made.2.posts call reply m.posts_there more rank q
        (ap (λ (x : State). slice_get x.posts rank) (sym m.leaves) ∙ there)
step-counts s t (Take origin queue target number outcome) sound h = λ rank q there.
    let made = step-take s t origin queue target number outcome h in
    let m = made.4 in
    let more = take-events s.limits made.0 made.1 queue target number outcome made.2 made.3 m.is in
    set-counts s.posts origin made.0 made.2 m.posts_there more rank q (ap (λ (x : State). slice_get x.posts rank) (sym m.leaves) ∙ there)
step-counts s t (Put origin queue target number outcome) sound h = λ rank q there.
    let made = step-put s t origin queue target number outcome h in
    let m = made.4 in
    let more = put-events made.0 made.1 queue target number outcome made.2 made.3 m.is in
    set-counts s.posts origin made.0 made.2.posts m.posts_there more rank q (ap (λ (x : State). slice_get x.posts rank) (sym m.leaves) ∙ there)

from-length : (rank place : ℕ) (e : Event) (h : List Event) → length (journal_from rank place (e ∷ h)) ≡ cond (eqb rank (owner_of e)) 1 0 + length (journal_from rank (suc place) h)
from-length rank place e h = go (eqb rank (owner_of e))
  where
    go : (b : Bool) → length (cond b (placed_at place e ∷ []) [] ++ journal_from rank (suc place) h) ≡ cond b 1 0 + length (journal_from rank (suc place) h)
    go true = omega arith
    go false = omega arith

all-count : (s t : State) (h : List Event) (place rank : ℕ) (q : Posts) → IsSound s → after s h ≡ Ok t → slice_get t.posts rank ≡ Some q
    → (p : Posts) × (slice_get s.posts rank ≡ Some p) × (q.events ≡ p.events + length (journal_from rank place h))
all-count s t [] place rank q sound run there =
    let same : s ≡ t = cc in
    (q, ap (λ (x : State). slice_get x.posts rank) same ∙ there, omega arith)
all-count s t (e ∷ h) place rank q sound run there =
    let first = after-first s t e h run in
    let rest = all-count first.0 t h (suc place) rank q (steps s first.0 e sound first.1) first.2 there in
    let one = step-counts s first.0 e sound first.1 rank rest.0 rest.1 in
    let more = one.2 in
    let others = rest.2 in
    let all = from-length rank place e h in
    (one.0, one.1, omega arith)

-- so there is room for a rank's events where it has room for EVENTS
pub journal-length : (w : ShapeValue) (h : List Event) (s : State) (rank : ℕ) (q : Posts) → IsShape w → reached w h ≡ Ok s → slice_get s.posts rank ≡ Some q → length (journal_of rank h) ≡ q.events
journal-length w h s rank q world run there =
    let all = all-count (opening w) s h 0 rank q (opens w world) run there in
    let first = map-at (opening_posts w) (range_with_len 0 w.limits.ranks) rank all.0 all.1 in
    let none : all.0.events ≡ 0 = ap (λ (p : Posts). p.events) first.2 in
    let more = all.2 in
    omega arith

sound-after : (w : ShapeValue) (h : List Event) → IsShape w → is_legal w h ≡ true → IsSound (state_after w h)
sound-after w h world legal = reached-sound w h (state_after w h) world (arrives w h legal)

owner-rank : (w : ShapeValue) (h : List Event) (e : Event) → IsShape w → is_legal w (h ++ e ∷ []) ≡ true → owner_of e < w.limits.ranks
owner-rank w h e world legal =
    let before = prefix w h (e ∷ []) legal in
    subst (λ (n : ℕ). owner_of e < n) (ap (λ (l : Limits). l.ranks) (limits-are w h before)) (owner-within (state_after w h) (state_after w (h ++ e ∷ [])) e (sound-after w h world before) (last-step w h e legal))

-- the posts of the owner of the last event
owner-there : (w : ShapeValue) (h : List Event) (e : Event) → IsShape w → is_legal w (h ++ e ∷ []) ≡ true → (p : Posts) × (slice_get (state_after w (h ++ e ∷ [])).posts (owner_of e) ≡ Some p)
owner-there w h e world legal =
    let ranks : (state_after w (h ++ e ∷ [])).limits.ranks ≡ w.limits.ranks = ap (λ (l : Limits). l.ranks) (limits-are w (h ++ e ∷ []) legal) in
    let many : length (state_after w (h ++ e ∷ [])).posts ≡ w.limits.ranks = (sound-after w (h ++ e ∷ []) world legal).ranks ∙ ranks in
    there-within (state_after w (h ++ e ∷ [])).posts (owner_of e) (subst (λ (n : ℕ). owner_of e < n) (sym many) (owner-rank w h e world legal))

none-there : (w : ShapeValue) (h : List Event) (e : Event) → ∥ IsShape w ∥₁ → is_legal w (h ++ e ∷ []) ≡ true → slice_get (state_after w (h ++ e ∷ [])).posts (owner_of e) ≡ None → ⊥
none-there w h e valid legal none = ∥∥₁_elim {P = ⊥} valid (λ a b. absurd a) (λ world. let there = owner-there w h e world legal in let no : ⊥ = cc in no)

pub owner-posts : (w : ShapeValue) (h : List Event) (e : Event) → ∥ IsShape w ∥₁ → is_legal w (h ++ e ∷ []) ≡ true → (p : Posts) × (slice_get (state_after w (h ++ e ∷ [])).posts (owner_of e) ≡ Some p)
owner-posts w h e valid legal = go (slice_get (state_after w (h ++ e ∷ [])).posts (owner_of e)) refl
  where
    go : (o : Option Posts) → slice_get (state_after w (h ++ e ∷ [])).posts (owner_of e) ≡ o → (p : Posts) × (slice_get (state_after w (h ++ e ∷ [])).posts (owner_of e) ≡ Some p)
    go (Some p) at = (p, at)
    go None at = absurd (none-there w h e valid legal at)

-- There is room for one more event of a rank, where it may follow.
some-room : (w : ShapeValue) (h : List Event) (e : Event) → IsShape w → is_legal w (h ++ e ∷ []) ≡ true → length (journal_of (owner_of e) h) < w.limits.events
some-room w h e world legal =
    let there = owner-there w h e world legal in
    let t : State = state_after w (h ++ e ∷ []) in
    let sound = sound-after w (h ++ e ∷ []) world legal in
    let count = journal-length w (h ++ e ∷ []) t (owner_of e) there.0 world (arrives w (h ++ e ∷ []) legal) there.1 in
    let room = (sound.posts (owner_of e) there.0 there.1).room in
    let events : t.limits.events ≡ w.limits.events = ap (λ (l : Limits). l.events) (limits-are w (h ++ e ∷ []) legal) in
    let noted : recorded_by (owner_of e) (length h) e ≡ placed_at (length h) e ∷ [] = own-noted (owner_of e) (length h) e refl in
    let last : length (journal_of (owner_of e) (h ++ e ∷ [])) ≡ length (journal_of (owner_of e) h) + 1 =
    ap length (journal-last (owner_of e) h e ∙ ap (λ (l : List PlacedEvent). journal_of (owner_of e) h ++ l) noted) ∙ length-append (journal_of (owner_of e) h) (placed_at (length h) e ∷ []) in
    omega arith

pub room-for : (w : ShapeValue) (h : List Event) (e : Event) → ∥ IsShape w ∥₁ → is_legal w (h ++ e ∷ []) ≡ true → length (journal_of (owner_of e) h) < w.limits.events
room-for w h e valid legal = ∥∥₁_elim {P = length (journal_of (owner_of e) h) < w.limits.events} valid le_prop (λ world. some-room w h e world legal)
