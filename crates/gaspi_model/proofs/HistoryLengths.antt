-- Histories of a world are short: each event takes one of those that its ranks may record.
use Rattle.std.proofs.Common.{◌≡◌, ℕ, ◌+◌, ◌-◌, ◌*◌, ◌^◌, ◌<◌, ◌≤◌, true, nat_le, List, [], ◌∷◌, length, Ok, sym, ap, subst, ◌∙◌, arith}
use Rattle.std.specs.List.{All}
use Rattle.std.proofs.lemmas.Bool.{leb-true}
use Rattle.std.proofs.lemmas.List.FromFn.{length-map-range_with_len}
use Rattle.std.proofs.lemmas.List.Elements.{All-nil, All-cons}
use Rattle.std.proofs.lemmas.List.Sums.{sum_by-le}
use Rattle.gaspi_types.specs.Ranges.{is_between}
use Rattle.gaspi_types.specs.World.{ShapeValue, IsShape}
use Rattle.gaspi_types.specs.declared.events.Event.{Event}
use Rattle.gaspi_types.proofs.Chains.{bind_then, both, same_Ok}
use Rattle.gaspi_model.specs.Sound.{IsSound, events_left}
use Rattle.gaspi_model.specs.State.{opening, opening_posts}
use Rattle.gaspi_model.specs.Step.{step, after, reached, is_legal}
use Rattle.gaspi_model.specs.declared.states.Posts.{Posts}
use Rattle.gaspi_model.specs.declared.states.State.{State}
use Rattle.gaspi_model.proofs.Histories.{leads}
use Rattle.gaspi_model.proofs.Sound.Opening.{opens}
use Rattle.gaspi_model.proofs.Sound.Steps.{steps, counts}

-- the events left of a sound state are fewer by each step
pub left-after : (s t : State) (events : List Event) → IsSound s → after s events ≡ Ok t → events_left t + length events ≡ events_left s
left-after s t [] sound h = (let same : s ≡ t = same_Ok s t h in ap (λ (x : State). events_left x + 0) (sym same) ∙ omega arith)
left-after s t (e ∷ events) sound h =
    bind_then (step s e) _ t h (λ next made later.
    let rest = left-after next t events (steps s next e sound made) later in
    let one = counts s next e sound made in
    omega arith)

between : (low high n : ℕ) → is_between low high n ≡ true → n ≤ high
between low high n is = leb-true n high (both (nat_le low n) (nat_le n high) is).1

all-few : (events most : ℕ) → events ≤ most → (posts : List Posts) → All (λ (p : Posts). events - p.events ≤ most) posts
all-few events most few [] = All-nil (λ (p : Posts). events - p.events ≤ most)
all-few events most few (p ∷ posts) = All-cons (λ (q : Posts). events - q.events ≤ most) p posts (omega arith) (all-few events most few posts)

-- a world's ranks record at most so many events
pub few-left : (w : ShapeValue) → IsShape w → events_left (opening w) ≤ 1048576
few-left w world =
    let one = both (is_between 1 16 w.limits.ranks) _ world.limits in
    let ranks = between 1 16 w.limits.ranks one.0 in
    let two = both (is_between 1 8 w.limits.queues) _ one.1 in
    let three = both (is_between 1 256 w.limits.depth) _ two.1 in
    let four = both (is_between 1 1024 w.limits.notes) _ three.1 in
    let five = both (is_between 1 64 w.limits.inbox) _ four.1 in
    let events = between 1 65536 w.limits.events five.1 in
    let many : length (opening w).posts ≡ w.limits.ranks = length-map-range_with_len (opening_posts w) 0 w.limits.ranks in
    let most = sum_by-le (λ (p : Posts). w.limits.events - p.events) 65536 (opening w).posts (all-few w.limits.events 65536 events (opening w).posts) in
    omega arith

-- which are EVENTS for each rank
left-at-start : (w : ShapeValue) → events_left (opening w) ≤ w.limits.ranks * w.limits.events
left-at-start w =
    let many : length (opening w).posts ≡ w.limits.ranks = length-map-range_with_len (opening_posts w) 0 w.limits.ranks in
    let most = sum_by-le (λ (p : Posts). w.limits.events - p.events) w.limits.events (opening w).posts (all-few w.limits.events w.limits.events (omega arith) (opening w).posts) in
    subst (λ n. events_left (opening w) ≤ n * w.limits.events) many most

within : (w : ShapeValue) (h : List Event) → IsShape w → is_legal w h ≡ true → length h ≤ events_left (opening w)
within w h world legal =
    let end = leads (reached w h) legal in
    let left = left-after (opening w) end.0 h (opens w world) end.1 in
    omega arith

-- so a legal history has no more events
pub within-limits : (w : ShapeValue) (h : List Event) → IsShape w → is_legal w h ≡ true → length h ≤ w.limits.ranks * w.limits.events
within-limits w h world legal =
    let left = within w h world legal in
    let most = left-at-start w in
    omega arith

pub within-most : (w : ShapeValue) (h : List Event) → IsShape w → is_legal w h ≡ true → length h ≤ 16 * 65536
within-most w h world legal =
    let left = within w h world legal in
    let most = few-left w world in
    omega arith

-- and a history that leads to a state is short
pub few-events : (w : ShapeValue) (h : List Event) (s : State) → IsShape w → reached w h ≡ Ok s → length h < 2 ^ 64
few-events w h s world is =
    let left = left-after (opening w) s h (opens w world) is in
    let few = few-left w world in
    omega arith
