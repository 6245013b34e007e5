-- The two ranks are a lawful machine: each event is one more in its owner's journal, and there is room for it there.
use Rattle.std.proofs.Common.{eqb, ◌≡◌, ℕ, zero, suc, ◌+◌, ◌^◌, ◌<◌, ◌≤◌, Bool, true, false, cond, ltb, ◌||◌, ne_eqb, List, [], ◌∷◌, length, map, slice_get, Option, None, Some, refl, ap, sym, subst, ◌∙◌, arith, length-append}
use Rattle.std.proofs.lemmas.List.{map-append}
use Rattle.std.specs.Prelude.{option_and_then}
use Rattle.std.proofs.lemmas.Bool.{ltb-true, lt-ltb}
use Rattle.std.specs.List.{list_any}
use Rattle.commit_table.specs.Machine.{Laws}
use Rattle.commit_table.specs.Projections.{stepped, projections_at, projections_of, with_projections, Lasts}
use Rattle.commit_table.specs.declared.ranks.RankEvent.{RankEvent}
use Rattle.commit_table.specs.declared.ranks.RankEvent.TheVariants.{Link, Post}
use Rattle.commit_table.specs.declared.ranks.RankProjection.{RankProjection}
use Rattle.commit_table.specs.Ranks.{most_events, empty_projection, rank_event_owner, other_rank, rank_event_peers, rank_event_step, rank_event_placed, rank_projections, ranks}
use Rattle.commit_table.specs.ProjectionLaws.{weighed, projection_laws}
use Rattle.commit_table.specs.ProjectionJournals.{cut, Lists, lists_are_cut}

abbrev count : RankProjection → ℕ
count p = length p.journal

abbrev AreTwo : List RankProjection → Type 0
AreTwo ps = (a : RankProjection) × (b : RankProjection) × (ps ≡ a ∷ b ∷ []) × (count a ≤ most_events) × (count b ≤ most_events)

abbrev weight : List RankProjection → ℕ
weight [] = 0
weight (a ∷ []) = count a
weight (a ∷ (b ∷ rest)) = count a + count b

one_more : (place : ℕ) (e : RankEvent) (p : RankProjection) → count (rank_event_placed place e p) ≡ count p + 1
one_more place e p = length-append p.journal (record { place = place; act = e } ∷ [])

-- where there was room, the projections are the new ones
roomy : (own new : RankProjection) (rest : List RankProjection) (b : Bool) (f : RankProjection × List RankProjection → List RankProjection) (qs : List RankProjection) → b ≡ ltb (count own) most_events
    → option_and_then (λ (z : RankProjection × List RankProjection). Some (f z)) (cond b (Some (new, rest)) None) ≡ Some qs → (qs ≡ f (new, rest)) × (count own < most_events)
roomy own new rest true f qs is e = (let a : f (new, rest) ≡ qs = cc in sym a, ltb-true (count own) most_events (sym is))
roomy own new rest false f qs is e = absurd cc

first_grows : (place : ℕ) (e : RankEvent) (a b new other : RankProjection) (qs : List RankProjection) → count a < most_events → count b ≤ most_events → count new ≡ count a → count other ≡ count b → qs ≡ rank_event_placed place e new ∷ other ∷ [] → AreTwo qs × (count a + count b < weight qs)
first_grows place e a b new other qs lt le same also is =
    let more = one_more place e new in ((rank_event_placed place e new, other, is, omega arith, omega arith), subst (λ z. count a + count b < weight z) (sym is) (omega arith))

second_grows : (place : ℕ) (e : RankEvent) (a b new other : RankProjection) (qs : List RankProjection) → count b < most_events → count a ≤ most_events → count new ≡ count b → count other ≡ count a → qs ≡ other ∷ rank_event_placed place e new ∷ [] → AreTwo qs × (count a + count b < weight qs)
second_grows place e a b new other qs lt le same also is =
    let more = one_more place e new in ((other, rank_event_placed place e new, is, omega arith, omega arith), subst (λ z. count a + count b < weight z) (sym is) (omega arith))

-- what a post of the first rank makes, linked or not; and of the second
abbrev first_step : ℕ → RankProjection → RankProjection → Bool → Option (List RankProjection)
first_step place a b linked =
    option_and_then (λ qs. option_and_then (λ (z : RankProjection × List RankProjection). Some (with_projections (rank_event_placed place (Post zero) z.0 ∷ b ∷ []) (cond linked (1 ∷ []) []) z.1)) (rank_event_step place (Post zero) a qs)) (projections_at (a ∷ b ∷ []) (cond linked (1 ∷ []) []))

abbrev second_step : ℕ → RankProjection → RankProjection → Bool → Option (List RankProjection)
second_step place a b linked =
    option_and_then (λ qs. option_and_then (λ (z : RankProjection × List RankProjection). Some (with_projections (a ∷ rank_event_placed place (Post (suc zero)) z.0 ∷ []) (cond linked (0 ∷ []) []) z.1)) (rank_event_step place (Post (suc zero)) b qs)) (projections_at (a ∷ b ∷ []) (cond linked (0 ∷ []) []))

post_first : (place : ℕ) (a b : RankProjection) (linked : Bool) (qs : List RankProjection) → count b ≤ most_events → first_step place a b linked ≡ Some qs → AreTwo qs × (count a + count b < weight qs)
post_first place a b true qs le s =
    let r = roomy a a (record b { messages = b.messages + 1; latest = place } ∷ []) (ltb (count a) most_events) (λ z. with_projections (rank_event_placed place (Post zero) z.0 ∷ b ∷ []) (1 ∷ []) z.1) qs refl s in
    first_grows place (Post zero) a b a (record b { messages = b.messages + 1; latest = place }) qs r.1 le refl refl r.0
post_first place a b false qs le s = absurd cc

post_second : (place : ℕ) (a b : RankProjection) (linked : Bool) (qs : List RankProjection) → count a ≤ most_events → second_step place a b linked ≡ Some qs → AreTwo qs × (count a + count b < weight qs)
post_second place a b true qs le s =
    let r = roomy b b (record a { messages = a.messages + 1; latest = place } ∷ []) (ltb (count b) most_events) (λ z. with_projections (a ∷ rank_event_placed place (Post (suc zero)) z.0 ∷ []) (0 ∷ []) z.1) qs refl s in
    second_grows place (Post (suc zero)) a b b (record a { messages = a.messages + 1; latest = place }) qs r.1 le refl refl r.0
post_second place a b false qs le s = absurd cc

grows_at : (place : ℕ) (a b : RankProjection) (e : RankEvent) (qs : List RankProjection) → count a ≤ most_events → count b ≤ most_events → stepped rank_projections place (a ∷ b ∷ []) e ≡ Some qs → AreTwo qs × (count a + count b < weight qs)
grows_at place a b (Link zero) qs la lb s =
    let r = roomy a (record a { linked = true }) [] (ltb (count a) most_events) (λ z. rank_event_placed place (Link zero) z.0 ∷ b ∷ []) qs refl s in first_grows place (Link zero) a b (record a { linked = true }) b qs r.1 lb refl refl r.0
grows_at place a b (Link (suc zero)) qs la lb s =
    let r = roomy b (record b { linked = true }) [] (ltb (count b) most_events) (λ z. a ∷ rank_event_placed place (Link (suc zero)) z.0 ∷ []) qs refl s in second_grows place (Link (suc zero)) a b (record b { linked = true }) a qs r.1 la refl refl r.0
grows_at place a b (Link (suc (suc k))) qs la lb s = absurd cc
grows_at place a b (Post zero) qs la lb s = post_first place a b a.linked qs lb s
grows_at place a b (Post (suc zero)) qs la lb s = post_second place a b b.linked qs la s
grows_at place a b (Post (suc (suc k))) qs la lb s = absurd cc

grows : (place : ℕ) (ps : List RankProjection) (e : RankEvent) (qs : List RankProjection) → AreTwo ps → stepped rank_projections place ps e ≡ Some qs → AreTwo qs × (weight ps < weight qs)
grows place ps e qs two s = let step = subst (λ z. stepped rank_projections place z e ≡ Some qs) two.2 s in
    let g = grows_at place two.0 two.1 e qs two.3 two.4 step in (g.0, subst (λ z. weight z < weight qs) (sym two.2) g.1)

bounded : (h : List RankEvent) (ps : List RankProjection) → projections_of rank_projections h ≡ Some ps → length h < 2 ^ 64
bounded h ps e =
    let w = weighed rank_projections AreTwo weight grows zero (empty_projection ∷ empty_projection ∷ []) h ps (empty_projection, empty_projection, refl, omega arith, omega arith) e in
    let two = w.0 in let le = w.1 in let is : weight ps ≡ count two.0 + count two.1 = ap weight two.2 in let a = two.3 in let b = two.4 in omega arith

-- whether there is room does not hang on the place
room_lasts : {A : Type 0} (b : Bool) (x y new : A) → cond b (Some x) None ≡ Some new → (made : A) × (cond b (Some y) None ≡ Some made)
room_lasts true x y new e = (y, refl)
room_lasts false x y new e = absurd cc

lasts : Lasts rank_projections
lasts place later (Link rank) own others new le acts = (new, acts)
lasts place later (Post rank) own [] new le acts = absurd cc
lasts place later (Post rank) own (other ∷ []) new le acts =
    room_lasts (ltb (length own.journal) most_events) (own, (record other { messages = other.messages + 1; latest = place }) ∷ []) (own, (record other { messages = other.messages + 1; latest = later }) ∷ []) new acts
lasts place later (Post rank) own (other ∷ (more ∷ rest)) new le acts = absurd cc

pub ranks_lawful : Laws ranks
ranks_lawful = projection_laws rank_projections lasts bounded

-- each rank's journal, as pairs of a place and an event
abbrev pub noted_acts : RankProjection → List (ℕ × RankEvent)
noted_acts p = map (λ n. (n.place, n.act)) p.journal

made_of : {A : Type 0} (b : Bool) (x new : A) → cond b (Some x) None ≡ Some new → x ≡ new
made_of true x new e = cc
made_of false x new e = absurd cc

first_empty : (i : ℕ) (p : RankProjection) → slice_get (empty_projection ∷ empty_projection ∷ []) i ≡ Some p → noted_acts p ≡ []
first_empty zero p e = let is : empty_projection ≡ p = cc in ap noted_acts (sym is)
first_empty (suc zero) p e = let is : empty_projection ≡ p = cc in ap noted_acts (sym is)
first_empty (suc (suc i)) p e = absurd cc

own_noted : (place : ℕ) (e : RankEvent) (own : RankProjection) (others : List RankProjection) (new : RankProjection × List RankProjection) → rank_event_step place e own others ≡ Some new → noted_acts new.0 ≡ noted_acts own
own_noted place (Link rank) own others new acts = ap (λ (z : RankProjection × List RankProjection). noted_acts z.0) (sym (made_of (ltb (count own) most_events) (record own { linked = true }, []) new acts))
own_noted place (Post rank) own [] new acts = absurd cc
own_noted place (Post rank) own (other ∷ []) new acts =
    ap (λ (z : RankProjection × List RankProjection). noted_acts z.0) (sym (made_of (ltb (count own) most_events) (own, (record other { messages = other.messages + 1; latest = place }) ∷ []) new acts))
own_noted place (Post rank) own (other ∷ (more ∷ rest)) new acts = absurd cc

one_other : (other made : RankProjection) (qs : List RankProjection) → qs ≡ made ∷ [] → noted_acts made ≡ noted_acts other → (k : ℕ) (q : RankProjection) → slice_get qs k ≡ Some q → (p : RankProjection) × (slice_get (other ∷ []) k ≡ Some p) × (noted_acts q ≡ noted_acts p)
one_other other made qs is same zero q at = let new : made ≡ q = (let e = ap (λ z. slice_get z 0) is in cc) in (other, refl, ap noted_acts (sym new) ∙ same)
one_other other made qs is same (suc k) q at = absurd (let e = ap (λ z. slice_get z (suc k)) is in cc)

others_noted : (place : ℕ) (e : RankEvent) (own : RankProjection) (others : List RankProjection) (new : RankProjection × List RankProjection) → rank_event_step place e own others ≡ Some new
    → (k : ℕ) (q : RankProjection) → slice_get new.1 k ≡ Some q → (p : RankProjection) × (slice_get others k ≡ Some p) × (noted_acts q ≡ noted_acts p)
others_noted place (Link rank) own others new acts k q at =
    absurd (let e = ap (λ (z : RankProjection × List RankProjection). slice_get z.1 k) (made_of (ltb (count own) most_events) (record own { linked = true }, []) new acts) in cc)
others_noted place (Post rank) own [] new acts k q at = absurd cc
others_noted place (Post rank) own (other ∷ []) new acts k q at =
    one_other other (record other { messages = other.messages + 1; latest = place }) new.1
    (ap (λ (z : RankProjection × List RankProjection). z.1) (sym (made_of (ltb (count own) most_events) (own, (record other { messages = other.messages + 1; latest = place }) ∷ []) new acts))) refl k q at
others_noted place (Post rank) own (other ∷ (more ∷ rest)) new acts k q at = absurd cc

not_itself : (rank : ℕ) (b : Bool) → b ≡ ltb 0 rank → list_any (eqb rank) (cond b (0 ∷ []) (1 ∷ [])) ≡ false
not_itself rank true e = ap (λ z. z || false) (ne_eqb rank 0 (λ is. absurd (let lt = ltb-true 0 rank (sym e) in omega arith)))
not_itself zero false e = refl
not_itself (suc rank) false e = absurd (let lt = lt-ltb 0 (suc rank) (omega arith) in cc)

not_other : (linked : Bool) (rank : ℕ) → list_any (eqb rank) (cond linked (other_rank rank) []) ≡ false
not_other true rank = not_itself rank (ltb 0 rank) refl
not_other false rank = refl

rank_apart : (own : RankProjection) (e : RankEvent) → list_any (eqb (rank_event_owner e)) (rank_event_peers own e) ≡ false
rank_apart own (Link rank) = refl
rank_apart own (Post rank) = not_other own.linked rank

rank_lists : Lists rank_projections noted_acts
rank_lists = record {
  first = first_empty;
  notes = λ place e p. map-append (λ n. (n.place, n.act)) p.journal (record { place = place; act = e } ∷ []);
  own = own_noted;
  others = others_noted;
  apart = rank_apart;
}

-- each rank's journal is the history cut by owner
pub rank_journals : (h : List RankEvent) (ps : List RankProjection) → projections_of rank_projections h ≡ Some ps → (i : ℕ) (p : RankProjection) → slice_get rank_projections.first i ≡ Some p
    → (r : RankProjection) × (slice_get ps i ≡ Some r) × (noted_acts r ≡ cut rank_event_owner i zero h)
rank_journals = lists_are_cut rank_projections noted_acts rank_lists
