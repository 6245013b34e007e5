-- Where each event is noted in its owner's projection, in a list that nothing else changes, these lists are the history cut by owner.
use Rattle.std.proofs.Common.{◌≡◌, ◌≢◌, ℕ, zero, suc, Bool, true, false, cond, eqb, eq-eqb, ne_eqb, List, [], ◌∷◌, ◌++◌, append_assoc, append-nil, set, slice_get, Option, Some, refl, ap, sym, subst, ◌∙◌}
use Rattle.std.specs.List.{list_any}
use mathlib.Core.Logic.{dite}
use native.Mathlib.Decide.{ℕ_discrete}
use Rattle.commit_table.specs.Projections.{ProjectedMachine, with_projections, stepped, run, projections_of}
use Rattle.commit_table.specs.ProjectionLaws.{chained, get_set_here, get_set_else, among_at, parts_found, did}

-- the events of an owner, each with its place, of a history that begins at a place
abbrev pub cut : {E : Type 0} → (E → ℕ) → ℕ → ℕ → List E → List (ℕ × E)
cut owner i place [] = []
cut owner i place (e ∷ es) = cond (eqb i (owner e)) ((place, e) ∷ cut owner i (suc place) es) (cut owner i (suc place) es)

module _ {P X E : Type 0} (a : ProjectedMachine P X E) (list : P → List (ℕ × E)) where
  -- each projection has a list, which only a note in it changes
  pub record Lists : Type 0 where
    pub first : (i : ℕ) (p : P) → slice_get a.first i ≡ Some p → list p ≡ []
    pub notes : (place : ℕ) (e : E) (p : P) → list (a.noted place e p) ≡ list p ++ (place, e) ∷ []
    pub own : (place : ℕ) (e : E) (own : P) (others : List P) (new : P × List P) → a.act place e own others ≡ Some new → list new.0 ≡ list own
    pub others : (place : ℕ) (e : E) (own : P) (others : List P) (new : P × List P) → a.act place e own others ≡ Some new
        → (k : ℕ) (q : P) → slice_get new.1 k ≡ Some q → (p : P) × (slice_get others k ≡ Some p) × (list q ≡ list p)
    -- no event has its owner as a peer
    pub apart : (own : P) (e : E) → list_any (eqb (a.owner e)) (a.peers own e) ≡ false

  -- new projections of some shards have the lists that the old ones had
  abbrev Same : List P → List ℕ → List P → Type 0
  Same ps is qs = (k j : ℕ) (q : P) → slice_get is k ≡ Some j → slice_get qs k ≡ Some q → (x : P) × (slice_get ps j ≡ Some x) × (list q ≡ list x)

  one_part : (ps : List P) (i : ℕ) (p q : P) → slice_get ps i ≡ Some p → slice_get ps i ≡ Some q → p ≡ q
  one_part ps i p q e f = let a : ◌≡◌ {A = Option P} (Some p) (Some q) = sym e ∙ f in cc

  lists_kept : (ps : List P) (is : List ℕ) (qs : List P) → Same ps is qs → (i : ℕ) (p : P) → slice_get ps i ≡ Some p → (r : P) × (slice_get (with_projections ps is qs) i ≡ Some r) × (list r ≡ list p)
  lists_kept ps [] qs same i p at = (p, at, refl)
  lists_kept ps (j ∷ is) [] same i p at = (p, at, refl)
  lists_kept ps (j ∷ is) (q ∷ qs) same i p at =
      let x = same 0 j q refl refl in
      let now : (k : ℕ) (y : P) → slice_get ps k ≡ Some y → (z : P) × (slice_get (set ps j q) k ≡ Some z) × (list z ≡ list y) = λ k y there. dite (ℕ_discrete k j)
      (λ is.
      let old : slice_get ps j ≡ Some y = subst (λ z. slice_get ps z ≡ Some y) is there in
      (q, subst (λ z. slice_get (set ps j q) z ≡ Some q) (sym is) (get_set_here ps j y q old), x.2 ∙ ap list (one_part ps j x.0 y x.1 old)))
      (λ ne. (y, get_set_else ps j k q ne ∙ there, refl)) in
      let here = now i p at in
      let rest = lists_kept (set ps j q) is qs (λ k m r at part. let y = same (suc k) m r at part in let z = now m y.0 y.1 in (z.0, z.1, y.2 ∙ sym z.2)) i here.0 here.1 in
      (rest.0, rest.1, rest.2 ∙ here.2)

  -- what one event adds to the lists
  one_noted : (l : Lists) (place : ℕ) (ps : List P) (e : E) (after : List P) → stepped a place ps e ≡ Some after → (i : ℕ) (p : P) → slice_get ps i ≡ Some p
      → (r : P) × (slice_get after i ≡ Some r) × (list r ≡ list p ++ cond (eqb i (a.owner e)) ((place, e) ∷ []) [])
  one_noted l place ps e after s i p at =
      let d = did a place ps e after s in
      let o : ℕ = a.owner e in
      let noted : P = a.noted place e d.new.0 in
      let one : List P = set ps o noted in
      let same : Same one (a.peers d.own e) d.new.1 = λ k j q peer part.
      let x = l.others place e d.own d.others d.new d.acts k q part in
      let was = parts_found ps (a.peers d.own e) d.others k j d.others_there peer in
      let ne : j ≢ o = λ is. absurd (let b = among_at (a.peers d.own e) k j peer in let c = l.apart d.own e in let f = ap (λ z. list_any (eqb z) (a.peers d.own e)) is in cc) in
      (was.0, get_set_else ps o j noted ne ∙ was.2, x.2 ∙ ap list (one_part d.others k x.0 was.0 x.1 was.1)) in
      let now : (z : P) × (slice_get one i ≡ Some z) × (list z ≡ list p ++ cond (eqb i o) ((place, e) ∷ []) []) = dite (ℕ_discrete i o)
      (λ is.
      let old : slice_get ps o ≡ Some p = subst (λ z. slice_get ps z ≡ Some p) is at in
      let longer : list noted ≡ list p ++ (place, e) ∷ [] = l.notes place e d.new.0 ∙ ap (λ z. z ++ (place, e) ∷ []) (l.own place e d.own d.others d.new d.acts ∙ ap list (one_part ps o d.own p d.own_there old)) in (
        noted,
        subst (λ z. slice_get one z ≡ Some noted) (sym is) (get_set_here ps o p noted old),
        subst (λ b. list noted ≡ list p ++ cond b ((place, e) ∷ []) []) (sym (eq-eqb i o is)) longer,
      ))
      (λ ne. (p, get_set_else ps o i noted ne ∙ at, subst (λ b. list p ≡ list p ++ cond b ((place, e) ∷ []) []) (sym (ne_eqb i o ne)) (sym (append-nil (list p))))) in
      let rest = lists_kept one (a.peers d.own e) d.new.1 same i now.0 now.1 in
      (rest.0, ap (λ z. slice_get z i) d.is ∙ rest.1, rest.2 ∙ now.2)

  cut_first : (i place : ℕ) (e : E) (es : List E) (b : Bool) → cond {A = List (ℕ × E)} b ((place, e) ∷ []) [] ++ cut a.owner i (suc place) es ≡ cond b ((place, e) ∷ cut a.owner i (suc place) es) (cut a.owner i (suc place) es)
  cut_first i place e es true = refl
  cut_first i place e es false = refl

  run_noted : (l : Lists) (place : ℕ) (ps : List P) (h : List E) (after : List P) → run a place ps h ≡ Some after → (i : ℕ) (p : P) → slice_get ps i ≡ Some p
      → (r : P) × (slice_get after i ≡ Some r) × (list r ≡ list p ++ cut a.owner i place h)
  run_noted l place ps [] after e i p at = let is : ps ≡ after = cc in (p, subst (λ z. slice_get z i ≡ Some p) is at, sym (append-nil (list p)))
  run_noted l place ps (x ∷ h) after e i p at =
      let s = chained (λ qs. run a (suc place) qs h) (stepped a place ps x) after e in
      let one = one_noted l place ps x s.0 s.1 i p at in
      let rest = run_noted l (suc place) s.0 h after s.2 i one.0 one.1 in
      let added : List (ℕ × E) = cond (eqb i (a.owner x)) ((place, x) ∷ []) [] in
      (rest.0, rest.1, rest.2 ∙ (ap (λ z. z ++ cut a.owner i (suc place) h) one.2 ∙ (append_assoc (list p) added (cut a.owner i (suc place) h) ∙ ap (λ z. list p ++ z) (cut_first i place x h (eqb i (a.owner x))))))

  -- after a history, the list of each projection is the history cut by owner
  pub lists_are_cut : Lists → (h : List E) (ps : List P) → projections_of a h ≡ Some ps → (i : ℕ) (p : P) → slice_get a.first i ≡ Some p → (r : P) × (slice_get ps i ≡ Some r) × (list r ≡ cut a.owner i zero h)
  lists_are_cut l h ps e i p at = let r = run_noted l zero a.first h ps e i p at in (r.0, r.1, r.2 ∙ ap (λ z. z ++ cut a.owner i zero h) (l.first i p at))
