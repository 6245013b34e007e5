-- The machine in shards is lawful, whatever the numbering.
use Rattle.std.proofs.Common.{◌≡◌, ◌≢◌, ℕ, zero, suc, ◌^◌, ◌<◌, true, false, eqb, List, [], ◌∷◌, ◌++◌, append-nil, map, length, Option, Some, Result, Ok, Err, is_ok, refl, sym, ap, ◌∙◌, subst}
use Rattle.std.specs.List.{slice_get, list_any}
use Rattle.std.proofs.Math.Bridge.{le_prop}
use Rattle.std.proofs.Math.Logic.{∥∥₁_elim}
use Rattle.std.proofs.lemmas.Option.{slice_get_within}
use Rattle.gaspi_types.specs.World.{ShapeValue, IsShape}
use Rattle.gaspi_types.specs.declared.events.Event.{Event}
use Rattle.gaspi_types.specs.declared.events.PlacedEvent.{PlacedEvent}
use Rattle.gaspi_types.specs.declared.shapes.Limits.{Limits}
use Rattle.gaspi_types.proofs.Chains.{found_then, same_Ok}
use Rattle.gaspi_model.specs.State.{opening}
use Rattle.gaspi_model.specs.Shards.{AgreeOnShard, AgreeOn, HaveSameResult, numbers_of, without_repeats}
use Rattle.gaspi_model.specs.Sound.{IsSound}
use Rattle.gaspi_model.specs.Step.{step, after, reached, is_legal, owner_of, cause_without_owner}
use Rattle.gaspi_model.specs.declared.states.Shard.{Shard}
use Rattle.gaspi_model.specs.declared.states.Shard.TheVariants as parts
use Rattle.gaspi_model.specs.declared.states.State.{State}
use Rattle.gaspi_model.specs.declared.states.Why.{Why}
use Rattle.gaspi_model.proofs.Histories.{after-step, after-first, after-both, after-joined, after-limits, leads, prefix}
use Rattle.gaspi_model.proofs.Local.Steps.{coarse-frame, coarse-determined, coarse-owner, footprint-by-owner}
use Rattle.gaspi_model.proofs.Sound.Steps.{steps, limits-stay}
use Rattle.commit_table.specs.Machine.{Laws}
use Rattle.gaspi_model.proofs.HistoryLengths.{few-events}
use Rattle.gaspi_world.specs.Numbering.{Numbering}
use Rattle.gaspi_world.specs.RankJournals.{journal_of, recorded_by, journal-last, none-noted}
use Rattle.gaspi_world.specs.ShardMachine.{Meaning, state_in, state_after, SameAt, HasParts, IsValueAfter, AgreeAt, shard_machine}

-- Parts that are the same.
pub same-self : (s : State) (part : Shard) → AgreeOnShard s s part
same-self s (parts.Posts rank) = refl
same-self s (parts.Memory rank) = refl
same-self s (parts.Group id) = refl

pub same-back : (s t : State) (part : Shard) → AgreeOnShard s t part → AgreeOnShard t s part
same-back s t (parts.Posts rank) h = sym h
same-back s t (parts.Memory rank) h = sym h
same-back s t (parts.Group id) h = sym h

pub same-through : (s t u : State) (part : Shard) → AgreeOnShard s t part → AgreeOnShard t u part → AgreeOnShard s u part
same-through s t u (parts.Posts rank) h k = h ∙ k
same-through s t u (parts.Memory rank) h k = h ∙ k
same-through s t u (parts.Group id) h k = h ∙ k

-- The state after a history.
pub state-is : (w : ShapeValue) (h : List Event) (s : State) → reached w h ≡ Ok s → state_after w h ≡ s
state-is w h s is = ap (λ (r : Result State Why). state_in w r) is

pub arrives : (w : ShapeValue) (h : List Event) → is_legal w h ≡ true → reached w h ≡ Ok (state_after w h)
arrives w h legal =
    let s = leads (reached w h) legal in
    s.1 ∙ ap (λ (t : State). let r : Result State Why = Ok t in r) (sym (state-is w h s.0 s.1))

pub limits-are : (w : ShapeValue) (h : List Event) → is_legal w h ≡ true → (state_after w h).limits ≡ w.limits
limits-are w h legal = after-limits (opening w) (state_after w h) h (arrives w h legal)

-- the last event of a legal history is a step
pub last-step : (w : ShapeValue) (h : List Event) (e : Event) → is_legal w (h ++ e ∷ []) ≡ true → step (state_after w h) e ≡ Ok (state_after w (h ++ e ∷ []))
last-step w h e legal =
    let t = state_after w (h ++ e ∷ []) in
    let both = after-both (opening w) t h (e ∷ []) (arrives w (h ++ e ∷ []) legal) in
    let last = after-first both.0 t e [] both.2 in
    let same : last.0 ≡ t = same_Ok last.0 t last.2 in
    subst (λ (s : State). step s e ≡ Ok t) (sym (state-is w h both.0 both.1)) (last.1 ∙ ap (λ (x : State). let r : Result State Why = Ok x in r) same)

-- a step after a legal history makes a legal history
pub goes-on : (w : ShapeValue) (h : List Event) (e : Event) (t : State) → is_legal w h ≡ true → step (state_after w h) e ≡ Ok t → reached w (h ++ e ∷ []) ≡ Ok t
goes-on w h e t legal made = after-joined (opening w) (state_after w h) h (e ∷ []) (arrives w h legal) ∙ after-step (state_after w h) t e [] made

-- The owner of a step is a rank.
pub owner-within : (s t : State) (e : Event) → IsSound s → step s e ≡ Ok t → owner_of e < s.limits.ranks
owner-within s t e sound h =
    found_then (slice_get s.posts (owner_of e)) (cause_without_owner e) _ t h (λ posts at rest.
    subst (λ (n : ℕ). owner_of e < n) sound.ranks (slice_get_within s.posts (owner_of e) posts at))

owners-within : (s t : State) (h : List Event) (ranks : ℕ) → IsSound s → s.limits.ranks ≡ ranks → after s h ≡ Ok t → (k : ℕ) (e : Event) → slice_get h k ≡ Some e → owner_of e < ranks
owners-within s t [] ranks sound is h k e at = absurd (let no : ⊥ = cc in no)
owners-within s t (x ∷ h) ranks sound is run zero e at =
    let first = after-first s t x h run in
    let same : x ≡ e = cc in
    subst (λ (y : Event). owner_of y < ranks) same (subst (λ (n : ℕ). owner_of x < n) is (owner-within s first.0 x sound first.1))
owners-within s t (x ∷ h) ranks sound is run (suc k) e at =
    let first = after-first s t x h run in
    let kept : first.0.limits.ranks ≡ ranks = ap (λ (l : Limits). l.ranks) (limits-stay s first.0 x first.1) ∙ is in
    owners-within first.0 t h ranks (steps s first.0 x sound first.1) kept first.2 k e at

module _ (n : Numbering) (w : ShapeValue) where
  -- a value that has parts has those of another state that are the same
  pub parts-moved : {X : Type 0} (m : Meaning X) (i : ℕ) (x : X) (s t : State) (a b : ℕ → List PlacedEvent) → SameAt n w i s t → ((rank : ℕ) → n.number (parts.Posts rank) ≡ i → a rank ≡ b rank)
      → HasParts n w m i x s a → HasParts n w m i x t b
  parts-moved m i x s t a b same journals has = record {
    posts = λ rank p at there. subst (λ (j : List PlacedEvent). m.IsPosts x rank p j) (journals rank at) (has.posts rank p at (same (parts.Posts rank) at ∙ there));
    memory = λ rank p at there. has.memory rank p at (same (parts.Memory rank) at ∙ there);
    group = λ id g at there. has.group id g at (same (parts.Group id) at ∙ there);
  }

  pub agree-self : (i : ℕ) (h : List Event) → AgreeAt n w i h h
  agree-self i h = record { state = λ part at. same-self (state_after w h) part; journals = λ rank at. refl }

  pub agree-back : (i : ℕ) (h k : List Event) → AgreeAt n w i h k → AgreeAt n w i k h
  agree-back i h k a = record { state = λ part at. same-back (state_after w h) (state_after w k) part (a.state part at); journals = λ rank at. sym (a.journals rank at) }

  pub agree-through : (i : ℕ) (h k l : List Event) → AgreeAt n w i h k → AgreeAt n w i k l → AgreeAt n w i h l
  agree-through i h k l a b = record {
    state = λ part at. same-through (state_after w h) (state_after w k) (state_after w l) part (a.state part at) (b.state part at);
    journals = λ rank at. a.journals rank at ∙ b.journals rank at;
  }

  abbrev shards_of : List Event → Event → List ℕ
  shards_of h e = numbers_of n.number (state_after w h) e

  pub owner-among : (h : List Event) (e : Event) → list_any (eqb (n.number (parts.Posts (owner_of e)))) (shards_of h e) ≡ true
  owner-among h e = coarse-owner n.number (state_after w h) e

  pub shards-frame : (h : List Event) (e : Event) (i : ℕ) → is_legal w (h ++ e ∷ []) ≡ true → list_any (eqb i) (shards_of h e) ≡ false → AgreeAt n w i h (h ++ e ∷ [])
  shards-frame h e i legal off = record {
    state = λ part at. same-back (state_after w (h ++ e ∷ [])) (state_after w h) part
        (coarse-frame n.number (state_after w h) (state_after w (h ++ e ∷ [])) e part (last-step w h e legal)
        (ap (λ (j : ℕ). list_any (eqb j) (shards_of h e)) at ∙ off));
    journals = λ rank at.
        let other : rank ≢ owner_of e = λ same. absurd (let there = owner-among h e in let here : n.number (parts.Posts (owner_of e)) ≡ i = ap (λ (r : ℕ). n.number (parts.Posts r)) (sym same) ∙ at in let yes : list_any (eqb i) (shards_of h e) ≡ true = ap (λ (j : ℕ). list_any (eqb j) (shards_of h e)) (sym here) ∙ there in let no : ⊥ = cc in no) in
        sym (journal-last rank h e ∙ (ap (λ (l : List PlacedEvent). journal_of rank h ++ l) (none-noted rank (length h) e other) ∙ append-nil (journal_of rank h)));
  }

  -- two legal histories that agree on an event's shards
  pub agree-on : (h k : List Event) (e : Event) → is_legal w h ≡ true → is_legal w k ≡ true → ((i : ℕ) → list_any (eqb i) (shards_of h e) ≡ true → AgreeAt n w i h k)
      → AgreeOn (λ part. list_any (eqb (n.number part)) (shards_of h e)) (state_after w h) (state_after w k)
  agree-on h k e legal also agree = record {
    limits = limits-are w h legal ∙ sym (limits-are w k also);
    parts = λ part is. (agree (n.number part) is).state part refl;
  }

  -- what comes to the same as a step is a step to a state with the same parts
  pub record StepsToo (s s' t : State) (r : Result State Why) : Type 0 where
    pub made : State
    pub is : r ≡ Ok made
    pub same : (part : Shard) → AgreeOnShard s s' part → AgreeOnShard t made part

  steps-too : (s s' t : State) (r : Result State Why) → HaveSameResult s s' (Ok t) r → StepsToo s s' t r
  steps-too s s' t (Ok made) h = record { made = made; is = refl; same = h.1 }
  steps-too s s' t (Err why) h = absurd h

  pub shards-follow : (h k : List Event) (e : Event) → is_legal w (h ++ e ∷ []) ≡ true → is_legal w k ≡ true → ((i : ℕ) → list_any (eqb i) (shards_of h e) ≡ true → AgreeAt n w i h k)
      → StepsToo (state_after w h) (state_after w k) (state_after w (h ++ e ∷ [])) (step (state_after w k) e)
  shards-follow h k e legal also agree =
      let s = state_after w h in
      let s' = state_after w k in
      let t = state_after w (h ++ e ∷ []) in
      let come = coarse-determined n.number s s' e (agree-on h k e (prefix w h (e ∷ []) legal) also agree) in
      steps-too s s' t (step s' e) (subst (λ (r : Result State Why). HaveSameResult s s' r (step s' e)) (last-step w h e legal) come)

  -- What an event makes of a shard depends on its shards alone: where two histories agree on them, they have the same parts after it of
  -- each shard of which they had the same, and the same events of its ranks but for the place.
  pub shards-determined : (h k : List Event) (e : Event) (i : ℕ) → is_legal w (h ++ e ∷ []) ≡ true → is_legal w k ≡ true → ((j : ℕ) → list_any (eqb j) (shards_of h e) ≡ true → AgreeAt n w j h k) → SameAt n w i (state_after w h) (state_after w k)
      → SameAt n w i (state_after w (h ++ e ∷ [])) (state_after w (k ++ e ∷ []))
  shards-determined h k e i legal also agree same part at =
      let too = shards-follow h k e legal also agree in
      subst (λ (s : State). AgreeOnShard (state_after w (h ++ e ∷ [])) s part) (sym (state-is w (k ++ e ∷ []) too.made (goes-on w k e too.made also too.is))) (too.same part (same part at))

  pub follows-legal : (h k : List Event) (e : Event) → is_legal w (h ++ e ∷ []) ≡ true → is_legal w k ≡ true → ((i : ℕ) → list_any (eqb i) (shards_of h e) ≡ true → AgreeAt n w i h k) → is_legal w (k ++ e ∷ []) ≡ true
  follows-legal h k e legal also agree = let too = shards-follow h k e legal also agree in ap is_ok (goes-on w k e too.made also too.is)

  pub same-shards : (h k : List Event) (e : Event) → is_legal w h ≡ true → is_legal w k ≡ true → AgreeAt n w (n.number (parts.Posts (owner_of e))) h k → shards_of h e ≡ shards_of k e
  same-shards h k e legal also agree =
      ap (λ (l : List Shard). without_repeats (map n.number l))
      (footprint-by-owner (state_after w h) (state_after w k) e (limits-are w h legal ∙ sym (limits-are w k also)) (agree.state (parts.Posts (owner_of e)) refl))

  pub shards-lawful : {X : Type 0} (m : Meaning X) (party : Event → Option ℕ) → ∥ IsShape w ∥₁ → Laws (shard_machine n w m party)
  shards-lawful m party valid = record {
    bounded = λ h legal. ∥∥₁_elim {P = length h < 2 ^ 64} valid le_prop (λ world. few-events w h (state_after w h) world (arrives w h legal));
    opening = refl;
    beginning = λ h rest legal. prefix w h rest legal;
    agree_self = agree-self;
    agree_back = agree-back;
    agree_through = agree-through;
    stands = λ i x h k has agree. parts-moved m i x (state_after w h) (state_after w k) (λ rank. journal_of rank h) (λ rank. journal_of rank k) agree.state agree.journals has;
    frame = shards-frame;
    follows = λ h k e legal also longer agree. follows-legal h k e legal also agree;
    owned = λ h e legal. owner-among h e;
    same_shards = same-shards;
  }

  -- What an event makes of a shard's value. Where the value has the parts that the state has after what was seen and the event, with the
  -- event noted at its place, it stands for the history in which the event was committed, which agreed with what was seen on its shards.
  pub stands-after : {X : Type 0} (m : Meaning X) (h k : List Event) (e : Event) (i : ℕ) (x : X) → is_legal w (h ++ e ∷ []) ≡ true → is_legal w k ≡ true
      → ((j : ℕ) → list_any (eqb j) (shards_of h e) ≡ true → AgreeAt n w j h k) → list_any (eqb i) (shards_of h e) ≡ true
      → HasParts n w m i x (state_after w (h ++ e ∷ [])) (λ rank. journal_of rank h ++ recorded_by rank (length k) e) → IsValueAfter n w m i x (k ++ e ∷ [])
  stands-after m h k e i x legal also agree among has =
      let too = shards-follow h k e legal also agree in
      let there = state-is w (k ++ e ∷ []) too.made (goes-on w k e too.made also too.is) in
      let here = agree i among in
      let same : SameAt n w i (state_after w (h ++ e ∷ [])) (state_after w (k ++ e ∷ [])) = λ part at.
      subst (λ (s : State). AgreeOnShard (state_after w (h ++ e ∷ [])) s part) (sym there) (too.same part (here.state part at)) in
      parts-moved m i x (state_after w (h ++ e ∷ [])) (state_after w (k ++ e ∷ [])) (λ rank. journal_of rank h ++ recorded_by rank (length k) e) (λ rank. journal_of rank (k ++ e ∷ [])) same
      (λ rank at. ap (λ (l : List PlacedEvent). l ++ recorded_by rank (length k) e) (here.journals rank at) ∙ sym (journal-last rank k e)) has
