-- A pass that holds shards may commit an event on them, and holds them then with their new values.
use Rattle.std.proofs.Common.{◌≡◌, ◌≢◌, ◌<◌, ℕ, Bool, true, false, eqb, List, [], ◌∷◌, ◌++◌, length, Option, None, Some, refl, sym, ap, ◌∙◌, subst}
use Rattle.std.specs.List.{list_any}
use mathlib.Core.Logic.{dite}
use native.Mathlib.Decide.{ℕ_discrete}
use Rattle.gaspi_types.specs.World.{ShapeValue, IsShape}
use Rattle.gaspi_types.specs.declared.events.Event.{Event}
use Rattle.gaspi_types.specs.declared.events.PlacedEvent.{PlacedEvent}
use Rattle.gaspi_model.specs.Shards.{numbers_of}
use Rattle.gaspi_model.specs.Step.{is_legal}
use Rattle.gaspi_model.proofs.Histories.{prefix, reached-sound}
use Rattle.commit_table.specs.Machine.{IsOwn}
use Rattle.commit_table.specs.Calls.{Looked, MayCommit, Committed}
use Rattle.commit_table.specs.Views.{held_at, after_give_back}
use Rattle.commit_table.specs.declared.views.PassView.{PassView}
use Rattle.commit_table.proofs.Lists.{held_among, held_apart, held_here, held_else}
use Rattle.gaspi_world.specs.ShardProjections.{value_at, AreShardsOf, HaveStepped, Holds, IsCommitted}
use Rattle.gaspi_world.specs.Numbering.{Numbering}
use Rattle.gaspi_world.specs.RankJournals.{journal_of, recorded_by, journal-last}
use Rattle.gaspi_world.specs.ShardLaws.{parts-moved, agree-self, agree-back, arrives, limits-are, last-step}
use Rattle.gaspi_world.specs.ShardMachine.{Meaning, state_after, HasParts, IsValueAfter, AgreeAt, shard_machine}

module _ {X : Type 0} (n : Numbering) (w : ShapeValue) (m : Meaning X) where
  stands-at : (i : ℕ) (x : X) (h k : List Event) → IsValueAfter n w m i x h → AgreeAt n w i h k → IsValueAfter n w m i x k
  stands-at i x h k has agree = parts-moved n w m i x (state_after w h) (state_after w k) (λ rank. journal_of rank h) (λ rank. journal_of rank k) agree.state agree.journals has

module _ {S X : Type 0} (n : Numbering) (w : ShapeValue) (m : Meaning X) (party : Event → Option ℕ) where
  -- After a look, what was taken stands for what is seen.
  pub looked-holds : (values : List (ℕ × X)) (v u : PassView S Event) (number : ℕ) (h : List Event) → Looked (shard_machine n w m party) v number h u
      → ((i : ℕ) (x : X) → value_at values i ≡ Some x → (g : List Event) × (held_at v.held i ≡ Some g) × IsValueAfter n w m i x g)
      → ((i : ℕ) (x : X) → value_at values i ≡ Some x → i < n.shards)
      → ((i : ℕ) → value_at values i ≡ None → held_at v.held i ≡ None) → Holds n w m party values u
  looked-holds values v u number h l each within others =
      let seen : h ≡ u.seen = sym (ap (λ (y : PassView S Event). y.seen) l.is) in
      record {
        legal = subst (λ (y : List Event). is_legal w y ≡ true) seen l.legal;
        each = λ i x at.
            let t = each i x at in
            let agree = subst (λ (y : List Event). AgreeAt n w i t.0 y) seen (l.held i t.0 t.1).1 in
            record {
              upto = t.0;
              held = ap (λ (y : PassView S Event). held_at y.held i) l.is ∙ t.1;
              agrees = agree;
              stands = stands-at n w m i x t.0 u.seen t.2 agree;
            };
        within = within;
        others = λ i at. ap (λ (y : PassView S Event). held_at y.held i) l.is ∙ others i at;
        own = subst (λ (y : PassView S Event). IsOwn (shard_machine n w m party) y.party y.seen y.mine) (sym l.is) l.own;
      }

  -- what is held stands for each history that agrees with what was seen on its shard
  pub stands-too : (values : List (ℕ × X)) (v : PassView S Event) (k : List Event) (i : ℕ) (x : X) → Holds n w m party values v → value_at values i ≡ Some x → AgreeAt n w i v.seen k → IsValueAfter n w m i x k
  stands-too values v k i x holds at agree = stands-at n w m i x v.seen k (holds.each i x at).stands agree

  -- An event whose shards are held may be committed, where it may follow what was seen.
  pub may-commit : (values : List (ℕ × X)) (v : PassView S Event) (e : Event) → Holds n w m party values v → AreShardsOf n w e v.seen values → is_legal w (v.seen ++ e ∷ []) ≡ true → ((p : ℕ) → party e ≡ Some p → v.party ≡ Some p)
      → MayCommit (shard_machine n w m party) v e
  may-commit values v e holds shards legal by = record {
    party = by;
    legal = legal;
    held = λ i among. let x = shards.has i among in let at = holds.each i x.0 x.1 in (at.upto, at.held, agree-back n w i at.upto v.seen at.agrees);
  }

  -- It was committed.
  pub added : (v u : PassView S Event) (e : Event) (place : ℕ) (k : List Event) → Committed (shard_machine n w m party) v e place k u → IsCommitted n w party v e u
  added v u e place k c = record {
    before = k;
    seen = ap (λ (y : PassView S Event). y.seen) c.is;
    later = c.seen;
    agrees = c.agrees;
    mine = ap (λ (y : PassView S Event). y.mine) c.is;
    commits = ap (λ (y : PassView S Event). y.commits) c.is;
    looks = ap (λ (y : PassView S Event). y.looks) c.is;
    missed = ap (λ (y : PassView S Event). y.missed) c.is;
    met = ap (λ (y : PassView S Event). y.lock_history) c.is;
    party_is = ap (λ (y : PassView S Event). y.party) c.is;
    start = ap (λ (y : PassView S Event). y.start) c.is;
  }

  -- the new values have the parts that the event makes where it was committed
  made-parts : (old new : List (ℕ × X)) (v u : PassView S Event) (e : Event) (place : ℕ) (k : List Event) → IsShape w → Holds n w m party old v → AreShardsOf n w e v.seen old → Committed (shard_machine n w m party) v e place k u
      → HaveStepped n w m e place old new → (i : ℕ) (y : X) → value_at new i ≡ Some y → IsValueAfter n w m i y (k ++ e ∷ [])
  made-parts old new v u e place k world holds shards c steps i y at =
      let legal = prefix w k (e ∷ []) c.legal in
      let sound = reached-sound w k (state_after w k) world (arrives w k legal) in
      let before : (j : ℕ) (x : X) → value_at old j ≡ Some x → HasParts n w m j x (state_after w k) (λ rank. journal_of rank k) = λ j x there. stands-too old v k j x holds there (c.agrees j (shards.only j x there)) in
      let parts = steps.stepped (state_after w k) (state_after w (k ++ e ∷ [])) (λ rank. journal_of rank k) sound (limits-are w k legal) (last-step w k e c.legal) before i y at in
      let there : HasParts n w m i y (state_after w (k ++ e ∷ [])) (λ rank. journal_of rank k ++ recorded_by rank (length k) e) =
      subst (λ (p : ℕ). HasParts n w m i y (state_after w (k ++ e ∷ [])) (λ rank. journal_of rank k ++ recorded_by rank p e)) c.place_is parts in
      record {
        posts = λ rank p number is. subst (λ (j : List PlacedEvent). m.IsPosts y rank p j) (sym (journal-last rank k e)) (there.posts rank p number is);
        memory = there.memory;
        group = there.group;
      }

  -- After a commit the shards are held with the values that made its step.
  pub still-holds : (old new : List (ℕ × X)) (v u : PassView S Event) (e : Event) (place : ℕ) (k : List Event) → IsShape w → Holds n w m party old v → AreShardsOf n w e v.seen old → Committed (shard_machine n w m party) v e place k u
      → HaveStepped n w m e place old new → Holds n w m party new u
  still-holds old new v u e place k world holds shards c steps =
      let seen : k ++ e ∷ [] ≡ u.seen = sym (ap (λ (y : PassView S Event). y.seen) c.is) in
      record {
        legal = subst (λ (y : List Event). is_legal w y ≡ true) seen c.legal;
        each = λ i y at.
            let was = steps.from i y at in
            let on = shards.only i was.0 was.1 in
            record {
              upto = k ++ e ∷ [];
              held = ap (λ (z : PassView S Event). held_at z.held i) c.is ∙ held_among (numbers_of n.number (state_after w v.seen) e) (k ++ e ∷ []) v.held i on;
              agrees = subst (λ (z : List Event). AgreeAt n w i (k ++ e ∷ []) z) seen (agree-self n w i (k ++ e ∷ []));
              stands = subst (λ (z : List Event). IsValueAfter n w m i y z) seen (made-parts old new v u e place k world holds shards c steps i y at);
            };
        within = λ i y at. let was = steps.from i y at in holds.within i was.0 was.1;
        others = λ i at.
            let none = steps.gone i at in
            ap (λ (z : PassView S Event). held_at z.held i) c.is ∙ (held_apart (numbers_of n.number (state_after w v.seen) e) (k ++ e ∷ []) v.held i (off i none) ∙ holds.others i none);
        own = subst (λ (y : List Event). IsOwn (shard_machine n w m party) u.party y u.mine) seen (subst (λ (o : Option ℕ). IsOwn (shard_machine n w m party) o (k ++ e ∷ []) u.mine) (sym (ap (λ (y : PassView S Event). y.party) c.is)) c.own);
      }
    where
      off : (i : ℕ) → value_at old i ≡ None → list_any (eqb i) (numbers_of n.number (state_after w v.seen) e) ≡ false
      off i none = go (list_any (eqb i) (numbers_of n.number (state_after w v.seen) e)) refl
        where
          go : (b : Bool) → list_any (eqb i) (numbers_of n.number (state_after w v.seen) e) ≡ b → b ≡ false
          go false is = refl
          go true is = absurd (let x = shards.has i is in let no : ⊥ = cc in no)

  -- A shard that is held may be given back with its value; the others are held as before.
  pub may-give : (values : List (ℕ × X)) (v : PassView S Event) (i : ℕ) (x : X) → Holds n w m party values v → value_at values i ≡ Some x → (g : List Event) × (held_at v.held i ≡ Some g) × (shard_machine n w m party).Stands i x g
  may-give values v i x holds at =
      let here = holds.each i x at in
      (here.upto, here.held, stands-at n w m i x v.seen here.upto here.stands (agree-back n w i here.upto v.seen here.agrees))

  pub given-holds : (values rest : List (ℕ × X)) (v u : PassView S Event) (i : ℕ) → Holds n w m party values v → u ≡ after_give_back v i → value_at rest i ≡ None → ((j : ℕ) → j ≢ i → value_at rest j ≡ value_at values j) → Holds n w m party rest u
  given-holds values rest v u i holds is gone same = subst (λ (y : PassView S Event). Holds n w m party rest y) (sym is) (record {
    legal = holds.legal;
    each = λ j x at.
        let ne : j ≢ i = λ e. absurd (let here : value_at rest i ≡ Some x = subst (λ (k : ℕ). value_at rest k ≡ Some x) e at in let no : ⊥ = cc in no) in
        let was = holds.each j x (sym (same j ne) ∙ at) in
        record { upto = was.upto; held = held_else v.held i j None ne ∙ was.held; agrees = was.agrees; stands = was.stands };
    within = λ j x at.
        let ne : j ≢ i = λ e. absurd (let here : value_at rest i ≡ Some x = subst (λ (k : ℕ). value_at rest k ≡ Some x) e at in let no : ⊥ = cc in no) in
        holds.within j x (sym (same j ne) ∙ at);
    others = λ j at. dite (ℕ_discrete j i)
        (λ e. subst (λ (k : ℕ). held_at ((i, None) ∷ v.held) k ≡ None) (sym e) (held_here v.held i None))
        (λ ne. held_else v.held i j None ne ∙ holds.others j (sym (same j ne) ∙ at));
    own = holds.own;
  })
