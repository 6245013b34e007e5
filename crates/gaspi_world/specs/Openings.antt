-- What stands for the opening state: a rank's posts and memory with no event, and a group.
use Rattle.std.proofs.Common.{◌≡◌, ℕ, ◌+◌, ◌-◌, ◌<◌, List, [], length, Option, Some, sym, ap, ◌∙◌, subst, arith, map}
use mathlib.Core.Logic.{dite}
use native.Mathlib.Decide.{dec_lt}
use Rattle.std.specs.List.{slice_get, range_with_len}
use Rattle.std.proofs.lemmas.List.FromFn.{length-map-range_with_len, get_or-range_with_len}
use Rattle.std.proofs.lemmas.Option.{slice_get_within, get_or_from_slice_get}
use Rattle.gaspi_types.specs.World.{ShapeValue}
use Rattle.gaspi_types.proofs.Items.{map-at}
use Rattle.gaspi_model.specs.State.{opening, opening_posts, opening_memory, opening_group}
use Rattle.commit_table.specs.Calls.{AreShards}
use Rattle.gaspi_types.specs.declared.events.Event.{Event}
use Rattle.gaspi_world.specs.Numbering.{by_ranks}
use Rattle.gaspi_world.specs.ShardMachine.{Meaning, HasParts, shard_machine}

-- what is at an index of a list made from numbers
made-at : {A : Type 0} (f : ℕ → A) (n i : ℕ) (x : A) → slice_get (map f (range_with_len 0 n)) i ≡ Some x → (x ≡ f i) × (i < n)
made-at f n i x at =
    let from = map-at f (range_with_len 0 n) i x at in
    let less : i < n = subst (λ (k : ℕ). i < k) (length-map-range_with_len f 0 n) (slice_get_within (map f (range_with_len 0 n)) i x at) in
    let is : from.0 ≡ i = sym (get_or_from_slice_get (range_with_len 0 n) i from.0 0 from.1) ∙ (get_or-range_with_len 0 n i 0 less ∙ omega arith) in
    (from.2 ∙ ap f is, less)

module _ {X : Type 0} (m : Meaning X) (w : ShapeValue) where
  pub rank-opens : (rank : ℕ) (x : X) → rank < w.limits.ranks → m.IsPosts x rank (opening_posts w rank) [] → m.IsMemory x rank (opening_memory w rank) → HasParts (by_ranks w) w m rank x (opening w) (λ r. [])
  rank-opens rank x lt posts memory = record {
    posts = λ r p at there.
        let made = made-at (opening_posts w) w.limits.ranks r p there in
        subst (λ (k : ℕ). m.IsPosts x k p []) (sym at) (subst (λ q. m.IsPosts x rank q []) (sym (made.0 ∙ ap (opening_posts w) at)) posts);
    memory = λ r p at there.
        let made = made-at (opening_memory w) w.limits.ranks r p there in
        subst (λ (k : ℕ). m.IsMemory x k p) (sym at) (subst (λ q. m.IsMemory x rank q) (sym (made.0 ∙ ap (opening_memory w) at)) memory);
    group = λ id g at there. absurd (omega arith);
  }

  pub group-opens : (id : ℕ) (x : X) → m.IsGroup x id (opening_group w.limits.ranks id) → HasParts (by_ranks w) w m (w.limits.ranks + id) x (opening w) (λ r. [])
  group-opens id x group = record {
    posts = λ r p at there. absurd (let made = made-at (opening_posts w) w.limits.ranks r p there in let lt = made.1 in omega arith);
    memory = λ r p at there. absurd (let made = made-at (opening_memory w) w.limits.ranks r p there in let lt = made.1 in omega arith);
    group = λ k g at there.
        let same : k ≡ id = omega arith in
        let made = made-at (opening_group w.limits.ranks) 8 k g there in
        subst (λ (j : ℕ). m.IsGroup x j g) (sym same) (subst (λ q. m.IsGroup x id q) (sym (made.0 ∙ ap (opening_group w.limits.ranks) same)) group);
  }

  -- so ranks' values and then the groups' are the shards of a new table
  pub all-open : (party : Event → Option ℕ) (values : List X) → length values ≡ w.limits.ranks + 8
      → ((rank : ℕ) (x : X) → rank < w.limits.ranks → slice_get values rank ≡ Some x → m.IsPosts x rank (opening_posts w rank) [] × m.IsMemory x rank (opening_memory w rank))
      → ((id : ℕ) (x : X) → slice_get values (w.limits.ranks + id) ≡ Some x → m.IsGroup x id (opening_group w.limits.ranks id))
      → AreShards (shard_machine (by_ranks w) w m party) values []
  all-open party values count ranks groups = record {
    count = count;
    stand = λ i x at. rank-or i x at;
  }
    where
      rank-or : (i : ℕ) (x : X) → slice_get values i ≡ Some x → HasParts (by_ranks w) w m i x (opening w) (λ r. [])
      rank-or i x at = dite (dec_lt i w.limits.ranks) (λ lt. let both = ranks i x lt at in rank-opens i x lt both.0 both.1) (λ no. go (i - w.limits.ranks) (omega arith))
        where
          go : (id : ℕ) → i ≡ w.limits.ranks + id → HasParts (by_ranks w) w m i x (opening w) (λ r. [])
          go id is = subst (λ (k : ℕ). HasParts (by_ranks w) w m k x (opening w) (λ r. [])) (sym is) (group-opens id x (groups id x (subst (λ (k : ℕ). slice_get values k ≡ Some x) is at)))
