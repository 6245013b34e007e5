-- The node of a group at the start stands for it, and the parts of ranks and groups in the opening state.
use Rattle.std.proofs.Common.{◌≡◌, ℕ, ◌+◌, ◌<◌, map, replicate, ◌==◌, arith, Bool, true, false, Option, None, Some, Result, Ok, Err, refl, sym, ap, subst, ◌∙◌}
use Rattle.std.specs.Prelude.{OnOk}
use Rattle.std.specs.List.{slice_get, range_with_len}
use Rattle.std.specs.Option.{option_map}
use Rattle.std.proofs.lemmas.Bool.{eqb-true}
use Rattle.std.proofs.lemmas.Option.{slice_get-map}
use Rattle.gaspi_types.specs.Collectives.{contributions_of, no_contributions}
use Rattle.gaspi_types.specs.Groups.{fix_checks}
use Rattle.gaspi_types.specs.Masks.{all_below}
use Rattle.gaspi_types.specs.declared.groups.Group.{Group}
use Rattle.gaspi_types.specs.declared.groups.RankContributions.{RankContributions}
use Rattle.gaspi_types.specs.declared.replies.Refusal.{Refusal}
use Rattle.gaspi_types.proofs.Items.{slice_get-replicate}
use Rattle.collective_engine.specs.RoundBuffers.{Represents, IsOpening}
use Rattle.gaspi_types.specs.World.{ShapeValue}
use Rattle.gaspi_model.specs.State.{opening, opening_posts, opening_memory, opening_part, opening_group}
use Rattle.gaspi_model.proofs.Sound.Rounds.{in-range}
use Rattle.rank_node.specs.Lending.{IsPostsOf, IsMemoryOf, IsGroupNode, IsGroupOf}
use Rattle.rank_node.specs.Values.{PostsValue, MemoryValue}
use Rattle.rank_node.specs.declared.nodes.GroupNode.{GroupNode}

-- no rank has joined a group at the start
opening-contributions : (n : ℕ) (rank : ℕ) (members : Option ℕ) → contributions_of (record { members = members; contributions = replicate n opening_part }) rank ≡ no_contributions
opening-contributions n rank members = go (slice_get (replicate n opening_part) rank) refl
  where
    go : (o : Option RankContributions) → slice_get (replicate n opening_part) rank ≡ o → contributions_of (record { members = members; contributions = replicate n opening_part }) rank ≡ no_contributions
    go None at = rw at refl
    go (Some part) at = let same = slice_get-replicate n opening_part part rank at in rw (at, same) refl

opening-is : (ranks id : ℕ) (n : GroupNode) (members : Option ℕ) → (opening_group ranks id).members ≡ members → n.meeting ≡ members → ((g : Group) → IsOpening g members → Represents g n.rounds)
    → IsGroupNode (opening_group ranks id) n
opening-is ranks id n members fixed met stands = record {
  meeting = met ∙ sym fixed;
  rounds = stands (opening_group ranks id) (record { members_are = fixed; parts = λ rank. opening-contributions ranks rank (opening_group ranks id).members });
}

pub opening-all : (ranks id : ℕ) (n : GroupNode) (members : Option ℕ) (number : ℕ) → number ≡ id → number ≡ 0 → members ≡ Some (all_below ranks) → n.meeting ≡ Some (all_below ranks)
    → ((g : Group) → IsOpening g members → Represents g n.rounds) → IsGroupNode (opening_group ranks id) n
opening-all ranks id n members number is zero fixed met stands =
    let here : id ≡ 0 = sym is ∙ zero in
    opening-is ranks id n (Some (all_below ranks)) (rw here refl) met (subst (λ (m : Option ℕ). (g : Group) → IsOpening g m → Represents g n.rounds) fixed stands)

pub opening-other : (ranks id : ℕ) (n : GroupNode) (members : Option ℕ) (number : ℕ) → number ≡ id → (number ≡ 0 → ⊥) → members ≡ None → n.meeting ≡ None
    → ((g : Group) → IsOpening g members → Represents g n.rounds) → IsGroupNode (opening_group ranks id) n
opening-other ranks id n members number is apart fixed met stands = go (id == 0) refl
  where
    go : (b : Bool) → (id == 0) ≡ b → IsGroupNode (opening_group ranks id) n
    go true zero = absurd (apart (is ∙ eqb-true id 0 zero))
    go false other = opening-is ranks id n None (rw other refl) met (subst (λ (m : Option ℕ). (g : Group) → IsOpening g m → Represents g n.rounds) fixed stands)

-- the first list that is fixed stays
pub first-fixed : (old new : Option ℕ) (mask : ℕ) (r : Result (Unit {0}) Refusal) → old ≡ None → r ≡ fix_checks old mask → OnOk r (new ≡ Some mask) → new ≡ Some mask
first-fixed old new mask r none is fixed = go r (is ∙ (let first : fix_checks old mask ≡ Ok tt = rw none refl in first)) fixed
  where
    go : (r : Result (Unit {0}) Refusal) → r ≡ Ok tt → OnOk r (new ≡ Some mask) → new ≡ Some mask
    go (Ok u) ok fixed = fixed
    go (Err e) ok fixed = absurd (let no : ⊥ = cc in no)

-- In the opening state: the posts and the memory of a rank, and a group.
numbered : {A : Type 0} (f : ℕ → A) (count k : ℕ) → k < count → slice_get (map f (range_with_len 0 count)) k ≡ Some (f k)
numbered f count k less = let zero : 0 + k ≡ k = omega arith in slice_get-map f (range_with_len 0 count) k ∙ ap (option_map f) (in-range 0 count k less) ∙ ap (λ (n : ℕ). Some (f n)) zero

pub opening-posts-of : (w : ShapeValue) (rank : ℕ) (p : PostsValue) → rank < w.limits.ranks → p.limits ≡ w.limits → p.me ≡ rank → p.posts ≡ opening_posts w rank → IsPostsOf (opening w) rank p
opening-posts-of w rank p below limits me posts = record { limits = limits; me = me; posts = numbered (opening_posts w) w.limits.ranks rank below ∙ ap Some (sym posts) }

pub opening-memory-of : (w : ShapeValue) (rank : ℕ) (m : MemoryValue) → rank < w.limits.ranks → m.capacity ≡ w.limits.inbox → m.memory ≡ opening_memory w rank → IsMemoryOf (opening w) rank m
opening-memory-of w rank m below capacity memory = record { capacity = capacity; memory = numbered (opening_memory w) w.limits.ranks rank below ∙ ap Some (sym memory) }

pub opening-group-of : (w : ShapeValue) (id : ℕ) (n : GroupNode) → id < 8 → IsGroupNode (opening_group w.limits.ranks id) n → IsGroupOf (opening w) id n
opening-group-of w id n below stands = record { group = opening_group w.limits.ranks id; there = numbered (opening_group w.limits.ranks) 8 id below; stands = stands }
