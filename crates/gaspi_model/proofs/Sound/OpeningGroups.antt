-- At the start no rank has given anything to a group.
use Rattle.std.proofs.Common.{◌≡◌, ℕ, zero, suc, ◌+◌, true, ◌==◌, [], length, replicate, Option, None, Some, refl, sym, ap, ◌∙◌, subst, arith, if◌then◌else◌}
use Rattle.std.specs.List.{slice_get, range_with_len}
use Rattle.std.specs.Option.{option_and_then}
use Rattle.std.proofs.lemmas.List.{length-replicate}
use Rattle.std.proofs.lemmas.List.FromFn.{length-map-range_with_len}
use Rattle.std.proofs.lemmas.Nat.Bits.{bit_at_ones}
use Rattle.std.proofs.lemmas.Option.{slice_get_within}
use Rattle.gaspi_types.specs.Collectives.{contributions_of, contribution_in, no_contributions}
use Rattle.gaspi_types.specs.Groups.{handle_at, handle_of_all, opening_handles}
use Rattle.gaspi_types.specs.Masks.{is_member, all_below}
use Rattle.gaspi_types.specs.Tables.{item_at}
use Rattle.gaspi_types.specs.World.{ShapeValue}
use Rattle.gaspi_types.specs.declared.groups.Contribution.{Contribution}
use Rattle.gaspi_types.specs.declared.groups.Group.{Group}
use Rattle.gaspi_types.specs.declared.groups.Handle.{Handle}
use Rattle.gaspi_types.specs.declared.groups.RankContributions.{RankContributions}
use Rattle.gaspi_types.specs.declared.groups.PendingCollective.{PendingCollective}
use Rattle.gaspi_model.specs.Contributions.{IsSoundGroup, AreSoundCollectives}
use Rattle.gaspi_model.specs.State.{opening, opening_group, opening_part, opening_posts}
use Rattle.gaspi_model.specs.declared.states.Posts.{Posts}
use Rattle.gaspi_types.proofs.Items.{slice_get-replicate, map-at}
use Rattle.gaspi_model.proofs.Sound.GroupTables.{opening-groups}
use Rattle.gaspi_model.proofs.Sound.Rounds.{in-range}

pub opening-contributions : (ranks k rank : ℕ) → contributions_of (opening_group ranks k) rank ≡ no_contributions
opening-contributions ranks k rank = go (slice_get (replicate ranks opening_part) rank) refl
  where
    go : (o : Option RankContributions) → slice_get (replicate ranks opening_part) rank ≡ o → contributions_of (opening_group ranks k) rank ≡ no_contributions
    go None at = rw at refl
    go (Some part) at = rw at (slice_get-replicate ranks opening_part part rank at)

none-contributed : (ranks k round rank : ℕ) (c : Contribution) → contribution_in (opening_group ranks k) round rank ≡ Some c → ⊥
none-contributed ranks k round rank c given =
    let none : slice_get {X = Contribution} [] round ≡ Some c = ap (λ (p : RankContributions). slice_get p.contributions round) (sym (opening-contributions ranks k rank)) ∙ given in
    (let no : ⊥ = cc in no)

opening-group : (ranks k : ℕ) → IsSoundGroup ranks (opening_group ranks k)
opening-group ranks k = record {
  parts = length-replicate ranks opening_part;
  agree = λ round rank other c d given given'. absurd (none-contributed ranks k round rank c given);
  whole = λ round rank c given. absurd (none-contributed ranks k round rank c given);
  members = λ round rank c given. absurd (none-contributed ranks k round rank c given);
  commits = λ round rank c mask given is. absurd (none-contributed ranks k round rank c given);
}

none-pending : (id : ℕ) → item_at (replicate {A = Option PendingCollective} 8 None) id ≡ None
none-pending id = go (slice_get (replicate {A = Option PendingCollective} 8 None) id) refl
  where
    go : (o : Option (Option PendingCollective)) → slice_get (replicate {A = Option PendingCollective} 8 None) id ≡ o → item_at (replicate {A = Option PendingCollective} 8 None) id ≡ None
    go None at = ap (option_and_then (λ (x : Option PendingCollective). x)) at
    go (Some x) at = ap (option_and_then (λ (y : Option PendingCollective). y)) at ∙ slice_get-replicate 8 None x id at

-- the only group that is there is group 0
only-all : (ranks id : ℕ) (h : Handle) → handle_at (opening_handles ranks) id ≡ Some h → id ≡ 0
only-all ranks zero h at = refl
only-all ranks (suc id) h at = absurd (let none = (opening-groups ranks).unmade (suc id) (omega arith) in let no : ⊥ = cc in no)

all-handle : (ranks id : ℕ) (h : Handle) → handle_at (opening_handles ranks) id ≡ Some h → h ≡ handle_of_all ranks
all-handle ranks id h at =
    let here : handle_at (opening_handles ranks) 0 ≡ Some h = subst (λ (n : ℕ). handle_at (opening_handles ranks) n ≡ Some h) (only-all ranks id h at) at in
    (let some : ◌≡◌ {A = Option Handle} (Some h) (Some (handle_of_all ranks)) = sym here ∙ (opening-groups ranks).all in cc)

pub opens-collectives : (w : ShapeValue) → AreSoundCollectives (opening w)
opens-collectives w = record {
  eight = length-map-range_with_len (opening_group w.limits.ranks) 0 8;
  groups = λ id g at. let is = group-is id g at in rw is (opening-group w.limits.ranks id);
  parts = λ id g rank posts at hp.
      let is = group-is id g at in
      let from = map-at (opening_posts w) (range_with_len 0 w.limits.ranks) rank posts hp in
      rw (from.2, is, none-pending id, opening-contributions w.limits.ranks id rank) (record { count = refl; last = λ p none. absurd (let no : ⊥ = cc in no); few = omega arith });
  begun = λ id g rank posts at hp.
      let is = group-is id g at in
      let from = map-at (opening_posts w) (range_with_len 0 w.limits.ranks) rank posts hp in
      rw (is, opening-contributions w.limits.ranks id rank) (record {
        unmade = λ above. refl;
        building = λ h there stage. refl;
        committed = λ h there stage other. absurd (other (only-all w.limits.ranks id h (ap (λ (p : Posts). handle_at p.groups id) (sym from.2) ∙ there)));
      });
  resumable = λ id rank posts p hp pends.
      let from = map-at (opening_posts w) (range_with_len 0 w.limits.ranks) rank posts hp in
      absurd (let none : ◌≡◌ {A = Option PendingCollective} None (Some p) = sym (none-pending id) ∙ rw from.2 at pends in let no : ⊥ = cc in no);
  first = λ id g rank c at other given. absurd (none-contributed w.limits.ranks id 0 rank c (ap (λ (x : Group). contribution_in x 0 rank) (sym (group-is id g at)) ∙ given));
  committed = λ id g rank posts h at hp there stage.
      let is = group-is id g at in
      let from = map-at (opening_posts w) (range_with_len 0 w.limits.ranks) rank posts hp in
      let there' : handle_at (opening_handles w.limits.ranks) id ≡ Some h = ap (λ (p : Posts). handle_at p.groups id) (sym from.2) ∙ there in
      let zero_is = only-all w.limits.ranks id h there' in
      let all = all-handle w.limits.ranks id h there' in
      let within = slice_get_within (opening w).posts rank posts hp in
      let many : length (opening w).posts ≡ w.limits.ranks = length-map-range_with_len (opening_posts w) 0 w.limits.ranks in (
        ap (λ (x : Group). x.members) is ∙ ap (λ (n : ℕ). if n == 0 then Some (all_below w.limits.ranks) else None) zero_is ∙ ap (λ (x : Handle). Some x.members) (sym all),
        subst (λ (x : Handle). is_member x.members rank ≡ true) (sym all) (ap (λ (n : ℕ). n == 1) (bit_at_ones w.limits.ranks rank (omega arith))),
      );
  made = λ id g rank posts at hp round c seg size given coll.
      absurd (none-contributed w.limits.ranks id round rank c (ap (λ (x : Group). contribution_in x round rank) (sym (group-is id g at)) ∙ given));
}
  where
    group-is : (id : ℕ) (g : Group) → slice_get (opening w).groups id ≡ Some g → g ≡ opening_group w.limits.ranks id
    group-is id g at =
        let from = map-at (opening_group w.limits.ranks) (range_with_len 0 8) id g at in
        let within = slice_get_within (range_with_len 0 8) id from.0 from.1 in
        let here = in-range 0 8 id within in
        let same : from.0 ≡ 0 + id = (let some : ◌≡◌ {A = Option ℕ} (Some from.0) (Some (0 + id)) = sym from.1 ∙ here in cc) in
        from.2 ∙ ap (opening_group w.limits.ranks) (same ∙ (let none : 0 + id ≡ id = omega arith in none))
