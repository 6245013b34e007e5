-- What the calls on groups leave.
use Rattle.std.proofs.Common.{◌≡◌, ℕ, ◌+◌, ◌^◌, Bool, true, false, ◌==◌, ◌||◌, Option, Some, Ok, refl, sym, ap, ◌∙◌, subst, arith}
use Rattle.std.specs.List.{slice_set}
use Rattle.std.specs.Int.{bit_at}
use Rattle.std.specs.Int.RustNames.{bit_or}
use Rattle.std.specs.Option.{option_map}
use Rattle.std.proofs.lemmas.Bool.{ltb-true, eqb-true, eqb-false, eq-eqb}
use Rattle.std.proofs.lemmas.Nat.Bits.{bit_at-zero, bit_at_or, bit_at-pow_same, bit_at-pow_other, bit_at-lt}
use Rattle.gaspi_types.specs.Groups.{is_building, new_handle, handle_at, with_group}
use Rattle.gaspi_types.specs.Masks.{is_member, with_member}
use Rattle.gaspi_types.specs.declared.calls.Call.TheVariants as calls
use Rattle.gaspi_types.specs.declared.calls.groups.GroupAdd as group_add
use Rattle.gaspi_types.specs.declared.calls.groups.GroupDelete as group_delete
use Rattle.gaspi_types.specs.declared.collectives.Stage.{Stage}
use Rattle.gaspi_types.specs.declared.collectives.Stage.TheVariants.{Building, Committed}
use Rattle.gaspi_types.specs.declared.events.Event.TheVariants.{Called}
use Rattle.gaspi_types.specs.declared.groups.Handle.{Handle}
use Rattle.gaspi_types.specs.declared.replies.Reply.TheVariants as replies
use Rattle.gaspi_types.specs.declared.shapes.CallerId.{CallerId}
use Rattle.gaspi_model.specs.Changes.{IsGroupMade, IsGroupAdded, IsGroupDeleted}
use Rattle.gaspi_model.specs.Posting.{counted}
use Rattle.gaspi_model.specs.Sound.{IsSound}
use Rattle.gaspi_model.specs.Step.{step}
use Rattle.gaspi_model.specs.declared.states.State.{State}
use Rattle.gaspi_model.proofs.GroupFinds.{create-found, add-found, drop-found}
use Rattle.gaspi_model.proofs.Changed.QueueCalls.{posts-on_memory}
use Rattle.gaspi_model.proofs.Sound.GroupTables.{entry-set_same}

none-member : (rank : ℕ) → is_member 0 rank ≡ false
none-member rank = rw (bit_at-zero rank) refl

-- who is in a set with a rank added
member-added : (mask rank other : ℕ) → is_member (with_member mask rank) other ≡ ((rank == other) || is_member mask other)
member-added mask rank other = go (rank == other) refl
  where
    go : (b : Bool) → (rank == other) ≡ b → is_member (with_member mask rank) other ≡ (b || is_member mask other)
    go true is =
        let same = eqb-true rank other is in
        let set : bit_at (2 ^ rank) other ≡ 1 = subst (λ (n : ℕ). bit_at (2 ^ rank) n ≡ 1) same (bit_at-pow_same rank) in
        let bits = bit_at_or mask (2 ^ rank) other in
        let few = bit_at-lt mask other in
        eq-eqb (bit_at (with_member mask rank) other) 1 (omega (arith, bits, set, few))
    go false is =
        let none = bit_at-pow_other rank other (λ (same : other ≡ rank). eqb-false rank other is (sym same)) in
        let bits = bit_at_or mask (2 ^ rank) other in
        let same : bit_at (bit_or mask (2 ^ rank)) other ≡ bit_at mask other = omega (arith, bits, none) in
        ap (λ (n : ℕ). n == 1) same

stage-building : (stage : Stage) → is_building stage ≡ true → stage ≡ Building
stage-building Building h = refl
stage-building Committed h = absurd (let no : ⊥ = cc in no)

same-id : (a b : ℕ) → replies.Id a ≡ replies.Id b → a ≡ b
same-id a b h = cc

pub group-made : (s t : State) (c : CallerId) (id : ℕ) → IsSound s → step s (Called c calls.GroupCreate (replies.Id id)) ≡ Ok t → IsGroupMade s t c.rank id
group-made s t c id sound h =
    let made = posts-on_memory s t c calls.GroupCreate (replies.Id id) refl refl refl (λ posts brought memory. refl) sound h in
    let m = made.2 in
    let posts = made.0 in
    let found = create-found posts (replies.Id id) m.finds in
    let next = same-id id (posts.groups.last_id + 1) found.answers in
    let less = ltb-true posts.groups.last_id 7 found.room in
    let groups = (sound.posts c.rank posts m.posts_there).groups in
    let within = groups.table in
    record {
      posts = posts;
      groups = with_group posts.groups;
      handle = new_handle;
      posts_there = m.posts_there;
      next = next;
      few = omega arith;
      free = groups.unmade id (omega arith);
      there = ap (λ (k : ℕ). handle_at (with_group posts.groups) k) next ∙ entry-set_same posts.groups.table (posts.groups.last_id + 1) (Some new_handle) (omega arith);
      building = refl;
      empty = none-member;
      made = sym next;
      table = ap (λ (k : ℕ). slice_set posts.groups.table k (Some new_handle)) (sym next);
      after = m.leaves;
    }

pub group-added : (s t : State) (c : CallerId) (call : group_add.GroupAdd) → IsSound s → step s (Called c (calls.GroupAdd call) replies.Done) ≡ Ok t → IsGroupAdded s t c.rank call.group call.rank
group-added s t c call sound h =
    let made = posts-on_memory s t c (calls.GroupAdd call) replies.Done refl refl refl (λ posts brought memory. refl) sound h in
    let m = made.2 in
    let posts = made.0 in
    let found = add-found s.limits posts call replies.Done m.finds in
    let change : Handle → Handle = λ (x : Handle). record x { members = with_member x.members call.rank } in
    record {
      posts = posts;
      old = found.handle;
      new = change found.handle;
      posts_there = m.posts_there;
      ranked = ltb-true call.rank s.limits.ranks found.ranked;
      old_there = found.there;
      building = stage-building found.handle.stage found.building;
      idle = found.idle;
      stage = refl;
      members = member-added found.handle.members call.rank;
      after = m.leaves ∙ ap (λ (o : Option Handle). record s {
        posts = slice_set s.posts c.rank (record (counted posts) { groups = record posts.groups { table = slice_set posts.groups.table call.group (option_map change o) } });
      }) found.there;
    }

pub group-dropped : (s t : State) (c : CallerId) (call : group_delete.GroupDelete) → IsSound s → step s (Called c (calls.GroupDelete call) replies.Done) ≡ Ok t → IsGroupDeleted s t c.rank call.group
group-dropped s t c call sound h =
    let made = posts-on_memory s t c (calls.GroupDelete call) replies.Done refl refl refl (λ posts brought memory. refl) sound h in
    let m = made.2 in
    let posts = made.0 in
    let found = drop-found posts call replies.Done m.finds in
    record {
      posts = posts;
      old = found.handle;
      posts_there = m.posts_there;
      old_there = found.there;
      other = λ zero_is. (let is = eq-eqb call.group 0 zero_is in let not_one : false ≡ true = rw is at found.other in let no : ⊥ = cc in no);
      idle = found.idle;
      after = m.leaves;
    }
