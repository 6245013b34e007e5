-- The groups of a rank stay sound: group 0 has every rank, and numbers are given one after another.
use Rattle.std.proofs.Common.{◌≡◌, ℕ, zero, suc, ◌+◌, ◌^◌, ◌<◌, ◌≤◌, Bool, true, false, not, ◌==◌, nat_lt, List, length, Option, None, Some, Result, Ok, Err, refl, sym, ap, ◌∙◌, arith, ◌⊎◌, inl, inr, subst}
use Rattle.std.specs.List.{slice_get, slice_set}
use Rattle.std.specs.Option.{option_map, option_and_then}
use Rattle.std.specs.Int.{bit_at}
use Rattle.std.specs.Int.RustNames.{bit_or}
use Rattle.std.proofs.lemmas.Bool.{ltb-true, ltb-false, eqb-true, eqb-false, eq-eqb}
use Rattle.std.proofs.lemmas.List.{length-set}
use Rattle.std.proofs.lemmas.Nat.Bits.{bit_at-zero, bit_at_or, bit_at-pow_other, bit_at_ones_above}
use Rattle.gaspi_types.specs.CallRows.{row_of}
use Rattle.gaspi_types.specs.Groups.{is_building, new_handle, handle_of_all, opening_handles, handle_at, with_group, with_added, without_group}
use Rattle.gaspi_types.specs.Masks.{is_member, with_member, all_below}
use Rattle.gaspi_types.specs.Replies.{is_idle}
use Rattle.gaspi_types.specs.Tables.{item_at}
use Rattle.gaspi_types.specs.declared.call_rows.Posting.{Posting}
use Rattle.gaspi_types.specs.declared.calls.Call.{Call}
use Rattle.gaspi_types.specs.declared.calls.Call.TheVariants.{GroupCreate, GroupAdd, GroupDelete}
use Rattle.gaspi_types.specs.declared.entries.Kind.{Kind}
use Rattle.gaspi_types.specs.declared.groups.Handle.{Handle}
use Rattle.gaspi_types.specs.declared.groups.Handles.{Handles}
use Rattle.gaspi_types.specs.declared.shapes.Limits.{Limits}
use Rattle.gaspi_types.specs.declared.replies.Refusal.{Refusal}
use Rattle.gaspi_types.specs.declared.replies.Reply.{Reply}
use Rattle.gaspi_types.proofs.Items.{slice_get-set, slice_get-set_same, slice_get-set_other, there-within, joined}
use Rattle.gaspi_model.specs.Calls.{plain_result, plain_effect, posts_effect, posts_after, call_result, requested_kinds, answer, recorded_reply}
use Rattle.gaspi_model.specs.Posting.{with_post}
use Rattle.gaspi_model.specs.Sound.{AreSoundGroups}
use Rattle.gaspi_model.specs.declared.states.Posts.{Posts}
use Rattle.gaspi_model.specs.declared.states.Memory.{Memory}
use Rattle.gaspi_model.proofs.FoundReplies.{found-reply}
use Rattle.gaspi_model.proofs.GroupFinds.{create-found, add-found, drop-found}

-- What stands in a table of things that may be missing, with one of them set.
pub entry-set : {A : Type 0} (table : List (Option A)) (i k : ℕ) (x : Option A) (y : A) → item_at (slice_set table i x) k ≡ Some y → ((k ≡ i) × (x ≡ Some y)) ⊎ (item_at table k ≡ Some y)
entry-set {A} table i k x y h = parts (slice_get-set table i k x (Some y) (joined (slice_set table i x) k y h))
  where
    parts : ((k ≡ i) × (◌≡◌ {A = Option A} (Some y) x)) ⊎ (slice_get table k ≡ Some (Some y)) → ((k ≡ i) × (x ≡ Some y)) ⊎ (item_at table k ≡ Some y)
    parts (inl here) = inl (here.0, sym here.1)
    parts (inr there) = inr (ap (option_and_then (λ (o : Option A). o)) there)

pub entry-set_other : {A : Type 0} (table : List (Option A)) (i k : ℕ) (x : Option A) → (i ≡ k → ⊥) → item_at (slice_set table i x) k ≡ item_at table k
entry-set_other {A} table i k x apart = ap (option_and_then (λ (o : Option A). o)) (slice_get-set_other table i k x apart)

pub entry-set_same : {A : Type 0} (table : List (Option A)) (i : ℕ) (x : Option A) → i < length table → item_at (slice_set table i x) i ≡ x
entry-set_same {A} table i x within =
    let there = there-within table i within in
    ap (option_and_then (λ (o : Option A). o)) (slice_get-set_same table i there.0 x there.1)

-- no rank is in an empty set
none-member : (rank : ℕ) → is_member 0 rank ≡ true → ⊥
none-member rank h = let none = bit_at-zero rank in (let is : (0 == 1) ≡ true = rw none at h in let no : ⊥ = cc in no)

-- in a set with a rank added: it, and those that were
pub added-member : (mask rank other : ℕ) → is_member (with_member mask rank) other ≡ true → (other ≡ rank) ⊎ (is_member mask other ≡ true)
added-member mask rank other h = go (rank == other) refl
  where
    go : (b : Bool) → (rank == other) ≡ b → (other ≡ rank) ⊎ (is_member mask other ≡ true)
    go true is = inl (sym (eqb-true rank other is))
    go false is =
        let none = bit_at-pow_other rank other (λ (same : other ≡ rank). eqb-false rank other is (sym same)) in
        let bits = bit_at_or mask (2 ^ rank) other in
        let same : bit_at (bit_or mask (2 ^ rank)) other ≡ bit_at mask other = omega (arith, bits, none) in
        inr (ap (λ (n : ℕ). n == 1) (sym same) ∙ h)

-- who is in the set of all ranks below a number is below it
below-member : (ranks rank : ℕ) → is_member (all_below ranks) rank ≡ true → rank < ranks
below-member ranks rank h = go (nat_lt rank ranks) refl
  where
    go : (b : Bool) → nat_lt rank ranks ≡ b → rank < ranks
    go true is = ltb-true rank ranks is
    go false is =
        let above = ltb-false rank ranks is in
        let none = bit_at_ones_above ranks rank (omega (arith, above)) in
        absurd (let is : (0 == 1) ≡ true = rw none at h in let no : ⊥ = cc in no)

pub opening-groups : (ranks : ℕ) → AreSoundGroups ranks (opening_handles ranks)
opening-groups ranks = record {
  table = refl;
  made = omega arith;
  all = refl;
  unmade = λ id less. unmade id less;
  members = λ id h at rank is. members id h at rank is;
}
  where
    unmade : (id : ℕ) → 0 < id → handle_at (opening_handles ranks) id ≡ None
    unmade zero less = absurd (omega arith)
    unmade (suc id) less = nothing id
      where
        nothing : (id : ℕ) → handle_at (opening_handles ranks) (suc id) ≡ None
        nothing zero = refl
        nothing (suc zero) = refl
        nothing (suc (suc zero)) = refl
        nothing (suc (suc (suc zero))) = refl
        nothing (suc (suc (suc (suc zero)))) = refl
        nothing (suc (suc (suc (suc (suc zero))))) = refl
        nothing (suc (suc (suc (suc (suc (suc zero)))))) = refl
        nothing (suc (suc (suc (suc (suc (suc (suc id))))))) = refl

    members : (id : ℕ) (h : Handle) → handle_at (opening_handles ranks) id ≡ Some h → (rank : ℕ) → is_member h.members rank ≡ true → rank < ranks
    members zero h at rank is =
        let same : handle_of_all ranks ≡ h = cc in
        below-member ranks rank (subst (λ (x : Handle). is_member x.members rank ≡ true) (sym same) is)
    members (suc id) h at rank is = absurd (let none = unmade (suc id) (omega arith) in let no : ⊥ = cc in no)

-- a new group
with_group-sound : (ranks : ℕ) (groups : Handles) → nat_lt groups.last_id 7 ≡ true → AreSoundGroups ranks groups → AreSoundGroups ranks (with_group groups)
with_group-sound ranks groups room sound =
    let less = ltb-true groups.last_id 7 room in
    record {
      table = length-set groups.table (groups.last_id + 1) (Some new_handle) ∙ sound.table;
      made = omega arith;
      all = entry-set_other groups.table (groups.last_id + 1) 0 (Some new_handle) (λ same. (let no : ⊥ = omega arith in no)) ∙ sound.all;
      unmade = λ id above. entry-set_other groups.table (groups.last_id + 1) id (Some new_handle) (λ same. (let no : ⊥ = omega arith in no)) ∙ sound.unmade id (omega arith);
      members = λ id h at rank is. parts id h rank is (entry-set groups.table (groups.last_id + 1) id (Some new_handle) h at);
    }
  where
    parts : (id : ℕ) (h : Handle) (rank : ℕ) → is_member h.members rank ≡ true → ((id ≡ groups.last_id + 1) × (Some new_handle ≡ Some h)) ⊎ (handle_at groups id ≡ Some h) → rank < ranks
    parts id h rank is (inl here) =
        let same : new_handle ≡ h = (let some = here.1 in cc) in
        absurd (none-member rank (subst (λ (x : Handle). is_member x.members rank ≡ true) (sym same) is))
    parts id h rank is (inr there) = sound.members id h there rank is

-- the handle of a group that is there and not group 0 replaced, or taken away
pub set-sound : (ranks : ℕ) (groups : Handles) (id : ℕ) (x : Option Handle) → (id ≡ 0 → ⊥) → id ≤ groups.last_id
    → ((h : Handle) → x ≡ Some h → (rank : ℕ) → is_member h.members rank ≡ true → rank < ranks) → AreSoundGroups ranks groups
    → AreSoundGroups ranks (record groups { table = slice_set groups.table id x })
set-sound ranks groups id x other known within sound = record {
  table = length-set groups.table id x ∙ sound.table;
  made = sound.made;
  all = entry-set_other groups.table id 0 x (λ same. other same) ∙ sound.all;
  unmade = λ k above. entry-set_other groups.table id k x (λ same. (let no : ⊥ = omega arith in no)) ∙ sound.unmade k above;
  members = λ k h at rank is. parts k h rank is (entry-set groups.table id k x h at);
}
  where
    parts : (k : ℕ) (h : Handle) (rank : ℕ) → is_member h.members rank ≡ true → ((k ≡ id) × (x ≡ Some h)) ⊎ (handle_at groups k ≡ Some h) → rank < ranks
    parts k h rank is (inl here) = within h here.1 rank is
    parts k h rank is (inr there) = sound.members k h there rank is

-- a group that is there was made
pub made-there : (ranks : ℕ) (groups : Handles) (id : ℕ) (h : Handle) → AreSoundGroups ranks groups → handle_at groups id ≡ Some h → id ≤ groups.last_id
made-there ranks groups id h sound at = go (nat_lt groups.last_id id) refl
  where
    go : (b : Bool) → nat_lt groups.last_id id ≡ b → id ≤ groups.last_id
    go true is = absurd (let none = sound.unmade id (ltb-true groups.last_id id is) in let no : ⊥ = cc in no)
    go false is = (let below = ltb-false groups.last_id id is in omega arith)

-- a group that is built yet is not group 0
pub building-other : (ranks : ℕ) (groups : Handles) (id : ℕ) (h : Handle) → AreSoundGroups ranks groups → handle_at groups id ≡ Some h → is_building h.stage ≡ true → id ≡ 0 → ⊥
building-other ranks groups id h sound at building zero_is =
    let here : handle_at groups 0 ≡ Some h = subst (λ (n : ℕ). handle_at groups n ≡ Some h) zero_is at in
    let some : ◌≡◌ {A = Option Handle} (Some (handle_of_all ranks)) (Some h) = sym sound.all ∙ here in
    let same : handle_of_all ranks ≡ h = cc in
    let is : is_building (handle_of_all ranks).stage ≡ true = subst (λ (x : Handle). is_building x.stage ≡ true) (sym same) building in
    (let no : ⊥ = cc in no)

with_added-sound : (ranks : ℕ) (groups : Handles) (id rank : ℕ) (h : Handle) → rank < ranks → handle_at groups id ≡ Some h → is_building h.stage ≡ true → AreSoundGroups ranks groups
    → AreSoundGroups ranks (with_added groups id rank)
with_added-sound ranks groups id rank h less at building sound =
    set-sound ranks groups id (option_map (λ (x : Handle). record x { members = with_member x.members rank }) (handle_at groups id)) (building-other ranks groups id h sound at building)
    (made-there ranks groups id h sound at) (λ x is other member. within x other (rw at at is) member) sound
  where
    within : (x : Handle) (other : ℕ) → ◌≡◌ {A = Option Handle} (Some (record h { members = with_member h.members rank })) (Some x) → is_member x.members other ≡ true → other < ranks
    within x other some member =
        let same : record h { members = with_member h.members rank } ≡ x = cc in
        parts (added-member h.members rank other (subst (λ (y : Handle). is_member y.members other ≡ true) (sym same) member))
      where
        parts : (other ≡ rank) ⊎ (is_member h.members other ≡ true) → other < ranks
        parts (inl same) = rw same less
        parts (inr was) = sound.members id h at other was

without_group-sound : (ranks : ℕ) (groups : Handles) (id : ℕ) (h : Handle) → handle_at groups id ≡ Some h → not (id == 0) ≡ true → AreSoundGroups ranks groups → AreSoundGroups ranks (without_group groups id)
without_group-sound ranks groups id h at other sound =
    set-sound ranks groups id None (λ same. (let is = eq-eqb id 0 same in let no : false ≡ true = rw is at other in let never : ⊥ = cc in never))
    (made-there ranks groups id h sound at) (λ x is. absurd (let no : ⊥ = cc in no)) sound

plain-groups : (limits : Limits) (me : ℕ) (posts : Posts) (memory : Memory) (thread : ℕ) (call : Call) (reply : Reply) → plain_result limits me posts memory call ≡ Ok (Some reply)
    → AreSoundGroups limits.ranks posts.groups → AreSoundGroups limits.ranks (plain_effect posts thread call).groups
plain-groups limits me posts memory thread GroupCreate reply h sound = with_group-sound limits.ranks posts.groups (create-found posts reply h).room sound
plain-groups limits me posts memory thread (GroupAdd call) reply h sound =
    let found = add-found limits posts call reply h in
    with_added-sound limits.ranks posts.groups call.group call.rank found.handle (ltb-true call.rank limits.ranks found.ranked) found.there found.building sound
plain-groups limits me posts memory thread (GroupDelete call) reply h sound =
    let found = drop-found posts call reply h in
    without_group-sound limits.ranks posts.groups call.group found.handle found.there found.other sound
plain-groups limits me posts memory thread other reply h sound = sound

pub with_post-groups : (posts : Posts) (queue target : ℕ) (asked : Result (List Kind) Refusal) → (with_post posts queue target asked).groups ≡ posts.groups
with_post-groups posts queue target (Ok kinds) = refl
with_post-groups posts queue target (Err refusal) = refl

done-groups : (limits : Limits) (me : ℕ) (posts : Posts) (memory : Memory) (thread : ℕ) (call : Call) (reply : Reply) → call_result limits me posts memory call ≡ Ok (Some reply)
    → AreSoundGroups limits.ranks posts.groups → AreSoundGroups limits.ranks (posts_effect limits me posts thread call).groups
done-groups limits me posts memory thread call reply h sound = go (row_of call).posting refl
  where
    go : (o : Option Posting) → (row_of call).posting ≡ o → AreSoundGroups limits.ranks (posts_effect limits me posts thread call).groups
    go None none = rw none (plain-groups limits me posts memory thread call reply (rw none at h) sound)
    go (Some to) post = rw post (subst (AreSoundGroups limits.ranks) (sym (with_post-groups posts to.queue to.rank (requested_kinds limits me posts call))) sound)

-- the groups after a call that is recorded with the reply that it has
pub called-groups : (limits : Limits) (me : ℕ) (posts : Posts) (memory : Memory) (thread : ℕ) (call : Call) (reply : Reply)
    → reply ≡ recorded_reply (answer limits me posts memory thread call) → AreSoundGroups limits.ranks posts.groups
    → AreSoundGroups limits.ranks (posts_after limits me posts thread call reply).groups
called-groups limits me posts memory thread call reply is sound = go (is_idle reply) refl
  where
    go : (b : Bool) → is_idle reply ≡ b → AreSoundGroups limits.ranks (posts_after limits me posts thread call reply).groups
    go true idle = rw idle sound
    go false idle = rw idle (done-groups limits me posts memory thread call reply (found-reply limits me posts memory thread call reply is idle) sound)
