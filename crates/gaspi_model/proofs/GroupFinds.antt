-- What the calls on groups have found that are done.
use Rattle.std.proofs.Common.{◌≡◌, ◌+◌, true, not, ◌==◌, nat_lt, Option, None, Some, Ok}
use Rattle.gaspi_types.specs.Groups.{is_building, handle_at, next_group, building_at, delete_checks, idle_checks}
use Rattle.gaspi_types.specs.Tables.{item_at}
use Rattle.gaspi_types.specs.declared.calls.groups.GroupAdd as group_add
use Rattle.gaspi_types.specs.declared.calls.groups.GroupDelete as group_delete
use Rattle.gaspi_types.specs.declared.groups.Handle.{Handle}
use Rattle.gaspi_types.specs.declared.shapes.Limits.{Limits}
use Rattle.gaspi_types.specs.declared.replies.Refusal.TheVariants.{NoGroup, BadRank, GroupsFull}
use Rattle.gaspi_types.specs.declared.replies.Reply.{Reply}
use Rattle.gaspi_types.specs.declared.replies.Reply.TheVariants as replies
use Rattle.gaspi_types.proofs.Chains.{bind_then, check_then, found_then, absent_none, check_holds, same_Ok}
use Rattle.gaspi_model.specs.GroupCalls.{group_create_result, group_add_result, group_delete_result}
use Rattle.gaspi_model.specs.declared.states.Posts.{Posts}

-- a group that is made has the next number, and there is one more
pub record IsCreateFound (posts : Posts) (reply : Reply) : Type 0 where
  pub room : nat_lt posts.groups.last_id 7 ≡ true
  pub answers : reply ≡ replies.Id (posts.groups.last_id + 1)

pub create-found : (posts : Posts) (reply : Reply) → group_create_result posts ≡ Ok (Some reply) → IsCreateFound posts reply
create-found posts reply h =
    bind_then (next_group posts.groups) _ (Some reply) h (λ id next h1.
    check_then (nat_lt posts.groups.last_id 7) GroupsFull _ id next (λ room h2.
    let same : posts.groups.last_id + 1 ≡ id = same_Ok _ _ h2 in
    let some : ◌≡◌ {A = Option Reply} (Some (replies.Id id)) (Some reply) = same_Ok _ _ h1 in
    record { room = room; answers = (let is : reply ≡ replies.Id id = cc in rw same is) }))

-- a rank that is added: it is a rank, and the group is built yet and idle
pub record IsAddFound (limits : Limits) (posts : Posts) (call : group_add.GroupAdd) (reply : Reply) : Type 0 where
  pub ranked : nat_lt call.rank limits.ranks ≡ true
  pub handle : Handle
  pub there : handle_at posts.groups call.group ≡ Some handle
  pub building : is_building handle.stage ≡ true
  pub idle : item_at posts.pending call.group ≡ None
  pub done : reply ≡ replies.Done

pub add-found : (limits : Limits) (posts : Posts) (call : group_add.GroupAdd) (reply : Reply) → group_add_result limits posts call ≡ Ok (Some reply) → IsAddFound limits posts call reply
add-found limits posts call reply h =
    check_then (nat_lt call.rank limits.ranks) BadRank _ (Some reply) h (λ ranked h1.
    bind_then (building_at posts.groups call.group) _ (Some reply) h1 (λ handle found h2.
    bind_then (idle_checks posts.pending call.group) _ (Some reply) h2 (λ u idle h3.
    found_then (handle_at posts.groups call.group) NoGroup _ handle found (λ x there h4.
    check_then (is_building x.stage) _ _ handle h4 (λ building h5.
    let same : x ≡ handle = same_Ok _ _ h5 in
    let some : ◌≡◌ {A = Option Reply} (Some replies.Done) (Some reply) = same_Ok _ _ h3 in
    record { ranked = ranked; handle = x; there = there; building = building; idle = absent_none _ _ u idle; done = (let is : reply ≡ replies.Done = cc in is) })))))

-- a group that is dropped: it is there, idle, and not group 0
pub record IsDropFound (posts : Posts) (call : group_delete.GroupDelete) (reply : Reply) : Type 0 where
  pub handle : Handle
  pub there : handle_at posts.groups call.group ≡ Some handle
  pub other : not (call.group == 0) ≡ true
  pub idle : item_at posts.pending call.group ≡ None
  pub done : reply ≡ replies.Done

pub drop-found : (posts : Posts) (call : group_delete.GroupDelete) (reply : Reply) → group_delete_result posts call ≡ Ok (Some reply) → IsDropFound posts call reply
drop-found posts call reply h =
    bind_then (delete_checks posts.groups call.group) _ (Some reply) h (λ v found h1.
    bind_then (idle_checks posts.pending call.group) _ (Some reply) h1 (λ u idle h2.
    found_then (handle_at posts.groups call.group) NoGroup _ v found (λ handle there h3.
    let some : ◌≡◌ {A = Option Reply} (Some replies.Done) (Some reply) = same_Ok _ _ h2 in
    record { handle = handle; there = there; other = check_holds _ _ v h3; idle = absent_none _ _ u idle; done = (let is : reply ≡ replies.Done = cc in is) })))
