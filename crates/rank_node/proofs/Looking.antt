-- What a look at a collective meets.
use Rattle.std.proofs.Common.{◌≡◌, ℕ, ◌≤◌, length, true, false, Some, Ok, arith}
use Rattle.gaspi_types.specs.Collectives.{resume}
use Rattle.gaspi_types.specs.Tables.{item_at}
use Rattle.gaspi_types.specs.declared.calls.Call.{Call}
use Rattle.gaspi_types.specs.declared.groups.Args.{Args}
use Rattle.gaspi_types.specs.declared.groups.Group.{Group}
use Rattle.gaspi_types.specs.declared.groups.Handle.{Handle}
use Rattle.gaspi_types.specs.declared.groups.Resume.TheVariants.{Fresh}
use Rattle.gaspi_types.specs.declared.groups.Handles.{Handles}
use Rattle.gaspi_types.proofs.Chains.{bind_then}
use Rattle.gaspi_types.proofs.Items.{joined}
use Rattle.std.proofs.lemmas.Option.{slice_get_within}
use Rattle.gaspi_model.proofs.Sound.Completions.{staged-there}
use Rattle.collective_engine.specs.RoundBuffers.{may_join}
use Rattle.gaspi_model.specs.CollectiveCalls.{element_checks, args_of}
use Rattle.gaspi_model.specs.declared.states.Posts.{Posts}
use Rattle.gaspi_model.proofs.CollectiveFinds.{fresh}
use Rattle.plain_calls.specs.Rounds.{called_on}
use Rattle.rank_node.specs.Collectives.{AreSoundTogether, is_commit}
use Rattle.rank_node.specs.Lending.{IsGroupNode}
use Rattle.rank_node.specs.declared.nodes.GroupNode.{GroupNode}
use Rattle.rank_node.proofs.Joinable.{fresh-joins}

-- one that is new may join
pub new-joins : (posts : Posts) (me thread id : ℕ) (g : Group) (n : GroupNode) (call : Call) (h : Handle) (a : Args) → AreSoundTogether posts me id g → IsGroupNode g n → called_on posts.groups me id call ≡ Ok h
    → resume (item_at posts.pending id) thread (args_of h.members call) ≡ Ok Fresh → args_of h.members call ≡ Some a → is_commit a.coll ≡ false → may_join n.rounds me a.coll ≡ true
new-joins posts me thread id g n call h a meets is called new asked plain =
    bind_then (element_checks call) _ h called (λ u elements staged.
    fresh-joins posts me id g n.rounds call h a meets is.rounds staged (fresh (item_at posts.pending id) thread (args_of h.members call) new) asked plain)

-- a group whose number is over 7 is not there
pub nowhere : (groups : Handles) (me id : ℕ) (call : Call) (h : Handle) → length groups.table ≡ 8 → 8 ≤ id → called_on groups me id call ≡ Ok h → ⊥
nowhere groups me id call h eight far called =
    bind_then (element_checks call) _ h called (λ u elements staged.
    let there = joined groups.table id h (staged-there groups me id call h staged) in
    let less = slice_get_within groups.table id (Some h) there in
    omega arith)
