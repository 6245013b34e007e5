use Rattle.std.proofs.Common.{Ok, sym, refl, ap, ◌∙◌}
use Rattle.gaspi_model.specs.Calls.{recorded_reply}
use Rattle.gaspi_model.specs.Step.{call_message}
use Rattle.plain_machine.specs.Machine.{state_in, used_room_of}
use Rattle.plain_machine.proofs.Lifted.{called_telling, registered_used}
use Rattle.plain_machine.proofs.Lists.{map_kept}
use Rattle.gaspi_types.specs.declared.footprints.Footprint.TheVariants.{Alone, OwnMemory, PeerMemory, BothMemories, Group, GroupAndMemory}
use Rattle.gaspi_types.proofs.Items.{set-there}
use Rattle.plain_calls.specs.Looks.{recorded_of}
use Rattle.plain_machine.proofs.Recorded.{called_ranks, lent_same, limits_as}
use Rattle.plain_machine.proofs.looking.record_plain.Goals as goal

pub returns-in-Alone-clause-step : goal.returns-in-Alone-clause-step
returns-in-Alone-clause-step c =
    called_ranks c.args.ranks.now c.record_on.new.ranks c.args.memories.now c.args.invocation.now.caller c.args.invocation.now.call.now c.args.look.now Alone (recorded_of c.record_on.result) _ c.record_on.new.memory
    c.requires.plain c.requires.found.declared (sym c.call_footprint.ensures ∙ c.in-Alone.is) (sym c.empty_memory-none.ensures) refl (λ change all. refl) c.record_on.ensures.limits c.record_on.ensures.groups c.requires.found.finds c.record_on.ensures.step

pub returns-in-OwnMemory-clause-step : goal.returns-in-OwnMemory-clause-step
returns-in-OwnMemory-clause-step c =
    let there = rw c.index.ensures.value at c.at_mut-memory.ensures.value in
    rw c.index.ensures.value
    (called_ranks c.args.ranks.now c.record_on-in-OwnMemory.new.ranks c.args.memories.now c.args.invocation.now.caller c.args.invocation.now.call.now c.args.look.now OwnMemory (recorded_of c.record_on-in-OwnMemory.result) _ c.record_on-in-OwnMemory.new.memory
    c.requires.plain c.requires.found.declared (sym c.call_footprint.ensures ∙ c.in-OwnMemory.is) (rw there refl) (set-there c.args.memories.now c.args.invocation.now.caller.rank _ there) (λ change all. refl) c.record_on-in-OwnMemory.ensures.limits c.record_on-in-OwnMemory.ensures.groups c.requires.found.finds c.record_on-in-OwnMemory.ensures.step)

pub returns-in-PeerMemory-clause-step : goal.returns-in-PeerMemory-clause-step
returns-in-PeerMemory-clause-step c =
    let there = rw c.index-in-PeerMemory.ensures.value at c.at_mut-memory-in-PeerMemory.ensures.value in
    rw c.index-in-PeerMemory.ensures.value
    (called_ranks c.args.ranks.now c.record_on-in-PeerMemory.new.ranks c.args.memories.now c.args.invocation.now.caller c.args.invocation.now.call.now c.args.look.now (PeerMemory c.in-PeerMemory.peer) (recorded_of c.record_on-in-PeerMemory.result) _ c.record_on-in-PeerMemory.new.memory
    c.requires.plain c.requires.found.declared (sym c.call_footprint.ensures ∙ c.in-PeerMemory.is) (rw there refl) (set-there c.args.memories.now c.in-PeerMemory.peer _ there) (λ change all. refl) c.record_on-in-PeerMemory.ensures.limits c.record_on-in-PeerMemory.ensures.groups c.requires.found.finds c.record_on-in-PeerMemory.ensures.step)

pub returns-in-BothMemories-clause-step : goal.returns-in-BothMemories-clause-step
returns-in-BothMemories-clause-step c =
    let there = rw c.index-in-BothMemories.ensures.value at c.at_mut-target.ensures.value in
    rw c.index-in-BothMemories.ensures.value
    (called_ranks c.args.ranks.now c.record_on-in-BothMemories.new.ranks c.args.memories.now c.args.invocation.now.caller c.args.invocation.now.call.now c.args.look.now (BothMemories c.in-BothMemories.peer) (recorded_of c.record_on-in-BothMemories.result) _ c.record_on-in-BothMemories.new.memory
    c.requires.plain c.requires.found.declared (sym c.call_footprint.ensures ∙ c.in-BothMemories.is) (rw there refl) (set-there c.args.memories.now c.in-BothMemories.peer _ there) (λ change all. refl) c.record_on-in-BothMemories.ensures.limits c.record_on-in-BothMemories.ensures.groups c.requires.found.finds c.record_on-in-BothMemories.ensures.step)

pub returns-in-Group-clause-step : goal.returns-in-Group-clause-step
returns-in-Group-clause-step c =
    called_ranks c.args.ranks.now c.record_on-in-Group.new.ranks c.args.memories.now c.args.invocation.now.caller c.args.invocation.now.call.now c.args.look.now (Group c.in-Group.field-0) (recorded_of c.record_on-in-Group.result) _ c.record_on-in-Group.new.memory
    c.requires.plain c.requires.found.declared (sym c.call_footprint.ensures ∙ c.in-Group.is) (sym c.empty_memory-none-in-Group.ensures) refl (λ change all. refl) c.record_on-in-Group.ensures.limits c.record_on-in-Group.ensures.groups c.requires.found.finds c.record_on-in-Group.ensures.step

pub returns-in-GroupAndMemory-clause-step : goal.returns-in-GroupAndMemory-clause-step
returns-in-GroupAndMemory-clause-step c =
    let there = rw c.index-in-GroupAndMemory.ensures.value at c.at_mut-memory-in-GroupAndMemory.ensures.value in
    rw c.index-in-GroupAndMemory.ensures.value
    (called_ranks c.args.ranks.now c.record_on-in-GroupAndMemory.new.ranks c.args.memories.now c.args.invocation.now.caller c.args.invocation.now.call.now c.args.look.now (GroupAndMemory c.in-GroupAndMemory.field-0) (recorded_of c.record_on-in-GroupAndMemory.result) _ c.record_on-in-GroupAndMemory.new.memory
    c.requires.plain c.requires.found.declared (sym c.call_footprint.ensures ∙ c.in-GroupAndMemory.is) (rw there refl) (set-there c.args.memories.now c.args.invocation.now.caller.rank _ there) (λ change all. refl) c.record_on-in-GroupAndMemory.ensures.limits c.record_on-in-GroupAndMemory.ensures.groups c.requires.found.finds c.record_on-in-GroupAndMemory.ensures.step)

pub returns-in_ok-record_on-in-PeerPosts-clause-step : goal.returns-in_ok-record_on-in-PeerPosts-clause-step
returns-in_ok-record_on-in-PeerPosts-clause-step c =
    let s = state_in c.args.ranks.now c.args.memories.now in
    let caller = c.args.invocation.now.caller in
    let call = c.args.invocation.now.call.now in
    let own = rw c.index-in-PeerPosts.ensures.value at c.at-own.ensures in
    let peer = rw c.index-in-PeerPosts-2.ensures.value at c.at_mut.ensures.value in
    rw c.index-in-PeerPosts-2.ensures.value
    (limits_as c.args.ranks.now c.record_on-in-PeerPosts.new.ranks _ c.args.memories.now (Ok tt) s _ c.in_ok-record_on-in-PeerPosts.ensures.limits c.in_ok-record_on-in-PeerPosts.ensures.groups
    (called_telling s caller call (recorded_reply c.args.look.now.ready) c.in-PeerPosts.peer _ _ _ _ _ c.record_on-in-PeerPosts.new.ranks.posts
    c.requires.plain own (sym c.call_footprint.ensures ∙ c.in-PeerPosts.is) c.empty_memory-none-in-PeerPosts.ensures peer (c.register_at_peer.ensures ∙ c.registration-registration.ensures _)
    (sym (lent_same c.args.look.now c.args.ranks.now.limits c.args.ranks.now.posts (call_message s caller.rank call) c.empty_memory-none-in-PeerPosts.result caller call c.requires.found.finds.message) ∙ c.in_ok-record_on-in-PeerPosts.ensures.step)))

pub returns-in_ok-record_on-in-PeerPosts-clause-used : goal.returns-in_ok-record_on-in-PeerPosts-clause-used
returns-in_ok-record_on-in-PeerPosts-clause-used c =
    c.in_ok-record_on-in-PeerPosts.ensures.used
    ∙ sym (map_kept used_room_of c.record_on-in-PeerPosts.new.ranks.posts c.index-in-PeerPosts-2.result _ c.register_at_peer.new.peer c.at_mut.ensures.value (ap used_room_of c.register_at_peer.ensures ∙ registered_used c.registration-registration.result _))
