use Rattle.std.proofs.Common.{sym, refl, inl, inr}
use Rattle.gaspi_types.specs.declared.footprints.Footprint.TheVariants.{Alone, OwnMemory, PeerMemory, BothMemories, PeerPosts, Group, GroupAndMemory}
use Rattle.gaspi_types.proofs.Items.{set-there}
use Rattle.plain_calls.specs.Looks.{made_of}
use Rattle.plain_machine.specs.Entries.{found_at}
use Rattle.plain_machine.proofs.Moved.{put_has_footprint}
use Rattle.plain_machine.proofs.steps.put_at.Goals as goal

pub returns-in-OwnMemory-clause-step : goal.returns-in-OwnMemory-clause-step
returns-in-OwnMemory-clause-step c =
    let there = rw c.index.ensures.value at c.at_mut.ensures.value in
    rw (c.index.ensures.value, c.in-OwnMemory.is)
    (put_has_footprint c.args.memories.now c.args.me OwnMemory (found_at c.args.at.now) c.args.given (made_of c.put_bytes.result) _ c.put_bytes.new.memory (rw there refl) (set-there c.args.memories.now c.args.me _ there) c.put_bytes.ensures.step)

pub returns-in-PeerMemory-clause-step : goal.returns-in-PeerMemory-clause-step
returns-in-PeerMemory-clause-step c =
    let there = rw c.index-in-PeerMemory.ensures.value at c.at_mut-in-PeerMemory.ensures.value in
    rw (c.index-in-PeerMemory.ensures.value, c.in-PeerMemory.is)
    (put_has_footprint c.args.memories.now c.args.me (PeerMemory c.in-PeerMemory.peer) (found_at c.args.at.now) c.args.given (made_of c.put_bytes-in-PeerMemory.result) _ c.put_bytes-in-PeerMemory.new.memory (rw there refl) (set-there c.args.memories.now c.in-PeerMemory.peer _ there) c.put_bytes-in-PeerMemory.ensures.step)

pub returns-in-BothMemories-clause-step : goal.returns-in-BothMemories-clause-step
returns-in-BothMemories-clause-step c =
    let there = rw c.index-in-BothMemories.ensures.value at c.at_mut-in-BothMemories.ensures.value in
    rw (c.index-in-BothMemories.ensures.value, c.in-BothMemories.is)
    (put_has_footprint c.args.memories.now c.args.me (BothMemories c.in-BothMemories.peer) (found_at c.args.at.now) c.args.given (made_of c.put_bytes-in-BothMemories.result) _ c.put_bytes-in-BothMemories.new.memory (rw there refl) (set-there c.args.memories.now c.in-BothMemories.peer _ there) c.put_bytes-in-BothMemories.ensures.step)

pub returns-in-GroupAndMemory-clause-step : goal.returns-in-GroupAndMemory-clause-step
returns-in-GroupAndMemory-clause-step c =
    let there = rw c.index-in-GroupAndMemory.ensures.value at c.at_mut-in-GroupAndMemory.ensures.value in
    rw (c.index-in-GroupAndMemory.ensures.value, c.in-GroupAndMemory.is)
    (put_has_footprint c.args.memories.now c.args.me (GroupAndMemory c.in-GroupAndMemory.field-0) (found_at c.args.at.now) c.args.given (made_of c.put_bytes-in-GroupAndMemory.result) _ c.put_bytes-in-GroupAndMemory.new.memory (rw there refl) (set-there c.args.memories.now c.args.me _ there) c.put_bytes-in-GroupAndMemory.ensures.step)

pub returns-in-Alone-clause-step : goal.returns-in-Alone-clause-step
returns-in-Alone-clause-step c =
    let none = sym c.empty_memory-none.ensures in
    elim c.in-Alone.is [
      | inl is ↦ rw is (put_has_footprint c.args.memories.now c.args.me Alone (found_at c.args.at.now) c.args.given (made_of c.put_bytes-in-Alone.result) _ c.put_bytes-in-Alone.new.memory none refl c.put_bytes-in-Alone.ensures.step)
      | inr other ↦
          elim other [
            | inl is ↦ rw is.1 (put_has_footprint c.args.memories.now c.args.me (PeerPosts is.0) (found_at c.args.at.now) c.args.given (made_of c.put_bytes-in-Alone.result) _ c.put_bytes-in-Alone.new.memory none refl c.put_bytes-in-Alone.ensures.step)
            | inr is ↦ rw is.1 (put_has_footprint c.args.memories.now c.args.me (Group is.0) (found_at c.args.at.now) c.args.given (made_of c.put_bytes-in-Alone.result) _ c.put_bytes-in-Alone.new.memory none refl c.put_bytes-in-Alone.ensures.step)
          ]
    ]
