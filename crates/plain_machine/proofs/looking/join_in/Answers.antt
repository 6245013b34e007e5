use Rattle.std.proofs.Common.{refl, sym}
use Rattle.std.proofs.lemmas.Bool.{lt-ltb}
use Rattle.std.proofs.lemmas.List.{map-set}
use Rattle.plain_calls.specs.Looks.{recorded_of}
use Rattle.plain_machine.specs.Machine.{state_in, used_room_of}
use Rattle.plain_machine.proofs.Lifted.{ok_recorded, err_recorded}
use Rattle.plain_machine.proofs.Lists.{mapped}
use Rattle.plain_machine.proofs.OnGroups.{joined_steps}
use Rattle.plain_machine.proofs.looking.join_in.Goals as goal

pub join-requires-clause-sound : goal.join-requires-clause-sound
join-requires-clause-sound c = c.requires.whole.sound.posts _ _ c.at_mut.ensures.value

pub join-requires-clause-used : goal.join-requires-clause-used
join-requires-clause-used c = mapped used_room_of c.args.ranks.now.posts c.index-rank.result _ _ c.at_mut.ensures.value (rw c.requires.whole.used at c.at_mut-4.ensures.value)

pub returns-clause-step : goal.returns-clause-step
returns-clause-step c =
    let there = rw c.index-rank.ensures.value at c.at_mut.ensures.value in
    let own = rw c.index-rank.ensures.value at c.at_mut-2.ensures.value in
    let grouped = rw c.index.ensures.value at c.at_mut-3.ensures.value in
    let below = rw c.index.ensures.value at c.index.ensures.bound in
    rw (c.index-rank.ensures.value, c.index.ensures.value)
    (joined_steps (state_in c.args.ranks.now c.args.memories.now) c.args.joining.now.caller c.args.joining.now.group c.args.joining.now.group c.args.joining.now.args.now (recorded_of c.join.result) c.at_mut.result.now c.join.new.posts c.at_mut-2.result.now c.join.new.memory c.at_mut-3.result.now c.join.new.group
    there own grouped (lt-ltb c.args.joining.now.group 8 below) refl c.join.ensures.step (ok_recorded _ c.join.result c.join.ensures.memory) (err_recorded _ c.join.result c.join.ensures.memory_kept))

pub returns-clause-used : goal.returns-clause-used
returns-clause-used c = rw (c.requires.whole.used, c.join.ensures.used) (sym (map-set used_room_of c.args.ranks.now.posts c.index-rank.result c.join.new.posts))

pub join-requires-clause-room : goal.join-requires-clause-room
join-requires-clause-room c =
    let there = rw c.index-rank.ensures.value at c.at_mut.ensures.value in
    c.requires.room _ there
