use Rattle.std.proofs.Common.{Ok, sym}
use Rattle.std.proofs.lemmas.Bool.{lt-ltb, le-ltb}
use Rattle.std.proofs.lemmas.List.{map-set}
use Rattle.gaspi_model.specs.Calls.{recorded_reply}
use Rattle.gaspi_model.specs.State.{thread_at}
use Rattle.plain_machine.specs.Machine.{state_in, used_room_of}
use Rattle.plain_machine.proofs.EventRooms.{collective_charge}
use Rattle.plain_machine.proofs.Joining.{in_none, contributions_sound, completed_on, completed_none}
use Rattle.plain_machine.proofs.Lifted.{used_fits}
use Rattle.plain_machine.proofs.Lists.{mapped}
use Rattle.plain_machine.proofs.looking.record_collective.Goals as goal

pub complete-requires-clause-part : goal.complete-requires-clause-part
complete-requires-clause-part c =
    let there = rw c.index-rank.ensures.value at c.at_mut.ensures.value in
    c.requires.whole.1.sound.collectives.parts _ _ _ _ c.at_mut-then-id-lt8.ensures.value there

pub complete-requires-clause-used : goal.complete-requires-clause-used
complete-requires-clause-used c = mapped used_room_of c.args.ranks.now.posts c.index-rank.result _ _ c.at_mut.ensures.value (rw c.requires.whole.1.used at c.at_mut-then-id-lt8-2.ensures.value)

pub complete-requires-clause-few : goal.complete-requires-clause-few
complete-requires-clause-few c =
    used_fits c.args.ranks.now.limits _ _ c.requires.whole.1.sound.limits (c.requires.whole.1.sound.posts _ _ c.at_mut.ensures.value)
    (mapped used_room_of c.args.ranks.now.posts c.index-rank.result _ _ c.at_mut.ensures.value (rw c.requires.whole.1.used at c.at_mut-then-id-lt8-2.ensures.value))

pub returns-then-id-lt8-clause-step : goal.returns-then-id-lt8-clause-step
returns-then-id-lt8-clause-step c = λ memories.
    let there = rw c.index-rank.ensures.value at c.at_mut.ensures.value in
    let one = collective_charge (thread_at c.at_mut.result.now c.args.invocation.now.caller.thread) c.args.invocation.now.call.now (recorded_reply c.args.ready) c.args.id c.requires.group in
    let room = rw one at (c.requires.room _ there) in
    rw c.index-rank.ensures.value
    (completed_on (state_in c.args.ranks.now memories) c.args.invocation.now.caller c.args.invocation.now.call.now (recorded_reply c.args.ready) c.args.id (Ok tt) c.at_mut.result.now c.complete.new.posts c.at_mut-then-id-lt8.result.now c.complete.new.group
    (lt-ltb c.args.id 8 c.if-id-lt8.true) there c.requires.group c.at_mut-then-id-lt8.ensures.value (c.complete.ensures.step c.args.ranks.now.limits room))

pub returns-then-id-lt8-clause-used : goal.returns-then-id-lt8-clause-used
returns-then-id-lt8-clause-used c = rw (c.requires.whole.1.used, c.complete.ensures.used) (sym (map-set used_room_of c.args.ranks.now.posts c.index-rank.result c.complete.new.posts))

pub complete-requires-2-clause-part : goal.complete-requires-2-clause-part
complete-requires-2-clause-part c =
    let there = rw c.index-rank.ensures.value at c.at_mut-2.ensures.value in
    rw c.empty_group-none.ensures
    (rw (in_none (state_in c.args.ranks.now c.requires.whole.0) c.args.id (le-ltb c.args.id 8 c.if-id-lt8.false)) at
    (contributions_sound (state_in c.args.ranks.now c.requires.whole.0) c.args.id c.args.invocation.now.caller.rank c.at_mut-2.result.now c.requires.whole.1.sound there))

pub complete-requires-2-clause-used : goal.complete-requires-2-clause-used
complete-requires-2-clause-used c = mapped used_room_of c.args.ranks.now.posts c.index-rank.result _ _ c.at_mut-2.ensures.value (rw c.requires.whole.1.used at c.at_mut-3.ensures.value)

pub complete-requires-2-clause-few : goal.complete-requires-2-clause-few
complete-requires-2-clause-few c =
    used_fits c.args.ranks.now.limits _ _ c.requires.whole.1.sound.limits (c.requires.whole.1.sound.posts _ _ c.at_mut-2.ensures.value)
    (mapped used_room_of c.args.ranks.now.posts c.index-rank.result _ _ c.at_mut-2.ensures.value (rw c.requires.whole.1.used at c.at_mut-3.ensures.value))

pub returns-clause-step : goal.returns-clause-step
returns-clause-step c = λ memories.
    let there = rw c.index-rank.ensures.value at c.at_mut-2.ensures.value in
    let one = collective_charge (thread_at c.at_mut-2.result.now c.args.invocation.now.caller.thread) c.args.invocation.now.call.now (recorded_reply c.args.ready) c.args.id c.requires.group in
    let room = rw one at (c.requires.room _ there) in
    rw c.index-rank.ensures.value
    (completed_none (state_in c.args.ranks.now memories) c.args.invocation.now.caller c.args.invocation.now.call.now (recorded_reply c.args.ready) c.args.id (Ok tt) c.at_mut-2.result.now c.complete-2.new.posts c.empty_group-none.result c.complete-2.new.group
    (le-ltb c.args.id 8 c.if-id-lt8.false) there c.requires.group c.empty_group-none.ensures (c.complete-2.ensures.step c.args.ranks.now.limits room))

pub returns-clause-used : goal.returns-clause-used
returns-clause-used c = rw (c.requires.whole.1.used, c.complete-2.ensures.used) (sym (map-set used_room_of c.args.ranks.now.posts c.index-rank.result c.complete-2.new.posts))

pub complete-requires-clause-there : goal.complete-requires-clause-there
complete-requires-clause-there c =
    let there = rw c.index-rank.ensures.value at c.at_mut.ensures.value in
    rw there at (c.requires.declared c.requires.whole.0)

pub complete-requires-2-clause-there : goal.complete-requires-2-clause-there
complete-requires-2-clause-there c =
    let there = rw c.index-rank.ensures.value at c.at_mut-2.ensures.value in
    rw there at (c.requires.declared c.requires.whole.0)
