use Rattle.std.proofs.Common.{◌≡◌, Result, Ok, Err, IsErr, refl, sym, ap, ◌∙◌, arith}
use Rattle.std.proofs.lemmas.Bool.Decides.{nat_tests}
use Rattle.std.proofs.lemmas.List.{map-set}
use Rattle.gaspi_types.proofs.Items.{there-within}
use Rattle.gaspi_types.specs.declared.memory.NoMemory.{NoMemory}
use Rattle.gaspi_model.specs.Calls.{recorded_reply}
use Rattle.gaspi_model.specs.Step.{called}
use Rattle.gaspi_model.specs.Transfers.{PostsAndMemory}
use Rattle.gaspi_model.specs.declared.states.StepFault.TheVariants as faults
use Rattle.gaspi_model.specs.declared.states.Why.TheVariants as whys
use Rattle.plain_calls.specs.Looks.{recorded_of}
use Rattle.plain_machine.specs.Machine.{used_room_of}
use Rattle.plain_machine.proofs.Lifted.{lent_steps}
use Rattle.plain_machine.proofs.Lists.{mapped, map_kept}
use Rattle.plain_machine.proofs.looking.record_on.Goals as goal

-- a record that failed is told so
failed : (result : Result (Unit {0}) NoMemory) → IsErr result → recorded_of result ≡ Err faults.NoMemory
failed (Ok done) is = absurd (let no : ⊥ = cc in no)
failed (Err none) is = refl

pub overflow_add-used : goal.overflow_add-used
overflow_add-used c =
    let posts = there-within c.args.ranks.now.posts c.args.invocation.now.caller.rank c.requires.there in
    let taken = mapped used_room_of c.args.ranks.now.posts c.args.invocation.now.caller.rank _ _ posts.1 (rw (c.index-rank.ensures.value, c.requires.used) at c.at-taken.ensures) in
    let charge = c.requires.charge _ posts.1 in
    let room = c.requires.room _ posts.1 in
    let limited = c.requires.ranks.limited in
    grind (arith, nat_tests, taken, charge, room, limited)

pub record-requires-clause-sound : goal.record-requires-clause-sound
record-requires-clause-sound c = c.requires.ranks.sound _ _ c.at_mut.ensures.value

pub record-requires-clause-used : goal.record-requires-clause-used
record-requires-clause-used c =
    let there = rw c.index-rank.ensures.value at c.at_mut.ensures.value in
    let taken : c.at-taken.result.now ≡ used_room_of c.at_mut.result.now = mapped used_room_of c.args.ranks.now.posts c.index-rank.result _ _ c.at_mut.ensures.value (rw c.requires.used at c.at-taken.ensures) in
    rw (taken, c.requires.charge _ there) refl

pub record-requires-clause-evaluation : goal.record-requires-clause-evaluation
record-requires-clause-evaluation c =
    let there = rw c.index-rank.ensures.value at c.at_mut.ensures.value in
    (c.requires.look _ there).finds

pub record-requires-clause-room : goal.record-requires-clause-room
record-requires-clause-room c =
    let there = rw c.index-rank.ensures.value at c.at_mut.ensures.value in
    c.requires.room _ there

pub returns-in_err-used-clause-step : goal.returns-in_err-used-clause-step
returns-in_err-used-clause-step c =
    let there = rw c.index-rank.ensures.value at c.at_mut.ensures.value in
    rw (c.index-rank.ensures.value, failed c.from_residual.result c.from_residual.ensures.0)
    (lent_steps (Err faults.NoMemory) c.args.ranks.now.posts c.args.invocation.now.caller.rank _ _ _ _ whys.Caller
    (λ p m. called c.args.ranks.now.limits c.args.invocation.now.caller.rank p c.args.look.now.message m c.args.invocation.now.caller.thread c.args.invocation.now.call.now (recorded_reply c.args.look.now.ready)) there c.in_err-used.ensures.step)

pub returns-in_err-used-clause-used : goal.returns-in_err-used-clause-used
returns-in_err-used-clause-used c =
    c.requires.used
    ∙ sym (map_kept used_room_of c.args.ranks.now.posts c.index-rank.result _ c.record.new.posts c.at_mut.ensures.value (ap (λ (w : PostsAndMemory). used_room_of w.posts) c.in_err-used.ensures.step))

pub returns-clause-step : goal.returns-clause-step
returns-clause-step c =
    let there = rw c.index-rank.ensures.value at c.at_mut.ensures.value in
    rw c.index-rank.ensures.value
    (lent_steps (Ok tt) c.args.ranks.now.posts c.args.invocation.now.caller.rank _ _ _ _ whys.Caller
    (λ p m. called c.args.ranks.now.limits c.args.invocation.now.caller.rank p c.args.look.now.message m c.args.invocation.now.caller.thread c.args.invocation.now.call.now (recorded_reply c.args.look.now.ready)) there c.in_ok-used.ensures.step)

pub returns-clause-used : goal.returns-clause-used
returns-clause-used c =
    rw (c.requires.used, c.in_ok-used.ensures.used) (sym (map-set used_room_of c.args.ranks.now.posts c.index-rank.result c.record.new.posts))
