use Rattle.std.proofs.Common.{arith}
use Rattle.std.proofs.lemmas.Bool.{le-leb}
use Rattle.std.proofs.lemmas.Bool.Decides.{nat_tests}
use Rattle.plain_calls.proofs.Looked.{look_room, look_steps, look_used, less-released, released-within}
use Rattle.plain_calls.proofs.CallBounds.{released-part}
use Rattle.gaspi_model.specs.Calls.{recorded_reply}
use Rattle.plain_calls.proofs.recording.record.Goals as goal

pub record_evaluation-requires-clause-room : goal.record_evaluation-requires-clause-room
record_evaluation-requires-clause-room c =
    look_room c.args.evaluation.now c.args.limits.now c.args.invocation.now.caller.rank c.args.posts.now c.args.memory.now c.args.invocation.now.caller.thread c.args.invocation.now.call.now c.requires.limits c.requires.sound c.requires.evaluation

pub returns-clause-step : goal.returns-clause-step
returns-clause-step c =
    rw (c.in_ok-record_evaluation.ensures.posts, c.in_ok-record_evaluation.ensures.memory)
    (look_steps c.args.evaluation.now c.args.limits.now c.args.invocation.now.caller.rank c.args.posts.now c.args.memory.now c.args.invocation.now.caller.thread c.args.invocation.now.call.now c.requires.evaluation c.requires.there (le-leb _ _ c.requires.room))

pub released-freed-requires : goal.released-freed-requires
released-freed-requires c =
    let part = released-part c.args.posts.now c.args.invocation.now.call.now (recorded_reply c.args.evaluation.now.ready) in
    let room = c.requires.sound.room in
    let limited = c.requires.limits in
    grind (arith, nat_tests, part, room, limited)

pub overflow_sub-result : goal.overflow_sub-result
overflow_sub-result c =
    let used = look_used c.args.evaluation.now c.args.limits.now c.args.invocation.now.caller.rank c.args.posts.now c.args.memory.now c.args.invocation.now.caller.thread c.args.invocation.now.call.now c.requires.sound c.requires.evaluation in
    rw c.requires.used (released-within _ _ _ _ used c.released-freed.ensures)

pub returns-clause-used : goal.returns-clause-used
returns-clause-used c =
    let used = look_used c.args.evaluation.now c.args.limits.now c.args.invocation.now.caller.rank c.args.posts.now c.args.memory.now c.args.invocation.now.caller.thread c.args.invocation.now.call.now c.requires.sound c.requires.evaluation in
    rw (c.in_ok-record_evaluation.ensures.posts, c.requires.used) (less-released _ _ _ _ used c.released-freed.ensures)
