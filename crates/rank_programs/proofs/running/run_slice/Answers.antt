use Rattle.std.proofs.Common.{◌<◌, length, slice_index_or, arith, subst}
use Rattle.std.proofs.lemmas.Option.{slice_get-get_or, slice_get_within, get_or_from_slice_get}
use Rattle.gaspi_world.specs.declared.launching.Task.{Task}
use Rattle.rank_programs.specs.ThreadBodies.{BodyDid}
use Rattle.rank_programs.specs.declared.thread_bodies.ThreadBody.{ThreadBody}
use Rattle.rank_programs.proofs.running.run_slice.Goals as goal

pub returns-clause-ran : goal.returns-clause-ran
returns-clause-ran g c = λ place task at.
    let within = slice_get_within c.launch.new.tasks place task at in
    let less : place < length c.args.tasks.now = (let count = c.launch.ensures.count in omega arith) in
    let before = slice_index_or c.args.tasks.now place task in
    let same = get_or_from_slice_get c.launch.new.tasks place task task at in
    (before, slice_get-get_or c.args.tasks.now place task less, subst (λ (t : Task (ThreadBody _ _)). BodyDid before.body before.pass t.body t.pass) same (c.launch.ensures.did place task less))
