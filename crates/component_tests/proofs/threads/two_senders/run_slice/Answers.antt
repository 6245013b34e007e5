use Rattle.std.proofs.Common.{◌<◌, length, arith}
use Rattle.component_tests.proofs.threads.two_senders.run_slice.Goals as goal

pub returns : goal.returns
returns g c = λ k d less.
    let count = c.launch.ensures.count in
    let before : k < length c.args.tasks.now = omega (arith, count, less) in
    c.launch.ensures.did k d before c.args.world.now (c.requires k d before)
