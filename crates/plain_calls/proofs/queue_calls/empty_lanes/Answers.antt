use Rattle.std.proofs.Common.{◌≡◌, ℕ, List, [], length, slice_set, ap, ◌∙◌, arith}
use Rattle.std.proofs.lemmas.Bool.Decides.{nat_tests}
use Rattle.gaspi_types.specs.declared.entries.Entry.{Entry}
use Rattle.plain_calls.proofs.Emptied.{emptied_front, length-emptied, emptied-next, emptied-all}
use Rattle.plain_calls.proofs.queue_calls.empty_lanes.Goals as goal

pub at_mut-requires : goal.at_mut-requires
at_mut-requires c =
    let is = ap length c.loop-target.invariant ∙ length-emptied c.loop-target.target c.args.lanes.now in
    let end = c.len-target-end.ensures in
    let less = c.loop-target-test.true in
    grind (arith, nat_tests, is, end, less)

pub loop-target-preserved : goal.loop-target-preserved
loop-target-preserved c =
    ap (λ (lane : List Entry). slice_set c.loop-target.lanes c.loop-target.target lane) c.truncate.ensures
    ∙ ap (λ (lanes : List (List Entry)). slice_set lanes c.loop-target.target []) c.loop-target.invariant
    ∙ emptied-next c.loop-target.target c.args.lanes.now

pub returns : goal.returns
returns c =
    let end = c.len-target-end.ensures in
    let most = c.loop-target.auto.target-end in
    let stop = c.loop-target-test.false in
    let same : c.loop-target.target ≡ length c.args.lanes.now = grind (arith, nat_tests, end, most, stop) in
    c.loop-target.invariant ∙ ap (λ (n : ℕ). emptied_front n c.args.lanes.now) same ∙ emptied-all c.args.lanes.now
