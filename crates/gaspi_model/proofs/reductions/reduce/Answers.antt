use Rattle.gaspi_model.proofs.Folding.{reduces-on}
use Rattle.std.proofs.Common.{◌<◌, length, arith, ◌∙◌}
use Rattle.std.proofs.lemmas.List.{length-set}
use Rattle.gaspi_model.proofs.reductions.reduce.Goals as goal

pub bounds-as_slice-index : goal.bounds-as_slice-index
bounds-as_slice-index c =
    let less : c.loop-index.index < length c.loop-index.total = omega arith in
    rw c.as_slice.ensures less

pub set-requires : goal.set-requires
set-requires c = omega arith

pub loop-index-preserved : goal.loop-index-preserved
loop-index-preserved c =
    let value = rw c.as_slice.ensures at c.reduced-next.ensures.value in
    let both = reduces-on c.args.op c.args.num_type c.loop-index.index c.loop-index.total c.args.total.now c.args.values.now c.reduced-next.result c.requires.lengths c.loop-index-test.true (omega arith) c.loop-index.invariant.reduced c.loop-index.invariant.range c.requires.values value c.reduced-next.ensures.range in
    record {
      reduced = rw c.set.ensures both.0;
      range = rw c.set.ensures both.1;
      lengths = rw c.set.ensures (length-set c.loop-index.total c.loop-index.index _ ∙ c.loop-index.invariant.lengths);
    }
