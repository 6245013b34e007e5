use Rattle.std.proofs.Common.{rules, w32, FitsSigned}
use Rattle.std.specs.Int.{w128}
use Rattle.gaspi_model.proofs.Sums.{fits_int, signed, unsigned_int, unsigned_long, long_sum}
use Rattle.gaspi_model.proofs.reductions.sum.Goals as goal

pub returns-in-Int-clause-value : goal.returns-in-Int-clause-value
returns-in-Int-clause-value c =
    let is = c.in-Int.is in
    let wide : FitsSigned w128 c.from.result = search rules in
    rw is (signed w32 c.args.a c.args.b _ c.ranges.a c.ranges.b wide (fits_int _ (rw is at c.requires.first)) (fits_int _ (rw is at c.requires.second)) c.from.ensures)

pub returns-in-Uint-clause-value : goal.returns-in-Uint-clause-value
returns-in-Uint-clause-value c =
    let is = c.in-Uint.is in
    let wide : FitsSigned w128 c.from-in-Uint.result = search rules in
    rw is (unsigned_int c.args.a c.args.b _ c.ranges.a c.ranges.b wide (rw is at c.requires.first) (rw is at c.requires.second) c.from-in-Uint.ensures)

pub returns-in-Ulong-clause-value : goal.returns-in-Ulong-clause-value
returns-in-Ulong-clause-value c =
    let is = c.in-Ulong.is in
    let wide : FitsSigned w128 c.from-in-Ulong.result = search rules in
    rw is (unsigned_long c.args.a c.args.b _ c.ranges.a c.ranges.b wide (rw is at c.requires.first) (rw is at c.requires.second) c.from-in-Ulong.ensures)

pub returns-in-Long-clause-value : goal.returns-in-Long-clause-value
returns-in-Long-clause-value c =
    let wide : FitsSigned w128 c.from-in-Long.result = search rules in
    long_sum c.args.num_type c.args.a c.args.b _ c.in-Long.is c.ranges.a c.ranges.b wide c.requires.first c.requires.second c.from-in-Long.ensures
