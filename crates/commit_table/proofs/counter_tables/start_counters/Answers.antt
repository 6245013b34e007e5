use Rattle.std.proofs.Common.{arith}
use Rattle.commit_table.proofs.Twos.{two_popped, made_first}
use Rattle.commit_table.proofs.counter_tables.start_counters.Goals as goal

pub invariant_of-result : goal.invariant_of-result
invariant_of-result c =
    let made = c.in_ok-table.ensures in
    let two = two_popped c.in_ok-table.passes.items _ _ c.in-Some-pop.first c.in-Some.second made.count c.in-Some.ensures.items c.in-Some-pop.ensures.items in
    record {
      two = made.table.1;
      first_is = made_first c.in_ok-table.table _ 0 _ _ (made.passes 0 (omega arith)) two.0 made.table.0;
      second_is = made_first c.in_ok-table.table _ 1 _ _ (made.passes 1 (omega arith)) two.1 made.table.0;
    }
