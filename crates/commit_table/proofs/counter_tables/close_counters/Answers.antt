use Rattle.commit_table.proofs.Twos.{whole_two}
use Rattle.commit_table.proofs.counter_tables.close_counters.Goals as goal

pub close-requires : goal.close-requires
close-requires c = whole_two c.args.table c.args.first c.args.second _ c.in_ok-passes.ensures.items c.requires.two c.requires.first c.requires.second
