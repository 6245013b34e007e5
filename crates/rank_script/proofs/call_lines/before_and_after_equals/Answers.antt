use Rattle.std.proofs.Common.{sym, ◌+◌}
use Rattle.rank_script.proofs.SomeWords.{equals-there, equals-absent, dropped}
use Rattle.rank_script.proofs.call_lines.before_and_after_equals.Goals as goal

pub returns-in-Some-clause-before : goal.returns-in-Some-clause-before
returns-in-Some-clause-before c = sym (equals-there c.args.words.now c.in-Some.place c.in-Some.ensures).0

pub returns-in-Some-clause-after : goal.returns-in-Some-clause-after
returns-in-Some-clause-after c = rw (dropped _ (c.in-Some.place + 1)) (sym (equals-there c.args.words.now c.in-Some.place c.in-Some.ensures).1)

pub returns-in-None-clause-before : goal.returns-in-None-clause-before
returns-in-None-clause-before c = sym (equals-absent c.args.words.now c.in-None.ensures).0

pub returns-in-None-clause-after : goal.returns-in-None-clause-after
returns-in-None-clause-after c = sym (equals-absent c.args.words.now c.in-None.ensures).1
