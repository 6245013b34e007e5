use Rattle.std.proofs.Common.{ℕ, [], ap, ◌∙◌}
use Rattle.call_journal.specs.ScriptRuns.{run_of}
use Rattle.call_journal.proofs.NumberRanges.{made-more}
use Rattle.call_journal.proofs.script_runs.first_row.Goals as goal

pub loop-thread-preserved : goal.loop-thread-preserved
loop-thread-preserved c =
    made-more (run_of c.args.scripts.now [] c.args.rank) c.loop-thread.thread c.loop-thread.row c.push.new.self c.in_ok-first_run.field-0 c.in_ok-push.ensures.ok
    (c.in_ok-first_run.ensures
    ∙ (ap (λ (rank : ℕ). run_of c.args.scripts.now [] rank c.of-in-loop-thread.result) c.of.ensures ∙ ap (λ (thread : ℕ). run_of c.args.scripts.now [] c.args.rank thread) c.of-in-loop-thread.ensures))
    c.loop-thread.invariant
