use Rattle.std.proofs.Common.{◌∙◌}
use Rattle.call_journal.proofs.Transcribing.{on-ok, answered-all}
use Rattle.call_journal.proofs.transcripts.write_transcript.Goals as goal

pub returns : goal.returns
returns c =
    on-ok c.write_outcome-2.result
    (λ added. added ∙ answered-all c.args.caller.now c.args.run.now.outcome c.args.run.now.lines c.loop-own.lines c.args.calls.now c.args.text.now c.loop-own.text c.loop-own.own-index c.loop-own-test.false c.loop-own.invariant)
    c.write_outcome-2.ensures
