use Rattle.call_journal.proofs.Transcribing.{HasTold}
use Rattle.call_journal.proofs.transcripts.write_transcript.Given as goal

abbrev pub invariant-loop-own : goal.invariant-loop-own
invariant-loop-own l = HasTold l.caller l.run.outcome l.run.lines l.lines l.calls l.fn.text l.text l.own-index
