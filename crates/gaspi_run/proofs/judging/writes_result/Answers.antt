use Rattle.gaspi_run.proofs.judging.writes_result.Goals as goal

pub returns-clause-writes : goal.returns-clause-writes
returns-clause-writes c = rw c.with_text.ensures (record {
  answer = c.in_ok-answer.answer;
  told = c.in_ok-answer.ensures;
  status_is = c.why_status.ensures;
  text_is = c.in_ok-text.ensures;
})
