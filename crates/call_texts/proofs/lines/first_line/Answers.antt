use Rattle.call_texts.proofs.FedLines.{fed_lines-feed, fed_lines-last}
use Rattle.call_texts.proofs.lines.first_line.Goals as goal

pub returns-in-Some-clause-lines : goal.returns-in-Some-clause-lines
returns-in-Some-clause-lines c = rw (c.split_at.ensures.front, c.split_at.ensures.back) (fed_lines-feed c.args.text.now c.in-Some.end c.in-Some.ensures)

pub returns-in-None-clause-lines : goal.returns-in-None-clause-lines
returns-in-None-clause-lines c = fed_lines-last c.args.text.now c.in-None.ensures c.requires
