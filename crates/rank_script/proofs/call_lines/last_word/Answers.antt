use Rattle.rank_script.proofs.SomeWords.{last_word-split}
use Rattle.rank_script.proofs.call_lines.last_word.Goals as goal

pub returns-in-Some : goal.returns-in-Some
returns-in-Some c = last_word-split c.args.words.now c.in-Some.field-0-1.now c.in-Some.last.now (cc c.in-Some.ensures.cases.0)
