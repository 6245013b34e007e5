use Rattle.std.proofs.Common.{sym, ◌∙◌}
use Rattle.rank_script.proofs.JournalLines.{journal-some, journal-none}
use Rattle.rank_script.proofs.split.is_journal_line.Goals as goal

pub returns-in-Some : goal.returns-in-Some
returns-in-Some c = c.is_word.ensures ∙ sym (journal-some c.args.line.now c.in-Some.word.now c.in-Some.ensures)

pub returns-in-None : goal.returns-in-None
returns-in-None c = sym (journal-none c.args.line.now c.in-None.ensures)
