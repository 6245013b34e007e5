use Rattle.std.proofs.Common.{◌-◌, ◌∙◌, length, take, drop, arith}
use Rattle.std.proofs.lemmas.Grind.{common_steps}
use Rattle.call_texts.proofs.FormCounts.{counted-later, counted-short}
use Rattle.call_texts.proofs.form_counts.+are_counted.Goals as goal

pub returns-in-Some : goal.returns-in-Some
returns-in-Some t c =
    c.are_counted.ensures ∙ counted-later c.args.form.now (take (length c.args.form.now - 1) (drop 1 c.args.form.now)) c.args.words.now c.in-Some.rest.now c.in_ok-count.count c.args.more (omega arith) (grind (arith, common_steps)) c.in_ok-count.ensures c.in-Some.ensures

pub returns-in-None : goal.returns-in-None
returns-in-None t c = counted-short c.args.form.now c.args.words.now c.in_ok-count.count c.args.more (omega arith) c.in_ok-count.ensures c.in-None.ensures
