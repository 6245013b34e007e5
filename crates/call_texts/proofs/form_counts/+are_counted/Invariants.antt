use Rattle.std.proofs.Common.{length}
use Rattle.call_texts.proofs.form_counts.+are_counted.Given as goal

abbrev pub decreases-are_counted : goal.decreases-are_counted
decreases-are_counted l = length l.form.now
