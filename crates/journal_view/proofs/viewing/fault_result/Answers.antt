use Rattle.std.proofs.Common.{arith}
use Rattle.std.proofs.lemmas.Result.{IfOk-weaker}
use Rattle.call_texts.proofs.FedLines.{lines-short}
use Rattle.journal_view.proofs.viewing.fault_result.Goals as goal

pub overflow_add-number : goal.overflow_add-number
overflow_add-number c =
    let faulty = c.requires.faulty c.in-At.line c.in-At.is in
    let within = faulty.within in
    let short = lines-short c.args.text.now in
    omega (arith, c.requires.number)

pub returns-in-At : goal.returns-in-At
returns-in-At c =
    IfOk-weaker c.no_journal_result.result _ _
    (λ told none. record { line = c.in-At.line; faulty = c.requires.faulty c.in-At.line c.in-At.is; none = none })
    c.no_journal_result.ensures
