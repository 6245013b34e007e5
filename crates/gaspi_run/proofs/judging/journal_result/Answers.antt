use Rattle.std.proofs.Common.{◌+◌, ◌-◌, Err, ap, inl, arith}
use Rattle.call_texts.proofs.FedLines.{lines-short}
use Rattle.gaspi_run.specs.Judging.{IsNoJournal, IsRead}
use Rattle.gaspi_run.specs.Results.{ResultValue}
use Rattle.gaspi_run.proofs.Answering.{if-ok}
use Rattle.gaspi_run.proofs.judging.journal_result.Goals as goal

pub overflow_add-number : goal.overflow_add-number
overflow_add-number c =
    let faulty = c.in-Err-At.ensures.fault c.in-Err-At.line (ap Err c.in-Err-At.field-0-is) in
    let within = faulty.within in
    let short = lines-short c.args.text.now in
    omega (arith, c.requires)

pub returns-in-Err-At-clause-read : goal.returns-in-Err-At-clause-read
returns-in-Err-At-clause-read c =
    if-ok (λ (told : ResultValue). IsNoJournal (c.args.number - 1 + c.in-Err-At.line) told.journal told.status told.text)
    (λ (told : ResultValue). IsRead c.args.question c.args.shape.now c.args.text.now c.args.number told.journal told.status told.text) c.no_journal_result.result
    (λ told none. inl (record { line = c.in-Err-At.line; faulty = c.in-Err-At.ensures.fault c.in-Err-At.line (ap Err c.in-Err-At.field-0-is); none = none }))
    (rw c.in-Err-At.field-0-is at c.no_journal_result.ensures.none)
