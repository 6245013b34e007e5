use Rattle.std.proofs.Common.{◌≡◌, ◌+◌, ◌-◌, length, sym, ap, ◌∙◌, false, arith}
use Rattle.call_texts.specs.Lines.{fed_lines, plain_line}
use Rattle.rank_script.specs.WorldText.{journal_from, is_journal_line}
use Rattle.rank_script.proofs.JournalLines.{journal-later, fed-length}
use Rattle.rank_script.proofs.split.split_input.Goals as goal

pub loop-rest-preserved : goal.loop-rest-preserved
loop-rest-preserved c =
    let text = c.args.text.now in
    let rest = c.loop-rest.rest.now in
    let line = c.first_line.result.0.now in
    let later = c.first_line.result.1.now in
    let other : is_journal_line (plain_line line) ≡ false = ap is_journal_line (sym c.plain_line.ensures) ∙ sym c.is_journal_line.ensures ∙ c.if-is_journal_line.false in
    let sum = fed-length (length text) line later rest c.first_line.ensures.whole c.loop-rest.invariant.within in
    let on : journal_from (length text - length rest) c.loop-rest.number (fed_lines rest) ≡ journal_from (length text - length later) (c.loop-rest.number + 1) (fed_lines later) =
    rw c.first_line.ensures.lines (journal-later _ _ c.loop-rest.number line (fed_lines later) other sum) in
    record {
      same = c.loop-rest.invariant.same ∙ on;
      room = omega (arith, c.first_line.ensures.shorter, c.loop-rest.invariant.room);
      within = omega (arith, c.first_line.ensures.shorter, c.loop-rest.invariant.within);
      some = omega (arith, c.loop-rest.invariant.some);
    }
