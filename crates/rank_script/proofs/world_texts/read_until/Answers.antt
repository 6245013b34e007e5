use Rattle.std.proofs.Common.{length, sym, ◌∙◌, arith}
use Rattle.call_texts.specs.Lines.{fed_lines}
use Rattle.rank_script.specs.Readings.{reading_of}
use Rattle.rank_script.specs.UntilJournal.{until_from}
use Rattle.rank_script.proofs.JournalLines.{fed-length}
use Rattle.rank_script.proofs.UntilJournal.{IsNext, not-first, not-second, lines-later, place-later, line-faulty, passed-on, line-read}
use Rattle.rank_script.proofs.world_texts.read_until.Goals.{else-journal-via-then-journal+else-is_journal_line, else-journal-via-else-journal}
use Rattle.rank_script.proofs.world_texts.read_until.Goals as goal

pub returns-in_err-read_line-clause-exact : goal.returns-in_err-read_line-clause-exact
returns-in_err-read_line-clause-exact c =
    let journal = c.args.journal in
    let text = c.args.text.now in
    let rest = c.loop-rest.rest.now in
    let result = c.from_residual-in_err-read_line in
    let next : IsNext journal rest c.first_line.result.0.now c.first_line.result.1.now c.plain_line-line.result.now = record {
      first = c.first_line.ensures.lines;
      is = c.plain_line-line.ensures;
      other = elim c.else-journal.branch [
        | else-journal-via-then-journal+else-is_journal_line w ↦ not-second _ _ (sym w.is_journal_line.ensures ∙ w.if-is_journal_line.false)
        | else-journal-via-else-journal w ↦ not-first _ _ w.if-journal.false
      ];
    } in
    let same = c.loop-rest.invariant.same ∙ lines-later journal (reading_of c.loop-rest.reading) c.loop-rest.number rest _ _ _ next in
    let exact = line-faulty _ journal _ _ c.loop-rest.number text _ _ (until_from journal 0 1 (fed_lines text)) c.if-text-gt-MOST_INPUT_BYTES.false same c.in_err-read_line.ensures.exact in
    passed-on result.result _ _ _ result.ensures.0 result.ensures.1 exact

pub loop-rest-preserved : goal.loop-rest-preserved
loop-rest-preserved c =
    let journal = c.args.journal in
    let text = c.args.text.now in
    let rest = c.loop-rest.rest.now in
    let line = c.first_line.result.0.now in
    let later = c.first_line.result.1.now in
    let next : IsNext journal rest line later c.plain_line-line.result.now = record {
      first = c.first_line.ensures.lines;
      is = c.plain_line-line.ensures;
      other = elim c.else-journal.branch [
        | else-journal-via-then-journal+else-is_journal_line w ↦ not-second _ _ (sym w.is_journal_line.ensures ∙ w.if-is_journal_line.false)
        | else-journal-via-else-journal w ↦ not-first _ _ w.if-journal.false
      ];
    } in
    let read = line-read _ _ c.loop-rest.number _ _ c.in_ok-read_line.ensures.exact.0 c.in_ok-read_line.ensures.exact.1 in
    let sum = fed-length (length text) line later rest c.first_line.ensures.whole c.loop-rest.invariant.within in
    record {
      same = c.loop-rest.invariant.same ∙ lines-later journal (reading_of c.loop-rest.reading) c.loop-rest.number rest line later _ next ∙ read;
      place = c.loop-rest.invariant.place ∙ place-later journal _ _ c.loop-rest.number rest line later _ next sum;
      room = omega (arith, c.first_line.ensures.shorter, c.loop-rest.invariant.room);
      within = omega (arith, c.first_line.ensures.shorter, c.loop-rest.invariant.within);
      some = omega (arith, c.loop-rest.invariant.some);
      accords = c.in_ok-read_line.ensures.accords c.loop-rest.invariant.accords;
    }
