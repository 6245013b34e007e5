use Rattle.std.proofs.Common.{◌≡◌, ◌++◌, codes, ◌∙◌}
use Rattle.std.specs.Fmt.{decimal}
use Rattle.gaspi_texts.proofs.ReadLines.{other-place, no-feed, event-read}
use Rattle.gaspi_texts.proofs.journal_lines.read_event_line.Goals as goal

pub returns-in_default : goal.returns-in_default
returns-in_default c =
    let front : c.as_slice.result.now ≡ decimal c.args.place ++ codes " " = c.as_slice.ensures ∙ c.in_ok-set_number.ensures in
    λ event range. other-place c.args.place c.as_slice.result.now c.args.line.now event front c.in_default.ensures.cases

pub returns-in_default-strip_suffix : goal.returns-in_default-strip_suffix
returns-in_default-strip_suffix c =
    let front : c.as_slice.result.now ≡ decimal c.args.place ++ codes " " = c.as_slice.ensures ∙ c.in_ok-set_number.ensures in
    let behind = c.in-Some.ensures.cases in
    λ event range. no-feed c.args.place c.as_slice.result.now c.args.line.now c.in-Some.behind.now event front behind.0 behind.1 c.in_default-strip_suffix.ensures.cases

pub returns : goal.returns
returns c =
    let front : c.as_slice.result.now ≡ decimal c.args.place ++ codes " " = c.as_slice.ensures ∙ c.in_ok-set_number.ensures in
    let behind = c.in-Some.ensures.cases in
    let text = c.in-Some-strip_suffix.ensures.cases in
    event-read c.read_event_with.result c.args.place c.as_slice.result.now c.args.line.now c.in-Some.behind.now c.in-Some-strip_suffix.text.now front behind.0 behind.1 text.0 text.1 c.read_event_with.ensures
