use Rattle.std.proofs.Common.{◌≡◌, map, ap, ◌∙◌}
use Rattle.call_texts.specs.Words.{pieces_of}
use Rattle.gaspi_texts.specs.EventReading.{event_of}
use Rattle.gaspi_texts.proofs.FoundEvents.{no_event}
use Rattle.gaspi_texts.proofs.event_texts.read_event_with.Goals as goal

pub returns-in_default : goal.returns-in_default
returns-in_default c =
    let pieces : map (λ word. word.now) c.as_slice-pieces.result.now ≡ pieces_of c.args.text.now = ap (map (λ word. word.now)) c.as_slice-pieces.ensures.value ∙ c.in_ok-set_pieces.ensures in
    let reads : c.in_ok-event.field-0 ≡ event_of (pieces_of c.args.text.now) = c.in_ok-event.ensures ∙ ap event_of pieces in
    no_event c.events_read_back.ensures c.args.text.now c.in_ok-event.field-0 reads c.in_default.is
