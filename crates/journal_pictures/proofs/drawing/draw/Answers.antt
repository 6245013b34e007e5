use Rattle.std.proofs.Common.{ℕ, ◌+◌, ◌++◌, List, take, codes, sym, ap, ◌∙◌, subst}
use Rattle.std.specs.List.{flat_map, range_with_len}
use Rattle.gaspi_types.specs.declared.events.Event.{Event}
use Rattle.call_journal.proofs.Places.{taken-more}
use Rattle.journal_pictures.specs.Deliveries.{IsDeliveryTable, table_after}
use Rattle.journal_pictures.specs.Diagram.{participant_line, event_line, line_at}
use Rattle.journal_pictures.specs.declared.deliveries.Delivery.{Delivery}
use Rattle.journal_pictures.proofs.DeliveryTables.{table-more}
use Rattle.journal_pictures.proofs.LinesAt.{line-is, item-there}
use Rattle.journal_pictures.proofs.NumberRanges.{range-more}
use Rattle.journal_pictures.proofs.drawing.draw.Goals as goal

pub loop-place-preserved : goal.loop-place-preserved
loop-place-preserved c =
    let w = c.args.shape.now in
    let journal = c.args.journal.now in
    let place = c.loop-place.place in
    let e = c.event-item.result in
    let known = c.loop-place.invariant in
    let there = item-there journal place e (rw (sym c.as_slice-event-items.ensures) c.loop-place-test.true) (rw (sym c.as_slice-event-items.ensures) c.event-item.is) in
    let line = line-is w c.limits-limits.ensures.world journal c.requires place e there c.loop-place.table known.table in
    record {
      lines =
          range-more (line_at w journal) place (codes "sequenceDiagram\n" ++ flat_map participant_line (range_with_len 0 w.limits.ranks)) c.loop-place.text c.write_line.new.text
          (c.in_ok-write_line.ensures ∙ ap (λ d. c.loop-place.text ++ event_line place e d) c.delivery_for.ensures ∙ ap (λ (l : List ℕ). c.loop-place.text ++ l) line) known.lines;
      table =
          subst (λ (t : List (List Delivery)). IsDeliveryTable t (take (place + 1) journal)) (sym c.in_ok-pass.ensures)
          (subst (λ (h : List Event). IsDeliveryTable (table_after e c.loop-place.table) h) (sym (taken-more journal place e there)) (table-more c.loop-place.table (take place journal) e known.table));
    }
