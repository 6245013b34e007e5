use Rattle.std.proofs.Common.{◌≡◌, ◌++◌, take, codes}
use Rattle.std.specs.List.{flat_map, range_with_len}
use Rattle.journal_pictures.specs.Deliveries.{IsDeliveryTable}
use Rattle.journal_pictures.specs.Diagram.{participant_line, line_at}
use Rattle.journal_pictures.proofs.drawing.draw.Given as goal

-- the lines of the events so far, and what their entries bring
abbrev pub invariant-loop-place : goal.invariant-loop-place
invariant-loop-place l = record {
  lines : l.text ≡ (codes "sequenceDiagram\n" ++ flat_map participant_line (range_with_len 0 l.shape.limits.ranks)) ++ flat_map (line_at l.shape l.journal) (range_with_len 0 l.place);
  table : IsDeliveryTable l.table (take l.place l.journal);
}
