use Rattle.std.proofs.Common.{◌∙◌, ℕ, Some, ap}
use Rattle.rank_node.proofs.OpeningGroups.{opening-all, opening-other, first-fixed}
use Rattle.rank_node.proofs.nodes.GroupNode.new.Goals as goal
use Rattle.rank_node.proofs.nodes.GroupNode.new.Goals.{then-number-eq0, else-number-eq0}

pub returns : goal.returns
returns c = elim c.if-number-eq0.branch [
  | then-number-eq0 w ↦
      opening-all c.args.ranks c.args.id _ c.if-number-eq0.members c.number.result c.number.ensures.value w.if-number-eq0.true
      (w.members-is ∙ ap (λ (n : ℕ). Some n) w.all_below-then-number-eq0.ensures)
      (w.meeting-is ∙ first-fixed c.new-meeting.result w.fix.new.self w.all_below.result w.fix.result c.new-meeting.ensures w.fix.ensures.answer w.fix.ensures.fixed ∙ ap (λ (n : ℕ). Some n) w.all_below.ensures)
      c.in_ok-new.ensures
  | else-number-eq0 w ↦
      opening-other c.args.ranks c.args.id _ c.if-number-eq0.members c.number.result c.number.ensures.value w.if-number-eq0.false w.members-is (w.meeting-is ∙ c.new-meeting.ensures) c.in_ok-new.ensures
]
