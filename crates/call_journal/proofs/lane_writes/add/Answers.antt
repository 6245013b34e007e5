use Rattle.std.proofs.Common.{◌+◌, ◌-◌, ◌++◌, ◌∷◌, [], List, None, sym, ap, ◌∙◌, append_assoc}
use Rattle.call_journal.specs.LaneWrites.{new_writes}
use Rattle.call_journal.specs.declared.lane_writes.LaneWrite.{LaneWrite}
use Rattle.call_journal.proofs.Rising.{new-more}
use Rattle.call_journal.proofs.lane_writes.add.Goals as goal

pub loop-number-preserved : goal.loop-number-preserved
loop-number-preserved c =
    let number = c.loop-number.number in
    let end = c.args.first + c.args.count in
    let x : LaneWrite = record { post = c.args.place; number = number; put = None } in
    ap (λ (items : List LaneWrite). items ++ new_writes c.args.place (number + 1) (end - (number + 1))) c.in_ok-push.ensures.items
    ∙ append_assoc c.loop-number.writes.items (x ∷ []) (new_writes c.args.place (number + 1) (end - (number + 1)))
    ∙ ap (λ (rest : List LaneWrite). c.loop-number.writes.items ++ rest) (sym (new-more c.args.place number end c.loop-number-test.true))
    ∙ c.loop-number.invariant
