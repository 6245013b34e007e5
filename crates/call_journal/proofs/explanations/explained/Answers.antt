use Rattle.std.proofs.Common.{◌≡◌, List, sym, ap, subst, ◌∙◌}
use Rattle.call_journal.specs.Explanations.{IsExplained}
use Rattle.call_journal.specs.LaneWrites.{arrived}
use Rattle.call_journal.specs.declared.answers.CoveredWrite.{CoveredWrite}
use Rattle.call_journal.specs.declared.lane_writes.LaneWrite.{LaneWrite}
use Rattle.call_journal.proofs.Explained.{explained, put-there-is}
use Rattle.call_journal.proofs.explanations.explained.Goals as goal

pub returns : goal.returns
returns c = λ w world legal.
    let at = c.in-Some.at in
    let found = c.in_ok-found.found in
    let there = put-there-is c.args.journal.now c.args.place at (sym c.put_at.ensures ∙ c.in-Some.is) in
    let list : arrived at.number found.writes.items ≡ c.in_ok-writes.writes = sym (c.in_ok-writes.ensures ∙ ap (λ (writes : List LaneWrite). arrived at.number writes) c.deref.ensures.value) in (
      legal,
      subst (λ (writes : List CoveredWrite). IsExplained w c.args.journal.now c.args.place writes) list
          (explained w world c.args.journal.now legal c.args.place at there found.next found.notified found.writes.items (c.in_ok-found.ensures.tracked w world legal) c.if-not-found.false c.in_ok-found.ensures.rise),
    )
