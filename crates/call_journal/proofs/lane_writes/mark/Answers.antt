use Rattle.std.proofs.Common.{rules}
use Rattle.std.proofs.lemmas.List.Sorted.{answers_always}
use Rattle.call_journal.specs.declared.lane_writes.LaneWrite.{LaneWrite}
use Rattle.call_journal.proofs.Rising.{found-marked, none-found}
use Rattle.call_journal.proofs.lane_writes.mark.Goals as goal

pub returns-in-Ok : goal.returns-in-Ok
returns-in-Ok c =
    let facts = c.binary_search_by_key.ensures in
    let by_key = facts.position (λ (x : LaneWrite). x.number) (answers_always _ _ _ (λ f a r g called. search rules)) in
    found-marked c.requires.0 c.args.writes.now.items c.requires.1 c.args.number c.args.place c.binary_search_by_key.result
    (rw (← c.deref.ensures.value) facts.bound) (rw (← c.deref.ensures.value) by_key) c.in-Ok.found c.index_mut.result.now c.in-Ok.is c.index_mut.ensures.value

pub returns-in_default : goal.returns-in_default
returns-in_default c =
    let facts = c.binary_search_by_key.ensures in
    let by_key = facts.position (λ (x : LaneWrite). x.number) (answers_always _ _ _ (λ f a r g called. search rules)) in
    none-found c.requires.0 c.args.writes.now.items c.requires.1 c.args.number c.args.place c.binary_search_by_key.result
    (rw (← c.deref.ensures.value) facts.bound) (rw (← c.deref.ensures.value) by_key) c.in_default.not-Ok
