use Rattle.std.proofs.Common.{refl, sym, ◌∙◌}
use Rattle.std.proofs.lemmas.Bool.{leb-true}
use Rattle.plain_machine.specs.Machine.{state_in}
use Rattle.plain_machine.proofs.EventRooms.{full_join}
use Rattle.plain_machine.proofs.Joining.{undeclared_join, unjoined}
use Rattle.plain_machine.proofs.Recorded.{declared_there}
use Rattle.plain_machine.proofs.looking.step_joined.Goals as goal

pub returns-then-not-has_section-clause-step : goal.returns-then-not-has_section-clause-step
returns-then-not-has_section-clause-step c =
    (undeclared_join (state_in c.args.ranks.now c.args.memories.now) c.args.joining.now.caller c.args.joining.now.group c.args.joining.now.args.now (sym (c.has_section.ensures c.args.memories.now) ∙ c.if-not-has_section.true), refl)

pub may_join_in-requires-clause-there : goal.may_join_in-requires-clause-there
may_join_in-requires-clause-there c =
    (declared_there (state_in c.args.ranks.now c.args.memories.now) c.args.joining.now.caller.rank c.args.joining.now.caller.thread (sym (c.has_section.ensures c.args.memories.now) ∙ c.if-not-has_section.false)).within

pub join_in-requires-clause-declared : goal.join_in-requires-clause-declared
join_in-requires-clause-declared c = sym (c.has_section.ensures c.args.memories.now) ∙ c.if-not-has_section.false

pub join_in-requires-clause-there : goal.join_in-requires-clause-there
join_in-requires-clause-there c =
    (declared_there (state_in c.args.ranks.now c.args.memories.now) c.args.joining.now.caller.rank c.args.joining.now.caller.thread (sym (c.has_section.ensures c.args.memories.now) ∙ c.if-not-has_section.false)).within

pub returns-then-not-may_join-clause-step : goal.returns-then-not-may_join-clause-step
returns-then-not-may_join-clause-step c = (
  unjoined (state_in c.args.ranks.now c.args.memories.now) c.args.joining.now.caller c.args.joining.now.group c.args.joining.now.args.now (sym (c.has_section.ensures c.args.memories.now) ∙ c.if-not-has_section.false)
      (λ p there. sym c.if-not-may_join.true ∙ c.in-Ok.ensures p there),
  refl,
)

pub has_room-requires-clause-there : goal.has_room-requires-clause-there
has_room-requires-clause-there c =
    (declared_there (state_in c.args.ranks.now c.args.memories.now) c.args.joining.now.caller.rank c.args.joining.now.caller.thread (sym (c.has_section.ensures c.args.memories.now) ∙ c.if-not-has_section.false)).within

pub returns-then-not-has_room-clause-step : goal.returns-then-not-has_room-clause-step
returns-then-not-has_room-clause-step c =
    let s = state_in c.args.ranks.now c.args.memories.now in
    let declared = sym (c.has_section.ensures c.args.memories.now) ∙ c.if-not-has_section.false in
    let d = declared_there s c.args.joining.now.caller.rank c.args.joining.now.caller.thread declared in (
      full_join s c.args.joining.now.caller c.args.joining.now.group c.args.joining.now.args.now d.posts declared d.item (sym (c.in-Ok.ensures d.posts d.item) ∙ c.if-not-may_join.false) (sym (c.has_room.ensures d.posts d.item) ∙ c.if-not-has_room.true),
      refl,
    )

pub join_in-requires-clause-room : goal.join_in-requires-clause-room
join_in-requires-clause-room c = λ posts at. leb-true _ _ (sym (c.has_room.ensures posts at) ∙ c.if-not-has_room.false)
