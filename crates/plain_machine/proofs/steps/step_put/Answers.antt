use Rattle.std.proofs.Common.{◌≡◌, Ok, slice_set, sym, ap, subst, ◌∙◌}
use Rattle.gaspi_types.specs.Footprints.{footprint_of}
use Rattle.gaspi_types.specs.declared.events.Event.{Event}
use Rattle.gaspi_model.specs.Step.{step}
use Rattle.gaspi_model.specs.Transfers.{find_entry}
use Rattle.gaspi_model.specs.declared.states.Posts.{Posts}
use Rattle.gaspi_model.specs.declared.states.Why.TheVariants as whys
use Rattle.plain_machine.specs.Entries.{found_at}
use Rattle.plain_machine.specs.Machine.{state_in}
use Rattle.plain_machine.proofs.Lifted.{events_fit}
use Rattle.plain_machine.proofs.Moved.{event_found, put_done, put_fault, put_keeps_used}
use Rattle.plain_machine.proofs.steps.step_put.Goals as goal

pub set_put-requires : goal.set_put-requires
set_put-requires c = events_fit c.args.ranks.now.limits _ c.requires.sound.limits (c.requires.sound.posts _ _ c.at_mut.ensures.value)

pub returns-in-Ok-put_at-clause-outcome : goal.returns-in-Ok-put_at-clause-outcome
returns-in-Ok-put_at-clause-outcome c =
    let read = rw c.index-rank.ensures.value at c.at.ensures in
    let footprint = c.footprint-footprint.ensures ∙ ap (footprint_of c.args.ranks.now.limits.ranks c.args.id.now.origin) c.put_footprint.ensures in
    rw c.in-Ok-put_at.ensures.outcome
    (event_found (state_in c.args.ranks.now c.args.memories.now) c.args.id.now c.args.number c.args.given c.at.result.now (found_at c.in-Ok.at) c.footprint-footprint.result c.requires.sound.memories read c.in-Ok.ensures footprint)

pub returns-in-Ok-put_at-clause-step : goal.returns-in-Ok-put_at-clause-step
returns-in-Ok-put_at-clause-step c =
    let there = rw c.index-rank.ensures.value at c.at_mut.ensures.value in
    let read = rw c.index-rank.ensures.value at c.at.ensures in
    let same : c.at.result.now ≡ c.at_mut.result.now = cc in
    let found : find_entry c.at_mut.result.now c.args.id.now.queue c.args.id.now.target c.args.number whys.Put ≡ Ok (found_at c.in-Ok.at) =
    subst (λ (p : Posts). find_entry p c.args.id.now.queue c.args.id.now.target c.args.number whys.Put ≡ Ok (found_at c.in-Ok.at)) same c.in-Ok.ensures in
    let footprint = c.footprint-footprint.ensures ∙ ap (footprint_of c.args.ranks.now.limits.ranks c.args.id.now.origin) c.put_footprint.ensures in
    rw c.index-rank.ensures.value
    (put_done (state_in c.args.ranks.now c.args.memories.now) c.args.id.now c.args.number c.args.given c.in-Ok-put_at.outcome c.at_mut.result.now c.set_put.new.posts (found_at c.in-Ok.at) c.footprint-footprint.result c.put_at.new.memories
    c.requires.sound.memories there found footprint c.in-Ok-put_at.ensures.outcome c.in-Ok-put_at.ensures.step c.set_put.ensures)

pub returns-in-Ok-put_at-clause-used : goal.returns-in-Ok-put_at-clause-used
returns-in-Ok-put_at-clause-used c =
    let old = state_in c.args.ranks.now c.args.memories.now in
    let new = state_in (record c.args.ranks.now { posts = slice_set c.args.ranks.now.posts c.index-rank.result c.set_put.new.posts }) c.put_at.new.memories in
    let made = subst (λ (e : Event). step old e ≡ Ok new) (returns-in-Ok-put_at-clause-outcome c) (returns-in-Ok-put_at-clause-step c) in
    c.requires.used ∙ sym (put_keeps_used old new c.args.id.now.origin c.args.id.now.queue c.args.id.now.target c.args.number c.in-Ok-put_at.outcome made)

pub returns-in-Err-put_at-clause-step : goal.returns-in-Err-put_at-clause-step
returns-in-Err-put_at-clause-step c =
    let read = rw c.index-rank.ensures.value at c.at.ensures in
    let footprint = c.footprint-footprint.ensures ∙ ap (footprint_of c.args.ranks.now.limits.ranks c.args.id.now.origin) c.put_footprint.ensures in
    put_fault (state_in c.args.ranks.now c.args.memories.now) c.args.id.now c.args.number c.args.given c.at.result.now (found_at c.in-Ok.at) c.footprint-footprint.result c.put_at.new.memories c.in-Err-put_at.fault
    c.requires.sound.memories read c.in-Ok.ensures footprint c.in-Err-put_at.ensures.step
