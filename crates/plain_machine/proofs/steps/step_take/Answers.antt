use Rattle.std.proofs.Common.{◌≡◌, ℕ, List, Ok, map, slice_set, sym, ap, subst, ◌∙◌}
use Rattle.gaspi_types.specs.Footprints.{footprint_of}
use Rattle.gaspi_types.specs.declared.events.Event.{Event}
use Rattle.gaspi_types.specs.declared.events.Event.TheVariants.{Take}
use Rattle.gaspi_model.specs.Step.{step}
use Rattle.gaspi_model.specs.Transfers.{find_entry}
use Rattle.gaspi_model.specs.declared.states.Posts.{Posts}
use Rattle.gaspi_model.specs.declared.states.Why.TheVariants as whys
use Rattle.plain_machine.specs.Entries.{found_at, released_by_take}
use Rattle.plain_machine.specs.Machine.{state_in, used_room_of}
use Rattle.plain_machine.specs.Footprints.{memory_at}
use Rattle.plain_machine.proofs.Lifted.{events_fit}
use Rattle.plain_machine.proofs.Moved.{take_event_found, take_done, take_fault, take_used}
use Rattle.plain_machine.proofs.steps.step_take.Goals as goal

pub set_take-requires : goal.set_take-requires
set_take-requires c = events_fit c.args.ranks.now.limits _ c.requires.sound.limits (c.requires.sound.posts _ _ c.at_mut.ensures.value)

pub returns-in-Ok-take_bytes-clause-outcome : goal.returns-in-Ok-take_bytes-clause-outcome
returns-in-Ok-take_bytes-clause-outcome c =
    let read = rw c.index-rank.ensures.value at c.at.ensures in
    let memory =
    c.accessed_memory-memory.ensures
    ∙ ap (memory_at c.args.memories.now c.args.id.now.origin) (c.footprint-footprint.ensures ∙ ap (footprint_of c.args.ranks.now.limits.ranks c.args.id.now.origin) c.take_footprint.ensures) in
    take_event_found (state_in c.args.ranks.now c.args.memories.now) c.args.id.now c.args.number c.args.given c.at.result.now (found_at c.in-Ok.at) c.accessed_memory-memory.result.now c.requires.sound.memories read c.in-Ok.ensures memory
    ∙ ap (Take c.args.id.now.origin c.args.id.now.queue c.args.id.now.target c.args.number) (sym c.in-Ok-take_bytes.ensures.outcome ∙ sym c.outcome-outcome.ensures)

pub returns-in-Ok-take_bytes-clause-step : goal.returns-in-Ok-take_bytes-clause-step
returns-in-Ok-take_bytes-clause-step c =
    let there = rw c.index-rank.ensures.value at c.at_mut.ensures.value in
    let read = rw c.index-rank.ensures.value at c.at.ensures in
    let same : c.at.result.now ≡ c.at_mut.result.now = cc in
    let found : find_entry c.at_mut.result.now c.args.id.now.queue c.args.id.now.target c.args.number whys.Take ≡ Ok (found_at c.in-Ok.at) =
    subst (λ (p : Posts). find_entry p c.args.id.now.queue c.args.id.now.target c.args.number whys.Take ≡ Ok (found_at c.in-Ok.at)) same c.in-Ok.ensures in
    let memory =
    c.accessed_memory-memory.ensures
    ∙ ap (memory_at c.args.memories.now c.args.id.now.origin) (c.footprint-footprint.ensures ∙ ap (footprint_of c.args.ranks.now.limits.ranks c.args.id.now.origin) c.take_footprint.ensures) in
    rw c.index-rank.ensures.value
    (take_done (state_in c.args.ranks.now c.args.memories.now) c.args.id.now c.args.number c.args.given c.at_mut.result.now c.set_take.new.posts (found_at c.in-Ok.at) c.accessed_memory-memory.result.now c.in-Ok-take_bytes.taken
    c.requires.sound.memories there found memory c.in-Ok-take_bytes.ensures.outcome c.in-Ok-take_bytes.ensures.bytes c.set_take.ensures)

pub returns-in-Ok-take_bytes-clause-used : goal.returns-in-Ok-take_bytes-clause-used
returns-in-Ok-take_bytes-clause-used c =
    let old = state_in c.args.ranks.now c.args.memories.now in
    let new = state_in (record c.args.ranks.now { posts = slice_set c.args.ranks.now.posts c.index-rank.result c.set_take.new.posts }) c.args.memories.now in
    let made = subst (λ (e : Event). step old e ≡ Ok new) (returns-in-Ok-take_bytes-clause-outcome c) (returns-in-Ok-take_bytes-clause-step c) in
    c.release.ensures ∙ ap (λ (rooms : List ℕ). released_by_take rooms c.index-rank.result c.outcome-outcome.result) c.requires.used
    ∙ ap (λ (rank : ℕ). released_by_take (map used_room_of c.args.ranks.now.posts) rank c.outcome-outcome.result) c.index-rank.ensures.value
    ∙ sym (take_used old new c.args.id.now.origin c.args.id.now.queue c.args.id.now.target c.args.number c.outcome-outcome.result made)

pub returns-clause-step : goal.returns-clause-step
returns-clause-step c =
    let read = rw c.index-rank.ensures.value at c.at.ensures in
    let memory =
    c.accessed_memory-memory.ensures
    ∙ ap (memory_at c.args.memories.now c.args.id.now.origin) (c.footprint-footprint.ensures ∙ ap (footprint_of c.args.ranks.now.limits.ranks c.args.id.now.origin) c.take_footprint.ensures) in
    take_fault (state_in c.args.ranks.now c.args.memories.now) c.args.id.now c.args.number c.args.given c.at.result.now (found_at c.in-Ok.at) c.accessed_memory-memory.result.now c.in-Err-take_bytes.fault
    c.requires.sound.memories read c.in-Ok.ensures memory c.in-Err-take_bytes.ensures.bytes
