use Rattle.std.proofs.Common.{◌≡◌, ◌<◌, true, sym, subst}
use Rattle.gaspi_texts.specs.JournalText.{HaveOwnValues}
use Rattle.gaspi_model.specs.Step.{is_legal}
use Rattle.plain_schedule.specs.Endings.{HasSettled, HaveEnded}
use Rattle.plain_schedule.specs.declared.schedule_states.ScheduleState.{ScheduleState}
use Rattle.plain_schedule.proofs.ScheduleLoop.{known, laws, iterated-active, iterated-own, iterated-less, iterated-more, over-legal, over-ended, over-settled, end_laws}
use Rattle.plain_schedule.proofs.Joins.{join-laws}
use Rattle.plain_schedule.proofs.Work.{work}
use Rattle.plain_schedule.proofs.scheduling.schedule.Goals as goal

pub iterate-requires : goal.iterate-requires
iterate-requires c =
    iterated-active c.args.shape.now c.args.scripts.now c.args.seed c.args.limit _
    (known _ _ (laws c.soundness.ensures.steps c.soundness.ensures.limits c.soundness.ensures.active c.enabled.ensures.call (join-laws c.soundness.ensures.limits c.enabled.ensures.join c.enabled.ensures.itself c.enabled.ensures.joined c.enabled.ensures.pending c.enabled.ensures.needs) c.runs.ensures.onward c.runs.ensures.ended c.runs.ensures.stopped)
    c.soundness.ensures.counts c.enabled.ensures.transfer c.soundness.ensures.opens c.in_ok-starts.ensures.world c.requires.scripts c.in_ok-starts.ensures.plain)
    c.loop-look.invariant

pub loop-look-smaller : goal.loop-look-smaller
loop-look-smaller c =
    let iterated = c.in_ok-iterate.ensures.iterated (cc) in
    subst (λ (t : ScheduleState). work c.args.limit t < work c.args.limit c.loop-look.schedule) (sym iterated.1)
    (iterated-less c.args.shape.now c.args.scripts.now c.args.seed c.args.limit c.loop-look.schedule
    (known _ _ (laws c.soundness.ensures.steps c.soundness.ensures.limits c.soundness.ensures.active c.enabled.ensures.call (join-laws c.soundness.ensures.limits c.enabled.ensures.join c.enabled.ensures.itself c.enabled.ensures.joined c.enabled.ensures.pending c.enabled.ensures.needs) c.runs.ensures.onward c.runs.ensures.ended c.runs.ensures.stopped)
    c.soundness.ensures.counts c.enabled.ensures.transfer c.soundness.ensures.opens c.in_ok-starts.ensures.world c.requires.scripts c.in_ok-starts.ensures.plain)
    c.loop-look.invariant iterated.0)

pub loop-look-preserved : goal.loop-look-preserved
loop-look-preserved c =
    iterated-more c.args.shape.now c.args.scripts.now c.args.seed c.args.limit c.loop-look.schedule _ c.loop-look.invariant (c.in_ok-iterate.ensures.iterated (cc)).1

pub returns-clause-legal : goal.returns-clause-legal
returns-clause-legal c =
    let over = c.in_ok-iterate.ensures.over (cc) in
    subst (λ (t : ScheduleState). is_legal c.args.shape.now t.journal ≡ true) (sym over.1)
    (over-legal c.args.shape.now c.args.scripts.now c.args.seed c.args.limit c.loop-look.schedule
    (known _ _ (laws c.soundness.ensures.steps c.soundness.ensures.limits c.soundness.ensures.active c.enabled.ensures.call (join-laws c.soundness.ensures.limits c.enabled.ensures.join c.enabled.ensures.itself c.enabled.ensures.joined c.enabled.ensures.pending c.enabled.ensures.needs) c.runs.ensures.onward c.runs.ensures.ended c.runs.ensures.stopped)
    c.soundness.ensures.counts c.enabled.ensures.transfer c.soundness.ensures.opens c.in_ok-starts.ensures.world c.requires.scripts c.in_ok-starts.ensures.plain)
    c.loop-look.invariant)

pub returns-clause-runs : goal.returns-clause-runs
returns-clause-runs c =
    let over = c.in_ok-iterate.ensures.over (cc) in
    subst (λ (t : ScheduleState). HaveEnded c.args.shape.now c.args.scripts.now t.journal t.ended) (sym over.1)
    (over-ended c.args.shape.now c.args.scripts.now c.args.seed c.args.limit c.loop-look.schedule
    (known _ _ (laws c.soundness.ensures.steps c.soundness.ensures.limits c.soundness.ensures.active c.enabled.ensures.call (join-laws c.soundness.ensures.limits c.enabled.ensures.join c.enabled.ensures.itself c.enabled.ensures.joined c.enabled.ensures.pending c.enabled.ensures.needs) c.runs.ensures.onward c.runs.ensures.ended c.runs.ensures.stopped)
    c.soundness.ensures.counts c.enabled.ensures.transfer c.soundness.ensures.opens c.in_ok-starts.ensures.world c.requires.scripts c.in_ok-starts.ensures.plain)
    c.loop-look.invariant over.0)

pub returns-clause-settled : goal.returns-clause-settled
returns-clause-settled c =
    let over = c.in_ok-iterate.ensures.over (cc) in
    subst (λ (t : ScheduleState). HasSettled c.args.shape.now t.journal) (sym over.1)
    (over-settled c.args.shape.now c.args.scripts.now c.args.seed c.args.limit c.loop-look.schedule
    (known _ _ (laws c.soundness.ensures.steps c.soundness.ensures.limits c.soundness.ensures.active c.enabled.ensures.call (join-laws c.soundness.ensures.limits c.enabled.ensures.join c.enabled.ensures.itself c.enabled.ensures.joined c.enabled.ensures.pending c.enabled.ensures.needs) c.runs.ensures.onward c.runs.ensures.ended c.runs.ensures.stopped)
    c.soundness.ensures.counts c.enabled.ensures.transfer c.soundness.ensures.opens c.in_ok-starts.ensures.world c.requires.scripts c.in_ok-starts.ensures.plain)
    (end_laws c.settling.ensures.empties c.endings.ensures)
    c.loop-look.invariant over.0)

pub journal_is_in_range-requires : goal.journal_is_in_range-requires
journal_is_in_range-requires c =
    let over = c.in_ok-iterate.ensures.over (cc) in
    subst (λ (t : ScheduleState). HaveOwnValues t.journal) (sym over.1)
    (iterated-own c.args.shape.now c.args.scripts.now c.args.seed c.args.limit c.loop-look.schedule
    (known _ _ (laws c.soundness.ensures.steps c.soundness.ensures.limits c.soundness.ensures.active c.enabled.ensures.call (join-laws c.soundness.ensures.limits c.enabled.ensures.join c.enabled.ensures.itself c.enabled.ensures.joined c.enabled.ensures.pending c.enabled.ensures.needs) c.runs.ensures.onward c.runs.ensures.ended c.runs.ensures.stopped)
    c.soundness.ensures.counts c.enabled.ensures.transfer c.soundness.ensures.opens c.in_ok-starts.ensures.world c.requires.scripts c.in_ok-starts.ensures.plain)
    c.loop-look.invariant)

pub returns-clause-values : goal.returns-clause-values
returns-clause-values c =
    let over = c.in_ok-iterate.ensures.over (cc) in
    subst (λ (t : ScheduleState). HaveOwnValues t.journal) (sym over.1)
    (iterated-own c.args.shape.now c.args.scripts.now c.args.seed c.args.limit c.loop-look.schedule
    (known _ _ (laws c.soundness.ensures.steps c.soundness.ensures.limits c.soundness.ensures.active c.enabled.ensures.call (join-laws c.soundness.ensures.limits c.enabled.ensures.join c.enabled.ensures.itself c.enabled.ensures.joined c.enabled.ensures.pending c.enabled.ensures.needs) c.runs.ensures.onward c.runs.ensures.ended c.runs.ensures.stopped)
    c.soundness.ensures.counts c.enabled.ensures.transfer c.soundness.ensures.opens c.in_ok-starts.ensures.world c.requires.scripts c.in_ok-starts.ensures.plain)
    c.loop-look.invariant)
