use Rattle.std.proofs.Common.{◌≡◌, ◌<◌, true, Some, [], length, refl, sym, ap, ◌∙◌, subst, arith}
use Rattle.gaspi_types.specs.World.{ShapeValue}
use Rattle.gaspi_types.specs.declared.events.Event.{Event}
use Rattle.commit_table.specs.Views.{new_pass}
use Rattle.gaspi_model.specs.Step.{is_legal}
use Rattle.gaspi_world.specs.Callers.{IsPassOf}
use Rattle.gaspi_model.specs.ContributionCounts.{ContributesOnce}
use Rattle.gaspi_model.specs.Notifications.{HandsOutOnce}
use Rattle.gaspi_run.proofs.RanWorlds.{known, legal-has-own, made-each, whole}
use Rattle.gaspi_run.proofs.threads.run_on_threads.Goals as goal

pub run_bodies-requires-clause-passes : goal.run_bodies-requires-clause-passes
run_bodies-requires-clause-passes g c κs within = made-each c.in_ok-world.field-0.world _ c.in_ok-world.field-0.passes.items c.in_ok-world.ensures.count c.in_ok-world.ensures.passes

pub run_bodies-requires-clause-callers : goal.run_bodies-requires-clause-callers
run_bodies-requires-clause-callers g c κs within = λ place less.
    let world = c.in_ok-world.field-0.world in
    let start = c.in_ok-world.ensures.start in
    let same = ap (λ (w : ShapeValue). length w.callers) start in
    let below : place < length c.args.shape.now.callers = omega arith in
    let there = c.in_ok-world.ensures.callers place below in
    (there.0, subst (λ (w : ShapeValue). IsPassOf w there.0 (new_pass {E = Event} world.start (Some place) [])) (sym start) there.1)

pub closed-requires : goal.closed-requires
closed-requires g c = whole c.in_ok-world.field-0.world c.args.scripts.now c.args.limit c.in_ok-passes.field-0.passes.items c.in_ok-passes.field-0.outcomes c.in_ok-passes.ensures.ran

pub journal_is_in_range-requires : goal.journal_is_in_range-requires
journal_is_in_range-requires g c = legal-has-own c.in_ok-world.field-0.world.start.shape c.in_ok-journal.journal c.in_ok-journal.ensures.legal

pub returns-clause-ran : goal.returns-clause-ran
returns-clause-ran g c =
    let all = known c.in_ok-world.field-0.world c.args.scripts.now c.args.limit c.args.workers c.in_ok-passes.field-0.passes.items c.in_ok-passes.field-0.outcomes c.args.shape.now c.in_ok-journal.journal c.in_ok-journal.tally
    c.in_ok-world.ensures.start c.in_ok-world.ensures.all c.requires.workers.0 c.in_ok-world.ensures.world c.requires.scripts c.in_ok-passes.ensures.plain c.in_ok-passes.ensures.ran
    c.in_ok-journal.ensures.tally c.in_ok-journal.ensures.passes c.in_ok-journal.ensures.legal c.in_ok-journal.ensures.seen c.in_ok-journal.ensures.done c.settling.ensures.stays c.waits_last.ensures in
    let legal = subst (λ (w : ShapeValue). is_legal w c.in_ok-journal.journal ≡ true) c.in_ok-world.ensures.start c.in_ok-journal.ensures.legal in
    record {
      legal = legal;
      told = c.in_ok-journal.tally;
      tally_is = refl;
      tallied = all.0;
      ended = all.1;
      settled = all.2;
      notified = λ earlier later rest origin queue target m n is standing note less none.
          c.notification_order.ensures.order c.args.shape.now earlier later rest origin queue target m n (ap (is_legal c.args.shape.now) is ∙ legal) standing note less none;
      handed = subst (λ (w : ShapeValue). HandsOutOnce w c.in_ok-journal.journal) c.in_ok-world.ensures.start c.in_ok-journal.ensures.handed;
      contributed = subst (λ (w : ShapeValue). ContributesOnce w c.in_ok-journal.journal) c.in_ok-world.ensures.start c.in_ok-journal.ensures.contributed;
      ranges = c.journal_is_in_range.ensures.ranges;
    }
