use Rattle.std.proofs.Common.{◌≡◌, ℕ, ◌<◌, refl, sym, ◌∙◌, subst}
use Rattle.rank_script.specs.Runs.{RunPosition}
use Rattle.gaspi_run.specs.Looks.{bounded}
use Rattle.gaspi_run.specs.SoFar.{HasRunTo}
use Rattle.gaspi_run.proofs.GoingOn.{AllLeft, IsUsable, left, comes-first, usable-first, left-smaller, all-left, comes-next}
use Rattle.gaspi_run.proofs.script_runs.run_lines.Goals as goal

pub loop-call-init : goal.loop-call-init
loop-call-init g c =
    let script = c.args.body.now.script.now in
    let limit = c.args.body.now.limit in (
      refl,
      c.requires.pass.free,
      subst (AllLeft IsUsable) (sym c.requires.start) (usable-first script.lines c.requires.script.plain c.requires.script.looks),
      subst (λ (p : RunPosition). HasRunTo c.args.world.now.start.shape script.caller script.lines limit p c.args.pass.now.known c.args.pass.now.known) (sym c.requires.start)
          (comes-first c.args.world.now.start.shape script.caller script.lines limit c.waits_on.ensures.fresh c.args.pass.now.known c.requires.pass.fresh),
      refl,
      refl,
    )

pub loop-call-smaller : goal.loop-call-smaller
loop-call-smaller g c =
    subst (λ (p : RunPosition). left p < left c.loop-call.body.cursor) (sym c.move_on.ensures) (left-smaller c.loop-call.body.cursor c.in-Some.call.now c.in-Some.timeout c.make-made.result c.in-Some.ensures)

pub loop-call-preserved : goal.loop-call-preserved
loop-call-preserved g c =
    let script = c.args.body.now.script.now in
    let limit = c.args.body.now.limit in
    let within = subst (λ (n : ℕ). c.bounded.result ≡ bounded n c.in-Some.timeout) c.loop-call.invariant.5 c.bounded.ensures in (
      c.make-made.ensures.calls.0 ∙ c.loop-call.invariant.0,
      c.make-made.ensures.calls.1,
      subst (AllLeft IsUsable) (sym c.move_on.ensures) (all-left IsUsable c.loop-call.body.cursor c.make-made.result c.loop-call.invariant.2),
      subst (λ (p : RunPosition). HasRunTo c.args.world.now.start.shape script.caller script.lines limit p c.args.pass.now.known c.make-made.new.pass.known) (sym c.move_on.ensures)
          (comes-next c.args.world.now.start.shape script.caller script.lines limit c.runs.ensures.onward c.enabled.ensures.itself c.waits_on.ensures.called c.waits_on.ensures.stopped c.args.pass.now.known c.loop-call.pass.known c.make-made.new.pass.known c.loop-call.body.cursor
          c.in-Some.call.now c.in-Some.timeout c.bounded.result c.make-made.result c.in-Some.ensures within c.loop-call.invariant.2 c.loop-call.invariant.3 (c.make-made.ensures.calls.2 script.caller (c.requires.pass.caller.0, c.loop-call.invariant.3.party ∙ c.requires.pass.caller.1))),
      c.loop-call.invariant.4,
      c.loop-call.invariant.5,
    )
