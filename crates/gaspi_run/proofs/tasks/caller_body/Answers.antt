use Rattle.std.proofs.Common.{◌≡◌, None, Some, find, sym, ap, ◌∙◌, refl}
use Rattle.std.specs.Option.{option_copied}
use Rattle.rank_script.specs.WorldText.{is_script_of}
use Rattle.rank_script.specs.declared.scripts.Script.{Script}
use Rattle.gaspi_run.proofs.BodyRuns.{caller-body, has-script}
use Rattle.gaspi_run.proofs.tasks.caller_body.Goals as goal

pub unreachable-requires : goal.unreachable-requires
unreachable-requires c =
    let none : find (is_script_of c.caller_of-caller.result) c.args.scripts.now ≡ None = sym c.of.ensures ∙ ap (option_copied {T = Script}) c.in_default.is in
    has-script c.args.world.now c.args.scripts.now c.args.limit c.caller_of-caller.result c.requires.scripts c.caller_of-caller.ensures.is.0 none

pub returns : goal.returns
returns c =
    let found : find (is_script_of c.caller_of-caller.result) c.args.scripts.now ≡ Some c.in-Some.script.now = sym c.of.ensures ∙ ap (option_copied {T = Script}) c.in-Some.is in
    let part = caller-body c.args.world.now c.args.scripts.now c.args.limit c.args.place c.caller_of-caller.result c.in-Some.script.now c.args.pass.now c.requires.pass c.caller_of-caller.ensures.is found in
    (refl, part.0, part.1, c.in_ok-cursor.ensures)
