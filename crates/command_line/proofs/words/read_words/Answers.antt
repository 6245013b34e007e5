use Rattle.std.proofs.Common.{◌≡◌, ◌∙◌, ap, sym, subst, List, [], map}
use Rattle.std.proofs.lemmas.Result.{IfOk-weaker}
use Rattle.clap.specs.Walk.{Text}
use Rattle.clap.specs.Simple.{App, app_of, is_simple, subcommand_of}
use Rattle.clap.specs.Faults.{fault_of, is_simple_and_free}
use Rattle.clap.specs.Kinds.{Kinds, HasKind}
use Rattle.command_line.specs.Words.{the_app, words_in}
use Rattle.command_line.specs.declared.words.Command.TheVariants.{Run, Step, Bench}
use Rattle.command_line.proofs.Ranges.{command_read, fails_for, refused, accepted_in_range, the_app_is_free, the_app_is_simple}
use Rattle.command_line.proofs.words.read_words.Goals as goal

pub returns-in-Ok-clause-command : goal.returns-in-Ok-clause-command
returns-in-Ok-clause-command c =
    let words : List Text = map (λ word. word.now) c.args.words.now in
    let same : app_of c.in_ok-program.program ≡ the_app = c.in_ok-program.ensures in
    let fault : fault_of (app_of c.in_ok-program.program) words ≡ [] = c.in-Ok.ensures.kinds (ap is_simple_and_free same ∙ the_app_is_free) in
    let found = (c.in-Ok.ensures.matches (ap is_simple same ∙ the_app_is_simple)).1 in
    c.asked.ensures ∙ ap words_in (found ∙ ap (λ (app : App). subcommand_of app words) same)
    ∙ accepted_in_range words (sym (ap (λ (app : App). fault_of app words) same) ∙ fault)

pub returns-in-Ok-clause-workers : goal.returns-in-Ok-clause-workers
returns-in-Ok-clause-workers c workers limit brief e =
    command_read (map (λ word. word.now) c.args.words.now) (Run workers limit brief) (sym (returns-in-Ok-clause-command c) ∙ e)

pub returns-in-Ok-clause-limit : goal.returns-in-Ok-clause-limit
returns-in-Ok-clause-limit c seed limit brief e =
    command_read (map (λ word. word.now) c.args.words.now) (Step seed limit brief) (sym (returns-in-Ok-clause-command c) ∙ e)

pub returns-in-Ok-clause-bench : goal.returns-in-Ok-clause-bench
returns-in-Ok-clause-bench c seed ranks rounds e =
    command_read (map (λ word. word.now) c.args.words.now) (Bench seed ranks rounds) (sym (returns-in-Ok-clause-command c) ∙ e)

pub returns-in-Err-clause-command : goal.returns-in-Err-clause-command
returns-in-Err-clause-command c =
    let words : List Text = map (λ word. word.now) c.args.words.now in
    let same : app_of c.in_ok-program.program ≡ the_app = c.in_ok-program.ensures in
    let has : HasKind (fault_of (app_of c.in_ok-program.program) words) c.in-Err.error
    = c.in-Err.ensures.kinds (ap is_simple_and_free same ∙ the_app_is_free) in
    let kinds = subst (λ (ks : Kinds). HasKind ks c.in-Err.error) (ap (λ (app : App). fault_of app words) same) has in
    IfOk-weaker c.refused.result _ _ (λ command h. h.0 ∙ refused words _ (fails_for (fault_of the_app words) c.in-Err.error kinds h.1)) c.refused.ensures
