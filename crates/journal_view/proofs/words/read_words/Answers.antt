use Rattle.std.proofs.Common.{◌≡◌, ◌∙◌, ap, sym, subst, List, [], map}
use Rattle.std.proofs.lemmas.Result.{IfOk-weaker}
use Rattle.clap.specs.Walk.{Text}
use Rattle.clap.specs.Simple.{App, app_of, is_simple, matches_of}
use Rattle.clap.specs.Faults.{fault_of, is_simple_and_free}
use Rattle.clap.specs.Kinds.{Kinds, HasKind}
use Rattle.journal_view.specs.Words.{the_app, picture_in}
use Rattle.journal_view.proofs.Reading.{fails_for, refused, taken, the_app_is_free, the_app_is_simple}
use Rattle.journal_view.proofs.words.read_words.Goals as goal

pub returns-in-Ok : goal.returns-in-Ok
returns-in-Ok c =
    let words : List Text = map (λ word. word.now) c.args.words.now in
    let same : app_of c.in_ok-program.program ≡ the_app = c.in_ok-program.ensures in
    let fault : fault_of (app_of c.in_ok-program.program) words ≡ [] = c.in-Ok.ensures.kinds (ap is_simple_and_free same ∙ the_app_is_free) in
    let found = (c.in-Ok.ensures.matches (ap is_simple same ∙ the_app_is_simple)).0 in
    c.asked.ensures ∙ ap picture_in (found ∙ ap (λ (app : App). matches_of app words) same)
    ∙ taken words (sym (ap (λ (app : App). fault_of app words) same) ∙ fault)

pub returns-in-Err : goal.returns-in-Err
returns-in-Err c =
    let words : List Text = map (λ word. word.now) c.args.words.now in
    let same : app_of c.in_ok-program.program ≡ the_app = c.in_ok-program.ensures in
    let has : HasKind (fault_of (app_of c.in_ok-program.program) words) c.in-Err.error
    = c.in-Err.ensures.kinds (ap is_simple_and_free same ∙ the_app_is_free) in
    let kinds = subst (λ (ks : Kinds). HasKind ks c.in-Err.error) (ap (λ (app : App). fault_of app words) same) has in
    IfOk-weaker c.refused.result _ _ (λ picture h. h.0 ∙ refused words _ (fails_for (fault_of the_app words) c.in-Err.error kinds h.1)) c.refused.ensures
