use Rattle.std.proofs.Common.{◌≡◌, ℕ, List, ◌++◌, None, Some, refl, sym, ap, subst, append-nil, ◌∙◌}
use Rattle.std.specs.List.{slice_get}
use Rattle.gaspi_model.specs.Step.{recorded_calls}
use Rattle.call_journal.specs.OwnCalls.{pairs_of}
use Rattle.call_journal.proofs.Following.{thread-told}
use Rattle.call_journal.proofs.Transcribing.{on-ok}
use Rattle.call_journal.proofs.transcripts.write_thread.Goals as goal

pub returns-in-Some : goal.returns-in-Some
returns-in-Some c = λ scripts history told is.
    let caller = c.args.caller.now in
    let runs = subst (λ (n : ℕ). slice_get c.args.runs.now n ≡ Some c.at-runs.result.now) c.index-rank.ensures.value c.at-runs.ensures in
    let calls = subst (λ (n : ℕ). slice_get c.args.table.now n ≡ Some c.at-calls.result.now) c.index-rank.ensures.value c.at-calls.ensures in
    let run = subst (λ (n : ℕ). slice_get c.at-runs.result.now n ≡ Some c.at.result.now) c.index-thread.ensures.value c.at.ensures in
    let own = subst (λ (n : ℕ). slice_get c.at-calls.result.now n ≡ Some c.at-in-Some.result.now) c.index-thread.ensures.value c.at-in-Some.ensures in
    on-ok c.write_transcript.result
    (λ added. added
    ∙ ap (λ (more : List ℕ). c.args.text.now ++ more)
    (thread-told scripts history caller _ _ (sym c.in-Some.is ∙ told.each caller.rank c.at-runs.result.now runs caller.thread c.at.result.now run)
    (ap pairs_of c.as_slice.ensures ∙ is.each caller.rank c.at-calls.result.now calls caller.thread c.at-in-Some.result.now own)))
    c.write_transcript.ensures

pub returns-in-None : goal.returns-in-None
returns-in-None c = λ scripts history told is.
    let caller = c.args.caller.now in
    let runs = subst (λ (n : ℕ). slice_get c.args.runs.now n ≡ Some c.at-runs.result.now) c.index-rank.ensures.value c.at-runs.ensures in
    let run = subst (λ (n : ℕ). slice_get c.at-runs.result.now n ≡ Some c.at.result.now) c.index-thread.ensures.value c.at.ensures in
    sym (append-nil c.args.text.now)
    ∙ ap (λ (more : List ℕ). c.args.text.now ++ more)
    (thread-told scripts history caller None (recorded_calls caller.rank caller.thread history)
    (sym c.in-None.is ∙ told.each caller.rank c.at-runs.result.now runs caller.thread c.at.result.now run) refl)
