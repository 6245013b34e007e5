use Rattle.std.proofs.Common.{◌≡◌, ◌+◌, ◌++◌, length, ℕ, sym, ap, ◌∙◌, subst}
use Rattle.gaspi_texts.specs.JournalText.{first_line, end_line, IsFaultyAt}
use Rattle.gaspi_texts.proofs.ReadLines.{begun, not-begun}
use Rattle.gaspi_texts.proofs.ReadJournals.{started, read-more, read-all, bad-first, bad-line, late-line, no-end-line, is-empty, is-filled, is-not}
use Rattle.gaspi_texts.proofs.journal_reading.read.Goals as goal

pub returns-in_default-clause-fault : goal.returns-in_default-clause-fault
returns-in_default-clause-fault c = λ line is.
    let same : 1 ≡ line = cc in
    subst (λ (n : ℕ). IsFaultyAt c.args.text.now n) same (bad-first c.events_have_no_line_feed.ensures c.args.text.now (λ rest. not-begun first_line c.args.text.now rest c.in_default.ensures.cases))

pub loop-rest-init : goal.loop-rest-init
loop-rest-init c =
    let cases = c.in-Some.ensures.cases in
    let text : c.args.text.now ≡ first_line ++ c.in-Some.rest.now = begun first_line c.args.text.now c.in-Some.rest.now cases.0 cases.1 in
    rw (c.new-journal.ensures, text) (started c.in-Some.rest.now)

pub returns-then-is_empty-clause-text : goal.returns-then-is_empty-clause-text
returns-then-is_empty-clause-text c =
    let end : c.first_line.result.0.now ≡ end_line (length c.loop-rest.journal) = c.in_ok-is_end_line.ensures.0 c.if-branch.true ∙ ap end_line c.len-place.ensures in
    read-all c.args.text.now c.loop-rest.rest.now c.first_line.result.1.now c.first_line.result.0.now c.loop-rest.journal c.loop-rest.invariant c.first_line.ensures.lines end (is-empty _ (sym c.is_empty-then-branch.ensures ∙ c.if-is_empty.true))

pub returns-then-branch-clause-fault : goal.returns-then-branch-clause-fault
returns-then-branch-clause-fault c = λ line is.
    let same : length c.loop-rest.journal + 3 ≡ line = ap (λ (n : ℕ). n + 3) (sym c.len-place.ensures) ∙ cc in
    let end : c.first_line.result.0.now ≡ end_line (length c.loop-rest.journal) = c.in_ok-is_end_line.ensures.0 c.if-branch.true ∙ ap end_line c.len-place.ensures in
    subst (λ (n : ℕ). IsFaultyAt c.args.text.now n) same
    (late-line c.events_have_no_line_feed.ensures c.args.text.now c.loop-rest.rest.now c.first_line.result.1.now c.first_line.result.0.now c.loop-rest.journal c.loop-rest.invariant c.first_line.ensures.lines end (is-filled _ (sym c.is_empty-then-branch.ensures ∙ c.if-is_empty.false)))

pub returns-in_default-2-clause-fault : goal.returns-in_default-2-clause-fault
returns-in_default-2-clause-fault c = λ line is.
    let same : length c.loop-rest.journal + 2 ≡ line = ap (λ (n : ℕ). n + 2) (sym c.len-place.ensures) ∙ cc in
    let none = rw c.in_default-2.is at c.in_ok-event.ensures in
    subst (λ (n : ℕ). IsFaultyAt c.args.text.now n) same
    (bad-line c.events_have_no_line_feed.ensures c.args.text.now c.loop-rest.rest.now c.first_line.result.1.now c.first_line.result.0.now c.loop-rest.journal c.loop-rest.invariant c.first_line.ensures.lines
    (rw (sym c.len-place.ensures) none) (rw (sym c.len-place.ensures) (is-not _ c.if-branch.false c.in_ok-is_end_line.ensures.1)))

pub loop-rest-preserved : goal.loop-rest-preserved
loop-rest-preserved c =
    let some = rw c.in-Some-2.is at c.in_ok-event.ensures in
    let more = read-more c.args.text.now c.loop-rest.rest.now c.first_line.result.1.now c.first_line.result.0.now c.loop-rest.journal c.in-Some-2.event c.loop-rest.invariant c.first_line.ensures.lines c.first_line.ensures.shorter some.0 (rw (sym c.len-place.ensures) some.1) in
    rw c.in_ok-push.ensures.ok more

pub returns-clause-fault : goal.returns-clause-fault
returns-clause-fault c = λ line is.
    let same : length c.loop-rest.journal + 2 ≡ line = ap (λ (n : ℕ). n + 2) (sym c.len-count.ensures) ∙ cc in
    subst (λ (n : ℕ). IsFaultyAt c.args.text.now n) same
    (no-end-line c.events_have_no_line_feed.ensures c.args.text.now c.loop-rest.rest.now c.loop-rest.journal c.loop-rest.invariant (is-empty _ (sym c.is_empty.ensures ∙ c.loop-rest-test.false)))
