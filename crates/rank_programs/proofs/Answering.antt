-- The answer of a call, read as what it answers where nothing goes wrong.
use Rattle.std.proofs.Common.{◌≡◌, ◌↔◌, Result, Ok, Err, IsOk, IfErr, refl, sym, ◌∙◌, subst}
use Rattle.gaspi_types.specs.declared.calls.Call.{Call}
use Rattle.gaspi_types.specs.declared.calls.Timeout.{Timeout}
use Rattle.gaspi_types.specs.declared.replies.Reply.{Reply}
use Rattle.gaspi_types.specs.declared.replies.Reply.TheVariants as replies
use Rattle.gaspi_world.specs.declared.calling.Stop.{Stop}
use Rattle.rank_programs.specs.Answers.{done, HasAnswered, Answers}
use Rattle.rank_programs.specs.declared.callers.Caller.{Caller}
use Rattle.rank_programs.specs.declared.replies.Unexpected.{Unexpected}

module _ {R : Type 0} (call : Call) (timeout : Timeout) (c d : Caller R) (answer : Result Reply Stop) where
  pub answered : {T : Type 0} (reply_of : T → Reply) (result : Result T Unexpected) → HasAnswered reply_of call timeout c answer d
      → ((value : T) → (result ≡ Ok value) ↔ (answer ≡ Ok (reply_of value))) → IfErr result (λ e. e.answer ≡ answer) → Answers reply_of call timeout c result d
  answered reply_of (Ok value) answers reads other = subst (λ (t : Result Reply Stop). HasAnswered reply_of call timeout c t d) ((reads value).0 refl) answers
  answered {T} reply_of (Err e) answers reads other = (
    subst (λ (t : Result Reply Stop). HasAnswered reply_of call timeout c t d) (sym other) answers,
    λ value at. absurd (let no : ◌≡◌ {A = Result T Unexpected} (Err e) (Ok value) = (reads value).1 (sym other ∙ at) in let none : ⊥ = cc in none),
  )

  pub answered-done : (result : Result (Unit {0}) Unexpected) → HasAnswered done call timeout c answer d
      → IsOk result ↔ (answer ≡ Ok replies.Done) → IfErr result (λ e. e.answer ≡ answer) → Answers done call timeout c result d
  answered-done (Ok value) answers is other = subst (λ (t : Result Reply Stop). HasAnswered done call timeout c t d) (is.0 refl) answers
  answered-done (Err e) answers is other = (
    subst (λ (t : Result Reply Stop). HasAnswered done call timeout c t d) (sym other) answers,
    λ value at. absurd (let no = is.1 (sym other ∙ at) in let none : ⊥ = cc in none),
  )
