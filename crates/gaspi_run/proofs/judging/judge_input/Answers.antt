use Rattle.std.proofs.Common.{◌≡◌, ℕ, ◌-◌, List, Option, take, drop, length, sym, ap, ◌∙◌, subst}
use Rattle.std.proofs.Math.Seq.{take-length}
use Rattle.std.proofs.lemmas.List.{length-drop}
use Rattle.gaspi_run.specs.Judging.{IsCheckedIn, IsRead}
use Rattle.gaspi_run.proofs.judging.judge_input.Goals as goal

-- all that stands from a place on
all-behind : (place : ℕ) (input : List ℕ) → take (length input - place) (drop place input) ≡ drop place input
all-behind place input = ap (λ (n : ℕ). take n (drop place input)) (sym (length-drop place input)) ∙ take-length (drop place input)

pub returns-clause-told : goal.returns-clause-told
returns-clause-told c = record {
  world = c.in_ok-shape.shape;
  scripts = c.in_ok-shape.scripts;
  read = c.in_ok-shape.ensures.exact.0;
  result =
      subst (λ (o : Option (ℕ × ℕ)). IsCheckedIn c.args.question c.in_ok-shape.shape c.args.input.now o c.in_ok-journal_result-in-Some.field-0.journal c.in_ok-journal_result-in-Some.field-0.status c.in_ok-journal_result-in-Some.field-0.text)
      (sym c.in-Some.is ∙ c.in_ok-shape.ensures.exact.1)
      (subst (λ (text : List ℕ). IsRead c.args.question c.in_ok-shape.shape text c.in-Some.number c.in_ok-journal_result-in-Some.field-0.journal c.in_ok-journal_result-in-Some.field-0.status c.in_ok-journal_result-in-Some.field-0.text)
      (all-behind c.in-Some.place c.args.input.now) c.in_ok-journal_result-in-Some.ensures.read);
}
