use Rattle.std.proofs.Common.{◌≡◌, ℕ, ◌-◌, List, Option, take, drop, length, sym, ap, ◌∙◌, subst}
use Rattle.std.proofs.Math.Seq.{take-length}
use Rattle.std.proofs.lemmas.List.{length-drop}
use Rattle.journal_view.specs.Viewing.{IsViewed, IsViewedIn, IsRead}
use Rattle.journal_view.proofs.Telling.{tells-weaker}
use Rattle.journal_view.proofs.viewing.view_result.Goals as goal

-- all that stands from a place on
all-behind : (place : ℕ) (input : List ℕ) → take (length input - place) (drop place input) ≡ drop place input
all-behind place input = ap (λ (n : ℕ). take n (drop place input)) (sym (length-drop place input)) ∙ take-length (drop place input)

pub returns-in_ok-journal_result-in-Some-clause-told : goal.returns-in_ok-journal_result-in-Some-clause-told
returns-in_ok-journal_result-in-Some-clause-told c =
    tells-weaker c.args.picture _ (IsViewed c.args.picture c.args.input.now) _
    (λ status text read. record {
      world = c.in_ok-shape.shape;
      scripts = c.in_ok-shape._scripts;
      read = c.in_ok-shape.ensures.exact.0;
      result =
          subst (λ (o : Option (ℕ × ℕ)). IsViewedIn c.args.picture c.in_ok-shape.shape c.args.input.now o status text)
          (sym c.in-Some.is ∙ c.in_ok-shape.ensures.exact.1)
          (subst (λ (rest : List ℕ). IsRead c.args.picture c.in_ok-shape.shape rest c.in-Some.number status text)
          (all-behind c.in-Some.place c.args.input.now) read);
    })
    c.in_ok-journal_result-in-Some.ensures
