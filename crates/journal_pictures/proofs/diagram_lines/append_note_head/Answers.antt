use Rattle.std.proofs.Common.{◌≡◌, ℕ, ◌++◌, List, codes, ap, ◌∙◌, append_assoc}
use Rattle.std.proofs.lemmas.Result.{on_ok_weaker}
use Rattle.journal_pictures.specs.Diagram.{labelled}
use Rattle.journal_pictures.proofs.diagram_lines.append_note_head.Goals as goal

two : (t t1 t2 a b : List ℕ) → t1 ≡ t ++ a → t2 ≡ t1 ++ b → t2 ≡ t ++ (a ++ b)
two t t1 t2 a b first second = second ∙ ap (λ (x : List ℕ). x ++ b) first ∙ append_assoc t a b

pub returns : goal.returns
returns c =
    on_ok_weaker c.append_labelled-2.result
    (λ added. two c.args.text.now c.append_labelled.new.text c.append_labelled-2.new.text (labelled (codes "    Note over R") c.args.rank) (labelled (codes ": ") c.args.place) c.in_ok-append_labelled.ensures added)
    c.append_labelled-2.ensures
