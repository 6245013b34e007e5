use Rattle.std.proofs.Common.{◌++◌, ℕ, List, codes, ap, ◌∙◌}
use Rattle.json.specs.Print.{escape_byte}
use Rattle.serde_json.specs.Data.{member, no_members, string}
use Rattle.journal_pictures.proofs.PlainTexts.{object-text}
use Rattle.journal_pictures.proofs.trace_lines.write_step.Goals as goal

pub returns : goal.returns
unfolding escape_byte
returns c =
    let arguments = member (codes "step") (string c.args.step.now) no_members in
    c.end_mark.ensures c.args.text.now arguments
    (c.in_ok-append_pieces.ensures ∙ ap (λ (t : List ℕ). c.args.text.now ++ (codes ",\n{\"args\":" ++ t)) (object-text arguments (c.requires.step, tt)))
