use Rattle.std.proofs.Common.{◌++◌, ℕ, List, codes, refl, ap, ◌∙◌, arith}
use Rattle.std.proofs.lemmas.Result.{on_ok_weaker}
use Rattle.json.specs.Print.{escape_byte}
use Rattle.serde_json.specs.Data.{member, no_members, object, string}
use Rattle.journal_pictures.specs.JsonLines.{whole}
use Rattle.journal_pictures.specs.Trace.{named}
use Rattle.journal_pictures.proofs.PlainTexts.{object-text}
use Rattle.journal_pictures.proofs.PlainWords.{plain-label}
use Rattle.journal_pictures.proofs.trace_lines.append_rank.Goals as goal

pub returns : goal.returns
unfolding escape_byte
returns c =
    let rank = c.args.rank in
    let more = member (codes "name") (string (codes "process_name")) (member (codes "ph") (string (codes "M")) (member (codes "pid") (whole rank) no_members)) in
    let name_plain = plain-label (codes "rank ") rank refl (omega arith) in
    on_ok_weaker c.append_pieces.result
    (λ added. rw c.from-rank.ensures at added
    ∙ ap (λ (t : List ℕ). c.args.text.now ++ t) (object-text (member (codes "args") (object (named (codes "rank ") rank)) more) ((name_plain, tt), (refl, (refl, tt)))))
    c.append_pieces.ensures
