use Rattle.std.proofs.Common.{◌++◌, ◌∷◌, ℕ, List, [], true, codes, refl, sym, ap, ◌∙◌, append_assoc, arith}
use Rattle.std.specs.Fmt.{decimal}
use Rattle.std.proofs.lemmas.Result.{on_ok_weaker}
use Rattle.json.specs.Print.{escape_byte}
use Rattle.serde_json.specs.Data.{member, no_members, object, string}
use Rattle.journal_pictures.specs.JsonLines.{whole}
use Rattle.journal_pictures.specs.Trace.{named}
use Rattle.journal_pictures.proofs.PlainTexts.{object-text, members_onto}
use Rattle.journal_pictures.proofs.PlainWords.{plain-label}
use Rattle.journal_pictures.proofs.trace_lines.write_track.Goals as goal

pub returns : goal.returns
unfolding escape_byte
returns c =
    let old = c.args.text.now in
    let label = c.args.label.now in
    let more =
    member (codes "name") (string (codes "thread_name")) (member (codes "ph") (string (codes "M")) (member (codes "pid") (whole c.args.rank)
    (member (codes "tid") (whole c.args.track) no_members))) in
    let name_plain = plain-label label c.args.number c.requires (omega arith) in
    on_ok_weaker c.append_pieces.result
    (λ added. rw c.from.ensures at added
    ∙ ap (λ (t : List ℕ). old ++ (codes ",\n{\"args\":{\"name\":\"" ++ t)) (sym (append_assoc label (decimal c.args.number) (34 ∷ 125 ∷ members_onto true more [])))
    ∙ ap (λ (t : List ℕ). old ++ (codes ",\n" ++ t)) (object-text (member (codes "args") (object (named label c.args.number)) more) ((name_plain, tt), (refl, (refl, tt)))))
    c.append_pieces.ensures
