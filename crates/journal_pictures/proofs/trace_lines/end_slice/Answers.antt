use Rattle.std.proofs.Common.{◌≡◌, ◌++◌, ℕ, List, [], true, codes, refl, sym, ap, ◌∙◌}
use Rattle.std.specs.Fmt.{decimal, digits}
use Rattle.std.proofs.lemmas.Result.{on_ok_weaker}
use Rattle.json.specs.Print.{escape_byte}
use Rattle.serde_json.specs.Data.{member, no_members, string}
use Rattle.journal_pictures.specs.JsonLines.{whole}
use Rattle.journal_pictures.proofs.PlainTexts.{end-line, members_onto}
use Rattle.journal_pictures.proofs.trace_lines.end_slice.Goals as goal

one : decimal 1 ≡ codes "1"
unfolding digits
one = refl

pub returns : goal.returns
unfolding escape_byte
returns c = λ before arguments front.
    let old = c.args.text.now in
    let rest =
    member (codes "name") (string c.args.name.now) (member (codes "ph") (string (codes "X")) (member (codes "pid") (whole c.args.rank)
    (member (codes "tid") (whole c.args.track) (member (codes "ts") (whole c.args.place) no_members)))) in
    on_ok_weaker c.append_pieces.result
    (λ added. end-line arguments (member (codes "dur") (whole 1) rest) before old c.append_pieces.new.text (c.requires, (refl, tt)) front
    (rw (c.from.ensures, c.number.ensures.value) at added ∙ ap (λ (t : List ℕ). old ++ (codes ",\"dur\":" ++ (t ++ members_onto true rest []))) (sym one)))
    c.append_pieces.ensures
