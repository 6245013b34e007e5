use Rattle.std.proofs.Common.{◌≡◌, ◌++◌, ◌∷◌, ℕ, List, [], true, codes, refl, sym, ap, ◌∙◌, append_assoc, ◌+◌, arith}
use Rattle.std.specs.Fmt.{decimal}
use Rattle.std.proofs.lemmas.Result.{on_ok_weaker}
use Rattle.json.specs.Print.{escape_byte}
use Rattle.serde_json.specs.Data.{member, no_members, string}
use Rattle.journal_pictures.specs.JsonLines.{whole}
use Rattle.journal_pictures.proofs.PlainTexts.{end-line, members_onto}
use Rattle.journal_pictures.proofs.PlainWords.{bare-decimal, bare-id, bare-plain}
use Rattle.journal_pictures.proofs.trace_lines.end_mark.Goals as goal

-- an entry's id, and what stands behind it
id-behind : (origin number : ℕ) (rest : List ℕ) → (decimal origin ++ codes "." ++ decimal number) ++ rest ≡ decimal origin ++ (codes "." ++ (decimal number ++ rest))
id-behind origin number rest = append_assoc (decimal origin ++ codes ".") (decimal number) rest ∙ append_assoc (decimal origin) (codes ".") (decimal number ++ rest)

pub returns : goal.returns
unfolding escape_byte
returns c = λ before arguments front.
    let old = c.args.text.now in
    let rest =
    member (codes "name") (string (codes "queue " ++ decimal c.args.queue)) (member (codes "ph") (string c.args.letter.now) (member (codes "pid") (whole c.args.origin)
    (member (codes "tid") (whole (16 + c.args.queue)) (member (codes "ts") (whole c.args.place) no_members)))) in
    let id = decimal c.args.origin ++ codes "." ++ decimal c.args.number in
    let id_plain = bare-plain id (bare-id c.args.origin c.args.number (omega arith) (omega arith)) in
    let name_plain = ap (λ (t : List ℕ). codes "queue " ++ t) (bare-plain (decimal c.args.queue) (bare-decimal c.args.queue (omega arith))) in
    on_ok_weaker c.append_pieces.result
    (λ added. end-line arguments (member (codes "cat") (string (codes "entry")) (member (codes "id") (string id) rest)) before old c.append_pieces.new.text (refl, (id_plain, (name_plain, (c.requires, tt)))) front
    (rw (c.from-rank.ensures, c.number.ensures.value, c.from.ensures, c.number-2.ensures.value, c.queue_track.ensures) at added
    ∙ ap (λ (t : List ℕ). old ++ (codes ",\"cat\":\"entry\",\"id\":\"" ++ t)) (sym (id-behind c.args.origin c.args.number (34 ∷ members_onto true rest [])))))
    c.append_pieces.ensures
