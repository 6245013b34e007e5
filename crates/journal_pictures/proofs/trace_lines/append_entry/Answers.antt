use Rattle.std.proofs.Common.{◌++◌, ℕ, List, codes, ap, subst, ◌∙◌}
use Rattle.std.proofs.lemmas.Result.{on_ok_weaker}
use Rattle.json.specs.Print.{escape_byte}
use Rattle.serde_json.specs.Data.{member, no_members, string}
use Rattle.journal_pictures.specs.JsonLines.{IsPlain, whole}
use Rattle.journal_pictures.specs.Diagram.{entry_word}
use Rattle.journal_pictures.proofs.PlainTexts.{object-text}
use Rattle.journal_pictures.proofs.trace_lines.append_entry.Goals as goal

pub returns-in-Bytes : goal.returns-in-Bytes
unfolding escape_byte
returns-in-Bytes c =
    let x = c.args.entry.now in
    let b = c.in-Bytes in
    let arguments =
    member (codes "entry") (string (entry_word x.delivery)) (member (codes "number") (whole x.number) (member (codes "offset") (whole b.offset)
    (member (codes "segment") (whole b.segment) (member (codes "size") (whole b.size) (member (codes "target") (whole x.target) no_members))))) in
    let word = c.entry_word-word.ensures.word in
    rw b.is (on_ok_weaker c.append_pieces.result
    (λ added. rw word at added ∙ ap (λ (t : List ℕ). c.args.text.now ++ (codes ",\n{\"args\":" ++ t)) (object-text arguments (subst IsPlain word c.entry_word-word.ensures.plain, tt)))
    c.append_pieces.ensures)

pub returns-in-Notification : goal.returns-in-Notification
unfolding escape_byte
returns-in-Notification c =
    let x = c.args.entry.now in
    let n = c.in-Notification in
    let arguments =
    member (codes "entry") (string (entry_word x.delivery)) (member (codes "notification") (whole n.note) (member (codes "number") (whole x.number)
    (member (codes "segment") (whole n.segment) (member (codes "target") (whole x.target) (member (codes "value") (whole n.value) no_members))))) in
    let word = c.entry_word-word.ensures.word in
    rw n.is (on_ok_weaker c.append_pieces-in-Notification.result
    (λ added. rw (word, c.from.ensures) at added ∙ ap (λ (t : List ℕ). c.args.text.now ++ (codes ",\n{\"args\":" ++ t)) (object-text arguments (subst IsPlain word c.entry_word-word.ensures.plain, tt)))
    c.append_pieces-in-Notification.ensures)
