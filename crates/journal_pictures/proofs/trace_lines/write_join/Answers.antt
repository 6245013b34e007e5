use Rattle.std.proofs.Common.{◌++◌, ℕ, List, codes, ap, subst, ◌∙◌}
use Rattle.json.specs.Print.{escape_byte}
use Rattle.serde_json.specs.Data.{member, no_members, string}
use Rattle.journal_pictures.specs.JsonLines.{IsPlain, whole}
use Rattle.journal_pictures.specs.Trace.{coll_word}
use Rattle.journal_pictures.proofs.PlainTexts.{object-text}
use Rattle.journal_pictures.proofs.trace_lines.write_join.Goals as goal

pub returns : goal.returns
unfolding escape_byte
returns c =
    let old = c.args.text.now in
    let coll = c.args.coll.now in
    let arguments = member (codes "collective") (string (coll_word coll)) (member (codes "group") (whole c.args.group) no_members) in
    let plain = subst IsPlain c.coll_word.ensures.word c.coll_word.ensures.plain in
    let front =
    rw (c.coll_word.ensures.word, c.from.ensures, c.number.ensures.value) at c.in_ok-append_pieces.ensures
    ∙ ap (λ (t : List ℕ). old ++ (codes ",\n{\"args\":" ++ t)) (object-text arguments (plain, tt)) in
    rw (c.from-thread.ensures, c.number-2.ensures.value) at (c.end_slice.ensures old arguments front)
