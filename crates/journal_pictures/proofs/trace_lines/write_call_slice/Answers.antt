use Rattle.std.proofs.Common.{codes, sym, subst}
use Rattle.serde_json.specs.Data.{member, no_members, string}
use Rattle.call_texts.specs.CallText.{call_text}
use Rattle.gaspi_texts.specs.ReplyText.{reply_text}
use Rattle.journal_pictures.specs.JsonLines.{IsPlain}
use Rattle.journal_pictures.specs.Trace.{call_word, readable}
use Rattle.journal_pictures.proofs.PlainWords.{bare-plain}
use Rattle.journal_pictures.proofs.CallWords.{call-bare, call-front, reply-bare, word-bare}
use Rattle.journal_pictures.proofs.trace_lines.write_call_slice.Goals as goal

pub end_slice-requires : goal.end_slice-requires
end_slice-requires c =
    let call = c.args.call.now in
    subst IsPlain (sym c.call_word.ensures) (bare-plain (call_word call) (word-bare call (c.written_words_are_plain.ensures.call call c.call_is_in_range.ensures)))

pub returns : goal.returns
returns c =
    let call = c.args.call.now in
    let reply = c.args.reply.now in
    let plain = c.written_words_are_plain.ensures in
    let front =
    call-front c.args.text.now c.append.new.self c.write_call.new.text c.append-2.new.self c.write_reply.new.text c.append-3.new.self (call_text call) (reply_text reply)
    (call-bare call (plain.call call c.call_is_in_range.ensures)) (reply-bare plain.bytes plain.elements reply c.reply_is_in_range.ensures)
    c.in_ok-append.ensures.ok c.in_ok-write_call.ensures.ok c.in_ok-append-2.ensures.ok c.in_ok-write_reply.ensures.ok c.in_ok-append-3.ensures.ok in
    let arguments = member (codes "call") (string (readable (call_text call))) (member (codes "reply") (string (readable (reply_text reply))) no_members) in
    rw (c.from-thread.ensures, c.number.ensures.value, c.call_word.ensures) at (c.end_slice.ensures c.args.text.now arguments front)
