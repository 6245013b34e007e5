use Rattle.std.proofs.Common.{arith}
use Rattle.std.proofs.lemmas.Grind.{common_steps}
use Rattle.std.specs.Fmt.{decimal, signed_decimal}
use Rattle.gaspi_types.specs.Replies.{refusal_number}
use Rattle.call_texts.specs.Elements.{type_word}
use Rattle.gaspi_texts.specs.RefusalText.{field_words}
use Rattle.gaspi_texts.specs.ReplyText.{words_of_reply}
use Rattle.gaspi_texts.proofs.JoinedWords.{join_spaced, join_map}
use Rattle.gaspi_texts.proofs.reply_texts.append_reply.Goals as goal

pub returns-in_ok-append_word-in-List-clause-ok : goal.returns-in_ok-append_word-in-List-clause-ok
unfolding words_of_reply
returns-in_ok-append_word-in-List-clause-ok c =
    rw (c.in-List.is, join_map signed_decimal (type_word c.in-List.numbers.num_type) c.in-List.numbers.items) (grind (arith, common_steps))

pub returns-in_ok-append_line-in-Refused-clause-ok :
    goal.returns-in_ok-append_line-in-Refused-clause-ok
unfolding words_of_reply
returns-in_ok-append_line-in-Refused-clause-ok c =
    rw (c.in-Refused.is, join_spaced (decimal (refusal_number c.in-Refused.refusal)) (field_words c.in-Refused.refusal)) (grind (arith, common_steps))
