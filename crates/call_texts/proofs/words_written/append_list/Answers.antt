use Rattle.std.proofs.Common.{map, arith}
use Rattle.std.specs.Fmt.{decimal}
use Rattle.std.proofs.lemmas.Grind.{common_steps}
use Rattle.call_texts.specs.Fields.{words_of_field}
use Rattle.call_texts.specs.declared.fields.Field.TheVariants.{Items}
use Rattle.call_texts.proofs.JoinedWords.{join_behind}
use Rattle.call_texts.proofs.words_written.append_list.Goals as goal

pub returns-clause-ok : goal.returns-clause-ok
returns-clause-ok c =
    rw (join_behind c.args.word.now (map decimal c.args.numbers.now) (words_of_field Items c.args.items.now)) (grind (arith, common_steps))
