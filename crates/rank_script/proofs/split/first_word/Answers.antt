use Rattle.std.proofs.Common.{◌==◌, length, not, rules, tests}
use Rattle.std.proofs.lemmas.Iterator.Search.{find_from_yields_List}
use Rattle.std.proofs.lemmas.Iterator.Splits.{YieldsList-from_slice_split}
use Rattle.call_texts.specs.Words.{is_blank}
use Rattle.rank_script.proofs.split.first_word.Goals as goal

pub returns : goal.returns
returns c =
    find_from_yields_List (λ word. not (length word == 0)) _ _ _ c.find.ensures.ran (YieldsList-from_slice_split _ is_blank c.args.line.now c.split.ensures.rest c.split.ensures.done c.split.ensures.closure (λ x b q k. search (rules, tests))) (λ x b q k. search (rules, tests))
