use Rattle.std.proofs.Common.{◌||◌, not, false, ◌∙◌, rules, tests}
use Rattle.std.proofs.lemmas.Iterator.{YieldsList-from_slice}
use Rattle.std.proofs.lemmas.Iterator.Consumers.{fold_from_yields_List}
use Rattle.rank_script.specs.Lines.{is_line_byte}
use Rattle.rank_script.proofs.OtherBytes.{list_any-fold}
use Rattle.rank_script.proofs.lines.has_other_byte.Goals as goal

pub returns : goal.returns
returns c =
    fold_from_yields_List _ (λ found byte. found || not (is_line_byte byte)) false c.fold.result c.fold.ensures.ran (YieldsList-from_slice _ c.iter.ensures.rest) (λ a x b q k. search (rules, tests))
    ∙ list_any-fold (λ byte. not (is_line_byte byte)) c.args.line.now
