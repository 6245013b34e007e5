use Rattle.std.proofs.Common.{◌≡◌, ◌∙◌, not, sym, rules, tests}
use Rattle.std.specs.List.{list_all}
use Rattle.std.proofs.lemmas.Iterator.{YieldsList-from_slice}
use Rattle.std.proofs.lemmas.Iterator.Search.{all_from_yields_List}
use Rattle.std.proofs.lemmas.List.Folds.{list_all-map}
use Rattle.call_texts.specs.Numbers.{has_leading_zero}
use Rattle.gaspi_texts.proofs.event_reading.are_exact.Goals as goal

pub returns : goal.returns
returns c =
    let every : c.all.result ≡ list_all (λ word. not (has_leading_zero word.now)) c.args.words.now =
    all_from_yields_List (λ word. not (has_leading_zero word.now)) _ _ c.all.result c.all.ensures.ran (YieldsList-from_slice _ c.iter.ensures.rest) (λ x b q k. search (rules, tests)) in
    every ∙ sym (list_all-map (λ word. not (has_leading_zero word)) (λ word. word.now) c.args.words.now)
