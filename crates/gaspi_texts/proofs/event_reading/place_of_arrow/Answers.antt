use Rattle.std.proofs.Common.{◌≡◌, ◌∙◌, sym, rules, tests}
use Rattle.std.specs.List.{position}
use Rattle.std.specs.Str.{bytes_eq}
use Rattle.std.proofs.lemmas.Iterator.{YieldsList-from_slice}
use Rattle.std.proofs.lemmas.Iterator.Search.{position_from_yields_List}
use Rattle.gaspi_texts.specs.EventText.{arrow}
use Rattle.gaspi_texts.proofs.Places.{position_map}
use Rattle.gaspi_texts.proofs.event_reading.place_of_arrow.Goals as goal

pub returns-clause-value : goal.returns-clause-value
returns-clause-value c =
    let found : c.position.result ≡ position (λ word. bytes_eq arrow word.now) c.args.words.now =
    position_from_yields_List (λ word. bytes_eq arrow word.now) _ _ c.position.result c.position.ensures.ran (YieldsList-from_slice _ c.iter.ensures.rest) (λ x b q k. search (rules, tests)) in
    found ∙ sym (position_map (bytes_eq arrow) (λ word. word.now) c.args.words.now)
