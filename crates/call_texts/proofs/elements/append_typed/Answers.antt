use Rattle.std.proofs.Common.{ap, ◌∙◌}
use Rattle.std.proofs.lemmas.Result.{on_ok_weaker}
use Rattle.call_texts.specs.Elements.{type_word}
use Rattle.call_texts.proofs.JoinedWords.{typed-text}
use Rattle.call_texts.proofs.elements.append_typed.Goals as goal

pub returns-clause-ok : goal.returns-clause-ok
returns-clause-ok c =
    let text = typed-text c.args.numbers.now c.args.text.now c.append_word.new.text c.append_numbers.new.text c.type_word.result.now c.items-items.result.now (c.type_word.ensures ∙ ap type_word c.num_type.ensures) c.items-items.ensures.items c.in_ok-append_word.ensures.ok c.in_ok-append_numbers.ensures.ok in
    on_ok_weaker c.append_elements.result (λ is. is ∙ text) c.append_elements.ensures.ok
