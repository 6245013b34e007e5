use Rattle.std.proofs.Common.{◌∙◌}
use Rattle.std.proofs.lemmas.Result.{on_ok_weaker}
use Rattle.call_texts.proofs.JoinedWords.{write_list-text}
use Rattle.call_texts.proofs.call_writing.append_call.Goals as goal

pub returns-in-WriteList-clause-ok : goal.returns-in-WriteList-clause-ok
returns-in-WriteList-clause-ok c =
    let text = write_list-text c.in-WriteList.call c.args.text.now c.spelling-in-WriteList.result.now c.as_slice-in-WriteList.result.now c.spelling-in-WriteList.ensures c.as_slice-in-WriteList.ensures in
    rw c.in-WriteList.is (on_ok_weaker c.append_list.result (λ is. is ∙ text) c.append_list.ensures.ok)
