use Rattle.std.proofs.Common.{◌≡◌, ◌+◌, ◌-◌, length, take, drop, arith, rules}
use Rattle.std.proofs.lemmas.Grind.{common_steps}
use Rattle.call_texts.proofs.Pieces.{pieces_of-first, pieces_of-last}
use Rattle.call_texts.proofs.blanks.first_spaced.Goals as goal

pub returns-in_err-end-clause-pieces : goal.returns-in_err-end-clause-pieces
returns-in_err-end-clause-pieces c =
    let last = pieces_of-last c.args.text.now (search rules) in
    search rules

pub returns-clause-pieces : goal.returns-clause-pieces
returns-clause-pieces c =
    let text = c.args.text.now in
    let end = c.in_ok-end.end in
    let cut = pieces_of-first text end (search rules) in
    let whole : take (length text - (end + 1)) (drop (end + 1) text) ≡ drop (end + 1) text = grind (arith, common_steps) in
    rw whole cut
