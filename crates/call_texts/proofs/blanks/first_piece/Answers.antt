use Rattle.std.proofs.Common.{◌≡◌, ◌+◌, ◌-◌, length, take, drop, arith, rules}
use Rattle.std.proofs.lemmas.Grind.{common_steps}
use Rattle.call_texts.proofs.Pieces.{words_of-piece, words_of-last}
use Rattle.call_texts.proofs.blanks.first_piece.Goals as goal

pub returns-in_err-end-clause-words : goal.returns-in_err-end-clause-words
returns-in_err-end-clause-words c =
    let last = words_of-last c.args.text.now (search rules) in
    search rules

pub returns-clause-words : goal.returns-clause-words
returns-clause-words c =
    let text = c.args.text.now in
    let end = c.in_ok-end.end in
    let cut = words_of-piece text end (search rules) in
    let whole : take (length text - (end + 1)) (drop (end + 1) text) ≡ drop (end + 1) text = grind (arith, common_steps) in
    rw whole cut
