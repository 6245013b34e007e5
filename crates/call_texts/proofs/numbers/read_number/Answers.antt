use Rattle.std.proofs.Common.{◌≡◌, ◌+◌, ◌^◌, ◌≤◌, true, take, All, subst, arith, rules, take_all}
use Rattle.std.specs.Char.{is_ascii_digit}
use Rattle.std.specs.Str.Parse.{digits_value}
use Rattle.std.proofs.lemmas.List.Elements.{All-more}
use Rattle.call_texts.proofs.NumberWords.{next-value, number_of-large, number_of-numeral}
use Rattle.call_texts.proofs.numbers.read_number.Goals as goal

pub returns-in_err-checked_mul : goal.returns-in_err-checked_mul
returns-in_err-checked_mul c =
    let next = next-value c.args.word.now _ _ c.loop-byte-test.true (search rules) c.loop-byte.invariant.1 in
    let large : 2 ^ 64 ≤ digits_value 10 (take (c.loop-byte.byte-index + 1) c.args.word.now) = grind arith in
    rw (number_of-large c.args.word.now _ large) (search rules)

pub returns-in_err-number : goal.returns-in_err-number
returns-in_err-number c =
    let next = next-value c.args.word.now _ _ c.loop-byte-test.true (search rules) c.loop-byte.invariant.1 in
    let large : 2 ^ 64 ≤ digits_value 10 (take (c.loop-byte.byte-index + 1) c.args.word.now) = grind arith in
    rw (number_of-large c.args.word.now _ large) (search rules)

pub loop-byte-preserved : goal.loop-byte-preserved
loop-byte-preserved c =
    let next = next-value c.args.word.now _ _ c.loop-byte-test.true (search rules) c.loop-byte.invariant.1 in
    (All-more (λ b. is_ascii_digit b ≡ true) c.args.word.now _ 0 c.loop-byte-test.true c.loop-byte.invariant.0 (search rules), grind arith, grind arith)

pub returns : goal.returns
returns c =
    let word = c.args.word.now in
    let whole = take_all c.loop-byte.byte-index word (omega arith) in
    number_of-numeral word _ (subst (All (λ b. is_ascii_digit b ≡ true)) whole c.loop-byte.invariant.0) (search rules) (rw whole at c.loop-byte.invariant.1) c.loop-byte.invariant.2
