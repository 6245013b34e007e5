-- `bench --seed N --ranks N --rounds N` gives just these numbers, word by word.
use Rattle.std.proofs.Common.{◌≡◌, ◌∙◌, ◌≤◌, ℕ, true, false, refl, sym, ap, arith, List, [], ◌∷◌, Some, codes}
use Rattle.std.specs.Prelude.{pos, fold}
use Rattle.std.specs.Fmt.{decimal}
use Rattle.std.proofs.lemmas.Fmt.{decimal_is_IsNumeral}
use Rattle.clap.specs.Lexer.{without_minus}
use Rattle.clap.specs.ValueTests.{accepts}
use Rattle.clap.specs.Kinds.{Kinds, or_else}
use Rattle.clap.specs.Faults.{check_fault, defaults_fault, fault_of, level_fault, settle_fault, turn_fault, walk_fault}
use Rattle.clap.specs.Walk.{Row, Text, Walk, finished, nothing_held, rows_after, settled, walk, walk_from, walked}
use Rattle.clap.specs.Simple.{subcommand_of}
use Rattle.clap.specs.declared.builder.value_parser.ValueParser.TheVariants.{Signed}
use Rattle.clap.proofs.OnLiterals.{clap_on_literals}
use Rattle.command_line.proofs.Ranges.{accepted_in_range, three_given}
use Rattle.command_line.proofs.AcceptedNumbers.{bench_shape}
use Rattle.command_line.proofs.GivenNumbers.{IsPlainWord, accepted, after_option, after_value, fault_more, level_passes, plain_numeral, read, row_given}
use Rattle.command_line.specs.Words.{command_of, needed_seed_rule, number_of, ranks_rule, rounds_rule, the_app, words_in}
use Rattle.command_line.specs.declared.words.Command.TheVariants.{Bench}

module _ (a b c : Text) (plain_a : IsPlainWord a) (plain_b : IsPlainWord b) (plain_c : IsPlainWord c) where
  abbrev given : List Text
  given = codes "--seed" ∷ a ∷ codes "--ranks" ∷ b ∷ codes "--rounds" ∷ c ∷ []

  abbrev start : Walk
  start = walk_from nothing_held

  abbrev one : List Row
  one = row_given needed_seed_rule a ∷ []

  abbrev two : List Row
  two = row_given needed_seed_rule a ∷ row_given ranks_rule b ∷ []

  abbrev three : List Row
  three = row_given needed_seed_rule a ∷ row_given ranks_rule b ∷ row_given rounds_rule c ∷ []

  abbrev at_seed : Walk
  at_seed = after_option (codes "seed") []

  abbrev past_seed : Walk
  past_seed = after_value (codes "seed") [] a

  abbrev at_ranks : Walk
  at_ranks = after_option (codes "ranks") one

  abbrev past_ranks : Walk
  past_ranks = after_value (codes "ranks") one b

  abbrev at_rounds : Walk
  at_rounds = after_option (codes "rounds") two

  abbrev end : Walk
  end = after_value (codes "rounds") two c

  seed_met : walked bench_shape.rules [] start (codes "--seed") ≡ at_seed
  unfolding clap_on_literals
  seed_met = refl

  seed_value_met : walked bench_shape.rules [] at_seed a ≡ past_seed
  unfolding walked
  seed_value_met = rw (plain_a.dashes, plain_a.long, plain_a.short) refl

  ranks_met : walked bench_shape.rules [] past_seed (codes "--ranks") ≡ at_ranks
  unfolding clap_on_literals
  ranks_met = refl

  ranks_value_met : walked bench_shape.rules [] at_ranks b ≡ past_ranks
  unfolding walked
  ranks_value_met = rw (plain_b.dashes, plain_b.long, plain_b.short) refl

  rounds_met : walked bench_shape.rules [] past_ranks (codes "--rounds") ≡ at_rounds
  unfolding clap_on_literals
  rounds_met = refl

  rounds_value_met : walked bench_shape.rules [] at_rounds c ≡ end
  unfolding walked
  rounds_value_met = rw (plain_c.dashes, plain_c.long, plain_c.short) refl

  seed_turn : turn_fault bench_shape [] start (codes "--seed") ≡ []
  unfolding clap_on_literals
  seed_turn = refl

  seed_value_turn : turn_fault bench_shape [] at_seed a ≡ []
  seed_value_turn = rw (plain_a.dashes, plain_a.long, plain_a.short) refl

  ranks_turn : accepts false (Signed (pos 0) (pos 4294967295)) a ≡ true → turn_fault bench_shape [] past_seed (codes "--ranks") ≡ []
  unfolding clap_on_literals
  ranks_turn a_in = rw a_in refl

  ranks_value_turn : turn_fault bench_shape [] at_ranks b ≡ []
  ranks_value_turn = rw (plain_b.dashes, plain_b.long, plain_b.short) refl

  rounds_turn : accepts false (Signed (pos 1) (pos 16)) b ≡ true → turn_fault bench_shape [] past_ranks (codes "--rounds") ≡ []
  unfolding clap_on_literals
  rounds_turn b_in = rw b_in refl

  rounds_value_turn : turn_fault bench_shape [] at_rounds c ≡ []
  rounds_value_turn = rw (plain_c.dashes, plain_c.long, plain_c.short) refl

  all_pass : fault_of the_app (codes "bench" ∷ given) ≡ or_else (level_fault bench_shape [] nothing_held given false []) []
  unfolding walked walk_fault defaults_fault
  all_pass = refl

  settles : accepts false (Signed (pos 1) (pos 5000)) c ≡ true → settle_fault bench_shape.rules bench_shape.args_override_self end.held ≡ []
  unfolding clap_on_literals
  settles c_in = rw c_in refl

  defaults : defaults_fault (settled bench_shape.rules end.held).rows bench_shape.rules ≡ []
  unfolding clap_on_literals
  defaults = refl

  checks : check_fault bench_shape (finished bench_shape.rules end.held) false ≡ []
  checks = refl

  finishes : finished bench_shape.rules end.held ≡ three
  finishes = refl

  is_entered : subcommand_of the_app (codes "bench" ∷ given) ≡ Some (codes "bench", rows_after bench_shape.rules [] given)
  unfolding walked
  is_entered = refl

  rows_read : (l m n : ℕ) → number_of 32 (without_minus a) ≡ Some l → number_of 32 (without_minus b) ≡ Some m → number_of 32 (without_minus c) ≡ Some n
      → words_in (Some (codes "bench", three)) ≡ Some (Bench l m n)
  rows_read l m n seed ranks rounds =
      three_given (λ x y z. Bench x y z) (number_of 32 (without_minus a)) (number_of 32 (without_minus b)) (number_of 32 (without_minus c)) l m n seed ranks rounds

  module _ (a_in : accepts false (Signed (pos 0) (pos 4294967295)) a ≡ true) (b_in : accepts false (Signed (pos 1) (pos 16)) b ≡ true)
      (c_in : accepts false (Signed (pos 1) (pos 5000)) c ≡ true) where
    words_pass : walk_fault bench_shape [] start given ≡ []
    unfolding walk_fault
    words_pass =
        fault_more bench_shape [] start at_seed (codes "--seed") (a ∷ codes "--ranks" ∷ b ∷ codes "--rounds" ∷ c ∷ []) seed_turn seed_met
        (fault_more bench_shape [] at_seed past_seed a (codes "--ranks" ∷ b ∷ codes "--rounds" ∷ c ∷ []) seed_value_turn seed_value_met
        (fault_more bench_shape [] past_seed at_ranks (codes "--ranks") (b ∷ codes "--rounds" ∷ c ∷ []) (ranks_turn a_in) ranks_met
        (fault_more bench_shape [] at_ranks past_ranks b (codes "--rounds" ∷ c ∷ []) ranks_value_turn ranks_value_met
        (fault_more bench_shape [] past_ranks at_rounds (codes "--rounds") (c ∷ []) (rounds_turn b_in) rounds_met
        (fault_more bench_shape [] at_rounds end c [] rounds_value_turn rounds_value_met refl)))))

    abbrev after : Walk → List Text → Walk
    after w words = fold (walked bench_shape.rules []) w words

    walk_ends : walk bench_shape.rules [] nothing_held given ≡ end
    walk_ends =
        ap (λ (w : Walk). after w (a ∷ codes "--ranks" ∷ b ∷ codes "--rounds" ∷ c ∷ [])) seed_met
        ∙ ap (λ (w : Walk). after w (codes "--ranks" ∷ b ∷ codes "--rounds" ∷ c ∷ [])) seed_value_met
        ∙ ap (λ (w : Walk). after w (b ∷ codes "--rounds" ∷ c ∷ [])) ranks_met
        ∙ ap (λ (w : Walk). after w (codes "--rounds" ∷ c ∷ [])) ranks_value_met
        ∙ ap (λ (w : Walk). after w (c ∷ [])) rounds_met
        ∙ rounds_value_met

    level_is_free : level_fault bench_shape [] nothing_held given false [] ≡ []
    level_is_free = level_passes bench_shape [] given end.held words_pass (ap (λ (w : Walk). w.held) walk_ends) (settles c_in) defaults checks

    rows_are : rows_after bench_shape.rules [] given ≡ three
    rows_are = ap (λ (w : Walk). finished bench_shape.rules w.held) walk_ends ∙ finishes

    given_words : (l m n : ℕ) → number_of 32 (without_minus a) ≡ Some l → number_of 32 (without_minus b) ≡ Some m → number_of 32 (without_minus c) ≡ Some n
        → command_of (codes "bench" ∷ given) ≡ Some (Bench l m n)
    given_words l m n seed ranks rounds =
        sym (accepted_in_range (codes "bench" ∷ given) (all_pass ∙ ap (λ (kinds : Kinds). or_else kinds []) level_is_free))
        ∙ ap words_in (is_entered ∙ ap (λ (rows : List Row). Some (codes "bench", rows)) rows_are) ∙ rows_read l m n seed ranks rounds

pub given_bench : (seed ranks rounds : ℕ) → seed ≤ 4294967295 → 1 ≤ ranks → ranks ≤ 16 → 1 ≤ rounds → rounds ≤ 5000
    → command_of (codes "bench" ∷ codes "--seed" ∷ decimal seed ∷ codes "--ranks" ∷ decimal ranks ∷ codes "--rounds" ∷ decimal rounds ∷ [])
    ≡ Some (Bench seed ranks rounds)
given_bench seed ranks rounds seed_most ranks_least ranks_most rounds_least rounds_most =
    let of_seed = decimal_is_IsNumeral seed (omega arith) in
    let of_ranks = decimal_is_IsNumeral ranks (omega arith) in
    let of_rounds = decimal_is_IsNumeral rounds (omega arith) in
    given_words (decimal seed) (decimal ranks) (decimal rounds)
    (plain_numeral (decimal seed) of_seed.0) (plain_numeral (decimal ranks) of_ranks.0) (plain_numeral (decimal rounds) of_rounds.0)
    (accepted (decimal seed) of_seed.0 0 4294967295 seed of_seed.1 (omega arith) seed_most (omega arith))
    (accepted (decimal ranks) of_ranks.0 1 16 ranks of_ranks.1 ranks_least ranks_most (omega arith))
    (accepted (decimal rounds) of_rounds.0 1 5000 rounds of_rounds.1 rounds_least rounds_most (omega arith))
    seed ranks rounds
    (read (decimal seed) of_seed.0 seed of_seed.1 seed_most)
    (read (decimal ranks) of_ranks.0 ranks of_ranks.1 (omega arith))
    (read (decimal rounds) of_rounds.0 rounds of_rounds.1 (omega arith))
