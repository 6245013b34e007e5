-- `why --place K` gives just this number, word by word.
use Rattle.std.proofs.Common.{◌≡◌, ◌∙◌, ◌<◌, ◌≤◌, ◌^◌, ℕ, true, false, refl, sym, ap, subst, arith, List, [], ◌∷◌, Some, codes, le-leb, lt-ltb}
use Rattle.std.specs.Prelude.{fold, option_map}
use Rattle.std.specs.Fmt.{decimal}
use Rattle.std.specs.Str.Parse.{IsNumeral, digits_value, without_leading_plus}
use Rattle.std.proofs.lemmas.Fmt.{decimal_is_IsNumeral}
use Rattle.clap.specs.ValueTests.{accepts}
use Rattle.clap.specs.Kinds.{Kinds, or_else}
use Rattle.clap.specs.Faults.{check_fault, defaults_fault, fault_of, level_fault, settle_fault, turn_fault, walk_fault}
use Rattle.clap.specs.Walk.{Row, Text, Walk, finished, nothing_held, rows_after, settled, walk, walk_from, walked}
use Rattle.clap.specs.Simple.{subcommand_of}
use Rattle.clap.specs.declared.builder.value_parser.ValueParser.TheVariants.{Unsigned}
use Rattle.clap.proofs.OnLiterals.{clap_on_literals}
use Rattle.command_line.proofs.Ranges.{accepted_in_range}
use Rattle.command_line.proofs.AcceptedNumbers.{why_shape}
use Rattle.command_line.proofs.Reading.{number_given, numeral_passes}
use Rattle.command_line.proofs.GivenNumbers.{IsPlainWord, after_option, after_value, fault_more, level_passes, no_plus, plain_numeral, row_given}
use Rattle.command_line.specs.Words.{command_of, number_of, place_rule, the_app, words_in}
use Rattle.command_line.specs.declared.words.Command.TheVariants.{Why}

module _ (t : Text) (plain : IsPlainWord t) where
  abbrev given : List Text
  given = codes "--place" ∷ t ∷ []

  abbrev start : Walk
  start = walk_from nothing_held

  abbrev at_place : Walk
  at_place = after_option (codes "place") []

  abbrev end : Walk
  end = after_value (codes "place") [] t

  abbrev one : List Row
  one = row_given place_rule t ∷ []

  place_met : walked why_shape.rules [] start (codes "--place") ≡ at_place
  unfolding clap_on_literals
  place_met = refl

  value_met : walked why_shape.rules [] at_place t ≡ end
  unfolding walked
  value_met = rw (plain.dashes, plain.long, plain.short) refl

  place_turn : turn_fault why_shape [] start (codes "--place") ≡ []
  unfolding clap_on_literals
  place_turn = refl

  value_turn : turn_fault why_shape [] at_place t ≡ []
  value_turn = rw (plain.dashes, plain.long, plain.short) refl

  all_pass : fault_of the_app (codes "why" ∷ given) ≡ or_else (level_fault why_shape [] nothing_held given false []) []
  unfolding walked walk_fault defaults_fault
  all_pass = refl

  settles : accepts false (Unsigned 0 18446744073709551615) t ≡ true → settle_fault why_shape.rules why_shape.args_override_self end.held ≡ []
  unfolding clap_on_literals
  settles t_in = rw t_in refl

  defaults : defaults_fault (settled why_shape.rules end.held).rows why_shape.rules ≡ []
  unfolding clap_on_literals
  defaults = refl

  checks : check_fault why_shape (finished why_shape.rules end.held) false ≡ []
  checks = refl

  finishes : finished why_shape.rules end.held ≡ one
  finishes = refl

  is_entered : subcommand_of the_app (codes "why" ∷ given) ≡ Some (codes "why", rows_after why_shape.rules [] given)
  unfolding walked
  is_entered = refl

  rows_read : (n : ℕ) → number_of 64 t ≡ Some n → words_in (Some (codes "why", one)) ≡ Some (Why n)
  rows_read n place = ap (option_map (λ k. Why k)) place

  module _ (t_in : accepts false (Unsigned 0 18446744073709551615) t ≡ true) where
    words_pass : walk_fault why_shape [] start given ≡ []
    unfolding walk_fault
    words_pass =
        fault_more why_shape [] start at_place (codes "--place") (t ∷ []) place_turn place_met
        (fault_more why_shape [] at_place end t [] value_turn value_met refl)

    walk_ends : walk why_shape.rules [] nothing_held given ≡ end
    walk_ends = ap (λ (w : Walk). fold (walked why_shape.rules []) w (t ∷ [])) place_met ∙ value_met

    level_is_free : level_fault why_shape [] nothing_held given false [] ≡ []
    level_is_free = level_passes why_shape [] given end.held words_pass (ap (λ (w : Walk). w.held) walk_ends) (settles t_in) defaults checks

    rows_are : rows_after why_shape.rules [] given ≡ one
    rows_are = ap (λ (w : Walk). finished why_shape.rules w.held) walk_ends ∙ finishes

    given_words : (n : ℕ) → number_of 64 t ≡ Some n → command_of (codes "why" ∷ given) ≡ Some (Why n)
    given_words n place =
        sym (accepted_in_range (codes "why" ∷ given) (all_pass ∙ ap (λ (kinds : Kinds). or_else kinds []) level_is_free))
        ∙ ap words_in (is_entered ∙ ap (λ (rows : List Row). Some (codes "why", rows)) rows_are) ∙ rows_read n place

module _ (t : Text) (h : IsNumeral 10 t) (n : ℕ) (is : digits_value 10 t ≡ n) (most : n ≤ 18446744073709551615) where
  abbrev digits : Text
  digits = without_leading_plus t

  numeral : IsNumeral 10 digits
  numeral = subst (IsNumeral 10) (sym (no_plus t h)) h

  value_is : digits_value 10 digits ≡ n
  value_is = ap (digits_value 10) (no_plus t h) ∙ is

  small : n < 2 ^ 64
  small = omega arith

  place_accepted : accepts false (Unsigned 0 18446744073709551615) t ≡ true
  place_accepted = rw (numeral_passes digits numeral, value_is, lt-ltb n (2 ^ 64) small, le-leb 0 n (omega arith), le-leb n 18446744073709551615 most) refl

  place_read : number_of 64 t ≡ Some n
  place_read = number_given 64 t n numeral value_is small

pub given_why : (place : ℕ) → place ≤ 18446744073709551615
    → command_of (codes "why" ∷ codes "--place" ∷ decimal place ∷ []) ≡ Some (Why place)
given_why place most =
    let numeral = decimal_is_IsNumeral place (omega arith) in
    given_words (decimal place) (plain_numeral (decimal place) numeral.0) (place_accepted (decimal place) numeral.0 place numeral.1 most) place
    (place_read (decimal place) numeral.0 place numeral.1 most)
