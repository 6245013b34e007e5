-- `run --workers N --limit N --brief` and `step --seed N --limit N --brief` give just these numbers, word by word.
use Rattle.std.proofs.Common.{◌≡◌, ◌∙◌, ◌<◌, ◌≤◌, ◌^◌, ◌==◌, ◌&&◌, ℕ, ℤ, Bool, cond, true, false, refl, sym, ap, ap₂, subst, arith, List, [], ◌∷◌, Some, None, codes, ne_eqb, le-leb, lt-ltb, drop}
use Rattle.std.specs.Prelude.{pos, neg_ℤ, int_le, fold}
use Rattle.std.specs.Fmt.{decimal}
use Rattle.std.specs.Str.{bytes_eq}
use Rattle.std.specs.Str.Parse.{IsNumeral, digits_value, without_leading_plus, without_leading_sign, starts_with_minus, signed_digits_value}
use Rattle.std.proofs.lemmas.Str.Parse.{digit_from_value}
use Rattle.std.proofs.lemmas.Fmt.{decimal_is_IsNumeral}
use Rattle.clap.specs.Lexer.{long_of, short_of, without_minus}
use Rattle.clap.specs.ValueTests.{accepts, fits_i64, is_numeral}
use Rattle.clap.specs.Kinds.{Kinds, or_else}
use Rattle.clap.specs.Faults.{check_fault, defaults_fault, fault_of, level_fault, settle_fault, turn_fault, walk_fault}
use Rattle.clap.specs.Walk.{Held, Names, Row, Rule, Text, Walk, finished, idle, nothing_held, option, reading_by, rows_after, settled, walk, walk_from, walked}
use Rattle.clap.specs.Simple.{App, Shape, built, new_shape, rows_at, subcommand_of}
use Rattle.clap.specs.declared.builder.value_parser.ValueParser.TheVariants.{Signed}
use Rattle.clap.specs.declared.parser.matches.ValueSource.TheVariants.{CommandLine}
use Rattle.clap.proofs.OnLiterals.{clap_on_literals}
use Rattle.command_line.proofs.Ranges.{both_given, accepted_in_range}
use Rattle.command_line.proofs.AcceptedNumbers.{run_shape, step_shape}
use Rattle.command_line.proofs.Reading.{number_given, numeral_passes}
use Rattle.command_line.specs.Words.{brief_rule, command_of, limit_rule, number_of, seed_rule, the_app, words_in, workers_rule}
use Rattle.command_line.specs.declared.words.Command.{Command}
use Rattle.command_line.specs.declared.words.Command.TheVariants.{Run, Step}

-- ---- one word more

pub fault_more : (s : Shape) (names : Names) (w after : Walk) (word : Text) (rest : List Text) → turn_fault s names w word ≡ []
    → walked s.rules names w word ≡ after → walk_fault s names after rest ≡ [] → walk_fault s names w (word ∷ rest) ≡ []
unfolding walk_fault
fault_more s names w after word rest none is more = ap₂ or_else none (ap (λ (v : Walk). walk_fault s names v rest) is ∙ more)

pub level_passes : (s : Shape) (names : Names) (words : List Text) (end : Held) → walk_fault s names (walk_from nothing_held) words ≡ []
    → (walk s.rules names nothing_held words).held ≡ end → settle_fault s.rules s.args_override_self end ≡ []
    → defaults_fault (settled s.rules end).rows s.rules ≡ [] → check_fault s (finished s.rules end) false ≡ []
    → level_fault s names nothing_held words false [] ≡ []
level_passes s names words end none is settle defaults check =
    ap₂ or_else none
    (ap (λ (h : Held). or_else (settle_fault s.rules s.args_override_self h) (or_else (defaults_fault (settled s.rules h).rows s.rules) (check_fault s (finished s.rules h) false))) is
    ∙ ap₂ or_else settle (ap₂ or_else defaults check))

-- where the walk stands after an option, and after its value
abbrev pub after_option : Text → List Row → Walk
after_option id rows = record {
  held = record { rows = rows; pending = Some (id, []); skip = 0 };
  waiting = option id;
  position = 1;
  is_trailing = false;
  stopped = None;
}

abbrev pub after_value : Text → List Row → Text → Walk
after_value id rows value = record {
  held = record { rows = rows; pending = Some (id, value ∷ []); skip = 0 };
  waiting = idle;
  position = 1;
  is_trailing = false;
  stopped = None;
}

abbrev pub row_given : Rule → Text → Row
row_given a value = record {
  id = a.id;
  values = value ∷ [];
  count = None;
  source = Some CommandLine;
  reading = reading_by a;
}

-- a word that is no flag, which a number is
pub record IsPlainWord (t : Text) : Type 0 where
  pub dashes : bytes_eq t (45 ∷ 45 ∷ []) ≡ false
  pub long : long_of t ≡ None
  pub short : short_of t ≡ None

-- the subcommands with numbers, and the first option of each
data Numbered : Type 0 where
  of_run : Numbered
  of_step : Numbered

abbrev name_of : Numbered → Text
name_of of_run = codes "run"
name_of of_step = codes "step"

abbrev shape_of : Numbered → Shape
shape_of of_run = run_shape
shape_of of_step = step_shape

abbrev first_rule : Numbered → Rule
first_rule of_run = workers_rule
first_rule of_step = seed_rule

abbrev first_word : Numbered → Text
first_word of_run = codes "--workers"
first_word of_step = codes "--seed"

abbrev least : Numbered → ℕ
least of_run = 1
least of_step = 0

abbrev most : Numbered → ℕ
most of_run = 4
most of_step = 4294967295

abbrev command_by : Numbered → ℕ → ℕ → Command
command_by of_run m n = Run m n true
command_by of_step m n = Step m n true

module _ (f l : Text) (fp : IsPlainWord f) (lp : IsPlainWord l) where
  abbrev given : Numbered → List Text
  given c = first_word c ∷ f ∷ codes "--limit" ∷ l ∷ codes "--brief" ∷ []

  abbrev start : Walk
  start = walk_from nothing_held

  abbrev at_first : Numbered → Walk
  at_first c = after_option (first_rule c).id []

  abbrev past_first : Numbered → Walk
  past_first c = after_value (first_rule c).id [] f

  abbrev at_limit : Numbered → Walk
  at_limit c = after_option (codes "limit") (row_given (first_rule c) f ∷ [])

  abbrev past_limit : Numbered → Walk
  past_limit c = after_value (codes "limit") (row_given (first_rule c) f ∷ []) l

  abbrev end : Numbered → Walk
  end c = record {
    held = record { rows = row_given (first_rule c) f ∷ row_given limit_rule l ∷ row_given (Rattle.clap.specs.Simple.filled brief_rule) (codes "true") ∷ []; pending = None; skip = 0 };
    waiting = idle;
    position = 1;
    is_trailing = false;
    stopped = None;
  }

  first_met : (c : Numbered) → walked (shape_of c).rules [] start (first_word c) ≡ at_first c
  unfolding clap_on_literals
  first_met of_run = refl
  first_met of_step = refl

  first_value_met : (c : Numbered) → walked (shape_of c).rules [] (at_first c) f ≡ past_first c
  unfolding walked
  first_value_met of_run = rw (fp.dashes, fp.long, fp.short) refl
  first_value_met of_step = rw (fp.dashes, fp.long, fp.short) refl

  limit_met : (c : Numbered) → walked (shape_of c).rules [] (past_first c) (codes "--limit") ≡ at_limit c
  unfolding clap_on_literals
  limit_met of_run = refl
  limit_met of_step = refl

  limit_value_met : (c : Numbered) → walked (shape_of c).rules [] (at_limit c) l ≡ past_limit c
  unfolding walked
  limit_value_met of_run = rw (lp.dashes, lp.long, lp.short) refl
  limit_value_met of_step = rw (lp.dashes, lp.long, lp.short) refl

  brief_met : (c : Numbered) → walked (shape_of c).rules [] (past_limit c) (codes "--brief") ≡ end c
  unfolding clap_on_literals
  brief_met of_run = refl
  brief_met of_step = refl

  first_turn : (c : Numbered) → turn_fault (shape_of c) [] start (first_word c) ≡ []
  unfolding clap_on_literals
  first_turn of_run = refl
  first_turn of_step = refl

  first_value_turn : (c : Numbered) → turn_fault (shape_of c) [] (at_first c) f ≡ []
  first_value_turn of_run = rw (fp.dashes, fp.long, fp.short) refl
  first_value_turn of_step = rw (fp.dashes, fp.long, fp.short) refl

  limit_turn : (c : Numbered) → accepts false (Signed (pos (least c)) (pos (most c))) f ≡ true → turn_fault (shape_of c) [] (past_first c) (codes "--limit") ≡ []
  unfolding clap_on_literals
  limit_turn of_run f_in = rw f_in refl
  limit_turn of_step f_in = rw f_in refl

  limit_value_turn : (c : Numbered) → turn_fault (shape_of c) [] (at_limit c) l ≡ []
  limit_value_turn of_run = rw (lp.dashes, lp.long, lp.short) refl
  limit_value_turn of_step = rw (lp.dashes, lp.long, lp.short) refl

  brief_turn : (c : Numbered) → accepts false (Signed (pos 1) (pos 100000000)) l ≡ true → turn_fault (shape_of c) [] (past_limit c) (codes "--brief") ≡ []
  unfolding clap_on_literals
  brief_turn of_run l_in = rw l_in refl
  brief_turn of_step l_in = rw l_in refl

  all_pass : (c : Numbered) → fault_of the_app (name_of c ∷ given c) ≡ or_else (level_fault (shape_of c) [] nothing_held (given c) false []) []
  unfolding walked walk_fault defaults_fault
  all_pass of_run = refl
  all_pass of_step = refl

  settles : (c : Numbered) → settle_fault (shape_of c).rules (shape_of c).args_override_self (end c).held ≡ []
  settles of_run = refl
  settles of_step = refl

  defaults : (c : Numbered) → defaults_fault (settled (shape_of c).rules (end c).held).rows (shape_of c).rules ≡ []
  unfolding clap_on_literals
  defaults of_run = refl
  defaults of_step = refl

  checks : (c : Numbered) → check_fault (shape_of c) (finished (shape_of c).rules (end c).held) false ≡ []
  checks of_run = refl
  checks of_step = refl

  finishes : (c : Numbered) → finished (shape_of c).rules (end c).held ≡ (end c).held.rows
  finishes of_run = refl
  finishes of_step = refl

  is_entered : (c : Numbered) → subcommand_of the_app (name_of c ∷ given c) ≡ Some (name_of c, rows_after (shape_of c).rules [] (given c))
  unfolding walked
  is_entered of_run = refl
  is_entered of_step = refl

  rows_read : (c : Numbered) (m n : ℕ) → number_of 32 (without_minus f) ≡ Some m → number_of 32 (without_minus l) ≡ Some n
      → words_in (Some (name_of c, (end c).held.rows)) ≡ Some (command_by c m n)
  rows_read of_run m n first limit = both_given (λ x y. Run x y true) (number_of 32 (without_minus f)) (number_of 32 (without_minus l)) m n first limit
  rows_read of_step m n first limit = both_given (λ x y. Step x y true) (number_of 32 (without_minus f)) (number_of 32 (without_minus l)) m n first limit

  module _ (c : Numbered) (f_in : accepts false (Signed (pos (least c)) (pos (most c))) f ≡ true) (l_in : accepts false (Signed (pos 1) (pos 100000000)) l ≡ true) where
    abbrev s : Shape
    s = shape_of c

    words_pass : walk_fault s [] start (given c) ≡ []
    unfolding walk_fault
    words_pass =
        fault_more s [] start (at_first c) (first_word c) (f ∷ codes "--limit" ∷ l ∷ codes "--brief" ∷ []) (first_turn c) (first_met c)
        (fault_more s [] (at_first c) (past_first c) f (codes "--limit" ∷ l ∷ codes "--brief" ∷ []) (first_value_turn c) (first_value_met c)
        (fault_more s [] (past_first c) (at_limit c) (codes "--limit") (l ∷ codes "--brief" ∷ []) (limit_turn c f_in) (limit_met c)
        (fault_more s [] (at_limit c) (past_limit c) l (codes "--brief" ∷ []) (limit_value_turn c) (limit_value_met c)
        (fault_more s [] (past_limit c) (end c) (codes "--brief") [] (brief_turn c l_in) (brief_met c) refl))))

    abbrev after : Walk → List Text → Walk
    after w words = fold (walked s.rules []) w words

    walk_ends : walk s.rules [] nothing_held (given c) ≡ end c
    walk_ends =
        ap (λ (w : Walk). after w (f ∷ codes "--limit" ∷ l ∷ codes "--brief" ∷ [])) (first_met c)
        ∙ ap (λ (w : Walk). after w (codes "--limit" ∷ l ∷ codes "--brief" ∷ [])) (first_value_met c)
        ∙ ap (λ (w : Walk). after w (l ∷ codes "--brief" ∷ [])) (limit_met c)
        ∙ ap (λ (w : Walk). after w (codes "--brief" ∷ [])) (limit_value_met c)
        ∙ brief_met c

    level_is_free : level_fault s [] nothing_held (given c) false [] ≡ []
    level_is_free = level_passes s [] (given c) (end c).held words_pass (ap (λ (w : Walk). w.held) walk_ends) (settles c) (defaults c) (checks c)

    rows_are : rows_after s.rules [] (given c) ≡ (end c).held.rows
    rows_are = ap (λ (w : Walk). finished s.rules w.held) walk_ends ∙ finishes c

    given_words : (m n : ℕ) → number_of 32 (without_minus f) ≡ Some m → number_of 32 (without_minus l) ≡ Some n
        → command_of (name_of c ∷ given c) ≡ Some (command_by c m n)
    given_words m n first limit =
        sym (accepted_in_range (name_of c ∷ given c) (all_pass c ∙ ap (λ (kinds : Kinds). or_else kinds []) level_is_free))
        ∙ ap words_in (is_entered c ∙ ap (λ (rows : List Row). Some (name_of c, rows)) rows_are) ∙ rows_read c m n first limit

-- ---- numbers in decimal

pub plain_numeral : (t : Text) → IsNumeral 10 t → IsPlainWord t
plain_numeral [] h = absurd (omega (arith, h.0))
plain_numeral (x ∷ xs) h =
    let minus : (x == 45) ≡ false = ne_eqb _ _ (λ e. omega (arith, digit_from_value x h.1.0)) in
    record { dashes = rw minus refl; long = rw minus refl; short = rw minus refl }

no_minus : (t : Text) → IsNumeral 10 t → without_minus t ≡ t
no_minus [] h = refl
no_minus (x ∷ xs) h =
    let minus : (x == 45) ≡ false = ne_eqb _ _ (λ e. omega (arith, digit_from_value x h.1.0)) in
    rw minus refl

pub no_plus : (t : Text) → IsNumeral 10 t → without_leading_plus t ≡ t
no_plus [] h = refl
no_plus (x ∷ xs) h =
    let plus : (x == 43) ≡ false = ne_eqb _ _ (λ e. omega (arith, digit_from_value x h.1.0)) in
    ap (λ (b : Bool). drop (cond b 1 0) (x ∷ xs)) plus

no_sign : (t : Text) → IsNumeral 10 t → starts_with_minus t ≡ false
no_sign [] h = refl
no_sign (x ∷ xs) h = ne_eqb _ _ (λ e. omega (arith, digit_from_value x h.1.0))

without_sign : (t : Text) → IsNumeral 10 t → without_leading_sign t ≡ t
without_sign t h = ap (λ (b : Bool). cond b (drop 1 t) (without_leading_plus t)) (no_sign t h) ∙ no_plus t h

signed_value : (t : Text) → IsNumeral 10 t → signed_digits_value 10 t ≡ pos (digits_value 10 t)
signed_value t h =
    ap (λ (b : Bool). cond b (neg_ℤ (pos (digits_value 10 (without_leading_sign t)))) (pos (digits_value 10 (without_leading_sign t)))) (no_sign t h)
    ∙ ap (λ (ds : Text). pos (digits_value 10 ds)) (without_sign t h)

module _ (t : Text) (h : IsNumeral 10 t) (low high n : ℕ) (is : digits_value 10 t ≡ n) (above : low ≤ n) (below : n ≤ high) (small : n < 2 ^ 63) where
  in_order : (z : ℤ) → pos n ≡ z → (fits_i64 z && (int_le (pos low) z && int_le z (pos high))) ≡ true
  in_order z e = subst (λ (y : ℤ). (fits_i64 y && (int_le (pos low) y && int_le y (pos high))) ≡ true) e
      (rw (lt-ltb n (2 ^ 63) small, le-leb low n above, le-leb n high below) refl)

  pub accepted : accepts false (Signed (pos low) (pos high)) t ≡ true
  accepted = ap₂ (λ (a b : Bool). a && b) (ap is_numeral (without_sign t h) ∙ numeral_passes t h)
      (in_order (signed_digits_value 10 t) (sym (signed_value t h ∙ ap pos is)))

pub read : (t : Text) → IsNumeral 10 t → (n : ℕ) → digits_value 10 t ≡ n → n ≤ 4294967295 → number_of 32 (without_minus t) ≡ Some n
read t h n is most =
    let numeral : IsNumeral 10 (without_leading_plus t) = subst (IsNumeral 10) (sym (no_plus t h)) h in
    ap (number_of 32) (no_minus t h) ∙ number_given 32 t n numeral (ap (digits_value 10) (no_plus t h) ∙ is) (omega arith)

module _ (limit : ℕ) (limit_least : 1 ≤ limit) (limit_most : limit ≤ 100000000) where
  abbrev limit_numeral : IsNumeral 10 (decimal limit) × (digits_value 10 (decimal limit) ≡ limit)
  limit_numeral = decimal_is_IsNumeral limit (omega arith)

  limit_accepted : accepts false (Signed (pos 1) (pos 100000000)) (decimal limit) ≡ true
  limit_accepted = accepted (decimal limit) limit_numeral.0 1 100000000 limit limit_numeral.1 limit_least limit_most (omega arith)

  limit_read : number_of 32 (without_minus (decimal limit)) ≡ Some limit
  limit_read = read (decimal limit) limit_numeral.0 limit limit_numeral.1 (omega arith)

  pub given_workers : (workers : ℕ) → 1 ≤ workers → workers ≤ 4
      → command_of (codes "run" ∷ codes "--workers" ∷ decimal workers ∷ codes "--limit" ∷ decimal limit ∷ codes "--brief" ∷ []) ≡ Some (Run workers limit true)
  given_workers workers workers_least workers_most =
      let numeral = decimal_is_IsNumeral workers (omega arith) in
      given_words (decimal workers) (decimal limit) (plain_numeral (decimal workers) numeral.0) (plain_numeral (decimal limit) limit_numeral.0)
      of_run (accepted (decimal workers) numeral.0 1 4 workers numeral.1 workers_least workers_most (omega arith)) limit_accepted workers limit
      (read (decimal workers) numeral.0 workers numeral.1 (omega arith)) limit_read

  pub given_numbers : (seed : ℕ) → seed ≤ 4294967295
      → command_of (codes "step" ∷ codes "--seed" ∷ decimal seed ∷ codes "--limit" ∷ decimal limit ∷ codes "--brief" ∷ []) ≡ Some (Step seed limit true)
  given_numbers seed seed_most =
      let numeral = decimal_is_IsNumeral seed (omega arith) in
      given_words (decimal seed) (decimal limit) (plain_numeral (decimal seed) numeral.0) (plain_numeral (decimal limit) limit_numeral.0)
      of_step (accepted (decimal seed) numeral.0 0 4294967295 seed numeral.1 (omega arith) seed_most (omega arith)) limit_accepted seed limit
      (read (decimal seed) numeral.0 seed numeral.1 seed_most) limit_read
