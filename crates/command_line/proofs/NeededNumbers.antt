-- Each option of `why` and `bench`, all of which are needed, holds a number in its range where clap has taken the words.
use Rattle.std.proofs.Common.{◌≡◌, ◌∙◌, ◌<◌, ◌≤◌, ◌^◌, ◌&&◌, ◌||◌, ℕ, Bool, true, false, refl, sym, ap, subst, arith, List, [], ◌∷◌, length, Some, true≢false, codes, nat_lt}
use Rattle.std.specs.Prelude.{not, find, fold, nat_le, if◌then◌else◌}
use Rattle.std.specs.Str.{bytes_eq}
use Rattle.std.specs.Str.Parse.{digits_value, without_leading_plus}
use Rattle.std.proofs.lemmas.Bool.{leb-true}
use Rattle.std.specs.List.{AllByRecursion, list_any}
use Rattle.std.specs.Option.{option_map_or}
use Rattle.std.proofs.lemmas.Slice.Eq.{bytes_eq-Decides}
use Rattle.clap.specs.declared.error.kind.ErrorKind.TheVariants.{MissingRequiredArgument}
use Rattle.clap.specs.Facts.{explicit_source}
use Rattle.clap.specs.ValueTests.{accepts, is_numeral}
use Rattle.clap.specs.Kinds.{Kinds, or_else, range_kinds}
use Rattle.clap.specs.Faults.{check_fault, defaults_fault, set_fault, settle_fault, walk_fault}
use Rattle.clap.specs.Takes.{is_given}
use Rattle.clap.specs.Walk.{Held, Row, Rule, Text, default_rows, finished, has_row, nothing_held, reading_by, rows_after, settled, walk, walk_from, with_default}
use Rattle.clap.specs.Simple.{Shape, filled, with_index}
use Rattle.clap.specs.declared.builder.value_parser.ValueParser.TheVariants.{Unsigned}
use Rattle.clap.proofs.WalkLemmas.{both}
use Rattle.command_line.proofs.AcceptedNumbers.{HasLongNamesAlone, Holds, IsOption, IsTaken, Keeps, all_keep, bench_shape, cons≢nil, either_false, first_accepted, found, none_second, number_built, other_number_keeps, own_keeps, set_keeps, settled_rows_keep, why_shape}
use Rattle.command_line.specs.Words.{number_of, place_rule}

-- ---- options without a default

no_default : (b : Rule) (rows : List Row) → b.defaults ≡ [] → with_default rows b ≡ rows
no_default b rows none = go (has_row b.id rows)
  where
    go : (t : Bool) → (if t then rows else default_rows b.id (reading_by b) b.defaults rows) ≡ rows
    go true = refl
    go false = ap (λ (values : List Text). default_rows b.id (reading_by b) values rows) none

no_defaults : (rs : List Rule) (rows : List Row) → AllByRecursion (λ b. b.defaults ≡ []) rs → fold with_default rows rs ≡ rows
no_defaults [] rows none = refl
no_defaults (b ∷ rs) rows none = ap (λ (now : List Row). fold with_default now rs) (no_default b rows none.0) ∙ no_defaults rs rows none.1

-- ---- options that are needed

-- an option that was given has a row
given_row : (id : Text) (rows : List Row) → is_given id rows ≡ true → has_row id rows ≡ true
given_row id [] e = absurd (true≢false (sym e))
given_row id (r ∷ rs) e = go (bytes_eq r.id id) e (given_row id rs)
  where
    go : (b : Bool) → option_map_or (λ x. explicit_source x.source) (if b then Some r else find (λ x. bytes_eq x.id id) rs) false ≡ true
        → (is_given id rs ≡ true → has_row id rs ≡ true) → (b || has_row id rs) ≡ true
    go true f more = refl
    go false f more = more f

given_here : (needed given : Bool) → needed ≡ true → (needed && not given) ≡ false → given ≡ true
given_here needed true is e = refl
given_here true false is e = absurd (true≢false e)
given_here false false is e = absurd (true≢false (sym is))

-- where none that is needed is missing, each was given
given_of : (id : Text) (rows : List Row) (rs : List Rule) → AllByRecursion (λ b. b.required ≡ true) rs
    → list_any (λ b. b.required && not (is_given b.id rows)) rs ≡ false → list_any (λ b. bytes_eq b.id id) rs ≡ true → is_given id rows ≡ true
given_of id rows [] needed e has = absurd (true≢false (sym has))
given_of id rows (b ∷ rs) needed e has = go (bytes_eq b.id id) refl has (given_of id rows rs needed.1 parts.1)
  where
    parts : ((b.required && not (is_given b.id rows)) ≡ false) × (list_any (λ b. b.required && not (is_given b.id rows)) rs ≡ false)
    parts = either_false (b.required && not (is_given b.id rows)) _ e

    go : (t : Bool) → bytes_eq b.id id ≡ t → (t || list_any (λ b. bytes_eq b.id id) rs) ≡ true
        → (list_any (λ b. bytes_eq b.id id) rs ≡ true → is_given id rows ≡ true) → is_given id rows ≡ true
    go true same f more =
        subst (λ (t : Text). is_given t rows ≡ true) ((bytes_eq-Decides b.id id).0 same) (given_here b.required (is_given b.id rows) needed.0 parts.0)
    go false same f more = more f

-- a shape whose level checks nothing but its options
record ChecksOptionsAlone (s : Shape) : Type 0 where
  help : s.arg_required_else_help ≡ false
  subcommand : s.subcommand_required ≡ false
  negates : s.subcommand_negates_reqs ≡ false

none_missing : (s : Shape) (rows : List Row) → ChecksOptionsAlone s → check_fault s rows false ≡ []
    → list_any (λ b. b.required && not (is_given b.id rows)) s.rules ≡ false
none_missing s rows alone e = go (list_any (λ b. b.required && not (is_given b.id rows)) s.rules) refl (rw (alone.help, alone.subcommand, alone.negates) at e)
  where
    go : (t : Bool) → list_any (λ b. b.required && not (is_given b.id rows)) s.rules ≡ t → (if t then MissingRequiredArgument ∷ [] else []) ≡ []
        → list_any (λ b. b.required && not (is_given b.id rows)) s.rules ≡ false
    go true is f = absurd (cons≢nil f)
    go false is f = is

-- an argument that is needed, has no default, and whose uses keep what holds of each row
record IsNeeded (P : Row → Type 0) (again : Bool) (b : Rule) : Type 0 where
  keeps : Keeps P again b
  bare : b.defaults ≡ []
  needed : b.required ≡ true

module _ (P : Row → Type 0) (again : Bool) where
  uses_keep : (rs : List Rule) → AllByRecursion (IsNeeded P again) rs → AllByRecursion (Keeps P again) rs
  uses_keep [] all = tt
  uses_keep (b ∷ rs) all = (all.0.keeps, uses_keep rs all.1)

  all_bare : (rs : List Rule) → AllByRecursion (IsNeeded P again) rs → AllByRecursion (λ b. b.defaults ≡ []) rs
  all_bare [] all = tt
  all_bare (b ∷ rs) all = (all.0.bare, all_bare rs all.1)

  all_needed : (rs : List Rule) → AllByRecursion (IsNeeded P again) rs → AllByRecursion (λ b. b.required ≡ true) rs
  all_needed [] all = tt
  all_needed (b ∷ rs) all = (all.0.needed, all_needed rs all.1)

module _ (bits : ℕ) (id : Text) (low high : ℕ) where
  needed_accepted : (s : Shape) → HasLongNamesAlone s → ChecksOptionsAlone s → AllByRecursion (IsNeeded (Holds bits id low high) s.args_override_self) s.rules
      → list_any (λ b. bytes_eq b.id id) s.rules ≡ true → IsTaken id low high bits s
  needed_accepted s named alone all has words e =
      let end : Held = (walk s.rules [] nothing_held words).held in
      let rows : List Row = (settled s.rules end).rows in
      let checks : Kinds = check_fault s (finished s.rules end) false in
      let defaults : Kinds = defaults_fault rows s.rules in
      let settles : Kinds = settle_fault s.rules s.args_override_self end in
      let walks : Kinds = walk_fault s [] (walk_from nothing_held) words in
      let checked : checks ≡ []
      = none_second defaults checks (none_second settles (or_else defaults checks) (none_second walks (or_else settles (or_else defaults checks)) e)) in
      let same : finished s.rules end ≡ rows = no_defaults s.rules rows (all_bare (Holds bits id low high) s.args_override_self s.rules all) in
      let given = given_of id (finished s.rules end) s.rules (all_needed (Holds bits id low high) s.args_override_self s.rules all)
      (none_missing s (finished s.rules end) alone checked) has in
      let keep = all_keep (Holds bits id low high) s.args_override_self s.rules (uses_keep (Holds bits id low high) s.args_override_self s.rules all) in
      let good = settled_rows_keep s named (Holds bits id low high) keep words e in
      found bits id low high (rows_after s.rules [] words) (given_row id (finished s.rules end) given)
      (subst (AllByRecursion (Holds bits id low high)) (sym same) good)

module _ (id : Text) (low high : ℕ) where
  own_needed : high < 2 ^ 32 → IsNeeded (IsOption id low high) false (number_built id [] true low high)
  own_needed small = record { keeps = own_keeps id low high [] true small; bare = refl; needed = refl }

  other_needed : (name : Text) (least most : ℕ) → bytes_eq name id ≡ false → IsNeeded (IsOption id low high) false (number_built name [] true least most)
  other_needed name least most other = record {
    keeps = other_number_keeps id low high name [] true least most other;
    bare = refl;
    needed = refl;
  }

-- ---- the place of `why`

why_names : HasLongNamesAlone why_shape
why_names = record { shorts = λ x. refl; positionals = λ i. refl }

why_checks : ChecksOptionsAlone why_shape
why_checks = record { help = refl; subcommand = refl; negates = refl }

abbrev place_built : Rule
place_built = with_index 1 (filled place_rule)

-- a number of 64 bits, which is read as it is written
place_accepted : (t : Text) → accepts false (Unsigned 0 18446744073709551615) t ≡ true
    → (n : ℕ) × (number_of 64 t ≡ Some n) × (0 ≤ n) × (n ≤ 18446744073709551615)
place_accepted t e =
    let digits : Text = without_leading_plus t in
    let parts = both (is_numeral digits) _ e in
    let bounds = both (nat_lt (digits_value 10 digits) (2 ^ 64)) _ parts.1 in
    let within = both (nat_le 0 (digits_value 10 digits)) _ bounds.1 in
    (digits_value 10 digits, rw (parts.0, bounds.0) refl, omega arith, leb-true _ _ within.1)

place_keeps : Keeps (Holds 64 (codes "place") 0 18446744073709551615) false place_built
place_keeps [] rows e all = absurd (cons≢nil e)
place_keeps (v ∷ vs) rows e all =
    set_keeps (Holds 64 (codes "place") 0 18446744073709551615) place_built (v ∷ vs) rows
    (none_second (range_kinds 1 1 (length (v ∷ vs))) (set_fault false place_built (v ∷ vs) rows) e)
    (λ f same. place_accepted v (first_accepted (Unsigned 0 18446744073709551615) v vs f)) all

pub place_of_why : IsTaken (codes "place") 0 18446744073709551615 64 why_shape
place_of_why =
    needed_accepted 64 (codes "place") 0 18446744073709551615 why_shape why_names why_checks
    (record { keeps = place_keeps; bare = refl; needed = refl }, tt) refl

-- ---- the numbers of `bench`

bench_names : HasLongNamesAlone bench_shape
bench_names = record { shorts = λ x. refl; positionals = λ i. refl }

bench_checks : ChecksOptionsAlone bench_shape
bench_checks = record { help = refl; subcommand = refl; negates = refl }

pub seed_of_bench : IsTaken (codes "seed") 0 4294967295 32 bench_shape
seed_of_bench =
    needed_accepted 32 (codes "seed") 0 4294967295 bench_shape bench_names bench_checks (
      own_needed (codes "seed") 0 4294967295 (omega arith),
      (other_needed (codes "seed") 0 4294967295 (codes "ranks") 1 16 refl, (other_needed (codes "seed") 0 4294967295 (codes "rounds") 1 5000 refl, tt)),
    ) refl

pub ranks_of_bench : IsTaken (codes "ranks") 1 16 32 bench_shape
ranks_of_bench =
    needed_accepted 32 (codes "ranks") 1 16 bench_shape bench_names bench_checks (
      other_needed (codes "ranks") 1 16 (codes "seed") 0 4294967295 refl,
      (own_needed (codes "ranks") 1 16 (omega arith), (other_needed (codes "ranks") 1 16 (codes "rounds") 1 5000 refl, tt)),
    ) refl

pub rounds_of_bench : IsTaken (codes "rounds") 1 5000 32 bench_shape
rounds_of_bench =
    needed_accepted 32 (codes "rounds") 1 5000 bench_shape bench_names bench_checks (
      other_needed (codes "rounds") 1 5000 (codes "seed") 0 4294967295 refl,
      (other_needed (codes "rounds") 1 5000 (codes "ranks") 1 16 refl, (own_needed (codes "rounds") 1 5000 (omega arith), tt)),
    ) refl
