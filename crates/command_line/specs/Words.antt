-- What the words of the command line ask for, by clap's own reading of the command as data. (own choice)
use Rattle.std.specs.Prelude.{◌^◌, ℕ, pos, Bool, true, false, List, [], ◌∷◌, Option, Some, None, if◌then◌else◌, ◌&&◌, nat_lt, option_map, option_and_then, codes}
use Rattle.std.specs.Option.{option_map_or}
use Rattle.std.specs.Str.{bytes_eq}
use Rattle.std.specs.Str.Parse.{digits_value, without_leading_plus}
use Rattle.clap.specs.ValueTests.{is_numeral}
use Rattle.clap.specs.Walk.{is_empty}
use Rattle.clap.specs.Simple.{on_top}
use Rattle.clap.specs.Words.{App, Row, Rule, Shape, Text, fault_of, first_of, new_app, new_rule, one_of, subcommand_of, with_rule, with_subcommand}
use Rattle.clap.specs.declared.builder.action.ArgAction.TheVariants.{Set, SetTrue}
use Rattle.clap.specs.declared.builder.value_parser.ValueParser.TheVariants.{Signed, Unsigned}
use Rattle.command_line.specs.declared.words.Command.{Command}
use Rattle.command_line.specs.declared.words.Command.TheVariants.{Run, Step, Check, Why, Bench}

-- ---- the command as data

-- `--workers N`: a number from 1 to 4, and 1 where it is not given
abbrev pub workers_rule : Rule
workers_rule = record (new_rule (codes "workers")) {
  long = Some (codes "workers");
  action = Some Set;
  parser = Some (Signed (pos 1) (pos 4));
  defaults = codes "1" ∷ [];
}

-- `--seed N`: a number from 0 to 4294967295, and 0 where it is not given
abbrev pub seed_rule : Rule
seed_rule = record (new_rule (codes "seed")) {
  long = Some (codes "seed");
  action = Some Set;
  parser = Some (Signed (pos 0) (pos 4294967295));
  defaults = codes "0" ∷ [];
}

-- `--limit N`: a number from 1 to 100000000, and 1000000 where it is not given
abbrev pub limit_rule : Rule
limit_rule = record (new_rule (codes "limit")) {
  long = Some (codes "limit");
  action = Some Set;
  parser = Some (Signed (pos 1) (pos 100000000));
  defaults = codes "1000000" ∷ [];
}

-- `--brief`: a flag
abbrev pub brief_rule : Rule
brief_rule = record (new_rule (codes "brief")) {
  long = Some (codes "brief");
  action = Some SetTrue;
}

-- `--place K`: a number from 0 to 18446744073709551615, which is needed
abbrev pub place_rule : Rule
place_rule = record (new_rule (codes "place")) {
  long = Some (codes "place");
  action = Some Set;
  parser = Some (Unsigned 0 18446744073709551615);
  required = true;
}

-- `--seed N` where it is needed: a number from 0 to 4294967295
abbrev pub needed_seed_rule : Rule
needed_seed_rule = record (new_rule (codes "seed")) {
  long = Some (codes "seed");
  action = Some Set;
  parser = Some (Signed (pos 0) (pos 4294967295));
  required = true;
}

-- `--ranks R`: a number from 1 to 16, which is needed
abbrev pub ranks_rule : Rule
ranks_rule = record (new_rule (codes "ranks")) {
  long = Some (codes "ranks");
  action = Some Set;
  parser = Some (Signed (pos 1) (pos 16));
  required = true;
}

-- `--rounds M`: a number from 1 to 5000, which is needed
abbrev pub rounds_rule : Rule
rounds_rule = record (new_rule (codes "rounds")) {
  long = Some (codes "rounds");
  action = Some Set;
  parser = Some (Signed (pos 1) (pos 5000));
  required = true;
}

-- `run [--workers N] [--limit N] [--brief]`
abbrev pub run_app : App
run_app = with_rule (with_rule (with_rule (new_app (codes "run")) workers_rule) limit_rule) brief_rule

-- `step [--seed N] [--limit N] [--brief]`
abbrev pub step_app : App
step_app = with_rule (with_rule (with_rule (new_app (codes "step")) seed_rule) limit_rule) brief_rule

-- `check`
abbrev pub check_app : App
check_app = new_app (codes "check")

-- `why --place K`
abbrev pub why_app : App
why_app = with_rule (new_app (codes "why")) place_rule

-- `bench --seed N --ranks R --rounds M`
abbrev pub bench_app : App
bench_app = with_rule (with_rule (with_rule (new_app (codes "bench")) needed_seed_rule) ranks_rule) rounds_rule

-- the settings of the program: the words begin after its name, none of them asks for help or the version, and one of them
-- is a subcommand
abbrev pub with_settings : Shape → Shape
with_settings shape = record shape {
  no_binary_name = true;
  disable_help_flag = true;
  disable_version_flag = true;
  disable_help_subcommand = true;
  subcommand_required = true;
}

-- the program without its subcommands
abbrev pub program_app : App
program_app = on_top with_settings (new_app (codes "gaspirun"))

-- with the subcommands that run a world text
abbrev pub running_app : App
running_app = with_subcommand (with_subcommand program_app run_app.top) step_app.top

-- and with those that read a journal
abbrev pub judging_app : App
judging_app = with_subcommand (with_subcommand running_app check_app.top) why_app.top

-- the program
abbrev pub the_app : App
the_app = with_subcommand judging_app bench_app.top

-- ---- what is read of the matches

-- the number of `bits` bits that a text spells
abbrev pub number_of : ℕ → Text → Option ℕ
number_of bits text =
    let digits = without_leading_plus text in
    if is_numeral digits && nat_lt (digits_value 10 digits) (2 ^ bits) then Some (digits_value 10 digits) else None

-- the number of `bits` bits that an option has
abbrev pub number_at : ℕ → Text → List Row → Option ℕ
number_at bits id rows = option_and_then (number_of bits) (one_of id rows)

-- a flag was given
abbrev pub flag_at : Text → List Row → Bool
flag_at id rows = option_map_or (λ text. bytes_eq text (codes "true")) (first_of id rows) false

-- what the words after `run` ask for
abbrev pub run_of : List Row → Option Command
run_of rows = option_and_then (λ workers. option_map (λ limit. Run workers limit (flag_at (codes "brief") rows))
    (number_at 32 (codes "limit") rows)) (number_at 32 (codes "workers") rows)

-- what the words after `step` ask for
abbrev pub step_of : List Row → Option Command
step_of rows = option_and_then (λ seed. option_map (λ limit. Step seed limit (flag_at (codes "brief") rows))
    (number_at 32 (codes "limit") rows)) (number_at 32 (codes "seed") rows)

-- what the words after `why` ask for
abbrev pub why_of : List Row → Option Command
why_of rows = option_map (λ place. Why place) (number_at 64 (codes "place") rows)

-- what the words after `bench` ask for
abbrev pub bench_of : List Row → Option Command
bench_of rows = option_and_then (λ seed. option_and_then (λ ranks. option_map (λ rounds. Bench seed ranks rounds)
    (number_at 32 (codes "rounds") rows)) (number_at 32 (codes "ranks") rows)) (number_at 32 (codes "seed") rows)

-- what the subcommand of a parse and its matches ask for
abbrev pub words_in : Option (Text × List Row) → Option Command
words_in None = None
words_in (Some entered) = if bytes_eq entered.0 (codes "run") then run_of entered.1
    else (if bytes_eq entered.0 (codes "step") then step_of entered.1
    else (if bytes_eq entered.0 (codes "check") then Some Check
    else (if bytes_eq entered.0 (codes "why") then why_of entered.1
    else (if bytes_eq entered.0 (codes "bench") then bench_of entered.1 else None))))

-- ---- the words

-- what the words after the program's name ask for, and none where clap refuses them
unfoldable pub command_of : List Text → Option Command
command_of words = if is_empty (fault_of the_app words) then words_in (subcommand_of the_app words) else None
