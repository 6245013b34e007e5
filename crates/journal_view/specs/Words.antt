-- Which picture the words of the command line ask for, by clap's own reading of the command as data. (own choice)
use Rattle.std.specs.Prelude.{Bool, true, false, List, Option, Some, None, if◌then◌else◌, codes}
use Rattle.std.specs.Option.{option_map_or}
use Rattle.std.specs.Str.{bytes_eq}
use Rattle.clap.specs.Walk.{is_empty}
use Rattle.clap.specs.Simple.{on_top}
use Rattle.clap.specs.Words.{App, Row, Rule, Shape, Text, fault_of, first_of, matches_of, new_app, new_rule, with_rule}
use Rattle.clap.specs.declared.builder.action.ArgAction.TheVariants.{SetTrue}
use Rattle.journal_view.specs.declared.words.Picture.{Picture}
use Rattle.journal_view.specs.declared.words.Picture.TheVariants.{Sequence, Trace}

-- `--sequence`: a flag
abbrev pub sequence_rule : Rule
sequence_rule = record (new_rule (codes "sequence")) {
  long = Some (codes "sequence");
  action = Some SetTrue;
}

-- `--trace`: a flag
abbrev pub trace_rule : Rule
trace_rule = record (new_rule (codes "trace")) {
  long = Some (codes "trace");
  action = Some SetTrue;
}

-- the settings of the program: the words begin after its name, and none of them asks for help or the version
abbrev pub with_settings : Shape → Shape
with_settings shape = record shape {
  no_binary_name = true;
  disable_help_flag = true;
  disable_version_flag = true;
}

-- the program without its flags
abbrev pub program_app : App
program_app = on_top with_settings (new_app (codes "journal_view"))

-- the program
abbrev pub the_app : App
the_app = with_rule (with_rule program_app sequence_rule) trace_rule

-- a flag was given
abbrev pub flag_at : Text → List Row → Bool
flag_at id rows = option_map_or (λ text. bytes_eq text (codes "true")) (first_of id rows) false

-- which picture the flags ask for: exactly one of them
abbrev pub picture_by : Bool → Bool → Option Picture
picture_by true false = Some Sequence
picture_by false true = Some Trace
picture_by both neither = None

-- the picture for which the flags ask
abbrev pub picture_in : List Row → Option Picture
picture_in rows = picture_by (flag_at (codes "sequence") rows) (flag_at (codes "trace") rows)

-- which picture the words after the program's name ask for, and none where clap refuses them
unfoldable pub picture_of : List Text → Option Picture
picture_of words = if is_empty (fault_of the_app words) then picture_in (matches_of the_app words) else None
