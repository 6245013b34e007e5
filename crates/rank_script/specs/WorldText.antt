-- World texts: the shape and the scripts that a text gives, or its first fault. (own choice)
use Rattle.std.specs.Prelude.{◌≡◌, map, ℕ, ◌+◌, ◌-◌, Bool, true, false, ◌==◌, ◌&&◌, ◌||◌, not, nat_lt, List, [], ◌∷◌, ◌++◌, length, Option, None, Some, Result, Ok, Err, if◌then◌else◌, codes, is_none, is_some, take, option_and_then}
use Rattle.std.specs.Str.{bytes_eq}
use Rattle.std.specs.Option.{option_map, option_map_or}
use Rattle.gaspi_types.specs.Ranges.{is_between}
use Rattle.call_texts.specs.Words.{words_of}
use Rattle.call_texts.specs.Lines.{fed_lines, plain_line, lines_of}
use Rattle.call_texts.specs.Numbers.{number_of}
use Rattle.call_texts.specs.CallText.{call_word_of, given_count, has_timeout, call_by}
use Rattle.call_texts.specs.declared.call_words.CallWord.{CallWord}
use Rattle.call_texts.specs.Steps.{◌>>=◌}
use Rattle.gaspi_texts.specs.ReplyText.{reply_of}
use Rattle.gaspi_types.specs.World.{ShapeValue, shape_of, segment_added, caller_added, is_caller}
use Rattle.gaspi_types.specs.declared.shapes.Limits.{Limits}
use Rattle.gaspi_types.specs.declared.shapes.CallerId.{CallerId}
use Rattle.gaspi_types.specs.declared.shapes.ShapeFault.{ShapeFault}
use Rattle.gaspi_types.specs.declared.shapes.ShapeFault.TheVariants as shape_faults
use Rattle.gaspi_types.specs.declared.calls.Call.{Call}
use Rattle.gaspi_types.specs.declared.replies.Reply.{Reply}
use Rattle.gaspi_types.specs.declared.calls.Timeout.{Timeout}
use Rattle.gaspi_types.specs.declared.calls.Timeout.TheVariants.{Looks, Block}
use Rattle.rank_script.specs.Lines.{is_bad_line, input_limit}
use Rattle.rank_script.specs.declared.scripts.ScriptLine.{ScriptLine}
use Rattle.rank_script.specs.declared.scripts.Script.{Script}
use Rattle.rank_script.specs.declared.scripts.ScriptFault.{ScriptFault}
use Rattle.rank_script.specs.declared.scripts.ScriptFault.TheVariants as faults

-- What the lines so far have said: the world, where its line has come, and the sections, the newest last.
pub record WorldReading : Type 0 where
  pub world : Option ShapeValue
  pub scripts : List Script

-- what no line has said
abbrev pub empty_reading : WorldReading
empty_reading = record { world = None; scripts = [] }

-- The words of a line.

-- the first word of a line; one without bytes where there is none
abbrev pub first_word : List (List ℕ) → List ℕ
first_word [] = []
first_word (word ∷ words) = word

abbrev pub is_world_word : List ℕ → Bool
is_world_word word = bytes_eq (codes "world") word

abbrev pub is_segment_word : List ℕ → Bool
is_segment_word word = bytes_eq (codes "segment") word

abbrev pub is_rank_word : List ℕ → Bool
is_rank_word word = bytes_eq (codes "rank") word

abbrev pub is_thread_word : List ℕ → Bool
is_thread_word word = bytes_eq (codes "thread") word

abbrev pub is_again_word : List ℕ → Bool
is_again_word word = bytes_eq (codes "again") word

-- the word is `=`
abbrev pub is_equals_word : List ℕ → Bool
is_equals_word word = bytes_eq (codes "=") word

-- the words are those of a comment: the first begins with #
abbrev pub is_comment : List (List ℕ) → Bool
is_comment [] = false
is_comment (word ∷ words) = begins_hash word
  where
    begins_hash : List ℕ → Bool
    begins_hash [] = false
    begins_hash (byte ∷ bytes) = byte == 35

-- The parts of a line.

-- The call of a line: the word after `again`, none without it; the call's word; its fields, and its timeout where it takes one, up to
-- the first `=`; and the words after that, where there is one.
pub record LineCall : Type 0 where
  pub tries : Option (List ℕ)
  pub word : CallWord
  pub given : List (List ℕ)
  pub expected : Option (List (List ℕ))

-- A line by its kind: a declaration with the words after its first, a call, `again` with at most one word after it, so without its
-- call, or none of these.
pub data Line : Type 0 where
  WorldLine : (words : List (List ℕ)) → Line
  SegmentLine : (words : List (List ℕ)) → Line
  SectionLine : (words : List (List ℕ)) → Line
  CallLine : (call : LineCall) → Line
  LoneAgain : Line
  UnknownLine : Line

-- the words before the first `=`
abbrev pub before_equals : List (List ℕ) → List (List ℕ)
before_equals [] = []
before_equals (word ∷ words) = if is_equals_word word then [] else word ∷ before_equals words

-- the words after the first `=`, where there is one
abbrev pub after_equals : List (List ℕ) → Option (List (List ℕ))
after_equals [] = None
after_equals (word ∷ words) = if is_equals_word word then Some words else after_equals words

-- the line of a call with that word, where it is one's, and with the words after it
abbrev pub call_line : Option (List ℕ) → Option CallWord → List (List ℕ) → Line
call_line tries None words = UnknownLine
call_line tries (Some word) words =
    CallLine (record { tries = tries; word = word; given = before_equals words; expected = after_equals words })

-- the line of `again` and the words after it
abbrev pub again_line : List (List ℕ) → Line
again_line [] = LoneAgain
again_line (tries ∷ []) = LoneAgain
again_line (tries ∷ word ∷ words) = call_line (Some tries) (call_word_of word) words

-- the line that has these words
abbrev pub line_fields : List (List ℕ) → Line
line_fields [] = UnknownLine
line_fields (word ∷ words) =
    if is_world_word word then WorldLine words
    else (if is_segment_word word then SegmentLine words
    else (if is_rank_word word then SectionLine words
    else (if is_again_word word then again_line words else call_line None (call_word_of word) words)))

-- Timeouts.

-- a timeout as a word: one look, looks without end, or a number of looks
abbrev pub timeout_of : List ℕ → Option (Option ℕ)
timeout_of word =
    if bytes_eq (codes "test") word then Some (Some 1)
    else (if bytes_eq (codes "block") word then Some None else option_and_then (λ n. Some (Some n)) (number_of word))

-- a number of looks is within its limits; none is looks without end
abbrev pub is_timeout_within : Option ℕ → Bool
is_timeout_within None = true
is_timeout_within (Some looks) = is_between 1 100000000 looks

-- the timeout of this number of looks
abbrev pub as_timeout : Option ℕ → Timeout
as_timeout None = Block
as_timeout (Some looks) = Looks looks

-- Calls.

-- the last of the words, which is the timeout of a call that takes one
abbrev pub last_word : List (List ℕ) → List ℕ
last_word [] = []
last_word (word ∷ []) = word
last_word (word ∷ next ∷ words) = last_word (next ∷ words)

-- how often a line's call is made at most
abbrev pub line_tries : LineCall → Option ℕ
line_tries call = option_map_or number_of call.tries (Some 1)

-- a number of tries is within its limits
abbrev pub are_tries_within : ℕ → Bool
are_tries_within tries = is_between 1 1000000 tries

-- the fields of a line's call: the words given, but the last of a call that takes a timeout
abbrev pub line_arguments : LineCall → List (List ℕ)
line_arguments call = if has_timeout call.word then take (length call.given - 1) call.given else call.given

-- the call that a line's words spell, its timeout aside
abbrev pub line_call : LineCall → Option Call
line_call call = call_by call.word (line_arguments call)

-- what a line's timeout is; a call that takes none makes one look
abbrev pub line_timeout : LineCall → Option (Option ℕ)
line_timeout call = if has_timeout call.word then timeout_of (last_word call.given) else Some (Some 1)

-- what a line expects: nothing, or a reply; none where the words after `=` spell no reply
abbrev pub line_expected : LineCall → Option (Option Reply)
line_expected call = option_map_or (λ reply. option_map Some (reply_of reply)) call.expected (Some None)

-- Declarations.

-- each of these words is a number
abbrev pub all_numbers : List (List ℕ) → Bool
all_numbers [] = true
all_numbers (word ∷ words) = is_some (number_of word) && all_numbers words

-- the number that the word with this index is; 0 where there is none
abbrev pub number_at : List (List ℕ) → ℕ → ℕ
number_at words place = value_or (number_in words place)
  where
    value_or : Option ℕ → ℕ
    value_or None = 0
    value_or (Some n) = n

    number_in : List (List ℕ) → ℕ → Option ℕ
    number_in words place = option_and_then number_of (Rattle.std.specs.List.slice_get words place)

-- the limits that the six words after `world` give
abbrev pub limits_of : List (List ℕ) → Limits
limits_of words = record {
  ranks = number_at words 0;
  queues = number_at words 1;
  depth = number_at words 2;
  notes = number_at words 3;
  inbox = number_at words 4;
  events = number_at words 5;
}

-- the words after `rank` are a number, the word `thread` and a number
abbrev pub is_section_line : List (List ℕ) → Bool
is_section_line (rank ∷ thread ∷ number ∷ words) = is_some (number_of rank) && (is_thread_word thread && is_some (number_of number))
is_section_line _ = false

-- the caller that the words after `rank` give
abbrev pub section_caller : List (List ℕ) → CallerId
section_caller words = record { rank = number_at words 0; thread = number_at words 2 }

-- the shape with the segment that the words after `segment` declare, or the fault of that
abbrev pub segment_declared : ShapeValue → List (List ℕ) → Result ShapeValue ShapeFault
segment_declared w words = segment_added w (number_at words 0) (number_at words 1) (number_at words 2)

-- the shape with the caller that the words after `rank` declare, or the fault of that
abbrev pub caller_declared : ShapeValue → List (List ℕ) → Result ShapeValue ShapeFault
caller_declared w words = caller_added w (number_at words 0) (number_at words 2)

-- what the declaration of a line gives: that of the world itself, or that of a segment or of a section in it
abbrev pub declared : Option ShapeValue → Line → Option (Result ShapeValue ShapeFault)
declared world (WorldLine words) = Some (shape_of (limits_of words))
declared world (SegmentLine words) = option_map (λ w. segment_declared w words) world
declared world (SectionLine words) = option_map (λ w. caller_declared w words) world
declared world (CallLine call) = None
declared world LoneAgain = None
declared world UnknownLine = None

abbrev pub is_limit_fault : Option (Result ShapeValue ShapeFault) → Bool
is_limit_fault (Some (Err shape_faults.Limit)) = true
is_limit_fault _ = false

abbrev pub is_twice_fault : Option (Result ShapeValue ShapeFault) → Bool
is_twice_fault (Some (Err shape_faults.Twice)) = true
is_twice_fault _ = false

abbrev pub is_threads_fault : Option (Result ShapeValue ShapeFault) → Bool
is_threads_fault (Some (Err shape_faults.Threads)) = true
is_threads_fault _ = false

-- The faults of a line with words that is no comment. Each is a test of its own on the line's parts and on what the lines
-- before it said.

-- a line is a world line
abbrev pub is_world_line : Line → Bool
is_world_line (WorldLine words) = true
is_world_line _ = false

-- S1: the first line with words does not begin with `world`
abbrev pub lacks_world : WorldReading → Line → Bool
lacks_world said line = is_none said.world && not (is_world_line line)

-- S3: the first word is no word of a line or call; or the word after `again` and one word more is that of no call
abbrev pub is_unknown : Line → Bool
is_unknown UnknownLine = true
is_unknown _ = false

-- S4: a second world line, a segment line after a section, or a call before any section
abbrev pub is_misplaced : WorldReading → Line → Bool
is_misplaced said (WorldLine words) = is_some said.world
is_misplaced said (SegmentLine words) = not (length said.scripts == 0)
is_misplaced said (SectionLine words) = false
is_misplaced said (CallLine call) = length said.scripts == 0
is_misplaced said LoneAgain = length said.scripts == 0
is_misplaced said UnknownLine = false

-- The number of a call's fields is wrong, with its timeout, or nothing comes after `=`. Where the count of a list is no number, the
-- fields are not counted.
abbrev pub is_miscounted_call : LineCall → Bool
is_miscounted_call call =
    option_map_or (λ count. not (length call.given == count)) (given_count call.word call.given) false
    || option_map_or (λ reply. length reply == 0) call.expected false

-- S5: the number of words is wrong for the line
abbrev pub is_miscounted : Line → Bool
is_miscounted (WorldLine words) = not (length words == 6)
is_miscounted (SegmentLine words) = not (length words == 3)
is_miscounted (SectionLine words) = not (length words == 3)
is_miscounted (CallLine call) = is_miscounted_call call
is_miscounted LoneAgain = true
is_miscounted UnknownLine = false

-- a word of a call line is not what it must be
abbrev pub is_malformed_call : LineCall → Bool
is_malformed_call call =
    is_none (line_tries call) || (is_none (line_call call) || (is_none (line_timeout call) || is_none (line_expected call)))

-- S6: a word is not of its form
abbrev pub is_malformed : Line → Bool
is_malformed (WorldLine words) = not (all_numbers words)
is_malformed (SegmentLine words) = not (all_numbers words)
is_malformed (SectionLine words) = not (is_section_line words)
is_malformed (CallLine call) = is_malformed_call call
is_malformed LoneAgain = false
is_malformed UnknownLine = false

-- the tries or the timeout of a call line are outside their limits
abbrev pub is_outside_call : LineCall → Bool
is_outside_call call =
    not (option_map_or are_tries_within (line_tries call) false && option_map_or is_timeout_within (line_timeout call) false)

-- S7: a number of a world, segment or rank line, of `again` or of a timeout is outside its limits
abbrev pub is_outside : WorldReading → Line → Bool
is_outside said (CallLine call) = is_outside_call call
is_outside said line = is_limit_fault (declared said.world line)

-- S8: a segment or a caller is declared twice
abbrev pub is_repeated : WorldReading → Line → Bool
is_repeated said line = is_twice_fault (declared said.world line)

-- S9: the section gives its rank more threads than events
abbrev pub is_crowded : WorldReading → Line → Bool
is_crowded said line = is_threads_fault (declared said.world line)

-- of the faults of a line with these parts, the one with the smallest number
abbrev pub fault_in : WorldReading → List ℕ → Line → Option ℕ
fault_in said bytes line =
    if lacks_world said line then Some 1
    else (if is_bad_line bytes then Some 2
    else (if is_unknown line then Some 3
    else (if is_misplaced said line then Some 4
    else (if is_miscounted line then Some 5
    else (if is_malformed line then Some 6
    else (if is_outside said line then Some 7
    else (if is_repeated said line then Some 8
    else (if is_crowded said line then Some 9 else None))))))))

-- the fault of any line: a comment has none, and a line without words at most that of its length
abbrev pub fault_of : WorldReading → List ℕ → Option ℕ
fault_of said line =
    if is_comment (words_of line) then None
    else (if length (words_of line) == 0 then (if is_bad_line line then Some 2 else None)
    else fault_in said line (line_fields (words_of line)))

-- What a line without a fault adds.

-- the line of a script
abbrev pub script_line : ℕ → LineCall → Option ScriptLine
script_line number call = do
  tries ← line_tries call
  made ← line_call call
  timeout ← line_timeout call
  expected ← line_expected call
  Some (record { number = number; call = made; timeout = as_timeout timeout; tries = tries; expected = expected })

-- a line added to the newest section
abbrev pub with_line : List Script → Option ScriptLine → List Script
with_line [] line = []
with_line (script ∷ []) None = script ∷ []
with_line (script ∷ []) (Some line) = record { caller = script.caller; lines = script.lines ++ line ∷ [] } ∷ []
with_line (script ∷ next ∷ scripts) line = script ∷ with_line (next ∷ scripts) line

-- a section opened
abbrev pub with_section : List Script → CallerId → List Script
with_section scripts caller = scripts ++ record { caller = caller; lines = [] } ∷ []

-- the shape after a declaration; a declaration that is refused leaves it as it was
abbrev pub world_after : Option ShapeValue → Option (Result ShapeValue ShapeFault) → Option ShapeValue
world_after old (Some (Ok new)) = Some new
world_after old _ = old

-- the scripts after a line: with a section or a script line more, or as they were
abbrev pub scripts_after : List Script → ℕ → Line → List Script
scripts_after scripts number (SectionLine words) = with_section scripts (section_caller words)
scripts_after scripts number (CallLine call) = with_line scripts (script_line number call)
scripts_after scripts number _ = scripts

-- what the lines have said after a line without a fault
abbrev pub reading_after : WorldReading → ℕ → Line → WorldReading
reading_after said number line =
    record { world = world_after said.world (declared said.world line); scripts = scripts_after said.scripts number line }

-- a comment, or a line without words
abbrev pub is_skipped : List (List ℕ) → Bool
is_skipped words = is_comment words || (length words == 0)

-- the same after a line as its bytes are, which may be skipped
abbrev pub after_line : WorldReading → ℕ → List ℕ → WorldReading
after_line said number line =
    if is_skipped (words_of line) then said else reading_after said number (line_fields (words_of line))

-- Whole texts.

-- a fault: its number, and the line that it stands in
pub record TextFault : Type 0 where
  pub number : ℕ
  pub line : ℕ

-- a line's fault, or what the lines after it give
abbrev pub fault_or : Option ℕ → ℕ → Result WorldReading TextFault → Result WorldReading TextFault
fault_or (Some fault) number rest = Err (record { number = fault; line = number })
fault_or None number rest = rest

-- the lines from a number on: the first line with a fault is named; where no line with words comes, the one after the last
abbrev pub read_lines : WorldReading → ℕ → List (List ℕ) → Result WorldReading TextFault
read_lines said number [] = if is_none said.world then Err (record { number = 1; line = number }) else Ok said
read_lines said number (line ∷ lines) =
    fault_or (fault_of said line) number (read_lines (after_line said number line) (number + 1) lines)

-- a text that is too long is faulty at line 0
abbrev pub world_text : List ℕ → Result WorldReading TextFault
world_text bytes =
    if nat_lt input_limit (length bytes) then Err (record { number = 1; line = 0 }) else read_lines empty_reading 1 (lines_of bytes)

-- What reading a text gave: its world and scripts, or its first fault, unless memory ran out.
abbrev pub Reads : Result (ShapeValue × List Script) ScriptFault → Result WorldReading TextFault → Type 0
Reads (Ok read) text = text ≡ Ok (record { world = Some read.0; scripts = read.1 })
Reads (Err (faults.At number line)) text = text ≡ Err (record { number = number; line = line })
Reads (Err faults.NoMemory) text = Unit {0}

-- the scripts are those of the world's callers, in their order
abbrev pub AreScriptsOf : ShapeValue → List Script → Type 0
AreScriptsOf w scripts = map (λ s. s.caller) scripts ≡ w.callers

-- a script is that of a caller
abbrev pub is_script_of : CallerId → Script → Bool
is_script_of caller script = is_caller caller.rank caller.thread script.caller

-- Where a journal begins in an input: at the first line whose first word is `journal`.

-- the first word of a line is `journal`
abbrev pub is_journal_line : List ℕ → Bool
is_journal_line line = bytes_eq (codes "journal") (first_word (words_of line))

-- where the first such line of these begins, where the first of them begins at a byte and has a number
abbrev pub journal_from : ℕ → ℕ → List (List ℕ) → Option (ℕ × ℕ)
journal_from byte number [] = None
journal_from byte number (line ∷ lines) =
    if is_journal_line (plain_line line) then Some (byte, number) else journal_from (byte + length line) (number + 1) lines

-- the byte at which that line begins, and its number
abbrev pub journal_offset : List ℕ → Option (ℕ × ℕ)
journal_offset bytes = journal_from 0 1 (fed_lines bytes)

-- the world text of an input: what comes before its journal, or all of it
abbrev pub world_text_bytes : List ℕ → List ℕ
world_text_bytes input = before (journal_offset input)
  where
    before : Option (ℕ × ℕ) → List ℕ
    before None = input
    before (Some place) = take place.0 input

-- what that world text gives; the whole input may not be too long
abbrev pub checked_world : List ℕ → Result WorldReading TextFault
checked_world input =
    if nat_lt input_limit (length input) then Err (record { number = 1; line = 0 }) else world_text (world_text_bytes input)

-- What reading an input gave: the world and the scripts of its world text, with the place of its journal, or the first
-- fault, unless memory ran out.
abbrev pub ReadsInput : Result (ShapeValue × List Script × Option (ℕ × ℕ)) ScriptFault → Result WorldReading TextFault → Option (ℕ × ℕ) → Type 0
ReadsInput (Ok read) text place = (text ≡ Ok (record { world = Some read.0; scripts = read.1 })) × (read.2 ≡ place)
ReadsInput (Err (faults.At number line)) text place = text ≡ Err (record { number = number; line = line })
ReadsInput (Err faults.NoMemory) text place = Unit {0}
