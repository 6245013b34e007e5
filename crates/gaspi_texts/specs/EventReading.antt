-- The event that words spell, as the reader finds it before it compares the text with the event's own. No public
-- contract speaks of it. (own choice)
use Rattle.std.specs.Prelude.{ℕ, ◌+◌, ◌==◌, ◌&&◌, nat_lt, Bool, true, false, not, List, [], ◌∷◌, take, drop, position, Option, Some, None, find, if◌then◌else◌, codes}
use Rattle.std.specs.List.{list_all}
use Rattle.std.specs.Option.{option_map}
use Rattle.std.specs.Str.{bytes_eq}
use Rattle.gaspi_types.specs.declared.shapes.CallerId.{CallerId}
use Rattle.gaspi_types.specs.declared.events.Outcome.{Outcome}
use Rattle.gaspi_types.specs.declared.events.Outcome.TheVariants.{Applied, Failed}
use Rattle.gaspi_types.specs.declared.events.Event.{Event}
use Rattle.gaspi_types.specs.declared.events.Event.TheVariants.{Called, Joined, Take, Put}
use Rattle.call_texts.specs.CallText.{recorded_call_of, is_call_numeric}
use Rattle.call_texts.specs.Steps.{◌>>=◌}
use Rattle.gaspi_texts.specs.CollectiveText.{args_of}
use Rattle.gaspi_texts.specs.EventText.{arrow, outcome_word}
use Rattle.call_texts.specs.Numbers.{value_of, has_leading_zero}
use Rattle.gaspi_texts.specs.ReplyText.{reply_of, is_reply_numeric}
use Rattle.gaspi_texts.specs.declared.event_reading.Moved.{Moved}

-- a number of 32 bits as it is written, without a leading zero
abbrev pub exact_value : List ℕ → Option ℕ
exact_value word = if has_leading_zero word then None else value_of word

-- such a number below a limit
abbrev pub number_below : ℕ → List ℕ → Option ℕ
number_below limit word = do
  n ← exact_value word
  if nat_lt n limit then Some n else None

-- the outcome with a word
unfoldable pub outcome_of : List ℕ → Option Outcome
outcome_of word = find (λ outcome. bytes_eq (outcome_word outcome) word) (Applied ∷ Failed ∷ [])

-- a caller: a rank, and a thread behind the first dot
unfoldable pub caller_of : List ℕ → Option CallerId
caller_of word = do
  dot ← position (λ byte. byte == 46) word
  rank ← number_below 16 (take dot word)
  thread ← number_below 4 (drop (dot + 1) word)
  Some (record { rank = rank; thread = thread })

-- a caller's call with its reply, each from its words
abbrev pub called_with : CallerId → List (List ℕ) → List (List ℕ) → Option Event
called_with caller call_words reply_words = do
  call ← recorded_call_of call_words
  reply ← reply_of reply_words
  Some (Called caller call reply)

-- a caller, its call, and behind the first arrow its reply
unfoldable pub called_of : List (List ℕ) → Option Event
called_of [] = None
called_of (word ∷ words) = do
  caller ← caller_of word
  place ← position (λ word. bytes_eq arrow word) words
  called_with caller (take place words) (drop (place + 1) words)

-- the join of a caller, a group, and the arguments
unfoldable pub joined_of : List (List ℕ) → Option Event
joined_of (first ∷ second ∷ words) = do
  caller ← caller_of first
  group ← number_below 8 second
  args ← args_of words
  Some (Joined caller group args)
joined_of other = None

-- the fields of a transfer: those of its entry, and the outcome
unfoldable pub moved_of : List (List ℕ) → Option Moved
moved_of (first ∷ second ∷ third ∷ fourth ∷ fifth ∷ []) = do
  origin ← number_below 16 first
  queue ← number_below 8 second
  target ← number_below 16 third
  number ← exact_value fourth
  outcome ← outcome_of fifth
  Some (record { origin = origin; queue = queue; target = target; number = number; outcome = outcome })
moved_of other = None

-- the take with these fields
abbrev pub taken : Moved → Event
taken m = Take m.origin m.queue m.target m.number m.outcome

-- the put with these fields
abbrev pub put : Moved → Event
put m = Put m.origin m.queue m.target m.number m.outcome

-- the event that words spell
unfoldable pub event_of : List (List ℕ) → Option Event
event_of [] = None
event_of (word ∷ arguments) =
    if bytes_eq (codes "called") word then called_of arguments
    else (if bytes_eq (codes "joined") word then joined_of arguments
    else (if bytes_eq (codes "take") word then option_map taken (moved_of arguments)
    else (if bytes_eq (codes "put") word then option_map put (moved_of arguments) else None)))

-- no word has a leading zero
abbrev pub are_exact : List (List ℕ) → Bool
are_exact words = list_all (λ word. not (has_leading_zero word)) words

-- whether the words that spell an event are known to be those that are written of it
abbrev pub is_written_so : Event → List (List ℕ) → Bool
is_written_so (Called c call reply) words = is_call_numeric call && is_reply_numeric reply && are_exact words
is_written_so (Joined c group args) words = false
is_written_so (Take origin queue target number outcome) words = true
is_written_so (Put origin queue target number outcome) words = true
