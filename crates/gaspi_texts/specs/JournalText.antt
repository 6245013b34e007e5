-- The text of a journal, and which line is faulty where a text is none. (own choice)
use Rattle.std.specs.Prelude.{◌≡◌, ◌≢◌, ◌≤◌, ℕ, ◌+◌, ◌-◌, List, [], ◌∷◌, ◌++◌, length, take, codes}
use Rattle.std.specs.Fmt.{decimal}
use Rattle.std.specs.List.{concat, All}
use Rattle.gaspi_types.specs.declared.events.Event.{Event}
use Rattle.gaspi_texts.specs.EventText.{event_text, HasOwnValues, IsInEventRange}
use Rattle.call_texts.specs.Lines.{fed_lines}

-- The lines, each with its line feed: the version, the events with their places, and the end with their number.

-- the line with the version
abbrev pub first_line : List ℕ
first_line = codes "journal 1\n"

-- the line of an event at a place
abbrev pub event_line : ℕ → Event → List ℕ
event_line place e = decimal place ++ codes " " ++ event_text e ++ codes "\n"

-- the line of the end, with the number of events
abbrev pub end_line : ℕ → List ℕ
end_line count = codes "end " ++ decimal count ++ codes "\n"

-- the lines of events, the first of which has a place
abbrev pub event_lines : ℕ → List Event → List (List ℕ)
event_lines place [] = []
event_lines place (e ∷ events) = event_line place e ∷ event_lines (place + 1) events

-- the lines of a journal
abbrev pub journal_lines : List Event → List (List ℕ)
journal_lines journal = first_line ∷ (event_lines 0 journal ++ end_line (length journal) ∷ [])

-- the text of a journal
abbrev pub journal_text : List Event → List ℕ
journal_text journal = concat (journal_lines journal)

-- each join has the values of its collective
abbrev pub HaveOwnValues : List Event → Type 0
HaveOwnValues journal = All HasOwnValues journal

-- the numbers of all events are in the ranges of their types
abbrev pub AreInRange : List Event → Type 0
AreInRange journal = All IsInEventRange journal

-- these lines begin the text of some journal
pub record ArePrefixLines (lines : List (List ℕ)) : Type 0 where
  pub journal : List Event
  pub ranges : AreInRange journal
  pub front : take (length lines) (journal_lines journal) ≡ lines

-- A text is the text of no journal, and this line, counted from 1, is the first that cannot be there: the lines before
-- it begin the text of some journal, and these and it begin none. Where the text ends too early it is the number of lines
-- plus 1. A last line without its line feed cannot be anywhere.
pub record IsFaultyAt (text : List ℕ) (line : ℕ) : Type 0 where
  pub other : (journal : List Event) → AreInRange journal → text ≢ journal_text journal
  pub some : 1 ≤ line
  pub within : line ≤ length (fed_lines text) + 1
  pub before : ArePrefixLines (take (line - 1) (fed_lines text))
  pub first : line ≤ length (fed_lines text) → ArePrefixLines (take line (fed_lines text)) → ⊥
