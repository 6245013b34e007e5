-- The texts of events, in the one form that there is. (own choice)
use Rattle.std.specs.Prelude.{◌^◌, ◌<◌, ℕ, List, [], ◌∷◌, ◌++◌, codes}
use Rattle.std.specs.Fmt.{decimal}
use Rattle.std.specs.List.{join_with_byte}
use Rattle.gaspi_types.specs.Collectives.{HaveOwnValues}
use Rattle.gaspi_types.specs.declared.shapes.CallerId.{CallerId}
use Rattle.gaspi_types.specs.declared.events.Outcome.{Outcome}
use Rattle.gaspi_types.specs.declared.events.Outcome.TheVariants.{Applied, Failed}
use Rattle.gaspi_types.specs.declared.events.Event.{Event}
use Rattle.gaspi_types.specs.declared.events.Event.TheVariants.{Called, Joined, Take, Put}
use Rattle.call_texts.specs.CallText.{words_of_call, IsWritable}
use Rattle.gaspi_texts.specs.CollectiveText.{AreArgsInRange, args_words}
use Rattle.gaspi_texts.specs.ReplyText.{words_of_reply, IsInRange}

-- a caller as its rank and thread
abbrev pub caller_word : CallerId → List ℕ
caller_word c = decimal c.rank ++ codes "." ++ decimal c.thread

-- the word of an outcome
abbrev pub outcome_word : Outcome → List ℕ
outcome_word Applied = codes "ok"
outcome_word Failed = codes "failed"

-- the word between a call and its reply
abbrev pub arrow : List ℕ
arrow = codes "->"

-- the words of an event
unfoldable pub words_of_event : Event → List (List ℕ)
words_of_event (Called c call reply) = codes "called" ∷ caller_word c ∷ (words_of_call call ++ arrow ∷ words_of_reply reply)
words_of_event (Joined c group args) = codes "joined" ∷ caller_word c ∷ decimal group ∷ args_words args
words_of_event (Take origin queue target number outcome) =
    codes "take" ∷ decimal origin ∷ decimal queue ∷ decimal target ∷ decimal number ∷ outcome_word outcome ∷ []
words_of_event (Put origin queue target number outcome) =
    codes "put" ∷ decimal origin ∷ decimal queue ∷ decimal target ∷ decimal number ∷ outcome_word outcome ∷ []

-- the text of an event: its words, one space between them
abbrev pub event_text : Event → List ℕ
event_text e = join_with_byte 32 (words_of_event e)

-- a join has the values of its collective, and no others
abbrev pub HasOwnValues : Event → Type 0
HasOwnValues (Joined c group args) = HaveOwnValues args
HasOwnValues e = Unit {0}

-- the numbers of an event are in the ranges of their types, whatever the world's limits are
abbrev pub IsInEventRange : Event → Type 0
IsInEventRange (Called c call reply) = (c.rank < 16) × (c.thread < 4) × IsWritable call × IsInRange reply
IsInEventRange (Joined c group args) = (c.rank < 16) × (c.thread < 4) × (group < 8) × AreArgsInRange args
IsInEventRange (Take origin queue target number outcome) = (origin < 16) × (queue < 8) × (target < 16) × (number < 2 ^ 32)
IsInEventRange (Put origin queue target number outcome) = (origin < 16) × (queue < 8) × (target < 16) × (number < 2 ^ 32)
