-- The texts of refusals: a form for each number. (own choice)
use Rattle.std.specs.Prelude.{ℕ, List, [], ◌∷◌, Option, Some, None}
use Rattle.std.specs.Fmt.{decimal}
use Rattle.std.specs.Option.{option_map}
use Rattle.call_texts.specs.Steps.{◌>>=◌}
use Rattle.call_texts.specs.Numbers.{value_of}
use Rattle.gaspi_types.specs.Replies.{stage_number, coll_fields}
use Rattle.gaspi_types.specs.declared.collectives.Stage.{Stage}
use Rattle.gaspi_types.specs.declared.replies.Refusal.{Refusal}
use Rattle.gaspi_types.specs.declared.replies.RefusalFields.{RefusalFields}
use Rattle.gaspi_types.specs.declared.replies.RefusalFields.TheVariants as fields
use Rattle.gaspi_types.specs.Refusals.{RefusalForm, Bare, OneNumber, TwoNumbers, OneStage, OneCollective, Held, refusal_rows, row_in, refusal_parts}
use Rattle.gaspi_texts.specs.CollectiveText.{stage_word, stage_of, coll_words, coll_of, one_field}

-- what a form holds as numbers, as refusals are compared
abbrev pub numbers_of_held : (form : RefusalForm) → Held form → List ℕ
numbers_of_held Bare nothing = []
numbers_of_held OneNumber n = n ∷ []
numbers_of_held TwoNumbers (first, second) = first ∷ second ∷ []
numbers_of_held OneStage stage = stage_number stage ∷ []
numbers_of_held OneCollective kept = coll_fields kept

-- and as words, in the one form that is written
abbrev pub words_of_held : (form : RefusalForm) → Held form → List (List ℕ)
words_of_held Bare nothing = []
words_of_held OneNumber n = decimal n ∷ []
words_of_held TwoNumbers (first, second) = decimal first ∷ decimal second ∷ []
words_of_held OneStage stage = stage_word stage ∷ []
words_of_held OneCollective kept = coll_words kept

-- no field, two numbers, and a stage

-- no field
abbrev pub no_field : List (List ℕ) → Option (Unit {0})
no_field [] = Some tt
no_field (word ∷ words) = None

-- two numbers
abbrev pub two_fields : List (List ℕ) → Option (ℕ × ℕ)
two_fields (first ∷ second ∷ []) = do
  m ← value_of first
  n ← value_of second
  Some (m, n)
two_fields other = None

-- a stage
abbrev pub stage_field : List (List ℕ) → Option Stage
stage_field [] = None
stage_field (word ∷ []) = stage_of word
stage_field (word ∷ next ∷ words) = None

-- what words spell
abbrev pub held_of : (form : RefusalForm) → List (List ℕ) → Option (Held form)
held_of Bare words = no_field words
held_of OneNumber words = one_field words
held_of TwoNumbers words = two_fields words
held_of OneStage words = stage_field words
held_of OneCollective words = coll_of words

-- the refusal of a number with its fields
unfoldable pub refusal_of : ℕ → List (List ℕ) → Option Refusal
refusal_of number words = do
  row ← row_in number refusal_rows
  option_map row.made (held_of row.form words)

-- what fields hold
pub data Holding : Type 0 where
  Holds : (form : RefusalForm) (held : Held form) → Holding

abbrev pub held_by : RefusalFields → Holding
held_by fields.Nothing = Holds Bare tt
held_by (fields.OneNumber n) = Holds OneNumber n
held_by (fields.TwoNumbers first second) = Holds TwoNumbers (first, second)
held_by (fields.OneStage stage) = Holds OneStage stage
held_by (fields.OneCollective kept) = Holds OneCollective kept

-- what a refusal holds
abbrev pub holding_of : Refusal → Holding
holding_of refusal = held_by (refusal_parts refusal).1

-- the words of its fields

abbrev pub words_of_holding : Holding → List (List ℕ)
words_of_holding (Holds form held) = words_of_held form held

-- the words of a refusal's fields
abbrev pub field_words : Refusal → List (List ℕ)
field_words refusal = words_of_holding (holding_of refusal)
