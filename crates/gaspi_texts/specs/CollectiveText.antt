-- The texts of stages and collectives. (own choice)
use Rattle.std.specs.Prelude.{◌^◌, ◌<◌, ℕ, ◌==◌, List, [], ◌∷◌, ◌++◌, length, map, Option, Some, None, find, if◌then◌else◌, codes}
use Rattle.std.specs.Fmt.{decimal, signed_decimal}
use Rattle.std.specs.List.{AllByRecursion}
use Rattle.std.specs.Option.{option_map}
use Rattle.std.specs.Str.{bytes_eq}
use Rattle.call_texts.specs.Elements.{type_word, op_word, type_of, op_of, elements_of}
use Rattle.call_texts.specs.Steps.{◌>>=◌}
use Rattle.call_texts.specs.Numbers.{value_of}
use Rattle.gaspi_types.specs.Collectives.{HaveOwnValues, no_values}
use Rattle.gaspi_types.specs.NumberTypes.{AreInType, TypedNumbers}
use Rattle.gaspi_types.specs.Replies.{coll_fields}
use Rattle.gaspi_types.specs.declared.collectives.Stage.{Stage}
use Rattle.gaspi_types.specs.declared.collectives.Stage.TheVariants.{Building, Committed}
use Rattle.gaspi_types.specs.declared.collectives.Coll.{Coll}
use Rattle.gaspi_types.specs.declared.collectives.Coll.TheVariants.{Barrier, Allreduce, Create, Commit}
use Rattle.gaspi_types.specs.declared.groups.Args.{Args}

-- The words of stages.

-- the word of a stage
abbrev pub stage_word : Stage → List ℕ
stage_word Building = codes "building"
stage_word Committed = codes "committed"

-- the stage with a word
unfoldable pub stage_of : List ℕ → Option Stage
stage_of word = find (λ stage. bytes_eq (stage_word stage) word) (Building ∷ Committed ∷ [])

-- Collectives.

-- a collective: its kind and what it is called with, values aside
abbrev pub coll_words : Coll → List (List ℕ)
coll_words Barrier = codes "barrier" ∷ []
coll_words (Allreduce op num_type count) = codes "allreduce" ∷ op_word op ∷ type_word num_type ∷ decimal count ∷ []
coll_words (Create segment size) = codes "create" ∷ decimal segment ∷ decimal size ∷ []
coll_words (Commit mask) = codes "commit" ∷ decimal mask ∷ []

-- the only field, a number
abbrev pub one_field : List (List ℕ) → Option ℕ
one_field [] = None
one_field (word ∷ []) = value_of word
one_field (word ∷ next ∷ words) = None

-- an allreduce: its operation, its type and how many numbers
abbrev pub allreduce_of : List (List ℕ) → Option Coll
allreduce_of (first ∷ second ∷ third ∷ []) = do
  op ← op_of first
  num_type ← type_of second
  count ← value_of third
  Some (Allreduce op num_type count)
allreduce_of other = None

-- a segment_create: its segment id and its size
abbrev pub create_of : List (List ℕ) → Option Coll
create_of (first ∷ second ∷ []) = do
  segment ← value_of first
  size ← value_of second
  Some (Create segment size)
create_of other = None

abbrev pub barrier_of : List (List ℕ) → Option Coll
barrier_of [] = Some Barrier
barrier_of (word ∷ words) = None

-- the collective that words spell
unfoldable pub coll_of : List (List ℕ) → Option Coll
coll_of [] = None
coll_of (word ∷ arguments) =
    if bytes_eq (codes "barrier") word then barrier_of arguments
    else (if bytes_eq (codes "allreduce") word then allreduce_of arguments
    else (if bytes_eq (codes "create") word then create_of arguments
    else (if bytes_eq (codes "commit") word then option_map Commit (one_field arguments) else None)))

-- Collectives with their values, as ranks join them.

-- the numbers of arguments are in the ranges of their types, and the values are those of the collective
pub record AreArgsInRange (args : Args) : Type 0 where
  pub numbers : AllByRecursion (λ n. n < 2 ^ 32) (coll_fields args.coll)
  pub elements : AreInType args.values.num_type args.values.items
  pub own : HaveOwnValues args

-- the words of arguments: the values are behind the collective
abbrev pub args_words : Args → List (List ℕ)
args_words args = coll_words args.coll ++ map signed_decimal args.values.items

-- the values that words spell
abbrev pub values_of : Coll → List (List ℕ) → Option TypedNumbers
values_of (Allreduce op num_type count) words = do
  items ← if length words == count then elements_of num_type words else None
  Some (record { num_type = num_type; items = items })
values_of coll words = Some no_values

-- the arguments of a collective, where there is one, and of the words of its values
abbrev pub args_with : Option Coll → List (List ℕ) → Option Args
args_with found words = do
  coll ← found
  values ← values_of coll words
  Some (record { coll = coll; values = values })

-- the arguments that words spell: values are behind the four words of an allreduce
unfoldable pub args_of : List (List ℕ) → Option Args
args_of (first ∷ second ∷ third ∷ fourth ∷ elements) = args_with (coll_of (first ∷ second ∷ third ∷ fourth ∷ [])) elements
args_of words = args_with (coll_of words) []
