-- Forms: the kinds of the fields that follow a word, in their order. How a form is read, what is written of it, and
-- which values are in the ranges of their types, all by the kinds of its fields. (own choice)
use Rattle.std.specs.Prelude.{ℕ, zero, suc, ◌+◌, ◌*◌, ◌^◌, ◌<◌, nat_le, Bool, true, false, ◌&&◌, ◌||◌, List, [], ◌∷◌, ◌++◌, length, map, take, drop, flat_map, Option, Some, None, if◌then◌else◌}
use Rattle.std.specs.Fmt.{decimal, signed_decimal}
use Rattle.std.specs.List.{AllByRecursion}
use Rattle.hex.specs.Hex.{IsBytes}
use Rattle.gaspi_types.specs.NumberTypes.{AreInType, TypedNumbers}
use Rattle.gaspi_types.specs.declared.calls.posts.Item.{Item}
use Rattle.gaspi_types.specs.declared.collectives.Op.{Op}
use Rattle.call_texts.specs.Elements.{type_word, op_word, type_of, op_of, elements_of}
use Rattle.call_texts.specs.Hex.{bytes_of, hex_text}
use Rattle.call_texts.specs.Numbers.{number_of, value_of}
use Rattle.call_texts.specs.Steps.{◌>>=◌}
use Rattle.call_texts.specs.declared.fields.Field.{Field}
use Rattle.call_texts.specs.declared.fields.Field.TheVariants.{Number, Value, Bytes, Items, Operation, Elements}

-- a number of 64 bits
abbrev pub IsNumber : ℕ → Type 0
IsNumber n = n < 2 ^ 64

-- Fields.

-- what a field holds
abbrev pub FieldValue : Field → Type 0
FieldValue Number = ℕ
FieldValue Value = ℕ
FieldValue Bytes = List ℕ
FieldValue Items = List Item
FieldValue Operation = Op
FieldValue Elements = TypedNumbers

-- an item's numbers are of 64 bits
abbrev pub IsItemInRange : Item → Type 0
IsItemInRange item = IsNumber item.seg × IsNumber item.offset × IsNumber item.rseg × IsNumber item.roffset × IsNumber item.size

-- a field's value is one of its type
abbrev pub IsInRange : (field : Field) → FieldValue field → Type 0
IsInRange Number n = IsNumber n
IsInRange Value n = n < 2 ^ 32
IsInRange Bytes bytes = IsBytes bytes
IsInRange Items items = IsNumber (length items) × AllByRecursion IsItemInRange items
IsInRange Operation op = Unit {0}
IsInRange Elements numbers = IsNumber (length numbers.items) × AreInType numbers.num_type numbers.items

-- the words of an item, SEG OFF RSEG ROFF SIZE
abbrev pub words_of_item : Item → List (List ℕ)
words_of_item item =
    decimal item.seg ∷ decimal item.offset ∷ decimal item.rseg ∷ decimal item.roffset ∷ decimal item.size ∷ []

-- a field's words in the one form that is written; items are behind their number, and so are elements, behind their type
abbrev pub words_of_field : (field : Field) → FieldValue field → List (List ℕ)
words_of_field Number n = decimal n ∷ []
words_of_field Value n = decimal n ∷ []
words_of_field Bytes bytes = hex_text bytes ∷ []
words_of_field Items items = decimal (length items) ∷ flat_map words_of_item items
words_of_field Operation op = op_word op ∷ []
words_of_field Elements numbers =
    type_word numbers.num_type ∷ decimal (length numbers.items) ∷ map signed_decimal numbers.items

-- what the first of the words spells, and the words behind it
abbrev pub first_spells : {A : Type 0} → (List ℕ → Option A) → List (List ℕ) → Option (A × List (List ℕ))
first_spells read [] = None
first_spells read (word ∷ words) = do
  value ← read word
  Some (value, words)

-- the item that the words in front spell, and the words behind them
abbrev pub item_spelled : List (List ℕ) → Option (Item × List (List ℕ))
item_spelled words = do
  seg ← first_spells number_of words
  offset ← first_spells number_of seg.1
  rseg ← first_spells number_of offset.1
  roffset ← first_spells number_of rseg.1
  size ← first_spells number_of roffset.1
  Some (record { seg = seg.0; offset = offset.0; rseg = rseg.0; roffset = roffset.0; size = size.0 }, size.1)

-- the items, as many as a number says, that the words in front spell, one after the other, and the words behind them
abbrev pub items_spelled : ℕ → List (List ℕ) → Option (List Item × List (List ℕ))
items_spelled zero words = Some ([], words)
items_spelled (suc count) words = do
  first ← item_spelled words
  others ← items_spelled count first.1
  Some (first.0 ∷ others.0, others.1)

-- the first words, as many as a number says, where there are as many, and the words behind them
abbrev pub words_split : ℕ → List (List ℕ) → Option (List (List ℕ) × List (List ℕ))
words_split count words = if nat_le count (length words) then Some (take count words, drop count words) else None

-- a type and its elements, as many as their number says, that the words in front spell, and the words behind them
abbrev pub elements_spelled : List (List ℕ) → Option (TypedNumbers × List (List ℕ))
elements_spelled words = do
  num_type ← first_spells type_of words
  count ← first_spells number_of num_type.1
  front ← words_split count.0 count.1
  items ← elements_of num_type.0 front.0
  Some (record { num_type = num_type.0; items = items }, front.1)

-- the value that the words in front spell, and the words behind them
abbrev pub field_spelled : (field : Field) → List (List ℕ) → Option (FieldValue field × List (List ℕ))
field_spelled Number words = first_spells number_of words
field_spelled Value words = first_spells value_of words
field_spelled Bytes words = first_spells bytes_of words
field_spelled Items words = do
  count ← first_spells number_of words
  items_spelled count.0 count.1
field_spelled Operation words = first_spells op_of words
field_spelled Elements words = elements_spelled words

-- whether a field is bytes, items or elements, which take memory as they are read
abbrev pub is_list : Field → Bool
is_list Bytes = true
is_list Items = true
is_list Elements = true
is_list field = false

-- whether each word of a field is a number in decimal
abbrev pub is_numeric : Field → Bool
is_numeric Number = true
is_numeric Value = true
is_numeric Items = true
is_numeric field = false

-- how many of the words in front belong to a field; none where the number of its items or elements is not of the form of a number
abbrev pub field_words : Field → List (List ℕ) → Option ℕ
field_words Items (word ∷ words) = do
  count ← number_of word
  Some (1 + 5 * count)
field_words Elements (num_type ∷ word ∷ words) = do
  count ← number_of word
  Some (2 + count)
field_words Elements words = Some 2
field_words field words = Some 1

-- Forms.

-- what the fields of a form hold
abbrev pub Fields : List Field → Type 0
Fields [] = Unit {0}
Fields (field ∷ form) = FieldValue field × Fields form

-- the values of a form's fields are in the ranges of their types
abbrev pub AreInRange : (form : List Field) → Fields form → Type 0
AreInRange [] fields = Unit {0}
AreInRange (field ∷ form) fields = IsInRange field fields.0 × AreInRange form fields.1

-- the words of a form's fields, in the one form that is written
abbrev pub words_of_fields : (form : List Field) → Fields form → List (List ℕ)
words_of_fields [] fields = []
words_of_fields (field ∷ form) fields = words_of_field field fields.0 ++ words_of_fields form fields.1

-- the values that the words in front spell, one after the other, and the words behind them
abbrev pub fields_spelled : (form : List Field) → List (List ℕ) → Option (Fields form × List (List ℕ))
fields_spelled [] words = Some (tt, words)
fields_spelled (field ∷ form) words = do
  first ← field_spelled field words
  others ← fields_spelled form first.1
  Some ((first.0, others.0), others.1)

-- whether a form has bytes, items or elements
abbrev pub has_list : List Field → Bool
has_list [] = false
has_list (field ∷ form) = is_list field || has_list form

-- whether all fields of a form are such
abbrev pub are_numeric : List Field → Bool
are_numeric [] = true
are_numeric (field ∷ form) = is_numeric field && are_numeric form

-- how many of the words in front belong to a form, one field after the other
abbrev pub form_words : List Field → List (List ℕ) → Option ℕ
form_words [] words = Some 0
form_words (field ∷ form) words = do
  first ← field_words field words
  others ← form_words form (drop first words)
  Some (first + others)
