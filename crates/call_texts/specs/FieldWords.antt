-- The words of fields that were not read yet.
use Rattle.std.specs.Prelude.{ℕ, List, map}
use Rattle.call_texts.specs.declared.field_words.FieldWords.{FieldWords}

-- these words, in order
abbrev pub words_in : FieldWords → List (List ℕ)
words_in fields = map (λ word. word.now) fields.words.now
