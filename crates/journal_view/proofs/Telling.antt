-- What is told of an input has a status and a text of a kind, and so of each wider kind.
use Rattle.std.proofs.Common.{ℕ, List}
use Rattle.journal_view.specs.Viewing.{Tells}
use Rattle.journal_view.specs.declared.viewing.ViewResult.{ViewResult}
use Rattle.journal_view.specs.declared.viewing.ViewResult.TheVariants as results
use Rattle.journal_view.specs.declared.words.Picture.{Picture}

pub tells-weaker : (asked : Picture) (P Q : ℕ → List ℕ → Type 0) (told : ViewResult) → ((status : ℕ) (text : List ℕ) → P status text → Q status text) → Tells asked P told → Tells asked Q told
tells-weaker asked P Q (results.Text told) wider tells = wider told.status told.text tells
tells-weaker asked P Q (results.Trace world journal) wider tells = (tells.0, λ status text has. wider status text (tells.1 status text has))
