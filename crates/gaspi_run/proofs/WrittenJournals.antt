-- A journal on its way to a sink.
use Rattle.std.proofs.Common.{◌≡◌, ℕ, ◌+◌, ◌<◌, ◌≤◌, List, [], ◌∷◌, ◌++◌, length, take, drop, get_or, Option, Result, Ok, Err, OnErr, refl, sym, ap, subst, ◌∙◌, append_assoc, append-nil, length-append, arith}
use Rattle.std.specs.List.{concat}
use Rattle.std.proofs.lemmas.List.{take-append-drop}
use Rattle.std.proofs.lemmas.List.Folds.{concat-append}
use Rattle.gaspi_types.specs.declared.events.Event.{Event}
use Rattle.gaspi_io.specs.Blocks.{IsOnItsWay}
use Rattle.gaspi_io.specs.Sink.{with_more, AddsPrefix}
use Rattle.gaspi_io.proofs.OnItsWay.{nothing-yet, more-behind, block-written, arrived-whole, cut-in-block, cut-before}
use Rattle.gaspi_texts.specs.JournalText.{first_line, event_line, event_lines, end_line, journal_text}
use Rattle.gaspi_texts.proofs.WrittenLines.{line-added, all-added}

-- the first line and those of so many events
abbrev pub text_until : ℕ → List Event → List ℕ
text_until count journal = first_line ++ concat (event_lines 0 (take count journal))

lines-append : (place : ℕ) (xs ys : List Event) → event_lines place (xs ++ ys) ≡ event_lines place xs ++ event_lines (place + length xs) ys
lines-append place [] ys = ap (λ (n : ℕ). event_lines n ys) (omega arith)
lines-append place (x ∷ xs) ys =
    let more : place + 1 + length xs ≡ place + length (x ∷ xs) = omega arith in
    ap (λ (lines : List (List ℕ)). event_line place x ∷ lines) (lines-append (place + 1) xs ys ∙ ap (λ (n : ℕ). event_lines (place + 1) xs ++ event_lines n ys) more)

-- what of the text is still to come
record IsToCome (count : ℕ) (journal : List Event) : Type 0 where
  rest : List ℕ
  whole : text_until count journal ++ rest ≡ journal_text journal
  some : 0 < length rest

to-come : (count : ℕ) (journal : List Event) → IsToCome count journal
to-come count journal = record {
  rest = later ++ ends;
  whole = append_assoc first_line before (later ++ ends) ∙ ap (λ (bytes : List ℕ). first_line ++ bytes) (sym (append_assoc before later ends) ∙ ap (λ (bytes : List ℕ). bytes ++ ends) (sym all) ∙ sym lines);
  some = let both = length-append later ends in omega (arith, both);
}
  where
    n : ℕ
    n = 0 + length (take count journal)

    before : List ℕ
    before = concat (event_lines 0 (take count journal))

    later : List ℕ
    later = concat (event_lines n (drop count journal))

    ends : List ℕ
    ends = end_line (length journal)

    all : concat (event_lines 0 journal) ≡ before ++ later
    all = ap (λ (events : List Event). concat (event_lines 0 events)) (sym (take-append-drop count journal))
        ∙ ap concat (lines-append 0 (take count journal) (drop count journal)) ∙ concat-append (event_lines 0 (take count journal)) (event_lines n (drop count journal))

    lines : concat (event_lines 0 journal ++ ends ∷ []) ≡ concat (event_lines 0 journal) ++ ends
    lines = concat-append (event_lines 0 journal) (ends ∷ []) ∙ ap (λ (bytes : List ℕ). concat (event_lines 0 journal) ++ bytes) (append-nil ends)

-- the line of the next event behind those before it
pub next-line : (journal : List Event) (place : ℕ) (e : Event) → place < length journal → e ≡ get_or journal place e → text_until place journal ++ event_line place e ≡ text_until (place + 1) journal
next-line journal place e less at = line-added [] (text_until place journal) (text_until place journal ++ event_line place e) journal place e less at refl refl

-- the end line behind those of all events
pub last-line : (journal : List Event) (place : ℕ) → length journal ≤ place → text_until place journal ++ end_line (length journal) ≡ journal_text journal
last-line journal place past = all-added {A = ℕ} {E = ℕ} (Ok 0) [] (text_until place journal) (text_until place journal ++ end_line (length journal)) journal place past refl refl

-- of a call that fails
pub on-err : {A E P : Type 0} (r : Result A E) → P → OnErr r P
on-err (Ok value) p = tt
on-err (Err error) p = p

module _ (old : Option (List ℕ)) (journal : List Event) where
  -- the journal, whose lines before a place are on their way
  abbrev pub IsBefore : ℕ → Option (List ℕ) → List ℕ → Type 0
  IsBefore place new block = IsOnItsWay old (text_until place journal) new block

  -- the first line
  pub begins : (block block' : List ℕ) → block ≡ [] → block' ≡ block ++ first_line → IsBefore 0 old block'
  begins block block' empty is =
      subst (λ (text : List ℕ). IsOnItsWay old text old block') (sym (append-nil first_line))
      (more-behind old [] old [] block' first_line (nothing-yet old) (is ∙ ap (λ (b : List ℕ). b ++ first_line) empty))

  -- out of memory at a place
  pub stops-before : (place : ℕ) (new : Option (List ℕ)) (block : List ℕ) → IsBefore place new block → AddsPrefix (journal_text journal) old new
  stops-before place new block way =
      let t = to-come place journal in
      subst (λ (text : List ℕ). AddsPrefix text old new) t.whole (cut-before old (text_until place journal) new block t.rest way t.some)

  -- the line of an event
  pub with-line : (place : ℕ) (e : Event) (new : Option (List ℕ)) (block block' : List ℕ) → place < length journal → e ≡ get_or journal place e → IsBefore place new block → block' ≡ block ++ event_line place e
      → IsBefore (place + 1) new block'
  with-line place e new block block' less at way is =
      subst (λ (text : List ℕ). IsOnItsWay old text new block') (next-line journal place e less at) (more-behind old (text_until place journal) new block block' (event_line place e) way is)

  -- the sink fails in a block
  pub fails-in : (place : ℕ) (new new' : Option (List ℕ)) (block : List ℕ) → IsBefore place new block → AddsPrefix block new new' → AddsPrefix (journal_text journal) old new'
  fails-in place new new' block way cut =
      let t = to-come place journal in
      subst (λ (text : List ℕ). AddsPrefix text old new') t.whole (cut-in-block old (text_until place journal) new new' block t.rest way cut)

  -- the end line
  pub with-end : (place : ℕ) (new : Option (List ℕ)) (block block' : List ℕ) → length journal ≤ place → IsBefore place new block → block' ≡ block ++ end_line (length journal) → IsOnItsWay old (journal_text journal) new block'
  with-end place new block block' past way is =
      subst (λ (text : List ℕ). IsOnItsWay old text new block') (last-line journal place past) (more-behind old (text_until place journal) new block block' (end_line (length journal)) way is)

  pub fails-in-last : (new new' : Option (List ℕ)) (block : List ℕ) → IsOnItsWay old (journal_text journal) new block → AddsPrefix block new new' → AddsPrefix (journal_text journal) old new'
  fails-in-last new new' block way cut =
      subst (λ (text : List ℕ). AddsPrefix text old new') (append-nil (journal_text journal)) (cut-in-block old (journal_text journal) new new' block [] way cut)

  pub ends-whole : (new new' : Option (List ℕ)) (block : List ℕ) → IsOnItsWay old (journal_text journal) new block → new' ≡ with_more new block → new' ≡ with_more old (journal_text journal)
  ends-whole new new' block way is = arrived-whole old (journal_text journal) new' (block-written old (journal_text journal) new new' block way is)
