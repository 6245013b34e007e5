-- The lines of a journal written one after another.
use Rattle.std.proofs.Common.{◌≡◌, ℕ, ◌+◌, ◌<◌, ◌≤◌, List, [], ◌∷◌, ◌++◌, length, take, get_or, Result, Ok, Err, OnOk, refl, sym, ap, ◌∙◌, arith, append_assoc, append-nil, length-append}
use Rattle.std.specs.List.{concat}
use Rattle.std.proofs.lemmas.List.{take_at, take_all, take_more, take-take, length-take-le}
use Rattle.std.proofs.lemmas.List.Folds.{concat-append}
use Rattle.gaspi_types.specs.declared.events.Event.{Event}
use Rattle.gaspi_texts.specs.Additions.{KeepsPrefix}
use Rattle.gaspi_texts.specs.JournalText.{first_line, event_line, end_line, event_lines, journal_text}
use Rattle.gaspi_texts.proofs.ReadJournals.{event_lines-push}

-- a text that was added to begins what comes of it
pub kept-through : (old mid new more : List ℕ) → mid ≡ old ++ more → KeepsPrefix mid new → KeepsPrefix old new
kept-through old mid new more is kept =
    let le : length old ≤ length mid = let sum = length-append old more in let same = ap (λ (bytes : List ℕ). length bytes) is in omega (arith, sum, same) in
    sym (take-take (length old) (length mid) new le) ∙ ap (λ (bytes : List ℕ). take (length old) bytes) (kept ∙ is) ∙ take_at old more (length old) refl

-- the line of one more event
pub line-added : (old text new : List ℕ) (journal : List Event) (place : ℕ) (e : Event) → place < length journal → e ≡ get_or journal place e
    → text ≡ old ++ (first_line ++ concat (event_lines 0 (take place journal))) → new ≡ text ++ event_line place e
    → new ≡ old ++ (first_line ++ concat (event_lines 0 (take (place + 1) journal)))
line-added old text new journal place e less at here added =
    let before = concat (event_lines 0 (take place journal)) in
    let count : 0 + length (take place journal) ≡ place = let same = length-take-le place journal (omega arith) in omega (arith, same) in
    let more : take (place + 1) journal ≡ take place journal ++ e ∷ [] = take_more journal place e less ∙ ap (λ (x : Event). take place journal ++ x ∷ []) (sym at) in
    let lines : concat (event_lines 0 (take (place + 1) journal)) ≡ before ++ event_line place e =
    ap (λ (events : List Event). concat (event_lines 0 events)) more ∙ ap concat (event_lines-push 0 (take place journal) e ∙ ap (λ (n : ℕ). event_lines 0 (take place journal) ++ event_line n e ∷ []) count)
    ∙ concat-append (event_lines 0 (take place journal)) (event_line place e ∷ []) ∙ ap (λ (bytes : List ℕ). before ++ bytes) (append-nil (event_line place e)) in
    added ∙ ap (λ (bytes : List ℕ). bytes ++ event_line place e) here ∙ append_assoc old (first_line ++ before) (event_line place e)
    ∙ ap (λ (bytes : List ℕ). old ++ (first_line ++ bytes)) (sym lines)

on-ok : {A E P Q : Type 0} (r : Result A E) → (P → Q) → OnOk r P → OnOk r Q
on-ok (Ok value) f h = f h
on-ok (Err error) f h = h

-- the end line behind those of all events
pub all-added : {A E : Type 0} (r : Result A E) (old text new : List ℕ) (journal : List Event) (place : ℕ) → length journal ≤ place
    → text ≡ old ++ (first_line ++ concat (event_lines 0 (take place journal))) → OnOk r (new ≡ text ++ end_line (length journal)) → OnOk r (new ≡ old ++ journal_text journal)
all-added r old text new journal place past here added = on-ok r ends added
  where
    ends : new ≡ text ++ end_line (length journal) → new ≡ old ++ journal_text journal
    ends is =
        let before = concat (event_lines 0 journal) in
        let all : text ≡ old ++ (first_line ++ before) = here ∙ ap (λ (events : List Event). old ++ (first_line ++ concat (event_lines 0 events))) (take_all place journal past) in
        let lines : concat (event_lines 0 journal ++ end_line (length journal) ∷ []) ≡ before ++ end_line (length journal) =
        concat-append (event_lines 0 journal) (end_line (length journal) ∷ []) ∙ ap (λ (bytes : List ℕ). before ++ bytes) (append-nil (end_line (length journal))) in
        is ∙ ap (λ (bytes : List ℕ). bytes ++ end_line (length journal)) all ∙ append_assoc old (first_line ++ before) (end_line (length journal))
        ∙ ap (λ (bytes : List ℕ). old ++ (first_line ++ bytes)) (sym lines)
