-- The line of an event, taken apart.
use Rattle.std.proofs.Common.{◌≡◌, ◌≢◌, ℕ, ◌-◌, true, false, nat_eq, List, ◌++◌, length, take, drop, codes, Option, None, Some, Result, Ok, Err, IfOk, MatchOption, refl, sym, ap, ◌∙◌, append_assoc}
use Rattle.std.specs.Fmt.{decimal}
use Rattle.std.specs.Cmp.Lexicographic.{pointwise, bytes_decides}
use Rattle.std.proofs.lemmas.List.{take_at, take-append-drop, append_cancel_left, append_cancel_right}
use Rattle.std.proofs.lemmas.Bool.{true≢false}
use Rattle.std.proofs.lemmas.List.Prefix.{end_rest}
use Rattle.gaspi_types.specs.declared.events.Event.{Event}
use Rattle.gaspi_texts.specs.EventText.{event_text, IsInEventRange}
use Rattle.gaspi_texts.specs.JournalText.{event_line}

-- a text that another one does not begin
pub not-begun : (front line rest : List ℕ) → pointwise nat_eq (take (length front) line) front ≡ false → line ≡ front ++ rest → ⊥
not-begun front line rest unlike is =
    let begun : take (length front) line ≡ front = ap (λ (bytes : List ℕ). take (length front) bytes) is ∙ take_at front rest (length front) refl in
    true≢false (sym ((bytes_decides (take (length front) line) front).1 begun) ∙ unlike)

pub begun : (front line behind : List ℕ) → pointwise nat_eq (take (length front) line) front ≡ true → behind ≡ drop (length front) line → line ≡ front ++ behind
begun front line behind like rest =
    sym (take-append-drop (length front) line) ∙ ap (λ (bytes : List ℕ). bytes ++ drop (length front) line) ((bytes_decides (take (length front) line) front).0 like)
    ∙ ap (λ (bytes : List ℕ). front ++ bytes) (sym rest)

-- a text that another one does not end
not-ended : (end line front : List ℕ) → pointwise nat_eq (drop (length line - length end) line) end ≡ false → line ≡ front ++ end → ⊥
not-ended end line front unlike is =
    true≢false (sym ((bytes_decides (drop (length line - length end) line) end).1 (end_rest line end front is)) ∙ unlike)

ended : (end line front : List ℕ) → pointwise nat_eq (drop (length line - length end) line) end ≡ true → front ≡ take (length line - length end) line → line ≡ front ++ end
ended end line front like rest =
    sym (take-append-drop (length line - length end) line) ∙ ap (λ (bytes : List ℕ). bytes ++ drop (length line - length end) line) (sym rest)
    ∙ ap (λ (bytes : List ℕ). front ++ bytes) ((bytes_decides (drop (length line - length end) line) end).0 like)

-- the place, and the text with its line feed behind it
parts : (place : ℕ) (e : Event) → event_line place e ≡ (decimal place ++ codes " ") ++ (event_text e ++ codes "\n")
parts place e = append_assoc (decimal place ++ codes " ") (event_text e) (codes "\n")

pub other-place : (place : ℕ) (front line : List ℕ) (e : Event) → front ≡ decimal place ++ codes " " → pointwise nat_eq (take (length front) line) front ≡ false → line ≡ event_line place e → ⊥
other-place place front line e is unlike same =
    not-begun front line (event_text e ++ codes "\n") unlike (same ∙ parts place e ∙ ap (λ (bytes : List ℕ). bytes ++ (event_text e ++ codes "\n")) (sym is))

-- what stands behind the place of an event's line
behind-place : (place : ℕ) (front line behind : List ℕ) (e : Event) → front ≡ decimal place ++ codes " " → line ≡ front ++ behind → line ≡ event_line place e → behind ≡ event_text e ++ codes "\n"
behind-place place front line behind e is here same =
    append_cancel_left front behind (event_text e ++ codes "\n") (sym here ∙ same ∙ parts place e ∙ ap (λ (bytes : List ℕ). bytes ++ (event_text e ++ codes "\n")) (sym is))

pub no-feed : (place : ℕ) (front line behind : List ℕ) (e : Event) → front ≡ decimal place ++ codes " " → pointwise nat_eq (take (length front) line) front ≡ true → behind ≡ drop (length front) line
    → pointwise nat_eq (drop (length behind - 1) behind) (codes "\n") ≡ false → line ≡ event_line place e → ⊥
no-feed place front line behind e is like rest unlike same =
    not-ended (codes "\n") behind (event_text e) unlike (behind-place place front line behind e is (begun front line behind like rest) same)

-- the text between the place and the line feed is that of the event
pub event-read : {E : Type 0} (r : Result (Option Event) E) (place : ℕ) (front line behind text : List ℕ) → front ≡ decimal place ++ codes " " → pointwise nat_eq (take (length front) line) front ≡ true → behind ≡ drop (length front) line
    → pointwise nat_eq (drop (length behind - 1) behind) (codes "\n") ≡ true → text ≡ take (length behind - 1) behind
    → IfOk r (λ found. MatchOption found ((e : Event) → IsInEventRange e → text ≢ event_text e) (λ e. IsInEventRange e × (text ≡ event_text e)))
    → IfOk r (λ found. MatchOption found ((e : Event) → IsInEventRange e → line ≢ event_line place e) (λ e. IsInEventRange e × (line ≡ event_line place e)))
event-read (Err error) place front line behind text is like rest fed cut read = tt
event-read (Ok None) place front line behind text is like rest fed cut read = λ e range same.
    let here : behind ≡ event_text e ++ codes "\n" = behind-place place front line behind e is (begun front line behind like rest) same in
    let there : behind ≡ text ++ codes "\n" = ended (codes "\n") behind text fed cut in
    read e range (append_cancel_right text (event_text e) (codes "\n") (sym there ∙ here))
event-read (Ok (Some e)) place front line behind text is like rest fed cut read = (
  read.0,
  begun front line behind like rest ∙ ap (λ (bytes : List ℕ). front ++ bytes) (ended (codes "\n") behind text fed cut ∙ ap (λ (bytes : List ℕ). bytes ++ codes "\n") read.1)
      ∙ ap (λ (bytes : List ℕ). bytes ++ (event_text e ++ codes "\n")) is ∙ sym (parts place e),
)
