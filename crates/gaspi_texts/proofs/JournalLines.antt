-- The lines of a journal, each with its one line feed.
use Rattle.std.proofs.Common.{◌≡◌, ℕ, zero, suc, ◌+◌, ◌<◌, ◌/◌, ◌%◌, Bool, true, false, cond, not, ◌&&◌, ◌==◌, List, [], ◌∷◌, ◌++◌, length, codes, refl, sym, ap, ◌∙◌, arith}
use Rattle.std.specs.List.{list_all, All}
use Rattle.std.specs.Fmt.{decimal, digits, digits_onto, digit_glyph}
use Rattle.std.proofs.lemmas.Bool.{lt-ltb, true≢false}
use Rattle.std.proofs.lemmas.List.{append_cancel_left, append_cancel_right, same_from_push}
use Rattle.std.proofs.lemmas.List.Folds.{list_all-append}
use Rattle.std.proofs.lemmas.Bool.Decides.{nat_tests}
use Rattle.gaspi_types.specs.declared.events.Event.{Event}
use Rattle.gaspi_texts.specs.EventText.{event_text, IsInEventRange}
use Rattle.call_texts.specs.Lines.{fed_lines}
use Rattle.gaspi_texts.specs.JournalText.{first_line, event_line, end_line, event_lines, journal_lines, journal_text, AreInRange}
use Rattle.call_texts.proofs.FedLines.{is_other, IsWhole, AreWhole, fed_lines-concat}

-- the laws of the texts of events: none has a line feed, and different events have different ones
abbrev pub HaveNoFeeds : Type 0
HaveNoFeeds = (event : Event) → IsInEventRange event → All (λ byte. (byte == 10) ≡ false) (event_text event)

abbrev pub Differ : Type 0
Differ = (first second : Event) → IsInEventRange first → IsInEventRange second → event_text first ≡ event_text second → first ≡ second

-- a test that every digit passes
abbrev pub PassesDigits : (ℕ → Bool) → Type 0
PassesDigits test = (d : ℕ) → d < 10 → test (48 + d) ≡ true

glyph-passes : (test : ℕ → Bool) → PassesDigits test → (n : ℕ) → test (digit_glyph false (n % 10)) ≡ true
glyph-passes test digit n =
    let less : n % 10 < 10 = omega arith in
    rw (lt-ltb (n % 10) 10 less) (digit (n % 10) less)

chosen : (test : ℕ → Bool) (choice : Bool) (xs ys : List ℕ) → list_all test xs ≡ true → list_all test ys ≡ true → list_all test (cond choice xs ys) ≡ true
chosen test true xs ys hx hy = hx
chosen test false xs ys hx hy = hy

digits-pass : (test : ℕ → Bool) → PassesDigits test → (k n : ℕ) (acc : List ℕ) → list_all test acc ≡ true → list_all test (digits_onto k 10 false n acc) ≡ true
digits-pass test digit zero n acc h = h
digits-pass test digit (suc k) n acc h =
    let more : list_all test (digit_glyph false (n % 10) ∷ acc) ≡ true = rw (glyph-passes test digit n) h in
    chosen test (n / 10 == 0) _ _ more (digits-pass test digit k (n / 10) (digit_glyph false (n % 10) ∷ acc) more)

-- so do all digits of a number
pub decimal-passes : (test : ℕ → Bool) → PassesDigits test → (n : ℕ) → list_all test (decimal n) ≡ true
unfolding digits
decimal-passes test digit n = digits-pass test digit 64 n [] refl

digit-other : PassesDigits is_other
digit-other d less = grind (arith, nat_tests)

abbrev is_no_e : ℕ → Bool
is_no_e byte = not (byte == 101)

digit-no-e : PassesDigits is_no_e
digit-no-e d less = grind (arith, nat_tests)

abbrev first_byte : List ℕ → ℕ
first_byte [] = 0
first_byte (byte ∷ bytes) = byte

not-false : (b : Bool) → not b ≡ true → b ≡ false
not-false true h = sym h
not-false false h = refl

and-parts : (a b : Bool) → (a && b) ≡ true → (a ≡ true) × (b ≡ true)
and-parts true b h = (refl, h)
and-parts false b h = absurd (let no : ⊥ = cc in no)

-- the line of an event is no end line: it begins with a digit or a space
digits-no-end : (ds text more : List ℕ) → list_all is_no_e ds ≡ true → ds ++ 32 ∷ [] ++ text ++ 10 ∷ [] ≡ 101 ∷ more → ⊥
digits-no-end [] text more h is = true≢false (ap (λ (bytes : List ℕ). first_byte bytes == 101) (sym is))
digits-no-end (d ∷ ds) text more h is =
    let first : (d == 101) ≡ true = ap (λ (bytes : List ℕ). first_byte bytes == 101) is in
    true≢false (sym first ∙ not-false (d == 101) (and-parts (is_no_e d) (list_all is_no_e ds) h).0)

pub event-no-end : (place count : ℕ) (e : Event) → event_line place e ≡ end_line count → ⊥
event-no-end place count e is = digits-no-end (decimal place) (event_text e) _ (decimal-passes is_no_e digit-no-e place) is

-- bytes of which none is a line feed
all-other : (xs : List ℕ) → All (λ byte. (byte == 10) ≡ false) xs → list_all is_other xs ≡ true
all-other [] h = refl
all-other (x ∷ xs) h = rw (h 0 x (omega arith)) (all-other xs (λ k d less. h (suc k) d (omega arith)))

both : (xs ys : List ℕ) → list_all is_other xs ≡ true → list_all is_other ys ≡ true → list_all is_other (xs ++ ys) ≡ true
both xs ys hx hy = list_all-append is_other xs ys ∙ rw (hx, hy) refl

event-whole : HaveNoFeeds → (place : ℕ) (e : Event) → IsInEventRange e → IsWhole (event_line place e)
event-whole feeds place e range = record {
  front = decimal place ++ codes " " ++ event_text e;
  other = both (decimal place ++ codes " ") (event_text e) (both (decimal place) (codes " ") (decimal-passes is_other digit-other place) refl) (all-other (event_text e) (feeds e range));
  is = refl;
}

end-whole : (count : ℕ) → IsWhole (end_line count)
end-whole count = record {
  front = codes "end " ++ decimal count;
  other = both (codes "end ") (decimal count) refl (decimal-passes is_other digit-other count);
  is = refl;
}

first-whole : IsWhole first_line
first-whole = record { front = codes "journal 1"; other = refl; is = refl }

-- the first event and those behind it
pub first-in : (e : Event) (events : List Event) → AreInRange (e ∷ events) → IsInEventRange e
first-in e events h = h 0 e (omega arith)

pub rest-in : (e : Event) (events : List Event) → AreInRange (e ∷ events) → AreInRange events
rest-in e events h = λ k d less. h (suc k) d (omega arith)

lines-whole : HaveNoFeeds → (place count : ℕ) (events : List Event) → AreInRange events → AreWhole (event_lines place events ++ end_line count ∷ [])
lines-whole feeds place count [] h = (end-whole count, tt)
lines-whole feeds place count (e ∷ events) h = (event-whole feeds place e (first-in e events h), lines-whole feeds (place + 1) count events (rest-in e events h))

-- the lines of a journal's text are the journal's lines
pub fed_lines-journal : HaveNoFeeds → (journal : List Event) → AreInRange journal → fed_lines (journal_text journal) ≡ journal_lines journal
fed_lines-journal feeds journal h = fed_lines-concat (journal_lines journal) (first-whole, lines-whole feeds 0 (length journal) journal h)

-- equal lines of events are those of equal events
same-lines : Differ → (place : ℕ) (a b : List Event) → AreInRange a → AreInRange b → event_lines place a ≡ event_lines place b → a ≡ b
same-lines differ place [] [] ha hb is = refl
same-lines differ place [] (y ∷ ys) ha hb is = absurd (let no : ⊥ = cc in no)
same-lines differ place (x ∷ xs) [] ha hb is = absurd (let no : ⊥ = cc in no)
same-lines differ place (x ∷ xs) (y ∷ ys) ha hb is =
    let line : event_line place x ≡ event_line place y = cc in
    let lines : event_lines (place + 1) xs ≡ event_lines (place + 1) ys = cc in
    let text : event_text x ≡ event_text y = append_cancel_left (decimal place ++ codes " ") (event_text x) (event_text y) (append_cancel_right (decimal place ++ codes " " ++ event_text x) (decimal place ++ codes " " ++ event_text y) (codes "\n") line) in
    let event : x ≡ y = differ x y (first-in x xs ha) (first-in y ys hb) text in
    let events : xs ≡ ys = same-lines differ (place + 1) xs ys (rest-in x xs ha) (rest-in y ys hb) lines in
    cc

-- journals in range with the same text are equal
pub same-journals : HaveNoFeeds → Differ → (a b : List Event) → AreInRange a → AreInRange b → journal_text a ≡ journal_text b → a ≡ b
same-journals feeds differ a b ha hb is =
    let lines : journal_lines a ≡ journal_lines b = sym (fed_lines-journal feeds a ha) ∙ ap fed_lines is ∙ fed_lines-journal feeds b hb in
    let behind : event_lines 0 a ++ end_line (length a) ∷ [] ≡ event_lines 0 b ++ end_line (length b) ∷ [] = cc in
    same-lines differ 0 a b ha hb (same_from_push (event_lines 0 a) (event_lines 0 b) (end_line (length a)) (end_line (length b)) behind).0
