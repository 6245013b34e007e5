-- A journal read line by line, and where that stops.
use Rattle.std.proofs.Common.{◌≡◌, ◌≢◌, ℕ, suc, ◌+◌, ◌-◌, ◌<◌, ◌≤◌, Bool, true, false, List, [], ◌∷◌, ◌++◌, length, take, drop, refl, sym, ap, ◌∙◌, subst, arith, append_assoc, append-nil, length-append, ◌==◌}
use Rattle.std.specs.List.{concat}
use Rattle.std.proofs.lemmas.List.{take_at, take_all, take-append-drop}
use Rattle.std.proofs.lemmas.Bool.Decides.{nat_tests}
use Rattle.std.proofs.lemmas.List.Elements.{All-push}
use Rattle.gaspi_types.specs.declared.events.Event.{Event}
use Rattle.gaspi_texts.specs.EventText.{IsInEventRange}
use Rattle.call_texts.specs.Lines.{fed_lines}
use Rattle.gaspi_texts.specs.JournalText.{first_line, event_line, end_line, event_lines, journal_lines, journal_text, AreInRange, ArePrefixLines, IsFaultyAt}
use Rattle.call_texts.proofs.FedLines.{concat-fed_lines}
use Rattle.gaspi_texts.proofs.JournalLines.{HaveNoFeeds, fed_lines-journal, event-no-end, first-in, rest-in}

-- one more event
pub event_lines-push : (place : ℕ) (events : List Event) (e : Event) → event_lines place (events ++ e ∷ []) ≡ event_lines place events ++ event_line (place + length events) e ∷ []
event_lines-push place [] e = let same : place ≡ place + 0 = omega arith in ap (λ (n : ℕ). event_line n e ∷ []) same
event_lines-push place (x ∷ events) e =
    let same : place + 1 + length events ≡ place + suc (length events) = omega arith in
    ap (λ (lines : List (List ℕ)). event_line place x ∷ lines) (event_lines-push (place + 1) events e ∙ ap (λ (n : ℕ). event_lines (place + 1) events ++ event_line n e ∷ []) same)

pub length-event_lines : (place : ℕ) (events : List Event) → length (event_lines place events) ≡ length events
length-event_lines place [] = refl
length-event_lines place (e ∷ events) = ap suc (length-event_lines (place + 1) events)

-- the lines before the next one
abbrev pub lines_before : List Event → List (List ℕ)
lines_before journal = first_line ∷ event_lines 0 journal

-- What is read so far: the first line and these events, and the rest of the text is what follows.
pub record HasRead (text : List ℕ) (journal : List Event) (rest : List ℕ) : Type 0 where
  pub lines : fed_lines text ≡ lines_before journal ++ fed_lines rest
  pub ranges : AreInRange journal
  pub room : length journal + length rest + 10 ≤ length text

none-in : AreInRange []
none-in k d less = absurd (omega arith)

pub started : (rest : List ℕ) → HasRead (first_line ++ rest) [] rest
started rest = record { lines = refl; ranges = none-in; room = omega arith }

pub read-more : (text rest later line : List ℕ) (journal : List Event) (e : Event) → HasRead text journal rest → fed_lines rest ≡ line ∷ fed_lines later → length later < length rest
    → IsInEventRange e → line ≡ event_line (length journal) e → HasRead text (journal ++ e ∷ []) later
read-more text rest later line journal e h first shorter range is =
    let pushed : event_lines 0 (journal ++ e ∷ []) ≡ event_lines 0 journal ++ line ∷ [] =
    event_lines-push 0 journal e ∙ ap (λ (l : List ℕ). event_lines 0 journal ++ l ∷ []) (ap (λ (n : ℕ). event_line n e) (let same : 0 + length journal ≡ length journal = omega arith in same) ∙ sym is) in
    let count = length-append journal (e ∷ []) in
    record {
      lines = h.lines ∙ ap (λ (ls : List (List ℕ)). lines_before journal ++ ls) first ∙ sym (append_assoc (lines_before journal) (line ∷ []) (fed_lines later))
          ∙ ap (λ (ls : List (List ℕ)). first_line ∷ ls ++ fed_lines later) (sym pushed);
      ranges = All-push IsInEventRange journal e h.ranges range;
      room = let before = h.room in omega arith;
    }

-- the end line ends the text
pub read-all : (text rest later line : List ℕ) (journal : List Event) → HasRead text journal rest → fed_lines rest ≡ line ∷ fed_lines later → line ≡ end_line (length journal) → length later ≡ 0
    → text ≡ journal_text journal
read-all text rest [] line journal h first is empty =
    sym (concat-fed_lines text) ∙ ap concat (h.lines ∙ ap (λ (ls : List (List ℕ)). lines_before journal ++ ls) (first ∙ ap (λ (l : List ℕ). l ∷ []) is))
read-all text rest (byte ∷ later) line journal h first is empty = absurd (omega arith)

no-nil : (xs ys : List (List ℕ)) (l : List ℕ) → [] ≡ xs ++ l ∷ ys → ⊥
no-nil [] ys l is = cc
no-nil (x ∷ xs) ys l is = cc

prefix-kept : (front tail : List (List ℕ)) → take (length front) (front ++ tail) ≡ front
prefix-kept front tail = take_at front tail (length front) refl

one-more : (front ls : List (List ℕ)) (l : List ℕ) → take (length front + 1) (front ++ l ∷ ls) ≡ front ++ l ∷ []
one-more front ls l =
    let count : length (front ++ l ∷ []) ≡ length front + 1 = length-append front (l ∷ []) in
    ap (λ (lines : List (List ℕ)). take (length front + 1) lines) (sym (append_assoc front (l ∷ []) ls)) ∙ take_at (front ++ l ∷ []) ls (length front + 1) count

-- The line after a front that begins a journal is faulty where the front with that line begins none, and where there is
-- no such line, the front is no whole journal.
fault-after : HaveNoFeeds → (text : List ℕ) (front tail : List (List ℕ)) → fed_lines text ≡ front ++ tail → ArePrefixLines front
    → ((l : List ℕ) (ls : List (List ℕ)) → tail ≡ l ∷ ls → ArePrefixLines (front ++ l ∷ []) → ⊥)
    → (tail ≡ [] → (journal : List Event) → front ≡ journal_lines journal → ⊥)
    → IsFaultyAt text (length front + 1)
fault-after feeds text front [] lines begins bad short =
    let all : fed_lines text ≡ front = lines ∙ append-nil front in
    let count : length (fed_lines text) ≡ length front = ap (λ (ls : List (List ℕ)). length ls) all in
    let less : length front + 1 - 1 ≡ length front = omega arith in
    record {
      other = λ journal range is. short refl journal (sym all ∙ ap fed_lines is ∙ fed_lines-journal feeds journal range);
      some = omega arith;
      within = omega arith;
      before = rw (less, all) (subst ArePrefixLines (sym (take_all (length front) front (let le : length front ≤ length front = omega arith in le))) begins);
      first = λ there. absurd (omega arith);
    }
fault-after feeds text front (l ∷ ls) lines begins bad short =
    let count : length (fed_lines text) ≡ length front + suc (length ls) = ap (λ (ls : List (List ℕ)). length ls) lines ∙ length-append front (l ∷ ls) in
    let less : length front + 1 - 1 ≡ length front = omega arith in
    let more : take (length front + 1) (fed_lines text) ≡ front ++ l ∷ [] = ap (λ (ls : List (List ℕ)). take (length front + 1) ls) lines ∙ one-more front ls l in
    record {
      other = λ journal range is.
          let whole : journal_lines journal ≡ front ++ l ∷ ls = sym (fed_lines-journal feeds journal range) ∙ ap fed_lines (sym is) ∙ lines in
          bad l ls refl (record {
            journal = journal;
            ranges = range;
            front = ap (λ (n : ℕ). take n (journal_lines journal)) (length-append front (l ∷ [])) ∙ ap (λ (ls : List (List ℕ)). take (length front + 1) ls) whole ∙ one-more front ls l;
          });
      some = omega arith;
      within = omega arith;
      before = subst ArePrefixLines (sym (ap (λ (n : ℕ). take n (fed_lines text)) less ∙ ap (λ (ls : List (List ℕ)). take (length front) ls) lines ∙ prefix-kept front (l ∷ ls))) begins;
      first = λ there begun. bad l ls refl (subst ArePrefixLines more begun);
    }

-- lines that begin a journal are followed by its others
followed : (front : List (List ℕ)) (b : ArePrefixLines front) → journal_lines b.journal ≡ front ++ drop (length front) (journal_lines b.journal)
followed front b = sym (take-append-drop (length front) (journal_lines b.journal)) ∙ ap (λ (ls : List (List ℕ)). ls ++ drop (length front) (journal_lines b.journal)) b.front

-- At the place after some events, a journal has an event or its end.
at-place : (place count m : ℕ) (H journal : List Event) (l : List ℕ) (ls : List (List ℕ)) → AreInRange H → count ≡ place + length H → m ≡ place + length journal
    → event_lines place H ++ end_line count ∷ [] ≡ event_lines place journal ++ l ∷ ls
    → ((e : Event) → IsInEventRange e → l ≢ event_line m e) → l ≢ end_line m → ⊥
at-place place count m [] [] l ls range hc hm is event end =
    let same : m ≡ count = omega arith in
    let line : l ≡ end_line count = cc in
    end (line ∙ ap (λ (n : ℕ). end_line n) (sym same))
at-place place count m (h ∷ H) [] l ls range hc hm is event end =
    let same : m ≡ place = omega arith in
    let line : l ≡ event_line place h = cc in
    event h (first-in h H range) (line ∙ ap (λ (n : ℕ). event_line n h) (sym same))
at-place place count m [] (j ∷ journal) l ls range hc hm is event end =
    let none : [] ≡ event_lines (place + 1) journal ++ l ∷ ls = cc in
    no-nil (event_lines (place + 1) journal) ls l none
at-place place count m (h ∷ H) (j ∷ journal) l ls range hc hm is event end =
    let behind : event_lines (place + 1) H ++ end_line count ∷ [] ≡ event_lines (place + 1) journal ++ l ∷ ls = cc in
    at-place (place + 1) count m H journal l ls (rest-in h H range) (omega arith) (omega arith) behind event end

-- Nothing comes after the end line.
after-end : (place count m : ℕ) (H journal : List Event) (l : List ℕ) (ls : List (List ℕ))
    → event_lines place H ++ end_line count ∷ [] ≡ event_lines place journal ++ end_line m ∷ l ∷ ls → ⊥
after-end place count m [] [] l ls is = let none : [] ≡ l ∷ ls = cc in no-nil [] ls l none
after-end place count m (h ∷ H) [] l ls is = let line : event_line place h ≡ end_line m = cc in event-no-end place m h line
after-end place count m [] (j ∷ journal) l ls is =
    let none : [] ≡ event_lines (place + 1) journal ++ end_line m ∷ l ∷ ls = cc in
    no-nil (event_lines (place + 1) journal) (l ∷ ls) (end_line m) none
after-end place count m (h ∷ H) (j ∷ journal) l ls is =
    let behind : event_lines (place + 1) H ++ end_line count ∷ [] ≡ event_lines (place + 1) journal ++ end_line m ∷ l ∷ ls = cc in
    after-end (place + 1) count m H journal l ls behind

-- Events alone are no whole journal.
no-end : (place count : ℕ) (H journal : List Event) → event_lines place journal ≡ event_lines place H ++ end_line count ∷ [] → ⊥
no-end place count H [] is = no-nil (event_lines place H) [] (end_line count) is
no-end place count [] (j ∷ journal) is = let line : event_line place j ≡ end_line count = cc in event-no-end place count j line
no-end place count (h ∷ H) (j ∷ journal) is =
    let behind : event_lines (place + 1) journal ≡ event_lines (place + 1) H ++ end_line count ∷ [] = cc in
    no-end (place + 1) count H journal behind

begun : (journal : List Event) → AreInRange journal → ArePrefixLines (lines_before journal)
begun journal range = record { journal = journal; ranges = range; front = prefix-kept (lines_before journal) (end_line (length journal) ∷ []) }

count-before : (journal : List Event) → length (lines_before journal) + 1 ≡ length journal + 2
count-before journal = let same = length-event_lines 0 journal in omega (arith, same)

no-lines : (text : List ℕ) → fed_lines text ≡ [] → text ≡ []
no-lines text none = sym (concat-fed_lines text) ∙ ap concat none

-- the next line is neither that of an event nor the end line
pub bad-line : HaveNoFeeds → (text rest later line : List ℕ) (journal : List Event) → HasRead text journal rest → fed_lines rest ≡ line ∷ fed_lines later
    → ((e : Event) → IsInEventRange e → line ≢ event_line (length journal) e) → line ≢ end_line (length journal) → IsFaultyAt text (length journal + 2)
bad-line feeds text rest later line journal h first event end =
    subst (λ (n : ℕ). IsFaultyAt text n) (count-before journal)
    (fault-after feeds text (lines_before journal) (line ∷ fed_lines later) (h.lines ∙ ap (λ (ls : List (List ℕ)). lines_before journal ++ ls) first) (begun journal h.ranges)
    (λ l ls is b.
    let l-is : line ≡ l = cc in
    let whole = followed (lines_before journal ++ l ∷ []) b ∙ append_assoc (lines_before journal) (l ∷ []) (drop (length (lines_before journal ++ l ∷ [])) (journal_lines b.journal)) in
    let behind : event_lines 0 b.journal ++ end_line (length b.journal) ∷ [] ≡ event_lines 0 journal ++ l ∷ drop (length (lines_before journal ++ l ∷ [])) (journal_lines b.journal) = cc (whole) in
    at-place 0 (length b.journal) (length journal) b.journal journal l _ b.ranges (omega arith) (omega arith) behind
    (λ e range same. event e range (l-is ∙ same)) (λ same. end (l-is ∙ same)))
    (λ none journal is. absurd (let no : ⊥ = cc in no)))

-- something follows the end line
pub late-line : HaveNoFeeds → (text rest later line : List ℕ) (journal : List Event) → HasRead text journal rest → fed_lines rest ≡ line ∷ fed_lines later
    → line ≡ end_line (length journal) → 0 < length later → IsFaultyAt text (length journal + 3)
late-line feeds text rest later line journal h first end filled =
    subst (λ (n : ℕ). IsFaultyAt text n) count
    (fault-after feeds text (journal_lines journal) (fed_lines later) lines
    (record { journal = journal; ranges = h.ranges; front = take_all (length (journal_lines journal)) (journal_lines journal) (let le : length (journal_lines journal) ≤ length (journal_lines journal) = omega arith in le) })
    (λ l ls is b.
    let rest-lines = drop (length (journal_lines journal ++ l ∷ [])) (journal_lines b.journal) in
    let whole : journal_lines b.journal ≡ journal_lines journal ++ l ∷ rest-lines = followed (journal_lines journal ++ l ∷ []) b ∙ append_assoc (journal_lines journal) (l ∷ []) rest-lines in
    let lines-behind : event_lines 0 b.journal ++ end_line (length b.journal) ∷ [] ≡ (event_lines 0 journal ++ end_line (length journal) ∷ []) ++ l ∷ rest-lines = cc (whole) in
    after-end 0 (length b.journal) (length journal) b.journal journal l rest-lines (lines-behind ∙ append_assoc (event_lines 0 journal) (end_line (length journal) ∷ []) (l ∷ rest-lines)))
    (λ none other is. let empty : length later ≡ 0 = ap (λ (t : List ℕ). length t) (no-lines later none) in absurd (omega arith)))
  where
    lines : fed_lines text ≡ journal_lines journal ++ fed_lines later
    lines = h.lines ∙ ap (λ (ls : List (List ℕ)). lines_before journal ++ ls) (first ∙ ap (λ (l : List ℕ). l ∷ fed_lines later) end)
        ∙ sym (append_assoc (lines_before journal) (end_line (length journal) ∷ []) (fed_lines later))

    count : length (journal_lines journal) + 1 ≡ length journal + 3
    count = let same = length-event_lines 0 journal in let sum = length-append (event_lines 0 journal) (end_line (length journal) ∷ []) in omega (arith, same, sum)

-- the text ends before the end line
pub no-end-line : HaveNoFeeds → (text rest : List ℕ) (journal : List Event) → HasRead text journal rest → length rest ≡ 0 → IsFaultyAt text (length journal + 2)
no-end-line feeds text [] journal h empty =
    subst (λ (n : ℕ). IsFaultyAt text n) (count-before journal)
    (fault-after feeds text (lines_before journal) [] h.lines (begun journal h.ranges)
    (λ l ls is b. absurd (let no : ⊥ = cc in no))
    (λ none other is. let behind : event_lines 0 journal ≡ event_lines 0 other ++ end_line (length other) ∷ [] = cc in no-end 0 (length other) other journal behind))
no-end-line feeds text (byte ∷ rest) journal h empty = absurd (omega arith)

-- the text has another first line
pub bad-first : HaveNoFeeds → (text : List ℕ) → ((rest : List ℕ) → text ≡ first_line ++ rest → ⊥) → IsFaultyAt text 1
bad-first feeds text other =
    fault-after feeds text [] (fed_lines text) refl (record { journal = []; ranges = none-in; front = refl })
    (λ l ls is b.
    let line : first_line ≡ l = cc (b.front) in
    other (concat ls) (sym (concat-fed_lines text) ∙ ap concat (is ∙ ap (λ (line : List ℕ). line ∷ ls) (sym line))))
    (λ none journal is. absurd (let no : ⊥ = cc in no))

-- what tests tell
pub is-empty : (n : ℕ) → (n == 0) ≡ true → n ≡ 0
is-empty n h = grind (arith, nat_tests)

pub is-filled : (n : ℕ) → (n == 0) ≡ false → 0 < n
is-filled n h = grind (arith, nat_tests)

pub is-not : {P : Type 0} (b : Bool) → b ≡ false → (P → b ≡ true) → P → ⊥
is-not b h f p = let t = f p in cc (h, t)
