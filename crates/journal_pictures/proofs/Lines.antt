-- What a loop over a list writes, item by item.
use Rattle.std.proofs.Common.{◌≡◌, ℕ, zero, suc, ◌+◌, ◌<◌, ◌≤◌, List, [], ◌∷◌, ◌++◌, get_or, drop, length, map, refl, sym, ap, ◌∙◌, arith, append_assoc, append-nil}
use Rattle.std.proofs.lemmas.List.{drop_all, drop_more}
use Rattle.std.specs.List.{flat_map, range_with_len}
use Rattle.serde_json.specs.Data.{Data}
use Rattle.journal_pictures.specs.JsonLines.{line, lines}
use Rattle.gaspi_types.specs.declared.events.Event.{Event}
use Rattle.journal_pictures.specs.OpenEntries.{entries_after, numbered, put_entry, slots_after}
use Rattle.journal_pictures.specs.Trace.{event_objects, objects_from}
use Rattle.journal_pictures.specs.declared.open_entries.RankEntries.{RankEntries}
use Rattle.journal_pictures.specs.declared.set_slots.SetSlot.{SetSlot}
use Rattle.journal_pictures.specs.declared.deliveries.Delivery.{Delivery}
use Rattle.journal_pictures.specs.declared.open_entries.OpenEntry.{OpenEntry}
use Rattle.journal_pictures.proofs.NumberRanges.{flat_map-range}

pub lines-append : (xs ys : List Data) → lines (xs ++ ys) ≡ lines xs ++ lines ys
lines-append [] ys = refl
lines-append (d ∷ ds) ys = ap (λ (t : List ℕ). line d ++ t) (lines-append ds ys) ∙ sym (append_assoc (line d) (lines ds) (lines ys))

-- what is left, from the next item on
pub next-there : {A : Type 0} (xs : List A) (i : ℕ) (x : A) → i < length xs → x ≡ get_or xs i x → drop i xs ≡ x ∷ drop (i + 1) xs
next-there xs i x within is = drop_more xs i x within ∙ ap (λ y. y ∷ drop (i + 1) xs) (sym is)

-- one item more: the text so far with the lines of those that are left is the same
pub lines-step : {A : Type 0} (f : A → Data) (xs : List A) (i : ℕ) (x : A) (old new all : List ℕ) → i < length xs → x ≡ get_or xs i x → new ≡ old ++ line (f x) → old ++ lines (map f (drop i xs)) ≡ all
    → new ++ lines (map f (drop (i + 1) xs)) ≡ all
lines-step {A} f xs i x old new all within is added before =
    ap (λ (t : List ℕ). t ++ lines (map f (drop (i + 1) xs))) added ∙ append_assoc old (line (f x)) (lines (map f (drop (i + 1) xs)))
    ∙ ap (λ (ys : List A). old ++ lines (map f ys)) (sym (next-there xs i x within is)) ∙ before

pub lines-end : {A : Type 0} (f : A → Data) (xs : List A) (i : ℕ) (text all : List ℕ) → length xs ≤ i → text ++ lines (map f (drop i xs)) ≡ all → text ≡ all
lines-end {A} f xs i text all ended before =
    sym (append-nil text) ∙ ap (λ (ys : List A). text ++ lines (map f ys)) (sym (drop_all i xs ended)) ∙ before

-- one entry more
abbrev entry_at : ℕ → ℕ → ℕ → Delivery → OpenEntry
entry_at queue target n d = record { queue = queue; target = target; number = n; delivery = d }

pub numbered-step : (queue target next i : ℕ) (ds : List Delivery) (d : Delivery) (old new all : List OpenEntry) → i < length ds → d ≡ get_or ds i d → new ≡ old ++ entry_at queue target (next + i) d ∷ []
    → old ++ numbered queue target (next + i) (drop i ds) ≡ all → new ++ numbered queue target (next + (i + 1)) (drop (i + 1) ds) ≡ all
numbered-step queue target next i ds d old new all within is added before =
    ap (λ (t : List OpenEntry). t ++ numbered queue target (next + (i + 1)) (drop (i + 1) ds)) added
    ∙ append_assoc old (entry_at queue target (next + i) d ∷ []) (numbered queue target (next + (i + 1)) (drop (i + 1) ds))
    ∙ ap (λ (n : ℕ). old ++ entry_at queue target (next + i) d ∷ numbered queue target n (drop (i + 1) ds)) (let same : next + (i + 1) ≡ next + i + 1 = omega arith in same)
    ∙ ap (λ (ys : List Delivery). old ++ numbered queue target (next + i) ys) (sym (next-there ds i d within is)) ∙ before

pub numbered-end : (queue target n i : ℕ) (ds : List Delivery) (list all : List OpenEntry) → length ds ≤ i → list ++ numbered queue target n (drop i ds) ≡ all → list ≡ all
numbered-end queue target n i ds list all ended before =
    sym (append-nil list) ∙ ap (λ (ys : List Delivery). list ++ numbered queue target n ys) (sym (drop_all i ds ended)) ∙ before

-- One number more.

map-range : {B : Type 0} (f : ℕ → B) (a n : ℕ) → map f (range_with_len a (suc n)) ≡ map f (range_with_len a n) ++ f (a + n) ∷ []
map-range {B} f a zero = ap (λ (k : ℕ). f k ∷ []) (let same : a ≡ a + 0 = omega arith in same)
map-range {B} f a (suc n) =
    ap (λ (r : List B). f a ∷ r) (map-range f (a + 1) n)
    ∙ ap (λ (k : ℕ). (f a ∷ map f (range_with_len (a + 1) n)) ++ f k ∷ []) (let same : a + 1 + n ≡ a + suc n = omega arith in same)

-- a line for each number from a on
pub lines-more : (f : ℕ → Data) (a n m k : ℕ) (first old new : List ℕ) → m ≡ suc n → k ≡ a + n → new ≡ old ++ line (f k) → old ≡ first ++ lines (map f (range_with_len a n)) → new ≡ first ++ lines (map f (range_with_len a m))
lines-more f a n m k first old new more at added before =
    added ∙ ap (λ (t : List ℕ). t ++ line (f k)) before ∙ append_assoc first (lines (map f (range_with_len a n))) (line (f k))
    ∙ ap (λ (t : List ℕ). first ++ t) (
    ap (λ (t : List ℕ). lines (map f (range_with_len a n)) ++ t) (sym (append-nil (line (f k))))
    ∙ sym (lines-append (map f (range_with_len a n)) (f k ∷ []))
    ∙ ap (λ (j : ℕ). lines (map f (range_with_len a n) ++ f j ∷ [])) at
    ∙ ap lines (sym (map-range f a n))
    ∙ ap (λ (j : ℕ). lines (map f (range_with_len a j))) (sym more)
    )

-- the lines of a list for each number
pub lists-more : (f : ℕ → List Data) (n : ℕ) (first old new : List ℕ) → new ≡ old ++ lines (f n) → old ≡ first ++ lines (flat_map f (range_with_len 0 n)) → new ≡ first ++ lines (flat_map f (range_with_len 0 (n + 1)))
lists-more f n first old new added before =
    added ∙ ap (λ (t : List ℕ). t ++ lines (f n)) before ∙ append_assoc first (lines (flat_map f (range_with_len 0 n))) (lines (f n))
    ∙ ap (λ (t : List ℕ). first ++ t) (sym (lines-append (flat_map f (range_with_len 0 n)) (f n)) ∙ ap lines (sym (flat_map-range f n)))

-- one event more
pub objects-step : (ranks : List RankEntries) (slots : List SetSlot) (place : ℕ) (events : List Event) (e : Event) (old new all : List ℕ) (ranks' : List RankEntries) (slots' : List SetSlot) → place < length events → e ≡ get_or events place e
    → new ≡ old ++ lines (event_objects ranks slots place e) → ranks' ≡ entries_after e ranks → slots' ≡ slots_after (put_entry ranks e) place e slots
    → old ++ lines (objects_from ranks slots place (drop place events)) ≡ all → new ++ lines (objects_from ranks' slots' (place + 1) (drop (place + 1) events)) ≡ all
objects-step ranks slots place events e old new all ranks' slots' within is added passed set before =
    let rest = objects_from (entries_after e ranks) (slots_after (put_entry ranks e) place e slots) (place + 1) (drop (place + 1) events) in
    rw (passed, set) (
    ap (λ (t : List ℕ). t ++ lines rest) added ∙ append_assoc old (lines (event_objects ranks slots place e)) (lines rest)
    ∙ ap (λ (t : List ℕ). old ++ t) (sym (lines-append (event_objects ranks slots place e) rest))
    ∙ ap (λ (es : List Event). old ++ lines (objects_from ranks slots place es)) (sym (next-there events place e within is)) ∙ before
    )

pub objects-end : (ranks : List RankEntries) (slots : List SetSlot) (place : ℕ) (events : List Event) (text all : List ℕ) → length events ≤ place → text ++ lines (objects_from ranks slots place (drop place events)) ≡ all → text ≡ all
objects-end ranks slots place events text all ended before =
    sym (append-nil text) ∙ ap (λ (es : List Event). text ++ lines (objects_from ranks slots place es)) (sym (drop_all place events ended)) ∙ before
