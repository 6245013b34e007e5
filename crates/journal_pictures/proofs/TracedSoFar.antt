-- A trace that goes to a sink block by block.
use Rattle.std.proofs.Common.{◌≡◌, ℕ, ◌+◌, ◌<◌, ◌≤◌, List, [], ◌++◌, codes, drop, get_or, length, Option, Result, Ok, Err, refl, sym, ap, subst, ◌∙◌, append_assoc, append-nil, arith, length-append}
use Rattle.std.specs.Result.{OnErr}
use Rattle.std.proofs.lemmas.List.{drop_all}
use Rattle.gaspi_types.specs.World.{ShapeValue}
use Rattle.gaspi_types.specs.declared.events.Event.{Event}
use Rattle.gaspi_io.specs.Blocks.{IsOnItsWay}
use Rattle.gaspi_io.specs.Sink.{with_more, AddsPrefix}
use Rattle.gaspi_io.proofs.OnItsWay.{arrived-whole, block-written, cut-before, cut-in-block, more-behind, nothing-yet}
use Rattle.serde_json.specs.Written.{compact_text}
use Rattle.journal_pictures.specs.JsonLines.{lines}
use Rattle.journal_pictures.specs.OpenEntries.{entries_after, put_entry, slots_after}
use Rattle.journal_pictures.specs.Trace.{event_objects, names, nothing_open, objects_from, rank_name, trace_text}
use Rattle.journal_pictures.specs.declared.open_entries.RankEntries.{RankEntries}
use Rattle.journal_pictures.specs.declared.set_slots.SetSlot.{SetSlot}
use Rattle.journal_pictures.proofs.Lines.{lines-append, next-there}

-- what is behind the last line
abbrev end : List ℕ
end = codes "\n]\n"

-- the text of the events before a place is on its way, and those from the place on are left
pub record IsTraced (w : ShapeValue) (journal : List Event) (old held : Option (List ℕ)) (block : List ℕ) (ranks : List RankEntries) (slots : List SetSlot) (place : ℕ) : Type 0 where
  pub text : List ℕ
  pub way : IsOnItsWay old text held block
  pub left : text ++ (lines (objects_from ranks slots place (drop place journal)) ++ end) ≡ trace_text w journal

pub traced-first : (w : ShapeValue) (journal : List Event) (old : Option (List ℕ)) (block : List ℕ) → block ≡ codes "[\n" ++ compact_text (rank_name 0) ++ lines (names w) → IsTraced w journal old old block nothing_open [] 0
traced-first w journal old block is =
    let head = codes "[\n" ++ compact_text (rank_name 0) ++ lines (names w) in
    record {
      text = head;
      way = more-behind old [] old [] block head (nothing-yet old) is;
      left = sym (append_assoc head (lines (objects_from nothing_open [] 0 journal)) end);
    }

module _ (w : ShapeValue) (journal : List Event) (old held : Option (List ℕ)) (block : List ℕ) (ranks : List RankEntries) (slots : List SetSlot) (place : ℕ) (traced : IsTraced w journal old held block ranks slots place) where
  abbrev rest : List ℕ
  rest = lines (objects_from ranks slots place (drop place journal)) ++ end

  rest-filled : 0 < length rest
  rest-filled =
      let two : length rest ≡ length (lines (objects_from ranks slots place (drop place journal))) + 3 = length-append (lines (objects_from ranks slots place (drop place journal))) end in
      omega (arith, two)

  -- nothing more is written
  pub traced-cut : AddsPrefix (trace_text w journal) old held
  traced-cut = subst (λ (text : List ℕ). AddsPrefix text old held) traced.left (cut-before old traced.text held block rest traced.way rest-filled)

  -- the block is not written whole
  pub traced-fault : (held' : Option (List ℕ)) → AddsPrefix block held held' → AddsPrefix (trace_text w journal) old held'
  traced-fault held' cut = subst (λ (text : List ℕ). AddsPrefix text old held') traced.left (cut-in-block old traced.text held held' block rest traced.way cut)

  -- one event more
  pub traced-more : (e : Event) (block' : List ℕ) (ranks' : List RankEntries) (slots' : List SetSlot) → place < length journal → e ≡ get_or journal place e
      → block' ≡ block ++ lines (event_objects ranks slots place e) → ranks' ≡ entries_after e ranks → slots' ≡ slots_after (put_entry ranks e) place e slots
      → IsTraced w journal old held block' ranks' slots' (place + 1)
  traced-more e block' ranks' slots' within is added passed set =
      let objects = event_objects ranks slots place e in
      let later = objects_from (entries_after e ranks) (slots_after (put_entry ranks e) place e slots) (place + 1) (drop (place + 1) journal) in
      rw (passed, set) (record {
        text = traced.text ++ lines objects;
        way = more-behind old traced.text held block block' (lines objects) traced.way added;
        left =
            append_assoc traced.text (lines objects) (lines later ++ end)
            ∙ ap (λ (t : List ℕ). traced.text ++ t) (sym (append_assoc (lines objects) (lines later) end) ∙ ap (λ (t : List ℕ). t ++ end) (sym (lines-append objects later)))
            ∙ ap (λ (es : List Event). traced.text ++ (lines (objects_from ranks slots place es) ++ end)) (sym (next-there journal place e within is))
            ∙ traced.left;
      })

  -- no event is left
  pub traced-end : (block' : List ℕ) → length journal ≤ place → block' ≡ block ++ end → IsOnItsWay old (trace_text w journal) held block'
  traced-end block' ended added =
      subst (λ (text : List ℕ). IsOnItsWay old text held block')
      (ap (λ (es : List Event). traced.text ++ (lines (objects_from ranks slots place es) ++ end)) (sym (drop_all place journal ended)) ∙ traced.left)
      (more-behind old traced.text held block block' end traced.way added)

-- the last block
pub trace-arrived : (all : List ℕ) (old held held' : Option (List ℕ)) (block : List ℕ) → IsOnItsWay old all held block → held' ≡ with_more held block → held' ≡ with_more old all
trace-arrived all old held held' block way written = arrived-whole old all held' (block-written old all held held' block way written)

pub last-fault : (all : List ℕ) (old held held' : Option (List ℕ)) (block : List ℕ) → IsOnItsWay old all held block → AddsPrefix block held held' → AddsPrefix all old held'
last-fault all old held held' block way cut = subst (λ (text : List ℕ). AddsPrefix text old held') (append-nil all) (cut-in-block old all held held' block [] way cut)

-- nothing is written
pub trace-unwritten : (w : ShapeValue) (journal : List Event) (old : Option (List ℕ)) → AddsPrefix (trace_text w journal) old old
trace-unwritten w journal old =
    let head = codes "[\n" ++ compact_text (rank_name 0) ++ lines (names w) in
    traced-cut w journal old old head nothing_open [] 0 (traced-first w journal old head refl)

pub on-err : {T E P : Type 0} (r : Result T E) → P → OnErr r P
on-err (Ok value) h = tt
on-err (Err error) h = h
