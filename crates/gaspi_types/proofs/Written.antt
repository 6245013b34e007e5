-- Bytes with a range replaced, segments with bytes replaced, and slots with one set: what is changed, and what stays.
use Rattle.std.proofs.Common.{◌≡◌, ℕ, zero, suc, ◌+◌, ◌%◌, ◌^◌, ◌<◌, ◌≤◌, Bool, true, false, ◌==◌, nat_lt, List, ◌++◌, length, map, take, drop, Option, None, Some, refl, sym, ap, ◌∙◌, subst, arith}
use Rattle.std.specs.List.{slice_get, slice_set}
use Rattle.std.specs.Option.{option_map}
use Rattle.std.proofs.lemmas.Bool.{le-leb, leb-true, eqb-true}
use Rattle.std.proofs.lemmas.List.{length-set, length-append, length-take-le, length-drop, map-set}
use Rattle.std.proofs.lemmas.Option.{slice_get-map}
use Rattle.byteorder.specs.Endian.{little_bytes}
use Rattle.gaspi_types.specs.SegmentBytes.{is_within, range_of, with_range, IsRangeWritten}
use Rattle.gaspi_types.specs.SegmentTables.{extent_in}
use Rattle.gaspi_types.specs.SegmentWords.{word_at, with_sum, with_swap}
use Rattle.gaspi_types.specs.Segments.{segment_in, bytes_in, bytes_of, with_bytes, is_generation, extent_of, extents_of, IsSegmentWritten}
use Rattle.gaspi_types.specs.Slots.{slots_of, with_slots, IsSlotSet, IsSlotWritten}
use Rattle.gaspi_types.specs.Tables.{item_at}
use Rattle.gaspi_types.specs.declared.segments.Extent.{Extent}
use Rattle.gaspi_types.specs.declared.segments.Segment.{Segment}
use Rattle.gaspi_types.proofs.Items.{slice_get-set_same, slice_get-set_other, past-none, joined, prefix-of-joined, behind-of-joined, prefix-of-taken, rest-of-dropped, map-set_alike}
use Rattle.gaspi_types.proofs.Extents.{extent-at}

-- Bytes.

-- bytes with those of a range replaced are as many
pub with_range-length : (bytes : List ℕ) (offset : ℕ) (new : List ℕ) → length (with_range bytes offset new) ≡ length bytes
with_range-length bytes offset new = go (is_within offset (length new) (length bytes)) refl
  where
    go : (b : Bool) → is_within offset (length new) (length bytes) ≡ b → length (with_range bytes offset new) ≡ length bytes
    go true is =
        let within = leb-true (offset + length new) (length bytes) is in
        let front = length-take-le offset bytes (omega arith) in
        let behind = length-drop (offset + length new) bytes in
        let one = length-append (take offset bytes ++ new) (drop (offset + length new) bytes) in
        let two = length-append (take offset bytes) new in
        rw is (omega arith)
    go false is = rw is refl

pub with_sum-length : (bytes : List ℕ) (offset value : ℕ) → length (with_sum bytes offset value) ≡ length bytes
with_sum-length bytes offset value = with_range-length bytes offset (little_bytes 8 ((word_at bytes offset + value) % 2 ^ 64))

-- a word replaced, or not, leaves as many bytes
pub with_swap-length : (bytes : List ℕ) (offset comparator new : ℕ) → length (with_swap bytes offset comparator new) ≡ length bytes
with_swap-length bytes offset comparator new = go (word_at bytes offset == comparator) refl
  where
    go : (b : Bool) → (word_at bytes offset == comparator) ≡ b → length (with_swap bytes offset comparator new) ≡ length bytes
    go true is = rw is (with_range-length bytes offset (little_bytes 8 new))
    go false is = rw is refl

-- the bytes of a range that lies within
pub range_of-length : (bytes : List ℕ) (offset size : ℕ) → offset + size ≤ length bytes → length (range_of bytes offset size) ≡ size
range_of-length bytes offset size within =
    length-take-le size (drop offset bytes) (let rest = length-drop offset bytes in omega arith)

-- bytes with those of a range replaced, where it lies within
pub range-written : (bytes new : List ℕ) (offset : ℕ) → offset + length new ≤ length bytes → IsRangeWritten bytes (with_range bytes offset new) new offset
range-written bytes new offset within =
    let is = le-leb (offset + length new) (length bytes) within in
    let front = length-take-le offset bytes (omega arith) in
    let two = length-append (take offset bytes) new in
    let rest = drop (offset + length new) bytes in
    record {
      size = with_range-length bytes offset new;
      within = within;
      there = λ k less. rw is (prefix-of-joined (take offset bytes ++ new) rest (offset + k) (omega arith) ∙ behind-of-joined (take offset bytes) new k (offset + k) (omega arith));
      before = λ k less.
          rw is (prefix-of-joined (take offset bytes ++ new) rest k (omega arith) ∙ prefix-of-joined (take offset bytes) new k (omega arith) ∙ prefix-of-taken offset bytes k less);
      behind = λ k past. rw is (behind-part k past front two);
    }
  where
    behind-part : (k : ℕ) → offset + length new ≤ k → length (take offset bytes) ≡ offset → length (take offset bytes ++ new) ≡ length (take offset bytes) + length new
        → slice_get (take offset bytes ++ new ++ drop (offset + length new) bytes) k ≡ slice_get bytes k
    behind-part k past front two =
        let gap = difference (offset + length new) k past in
        behind-of-joined (take offset bytes ++ new) (drop (offset + length new) bytes) gap.0 k (let at = gap.1 in omega arith)
        ∙ rest-of-dropped (offset + length new) bytes gap.0 k gap.1
      where
        difference : (a b : ℕ) → a ≤ b → (d : ℕ) × (b ≡ a + d)
        difference zero b less = (b, omega arith)
        difference (suc a) zero less = absurd (let no : ⊥ = omega arith in no)
        difference (suc a) (suc b) less = let rest = difference a b (omega arith) in (rest.0, let at = rest.1 in omega arith)

-- Segments.

-- the segment behind an entry of the table of extents
pub segment-behind : (own : List (Option Segment)) (segment : ℕ) (x : Extent) → extent_in (extents_of own) segment ≡ Some x → (s : Segment) × (segment_in own segment ≡ Some s) × (extent_of s ≡ x)
segment-behind own segment x h = by-item (slice_get own segment) refl (sym (slice_get-map (option_map extent_of) own segment) ∙ (extent-at (extents_of own) segment x h).1)
  where
    by-item : (o : Option (Option Segment)) → slice_get own segment ≡ o → option_map (option_map extent_of) (slice_get own segment) ≡ Some (Some x)
        → (s : Segment) × (segment_in own segment ≡ Some s) × (extent_of s ≡ x)
    by-item None at is = absurd (let none : ◌≡◌ {A = Option (Option Extent)} None (Some (Some x)) = rw at at is in let no : ⊥ = cc in no)
    by-item (Some None) at is = absurd (let none : ◌≡◌ {A = Option (Option Extent)} (Some None) (Some (Some x)) = rw at at is in let no : ⊥ = cc in no)
    by-item (Some (Some s)) at is =
        let some : ◌≡◌ {A = Option (Option Extent)} (Some (Some (extent_of s))) (Some (Some x)) = rw at at is in
        (s, rw at refl, (let same : extent_of s ≡ x = cc in same))

-- and the table's entry of a segment that is there
pub extent-there : (own : List (Option Segment)) (segment : ℕ) (s : Segment) → nat_lt segment 32 ≡ true → segment_in own segment ≡ Some s → extent_in (extents_of own) segment ≡ Some (extent_of s)
extent-there own segment s less h =
    let at = joined own segment s h in
    rw (less, slice_get-map (option_map extent_of) own segment, at) refl

-- a segment that is there in a generation
pub there-in-generation : (own : List (Option Segment)) (segment generation : ℕ) → is_generation generation (segment_in own segment) ≡ true
    → (s : Segment) × (segment_in own segment ≡ Some s) × (s.generation ≡ generation)
there-in-generation own segment generation h = go (segment_in own segment) refl
  where
    go : (o : Option Segment) → segment_in own segment ≡ o → (s : Segment) × (segment_in own segment ≡ Some s) × (s.generation ≡ generation)
    go None at = absurd (let none = rw at at h in let no : ⊥ = cc in no)
    go (Some s) at = (s, at, eqb-true s.generation generation (rw at at h))

-- a segment whose bytes are replaced in a range
pub segment-written : (own : List (Option Segment)) (segment offset : ℕ) (new : List ℕ) (s : Segment) → segment_in own segment ≡ Some s → offset + length new ≤ length s.bytes
    → IsSegmentWritten own (with_bytes own segment (with_range (bytes_of own segment) offset new)) segment offset new
segment-written own segment offset new s there within =
    let at = joined own segment s there in
    let change = λ (x : Segment). record x { bytes = with_range (bytes_of own segment) offset new } in
    let bytes : bytes_of own segment ≡ s.bytes = ap bytes_in there in
    let set = slice_get-set_same own segment (Some s) (option_map change (segment_in own segment)) at in
    record {
      before = s;
      after = change s;
      before_there = there;
      after_there = rw (set, there) refl;
      others = λ k apart. rw (slice_get-set_other own segment k (option_map change (segment_in own segment)) (λ same. apart (sym same))) refl;
      generation = refl;
      bytes = subst (λ (b : List ℕ). IsRangeWritten s.bytes (with_range b offset new) new offset) (sym bytes) (range-written s.bytes new offset within);
    }

-- as many bytes in the place of those of a segment leave all extents
pub extents_of-with_bytes : (own : List (Option Segment)) (segment : ℕ) (bytes : List ℕ) → length bytes ≡ length (bytes_of own segment) → extents_of (with_bytes own segment bytes) ≡ extents_of own
extents_of-with_bytes own segment bytes same = map-set_alike (option_map extent_of) own segment _ (λ x at. alike x at)
  where
    alike : (x : Option Segment) → slice_get own segment ≡ Some x → option_map extent_of (option_map (λ (s : Segment). record s { bytes = bytes }) (segment_in own segment)) ≡ option_map extent_of x
    alike None at = rw at refl
    alike (Some s) at =
        let size : length bytes ≡ length s.bytes = rw at at same in
        rw at (ap (λ (n : ℕ). Some (record { generation = s.generation; size = n })) size)

-- a segment set, or taken away, in a table and in its extents
pub set-extents : (own : List (Option Segment)) (seg : ℕ) (o : Option Segment) (table : List (Option Extent)) → table ≡ extents_of own
    → slice_set table seg (option_map extent_of o) ≡ extents_of (slice_set own seg o)
set-extents own seg o table agrees = ap (λ (t : List (Option Extent)). slice_set t seg (option_map extent_of o)) agrees ∙ sym (map-set (option_map extent_of) own seg o)

-- Slots.

-- a slot set, where it is one of the segment's
pub slot-set : (slots : List ℕ) (note value : ℕ) → note < length slots → IsSlotSet slots (slice_set slots note value) note value
slot-set slots note value within = go (slice_get slots note) refl
  where
    go : (o : Option ℕ) → slice_get slots note ≡ o → IsSlotSet slots (slice_set slots note value) note value
    go None at = absurd (past-none slots note within at)
    go (Some x) at = record {
      size = length-set slots note value;
      there = slice_get-set_same slots note x value at;
      others = λ k apart. slice_get-set_other slots note k value (λ same. apart (sym same));
    }

pub slot-written : (table : List (Option (List ℕ))) (segment note value : ℕ) (slots : List ℕ) → item_at table segment ≡ Some slots → note < length slots
    → IsSlotWritten table (with_slots table segment (slice_set (slots_of table segment) note value)) segment note value
slot-written table segment note value slots there within =
    let at = joined table segment slots there in
    let change = λ (old : List ℕ). slice_set (slots_of table segment) note value in
    let set = slice_get-set_same table segment (Some slots) (option_map change (item_at table segment)) at in
    record {
      before = slots;
      after = slice_set slots note value;
      before_there = there;
      after_there = rw (set, there) refl;
      others = λ k apart. rw (slice_get-set_other table segment k (option_map change (item_at table segment)) (λ same. apart (sym same))) refl;
      set = slot-set slots note value within;
    }

-- as many slots in the place of those of a segment leave all counts
pub counts-with_slots : (table : List (Option (List ℕ))) (segment : ℕ) (slots : List ℕ) → length slots ≡ length (slots_of table segment) → map (option_map length) (with_slots table segment slots) ≡ map (option_map length) table
counts-with_slots table segment slots same = map-set_alike (option_map length) table segment _ (λ x at. alike x at)
  where
    alike : (x : Option (List ℕ)) → slice_get table segment ≡ Some x → option_map length (option_map (λ (old : List ℕ). slots) (item_at table segment)) ≡ option_map length x
    alike None at = rw at refl
    alike (Some old) at =
        let size : length slots ≡ length old = rw at at same in
        rw at (ap (λ (n : ℕ). Some n) size)
