-- The memories of the ring: what a store and a put leave of segment 0.
use Rattle.std.proofs.Common.{◌≡◌, ℕ, ◌+◌, ◌≤◌, Bool, true, false, ◌==◌, not, cond, List, [], ◌∷◌, ◌++◌, length, take, drop, Option, None, Some, refl, sym, ap, ◌∙◌, subst, arith}
use Rattle.std.specs.List.{slice_get, slice_set}
use Rattle.std.proofs.lemmas.Slice.{drop-append-drop}
use Rattle.gaspi_types.specs.SegmentBytes.{is_within, range_of, with_range}
use Rattle.gaspi_types.specs.Segments as segments
use Rattle.gaspi_types.specs.Segments.{segment_in}
use Rattle.gaspi_types.specs.Slots as slots
use Rattle.gaspi_types.specs.declared.segments.Segment.{Segment}
use Rattle.gaspi_model.specs.Memories.{bytes_of, slots_of, with_bytes, with_slots}
use Rattle.gaspi_model.specs.declared.states.Memory.{Memory}
use Rattle.call_journal.proofs.RingState.{HasZero, is_first_set, slot_of, word_of}

zero-bytes : (table : List (Option Segment)) (bytes : List ℕ) (item : Segment) → segment_in table 0 ≡ Some item → segment_in (segments.with_bytes table 0 bytes) 0 ≡ Some (record item { bytes = bytes })
zero-bytes [] bytes item at = absurd (let no : ⊥ = cc in no)
zero-bytes (None ∷ table) bytes item at = absurd (let no : ⊥ = cc in no)
zero-bytes (Some x ∷ table) bytes item at = (let same : x ≡ item = cc in ap (λ (y : Segment). Some (record y { bytes = bytes })) same)

-- segment 0 stays where its bytes are replaced
pub zero-kept : (memory : Memory) (segment : ℕ) (bytes : List ℕ) → segment ≡ 0 → HasZero memory → HasZero (with_bytes memory segment bytes)
zero-kept memory segment bytes is has =
    subst (λ (k : ℕ). HasZero (with_bytes memory k bytes)) (sym is) (record has.0 { bytes = bytes }, zero-bytes memory.segments bytes has.0 has.1, has.2)

pub stored-bytes : (memory : Memory) (bytes : List ℕ) → HasZero memory → bytes_of (with_bytes memory 0 bytes) 0 ≡ bytes
stored-bytes memory bytes has = ap segments.bytes_in (zero-bytes memory.segments bytes has.0 has.1)

-- a store of the first eight bytes leaves the next ones
pub behind-store : (bytes new : List ℕ) → length new ≡ 8 → range_of (with_range bytes 0 new) 8 8 ≡ range_of bytes 8 8
behind-store bytes new eight = go (is_within 0 (length new) (length bytes)) refl
  where
    go : (b : Bool) → is_within 0 (length new) (length bytes) ≡ b → range_of (with_range bytes 0 new) 8 8 ≡ range_of bytes 8 8
    go false is = rw is refl
    go true is =
        let rest : drop 8 (new ++ drop 8 bytes) ≡ drop 8 bytes = drop-append-drop 8 bytes new 8 (omega arith) eight in
        let as_eight : 0 + length new ≡ 8 = omega arith in
        rw is (subst (λ (n : ℕ). take 8 (drop 8 (new ++ drop n bytes)) ≡ take 8 (drop 8 bytes)) (sym as_eight) (ap (λ (xs : List ℕ). take 8 xs) rest))

pub word-stored : (memory : Memory) (new : List ℕ) → HasZero memory → length new ≡ 8 → word_of (with_bytes memory 0 (with_range (bytes_of memory 0) 0 new)) ≡ word_of memory
word-stored memory new has eight =
    ap (λ (xs : List ℕ). range_of xs 8 8) (stored-bytes memory (with_range (bytes_of memory 0) 0 new) has) ∙ behind-store (bytes_of memory 0) new eight

-- slot 0 is not set after a reset
zero-slots : (table : List (Option (List ℕ))) → is_first_set (slots.slots_of (slots.with_slots table 0 (slice_set (slots.slots_of table 0) 0 0)) 0) ≡ 0
zero-slots [] = refl
zero-slots (None ∷ table) = refl
zero-slots (Some [] ∷ table) = refl
zero-slots (Some (x ∷ xs) ∷ table) = refl

pub slot-cleared : (memory : Memory) → slot_of (with_slots memory 0 (slice_set (slots_of memory 0) 0 0)) ≡ 0
slot-cleared memory = zero-slots memory.slots

pub first-one : (xs : List ℕ) → is_first_set xs ≤ 1
first-one [] = omega arith
first-one (x ∷ xs) = go (x == 0)
  where
    go : (b : Bool) → cond {A = ℕ} b 0 1 ≤ 1
    go true = omega arith
    go false = omega arith

-- what a reset answers that found it set
pub first-answered : (xs : List ℕ) (value : ℕ) → slice_get xs 0 ≡ Some value → cond {A = ℕ} (not (value == 0)) 1 0 ≤ is_first_set xs
first-answered [] value at = absurd (let no : ⊥ = cc in no)
first-answered (x ∷ xs) value at =
    let same : x ≡ value = cc in
    subst (λ (k : ℕ). cond {A = ℕ} (not (value == 0)) 1 0 ≤ cond {A = ℕ} (k == 0) 0 1) (sym same) (go (value == 0))
  where
    go : (b : Bool) → cond {A = ℕ} (not b) 1 0 ≤ cond {A = ℕ} b 0 1
    go true = omega arith
    go false = omega arith
