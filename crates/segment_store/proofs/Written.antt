-- What a store and an atomic change.
use Rattle.std.proofs.Common.{◌≡◌, ◌≢◌, ℕ, zero, suc, [], ◌∷◌, ◌+◌, ◌%◌, ◌^◌, ◌<◌, ◌≤◌, Bool, true, false, ◌==◌, List, length, refl, ap, ◌∙◌, sym, subst, Option, None, Some, Result, Ok, Err, arith}
use Rattle.std.specs.List.{slice_get, slice_set}
use Rattle.std.proofs.lemmas.Bool.{leb-true, eq-eqb, ne_eqb}
use Rattle.byteorder.specs.Endian.{little_bytes}
use Rattle.byteorder.specs.Numbers.{length-bytes_low_first}
use Rattle.gaspi_types.specs.Checks.{◌>>=◌, ok_or}
use Rattle.gaspi_types.specs.SegmentBytes.{is_transfer_size, is_within, range_checks}
use Rattle.gaspi_types.specs.SegmentTables.{extent_in, own_range_checks}
use Rattle.gaspi_types.specs.SegmentWords.{word_checks, word_at}
use Rattle.gaspi_types.specs.Segments.{segment_in, bytes_of, with_bytes, extents_of}
use Rattle.gaspi_types.specs.declared.segments.Extent.{Extent}
use Rattle.gaspi_types.specs.declared.segments.Segment.{Segment}
use Rattle.gaspi_types.specs.declared.replies.Refusal.{Refusal}
use Rattle.gaspi_types.specs.declared.replies.Refusal.TheVariants.{BadRange, BadSize, NoSegment, Unregistered}
use Rattle.gaspi_types.proofs.Items.{set-there}
use Rattle.gaspi_types.proofs.Written.{segment-behind, segment-written}
use Rattle.segment_store.specs.Segments.{SegmentsValue, own_word_checks, word_in, with_stored, with_added, with_swapped}
use Rattle.segment_store.specs.Changes.{IsWritten}

-- an own segment whose bytes are replaced in a range
pub written : (s : SegmentsValue) (segment offset : ℕ) (mine : Segment) (bytes : List ℕ) → segment_in s.segments segment ≡ Some mine → offset + length bytes ≤ length mine.bytes
    → IsWritten s (with_stored s segment offset bytes) segment offset bytes
written s segment offset mine bytes there within = record { segments = segment-written s.segments segment offset bytes mine there within; table = refl }

-- A call that is not refused finds its segment, and its range lies within.

range-checked : (whole offset size : ℕ) → range_checks whole offset size ≡ Ok tt → offset + size ≤ whole
range-checked whole offset size h = of-size (is_transfer_size size) refl
  where
    of-place : (b : Bool) → is_transfer_size size ≡ true → is_within offset size whole ≡ b → offset + size ≤ whole
    of-place true sized is = leb-true (offset + size) whole is
    of-place false sized is = absurd (let refused : ◌≡◌ {A = Result (Unit {0}) Refusal} (Err (BadRange whole)) (Ok tt) = rw (sized, is) at h in let no : ⊥ = cc in no)

    of-size : (b : Bool) → is_transfer_size size ≡ b → offset + size ≤ whole
    of-size true is = of-place (is_within offset size whole) is refl
    of-size false is = absurd (let refused : ◌≡◌ {A = Result (Unit {0}) Refusal} (Err BadSize) (Ok tt) = rw is at h in let no : ⊥ = cc in no)

word-checked : (whole offset : ℕ) → word_checks whole offset ≡ Ok tt → offset + 8 ≤ whole
word-checked whole offset h = of-place (is_within offset 8 whole) refl
  where
    of-place : (b : Bool) → is_within offset 8 whole ≡ b → offset + 8 ≤ whole
    of-place true is = leb-true (offset + 8) whole is
    of-place false is = absurd (let refused : ◌≡◌ {A = Result (Unit {0}) Refusal} (Err (BadRange whole)) (Ok tt) = rw is at h in let no : ⊥ = cc in no)

-- where the checks that begin with finding the extent of a segment pass, the segment is there and they pass of its size
segment-found : (s : SegmentsValue) (segment : ℕ) (refusal : Refusal) (checks : ℕ → Result (Unit {0}) Refusal)
    → (ok_or (extent_in (extents_of s.segments) segment) refusal >>= (λ (mine : Extent). checks mine.size)) ≡ Ok tt
    → (mine : Segment) × (segment_in s.segments segment ≡ Some mine) × (checks (length mine.bytes) ≡ Ok tt)
segment-found s segment refusal checks h = of-extent (extent_in (extents_of s.segments) segment) refl
  where
    of-extent : (o : Option Extent) → extent_in (extents_of s.segments) segment ≡ o → (mine : Segment) × (segment_in s.segments segment ≡ Some mine) × (checks (length mine.bytes) ≡ Ok tt)
    of-extent None is = absurd (let refused : ◌≡◌ {A = Result (Unit {0}) Refusal} (Err refusal) (Ok tt) = rw is at h in let no : ⊥ = cc in no)
    of-extent (Some x) is =
        let behind = segment-behind s.segments segment x is in
        let size : x.size ≡ length behind.0.bytes = ap (λ (e : Extent). e.size) (sym behind.2) in
        let passes : checks x.size ≡ Ok tt = rw is at h in
        (behind.0, behind.1, subst (λ (n : ℕ). checks n ≡ Ok tt) size passes)

-- an atomic that is not refused finds its word
word-found : (s : SegmentsValue) (segment offset old : ℕ) → word_in s.segments segment offset ≡ Ok old → (own_word_checks (extents_of s.segments) segment offset ≡ Ok tt) × (word_at (bytes_of s.segments segment) offset ≡ old)
word-found s segment offset old h = of-checks (own_word_checks (extents_of s.segments) segment offset) refl
  where
    of-checks : (r : Result (Unit {0}) Refusal) → own_word_checks (extents_of s.segments) segment offset ≡ r → (own_word_checks (extents_of s.segments) segment offset ≡ Ok tt) × (word_at (bytes_of s.segments segment) offset ≡ old)
    of-checks (Ok done) is = (is, (let same : ◌≡◌ {A = Result ℕ Refusal} (Ok (word_at (bytes_of s.segments segment) offset)) (Ok old) = rw is at h in cc))
    of-checks (Err refusal) is = absurd (let refused : ◌≡◌ {A = Result ℕ Refusal} (Err refusal) (Ok old) = rw is at h in let no : ⊥ = cc in no)

with_bytes-same : (own : List (Option Segment)) (segment : ℕ) → with_bytes own segment (bytes_of own segment) ≡ own
with_bytes-same own segment = go (slice_get own segment) refl
  where
    none-set : (xs : List (Option Segment)) (k : ℕ) (x : Option Segment) → slice_get xs k ≡ None → slice_set xs k x ≡ xs
    none-set [] k x at = refl
    none-set (y ∷ xs) zero x at = absurd (let no : ⊥ = cc in no)
    none-set (y ∷ xs) (suc k) x at = ap (λ (rest : List (Option Segment)). y ∷ rest) (none-set xs k x at)

    go : (o : Option (Option Segment)) → slice_get own segment ≡ o → with_bytes own segment (bytes_of own segment) ≡ own
    go None at = none-set own segment _ at
    go (Some None) at = rw at (set-there own segment None at)
    go (Some (Some mine)) at = rw at (set-there own segment (Some mine) at)

-- the laws

pub outside : (s : SegmentsValue) (segment offset : ℕ) (bytes : List ℕ) → length (bytes_of s.segments segment) < offset + length bytes → with_stored s segment offset bytes ≡ s
outside s segment offset bytes past = go (is_within offset (length bytes) (length (bytes_of s.segments segment))) refl
  where
    go : (b : Bool) → is_within offset (length bytes) (length (bytes_of s.segments segment)) ≡ b → with_stored s segment offset bytes ≡ s
    go true is = absurd (let within = leb-true (offset + length bytes) (length (bytes_of s.segments segment)) is in let no : ⊥ = omega arith in no)
    go false is = rw is (ap (λ (own : List (Option Segment)). record s { segments = own }) (with_bytes-same s.segments segment))

pub stored : (s : SegmentsValue) (segment offset : ℕ) (bytes : List ℕ) → own_range_checks (extents_of s.segments) segment offset (length bytes) ≡ Ok tt → IsWritten s (with_stored s segment offset bytes) segment offset bytes
stored s segment offset bytes h =
    let at = segment-found s segment NoSegment (λ (size : ℕ). range_checks size offset (length bytes)) h in
    written s segment offset at.0 bytes at.1 (range-checked (length at.0.bytes) offset (length bytes) at.2)

pub added : (s : SegmentsValue) (segment offset value old : ℕ) → word_in s.segments segment offset ≡ Ok old → IsWritten s (with_added s segment offset value) segment offset (little_bytes 8 ((old + value) % 2 ^ 64))
added s segment offset value old h =
    let word = word-found s segment offset old h in
    let at = segment-found s segment Unregistered (λ (size : ℕ). word_checks size offset) word.0 in
    let eight = length-bytes_low_first 0 8 ((old + value) % 2 ^ 64) in
    let within = word-checked (length at.0.bytes) offset at.2 in
    rw word.1 (written s segment offset at.0 (little_bytes 8 ((old + value) % 2 ^ 64)) at.1 (omega arith))

pub swapped : (s : SegmentsValue) (segment offset new old : ℕ) → word_in s.segments segment offset ≡ Ok old → IsWritten s (with_swapped s segment offset old new) segment offset (little_bytes 8 new)
swapped s segment offset new old h =
    let word = word-found s segment offset old h in
    let at = segment-found s segment Unregistered (λ (size : ℕ). word_checks size offset) word.0 in
    let is = eq-eqb (word_at (bytes_of s.segments segment) offset) old word.1 in
    let eight = length-bytes_low_first 0 8 new in
    let within = word-checked (length at.0.bytes) offset at.2 in
    rw is (written s segment offset at.0 (little_bytes 8 new) at.1 (omega arith))

pub unequal : (s : SegmentsValue) (segment offset comparator new old : ℕ) → word_in s.segments segment offset ≡ Ok old → old ≢ comparator → with_swapped s segment offset comparator new ≡ s
unequal s segment offset comparator new old h apart =
    let word = word-found s segment offset old h in
    let is : (word_at (bytes_of s.segments segment) offset == comparator) ≡ false = ne_eqb _ comparator (λ same. apart (sym word.1 ∙ same)) in
    rw is (ap (λ (own : List (Option Segment)). record s { segments = own }) (with_bytes-same s.segments segment))
