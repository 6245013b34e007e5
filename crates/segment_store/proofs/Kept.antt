-- What holds of the segments of a rank stays so.
use Rattle.std.proofs.Common.{◌≡◌, ℕ, ◌+◌, ◌<◌, ◌≤◌, true, List, length, replicate, refl, ap, ◌∙◌, sym, subst, Option, None, Some, arith, ◌⊎◌, inl, inr}
use Rattle.std.specs.List.{slice_get, slice_set}
use Rattle.std.proofs.lemmas.List.{length-set, length-replicate}
use Rattle.gaspi_types.specs.SegmentTables.{extent_in, next_generation, with_own, without_own, with_known}
use Rattle.gaspi_types.specs.Segments.{new_segment, bytes_of, with_bytes, extent_of, extents_of}
use Rattle.gaspi_types.specs.World.{is_segment_size}
use Rattle.gaspi_types.specs.declared.segments.Extent.{Extent}
use Rattle.gaspi_types.specs.declared.segments.Segment.{Segment}
use Rattle.gaspi_types.specs.declared.segments.SegmentTable.{SegmentTable}
use Rattle.gaspi_types.proofs.Extents.{generation-grows, generation-set, extent-at, extent-set}
use Rattle.gaspi_types.proofs.Items.{slice_get-replicate, slice_get-changed_at, length-changed_at}
use Rattle.gaspi_types.proofs.Written.{extents_of-with_bytes, set-extents}
use Rattle.segment_store.specs.Segments.{SegmentsValue, IsSound, nothing_known}

-- as many bytes in the place of those of a segment
pub sound-bytes : (s : SegmentsValue) (own : List (Option Segment)) (segment : ℕ) (bytes : List ℕ) → IsSound s → own ≡ with_bytes s.segments segment bytes
    → length bytes ≡ length (bytes_of s.segments segment) → IsSound (record { table = s.table; segments = own })
sound-bytes s own segment bytes sound is same = record {
  segments = ap length is ∙ length-set s.segments segment _ ∙ sound.segments;
  next = sound.next;
  ranks = sound.ranks;
  known = sound.known;
  agrees = sound.agrees ∙ sym (ap extents_of is ∙ extents_of-with_bytes s.segments segment bytes same);
  sized = sound.sized;
  generations = sound.generations;
}

-- a segment less
pub sound-deleted : (s : SegmentsValue) (table : SegmentTable) (own : List (Option Segment)) (segment : ℕ) → IsSound s → table ≡ without_own s.table segment → own ≡ slice_set s.segments segment None
    → IsSound (record { table = table; segments = own })
sound-deleted s table own segment sound without less = rw (without, less) (record {
  segments = length-set s.segments segment None ∙ sound.segments;
  next = sound.next;
  ranks = sound.ranks;
  known = sound.known;
  agrees = set-extents s.segments segment None s.table.own sound.agrees;
  sized = record { sizes = λ k extent at. sound.sized.sizes k extent (before k extent at) };
  generations = λ k extent at. sound.generations k extent (before k extent at);
})
  where
    before : (k : ℕ) (extent : Extent) → extent_in (slice_set s.table.own segment None) k ≡ Some extent → extent_in s.table.own k ≡ Some extent
    before k extent at = go (extent-set s.table.own segment None k extent at)
      where
        go : ((k ≡ segment) × ◌≡◌ {A = Option Extent} None (Some extent)) ⊎ (extent_in s.table.own k ≡ Some extent) → extent_in s.table.own k ≡ Some extent
        go (inl both) = absurd (let none : ◌≡◌ {A = Option Extent} None (Some extent) = both.1 in let no : ⊥ = cc in no)
        go (inr there) = there

-- a segment more
pub sound-made : (s : SegmentsValue) (segment size : ℕ) → IsSound s → segment < 32 → is_segment_size size ≡ true
    → IsSound (record { table = with_own s.table segment size; segments = slice_set s.segments segment (Some (new_segment (next_generation s.table.next_generations segment) size)) })
sound-made s segment size sound below sized = record {
  segments = length-set s.segments segment _ ∙ sound.segments;
  next = length-set s.table.next_generations segment _ ∙ sound.next;
  ranks = sound.ranks;
  known = sound.known;
  agrees = ap (λ (e : Extent). slice_set s.table.own segment (Some e)) (sym extent) ∙ set-extents s.segments segment (Some new) s.table.own sound.agrees;
  sized = record { sizes = λ k x at. sized-at k x (extent-set s.table.own segment (Some made) k x at) };
  generations = λ k x at. generation-at k x (extent-set s.table.own segment (Some made) k x at);
}
  where
    generation : ℕ
    generation = next_generation s.table.next_generations segment

    made : Extent
    made = record { generation = generation; size = size }

    new : Segment
    new = new_segment generation size

    extent : ◌≡◌ {A = Extent} (extent_of new) made
    extent = (let many = length-replicate {A = ℕ} size 0 in ap (λ (n : ℕ). (let e : Extent = record { generation = generation; size = n } in e)) many)

    sized-at : (k : ℕ) (x : Extent) → ((k ≡ segment) × (Some made ≡ Some x)) ⊎ (extent_in s.table.own k ≡ Some x) → is_segment_size x.size ≡ true
    sized-at k x (inl both) = let same : made ≡ x = (let is = both.1 in cc) in subst (λ (e : Extent). is_segment_size e.size ≡ true) same sized
    sized-at k x (inr there) = sound.sized.sizes k x there

    generation-at : (k : ℕ) (x : Extent) → ((k ≡ segment) × (Some made ≡ Some x)) ⊎ (extent_in s.table.own k ≡ Some x)
        → x.generation < next_generation (slice_set s.table.next_generations segment (generation + 1)) k
    generation-at k x (inl both) =
        let same : made ≡ x = (let is = both.1 in cc) in
        let set = generation-set s.table.next_generations segment (generation + 1) (let many = sound.next in omega arith) in
        let is : generation ≡ x.generation = ap (λ (e : Extent). e.generation) same in
        rw both.0 (rw (set, sym is) (omega arith))
    generation-at k x (inr there) =
        let was = sound.generations k x there in
        let grows = generation-grows s.table.next_generations segment (generation + 1) k (omega arith) in
        omega arith

-- a segment made known
pub sound-known : (s : SegmentsValue) (table : SegmentTable) (owner segment : ℕ) (extent : Option Extent) → IsSound s → table ≡ with_known owner segment extent s.table → IsSound (record { table = table; segments = s.segments })
sound-known s table owner segment extent sound is = rw is (record {
  segments = sound.segments;
  next = sound.next;
  ranks = (let same = length-changed_at s.table.known owner (λ (t : List (Option Extent)). slice_set t segment extent) in let few = sound.ranks in rw same few);
  known = λ rank t at. parts t (slice_get-changed_at s.table.known owner (λ (x : List (Option Extent)). slice_set x segment extent) rank t at);
  agrees = sound.agrees;
  sized = sound.sized;
  generations = sound.generations;
})
  where
    parts : (t : List (Option Extent)) → ((k : ℕ) × (x : List (Option Extent)) × (slice_get s.table.known k ≡ Some x) × ((t ≡ x) ⊎ (t ≡ slice_set x segment extent))) → length t ≡ 32
    parts t (k, x, there, inl same) = ap length same ∙ sound.known k x there
    parts t (k, x, there, inr set) = ap length set ∙ length-set x segment extent ∙ sound.known k x there

-- nothing is there
no-extent : (k : ℕ) (x : Extent) → extent_in (replicate 32 None) k ≡ Some x → ⊥
no-extent k x at =
    let item = (extent-at (replicate 32 None) k x at).1 in
    let none : ◌≡◌ {A = Option Extent} (Some x) None = slice_get-replicate 32 None (Some x) k item in
    let no : ⊥ = cc in no

pub sound-nothing : (ranks : ℕ) (table : SegmentTable) (own : List (Option Segment)) → ranks ≤ 16 → table ≡ nothing_known ranks → own ≡ replicate 32 None → IsSound (record { table = table; segments = own })
sound-nothing ranks table own few nothing none = rw (nothing, none) (record {
  segments = length-replicate {A = Option Segment} 32 None;
  next = length-replicate {A = ℕ} 32 0;
  ranks = subst (λ (n : ℕ). n ≤ 16) (sym (length-replicate {A = List (Option Extent)} ranks (replicate 32 None))) few;
  known = λ owner t at. ap length (slice_get-replicate ranks (replicate 32 None) t owner at) ∙ length-replicate {A = Option Extent} 32 None;
  agrees = refl;
  sized = record { sizes = λ k x at. absurd (no-extent k x at) };
  generations = λ k x at. absurd (no-extent k x at);
})
