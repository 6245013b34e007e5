-- Posts of one item, and of none: what their checks come to.
use Rattle.std.proofs.Common.{◌≡◌, ℕ, Bool, true, false, not, ◌==◌, nat_lt, List, [], ◌∷◌, Option, None, Some, Result, Ok, refl}
use Rattle.gaspi_types.specs.Checks.{◌>>=◌, check, ok_or}
use Rattle.gaspi_types.specs.Posts.{slot_in, endpoints_of, transfer_kind, transfers_alone, writes_with_notification, reads_with_notification}
use Rattle.gaspi_types.specs.SegmentBytes.{is_transfer_size, is_within}
use Rattle.gaspi_types.specs.SegmentTables.{extent_in, known_extent}
use Rattle.gaspi_types.specs.declared.calls.posts.Item.{Item}
use Rattle.gaspi_types.specs.declared.entries.Direction.{Direction}
use Rattle.gaspi_types.specs.declared.entries.Direction.TheVariants.{Outward, Inward}
use Rattle.gaspi_types.specs.declared.entries.Endpoints.{Endpoints}
use Rattle.gaspi_types.specs.declared.entries.Kind.{Kind}
use Rattle.gaspi_types.specs.declared.entries.Kind.TheVariants.{Notify, ReadNote}
use Rattle.gaspi_types.specs.declared.segments.Extent.{Extent}
use Rattle.gaspi_types.specs.declared.segments.SegmentTable.{SegmentTable}
use Rattle.gaspi_types.specs.declared.replies.Refusal.{Refusal}
use Rattle.gaspi_types.specs.declared.replies.Refusal.TheVariants.{Unregistered, BadNote, ZeroValue}

-- what stands or does not, and each test: all ways in which the checks of an item may go
data Checked (me : ℕ) (table : SegmentTable) (rank : ℕ) (item : Item) : Type 0 where
  NoOwn : extent_in table.own item.seg ≡ None → Checked me table rank item
  NotKnown : (mine : Extent) → extent_in table.own item.seg ≡ Some mine → known_extent me table rank item.rseg ≡ None → Checked me table rank item
  NoSize : (mine theirs : Extent) → extent_in table.own item.seg ≡ Some mine → known_extent me table rank item.rseg ≡ Some theirs
      → is_transfer_size item.size ≡ false → Checked me table rank item
  NoRange : (mine theirs : Extent) → extent_in table.own item.seg ≡ Some mine → known_extent me table rank item.rseg ≡ Some theirs
      → is_transfer_size item.size ≡ true → is_within item.offset item.size mine.size ≡ false → Checked me table rank item
  Ranged : (mine theirs : Extent) (to : Bool) → extent_in table.own item.seg ≡ Some mine → known_extent me table rank item.rseg ≡ Some theirs
      → is_transfer_size item.size ≡ true → is_within item.offset item.size mine.size ≡ true → is_within item.roffset item.size theirs.size ≡ to → Checked me table rank item

checked : (me : ℕ) (table : SegmentTable) (rank : ℕ) (item : Item) → Checked me table rank item
checked me table rank item = by-mine (extent_in table.own item.seg) refl
  where
    by-from : (mine theirs : Extent) → extent_in table.own item.seg ≡ Some mine → known_extent me table rank item.rseg ≡ Some theirs → is_transfer_size item.size ≡ true
        → (from : Bool) → is_within item.offset item.size mine.size ≡ from → Checked me table rank item
    by-from mine theirs hm ht sized true from = Ranged mine theirs (is_within item.roffset item.size theirs.size) hm ht sized from refl
    by-from mine theirs hm ht sized false from = NoRange mine theirs hm ht sized from

    by-size : (mine theirs : Extent) → extent_in table.own item.seg ≡ Some mine → known_extent me table rank item.rseg ≡ Some theirs
        → (sized : Bool) → is_transfer_size item.size ≡ sized → Checked me table rank item
    by-size mine theirs hm ht true sized = by-from mine theirs hm ht sized (is_within item.offset item.size mine.size) refl
    by-size mine theirs hm ht false sized = NoSize mine theirs hm ht sized

    by-theirs : (mine : Extent) → extent_in table.own item.seg ≡ Some mine → (o : Option Extent) → known_extent me table rank item.rseg ≡ o → Checked me table rank item
    by-theirs mine hm None none = NotKnown mine hm none
    by-theirs mine hm (Some theirs) ht = by-size mine theirs hm ht (is_transfer_size item.size) refl

    by-mine : (o : Option Extent) → extent_in table.own item.seg ≡ o → Checked me table rank item
    by-mine None none = NoOwn none
    by-mine (Some mine) hm = by-theirs mine hm (known_extent me table rank item.rseg) refl

pub one-transfer : (direction : Direction) (me : ℕ) (table : SegmentTable) (rank : ℕ) (item : Item)
    → transfers_alone direction me table rank (item ∷ []) ≡ (endpoints_of me table rank item >>= (λ (ends : Endpoints). Ok (transfer_kind direction ends ∷ [])))
one-transfer direction me table rank item = go (checked me table rank item)
  where
    go : Checked me table rank item → transfers_alone direction me table rank (item ∷ []) ≡ (endpoints_of me table rank item >>= (λ (ends : Endpoints). Ok (transfer_kind direction ends ∷ [])))
    go (NoOwn a) = rw a refl
    go (NotKnown mine a b) = rw (a, b) refl
    go (NoSize mine theirs a b c) = rw (a, b, c) refl
    go (NoRange mine theirs a b c d) = rw (a, b, c, d) refl
    go (Ranged mine theirs true a b c d e) = rw (a, b, c, d, e) refl
    go (Ranged mine theirs false a b c d e) = rw (a, b, c, d, e) refl

-- what stands behind a write or a read with its notification, once the item's ends are there
abbrev pub noted_by : ℕ → ℕ → Result (List Kind) Refusal → Result (List Kind) Refusal
noted_by notes note kinds = check (nat_lt note notes) BadNote >>= (λ noted. kinds)

abbrev pub valued_by : ℕ → Result (List Kind) Refusal → Result (List Kind) Refusal
valued_by value kinds = check (not (value == 0)) ZeroValue >>= (λ valued. kinds)

abbrev pub write_then_note : ℕ → ℕ → SegmentTable → ℕ → Item → ℕ → ℕ → Result (List Kind) Refusal
write_then_note notes me table rank item note value =
    endpoints_of me table rank item >>= (λ (ends : Endpoints). noted_by notes note (valued_by value (Ok (transfer_kind Outward ends ∷ Notify (slot_in ends.theirs item.rseg note) value ∷ []))))

abbrev pub read_then_note : ℕ → ℕ → SegmentTable → ℕ → Item → ℕ → Result (List Kind) Refusal
read_then_note notes me table rank item note =
    endpoints_of me table rank item >>= (λ (ends : Endpoints). noted_by notes note (Ok (transfer_kind Inward ends ∷ ReadNote (slot_in ends.mine item.seg note) ∷ [])))

abbrev pub note_alone : ℕ → ℕ → SegmentTable → ℕ → ℕ → ℕ → ℕ → Result (List Kind) Refusal
note_alone notes me table rank segment note value =
    ok_or (known_extent me table rank segment) Unregistered
    >>= (λ (theirs : Extent). noted_by notes note (valued_by value (Ok (Notify (slot_in theirs segment note) value ∷ []))))

pub one-noted_write : (notes me : ℕ) (table : SegmentTable) (rank : ℕ) (item : Item) (note value : ℕ)
    → writes_with_notification notes me table rank (item ∷ []) item.rseg note value ≡ write_then_note notes me table rank item note value
one-noted_write notes me table rank item note value = go (checked me table rank item)
  where
    go : Checked me table rank item → writes_with_notification notes me table rank (item ∷ []) item.rseg note value ≡ write_then_note notes me table rank item note value
    go (NoOwn a) = rw a refl
    go (NotKnown mine a b) = rw (a, b) refl
    go (NoSize mine theirs a b c) = rw (a, b, c) refl
    go (NoRange mine theirs a b c d) = rw (a, b, c, d) refl
    go (Ranged mine theirs true a b c d e) = rw (a, b, c, d, e) refl
    go (Ranged mine theirs false a b c d e) = rw (a, b, c, d, e) refl

pub one-noted_read : (notes me : ℕ) (table : SegmentTable) (rank : ℕ) (item : Item) (note : ℕ)
    → reads_with_notification notes me table rank (item ∷ []) item.seg note ≡ read_then_note notes me table rank item note
one-noted_read notes me table rank item note = go (checked me table rank item)
  where
    go : Checked me table rank item → reads_with_notification notes me table rank (item ∷ []) item.seg note ≡ read_then_note notes me table rank item note
    go (NoOwn a) = rw a refl
    go (NotKnown mine a b) = rw (a, b) refl
    go (NoSize mine theirs a b c) = rw (a, b, c) refl
    go (NoRange mine theirs a b c d) = rw (a, b, c, d) refl
    go (Ranged mine theirs true a b c d e) = rw (a, b, c, d, e) refl
    go (Ranged mine theirs false a b c d e) = rw (a, b, c, d, e) refl

pub no-item-noted : (notes me : ℕ) (table : SegmentTable) (rank segment note value : ℕ)
    → writes_with_notification notes me table rank [] segment note value ≡ note_alone notes me table rank segment note value
no-item-noted notes me table rank segment note value = go (known_extent me table rank segment) refl
  where
    go : (o : Option Extent) → known_extent me table rank segment ≡ o → writes_with_notification notes me table rank [] segment note value ≡ note_alone notes me table rank segment note value
    go None none = rw none refl
    go (Some theirs) there = rw there refl
