-- What the entries of a post bring is what its call says.
use Rattle.std.proofs.Common.{◌≡◌, ℕ, List, [], ◌∷◌, ◌++◌, map, Option, None, Some, Ok, refl, ap, ap₂, ◌∙◌}
use Rattle.std.proofs.lemmas.List.{map-append}
use Rattle.gaspi_types.specs.CallRows.{row_of}
use Rattle.gaspi_types.specs.Posts.{slot_in, write_item, read_item, write_notify_item, read_notify_item, transfer_kind, transfers_alone, writes_with_notification, reads_with_notification, call_kinds}
use Rattle.gaspi_types.specs.declared.call_rows.Posting.{Posting}
use Rattle.gaspi_types.specs.declared.calls.Call.{Call}
use Rattle.gaspi_types.specs.declared.calls.Call.TheVariants.{Write, Read, Notify, WriteNotify, ReadNotify, WriteList, WriteListNotify, ReadList, ReadListNotify}
use Rattle.gaspi_types.specs.declared.calls.posts.Item.{Item}
use Rattle.gaspi_types.specs.declared.entries.Direction.{Direction}
use Rattle.gaspi_types.specs.declared.entries.Direction.TheVariants.{Outward, Inward}
use Rattle.gaspi_types.specs.declared.entries.Endpoints.{Endpoints}
use Rattle.gaspi_types.specs.declared.entries.Kind.{Kind}
use Rattle.gaspi_types.specs.declared.entries.Kind.TheVariants as kinds_of
use Rattle.gaspi_types.specs.declared.segments.Extent.{Extent}
use Rattle.gaspi_types.specs.declared.segments.SegmentTable.{SegmentTable}
use Rattle.gaspi_model.proofs.Asked.{AreTransfers, IsTransfer, near_in, far_in, alone-ok, noted_writes-ok, noted_reads-ok, listed-ok}
use Rattle.journal_pictures.specs.Deliveries.{delivery_of, item_delivery, deliveries_of}
use Rattle.journal_pictures.specs.declared.deliveries.Delivery.{Delivery}

item-brings : (direction : Direction) (near far : ℕ → Option Extent) (item : Item) (kind : Kind) → IsTransfer direction near far item kind → delivery_of kind ≡ item_delivery direction item
item-brings Outward near far item kind is = ap delivery_of is.is ∙ ap (λ (e : Endpoints). delivery_of (transfer_kind Outward e)) is.are.are
item-brings Inward near far item kind is = ap delivery_of is.is ∙ ap (λ (e : Endpoints). delivery_of (transfer_kind Inward e)) is.are.are

items-bring : (direction : Direction) (near far : ℕ → Option Extent) (items : List Item) (kinds : List Kind) → AreTransfers direction near far items kinds
    → map delivery_of kinds ≡ map (item_delivery direction) items
items-bring direction near far [] [] are = refl
items-bring direction near far [] (kind ∷ kinds) are = absurd are
items-bring direction near far (item ∷ items) [] are = absurd are
items-bring direction near far (item ∷ items) (kind ∷ kinds) are =
    ap₂ (λ (d : Delivery) (ds : List Delivery). d ∷ ds) (item-brings direction near far item kind are.0) (items-bring direction near far items kinds are.1)

-- with a notification behind them
noted-bring : (direction : Direction) (near far : ℕ → Option Extent) (items : List Item) (transfers kinds : List Kind) (note : Kind) → AreTransfers direction near far items transfers
    → kinds ≡ transfers ++ note ∷ [] → map delivery_of kinds ≡ map (item_delivery direction) items ++ delivery_of note ∷ []
noted-bring direction near far items transfers kinds note are is =
    ap (map delivery_of) is ∙ map-append delivery_of transfers (note ∷ [])
    ∙ ap (λ (ds : List Delivery). ds ++ delivery_of note ∷ []) (items-bring direction near far items transfers are)

-- what a call asks for that posts
pub call-brings : (notes me : ℕ) (table : SegmentTable) (call : Call) (to : Posting) (kinds : List Kind) → (row_of call).posting ≡ Some to → call_kinds notes me table call ≡ Ok kinds
    → map delivery_of kinds ≡ deliveries_of call
call-brings notes me table (Write call) to kinds is h =
    items-bring Outward (near_in table) (far_in me table call.rank) (write_item call ∷ []) kinds (alone-ok Outward me table call.rank (write_item call ∷ []) kinds h)
call-brings notes me table (Read call) to kinds is h =
    items-bring Inward (near_in table) (far_in me table call.rank) (read_item call ∷ []) kinds (alone-ok Inward me table call.rank (read_item call ∷ []) kinds h)
call-brings notes me table (Notify call) to kinds is h =
    let k = noted_writes-ok notes me table call.rank [] call.rseg call.note call.value kinds h in
    noted-bring Outward (near_in table) (far_in me table call.rank) [] k.transfers kinds (kinds_of.Notify (slot_in k.theirs call.rseg call.note) call.value) k.are k.is
call-brings notes me table (WriteNotify call) to kinds is h =
    let k = noted_writes-ok notes me table call.rank (write_notify_item call ∷ []) call.rseg call.note call.value kinds h in
    noted-bring Outward (near_in table) (far_in me table call.rank) (write_notify_item call ∷ []) k.transfers kinds (kinds_of.Notify (slot_in k.theirs call.rseg call.note) call.value) k.are k.is
call-brings notes me table (ReadNotify call) to kinds is h =
    let k = noted_reads-ok notes me table call.rank (read_notify_item call ∷ []) call.seg call.note kinds h in
    noted-bring Inward (near_in table) (far_in me table call.rank) (read_notify_item call ∷ []) k.transfers kinds (kinds_of.ReadNote (slot_in k.mine call.seg call.note)) k.are k.is
call-brings notes me table (WriteList call) to kinds is h =
    let l = listed-ok call.items (transfers_alone Outward me table call.rank call.items) kinds h in
    items-bring Outward (near_in table) (far_in me table call.rank) call.items kinds (alone-ok Outward me table call.rank call.items kinds l.1)
call-brings notes me table (ReadList call) to kinds is h =
    let l = listed-ok call.items (transfers_alone Inward me table call.rank call.items) kinds h in
    items-bring Inward (near_in table) (far_in me table call.rank) call.items kinds (alone-ok Inward me table call.rank call.items kinds l.1)
call-brings notes me table (WriteListNotify call) to kinds is h =
    let l = listed-ok call.items (writes_with_notification notes me table call.rank call.items call.nseg call.note call.value) kinds h in
    let k = noted_writes-ok notes me table call.rank call.items call.nseg call.note call.value kinds l.1 in
    noted-bring Outward (near_in table) (far_in me table call.rank) call.items k.transfers kinds (kinds_of.Notify (slot_in k.theirs call.nseg call.note) call.value) k.are k.is
call-brings notes me table (ReadListNotify call) to kinds is h =
    let l = listed-ok call.items (reads_with_notification notes me table call.rank call.items call.nseg call.note) kinds h in
    let k = noted_reads-ok notes me table call.rank call.items call.nseg call.note kinds l.1 in
    noted-bring Inward (near_in table) (far_in me table call.rank) call.items k.transfers kinds (kinds_of.ReadNote (slot_in k.mine call.nseg call.note)) k.are k.is
call-brings notes me table other to kinds is h = absurd (let no : ⊥ = cc in no)

-- a call that posts nothing brings nothing
pub unposting : (call : Call) → (row_of call).posting ≡ None → deliveries_of call ≡ []
unposting (Write call) none = absurd (let no : ⊥ = cc in no)
unposting (Read call) none = absurd (let no : ⊥ = cc in no)
unposting (Notify call) none = absurd (let no : ⊥ = cc in no)
unposting (WriteNotify call) none = absurd (let no : ⊥ = cc in no)
unposting (ReadNotify call) none = absurd (let no : ⊥ = cc in no)
unposting (WriteList call) none = absurd (let no : ⊥ = cc in no)
unposting (WriteListNotify call) none = absurd (let no : ⊥ = cc in no)
unposting (ReadList call) none = absurd (let no : ⊥ = cc in no)
unposting (ReadListNotify call) none = absurd (let no : ⊥ = cc in no)
unposting other none = refl
