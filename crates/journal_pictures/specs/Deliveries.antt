-- Deliveries: what the puts of entries bring, by their kinds, and by the calls that posted them. (GASPI: one-sided
-- communication, notifications)
use Rattle.std.specs.Prelude.{◌≡◌, ℕ, ◌==◌, List, [], ◌∷◌, ◌++◌, map, length, Option, None, Some, if◌then◌else◌, slice_get}
use Rattle.std.specs.List.{flat_map}
use Rattle.gaspi_types.specs.Posts.{write_item, read_item, write_notify_item, read_notify_item}
use Rattle.gaspi_types.specs.Tables.{changed_at}
use Rattle.gaspi_types.specs.declared.calls.Call.{Call}
use Rattle.gaspi_types.specs.declared.calls.Call.TheVariants as calls
use Rattle.gaspi_types.specs.declared.calls.posts.Item.{Item}
use Rattle.gaspi_types.specs.declared.entries.Direction.{Direction}
use Rattle.gaspi_types.specs.declared.entries.Direction.TheVariants.{Outward, Inward}
use Rattle.gaspi_types.specs.declared.entries.Kind.{Kind}
use Rattle.gaspi_types.specs.declared.entries.Kind.TheVariants as kinds
use Rattle.gaspi_types.specs.declared.events.Event.{Event}
use Rattle.gaspi_types.specs.declared.events.Event.TheVariants.{Called, Take, Put}
use Rattle.gaspi_types.specs.declared.replies.Reply.TheVariants as replies
use Rattle.journal_pictures.specs.declared.deliveries.Delivery.{Delivery}
use Rattle.journal_pictures.specs.declared.deliveries.Delivery.TheVariants.{Bytes, Notification}

-- what an entry of a kind brings: a write and a notification come to the target, a read and its notification to the origin
abbrev pub delivery_of : Kind → Delivery
delivery_of (kinds.Write own target) = Bytes Outward target.size target.segment target.offset
delivery_of (kinds.Read own target) = Bytes Inward own.size own.segment own.offset
delivery_of (kinds.Notify target value) = Notification Outward target.segment target.note value
delivery_of (kinds.ReadNote own) = Notification Inward own.segment own.note 1

-- what the write or read of an item brings
abbrev pub item_delivery : Direction → Item → Delivery
item_delivery Outward item = Bytes Outward item.size item.rseg item.roffset
item_delivery Inward item = Bytes Inward item.size item.seg item.offset

-- what the entries bring that a call posts, in their order
abbrev pub deliveries_of : Call → List Delivery
deliveries_of (calls.Write call) = item_delivery Outward (write_item call) ∷ []
deliveries_of (calls.Read call) = item_delivery Inward (read_item call) ∷ []
deliveries_of (calls.Notify call) = Notification Outward call.rseg call.note call.value ∷ []
deliveries_of (calls.WriteNotify call) = item_delivery Outward (write_notify_item call) ∷ Notification Outward call.rseg call.note call.value ∷ []
deliveries_of (calls.ReadNotify call) = item_delivery Inward (read_notify_item call) ∷ Notification Inward call.seg call.note 1 ∷ []
deliveries_of (calls.WriteList call) = map (item_delivery Outward) call.items
deliveries_of (calls.ReadList call) = map (item_delivery Inward) call.items
deliveries_of (calls.WriteListNotify call) = map (item_delivery Outward) call.items ++ Notification Outward call.nseg call.note call.value ∷ []
deliveries_of (calls.ReadListNotify call) = map (item_delivery Inward) call.items ++ Notification Inward call.nseg call.note 1 ∷ []
deliveries_of call = []

-- what the entries of an origin that an event posts bring: those of a call that is done
abbrev pub posted_in : ℕ → Event → List Delivery
posted_in origin (Called c call replies.Done) = if c.rank == origin then deliveries_of call else []
posted_in origin e = []

-- what all entries of an origin bring that a history posts, by the numbers of the entries
abbrev pub posted : ℕ → List Event → List Delivery
posted origin history = flat_map (posted_in origin) history

-- a table of them, of the ranks that there can be
pub record IsDeliveryTable (table : List (List Delivery)) (history : List Event) : Type 0 where
  pub ranks : length table ≡ 16
  pub each : (rank : ℕ) (row : List Delivery) → slice_get table rank ≡ Some row → row ≡ posted rank history

-- the table after an event
abbrev pub table_after : Event → List (List Delivery) → List (List Delivery)
table_after (Called c call replies.Done) table = changed_at table c.rank (λ row. row ++ deliveries_of call)
table_after e table = table

-- what the entry with a number brings, by the deliveries of its origin
abbrev pub entry_delivery : Option (List Delivery) → ℕ → Option Delivery
entry_delivery None number = None
entry_delivery (Some row) number = slice_get row number

-- what the entry of a transfer brings, by the table
abbrev pub delivery_for : List (List Delivery) → Event → Option Delivery
delivery_for table (Take origin queue target number outcome) = entry_delivery (slice_get table origin) number
delivery_for table (Put origin queue target number outcome) = entry_delivery (slice_get table origin) number
delivery_for table e = None
