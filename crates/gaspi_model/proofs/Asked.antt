-- What a post asks for, where it is not refused.
use Rattle.std.proofs.Common.{◌≡◌, ℕ, ◌+◌, ◌≤◌, Bool, true, false, not, ◌==◌, nat_lt, nat_le, List, [], ◌∷◌, ◌++◌, length, Option, Some, Result, Ok, refl, sym, ap, subst, ◌∙◌, arith}
use Rattle.std.proofs.lemmas.Bool.{leb-true}
use Rattle.std.proofs.lemmas.List.{length-append}
use Rattle.gaspi_types.specs.CallRows.{row_of, list_entries}
use Rattle.gaspi_types.specs.Checks.{check_each, ok_or}
use Rattle.gaspi_types.specs.Posts.{range_in, slot_in, is_list_length, write_item, read_item, write_notify_item, read_notify_item, has_segments, has_size, endpoints_of, transfer_kind, transfers_of, checked_transfers, no_further_check, transfers_alone, writes_with_notification, reads_with_notification, listed, call_kinds}
use Rattle.gaspi_types.specs.SegmentBytes.{is_transfer_size, is_within}
use Rattle.gaspi_types.specs.SegmentTables.{extent_in, known_extent}
use Rattle.gaspi_types.specs.declared.call_rows.Posting.{Posting}
use Rattle.gaspi_types.specs.declared.calls.Call.{Call}
use Rattle.gaspi_types.specs.declared.calls.Call.TheVariants.{Write, Read, Notify, WriteNotify, ReadNotify, WriteList, WriteListNotify, ReadList, ReadListNotify}
use Rattle.gaspi_types.specs.declared.calls.posts.Item.{Item}
use Rattle.gaspi_types.specs.declared.entries.Direction.{Direction}
use Rattle.gaspi_types.specs.declared.entries.Direction.TheVariants.{Outward, Inward}
use Rattle.gaspi_types.specs.declared.entries.Endpoints.{Endpoints}
use Rattle.gaspi_types.specs.declared.entries.Kind.{Kind}
use Rattle.gaspi_types.specs.declared.entries.Kind.TheVariants as kinds_of
use Rattle.gaspi_types.specs.declared.segments.Extent.{Extent}
use Rattle.gaspi_types.specs.declared.segments.SegmentTable.{SegmentTable}
use Rattle.gaspi_types.specs.declared.replies.Refusal.{Refusal}
use Rattle.gaspi_types.specs.declared.replies.Refusal.TheVariants.{NoSegment, Unregistered, BadCount}
use Rattle.gaspi_types.proofs.Chains.{both, bind_then, check_then, found_then, found_there, same_Ok}

-- the two ends of a transfer, by what stands in the own segments and what is known of those of its target
pub record AreEnds (near far : ℕ → Option Extent) (item : Item) (ends : Endpoints) : Type 0 where
  pub mine : Extent
  pub theirs : Extent
  pub mine_there : near item.seg ≡ Some mine
  pub theirs_there : far item.rseg ≡ Some theirs
  pub from : is_within item.offset item.size mine.size ≡ true
  pub to : is_within item.roffset item.size theirs.size ≡ true
  pub are : ends ≡ record { mine = mine; theirs = theirs; own = range_in mine item.seg item.offset item.size; target = range_in theirs item.rseg item.roffset item.size }

-- what a rank has, and what it knows of another
abbrev pub near_in : SegmentTable → ℕ → Option Extent
near_in table segment = extent_in table.own segment

abbrev pub far_in : ℕ → SegmentTable → ℕ → ℕ → Option Extent
far_in me table rank segment = known_extent me table rank segment

ends-ok : (me : ℕ) (table : SegmentTable) (rank : ℕ) (item : Item) (ends : Endpoints) → endpoints_of me table rank item ≡ Ok ends → AreEnds (near_in table) (far_in me table rank) item ends
ends-ok me table rank item ends h =
    found_then (extent_in table.own item.seg) _ _ ends h (λ mine hm h1.
    found_then (known_extent me table rank item.rseg) _ _ ends h1 (λ theirs ht h2.
    check_then (is_transfer_size item.size) _ _ ends h2 (λ sized h3.
    check_then (is_within item.offset item.size mine.size) _ _ ends h3 (λ from h4.
    check_then (is_within item.roffset item.size theirs.size) _ _ ends h4 (λ to h5.
    record { mine = mine; theirs = theirs; mine_there = hm; theirs_there = ht; from = from; to = to; are = sym (same_Ok _ _ h5) })))))

-- a transfer
pub record IsTransfer (direction : Direction) (near far : ℕ → Option Extent) (item : Item) (kind : Kind) : Type 0 where
  pub ends : Endpoints
  pub are : AreEnds near far item ends
  pub is : kind ≡ transfer_kind direction ends

-- a transfer for each item
abbrev pub AreTransfers : Direction → (ℕ → Option Extent) → (ℕ → Option Extent) → List Item → List Kind → Type 0
AreTransfers direction near far [] [] = Unit {0}
AreTransfers direction near far [] (kind ∷ kinds) = ⊥
AreTransfers direction near far (item ∷ items) [] = ⊥
AreTransfers direction near far (item ∷ items) (kind ∷ kinds) = IsTransfer direction near far item kind × AreTransfers direction near far items kinds

pub transfers-length : (direction : Direction) (near far : ℕ → Option Extent) (items : List Item) (kinds : List Kind) → AreTransfers direction near far items kinds → length kinds ≡ length items
transfers-length direction near far [] [] are = refl
transfers-length direction near far [] (kind ∷ kinds) are = absurd are
transfers-length direction near far (item ∷ items) [] are = absurd are
transfers-length direction near far (item ∷ items) (kind ∷ kinds) are = let rest = transfers-length direction near far items kinds are.1 in omega arith

transfers-ok : (direction : Direction) (me : ℕ) (table : SegmentTable) (rank : ℕ) (items : List Item) (kinds : List Kind) → transfers_of direction me table rank items ≡ Ok kinds
    → AreTransfers direction (near_in table) (far_in me table rank) items kinds
transfers-ok direction me table rank [] kinds h = subst (λ (k : List Kind). AreTransfers direction (near_in table) (far_in me table rank) [] k) (same_Ok _ _ h) tt
transfers-ok direction me table rank (item ∷ items) kinds h =
    bind_then (endpoints_of me table rank item) _ kinds h (λ ends he h1.
    bind_then (transfers_of direction me table rank items) _ kinds h1 (λ more hm h2.
    subst (λ (k : List Kind). AreTransfers direction (near_in table) (far_in me table rank) (item ∷ items) k) (same_Ok _ _ h2)
    (record { ends = ends; are = ends-ok me table rank item ends he; is = refl }, transfers-ok direction me table rank items more hm)))

checked-ok : {A : Type 0} (direction : Direction) (me : ℕ) (table : SegmentTable) (rank : ℕ) (items : List Item) (beside : Result A Refusal) (x : A × List Kind)
    → checked_transfers direction me table rank items beside ≡ Ok x → (beside ≡ Ok x.0) × AreTransfers direction (near_in table) (far_in me table rank) items x.1
checked-ok {A} direction me table rank items beside x h =
    bind_then (check_each (has_segments me table rank) items) _ x h (λ there h0 h1.
    bind_then beside _ x h1 (λ known hk h2.
    bind_then (check_each has_size items) _ x h2 (λ sized h4 h5.
    bind_then (transfers_of direction me table rank items) _ x h5 (λ kinds ht h6.
    subst (λ (y : A × List Kind). (beside ≡ Ok y.0) × AreTransfers direction (near_in table) (far_in me table rank) items y.1) (same_Ok _ _ h6)
    (hk, transfers-ok direction me table rank items kinds ht)))))

pub alone-ok : (direction : Direction) (me : ℕ) (table : SegmentTable) (rank : ℕ) (items : List Item) (kinds : List Kind) → transfers_alone direction me table rank items ≡ Ok kinds
    → AreTransfers direction (near_in table) (far_in me table rank) items kinds
alone-ok direction me table rank items kinds h =
    bind_then (checked_transfers direction me table rank items no_further_check) _ kinds h (λ x hx h1.
    subst (λ (k : List Kind). AreTransfers direction (near_in table) (far_in me table rank) items k) (same_Ok _ _ h1) (checked-ok direction me table rank items no_further_check x hx).1)

-- writes with a notification behind them, of a segment that is known
pub record AreNotedWrites (notes : ℕ) (near far : ℕ → Option Extent) (items : List Item) (segment note value : ℕ) (kinds : List Kind) : Type 0 where
  pub transfers : List Kind
  pub are : AreTransfers Outward near far items transfers
  pub theirs : Extent
  pub theirs_there : far segment ≡ Some theirs
  pub noted : nat_lt note notes ≡ true
  pub is : kinds ≡ transfers ++ kinds_of.Notify (slot_in theirs segment note) value ∷ []

pub noted_writes-ok : (notes me : ℕ) (table : SegmentTable) (rank : ℕ) (items : List Item) (segment note value : ℕ) (kinds : List Kind)
    → writes_with_notification notes me table rank items segment note value ≡ Ok kinds → AreNotedWrites notes (near_in table) (far_in me table rank) items segment note value kinds
noted_writes-ok notes me table rank items segment note value kinds h =
    let beside = ok_or (known_extent me table rank segment) Unregistered in
    bind_then (checked_transfers Outward me table rank items beside) _ kinds h (λ x hx h1.
    check_then (nat_lt note notes) _ _ kinds h1 (λ noted h2.
    check_then (not (value == 0)) _ _ kinds h2 (λ valued h3.
    let c = checked-ok Outward me table rank items beside x hx in
    record { transfers = x.1; are = c.1; theirs = x.0; theirs_there = found_there _ _ _ c.0; noted = noted; is = sym (same_Ok _ _ h3) })))

-- reads with a notification behind them, of an own segment
pub record AreNotedReads (notes : ℕ) (near far : ℕ → Option Extent) (items : List Item) (segment note : ℕ) (kinds : List Kind) : Type 0 where
  pub transfers : List Kind
  pub are : AreTransfers Inward near far items transfers
  pub mine : Extent
  pub mine_there : near segment ≡ Some mine
  pub noted : nat_lt note notes ≡ true
  pub is : kinds ≡ transfers ++ kinds_of.ReadNote (slot_in mine segment note) ∷ []

pub noted_reads-ok : (notes me : ℕ) (table : SegmentTable) (rank : ℕ) (items : List Item) (segment note : ℕ) (kinds : List Kind)
    → reads_with_notification notes me table rank items segment note ≡ Ok kinds → AreNotedReads notes (near_in table) (far_in me table rank) items segment note kinds
noted_reads-ok notes me table rank items segment note kinds h =
    let beside = ok_or (extent_in table.own segment) NoSegment in
    bind_then (checked_transfers Inward me table rank items beside) _ kinds h (λ x hx h1.
    check_then (nat_lt note notes) _ _ kinds h1 (λ noted h2.
    let c = checked-ok Inward me table rank items beside x hx in
    record { transfers = x.1; are = c.1; mine = x.0; mine_there = found_there _ _ _ c.0; noted = noted; is = sym (same_Ok _ _ h2) }))

pub listed-ok : (items : List Item) (asked : Result (List Kind) Refusal) (kinds : List Kind) → listed items asked ≡ Ok kinds → (is_list_length (length items) ≡ true) × (asked ≡ Ok kinds)
listed-ok items asked kinds h = check_then (is_list_length (length items)) BadCount _ kinds h (λ counted h1. (counted, h1))

-- What any post asks for: transfers, and a notification behind them or none.
pub data IsAsked (notes : ℕ) (near far : ℕ → Option Extent) (kinds : List Kind) : Type 0 where
  Alone : (direction : Direction) (items : List Item) → AreTransfers direction near far items kinds → IsAsked notes near far kinds
  NotedWrites : (items : List Item) (segment note value : ℕ) → AreNotedWrites notes near far items segment note value kinds → IsAsked notes near far kinds
  NotedReads : (items : List Item) (segment note : ℕ) → AreNotedReads notes near far items segment note kinds → IsAsked notes near far kinds

-- it is as many entries as the call's row says, and at least one
pub record IsAskedBy (notes me : ℕ) (table : SegmentTable) (to : Posting) (kinds : List Kind) : Type 0 where
  pub asked : IsAsked notes (near_in table) (far_in me table to.rank) kinds
  pub count : length kinds ≡ to.entries
  pub some : 1 ≤ to.entries

noted_writes-length : (notes : ℕ) (near far : ℕ → Option Extent) (items : List Item) (segment note value : ℕ) (kinds : List Kind) → AreNotedWrites notes near far items segment note value kinds
    → length kinds ≡ length items + 1
noted_writes-length notes near far items segment note value kinds h =
    let transfers = transfers-length Outward near far items h.transfers h.are in
    let joined = length-append h.transfers (kinds_of.Notify (slot_in h.theirs segment note) value ∷ []) in
    let all = ap length h.is in
    omega arith

noted_reads-length : (notes : ℕ) (near far : ℕ → Option Extent) (items : List Item) (segment note : ℕ) (kinds : List Kind) → AreNotedReads notes near far items segment note kinds
    → length kinds ≡ length items + 1
noted_reads-length notes near far items segment note kinds h =
    let transfers = transfers-length Inward near far items h.transfers h.are in
    let joined = length-append h.transfers (kinds_of.ReadNote (slot_in h.mine segment note) ∷ []) in
    let all = ap length h.is in
    omega arith

-- a list whose length is within its limits
listed-count : (items more : ℕ) → is_list_length items ≡ true → list_entries items more ≡ items + more
listed-count items more h = rw h refl

listed-some : (items more : ℕ) → is_list_length items ≡ true → 1 ≤ list_entries items more
listed-some items more h =
    let least = leb-true 1 items (both (nat_le 1 items) (nat_le items 256) h).0 in
    let count = listed-count items more h in
    omega arith

as-row : (notes me : ℕ) (table : SegmentTable) (p to : Posting) (kinds : List Kind) → ◌≡◌ {A = Option Posting} (Some p) (Some to) → IsAskedBy notes me table p kinds → IsAskedBy notes me table to kinds
as-row notes me table p to kinds is by = let same : p ≡ to = cc in subst (λ (q : Posting). IsAskedBy notes me table q kinds) same by

alone-by : (notes me : ℕ) (table : SegmentTable) (to : Posting) (direction : Direction) (items : List Item) (kinds : List Kind) → length items ≡ to.entries → 1 ≤ to.entries
    → transfers_alone direction me table to.rank items ≡ Ok kinds → IsAskedBy notes me table to kinds
alone-by notes me table to direction items kinds count some h =
    let are = alone-ok direction me table to.rank items kinds h in
    record { asked = Alone direction items are; count = transfers-length direction (near_in table) (far_in me table to.rank) items kinds are ∙ count; some = some }

noted_writes-by : (notes me : ℕ) (table : SegmentTable) (to : Posting) (items : List Item) (segment note value : ℕ) (kinds : List Kind) → length items + 1 ≡ to.entries
    → writes_with_notification notes me table to.rank items segment note value ≡ Ok kinds → IsAskedBy notes me table to kinds
noted_writes-by notes me table to items segment note value kinds count h =
    let are = noted_writes-ok notes me table to.rank items segment note value kinds h in
    record { asked = NotedWrites items segment note value are; count = noted_writes-length notes (near_in table) (far_in me table to.rank) items segment note value kinds are ∙ count; some = (omega arith) }

noted_reads-by : (notes me : ℕ) (table : SegmentTable) (to : Posting) (items : List Item) (segment note : ℕ) (kinds : List Kind) → length items + 1 ≡ to.entries
    → reads_with_notification notes me table to.rank items segment note ≡ Ok kinds → IsAskedBy notes me table to kinds
noted_reads-by notes me table to items segment note kinds count h =
    let are = noted_reads-ok notes me table to.rank items segment note kinds h in
    record { asked = NotedReads items segment note are; count = noted_reads-length notes (near_in table) (far_in me table to.rank) items segment note kinds are ∙ count; some = (omega arith) }

-- a call that posts asks for that
pub asked-by : (notes me : ℕ) (table : SegmentTable) (call : Call) (to : Posting) (kinds : List Kind) → (row_of call).posting ≡ Some to → call_kinds notes me table call ≡ Ok kinds
    → IsAskedBy notes me table to kinds
asked-by notes me table (Write call) to kinds is h =
    let p : Posting = record { entries = 1; rank = call.rank; queue = call.queue } in
    as-row notes me table p to kinds is (alone-by notes me table p Outward (write_item call ∷ []) kinds refl (omega arith) h)
asked-by notes me table (Read call) to kinds is h =
    let p : Posting = record { entries = 1; rank = call.rank; queue = call.queue } in
    as-row notes me table p to kinds is (alone-by notes me table p Inward (read_item call ∷ []) kinds refl (omega arith) h)
asked-by notes me table (Notify call) to kinds is h =
    let p : Posting = record { entries = 1; rank = call.rank; queue = call.queue } in
    as-row notes me table p to kinds is (noted_writes-by notes me table p [] call.rseg call.note call.value kinds refl h)
asked-by notes me table (WriteNotify call) to kinds is h =
    let p : Posting = record { entries = 2; rank = call.rank; queue = call.queue } in
    as-row notes me table p to kinds is (noted_writes-by notes me table p (write_notify_item call ∷ []) call.rseg call.note call.value kinds refl h)
asked-by notes me table (ReadNotify call) to kinds is h =
    let p : Posting = record { entries = 2; rank = call.rank; queue = call.queue } in
    as-row notes me table p to kinds is (noted_reads-by notes me table p (read_notify_item call ∷ []) call.seg call.note kinds refl h)
asked-by notes me table (WriteList call) to kinds is h =
    let p : Posting = record { entries = list_entries (length call.items) 0; rank = call.rank; queue = call.queue } in
    let l = listed-ok call.items (transfers_alone Outward me table call.rank call.items) kinds h in
    let count = listed-count (length call.items) 0 l.0 in
    as-row notes me table p to kinds is (alone-by notes me table p Outward call.items kinds (omega (arith, count)) (listed-some (length call.items) 0 l.0) l.1)
asked-by notes me table (WriteListNotify call) to kinds is h =
    let p : Posting = record { entries = list_entries (length call.items) 1; rank = call.rank; queue = call.queue } in
    let l = listed-ok call.items (writes_with_notification notes me table call.rank call.items call.nseg call.note call.value) kinds h in
    as-row notes me table p to kinds is (noted_writes-by notes me table p call.items call.nseg call.note call.value kinds (sym (listed-count (length call.items) 1 l.0)) l.1)
asked-by notes me table (ReadList call) to kinds is h =
    let p : Posting = record { entries = list_entries (length call.items) 0; rank = call.rank; queue = call.queue } in
    let l = listed-ok call.items (transfers_alone Inward me table call.rank call.items) kinds h in
    let count = listed-count (length call.items) 0 l.0 in
    as-row notes me table p to kinds is (alone-by notes me table p Inward call.items kinds (omega (arith, count)) (listed-some (length call.items) 0 l.0) l.1)
asked-by notes me table (ReadListNotify call) to kinds is h =
    let p : Posting = record { entries = list_entries (length call.items) 1; rank = call.rank; queue = call.queue } in
    let l = listed-ok call.items (reads_with_notification notes me table call.rank call.items call.nseg call.note) kinds h in
    as-row notes me table p to kinds is (noted_reads-by notes me table p call.items call.nseg call.note kinds (sym (listed-count (length call.items) 1 l.0)) l.1)
asked-by notes me table other to kinds is h = absurd (let no : ⊥ = cc in no)

-- it is at most one more than a list may have items
pub entries-few : (items more : ℕ) → list_entries items more ≤ 256 + more
entries-few items more = go (is_list_length items) refl
  where
    go : (b : Bool) → is_list_length items ≡ b → list_entries items more ≤ 256 + more
    go true is = let most = leb-true items 256 (both (nat_le 1 items) (nat_le items 256) is).1 in rw is (omega arith)
    go false is = rw is (omega arith)
