-- Which of a post's entries are writes, and which is its notification.
use Rattle.std.proofs.Common.{◌≡◌, ℕ, zero, suc, ◌+◌, ◌-◌, ◌<◌, ◌≤◌, Bool, true, false, ◌==◌, ◌&&◌, nat_lt, List, [], ◌∷◌, ◌++◌, length, Option, Some, Ok, refl, sym, ap, ◌∙◌, subst, arith}
use Rattle.std.specs.List.{slice_get}
use Rattle.std.proofs.lemmas.Bool.{lt-ltb, ltb-true, eq-eqb, ne_eqb}
use Rattle.std.proofs.lemmas.List.{length-append}
use Rattle.std.proofs.lemmas.Option.{slice_get_within}
use Rattle.gaspi_types.specs.CallRows.{row_of, list_entries, entries_of}
use Rattle.gaspi_types.specs.Kinds.{is_write_kind, is_notify_kind}
use Rattle.gaspi_types.specs.Posts.{slot_in, is_list_length, write_item, read_item, write_notify_item, read_notify_item, transfers_alone, writes_with_notification, reads_with_notification, call_kinds}
use Rattle.gaspi_types.specs.declared.call_rows.Posting.{Posting}
use Rattle.gaspi_types.specs.declared.calls.Call.{Call}
use Rattle.gaspi_types.specs.declared.calls.Call.TheVariants.{Write, Read, Notify, WriteNotify, ReadNotify, WriteList, WriteListNotify, ReadList, ReadListNotify}
use Rattle.gaspi_types.specs.declared.calls.posts.Item.{Item}
use Rattle.gaspi_types.specs.declared.entries.Direction.TheVariants.{Outward, Inward}
use Rattle.gaspi_types.specs.declared.entries.Kind.{Kind}
use Rattle.gaspi_types.specs.declared.entries.Kind.TheVariants as kinds_of
use Rattle.gaspi_types.specs.declared.segments.Extent.{Extent}
use Rattle.gaspi_types.specs.declared.segments.SegmentTable.{SegmentTable}
use Rattle.gaspi_model.proofs.Asked.{AreTransfers, near_in, far_in, transfers-length, alone-ok, noted_writes-ok, noted_reads-ok, listed-ok}
use Rattle.call_journal.specs.LaneWrites.{writes_in, posts_notification}

-- Of so many entries the first ones are writes, and the last is a notification, or none is.
pub record AreKinds (writes entries : ℕ) (notified : Bool) (kinds : List Kind) : Type 0 where
  pub count : length kinds ≡ entries
  pub write : (j : ℕ) (kind : Kind) → slice_get kinds j ≡ Some kind → is_write_kind kind ≡ nat_lt j writes
  pub note : (j : ℕ) (kind : Kind) → slice_get kinds j ≡ Some kind → is_notify_kind kind ≡ (notified && (j + 1 == entries))

out-kind : (near far : ℕ → Option Extent) (items : List Item) (kinds : List Kind) (j : ℕ) (kind : Kind) → AreTransfers Outward near far items kinds → slice_get kinds j ≡ Some kind
    → (is_write_kind kind ≡ true) × (is_notify_kind kind ≡ false)
out-kind near far [] [] j kind are at = absurd (let no : ⊥ = cc in no)
out-kind near far [] (x ∷ kinds) j kind are at = absurd are
out-kind near far (item ∷ items) [] j kind are at = absurd are
out-kind near far (item ∷ items) (x ∷ kinds) zero kind are at =
    let same : x ≡ kind = cc in
    let is : kind ≡ kinds_of.Write are.0.ends.own are.0.ends.target = sym same ∙ are.0.is in
    (rw is refl, rw is refl)
out-kind near far (item ∷ items) (x ∷ kinds) (suc j) kind are at = out-kind near far items kinds j kind are.1 at

in-kind : (near far : ℕ → Option Extent) (items : List Item) (kinds : List Kind) (j : ℕ) (kind : Kind) → AreTransfers Inward near far items kinds → slice_get kinds j ≡ Some kind
    → (is_write_kind kind ≡ false) × (is_notify_kind kind ≡ false)
in-kind near far [] [] j kind are at = absurd (let no : ⊥ = cc in no)
in-kind near far [] (x ∷ kinds) j kind are at = absurd are
in-kind near far (item ∷ items) [] j kind are at = absurd are
in-kind near far (item ∷ items) (x ∷ kinds) zero kind are at =
    let same : x ≡ kind = cc in
    let is : kind ≡ kinds_of.Read are.0.ends.own are.0.ends.target = sym same ∙ are.0.is in
    (rw is refl, rw is refl)
in-kind near far (item ∷ items) (x ∷ kinds) (suc j) kind are at = in-kind near far items kinds j kind are.1 at

not-less : (a b : ℕ) → b ≤ a → nat_lt a b ≡ false
not-less a b less = go (nat_lt a b) refl
  where
    go : (t : Bool) → nat_lt a b ≡ t → nat_lt a b ≡ false
    go false is = is
    go true is = absurd (let l = ltb-true a b is in let no : ⊥ = omega arith in no)

-- writes alone
writes-kinds : (near far : ℕ → Option Extent) (items : List Item) (kinds : List Kind) (n : ℕ) → AreTransfers Outward near far items kinds → length items ≡ n → AreKinds n n false kinds
writes-kinds near far items kinds n are count =
    let many = transfers-length Outward near far items kinds are in
    record {
      count = many ∙ count;
      write = λ j kind at. (out-kind near far items kinds j kind are at).0 ∙ sym (lt-ltb j n (let within = slice_get_within kinds j kind at in omega arith));
      note = λ j kind at. (out-kind near far items kinds j kind are at).1;
    }

-- reads alone
reads-kinds : (near far : ℕ → Option Extent) (items : List Item) (kinds : List Kind) (n : ℕ) → AreTransfers Inward near far items kinds → length items ≡ n → AreKinds 0 n false kinds
reads-kinds near far items kinds n are count =
    record {
      count = transfers-length Inward near far items kinds are ∙ count;
      write = λ j kind at. (in-kind near far items kinds j kind are at).0 ∙ sym (not-less j 0 (omega arith));
      note = λ j kind at. (in-kind near far items kinds j kind are at).1;
    }

-- what stands in a list with one item behind it
behind-one : {A P : Type 0} (xs : List A) (y x : A) (j : ℕ) → slice_get (xs ++ y ∷ []) j ≡ Some x → (slice_get xs j ≡ Some x → j < length xs → P) → (j ≡ length xs → y ≡ x → P) → P
behind-one [] y x zero at front last = last refl (let same : y ≡ x = cc in same)
behind-one [] y x (suc j) at front last = absurd (let no : ⊥ = cc in no)
behind-one (z ∷ xs) y x zero at front last = front at (omega arith)
behind-one (z ∷ xs) y x (suc j) at front last = behind-one xs y x j at (λ there less. front there (omega arith)) (λ is same. last (omega arith) same)

-- writes and a notification behind them
noted-kinds : (near far : ℕ → Option Extent) (items : List Item) (transfers kinds : List Kind) (note : Kind) (n m : ℕ) → AreTransfers Outward near far items transfers → kinds ≡ transfers ++ note ∷ []
    → is_write_kind note ≡ false → is_notify_kind note ≡ true → length items ≡ n → m ≡ n + 1 → AreKinds n m true kinds
noted-kinds near far items transfers kinds note n m are is write notify count more =
    let many = transfers-length Outward near far items transfers are in
    record {
      count = (let joined = length-append transfers (note ∷ []) in let all = ap length is in omega arith);
      write = λ j kind at. behind-one transfers note kind j (subst (λ (ks : List Kind). slice_get ks j ≡ Some kind) is at)
          (λ there less. (out-kind near far items transfers j kind are there).0 ∙ sym (lt-ltb j n (omega arith)))
          (λ last same. subst (λ (k : Kind). is_write_kind k ≡ nat_lt j n) same (write ∙ sym (not-less j n (omega arith))));
      note = λ j kind at. behind-one transfers note kind j (subst (λ (ks : List Kind). slice_get ks j ≡ Some kind) is at)
          (λ there less. (out-kind near far items transfers j kind are there).1 ∙ sym (ne_eqb (j + 1) m (omega arith)))
          (λ last same. subst (λ (k : Kind). is_notify_kind k ≡ (j + 1 == m)) same (notify ∙ sym (eq-eqb (j + 1) m (omega arith))));
    }

-- reads and their notification behind them
read_noted-kinds : (near far : ℕ → Option Extent) (items : List Item) (transfers kinds : List Kind) (note : Kind) (n m : ℕ) → AreTransfers Inward near far items transfers → kinds ≡ transfers ++ note ∷ []
    → is_write_kind note ≡ false → is_notify_kind note ≡ false → length items ≡ n → m ≡ n + 1 → AreKinds 0 m false kinds
read_noted-kinds near far items transfers kinds note n m are is write notify count more =
    let many = transfers-length Inward near far items transfers are in
    record {
      count = (let joined = length-append transfers (note ∷ []) in let all = ap length is in omega arith);
      write = λ j kind at. behind-one transfers note kind j (subst (λ (ks : List Kind). slice_get ks j ≡ Some kind) is at)
          (λ there less. (in-kind near far items transfers j kind are there).0 ∙ sym (not-less j 0 (omega arith)))
          (λ last same. subst (λ (k : Kind). is_write_kind k ≡ nat_lt j 0) same (write ∙ sym (not-less j 0 (omega arith))));
      note = λ j kind at. behind-one transfers note kind j (subst (λ (ks : List Kind). slice_get ks j ≡ Some kind) is at)
          (λ there less. (in-kind near far items transfers j kind are there).1)
          (λ last same. subst (λ (k : Kind). is_notify_kind k ≡ false) same notify);
    }

listed-count : (items more : ℕ) → is_list_length items ≡ true → list_entries items more ≡ items + more
listed-count items more h = rw h refl

less-one : (n m : ℕ) → m ≡ n + 1 → n ≡ m - 1
less-one n m is = omega arith

as-writes : (a b entries : ℕ) (notified : Bool) (kinds : List Kind) → a ≡ b → AreKinds a entries notified kinds → AreKinds b entries notified kinds
as-writes a b entries notified kinds same are = subst (λ (n : ℕ). AreKinds n entries notified kinds) same are

-- what a call asks for that posts
pub call-kinds : (notes me : ℕ) (table : SegmentTable) (call : Call) (to : Posting) (kinds : List Kind) → (row_of call).posting ≡ Some to → call_kinds notes me table call ≡ Ok kinds
    → AreKinds (writes_in call) (entries_of call) (posts_notification call) kinds
call-kinds notes me table (Write call) to kinds is h = writes-kinds (near_in table) (far_in me table call.rank) (write_item call ∷ []) kinds 1 (alone-ok Outward me table call.rank (write_item call ∷ []) kinds h) refl
call-kinds notes me table (Read call) to kinds is h = reads-kinds (near_in table) (far_in me table call.rank) (read_item call ∷ []) kinds 1 (alone-ok Inward me table call.rank (read_item call ∷ []) kinds h) refl
call-kinds notes me table (Notify call) to kinds is h =
    let k = noted_writes-ok notes me table call.rank [] call.rseg call.note call.value kinds h in
    noted-kinds (near_in table) (far_in me table call.rank) [] k.transfers kinds (kinds_of.Notify (slot_in k.theirs call.rseg call.note) call.value) 0 1 k.are k.is refl refl refl refl
call-kinds notes me table (WriteNotify call) to kinds is h =
    let k = noted_writes-ok notes me table call.rank (write_notify_item call ∷ []) call.rseg call.note call.value kinds h in
    noted-kinds (near_in table) (far_in me table call.rank) (write_notify_item call ∷ []) k.transfers kinds (kinds_of.Notify (slot_in k.theirs call.rseg call.note) call.value) 1 2 k.are k.is refl refl refl refl
call-kinds notes me table (ReadNotify call) to kinds is h =
    let k = noted_reads-ok notes me table call.rank (read_notify_item call ∷ []) call.seg call.note kinds h in
    read_noted-kinds (near_in table) (far_in me table call.rank) (read_notify_item call ∷ []) k.transfers kinds (kinds_of.ReadNote (slot_in k.mine call.seg call.note)) 1 2 k.are k.is refl refl refl refl
call-kinds notes me table (WriteList call) to kinds is h =
    let l = listed-ok call.items (transfers_alone Outward me table call.rank call.items) kinds h in
    let count = listed-count (length call.items) 0 l.0 in
    writes-kinds (near_in table) (far_in me table call.rank) call.items kinds (list_entries (length call.items) 0) (alone-ok Outward me table call.rank call.items kinds l.1) (omega (arith, count))
call-kinds notes me table (ReadList call) to kinds is h =
    let l = listed-ok call.items (transfers_alone Inward me table call.rank call.items) kinds h in
    let count = listed-count (length call.items) 0 l.0 in
    reads-kinds (near_in table) (far_in me table call.rank) call.items kinds (list_entries (length call.items) 0) (alone-ok Inward me table call.rank call.items kinds l.1) (omega (arith, count))
call-kinds notes me table (WriteListNotify call) to kinds is h =
    let l = listed-ok call.items (writes_with_notification notes me table call.rank call.items call.nseg call.note call.value) kinds h in
    let k = noted_writes-ok notes me table call.rank call.items call.nseg call.note call.value kinds l.1 in
    let count = listed-count (length call.items) 1 l.0 in
    as-writes (length call.items) (list_entries (length call.items) 1 - 1) (list_entries (length call.items) 1) true kinds (less-one (length call.items) _ count)
    (noted-kinds (near_in table) (far_in me table call.rank) call.items k.transfers kinds (kinds_of.Notify (slot_in k.theirs call.nseg call.note) call.value) (length call.items) (list_entries (length call.items) 1) k.are k.is refl refl refl count)
call-kinds notes me table (ReadListNotify call) to kinds is h =
    let l = listed-ok call.items (reads_with_notification notes me table call.rank call.items call.nseg call.note) kinds h in
    let k = noted_reads-ok notes me table call.rank call.items call.nseg call.note kinds l.1 in
    let count = listed-count (length call.items) 1 l.0 in
    read_noted-kinds (near_in table) (far_in me table call.rank) call.items k.transfers kinds (kinds_of.ReadNote (slot_in k.mine call.nseg call.note)) (length call.items) (list_entries (length call.items) 1) k.are k.is refl refl refl count
call-kinds notes me table other to kinds is h = absurd (let no : ⊥ = cc in no)
