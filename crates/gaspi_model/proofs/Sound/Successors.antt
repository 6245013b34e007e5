-- How the tables of segments of a rank change: a number that is free gets a segment of its next generation, or a segment
-- goes. What was known of the segments of the rank stays so, and the entries that go to it fit as before.
use Rattle.std.proofs.Common.{◌≡◌, ℕ, ◌+◌, ◌<◌, ◌≤◌, Bool, true, false, ◌==◌, List, length, Option, None, Some, refl, sym, ap, ◌∙◌, subst, arith, ◌⊎◌, inl, inr}
use Rattle.std.specs.List.{slice_get, slice_set}
use Rattle.std.proofs.lemmas.Bool.{eq-eqb, eqb-true}
use Rattle.gaspi_types.specs.Lanes.{uses}
use Rattle.gaspi_types.specs.SegmentBytes.{is_within}
use Rattle.gaspi_types.specs.SegmentTables.{extent_in, next_generation, with_generation}
use Rattle.gaspi_types.specs.declared.entries.Entry.{Entry}
use Rattle.gaspi_types.specs.declared.segments.Extent.{Extent}
use Rattle.gaspi_types.specs.declared.entries.ByteRange.{ByteRange}
use Rattle.gaspi_types.specs.declared.entries.Kind.{Kind}
use Rattle.gaspi_types.specs.declared.entries.Kind.TheVariants.{Write, Read, Notify, ReadNote}
use Rattle.gaspi_types.specs.declared.entries.Phase.{Phase}
use Rattle.gaspi_types.specs.declared.entries.Phase.TheVariants.{Posted, Carried, Failed}
use Rattle.gaspi_model.specs.Coherence.{Tables, WasMade, AreMade, LiesIn, LiesInIfThere, IsIn, HasOwn, HasTarget, IsWithinTarget, AreWithinSegments, Knows}
use Rattle.gaspi_types.specs.declared.entries.Queue.{Queue}
use Rattle.gaspi_types.proofs.Items.{slice_get-set_other}
use Rattle.gaspi_types.proofs.Extents.{generation-grows, generation-set, extent-set}

-- a change leaves the other numbers as they are
pub extent-other : (table : List (Option Extent)) (segment : ℕ) (o : Option Extent) (k : ℕ) → (segment ≡ k → ⊥) → extent_in (slice_set table segment o) k ≡ extent_in table k
extent-other table segment o k apart = rw (slice_get-set_other table segment k o apart) refl

-- a range of another segment lies where it lay
pub lies-other : (table : List (Option Extent)) (segment : ℕ) (o : Option Extent) (range : ByteRange) → (segment ≡ range.segment → ⊥) → LiesIn table range → LiesIn (slice_set table segment o) range
lies-other table segment o range apart lies = record { extent = lies.extent; there = extent-other table segment o range.segment apart ∙ lies.there; generation = lies.generation; within = lies.within }

-- Tables that come after others.

-- the next generations have not become smaller, and a segment that is there was there before or is of a generation that
-- came since
pub record Succeeds (old new : Tables) : Type 0 where
  pub next : (segment : ℕ) → next_generation old.next segment ≤ next_generation new.next segment
  pub own : (segment : ℕ) (x : Extent) → extent_in new.own segment ≡ Some x → (extent_in old.own segment ≡ Some x) ⊎ ((next_generation old.next segment ≤ x.generation) × WasMade new segment x.generation)

pub succeeds-itself : (tables : Tables) → Succeeds tables tables
succeeds-itself tables = record { next = λ segment. (omega arith); own = λ segment x at. inl at }

pub made-stays : (old new : Tables) → Succeeds old new → AreMade old → AreMade new
made-stays old new h made segment x at = go (h.own segment x at)
  where
    go : (extent_in old.own segment ≡ Some x) ⊎ ((next_generation old.next segment ≤ x.generation) × WasMade new segment x.generation) → WasMade new segment x.generation
    go (inl was) = let before = made segment x was in let more = h.next segment in omega arith
    go (inr is) = is.1

-- of all ranks
abbrev pub Follow : List Tables → List Tables → Type 0
Follow old new = (rank : ℕ) (after : Tables) → slice_get new rank ≡ Some after → (before : Tables) × (slice_get old rank ≡ Some before) × Succeeds before after

-- what is known stays true
pub knows-follows : (old new : List Tables) (known : List (List (Option Extent))) → Follow old new → Knows old known → Knows new known
knows-follows old new known follow knows rank table after hk ht segment x at =
    let f = follow rank after ht in
    let k = knows rank table f.0 hk f.1 segment x at in
    ((let more = f.2.next segment in let was = k.0 in omega arith), λ y there same. size f.0 f.2 k.0 k.1 y there same (f.2.own segment y there))
  where
    size : (before : Tables) → Succeeds before after → WasMade before segment x.generation → ((y : Extent) → extent_in before.own segment ≡ Some y → y.generation ≡ x.generation → y.size ≡ x.size)
        → (y : Extent) → extent_in after.own segment ≡ Some y → y.generation ≡ x.generation
        → (extent_in before.own segment ≡ Some y) ⊎ ((next_generation before.next segment ≤ y.generation) × WasMade after segment y.generation) → y.size ≡ x.size
    size before h made was y there same (inl old_one) = was y old_one same
    size before h made was y there same (inr new_one) = absurd (let later = new_one.0 in let no : ⊥ = omega arith in no)

-- a range of a segment that was made lies within it, where it is there
lies-stays : (old new : Tables) (range : ByteRange) → Succeeds old new → WasMade old range.segment range.generation → LiesInIfThere old.own range → LiesInIfThere new.own range
lies-stays old new range h made lies x there same = go (h.own range.segment x there)
  where
    go : (extent_in old.own range.segment ≡ Some x) ⊎ ((next_generation old.next range.segment ≤ x.generation) × WasMade new range.segment x.generation) → is_within range.offset range.size x.size ≡ true
    go (inl was) = lies x was same
    go (inr is) = absurd (let later = is.0 in let no : ⊥ = omega arith in no)

-- what an entry has to do with its target's segment stays
target-stays : (old new : Tables) (own target : ByteRange) → Succeeds old new → HasTarget old own target → HasTarget new own target
target-stays old new own target h f =
    let more = h.next target.segment in
    let made : WasMade new target.segment target.generation = (let was = f.2 in omega arith) in
    (f.0, f.1, made, lies-stays old new target h f.2 f.3)

fits-target-stays : (notes : ℕ) (old new : Tables) (kind : Kind) → Succeeds old new → IsWithinTarget notes old kind → IsWithinTarget notes new kind
fits-target-stays notes old new (Write own target) h f = target-stays old new own target h f
fits-target-stays notes old new (Read own target) h f = target-stays old new own target h f
fits-target-stays notes old new (Notify target value) h f =
    let more = h.next target.segment in
    let made : WasMade new target.segment target.generation = (let was = f.1 in omega arith) in
    (f.0, made)
fits-target-stays notes old new (ReadNote own) h f = f

-- what the entries of queues have to do with their own segments stays in a table
abbrev pub OwnsStay : List (Option Extent) → List (Option Extent) → List Queue → Type 0
OwnsStay old new queues =
    (queue : ℕ) (q : Queue) → slice_get queues queue ≡ Some q → (target : ℕ) (lane : List Entry) → slice_get q.lanes target ≡ Some lane
    → (place : ℕ) (e : Entry) → slice_get lane place ≡ Some e → HasOwn old e.kind e.phase → HasOwn new e.kind e.phase

-- An entry that does not use a segment has nothing to do with it.

other-segment : (segment own : ℕ) → (own == segment) ≡ false → segment ≡ own → ⊥
other-segment segment own apart same = let is = eq-eqb own segment (sym same) in let no : ⊥ = cc in no

in-other : (table : List (Option Extent)) (segment : ℕ) (o : Option Extent) (own generation : ℕ) → (own == segment) ≡ false → IsIn table own generation → IsIn (slice_set table segment o) own generation
in-other table segment o own generation apart is = record {
  extent = is.extent;
  there = extent-other table segment o own (other-segment segment own apart) ∙ is.there;
  same = is.same;
}

pub own-other : (table : List (Option Extent)) (segment : ℕ) (o : Option Extent) (kind : Kind) (phase : Phase) → uses segment phase kind ≡ false
    → HasOwn table kind phase → HasOwn (slice_set table segment o) kind phase
own-other table segment o (Write own target) Posted unused lies = lies-other table segment o own (other-segment segment own.segment unused) lies
own-other table segment o (Write own target) (Carried bytes) unused size = size
own-other table segment o (Write own target) Failed unused none = tt
own-other table segment o (Read own target) Posted unused lies = lies-other table segment o own (other-segment segment own.segment unused) lies
own-other table segment o (Read own target) (Carried bytes) unused has = (lies-other table segment o own (other-segment segment own.segment unused) has.0, has.1)
own-other table segment o (Read own target) Failed unused none = tt
own-other table segment o (Notify target value) phase unused none = tt
own-other table segment o (ReadNote own) Posted unused is = in-other table segment o own.segment own.generation unused is
own-other table segment o (ReadNote own) (Carried bytes) unused is = in-other table segment o own.segment own.generation unused is
own-other table segment o (ReadNote own) Failed unused none = tt

-- no entry uses a segment that is not there
is-there-used : (table : List (Option Extent)) (segment own : ℕ) (x : Extent) → extent_in table segment ≡ None → extent_in table own ≡ Some x → (own == segment) ≡ false
is-there-used table segment own x free there = go (own == segment) refl
  where
    go : (b : Bool) → (own == segment) ≡ b → (own == segment) ≡ false
    go false is = is
    go true is =
        absurd (let same = eqb-true own segment is in
        let here : extent_in table segment ≡ Some x = subst (λ (k : ℕ). extent_in table k ≡ Some x) same there in
        let never : ◌≡◌ {A = Option Extent} None (Some x) = sym free ∙ here in
        let no : ⊥ = cc in no)

pub free-unused : (table : List (Option Extent)) (segment : ℕ) (kind : Kind) (phase : Phase) → extent_in table segment ≡ None → HasOwn table kind phase → uses segment phase kind ≡ false
free-unused table segment (Write own target) Posted free lies = is-there-used table segment own.segment lies.extent free lies.there
free-unused table segment (Write own target) (Carried bytes) free size = refl
free-unused table segment (Write own target) Failed free none = refl
free-unused table segment (Read own target) Posted free lies = is-there-used table segment own.segment lies.extent free lies.there
free-unused table segment (Read own target) (Carried bytes) free has = (let lies = has.0 in is-there-used table segment own.segment lies.extent free lies.there)
free-unused table segment (Read own target) Failed free none = refl
free-unused table segment (Notify target value) phase free none = refl
free-unused table segment (ReadNote own) Posted free is = is-there-used table segment own.segment is.extent free is.there
free-unused table segment (ReadNote own) (Carried bytes) free is = is-there-used table segment own.segment is.extent free is.there
free-unused table segment (ReadNote own) Failed free none = refl

-- all entries of an origin fit still
pub all-fit-follows : (notes : ℕ) (old new : List Tables) (origin : ℕ) (queues : List Queue) → Follow old new
    → ((mine mine' : Tables) → slice_get old origin ≡ Some mine → slice_get new origin ≡ Some mine' → OwnsStay mine.own mine'.own queues)
    → AreWithinSegments notes old origin queues → AreWithinSegments notes new origin queues
all-fit-follows notes old new origin queues follow owns all queue q hq target lane hl place e he mine' theirs' hm ht =
    let m = follow origin mine' hm in
    let f = follow target theirs' ht in
    let fits = all queue q hq target lane hl place e he m.0 f.0 m.1 f.1 in
    (fits-target-stays notes f.0 theirs' e.kind f.2 fits.0, owns m.0 mine' m.1 hm queue q hq target lane hl place e he fits.1)

-- The two changes.

-- a new segment of a number that is free
pub alloc-succeeds : (own : List (Option Extent)) (next : List ℕ) (segment size : ℕ) → extent_in own segment ≡ None → segment < length next
    → Succeeds (record { own = own; next = next })
    (record { own = slice_set own segment (Some (record { generation = next_generation next segment; size = size })); next = with_generation next segment })
alloc-succeeds own next segment size free within = record {
  next = λ k. generation-grows next segment (next_generation next segment + 1) k (omega arith);
  own = λ k x at. parts k x (extent-set own segment (Some (record { generation = next_generation next segment; size = size })) k x at);
}
  where
    parts : (k : ℕ) (x : Extent) → ((k ≡ segment) × (◌≡◌ {A = Option Extent} (Some (record { generation = next_generation next segment; size = size })) (Some x))) ⊎ (extent_in own k ≡ Some x)
        → (extent_in own k ≡ Some x) ⊎ ((next_generation next k ≤ x.generation) × (x.generation < next_generation (with_generation next segment) k))
    parts k x (inr was) = inl was
    parts k x (inl is) =
        let same : ◌≡◌ {A = Extent} (record { generation = next_generation next segment; size = size }) x = (let some = is.1 in cc) in
        let generation : next_generation next segment ≡ x.generation = ap (λ (y : Extent). y.generation) same in
        let set = generation-set next segment (next_generation next segment + 1) within in
        inr (rw is.0 (omega arith), rw is.0 (omega arith))

-- a segment that goes
pub delete-succeeds : (own : List (Option Extent)) (next : List ℕ) (segment : ℕ) → Succeeds (record { own = own; next = next }) (record { own = slice_set own segment None; next = next })
delete-succeeds own next segment = record { next = λ k. (omega arith); own = λ k x at. parts k x (extent-set own segment None k x at) }
  where
    parts : (k : ℕ) (x : Extent) → ((k ≡ segment) × (None ≡ Some x)) ⊎ (extent_in own k ≡ Some x) → (extent_in own k ≡ Some x) ⊎ ((next_generation next k ≤ x.generation) × (x.generation < next_generation next k))
    parts k x (inr was) = inl was
    parts k x (inl is) = absurd (let none = is.1 in let no : ⊥ = cc in no)
