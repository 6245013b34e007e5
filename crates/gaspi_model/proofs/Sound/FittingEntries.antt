-- Entries keep their ranges within their segments.
use Rattle.std.proofs.Common.{◌≡◌, ℕ, zero, suc, ◌+◌, Bool, true, false, ◌==◌, nat_lt, List, [], ◌∷◌, ◌++◌, length, remove, Option, None, Some, Result, Ok, Err, refl, sym, ap, ◌∙◌, subst, arith, ◌⊎◌, inl, inr}
use Rattle.std.specs.List.{slice_get, slice_set}
use Rattle.std.proofs.lemmas.Bool.{leb-true, ltb-true, eqb-true}
use Rattle.gaspi_types.specs.Lanes.{posted_entries}
use Rattle.gaspi_types.specs.Posts.{slot_in}
use Rattle.gaspi_types.specs.SegmentTables.{extent_in, known_extent}
use Rattle.gaspi_types.specs.SegmentBytes.{is_within}
use Rattle.gaspi_types.specs.declared.entries.Entry.{Entry}
use Rattle.gaspi_types.specs.declared.segments.Extent.{Extent}
use Rattle.gaspi_types.specs.declared.segments.SegmentTable.{SegmentTable}
use Rattle.gaspi_types.specs.declared.entries.ByteRange.{ByteRange}
use Rattle.gaspi_types.specs.declared.entries.Kind.{Kind}
use Rattle.gaspi_types.specs.declared.entries.Kind.TheVariants as kinds_of
use Rattle.gaspi_types.specs.declared.entries.Phase.{Phase}
use Rattle.gaspi_types.specs.declared.entries.Phase.TheVariants as phases
use Rattle.gaspi_types.specs.CallRows.{row_of}
use Rattle.gaspi_types.specs.declared.call_rows.Posting.{Posting}
use Rattle.gaspi_types.specs.declared.calls.Call.{Call}
use Rattle.gaspi_types.specs.declared.calls.posts.Item.{Item}
use Rattle.gaspi_types.specs.declared.entries.Direction.{Direction}
use Rattle.gaspi_types.specs.declared.entries.Direction.TheVariants.{Outward, Inward}
use Rattle.gaspi_types.specs.declared.entries.Endpoints.{Endpoints}
use Rattle.gaspi_types.specs.declared.shapes.Limits.{Limits}
use Rattle.gaspi_types.specs.declared.replies.Refusal.{Refusal}
use Rattle.gaspi_model.specs.Calls.{requested_kinds}
use Rattle.gaspi_model.specs.Memories.{bytes_of}
use Rattle.gaspi_types.specs.Segments.{bytes_in, extents_of, extent_of, is_generation}
use Rattle.gaspi_model.specs.State.{segment_at}
use Rattle.gaspi_model.specs.Posting.{with_post}
use Rattle.gaspi_types.specs.Tables.{changed_at}
use Rattle.gaspi_types.specs.Queues.{with_entries}
use Rattle.gaspi_model.specs.QueueCalls.{emptied}
use Rattle.gaspi_model.specs.Transfers.{bytes_from}
use Rattle.gaspi_model.specs.Coherence.{Tables, WasMade, AreMade, LiesIn, LiesInIfThere, HasOwn, HasTarget, IsWithinSegments, AreWithinSegments, Knows}
use Rattle.gaspi_types.specs.declared.entries.Queue.{Queue}
use Rattle.gaspi_model.proofs.Sound.OpenCounts.{emptied-lane}
use Rattle.gaspi_model.specs.declared.states.Posts.{Posts}
use Rattle.gaspi_model.specs.declared.states.Memory.{Memory}
use Rattle.gaspi_model.proofs.Asked.{AreEnds, IsTransfer, AreTransfers, IsAsked, Alone, NotedWrites, NotedReads, asked-by, near_in, far_in}
use Rattle.gaspi_types.proofs.Items.{slice_get-set, append-parts, remove-part}
use Rattle.gaspi_types.proofs.Extents.{extent-at}
use Rattle.gaspi_types.proofs.Written.{range_of-length, segment-behind, extent-there, there-in-generation}
use Rattle.gaspi_model.proofs.FoundEntries.{with_phase}

-- the entries of one lane fit
abbrev pub LaneFits : ℕ → Tables → Tables → List Entry → Type 0
LaneFits notes mine theirs lane = (place : ℕ) (e : Entry) → slice_get lane place ≡ Some e → IsWithinSegments notes mine theirs e

-- A lane that is changed.

-- an entry in another phase, which has to do with its own segment still
phase-fits : (notes : ℕ) (mine theirs : Tables) (e : Entry) (phase : Phase) → (HasOwn mine.own e.kind e.phase → HasOwn mine.own e.kind phase)
    → IsWithinSegments notes mine theirs e → IsWithinSegments notes mine theirs (record e { phase = phase })
phase-fits notes mine theirs e phase owns fits = (fits.0, owns fits.1)

pub lane-phase : (notes : ℕ) (mine theirs : Tables) (lane : List Entry) (place : ℕ) (e : Entry) (phase : Phase) → slice_get lane place ≡ Some e
    → (HasOwn mine.own e.kind e.phase → HasOwn mine.own e.kind phase)
    → LaneFits notes mine theirs lane → LaneFits notes mine theirs (with_phase lane place e phase)
lane-phase notes mine theirs lane place e phase at owns all k x here = go (slice_get-set lane place k (record e { phase = phase }) x here)
  where
    go : ((k ≡ place) × (x ≡ record e { phase = phase })) ⊎ (slice_get lane k ≡ Some x) → IsWithinSegments notes mine theirs x
    go (inl is) = rw is.1 (phase-fits notes mine theirs e phase owns (all place e at))
    go (inr there) = all k x there

pub lane-remove : (notes : ℕ) (mine theirs : Tables) (lane : List Entry) (place : ℕ) → LaneFits notes mine theirs lane → LaneFits notes mine theirs (remove lane place)
lane-remove notes mine theirs lane place all k x here = let was = remove-part lane place k x here in all was.0 x was.1

-- one lane of one queue replaced
pub fits-lane : (notes : ℕ) (tables : List Tables) (origin : ℕ) (queues : List Queue) (changed : ℕ) (change : Queue → Queue) (q0 : Queue) (replaced : ℕ) (lane lane' : List Entry)
    → slice_get queues changed ≡ Some q0 → slice_get q0.lanes replaced ≡ Some lane → (change q0).lanes ≡ slice_set q0.lanes replaced lane'
    → ((mine theirs : Tables) → slice_get tables origin ≡ Some mine → slice_get tables replaced ≡ Some theirs → LaneFits notes mine theirs lane → LaneFits notes mine theirs lane')
    → AreWithinSegments notes tables origin queues → AreWithinSegments notes tables origin (changed_at queues changed change)
fits-lane notes tables origin queues changed change q0 replaced lane lane' at in_queue lanes keeps all queue q h target l here place e there mine theirs hm ht =
    parts (slice_get-set queues changed queue (change q0) q (rw at at h))
  where
    in-lane : (t : ℕ) → slice_get tables t ≡ Some theirs → ((t ≡ replaced) × (l ≡ lane')) ⊎ (slice_get q0.lanes t ≡ Some l) → IsWithinSegments notes mine theirs e
    in-lane t ht (inl is) =
        keeps mine theirs hm (subst (λ (k : ℕ). slice_get tables k ≡ Some theirs) is.0 ht)
        (λ p x at_x. all changed q0 at replaced lane in_queue p x at_x mine theirs hm (subst (λ (k : ℕ). slice_get tables k ≡ Some theirs) is.0 ht))
        place e (subst (λ (x : List Entry). slice_get x place ≡ Some e) is.1 there)
    in-lane t ht (inr was) = all changed q0 at t l was place e there mine theirs hm ht

    parts : ((queue ≡ changed) × (q ≡ change q0)) ⊎ (slice_get queues queue ≡ Some q) → IsWithinSegments notes mine theirs e
    parts (inl is) =
        let new : slice_get (slice_set q0.lanes replaced lane') target ≡ Some l = rw (sym lanes) (subst (λ (x : Queue). slice_get x.lanes target ≡ Some l) is.1 here) in
        in-lane target ht (slice_get-set q0.lanes replaced target lane' l new)
    parts (inr was) = all queue q was target l here place e there mine theirs hm ht

-- a queue changed, but not its lanes
pub fits-queue : (notes : ℕ) (tables : List Tables) (origin : ℕ) (queues : List Queue) (changed : ℕ) (change : Queue → Queue) → ((q : Queue) → (change q).lanes ≡ q.lanes)
    → AreWithinSegments notes tables origin queues → AreWithinSegments notes tables origin (changed_at queues changed change)
fits-queue notes tables origin queues changed change lanes all queue q h target l here place e there mine theirs hm ht = go (slice_get queues changed) refl
  where
    parts : (x : Queue) → slice_get queues changed ≡ Some x → ((queue ≡ changed) × (q ≡ change x)) ⊎ (slice_get queues queue ≡ Some q) → IsWithinSegments notes mine theirs e
    parts x at (inl is) = all changed x at target l (rw (sym (lanes x)) (subst (λ (y : Queue). slice_get y.lanes target ≡ Some l) is.1 here)) place e there mine theirs hm ht
    parts x at (inr was) = all queue q was target l here place e there mine theirs hm ht

    go : (o : Option Queue) → slice_get queues changed ≡ o → IsWithinSegments notes mine theirs e
    go None at = all queue q (rw at at h) target l here place e there mine theirs hm ht
    go (Some x) at = parts x at (slice_get-set queues changed queue (change x) q (rw at at h))

-- a queue with no entry left
pub fits-emptied : (notes : ℕ) (tables : List Tables) (origin : ℕ) (queues : List Queue) (changed : ℕ) → AreWithinSegments notes tables origin queues
    → AreWithinSegments notes tables origin (changed_at queues changed emptied)
fits-emptied notes tables origin queues changed all queue q h target l here place e there mine theirs hm ht = go (slice_get queues changed) refl
  where
    parts : (x : Queue) → ((queue ≡ changed) × (q ≡ emptied x)) ⊎ (slice_get queues queue ≡ Some q) → IsWithinSegments notes mine theirs e
    parts x (inl is) =
        let none : l ≡ [] = emptied-lane x.lanes target l (subst (λ (y : Queue). slice_get y.lanes target ≡ Some l) is.1 here) in
        absurd (let never : ◌≡◌ {A = Option Entry} None (Some e) = subst (λ (y : List Entry). slice_get y place ≡ Some e) none there in let no : ⊥ = cc in no)
    parts x (inr was) = all queue q was target l here place e there mine theirs hm ht

    go : (o : Option Queue) → slice_get queues changed ≡ o → IsWithinSegments notes mine theirs e
    go None at = all queue q (rw at at h) target l here place e there mine theirs hm ht
    go (Some x) at = parts x (slice_get-set queues changed queue (emptied x) q (rw at at h))

-- the queue at a place changed, but not its lanes
pub fits-alike : (notes : ℕ) (tables : List Tables) (origin : ℕ) (queues : List Queue) (changed : ℕ) (change : Queue → Queue) (q0 : Queue) → slice_get queues changed ≡ Some q0
    → (change q0).lanes ≡ q0.lanes → AreWithinSegments notes tables origin queues → AreWithinSegments notes tables origin (changed_at queues changed change)
fits-alike notes tables origin queues changed change q0 at lanes all queue q h target l here place e there mine theirs hm ht = parts (slice_get-set queues changed queue (change q0) q (rw at at h))
  where
    parts : ((queue ≡ changed) × (q ≡ change q0)) ⊎ (slice_get queues queue ≡ Some q) → IsWithinSegments notes mine theirs e
    parts (inl is) = all changed q0 at target l (rw (sym lanes) (subst (λ (y : Queue). slice_get y.lanes target ≡ Some l) is.1 here)) place e there mine theirs hm ht
    parts (inr was) = all queue q was target l here place e there mine theirs hm ht

-- The entries of a post fit.

-- what a rank knows of a target's segment: its table's entry, of its own or of the others'
pub known-cases : {P : Type 0} (me : ℕ) (segments : SegmentTable) (rank segment : ℕ) (x : Extent) → known_extent me segments rank segment ≡ Some x
    → (rank ≡ me → extent_in segments.own segment ≡ Some x → P) → ((table : List (Option Extent)) → slice_get segments.known rank ≡ Some table → extent_in table segment ≡ Some x → P) → P
known-cases {P} me segments rank segment x h mine others = go (rank == me) refl
  where
    in-table : (o : Option (List (Option Extent))) → slice_get segments.known rank ≡ o → (rank == me) ≡ false → P
    in-table None at apart = absurd (let none : ◌≡◌ {A = Option Extent} None (Some x) = rw (apart, at) at h in let no : ⊥ = cc in no)
    in-table (Some table) at apart = others table at (rw (apart, at) at h)

    go : (b : Bool) → (rank == me) ≡ b → P
    go true is = mine (eqb-true rank me is) (rw is at h)
    go false is = in-table (slice_get segments.known rank) refl is

-- the tables of a rank, and what it knows
abbrev pub table_with : Tables → List (List (Option Extent)) → SegmentTable
table_with mine known = record { own = mine.own; next_generations = mine.next; known = known }

-- a rank whose tables are those of its posts, and that knows nothing that was not made
pub record MayPost (tables : List Tables) (me : ℕ) (mine : Tables) (known : List (List (Option Extent))) : Type 0 where
  pub here : slice_get tables me ≡ Some mine
  pub knows : Knows tables known
  pub made : AreMade mine

-- what a rank knows of a target's segment was made
known-made : (me : ℕ) (mine : Tables) (known : List (List (Option Extent))) (tables : List Tables) (rank segment : ℕ) (x : Extent) (theirs : Tables) → MayPost tables me mine known
    → known_extent me (table_with mine known) rank segment ≡ Some x → slice_get tables rank ≡ Some theirs → WasMade theirs segment x.generation
known-made me mine known tables rank segment x theirs may h ht =
    known-cases me (table_with mine known) rank segment x h
    (λ same at.
    let same_table : mine ≡ theirs = (let some : ◌≡◌ {A = Option Tables} (Some mine) (Some theirs) = sym may.here ∙ rw (sym same) ht in cc) in
    rw (sym same_table) (may.made segment x at))
    (λ table at is. (may.knows rank table theirs at ht segment x is).0)

-- a range that was checked against what its rank knows lies within the segment, where that is there
known-lies : (me : ℕ) (mine : Tables) (known : List (List (Option Extent))) (tables : List Tables) (rank segment offset size : ℕ) (x : Extent) (theirs : Tables)
    → MayPost tables me mine known → known_extent me (table_with mine known) rank segment ≡ Some x → is_within offset size x.size ≡ true → slice_get tables rank ≡ Some theirs
    → LiesInIfThere theirs.own (record { segment = segment; generation = x.generation; offset = offset; size = size })
known-lies me mine known tables rank segment offset size x theirs may h within ht y there generation =
    known-cases me (table_with mine known) rank segment x h
    (λ same at.
    let same_table : mine ≡ theirs = (let some : ◌≡◌ {A = Option Tables} (Some mine) (Some theirs) = sym may.here ∙ rw (sym same) ht in cc) in
    let at' : extent_in theirs.own segment ≡ Some x = rw (sym same_table) at in
    let is : x ≡ y = (let some : ◌≡◌ {A = Option Extent} (Some x) (Some y) = sym at' ∙ there in cc) in
    rw (sym is) within)
    (λ table at is.
    let size_is = (may.knows rank table theirs at ht segment x is).1 y there generation in
    rw size_is within)

-- so it has what an entry has to do with its target's segment
known-target : (me : ℕ) (mine : Tables) (known : List (List (Option Extent))) (tables : List Tables) (rank segment offset size : ℕ) (x : Extent) (theirs : Tables)
    → MayPost tables me mine known → known_extent me (table_with mine known) rank segment ≡ Some x → is_within offset size x.size ≡ true → slice_get tables rank ≡ Some theirs
    → (size ≡ size) × (nat_lt segment 32 ≡ true) × WasMade theirs segment x.generation
    × LiesInIfThere theirs.own (record { segment = segment; generation = x.generation; offset = offset; size = size })
known-target me mine known tables rank segment offset size x theirs may h within ht = (
  refl,
  known-cases me (table_with mine known) rank segment x h (λ same at. (extent-at mine.own segment x at).0) (λ table at inside. (extent-at table segment x inside).0),
  known-made me mine known tables rank segment x theirs may h ht,
  known-lies me mine known tables rank segment offset size x theirs may h within ht,
)

-- the kinds of a post fit, as they are posted
abbrev pub KindsFit : ℕ → Tables → Tables → List Kind → Type 0
KindsFit notes mine theirs [] = Unit {0}
KindsFit notes mine theirs (kind ∷ kinds) = ((n : ℕ) → IsWithinSegments notes mine theirs (record { number = n; kind = kind; phase = phases.Posted })) × KindsFit notes mine theirs kinds

posted-fit : (notes : ℕ) (mine theirs : Tables) (kinds : List Kind) (number place : ℕ) (e : Entry) → KindsFit notes mine theirs kinds
    → slice_get (posted_entries number kinds) place ≡ Some e → IsWithinSegments notes mine theirs e
posted-fit notes mine theirs [] number place e fit at = absurd (let no : ⊥ = cc in no)
posted-fit notes mine theirs (kind ∷ kinds) number zero e fit at =
    let same : ◌≡◌ {A = Entry} (record { number = number; kind = kind; phase = phases.Posted }) e =
    (let some : ◌≡◌ {A = Option Entry} (Some (record { number = number; kind = kind; phase = phases.Posted })) (Some e) = at in cc) in
    rw (sym same) (fit.0 number)
posted-fit notes mine theirs (kind ∷ kinds) number (suc place) e fit at = posted-fit notes mine theirs kinds (number + 1) place e fit.1 at

-- the ends of a transfer, as they were checked
ends-fit : (me : ℕ) (own : Tables) (known : List (List (Option Extent))) (tables : List Tables) (rank : ℕ) (item : Item) (ends : Endpoints) (theirs : Tables)
    → MayPost tables me own known → slice_get tables rank ≡ Some theirs → AreEnds (near_in (table_with own known)) (far_in me (table_with own known) rank) item ends
    → HasTarget theirs ends.own ends.target × LiesIn own.own ends.own
ends-fit me own known tables rank item ends theirs may ht h = rw h.are (
  known-target me own known tables rank item.rseg item.roffset item.size h.theirs theirs may h.theirs_there h.to ht,
  record { extent = h.mine; there = h.mine_there; generation = refl; within = h.from },
)

-- a slot of a segment that its rank knows
slot-fits : (notes me : ℕ) (own : Tables) (known : List (List (Option Extent))) (tables : List Tables) (rank segment note value : ℕ) (far : Extent) (theirs : Tables)
    → MayPost tables me own known → slice_get tables rank ≡ Some theirs → known_extent me (table_with own known) rank segment ≡ Some far → nat_lt note notes ≡ true
    → (n : ℕ) → IsWithinSegments notes own theirs (record { number = n; kind = kinds_of.Notify (slot_in far segment note) value; phase = phases.Posted })
slot-fits notes me own known tables rank segment note value far theirs may ht hfar noted n = ((ltb-true note notes noted, known-made me own known tables rank segment far theirs may hfar ht), tt)

-- a transfer, and those of a post
transfer-fits : (direction : Direction) (notes me : ℕ) (own : Tables) (known : List (List (Option Extent))) (tables : List Tables) (rank : ℕ) (item : Item) (kind : Kind) (theirs : Tables)
    → MayPost tables me own known → slice_get tables rank ≡ Some theirs → IsTransfer direction (near_in (table_with own known)) (far_in me (table_with own known) rank) item kind
    → (n : ℕ) → IsWithinSegments notes own theirs (record { number = n; kind = kind; phase = phases.Posted })
transfer-fits Outward notes me own known tables rank item kind theirs may ht t n = rw t.is (ends-fit me own known tables rank item t.ends theirs may ht t.are)
transfer-fits Inward notes me own known tables rank item kind theirs may ht t n = rw t.is (ends-fit me own known tables rank item t.ends theirs may ht t.are)

transfers-fit : (direction : Direction) (notes me : ℕ) (own : Tables) (known : List (List (Option Extent))) (tables : List Tables) (rank : ℕ) (items : List Item) (kinds : List Kind) (theirs : Tables)
    → MayPost tables me own known → slice_get tables rank ≡ Some theirs → AreTransfers direction (near_in (table_with own known)) (far_in me (table_with own known) rank) items kinds
    → KindsFit notes own theirs kinds
transfers-fit direction notes me own known tables rank [] [] theirs may ht are = tt
transfers-fit direction notes me own known tables rank [] (kind ∷ kinds) theirs may ht are = absurd are
transfers-fit direction notes me own known tables rank (item ∷ items) [] theirs may ht are = absurd are
transfers-fit direction notes me own known tables rank (item ∷ items) (kind ∷ kinds) theirs may ht are =
    (transfer-fits direction notes me own known tables rank item kind theirs may ht are.0, transfers-fit direction notes me own known tables rank items kinds theirs may ht are.1)

both-fit : (notes : ℕ) (mine theirs : Tables) (a b : List Kind) → KindsFit notes mine theirs a → KindsFit notes mine theirs b → KindsFit notes mine theirs (a ++ b)
both-fit notes mine theirs [] b first second = second
both-fit notes mine theirs (kind ∷ a) b first second = (first.0, both-fit notes mine theirs a b first.1 second)

asked-fit : (notes me : ℕ) (own : Tables) (known : List (List (Option Extent))) (tables : List Tables) (rank : ℕ) (kinds : List Kind) (theirs : Tables)
    → MayPost tables me own known → slice_get tables rank ≡ Some theirs → IsAsked notes (near_in (table_with own known)) (far_in me (table_with own known) rank) kinds → KindsFit notes own theirs kinds
asked-fit notes me own known tables rank kinds theirs may ht (Alone direction items are) = transfers-fit direction notes me own known tables rank items kinds theirs may ht are
asked-fit notes me own known tables rank kinds theirs may ht (NotedWrites items segment note value w) =
    rw w.is (both-fit notes own theirs w.transfers (kinds_of.Notify (slot_in w.theirs segment note) value ∷ [])
    (transfers-fit Outward notes me own known tables rank items w.transfers theirs may ht w.are)
    (slot-fits notes me own known tables rank segment note value w.theirs theirs may ht w.theirs_there w.noted, tt))
asked-fit notes me own known tables rank kinds theirs may ht (NotedReads items segment note w) =
    rw w.is (both-fit notes own theirs w.transfers (kinds_of.ReadNote (slot_in w.mine segment note) ∷ [])
    (transfers-fit Inward notes me own known tables rank items w.transfers theirs may ht w.are)
    ((λ n. (ltb-true note notes w.noted, record { extent = w.mine; there = w.mine_there; same = refl })), tt))

-- so do those that a call asks for
pub asks-fit : (limits : Limits) (me : ℕ) (posts : Posts) (tables : List Tables) (own : Tables) (call : Call) (to : Posting) (kinds : List Kind) (theirs : Tables) → own.own ≡ posts.segments.own
    → MayPost tables me own posts.segments.known → (row_of call).posting ≡ Some to → slice_get tables to.rank ≡ Some theirs → requested_kinds limits me posts call ≡ Ok kinds → KindsFit limits.notes own theirs kinds
asks-fit limits me posts tables own call to kinds theirs same may is ht h =
    let by = asked-by limits.notes me posts.segments call to kinds is h in
    asked-fit limits.notes me own posts.segments.known tables to.rank kinds theirs may ht
    (subst (λ (o : List (Option Extent)). IsAsked limits.notes (near_in (record { own = o; next_generations = own.next; known = posts.segments.known }))
    (far_in me (record { own = o; next_generations = own.next; known = posts.segments.known }) to.rank) kinds) (sym same) by.asked)

-- a lane with the entries of a post added
pub fits-post : (notes : ℕ) (tables : List Tables) (me : ℕ) (posts : Posts) (queue rank : ℕ) (own : Tables) (asked : Result (List Kind) Refusal)
    → slice_get tables me ≡ Some own → ((kinds : List Kind) (theirs : Tables) → asked ≡ Ok kinds → slice_get tables rank ≡ Some theirs → KindsFit notes own theirs kinds)
    → AreWithinSegments notes tables me posts.queues → AreWithinSegments notes tables me (with_post posts queue rank asked).queues
fits-post notes tables me posts queue rank own (Err refusal) hm fit all = all
fits-post notes tables me posts queue rank own (Ok kinds) hm fit all = with-queue (slice_get posts.queues queue) refl
  where
    either : (mine theirs : Tables) (lane : List Entry) (e : Entry) → KindsFit notes mine theirs kinds → LaneFits notes mine theirs lane
        → ((j : ℕ) × (slice_get lane j ≡ Some e)) ⊎ ((j : ℕ) × (slice_get (posted_entries posts.next kinds) j ≡ Some e)) → IsWithinSegments notes mine theirs e
    either mine theirs lane e new old (inl was) = old was.0 e was.1
    either mine theirs lane e new old (inr now) = posted-fit notes mine theirs kinds posts.next now.0 e new now.1

    with-lane : (q : Queue) → slice_get posts.queues queue ≡ Some q → (o : Option (List Entry)) → slice_get q.lanes rank ≡ o
        → AreWithinSegments notes tables me (changed_at posts.queues queue (with_entries rank (posted_entries posts.next kinds)))
    with-lane q at None none = fits-alike notes tables me posts.queues queue (with_entries rank (posted_entries posts.next kinds)) q at (rw none refl) all
    with-lane q at (Some lane) some =
        fits-lane notes tables me posts.queues queue (with_entries rank (posted_entries posts.next kinds)) q rank lane (lane ++ posted_entries posts.next kinds) at some (rw some refl)
        (λ mine theirs hmine ht old place e there.
        let same : own ≡ mine = (let both : ◌≡◌ {A = Option Tables} (Some own) (Some mine) = sym hm ∙ hmine in cc) in
        either mine theirs lane e (rw (sym same) (fit kinds theirs refl ht)) old (append-parts lane (posted_entries posts.next kinds) place e there)) all

    with-queue : (o : Option Queue) → slice_get posts.queues queue ≡ o → AreWithinSegments notes tables me (changed_at posts.queues queue (with_entries rank (posted_entries posts.next kinds)))
    with-queue None none = rw none all
    with-queue (Some q) at = with-lane q at (slice_get q.lanes rank) refl

-- What is taken from a range that lies in its segment has as many bytes as the range.
pub taken-whole : (memory : Memory) (range : ByteRange) → LiesIn (extents_of memory.segments) range → length (bytes_from memory (Some range)) ≡ range.size
taken-whole memory range lies =
    let behind = segment-behind memory.segments range.segment lies.extent lies.there in
    let size : lies.extent.size ≡ length behind.0.bytes = ap (λ (x : Extent). x.size) (sym behind.2) in
    let bytes : bytes_of memory range.segment ≡ behind.0.bytes = ap bytes_in behind.1 in
    let within = leb-true (range.offset + range.size) lies.extent.size lies.within in
    range_of-length (bytes_of memory range.segment) range.offset range.size (let same = ap length bytes in omega arith)

-- a range of a segment that is there in its generation lies in it
pub lies-there : (memory : Memory) (range : ByteRange) → is_generation range.generation (segment_at memory range.segment) ≡ true → nat_lt range.segment 32 ≡ true
    → LiesInIfThere (extents_of memory.segments) range → LiesIn (extents_of memory.segments) range
lies-there memory range there less lies =
    let old = there-in-generation memory.segments range.segment range.generation there in
    let entry = extent-there memory.segments range.segment old.0 less old.1 in
    record { extent = extent_of old.0; there = entry; generation = old.2; within = lies (extent_of old.0) entry old.2 }

-- an entry that has failed has nothing to do with its own segment
pub failed-own : (table : List (Option Extent)) (kind : Kind) → HasOwn table kind phases.Failed
failed-own table (kinds_of.Write own target) = tt
failed-own table (kinds_of.Read own target) = tt
failed-own table (kinds_of.Notify target value) = tt
failed-own table (kinds_of.ReadNote own) = tt
