-- What a rank knows after a segment_create that is done.
use Rattle.std.proofs.Common.{◌≡◌, ℕ, zero, suc, ◌+◌, ◌<◌, Bool, true, false, ◌==◌, List, [], ◌∷◌, length, filter, Option, None, Some, Ok, refl, sym, ap, ◌∙◌, subst, arith, if◌then◌else◌}
use Rattle.std.specs.List.{slice_get, slice_set, list_any, range_with_len}
use Rattle.std.specs.Option.{option_map, option_and_then}
use Rattle.std.proofs.lemmas.Bool.{eqb-true, eqb-false, eq-eqb, lt-ltb}
use Rattle.std.proofs.lemmas.List.{length-set}
use Rattle.std.proofs.lemmas.Option.{slice_get_within}
use Rattle.gaspi_types.specs.Collectives.{made_by, generation_in, contribution_in, members_in, round_of, round_segments}
use Rattle.gaspi_types.specs.Masks.{is_member}
use Rattle.gaspi_types.specs.SegmentTables.{extent_in, next_generation}
use Rattle.gaspi_types.specs.declared.calls.Call.TheVariants as calls
use Rattle.gaspi_types.specs.declared.calls.collectives.Create as create
use Rattle.gaspi_types.specs.declared.events.Event.TheVariants.{Called}
use Rattle.gaspi_types.specs.declared.groups.Args.{Args}
use Rattle.gaspi_types.specs.declared.groups.Contribution.{Contribution}
use Rattle.gaspi_types.specs.declared.groups.Group.{Group}
use Rattle.gaspi_types.specs.declared.groups.MemberSegment.{MemberSegment}
use Rattle.gaspi_types.specs.declared.replies.Reply.TheVariants as replies
use Rattle.gaspi_types.specs.declared.segments.Extent.{Extent}
use Rattle.gaspi_types.specs.declared.shapes.CallerId.{CallerId}
use Rattle.gaspi_model.specs.CollectiveCalls.{with_made_known, with_pending}
use Rattle.gaspi_model.specs.Contributions.{IsOneOf}
use Rattle.gaspi_model.specs.Posting.{counted}
use Rattle.gaspi_model.specs.SegmentCalls.{with_known}
use Rattle.gaspi_model.specs.Sound.{IsSound, HasTables}
use Rattle.gaspi_model.specs.Step.{step}
use Rattle.gaspi_model.specs.Rounds.{AreMadeKnown, known_of}
use Rattle.gaspi_model.specs.declared.states.Posts.{Posts}
use Rattle.gaspi_model.specs.declared.states.State.{State}
use Rattle.gaspi_types.proofs.Extents.{at-extent}
use Rattle.gaspi_types.proofs.Items.{slice_get-set_same, slice_get-set_other, there-within}
use Rattle.gaspi_model.proofs.GroupEffects.{done-step}
use Rattle.gaspi_model.proofs.CollectivePosts.{made-known}
use Rattle.gaspi_model.proofs.Ordered.Collectives.{member-contributed}
use Rattle.gaspi_model.proofs.Sound.Completions.{create-args}
use Rattle.gaspi_model.proofs.Sound.GroupEvents.{ranks-few}
use Rattle.gaspi_model.proofs.Sound.Registered.{changed_at-get}
use Rattle.gaspi_model.proofs.Sound.Rounds.{in-range}

-- there is a table of what is known of a rank, with a place for the segment
record HasPlace (posts : Posts) (rank segment : ℕ) : Type 0 where
  table : List (Option Extent)
  there : slice_get posts.segments.known rank ≡ Some table
  within : segment < length table

registered-get : (posts : Posts) (owner segment rank : ℕ) (x : Option Extent) → slice_get (with_known owner segment x posts).segments.known rank
    ≡ (if owner == rank then option_map (λ (t : List (Option Extent)). slice_set t segment x) (slice_get posts.segments.known rank) else slice_get posts.segments.known rank)
registered-get posts owner segment rank x = changed_at-get posts.segments.known owner rank (λ (t : List (Option Extent)). slice_set t segment x)

place-stays : (posts : Posts) (owner segment rank : ℕ) (x : Option Extent) → HasPlace posts rank segment → HasPlace (with_known owner segment x posts) rank segment
place-stays posts owner segment rank x has = go (owner == rank) refl
  where
    go : (b : Bool) → (owner == rank) ≡ b → HasPlace (with_known owner segment x posts) rank segment
    go true is = record {
      table = slice_set has.table segment x;
      there = registered-get posts owner segment rank x ∙ rw (is, has.there) refl;
      within = (let same = length-set has.table segment x in let within = has.within in omega arith);
    }
    go false is = record { table = has.table; there = registered-get posts owner segment rank x ∙ rw (is, has.there) refl; within = has.within }

-- what is known of a rank after one segment is told: of its owner that one, and all else as before
registered-same : (posts : Posts) (owner segment rank : ℕ) (x : Extent) → segment < 32 → HasPlace posts rank segment → (owner == rank) ≡ true → known_of (with_known owner segment (Some x) posts) rank segment ≡ Some x
registered-same posts owner segment rank x less has is =
    let there : slice_get (with_known owner segment (Some x) posts).segments.known rank ≡ Some (slice_set has.table segment (Some x)) = registered-get posts owner segment rank (Some x) ∙ rw (is, has.there) refl in
    let old = there-within has.table segment has.within in
    rw there (at-extent (slice_set has.table segment (Some x)) segment x (lt-ltb segment 32 less) (slice_get-set_same has.table segment old.0 (Some x) old.1))

registered-apart : (posts : Posts) (owner segment rank other : ℕ) (x : Option Extent) → (owner == rank) ≡ false → known_of (with_known owner segment x posts) rank other ≡ known_of posts rank other
registered-apart posts owner segment rank other x is =
    ap (option_and_then (λ (t : List (Option Extent)). extent_in t other)) (registered-get posts owner segment rank x ∙ rw is refl)

registered-beside : (posts : Posts) (owner segment rank other : ℕ) (x : Option Extent) → (other ≡ segment → ⊥) → known_of (with_known owner segment x posts) rank other ≡ known_of posts rank other
registered-beside posts owner segment rank other x apart = go (owner == rank) refl
  where
    in-table : (o : Option (List (Option Extent))) → option_and_then (λ (t : List (Option Extent)). extent_in t other) (option_map (λ (t : List (Option Extent)). slice_set t segment x) o)
        ≡ option_and_then (λ (t : List (Option Extent)). extent_in t other) o
    in-table None = refl
    in-table (Some t) = rw (slice_get-set_other t segment other x (λ same. apart (sym same))) refl

    go : (b : Bool) → (owner == rank) ≡ b → known_of (with_known owner segment x posts) rank other ≡ known_of posts rank other
    go false is = registered-apart posts owner segment rank other x is
    go true is = ap (option_and_then (λ (t : List (Option Extent)). extent_in t other)) (registered-get posts owner segment rank x ∙ rw is refl) ∙ in-table (slice_get posts.segments.known rank)

-- after several of them
all-beside : (segment size : ℕ) (made : List MemberSegment) (posts : Posts) (rank other : ℕ) → (other ≡ segment → ⊥) → known_of (with_made_known segment size made posts) rank other ≡ known_of posts rank other
all-beside segment size [] posts rank other apart = refl
all-beside segment size (m ∷ made) posts rank other apart = all-beside segment size made _ rank other apart ∙ registered-beside posts m.rank segment rank other _ apart

all-registered : (segment size : ℕ) (given : ℕ → Option Contribution) (members : List ℕ) (posts : Posts) (rank : ℕ) → segment < 32 → HasPlace posts rank segment
    → known_of (with_made_known segment size (made_by given members) posts) rank segment
    ≡ (if list_any (λ m. m == rank) members then Some (record { generation = generation_in (given rank); size = size }) else known_of posts rank segment)
all-registered segment size given [] posts rank less has = refl
all-registered segment size given (m ∷ members) posts rank less has =
    all-registered segment size given members (told m) rank less (place-stays posts m segment rank _ has) ∙ go (list_any (λ k. k == rank) members) refl (m == rank) refl
  where
    extent : ℕ → Extent
    extent k = record { generation = generation_in (given k); size = size }

    told : ℕ → Posts
    told k = with_known k segment (Some (extent k)) posts

    go : (b : Bool) → list_any (λ k. k == rank) members ≡ b → (d : Bool) → (m == rank) ≡ d
        → (if list_any (λ k. k == rank) members then Some (extent rank) else known_of (told m) rank segment) ≡ (if list_any (λ k. k == rank) (m ∷ members) then Some (extent rank) else known_of posts rank segment)
    go true is true same = rw (is, same) refl
    go true is false same = rw (is, same) refl
    go false is true same =
        let here : known_of (told m) rank segment ≡ Some (extent m) = registered-same posts m segment rank (extent m) less has same in
        let moved : Some (extent m) ≡ Some (extent rank) = ap (λ (k : ℕ). Some (extent k)) (eqb-true m rank same) in
        rw (is, same) (here ∙ moved)
    go false is false same = rw (is, same) (registered-apart posts m segment rank segment (Some (extent m)) same)

-- A rank is among those of a set that it is a member of.
filter-any : (p : ℕ → Bool) (xs : List ℕ) (k rank : ℕ) → slice_get xs k ≡ Some rank → p rank ≡ true → list_any (λ m. m == rank) (filter p xs) ≡ true
filter-any p [] k rank at passes = absurd (let no : ⊥ = cc in no)
filter-any p (x ∷ xs) zero rank at passes =
    let same : x ≡ rank = cc in
    let px : p x ≡ true = subst (λ (n : ℕ). p n ≡ true) (sym same) passes in
    rw (px, eq-eqb x rank same) refl
filter-any p (x ∷ xs) (suc k) rank at passes = go (filter-any p xs k rank at passes) (p x) refl (x == rank) refl
  where
    go : list_any (λ m. m == rank) (filter p xs) ≡ true → (b : Bool) → p x ≡ b → (d : Bool) → (x == rank) ≡ d → list_any (λ m. m == rank) (filter p (x ∷ xs)) ≡ true
    go rest false is d same = rw is rest
    go rest true is true same = rw (is, same) refl
    go rest true is false same = rw (is, same) rest

any-passes : (p : ℕ → Bool) (xs : List ℕ) (rank : ℕ) → list_any (λ m. m == rank) (filter p xs) ≡ true → p rank ≡ true
any-passes p [] rank any = absurd (let no : ⊥ = cc in no)
any-passes p (x ∷ xs) rank any = go (any-passes p xs rank) (p x) refl (x == rank) refl
  where
    go : (list_any (λ m. m == rank) (filter p xs) ≡ true → p rank ≡ true) → (b : Bool) → p x ≡ b → (d : Bool) → (x == rank) ≡ d → p rank ≡ true
    go rest false is d same = rest (rw is at any)
    go rest true is true same = subst (λ (n : ℕ). p n ≡ true) (eqb-true x rank same) is
    go rest true is false same = rest (rw (is, same) at any)

among : (g : Group) (rank : ℕ) → rank < 16 → IsOneOf g.members rank → list_any (λ m. m == rank) (members_in g) ≡ true
among g rank less one =
    rw one.fixed (filter-any (is_member one.mask) (range_with_len 0 16) rank rank (in-range 0 16 rank less ∙ ap (λ (n : ℕ). Some n) (let same : 0 + rank ≡ rank = omega arith in same)) one.member)

not-among : (g : Group) (rank : ℕ) → (IsOneOf g.members rank → ⊥) → list_any (λ m. m == rank) (members_in g) ≡ false
not-among g rank none = go (list_any (λ m. m == rank) (members_in g)) refl
  where
    by-members : (o : Option ℕ) → g.members ≡ o → list_any (λ m. m == rank) (members_in g) ≡ true → ⊥
    by-members None fixed any = (let never : false ≡ true = rw fixed at any in let no : ⊥ = cc in no)
    by-members (Some mask) fixed any = none (record { mask = mask; fixed = fixed; member = any-passes (is_member mask) (range_with_len 0 16) rank (rw fixed at any) })

    go : (b : Bool) → list_any (λ m. m == rank) (members_in g) ≡ b → list_any (λ m. m == rank) (members_in g) ≡ false
    go false is = is
    go true is = absurd (by-members g.members refl is)

-- where a generation was given the segment is one of 32
numbered : (generations : List ℕ) (segment generation : ℕ) → generation < next_generation generations segment → segment < length generations
numbered [] segment generation made = absurd (let no : ⊥ = omega arith in no)
numbered (x ∷ generations) zero generation made = omega arith
numbered (x ∷ generations) (suc segment) generation made = (let less = numbered generations segment generation made in omega arith)

pub create-known : (s t : State) (c : CallerId) (call : create.Create) → IsSound s → step s (Called c (calls.Create call) replies.Done) ≡ Ok t → AreMadeKnown s t c call.group call.seg call.size
create-known s t c call sound h =
    let made = done-step s t c call.group (calls.Create call) replies.Done refl refl sound h in
    let m = made.5 in
    let posts = made.0 in
    let g = made.1 in
    let tables = (sound.posts c.rank posts m.posts_there).tables in
    let last = (sound.collectives.parts call.group g c.rank posts m.there.there m.posts_there).last made.4 m.done.resumed.there in
    let coll = ap (λ (a : Args). a.coll) last.2 ∙ create-args made.3.members call made.4.args m.done.resumed.same in
    let was = sound.collectives.made call.group g c.rank posts m.there.there m.posts_there (round_of g c.rank) last.0 call.seg call.size last.1 coll in
    let less : call.seg < 32 = (let within = numbered posts.segments.next_generations call.seg last.0.generation was.0 in let many = (sound.posts c.rank posts m.posts_there).numbered in omega arith) in
    record {
      posts = posts;
      new = after posts g;
      group = g;
      posts_there = m.posts_there;
      new_there = ap (λ (x : State). slice_get x.posts c.rank) m.leaves ∙ slice_get-set_same s.posts c.rank posts (after posts g) m.posts_there;
      group_there = m.there.there;
      members = λ rank within one.
          let few = ranks-few s.limits sound.limits in
          let below : rank < 16 = omega arith in
          let given = member-contributed g c.rank rank m.done.full one below in
          let is = all-registered call.seg call.size (contribution_in g (round_of g c.rank)) (members_in g) posts rank less (place posts tables rank within less) in
          (given.0, given.1, is ∙ rw (among g rank below one, given.1) refl);
      others = λ rank none other. by-place posts g rank none other (slice_get posts.segments.known rank) refl less tables;
      segments = λ rank other apart. all-beside call.seg call.size (round_segments g c.rank) posts rank other apart;
      kept = kept posts g;
    }
  where
    after : Posts → Group → Posts
    after posts g = counted (with_pending call.group None (with_made_known call.seg call.size (round_segments g c.rank) posts))

    place : (posts : Posts) → HasTables s.limits posts → (rank : ℕ) → rank < s.limits.ranks → call.seg < 32 → HasPlace posts rank call.seg
    place posts tables rank within less =
        let table = there-within posts.segments.known rank (let many = tables.known in omega arith) in
        record { table = table.0; there = table.1; within = (let many = tables.known_segments rank table.0 table.1 in omega arith) }

    kept : (posts : Posts) (g : Group) → after posts g ≡ record (counted (with_pending call.group None posts)) { segments = record posts.segments { known = (after posts g).segments.known } }
    kept posts g = rw (made-known call.seg call.size (round_segments g c.rank) posts).1 refl

    nowhere : (made : List MemberSegment) (posts : Posts) (rank other : ℕ) → slice_get posts.segments.known rank ≡ None → known_of (with_made_known call.seg call.size made posts) rank other ≡ None
    nowhere [] posts rank other none = rw none refl
    nowhere (x ∷ made) posts rank other none = nowhere made _ rank other (registered-get posts x.rank call.seg rank _ ∙ by-owner (x.rank == rank) refl)
      where
        by-owner : (b : Bool) → (x.rank == rank) ≡ b
            → (if x.rank == rank then option_map (λ (t : List (Option Extent)). slice_set t call.seg (Some (record { generation = x.generation; size = call.size }))) (slice_get posts.segments.known rank) else slice_get posts.segments.known rank) ≡ None
        by-owner true is = rw (is, none) refl
        by-owner false is = rw (is, none) refl

    by-place : (posts : Posts) (g : Group) (rank : ℕ) → (IsOneOf g.members rank → ⊥) → (other : ℕ) → (o : Option (List (Option Extent))) → slice_get posts.segments.known rank ≡ o → call.seg < 32 → HasTables s.limits posts
        → known_of (with_made_known call.seg call.size (round_segments g c.rank) posts) rank other ≡ known_of posts rank other
    by-place posts g rank none other None at less tables = nowhere (round_segments g c.rank) posts rank other at ∙ rw at refl
    by-place posts g rank none other (Some table) at less tables = by-segment (other == call.seg) refl
      where
        by-segment : (b : Bool) → (other == call.seg) ≡ b → known_of (with_made_known call.seg call.size (round_segments g c.rank) posts) rank other ≡ known_of posts rank other
        by-segment false is = all-beside call.seg call.size (round_segments g c.rank) posts rank other (λ same. eqb-false other call.seg is same)
        by-segment true is =
            let within : rank < s.limits.ranks = (let inside = slice_get_within posts.segments.known rank table at in let many = tables.known in omega arith) in
            let told = all-registered call.seg call.size (contribution_in g (round_of g c.rank)) (members_in g) posts rank less (place posts tables rank within less) in
            subst (λ (n : ℕ). known_of (with_made_known call.seg call.size (round_segments g c.rank) posts) rank n ≡ known_of posts rank n) (sym (eqb-true other call.seg is))
            (told ∙ rw (not-among g rank none) refl)
