-- What a segment that is made known leaves.
use Rattle.std.proofs.Common.{◌≡◌, ◌<◌, Bool, true, false, ◌==◌, nat_lt, List, length, Option, Some, Ok, refl, sym, ap, ◌∙◌, arith}
use Rattle.std.specs.List.{slice_get, slice_set}
use Rattle.std.proofs.lemmas.Bool.{ltb-true, eqb-true, eq-eqb}
use Rattle.std.proofs.lemmas.Option.{slice_get_within}
use Rattle.gaspi_types.specs.SegmentTables.{extent_in}
use Rattle.gaspi_types.specs.declared.calls.Call.TheVariants.{Register}
use Rattle.gaspi_types.specs.declared.calls.segments.Register as register
use Rattle.gaspi_types.specs.declared.segments.Extent.{Extent}
use Rattle.gaspi_types.specs.declared.events.Event.TheVariants.{Called}
use Rattle.gaspi_types.specs.declared.replies.Reply.{Reply}
use Rattle.gaspi_types.specs.declared.replies.Reply.TheVariants as replies
use Rattle.gaspi_types.specs.declared.shapes.CallerId.{CallerId}
use Rattle.gaspi_types.specs.declared.shapes.Limits.{Limits}
use Rattle.gaspi_model.specs.Posting.{counted}
use Rattle.gaspi_model.specs.SegmentCalls.{register_result, with_known}
use Rattle.gaspi_model.specs.Step.{step}
use Rattle.gaspi_model.specs.Sound.{IsSound}
use Rattle.gaspi_model.specs.Changes.{IsRegisterDone, with_registered}
use Rattle.gaspi_model.specs.declared.states.Posts.{Posts}
use Rattle.gaspi_model.specs.declared.states.Memory.{Memory}
use Rattle.gaspi_model.specs.declared.states.State.{State}
use Rattle.gaspi_types.proofs.Chains.{check_then, found_then}
use Rattle.gaspi_model.proofs.FoundReplies.{found-reply}
use Rattle.gaspi_model.proofs.Same.{same_reply-same}
use Rattle.gaspi_types.proofs.Items.{set-there, there-within, slice_get-set_other}
use Rattle.gaspi_model.proofs.Sound.Registered.{registering}
use Rattle.gaspi_model.proofs.OnPostsAndMemory.{memory_rank, sound-called}

record IsKnown (limits : Limits) (posts : Posts) (call : register.Register) : Type 0 where
  ranked : nat_lt call.rank limits.ranks ≡ true
  extent : Extent
  there : extent_in posts.segments.own call.seg ≡ Some extent

register-found : (limits : Limits) (posts : Posts) (call : register.Register) (reply : Reply) → register_result limits posts call ≡ Ok (Some reply) → IsKnown limits posts call
register-found limits posts call reply h =
    check_then (nat_lt call.rank limits.ranks) _ _ (Some reply) h (λ ranked h1.
    found_then (extent_in posts.segments.own call.seg) _ _ (Some reply) h1 (λ extent there h2.
    record { ranked = ranked; extent = extent; there = there }))

pub registered : (s t : State) (c : CallerId) (call : register.Register) → IsSound s → step s (Called c (Register call) replies.Done) ≡ Ok t → IsRegisterDone s t c.rank call.seg call.rank
registered s t c call sound h =
    let made = sound-called s t c (Register call) replies.Done refl sound h in
    let m = made.3 in
    let found = register-found s.limits made.0 call replies.Done (found-reply s.limits c.rank made.0 made.1 c.thread (Register call) replies.Done (same_reply-same _ _ m.is.answered) refl) in
    let after : made.2.posts ≡ counted made.0 = rw m.is.leaves refl in
    let kept : made.2.memory ≡ made.1 = rw m.is.leaves refl in
    let memories : slice_set s.memories (memory_rank s.limits c.rank (Register call)) made.2.memory ≡ s.memories =
    ap (slice_set s.memories (memory_rank s.limits c.rank (Register call))) kept ∙ set-there s.memories (memory_rank s.limits c.rank (Register call)) made.1 m.memory_there in
    let state : t ≡ record s { posts = registering s.limits.ranks c.rank made.0 (Register call) replies.Done (slice_set s.posts c.rank (counted made.0)) } =
    m.leaves ∙ ap (λ (x : List Memory). record s { posts = registering s.limits.ranks c.rank made.0 (Register call) replies.Done (slice_set s.posts c.rank made.2.posts); memories = x }) memories
    ∙ ap (λ (p : Posts). record s { posts = registering s.limits.ranks c.rank made.0 (Register call) replies.Done (slice_set s.posts c.rank p) }) after in
    record {
      posts = made.0;
      extent = found.extent;
      posts_there = m.posts_there;
      own_there = found.there;
      itself = λ same. state ∙ itself made.0 (eq-eqb call.rank c.rank same);
      peer = λ apart. peer made.0 found state (slice_get_within s.posts c.rank made.0 m.posts_there) apart (call.rank == c.rank) refl;
    }
  where
    itself : (posts : Posts) → (call.rank == c.rank) ≡ true
        → ◌≡◌ {A = State} (record s { posts = registering s.limits.ranks c.rank posts (Register call) replies.Done (slice_set s.posts c.rank (counted posts)) }) (record s { posts = slice_set s.posts c.rank (counted posts) })
    itself posts is = rw is refl

    peer : (posts : Posts) (found : IsKnown s.limits posts call) → t ≡ record s { posts = registering s.limits.ranks c.rank posts (Register call) replies.Done (slice_set s.posts c.rank (counted posts)) }
        → c.rank < length s.posts → (call.rank ≡ c.rank → ⊥) → (b : Bool) → (call.rank == c.rank) ≡ b
        → (p : Posts) × (table : List (Option Extent)) × (slice_get s.posts call.rank ≡ Some p) × (slice_get p.segments.known c.rank ≡ Some table)
        × (t ≡ record s { posts = slice_set (slice_set s.posts c.rank (counted posts)) call.rank (with_registered p c.rank call.seg found.extent table) })
    peer posts found state within apart true is = absurd (apart (eqb-true call.rank c.rank is))
    peer posts found state within apart false is =
        let less = ltb-true call.rank s.limits.ranks found.ranked in
        let theirs = there-within s.posts call.rank (let ranks = sound.ranks in omega arith) in
        let tables = (sound.posts call.rank theirs.0 theirs.1).tables in
        let known = there-within theirs.0.segments.known c.rank (let many = tables.known in let ranks = sound.ranks in omega arith) in
        let elsewhere : slice_get (slice_set s.posts c.rank (counted posts)) call.rank ≡ Some theirs.0 = slice_get-set_other s.posts c.rank call.rank (counted posts) (λ same. apart (sym same)) ∙ theirs.1 in
        let knows : with_known c.rank call.seg (extent_in posts.segments.own call.seg) theirs.0 ≡ with_registered theirs.0 c.rank call.seg found.extent known.0 = rw (found.there, known.1) refl in (
          theirs.0,
          known.0,
          theirs.1,
          known.1,
          state ∙ rw (is, found.ranked, elsewhere)
              (ap (λ (x : Posts). record s { posts = slice_set (slice_set s.posts c.rank (counted posts)) call.rank x }) knows),
        )
