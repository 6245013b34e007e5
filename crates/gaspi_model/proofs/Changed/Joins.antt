-- What a join changes.
use Rattle.std.proofs.Common.{◌≡◌, ℕ, ◌+◌, false, List, [], ◌∷◌, ◌++◌, length, replicate, None, Some, Ok, refl, ap, ◌∙◌, subst, arith}
use Rattle.std.specs.List.{slice_get, slice_set}
use Rattle.std.proofs.lemmas.Bool.{ltb-true}
use Rattle.gaspi_types.specs.Collectives.{contributions_of, round_of, fixed_by, with_joined}
use Rattle.gaspi_types.specs.Tables.{item_at}
use Rattle.gaspi_types.specs.declared.collectives.Coll.{Coll}
use Rattle.gaspi_types.specs.declared.collectives.Coll.TheVariants as colls
use Rattle.gaspi_types.specs.declared.events.Event.TheVariants.{Joined}
use Rattle.gaspi_types.specs.declared.groups.Args.{Args}
use Rattle.gaspi_types.specs.declared.groups.Contribution.{Contribution}
use Rattle.gaspi_types.specs.declared.groups.Group.{Group}
use Rattle.gaspi_types.specs.declared.groups.RankContributions.{RankContributions}
use Rattle.gaspi_types.specs.declared.shapes.CallerId.{CallerId}
use Rattle.gaspi_model.specs.CollectiveCalls.{segment_checks, joining_call, made_generation, made_posts, made_memory, with_pending}
use Rattle.gaspi_model.specs.Contributions.{pending_count}
use Rattle.gaspi_model.specs.Posting.{counted}
use Rattle.gaspi_model.specs.Shards.{is_create}
use Rattle.gaspi_model.specs.Sound.{IsSound}
use Rattle.gaspi_model.specs.Step.{step}
use Rattle.gaspi_model.specs.Rounds.{Contributes, IsJoinDone, IsCreateJoined}
use Rattle.gaspi_model.specs.declared.states.Memory.{Memory}
use Rattle.gaspi_model.specs.declared.states.Posts.{Posts}
use Rattle.gaspi_model.specs.declared.states.State.{State}
use Rattle.gaspi_types.proofs.Items.{slice_get-set_same, set-there, there-within, behind-of-joined}
use Rattle.gaspi_model.proofs.Changed.Ends.{is-running}
use Rattle.gaspi_model.proofs.Changed.OwnCalls.{index-there, alloc-found, segment-absent}
use Rattle.gaspi_model.proofs.GroupEffects.{join-step}
use Rattle.gaspi_model.proofs.Sound.Completions.{IsThere}
use Rattle.gaspi_model.proofs.Sound.Contributions.{contributions-changed, contributions-there}

-- what a join of that collective leaves
abbrev left : State → CallerId → ℕ → Args → Posts → Memory → Group → Coll → State
left s c id args posts memory g coll = record s {
  posts = slice_set s.posts c.rank (counted (with_pending id (Some (record { thread = c.thread; args = args })) (made_posts posts coll)));
  memories = slice_set s.memories c.rank (made_memory s.limits posts memory coll);
  groups = slice_set s.groups id (with_joined g c.rank (record { args = args; generation = made_generation posts coll }));
}

-- what a rank gives stands in its round
gives : (s t : State) (id me : ℕ) (posts : Posts) (g : Group) (part : RankContributions) (c : Contribution) → IsSound s → slice_get s.posts me ≡ Some posts → IsThere s me id g part → item_at posts.pending id ≡ None
    → t.groups ≡ slice_set s.groups id (with_joined g me c) → Contributes t id g me c
gives s t id me posts g part c sound hp there none leaves =
    let count = (sound.collectives.parts id g me posts there.there hp).count in
    let idle : pending_count (item_at posts.pending id) ≡ 0 = ap pending_count none in
    let was = contributions-there g me part there.part_there in
    let round : (contributions_of g me).completed ≡ part.completed = ap (λ (q : RankContributions). q.completed) was in
    let many : length (contributions_of g me).contributions ≡ length part.contributions = ap (λ (q : RankContributions). length q.contributions) was in
    let now = contributions-changed g me part (λ (q : RankContributions). record q { contributions = q.contributions ++ c ∷ [] }) (fixed_by g.members c.args.coll) there.part_there in (
      with_joined g me c,
      ap (λ (all : List Group). slice_get all id) leaves ∙ slice_get-set_same s.groups id g (with_joined g me c) there.there,
      ap (λ (q : RankContributions). slice_get q.contributions (round_of g me)) now ∙ behind-of-joined part.contributions (c ∷ []) 0 (round_of g me) (omega arith),
    )

pub join-done : (s t : State) (c : CallerId) (id : ℕ) (args : Args) → IsSound s → is_create args.coll ≡ false → step s (Joined c id args) ≡ Ok t → IsJoinDone s t c id args
join-done s t c id args sound plain h =
    let made = join-step s t c id args sound h in
    let m = made.5 in
    record {
      posts = made.0;
      group = made.1;
      posts_there = m.posts_there;
      group_there = m.there.there;
      running = is-running made.0 c.thread m.may.running;
      none = m.may.none;
      gives = gives s t id c.rank made.0 made.1 made.2 (record { args = args; generation = 0 }) sound m.posts_there m.there m.may.none
          (ap (λ (x : State). x.groups) (m.leaves ∙ kept made.0 made.3 made.1 m.memory_there args.coll plain));
      after = m.leaves ∙ kept made.0 made.3 made.1 m.memory_there args.coll plain;
    }
  where
    pended : Posts → Posts
    pended posts = record (counted posts) { pending = slice_set posts.pending id (Some (record { thread = c.thread; args = args })) }

    joined : Group → Group
    joined g = with_joined g c.rank (record { args = args; generation = 0 })

    unread : (posts : Posts) (memory : Memory) (g : Group) → slice_get s.memories c.rank ≡ Some memory
        → record s { posts = slice_set s.posts c.rank (pended posts); memories = slice_set s.memories c.rank memory; groups = slice_set s.groups id (joined g) }
        ≡ record s { posts = slice_set s.posts c.rank (pended posts); groups = slice_set s.groups id (joined g) }
    unread posts memory g hm =
        ap (λ ms. record s { posts = slice_set s.posts c.rank (pended posts); memories = ms; groups = slice_set s.groups id (joined g) }) (set-there s.memories c.rank memory hm)

    kept : (posts : Posts) (memory : Memory) (g : Group) → slice_get s.memories c.rank ≡ Some memory → (coll : Coll) → is_create coll ≡ false
        → left s c id args posts memory g coll ≡ record s { posts = slice_set s.posts c.rank (pended posts); groups = slice_set s.groups id (joined g) }
    kept posts memory g hm colls.Barrier plain = unread posts memory g hm
    kept posts memory g hm (colls.Allreduce op t n) plain = unread posts memory g hm
    kept posts memory g hm (colls.Commit mask) plain = unread posts memory g hm
    kept posts memory g hm (colls.Create seg size) plain = absurd (let no : ⊥ = cc in no)

pub create-joined : (s t : State) (c : CallerId) (id : ℕ) (args : Args) (seg size : ℕ) → IsSound s → args.coll ≡ colls.Create seg size → step s (Joined c id args) ≡ Ok t → IsCreateJoined s t c id args seg size
create-joined s t c id args seg size sound is h =
    let made = join-step s t c id args sound h in
    let m = made.5 in
    let free : segment_checks made.0 (joining_call id (record { coll = colls.Create seg size; values = args.values })) ≡ Ok tt =
    subst (λ (coll : Coll). segment_checks made.0 (joining_call id (record { coll = coll; values = args.values })) ≡ Ok tt) is m.may.free in
    let found = alloc-found made.0 (record { seg = seg; size = size }) (rw free refl) in
    let less = ltb-true seg 32 found.0 in
    let next = there-within made.0.segments.next_generations seg (let many = (sound.posts c.rank made.0 m.posts_there).numbered in omega arith) in
    record {
      posts = made.0;
      memory = made.3;
      group = made.1;
      generation = next.0;
      posts_there = m.posts_there;
      memory_there = m.memory_there;
      group_there = m.there.there;
      running = is-running made.0 c.thread m.may.running;
      none = m.may.none;
      gives = gives s t id c.rank made.0 made.1 made.2 (record { args = args; generation = next.0 }) sound m.posts_there m.there m.may.none
          (ap (λ (x : State). x.groups) (m.leaves ∙ ap (left s c id args made.0 made.3 made.1) is)
          ∙ ap (λ (n : ℕ). slice_set s.groups id (with_joined made.1 c.rank (record { args = args; generation = n }))) (index-there made.0.segments.next_generations seg next.0 next.1));
      next = next.1;
      free = segment-absent s c.rank made.0 made.3 seg sound m.posts_there m.memory_there found.0 found.1;
      after = m.leaves ∙ ap (left s c id args made.0 made.3 made.1) is ∙ ap (λ (n : ℕ). record s {
        posts = slice_set s.posts c.rank (record (counted made.0) {
          segments = record made.0.segments {
            own = slice_set made.0.segments.own seg (Some (record { generation = n; size = size }));
            next_generations = slice_set made.0.segments.next_generations seg (n + 1);
          };
          pending = slice_set made.0.pending id (Some (record { thread = c.thread; args = args }));
        });
        memories = slice_set s.memories c.rank (record made.3 {
          segments = slice_set made.3.segments seg (Some (record { generation = n; bytes = replicate size 0 }));
          slots = slice_set made.3.slots seg (Some (replicate s.limits.notes 0));
        });
        groups = slice_set s.groups id (with_joined made.1 c.rank (record { args = args; generation = n }));
      }) (index-there made.0.segments.next_generations seg next.0 next.1);
    }
