-- A collective may join where its rank has committed the group, none is pending there, and what members have given fits.
use Rattle.std.proofs.Common.{◌≡◌, ℕ, true, List, [], ◌∷◌, length, Option, None, Some, Ok, refl, sym, ◌∙◌, subst}
use Rattle.gaspi_types.specs.Collectives.{first_contribution, contribution_in, members_in, round_of, round_checks}
use Rattle.gaspi_types.specs.Groups.{handle_at}
use Rattle.gaspi_types.specs.Replies.{coll_fields}
use Rattle.gaspi_types.specs.declared.calls.Call.TheVariants as calls
use Rattle.gaspi_types.specs.declared.calls.collectives.Allreduce as allreduce
use Rattle.gaspi_types.specs.declared.collectives.Coll.{Coll}
use Rattle.gaspi_types.specs.declared.collectives.Coll.TheVariants as colls
use Rattle.gaspi_types.specs.declared.collectives.Stage.TheVariants.{Committed}
use Rattle.gaspi_types.specs.declared.groups.Contribution.{Contribution}
use Rattle.gaspi_types.specs.declared.groups.Group.{Group}
use Rattle.gaspi_types.specs.declared.groups.Handle.{Handle}
use Rattle.gaspi_types.specs.declared.replies.Ready.TheVariants as ready
use Rattle.gaspi_types.specs.declared.shapes.CallerId.{CallerId}
use Rattle.gaspi_model.specs.CollectiveCalls.{plain_args, element_checks, committed_at}
use Rattle.gaspi_model.specs.Sound.{IsSound}
use Rattle.gaspi_model.specs.State.{thread_at, is_running}
use Rattle.gaspi_model.specs.Step.{group_in, answer_in, is_active}
use Rattle.gaspi_model.specs.Rounds.{MayJoinRound}
use Rattle.gaspi_model.specs.declared.states.Posts.{Posts}
use Rattle.gaspi_model.specs.declared.states.State.{State}
use Rattle.gaspi_model.proofs.Listed.Enabled.{pointwise-refl, active-posts}
use Rattle.gaspi_model.proofs.Sound.Completions.{group-there}

-- what was given first was given by some rank
first-contributed : (given : ℕ → Option Contribution) (members : List ℕ) (c : Contribution) → first_contribution given members ≡ Some c → (rank : ℕ) × (given rank ≡ Some c)
first-contributed given [] c is = absurd (let no : ⊥ = cc in no)
first-contributed given (m ∷ members) c is = go (first-contributed given members c) (given m) refl
  where
    go : (first_contribution given members ≡ Some c → (rank : ℕ) × (given rank ≡ Some c)) → (o : Option Contribution) → given m ≡ o → (rank : ℕ) × (given rank ≡ Some c)
    go rest None at = rest (rw at at is)
    go rest (Some d) at = (m, at ∙ rw at at is)

fits-all : (g : Group) (me : ℕ) (coll : Coll) → ((rank : ℕ) (c : Contribution) → contribution_in g (round_of g me) rank ≡ Some c → c.args.coll ≡ coll) → round_checks g me coll ≡ Ok tt
fits-all g me coll same = go (first_contribution (contribution_in g (round_of g me)) (members_in g)) refl
  where
    go : (o : Option Contribution) → first_contribution (contribution_in g (round_of g me)) (members_in g) ≡ o → round_checks g me coll ≡ Ok tt
    go None first = rw first refl
    go (Some c) first =
        let giver = first-contributed (contribution_in g (round_of g me)) (members_in g) c first in
        let is = same giver.0 c giver.1 in
        rw (first, is, pointwise-refl (coll_fields coll)) refl

committed-so : (posts : Posts) (id : ℕ) (h : Handle) → handle_at posts.groups id ≡ Some h → h.stage ≡ Committed → committed_at posts.groups id ≡ Ok h
committed-so posts id h there committed = rw (there, committed) refl

pub barrier-joins : (s : State) (c : CallerId) (id : ℕ) → IsSound s → is_active s c.rank c.thread ≡ true → MayJoinRound s c id colls.Barrier
    → answer_in s c.rank c.thread (calls.Barrier (record { group = id })) ≡ Some (ready.Join (plain_args colls.Barrier))
barrier-joins s c id sound active may =
    let runs = active-posts s c.rank c.thread active in
    let same : runs.0 ≡ may.posts = (let some : ◌≡◌ {A = Option Posts} (Some runs.0) (Some may.posts) = sym runs.1 ∙ may.posts_there in cc) in
    let running : is_running (thread_at may.posts c.thread) ≡ true = subst (λ (x : Posts). is_running (thread_at x c.thread) ≡ true) same runs.2 in
    let there = group-there s may.posts c.rank id may.handle sound may.posts_there may.handle_there in
    let group : group_in s id ≡ may.group = there.2.is ∙ (let some : ◌≡◌ {A = Option Group} (Some there.0) (Some may.group) = sym there.2.there ∙ may.group_there in cc) in
    let staged = committed-so may.posts id may.handle may.handle_there may.committed in
    let meets = fits-all may.group c.rank colls.Barrier may.alike in
    rw (may.posts_there, group, running, staged, may.none, meets) refl

pub allreduce-joins : (s : State) (c : CallerId) (call : allreduce.Allreduce) → IsSound s → is_active s c.rank c.thread ≡ true → element_checks (calls.Allreduce call) ≡ Ok tt
    → MayJoinRound s c call.group (colls.Allreduce call.op call.values.num_type (length call.values.items))
    → answer_in s c.rank c.thread (calls.Allreduce call) ≡ Some (ready.Join (record { coll = colls.Allreduce call.op call.values.num_type (length call.values.items); values = call.values }))
allreduce-joins s c call sound active elements may =
    let coll = colls.Allreduce call.op call.values.num_type (length call.values.items) in
    let runs = active-posts s c.rank c.thread active in
    let same : runs.0 ≡ may.posts = (let some : ◌≡◌ {A = Option Posts} (Some runs.0) (Some may.posts) = sym runs.1 ∙ may.posts_there in cc) in
    let running : is_running (thread_at may.posts c.thread) ≡ true = subst (λ (x : Posts). is_running (thread_at x c.thread) ≡ true) same runs.2 in
    let there = group-there s may.posts c.rank call.group may.handle sound may.posts_there may.handle_there in
    let group : group_in s call.group ≡ may.group = there.2.is ∙ (let some : ◌≡◌ {A = Option Group} (Some there.0) (Some may.group) = sym there.2.there ∙ may.group_there in cc) in
    let staged = committed-so may.posts call.group may.handle may.handle_there may.committed in
    let meets = fits-all may.group c.rank coll may.alike in
    rw (may.posts_there, group, running, elements, staged, may.none, meets) refl
