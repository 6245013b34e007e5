-- What an event on a group leaves of its owner's posts, and that it leaves all else of the ranks.
use Rattle.std.proofs.Common.{◌≡◌, ℕ, ◌+◌, Bool, true, false, List, [], ◌∷◌, Option, Some, Ok, refl, ap, if◌then◌else◌}
use Rattle.std.specs.List.{slice_get, slice_set}
use Rattle.gaspi_types.specs.CallRows.{row_of}
use Rattle.gaspi_types.specs.Replies.{is_idle}
use Rattle.gaspi_types.specs.declared.calls.Call.{Call}
use Rattle.gaspi_types.specs.declared.calls.Call.TheVariants as calls
use Rattle.gaspi_types.specs.declared.collectives.Coll.{Coll}
use Rattle.gaspi_types.specs.declared.collectives.Coll.TheVariants as colls
use Rattle.gaspi_types.specs.declared.events.Event.TheVariants.{Called, Joined}
use Rattle.gaspi_types.specs.declared.groups.Args.{Args}
use Rattle.gaspi_types.specs.declared.groups.Group.{Group}
use Rattle.gaspi_types.specs.declared.groups.MemberSegment.{MemberSegment}
use Rattle.gaspi_types.specs.declared.replies.Reply.{Reply}
use Rattle.gaspi_types.specs.declared.segments.Extent.{Extent}
use Rattle.gaspi_types.specs.declared.shapes.CallerId.{CallerId}
use Rattle.gaspi_model.specs.CollectiveCalls.{with_made_known, posts_at_completion, completed_posts, joined_posts}
use Rattle.gaspi_model.specs.Posting.{counted}
use Rattle.gaspi_model.specs.Step.{step, group_in}
use Rattle.gaspi_model.specs.declared.states.Posts.{Posts}
use Rattle.gaspi_model.specs.declared.states.State.{State}
use Rattle.gaspi_model.proofs.GroupSteps.{step-completed, step-joined}

-- the posts with other segments known
abbrev pub with_known_table : List (List (Option Extent)) → Posts → Posts
with_known_table known posts = record posts { segments = record posts.segments { known = known } }

pub made-known : (seg size : ℕ) (made : List MemberSegment) (posts : Posts) → (known : List (List (Option Extent))) × (with_made_known seg size made posts ≡ with_known_table known posts)
made-known seg size [] posts = (posts.segments.known, refl)
made-known seg size (m ∷ made) posts =
    let rest = made-known seg size made _ in
    (rest.0, rest.1)

-- a completion leaves other pendings and groups, and other segments known
pub record LeavesPosts (posts after : Posts) : Type 0 where
  pub queues : after.queues ≡ posts.queues
  pub corrupt : after.corrupt ≡ posts.corrupt
  pub threads : after.threads ≡ posts.threads
  pub events : after.events ≡ posts.events
  pub next : after.next ≡ posts.next

pub at_completion-leaves : (group : Group) (me id : ℕ) (call : Call) (posts : Posts) → LeavesPosts posts (posts_at_completion group me id call posts)
at_completion-leaves group me id (calls.Create call) posts = rw (made-known call.seg call.size _ posts).1 (record { queues = refl; corrupt = refl; threads = refl; events = refl; next = refl })
at_completion-leaves group me id (calls.Commit call) posts = record { queues = refl; corrupt = refl; threads = refl; events = refl; next = refl }
at_completion-leaves group me id other posts = record { queues = refl; corrupt = refl; threads = refl; events = refl; next = refl }

pub completed-leaves : (posts : Posts) (group : Group) (me id : ℕ) (call : Call) → LeavesPosts posts (completed_posts posts group me id call)
completed-leaves posts group me id call =
    let told = at_completion-leaves group me id call posts in
    record { queues = told.queues; corrupt = told.corrupt; threads = told.threads; events = told.events; next = told.next }

pub joined-leaves : (posts : Posts) (thread id : ℕ) (args : Args) → LeavesPosts posts (joined_posts posts thread id args)
joined-leaves posts thread id args = go args.coll
  where
    go : (coll : Coll) → LeavesPosts posts (joined_posts posts thread id (record { coll = coll; values = args.values }))
    go colls.Barrier = record { queues = refl; corrupt = refl; threads = refl; events = refl; next = refl }
    go (colls.Allreduce op t n) = record { queues = refl; corrupt = refl; threads = refl; events = refl; next = refl }
    go (colls.Create seg size) = record { queues = refl; corrupt = refl; threads = refl; events = refl; next = refl }
    go (colls.Commit mask) = record { queues = refl; corrupt = refl; threads = refl; events = refl; next = refl }

-- what an event on a group leaves of its owner's posts, one event more
pub record KeepsRank (posts after : Posts) : Type 0 where
  pub queues : after.queues ≡ posts.queues
  pub corrupt : after.corrupt ≡ posts.corrupt
  pub threads : after.threads ≡ posts.threads
  pub events : after.events ≡ posts.events + 1
  pub next : after.next ≡ posts.next

pub counted-keeps : (posts after : Posts) → LeavesPosts posts after → KeepsRank posts (counted after)
counted-keeps posts after leaves = record { queues = leaves.queues; corrupt = leaves.corrupt; threads = leaves.threads; events = ap (λ (n : ℕ). n + 1) leaves.events; next = leaves.next }

idle-or : (b : Bool) (posts after : Posts) → LeavesPosts posts after → KeepsRank posts (counted (if b then posts else after))
idle-or true posts after leaves = record { queues = refl; corrupt = refl; threads = refl; events = refl; next = refl }
idle-or false posts after leaves = counted-keeps posts after leaves

-- an event on a group: of the ranks it changes its owner's posts alone
pub record IsMet (s t : State) (me : ℕ) (posts after : Posts) : Type 0 where
  pub there : slice_get s.posts me ≡ Some posts
  pub limits : t.limits ≡ s.limits
  pub leaves : t.posts ≡ slice_set s.posts me after
  pub keeps : KeepsRank posts after

pub on_group-called : (s t : State) (c : CallerId) (id : ℕ) (call : Call) (reply : Reply) → (row_of call).group ≡ Some id → step s (Called c call reply) ≡ Ok t
    → (posts : Posts) × (after : Posts) × IsMet s t c.rank posts after
on_group-called s t c id call reply named h =
    let made = step-completed s t c id call reply named h in
    let m = made.2 in (
      made.0,
      made.1.posts,
      record {
        there = m.posts_there;
        limits = ap (λ (x : State). x.limits) m.leaves;
        leaves = ap (λ (x : State). x.posts) m.leaves;
        keeps = rw m.is.leaves (idle-or (is_idle reply) made.0 _ (completed-leaves made.0 (group_in s id) c.rank id call));
      },
    )

pub on_group-joined : (s t : State) (c : CallerId) (id : ℕ) (args : Args) → step s (Joined c id args) ≡ Ok t → (posts : Posts) × (after : Posts) × IsMet s t c.rank posts after
on_group-joined s t c id args h =
    let made = step-joined s t c id args h in
    let m = made.2 in (
      made.0,
      made.1.posts,
      record {
        there = m.posts_there;
        limits = ap (λ (x : State). x.limits) m.leaves;
        leaves = ap (λ (x : State). x.posts) m.leaves;
        keeps = rw m.is.leaves (counted-keeps made.0 _ (joined-leaves made.0 c.thread id args));
      },
    )
