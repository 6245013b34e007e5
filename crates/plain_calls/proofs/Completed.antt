-- What a completion and a join do to what is counted of a rank: nothing but one event more.
use Rattle.std.proofs.Common.{◌≡◌, ℕ, ◌+◌, Some, true, false, Bool, List, [], ◌∷◌, count_by, sum_by, refl, ap, ◌∙◌, arith}
use Rattle.gaspi_types.specs.Collectives.{round_segments}
use Rattle.gaspi_types.specs.Queues.{queue_owed}
use Rattle.gaspi_types.specs.Replies.{is_idle}
use Rattle.gaspi_types.specs.declared.calls.Call.{Call}
use Rattle.gaspi_types.specs.declared.calls.Call.TheVariants.{Commit, Create}
use Rattle.gaspi_types.specs.declared.collectives.Coll.{Coll}
use Rattle.gaspi_types.specs.declared.collectives.Coll.TheVariants as colls
use Rattle.gaspi_types.specs.declared.entries.Queue.{Queue}
use Rattle.gaspi_types.specs.declared.groups.Args.{Args}
use Rattle.gaspi_types.specs.declared.groups.Group.{Group}
use Rattle.gaspi_types.specs.declared.groups.MemberSegment.{MemberSegment}
use Rattle.gaspi_types.specs.declared.replies.Reply.{Reply}
use Rattle.gaspi_model.specs.CollectiveCalls.{with_made_known, made_posts, joined_posts, posts_at_completion, completed_posts}
use Rattle.gaspi_model.specs.State.{owed, is_running}
use Rattle.gaspi_model.specs.declared.states.Posts.{Posts}
use Rattle.gaspi_model.specs.declared.states.ThreadState.{ThreadState}
use Rattle.gaspi_model.specs.SegmentCalls.{with_known}
use Rattle.plain_calls.specs.Rounds.{posts_after_collective}

-- posts that differ in nothing that owes events, nor in their count
pub record AreEven (old new : Posts) : Type 0 where
  pub queues : new.queues ≡ old.queues
  pub threads : new.threads ≡ old.threads
  pub events : new.events ≡ old.events

pub owed-even : (old new : Posts) → AreEven old new → owed new ≡ owed old
owed-even old new even =
    ap (λ (qs : List Queue). sum_by queue_owed qs + count_by is_running new.threads) even.queues
    ∙ ap (λ (ts : List ThreadState). sum_by queue_owed old.queues + count_by is_running ts) even.threads

known-even : (seg size : ℕ) (made : List MemberSegment) (posts : Posts) → AreEven posts (with_made_known seg size made posts)
known-even seg size [] posts = record { queues = refl; threads = refl; events = refl }
known-even seg size (m ∷ made) posts =
    let rest = known-even seg size made (with_known m.rank seg (Some (record { generation = m.generation; size = size })) posts) in record {
      queues = rest.queues;
      threads = rest.threads;
      events = rest.events;
    }

completion-even : (g : Group) (me id : ℕ) (call : Call) (posts : Posts) → AreEven posts (posts_at_completion g me id call posts)
completion-even g me id (Commit call) posts = record { queues = refl; threads = refl; events = refl }
completion-even g me id (Create call) posts = known-even call.seg call.size (round_segments g me) posts
completion-even g me id call posts = record { queues = refl; threads = refl; events = refl }

pub completed-even : (posts : Posts) (g : Group) (me id : ℕ) (call : Call) → AreEven posts (completed_posts posts g me id call)
completed-even posts g me id call =
    let told = completion-even g me id call posts in record { queues = told.queues; threads = told.threads; events = told.events }

-- what a rank has taken grows by one
pub on_group-used : (posts : Posts) (g : Group) (me id : ℕ) (call : Call) (reply : Reply) → (posts_after_collective posts g me id call reply).events + owed (posts_after_collective posts g me id call reply) ≡ posts.events + owed posts + 1
on_group-used posts g me id call reply = by_idle (is_idle reply) refl
  where
    by_idle : (idle : Bool) → is_idle reply ≡ idle → (posts_after_collective posts g me id call reply).events + owed (posts_after_collective posts g me id call reply) ≡ posts.events + owed posts + 1
    by_idle true idle = rw idle (omega arith)
    by_idle false busy =
        let even = completed-even posts g me id call in
        let owes = owed-even posts (completed_posts posts g me id call) even in
        let events = even.events in
        rw busy (omega (arith, owes, events))

made-even : (posts : Posts) (coll : Coll) → AreEven posts (made_posts posts coll)
made-even posts (colls.Create seg size) = record { queues = refl; threads = refl; events = refl }
made-even posts coll = record { queues = refl; threads = refl; events = refl }

pub joined-even : (posts : Posts) (thread id : ℕ) (args : Args) → AreEven posts (joined_posts posts thread id args)
joined-even posts thread id args =
    let made = made-even posts args.coll in record { queues = made.queues; threads = made.threads; events = made.events }
