-- A look at a collective of which none is pending is no look at one that is not ready.
use Rattle.std.proofs.Common.{◌≡◌, ℕ, true, Result, Ok, Err, refl, sym, ◌∙◌}
use Rattle.gaspi_types.specs.Collectives.{resume}
use Rattle.gaspi_types.specs.Tables.{item_at}
use Rattle.gaspi_types.specs.declared.calls.Call.{Call}
use Rattle.gaspi_types.specs.declared.groups.Group.{Group}
use Rattle.gaspi_types.specs.declared.groups.Handle.{Handle}
use Rattle.gaspi_types.specs.declared.groups.Resume.TheVariants.{Fresh}
use Rattle.gaspi_types.specs.declared.replies.Ready.{Ready}
use Rattle.gaspi_types.specs.declared.replies.Ready.TheVariants as ready
use Rattle.gaspi_types.specs.declared.replies.Refusal.{Refusal}
use Rattle.gaspi_types.specs.declared.replies.Refusal.TheVariants.{BadSize}
use Rattle.gaspi_types.proofs.Chains.{bind_then, found_then}
use Rattle.gaspi_model.specs.CollectiveCalls.{element_checks, staged_at, segment_checks, agreement_checks, args_of, fresh_result, collective_ready, collective_answer}
use Rattle.gaspi_model.specs.State.{thread_at, is_running}
use Rattle.gaspi_model.specs.declared.states.Posts.{Posts}
use Rattle.plain_calls.specs.Rounds.{called_on}

ready-none : (r : Result Ready Refusal) → collective_ready r ≡ ready.NotReady → r ≡ Ok ready.NotReady
ready-none (Ok x) h = cc
ready-none (Err e) h = absurd (let no : ⊥ = cc in no)

fresh-none : (posts : Posts) (g : Group) (me members : ℕ) (call : Call) → fresh_result posts g me members call ≡ Ok ready.NotReady → ⊥
fresh-none posts g me members call h =
    bind_then (segment_checks posts call) _ ready.NotReady h (λ u free asks.
    found_then (args_of members call) BadSize _ ready.NotReady asks (λ args asked meets.
    bind_then (agreement_checks g me args.coll) _ ready.NotReady meets (λ v met done. let no : ⊥ = cc in no)))

fresh-by : (posts : Posts) (me thread id : ℕ) (g : Group) (call : Call) (h : Handle) → is_running (thread_at posts thread) ≡ true → element_checks call ≡ Ok tt → staged_at posts.groups me id call ≡ Ok h
    → resume (item_at posts.pending id) thread (args_of h.members call) ≡ Ok Fresh → collective_answer posts g me thread id call ≡ collective_ready (fresh_result posts g me h.members call)
fresh-by posts me thread id g call h running elements staged new = rw (running, elements, staged, new) refl

pub fresh-ready : (posts : Posts) (me thread id : ℕ) (g : Group) (call : Call) (h : Handle) → is_running (thread_at posts thread) ≡ true → called_on posts.groups me id call ≡ Ok h
    → resume (item_at posts.pending id) thread (args_of h.members call) ≡ Ok Fresh → collective_answer posts g me thread id call ≡ ready.NotReady → ⊥
fresh-ready posts me thread id g call h running called new waits =
    bind_then (element_checks call) _ h called (λ u elements staged.
    fresh-none posts g me h.members call (ready-none (fresh_result posts g me h.members call) (sym (fresh-by posts me thread id g call h running elements staged new) ∙ waits)))
