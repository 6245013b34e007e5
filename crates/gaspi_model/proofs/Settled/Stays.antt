-- A settled state stays settled: its callers are refused, and there is no transfer to be made.
use Rattle.std.proofs.Common.{◌≡◌, ℕ, true, false, List, [], ◌∷◌, Option, None, Some, Ok, refl, sym, ap, ◌∙◌, subst, is_none, ◌⊎◌, inl, inr}
use Rattle.std.specs.List.{slice_get}
use Rattle.gaspi_types.specs.CallRows.{row_of}
use Rattle.gaspi_types.specs.Replies.{is_idle}
use Rattle.gaspi_types.specs.declared.calls.Call.{Call}
use Rattle.gaspi_types.specs.declared.replies.Reply.{Reply}
use Rattle.gaspi_types.specs.declared.replies.Ready.TheVariants as ready
use Rattle.gaspi_types.specs.declared.shapes.CallerId.{CallerId}
use Rattle.gaspi_model.specs.CollectiveCalls.{is_reply_of}
use Rattle.gaspi_types.specs.declared.entries.Entry.{Entry}
use Rattle.gaspi_types.specs.declared.events.Event.{Event}
use Rattle.gaspi_types.specs.declared.events.Event.TheVariants.{Called, Joined, Take, Put}
use Rattle.gaspi_types.specs.declared.replies.Reply.TheVariants as replies
use Rattle.gaspi_types.specs.declared.replies.Refusal.TheVariants.{CallerEnded}
use Rattle.gaspi_model.specs.State.{thread_at, is_running}
use Rattle.gaspi_model.specs.Posting.{counted}
use Rattle.gaspi_model.specs.Calls.{answer, recorded_reply}
use Rattle.gaspi_model.specs.Transfers.{EntryPosition}
use Rattle.gaspi_model.specs.Step.{step, after}
use Rattle.gaspi_model.specs.Settled.{AreLanesEmpty, IsSettled}
use Rattle.gaspi_model.specs.Changes.{IsOnlyCounted}
use Rattle.gaspi_types.specs.declared.entries.Queue.{Queue}
use Rattle.gaspi_model.specs.declared.states.Posts.{Posts}
use Rattle.gaspi_model.specs.declared.states.State.{State}
use Rattle.gaspi_model.proofs.Ended.Activity.{active-changed}
use Rattle.gaspi_model.proofs.Histories.{after-first}
use Rattle.gaspi_model.proofs.IdleSteps.{only-counted}
use Rattle.gaspi_model.proofs.GroupSteps.{step-completed, step-joined}
use Rattle.gaspi_model.proofs.Made.{step-called, step-take, step-put}
use Rattle.gaspi_model.proofs.Same.{same_reply-same}
use Rattle.gaspi_types.proofs.Items.{slice_get-set}
use Rattle.gaspi_model.proofs.FoundEntries.{IsFound}

-- an entry that stands in a lane that is empty
no-entry : (s : State) (posts : Posts) (origin queue target number : ℕ) (at : EntryPosition) → AreLanesEmpty s → slice_get s.posts origin ≡ Some posts → IsFound posts queue target number at
    → is_none at.queue.broken ≡ true → ⊥
no-entry s posts origin queue target number at empty hp is whole =
    let none = empty origin posts hp queue at.queue is.in_posts whole target at.lane is.in_queue in
    let here : slice_get {X = Entry} [] at.position ≡ Some at.entry = subst (λ (lane : List Entry). slice_get lane at.position ≡ Some at.entry) none is.in_lane in
    let no : ⊥ = cc in no

counted-settled : (s t : State) (rank : ℕ) → IsSettled s → IsOnlyCounted s t rank → IsSettled t
counted-settled s t rank settled only = rw only.after (record {
  callers = λ r thread. active-changed s s.posts rank only.posts (counted only.posts) only.there s.memories r thread (λ here. refl) ∙ settled.callers r thread;
  lanes = λ origin posts at queue q hq whole target lane hl. by-rank origin posts (slice_get-set s.posts rank origin (counted only.posts) posts at) queue q hq whole target lane hl;
})
  where
    by-rank : (origin : ℕ) (posts : Posts) → ((origin ≡ rank) × (posts ≡ counted only.posts)) ⊎ (slice_get s.posts origin ≡ Some posts)
        → (queue : ℕ) (q : Queue) → slice_get posts.queues queue ≡ Some q → is_none q.broken ≡ true → (target : ℕ) (lane : List Entry) → slice_get q.lanes target ≡ Some lane → lane ≡ []
    by-rank origin posts (inl here) queue q hq whole target lane hl =
        settled.lanes rank only.posts only.there queue q (subst (λ (p : Posts). slice_get p.queues queue ≡ Some q) here.1 hq) whole target lane hl
    by-rank origin posts (inr was) queue q hq whole target lane hl = settled.lanes origin posts was queue q hq whole target lane hl

called-settled : (s t : State) (c : CallerId) (call : Call) (reply : Reply) → (row_of call).group ≡ None → IsSettled s → step s (Called c call reply) ≡ Ok t → IsSettled t
called-settled s t c call reply plain settled h =
    let made = step-called s t c call reply plain h in
    let m = made.3 in
    let ended : is_running (thread_at made.0 c.thread) ≡ false = rw m.posts_there at (settled.callers c.rank c.thread) in
    let answered : reply ≡ recorded_reply (answer s.limits c.rank made.0 made.1 c.thread call) = same_reply-same _ _ m.is.answered in
    let refused : reply ≡ replies.Refused CallerEnded = rw ended at answered in
    let idle : is_idle reply ≡ true = rw refused refl in
    counted-settled s t c.rank settled (only-counted s t c call reply idle h)

step-settled : (s t : State) (e : Event) → IsSettled s → step s e ≡ Ok t → IsSettled t
step-settled s t (Joined c id args) settled h =
    let made = step-joined s t c id args h in
    let m = made.2 in
    let ended : is_running (thread_at made.0 c.thread) ≡ false = rw m.posts_there at (settled.callers c.rank c.thread) in
    let joins = rw ended at m.is.joins in
    absurd (let no : ⊥ = cc in no)
step-settled s t (Called c call reply) settled h = by-group (row_of call).group refl
  where
    by-group : (o : Option ℕ) → (row_of call).group ≡ o → IsSettled t
    by-group (Some id) named =
        let made = step-completed s t c id call reply named h in
        let m = made.2 in
        let ended : is_running (thread_at made.0 c.thread) ≡ false = rw m.posts_there at (settled.callers c.rank c.thread) in
        let answered : is_reply_of (ready.Reply (replies.Refused CallerEnded)) reply ≡ true = rw ended at m.is.answered in
        let refused : reply ≡ replies.Refused CallerEnded = same_reply-same reply (replies.Refused CallerEnded) answered in
        counted-settled s t c.rank settled (only-counted s t c call reply (ap is_idle refused) h)
    by-group None plain = called-settled s t c call reply plain settled h
step-settled s t (Take origin queue target number outcome) settled h =
    let made = step-take s t origin queue target number outcome h in
    absurd (no-entry s made.0 origin queue target number made.3 settled.lanes made.4.posts_there made.4.is.is made.4.is.whole)
step-settled s t (Put origin queue target number outcome) settled h =
    let made = step-put s t origin queue target number outcome h in
    absurd (no-entry s made.0 origin queue target number made.3 settled.lanes made.4.posts_there made.4.is.is made.4.is.whole)

pub stays-settled : (s t : State) (events : List Event) → IsSettled s → after s events ≡ Ok t → IsSettled t
stays-settled s t [] settled h = let same : s ≡ t = cc in rw (sym same) settled
stays-settled s t (e ∷ events) settled h =
    let first = after-first s t e events h in
    stays-settled first.0 t events (step-settled s first.0 e settled first.1) first.2
