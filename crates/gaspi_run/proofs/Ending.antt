-- The end of a caller is recorded, and done.
use Rattle.std.proofs.Common.{◌≡◌, true, false, List, [], ◌∷◌, ◌++◌, Option, Some, Result, Ok, Err, refl, sym, ap, ◌∙◌, subst}
use Rattle.std.specs.List.{list_any}
use Rattle.gaspi_types.specs.World.{ShapeValue, IsShape, is_caller}
use Rattle.gaspi_types.specs.declared.calls.Call.{Call}
use Rattle.gaspi_types.specs.declared.calls.Call.TheVariants.{End}
use Rattle.gaspi_types.specs.declared.calls.Timeout.{Timeout}
use Rattle.gaspi_types.specs.declared.events.Event.{Event}
use Rattle.gaspi_types.specs.declared.events.Event.TheVariants.{Called}
use Rattle.gaspi_types.specs.declared.replies.Ready.{Ready}
use Rattle.gaspi_types.specs.declared.replies.Ready.TheVariants as ready
use Rattle.gaspi_types.specs.declared.replies.Reply.{Reply}
use Rattle.gaspi_types.specs.declared.replies.Reply.TheVariants.{Done}
use Rattle.gaspi_types.specs.declared.shapes.CallerId.{CallerId}
use Rattle.gaspi_model.specs.Calls.{recorded_reply}
use Rattle.gaspi_model.specs.State.{opening}
use Rattle.gaspi_model.specs.Step.{step, after, reached, recorded_calls, answer_in, lacks_room_in}
use Rattle.gaspi_model.specs.declared.states.State.{State}
use Rattle.gaspi_model.specs.declared.states.Why.{Why}
use Rattle.gaspi_model.proofs.Histories.{after-first, after-both, leads, reached-sound}
use Rattle.commit_table.specs.declared.views.PassView.{PassView}
use Rattle.gaspi_world.specs.Calling.{IsCalled, IsStopped, Calls}
use Rattle.gaspi_world.specs.declared.calling.Stop.{Stop}
use Rattle.gaspi_world.specs.declared.calling.Stop.TheVariants.{NoMemory, EventLimit}
use Rattle.gaspi_run.specs.SoFar.{HasNoEnd}
use Rattle.gaspi_run.proofs.Active.{still-active, end-answer, end-has-room}
use Rattle.gaspi_run.proofs.OwnCalls.{own-after, own-events, own-more, same-front, no-end-same}

abbrev Replies : Type 0
Replies = (s t : State) (c : CallerId) (call : Call) (reply : Reply) → step s (Called c call reply) ≡ Ok t
    → (found : Ready) × (answer_in s c.rank c.thread call ≡ Some found) × (Rattle.gaspi_model.specs.CollectiveCalls.is_joining found ≡ false) × (reply ≡ recorded_reply found)

module _ {S : Type 0} (w : ShapeValue) (c : CallerId) (m n : PassView S Event) (world : IsShape w) (declared : list_any (is_caller c.rank c.thread) w.callers ≡ true) (active : HasNoEnd c m.mine) where
  -- its end has room
  never-full : (timeout : Timeout) → IsStopped w c End timeout true m n → ⊥
  never-full timeout stop = go (reached w stop.last) refl
    where
      seen : recorded_calls c.rank c.thread n.seen ≡ recorded_calls c.rank c.thread m.mine
      seen = sym (own-events c n.seen) ∙ (ap (recorded_calls c.rank c.thread) (stop.goes_on.own ∙ stop.mine) ∙ own-after w c End stop.earlier stop.last m.mine stop.joins stop.joined)

      none : HasNoEnd c stop.last
      none = subst (HasNoEnd c) (sym (stop.now refl)) (no-end-same c n.seen m.mine seen active)

      go : (r : Result State Why) → reached w stop.last ≡ r → ⊥
      go (Err why) at = (let never : false ≡ true = rw at at stop.room in let no : ⊥ = cc in no)
      go (Ok s) at =
          let full : lacks_room_in s c End ≡ true = rw at at stop.room in
          end-has-room s c (reached-sound w stop.last s world at) (still-active c w stop.last s world declared at none) full

  -- it is done
  is-done : Replies → (timeout : Timeout) (reply : Reply) → IsCalled w c End timeout reply m n → reply ≡ Done
  is-done replies timeout reply called =
      let t = leads (reached w n.seen) called.goes_on.legal in
      let parts : after (opening w) (called.before ++ Called c End reply ∷ []) ≡ Ok t.0 = subst (λ (h : List Event). reached w h ≡ Ok t.0) called.ends t.1 in
      let split = after-both (opening w) t.0 called.before (Called c End reply ∷ []) parts in
      let one = after-first split.0 t.0 (Called c End reply) [] split.2 in
      let found = replies split.0 one.0 c End reply one.1 in
      let here = still-active c w called.before split.0 world declared split.1 none in
      let answers : ◌≡◌ {A = Option Ready} (Some found.0) (Some (ready.Reply Done)) = sym found.1 ∙ end-answer split.0 c.rank c.thread here in
      let same : found.0 ≡ ready.Reply Done = cc in
      found.3 ∙ ap recorded_reply same
    where
      calls : recorded_calls c.rank c.thread called.before ++ (End, reply) ∷ [] ≡ recorded_calls c.rank c.thread m.mine ++ (End, reply) ∷ []
      calls =
          sym (own-more c called.before End reply) ∙ (ap (recorded_calls c.rank c.thread) (sym called.ends) ∙ (sym (own-events c n.seen) ∙ (ap (recorded_calls c.rank c.thread) (called.goes_on.own ∙ called.mine)
          ∙ (own-more c (m.mine ++ called.joins) End reply ∙ ap (λ (ps : List (Call × Reply)). ps ++ (End, reply) ∷ []) (own-after w c End called.earlier called.last m.mine called.joins called.joined)))))

      none : HasNoEnd c called.before
      none = no-end-same c called.before m.mine (same-front (recorded_calls c.rank c.thread called.before) (recorded_calls c.rank c.thread m.mine) (End, reply) (End, reply) calls) active

  pub ends-done : Replies → (timeout : Timeout) (r : Result Reply Stop) → (r ≡ Err NoMemory → ⊥) → Calls w c End timeout m r n → IsCalled w c End timeout Done m n
  ends-done replies timeout (Ok reply) some told = subst (λ (x : Reply). IsCalled w c End timeout x m n) (is-done replies timeout reply told) told
  ends-done replies timeout (Err EventLimit) some told = absurd (never-full timeout told)
  ends-done replies timeout (Err NoMemory) some told = absurd (some refl)
