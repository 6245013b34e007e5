-- The calls of each caller, event by event.
use Rattle.std.proofs.Common.{◌≡◌, List, [], ◌∷◌, ◌++◌, sym, ap, ◌∙◌}
use Rattle.std.proofs.lemmas.List.{map-append}
use Rattle.gaspi_types.specs.declared.shapes.CallerId.{CallerId}
use Rattle.gaspi_types.specs.declared.calls.Call.{Call}
use Rattle.gaspi_types.specs.declared.replies.Reply.{Reply}
use Rattle.gaspi_types.specs.declared.events.Event.{Event}
use Rattle.gaspi_types.specs.declared.events.Event.TheVariants.{Called}
use Rattle.call_journal.specs.OwnCalls.{AreCallsOf, IsCallTable}
use Rattle.call_journal.specs.declared.own_calls.RecordedCall.{RecordedCall}
use Rattle.call_journal.proofs.CallerTables.{changed_of, table-changed, table-is}
use Rattle.call_journal.proofs.OwnCalls.{calls-more, calls-other, calls-same}

-- another event of a history adds its call to those of its caller, and to no others
pub called-table : (table : List (List (List RecordedCall))) (history : List Event) (c : CallerId) (own : RecordedCall) → IsCallTable table history
    → IsCallTable (changed_of table c (λ (calls : List RecordedCall). calls ++ own ∷ [])) (history ++ Called c own.call.now own.reply.now ∷ [])
called-table table history c own is =
    table-changed (AreCallsOf history) (AreCallsOf (history ++ Called c own.call.now own.reply.now ∷ [])) table c (λ (calls : List RecordedCall). calls ++ own ∷ [])
    (λ calls before.
    map-append (λ (own : RecordedCall). (own.call.now, own.reply.now)) calls (own ∷ [])
    ∙ (ap (λ (ps : List (Call × Reply)). ps ++ (own.call.now, own.reply.now) ∷ []) before ∙ sym (calls-more history c own.call.now own.reply.now)))
    (λ rank thread calls apart before. before ∙ sym (calls-other history c own.call.now own.reply.now rank thread apart))
    is

-- an event that is no call adds none
pub uncalled-table : (table : List (List (List RecordedCall))) (history : List Event) (e : Event) → ((c : CallerId) (call : Call) (reply : Reply) → e ≡ Called c call reply → ⊥)
    → IsCallTable table history → IsCallTable table (history ++ e ∷ [])
uncalled-table table history e none is =
    table-is (AreCallsOf history) (AreCallsOf (history ++ e ∷ [])) table (λ rank thread calls before. before ∙ sym (calls-same history e none rank thread)) is
