use Rattle.std.proofs.Common.{Ok, Some, sym, ap, subst, ◌∙◌}
use Rattle.gaspi_types.specs.CallRows.{row_of}
use Rattle.gaspi_types.specs.declared.calls.Call.{Call}
use Rattle.gaspi_types.specs.declared.events.Event.TheVariants.{Called}
use Rattle.gaspi_types.specs.declared.replies.Reply.{Reply}
use Rattle.gaspi_types.specs.declared.replies.Ready.{Ready}
use Rattle.gaspi_model.specs.CollectiveCalls.{group_of}
use Rattle.rank_node.specs.Lending.{IsStepOn, MayStep, IsLeft, behind}
use Rattle.two_nodes.specs.LentLooks.{HaveLooked}
use Rattle.two_nodes.proofs.LookSteps.{join-named}
use Rattle.two_nodes.proofs.LentLookSteps.{joins, joined-sound, joined-for, joins-once, completes, looked-joined, looked-completed}
use Rattle.two_nodes.proofs.looks.join_with.Goals as goal

pub answer_in-found-requires-clause-own : goal.answer_in-found-requires-clause-own
answer_in-found-requires-clause-own c =
    let may = c.requires.joins in
    let lent = c.args.lent.now in
    let m = joins may.0 c.args.invocation.now.caller c.args.invocation.now.call.now c.args.args lent.own.now (behind lent.peer) (behind lent.group) may.1 in
    sym (c.join_once.ensures.left may.0 m.0 m.1).lends.own_node.posts.me

pub answer_in-found-requires-clause-lent : goal.answer_in-found-requires-clause-lent
answer_in-found-requires-clause-lent c =
    let may = c.requires.joins in
    let caller = c.args.invocation.now.caller in
    let call = c.args.invocation.now.call.now in
    let old = c.args.lent.now in
    let new = c.join_once.new.lent in
    let m = joins may.0 caller call c.args.args old.own.now (behind old.peer) (behind old.group) may.1 in
    let left = c.join_once.ensures.left may.0 m.0 m.1 in record {
      state = m.0;
      sound = joined-sound may.0 m.0 caller call c.args.args c.args.places.now old.own.now new.own.now (behind old.peer) (behind new.peer) (behind old.group) (behind new.group) may.1 m.1 left;
      lends = joined-for may.0 m.0 caller call c.args.args c.args.places.now old.own.now new.own.now (behind old.peer) (behind new.peer) (behind old.group) (behind new.group) may.1 m.1 left;
    }

pub answer_in-found-requires-clause-pending : goal.answer_in-found-requires-clause-pending
answer_in-found-requires-clause-pending c = (group_of c.args.invocation.now.call.now, c.join_once.ensures.pending)

pub complete-requires-clause-step : goal.complete-requires-clause-step
complete-requires-clause-step c =
    let may = c.requires.joins in
    let caller = c.args.invocation.now.caller in
    let call = c.args.invocation.now.call.now in
    let old = c.args.lent.now in
    let new = c.join_once.new.lent in
    let m = joins may.0 caller call c.args.args old.own.now (behind old.peer) (behind old.group) may.1 in
    let left = c.join_once.ensures.left may.0 m.0 m.1 in
    let sound = joined-sound may.0 m.0 caller call c.args.args c.args.places.now old.own.now new.own.now (behind old.peer) (behind new.peer) (behind old.group) (behind new.group) may.1 m.1 left in
    let lends = joined-for may.0 m.0 caller call c.args.args c.args.places.now old.own.now new.own.now (behind old.peer) (behind new.peer) (behind old.group) (behind new.group) may.1 m.1 left in
    let at = c.answer_in-found.ensures.answer m.0 sound lends ∙ ap (λ (r : Ready). Some r) c.in-Reply.is in
    let t = completes may.0 m.0 caller call c.args.args c.args.places.now old.own.now new.own.now (behind old.peer) (behind new.peer) (behind old.group) (behind new.group) may.1 m.1 left c.in-Reply.reply at in
    subst (λ (x : Call). MayStep (Called caller x c.in-Reply.reply) new.own.now (behind new.peer) (behind new.group)) (sym c.requires.call) (m.0, t.0, t.1)

pub complete-requires-clause-named : goal.complete-requires-clause-named
complete-requires-clause-named c =
    let may = c.requires.joins in (
      group_of c.args.invocation.now.call.now,
      ap (λ (x : Call). (row_of x).group) c.requires.call ∙ join-named may.0 c.args.invocation.now.caller c.args.invocation.now.call.now c.args.args may.1.joins,
    )

pub unreachable-requires : goal.unreachable-requires
unreachable-requires c =
    let may = c.requires.joins in
    let caller = c.args.invocation.now.caller in
    let call = c.args.invocation.now.call.now in
    let old = c.args.lent.now in
    let new = c.join_once.new.lent in
    let m = joins may.0 caller call c.args.args old.own.now (behind old.peer) (behind old.group) may.1 in
    let left = c.join_once.ensures.left may.0 m.0 m.1 in
    let sound = joined-sound may.0 m.0 caller call c.args.args c.args.places.now old.own.now new.own.now (behind old.peer) (behind new.peer) (behind old.group) (behind new.group) may.1 m.1 left in
    let lends = joined-for may.0 m.0 caller call c.args.args c.args.places.now old.own.now new.own.now (behind old.peer) (behind new.peer) (behind old.group) (behind new.group) may.1 m.1 left in
    let at = c.answer_in-found.ensures.answer m.0 sound lends ∙ ap (λ (r : Ready). Some r) c.in-Join.is in
    joins-once may.0 m.0 caller call c.args.args c.args.places.now old.own.now new.own.now (behind old.peer) (behind new.peer) (behind old.group) (behind new.group) may.1 m.1 left c.in-Join.field-0 at

pub returns-in-Reply-clause-looked : goal.returns-in-Reply-clause-looked
returns-in-Reply-clause-looked c = λ s is.
    let caller = c.args.invocation.now.caller in
    let call = c.args.invocation.now.call.now in
    let old = c.args.lent.now in
    let new = c.join_once.new.lent in
    let last = c.complete.new.lent in
    let m = joins s caller call c.args.args old.own.now (behind old.peer) (behind old.group) is in
    let left = c.join_once.ensures.left s m.0 m.1 in
    let sound = joined-sound s m.0 caller call c.args.args c.args.places.now old.own.now new.own.now (behind old.peer) (behind new.peer) (behind old.group) (behind new.group) is m.1 left in
    let lends = joined-for s m.0 caller call c.args.args c.args.places.now old.own.now new.own.now (behind old.peer) (behind new.peer) (behind old.group) (behind new.group) is m.1 left in
    let at = c.answer_in-found.ensures.answer m.0 sound lends ∙ ap (λ (r : Ready). Some r) c.in-Reply.is in
    let t = completes s m.0 caller call c.args.args c.args.places.now old.own.now new.own.now (behind old.peer) (behind new.peer) (behind old.group) (behind new.group) is m.1 left c.in-Reply.reply at in
    let on : IsStepOn m.0 t.0 (Called caller c.args.call c.in-Reply.reply) new.own.now (behind new.peer) (behind new.group) =
    subst (λ (x : Call). IsStepOn m.0 t.0 (Called caller x c.in-Reply.reply) new.own.now (behind new.peer) (behind new.group)) (sym c.requires.call) t.1 in
    let gone : IsLeft m.0 t.0 (Called caller call c.in-Reply.reply) c.join_once.new.places new.own.now last.own.now (behind new.peer) (behind last.peer) (behind last.group) =
    subst (λ (x : Call). IsLeft m.0 t.0 (Called caller x c.in-Reply.reply) c.join_once.new.places new.own.now last.own.now (behind new.peer) (behind last.peer) (behind last.group)) c.requires.call
    (c.complete.ensures.left m.0 t.0 on) in
    let done = looked-completed s m.0 caller call c.args.args c.args.places.now old.own.now new.own.now (behind old.peer) (behind new.peer) (behind old.group) (behind new.group) is m.1 left t.0 c.in-Reply.reply c.join_once.new.places
    c.complete.new.places last.own.now (behind last.peer) (behind last.group) c.join_once.ensures.places c.complete.ensures.places at t.1 gone in
    subst (λ (r : Reply). HaveLooked s caller call (Ok (Some r)) c.args.places.now c.complete.new.places old.own.now last.own.now (behind old.peer) (behind last.peer) (behind last.group)) (sym c.complete.ensures.reply) done

pub returns-in-NotReady-clause-looked : goal.returns-in-NotReady-clause-looked
returns-in-NotReady-clause-looked c = λ s is.
    let caller = c.args.invocation.now.caller in
    let call = c.args.invocation.now.call.now in
    let old = c.args.lent.now in
    let new = c.join_once.new.lent in
    let m = joins s caller call c.args.args old.own.now (behind old.peer) (behind old.group) is in
    let left = c.join_once.ensures.left s m.0 m.1 in
    let sound = joined-sound s m.0 caller call c.args.args c.args.places.now old.own.now new.own.now (behind old.peer) (behind new.peer) (behind old.group) (behind new.group) is m.1 left in
    let lends = joined-for s m.0 caller call c.args.args c.args.places.now old.own.now new.own.now (behind old.peer) (behind new.peer) (behind old.group) (behind new.group) is m.1 left in
    let at = c.answer_in-found.ensures.answer m.0 sound lends ∙ ap (λ (r : Ready). Some r) c.in-NotReady.is in
    looked-joined s m.0 caller call c.args.args c.args.places.now old.own.now new.own.now (behind old.peer) (behind new.peer) (behind old.group) (behind new.group) is m.1 left c.join_once.new.places c.join_once.ensures.places at
