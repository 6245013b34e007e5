use Rattle.std.proofs.Common.{◌≡◌, Ok, sym, ap, subst, ◌∙◌}
use Rattle.std.specs.Prelude.{IfOk}
use Rattle.gaspi_types.specs.declared.replies.Ready.{Ready}
use Rattle.std.specs.Option.{option_copied}
use Rattle.gaspi_types.specs.Collectives.{resume}
use Rattle.gaspi_types.specs.declared.groups.Resume.TheVariants.{Fresh, Same}
use Rattle.gaspi_model.specs.CollectiveCalls.{args_of}
use Rattle.rank_node.specs.Values.{PostsValue}
use Rattle.rank_node.proofs.Looking.{new-joins}
use Rattle.rank_node.proofs.Resumed.{resumed-mine, same-answer}
use Rattle.rank_node.proofs.Unready.{fresh-ready}
use Rattle.rank_node.proofs.collective_looks.look.Goals as goal

pub fresh_result-requires : goal.fresh_result-requires
fresh_result-requires c =
    let found : resume (option_copied c.pending_at.result) c.args.thread (args_of c.in-Ok.handle.members c.args.call.now) ≡ Ok Fresh =
    sym c.resumes.ensures ∙ c.in-Ok-Fresh.is ∙ ap Ok c.in-Ok-Fresh.field-0-is in
    let groups = ap (λ (p : PostsValue). p.posts.groups) c.own.view_is in
    let me = ap (λ (p : PostsValue). p.me) c.own.view_is in
    let called = c.called_on.ensures.group in
    λ a is plain.
    new-joins c.args.own.now.posts c.args.own.now.me c.args.thread c.args.id c.requires.together.group c.args.group.now c.args.call.now c.in-Ok.handle a c.requires.together.sound c.requires.together.is
    (sym (rw (c.handles.ensures.value, groups, me) at called) ∙ c.in-Ok.is) (rw c.pending_at.ensures at found) (sym c.in_ok-args-in-Ok-Fresh.ensures.args ∙ is) plain

pub resumed_answer-requires : goal.resumed_answer-requires
resumed_answer-requires c =
    let found : resume (option_copied c.pending_at.result) c.args.thread (args_of c.in-Ok.handle.members c.args.call.now) ≡ Ok Same =
    sym c.resumes.ensures ∙ c.in-Ok-Same.is ∙ ap Ok c.in-Ok-Same.field-0-is in
    let me = ap (λ (p : PostsValue). p.me) c.own.view_is in (
      c.requires.together.group,
      rw me (resumed-mine c.args.own.now.posts c.args.own.now.me c.args.thread c.args.id c.in-Ok.handle.members c.requires.together.group c.args.group.now c.args.call.now c.requires.together.sound c.requires.together.is
          (rw c.pending_at.ensures at found)),
    )

pub returns-in-Ok-Same-clause-look : goal.returns-in-Ok-Same-clause-look
returns-in-Ok-Same-clause-look c =
    let found : resume (option_copied c.pending_at.result) c.args.thread (args_of c.in-Ok.handle.members c.args.call.now) ≡ Ok Same =
    sym c.resumes.ensures ∙ c.in-Ok-Same.is ∙ ap Ok c.in-Ok-Same.field-0-is in
    let same = rw c.pending_at.ensures at found in
    let groups = ap (λ (p : PostsValue). p.posts.groups) c.own.view_is in
    let me = ap (λ (p : PostsValue). p.me) c.own.view_is in
    let called = c.called_on.ensures.group in
    λ g meets is.
    let mine = resumed-mine c.args.own.now.posts c.args.own.now.me c.args.thread c.args.id c.in-Ok.handle.members g c.args.group.now c.args.call.now meets is same in
    let answer = same-answer c.args.own.now.posts c.args.own.now.me c.args.thread c.args.id g c.args.call.now c.in-Ok.handle (sym c.is_running.ensures ∙ c.if-not-is_running.false)
    (sym (rw (c.handles.ensures.value, groups, me) at called) ∙ c.in-Ok.is) same in
    subst (λ (r : Ready). IfOk c.resumed_answer.result (λ ready. ready ≡ r)) (sym answer) (let finds = c.resumed_answer.ensures.finds g (rw me mine) in rw me at finds)

pub returns-in_err-args-in-Ok-Fresh-clause-unready : goal.returns-in_err-args-in-Ok-Fresh-clause-unready
returns-in_err-args-in-Ok-Fresh-clause-unready c =
    let found : resume (option_copied c.pending_at.result) c.args.thread (args_of c.in-Ok.handle.members c.args.call.now) ≡ Ok Fresh =
    sym c.resumes.ensures ∙ c.in-Ok-Fresh.is ∙ ap Ok c.in-Ok-Fresh.field-0-is in
    let groups = ap (λ (p : PostsValue). p.posts.groups) c.own.view_is in
    let me = ap (λ (p : PostsValue). p.me) c.own.view_is in
    let called = c.called_on.ensures.group in
    λ g meets is waits.
    absurd (fresh-ready c.args.own.now.posts c.args.own.now.me c.args.thread c.args.id g c.args.call.now c.in-Ok.handle (sym c.is_running.ensures ∙ c.if-not-is_running.false)
    (sym (rw (c.handles.ensures.value, groups, me) at called) ∙ c.in-Ok.is) (rw c.pending_at.ensures at found) waits)

pub returns-in-Ok-Same-clause-unready : goal.returns-in-Ok-Same-clause-unready
returns-in-Ok-Same-clause-unready c =
    let found : resume (option_copied c.pending_at.result) c.args.thread (args_of c.in-Ok.handle.members c.args.call.now) ≡ Ok Same =
    sym c.resumes.ensures ∙ c.in-Ok-Same.is ∙ ap Ok c.in-Ok-Same.field-0-is in
    let same = rw c.pending_at.ensures at found in
    let groups = ap (λ (p : PostsValue). p.posts.groups) c.own.view_is in
    let me = ap (λ (p : PostsValue). p.me) c.own.view_is in
    let called = c.called_on.ensures.group in
    λ g meets is waits.
    let mine = resumed-mine c.args.own.now.posts c.args.own.now.me c.args.thread c.args.id c.in-Ok.handle.members g c.args.group.now c.args.call.now meets is same in
    let answer = same-answer c.args.own.now.posts c.args.own.now.me c.args.thread c.args.id g c.args.call.now c.in-Ok.handle (sym c.is_running.ensures ∙ c.if-not-is_running.false)
    (sym (rw (c.handles.ensures.value, groups, me) at called) ∙ c.in-Ok.is) same in
    let none = sym answer ∙ waits in
    c.resumed_answer.ensures.unready g (rw me mine) (rw me none)
