use Rattle.std.proofs.Common.{◌≡◌, ℕ, ◌++◌, ◌∷◌, [], true, sym, ap, ◌∙◌, subst}
use Rattle.gaspi_types.specs.CallRows.{row_of}
use Rattle.gaspi_types.specs.declared.call_rows.CallRow.{CallRow}
use Rattle.gaspi_types.specs.declared.calls.Call.{Call}
use Rattle.gaspi_types.specs.declared.events.Event.TheVariants.{Joined}
use Rattle.gaspi_model.specs.Step.{is_legal}
use Rattle.rank_node.specs.Collectives.{IsPendingFor}
use Rattle.gaspi_world.specs.HeldShards.{IsCommitted}
use Rattle.gaspi_world.proofs.AttemptedCalls.{lent-call, lends-call, answer-at, me-is, join-group-there, named-is, join-itself, join-legal, join-made, after-join}
use Rattle.gaspi_world.proofs.CommittedNodes.{agrees-self, sound-at}
use Rattle.gaspi_world.proofs.attempts.join.Goals as goal

pub call_group-group-requires : goal.call_group-group-requires
call_group-group-requires c =
    let on = c.requires.holder in
    let there = join-group-there c.args.table.now.start.shape c.requires.world c.args.invocation.now.caller c.args.call.now c.args.args c.args.held.now c.args.pass.now.known on.held on.own on.other on.caller c.requires.joins in
    (there.0, ap (λ (r : CallRow). r.group) (c.args.invocation.now.rowed ∙ ap row_of (sym c.requires.call)) ∙ there.1, there.2)

pub commit_join-requires-clause-step : goal.commit_join-requires-clause-step
commit_join-requires-clause-step c =
    let w = c.args.table.now.start.shape in
    let on = c.requires.holder in
    let named = c.call_group-group.ensures ∙ ap (λ (r : CallRow). r.group) (c.args.invocation.now.rowed ∙ ap row_of (sym c.requires.call)) in
    let same = named-is w c.requires.world c.args.invocation.now.caller c.args.call.now c.args.args c.args.held.now c.args.pass.now.known on.held on.own on.other on.caller c.requires.joins c.call_group-group.result named in
    subst (λ (n : ℕ). is_legal w (c.args.pass.now.known.seen ++ Joined c.args.invocation.now.caller n c.args.args ∷ []) ≡ true) same
    (join-legal w c.requires.world c.args.invocation.now.caller c.args.call.now c.args.args c.args.held.now c.args.pass.now.known on.held on.own on.other on.caller c.requires.joins)

pub commit_join-requires-clause-made : goal.commit_join-requires-clause-made
commit_join-requires-clause-made c =
    let on = c.requires.holder in
    join-made c.args.table.now.start.shape c.requires.world c.args.invocation.now.caller c.args.call.now c.args.args c.args.held.now c.args.pass.now.known on.held on.own on.other on.caller c.requires.joins c.args.room.now.made c.requires.room.recording.made

pub answer_in-requires-clause-own : goal.answer_in-requires-clause-own
answer_in-requires-clause-own c =
    let on = c.requires.holder in
    sym (me-is c.args.table.now.start.shape c.requires.world c.args.invocation.now.caller c.args.call.now c.commit_join.new.held c.commit_join.new.pass.known c.commit_join.ensures.held (c.commit_join.ensures.shards.0 ∙ on.own) (c.commit_join.ensures.shards.1 ∙ on.other))

pub answer_in-requires-clause-lent : goal.answer_in-requires-clause-lent
answer_in-requires-clause-lent c =
    let on = c.requires.holder in
    lent-call c.args.table.now.start.shape c.requires.world c.args.invocation.now.caller c.args.call.now c.commit_join.new.held c.commit_join.new.pass.known c.commit_join.ensures.held (c.commit_join.ensures.shards.0 ∙ on.own) (c.commit_join.ensures.shards.1 ∙ on.other)

pub answer_in-requires-clause-pending : goal.answer_in-requires-clause-pending
answer_in-requires-clause-pending c =
    let on = c.requires.holder in
    let named = c.call_group-group.ensures ∙ ap (λ (r : CallRow). r.group) (c.args.invocation.now.rowed ∙ ap row_of (sym c.requires.call)) in
    let itself = join-itself c.args.table.now.start.shape c.requires.world c.args.invocation.now.caller c.args.call.now c.args.args c.args.held.now c.args.pass.now.known on.held on.own on.other on.caller c.requires.joins c.call_group-group.result named in
    (c.call_group-group.result, subst (λ (x : Call). IsPendingFor c.commit_join.new.held.nodes.own.value.posts c.args.invocation.now.caller.thread c.call_group-group.result x) itself c.commit_join.ensures.pending)

pub returns-clause-added : goal.returns-clause-added
returns-clause-added c =
    let w = c.args.table.now.start.shape in
    let on = c.requires.holder in
    let named = c.call_group-group.ensures ∙ ap (λ (r : CallRow). r.group) (c.args.invocation.now.rowed ∙ ap row_of (sym c.requires.call)) in
    let same = named-is w c.requires.world c.args.invocation.now.caller c.args.call.now c.args.args c.args.held.now c.args.pass.now.known on.held on.own on.other on.caller c.requires.joins c.call_group-group.result named in
    subst (λ (n : ℕ). IsCommitted w c.args.pass.now.known (Joined c.args.invocation.now.caller n c.args.args) c.commit_join.new.pass.known) (sym same) c.commit_join.ensures.added

pub returns-clause-found : goal.returns-clause-found
returns-clause-found c =
    let w = c.args.table.now.start.shape in
    let on = c.requires.holder in
    let n = c.commit_join.new.pass.known in
    let named = c.call_group-group.ensures ∙ ap (λ (r : CallRow). r.group) (c.args.invocation.now.rowed ∙ ap row_of (sym c.requires.call)) in
    let same = named-is w c.requires.world c.args.invocation.now.caller c.args.call.now c.args.args c.args.held.now c.args.pass.now.known on.held on.own on.other on.caller c.requires.joins c.call_group-group.result named in
    let added = subst (λ (i : ℕ). IsCommitted w c.args.pass.now.known (Joined c.args.invocation.now.caller i c.args.args) n) (sym same) c.commit_join.ensures.added in
    let own = c.commit_join.ensures.shards.0 ∙ on.own in
    let other = c.commit_join.ensures.shards.1 ∙ on.other in
    let holds = c.commit_join.ensures.held in
    let legal = holds.shards.legal in
    let lent = lends-call w c.requires.world c.args.invocation.now.caller c.args.call.now c.commit_join.new.held n holds own other n.seen legal (agrees-self w c.requires.world c.commit_join.new.held n holds) in
    let answers = c.answer_in.ensures.answer _ (sound-at w c.requires.world c.commit_join.new.held n holds n.seen legal) lent in
    after-join w c.requires.world c.args.invocation.now.caller c.args.call.now c.args.args c.args.held.now c.args.pass.now.known on.held on.own on.other on.caller c.requires.joins n c.answer_in.result added legal
    (answer-at w c.requires.world c.args.invocation.now.caller c.args.call.now c.commit_join.new.held n holds own other n.seen c.answer_in.result answers)
