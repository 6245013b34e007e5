use Rattle.std.proofs.Common.{ℕ, ◌<◌, Option, sym, ap, ◌∙◌, subst}
use Rattle.gaspi_types.specs.CallRows.{row_of}
use Rattle.gaspi_types.specs.Footprints.{footprint_of}
use Rattle.gaspi_types.specs.declared.call_rows.CallRow.{CallRow}
use Rattle.gaspi_types.specs.declared.events.Event.{Event}
use Rattle.gaspi_model.proofs.Sections.{declared-within}
use Rattle.commit_table.specs.Attempts.{IsMissed}
use Rattle.commit_table.specs.Calls.{PassValue}
use Rattle.gaspi_world.specs.RankShards.{IsEither, rank_other}
use Rattle.gaspi_world.specs.declared.starts.Start.{Start}
use Rattle.gaspi_world.specs.Attempts.{Attempted}
use Rattle.gaspi_world.specs.HeldShards.{IsOtherShard}
use Rattle.gaspi_world.specs.WorldMachine.{world_machine}
use Rattle.gaspi_world.proofs.HeldNodes.{other-shard, footprint-is}
use Rattle.gaspi_world.proofs.Working.{attempted-left, missed-busy}
use Rattle.gaspi_world.proofs.attempts.attempt.Goals as goal

pub take_and_look-requires-clause-own : goal.take_and_look-requires-clause-own
take_and_look-requires-clause-own c =
    let w = c.args.table.now.start.shape in
    let caller = c.args.invocation.now.caller in
    subst (λ (n : ℕ). n < w.limits.ranks) (sym c.number.ensures.value) (declared-within w.limits.ranks caller.rank caller.thread w.callers c.requires.world.within c.requires.caller.0).0

pub take_and_look-requires-clause-other : goal.take_and_look-requires-clause-other
take_and_look-requires-clause-other c =
    let w = c.args.table.now.start.shape in
    let caller = c.args.invocation.now.caller in
    let call = c.args.invocation.now.call.now in
    let other = c.footprint_shard-other.ensures ∙ (ap (rank_other c.ranks-ranks.result) c.footprint.ensures
    ∙ (ap (λ (n : ℕ). rank_other n (footprint_of n caller.rank c.args.invocation.now.row.footprint)) (c.ranks-ranks.ensures ∙ ap (λ (s : Start). s.shape.limits.ranks) c.start.ensures.start)
    ∙ ap (λ (r : CallRow). rank_other w.limits.ranks (footprint_of w.limits.ranks caller.rank r.footprint)) c.args.invocation.now.rowed)) in
    let there = other-shard w caller.rank (footprint_of w.limits.ranks caller.rank (row_of call).footprint) (declared-within w.limits.ranks caller.rank caller.thread w.callers c.requires.world.within c.requires.caller.0).0 (footprint-is w.limits.ranks caller.rank (row_of call).footprint) in
    subst (λ (n : ℕ). IsOtherShard w n c.footprint_shard-other.result) (sym c.number.ensures.value) (subst (λ (o : Option ℕ). IsOtherShard w caller.rank o) (sym other) there)

pub returns-clause-attempted : goal.returns-clause-attempted
returns-clause-attempted c =
    let w = c.args.table.now.start.shape in
    let caller = c.args.invocation.now.caller in
    let call = c.args.invocation.now.call.now in
    let u = c.attempt_held-told.new.pass.known in
    let h = c.attempt_held-told.new.held in
    subst (λ (p : PassValue Start Event). Attempted w caller call c.args.look c.args.pass.now.known c.attempt_held-told.result p.known) (sym c.give_back.ensures.left)
    (attempted-left w caller call c.args.look c.args.pass.now.known c.take_and_look.new.pass.known u c.attempt_held-told.result h.own h.other c.requires.world c.requires.caller c.in-Some.ensures.looked c.attempt_held-told.ensures.held.shards.legal c.attempt_held-told.ensures.held.shards.own c.attempt_held-told.ensures.worked)

pub returns-in_default-clause-attempted : goal.returns-in_default-clause-attempted
returns-in_default-clause-attempted c =
    let w = c.args.table.now.start.shape in
    let other = c.footprint_shard-other.ensures ∙ (ap (rank_other c.ranks-ranks.result) c.footprint.ensures
    ∙ (ap (λ (n : ℕ). rank_other n (footprint_of n c.args.invocation.now.caller.rank c.args.invocation.now.row.footprint)) (c.ranks-ranks.ensures ∙ ap (λ (s : Start). s.shape.limits.ranks) c.start.ensures.start)
    ∙ ap (λ (r : CallRow). rank_other w.limits.ranks (footprint_of w.limits.ranks c.args.invocation.now.caller.rank r.footprint)) c.args.invocation.now.rowed)) in
    missed-busy w c.args.invocation.now.caller c.args.invocation.now.call.now c.args.look c.args.pass.now.known c.take_and_look.new.pass.known c.requires.world c.requires.caller
    (subst (λ (o : Option ℕ). IsMissed (world_machine w) c.args.pass.now.known (IsEither c.args.invocation.now.caller.rank o) c.take_and_look.new.pass.known) other
    (subst (λ (n : ℕ). IsMissed (world_machine w) c.args.pass.now.known (IsEither n c.footprint_shard-other.result) c.take_and_look.new.pass.known) c.number.ensures.value c.in_default.ensures.missed))
