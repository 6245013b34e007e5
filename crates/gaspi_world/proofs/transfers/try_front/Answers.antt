use Rattle.std.proofs.Common.{◌≡◌, ◌<◌, ℕ, ◌∙◌, [], ◌∷◌, Some, inl, sym, ap, subst}
use Rattle.commit_table.proofs.Missing.{first_missed}
use Rattle.commit_table.specs.Views.{held_at}
use Rattle.gaspi_model.proofs.Histories.{reached-sound}
use Rattle.gaspi_world.specs.ShardLaws.{arrives}
use Rattle.gaspi_world.specs.ShardMachine.{state_after}
use Rattle.gaspi_world.specs.WorldMachine.{world_machine}
use Rattle.gaspi_world.specs.declared.shards.WorldShard.TheVariants as shards
use Rattle.gaspi_world.proofs.TakenShards.{rank-stands}
use Rattle.gaspi_world.proofs.TransferTries.{shard_taken-rank, took-of, gave-of, front-of-node, other-of-node, none-of-node, ended-of-node, posts-of-node, return-of, node-shard_taken, held-shard_taken, may-return, still, busy, other-within, other-free, ready-one, ready-both}
use Rattle.gaspi_world.proofs.Transferring.{FrontLaws}
use Rattle.gaspi_world.proofs.transfers.try_front.Goals as goal

pub returns-in_default-clause-tries : goal.returns-in_default-clause-tries
returns-in_default-clause-tries c =
    let w = c.args.table.now.start.shape in
    let missed = c.in_default.ensures.missed in
    let is = ap (λ p. p.known) missed.1 in (
      λ i. ap (λ k. held_at k.held i) is ∙ c.requires.free i,
      inl (first_missed (world_machine w) (λ i. i ≡ c.args.origin) c.args.pass.now.known c.try_take.new.pass.known c.number-own.result missed.0 c.number-own.ensures.value c.try_take.ensures.sound is missed.2),
    )

pub into_rank-node-requires : goal.into_rank-node-requires
into_rank-node-requires c =
    let w = c.args.table.now.start.shape in
    let told = c.in-Some.ensures.shard_taken in
    let lt : c.number-own.result < w.limits.ranks = subst (λ (n : ℕ). n < w.limits.ranks) (sym c.number-own.ensures.value) c.requires.rank in
    rank-stands w c.requires.world c.in-Some.mine told.0 c.number-own.result told.2.legal lt told.2.stands

pub next_front-requires : goal.next_front-requires
next_front-requires c =
    let w = c.args.table.now.start.shape in
    let world = c.requires.world in
    let own = c.number-own.ensures.value in
    let origin = c.args.origin in
    let v = c.args.pass.now.known in
    let t = c.try_take.new.pass.known in
    let node = c.into_rank-node.result in
    let told = c.in-Some.ensures.shard_taken in
    let is = took-of v t c.number-own.result origin told.0 own (ap (λ p. p.known) told.1) in
    let taken = shard_taken-rank w v c.number-own.result origin c.in-Some.mine _ told.0 own c.into_rank-node.ensures told.2 in
    let s = state_after w told.0 in
    (s, reached-sound w told.0 s world (arrives w told.0 told.2.legal), posts-of-node c.deref.result.now node s origin c.deref.ensures (node-shard_taken w world origin c.requires.rank v t told.0 node is taken))

pub give_back-requires-clause-value : goal.give_back-requires-clause-value
give_back-requires-clause-value c =
    let w = c.args.table.now.start.shape in
    let world = c.requires.world in
    let own = c.number-own.ensures.value in
    let origin = c.args.origin in
    let v = c.args.pass.now.known in
    let t = c.try_take.new.pass.known in
    let node = c.into_rank-node.result in
    let told = c.in-Some.ensures.shard_taken in
    let is = took-of v t c.number-own.result origin told.0 own (ap (λ p. p.known) told.1) in
    let taken = shard_taken-rank w v c.number-own.result origin c.in-Some.mine _ told.0 own c.into_rank-node.ensures told.2 in
    let look = c.look.ensures.seen in
    return-of w c.look.new.pass.known c.number-own.result origin node own
    (may-return w world origin c.requires.rank v t told.0 node is taken t c.look.new.pass.known c.look.result look.0 (held-shard_taken w world origin c.requires.rank v t told.0 node is taken) look.1)

pub returns-in_default-next_front-clause-tries : goal.returns-in_default-next_front-clause-tries
returns-in_default-next_front-clause-tries c =
    let w = c.args.table.now.start.shape in
    let world = c.requires.world in
    let own = c.number-own.ensures.value in
    let origin = c.args.origin in
    let v = c.args.pass.now.known in
    let t = c.try_take.new.pass.known in
    let node = c.into_rank-node.result in
    let told = c.in-Some.ensures.shard_taken in
    let is = took-of v t c.number-own.result origin told.0 own (ap (λ p. p.known) told.1) in
    let taken = shard_taken-rank w v c.number-own.result origin c.in-Some.mine _ told.0 own c.into_rank-node.ensures told.2 in
    let look = c.look.ensures.seen in
    still w world origin c.requires.rank v t told.0 node is taken c.look.new.pass.known c.give_back.new.pass.known c.look.result look.0 c.all_ended-ended.result c.requires.free look.1
    (gave-of c.look.new.pass.known c.give_back.new.pass.known c.number-own.result origin own (ap (λ p. p.known) c.give_back.ensures))
    (ended-of-node c.deref-in_default-next_front.result.now node c.all_ended-ended.result c.deref-in_default-next_front.ensures c.all_ended-ended.ensures)
    c.movable_lanes_have_fronts.ensures.none (none-of-node c.deref.result.now node c.deref.ensures c.in_default-next_front.ensures.none)

pub returns-in_default-front_shard-clause-tries : goal.returns-in_default-front_shard-clause-tries
returns-in_default-front_shard-clause-tries c =
    let w = c.args.table.now.start.shape in
    let world = c.requires.world in
    let own = c.number-own.ensures.value in
    let origin = c.args.origin in
    let v = c.args.pass.now.known in
    let t = c.try_take.new.pass.known in
    let node = c.into_rank-node.result in
    let told = c.in-Some.ensures.shard_taken in
    let is = took-of v t c.number-own.result origin told.0 own (ap (λ p. p.known) told.1) in
    let taken = shard_taken-rank w v c.number-own.result origin c.in-Some.mine _ told.0 own c.into_rank-node.ensures told.2 in
    let laws : FrontLaws = record { steps = c.fronts_are_steps.ensures.steps; footprint = c.front_footprints.ensures } in
    let f = c.in-Some-next_front.t in
    let front = front-of-node c.deref.result.now node f c.deref.ensures c.in-Some-next_front.ensures.front in
    let ranks = c.ranks.ensures ∙ ap (λ s. s.shape.limits.ranks) c.start.ensures.start in
    let other = other-of-node c.deref-2.result.now node f front.entry c.ranks.result w.limits.ranks _ c.deref-2.ensures ranks front.next c.in_default-front_shard.ensures in
    let look = c.look-in_default-front_shard.ensures.seen in
    ready-one w world origin c.requires.rank v t told.0 node is taken laws f front.entry front front.next c.look-in_default-front_shard.new.pass.known c.look-in_default-front_shard.result look.0 c.one_held.result c.requires.free other look.1
    (c.one_held.ensures.values ∙ ap (λ (n : ℕ). (n, shards.Rank node) ∷ []) own) c.one_held.ensures.fits (c.one_held.ensures.own ∙ own) c.one_held.ensures.other

pub try_take-requires-2-clause-shard : goal.try_take-requires-2-clause-shard
try_take-requires-2-clause-shard c =
    let w = c.args.table.now.start.shape in
    let world = c.requires.world in
    let own = c.number-own.ensures.value in
    let origin = c.args.origin in
    let v = c.args.pass.now.known in
    let t = c.try_take.new.pass.known in
    let node = c.into_rank-node.result in
    let told = c.in-Some.ensures.shard_taken in
    let is = took-of v t c.number-own.result origin told.0 own (ap (λ p. p.known) told.1) in
    let taken = shard_taken-rank w v c.number-own.result origin c.in-Some.mine _ told.0 own c.into_rank-node.ensures told.2 in
    let laws : FrontLaws = record { steps = c.fronts_are_steps.ensures.steps; footprint = c.front_footprints.ensures } in
    let f = c.in-Some-next_front.t in
    let front = front-of-node c.deref.result.now node f c.deref.ensures c.in-Some-next_front.ensures.front in
    let ranks = c.ranks.ensures ∙ ap (λ s. s.shape.limits.ranks) c.start.ensures.start in
    let j = c.in-Some-front_shard.other in
    let other = other-of-node c.deref-2.result.now node f front.entry c.ranks.result w.limits.ranks _ c.deref-2.ensures ranks front.next c.in-Some-front_shard.ensures in
    (other-within w world origin c.requires.rank v t told.0 node is taken laws f front.entry front front.next j other).0

pub try_take-requires-2-clause-free : goal.try_take-requires-2-clause-free
try_take-requires-2-clause-free c =
    let w = c.args.table.now.start.shape in
    let world = c.requires.world in
    let own = c.number-own.ensures.value in
    let origin = c.args.origin in
    let v = c.args.pass.now.known in
    let t = c.try_take.new.pass.known in
    let node = c.into_rank-node.result in
    let told = c.in-Some.ensures.shard_taken in
    let is = took-of v t c.number-own.result origin told.0 own (ap (λ p. p.known) told.1) in
    let taken = shard_taken-rank w v c.number-own.result origin c.in-Some.mine _ told.0 own c.into_rank-node.ensures told.2 in
    let laws : FrontLaws = record { steps = c.fronts_are_steps.ensures.steps; footprint = c.front_footprints.ensures } in
    let f = c.in-Some-next_front.t in
    let front = front-of-node c.deref.result.now node f c.deref.ensures c.in-Some-next_front.ensures.front in
    let ranks = c.ranks.ensures ∙ ap (λ s. s.shape.limits.ranks) c.start.ensures.start in
    let j = c.in-Some-front_shard.other in
    let other = other-of-node c.deref-2.result.now node f front.entry c.ranks.result w.limits.ranks _ c.deref-2.ensures ranks front.next c.in-Some-front_shard.ensures in
    other-free w world origin c.requires.rank v t told.0 node is taken laws f front.entry front front.next j c.requires.free other

pub give_back-requires-in_default-try_take-clause-value : goal.give_back-requires-in_default-try_take-clause-value
give_back-requires-in_default-try_take-clause-value c =
    let w = c.args.table.now.start.shape in
    let world = c.requires.world in
    let own = c.number-own.ensures.value in
    let origin = c.args.origin in
    let v = c.args.pass.now.known in
    let t = c.try_take.new.pass.known in
    let node = c.into_rank-node.result in
    let told = c.in-Some.ensures.shard_taken in
    let is = took-of v t c.number-own.result origin told.0 own (ap (λ p. p.known) told.1) in
    let taken = shard_taken-rank w v c.number-own.result origin c.in-Some.mine _ told.0 own c.into_rank-node.ensures told.2 in
    let u = c.try_take-2.new.pass.known in
    let missed = c.in_default-try_take.ensures.missed in
    let held : held_at u.held origin ≡ Some told.0 = ap (λ k. held_at k.held origin) (ap (λ p. p.known) missed.1) ∙ held-shard_taken w world origin c.requires.rank v t told.0 node is taken in
    let look = c.look-in_default-try_take.ensures.seen in
    return-of w c.look-in_default-try_take.new.pass.known c.number-own.result origin node own
    (may-return w world origin c.requires.rank v t told.0 node is taken u c.look-in_default-try_take.new.pass.known c.look-in_default-try_take.result look.0 held look.1)

pub returns-in_default-try_take-clause-tries : goal.returns-in_default-try_take-clause-tries
returns-in_default-try_take-clause-tries c =
    let w = c.args.table.now.start.shape in
    let world = c.requires.world in
    let own = c.number-own.ensures.value in
    let origin = c.args.origin in
    let v = c.args.pass.now.known in
    let t = c.try_take.new.pass.known in
    let node = c.into_rank-node.result in
    let told = c.in-Some.ensures.shard_taken in
    let is = took-of v t c.number-own.result origin told.0 own (ap (λ p. p.known) told.1) in
    let taken = shard_taken-rank w v c.number-own.result origin c.in-Some.mine _ told.0 own c.into_rank-node.ensures told.2 in
    let laws : FrontLaws = record { steps = c.fronts_are_steps.ensures.steps; footprint = c.front_footprints.ensures } in
    let f = c.in-Some-next_front.t in
    let front = front-of-node c.deref.result.now node f c.deref.ensures c.in-Some-next_front.ensures.front in
    let ranks = c.ranks.ensures ∙ ap (λ s. s.shape.limits.ranks) c.start.ensures.start in
    let j = c.in-Some-front_shard.other in
    let other = other-of-node c.deref-2.result.now node f front.entry c.ranks.result w.limits.ranks _ c.deref-2.ensures ranks front.next c.in-Some-front_shard.ensures in
    let missed = c.in_default-try_take.ensures.missed in
    let look = c.look-in_default-try_take.ensures.seen in
    busy w world origin c.requires.rank v t told.0 node is taken laws f front.entry front front.next c.try_take-2.new.pass.known c.look-in_default-try_take.new.pass.known c.give_back-in_default-try_take.new.pass.known c.look-in_default-try_take.result j look.0 missed.0 c.requires.free other (ap (λ p. p.known) missed.1) missed.2 look.1
    (gave-of c.look-in_default-try_take.new.pass.known c.give_back-in_default-try_take.new.pass.known c.number-own.result origin own (ap (λ p. p.known) c.give_back-in_default-try_take.ensures))

pub returns-clause-tries : goal.returns-clause-tries
returns-clause-tries c =
    let w = c.args.table.now.start.shape in
    let world = c.requires.world in
    let own = c.number-own.ensures.value in
    let origin = c.args.origin in
    let v = c.args.pass.now.known in
    let t = c.try_take.new.pass.known in
    let node = c.into_rank-node.result in
    let told = c.in-Some.ensures.shard_taken in
    let is = took-of v t c.number-own.result origin told.0 own (ap (λ p. p.known) told.1) in
    let taken = shard_taken-rank w v c.number-own.result origin c.in-Some.mine _ told.0 own c.into_rank-node.ensures told.2 in
    let laws : FrontLaws = record { steps = c.fronts_are_steps.ensures.steps; footprint = c.front_footprints.ensures } in
    let f = c.in-Some-next_front.t in
    let front = front-of-node c.deref.result.now node f c.deref.ensures c.in-Some-next_front.ensures.front in
    let ranks = c.ranks.ensures ∙ ap (λ s. s.shape.limits.ranks) c.start.ensures.start in
    let j = c.in-Some-front_shard.other in
    let other = other-of-node c.deref-2.result.now node f front.entry c.ranks.result w.limits.ranks _ c.deref-2.ensures ranks front.next c.in-Some-front_shard.ensures in
    let second = c.in-Some-try_take.ensures.shard_taken in
    let look = c.look-2.ensures.seen in
    let theirs = c.in-Some-try_take.theirs in
    ready-both w world origin c.requires.rank v t told.0 node is taken laws f front.entry front front.next c.try_take-2.new.pass.known c.look-2.new.pass.known c.look-2.result j second.0 look.0 theirs c.both_held.result c.requires.free other (ap (λ p. p.known) second.1) second.2 look.1
    (c.both_held.ensures.values ∙ ap (λ (n : ℕ). (n, shards.Rank node) ∷ (j, theirs) ∷ []) own) c.both_held.ensures.fits (c.both_held.ensures.own ∙ own) c.both_held.ensures.other
