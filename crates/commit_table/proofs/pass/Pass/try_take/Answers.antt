use Rattle.std.proofs.Common.{length, ◌∙◌, ap, sym, refl, arith}
use Rattle.std.proofs.Math.ListN.{length-set}
use Rattle.commit_table.specs.Calls.{slot_of, Counts}
use Rattle.commit_table.proofs.Slots.{rested}
use Rattle.commit_table.proofs.Counting.{counted}
use Rattle.commit_table.proofs.Looking.{sound_of}
use Rattle.commit_table.proofs.pass.Pass.try_take.Goals as goal

pub invariant_of-self-in_default : goal.invariant_of-self-in_default
invariant_of-self-in_default g c =
    let e = rw c.in_default.is at c.take_shard.ensures.none in
    let r = rested c.take_shard.new.seat.me _ e.1 in
    let slots = ap (λ z. z.slots) c.take_shard.ensures.seat.0 in
    let was = c.self.invariant in
    let new = c.count_miss.ensures in
    let counts : Counts c.count_miss.new.misses.items c.take_shard.new.seat.me.0.known.missed = rw (new.items, ap (λ k. k.missed) r.1) (counted c.self.inside.misses.items c.self.inside.seat.me.0.known.missed c.args.shard _ was.4 (let size = was.3 in let table = ap (λ z. z.slots) (ap (λ p. p.table) c.self.view_is ∙ c.requires.table.0) in let shards = c.requires.size.1 in let lt = c.requires.shard in omega arith) refl) in (
      r.0,
      ap (λ k. k.party) r.1 ∙ was.1,
      ap slot_of new.len ∙ (was.2 ∙ sym slots),
      ap slot_of (ap length new.items ∙ length-set c.self.inside.misses.items c.args.shard _) ∙ (was.3 ∙ sym slots),
      counts,
    )

pub returns-in_default-clause-sound : goal.returns-in_default-clause-sound
returns-in_default-clause-sound g c = sound_of g.M.Sharded.machine c.args.board.now.key.start _ _ (ap (λ p. p.known) c.self.view_is) c.requires.table.1 c.take_shard.ensures.sound

pub returns-clause-sound : goal.returns-clause-sound
returns-clause-sound g c = sound_of g.M.Sharded.machine c.args.board.now.key.start _ _ (ap (λ p. p.known) c.self.view_is) c.requires.table.1 c.take_shard.ensures.sound
