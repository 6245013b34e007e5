use Rattle.std.proofs.Common.{◌<◌, ◌∙◌, ap, sym, subst}
use Rattle.commit_table.specs.Calls.{Closed}
use Rattle.commit_table.proofs.Joining.{all_remembered, closed_there}
use Rattle.commit_table.proofs.table.CommitTable.close.Goals as goal

pub last_look-length-requires-clause-all : goal.last_look-length-requires-clause-all
last_look-length-requires-clause-all g c =
    let key = c.self.inside.table.shared.key in
    let n = ap (λ k. k.passes) c.self.invariant.0 ∙ ap (λ t. t.passes) c.self.view_is in
    all_remembered g.M.Sharded.machine g.M.Sharded.lawful key.start key.passes c.args.passes.items c.join_all-seat.result.me.0.joined_passes (ap (λ z. z.0.joined_passes) c.join_all-seat.ensures.told)
    (λ p lt. c.requires.1 p (subst (λ z. p < z) n lt))

pub returns-clause-journal : goal.returns-clause-journal
returns-clause-journal g c =
    let key = c.self.inside.table.shared.key in
    let start = ap (λ k. k.start) c.self.invariant.0 ∙ ap (λ t. t.start) c.self.view_is in
    let told = c.last_look-length.ensures.told in
    let kept = c.split_tally-kept.ensures.new.1 in
    let seen = ap (λ z. z.0.known.seen) kept ∙ ap (λ z. z.0.known.seen) told.1 in
    let gathered = ap (λ z. z.0.joined_passes) kept ∙ ap (λ z. z.0.joined_passes) told.1 in
    let there = closed_there g.M.Sharded.machine g.M.Sharded.lawful key.start key.passes c.join_all-seat.result.me.0.joined_passes c.split_tally-kept.result.me.0.joined_passes told.0 (sym gathered) told.3 in
    subst (λ s. Closed (g.M.Sharded.machine s) c.split_tally-kept.result.me.0.known.seen c.split_tally-kept.result.me.0.joined_passes) start
    (subst (λ h. Closed (g.M.Sharded.machine key.start) h c.split_tally-kept.result.me.0.joined_passes) (sym seen) there)
