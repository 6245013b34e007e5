use Rattle.std.proofs.Common.{◌≡◌, refl, sym, ◌∙◌}
use Rattle.two_nodes.proofs.Worlds.{as-second, the-other, first-transferred, second-transferred, callers-after-transfer}
use Rattle.two_nodes.proofs.two_nodes.TwoNodes.transfer.Goals as goal

pub returns-then-number-eq0-clause-transfers : goal.returns-then-number-eq0-clause-transfers
returns-then-number-eq0-clause-transfers c = λ s world.
    let rank : c.args.rank ≡ 0 = sym c.number.ensures.value ∙ c.if-number-eq0.true in
    first-transferred s c.transfer_of.result c.args.rank c.args.self.now _ rank refl (c.transfer_of.ensures s 0 1 world)

pub returns-else-number-eq0-clause-transfers : goal.returns-else-number-eq0-clause-transfers
returns-else-number-eq0-clause-transfers c = λ s world.
    let d = c.args.self.now in
    let rank = the-other c.args.rank c.number.result c.requires.rank c.number.ensures.value c.if-number-eq0.false in
    second-transferred s c.transfer_of-else-number-eq0.result c.args.rank d _ rank refl (c.transfer_of-else-number-eq0.ensures s 1 0 (as-second s d.first d.second d.group d.places world))

pub returns-then-number-eq0-clause-callers : goal.returns-then-number-eq0-clause-callers
returns-then-number-eq0-clause-callers c = callers-after-transfer c.args.rank c.transfer_of.result c.args.self.now _ (λ s world.
    let rank : c.args.rank ≡ 0 = sym c.number.ensures.value ∙ c.if-number-eq0.true in
    first-transferred s c.transfer_of.result c.args.rank c.args.self.now _ rank refl (c.transfer_of.ensures s 0 1 world))

pub returns-else-number-eq0-clause-callers : goal.returns-else-number-eq0-clause-callers
returns-else-number-eq0-clause-callers c = callers-after-transfer c.args.rank c.transfer_of-else-number-eq0.result c.args.self.now _ (λ s world.
    let d = c.args.self.now in
    let rank = the-other c.args.rank c.number.result c.requires.rank c.number.ensures.value c.if-number-eq0.false in
    second-transferred s c.transfer_of-else-number-eq0.result c.args.rank d _ rank refl (c.transfer_of-else-number-eq0.ensures s 1 0 (as-second s d.first d.second d.group d.places world)))
