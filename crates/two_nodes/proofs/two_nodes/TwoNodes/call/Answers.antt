use Rattle.std.proofs.Common.{◌≡◌, ℕ, sym, subst, ◌∙◌}
use Rattle.two_nodes.specs.Worlds.{ArePartsOf}
use Rattle.two_nodes.proofs.Worlds.{as-second, declared-within, first-called, second-called, the-other, callers-after-look}
use Rattle.two_nodes.proofs.two_nodes.TwoNodes.call.Goals as goal

pub returns-then-is_first-clause-looked : goal.returns-then-is_first-clause-looked
returns-then-is_first-clause-looked c = λ s world declared.
    let rank : c.args.caller.rank ≡ 0 = sym c.number-is_first.ensures.value ∙ c.if-is_first.true in
    let d = c.args.self.now in
    let called = rw (c.new-invocation.ensures.caller, c.new-invocation.ensures.call) at c.call_of.ensures in
    let parts = subst (λ (n : ℕ). ArePartsOf s n 1 d.first d.second d.group d.places) (sym rank) world in
    first-called s c.args.caller c.args.call.now c.call_of.result d _ rank (called s 1 parts declared)

pub returns-else-is_first-clause-looked : goal.returns-else-is_first-clause-looked
returns-else-is_first-clause-looked c = λ s world declared.
    let d = c.args.self.now in
    let within = declared-within s c.args.caller.rank c.args.caller.thread d.first d.second d.group d.places world declared in
    let rank = the-other c.args.caller.rank c.number-is_first.result within c.number-is_first.ensures.value c.if-is_first.false in
    let called = rw (c.new-invocation.ensures.caller, c.new-invocation.ensures.call) at c.call_of-else-is_first.ensures in
    let parts = subst (λ (n : ℕ). ArePartsOf s n 0 d.second d.first d.group d.places) (sym rank) (as-second s d.first d.second d.group d.places world) in
    second-called s c.args.caller c.args.call.now c.call_of-else-is_first.result d _ rank (called s 0 parts declared)

pub returns-then-is_first-clause-callers : goal.returns-then-is_first-clause-callers
returns-then-is_first-clause-callers c = callers-after-look c.args.caller c.args.call.now c.call_of.result c.args.self.now _ c.requires.caller.0 c.requires.caller.1 c.requires.caller.2 (λ s world declared.
    let rank : c.args.caller.rank ≡ 0 = sym c.number-is_first.ensures.value ∙ c.if-is_first.true in
    let d = c.args.self.now in
    let called = rw (c.new-invocation.ensures.caller, c.new-invocation.ensures.call) at c.call_of.ensures in
    let parts = subst (λ (n : ℕ). ArePartsOf s n 1 d.first d.second d.group d.places) (sym rank) world in
    first-called s c.args.caller c.args.call.now c.call_of.result d _ rank (called s 1 parts declared))

pub returns-else-is_first-clause-callers : goal.returns-else-is_first-clause-callers
returns-else-is_first-clause-callers c = callers-after-look c.args.caller c.args.call.now c.call_of-else-is_first.result c.args.self.now _ c.requires.caller.0 c.requires.caller.1 c.requires.caller.2 (λ s world declared.
    let d = c.args.self.now in
    let within = declared-within s c.args.caller.rank c.args.caller.thread d.first d.second d.group d.places world declared in
    let rank = the-other c.args.caller.rank c.number-is_first.result within c.number-is_first.ensures.value c.if-is_first.false in
    let called = rw (c.new-invocation.ensures.caller, c.new-invocation.ensures.call) at c.call_of-else-is_first.ensures in
    let parts = subst (λ (n : ℕ). ArePartsOf s n 0 d.second d.first d.group d.places) (sym rank) (as-second s d.first d.second d.group d.places world) in
    second-called s c.args.caller c.args.call.now c.call_of-else-is_first.result d _ rank (called s 0 parts declared))
