use Rattle.std.proofs.Common.{◌≡◌, Option, Some, refl, sym, ◌∙◌, subst}
use Rattle.std.proofs.lemmas.Option.{slice_get_within}
use Rattle.std.specs.Option.{IsSome}
use Rattle.gaspi_types.specs.declared.shapes.CallerId.{CallerId}
use Rattle.commit_table.specs.Calls.{TableValue}
use Rattle.gaspi_world.specs.Callers.{IsPassOf, all_numbered}
use Rattle.gaspi_world.specs.declared.starts.Start.{Start}
use Rattle.gaspi_world.proofs.Numbers.{stands-in}
use Rattle.gaspi_world.proofs.worlds.World.caller_of.Goals as goal

pub at-requires : goal.at-requires
at-requires c =
    let rows = subst (λ (t : TableValue Start). c.self.inside.callers ≡ all_numbered t.start.shape.callers) c.self.view_is c.self.invariant.1 in
    let there = stands-in c.self.inside.callers c.args.self.now.start.shape c.shape.result.now c.requires.0 c.args.pass.now.known c.number.result rows c.shape.ensures c.limits.ensures.world c.requires.1 c.number.ensures in
    slice_get_within c.self.inside.callers c.number.result _ there

pub unwrap-requires : goal.unwrap-requires
unwrap-requires c =
    let rows = subst (λ (t : TableValue Start). c.self.inside.callers ≡ all_numbered t.start.shape.callers) c.self.view_is c.self.invariant.1 in
    let there = stands-in c.self.inside.callers c.args.self.now.start.shape c.shape.result.now c.requires.0 c.args.pass.now.known c.number.result rows c.shape.ensures c.limits.ensures.world c.requires.1 c.number.ensures in
    let both : ◌≡◌ {A = Option (Option CallerId)} (Some c.at.result.now) (Some (Some c.requires.0)) = sym c.at.ensures ∙ there in
    let is : c.at.result.now ≡ Some c.requires.0 = cc in
    subst (λ (o : Option CallerId). IsSome o) (sym is) refl

pub returns-clause-is : goal.returns-clause-is
returns-clause-is c =
    let rows = subst (λ (t : TableValue Start). c.self.inside.callers ≡ all_numbered t.start.shape.callers) c.self.view_is c.self.invariant.1 in
    let there = stands-in c.self.inside.callers c.args.self.now.start.shape c.shape.result.now c.requires.0 c.args.pass.now.known c.number.result rows c.shape.ensures c.limits.ensures.world c.requires.1 c.number.ensures in
    let both : ◌≡◌ {A = Option (Option CallerId)} (Some c.at.result.now) (Some (Some c.requires.0)) = sym c.at.ensures ∙ there in
    let is : c.at.result.now ≡ Some c.requires.0 = cc in
    let given = c.unwrap.ensures in
    let same : c.requires.0 ≡ c.unwrap.result = cc in
    subst (λ (d : CallerId). IsPassOf c.args.self.now.start.shape d c.args.pass.now.known) same c.requires.1

pub returns-clause-only : goal.returns-clause-only
returns-clause-only c = λ d pass.
    let rows = subst (λ (t : TableValue Start). c.self.inside.callers ≡ all_numbered t.start.shape.callers) c.self.view_is c.self.invariant.1 in
    let there = stands-in c.self.inside.callers c.args.self.now.start.shape c.shape.result.now d c.args.pass.now.known c.number.result rows c.shape.ensures c.limits.ensures.world pass c.number.ensures in
    let both : ◌≡◌ {A = Option (Option CallerId)} (Some c.at.result.now) (Some (Some d)) = sym c.at.ensures ∙ there in
    let is : c.at.result.now ≡ Some d = cc in
    let given = c.unwrap.ensures in
    let same : c.unwrap.result ≡ d = cc in
    same
