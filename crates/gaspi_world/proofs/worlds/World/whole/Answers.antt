use Rattle.std.proofs.Common.{◌≡◌, ℕ, sym, ap, ◌∙◌}
use Rattle.commit_table.specs.Calls.{TableValue}
use Rattle.gaspi_world.specs.Passes.{are_all}
use Rattle.gaspi_world.specs.declared.starts.Start.{Start}
use Rattle.gaspi_world.proofs.Wholes.{all-there, there-all}
use Rattle.gaspi_world.proofs.worlds.World.whole.Goals as goal

pub returns : goal.returns
returns c =
    let count : c.self.inside.passes ≡ c.args.self.now.passes = c.self.invariant.0 ∙ ap (λ (t : TableValue Start). t.passes) c.self.view_is in
    let is : c.are_all.result ≡ are_all c.args.self.now.passes c.args.passes.now.items =
    c.are_all.ensures ∙ ap (λ (n : ℕ). are_all n c.as_slice.result.now) count ∙ ap (are_all c.args.self.now.passes) c.as_slice.ensures.value in
    (λ yes. all-there c.args.self.now.passes c.args.passes.now.items (sym is ∙ yes), λ every. is ∙ there-all c.args.self.now.passes c.args.passes.now.items every)
