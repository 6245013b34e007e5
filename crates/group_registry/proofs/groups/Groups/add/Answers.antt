use Rattle.std.proofs.Common.{rules, ap}
use Rattle.group_registry.specs.Registry.{Registry}
use Rattle.group_registry.proofs.Adding.{adds-rank}
use Rattle.group_registry.proofs.groups.Groups.add.Goals as goal

pub returns-clause-alone : goal.returns-clause-alone
returns-clause-alone c =
    let same = ap (λ (r : Registry). r.groups) c.self.view_is in
    rw (c.set.ensures, c.with_member-members.ensures, ← same) (adds-rank c.self.inside.handles c.args.group c.args.rank c.in_ok-handle.handle (search rules))
