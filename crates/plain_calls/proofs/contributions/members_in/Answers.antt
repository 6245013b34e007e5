use Rattle.std.proofs.Common.{◌∙◌, ap}
use Rattle.gaspi_types.specs.Collectives.{members_of}
use Rattle.plain_calls.proofs.Rounds.{members-of-or-none}
use Rattle.plain_calls.proofs.contributions.members_in.Goals as goal

pub returns : goal.returns
returns c = c.members_of.ensures ∙ ap members_of c.unwrap_or.ensures ∙ members-of-or-none c.args.group.now
