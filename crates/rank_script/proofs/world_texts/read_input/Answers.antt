use Rattle.std.proofs.Common.{Result, subst}
use Rattle.rank_script.specs.WorldText.{WorldReading, TextFault, journal_offset, ReadsInput}
use Rattle.rank_script.proofs.InputLines.{input-until}
use Rattle.rank_script.proofs.world_texts.read_input.Goals as goal

pub returns-clause-exact : goal.returns-clause-exact
returns-clause-exact c =
    subst (λ (text : Result WorldReading TextFault). ReadsInput c.read_until.result text (journal_offset c.args.text.now)) (input-until c.args.text.now) c.read_until.ensures.exact
