use Rattle.std.proofs.Common.{◌≡◌, true, rules}
use Rattle.call_texts.specs.CallText.{has_timeout}
use Rattle.rank_script.proofs.SomeWords.{without-timeout}
use Rattle.rank_script.proofs.call_lines.CallParts.arguments.Goals as goal

pub returns : goal.returns
returns c =
    let timed : has_timeout c.args.self.word ≡ true = search rules in
    without-timeout (has_timeout c.args.self.word) c.args.self.given.now c.saturating_sub.result timed c.saturating_sub.ensures
