use Rattle.std.proofs.Common.{rules}
use Rattle.rank_script.specs.CutLines.{call_in}
use Rattle.rank_script.specs.Readings.{reading_of}
use Rattle.rank_script.proofs.LateFaults.{line-refused, line-accepted, call-accords}
use Rattle.rank_script.proofs.readings.Reading.read_call_line.Goals as goal

pub returns-in_err-line-clause-exact : goal.returns-in_err-line-clause-exact
returns-in_err-line-clause-exact c =
    let refused = line-refused c.in_err-line.field-0.0 (reading_of c.args.self.now) (reading_of c.args.self.now) c.args.number (call_in c.args.call) c.in_err-line.ensures.exact in
    search (rules, refused)

pub returns-clause-exact : goal.returns-clause-exact
returns-clause-exact c =
    line-accepted c.in_ok-line.line c.add_line.new.self (reading_of c.args.self.now) c.args.number (call_in c.args.call) c.in_ok-line.ensures.exact c.in_ok-add_line.ensures.ok

pub returns-clause-accords : goal.returns-clause-accords
returns-clause-accords c = call-accords (reading_of c.args.self.now) c.add_line.new.self _ c.in_ok-add_line.ensures.ok
