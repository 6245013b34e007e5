use Rattle.std.specs.Prelude.{codes}
use Rattle.std.specs.Str.Parse.{ParsesUnsigned, ExplainsUnsignedError, HasUnsignedDigitsIfOk}
use Rattle.clap.specs.Words.{found_of}
use Rattle.command_line.proofs.Reading.{number_is}
use Rattle.command_line.proofs.words.place.Goals as goal

pub returns : goal.returns
returns c =
    number_is 64 (λ bs r. ParsesUnsigned 64 10 bs r × ExplainsUnsignedError 10 bs r × HasUnsignedDigitsIfOk bs r) (λ u x g. g.0)
    (found_of c.args.matches.now) (codes "place") c.get_one.result c.get_one.ensures.none c.get_one.ensures.value
