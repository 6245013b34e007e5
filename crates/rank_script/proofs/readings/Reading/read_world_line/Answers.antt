use Rattle.std.proofs.Common.{map, List, ℕ, Some, Ok, not, refl, sym, ap, ◌∙◌}
use Rattle.gaspi_types.specs.World.{shape_of}
use Rattle.rank_script.specs.WorldText.{WorldLine, all_numbers, limits_of}
use Rattle.rank_script.specs.Readings.{reading_of}
use Rattle.rank_script.proofs.LateFaults.{Declaring, some-where, refused, accepted, world-refused, world-accords}
use Rattle.rank_script.proofs.readings.Reading.read_world_line.Goals as goal

pub returns-in-Some-Err-clause-exact : goal.returns-in-Some-Err-clause-exact
returns-in-Some-Err-clause-exact c =
    let words : List (List ℕ) = map (λ word. word.now) c.args.words.now in
    let parts = some-where (all_numbers words) _ _ c.in-Some-Err.ensures in
    let declaring : Declaring (reading_of c.args.self.now) (WorldLine words) (shape_of (limits_of words)) = record { formed = ap not parts.0; outside = refl; made_is = refl } in
    rw c.fault_for.ensures (refused (reading_of c.args.self.now) (reading_of c.args.self.now) c.args.number (WorldLine words) _ c.in-Some-Err.fault declaring (world-refused (limits_of words) c.in-Some-Err.fault (sym c.in-Some-Err.field-0-is ∙ parts.1)))

pub returns-in-Some-Ok-clause-exact : goal.returns-in-Some-Ok-clause-exact
returns-in-Some-Ok-clause-exact c =
    let words : List (List ℕ) = map (λ word. word.now) c.args.words.now in
    let parts = some-where (all_numbers words) _ _ c.in-Some-Ok.ensures in
    let declaring : Declaring (reading_of c.args.self.now) (WorldLine words) (Ok c.in-Some-Ok.shape) = record { formed = ap not parts.0; outside = refl; made_is = ap Some (sym parts.1 ∙ c.in-Some-Ok.field-0-is) } in
    accepted (reading_of c.args.self.now) c.args.number (WorldLine words) c.in-Some-Ok.shape c.args.self.now.scripts declaring refl

pub returns-in-Some-Ok-clause-accords : goal.returns-in-Some-Ok-clause-accords
returns-in-Some-Ok-clause-accords c =
    let words : List (List ℕ) = map (λ word. word.now) c.args.words.now in
    let parts = some-where (all_numbers words) _ _ c.in-Some-Ok.ensures in
    world-accords (reading_of c.args.self.now) (limits_of words) c.in-Some-Ok.shape c.requires.first (sym c.in-Some-Ok.field-0-is ∙ parts.1)
