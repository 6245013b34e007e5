use Rattle.std.proofs.Common.{map, List, ℕ, Some, Ok, not, refl, sym, ap, ◌∙◌}
use Rattle.rank_script.specs.WorldText.{SegmentLine, all_numbers, segment_declared}
use Rattle.rank_script.specs.Readings.{reading_of}
use Rattle.rank_script.proofs.LateFaults.{Declaring, some-where, refused, accepted, declares-refused, segment-declared, segment-numbers}
use Rattle.rank_script.proofs.readings.Reading.read_segment_line.Goals as goal

pub returns-in-Ok-clause-exact : goal.returns-in-Ok-clause-exact
returns-in-Ok-clause-exact c =
    let words : List (List ℕ) = map (λ word. word.now) c.args.words.now in
    let parts = some-where (all_numbers words) _ _ c.in-Some-read_segment.ensures in
    let declaring : Declaring (reading_of c.args.self.now) (SegmentLine words) (Ok c.add_segment.new.self) = record {
      formed = ap not parts.0;
      outside = refl;
      made_is = segment-declared c.args.self.now.shape words c.in-Some.shape c.in-Some.is ∙ ap Some (sym (segment-numbers words c.in-Some.shape _ _ _ parts.1) ∙ c.in-Ok.ensures);
    } in
    accepted (reading_of c.args.self.now) c.args.number (SegmentLine words) c.add_segment.new.self c.args.self.now.scripts declaring refl

pub returns-in-Err-clause-exact : goal.returns-in-Err-clause-exact
returns-in-Err-clause-exact c =
    let words : List (List ℕ) = map (λ word. word.now) c.args.words.now in
    let parts = some-where (all_numbers words) _ _ c.in-Some-read_segment.ensures in
    let declaring : Declaring (reading_of c.args.self.now) (SegmentLine words) (segment_declared c.in-Some.shape words) = record {
      formed = ap not parts.0;
      outside = refl;
      made_is = segment-declared c.args.self.now.shape words c.in-Some.shape c.in-Some.is;
    } in
    rw c.fault_for.ensures (refused (reading_of c.args.self.now) _ c.args.number (SegmentLine words) _ c.in-Err.fault declaring (declares-refused c.in-Err.fault c.in-Some.shape c.add_segment.new.self _ (rw (sym (segment-numbers words c.in-Some.shape _ _ _ parts.1)) c.in-Err.ensures)))
