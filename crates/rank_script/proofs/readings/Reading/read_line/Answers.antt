use Rattle.std.proofs.Common.{map, List, ℕ, refl, sym, ◌∙◌}
use Rattle.std.proofs.lemmas.List.{length-map}
use Rattle.rank_script.specs.CutLines.{line_in}
use Rattle.rank_script.specs.Readings.{reading_of}
use Rattle.rank_script.proofs.EarlyFaults.{placed}
use Rattle.rank_script.proofs.ReadLines.{HasParts, reads-parts, early-fault}
use Rattle.rank_script.proofs.readings.Reading.read_line.Goals as goal

pub returns-in-None-clause-exact : goal.returns-in-None-clause-exact
returns-in-None-clause-exact c =
    let words : List (List ℕ) = map (λ word. word.now) c.as_slice-words.result.now in
    let has : HasParts c.args.line.now words (line_in c.of-parts.result) = record {
      is = rw c.as_slice-words.ensures.value c.in_ok-set_words.ensures;
      comment = sym c.is_comment.ensures ∙ c.if-is_comment.false;
      filled = rw length-map (sym c.is_empty.ensures ∙ c.if-is_empty.false);
      parts = c.of-parts.ensures;
    } in
    reads-parts c.read_line_fields.result (reading_of c.args.self.now) (reading_of c.read_line_fields.new.self) c.args.number c.args.line.now words _ has c.in-None.ensures c.read_line_fields.ensures.exact

pub returns-in-Some-clause-exact : goal.returns-in-Some-clause-exact
returns-in-Some-clause-exact c =
    let words : List (List ℕ) = map (λ word. word.now) c.as_slice-words.result.now in
    let has : HasParts c.args.line.now words (line_in c.of-parts.result) = record {
      is = rw c.as_slice-words.ensures.value c.in_ok-set_words.ensures;
      comment = sym c.is_comment.ensures ∙ c.if-is_comment.false;
      filled = rw length-map (sym c.is_empty.ensures ∙ c.if-is_empty.false);
      parts = c.of-parts.ensures;
    } in
    (early-fault (reading_of c.args.self.now) c.args.line.now words _ c.in-Some.fault has c.in-Some.ensures, refl)

pub read_line_fields-requires-clause-known : goal.read_line_fields-requires-clause-known
read_line_fields-requires-clause-known c = (placed (reading_of c.args.self.now) c.args.line.now _ c.in-None.ensures).known

pub read_line_fields-requires-clause-world : goal.read_line_fields-requires-clause-world
read_line_fields-requires-clause-world c = (placed (reading_of c.args.self.now) c.args.line.now _ c.in-None.ensures).world

pub read_line_fields-requires-clause-placed : goal.read_line_fields-requires-clause-placed
read_line_fields-requires-clause-placed c = (placed (reading_of c.args.self.now) c.args.line.now _ c.in-None.ensures).placed

pub read_line_fields-requires-clause-count : goal.read_line_fields-requires-clause-count
read_line_fields-requires-clause-count c = (placed (reading_of c.args.self.now) c.args.line.now _ c.in-None.ensures).count
