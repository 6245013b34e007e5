use Rattle.std.proofs.Common.{◌≡◌, map, List, ℕ, Some, Ok, not, refl, sym, ◌∙◌, ap}
use Rattle.rank_script.specs.WorldText.{SectionLine, is_section_line, section_caller, caller_declared, with_section}
use Rattle.rank_script.specs.Readings.{reading_of}
use Rattle.gaspi_types.specs.declared.shapes.CallerId.{CallerId}
use Rattle.rank_script.proofs.LateFaults.{Declaring, some-where, refused, accepted, declares-refused, section-declared, section-numbers, section-callers, last-pushed}
use Rattle.rank_script.proofs.readings.Reading.read_section_line.Goals as goal

pub returns-in-Err-clause-exact : goal.returns-in-Err-clause-exact
returns-in-Err-clause-exact c =
    let words : List (List ℕ) = map (λ word. word.now) c.args.words.now in
    let parts = some-where (is_section_line words) _ _ c.in-Some-read_section.ensures in
    let declaring : Declaring (reading_of c.args.self.now) (SectionLine words) (caller_declared c.in-Some.shape words) = record {
      formed = ap not parts.0;
      outside = refl;
      made_is = section-declared c.args.self.now.shape words c.in-Some.shape c.in-Some.is;
    } in
    rw c.fault_for.ensures (refused (reading_of c.args.self.now) _ c.args.number (SectionLine words) _ c.in-Err.fault declaring (declares-refused c.in-Err.fault c.in-Some.shape c.add_caller.new.self _ (rw (sym (section-numbers words c.in-Some.shape _ _ parts.1)) c.in-Err.ensures)))

pub returns-clause-exact : goal.returns-clause-exact
returns-clause-exact c =
    let words : List (List ℕ) = map (λ word. word.now) c.args.words.now in
    let parts = some-where (is_section_line words) _ _ c.in-Some-read_section.ensures in
    let added : caller_declared c.in-Some.shape words ≡ Ok c.add_caller.new.self = sym (section-numbers words c.in-Some.shape _ _ parts.1) ∙ c.in-Ok.ensures in
    let last : c.in-Some-last.caller.now ≡ section_caller words = last-pushed c.callers.result.now c.in-Some.shape.callers (section_caller words) c.in-Some-last.caller.now (c.callers.ensures ∙ section-callers words c.in-Some.shape c.add_caller.new.self added) c.in-Some-last.ensures.value in
    let opened : c.open.new.self ≡ with_section c.args.self.now.scripts (section_caller words) = c.in_ok-open.ensures.ok ∙ ap (λ (caller : CallerId). with_section c.args.self.now.scripts caller) last in
    let declaring : Declaring (reading_of c.args.self.now) (SectionLine words) (Ok c.add_caller.new.self) = record {
      formed = ap not parts.0;
      outside = refl;
      made_is = section-declared c.args.self.now.shape words c.in-Some.shape c.in-Some.is ∙ ap Some added;
    } in
    accepted (reading_of c.args.self.now) c.args.number (SectionLine words) c.add_caller.new.self c.open.new.self declaring opened
