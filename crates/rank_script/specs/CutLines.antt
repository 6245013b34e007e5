-- Lines as they are cut. (own choice)
use Rattle.std.specs.Prelude.{map}
use Rattle.std.specs.Option.{option_copied, option_map}
use Rattle.rank_script.specs.WorldText.{LineCall, Line, WorldLine, SegmentLine, SectionLine, CallLine, LoneAgain, UnknownLine}
use Rattle.rank_script.specs.declared.call_lines.CallParts.{CallParts}
use Rattle.rank_script.specs.declared.line_fields.LineParts.{LineParts}
use Rattle.rank_script.specs.declared.line_fields.LineParts.TheVariants.{World, Segment, Section, Call, Again, Unknown}

-- the call of a line that was cut
abbrev pub call_in : CallParts → LineCall
call_in call = record {
  tries = option_copied call.tries;
  word = call.word;
  given = map (λ word. word.now) call.given.now;
  expected = option_map (λ reply. map (λ word. word.now) reply.now) call.expected;
}

-- a line that was cut
abbrev pub line_in : LineParts → Line
line_in (World words) = WorldLine (map (λ word. word.now) words.now)
line_in (Segment words) = SegmentLine (map (λ word. word.now) words.now)
line_in (Section words) = SectionLine (map (λ word. word.now) words.now)
line_in (Call call) = CallLine (call_in call)
line_in Again = LoneAgain
line_in Unknown = UnknownLine
