-- What is answered where a picture of a journal is asked for: its sequence diagram or its trace. (own choice)
use Rattle.std.specs.Prelude.{◌≡◌, ℕ, ◌<◌, ◌≤◌, true, List, length, Option}
use Rattle.gaspi_types.specs.World.{ShapeValue}
use Rattle.gaspi_types.specs.declared.events.Event.{Event}
use Rattle.gaspi_io.specs.Sink.{with_more, AddsPrefix}
use Rattle.gaspi_model.specs.Step.{is_legal}
use Rattle.call_journal.specs.Verdicts.{IsIllegalAt}
use Rattle.journal_pictures.specs.Diagram.{sequence_text}
use Rattle.journal_pictures.specs.Trace.{trace_text}
use Rattle.journal_pictures.specs.declared.drawing.SequenceAnswer.{SequenceAnswer}
use Rattle.journal_pictures.specs.declared.drawing.SequenceAnswer.TheVariants.{Drawn, Long, Illegal}
use Rattle.journal_pictures.specs.declared.tracing.TraceAnswer.{TraceAnswer}
use Rattle.journal_pictures.specs.declared.tracing.TraceAnswer.TheVariants.{Traced, Refuted}

-- how many events a diagram may have
abbrev pub most_events : ℕ
most_events = 400

-- the answer where the sequence diagram of a journal is asked for
abbrev pub IsSequenceAnswer : ShapeValue → List Event → SequenceAnswer → Type 0
IsSequenceAnswer w journal (Drawn text) = (is_legal w journal ≡ true) × (length journal ≤ most_events) × (text ≡ sequence_text w journal)
IsSequenceAnswer w journal (Long events) = (is_legal w journal ≡ true) × (most_events < length journal) × (events ≡ length journal)
IsSequenceAnswer w journal (Illegal place why) = IsIllegalAt w journal place why

-- the trace was written; or the journal is not legal, and nothing was written
abbrev pub IsTraceAnswer : ShapeValue → List Event → Option (List ℕ) → Option (List ℕ) → TraceAnswer → Type 0
IsTraceAnswer w journal held held' Traced = (is_legal w journal ≡ true) × (held' ≡ with_more held (trace_text w journal))
IsTraceAnswer w journal held held' (Refuted place why) = IsIllegalAt w journal place why × (held' ≡ held)

-- the trace was not written whole: what was written is a prefix of it
pub record IsCutTrace (w : ShapeValue) (journal : List Event) (held held' : Option (List ℕ)) : Type 0 where
  pub legal : is_legal w journal ≡ true
  pub front : AddsPrefix (trace_text w journal) held held'
