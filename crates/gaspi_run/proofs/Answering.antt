-- The answer to an input: to what was told of it, to its fault, and to one that could not be read.
use Rattle.std.proofs.Common.{◌≡◌, ℕ, ◌+◌, ◌<◌, ◌≤◌, Bool, true, false, inl, inr, List, [], replicate, Option, None, Some, Result, Ok, Err, IfOk, IsErrOf, length, refl, sym, ◌∙◌, arith}
use Rattle.std.specs.Option.{ForSome}
use Rattle.std.proofs.lemmas.Bool.{lt-ltb}
use Rattle.std.proofs.lemmas.List.{length-replicate}
use Rattle.gaspi_io.specs.Faults.{HasCause}
use Rattle.gaspi_io.specs.Source.{without, TakesAtMost}
use Rattle.gaspi_io.specs.declared.read.ReadStop.{ReadStop}
use Rattle.gaspi_io.specs.declared.read.ReadStop.TheVariants as stops
use Rattle.rank_script.specs.Lines.{input_limit}
use Rattle.rank_script.specs.WorldText.{TextFault}
use Rattle.rank_script.specs.declared.scripts.ScriptFault.{ScriptFault}
use Rattle.rank_script.specs.declared.scripts.ScriptFault.TheVariants.{At, NoMemory}
use Rattle.gaspi_run.specs.Command.{fault_text, IsCommandResult, world_read, is_plain, writes_journal, HasBenched, AnswersInput, AnswersBench, Answers}
use Rattle.gaspi_run.specs.Answering.{AnswersFault, AnswersResult, AnswersStop}
use Rattle.command_line.specs.declared.words.Command.{Command}
use Rattle.command_line.specs.declared.words.Command.TheVariants.{Run, Step, Check, Why, Bench}
use Rattle.gaspi_run.specs.declared.commands.Answer.{Answer}
use Rattle.gaspi_run.specs.Results.{ResultValue}

pub if-ok : {A E : Type 0} (P Q : A → Type 0) (r : Result A E) → ((x : A) → P x → Q x) → IfOk r P → IfOk r Q
if-ok P Q (Ok x) f p = f x p
if-ok P Q (Err e) f p = tt

-- a command that reads its input
abbrev pub reads : Command → Bool
reads (Run workers limit brief) = true
reads (Step seed limit brief) = true
reads Check = true
reads (Why place) = true
reads (Bench seed ranks rounds) = false

pub plain-reads : (command : Command) → is_plain command ≡ true → reads command ≡ true
plain-reads (Run workers limit brief) plain = refl
plain-reads (Step seed limit brief) plain = refl
plain-reads Check plain = refl
plain-reads (Why place) plain = refl
plain-reads (Bench seed ranks rounds) plain = plain

-- its answer is one of those to an input
pub answers-reading : (command : Command) (before after : Option (List ℕ)) (faults faults' : ℕ) (held held' : Option (List ℕ)) (sink_faults sink_faults' : ℕ) (answer : Answer)
    → reads command ≡ true → AnswersInput command before after faults faults' held held' sink_faults sink_faults' answer → Answers command before after faults faults' held held' sink_faults sink_faults' answer
answers-reading (Run workers limit brief) before after faults faults' held held' sink_faults sink_faults' answer reading is = is
answers-reading (Step seed limit brief) before after faults faults' held held' sink_faults sink_faults' answer reading is = is
answers-reading Check before after faults faults' held held' sink_faults sink_faults' answer reading is = is
answers-reading (Why place) before after faults faults' held held' sink_faults sink_faults' answer reading is = is
answers-reading (Bench seed ranks rounds) before after faults faults' held held' sink_faults sink_faults' answer reading is = absurd (let no : ⊥ = cc in no)

-- an input that is too long
long-text : (command : Command) (text : List ℕ) → reads command ≡ true → input_limit < length text → world_read command text ≡ Err (record { number = 1; line = 0 })
long-text (Run workers limit brief) text reading long = rw (lt-ltb input_limit (length text) long) refl
long-text (Step seed limit brief) text reading long = rw (lt-ltb input_limit (length text) long) refl
long-text Check text reading long = rw (lt-ltb input_limit (length text) long) refl
long-text (Why place) text reading long = rw (lt-ltb input_limit (length text) long) refl
long-text (Bench seed ranks rounds) text reading long = absurd (let no : ⊥ = cc in no)

-- there is a longer text than of any length
some-longer : (n : ℕ) → (text : List ℕ) × (n < length text)
some-longer n = (replicate (n + 1) 0, (let many = length-replicate {A = ℕ} (n + 1) 0 in omega arith))

-- what is known of an input with a fault: its bytes, where the source tells them
record KnowsFault (command : Command) (before after : Option (List ℕ)) (fault : TextFault) : Type 0 where
  input : List ℕ
  all : ForSome before (λ told. input ≡ told)
  end : length input ≤ input_limit → ForSome before (λ told. after ≡ Some [])
  past : input_limit < length input → after ≡ without before (input_limit + 1)
  is : world_read command input ≡ Err fault

long-fault : (command : Command) (before after : Option (List ℕ)) → reads command ≡ true → ForSome before (λ told. input_limit < length told) → after ≡ without before (input_limit + 1) → KnowsFault command before after (record { number = 1; line = 0 })
long-fault command (Some told) after reading long past = record {
  input = told;
  all = λ x is. (let same : told ≡ x = cc in same);
  end = λ short. absurd (let over = long told refl in omega arith);
  past = λ over. past;
  is = long-text command told reading (long told refl);
}
long-fault command None after reading long past =
    let text = some-longer input_limit in
    record {
      input = text.0;
      all = λ x is. absurd (let no : ⊥ = cc in no);
      end = λ short x is. absurd (let no : ⊥ = cc in no);
      past = λ over. past;
      is = long-text command text.0 reading text.1;
    }

module _ (command : Command) (before after held held' : Option (List ℕ)) (faults faults' sink_faults sink_faults' : ℕ) (answer : Answer) (reading : reads command ≡ true) (taken : TakesAtMost (input_limit + 1) before after) where
  abbrev IsAnswered : Type 0
  IsAnswered = AnswersInput command before after faults faults' held held' sink_faults sink_faults' answer

  answered-fault : (fault : TextFault) → KnowsFault command before after fault → faults' ≡ faults → AnswersFault held held' sink_faults sink_faults' answer fault → IsAnswered
  answered-fault fault k read (inl (inl told), none) = inr (inl (record {
    text = fault_text fault;
    still = (read, told.2);
    fault = record { input = k.input; fault = fault; all = k.all; end = k.end; past = k.past; is = k.is; text_is = refl };
    written = told.1;
    status = told.0;
    empty = none;
  }))
  answered-fault fault k read (inl (inr failed), none) = inr (inr (inr (inl (record {
    text = fault_text fault;
    of = inr (record { input = k.input; fault = fault; all = k.all; end = k.end; past = k.past; is = k.is; text_is = refl }, none);
    front = failed.1;
    cause = failed.2;
    still = read;
    status = failed.0;
  }))))
  answered-fault fault k read (inr lacks, none) = inr (inr (inr (inr (record {
    taken = taken;
    kept = inl lacks.1;
    still = (read, lacks.2);
    status = lacks.0;
    empty = none;
  }))))

  -- what was told of an input that was read
  pub answered-result : (input : List ℕ) (r : Result ResultValue ScriptFault) → length input ≤ input_limit → ForSome before (λ told. input ≡ told) → ForSome before (λ told. after ≡ Some []) → faults' ≡ faults
      → IfOk r (λ told. IsCommandResult command input told.journal told.tally told.status told.text) → IfOk r (λ told. told.is_held ≡ false → writes_journal command ≡ true)
      → ((number line : ℕ) → IsErrOf r (At number line) → world_read command input ≡ Err (record { number = number; line = line })) → AnswersResult held held' sink_faults sink_faults' answer r → IsAnswered
  answered-result input (Ok told) short all end read tells journals faulty (inl (inl written, journal, tally)) = inl (record {
    text = told.text;
    still = (read, written.2);
    told = record { input = input; all = all; end = end; tells = rw (written.0, journal, tally) tells };
    written = written.1;
  })
  answered-result input (Ok told) short all end read tells journals faulty (inl (inr failed, journal, tally)) = inr (inr (inr (inl (record {
    text = told.text;
    of = inl (told.status, record { input = input; all = all; end = end; tells = rw (journal, tally) tells });
    front = failed.1;
    cause = failed.2;
    still = read;
    status = failed.0;
  }))))
  answered-result input (Ok told) short all end read tells journals faulty (inr ((held, cut), none)) = inr (inr (inr (inr (record {
    taken = taken;
    kept = inr (record {
      text = told.text;
      journal = told.journal;
      tally = told.tally;
      would_be = told.status;
      journals = journals held;
      of = record { input = input; all = all; end = end; tells = tells };
      front = cut.1;
    });
    still = (read, cut.2);
    status = cut.0;
    empty = none;
  }))))
  answered-result input (Err (At number line)) short all end read tells journals faulty says =
      answered-fault (record { number = number; line = line }) (record { input = input; all = all; end = λ fits. end; past = λ long. absurd (omega arith); is = faulty number line refl }) read says
  answered-result input (Err NoMemory) short all end read tells journals faulty (silent, none) = inr (inr (inr (inr (record {
    taken = taken;
    kept = inl silent.1;
    still = (read, silent.2);
    status = silent.0;
    empty = none;
  }))))

  -- an input that was not read to its end
  pub answered-stop : (stop : ReadStop) → (stop ≡ stops.Long → ForSome before (λ told. input_limit < length told)) → (stop ≡ stops.Long → after ≡ without before (input_limit + 1)) → (stop ≡ stops.Fault → HasCause faults faults')
      → (stop ≡ stops.Long → faults' ≡ faults) → (stop ≡ stops.NoMemory → faults' ≡ faults) → AnswersStop held held' sink_faults sink_faults' answer stop → IsAnswered
  answered-stop stops.Fault long past cause still_long still_memory (silent, none) = inr (inr (inl (record {
    cause = cause refl;
    still = silent.2;
    taken = taken;
    kept = silent.1;
    status = silent.0;
    empty = none;
  })))
  answered-stop stops.Long long past cause still_long still_memory says =
      answered-fault (record { number = 1; line = 0 }) (long-fault command before after reading (long refl) (past refl)) (still_long refl) says
  answered-stop stops.NoMemory long past cause still_long still_memory (silent, none) = inr (inr (inr (inr (record {
    taken = taken;
    kept = inl silent.1;
    still = (still_memory refl, silent.2);
    status = silent.0;
    empty = none;
  }))))

-- The answer of `bench`.

pub answered-bench : (seed ranks rounds : ℕ) (held held' : Option (List ℕ)) (sink_faults sink_faults' : ℕ) (answer : Answer) (told : ResultValue)
    → HasBenched seed ranks rounds told.journal told.tally told.status told.text → told.is_held ≡ true → AnswersResult held held' sink_faults sink_faults' answer (Ok told) → AnswersBench seed ranks rounds held held' sink_faults sink_faults' answer
answered-bench seed ranks rounds held held' sink_faults sink_faults' answer told tells held_is (inl (inl written, journal, tally)) = inl (record {
  text = told.text;
  still = written.2;
  told = rw (written.0, journal, tally) tells;
  written = written.1;
})
answered-bench seed ranks rounds held held' sink_faults sink_faults' answer told tells held_is (inl (inr failed, journal, tally)) = inr (inl (record {
  text = told.text;
  would_be = told.status;
  of = rw (journal, tally) tells;
  front = failed.1;
  cause = failed.2;
  status = failed.0;
}))
answered-bench seed ranks rounds held held' sink_faults sink_faults' answer told tells held_is (inr ((not_held, cut), none)) =
    absurd (let both : true ≡ false = sym held_is ∙ not_held in let no : ⊥ = cc in no)
