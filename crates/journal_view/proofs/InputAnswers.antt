-- The answer to an input: to what was told of it, to its fault, and to one that could not be read.
use Rattle.std.proofs.Common.{◌≡◌, ℕ, ◌+◌, ◌<◌, ◌≤◌, inl, inr, List, [], replicate, Option, None, Some, Result, Ok, Err, IfOk, IsErrOf, length, refl, arith}
use Rattle.std.specs.Option.{ForSome}
use Rattle.std.proofs.lemmas.Bool.{lt-ltb}
use Rattle.std.proofs.lemmas.List.{length-replicate}
use Rattle.gaspi_io.specs.Faults.{HasCause}
use Rattle.gaspi_io.specs.Source.{without, TakesAtMost}
use Rattle.gaspi_io.specs.declared.read.ReadStop.{ReadStop}
use Rattle.gaspi_io.specs.declared.read.ReadStop.TheVariants as stops
use Rattle.rank_script.specs.Lines.{input_limit}
use Rattle.rank_script.specs.WorldText.{TextFault, checked_world}
use Rattle.rank_script.specs.declared.scripts.ScriptFault.{ScriptFault}
use Rattle.rank_script.specs.declared.scripts.ScriptFault.TheVariants.{At, NoMemory}
use Rattle.journal_view.specs.Answers.{fault_text, AnswersFault, AnswersView, AnswersStop, Answers, IsWritten}
use Rattle.journal_pictures.specs.Trace.{trace_text}
use Rattle.journal_view.specs.Viewing.{IsViewed, Tells}
use Rattle.journal_view.specs.declared.viewing.ViewResult.{ViewResult}
use Rattle.journal_view.specs.declared.viewing.ViewResult.TheVariants as results
use Rattle.journal_view.specs.declared.words.Picture.{Picture}

-- an input that is too long
long-text : (text : List ℕ) → input_limit < length text → checked_world text ≡ Err (record { number = 1; line = 0 })
long-text text long = rw (lt-ltb input_limit (length text) long) refl

-- there is a longer text than of any length
some-longer : (n : ℕ) → (text : List ℕ) × (n < length text)
some-longer n = (replicate (n + 1) 0, (let many = length-replicate {A = ℕ} (n + 1) 0 in omega arith))

-- what is known of an input with a fault: its bytes, where the source tells them
record KnowsFault (before after : Option (List ℕ)) (fault : TextFault) : Type 0 where
  input : List ℕ
  all : ForSome before (λ told. input ≡ told)
  end : length input ≤ input_limit → ForSome before (λ told. after ≡ Some [])
  past : input_limit < length input → after ≡ without before (input_limit + 1)
  is : checked_world input ≡ Err fault

long-fault : (before after : Option (List ℕ)) → ForSome before (λ told. input_limit < length told) → after ≡ without before (input_limit + 1) → KnowsFault before after (record { number = 1; line = 0 })
long-fault (Some told) after long past = record {
  input = told;
  all = λ x is. (let same : told ≡ x = cc in same);
  end = λ short. absurd (let over = long told refl in omega arith);
  past = λ over. past;
  is = long-text told (long told refl);
}
long-fault None after long past =
    let text = some-longer input_limit in
    record {
      input = text.0;
      all = λ x is. absurd (let no : ⊥ = cc in no);
      end = λ short x is. absurd (let no : ⊥ = cc in no);
      past = λ over. past;
      is = long-text text.0 text.1;
    }

module _ (asked : Picture) (before after held held' : Option (List ℕ)) (faults faults' sink_faults sink_faults' status : ℕ) (taken : TakesAtMost (input_limit + 1) before after) where
  abbrev IsAnswered : Type 0
  IsAnswered = Answers asked before after faults faults' held held' sink_faults sink_faults' status

  answered-fault : (fault : TextFault) → KnowsFault before after fault → faults' ≡ faults → AnswersFault held held' sink_faults sink_faults' status fault → IsAnswered
  answered-fault fault k read (inl (inl told)) = inr (inl (record {
    text = fault_text fault;
    still = (read, told.2);
    fault = record { input = k.input; fault = fault; all = k.all; end = k.end; past = k.past; is = k.is; text_is = refl };
    written = told.1;
    status_is = told.0;
  }))
  answered-fault fault k read (inl (inr failed)) = inr (inr (inr (inl (record {
    text = fault_text fault;
    of = inr (record { input = k.input; fault = fault; all = k.all; end = k.end; past = k.past; is = k.is; text_is = refl });
    front = failed.1;
    cause = failed.2;
    still = read;
    status_is = failed.0;
  }))))
  answered-fault fault k read (inr lacks) = inr (inr (inr (inr (record {
    taken = taken;
    kept = inl lacks.1;
    still = (read, lacks.2);
    status_is = lacks.0;
  }))))

  -- a text that is told of an input that was read
  answered-text : (input : List ℕ) (meant : ℕ) (text : List ℕ) → ForSome before (λ told. input ≡ told) → ForSome before (λ told. after ≡ Some []) → faults' ≡ faults
      → IsViewed asked input meant text → IsWritten held held' sink_faults sink_faults' status meant text → IsAnswered
  answered-text input meant text all end read tells (inl written) = inl (record {
    text = text;
    still = (read, written.2);
    told = record { input = input; all = all; end = end; tells = rw written.0 tells };
    written = written.1;
  })
  answered-text input meant text all end read tells (inr failed) = inr (inr (inr (inl (record {
    text = text;
    of = inl (meant, record { input = input; all = all; end = end; tells = tells });
    front = failed.1;
    cause = failed.2;
    still = read;
    status_is = failed.0;
  }))))

  -- what was told of an input that was read
  pub answered-told : (input : List ℕ) (r : Result ViewResult ScriptFault) → ForSome before (λ told. input ≡ told) → ForSome before (λ told. after ≡ Some []) → length input ≤ input_limit → faults' ≡ faults
      → IfOk r (λ told. Tells asked (IsViewed asked input) told)
      → ((number line : ℕ) → IsErrOf r (At number line) → checked_world input ≡ Err (record { number = number; line = line })) → AnswersView held held' sink_faults sink_faults' status r → IsAnswered
  answered-told input (Ok (results.Text told)) all end short read tells faulty says =
      answered-text input told.status told.text all end read tells says
  answered-told input (Ok (results.Trace world journal)) all end short read tells faulty (inl wrote) =
      answered-text input wrote.meant wrote.text all end read (tells.1 wrote.meant wrote.text wrote.is) wrote.written
  answered-told input (Ok (results.Trace world journal)) all end short read tells faulty (inr (inl silent)) = inr (inr (inr (inr (record {
    taken = taken;
    kept = inl silent.1;
    still = (read, silent.2);
    status_is = silent.0;
  }))))
  answered-told input (Ok (results.Trace world journal)) all end short read tells faulty (inr (inr cut)) =
      let front = cut.1 in
      inr (inr (inr (inr (record {
        taken = taken;
        kept = inr (record {
          text = trace_text world journal;
          trace = tells.0;
          of = record { input = input; all = all; end = end; tells = tells.1 0 (trace_text world journal) (inl (record { legal = front.legal; status_is = refl; text_is = refl })) };
          front = front.front;
        });
        still = (read, cut.2);
        status_is = cut.0;
      }))))
  answered-told input (Err (At number line)) all end short read tells faulty says =
      answered-fault (record { number = number; line = line }) (record { input = input; all = all; end = λ fits. end; past = λ long. absurd (omega arith); is = faulty number line refl }) read says
  answered-told input (Err NoMemory) all end short read tells faulty silent = inr (inr (inr (inr (record {
    taken = taken;
    kept = inl silent.1;
    still = (read, silent.2);
    status_is = silent.0;
  }))))

  -- an input that was not read to its end
  pub answered-stop : (stop : ReadStop) → (stop ≡ stops.Long → ForSome before (λ told. input_limit < length told)) → (stop ≡ stops.Long → after ≡ without before (input_limit + 1)) → (stop ≡ stops.Fault → HasCause faults faults')
      → (stop ≡ stops.Long → faults' ≡ faults) → (stop ≡ stops.NoMemory → faults' ≡ faults) → AnswersStop held held' sink_faults sink_faults' status stop → IsAnswered
  answered-stop stops.Fault long past cause still_long still_memory silent = inr (inr (inl (record {
    cause = cause refl;
    still = silent.2;
    taken = taken;
    kept = silent.1;
    status_is = silent.0;
  })))
  answered-stop stops.Long long past cause still_long still_memory says =
      answered-fault (record { number = 1; line = 0 }) (long-fault before after (long refl) (past refl)) (still_long refl) says
  answered-stop stops.NoMemory long past cause still_long still_memory silent = inr (inr (inr (inr (record {
    taken = taken;
    kept = inl silent.1;
    still = (still_memory refl, silent.2);
    status_is = silent.0;
  }))))

-- Where memory ran out before anything was asked, nothing was read and nothing told.

nothing-taken : (most : ℕ) (left : Option (List ℕ)) → TakesAtMost most left left
nothing-taken most None = record { count = 0; within = omega arith; rest = refl }
nothing-taken most (Some bytes) = record { count = 0; within = omega arith; rest = refl }

pub starved-answers : (asked : Picture) (left held : Option (List ℕ)) (faults sink_faults status : ℕ) → status ≡ 7 → Answers asked left left faults faults held held sink_faults sink_faults status
starved-answers asked left held faults sink_faults status is = inr (inr (inr (inr (record {
  taken = nothing-taken _ left;
  kept = inl refl;
  still = (refl, refl);
  status_is = is;
}))))
