-- Runs followed call by call, and what a transcript tells of them.
use Rattle.std.proofs.Common.{◌≡◌, ℕ, Bool, true, false, ◌==◌, List, [], ◌∷◌, ◌++◌, Option, None, Some, refl, sym, ap, ◌∙◌, append_assoc, append-nil, if◌then◌else◌, map}
use Rattle.std.specs.List.{find}
use Rattle.std.specs.Option.{option_map}
use Rattle.std.proofs.lemmas.Bool.{eqb-true}
use Rattle.gaspi_types.proofs.Found.{found_passes}
use Rattle.gaspi_types.proofs.Chains.{both}
use Rattle.gaspi_types.specs.CallRows.{is_end}
use Rattle.gaspi_types.specs.World.{is_caller}
use Rattle.gaspi_types.specs.declared.shapes.CallerId.{CallerId}
use Rattle.gaspi_types.specs.declared.calls.Call.{Call}
use Rattle.gaspi_types.specs.declared.replies.Reply.{Reply}
use Rattle.gaspi_types.specs.declared.events.Event.{Event}
use Rattle.gaspi_types.specs.declared.events.Event.TheVariants.{Called}
use Rattle.gaspi_model.specs.Step.{recorded_calls}
use Rattle.rank_script.specs.Runs.{RunPosition, AtLine, RunEnded, at_first_line, advanced}
use Rattle.rank_script.specs.WorldText.{is_script_of}
use Rattle.rank_script.specs.declared.scripts.Script.{Script}
use Rattle.rank_script.specs.declared.scripts.RunOutcome.{RunOutcome}
use Rattle.rank_script.specs.declared.scripts.RunOutcome.TheVariants as outcomes
use Rattle.call_journal.specs.Transcripts.{transcript, script_transcript, thread_transcript, call_line}
use Rattle.call_journal.specs.ScriptRuns.{followed, followed_all, called_line, called_lines, told_outcome, told_text, followed_run, followed_item, run_through, run_of, told_item, IsRunOf, IsToldOf, IsRunTable, IsToldTable}
use Rattle.call_journal.specs.declared.script_runs.FollowedRun.{FollowedRun}
use Rattle.call_journal.specs.declared.script_runs.ToldRun.{ToldRun}
use Rattle.call_journal.proofs.CallerTables.{changed_of, table-changed, table-is, table-mapped}
use Rattle.call_journal.proofs.OwnCalls.{calls-more, calls-other, calls-same}

-- One call more.

position-more : (p : RunPosition) (pairs : List (Call × Reply)) (pair : Call × Reply) → followed_all p (pairs ++ pair ∷ []) ≡ followed (followed_all p pairs) pair
position-more p [] pair = refl
position-more p (first ∷ pairs) pair = position-more (followed p first) pairs pair

lines-more : (p : RunPosition) (pairs : List (Call × Reply)) (pair : Call × Reply)
    → called_lines p (pairs ++ pair ∷ []) ≡ called_lines p pairs ++ called_line (followed_all p pairs) pair
lines-more p [] pair = append-nil (called_line p pair)
lines-more p (first ∷ pairs) pair =
    ap (λ (ns : List ℕ). called_line p first ++ ns) (lines-more (followed p first) pairs pair)
    ∙ sym (append_assoc (called_line p first) (called_lines (followed p first) pairs) (called_line (followed_all (followed p first) pairs) pair))

run-more : (script : Script) (pairs : List (Call × Reply)) (pair : Call × Reply) → run_through script (pairs ++ pair ∷ []) ≡ followed_run (run_through script pairs) pair
run-more script pairs pair =
    rw (lines-more (at_first_line script.lines) pairs pair, position-more (at_first_line script.lines) pairs pair) refl

-- Tables.

same-calls : (scripts : List Script) (before after : List Event) (rank thread : ℕ) → recorded_calls rank thread after ≡ recorded_calls rank thread before
    → run_of scripts before rank thread ≡ run_of scripts after rank thread
same-calls scripts before after rank thread same =
    ap (λ (pairs : List (Call × Reply)). option_map (λ script. run_through script pairs) (find (is_script_of (record { rank = rank; thread = thread })) scripts)) (sym same)

-- the table with the run of a caller followed through one more call of it
pub followed-table : (runs : List (List (Option FollowedRun))) (scripts : List Script) (history : List Event) (c : CallerId) (call : Call) (reply : Reply) → IsRunTable runs scripts history
    → IsRunTable (changed_of runs c (followed_item (call, reply))) scripts (history ++ Called c call reply ∷ [])
followed-table runs scripts history c call reply is =
    table-changed (IsRunOf scripts history) (IsRunOf scripts (history ++ Called c call reply ∷ [])) runs c (followed_item (call, reply))
    (λ run before. ap (followed_item (call, reply)) before ∙ own (find (is_script_of (record { rank = c.rank; thread = c.thread })) scripts))
    (λ rank thread run apart before. before ∙ same-calls scripts history (history ++ Called c call reply ∷ []) rank thread (calls-other history c call reply rank thread apart))
    is
  where
    own : (script : Option Script) → followed_item (call, reply) (option_map (λ script. run_through script (recorded_calls c.rank c.thread history)) script)
        ≡ option_map (λ script. run_through script (recorded_calls c.rank c.thread (history ++ Called c call reply ∷ []))) script
    own None = refl
    own (Some script) =
        ap (λ (run : FollowedRun). Some run) (sym (run-more script (recorded_calls c.rank c.thread history) (call, reply))
        ∙ ap (λ (pairs : List (Call × Reply)). run_through script pairs) (sym (calls-more history c call reply)))

-- an event that is no call changes none
pub unfollowed-table : (runs : List (List (Option FollowedRun))) (scripts : List Script) (history : List Event) (e : Event)
    → ((c : CallerId) (call : Call) (reply : Reply) → e ≡ Called c call reply → ⊥) → IsRunTable runs scripts history → IsRunTable runs scripts (history ++ e ∷ [])
unfollowed-table runs scripts history e none is =
    table-is (IsRunOf scripts history) (IsRunOf scripts (history ++ e ∷ [])) runs
    (λ rank thread run before. before ∙ same-calls scripts history (history ++ e ∷ []) rank thread (calls-same history e none rank thread))
    is

-- what is told of each run
pub told-table : (runs : List (List (Option FollowedRun))) (scripts : List Script) (history : List Event) → IsRunTable runs scripts history → IsToldTable (map (map told_item) runs) scripts history
told-table runs scripts history is = table-mapped (IsRunOf scripts history) (IsToldOf scripts history) told_item runs (λ rank thread run before. ap told_item before) is

-- Texts.

over-same : (outcome : RunOutcome) (pair : Call × Reply) → followed (RunEnded outcome) pair ≡ RunEnded outcome
over-same outcome pair = go (is_end pair.0)
  where
    go : (b : Bool) → (if b then RunEnded outcome else RunEnded outcome) ≡ RunEnded outcome
    go true = refl
    go false = refl

-- a run that has ended tells its outcome
over-told : (c : CallerId) (outcome : RunOutcome) (pairs all : List (Call × Reply))
    → told_text c (called_lines (RunEnded outcome) pairs) (told_outcome (followed_all (RunEnded outcome) pairs)) all ≡ told_text c [] outcome all
over-told c outcome [] all = refl
over-told c outcome (pair ∷ pairs) all = rw (over-same outcome pair) (over-told c outcome pairs all)

-- what is told of a run makes its transcript
run-told : (c : CallerId) (p : RunPosition) (pairs : List (Call × Reply)) → transcript c p pairs ≡ told_text c (called_lines p pairs) (told_outcome (followed_all p pairs)) pairs
run-told c (RunEnded outcome) pairs = sym (over-told c outcome pairs pairs)
run-told c (AtLine line made lines) [] = refl
run-told c (AtLine line made lines) (pair ∷ pairs) = go (is_end pair.0) refl (run-told c (advanced (AtLine line made lines) pair.1) pairs)
  where
    go : (b : Bool) → is_end pair.0 ≡ b
        → transcript c (advanced (AtLine line made lines) pair.1) pairs ≡ told_text c (called_lines (advanced (AtLine line made lines) pair.1) pairs) (told_outcome (followed_all (advanced (AtLine line made lines) pair.1) pairs)) pairs
        → transcript c (AtLine line made lines) (pair ∷ pairs)
        ≡ told_text c (called_lines (AtLine line made lines) (pair ∷ pairs)) (told_outcome (followed_all (AtLine line made lines) (pair ∷ pairs))) (pair ∷ pairs)
    go true ends rest = rw ends (sym (over-told c (outcomes.Limit line.number) pairs (pair ∷ pairs)))
    go false ends rest = rw ends (ap (λ (more : List ℕ). call_line c line.number pair.1 ++ more) rest)

-- the script that was found is that of the caller
own-caller : (c own : CallerId) → is_caller c.rank c.thread own ≡ true → own ≡ c
own-caller c own is =
    let parts = both (own.rank == c.rank) (own.thread == c.thread) is in
    let rank_is = eqb-true own.rank c.rank parts.0 in
    let thread_is = eqb-true own.thread c.thread parts.1 in
    rw (sym rank_is, sym thread_is) refl

-- the text of what is told of a caller's run, where it has a script
abbrev pub item_text : CallerId → Option ToldRun → List (Call × Reply) → List ℕ
item_text c None pairs = []
item_text c (Some run) pairs = told_text c run.lines run.outcome pairs

pub thread-told : (scripts : List Script) (history : List Event) (c : CallerId) (run : Option ToldRun) (pairs : List (Call × Reply))
    → run ≡ told_item (run_of scripts history c.rank c.thread) → pairs ≡ recorded_calls c.rank c.thread history → item_text c run pairs ≡ thread_transcript scripts history c.rank c.thread
thread-told scripts history c run pairs told recorded = rw (told, recorded) (go (find (is_script_of c) scripts) refl)
  where
    go : (script : Option Script) → find (is_script_of c) scripts ≡ script
        → item_text c (told_item (option_map (λ script. run_through script (recorded_calls c.rank c.thread history)) script)) (recorded_calls c.rank c.thread history) ≡ script_transcript history script
    go None at = refl
    go (Some script) at =
        let mine : script.caller ≡ c = own-caller c script.caller (found_passes (is_script_of c) scripts script at) in
        sym (ap (λ (own : CallerId). transcript own (at_first_line script.lines) (recorded_calls own.rank own.thread history)) mine
        ∙ run-told c (at_first_line script.lines) (recorded_calls c.rank c.thread history))
