-- Pairs that follow a script, and whole runs.
use Rattle.std.proofs.Common.{◌≡◌, ◌≢◌, ◌<◌, ◌⊎◌, ◌&&◌, not, nat_lt, ℕ, ◌+◌, Bool, true, false, cond, Some, sym, arith, List, [], ◌∷◌, ◌++◌, MatchBool, inl, inr, refl, subst}
use Rattle.std.proofs.lemmas.Bool.Decides.{nat_tests}
use Rattle.gaspi_types.specs.Replies.{same_reply}
use Rattle.gaspi_types.specs.declared.calls.Call.{Call}
use Rattle.gaspi_types.specs.declared.replies.Reply.{Reply}
use Rattle.rank_script.specs.declared.scripts.ScriptLine.{ScriptLine}
use Rattle.rank_script.specs.declared.scripts.RunOutcome.{RunOutcome}
use Rattle.rank_script.specs.declared.scripts.RunOutcome.TheVariants as outcomes
use Rattle.rank_script.specs.Runs.{RunPosition, AtLine, RunEnded, is_timeout, is_stuck, is_retried, is_failed, at_first_line, advanced, end_pair, Follows, IsStopped, IsRunFrom, IsRun}

abbrev Pairs : Type 0
Pairs = List (Call × Reply)

pub onward : (p : RunPosition) (pairs : Pairs) (line : ScriptLine) (made : ℕ) (lines : List ScriptLine) (reply : Reply)
    → Follows p pairs (AtLine line made lines) → Follows p (pairs ++ (line.call, reply) ∷ []) (advanced (AtLine line made lines) reply)
onward (RunEnded outcome) [] line made lines reply h = absurd (let no : ⊥ = cc in no)
onward (RunEnded outcome) (pair ∷ pairs) line made lines reply h = absurd h
onward (AtLine first tried rest) [] line made lines reply h =
    subst (λ (p : RunPosition). Follows p ((line.call, reply) ∷ []) (advanced (AtLine line made lines) reply)) h (refl, refl)
onward (AtLine first tried rest) (pair ∷ pairs) line made lines reply h =
    (h.0, onward (advanced (AtLine first tried rest) pair.1) pairs line made lines reply h.1)

-- a run that is over stays as it is
over-ends : (reached : RunOutcome) (pairs : Pairs) (outcome : RunOutcome) → Follows (RunEnded reached) pairs (RunEnded outcome)
    → (pairs ++ end_pair ≡ end_pair) × (outcome ≡ reached)
over-ends reached [] outcome h = (refl, cc)
over-ends reached (pair ∷ pairs) outcome h = absurd h

never-goes-on : (reached : RunOutcome) (pairs : Pairs) (line : ScriptLine) (made : ℕ) (rest : List ScriptLine) → Follows (RunEnded reached) pairs (AtLine line made rest) → ⊥
never-goes-on reached [] line made rest h = cc
never-goes-on reached (pair ∷ pairs) line made rest h = h

-- one pair of a run: from what follows it, the rest of the run
abbrev Rest : (stuck repeated failed : Bool) (line : ScriptLine) (made : ℕ) (lines : List ScriptLine) (pairs : Pairs) (outcome : RunOutcome) → Type 0
Rest stuck repeated failed line made lines pairs outcome =
    MatchBool stuck ((pairs ≡ end_pair) × (outcome ≡ outcomes.Stuck line.number))
    (MatchBool repeated (IsRunFrom (made + 1) (line ∷ lines) pairs outcome)
    (MatchBool failed ((pairs ≡ end_pair) × (outcome ≡ outcomes.Failed line.number)) (IsRunFrom 0 lines pairs outcome)))

abbrev reached : (stuck repeated failed : Bool) (line : ScriptLine) (made : ℕ) (lines : List ScriptLine) → RunPosition
reached stuck repeated failed line made lines =
    cond stuck (RunEnded (outcomes.Stuck line.number)) (cond repeated (AtLine line (made + 1) lines) (cond failed (RunEnded (outcomes.Failed line.number)) (at_first_line lines)))

step-ended : (stuck repeated failed : Bool) (line : ScriptLine) (made : ℕ) (lines : List ScriptLine) (pairs : Pairs) (outcome : RunOutcome)
    → Follows (reached stuck repeated failed line made lines) pairs (RunEnded outcome)
    → (Follows (AtLine line (made + 1) lines) pairs (RunEnded outcome) → IsRunFrom (made + 1) (line ∷ lines) (pairs ++ end_pair) outcome)
    → (Follows (at_first_line lines) pairs (RunEnded outcome) → IsRunFrom 0 lines (pairs ++ end_pair) outcome)
    → Rest stuck repeated failed line made lines (pairs ++ end_pair) outcome
step-ended true repeated failed line made lines pairs outcome h again later = over-ends (outcomes.Stuck line.number) pairs outcome h
step-ended false true failed line made lines pairs outcome h again later = again h
step-ended false false true line made lines pairs outcome h again later = over-ends (outcomes.Failed line.number) pairs outcome h
step-ended false false false line made lines pairs outcome h again later = later h

later-ended : (lines : List ScriptLine) (pairs : Pairs) (outcome : RunOutcome)
    → ((line : ScriptLine) (rest : List ScriptLine) → Follows (AtLine line 0 rest) pairs (RunEnded outcome) → IsRunFrom 0 (line ∷ rest) (pairs ++ end_pair) outcome)
    → Follows (at_first_line lines) pairs (RunEnded outcome) → IsRunFrom 0 lines (pairs ++ end_pair) outcome
later-ended [] pairs outcome go h = over-ends outcomes.Ended pairs outcome h
later-ended (line ∷ lines) pairs outcome go h = go line lines h

ended-from : (pairs : Pairs) (line : ScriptLine) (made : ℕ) (lines : List ScriptLine) (outcome : RunOutcome)
    → Follows (AtLine line made lines) pairs (RunEnded outcome) → IsRunFrom made (line ∷ lines) (pairs ++ end_pair) outcome
ended-from [] line made lines outcome h = absurd (let no : ⊥ = cc in no)
ended-from (pair ∷ pairs) line made lines outcome h =
    inr (
      h.0,
      step-ended (is_stuck line pair.1) (is_retried line made pair.1) (is_failed line pair.1) line made lines pairs outcome h.1
          (λ again. ended-from pairs line (made + 1) lines outcome again)
          (λ later. later-ended lines pairs outcome (λ next rest follows. ended-from pairs next 0 rest outcome follows) later),
    )

pub ended : (lines : List ScriptLine) (pairs : Pairs) (outcome : RunOutcome) → Follows (at_first_line lines) pairs (RunEnded outcome) → IsRun lines (pairs ++ end_pair) outcome
ended lines pairs outcome h = later-ended lines pairs outcome (λ line rest follows. ended-from pairs line 0 rest outcome follows) h

step-stopped : (stuck repeated failed : Bool) (first : ScriptLine) (tried : ℕ) (lines : List ScriptLine) (pairs : Pairs) (line : ScriptLine) (made : ℕ) (rest : List ScriptLine) (outcome : RunOutcome)
    → Follows (reached stuck repeated failed first tried lines) pairs (AtLine line made rest)
    → (Follows (AtLine first (tried + 1) lines) pairs (AtLine line made rest) → IsRunFrom (tried + 1) (first ∷ lines) (pairs ++ end_pair) outcome)
    → (Follows (at_first_line lines) pairs (AtLine line made rest) → IsRunFrom 0 lines (pairs ++ end_pair) outcome)
    → Rest stuck repeated failed first tried lines (pairs ++ end_pair) outcome
step-stopped true repeated failed first tried lines pairs line made rest outcome h again later = absurd (never-goes-on (outcomes.Stuck first.number) pairs line made rest h)
step-stopped false true failed first tried lines pairs line made rest outcome h again later = again h
step-stopped false false true first tried lines pairs line made rest outcome h again later = absurd (never-goes-on (outcomes.Failed first.number) pairs line made rest h)
step-stopped false false false first tried lines pairs line made rest outcome h again later = later h

later-stopped : (lines : List ScriptLine) (pairs : Pairs) (line : ScriptLine) (made : ℕ) (rest : List ScriptLine) (outcome : RunOutcome)
    → ((first : ScriptLine) (later : List ScriptLine) → Follows (AtLine first 0 later) pairs (AtLine line made rest) → IsRunFrom 0 (first ∷ later) (pairs ++ end_pair) outcome)
    → Follows (at_first_line lines) pairs (AtLine line made rest) → IsRunFrom 0 lines (pairs ++ end_pair) outcome
later-stopped [] pairs line made rest outcome go h = absurd (never-goes-on outcomes.Ended pairs line made rest h)
later-stopped (first ∷ lines) pairs line made rest outcome go h = go first lines h

stopped-from : (pairs : Pairs) (first : ScriptLine) (tried : ℕ) (lines : List ScriptLine) (line : ScriptLine) (made : ℕ) (rest : List ScriptLine) (outcome : RunOutcome)
    → Follows (AtLine first tried lines) pairs (AtLine line made rest) → IsStopped line.number outcome → IsRunFrom tried (first ∷ lines) (pairs ++ end_pair) outcome
stopped-from [] first tried lines line made rest outcome h stop =
    let same : line ≡ first = cc in
    inl (refl, subst (λ (l : ScriptLine). IsStopped l.number outcome) same stop)
stopped-from (pair ∷ pairs) first tried lines line made rest outcome h stop =
    inr (
      h.0,
      step-stopped (is_stuck first pair.1) (is_retried first tried pair.1) (is_failed first pair.1) first tried lines pairs line made rest outcome h.1
          (λ again. stopped-from pairs first (tried + 1) lines line made rest outcome again stop)
          (λ later. later-stopped lines pairs line made rest outcome (λ next others follows. stopped-from pairs next 0 others line made rest outcome follows stop) later),
    )

pub stopped : (lines : List ScriptLine) (pairs : Pairs) (line : ScriptLine) (made : ℕ) (rest : List ScriptLine) (outcome : RunOutcome)
    → Follows (at_first_line lines) pairs (AtLine line made rest) → IsStopped line.number outcome → IsRun lines (pairs ++ end_pair) outcome
stopped lines pairs line made rest outcome h stop =
    later-stopped lines pairs line made rest outcome (λ first later follows. stopped-from pairs first 0 later line made rest outcome follows stop) h

-- what was made of the present line leaves it a try
abbrev Within : RunPosition → Type 0
Within (AtLine line made lines) = (made ≡ 0) ⊎ (made < line.tries)
Within (RunEnded outcome) = Unit {0}

fresh : (lines : List ScriptLine) → Within (at_first_line lines)
fresh [] = tt
fresh (line ∷ lines) = inl refl

step-within : (stuck repeated failed : Bool) (line : ScriptLine) (made : ℕ) (lines : List ScriptLine) → (repeated ≡ true → made + 1 < line.tries)
    → Within (reached stuck repeated failed line made lines)
step-within true repeated failed line made lines room = tt
step-within false true failed line made lines room = inr (room refl)
step-within false false true line made lines room = tt
step-within false false false line made lines room = fresh lines

room-left : (timeout : Bool) (made tries : ℕ) → (timeout && nat_lt (made + 1) tries) ≡ true → made + 1 < tries
room-left true made tries h = grind (arith, nat_tests)
room-left false made tries h = absurd (let no : ⊥ = cc in no)

stays-within : (pairs : Pairs) (p q : RunPosition) → Within p → Follows p pairs q → Within q
stays-within [] p q within h = subst Within (sym h) within
stays-within (pair ∷ pairs) (RunEnded outcome) q within h = absurd h
stays-within (pair ∷ pairs) (AtLine line made lines) q within h =
    stays-within pairs (advanced (AtLine line made lines) pair.1) q
    (step-within (is_stuck line pair.1) (is_retried line made pair.1) (is_failed line pair.1) line made lines (λ repeated. room-left (is_timeout pair.1) made line.tries repeated)) h.1

pub bounded : (lines : List ScriptLine) (pairs : Pairs) (line : ScriptLine) (made : ℕ) (rest : List ScriptLine)
    → Follows (at_first_line lines) pairs (AtLine line made rest) → (made ≡ 0) ⊎ (made < line.tries)
bounded lines pairs line made rest h = stays-within pairs (at_first_line lines) (AtLine line made rest) (fresh lines) h

-- a run that goes on behind a line has not failed there
not-ended : (outcome : RunOutcome) (lines : List ScriptLine) → outcome ≢ outcomes.Ended → RunEnded outcome ≢ at_first_line lines
not-ended outcome [] other h = other (let same : outcome ≡ outcomes.Ended = cc in same)
not-ended outcome (line ∷ lines) other h = let no : ⊥ = cc in no

not-again : (line : ScriptLine) (made : ℕ) (lines : List ScriptLine) → AtLine line (made + 1) lines ≢ at_first_line lines
not-again line made [] h = let no : ⊥ = cc in no
not-again line made (next ∷ lines) h = let same : made + 1 ≡ 0 = cc in omega (arith, same)

step-met : (stuck repeated failed : Bool) (line : ScriptLine) (made : ℕ) (lines : List ScriptLine) → reached stuck repeated failed line made lines ≡ at_first_line lines → failed ≡ false
step-met true repeated failed line made lines h = absurd (not-ended (outcomes.Stuck line.number) lines (λ e. let no : ⊥ = cc in no) h)
step-met false true failed line made lines h = absurd (not-again line made lines h)
step-met false false true line made lines h = absurd (not-ended (outcomes.Failed line.number) lines (λ e. let no : ⊥ = cc in no) h)
step-met false false false line made lines h = refl

not-not : (b : Bool) → not b ≡ false → b ≡ true
not-not true h = refl
not-not false h = sym h

pub met : (line : ScriptLine) (made : ℕ) (lines : List ScriptLine) (reply expected : Reply)
    → line.expected ≡ Some expected → advanced (AtLine line made lines) reply ≡ at_first_line lines → same_reply reply expected ≡ true
met line made lines reply expected is h =
    let kept : is_failed line reply ≡ false = step-met (is_stuck line reply) (is_retried line made reply) (is_failed line reply) line made lines h in
    not-not (same_reply reply expected) (rw is at kept)
