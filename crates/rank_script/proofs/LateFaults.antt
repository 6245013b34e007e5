-- What the arguments of a line tell of its faults, and what it adds.
use Rattle.std.proofs.Common.{◌≡◌, ℕ, zero, suc, ◌-◌, length-append, Bool, true, false, cond, List, [], ◌∷◌, ◌++◌, length, map, Option, Some, None, Result, Ok, Err, refl, sym, ap, ◌∙◌, arith}
use Rattle.std.specs.List.{slice_get}
use Rattle.gaspi_types.specs.World.{ShapeValue, are_limits, shape_of, segment_added, caller_added, Declares}
use Rattle.gaspi_types.specs.declared.shapes.CallerId.{CallerId}
use Rattle.gaspi_types.specs.declared.shapes.Limits.{Limits}
use Rattle.gaspi_types.specs.declared.shapes.ShapeFault.{ShapeFault}
use Rattle.gaspi_types.specs.declared.shapes.ShapeFault.TheVariants as shape_faults
use Rattle.rank_script.specs.WorldText.{WorldReading, Line, LineCall, SegmentLine, SectionLine, CallLine, number_at, section_caller, declared, segment_declared, caller_declared, is_malformed, is_outside, is_repeated, is_crowded, is_limit_fault, is_twice_fault, is_threads_fault, script_line, scripts_after, with_line}
use Rattle.rank_script.specs.Readings.{fault_for, ReadsLineFields, GivesLine, Accords}
use Rattle.rank_script.specs.declared.scripts.Script.{Script}
use Rattle.rank_script.specs.declared.scripts.ScriptLine.{ScriptLine}
use Rattle.rank_script.specs.declared.scripts.ScriptFault.{ScriptFault}
use Rattle.rank_script.specs.declared.scripts.ScriptFault.TheVariants as faults

pub some-where : {A : Type 0} (b : Bool) (x y : A) → Some x ≡ cond b (Some y) None → (b ≡ true) × (x ≡ y)
some-where true x y h = (refl, cc)
some-where false x y h = absurd (let no : ⊥ = cc in no)

-- Declarations.

-- a declaration was refused with that fault, or there was no memory for it
abbrev pub IsRefused : ShapeFault → Result ShapeValue ShapeFault → Type 0
IsRefused shape_faults.Limit made = made ≡ Err shape_faults.Limit
IsRefused shape_faults.Twice made = made ≡ Err shape_faults.Twice
IsRefused shape_faults.Threads made = made ≡ Err shape_faults.Threads
IsRefused shape_faults.NoMemory made = Unit {0}

-- a line of words of their form that declares something, with what its declaration gives
pub record Declaring (said : WorldReading) (line : Line) (made : Result ShapeValue ShapeFault) : Type 0 where
  pub formed : is_malformed line ≡ false
  pub outside : is_outside said line ≡ is_limit_fault (declared said.world line)
  pub made_is : declared said.world line ≡ Some made

pub refused : (said new : WorldReading) (number : ℕ) (line : Line) (made : Result ShapeValue ShapeFault) (fault : ShapeFault) → Declaring said line made
    → IsRefused fault made → ReadsLineFields (Err (fault_for fault number)) said new number line
refused said new number line made shape_faults.Limit d h =
    let outside : is_outside said line ≡ true = d.outside ∙ ap is_limit_fault (d.made_is ∙ ap Some h) in
    (rw (d.formed, outside) refl, refl)
refused said new number line made shape_faults.Twice d h =
    let outside : is_outside said line ≡ false = d.outside ∙ ap is_limit_fault (d.made_is ∙ ap Some h) in
    let repeated : is_repeated said line ≡ true = ap is_twice_fault (d.made_is ∙ ap Some h) in
    (rw (d.formed, outside, repeated) refl, refl)
refused said new number line made shape_faults.Threads d h =
    let outside : is_outside said line ≡ false = d.outside ∙ ap is_limit_fault (d.made_is ∙ ap Some h) in
    let repeated : is_repeated said line ≡ false = ap is_twice_fault (d.made_is ∙ ap Some h) in
    let crowded : is_crowded said line ≡ true = ap is_threads_fault (d.made_is ∙ ap Some h) in
    (rw (d.formed, outside, repeated, crowded) refl, refl)
refused said new number line made shape_faults.NoMemory d h = tt

pub accepted : (said : WorldReading) (number : ℕ) (line : Line) (after : ShapeValue) (scripts : List Script) → Declaring said line (Ok after)
    → scripts ≡ scripts_after said.scripts number line → ReadsLineFields (Ok tt) said (record { world = Some after; scripts = scripts }) number line
accepted said number line after scripts d added =
    let outside : is_outside said line ≡ false = d.outside ∙ ap is_limit_fault d.made_is in
    let repeated : is_repeated said line ≡ false = ap is_twice_fault d.made_is in
    let crowded : is_crowded said line ≡ false = ap is_threads_fault d.made_is in
    (rw (d.formed, outside, repeated, crowded) refl, rw (d.made_is, added) refl)

-- The world line.

pub world-refused : (limits : Limits) (fault : ShapeFault) → Err fault ≡ shape_of limits → IsRefused fault (shape_of limits)
world-refused limits shape_faults.Limit h = sym h
world-refused limits shape_faults.Twice h = sym h
world-refused limits shape_faults.Threads h = sym h
world-refused limits shape_faults.NoMemory h = tt

made-world : {E : Type 0} (b : Bool) (made w : ShapeValue) (e : E) → Ok made ≡ cond b (Ok w) (Err e) → made ≡ w
made-world true made w e h = cc
made-world false made w e h = absurd (let no : ⊥ = cc in no)

pub world-accords : (said : WorldReading) (limits : Limits) (w : ShapeValue) → said.world ≡ None → Ok w ≡ shape_of limits → Accords said → Accords (record { world = Some w; scripts = said.scripts })
world-accords said limits w first made accords =
    rw first at accords ∙ sym (ap (λ (v : ShapeValue). v.callers) (made-world (are_limits limits) w _ _ made))

-- Segment lines and section lines.

pub declares-refused : (fault : ShapeFault) (w after : ShapeValue) (made : Result ShapeValue ShapeFault) → Declares (Err fault) w after made → IsRefused fault made
declares-refused shape_faults.Limit w after made h = h.0
declares-refused shape_faults.Twice w after made h = h.0
declares-refused shape_faults.Threads w after made h = h.0
declares-refused shape_faults.NoMemory w after made h = tt

pub segment-declared : (world : Option ShapeValue) (words : List (List ℕ)) (w : ShapeValue) → world ≡ Some w → declared world (SegmentLine words) ≡ Some (segment_declared w words)
segment-declared world words w is = rw is refl

pub segment-numbers : (words : List (List ℕ)) (w : ShapeValue) (rank segment size : ℕ) → ◌≡◌ {A = ℕ × ℕ × ℕ} (rank, segment, size) (number_at words 0, number_at words 1, number_at words 2)
    → segment_added w rank segment size ≡ segment_declared w words
segment-numbers words w rank segment size h =
    let first : rank ≡ number_at words 0 = ap (λ (t : ℕ × ℕ × ℕ). t.0) h in
    let second : segment ≡ number_at words 1 = ap (λ (t : ℕ × ℕ × ℕ). t.1) h in
    let third : size ≡ number_at words 2 = ap (λ (t : ℕ × ℕ × ℕ). t.2) h in
    rw (first, second, third) refl

pub section-declared : (world : Option ShapeValue) (words : List (List ℕ)) (w : ShapeValue) → world ≡ Some w → declared world (SectionLine words) ≡ Some (caller_declared w words)
section-declared world words w is = rw is refl

pub section-numbers : (words : List (List ℕ)) (w : ShapeValue) (rank thread : ℕ) → ◌≡◌ {A = ℕ × ℕ} (rank, thread) (number_at words 0, number_at words 2)
    → caller_added w rank thread ≡ caller_declared w words
section-numbers words w rank thread h =
    let first : rank ≡ number_at words 0 = ap (λ (t : ℕ × ℕ). t.0) h in
    let second : thread ≡ number_at words 2 = ap (λ (t : ℕ × ℕ). t.1) h in
    rw (first, second) refl

added-caller : (a b c : Bool) (after w : ShapeValue) → cond a (cond b (Err shape_faults.Twice) (cond c (Ok w) (Err shape_faults.Threads))) (Err shape_faults.Limit) ≡ Ok after → after ≡ w
added-caller true true c after w h = absurd (let no : ⊥ = cc in no)
added-caller true false true after w h = cc
added-caller true false false after w h = absurd (let no : ⊥ = cc in no)
added-caller false b c after w h = absurd (let no : ⊥ = cc in no)

pub section-callers : (words : List (List ℕ)) (w after : ShapeValue) → caller_declared w words ≡ Ok after → after.callers ≡ w.callers ++ section_caller words ∷ []
section-callers words w after h = ap (λ (v : ShapeValue). v.callers) (added-caller _ _ _ after _ h)

-- Call lines.

pub line-refused : (fault : ScriptFault) (said new : WorldReading) (number : ℕ) (call : LineCall) → GivesLine (Err fault) number call → ReadsLineFields (Err fault) said new number (CallLine call)
line-refused (faults.At fault at) said new number call h = h
line-refused faults.NoMemory said new number call h = tt

pub line-accepted : (line : ScriptLine) (scripts : List Script) (said : WorldReading) (number : ℕ) (call : LineCall) → GivesLine (Ok line) number call
    → scripts ≡ with_line said.scripts (Some line) → ReadsLineFields (Ok tt) said (record { world = said.world; scripts = scripts }) number (CallLine call)
line-accepted line scripts said number call h added =
    let made : scripts ≡ with_line said.scripts (script_line number call) = added ∙ ap (λ (l : Option ScriptLine). with_line said.scripts l) h.1 in
    (h.0, ap (λ (ss : List Script). record { world = said.world; scripts = ss }) made)

with_line-callers : (scripts : List Script) (line : Option ScriptLine) → map (λ (s : Script). s.caller) (with_line scripts line) ≡ map (λ (s : Script). s.caller) scripts
with_line-callers [] line = refl
with_line-callers (script ∷ []) None = refl
with_line-callers (script ∷ []) (Some line) = refl
with_line-callers (script ∷ next ∷ scripts) line = ap (λ (cs : List CallerId). script.caller ∷ cs) (with_line-callers (next ∷ scripts) line)

pub call-accords : (said : WorldReading) (scripts : List Script) (line : Option ScriptLine) → scripts ≡ with_line said.scripts line → Accords said → Accords (record { world = said.world; scripts = scripts })
call-accords said scripts line added accords = ap (map (λ (s : Script). s.caller)) added ∙ with_line-callers said.scripts line ∙ accords

-- the caller declared last
pub last-pushed : (callers : List CallerId) (before : List CallerId) (caller last : CallerId) → callers ≡ before ++ caller ∷ [] → Some last ≡ slice_get callers (length callers - 1) → last ≡ caller
last-pushed callers before caller last pushed is =
    let at : slice_get callers (length callers - 1) ≡ Some caller = rw pushed (at-end before caller (length (before ++ caller ∷ []) - 1) (omega (arith, length-append before (caller ∷ [])))) in
    let same : Some last ≡ Some caller = is ∙ at in
    cc
  where
    at-end : (before : List CallerId) (caller : CallerId) (i : ℕ) → i ≡ length before → slice_get (before ++ caller ∷ []) i ≡ Some caller
    at-end [] caller i h = rw h refl
    at-end (first ∷ before) caller zero h = absurd (omega arith)
    at-end (first ∷ before) caller (suc i) h = at-end before caller i (omega arith)
