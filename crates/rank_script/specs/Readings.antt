-- What reading a line does to what was said before it. (own choice)
use Rattle.std.specs.Prelude.{◌≡◌, map, ℕ, List, [], Option, None, Some, Result, Ok, Err, if◌then◌else◌}
use Rattle.gaspi_types.specs.World.{ShapeValue}
use Rattle.gaspi_types.specs.declared.shapes.CallerId.{CallerId}
use Rattle.gaspi_types.specs.declared.shapes.ShapeFault.{ShapeFault}
use Rattle.gaspi_types.specs.declared.shapes.ShapeFault.TheVariants as shape_faults
use Rattle.rank_script.specs.WorldText.{WorldReading, Line, LineCall, lacks_world, is_unknown, is_misplaced, is_miscounted, is_malformed, is_malformed_call, is_outside, is_outside_call, is_repeated, is_crowded, fault_of, after_line, reading_after, script_line}
use Rattle.rank_script.specs.Lines.{is_bad_line}
use Rattle.rank_script.specs.declared.readings.Reading.{Reading}
use Rattle.rank_script.specs.declared.scripts.ScriptFault.{ScriptFault}
use Rattle.rank_script.specs.declared.scripts.ScriptLine.{ScriptLine}
use Rattle.rank_script.specs.declared.scripts.ScriptFault.TheVariants as faults

-- what the lines so far have said, as the definition of world texts has it
abbrev pub reading_of : Reading → WorldReading
reading_of reading = record { world = reading.shape; scripts = reading.scripts }

-- the smallest number of the faults of a line that show before its fields are read
abbrev pub early_fault : WorldReading → List ℕ → Line → Option ℕ
early_fault said bytes line =
    if lacks_world said line then Some 1
    else (if is_bad_line bytes then Some 2
    else (if is_unknown line then Some 3
    else (if is_misplaced said line then Some 4
    else (if is_miscounted line then Some 5 else None))))

-- the smallest number of the faults of a line that show in its fields
abbrev pub late_fault : WorldReading → Line → Option ℕ
late_fault said line =
    if is_malformed line then Some 6
    else (if is_outside said line then Some 7
    else (if is_repeated said line then Some 8
    else (if is_crowded said line then Some 9 else None)))

-- A line was read: it has no fault and was added, or its fault is named. `NoMemory` is no fault of it.
abbrev pub ReadsLine : Result (Unit {0}) ScriptFault → WorldReading → WorldReading → ℕ → List ℕ → Type 0
ReadsLine (Ok done) old new number line = (fault_of old line ≡ None) × (new ≡ after_line old number line)
ReadsLine (Err (faults.At fault at)) old new number line = (fault_of old line ≡ Some fault) × (at ≡ number)
ReadsLine (Err faults.NoMemory) old new number line = Unit {0}

-- the same of the fields of a line that has none of the early faults
abbrev pub ReadsLineFields : Result (Unit {0}) ScriptFault → WorldReading → WorldReading → ℕ → Line → Type 0
ReadsLineFields (Ok done) old new number line = (late_fault old line ≡ None) × (new ≡ reading_after old number line)
ReadsLineFields (Err (faults.At fault at)) old new number line = (late_fault old line ≡ Some fault) × (at ≡ number)
ReadsLineFields (Err faults.NoMemory) old new number line = Unit {0}

-- a fault of a call line that shows in its fields
abbrev pub call_fault : LineCall → Option ℕ
call_fault call = if is_malformed_call call then Some 6 else (if is_outside_call call then Some 7 else None)

-- the line of a script that a call line gives, or its fault
abbrev pub GivesLine : Result ScriptLine ScriptFault → ℕ → LineCall → Type 0
GivesLine (Ok line) number call = (call_fault call ≡ None) × (Some line ≡ script_line number call)
GivesLine (Err (faults.At fault at)) number call = (call_fault call ≡ Some fault) × (at ≡ number)
GivesLine (Err faults.NoMemory) number call = Unit {0}

-- the fault that a refused declaration is
abbrev pub fault_for : ShapeFault → ℕ → ScriptFault
fault_for shape_faults.Limit line = faults.At 7 line
fault_for shape_faults.Twice line = faults.At 8 line
fault_for shape_faults.Threads line = faults.At 9 line
fault_for shape_faults.NoMemory line = faults.NoMemory

-- the callers that were declared so far
abbrev pub callers_so_far : Option ShapeValue → List CallerId
callers_so_far None = []
callers_so_far (Some w) = w.callers

-- the sections so far are those of the callers so far
abbrev pub Accords : WorldReading → Type 0
Accords said = map (λ s. s.caller) said.scripts ≡ callers_so_far said.world
