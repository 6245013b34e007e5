-- The faults of a line that show before its arguments are read.
use Rattle.std.proofs.Common.{◌≡◌, ℕ, Bool, true, false, cond, List, Option, Some, None, refl}
use Rattle.rank_script.specs.Lines.{is_bad_line}
use Rattle.rank_script.specs.WorldText.{WorldReading, Line, lacks_world, is_unknown, is_misplaced, is_miscounted, fault_in}
use Rattle.rank_script.specs.Readings.{early_fault, late_fault}

-- the early faults come first
abbrev first-of : (a b c d e : Bool) → Option ℕ → Option ℕ
first-of a b c d e rest = cond a (Some 1) (cond b (Some 2) (cond c (Some 3) (cond d (Some 4) (cond e (Some 5) rest))))

late : (a b c d e : Bool) (rest : Option ℕ) → first-of a b c d e None ≡ None
    → first-of a b c d e rest ≡ rest
late true b c d e rest h = absurd (let no : ⊥ = cc in no)
late false true c d e rest h = absurd (let no : ⊥ = cc in no)
late false false true d e rest h = absurd (let no : ⊥ = cc in no)
late false false false true e rest h = absurd (let no : ⊥ = cc in no)
late false false false false true rest h = absurd (let no : ⊥ = cc in no)
late false false false false false rest h = refl

early : (a b c d e : Bool) (rest : Option ℕ) (fault : ℕ) → Some fault ≡ first-of a b c d e None
    → first-of a b c d e rest ≡ Some fault
early true b c d e rest fault h = cc
early false true c d e rest fault h = cc
early false false true d e rest fault h = cc
early false false false true e rest fault h = cc
early false false false false true rest fault h = cc
early false false false false false rest fault h = absurd (let no : ⊥ = cc in no)

pub fault_in-late : (said : WorldReading) (bytes : List ℕ) (line : Line) → early_fault said bytes line ≡ None → fault_in said bytes line ≡ late_fault said line
fault_in-late said bytes line h =
    late (lacks_world said line) (is_bad_line bytes) (is_unknown line) (is_misplaced said line) (is_miscounted line) (late_fault said line) h

pub fault_in-early : (said : WorldReading) (bytes : List ℕ) (line : Line) (fault : ℕ) → Some fault ≡ early_fault said bytes line → fault_in said bytes line ≡ Some fault
fault_in-early said bytes line fault h =
    early (lacks_world said line) (is_bad_line bytes) (is_unknown line) (is_misplaced said line) (is_miscounted line) (late_fault said line) fault h

-- a line without early faults
none-of : (a b c d e : Bool) → None ≡ first-of a b c d e None → (a ≡ false) × (c ≡ false) × (d ≡ false) × (e ≡ false)
none-of true b c d e h = absurd (let no : ⊥ = cc in no)
none-of false true c d e h = absurd (let no : ⊥ = cc in no)
none-of false false true d e h = absurd (let no : ⊥ = cc in no)
none-of false false false true e h = absurd (let no : ⊥ = cc in no)
none-of false false false false true h = absurd (let no : ⊥ = cc in no)
none-of false false false false false h = (refl, refl, refl, refl)

pub record IsPlaced (said : WorldReading) (line : Line) : Type 0 where
  pub world : lacks_world said line ≡ false
  pub known : is_unknown line ≡ false
  pub placed : is_misplaced said line ≡ false
  pub count : is_miscounted line ≡ false

pub placed : (said : WorldReading) (bytes : List ℕ) (line : Line) → None ≡ early_fault said bytes line → IsPlaced said line
placed said bytes line h =
    let parts = none-of (lacks_world said line) (is_bad_line bytes) (is_unknown line) (is_misplaced said line) (is_miscounted line) h in
    record { world = parts.0; known = parts.1; placed = parts.2; count = parts.3 }
