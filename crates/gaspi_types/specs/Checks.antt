-- Checks one after another: the first failure is the answer.
use Rattle.std.specs.Prelude.{Bool, List, [], ◌∷◌, Option, None, Some, Result, Ok, Err, if◌then◌else◌}

-- the second step, where the first is Ok
infixl 10 ◌>>=◌
abbrev pub ◌>>=◌ : {A B E : Type 0} → Result A E → (A → Result B E) → Result B E
(Ok x) >>= f = f x
(Err e) >>= f = Err e

-- Ok where the test holds, else that failure
abbrev pub check : {E : Type 0} → Bool → E → Result (Unit {0}) E
check test e = if test then Ok tt else Err e

-- Ok with the value, where there is one, else that failure
abbrev pub ok_or : {A E : Type 0} → Option A → E → Result A E
ok_or (Some x) e = Ok x
ok_or None e = Err e

-- Ok where there is no value, else the failure that is made of it
abbrev pub err_if_some : {A E : Type 0} → Option A → (A → E) → Result (Unit {0}) E
err_if_some None e = Ok tt
err_if_some (Some x) e = Err (e x)

-- one check of each item, in order
abbrev pub check_each : {A E : Type 0} → (A → Result (Unit {0}) E) → List A → Result (Unit {0}) E
check_each checks [] = Ok tt
check_each checks (item ∷ items) = checks item >>= (λ passed. check_each checks items)
