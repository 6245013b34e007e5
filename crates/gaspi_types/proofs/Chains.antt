-- What a chain of steps that succeeded says of each.
use Rattle.std.proofs.Common.{◌≡◌, Bool, true, false, Option, None, Some, Result, Ok, Err, ◌&&◌, refl}
use Rattle.gaspi_types.specs.Checks.{◌>>=◌, check, ok_or, err_if_some}

pub bind_then : {A B E P : Type 0} (r : Result A E) (f : A → Result B E) (y : B) → (r >>= f) ≡ Ok y → ((x : A) → r ≡ Ok x → f x ≡ Ok y → P) → P
bind_then (Ok x) f y h go = go x refl h
bind_then (Err e) f y h go = absurd (let no : ⊥ = cc in no)

pub check_then : {B E P : Type 0} (b : Bool) (e : E) (f : Unit {0} → Result B E) (y : B) → (check b e >>= f) ≡ Ok y → (b ≡ true → f tt ≡ Ok y → P) → P
check_then true e f y h go = go refl h
check_then false e f y h go = absurd (let no : ⊥ = cc in no)

pub found_then : {A B E P : Type 0} (o : Option A) (e : E) (f : A → Result B E) (y : B) → (ok_or o e >>= f) ≡ Ok y → ((x : A) → o ≡ Some x → f x ≡ Ok y → P) → P
found_then (Some x) e f y h go = go x refl h
found_then None e f y h go = absurd (let no : ⊥ = cc in no)

pub absent_then : {A B E P : Type 0} (o : Option A) (e : A → E) (f : Unit {0} → Result B E) (y : B) → (err_if_some o e >>= f) ≡ Ok y → (o ≡ None → f tt ≡ Ok y → P) → P
absent_then None e f y h go = go refl h
absent_then (Some x) e f y h go = absurd (let no : ⊥ = cc in no)

pub same_Ok : {A E : Type 0} (x y : A) → ◌≡◌ {A = Result A E} (Ok x) (Ok y) → x ≡ y
same_Ok x y h = cc

-- both tests hold
pub both : (a b : Bool) → (a && b) ≡ true → (a ≡ true) × (b ≡ true)
both true b h = (refl, h)
both false b h = absurd (let no : ⊥ = cc in no)

-- the same of each step by itself
pub found_there : {A E : Type 0} → (o : Option A) (e : E) (x : A) → ok_or o e ≡ Ok x → o ≡ Some x
found_there (Some y) e x is = cc
found_there None e x is = cc

pub check_holds : {E : Type 0} → (b : Bool) (e : E) (u : Unit {0}) → check b e ≡ Ok u → b ≡ true
check_holds true e u is = refl
check_holds false e u is = cc

pub absent_none : {A E : Type 0} → (o : Option A) (e : A → E) (u : Unit {0}) → err_if_some o e ≡ Ok u → o ≡ None
absent_none None e u is = refl
absent_none (Some x) e u is = cc
