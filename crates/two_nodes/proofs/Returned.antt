-- What is known of references that were lent and are taken apart again.
use Rattle.std.proofs.Common.{◌≡◌, Option, None, Some, refl, subst}
use Rattle.std.specs.Borrow.{MutBor}
use Rattle.rank_node.specs.Lending.{AreSame, behind}

pub missing-behind : {A : Type 0} (o : Option (MutBor A)) → AreSame o None → behind o ≡ None
missing-behind None same = refl
missing-behind (Some r) same = absurd same

-- what holds of a value holds of one that is the same
pub moved : {A : Type 0} (P : A → Type 0) (x : A) {y : A} → x ≡ y → P x → P y
moved P x same holds = subst P same holds

pub both-moved : {A B : Type 0} (P : A → B → Type 0) (x : A) (y : B) {x' : A} {y' : B} → x ≡ x' → y ≡ y' → P x y → P x' y'
both-moved {A} P x y {x'} first second holds = moved (P x') y second (moved (λ (z : A). P z y) x first holds)
