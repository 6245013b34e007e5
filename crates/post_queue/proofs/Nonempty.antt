-- The lanes that have an entry.
use Rattle.std.proofs.Common.{◌≡◌, ◌≢◌, ℕ, zero, suc, ◌+◌, ◌<◌, ◌≤◌, nat_lt, true, false, not, ◌==◌, List, [], ◌∷◌, ◌++◌, length, map, replicate, Option, None, Some, refl, sym, ap, ◌∙◌, subst, arith, IfSome}
use Rattle.std.specs.List.{slice_get, slice_set, position, position_or_len}
use Rattle.std.specs.Option.{IfNone}
use Rattle.std.proofs.lemmas.Bool.{lt-ltb}
use Rattle.std.proofs.lemmas.List.{length-map}
use Rattle.std.proofs.lemmas.Nat.Bits.{bit_at-zero}
use Rattle.gaspi_types.specs.Masks.{is_member}
use Rattle.gaspi_types.specs.declared.entries.Entry.{Entry}
use Rattle.gaspi_types.specs.declared.entries.Phase.{Phase}
use Rattle.gaspi_types.proofs.Items.{same-or-not, slice_get-set_same, slice_get-set_other}
use Rattle.post_queue.specs.Nonempty.{is_nonempty, is_nonempty_at, IsNonempty}
use Rattle.post_queue.specs.LaneStates.{LaneValue}
use Rattle.post_queue.specs.Places.{with_phase}
use Rattle.post_queue.specs.QueueStates.{cleared_prefix, entries_of}

-- one lane changed
pub nonempty-set : (nonempty nonempty' : ℕ) (lanes : List LaneValue) (place target : ℕ) (x y : LaneValue) → place ≡ target → target < 32 → IsNonempty nonempty lanes → slice_get lanes place ≡ Some x → is_member nonempty' target ≡ is_nonempty y.entries
    → ((other : ℕ) → other < 32 → other ≢ target → is_member nonempty' other ≡ is_member nonempty other) → IsNonempty nonempty' (slice_set lanes place y)
nonempty-set nonempty nonempty' lanes place target x y same within was at here others t less =
    same-or-not t place
    (λ is. subst (λ (k : ℕ). is_member nonempty' k ≡ is_nonempty_at (slice_get (slice_set lanes place y) k)) (sym is)
    (rw (slice_get-set_same lanes place x y at) (subst (λ (k : ℕ). is_member nonempty' k ≡ is_nonempty y.entries) (sym same) here)))
    (λ apart. rw (slice_get-set_other lanes place t y (λ e. apart (sym e))) (others t less (λ e. apart (e ∙ sym same)) ∙ was t less))

-- a lane changed that stays nonempty, or stays empty
pub nonempty-kept : (nonempty : ℕ) (lanes : List LaneValue) (place target : ℕ) (x y : LaneValue) → place ≡ target → target < 32 → IsNonempty nonempty lanes → slice_get lanes place ≡ Some x → is_nonempty y.entries ≡ is_nonempty x.entries → IsNonempty nonempty (slice_set lanes place y)
nonempty-kept nonempty lanes place target x y same within was at stays =
    nonempty-set nonempty nonempty lanes place target x y same within was at
    (subst (λ (k : ℕ). is_member nonempty k ≡ is_nonempty y.entries) same (was place (omega arith) ∙ (ap is_nonempty_at at ∙ sym stays)))
    (λ other less apart. refl)

pub nonempty-phase : (lane : List Entry) (place : ℕ) (phase : Phase) → is_nonempty (with_phase lane place phase) ≡ is_nonempty lane
nonempty-phase [] place phase = refl
nonempty-phase (x ∷ lane) zero phase = refl
nonempty-phase (x ∷ lane) (suc place) phase = go (slice_get lane place) refl
  where
    go : (o : Option Entry) → slice_get lane place ≡ o → is_nonempty (with_phase (x ∷ lane) (suc place) phase) ≡ true
    go None at = rw at refl
    go (Some e) at = rw at refl

pub nonempty-post : (lane : List Entry) (e : Entry) → is_nonempty (lane ++ e ∷ []) ≡ true
nonempty-post [] e = refl
nonempty-post (x ∷ lane) e = refl

-- no lane is nonempty
pub nonempty-none : (lanes : List LaneValue) → ((target : ℕ) → is_nonempty_at (slice_get lanes target) ≡ false) → IsNonempty 0 lanes
nonempty-none lanes none target less = let zero' = bit_at-zero target in rw zero' (sym (none target))

pub none-fresh : (n depth target : ℕ) → is_nonempty_at (slice_get (replicate n (let x : LaneValue = record { depth = depth; entries = [] } in x)) target) ≡ false
none-fresh zero depth target = refl
none-fresh (suc n) depth zero = refl
none-fresh (suc n) depth (suc target) = none-fresh n depth target

pub none-cleared : (lanes : List LaneValue) (target : ℕ) → is_nonempty_at (slice_get (cleared_prefix (length lanes) lanes) target) ≡ false
none-cleared [] target = refl
none-cleared (x ∷ lanes) zero = refl
none-cleared (x ∷ lanes) (suc target) = none-cleared lanes target

-- what stands where a lane was set
pub at-set : (lanes : List LaneValue) (place : ℕ) (x y z : LaneValue) → slice_get lanes place ≡ Some x → slice_get (slice_set lanes place y) place ≡ Some z → z ≡ y
at-set lanes place x y z at there = let both : ◌≡◌ {A = Option LaneValue} (Some y) (Some z) = sym (slice_get-set_same lanes place x y at) ∙ there in let same : y ≡ z = cc in sym same

-- two rings, of which one has an item
pub nonempty-front : (a b : List Entry) → not (length a == 0) ≡ true → is_nonempty (a ++ b) ≡ true
nonempty-front [] b some = absurd (let no : ⊥ = cc in no)
nonempty-front (x ∷ a) b some = refl

-- The least of them.

position-of : (lanes : List LaneValue) (place : ℕ) → place ≤ length lanes → ((other : ℕ) → other < place → is_nonempty_at (slice_get lanes other) ≡ false)
    → (place < length lanes → is_nonempty_at (slice_get lanes place) ≡ true) → position_or_len is_nonempty (map entries_of lanes) ≡ place
position-of [] place less none some = omega arith
position-of (x ∷ lanes) zero less none some = let here : is_nonempty x.entries ≡ true = some (omega arith) in rw here refl
position-of (x ∷ lanes) (suc place) less none some =
    let here : is_nonempty x.entries ≡ false = none zero (omega arith) in
    let rest = position-of lanes place (omega arith) (λ other before. none (suc other) (omega arith)) (λ within. some (omega arith)) in
    rw here (ap (λ (n : ℕ). 1 + n) rest ∙ omega arith)

within : (lanes : List LaneValue) (place : ℕ) → is_nonempty_at (slice_get lanes place) ≡ true → place < length lanes
within [] place some = absurd (let no : ⊥ = cc in no)
within (x ∷ lanes) zero some = omega arith
within (x ∷ lanes) (suc place) some = let less = within lanes place some in omega arith

not-below : (n : ℕ) → nat_lt n n ≡ false
not-below n = grind arith

-- the least member of the set is the least target whose lane has an entry
pub least-nonempty : (lanes : List LaneValue) (nonempty : ℕ) (answer : Option ℕ) → length lanes ≤ 16 → IsNonempty nonempty lanes
    → IfSome answer (λ (target : ℕ). target < 16) → IfSome answer (λ (target : ℕ). is_member nonempty target ≡ true)
    → IfSome answer (λ (target : ℕ). (other : ℕ) → other < target → is_member nonempty other ≡ false)
    → IfNone answer ((target : ℕ) → is_member nonempty target ≡ false) → answer ≡ position is_nonempty (map entries_of lanes)
least-nonempty lanes nonempty None few is bound member least none =
    let last : position_or_len is_nonempty (map entries_of lanes) ≡ length lanes = position-of lanes (length lanes) (omega arith) (λ other less. sym (is other (omega arith)) ∙ none other) (λ less. absurd (let no : ⊥ = omega arith in no)) in
    rw (last, length-map, not-below (length lanes)) refl
least-nonempty lanes nonempty (Some target) few is bound member least none =
    let some : is_nonempty_at (slice_get lanes target) ≡ true = sym (is target (omega arith)) ∙ member in
    let less : target < length lanes = within lanes target some in
    let first : position_or_len is_nonempty (map entries_of lanes) ≡ target = position-of lanes target (omega arith) (λ other before. sym (is other (omega arith)) ∙ least other before) (λ there. some) in
    rw (first, length-map, lt-ltb target (length lanes) less) refl
