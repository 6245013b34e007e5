-- Lanes whose numbers rise.
use Rattle.std.proofs.Common.{◌≡◌, ℕ, zero, suc, ◌+◌, ◌<◌, ◌≤◌, false, List, [], ◌∷◌, ◌++◌, length, Some, refl, ap, subst, arith, ◌==◌, remove, not, eqb}
use Rattle.std.specs.List.{slice_get, prefix_len}
use Rattle.std.proofs.lemmas.Bool.{eq-eqb, ne_eqb, lt-ltb}
use Rattle.std.proofs.lemmas.Option.{slice_get_within}
use Rattle.gaspi_types.specs.Lanes.{posted_entries, position_of}
use Rattle.gaspi_types.specs.declared.entries.Entry.{Entry}
use Rattle.gaspi_types.specs.declared.entries.Kind.{Kind}
use Rattle.gaspi_types.specs.declared.entries.Phase.{Phase}
use Rattle.gaspi_model.specs.Sound.{AreAbove, AreRising}
use Rattle.gaspi_model.proofs.FoundEntries.{with_phase}

-- the first number is above no later one: what is above it is above what is below it
AreAbove-less : (m n : ℕ) (lane : List Entry) → m ≤ n → AreAbove n lane → AreAbove m lane
AreAbove-less m n [] less above = tt
AreAbove-less m n (e ∷ lane) less above = ((let here = above.0 in omega arith), AreAbove-less m n lane less above.1)

AreAbove-append : (n : ℕ) (a b : List Entry) → AreAbove n a → AreAbove n b → AreAbove n (a ++ b)
AreAbove-append n [] b above more = more
AreAbove-append n (e ∷ a) b above more = (above.0, AreAbove-append n a b above.1 more)

AreAbove-posted : (n number : ℕ) (kinds : List Kind) → n < number → AreAbove n (posted_entries number kinds)
AreAbove-posted n number [] less = tt
AreAbove-posted n number (kind ∷ kinds) less = (less, AreAbove-posted n (number + 1) kinds (omega arith))

AreAbove-phase : (n : ℕ) (lane : List Entry) (place : ℕ) (e : Entry) (phase : Phase) → slice_get lane place ≡ Some e → AreAbove n lane → AreAbove n (with_phase lane place e phase)
AreAbove-phase n [] place e phase at above = absurd (let no : ⊥ = cc in no)
AreAbove-phase n (x ∷ lane) zero e phase at above = (let same : x ≡ e = cc in subst (λ (y : Entry). n < y.number) same above.0, above.1)
AreAbove-phase n (x ∷ lane) (suc place) e phase at above = (above.0, AreAbove-phase n lane place e phase at above.1)

AreAbove-remove : (n : ℕ) (lane : List Entry) (place : ℕ) → AreAbove n lane → AreAbove n (remove lane place)
AreAbove-remove n [] zero above = tt
AreAbove-remove n [] (suc place) above = tt
AreAbove-remove n (x ∷ lane) zero above = above.1
AreAbove-remove n (x ∷ lane) (suc place) above = (above.0, AreAbove-remove n lane place above.1)

pub AreRising-more : (m n : ℕ) (lane : List Entry) → m ≤ n → AreRising m lane → AreRising n lane
AreRising-more m n [] less rising = tt
AreRising-more m n (e ∷ lane) less rising = ((let here = rising.0 in omega arith), rising.1, AreRising-more m n lane less rising.2)

pub AreRising-phase : (next : ℕ) (lane : List Entry) (place : ℕ) (e : Entry) (phase : Phase) → slice_get lane place ≡ Some e → AreRising next lane → AreRising next (with_phase lane place e phase)
AreRising-phase next [] place e phase at rising = absurd (let no : ⊥ = cc in no)
AreRising-phase next (x ∷ lane) zero e phase at rising =
    let same : x ≡ e = cc in
    (subst (λ (y : Entry). y.number < next) same rising.0, subst (λ (y : Entry). AreAbove y.number lane) same rising.1, rising.2)
AreRising-phase next (x ∷ lane) (suc place) e phase at rising =
    (rising.0, AreAbove-phase x.number lane place e phase at rising.1, AreRising-phase next lane place e phase at rising.2)

-- the entries of a post rise from their first number on
posted-rising : (number next : ℕ) (kinds : List Kind) → number + length kinds ≤ next → AreRising next (posted_entries number kinds)
posted-rising number next [] fits = tt
posted-rising number next (kind ∷ kinds) fits = (omega arith, AreAbove-posted number (number + 1) kinds (omega arith), posted-rising (number + 1) next kinds (omega arith))

pub AreRising-post : (number next : ℕ) (lane : List Entry) (kinds : List Kind) → number + length kinds ≤ next → AreRising number lane → AreRising next (lane ++ posted_entries number kinds)
AreRising-post number next [] kinds fits rising = posted-rising number next kinds fits
AreRising-post number next (e ∷ lane) kinds fits rising =
    let here = rising.0 in
    (omega arith, AreAbove-append e.number lane (posted_entries number kinds) rising.1 (AreAbove-posted e.number number kinds here), AreRising-post number next lane kinds fits rising.2)

pub AreRising-remove : (next : ℕ) (lane : List Entry) (place : ℕ) → AreRising next lane → AreRising next (remove lane place)
AreRising-remove next [] zero rising = tt
AreRising-remove next [] (suc place) rising = tt
AreRising-remove next (x ∷ lane) zero rising = rising.2
AreRising-remove next (x ∷ lane) (suc place) rising = (rising.0, AreAbove-remove x.number lane place rising.1, AreRising-remove next lane place rising.2)

-- an entry above n, at its place
above-at : (n : ℕ) (lane : List Entry) (place : ℕ) (e : Entry) → AreAbove n lane → slice_get lane place ≡ Some e → n < e.number
above-at n [] place e above at = absurd (let no : ⊥ = cc in no)
above-at n (x ∷ lane) zero e above at = let same : x ≡ e = cc in subst (λ (y : Entry). n < y.number) same above.0
above-at n (x ∷ lane) (suc place) e above at = above-at n lane place e above.1 at

-- no entry before has that number
before-at : (next : ℕ) (lane : List Entry) (place : ℕ) (e : Entry) → AreRising next lane → slice_get lane place ≡ Some e → prefix_len (λ x. not (x.number == e.number)) lane ≡ place
before-at next [] place e rising at = absurd (let no : ⊥ = cc in no)
before-at next (x ∷ lane) zero e rising at =
    let same : x ≡ e = cc in
    let here = eq-eqb x.number e.number (ap (λ (y : Entry). y.number) same) in
    rw here refl
before-at next (x ∷ lane) (suc place) e rising at =
    let less = above-at x.number lane place e rising.1 at in
    let apart : eqb x.number e.number ≡ false = ne_eqb x.number e.number (omega arith) in
    let rest = before-at next lane place e rising.2 at in
    rw apart (omega arith)

-- an entry is found at its place by its number
pub position_of-rising : (next : ℕ) (lane : List Entry) (place : ℕ) (e : Entry) → AreRising next lane → slice_get lane place ≡ Some e → position_of lane e.number ≡ Some place
position_of-rising next lane place e rising at =
    let before = before-at next lane place e rising at in
    let within = lt-ltb place (length lane) (slice_get_within lane place e at) in
    rw before (rw within refl)
