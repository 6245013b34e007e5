-- Writes whose numbers rise: one of them is found by its number, and those of a post go behind them.
use Rattle.std.proofs.Common.{◌≡◌, ℕ, zero, suc, ◌+◌, ◌-◌, ◌<◌, ◌≤◌, arith, Bool, true, false, ◌==◌, List, [], ◌∷◌, ◌++◌, length, map, nat_lt, get_or, Option, None, Some, Result, Ok, Err, refl, sym, ap, ◌∙◌, subst, if◌then◌else◌}
use Rattle.std.specs.List.{slice_get, slice_set}
use Rattle.std.specs.List.Sorted.{IsSearchInRange, IsBinarySearchResult, IsNonDecreasingBy}
use Rattle.std.specs.Ordering.{nat_cmp, ordering_index}
use Rattle.std.proofs.lemmas.Bool.{eq-eqb, ne_eqb, ltb-true, ltb-false}
use Rattle.std.proofs.lemmas.Bool.Decides.{nat_tests}
use Rattle.std.proofs.lemmas.Cmp.{ranked}
use Rattle.std.proofs.lemmas.List.Sorted.{IsNonDecreasingBy-from_default}
use Rattle.std.proofs.lemmas.Option.{get_or_from_slice_get, slice_get_within}
use Rattle.gaspi_types.proofs.Items.{there-within, same-or-not}
use Rattle.gaspi_types.specs.declared.events.Event.{Event}
use Rattle.gaspi_model.specs.Order.{is_purge_of}
use Rattle.call_journal.specs.LaneWrites.{put_here, put_in, with_put, new_writes, writes_after, post_of, writes_to, entries_in}
use Rattle.call_journal.specs.Tracked.{Rise}
use Rattle.call_journal.proofs.Standing.{writes-few}
use Rattle.call_journal.specs.declared.lane_writes.EntryPut.{EntryPut}
use Rattle.call_journal.specs.declared.lane_writes.LaneWrite.{LaneWrite}

-- some write, for where there is none
abbrev no_write : LaneWrite
no_write = record { post = 0; number = 0; put = None }

rise-above : (low high : ℕ) (writes : List LaneWrite) (k : ℕ) (x : LaneWrite) → Rise low writes high → slice_get writes k ≡ Some x → low ≤ x.number
rise-above low high [] k x rise at = absurd (let no : ⊥ = cc in no)
rise-above low high (y ∷ writes) zero x rise at = let same : y ≡ x = cc in subst (λ (z : LaneWrite). low ≤ z.number) same rise.0
rise-above low high (y ∷ writes) (suc k) x rise at = let rest = rise-above (y.number + 1) high writes k x rise.1 at in let here = rise.0 in omega arith

rise-apart : (low high : ℕ) (writes : List LaneWrite) (i j : ℕ) (x y : LaneWrite) → Rise low writes high → i < j → slice_get writes i ≡ Some x → slice_get writes j ≡ Some y → x.number < y.number
rise-apart low high [] i j x y rise less hx hy = absurd (let no : ⊥ = cc in no)
rise-apart low high (z ∷ writes) i zero x y rise less hx hy = absurd (let no : ⊥ = omega arith in no)
rise-apart low high (z ∷ writes) zero (suc j) x y rise less hx hy =
    let same : z ≡ x = cc in
    let above = rise-above (z.number + 1) high writes j y rise.1 hy in
    subst (λ (v : LaneWrite). v.number < y.number) same (omega arith)
rise-apart low high (z ∷ writes) (suc i) (suc j) x y rise less hx hy = rise-apart (z.number + 1) high writes i j x y rise.1 (omega arith) hx hy

-- none of the writes has the number
none-marked : (number place : ℕ) (writes : List LaneWrite) → ((k : ℕ) (x : LaneWrite) → slice_get writes k ≡ Some x → x.number ≡ number → ⊥) → writes ≡ map (put_here number place) writes
none-marked number place [] none = refl
none-marked number place (x ∷ writes) none =
    let rest = none-marked number place writes (λ k y at is. none (suc k) y at is) in
    rw (ne_eqb x.number number (λ is. none 0 x refl is)) (ap (λ (ys : List LaneWrite). x ∷ ys) rest)

-- the write at a place has it, and no other
one-marked : (low high number place : ℕ) (writes : List LaneWrite) (at : ℕ) (x : LaneWrite) → Rise low writes high → slice_get writes at ≡ Some x → x.number ≡ number
    → slice_set writes at (record x { put = Some place }) ≡ map (put_here number place) writes
one-marked low high number place [] at x rise there is = absurd (let no : ⊥ = cc in no)
one-marked low high number place (y ∷ writes) zero x rise there is =
    let same : y ≡ x = cc in
    let here : y.number ≡ number = ap (λ (z : LaneWrite). z.number) same ∙ is in
    let rest = none-marked number place writes (λ k z at' same'. let above = rise-above (y.number + 1) high writes k z rise.1 at' in let no : ⊥ = omega arith in no) in
    rw (eq-eqb y.number number here) (ap (λ (ys : List LaneWrite). record x { put = Some place } ∷ ys) rest ∙ ap (λ (z : LaneWrite). record z { put = Some place } ∷ map (put_here number place) writes) (sym same))
one-marked low high number place (y ∷ writes) (suc at) x rise there is =
    let above = rise-above (y.number + 1) high writes at x rise.1 there in
    let rest = one-marked (y.number + 1) high number place writes at x rise.1 there is in
    rw (ne_eqb y.number number (λ same. let no : ⊥ = omega arith in no)) (ap (λ (ys : List LaneWrite). y ∷ ys) rest)

module _ (next : ℕ) (writes : List LaneWrite) (rise : Rise 0 writes next) (number place : ℕ) where
  numbers-rise : (i j : ℕ) → i ≤ j → j < length writes → (get_or writes i no_write).number ≤ (get_or writes j no_write).number
  numbers-rise i j le in_range =
      let x = there-within writes i (omega arith) in
      let y = there-within writes j in_range in
      let at_x = ap (λ (z : LaneWrite). z.number) (get_or_from_slice_get writes i x.0 no_write x.1) in
      let at_y = ap (λ (z : LaneWrite). z.number) (get_or_from_slice_get writes j y.0 no_write y.1) in
      same-or-not i j
      (λ same. subst (λ (k : ℕ). (get_or writes i no_write).number ≤ (get_or writes k no_write).number) same (omega arith))
      (λ apart. let less = rise-apart 0 next writes i j x.0 y.0 rise (omega arith) x.1 y.1 in omega arith)

  -- the comparisons with the number rise, as a binary search asks
  comparisons-rise : IsNonDecreasingBy (λ (x : LaneWrite). ordering_index (nat_cmp x.number number)) writes
  comparisons-rise = IsNonDecreasingBy-from_default (λ (x : LaneWrite). ordering_index (nat_cmp x.number number)) writes no_write (λ i j le in_range.
      let rises = numbers-rise i j le in_range in
      grind (arith, nat_tests))

  -- a binary search ends at the write with the number, or there is none
  pub found-marked : (r : Result ℕ ℕ) → IsSearchInRange r (length writes) → IsBinarySearchResult (λ (x : LaneWrite). nat_cmp x.number number) writes r → (at : ℕ) (x : LaneWrite) → r ≡ Ok at → x ≡ get_or writes at x
      → slice_set writes at (record x { put = Some place }) ≡ map (put_here number place) writes
  found-marked (Ok k) in_range equal at x is x_is =
      let same : k ≡ at = cc in
      let within : at < length writes = subst (λ (n : ℕ). n < length writes) same in_range in
      let y = there-within writes at within in
      let x_there : x ≡ y.0 = x_is ∙ get_or_from_slice_get writes at y.0 x y.1 in
      let found : (get_or writes k no_write).number ≡ number = ranked _ number _ (sym (equal no_write)) in
      let number_is : y.0.number ≡ number = ap (λ (z : LaneWrite). z.number) (sym (get_or_from_slice_get writes at y.0 no_write y.1)) ∙ subst (λ (n : ℕ). (get_or writes n no_write).number ≡ number) same found in
      one-marked 0 next number place writes at x rise (rw x_there y.1) (rw x_there number_is)
  found-marked (Err k) in_range parted at x is x_is = absurd (let no : ⊥ = cc in no)

  pub none-found : (r : Result ℕ ℕ) → IsSearchInRange r (length writes) → IsBinarySearchResult (λ (x : LaneWrite). nat_cmp x.number number) writes r → ((at : ℕ) → r ≡ Ok at → ⊥) → writes ≡ map (put_here number place) writes
  none-found (Ok k) in_range equal none = absurd (none k refl)
  none-found (Err k) in_range gap none = none-marked number place writes (λ j x there is.
      let within = slice_get_within writes j x there in
      let at_x = ap (λ (z : LaneWrite). z.number) (get_or_from_slice_get writes j x no_write there) in
      go j within (at_x ∙ is) (nat_lt j k) refl)
    where
      go : (j : ℕ) → j < length writes → (get_or writes j no_write).number ≡ number → (b : Bool) → nat_lt j k ≡ b → ⊥
      go j within is true less =
          let smaller : (get_or writes j no_write).number < number = ranked _ number _ (sym ((gap comparisons-rise).0 j no_write (omega arith) (ltb-true j k less))) in
          omega arith
      go j within is false more =
          let greater : number < (get_or writes j no_write).number = ranked _ number _ (sym ((gap comparisons-rise).1 j no_write (ltb-false j k more) within)) in
          omega arith

-- the writes of a post, one more
pub new-more : (place number end : ℕ) → number < end → new_writes place number (end - number) ≡ record { post = place; number = number; put = None } ∷ new_writes place (number + 1) (end - (number + 1))
new-more place number end less =
    let more : end - number ≡ suc (end - (number + 1)) = omega arith in
    rw more refl

-- the writes of a lane still rise after an event
rise-more : (low high high' : ℕ) (writes : List LaneWrite) → high ≤ high' → Rise low writes high → Rise low writes high'
rise-more low high high' [] less rise = omega arith
rise-more low high high' (x ∷ writes) less rise = (rise.0, rise-more (x.number + 1) high high' writes less rise.1)

rise-less : (low low' high : ℕ) (writes : List LaneWrite) → low ≤ low' → Rise low' writes high → Rise low writes high
rise-less low low' high [] less rise = omega arith
rise-less low low' high (x ∷ writes) less rise = ((let here = rise.0 in omega arith), rise.1)

rise-joined : (low mid high : ℕ) (a b : List LaneWrite) → Rise low a mid → Rise mid b high → Rise low (a ++ b) high
rise-joined low mid high [] b front behind = rise-less low mid high b front behind
rise-joined low mid high (x ∷ a) b front behind = (front.0, rise-joined (x.number + 1) mid high a b front.1 behind)

rise-new : (place next count : ℕ) → Rise next (new_writes place next count) (next + count)
rise-new place next zero = omega arith
rise-new place next (suc count) = (omega arith, subst (λ (n : ℕ). Rise (next + 1) (new_writes place (next + 1) count) n) {x = next + 1 + count} (omega arith) (rise-new place (next + 1) count))

here-number : (number place : ℕ) (x : LaneWrite) → (put_here number place x).number ≡ x.number
here-number number place x = go (x.number == number) refl
  where
    go : (b : Bool) → (x.number == number) ≡ b → (put_here number place x).number ≡ x.number
    go true is = rw is refl
    go false is = rw is refl

rise-marked : (low high number place : ℕ) (writes : List LaneWrite) → Rise low writes high → Rise low (map (put_here number place) writes) high
rise-marked low high number place [] rise = rise
rise-marked low high number place (x ∷ writes) rise =
    let same = here-number number place x in (
      subst (λ (n : ℕ). low ≤ n) (sym same) rise.0,
      subst (λ (n : ℕ). Rise (n + 1) (map (put_here number place) writes) high) (sym same) (rise-marked (x.number + 1) high number place writes rise.1),
    )

rise-put : (high place : ℕ) (put : Option ℕ) (writes : List LaneWrite) → Rise 0 writes high → Rise 0 (with_put put place writes) high
rise-put high place None writes rise = rise
rise-put high place (Some number) writes rise = rise-marked 0 high number place writes rise

pub rise-after : (at : EntryPut) (place : ℕ) (e : Event) (next : ℕ) (writes : List LaneWrite) → Rise 0 writes next → Rise 0 (writes_after at place e next writes) (next + entries_in (post_of at.origin e))
rise-after at place e next writes rise =
    rise-more 0 (next + count) (next + entries_in (post_of at.origin e)) (writes_after at place e next writes) (let few = writes-few at e in omega arith)
    (rise-joined 0 next (next + count) _ (new_writes place next count) (base (is_purge_of at.origin at.queue e)) (rise-new place next count))
  where
    count : ℕ
    count = writes_to at (post_of at.origin e)

    base : (b : Bool) → Rise 0 (if b then [] else with_put (put_in at e) place writes) next
    base true = omega arith
    base false = rise-put next place (put_in at e) writes rise
