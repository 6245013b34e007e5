-- What comes first in a lane whose numbers rise.
use Rattle.std.proofs.Common.{◌≡◌, ℕ, zero, suc, ◌<◌, Bool, true, false, nat_lt, ◌==◌, ◌&&◌, List, [], ◌∷◌, length, get_or, drop, remove, Some, refl, subst, arith}
use Rattle.std.specs.List.{slice_get, list_any}
use Rattle.std.proofs.lemmas.Bool.{eq-eqb, eqb-true, lt-ltb, le-ltb}
use Rattle.std.proofs.lemmas.List.Sums.{position_or_len_is}
use Rattle.std.proofs.lemmas.List.Folds.{list_any_none}
use Rattle.std.proofs.lemmas.Option.{slice_get_within, get_or_from_slice_get}
use Rattle.gaspi_types.specs.Lanes.{is_posted, is_carried, is_write, is_read, carried_count, may_take, may_put, may_put_kind, position_of}
use Rattle.gaspi_types.specs.declared.entries.Entry.{Entry}
use Rattle.gaspi_types.specs.declared.entries.Kind.{Kind}
use Rattle.gaspi_types.specs.declared.entries.Kind.TheVariants.{Write, Read, Notify, ReadNote}
use Rattle.post_queue.specs.Places.{first_posted}
use Rattle.post_queue.specs.Rising.{IsRising}
use Rattle.post_queue.proofs.Queues.{passes-at}

pub take-permitted : (depth : ℕ) (lane : List Entry) (e : Entry) → first_posted lane ≡ Some e → carried_count lane < depth → may_take depth lane e ≡ true
take-permitted depth lane e at room = rw (passes-at is_posted lane e at, lt-ltb (carried_count lane) depth room) refl

apart : (a b : ℕ) → a < b → (a == b) ≡ false
apart a b less = go (a == b) refl
  where
    go : (t : Bool) → (a == b) ≡ t → t ≡ false
    go true is = let same = eqb-true a b is in absurd (omega arith)
    go false is = refl

-- an entry is found by its number
pub found-at : (lane : List Entry) (place : ℕ) (e : Entry) → IsRising lane → slice_get lane place ≡ Some e → position_of lane e.number ≡ Some place
found-at lane place e rising at =
    let within = slice_get_within lane place e at in
    let here = get_or_from_slice_get lane place e e at in
    let first = position_or_len_is (λ (x : Entry). x.number == e.number) lane place e (omega arith)
    (λ k less. apart (get_or lane k e).number e.number (subst (λ (x : Entry). (get_or lane k e).number < x.number) here (rising k place e less within)))
    (λ there. rw here (eq-eqb e.number e.number refl)) in
    rw (first, lt-ltb place (length lane) within) refl

pub put-permitted : (lane : List Entry) (e : Entry) → IsRising lane → slice_get lane 0 ≡ Some e → is_carried e ≡ true → may_put lane e ≡ true
put-permitted lane e rising at carried = rw carried (by_kind e.kind)
  where
    none : (is_kind : Entry → Bool) → list_any (λ (x : Entry). is_kind x && nat_lt x.number e.number) lane ≡ false
    none is_kind = list_any_none (λ (x : Entry). is_kind x && nat_lt x.number e.number) lane (λ k d less. and-false (is_kind (get_or lane k d)) (nat_lt (get_or lane k d).number e.number) (later k d less))
      where
        and-false : (a b : Bool) → b ≡ false → (a && b) ≡ false
        and-false true b is = is
        and-false false b is = refl

        later : (k : ℕ) (d : Entry) → k < length lane → nat_lt (get_or lane k d).number e.number ≡ false
        later zero d less = rw (get_or_from_slice_get lane 0 e d at) (le-ltb e.number e.number (omega arith))
        later (suc k) d less =
            let rise = subst (λ (x : Entry). x.number < (get_or lane (suc k) d).number) (get_or_from_slice_get lane 0 e d at) (rising 0 (suc k) d (omega arith) less) in
            le-ltb (get_or lane (suc k) d).number e.number (omega arith)

    by_kind : (kind : Kind) → may_put_kind lane e.number kind ≡ true
    by_kind (Write own target) = refl
    by_kind (Read own target) = refl
    by_kind (Notify target value) = rw (none is_write) refl
    by_kind (ReadNote own) = rw (none is_read) refl

pub head-removed : (lane : List Entry) → drop 1 lane ≡ remove lane 0
head-removed [] = refl
head-removed (x ∷ lane) = refl
