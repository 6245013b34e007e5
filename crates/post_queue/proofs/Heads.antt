-- What the least lane that has an entry tells of the heads of lanes.
use Rattle.std.proofs.Common.{◌≡◌, ℕ, ◌<◌, ◌≤◌, nat_lt, Bool, true, false, List, [], ◌∷◌, length, get_or, Option, None, Some, IsSome, refl, subst, arith, ◌⊎◌, inl, inr}
use Rattle.std.specs.List.{slice_get, position, position_or_len}
use Rattle.std.specs.Option.{option_and_then}
use Rattle.std.proofs.lemmas.Bool.{ltb-false}
use Rattle.std.proofs.lemmas.List.Quantifiers.{position-Some}
use Rattle.std.proofs.lemmas.List.Sums.{fails_before_first}
use Rattle.std.proofs.lemmas.Option.{slice_get-get_or, slice_get_cases}
use Rattle.gaspi_types.specs.declared.entries.Entry.{Entry}
use Rattle.gaspi_types.specs.declared.entries.Queue.{Queue}
use Rattle.post_queue.specs.LanesStates.{LanesState, head_of, nonempty_of}
use Rattle.post_queue.specs.Nonempty.{is_nonempty, nonempty_in}
use Rattle.post_queue.specs.Steps.{head_in, lane_head}

-- of one lane

head-there : (lane : List Entry) → is_nonempty lane ≡ true → IsSome (lane_head lane)
head-there [] some = absurd (let no : ⊥ = cc in no)
head-there (e ∷ lane) some = refl

head-none : (lane : List Entry) → is_nonempty lane ≡ false → lane_head lane ≡ None
head-none [] none = refl
head-none (e ∷ lane) none = absurd (let no : ⊥ = cc in no)

-- of the lanes of one queue

pub lane-there : (lanes : List (List Entry)) (target : ℕ) → position is_nonempty lanes ≡ Some target → IsSome (option_and_then lane_head (slice_get lanes target))
lane-there lanes target is =
    let first = position-Some is_nonempty lanes target [] is in
    let at = slice_get-get_or lanes target [] first.0 in
    rw at (head-there (get_or lanes target []) first.1)

lane-before : (lanes : List (List Entry)) (target other : ℕ) → position is_nonempty lanes ≡ Some target → other < target → option_and_then lane_head (slice_get lanes other) ≡ None
lane-before lanes target other is less =
    let first = position-Some is_nonempty lanes target [] is in
    let within : target < length lanes = first.0 in
    let at = slice_get-get_or lanes other [] (omega arith) in
    rw at (head-none (get_or lanes other []) (first.2 other less))

none-before : (lanes : List (List Entry)) → position is_nonempty lanes ≡ None → length lanes ≤ position_or_len is_nonempty lanes
none-before lanes none = go (nat_lt (position_or_len is_nonempty lanes) (length lanes)) refl
  where
    go : (b : Bool) → nat_lt (position_or_len is_nonempty lanes) (length lanes) ≡ b → length lanes ≤ position_or_len is_nonempty lanes
    go true is = absurd (let found : position is_nonempty lanes ≡ Some (position_or_len is_nonempty lanes) = rw is refl in let no : ⊥ = cc in no)
    go false is = ltb-false (position_or_len is_nonempty lanes) (length lanes) is

pub lane-none : (lanes : List (List Entry)) (other : ℕ) → position is_nonempty lanes ≡ None → option_and_then lane_head (slice_get lanes other) ≡ None
lane-none lanes other none = go (slice_get_cases lanes other).1
  where
    go : ((x : List Entry) × (other < length lanes) × (slice_get lanes other ≡ Some x) × (get_or lanes other x ≡ x)) ⊎ ((length lanes ≤ other) × (slice_get lanes other ≡ None)) → option_and_then lane_head (slice_get lanes other) ≡ None
    go (inl (x, less, at, same)) =
        let last = none-before lanes none in
        let fails : is_nonempty (get_or lanes other x) ≡ false = fails_before_first is_nonempty lanes other x (omega arith) in
        rw at (head-none x (subst (λ (lane : List Entry). is_nonempty lane ≡ false) same fails))
    go (inr (past, at)) = rw at refl

-- of all queues

pub head-of-least : (s : LanesState) (queue target : ℕ) → nonempty_of s queue ≡ Some target → IsSome (head_of s queue target)
head-of-least s queue target = go (slice_get s.queues queue)
  where
    go : (o : Option Queue) → option_and_then nonempty_in o ≡ Some target → IsSome (option_and_then (head_in target) o)
    go None is = absurd (let no : ⊥ = cc in no)
    go (Some q) is = lane-there q.lanes target is

pub no-head-before : (s : LanesState) (queue target other : ℕ) → nonempty_of s queue ≡ Some target → other < target → head_of s queue other ≡ None
no-head-before s queue target other = go (slice_get s.queues queue)
  where
    go : (o : Option Queue) → option_and_then nonempty_in o ≡ Some target → other < target → option_and_then (head_in other) o ≡ None
    go None is less = refl
    go (Some q) is less = lane-before q.lanes target other is less

pub no-head : (s : LanesState) (queue other : ℕ) → nonempty_of s queue ≡ None → head_of s queue other ≡ None
no-head s queue other = go (slice_get s.queues queue)
  where
    go : (o : Option Queue) → option_and_then nonempty_in o ≡ None → option_and_then (head_in other) o ≡ None
    go None is = refl
    go (Some q) is = lane-none q.lanes other is
