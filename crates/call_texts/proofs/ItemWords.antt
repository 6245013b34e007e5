-- Items as they are read, one after the other.
use Rattle.std.proofs.Common.{◌≡◌, ℕ, zero, suc, ◌+◌, ◌-◌, ◌<◌, ◌≤◌, length, take, get_or, List, [], ◌∷◌, ◌++◌, Option, Some, None, refl, sym, append-nil, append_assoc, arith}
use Rattle.std.specs.List.{AllByRecursion}
use Rattle.std.specs.Option.{option_map}
use Rattle.gaspi_types.specs.declared.calls.posts.Item.{Item}
use Rattle.call_texts.specs.Fields.{item_spelled, items_spelled}
use Rattle.call_texts.specs.Steps.{◌>>=◌}

-- what is read behind items that were read
abbrev pub behind_items : List Item → Option (List Item × List (List ℕ)) → Option (List Item × List (List ℕ))
behind_items items later = option_map (λ taken. (items ++ taken.0, taken.1)) later

pub items-first : (later : Option (List Item × List (List ℕ))) → later ≡ behind_items [] later
items-first None = refl
items-first (Some taken) = refl

pub items-next : (count done : ℕ) (words rest : List (List ℕ)) (items : List Item) (item : Item) → done < count → Some (item, rest) ≡ item_spelled words
    → behind_items items (items_spelled (count - done) words) ≡ behind_items (items ++ item ∷ []) (items_spelled (count - (done + 1)) rest)
items-next count done words rest items item more is =
    let one : count - done ≡ suc (count - (done + 1)) = omega arith in
    rw (one, sym is) (others (items_spelled (count - (done + 1)) rest))
  where
    others : (later : Option (List Item × List (List ℕ)))
        → behind_items items (later >>= (λ (taken : List Item × List (List ℕ)). Some (item ∷ taken.0, taken.1))) ≡ behind_items (items ++ item ∷ []) later
    others None = refl
    others (Some taken) = rw append_assoc refl

pub items-stop : (count done : ℕ) (words : List (List ℕ)) (items : List Item) → done < count → None ≡ item_spelled words
    → behind_items items (items_spelled (count - done) words) ≡ None
items-stop count done words items more is =
    let one : count - done ≡ suc (count - (done + 1)) = omega arith in
    rw (one, sym is) refl

pub items-all : (count done : ℕ) (words : List (List ℕ)) (items : List Item) → count ≤ done
    → behind_items items (items_spelled (count - done) words) ≡ Some (items, words)
items-all count done words items over =
    let none : count - done ≡ 0 = omega arith in
    rw (none, append-nil) refl

-- one item more
pub all-more : {A : Type 0} (P : A → Type 0) (xs : List A) (i : ℕ) (d : A) → i < length xs → AllByRecursion P (take i xs) → P (get_or xs i d)
    → AllByRecursion P (take (i + 1) xs)
all-more {A = A} P [] i d inside so_far here = absurd (omega arith)
all-more {A = A} P (x ∷ xs) zero d inside so_far here = (here, tt)
all-more {A = A} P (x ∷ xs) (suc i) d inside so_far here =
    let more = all-more P xs i d (omega arith) so_far.1 here in
    let one : suc i + 1 ≡ suc (i + 1) = omega arith in
    rw one (so_far.0, more)
