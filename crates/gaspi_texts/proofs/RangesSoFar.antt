-- What holds of the events of a journal, one after another.
use Rattle.std.proofs.Common.{◌≡◌, ℕ, zero, suc, ◌+◌, ◌<◌, ◌⊎◌, inl, inr, List, length, get_or, refl, sym, ap, ◌∙◌, subst, arith}
use Rattle.std.specs.List.{All}
use Rattle.std.proofs.lemmas.List.{get_or_default}
use Rattle.gaspi_types.specs.declared.events.Event.{Event}

less-or-same : (k n : ℕ) → k < n + 1 → (k < n) ⊎ (k ≡ n)
less-or-same zero zero h = inr refl
less-or-same zero (suc n) h = inl (omega arith)
less-or-same (suc k) zero h = absurd (omega arith)
less-or-same (suc k) (suc n) h = go (less-or-same k n (omega arith))
  where
    go : (k < n) ⊎ (k ≡ n) → (suc k < suc n) ⊎ (suc k ≡ suc n)
    go (inl less) = inl (omega arith)
    go (inr same) = inr (ap suc same)

-- that holds of the events before a place
abbrev pub HoldsBefore : (Event → Type 0) → List Event → ℕ → Type 0
HoldsBefore P journal count = (k : ℕ) (d : Event) → k < count → P (get_or journal k d)

-- and of the one there
pub one-more : (P : Event → Type 0) (journal : List Event) (count : ℕ) (e : Event) → count < length journal → e ≡ get_or journal count e → P e
    → HoldsBefore P journal count → HoldsBefore P journal (count + 1)
one-more P journal count e inside at holds before k d below = go (less-or-same k count below)
  where
    go : (k < count) ⊎ (k ≡ count) → P (get_or journal k d)
    go (inl less) = before k d less
    go (inr same) =
        let here : P (get_or journal count d) = subst P (at ∙ get_or_default journal count e d inside) holds in
        subst (λ (n : ℕ). P (get_or journal n d)) (sym same) here

-- what holds of all events holds of the one at a place
pub one-there : (P : Event → Type 0) (journal : List Event) (count : ℕ) (e : Event) → count < length journal → e ≡ get_or journal count e → All P journal → P e
one-there P journal count e inside at all = subst P (sym at) (all count e inside)
