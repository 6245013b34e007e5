-- Lanes that are emptied one after another.
use Rattle.std.proofs.Common.{◌≡◌, ℕ, zero, suc, ◌+◌, List, [], ◌∷◌, map, length, slice_set, refl, ap, ◌∙◌, arith}
use Rattle.gaspi_types.specs.declared.entries.Entry.{Entry}
use Rattle.gaspi_model.specs.QueueCalls.{without_entries}

-- so many lanes in front are emptied
abbrev pub emptied_front : ℕ → List (List Entry) → List (List Entry)
emptied_front zero lanes = lanes
emptied_front (suc n) [] = []
emptied_front (suc n) (lane ∷ lanes) = [] ∷ emptied_front n lanes

pub length-emptied : (n : ℕ) (lanes : List (List Entry)) → length (emptied_front n lanes) ≡ length lanes
length-emptied zero lanes = refl
length-emptied (suc n) [] = refl
length-emptied (suc n) (lane ∷ lanes) = ap (λ (k : ℕ). suc k) (length-emptied n lanes)

-- one more
one-more : (n : ℕ) (lanes : List (List Entry)) → slice_set (emptied_front n lanes) n [] ≡ emptied_front (suc n) lanes
one-more zero [] = refl
one-more zero (lane ∷ lanes) = refl
one-more (suc n) [] = refl
one-more (suc n) (lane ∷ lanes) = ap (λ (rest : List (List Entry)). [] ∷ rest) (one-more n lanes)

pub emptied-next : (n : ℕ) (lanes : List (List Entry)) → slice_set (emptied_front n lanes) n [] ≡ emptied_front (n + 1) lanes
emptied-next n lanes = one-more n lanes ∙ ap (λ (k : ℕ). emptied_front k lanes) (let same : suc n ≡ n + 1 = omega arith in same)

-- all of them
pub emptied-all : (lanes : List (List Entry)) → emptied_front (length lanes) lanes ≡ map without_entries lanes
emptied-all [] = refl
emptied-all (lane ∷ lanes) = ap (λ (rest : List (List Entry)). [] ∷ rest) (emptied-all lanes)
