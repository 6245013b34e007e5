-- How many transfers of all ranks are enabled: after those of one rank changed, and how many at most.
use Rattle.std.proofs.Common.{◌≡◌, ℕ, zero, suc, ◌+◌, ◌*◌, ◌<◌, ◌≤◌, List, length, None, refl, sym, ap, subst, inl, inr, ◌⊎◌, ◌∙◌, arith, slice_get}
use Rattle.std.proofs.lemmas.Bool.{cases_eq}
use Rattle.std.proofs.lemmas.Option.{slice_get_past}
use Rattle.std.specs.List.{flat_map, range_with_len}
use Rattle.gaspi_types.specs.declared.events.Transfer.{Transfer}
use Rattle.gaspi_types.specs.declared.shapes.Limits.{Limits}
use Rattle.gaspi_model.specs.Transfers.{transfers}
use Rattle.gaspi_model.specs.declared.states.Posts.{Posts}
use Rattle.plain_machine.specs.RankCounts.{transfers_of, HaveFewTransfers}
use Rattle.plain_machine.proofs.Walked.{counted_more, transfers-by_rank}

-- how many items the lists of the first numbers have
abbrev total : (ℕ → List Transfer) → ℕ → ℕ
total f n = length (flat_map f (range_with_len 0 n))

-- lists that differ at one number differ in all by what these do, once that number is among the first
swapped : (f g : ℕ → List Transfer) (me n : ℕ) → ((j : ℕ) → (me ≡ j → ⊥) → g j ≡ f j)
    → ((n ≤ me) × (total g n ≡ total f n)) ⊎ ((me < n) × (total g n + length (f me) ≡ total f n + length (g me)))
swapped f g me zero same = inl (omega arith, refl)
swapped f g me (suc n) same = more (swapped f g me n same)
  where
    one : n + 1 ≡ suc n
    one = omega arith

    f_more : total f (suc n) ≡ total f n + length (f n)
    f_more = ap (total f) (sym one) ∙ counted_more f n

    g_more : total g (suc n) ≡ total g n + length (g n)
    g_more = ap (total g) (sym one) ∙ counted_more g n

    more : ((n ≤ me) × (total g n ≡ total f n)) ⊎ ((me < n) × (total g n + length (f me) ≡ total f n + length (g me)))
        → ((suc n ≤ me) × (total g (suc n) ≡ total f (suc n))) ⊎ ((me < suc n) × (total g (suc n) + length (f me) ≡ total f (suc n) + length (g me)))
    more (inl before) =
        elim (cases_eq me n) [
          | inl is ↦
              let f_here : length (f n) ≡ length (f me) = ap (λ (k : ℕ). length (f k)) (sym is) in
              let g_here : length (g n) ≡ length (g me) = ap (λ (k : ℕ). length (g k)) (sym is) in
              let kept = before.1 in
              inr (omega (arith, is), omega (arith, f_more, g_more, f_here, g_here, kept))
          | inr apart ↦
              let here : length (g n) ≡ length (f n) = ap length (same n apart) in
              let within = before.0 in
              let kept = before.1 in
              let beyond : suc n ≤ me = omega (arith, within, apart) in
              inl (beyond, omega (arith, f_more, g_more, here, kept))
        ]
    more (inr behind) =
        let within = behind.0 in
        let here : length (g n) ≡ length (f n) = ap length (same n (λ is. omega (arith, is, within))) in
        let so_far = behind.1 in
        inr (omega (arith, within), omega (arith, f_more, g_more, here, so_far))

-- what the transfers of one rank are in all, before and after
pub total_swapped : (l : Limits) (before after : List Posts) (me : ℕ) → length after ≡ length before → ((j : ℕ) → (me ≡ j → ⊥) → transfers_of l after j ≡ transfers_of l before j)
    → length (transfers l after) + length (transfers_of l before me) ≡ length (transfers l before) + length (transfers_of l after me)
total_swapped l before after me long same = by_place (swapped (transfers_of l before) (transfers_of l after) me (length before) same)
  where
    all_before : length (transfers l before) ≡ total (transfers_of l before) (length before)
    all_before = ap length (transfers-by_rank l before)

    all_after : length (transfers l after) ≡ total (transfers_of l after) (length before)
    all_after = ap length (transfers-by_rank l after) ∙ ap (total (transfers_of l after)) long

    none : (posts : List Posts) → length posts ≤ me → length (transfers_of l posts me) ≡ 0
    none posts past = rw (slice_get_past posts me past) refl

    by_place : ((length before ≤ me) × (total (transfers_of l after) (length before) ≡ total (transfers_of l before) (length before)))
        ⊎ ((me < length before) × (total (transfers_of l after) (length before) + length (transfers_of l before me) ≡ total (transfers_of l before) (length before) + length (transfers_of l after me)))
        → length (transfers l after) + length (transfers_of l before me) ≡ length (transfers l before) + length (transfers_of l after me)
    by_place (inl past) =
        let kept = past.1 in
        let none_before = none before past.0 in
        let none_after = none after (let within = past.0 in omega (arith, within, long)) in
        omega (arith, all_before, all_after, kept, none_before, none_after)
    by_place (inr within) = let is = within.1 in omega (arith, all_before, all_after, is)

-- of each rank a few, and so of all
few_of : (f : ℕ → List Transfer) (n : ℕ) → ((j : ℕ) → length (f j) ≤ 65536) → total f n ≤ n * 65536
few_of f zero few = omega arith
few_of f (suc n) few =
    let one : n + 1 ≡ suc n = omega arith in
    let more = ap (total f) (sym one) ∙ counted_more f n in
    let before = few_of f n few in
    let here = few n in
    omega (arith, more, before, here)

pub few_in_all : (l : Limits) (posts : List Posts) → HaveFewTransfers l posts → length posts ≤ 16 → length (transfers l posts) ≤ 1048576
few_in_all l posts few ranks =
    let all = ap length (transfers-by_rank l posts) in
    let most = few_of (transfers_of l posts) (length posts) few in
    omega (arith, all, most, ranks)
