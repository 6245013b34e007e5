-- The lines of a rank in a ring, round by round.
use Rattle.std.proofs.Common.{append_assoc, append-nil, ◌≡◌, ℕ, zero, suc, ◌+◌, ◌-◌, ◌*◌, ◌<◌, ◌≤◌, List, [], ◌∷◌, ◌++◌, length, drop, Some, refl, sym, ap, ◌∙◌, arith}
use Rattle.std.specs.List.{slice_get}
use Rattle.byteorder.specs.Endian.{little_bytes}
use Rattle.rank_script.specs.Bench.{round_lines, bench_lines, bench_draw}
use Rattle.rank_script.specs.Generator.{drawn, after_draws}
use Rattle.rank_script.specs.RoundLines.{lines_from}
use Rattle.rank_script.specs.Rounds.{round_with}
use Rattle.rank_script.specs.declared.scripts.ScriptLine.{ScriptLine}

-- Numbers that are drawn one after another.

after-more : (seed a b : ℕ) → after_draws (after_draws seed a) b ≡ after_draws seed (a + b)
after-more seed a zero = ap (after_draws seed) (omega arith)
after-more seed a (suc b) =
    let same : a + suc b ≡ suc (a + b) = omega arith in
    ap drawn (after-more seed a b) ∙ sym (ap (after_draws seed) same)

-- the number of a rank in the first round, and in the next one
pub first-draw : (seed ranks rank x : ℕ) → x ≡ after_draws seed (rank + 1) → x ≡ bench_draw seed ranks 0 rank
first-draw seed ranks rank x is = is ∙ ap (after_draws seed) (omega arith)

pub next-draw : (seed ranks round rank old new : ℕ) → old ≡ bench_draw seed ranks round rank → new ≡ after_draws old ranks → new ≡ bench_draw seed ranks (round + 1) rank
next-draw seed ranks round rank old new is then =
    let one : round + 1 ≡ suc round = omega arith in
    let whole : (round + 1) * ranks ≡ round * ranks + ranks = ap (λ (n : ℕ). n * ranks) one ∙ omega arith in
    then ∙ (ap (λ (x : ℕ). after_draws x ranks) is ∙ (after-more seed (round * ranks + rank + 1) ranks ∙ ap (after_draws seed) (omega (arith, whole))))

-- A list from a place on, before others.

pub present-at : (xs ys : List ScriptLine) (i : ℕ) (x : ScriptLine) → slice_get xs i ≡ Some x → drop i xs ++ ys ≡ x ∷ drop 1 (drop i xs ++ ys)
present-at [] ys i x is = absurd (let no : ⊥ = cc in no)
present-at (z ∷ xs) ys zero x is = let same : z ≡ x = cc in ap (λ (y : ScriptLine). y ∷ (xs ++ ys)) same
present-at (z ∷ xs) ys (suc i) x is = present-at xs ys i x is

drop-suc : (xs ys : List ScriptLine) (i : ℕ) → i < length xs → drop (suc i) xs ++ ys ≡ drop 1 (drop i xs ++ ys)
drop-suc [] ys i below = absurd (omega arith)
drop-suc (x ∷ xs) ys zero below = refl
drop-suc (x ∷ xs) ys (suc i) below = drop-suc xs ys i (omega arith)

pub drop-next : (xs ys : List ScriptLine) (i : ℕ) → i < length xs → drop (i + 1) xs ++ ys ≡ drop 1 (drop i xs ++ ys)
drop-next xs ys i below =
    let same : i + 1 ≡ suc i = omega arith in
    ap (λ (n : ℕ). drop n xs ++ ys) same ∙ drop-suc xs ys i below

pub some-left : (xs ys : List ScriptLine) (i : ℕ) → i < length xs → 1 ≤ length (drop i xs ++ ys)
some-left [] ys i below = absurd (omega arith)
some-left (x ∷ xs) ys zero below = omega arith
some-left (x ∷ xs) ys (suc i) below = some-left xs ys i (omega arith)

pub drop-first : (xs ys : List ScriptLine) → 1 ≤ length xs → drop 1 xs ++ ys ≡ drop 1 (xs ++ ys)
drop-first [] ys some = absurd (omega arith)
drop-first (x ∷ xs) ys some = refl

module _ (seed ranks rounds rank : ℕ) where
  -- the lines of the rounds up to one, and those from it on
  rounds-split : (k n : ℕ) → bench_lines seed ranks rounds rank k ++ lines_from seed ranks rounds rank k n ≡ bench_lines seed ranks rounds rank (k + n)
  rounds-split k zero =
      let same : k ≡ k + zero = omega arith in
      append-nil (bench_lines seed ranks rounds rank k) ∙ ap (bench_lines seed ranks rounds rank) same
  rounds-split k (suc n) =
      let same : k + suc n ≡ suc k + n = omega arith in
      sym (append_assoc (bench_lines seed ranks rounds rank k) (round_lines seed ranks rounds rank k) (lines_from seed ranks rounds rank (suc k) n))
      ∙ (rounds-split (suc k) n ∙ sym (ap (bench_lines seed ranks rounds rank) same))

  -- the first round's, and those of the rounds after it
  pub all-rounds : (count : ℕ) → 1 ≤ count → drop 0 (round_lines seed ranks rounds rank 0) ++ lines_from seed ranks rounds rank 1 (count - 1) ≡ bench_lines seed ranks rounds rank count
  all-rounds zero some = absurd (omega arith)
  all-rounds (suc n) some =
      let one : suc n - 1 ≡ n = omega arith in
      let same : 0 + suc n ≡ suc n = omega arith in
      ap (λ (m : ℕ). round_lines seed ranks rounds rank 0 ++ lines_from seed ranks rounds rank 1 m) one ∙ (rounds-split 0 (suc n) ∙ ap (bench_lines seed ranks rounds rank) same)

  -- behind the last line of a round those of the next begin
  pub next-round : (place round later : ℕ) → place ≡ 6 → 1 ≤ later
      → drop 0 (round_lines seed ranks rounds rank (round + 1)) ++ lines_from seed ranks rounds rank (suc (round + 1)) (later - 1)
      ≡ drop 1 (drop place (round_lines seed ranks rounds rank round) ++ lines_from seed ranks rounds rank (suc round) later)
  next-round place round zero last some = absurd (omega arith)
  next-round place round (suc n) last some =
      let same : round + 1 ≡ suc round = omega arith in
      let one : suc n - 1 ≡ n = omega arith in
      rw (last, same, one) refl

-- the lines of a round are those of its numbers
pub same-round : (n m right x y u v : ℕ) → n ≡ m → x ≡ y → u ≡ v → round_with n right (little_bytes 8 x) (little_bytes 8 u) ≡ round_with m right (little_bytes 8 y) (little_bytes 8 v)
same-round n m right x y u v number sent received =
    ap (λ (k : ℕ). round_with k right (little_bytes 8 x) (little_bytes 8 u)) number
    ∙ (ap (λ (k : ℕ). round_with m right (little_bytes 8 k) (little_bytes 8 u)) sent
    ∙ ap (λ (k : ℕ). round_with m right (little_bytes 8 y) (little_bytes 8 k)) received)
