-- So many words in front.
use Rattle.std.proofs.Common.{◌≡◌, ℕ, ◌-◌, ◌≤◌, true, nat_le, List, length, map, take, drop, Some, Bor, refl, arith}
use Rattle.std.proofs.lemmas.Bool.Decides.{nat_tests}
use Rattle.std.proofs.lemmas.List.{length-map, take-map, drop-map}
use Rattle.std.proofs.lemmas.Grind.{common_steps}
use Rattle.call_texts.specs.Fields.{words_split}

-- the slices before a place and from it on
pub prefix_cut : (words : List (Bor (List ℕ))) (count : ℕ) → count ≤ length words
    → Some (map (λ word. word.now) (take count words), map (λ word. word.now) (take (length words - count) (drop count words)))
    ≡ words_split count (map (λ word. word.now) words)
prefix_cut words count within =
    let long = length-map words (λ (word : Bor (List ℕ)). word.now) in
    let some : nat_le count (length (map (λ (word : Bor (List ℕ)). word.now) words)) ≡ true = grind (arith, nat_tests, long) in
    let all : take (length words - count) (drop count words) ≡ drop count words = grind (arith, common_steps) in
    rw (some, all, take-map (λ (word : Bor (List ℕ)). word.now) count words, drop-map (λ (word : Bor (List ℕ)). word.now) count words) refl
