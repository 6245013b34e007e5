-- A piece that is written part by part.
use Rattle.std.proofs.Common.{◌≡◌, ℕ, ◌+◌, ◌-◌, ◌≤◌, List, ◌++◌, length, take, drop, refl, ap, ◌∙◌, sym, Option, Some, None, append_assoc, length-drop, arith}
use Rattle.std.proofs.Math.Seq.{take-add}
use Rattle.std.proofs.lemmas.Grind.{common_steps}
use Rattle.gaspi_io.specs.Sink.{with_more}

-- where the loop stands: so many bytes of the piece were taken
pub record Wrote (start : Option (List ℕ)) (faults : ℕ) (piece : List ℕ) (done : ℕ) (held : Option (List ℕ)) (now : ℕ) : Type 0 where
  pub within : done ≤ length piece
  pub bytes : held ≡ with_more start (take done piece)
  pub still : now ≡ faults

-- nothing more
pub with_more-none : (o : Option (List ℕ)) (piece : List ℕ) → with_more o (take 0 piece) ≡ o
with_more-none None piece = refl
with_more-none (Some held) piece = ap Some (grind (arith, common_steps))

-- one part after another
pub with_more-twice : (o : Option (List ℕ)) (a b : List ℕ) → with_more (with_more o a) b ≡ with_more o (a ++ b)
with_more-twice None a b = refl
with_more-twice (Some held) a b = ap Some (append_assoc held a b)

-- after one more write
pub wrote_more : (start : Option (List ℕ)) (faults : ℕ) (piece : List ℕ) (done : ℕ) (held : Option (List ℕ)) (now : ℕ) → Wrote start faults piece done held now → (rest : List ℕ) → rest ≡ drop done piece → (n : ℕ) → n ≤ length rest → (more : Option (List ℕ)) → more ≡ with_more held (take n rest) → (later : ℕ) → later ≡ now → Wrote start faults piece (done + n) more later
wrote_more start faults piece done held now wrote rest is n fits more added later same = record {
  within =
      let within : done ≤ length piece = wrote.within in
      let length_is : length rest ≡ length piece - done = ap length is ∙ length-drop done piece in
      omega arith;
  bytes =
      let both : take (done + n) piece ≡ take done piece ++ take n (drop done piece) = take-add done n piece in
      added ∙ (ap (λ r. with_more held (take n r)) is
      ∙ (ap (λ o. with_more o (take n (drop done piece))) wrote.bytes
      ∙ (with_more-twice start (take done piece) (take n (drop done piece)) ∙ ap (λ bs. with_more start bs) (sym both))));
  still = same ∙ wrote.still;
}
