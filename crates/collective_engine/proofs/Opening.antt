-- Rounds that no rank has joined.
use Rattle.std.proofs.Common.{◌≡◌, ℕ, zero, suc, List, replicate, Option, refl, ◌∙◌, ap, arith}
use Rattle.std.specs.Prelude.{slice_index}
use Rattle.collective_engine.specs.Rounds.{IsRounds}
use Rattle.collective_engine.specs.RoundBuffers.{ranks_of, joined_by, completed_by, HasCapacity}
use Rattle.collective_engine.specs.declared.buffers.Buffers.{Buffers}
use Rattle.collective_engine.proofs.Giving.{contributed_joined}

zeros : (n i : ℕ) → slice_index (replicate n 0) i ≡ 0
zeros zero i = refl
zeros (suc n) zero = refl
zeros (suc n) (suc i) = zeros n i

pub opens : (members : Option ℕ) (ranks : List ℕ) (b : Buffers) → ranks ≡ ranks_of members → HasCapacity b → b.joined ≡ replicate 16 0 → b.completed ≡ replicate 16 0
    → IsRounds (record { members = members; ranks = ranks; buffers = b })
opens members ranks b listed capacity joined completed = record {
  ranks = listed;
  rounds = record {
    capacity = capacity;
    close = record {
      least = λ r. let none = left_none r in omega arith;
      greatest = λ r. let none = joined_none r in omega arith;
      early = λ none r. joined_none r;
      near = λ m n its theirs. let none = left_none m in omega arith;
    };
    agree = record {
      alike = λ round m n c d its theirs one two at there. absurd (let some = contributed_joined b round m c at in let none = joined_none m in let no : ⊥ = omega arith in no);
      whole = λ round m c its one at. absurd (let some = contributed_joined b round m c at in let none = joined_none m in let no : ⊥ = omega arith in no);
    };
  };
}
  where
    joined_none : (r : ℕ) → joined_by b r ≡ 0
    joined_none r = ap (λ (xs : List ℕ). slice_index xs r) joined ∙ zeros 16 r

    left_none : (r : ℕ) → completed_by b r ≡ 0
    left_none r = ap (λ (xs : List ℕ). slice_index xs r) completed ∙ zeros 16 r
