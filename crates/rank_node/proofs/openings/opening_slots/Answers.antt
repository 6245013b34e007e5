use Rattle.std.proofs.Common.{◌≡◌, ℕ, ap, ◌∙◌, arith, map}
use Rattle.std.specs.List.{range_with_len}
use Rattle.std.specs.Option.{option_map}
use Rattle.std.proofs.lemmas.Bool.Decides.{nat_tests}
use Rattle.gaspi_model.specs.State.{declared_size, new_slots}
use Rattle.rank_node.proofs.openings.opening_slots.Goals as goal

pub returns : goal.returns
returns c =
    let all : c.loop-segment.segment ≡ 32 = grind (arith, nat_tests) in
    c.loop-segment.invariant
    ∙ ap (λ (n : ℕ). map (λ segment. option_map (λ (size : ℕ). new_slots c.args.shape.now.limits.notes) (declared_size c.args.shape.now c.args.rank segment)) (range_with_len 0 n)) all
