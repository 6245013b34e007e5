use Rattle.std.proofs.Common.{◌≡◌, List, [], ◌∷◌, subst, sym, arith}
use Rattle.std.proofs.lemmas.Grind.{common_steps}
use Rattle.gaspi_types.specs.declared.events.PlacedEvent.{PlacedEvent}
use Rattle.gaspi_texts.specs.Merges.{AreCutOf}
use Rattle.component_tests.proofs.MergedParts.{two_parts, parts-cut}
use Rattle.component_tests.proofs.journals.three_merged.Goals as goal

pub merge-requires-clause-cut : goal.merge-requires-clause-cut
merge-requires-clause-cut c =
    let lists : c.add-2.new.self.lists ≡ two_parts c.notified.result c.taken-2.result c.taken.result = grind (arith, common_steps) in
    (c.notified.result ∷ c.taken-2.result ∷ c.taken.result ∷ [], subst (λ (z : List (List PlacedEvent)). AreCutOf z (c.notified.result ∷ c.taken-2.result ∷ c.taken.result ∷ [])) (sym lists) (parts-cut c.notified.result c.taken-2.result c.taken.result))
