-- The length of a post.
use Rattle.std.proofs.Common.{◌≡◌, ℕ, suc, ◌+◌, List, [], ◌∷◌, length, ap, refl}
use Rattle.gaspi_types.specs.Lanes.{posted_entries}
use Rattle.gaspi_types.specs.declared.entries.Kind.{Kind}
use Rattle.gaspi_types.proofs.Items.{set-there}

pub length-posted_entries : (number : ℕ) (kinds : List Kind) → length (posted_entries number kinds) ≡ length kinds
length-posted_entries number [] = refl
length-posted_entries number (kind ∷ kinds) = ap suc (length-posted_entries (number + 1) kinds)

pub ruleset posts_lemmas = (set-there, length-posted_entries)
