use Rattle.std.proofs.Common.{◌∙◌, ap, codes, false, sym, List, ℕ, Option}
use Rattle.std.specs.Borrow.{Bor}
use Rattle.std.specs.Option.{option_map_or}
use Rattle.std.specs.Str.{bytes_eq}
use Rattle.clap.specs.Words.{found_of}
use Rattle.journal_view.proofs.Reading.{flag_is}
use Rattle.journal_view.proofs.words.flag.Goals as goal

pub returns-in-Some : goal.returns-in-Some
returns-in-Some c =
    c.eq.ensures ∙ sym (ap (λ (o : Option (Bor (List ℕ))). option_map_or (λ s. bytes_eq s.now (codes "true")) o false) c.in-Some.is)
    ∙ flag_is (found_of c.args.matches.now) c.args.id.now c.get_str.result c.get_str.ensures

pub returns-in-None : goal.returns-in-None
returns-in-None c =
    sym (ap (λ (o : Option (Bor (List ℕ))). option_map_or (λ s. bytes_eq s.now (codes "true")) o false) c.in-None.is)
    ∙ flag_is (found_of c.args.matches.now) c.args.id.now c.get_str.result c.get_str.ensures
