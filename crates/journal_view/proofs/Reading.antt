-- What the getters of clap's matches give, and how a parse comes to the definition.
use Rattle.std.proofs.Common.{◌≡◌, ◌∙◌, true, false, refl, sym, ap, List, [], ◌∷◌, Option, Some, None, codes, arith, inl, inr}
use Rattle.std.specs.Prelude.{option_map, if◌then◌else◌}
use Rattle.std.specs.Option.{option_map_or}
use Rattle.std.specs.Borrow.{Bor}
use Rattle.std.specs.Str.{bytes_eq}
use Rattle.std.proofs.lemmas.Bool.{ne_eqb}
use Rattle.clap.specs.Faults.{fault_of, is_simple_and_free}
use Rattle.clap.specs.Kinds.{HasKind, IsAmong, Kinds}
use Rattle.clap.specs.Matches.{first_value}
use Rattle.clap.specs.Simple.{is_simple, matches_of}
use Rattle.clap.specs.Values.{kind_of}
use Rattle.clap.specs.Walk.{Text, is_empty, rows_of}
use Rattle.clap.specs.declared.error.Error.{Error}
use Rattle.clap.specs.declared.error.kind.ErrorKind.{ErrorKind}
use Rattle.clap.specs.declared.error.kind.ErrorKind.TheVariants.{OutOfMemory}
use Rattle.clap.specs.declared.parser.matches.Found.{Found}
use Rattle.clap.proofs.OnLiterals.{clap_on_literals}
use Rattle.clap.proofs.WalkLemmas.{first_value-rows}
use Rattle.journal_view.specs.Words.{flag_at, picture_in, picture_of, the_app}
use Rattle.journal_view.specs.declared.words.Picture.{Picture}

pub flag_is : (f : Found) (id : Text) (o : Option (Bor Text)) → option_map (λ s. s.now) o ≡ first_value f id
    → option_map_or (λ s. bytes_eq s.now (codes "true")) o false ≡ flag_at id (rows_of f)
flag_is f id o is = same o ∙ ap (λ p. option_map_or (λ text. bytes_eq text (codes "true")) p false) (is ∙ first_value-rows f id)
  where
    same : (p : Option (Bor Text)) → option_map_or (λ s. bytes_eq s.now (codes "true")) p false
        ≡ option_map_or (λ text. bytes_eq text (codes "true")) (option_map (λ s. s.now) p) false
    same None = refl
    same (Some s) = refl

pub the_app_is_simple : is_simple the_app ≡ true
unfolding clap_on_literals
the_app_is_simple = refl

pub the_app_is_free : is_simple_and_free the_app ≡ true
unfolding clap_on_literals
the_app_is_free = refl

-- a parse that fails by one of these, and not by `NoMemory`
pub fails_for : (kinds : Kinds) (e : Error) → HasKind kinds e → (kind_of e ≡ OutOfMemory → ⊥) → IsAmong (kind_of e) kinds
fails_for kinds e has not_memory = elim has [
  | inl h ↦ absurd (not_memory h)
  | inr h ↦ h
]

pub taken : (words : List Text) → fault_of the_app words ≡ [] → picture_in (matches_of the_app words) ≡ picture_of words
unfolding picture_of
taken words e = sym (rw e refl)

pub refused : (words : List Text) (k : ErrorKind) → IsAmong k (fault_of the_app words) → None ≡ picture_of words
unfolding picture_of
refused words k among = go (fault_of the_app words) among
  where
    go : (kinds : Kinds) → IsAmong k kinds → ◌≡◌ {A = Option Picture} None (if is_empty kinds then picture_in (matches_of the_app words) else None)
    go [] h = absurd h
    go (x ∷ xs) h =
        let full : is_empty (x ∷ xs) ≡ false = ne_eqb _ _ (λ e. omega arith) in
        rw full refl
