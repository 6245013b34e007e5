-- What the getters of clap's matches give, in the terms of the definitions.
use Rattle.std.proofs.Common.{◌≡◌, ◌∙◌, ◌<◌, ◌^◌, ◌&&◌, ℕ, Bool, true, false, refl, sym, ap, ap₂, subst, [], ◌∷◌, length, Option, Some, None, Result, Ok, Err, true≢false, nat_lt, lt-ltb, ltb-true, codes}
use Rattle.std.specs.Prelude.{⊤, option_map, option_and_then, if◌then◌else◌}
use Rattle.std.specs.Option.{option_map_or}
use Rattle.std.specs.List.{list_all}
use Rattle.std.specs.Char.{digit_value}
use Rattle.std.specs.Borrow.{Bor}
use Rattle.std.specs.Str.{bytes_eq}
use Rattle.std.specs.Str.Parse.{AllDigits, IsNumeral, ParsesUnsigned, digits_value, without_leading_plus}
use Rattle.clap.specs.Matches.{ReadsOne, first_value, one_text}
use Rattle.clap.specs.ValueTests.{is_numeral}
use Rattle.clap.specs.Walk.{Text, rows_of}
use Rattle.clap.specs.declared.parser.matches.Found.{Found}
use Rattle.clap.proofs.WalkLemmas.{both, first_value-rows, one_text-rows}
use Rattle.command_line.specs.Words.{flag_at, number_at, number_of}

-- ---- numerals

all_digits : (ds : Text) → AllDigits 10 ds → list_all (λ d. nat_lt (digit_value d) 10) ds ≡ true
all_digits [] h = refl
all_digits (d ∷ ds) h = rw (lt-ltb (digit_value d) 10 h.0) (all_digits ds h.1)

pub numeral_passes : (ds : Text) → IsNumeral 10 ds → is_numeral ds ≡ true
numeral_passes ds h = rw (lt-ltb 0 (length ds) h.0) (all_digits ds h.1)

digits_of : (ds : Text) → list_all (λ d. nat_lt (digit_value d) 10) ds ≡ true → AllDigits 10 ds
digits_of [] e = tt
digits_of (d ∷ ds) e =
    let parts = both _ _ e in
    (ltb-true _ _ parts.0, digits_of ds parts.1)

numeral_of : (ds : Text) → is_numeral ds ≡ true → IsNumeral 10 ds
numeral_of ds e =
    let parts = both _ _ e in
    (ltb-true _ _ parts.0, digits_of ds parts.1)

-- ---- the number of an option

module _ (bits : ℕ) where
  pub number_given : (t : Text) (n : ℕ) → IsNumeral 10 (without_leading_plus t) → digits_value 10 (without_leading_plus t) ≡ n → n < 2 ^ bits
      → number_of bits t ≡ Some n
  number_given t n numeral is small =
      let below : digits_value 10 (without_leading_plus t) < 2 ^ bits = subst (λ (m : ℕ). m < 2 ^ bits) (sym is) small in
      rw (numeral_passes (without_leading_plus t) numeral, lt-ltb _ _ below) (ap (λ (m : ℕ). Some m) is)

  no_number : (t : Text) → (IsNumeral 10 (without_leading_plus t) × (digits_value 10 (without_leading_plus t) < 2 ^ bits) → ⊥) → number_of bits t ≡ None
  no_number t bad = go (is_numeral ds && nat_lt (digits_value 10 ds) (2 ^ bits)) refl
    where
      ds : Text
      ds = without_leading_plus t

      go : (b : Bool) → (is_numeral ds && nat_lt (digits_value 10 ds) (2 ^ bits)) ≡ b → number_of bits t ≡ None
      go false e = rw e refl
      go true e =
          let parts = both (is_numeral ds) _ e in
          absurd (bad (numeral_of ds parts.0, ltb-true _ _ parts.1))

  -- the definition reads a text as `parse` does
  pub reads_own : (t : Text) → ReadsOne {E = ⊤} (λ u r. ParsesUnsigned bits 10 u r) t (number_of bits t)
  reads_own t = go (is_numeral ds && nat_lt (digits_value 10 ds) (2 ^ bits)) refl
    where
      ds : Text
      ds = without_leading_plus t

      go : (b : Bool) → (is_numeral ds && nat_lt (digits_value 10 ds) (2 ^ bits)) ≡ b
          → ReadsOne {E = ⊤} (λ u r. ParsesUnsigned bits 10 u r) t (if b then Some (digits_value 10 ds) else None)
      go true e =
          let parts = both (is_numeral ds) _ e in
          ((numeral_of ds parts.0, ltb-true _ _ parts.1), refl)
      go false e = (tt, λ h. absurd (true≢false (sym (ap₂ (λ (a c : Bool). a && c) (numeral_passes ds h.0) (lt-ltb _ _ h.1)) ∙ e)))

  module _ {E : Type 0} (G : Text → Result ℕ E → Type 0) (parses : (t : Text) (x : Result ℕ E) → G t x → ParsesUnsigned bits 10 t x) where
    one_is : (t : Text) (r : Option ℕ) → ReadsOne G t r → r ≡ number_of bits t
    one_is t (Some n) h =
        let parsed = parses t (Ok n) h in
        sym (number_given t n parsed.0.0 (sym parsed.1) (subst (λ (m : ℕ). m < 2 ^ bits) (sym parsed.1) parsed.0.1))
    one_is t None h = sym (no_number t (parses t (Err h.0) h.1))

    -- the number that `get_one` gives
    pub number_is : (f : Found) (id : Text) (r : Option ℕ) → (one_text f id ≡ None → r ≡ None)
        → ((t : Text) → one_text f id ≡ Some t → ReadsOne G t r) → r ≡ number_at bits id (rows_of f)
    number_is f id r none value = go (one_text f id) refl ∙ ap (option_and_then (number_of bits)) (one_text-rows f id)
      where
        go : (o : Option Text) → one_text f id ≡ o → r ≡ option_and_then (number_of bits) (one_text f id)
        go None e = none e ∙ sym (ap (option_and_then (number_of bits)) e)
        go (Some t) e = one_is t r (value t e) ∙ sym (ap (option_and_then (number_of bits)) e)

-- ---- a flag

pub flag_is : (f : Found) (id : Text) (o : Option (Bor Text)) → option_map (λ s. s.now) o ≡ first_value f id
    → option_map_or (λ s. bytes_eq s.now (codes "true")) o false ≡ flag_at id (rows_of f)
flag_is f id o is = same o ∙ ap (λ p. option_map_or (λ text. bytes_eq text (codes "true")) p false) (is ∙ first_value-rows f id)
  where
    same : (p : Option (Bor Text)) → option_map_or (λ s. bytes_eq s.now (codes "true")) p false
        ≡ option_map_or (λ text. bytes_eq text (codes "true")) (option_map (λ s. s.now) p) false
    same None = refl
    same (Some s) = refl
