-- A first word that names no subcommand is refused.
use Rattle.std.proofs.Common.{◌≡◌, ℕ, Bool, true, false, zero, suc, refl, sym, ap, subst, arith, List, [], ◌∷◌, Option, Some, None, true≢false, codes, ne_eqb, length}
use Rattle.std.specs.Prelude.{slice_get, if◌then◌else◌}
use Rattle.std.specs.Option.{option_map_or}
use Rattle.std.specs.Str.{bytes_eq, chars}
use Rattle.std.proofs.lemmas.Slice.Eq.{bytes_eq-Decides}
use Rattle.clap.specs.Lexer.{long_of, short_of}
use Rattle.clap.specs.Kinds.{Kinds, or_else}
use Rattle.clap.specs.Faults.{bundle_fault, bundle_step_fault, fault_of, flag_word_fault, flags_fault, level_fault, other_fault, step_fault, turn_fault, walk_fault}
use Rattle.clap.specs.Walk.{Held, Names, Text, after_flag, bundle_met, bundle_step, idle, is_empty, long_or_other, nothing_held, plain, short_or_plain, subcommand_met, subcommand_or_other, walk_from, walked}
use Rattle.clap.specs.Simple.{App, Shape, argument_words, built, names_of}
use Rattle.clap.proofs.OnLiterals.{clap_on_literals}
use Rattle.command_line.specs.Words.{command_of, the_app}

-- ---- lists of kinds that are not empty

full : {X : Type 0} (x : X) (xs : List X) → is_empty (x ∷ xs) ≡ false
full x xs = ne_eqb _ _ (λ e. omega arith)

first_full : (a b : Kinds) → is_empty a ≡ false → is_empty (or_else a b) ≡ false
first_full [] b h = absurd (true≢false h)
first_full (k ∷ ks) b h = h

-- ---- a word that names no subcommand, where the command has no arguments of its own

module _ (t : Shape) where
  abbrev bare : Shape
  bare = record t { rules = [] }

  -- a word that nothing takes
  stray : (h : Held) (b : Bool) → t.is_leaf ≡ b → is_empty (step_fault bare 1 h Rattle.clap.specs.Walk.value) ≡ false
  stray h true e = rw e refl
  stray h false e = rw e refl

  bundle_full : (word flags : Text) (k : ℕ) (h : Held)
      → is_empty (or_else (flags_fault [] t.args_override_self k flags 0 h)
      (step_fault bare 1 (after_flag [] idle word (bundle_met [] k flags 0 plain h).0 (bundle_met [] k flags 0 plain h).1).0
      (after_flag [] idle word (bundle_met [] k flags 0 plain h).0 (bundle_met [] k flags 0 plain h).1).1)) ≡ false
  unfolding flags_fault bundle_met
  bundle_full word flags zero h = stray h t.is_leaf refl
  bundle_full word flags (suc k) h = go (slice_get (chars flags) 0)
    where
      go : (c : Option ℕ) → is_empty (or_else (bundle_step_fault [] t.args_override_self c flags 0 h (flags_fault [] t.args_override_self k))
          (step_fault bare 1 (after_flag [] idle word (bundle_step [] c flags 0 plain h (bundle_met [] k)).0 (bundle_step [] c flags 0 plain h (bundle_met [] k)).1).0
          (after_flag [] idle word (bundle_step [] c flags 0 plain h (bundle_met [] k)).0 (bundle_step [] c flags 0 plain h (bundle_met [] k)).1).1)) ≡ false
      go None = stray h t.is_leaf refl
      go (Some x) = refl

  short_full : (word : Text) (o : Option Text)
      → is_empty (or_else (option_map_or (λ flags. bundle_fault [] t.args_override_self flags nothing_held) o [])
      (step_fault bare 1 (short_or_plain [] idle word o nothing_held).0 (short_or_plain [] idle word o nothing_held).1)) ≡ false
  short_full word None = stray nothing_held t.is_leaf refl
  short_full word (Some flags) = bundle_full word flags (length flags) nothing_held

  long_full : (word : Text) (o : Option (Text × Option Text))
      → is_empty (or_else (flag_word_fault [] t.args_override_self o word nothing_held)
      (step_fault bare 1 (long_or_other [] idle word o nothing_held).0 (long_or_other [] idle word o nothing_held).1)) ≡ false
  long_full word None = short_full word (short_of word)
  long_full word (Some p) = refl

  dashes_full : (word : Text) (b : Bool) → b ≡ false
      → is_empty (or_else (if b then [] else flag_word_fault [] t.args_override_self (long_of word) word nothing_held)
      (step_fault bare 1 (if b then (nothing_held, Rattle.clap.specs.Walk.trailing 1) else long_or_other [] idle word (long_of word) nothing_held).0
      (if b then (nothing_held, Rattle.clap.specs.Walk.trailing 1) else long_or_other [] idle word (long_of word) nothing_held).1)) ≡ false
  dashes_full word true e = absurd (true≢false e)
  dashes_full word false e = long_full word (long_of word)

  name_full : (word : Text) (o : Option Text) → o ≡ None → bytes_eq word (45 ∷ 45 ∷ []) ≡ false
      → is_empty (or_else (other_fault bare o word nothing_held)
      (step_fault bare 1 (subcommand_or_other [] o idle 1 word nothing_held).0 (subcommand_or_other [] o idle 1 word nothing_held).1)) ≡ false
  name_full word None e dashes = dashes_full word (bytes_eq word (45 ∷ 45 ∷ [])) dashes
  name_full word (Some name) e dashes = absurd (true≢false (ap (λ o. Rattle.std.specs.Option.is_some o) e))

  turn_full : (names : Names) (word : Text) → subcommand_met names idle word ≡ None → bytes_eq word (45 ∷ 45 ∷ []) ≡ false
      → is_empty (turn_fault bare names (walk_from nothing_held) word) ≡ false
  turn_full names word none dashes = name_full word (subcommand_met names idle word) none dashes

  walk_full : (names : Names) (word : Text) (rest : List Text) → subcommand_met names idle word ≡ None → bytes_eq word (45 ∷ 45 ∷ []) ≡ false
      → is_empty (walk_fault bare names (walk_from nothing_held) (word ∷ rest)) ≡ false
  unfolding walk_fault
  walk_full names word rest none dashes =
      first_full (turn_fault bare names (walk_from nothing_held) word) (walk_fault bare names (walked [] names (walk_from nothing_held) word) rest)
      (turn_full names word none dashes)

-- ---- the parse

level_full : (s : Shape) (names : Names) (h : Held) (words : List Text) (b : Bool) (below : Kinds)
    → is_empty (walk_fault s names (walk_from h) words) ≡ false → is_empty (level_fault s names h words b below) ≡ false
level_full s names h words b below e = first_full (walk_fault s names (walk_from h) words) _ e

app_full : (a : App) (words : List Text)
    → is_empty (walk_fault (built a).top (names_of (built a)) (walk_from nothing_held) (argument_words a words)) ≡ false
    → is_empty (fault_of a words) ≡ false
app_full a words e = level_full (built a).top (names_of (built a)) nothing_held (argument_words a words) _ _ e

no_name : (first : Text) → bytes_eq (codes "run") first ≡ false → bytes_eq (codes "step") first ≡ false → bytes_eq (codes "check") first ≡ false
    → bytes_eq (codes "why") first ≡ false → bytes_eq (codes "bench") first ≡ false → subcommand_met (names_of (built the_app)) idle first ≡ None
no_name first run step check why bench = rw (run, step, check, why, bench) refl

other_full : (first : Text) (rest : List Text) → bytes_eq (codes "run") first ≡ false → bytes_eq (codes "step") first ≡ false
    → bytes_eq (codes "check") first ≡ false → bytes_eq (codes "why") first ≡ false → bytes_eq (codes "bench") first ≡ false → bytes_eq first (45 ∷ 45 ∷ []) ≡ false
    → is_empty (fault_of the_app (first ∷ rest)) ≡ false
other_full first rest run step check why bench dashes =
    app_full the_app (first ∷ rest) (walk_full (built the_app).top (names_of (built the_app)) first rest (no_name first run step check why bench) dashes)

-- after `--` each word is a value, and no argument takes one
trailing_full : (rest : List Text) → is_empty (fault_of the_app ((45 ∷ 45 ∷ []) ∷ rest)) ≡ false
unfolding clap_on_literals
trailing_full [] = refl
trailing_full (x ∷ xs) = refl

refused_by : (words : List Text) → is_empty (fault_of the_app words) ≡ false → command_of words ≡ None
unfolding command_of
refused_by words e = rw e refl

differs : (a b : Text) → (b ≡ a → ⊥) → bytes_eq a b ≡ false
differs a b other = go (bytes_eq a b) refl
  where
    go : (t : Bool) → bytes_eq a b ≡ t → bytes_eq a b ≡ false
    go false e = e
    go true e = absurd (other (sym ((bytes_eq-Decides a b).0 e)))

pub other_first_word : (first : Text) (rest : List Text) → (first ≡ codes "run" → ⊥) → (first ≡ codes "step" → ⊥) → (first ≡ codes "check" → ⊥)
    → (first ≡ codes "why" → ⊥) → (first ≡ codes "bench" → ⊥) → command_of (first ∷ rest) ≡ None
other_first_word first rest run step check why bench = refused_by (first ∷ rest) (go (bytes_eq first (45 ∷ 45 ∷ [])) refl)
  where
    go : (b : Bool) → bytes_eq first (45 ∷ 45 ∷ []) ≡ b → is_empty (fault_of the_app (first ∷ rest)) ≡ false
    go false e =
        other_full first rest (differs (codes "run") first run) (differs (codes "step") first step) (differs (codes "check") first check)
        (differs (codes "why") first why) (differs (codes "bench") first bench) e
    go true e =
        subst (λ (w : Text). is_empty (fault_of the_app (w ∷ rest)) ≡ false) (sym ((bytes_eq-Decides first (45 ∷ 45 ∷ [])).0 e)) (trailing_full rest)
