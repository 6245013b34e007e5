-- An option that clap has taken holds a number in its range, whatever the words.
use Rattle.std.proofs.Common.{◌≡◌, ◌∙◌, ◌<◌, ◌≤◌, ◌^◌, ◌&&◌, ◌||◌, ◌++◌, ℕ, Bool, true, false, zero, suc, refl, sym, ap, subst, arith, List, [], ◌∷◌, length, Option, Some, None, true≢false, codes, append-nil}
use Rattle.std.specs.Prelude.{⊤, pos, not, find, fold, is_some, option_and_then, slice_get, if◌then◌else◌}
use Rattle.std.specs.Str.{bytes_eq, chars}
use Rattle.std.specs.Str.Parse.{ParsesUnsigned}
use Rattle.std.proofs.lemmas.Slice.Eq.{bytes_eq-Decides}
use Rattle.std.specs.List.{AllByRecursion, list_any}
use Rattle.std.specs.Option.{option_map_or}
use Rattle.clap.specs.Lexer.{long_of, short_of, without_minus}
use Rattle.clap.specs.ValueTests.{accepts}
use Rattle.clap.specs.Values.{refused_kind}
use Rattle.clap.specs.declared.error.kind.ErrorKind.{ErrorKind}
use Rattle.clap.specs.declared.error.kind.ErrorKind.TheVariants.{ArgumentConflict, TooManyValues}
use Rattle.clap.specs.Kinds.{Kinds, or_else, range_kinds, value_kinds, values_kinds}
use Rattle.clap.specs.Faults.{check_fault, defaults_fault, flag_word_fault, level_fault, long_fault, option_fault, other_fault, react_fault, repeat_fault, set_fault, settle_fault, step_fault, turn_fault, use_fault, values_fault, walk_fault, word_fault}
use Rattle.clap.specs.Walk.{Held, Outcome, Row, Rule, Step, Text, Waiting, Walk, after_flag, after_step, arg_by_id, arg_by_index, arg_by_long, arg_by_short, at_row, bundle_met, bundle_step, default_rows, done, finished, flag_met, has_row, idle, long_met, has_long, long_or_other, more_values, next, nothing_held, option, option_met, option_word, plain, plain_word, positional, reading_by, refused, row_text, rows_after, settled, settled_rows, short_met, short_or_plain, subcommand, subcommand_met, subcommand_or_other, takes_values, to_positional, trailing, used, used_by_id, value, values_or_missing, waits, walk, walk_from, walked, walked_from, with_default, with_values, without, word_met}
use Rattle.clap.specs.Simple.{Shape, built, filled, new_rule, new_shape, with_index}
use Rattle.clap.specs.declared.builder.value_parser.ValueParser.{ValueParser}
use Rattle.clap.specs.declared.builder.action.ArgAction.TheVariants.{Set}
use Rattle.clap.specs.declared.builder.value_parser.ValueParser.TheVariants.{Signed}
use Rattle.clap.specs.declared.parser.matches.ValueSource.{ValueSource}
use Rattle.clap.specs.declared.parser.matches.ValueSource.TheVariants.{CommandLine, DefaultValue}
use Rattle.clap.proofs.ValueTestLemmas.{accepts-Accepts}
use Rattle.clap.proofs.CallerReads.{signed_reads}
use Rattle.command_line.specs.Words.{brief_rule, number_at, number_of, the_app}
use Rattle.command_line.proofs.Reading.{reads_own}

-- ---- the subcommands as they are built

abbrev first_shape : List Shape → Shape
first_shape [] = new_shape []
first_shape (s ∷ rest) = s

abbrev later_shapes : List Shape → List Shape
later_shapes [] = []
later_shapes (s ∷ rest) = rest

abbrev pub run_shape : Shape
run_shape = first_shape (built the_app).subs

abbrev pub step_shape : Shape
step_shape = first_shape (later_shapes (built the_app).subs)

abbrev pub check_shape : Shape
check_shape = first_shape (later_shapes (later_shapes (built the_app).subs))

abbrev pub why_shape : Shape
why_shape = first_shape (later_shapes (later_shapes (later_shapes (built the_app).subs)))

abbrev pub bench_shape : Shape
bench_shape = first_shape (later_shapes (later_shapes (later_shapes (later_shapes (built the_app).subs))))

-- ---- lists of kinds

abbrev is_none : Kinds → Bool
is_none [] = true
is_none (x ∷ xs) = false

pub cons≢nil : {k : ErrorKind} {ks : Kinds} → k ∷ ks ≡ [] → ⊥
cons≢nil e = true≢false (sym (ap is_none e))

pub none_first : (a b : Kinds) → or_else a b ≡ [] → a ≡ []
none_first [] b e = refl
none_first (k ∷ ks) b e = e

pub none_second : (a b : Kinds) → or_else a b ≡ [] → b ≡ []
none_second [] b e = e
none_second (k ∷ ks) b e = absurd (cons≢nil e)

-- ---- rows

pub either_false : (a b : Bool) → (a || b) ≡ false → (a ≡ false) × (b ≡ false)
either_false true b e = absurd (true≢false e)
either_false false b e = (refl, e)

-- where no row has the id, the change comes at the end
at_end : (id : Text) (change : Row → List Row) (missing rows : List Row) → has_row id rows ≡ false → at_row id change missing rows ≡ rows ++ missing
at_end id change missing [] e = refl
at_end id change missing (r ∷ rs) e =
    let parts = either_false (bytes_eq r.id id) _ e in
    rw parts.0 (ap (λ (xs : List Row). r ∷ xs) (at_end id change missing rs parts.1))

module _ (P : Row → Type 0) where
  all_more : (rows : List Row) (r : Row) → AllByRecursion P rows → P r → AllByRecursion P (rows ++ r ∷ [])
  all_more [] r all one = (one, tt)
  all_more (x ∷ xs) r all one = (all.0, all_more xs r all.1 one)

abbrev new_row : Rule → ValueSource → List Text → Row
new_row b source values = record {
  id = b.id;
  values = values;
  count = None;
  source = Some source;
  reading = reading_by b;
}

given_at_end : (b : Rule) (source : ValueSource) (values : List Text) (rows : List Row) → has_row b.id rows ≡ false
    → with_values b.id (reading_by b) source values rows ≡ rows ++ new_row b source values ∷ []
given_at_end b source values rows e = at_end b.id (more_values source values) (new_row b source values ∷ []) rows e

no_row : (id : Text) (rows : List Row) → repeat_fault false id rows ≡ [] → has_row id rows ≡ false
no_row id rows e = go (has_row id rows) refl e
  where
    go : (t : Bool) → has_row id rows ≡ t → (if t && true then ArgumentConflict ∷ [] else []) ≡ []
        → has_row id rows ≡ false
    go false is h = is
    go true is h = absurd (cons≢nil h)

-- ---- what a use of an argument keeps of each row

module _ (P : Row → Type 0) where
  abbrev pub AllGood : List Row → Type 0
  AllGood rows = AllByRecursion P rows

  -- a value set where no row has the id
  pub set_keeps : (b : Rule) (values : List Text) (rows : List Row) → set_fault false b values rows ≡ []
      → (values_fault b values ≡ [] → P (new_row b CommandLine values)) → AllGood rows
      → AllGood (with_values b.id (reading_by b) CommandLine values (without b.id rows))
  set_keeps b values rows e one all =
      let free = no_row b.id rows (none_first _ (values_fault b values) e) in
      let same : without b.id rows ≡ rows = at_end b.id (λ _. []) [] rows free ∙ append-nil rows in
      subst AllGood (sym (ap (with_values b.id (reading_by b) CommandLine values) same ∙ given_at_end b CommandLine values rows free))
      (all_more P rows (new_row b CommandLine values) all (one (none_second _ (values_fault b values) e)))

  -- a use of the argument that clap takes keeps it
  abbrev pub Keeps : Bool → Rule → Type 0
  Keeps again b = (values : List Text) (rows : List Row) → use_fault again b values rows ≡ [] → AllGood rows → AllGood (used b values rows)

  abbrev pub FoundKeeps : Bool → Option Rule → Type 0
  FoundKeeps again None = ⊤
  FoundKeeps again (Some b) = Keeps again b

-- ---- one walk, and what holds of each row of it

-- no argument has a short name or a position
pub record HasLongNamesAlone (s : Shape) : Type 0 where
  pub shorts : (x : ℕ) → arg_by_short s.rules x ≡ None
  pub positionals : (i : ℕ) → arg_by_index s.rules i ≡ None

some≢none : {X : Type 0} {x : X} → Some x ≡ None → ⊥
some≢none e = true≢false (ap (λ o. is_some o) e)

module _ (s : Shape) (named : HasLongNamesAlone s) (P : Row → Type 0) where
  abbrev pub rules : List Rule
  rules = s.rules

  abbrev pub again : Bool
  again = s.args_override_self

  module _ (keeps : (p : Rule → Bool) → FoundKeeps P again (find p rules)) where
    by_id : (o : Option Rule) → FoundKeeps P again o → (values : List Text) (rows : List Row)
        → option_map_or (λ a. use_fault again a values rows) o [] ≡ [] → AllGood P rows → AllGood P (used_by_id o values rows)
    by_id None k values rows e all = all
    by_id (Some b) k values rows e all = k values rows e all

    pending_keeps : (o : Option (Text × List Text)) (rows : List Row)
        → option_map_or (λ p. option_map_or (λ a. use_fault again a p.1 rows) (arg_by_id rules p.0) []) o [] ≡ []
        → AllGood P rows → AllGood P (settled_rows rules o rows)
    pending_keeps None rows e all = all
    pending_keeps (Some p) rows e all = by_id (arg_by_id rules p.0) (keeps (λ a. bytes_eq a.id p.0)) p.1 rows e all

    settled_keeps : (h : Held) → settle_fault rules again h ≡ [] → AllGood P h.rows → AllGood P (settled rules h).rows
    settled_keeps h e all = pending_keeps h.pending h.rows e all

    reacted_keeps : (b : Rule) → Keeps P again b → (values : List Text) (h : Held) → react_fault rules again b values h ≡ [] → AllGood P h.rows
        → AllGood P (used b values (settled rules h).rows)
    reacted_keeps b k values h e all =
        k values (settled rules h).rows (none_second (settle_fault rules again h) _ e)
        (settled_keeps h (none_first (settle_fault rules again h) (use_fault again b values (settled rules h).rows) e) all)

    long_keeps : (o : Option Rule) → FoundKeeps P again o → (v : Option Text) (h : Held) → long_fault rules again o v h ≡ [] → AllGood P h.rows
        → AllGood P (long_met rules o v h).0.rows
    long_keeps None k v h e all = all
    long_keeps (Some b) k v h e all = go (takes_values b) v e
      where
        go : (t : Bool) (w : Option Text)
            → (if t then option_fault rules again b w h else (if is_some w then TooManyValues ∷ [] else react_fault rules again b [] h)) ≡ []
            → AllGood P (if t then option_met rules b w h else flag_met rules b w h).0.rows
        go true (Some x) f = reacted_keeps b k (x ∷ []) h f all
        go true None f = settled_keeps h f all
        go false (Some x) f = all
        go false None f = reacted_keeps b k [] h f all

    option_keeps : (o : Option Rule) (id word : Text) (h : Held) → AllGood P h.rows → AllGood P (option_word o id word h).0.rows
    option_keeps None id word h all = all
    option_keeps (Some a) id word h all = all

    plain_keeps : (waiting : Waiting) (word : Text) (h : Held) → AllGood P h.rows → AllGood P (plain_word rules waiting word h).0.rows
    plain_keeps idle word h all = all
    plain_keeps (option id) word h all = option_keeps (arg_by_id rules id) id word h all
    plain_keeps positional word h all = all

    flag_keeps : (waiting : Waiting) (word : Text) (h : Held) (outcome : Outcome) → AllGood P h.rows → AllGood P (after_flag rules waiting word h outcome).0.rows
    flag_keeps waiting word h done all = all
    flag_keeps waiting word h (waits id) all = all
    flag_keeps waiting word h plain all = plain_keeps waiting word h all
    flag_keeps waiting word h refused all = plain_keeps waiting word h all

    short_keeps : (o : Option Rule) (rest : Text) (h : Held) (more : Held → Held × Outcome) → o ≡ None → AllGood P h.rows → AllGood P (short_met rules o rest h more).0.rows
    short_keeps None rest h more none all = all
    short_keeps (Some b) rest h more none all = absurd (some≢none none)

    bundle_keeps : (k : ℕ) (flags : Text) (skip : ℕ) (outcome : Outcome) (h : Held) → AllGood P h.rows → AllGood P (bundle_met rules k flags skip outcome h).0.rows
    unfolding bundle_met
    bundle_keeps zero flags skip outcome h all = all
    bundle_keeps (suc k) flags skip outcome h all =
        go (slice_get (chars flags) 0) skip (λ rest n. bundle_keeps k rest n outcome h all)
      where
        go : (c : Option ℕ) (n : ℕ) → ((rest : Text) (m : ℕ) → AllGood P (bundle_met rules k rest m outcome h).0.rows)
            → AllGood P (bundle_step rules c flags n outcome h (bundle_met rules k)).0.rows
        go None n more = all
        go (Some x) zero more = short_keeps (arg_by_short rules x) _ h _ (named.shorts x) all
        go (Some x) (suc n) more = more _ n

    bundled_keeps : (waiting : Waiting) (word : Text) (o : Option Text) (h : Held) → AllGood P h.rows → AllGood P (short_or_plain rules waiting word o h).0.rows
    bundled_keeps waiting word None h all = plain_keeps waiting word h all
    bundled_keeps waiting word (Some flags) h all =
        flag_keeps waiting word _ _ (bundle_keeps (length flags) flags h.skip plain (record h { skip = 0 }) all)

    dashed_keeps : (waiting : Waiting) (word : Text) (o : Option (Text × Option Text)) (h : Held) → flag_word_fault rules again o word h ≡ [] → AllGood P h.rows
        → AllGood P (long_or_other rules waiting word o h).0.rows
    dashed_keeps waiting word None h e all = bundled_keeps waiting word (short_of word) h all
    dashed_keeps waiting word (Some p) h e all =
        flag_keeps waiting word _ _ (long_keeps (arg_by_long rules p.0) (keeps (λ a. not (is_some a.index) && has_long a p.0)) p.1 h e all)

    named_keeps : (o : Option Text) (waiting : Waiting) (position : ℕ) (word : Text) (h : Held) → o ≡ None → other_fault s o word h ≡ [] → AllGood P h.rows
        → AllGood P (subcommand_or_other rules o waiting position word h).0.rows
    named_keeps (Some name) waiting position word h none e all = all
    named_keeps None waiting position word h none e all = go (bytes_eq word (45 ∷ 45 ∷ [])) e
      where
        go : (b : Bool) → (if b then [] else flag_word_fault rules again (long_of word) word h) ≡ []
            → AllGood P (if b then (h, trailing position) else long_or_other rules waiting word (long_of word) h).0.rows
        go true f = all
        go false f = dashed_keeps waiting word (long_of word) h f all

    no_subcommand : (waiting : Waiting) (word : Text) → subcommand_met [] waiting word ≡ None
    no_subcommand idle word = refl
    no_subcommand (option id) word = refl
    no_subcommand positional word = refl

    word_keeps : (is_trailing : Bool) (waiting : Waiting) (position : ℕ) (word : Text) (h : Held) → word_fault s [] is_trailing waiting word h ≡ []
        → AllGood P h.rows → AllGood P (word_met rules [] is_trailing waiting position word h).0.rows
    word_keeps true waiting position word h e all = all
    word_keeps false waiting position word h e all =
        named_keeps (subcommand_met [] waiting word) waiting position word h (no_subcommand waiting word) e all

    positional_keeps : (o : Option Rule) (word : Text) (w : Walk) (h : Held) → o ≡ None → AllGood P h.rows → AllGood P (to_positional rules o word w h).held.rows
    positional_keeps None word w h none all = all
    positional_keeps (Some b) word w h none all = absurd (some≢none none)

    step_keeps : (word : Text) (w : Walk) (h : Held) (step : Step) → AllGood P h.rows → AllGood P (after_step rules word w h step).held.rows
    step_keeps word w h (next waiting) all = all
    step_keeps word w h (trailing position) all = all
    step_keeps word w h (subcommand name) all = all
    step_keeps word w h value all = positional_keeps (arg_by_index rules w.position) word w h (named.positionals w.position) all

    turn_keeps : (w : Walk) (word : Text) → turn_fault s [] w word ≡ [] → AllGood P w.held.rows → AllGood P (walked rules [] w word).held.rows
    unfolding walked
    turn_keeps w word e all = go w.stopped e
      where
        met : Held × Step
        met = word_met rules [] w.is_trailing w.waiting w.position word w.held

        go : (o : Option (Text × List Text))
            → (if is_some o then [] else or_else (word_fault s [] w.is_trailing w.waiting word w.held) (step_fault s w.position met.0 met.1)) ≡ []
            → AllGood P (walked_from rules [] o w word).held.rows
        go (Some p) f = all
        go None f =
            step_keeps word w met.0 met.1
            (word_keeps w.is_trailing w.waiting w.position word w.held
            (none_first (word_fault s [] w.is_trailing w.waiting word w.held) (step_fault s w.position met.0 met.1) f) all)

    walk_keeps : (words : List Text) (w : Walk) → walk_fault s [] w words ≡ [] → AllGood P w.held.rows → AllGood P (fold (walked rules []) w words).held.rows
    unfolding walk_fault
    walk_keeps [] w e all = all
    walk_keeps (word ∷ rest) w e all =
        walk_keeps rest (walked rules [] w word)
        (none_second (turn_fault s [] w word) (walk_fault s [] (walked rules [] w word) rest) e)
        (turn_keeps w word (none_first (turn_fault s [] w word) (walk_fault s [] (walked rules [] w word) rest) e) all)

    -- the rows after all the words
    pub settled_rows_keep : (words : List Text) → level_fault s [] nothing_held words false [] ≡ [] → AllGood P (settled rules (walk rules [] nothing_held words).held).rows
    settled_rows_keep words e =
        let end : Held = (walk rules [] nothing_held words).held in
        let walked_fault : Kinds = walk_fault s [] (walk_from nothing_held) words in
        let last : Kinds = or_else (defaults_fault (settled rules end).rows rules) (check_fault s (finished rules end) false) in
        settled_keeps end (none_first (settle_fault rules again end) last (none_second walked_fault (or_else (settle_fault rules again end) last) e))
        (walk_keeps words (walk_from nothing_held) (none_first walked_fault (or_else (settle_fault rules again end) last) e) tt)

-- ---- the rows at the end have the option

has_end : (id : Text) (rows : List Row) (r : Row) → bytes_eq r.id id ≡ true → has_row id (rows ++ r ∷ []) ≡ true
has_end id [] r e = rw e refl
has_end id (x ∷ xs) r e = go (bytes_eq x.id id) (has_end id xs r e)
  where
    go : (b : Bool) → has_row id (xs ++ r ∷ []) ≡ true → (b || has_row id (xs ++ r ∷ [])) ≡ true
    go true f = refl
    go false f = f

has_more : (id : Text) (rows : List Row) (r : Row) → has_row id rows ≡ true → has_row id (rows ++ r ∷ []) ≡ true
has_more id [] r e = absurd (true≢false (sym e))
has_more id (x ∷ xs) r e = go (bytes_eq x.id id) e (has_more id xs r)
  where
    go : (b : Bool) → (b || has_row id xs) ≡ true → (has_row id xs ≡ true → has_row id (xs ++ r ∷ []) ≡ true)
        → (b || has_row id (xs ++ r ∷ [])) ≡ true
    go true f more = refl
    go false f more = more f

record Defaulted (P : Row → Type 0) (rows : List Row) (b : Rule) (now : List Row) : Type 0 where
  good : AllByRecursion P now
  has : has_row b.id now ≡ true
  kept : (id : Text) → has_row id rows ≡ true → has_row id now ≡ true

defaulted : (P : Row → Type 0) (rows : List Row) (b : Rule) (v : Text) (vs : List Text) → b.defaults ≡ v ∷ vs → P (new_row b DefaultValue (v ∷ vs))
    → AllByRecursion P rows → Defaulted P rows b (with_default rows b)
defaulted P rows b v vs is one all =
    subst (λ (ds : List Text). Defaulted P rows b (if has_row b.id rows then rows else default_rows b.id (reading_by b) ds rows)) (sym is)
    (go (has_row b.id rows) refl)
  where
    go : (t : Bool) → has_row b.id rows ≡ t → Defaulted P rows b (if t then rows else with_values b.id (reading_by b) DefaultValue (v ∷ vs) rows)
    go true e = record { good = all; has = e; kept = λ id f. f }
    go false e =
        subst (Defaulted P rows b) (sym (given_at_end b DefaultValue (v ∷ vs) rows e))
        (record {
          good = all_more P rows (new_row b DefaultValue (v ∷ vs)) all one;
          has = has_end b.id rows (new_row b DefaultValue (v ∷ vs)) ((bytes_eq-Decides b.id b.id).1 refl);
          kept = λ id f. has_more id rows (new_row b DefaultValue (v ∷ vs)) f;
        })

-- ---- an option with a number

-- a row of the option holds a number in the range
abbrev pub Holds : ℕ → Text → ℕ → ℕ → Row → Type 0
Holds bits id low high r = bytes_eq r.id id ≡ true → (n : ℕ) × (option_and_then (number_of bits) (row_text r) ≡ Some n) × (low ≤ n) × (n ≤ high)

accepted : (low high : ℕ) (t : Text) → high < 2 ^ 32 → accepts false (Signed (pos low) (pos high)) t ≡ true
    → (n : ℕ) × (number_of 32 (without_minus t) ≡ Some n) × (low ≤ n) × (n ≤ high)
accepted low high t small e =
    signed_reads ⊤ (λ u r. ParsesUnsigned 32 10 u r) 32 low high t (number_of 32 (without_minus t)) (reads_own 32 (without_minus t)) (λ u x g. g) small
    (accepts-Accepts false (Signed (pos low) (pos high)) t e)

pub first_accepted : (p : ValueParser) (v : Text) (vs : List Text) → values_kinds false p (v ∷ vs) ≡ [] → accepts false p v ≡ true
first_accepted p v vs e = go (accepts false p v) refl (none_first (value_kinds false p v) (values_kinds false p vs) e)
  where
    go : (b : Bool) → accepts false p v ≡ b → (if b then [] else refused_kind p ∷ []) ≡ [] → accepts false p v ≡ true
    go true is f = is
    go false is f = absurd (cons≢nil f)

pub found : (bits : ℕ) (id : Text) (low high : ℕ) (rows : List Row) → has_row id rows ≡ true → AllByRecursion (Holds bits id low high) rows
    → (n : ℕ) × (number_at bits id rows ≡ Some n) × (low ≤ n) × (n ≤ high)
found bits id low high [] e all = absurd (true≢false (sym e))
found bits id low high (r ∷ rs) e all = go (bytes_eq r.id id) refl e (λ f. found bits id low high rs f all.1)
  where
    go : (b : Bool) → bytes_eq r.id id ≡ b → (b || has_row id rs) ≡ true
        → (has_row id rs ≡ true → (n : ℕ) × (number_at bits id rs ≡ Some n) × (low ≤ n) × (n ≤ high))
        → (n : ℕ) × (option_and_then (number_of bits) (option_and_then row_text (if b then Some r else find (λ x. bytes_eq x.id id) rs)) ≡ Some n) × (low ≤ n) × (n ≤ high)
    go true is f more = all.0 is
    go false is f more = more f

-- ---- the arguments of a subcommand

-- an argument whose uses keep what holds of each row, and whose default meets it
record Suits (P : Row → Type 0) (again : Bool) (b : Rule) : Type 0 where
  keeps : Keeps P again b
  first : Text
  rest : List Text
  defaults : b.defaults ≡ first ∷ rest
  default : P (new_row b DefaultValue (first ∷ rest))

or_true : (x y : Bool) → y ≡ true → (x || y) ≡ true
or_true true y e = refl
or_true false y e = e

either : (x y z now : Bool) → (x || (y || z)) ≡ true → (x ≡ true → now ≡ true) → (y ≡ true → now ≡ true) → (now || z) ≡ true
either true y z now e old new = rw (old refl) refl
either false true z now e old new = rw (new refl) refl
either false false true now e old new = or_true now true refl
either false false false now e old new = absurd (true≢false (sym e))

module _ (P : Row → Type 0) (again : Bool) where
  pub all_keep : (rs : List Rule) → AllByRecursion (Keeps P again) rs → (p : Rule → Bool) → FoundKeeps P again (find p rs)
  all_keep [] keep p = tt
  all_keep (b ∷ rs) keep p = go (p b) (all_keep rs keep.1 p)
    where
      go : (x : Bool) → FoundKeeps P again (find p rs) → FoundKeeps P again (if x then Some b else find p rs)
      go true rest = keep.0
      go false rest = rest

  uses_keep : (rs : List Rule) → AllByRecursion (Suits P again) rs → AllByRecursion (Keeps P again) rs
  uses_keep [] suits = tt
  uses_keep (b ∷ rs) suits = (suits.0.keeps, uses_keep rs suits.1)

  -- the rows with each default, one of which has the id
  all_defaulted : (id : Text) (rs : List Rule) (rows : List Row) → AllByRecursion (Suits P again) rs → AllByRecursion P rows
      → (has_row id rows || list_any (λ b. bytes_eq b.id id) rs) ≡ true
      → AllByRecursion P (fold with_default rows rs) × (has_row id (fold with_default rows rs) ≡ true)
  all_defaulted id [] rows suits all has = (all, go (has_row id rows) has)
    where
      go : (x : Bool) → (x || false) ≡ true → x ≡ true
      go true e = refl
      go false e = e
  all_defaulted id (b ∷ rs) rows suits all has =
      let one = defaulted P rows b suits.0.first suits.0.rest suits.0.defaults suits.0.default all in
      let own : bytes_eq b.id id ≡ true → has_row id (with_default rows b) ≡ true
      = λ same. subst (λ (t : Text). has_row t (with_default rows b) ≡ true) ((bytes_eq-Decides b.id id).0 same) one.has in
      all_defaulted id rs (with_default rows b) suits.1 one.good
      (either (has_row id rows) (bytes_eq b.id id) (list_any (λ c. bytes_eq c.id id) rs) (has_row id (with_default rows b)) has (one.kept id) own)

abbrev number_rule : Text → List Text → Bool → ℕ → ℕ → Rule
number_rule id defaults required low high = record (new_rule id) {
  long = Some id;
  action = Some Set;
  parser = Some (Signed (pos low) (pos high));
  defaults = defaults;
  required = required;
}

abbrev pub number_built : Text → List Text → Bool → ℕ → ℕ → Rule
number_built id defaults required low high = with_index 1 (filled (number_rule id defaults required low high))

abbrev brief_built : Rule
brief_built = with_index 1 (filled brief_rule)

module _ (id : Text) (low high : ℕ) where
  abbrev pub IsOption : Row → Type 0
  IsOption = Holds 32 id low high

  -- the option itself
  pub own_keeps : (defaults : List Text) (required : Bool) → high < 2 ^ 32 → Keeps IsOption false (number_built id defaults required low high)
  own_keeps defaults required small [] rows e all = absurd (cons≢nil e)
  own_keeps defaults required small (v ∷ vs) rows e all =
      set_keeps IsOption (number_built id defaults required low high) (v ∷ vs) rows
      (none_second (range_kinds 1 1 (length (v ∷ vs))) (set_fault false (number_built id defaults required low high) (v ∷ vs) rows) e)
      (λ f same. accepted low high v small (first_accepted (Signed (pos low) (pos high)) v vs f)) all

  own_suits : (default : Text) (n : ℕ) → high < 2 ^ 32 → number_of 32 (without_minus default) ≡ Some n → low ≤ n → n ≤ high
      → Suits IsOption false (number_built id (default ∷ []) false low high)
  own_suits default n small is above below = record {
    keeps = own_keeps (default ∷ []) false small;
    first = default;
    rest = [];
    defaults = refl;
    default = λ same. (n, is, above, below);
  }

  -- a use of another argument leaves the option's row
  other_keeps : (b : Rule) (values : List Text) (rows : List Row) → bytes_eq b.id id ≡ false → set_fault false b values rows ≡ []
      → AllByRecursion IsOption rows → AllByRecursion IsOption (with_values b.id (reading_by b) CommandLine values (without b.id rows))
  other_keeps b values rows other e all =
      set_keeps IsOption b values rows e (λ f same. absurd (true≢false (sym same ∙ other))) all

  pub other_number_keeps : (name : Text) (defaults : List Text) (required : Bool) (least most : ℕ) → bytes_eq name id ≡ false
      → Keeps IsOption false (number_built name defaults required least most)
  other_number_keeps name defaults required least most other values rows e all =
      let b : Rule = number_built name defaults required least most in
      other_keeps b (values_or_missing b values) rows other
      (none_second (range_kinds 1 1 (length values)) (set_fault false b (values_or_missing b values) rows) e) all

  other_suits : (name default : Text) (least most : ℕ) → bytes_eq name id ≡ false → Suits IsOption false (number_built name (default ∷ []) false least most)
  other_suits name default least most other = record {
    keeps = other_number_keeps name (default ∷ []) false least most other;
    first = default;
    rest = [];
    defaults = refl;
    default = λ same. absurd (true≢false (sym same ∙ other));
  }

  brief_suits : bytes_eq (codes "brief") id ≡ false → Suits IsOption false brief_built
  brief_suits other = record {
    keeps = λ values rows e all.
        other_keeps brief_built (values_or_missing brief_built values) rows other
        (none_second (range_kinds 0 0 (length values)) (set_fault false brief_built (values_or_missing brief_built values) rows) e) all;
    first = codes "false";
    rest = [];
    defaults = refl;
    default = λ same. absurd (true≢false (sym same ∙ other));
  }

  -- the number of the option after the words of a subcommand that clap takes
  abbrev pub IsTaken : ℕ → Shape → Type 0
  IsTaken bits s = (words : List Text) → level_fault s [] nothing_held words false [] ≡ []
      → (n : ℕ) × (number_at bits id (rows_after s.rules [] words) ≡ Some n) × (low ≤ n) × (n ≤ high)

  option_accepted : (s : Shape) → HasLongNamesAlone s → AllByRecursion (Suits IsOption s.args_override_self) s.rules
      → list_any (λ b. bytes_eq b.id id) s.rules ≡ true → IsTaken 32 s
  option_accepted s named suits has words e =
      let rows : List Row = (settled s.rules (walk s.rules [] nothing_held words).held).rows in
      let all = settled_rows_keep s named IsOption (all_keep IsOption s.args_override_self s.rules (uses_keep IsOption s.args_override_self s.rules suits)) words e in
      let one : (has_row id rows || list_any (λ b. bytes_eq b.id id) s.rules) ≡ true = or_true (has_row id rows) _ has in
      let last = all_defaulted IsOption s.args_override_self id s.rules rows suits all one in
      found 32 id low high (rows_after s.rules [] words) last.1 last.0

-- ---- the numbers of `run` and of `step`

limit_suits : Suits (Holds 32 (codes "limit") 1 100000000) false (number_built (codes "limit") (codes "1000000" ∷ []) false 1 100000000)
limit_suits = own_suits (codes "limit") 1 100000000 (codes "1000000") 1000000 (omega arith) refl (omega arith) (omega arith)

run_names : HasLongNamesAlone run_shape
run_names = record { shorts = λ x. refl; positionals = λ i. refl }

step_names : HasLongNamesAlone step_shape
step_names = record { shorts = λ x. refl; positionals = λ i. refl }

pub workers_of_run : IsTaken (codes "workers") 1 4 32 run_shape
workers_of_run =
    option_accepted (codes "workers") 1 4 run_shape run_names (
      own_suits (codes "workers") 1 4 (codes "1") 1 (omega arith) refl (omega arith) (omega arith),
      (other_suits (codes "workers") 1 4 (codes "limit") (codes "1000000") 1 100000000 refl, (brief_suits (codes "workers") 1 4 refl, tt)),
    ) refl

pub limit_of_run : IsTaken (codes "limit") 1 100000000 32 run_shape
limit_of_run =
    option_accepted (codes "limit") 1 100000000 run_shape run_names (
      other_suits (codes "limit") 1 100000000 (codes "workers") (codes "1") 1 4 refl,
      (limit_suits, (brief_suits (codes "limit") 1 100000000 refl, tt)),
    ) refl

pub seed_of_step : IsTaken (codes "seed") 0 4294967295 32 step_shape
seed_of_step =
    option_accepted (codes "seed") 0 4294967295 step_shape step_names (
      own_suits (codes "seed") 0 4294967295 (codes "0") 0 (omega arith) refl (omega arith) (omega arith),
      (other_suits (codes "seed") 0 4294967295 (codes "limit") (codes "1000000") 1 100000000 refl, (brief_suits (codes "seed") 0 4294967295 refl, tt)),
    ) refl

pub limit_of_step : IsTaken (codes "limit") 1 100000000 32 step_shape
limit_of_step =
    option_accepted (codes "limit") 1 100000000 step_shape step_names (
      other_suits (codes "limit") 1 100000000 (codes "seed") (codes "0") 0 4294967295 refl,
      (limit_suits, (brief_suits (codes "limit") 1 100000000 refl, tt)),
    ) refl
