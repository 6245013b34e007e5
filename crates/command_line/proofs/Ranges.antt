-- What the definition says of its own values, and how a parse comes to it.
use Rattle.std.proofs.Common.{◌≡◌, ◌∙◌, ◌≤◌, ℕ, Bool, true, false, refl, sym, ap, ap₂, subst, arith, List, [], ◌∷◌, Option, Some, None, true≢false, codes, inl, inr}
use Rattle.std.specs.Prelude.{⊤, is_some, option_map, option_and_then, if◌then◌else◌}
use Rattle.std.proofs.lemmas.Bool.{ne_eqb}
use Rattle.clap.specs.Kinds.{HasKind, IsAmong, Kinds, or_else}
use Rattle.std.specs.Option.{option_map_or}
use Rattle.clap.specs.Faults.{check_fault, defaults_fault, entered_fault, settle_fault, fault_of, is_simple_and_free, level_fault, walk_fault}
use Rattle.clap.specs.Walk.{Held, Names, Row, Text, finished, settled, answers_to, is_empty, nothing_held, rows_after, stop_after, walk, walk_from}
use Rattle.clap.specs.Simple.{App, Shape, argument_words, built, entered, is_simple, label_of, names_of, rows_at, subcommand_of}
use Rattle.clap.specs.Values.{kind_of}
use Rattle.clap.specs.declared.error.Error.{Error}
use Rattle.clap.specs.declared.error.kind.ErrorKind.{ErrorKind}
use Rattle.clap.specs.declared.error.kind.ErrorKind.TheVariants.{OutOfMemory}
use Rattle.clap.proofs.OnLiterals.{clap_on_literals}
use Rattle.command_line.proofs.NeededNumbers.{place_of_why, ranks_of_bench, rounds_of_bench, seed_of_bench}
use Rattle.command_line.proofs.AcceptedNumbers.{bench_shape, check_shape, cons≢nil, limit_of_run, limit_of_step, none_first, none_second, run_shape, seed_of_step, step_shape, why_shape, workers_of_run}
use Rattle.command_line.specs.Words.{bench_of, command_of, flag_at, number_at, run_of, step_of, the_app, why_of, words_in}
use Rattle.command_line.specs.declared.words.Command.{Command}
use Rattle.command_line.specs.declared.words.Command.TheVariants.{Run, Step, Check, Why, Bench}

-- ---- the command

pub the_app_is_simple : is_simple the_app ≡ true
unfolding clap_on_literals
the_app_is_simple = refl

pub the_app_is_free : is_simple_and_free the_app ≡ true
unfolding clap_on_literals
the_app_is_free = refl

-- a parse that fails by one of these, and not by `NoMemory`
pub fails_for : (kinds : Kinds) (e : Error) → HasKind kinds e → (kind_of e ≡ OutOfMemory → ⊥) → IsAmong (kind_of e) kinds
fails_for kinds e has not_memory = elim has [
  | inl h ↦ absurd (not_memory h)
  | inr h ↦ h
]

pub accepted_in_range : (words : List Text) → fault_of the_app words ≡ [] → words_in (subcommand_of the_app words) ≡ command_of words
unfolding command_of
accepted_in_range words e = sym (rw e refl)

pub refused : (words : List Text) (k : ErrorKind) → IsAmong k (fault_of the_app words) → None ≡ command_of words
unfolding command_of
refused words k among = go (fault_of the_app words) among
  where
    go : (kinds : Kinds) → IsAmong k kinds → ◌≡◌ {A = Option Command} None (if is_empty kinds then words_in (subcommand_of the_app words) else None)
    go [] h = absurd h
    go (x ∷ xs) h =
        let full : is_empty (x ∷ xs) ≡ false = ne_eqb _ _ (λ e. omega arith) in
        rw full refl

-- ---- what clap takes is never refused, and each number is in its range

-- a command, with its numbers in their ranges
abbrev pub IsRead : Option Command → Type 0
IsRead None = ⊥
IsRead (Some (Run workers limit brief)) = (1 ≤ workers) × (workers ≤ 4) × (1 ≤ limit) × (limit ≤ 100000000)
IsRead (Some (Step seed limit brief)) = (1 ≤ limit) × (limit ≤ 100000000)
IsRead (Some Check) = ⊤
IsRead (Some (Why place)) = ⊤
IsRead (Some (Bench seed ranks rounds)) = (1 ≤ ranks) × (ranks ≤ 16) × (1 ≤ rounds) × (rounds ≤ 5000)

some_of : (o : Option Command) → IsRead o → is_some o ≡ true
some_of None read = absurd read
some_of (Some command) read = refl

-- two options that have numbers
pub both_given : (make : ℕ → ℕ → Command) (first second : Option ℕ) (m n : ℕ) → first ≡ Some m → second ≡ Some n
    → option_and_then (λ x. option_map (λ y. make x y) second) first ≡ Some (make m n)
both_given make first second m n one two = ap₂ (λ (a b : Option ℕ). option_and_then (λ x. option_map (λ y. make x y) b) a) one two

-- three options that have numbers
pub three_given : (make : ℕ → ℕ → ℕ → Command) (first second third : Option ℕ) (l m n : ℕ) → first ≡ Some l → second ≡ Some m → third ≡ Some n
    → option_and_then (λ x. option_and_then (λ y. option_map (λ z. make x y z) third) second) first ≡ Some (make l m n)
three_given make first second third l m n one two three =
    ap (option_and_then (λ x. option_and_then (λ y. option_map (λ z. make x y z) third) second)) one
    ∙ both_given (make l) second third m n two three

run_read : (words : List Text) → level_fault run_shape [] nothing_held words false [] ≡ [] → IsRead (run_of (rows_after run_shape.rules [] words))
run_read words e =
    let rows : List Row = rows_after run_shape.rules [] words in
    let workers = workers_of_run words e in
    let limit = limit_of_run words e in
    let given = both_given (λ m n. Run m n (flag_at (codes "brief") rows)) (number_at 32 (codes "workers") rows) (number_at 32 (codes "limit") rows)
    workers.0 limit.0 workers.1 limit.1 in
    subst IsRead (sym given)
    (workers.2, workers.3, limit.2, limit.3)

step_read : (words : List Text) → level_fault step_shape [] nothing_held words false [] ≡ [] → IsRead (step_of (rows_after step_shape.rules [] words))
step_read words e =
    let rows : List Row = rows_after step_shape.rules [] words in
    let seed = seed_of_step words e in
    let limit = limit_of_step words e in
    let given = both_given (λ m n. Step m n (flag_at (codes "brief") rows)) (number_at 32 (codes "seed") rows) (number_at 32 (codes "limit") rows)
    seed.0 limit.0 seed.1 limit.1 in
    subst IsRead (sym given)
    (limit.2, limit.3)

why_read : (words : List Text) → level_fault why_shape [] nothing_held words false [] ≡ [] → IsRead (why_of (rows_after why_shape.rules [] words))
why_read words e =
    let place = place_of_why words e in
    subst IsRead (sym (ap (option_map (λ k. Why k)) place.1)) tt

bench_read : (words : List Text) → level_fault bench_shape [] nothing_held words false [] ≡ [] → IsRead (bench_of (rows_after bench_shape.rules [] words))
bench_read words e =
    let rows : List Row = rows_after bench_shape.rules [] words in
    let seed = seed_of_bench words e in
    let ranks = ranks_of_bench words e in
    let rounds = rounds_of_bench words e in
    let given = three_given (λ l m n. Bench l m n) (number_at 32 (codes "seed") rows) (number_at 32 (codes "ranks") rows) (number_at 32 (codes "rounds") rows)
    seed.0 ranks.0 rounds.0 seed.1 ranks.1 rounds.1 in
    subst IsRead (sym given)
    (ranks.2, ranks.3, rounds.2, rounds.3)

-- the subcommand that a parse enters
abbrev shape_by : Bool → Bool → Bool → Bool → Bool → Option Shape
shape_by run step check why bench = if run then Some run_shape else (if step then Some step_shape
    else (if check then Some check_shape else (if why then Some why_shape else (if bench then Some bench_shape else None))))

entered_read : (stop : Option (Text × List Text)) → entered_fault (built the_app) stop ≡ [] → is_some (entered (built the_app) stop) ≡ true
    → IsRead (words_in (entered (built the_app) stop))
entered_read None passes some = absurd (true≢false (sym some))
entered_read (Some p) passes some =
    go (answers_to p.0 (label_of run_shape)) (answers_to p.0 (label_of step_shape)) (answers_to p.0 (label_of check_shape))
    (answers_to p.0 (label_of why_shape)) (answers_to p.0 (label_of bench_shape)) passes some
  where
    go : (a b c d f : Bool) → option_map_or (λ s. level_fault s [] nothing_held p.1 false []) (shape_by a b c d f) [] ≡ []
        → is_some (option_map (λ s. rows_at s p.1) (shape_by a b c d f)) ≡ true → IsRead (words_in (option_map (λ s. rows_at s p.1) (shape_by a b c d f)))
    go true b c d f passed g = run_read p.1 passed
    go false true c d f passed g = step_read p.1 passed
    go false false true d f passed g = tt
    go false false false true f passed g = why_read p.1 passed
    go false false false false true passed g = bench_read p.1 passed
    go false false false false false passed g = absurd (true≢false (sym g))

app_range : (a : App) (words : List Text) → fault_of a words ≡ []
    → entered_fault (built a) (walk (built a).top.rules (names_of (built a)) nothing_held (argument_words a words)).stopped ≡ []
app_range a words e =
    let stop : Option (Text × List Text) = (walk (built a).top.rules (names_of (built a)) nothing_held (argument_words a words)).stopped in
    none_first (entered_fault (built a) stop) _
    (none_second (walk_fault (built a).top (names_of (built a)) (walk_from nothing_held) (argument_words a words)) _ e)

-- a level that passes has the subcommand that it requires
check_has : (s : Shape) (rows : List Row) (has : Bool) → s.arg_required_else_help ≡ false → s.subcommand_required ≡ true → check_fault s rows has ≡ [] → has ≡ true
check_has s rows true help required e = refl
check_has s rows false help required e = absurd (cons≢nil (rw (help, required) at e))

level_has : (s : Shape) (names : Names) (words : List Text) (has : Bool) (below : Kinds) → s.arg_required_else_help ≡ false → s.subcommand_required ≡ true
    → level_fault s names nothing_held words has below ≡ [] → has ≡ true
level_has s names words has below help required e =
    let end : Held = (walk s.rules names nothing_held words).held in
    let checks : Kinds = check_fault s (finished s.rules end) has in
    let defaults : Kinds = defaults_fault (settled s.rules end).rows s.rules in
    let settles : Kinds = settle_fault s.rules s.args_override_self end in
    let walks : Kinds = walk_fault s names (walk_from nothing_held) words in
    check_has s (finished s.rules end) has help required
    (none_second defaults checks (none_second settles (or_else defaults checks)
    (none_second below (or_else settles (or_else defaults checks)) (none_second walks (or_else below (or_else settles (or_else defaults checks))) e))))

app_has : (a : App) (words : List Text) → (built a).top.arg_required_else_help ≡ false → (built a).top.subcommand_required ≡ true → fault_of a words ≡ []
    → is_some (entered (built a) (stop_after (built a).top.rules (names_of (built a)) (argument_words a words))) ≡ true
app_has a words help required e =
    level_has (built a).top (names_of (built a)) (argument_words a words) _ (entered_fault (built a) (walk (built a).top.rules (names_of (built a)) nothing_held (argument_words a words)).stopped)
    help required e

read : (words : List Text) → fault_of the_app words ≡ [] → IsRead (command_of words)
read words e =
    subst IsRead (accepted_in_range words e)
    (entered_read (stop_after (built the_app).top.rules (names_of (built the_app)) (argument_words the_app words)) (app_range the_app words e)
    (app_has the_app words refl refl e))

pub accepted_is_read : (words : List Text) → fault_of the_app words ≡ [] → is_some (command_of words) ≡ true
accepted_is_read words e = some_of (command_of words) (read words e)

pub command_read : (words : List Text) (command : Command) → command_of words ≡ Some command → IsRead (Some command)
command_read words command e = go (fault_of the_app words) refl
  where
    go : (kinds : Kinds) → fault_of the_app words ≡ kinds → IsRead (Some command)
    go [] is = subst IsRead e (read words is)
    go (k ∷ ks) is =
        let refusal : None ≡ command_of words = refused words k (subst (IsAmong k) (sym is) (inl refl)) in
        absurd (true≢false (sym (ap (λ (o : Option Command). is_some o) (refusal ∙ e))))
