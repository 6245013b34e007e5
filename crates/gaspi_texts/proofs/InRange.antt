-- What words spell is in range.
use Rattle.std.proofs.Common.{◌≡◌, ℕ, ◌+◌, ◌^◌, ◌<◌, Bool, true, false, ◌==◌, if◌then◌else◌, nat_lt, List, [], ◌∷◌, length, take, drop, position, codes, Option, Some, None, IfSome, refl, sym, subst, ◌∙◌, arith, rules}
use Rattle.std.specs.List.{AllByRecursion}
use Rattle.std.specs.Option.{option_map}
use Rattle.std.specs.Str.{bytes_eq}
use Rattle.std.proofs.lemmas.Bool.Decides.{nat_tests, Decides-eqb}
use Rattle.hex.specs.Hex.{IsBytes}
use Rattle.gaspi_types.specs.Collectives.{AreValuesOf}
use Rattle.gaspi_types.specs.Replies.{refusal_fields, coll_fields, stage_number, op_number, type_number}
use Rattle.gaspi_types.specs.declared.calls.Call.{Call}
use Rattle.gaspi_types.specs.declared.collectives.NumType.{NumType}
use Rattle.gaspi_types.specs.declared.collectives.NumType.TheVariants.{Int, Uint, Long, Ulong, Float, Double}
use Rattle.gaspi_types.specs.declared.collectives.Op.{Op}
use Rattle.gaspi_types.specs.declared.collectives.Op.TheVariants.{Min, Max, Sum}
use Rattle.gaspi_types.specs.declared.collectives.Stage.{Stage}
use Rattle.gaspi_types.specs.declared.collectives.Stage.TheVariants.{Building, Committed}
use Rattle.gaspi_types.specs.declared.collectives.Coll.{Coll}
use Rattle.gaspi_types.specs.declared.collectives.Coll.TheVariants.{Barrier, Allreduce, Create, Commit}
use Rattle.gaspi_types.specs.declared.groups.Args.{Args}
use Rattle.gaspi_types.specs.declared.replies.Reply.{Reply}
use Rattle.gaspi_types.specs.declared.replies.Reply.TheVariants as replies
use Rattle.gaspi_types.specs.declared.shapes.CallerId.{CallerId}
use Rattle.gaspi_types.specs.declared.events.Event.{Event}
use Rattle.gaspi_types.specs.declared.events.Event.TheVariants.{Called, Joined}
use Rattle.gaspi_types.specs.declared.events.Outcome.{Outcome}
use Rattle.call_texts.specs.CallText.{recorded_call_of, IsWritable}
use Rattle.call_texts.specs.Fields.{IsNumber}
use Rattle.call_texts.specs.Elements.{type_of, op_of, elements_of}
use Rattle.call_texts.specs.Steps.{◌>>=◌}
use Rattle.gaspi_texts.specs.declared.event_reading.Moved.{Moved}
use Rattle.gaspi_texts.specs.declared.reply_words.ReplyWord.{ReplyWord}
use Rattle.gaspi_texts.specs.declared.reply_words.ReplyWord.TheVariants as reply_words
use Rattle.gaspi_texts.specs.CallLaws.{CallLaws}
use Rattle.gaspi_texts.specs.EventReading.{exact_value, number_below, outcome_of, caller_of, called_with, called_of, joined_of, moved_of, taken, put, event_of}
use Rattle.gaspi_texts.specs.EventText.{arrow, IsInEventRange}
use Rattle.call_texts.specs.Hex.{bytes_of}
use Rattle.call_texts.specs.Numbers.{number_of, value_of, has_leading_zero}
use Rattle.gaspi_texts.specs.CollectiveText.{stage_of, one_field, allreduce_of, create_of, barrier_of, coll_of, AreArgsInRange, values_of, args_with, args_of}
use Rattle.gaspi_types.specs.Refusals.{RefusalForm, Bare, OneNumber, TwoNumbers, OneStage, OneCollective, Held, RefusalRow, refusal_rows, row_in}
use Rattle.gaspi_texts.specs.RefusalText.{numbers_of_held, held_of, refusal_of}
use Rattle.gaspi_types.specs.NumberTypes.{AreInType}
use Rattle.gaspi_texts.specs.ReplyText.{plain_reply, value_reply, bytes_reply, list_reply, refused_reply, reply_word_of, reply_with, reply_of, IsInRange}

-- Steps that may find nothing.

-- what follows for the value that is there
pub in_range_from : {A : Type 0} (P : A → Type 0) (o : Option A) (x : A) → IfSome o P → o ≡ Some x → P x
in_range_from P o x h e = subst (λ (found : Option _). IfSome found P) e h

mapped : {A B : Type 0} (P : B → Type 0) (f : A → B) (o : Option A) → IfSome o (λ x. P (f x)) → IfSome (option_map f o) P
mapped P f (Some x) h = h
mapped P f None h = tt

bound : {A B : Type 0} (P : A → Type 0) (Q : B → Type 0) (o : Option A) (f : A → Option B) → IfSome o P
    → ((x : A) → P x → IfSome (f x) Q) → IfSome (o >>= f) Q
bound P Q (Some x) f h next = next x h
bound P Q None f h next = tt

anything : {A : Type 0} (o : Option A) → IfSome o (λ x. Unit {0})
anything (Some x) = tt
anything None = tt

either : {A : Type 0} (P : A → Type 0) (b : Bool) (x y : Option A) → IfSome x P → IfSome y P → IfSome (if b then x else y) P
either P true x y first second = first
either P false x y first second = second

guarded : (P : ℕ → Type 0) (b : Bool) (n : ℕ) → (b ≡ true → P n) → IfSome (if b then Some n else None) P
guarded P true n h = h refl
guarded P false n h = tt

allowed : {A : Type 0} (P : A → Type 0) (b : Bool) (o : Option A) → (b ≡ true → IfSome o P) → IfSome (if b then o else None) P
allowed P true o h = h refl
allowed P false o h = tt

-- what holds of each value that an option can be
held : {A : Type 0} (P : A → Type 0) (o : Option A) → ((x : A) → o ≡ Some x → P x) → IfSome o P
held P (Some x) h = h x refl
held P None h = tt

-- The rows of refusals.

-- a refusal that is made of what it holds is compared by that
abbrev IsFair : RefusalRow → Type 0
IsFair row = (held : Held row.form) → refusal_fields (row.made held) ≡ numbers_of_held row.form held

rows-fair : AllByRecursion (λ row. IsFair row.1) refusal_rows
rows-fair = search rules

row_in-fair : (number : ℕ) (rows : List (ℕ × RefusalRow)) → AllByRecursion (λ row. IsFair row.1) rows → IfSome (row_in number rows) IsFair
row_in-fair number [] h = tt
row_in-fair number (row ∷ rows) h = either IsFair (number == row.0) (Some row.1) (row_in number rows) h.0 (row_in-fair number rows h.1)

module _ (laws : CallLaws) where
  -- Numbers, bytes and calls.

  value_range : (word : List ℕ) → IfSome (value_of word) (λ n. n < 2 ^ 32)
  value_range word = held (λ n. n < 2 ^ 32) (value_of word) (laws.value_range word)

  -- Replies.

  one_field-range : (fields : List (List ℕ)) → IfSome (one_field fields) (λ n. n < 2 ^ 32)
  one_field-range [] = tt
  one_field-range (word ∷ []) = value_range word
  one_field-range (word ∷ next ∷ words) = tt

  type_small : (t : NumType) → type_number t < 2 ^ 32
  type_small Int = omega arith
  type_small Uint = omega arith
  type_small Long = omega arith
  type_small Ulong = omega arith
  type_small Float = omega arith
  type_small Double = omega arith

  op_small : (op : Op) → op_number op < 2 ^ 32
  op_small Min = omega arith
  op_small Max = omega arith
  op_small Sum = omega arith

  stage_small : (stage : Stage) → stage_number stage < 2 ^ 32
  stage_small Building = omega arith
  stage_small Committed = omega arith

  allreduce_range : (op : Option Op) (t : Option NumType) (count : Option ℕ) → IfSome count (λ n. n < 2 ^ 32)
      → IfSome (op >>= λ o. (t >>= λ num_type. (count >>= λ n. Some (Allreduce o num_type n)))) (λ c. AllByRecursion (λ n. n < 2 ^ 32) (coll_fields c))
  allreduce_range (Some op) (Some t) (Some count) h = (omega arith, (op_small op, (type_small t, (h, tt))))
  allreduce_range None t count h = tt
  allreduce_range (Some op) None count h = tt
  allreduce_range (Some op) (Some t) None h = tt

  create_range : (segment size : Option ℕ) → IfSome segment (λ n. n < 2 ^ 32) → IfSome size (λ n. n < 2 ^ 32)
      → IfSome (segment >>= λ s. (size >>= λ n. Some (Create s n))) (λ c. AllByRecursion (λ n. n < 2 ^ 32) (coll_fields c))
  create_range (Some segment) (Some size) h k = (omega arith, (h, (k, tt)))
  create_range None size h k = tt
  create_range (Some segment) None h k = tt

  allreduce_of-range : (arguments : List (List ℕ)) → IfSome (allreduce_of arguments) (λ c. AllByRecursion (λ n. n < 2 ^ 32) (coll_fields c))
  allreduce_of-range (first ∷ second ∷ third ∷ []) =
      allreduce_range (op_of first) (type_of second) (value_of third) (value_range third)
  allreduce_of-range other = tt

  create_of-range : (arguments : List (List ℕ)) → IfSome (create_of arguments) (λ c. AllByRecursion (λ n. n < 2 ^ 32) (coll_fields c))
  create_of-range (first ∷ second ∷ []) = create_range (value_of first) (value_of second) (value_range first) (value_range second)
  create_of-range other = tt

  barrier_of-range : (arguments : List (List ℕ)) → IfSome (barrier_of arguments) (λ c. AllByRecursion (λ n. n < 2 ^ 32) (coll_fields c))
  barrier_of-range [] = (omega arith, tt)
  barrier_of-range (word ∷ words) = tt

  commit_range : (o : Option ℕ) → IfSome o (λ n. n < 2 ^ 32) → IfSome (option_map Commit o) (λ c. AllByRecursion (λ n. n < 2 ^ 32) (coll_fields c))
  commit_range (Some mask) h = (omega arith, (h, tt))
  commit_range None h = tt

  coll_of-range : (fields : List (List ℕ)) → IfSome (coll_of fields) (λ c. AllByRecursion (λ n. n < 2 ^ 32) (coll_fields c))
  unfolding coll_of
  coll_of-range [] = tt
  coll_of-range (word ∷ arguments) =
      either _ (bytes_eq (codes "barrier") word) _ _ (barrier_of-range arguments)
      (either _ (bytes_eq (codes "allreduce") word) _ _ (allreduce_of-range arguments)
      (either _ (bytes_eq (codes "create") word) _ _ (create_of-range arguments)
      (either _ (bytes_eq (codes "commit") word) _ None (commit_range (one_field arguments) (one_field-range arguments)) tt)))

  values_range : (c : Coll) (words : List (List ℕ)) → IfSome (values_of c words) (λ values. AreInType values.num_type values.items × AreValuesOf c values)
  values_range Barrier words = (tt, refl)
  values_range (Allreduce op num_type count) words =
      bound (λ items. AreInType num_type items × (length items ≡ count)) (λ values. AreInType values.num_type values.items × AreValuesOf (Allreduce op num_type count) values)
      (if length words == count then elements_of num_type words else None) (λ items. Some (record { num_type = num_type; items = items }))
      (allowed (λ items. AreInType num_type items × (length items ≡ count)) (length words == count) (elements_of num_type words) (λ same.
      held (λ items. AreInType num_type items × (length items ≡ count)) (elements_of num_type words) (λ items spelled.
      (laws.elements_range num_type words items spelled, laws.elements_counted num_type words items spelled ∙ (Decides-eqb (length words) count).0 same))))
      (λ items h. (h.0, (refl, h.1)))
  values_range (Create segment size) words = (tt, refl)
  values_range (Commit mask) words = (tt, refl)

  args_with-range : (found : Option Coll) (words : List (List ℕ)) → IfSome found (λ c. AllByRecursion (λ n. n < 2 ^ 32) (coll_fields c))
      → IfSome (args_with found words) AreArgsInRange
  args_with-range found words h =
      bound (λ c. AllByRecursion (λ n. n < 2 ^ 32) (coll_fields c)) AreArgsInRange found (λ c. values_of c words >>= λ values. Some (record { coll = c; values = values })) h
      (λ c small. bound (λ values. AreInType values.num_type values.items × AreValuesOf c values) AreArgsInRange (values_of c words) (λ values. Some (record { coll = c; values = values }))
      (values_range c words) (λ values k. record { numbers = small; elements = k.0; own = k.1 }))

  args_of-range : (words : List (List ℕ)) → IfSome (args_of words) AreArgsInRange
  unfolding args_of
  args_of-range (first ∷ second ∷ third ∷ fourth ∷ elements) =
      args_with-range (coll_of (first ∷ second ∷ third ∷ fourth ∷ [])) elements (coll_of-range (first ∷ second ∷ third ∷ fourth ∷ []))
  args_of-range words = args_with-range (coll_of words) [] (coll_of-range words)

  stage_range : (o : Option Stage) → IfSome o (λ stage. AllByRecursion (λ n. n < 2 ^ 32) (stage_number stage ∷ []))
  stage_range (Some stage) = (stage_small stage, tt)
  stage_range None = tt

  one_range : (o : Option ℕ) → IfSome o (λ n. n < 2 ^ 32) → IfSome o (λ n. AllByRecursion (λ m. m < 2 ^ 32) (n ∷ []))
  one_range (Some n) small = (small, tt)
  one_range None small = tt

  two_range : (first second : Option ℕ) → IfSome first (λ n. n < 2 ^ 32) → IfSome second (λ n. n < 2 ^ 32)
      → IfSome (first >>= λ m. (second >>= λ n. Some (m, n))) (λ (both : ℕ × ℕ). AllByRecursion (λ k. k < 2 ^ 32) (both.0 ∷ both.1 ∷ []))
  two_range (Some first) (Some second) h k = (h, (k, tt))
  two_range None second h k = tt
  two_range (Some first) None h k = tt

  held_of-range : (form : RefusalForm) (words : List (List ℕ)) → IfSome (held_of form words) (λ held. AllByRecursion (λ n. n < 2 ^ 32) (numbers_of_held form held))
  held_of-range Bare [] = tt
  held_of-range Bare (word ∷ words) = tt
  held_of-range OneNumber words = one_range (one_field words) (one_field-range words)
  held_of-range TwoNumbers (first ∷ second ∷ []) = two_range (value_of first) (value_of second) (value_range first) (value_range second)
  held_of-range TwoNumbers other = tt
  held_of-range OneStage [] = tt
  held_of-range OneStage (word ∷ []) = stage_range (stage_of word)
  held_of-range OneStage (word ∷ next ∷ words) = tt
  held_of-range OneCollective words = coll_of-range words

  made_range : (row : RefusalRow) (found : Option (Held row.form)) → IsFair row
      → IfSome found (λ held. AllByRecursion (λ n. n < 2 ^ 32) (numbers_of_held row.form held))
      → IfSome (option_map row.made found) (λ r. AllByRecursion (λ n. n < 2 ^ 32) (refusal_fields r))
  made_range row (Some held) fair small = subst (λ (ns : List ℕ). AllByRecursion (λ n. n < 2 ^ 32) ns) (sym (fair held)) small
  made_range row None fair small = tt

  refusal_of-range : (number : ℕ) (words : List (List ℕ)) → IfSome (refusal_of number words) (λ found. AllByRecursion (λ n. n < 2 ^ 32) (refusal_fields found))
  unfolding refusal_of
  refusal_of-range number words =
      bound IsFair (λ found. AllByRecursion (λ n. n < 2 ^ 32) (refusal_fields found)) (row_in number refusal_rows) (λ row. option_map row.made (held_of row.form words))
      (row_in-fair number refusal_rows rows-fair) (λ row fair. made_range row (held_of row.form words) fair (held_of-range row.form words))

  bytes_reply-range : (arguments : List (List ℕ)) → IfSome (bytes_reply arguments) IsInRange
  bytes_reply-range [] = tt
  bytes_reply-range (word ∷ []) = mapped IsInRange replies.Bytes (bytes_of word) (held IsBytes (bytes_of word) (laws.bytes_range word))
  bytes_reply-range (word ∷ next ∷ words) = tt

  value_reply-range : (arguments : List (List ℕ)) → IfSome (value_reply arguments) IsInRange
  value_reply-range [] = tt
  value_reply-range (word ∷ []) = mapped IsInRange replies.Value (number_of word) (held IsNumber (number_of word) (laws.number_range word))
  value_reply-range (word ∷ next ∷ words) = tt

  list_reply-range : (arguments : List (List ℕ)) → IfSome (list_reply arguments) IsInRange
  list_reply-range [] = tt
  list_reply-range (word ∷ elements) =
      bound (λ t. Unit {0}) IsInRange (type_of word) (λ t. elements_of t elements >>= λ items. Some (replies.List (record { num_type = t; items = items }))) (anything (type_of word))
      (λ t h. bound (AreInType t) IsInRange (elements_of t elements) (λ items. Some (replies.List (record { num_type = t; items = items }))) (held (AreInType t) (elements_of t elements) (laws.elements_range t elements)) (λ items k. k))

  refused_reply-range : (arguments : List (List ℕ)) → IfSome (refused_reply arguments) IsInRange
  refused_reply-range [] = tt
  refused_reply-range (word ∷ fields) =
      bound (λ n. Unit {0}) IsInRange (number_of word) (λ number. refusal_of number fields >>= λ refusal. Some (replies.Refused refusal)) (anything (number_of word))
      (λ number h. bound (λ r. AllByRecursion (λ n. n < 2 ^ 32) (refusal_fields r)) IsInRange (refusal_of number fields) (λ refusal. Some (replies.Refused refusal)) (refusal_of-range number fields) (λ refusal k. k))

  plain_reply-range : (reply : Reply) (arguments : List (List ℕ)) → IsInRange reply → IfSome (plain_reply reply arguments) IsInRange
  plain_reply-range reply [] h = h
  plain_reply-range reply (word ∷ words) h = tt

  reply_with-range : (kind : ReplyWord) (arguments : List (List ℕ)) → IfSome (reply_with kind arguments) IsInRange
  reply_with-range reply_words.Done arguments = plain_reply-range replies.Done arguments tt
  reply_with-range reply_words.Value arguments = value_reply-range arguments
  reply_with-range reply_words.Id arguments = mapped IsInRange replies.Id (one_field arguments) (one_field-range arguments)
  reply_with-range reply_words.Bytes arguments = bytes_reply-range arguments
  reply_with-range reply_words.Mask arguments = mapped IsInRange replies.Mask (one_field arguments) (one_field-range arguments)
  reply_with-range reply_words.List arguments = list_reply-range arguments
  reply_with-range reply_words.Timeout arguments = plain_reply-range replies.Timeout arguments tt
  reply_with-range reply_words.Refused arguments = refused_reply-range arguments

  reply_of-range : (words : List (List ℕ)) → IfSome (reply_of words) IsInRange
  unfolding reply_of
  reply_of-range [] = tt
  reply_of-range (word ∷ arguments) =
      bound (λ kind. Unit {0}) IsInRange (reply_word_of word) (λ kind. reply_with kind arguments) (anything (reply_word_of word)) (λ kind h. reply_with-range kind arguments)

  pub reply_in_range : (words : List (List ℕ)) (reply : Reply) → reply_of words ≡ Some reply → IsInRange reply
  reply_in_range words reply e = in_range_from IsInRange (reply_of words) reply (reply_of-range words) e

  -- Events.

  exact_range : (word : List ℕ) → IfSome (exact_value word) (λ n. n < 2 ^ 32)
  exact_range word = either (λ n. n < 2 ^ 32) (has_leading_zero word) None (value_of word) tt (value_range word)

  number_below-range : (limit : ℕ) (word : List ℕ) → IfSome (number_below limit word) (λ n. n < limit)
  number_below-range limit word =
      bound (λ n. Unit {0}) (λ n. n < limit) (exact_value word) (λ n. if nat_lt n limit then Some n else None) (anything (exact_value word))
      (λ n h. guarded (λ k. k < limit) (nat_lt n limit) n (λ e. grind (arith, nat_tests)))

  pair_range : (first second : Option ℕ) → IfSome first (λ n. n < 16) → IfSome second (λ n. n < 4)
      → IfSome (first >>= λ rank. (second >>= λ thread. Some (record { rank = rank; thread = thread }))) (λ (c : CallerId). (c.rank < 16) × (c.thread < 4))
  pair_range (Some rank) (Some thread) h k = (h, k)
  pair_range None second h k = tt
  pair_range (Some rank) None h k = tt

  called_range : (c : CallerId) (call_found : Option Call) (reply_found : Option Reply) → c.rank < 16 → c.thread < 4 → IfSome call_found IsWritable → IfSome reply_found IsInRange
      → IfSome (call_found >>= λ call. (reply_found >>= λ reply. Some (Called c call reply))) IsInEventRange
  called_range c (Some call) (Some reply) rank thread h k = (rank, thread, h, k)
  called_range c None reply rank thread h k = tt
  called_range c (Some call) None rank thread h k = tt

  caller_range : (o : Option ℕ) (word : List ℕ)
      → IfSome (o >>= λ dot. (number_below 16 (take dot word) >>= λ rank. (number_below 4 (drop (dot + 1) word) >>= λ thread. Some (record { rank = rank; thread = thread })))) (λ (c : CallerId). (c.rank < 16) × (c.thread < 4))
  caller_range None word = tt
  caller_range (Some dot) word =
      pair_range (number_below 16 (take dot word)) (number_below 4 (drop (dot + 1) word)) (number_below-range 16 (take dot word)) (number_below-range 4 (drop (dot + 1) word))

  caller_of-range : (word : List ℕ) → IfSome (caller_of word) (λ c. (c.rank < 16) × (c.thread < 4))
  unfolding caller_of
  caller_of-range word = caller_range (position (λ byte. byte == 46) word) word

  called_with-range : (c : CallerId) (call_words reply_words : List (List ℕ)) → c.rank < 16 → c.thread < 4 → IfSome (called_with c call_words reply_words) IsInEventRange
  called_with-range c first second rank thread =
      called_range c (recorded_call_of first) (reply_of second) rank thread (held IsWritable (recorded_call_of first) (laws.call_range first)) (reply_of-range second)

  called_of-range : (words : List (List ℕ)) → IfSome (called_of words) IsInEventRange
  unfolding called_of
  called_of-range [] = tt
  called_of-range (word ∷ words) =
      bound (λ c. (c.rank < 16) × (c.thread < 4)) IsInEventRange (caller_of word)
      (λ c. position (λ w. bytes_eq arrow w) words >>= λ place. called_with c (take place words) (drop (place + 1) words)) (caller_of-range word)
      (λ c h. bound (λ place. Unit {0}) IsInEventRange (position (λ w. bytes_eq arrow w) words) (λ place. called_with c (take place words) (drop (place + 1) words)) (anything (position (λ w. bytes_eq arrow w) words))
      (λ place k. called_with-range c (take place words) (drop (place + 1) words) h.0 h.1))

  joined_range : (caller_found : Option CallerId) (group_found : Option ℕ) (args_found : Option Args)
      → IfSome caller_found (λ c. (c.rank < 16) × (c.thread < 4)) → IfSome group_found (λ n. n < 8) → IfSome args_found AreArgsInRange
      → IfSome (caller_found >>= λ c. (group_found >>= λ group. (args_found >>= λ args. Some (Joined c group args)))) IsInEventRange
  joined_range (Some c) (Some group) (Some args) h k r = (h.0, h.1, k, r)
  joined_range None group args h k r = tt
  joined_range (Some c) None args h k r = tt
  joined_range (Some c) (Some group) None h k r = tt

  joined_of-range : (words : List (List ℕ)) → IfSome (joined_of words) IsInEventRange
  unfolding joined_of
  joined_of-range (first ∷ second ∷ words) =
      joined_range (caller_of first) (number_below 8 second) (args_of words) (caller_of-range first) (number_below-range 8 second) (args_of-range words)
  joined_of-range other = tt

  moved_range : (origin_found queue_found target_found number_found : Option ℕ) (outcome_found : Option Outcome)
      → IfSome origin_found (λ n. n < 16) → IfSome queue_found (λ n. n < 8) → IfSome target_found (λ n. n < 16) → IfSome number_found (λ n. n < 2 ^ 32)
      → IfSome (origin_found >>= λ origin. (queue_found >>= λ queue. (target_found >>= λ target. (number_found >>= λ number. (outcome_found >>= λ outcome. Some (record { origin = origin; queue = queue; target = target; number = number; outcome = outcome }))))))
      (λ (m : Moved). (m.origin < 16) × (m.queue < 8) × (m.target < 16) × (m.number < 2 ^ 32))
  moved_range (Some origin) (Some queue) (Some target) (Some number) (Some outcome) h0 h1 h2 h3 = (h0, h1, h2, h3)
  moved_range None queue target number outcome h0 h1 h2 h3 = tt
  moved_range (Some origin) None target number outcome h0 h1 h2 h3 = tt
  moved_range (Some origin) (Some queue) None number outcome h0 h1 h2 h3 = tt
  moved_range (Some origin) (Some queue) (Some target) None outcome h0 h1 h2 h3 = tt
  moved_range (Some origin) (Some queue) (Some target) (Some number) None h0 h1 h2 h3 = tt

  moved_of-range : (words : List (List ℕ)) → IfSome (moved_of words) (λ m. (m.origin < 16) × (m.queue < 8) × (m.target < 16) × (m.number < 2 ^ 32))
  unfolding moved_of
  moved_of-range (first ∷ second ∷ third ∷ fourth ∷ fifth ∷ []) =
      moved_range (number_below 16 first) (number_below 8 second) (number_below 16 third) (exact_value fourth) (outcome_of fifth)
      (number_below-range 16 first) (number_below-range 8 second) (number_below-range 16 third) (exact_range fourth)
  moved_of-range other = tt

  event_of-range : (words : List (List ℕ)) → IfSome (event_of words) IsInEventRange
  unfolding event_of
  event_of-range [] = tt
  event_of-range (word ∷ arguments) =
      either IsInEventRange (bytes_eq (codes "called") word) _ _ (called_of-range arguments)
      (either IsInEventRange (bytes_eq (codes "joined") word) _ _ (joined_of-range arguments)
      (either IsInEventRange (bytes_eq (codes "take") word) _ _ (mapped IsInEventRange taken (moved_of arguments) (moved_of-range arguments))
      (either IsInEventRange (bytes_eq (codes "put") word) _ None (mapped IsInEventRange put (moved_of arguments) (moved_of-range arguments)) tt)))

  pub event_in_range : (words : List (List ℕ)) (event : Event) → event_of words ≡ Some event → IsInEventRange event
  event_in_range words event e = in_range_from IsInEventRange (event_of words) event (event_of-range words) e
