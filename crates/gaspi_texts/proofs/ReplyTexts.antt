-- A reply's text, read back.
use Rattle.std.proofs.Common.{◌≡◌, ℕ, ℤ, ◌^◌, ◌<◌, true, ◌==◌, codes, List, ◌++◌, length, map, Some, lit<, refl, sym, ap, subst, ◌∙◌}
use Rattle.std.specs.Fmt.{signed_decimal}
use Rattle.std.specs.List.{AllByRecursion}
use Rattle.std.proofs.lemmas.Bool.Decides.{Decides-eqb}
use Rattle.std.proofs.lemmas.List.{length-map}
use Rattle.gaspi_types.specs.Collectives.{AreValuesOf}
use Rattle.gaspi_types.specs.Replies.{refusal_number, refusal_fields, coll_fields}
use Rattle.gaspi_types.specs.declared.collectives.NumType.{NumType}
use Rattle.gaspi_types.specs.declared.collectives.NumType.TheVariants.{Int, Uint, Long, Ulong, Float, Double}
use Rattle.gaspi_types.specs.declared.collectives.Op.{Op}
use Rattle.gaspi_types.specs.declared.collectives.Op.TheVariants.{Min, Max, Sum}
use Rattle.gaspi_types.specs.declared.collectives.Stage.{Stage}
use Rattle.gaspi_types.specs.declared.collectives.Stage.TheVariants.{Building, Committed}
use Rattle.gaspi_types.specs.declared.collectives.Coll.{Coll}
use Rattle.gaspi_types.specs.declared.collectives.Coll.TheVariants.{Barrier, Allreduce, Create, Commit}
use Rattle.gaspi_types.specs.declared.replies.Refusal.{Refusal}
use Rattle.gaspi_types.specs.declared.replies.Refusal.TheVariants.{BadRank}
use Rattle.gaspi_types.specs.declared.replies.Reply.{Reply}
use Rattle.gaspi_types.specs.declared.replies.Reply.TheVariants as replies
use Rattle.gaspi_types.specs.declared.groups.Args.{Args}
use Rattle.call_texts.specs.Elements.{type_word, op_word}
use Rattle.gaspi_texts.specs.CollectiveText.{stage_word, stage_of, coll_words, coll_of, AreArgsInRange, args_words, args_of}
use Rattle.gaspi_types.specs.Refusals.{RefusalForm, Bare, OneNumber, TwoNumbers, OneStage, OneCollective, Held, RefusalRow, refusal_rows, row_in}
use Rattle.gaspi_texts.specs.RefusalText.{numbers_of_held, words_of_held, held_of, refusal_of, Holding, Holds, holding_of, field_words}
use Rattle.gaspi_types.specs.NumberTypes.{AreInType, TypedNumbers}
use Rattle.gaspi_texts.specs.ReplyText.{reply_word_of, words_of_reply, reply_text, reply_of, IsInRange}
use Rattle.call_texts.specs.Words.{words_of}
use Rattle.gaspi_texts.specs.CallLaws.{CallLaws}
use Rattle.gaspi_texts.proofs.GraphicWords.{number_word, small_word, fixed_word, hex_word, plain_words, both_graphic}
use Rattle.gaspi_texts.proofs.WordTexts.{is_graphic, IsGraphic, words_of-graphic}

-- Stages, types and operations.

stage_of-word : (stage : Stage) → stage_of (stage_word stage) ≡ Some stage
unfolding stage_of
stage_of-word Building = refl
stage_of-word Committed = refl

pub type_graphic : (t : NumType) → IsGraphic (type_word t)
unfolding is_graphic
type_graphic Int = fixed_word (type_word Int) (lit< tt) refl
type_graphic Uint = fixed_word (type_word Uint) (lit< tt) refl
type_graphic Long = fixed_word (type_word Long) (lit< tt) refl
type_graphic Ulong = fixed_word (type_word Ulong) (lit< tt) refl
type_graphic Float = fixed_word (type_word Float) (lit< tt) refl
type_graphic Double = fixed_word (type_word Double) (lit< tt) refl

op_graphic : (op : Op) → IsGraphic (op_word op)
unfolding is_graphic
op_graphic Min = fixed_word (op_word Min) (lit< tt) refl
op_graphic Max = fixed_word (op_word Max) (lit< tt) refl
op_graphic Sum = fixed_word (op_word Sum) (lit< tt) refl

stage_graphic : (stage : Stage) → IsGraphic (stage_word stage)
unfolding is_graphic
stage_graphic Building = fixed_word (stage_word Building) (lit< tt) refl
stage_graphic Committed = fixed_word (stage_word Committed) (lit< tt) refl

-- Refusals: each is made by the row of its number, from what it holds.

record HasRow (r : Refusal) : Type 0 where
  row : RefusalRow
  there : row_in (refusal_number r) refusal_rows ≡ Some row
  held : Held row.form
  makes : row.made held ≡ r
  words : field_words r ≡ words_of_held row.form held
  numbers : refusal_fields r ≡ numbers_of_held row.form held

abbrev form_in : Holding → RefusalForm
form_in (Holds form held) = form

abbrev held_in : (holding : Holding) → Held (form_in holding)
held_in (Holds form held) = held

has_row : (r : Refusal) → HasRow r
has_row BadRank = record { row = _; there = refl; held = held_in (holding_of BadRank); makes = refl; words = refl; numbers = refl }
has_row r = record { row = _; there = refl; held = held_in (holding_of r); makes = refl; words = refl; numbers = refl }

refusal_number-small : (r : Refusal) → refusal_number r < 2 ^ 64
refusal_number-small BadRank = lit< tt
refusal_number-small r = lit< tt

module _ (laws : CallLaws) where
  elements_graphic : (t : NumType) (items : List ℤ) → AreInType t items → AllByRecursion IsGraphic (map signed_decimal items)
  elements_graphic t items h = plain_words (map signed_decimal items) (laws.elements_plain t items h)

  -- Refusals.

  coll_of-words : (c : Coll) → AllByRecursion (λ n. n < 2 ^ 32) (coll_fields c) → coll_of (coll_words c) ≡ Some c
  unfolding coll_of
  coll_of-words Barrier h = refl
  coll_of-words (Allreduce op num_type count) h =
      rw (laws.op op, laws.num_type num_type, laws.value count h.1.1.1.0) refl
  coll_of-words (Create segment size) h = rw (laws.value segment h.1.0, laws.value size h.1.1.0) refl
  coll_of-words (Commit mask) h = rw (laws.value mask h.1.0) refl

  coll_graphic : (c : Coll) → AllByRecursion (λ n. n < 2 ^ 32) (coll_fields c) → AllByRecursion IsGraphic (coll_words c)
  unfolding is_graphic
  coll_graphic Barrier h = (fixed_word (codes "barrier") (lit< tt) refl, tt)
  coll_graphic (Allreduce op num_type count) h =
      (fixed_word (codes "allreduce") (lit< tt) refl, (op_graphic op, (type_graphic num_type, (small_word laws count h.1.1.1.0, tt))))
  coll_graphic (Create segment size) h =
      (fixed_word (codes "create") (lit< tt) refl, (small_word laws segment h.1.0, (small_word laws size h.1.1.0, tt)))
  coll_graphic (Commit mask) h = (fixed_word (codes "commit") (lit< tt) refl, (small_word laws mask h.1.0, tt))

  args_of-values : (c : Coll) (values : TypedNumbers) → AllByRecursion (λ n. n < 2 ^ 32) (coll_fields c) → AreInType values.num_type values.items → AreValuesOf c values
      → args_of (coll_words c ++ map signed_decimal values.items) ≡ Some (record { coll = c; values = values })
  unfolding args_of
  args_of-values Barrier values h range own = rw (own, coll_of-words Barrier h) refl
  args_of-values (Allreduce op num_type count) values h range own =
      let counted : (length (map signed_decimal values.items) == count) ≡ true =
      (Decides-eqb (length (map signed_decimal values.items)) count).1 (length-map values.items signed_decimal ∙ own.1) in
      let typed : AreInType num_type values.items = subst (λ (t : NumType). AreInType t values.items) own.0 range in
      rw (coll_of-words (Allreduce op num_type count) h, counted, laws.elements num_type values.items typed)
      (ap (λ (t : NumType). Some (record { coll = Allreduce op num_type count; values = record { num_type = t; items = values.items } })) (sym own.0))
  args_of-values (Create segment size) values h range own = rw (own, coll_of-words (Create segment size) h) refl
  args_of-values (Commit mask) values h range own = rw (own, coll_of-words (Commit mask) h) refl

  pub args_of-words : (args : Args) → AreArgsInRange args → args_of (args_words args) ≡ Some args
  args_of-words args h = args_of-values args.coll args.values h.numbers h.elements h.own

  pub args_graphic : (args : Args) → AreArgsInRange args → AllByRecursion IsGraphic (args_words args)
  args_graphic args h =
      both_graphic (coll_words args.coll) (map signed_decimal args.values.items) (coll_graphic args.coll h.numbers) (elements_graphic args.values.num_type args.values.items h.elements)

  held_of-words : (form : RefusalForm) (held : Held form) → AllByRecursion (λ n. n < 2 ^ 32) (numbers_of_held form held)
      → held_of form (words_of_held form held) ≡ Some held
  held_of-words Bare held h = refl
  held_of-words OneNumber n h = laws.value n h.0
  held_of-words TwoNumbers (first, second) h = rw (laws.value first h.0, laws.value second h.1.0) refl
  held_of-words OneStage stage h = stage_of-word stage
  held_of-words OneCollective kept h = coll_of-words kept h

  held_graphic : (form : RefusalForm) (held : Held form) → AllByRecursion (λ n. n < 2 ^ 32) (numbers_of_held form held)
      → AllByRecursion IsGraphic (words_of_held form held)
  held_graphic Bare held h = tt
  held_graphic OneNumber n h = (small_word laws n h.0, tt)
  held_graphic TwoNumbers (first, second) h = (small_word laws first h.0, (small_word laws second h.1.0, tt))
  held_graphic OneStage stage h = (stage_graphic stage, tt)
  held_graphic OneCollective kept h = coll_graphic kept h

  refusal_of-words : (r : Refusal) → AllByRecursion (λ n. n < 2 ^ 32) (refusal_fields r)
      → refusal_of (refusal_number r) (field_words r) ≡ Some r
  unfolding refusal_of
  refusal_of-words r h =
      let has = has_row r in
      let small : AllByRecursion (λ n. n < 2 ^ 32) (numbers_of_held has.row.form has.held) = rw has.numbers at h in
      rw (has.there, has.words, held_of-words has.row.form has.held small) (ap (λ (found : Refusal). Some found) has.makes)

  fields_graphic : (r : Refusal) → AllByRecursion (λ n. n < 2 ^ 32) (refusal_fields r) → AllByRecursion IsGraphic (field_words r)
  fields_graphic r h =
      let has = has_row r in
      let small : AllByRecursion (λ n. n < 2 ^ 32) (numbers_of_held has.row.form has.held) = rw has.numbers at h in
      subst (λ (words : List (List ℕ)). AllByRecursion IsGraphic words) (sym has.words) (held_graphic has.row.form has.held small)

  -- Replies.

  pub reply_of-words : (r : Reply) → IsInRange r → reply_of (words_of_reply r) ≡ Some r
  unfolding reply_of reply_word_of words_of_reply
  reply_of-words replies.Done h = refl
  reply_of-words (replies.Value n) h = rw (laws.number n h) refl
  reply_of-words (replies.Id n) h = rw (laws.value n h) refl
  reply_of-words (replies.Bytes bytes) h = rw (laws.bytes bytes h) refl
  reply_of-words (replies.Mask mask) h = rw (laws.value mask h) refl
  reply_of-words (replies.List numbers) h =
      rw (laws.num_type numbers.num_type, laws.elements numbers.num_type numbers.items h) refl
  reply_of-words replies.Timeout h = refl
  reply_of-words (replies.Refused refusal) h =
      rw (laws.number (refusal_number refusal) (refusal_number-small refusal), refusal_of-words refusal h) refl

  pub words_of_reply-graphic : (r : Reply) → IsInRange r → AllByRecursion IsGraphic (words_of_reply r)
  unfolding words_of_reply is_graphic
  words_of_reply-graphic replies.Done h = (fixed_word (codes "done") (lit< tt) refl, tt)
  words_of_reply-graphic (replies.Value n) h = (fixed_word (codes "value") (lit< tt) refl, (number_word laws n h, tt))
  words_of_reply-graphic (replies.Id n) h = (fixed_word (codes "id") (lit< tt) refl, (small_word laws n h, tt))
  words_of_reply-graphic (replies.Bytes bytes) h = (fixed_word (codes "bytes") (lit< tt) refl, (hex_word laws bytes h, tt))
  words_of_reply-graphic (replies.Mask mask) h = (fixed_word (codes "mask") (lit< tt) refl, (small_word laws mask h, tt))
  words_of_reply-graphic (replies.List numbers) h =
      (fixed_word (codes "list") (lit< tt) refl, (type_graphic numbers.num_type, elements_graphic numbers.num_type numbers.items h))
  words_of_reply-graphic replies.Timeout h = (fixed_word (codes "timeout") (lit< tt) refl, tt)
  words_of_reply-graphic (replies.Refused refusal) h =
      (fixed_word (codes "refused") (lit< tt) refl, (number_word laws (refusal_number refusal) (refusal_number-small refusal), fields_graphic refusal h))

  pub reply_of-reply_text : (r : Reply) → IsInRange r → reply_of (words_of (reply_text r)) ≡ Some r
  reply_of-reply_text r h = ap reply_of (words_of-graphic laws (words_of_reply r) (words_of_reply-graphic r h)) ∙ reply_of-words r h

-- replies that read back from their texts differ in them
pub same_reply : ((r : Reply) → IsInRange r → reply_of (words_of (reply_text r)) ≡ Some r)
    → (a b : Reply) → IsInRange a → IsInRange b → reply_text a ≡ reply_text b → a ≡ b
same_reply back a b small also e =
    let read : Some a ≡ Some b = sym (back a small) ∙ ap (λ (text : List ℕ). reply_of (words_of text)) e ∙ back b also in
    cc
