-- The texts of calls and replies are written as they are.
use Rattle.std.proofs.Common.{◌≡◌, ℕ, ℤ, ◌^◌, ◌<◌, List, ◌++◌, map, codes, Option, None, Some, lit<, refl, sym, ap, subst, ◌∙◌, arith}
use Rattle.std.specs.Fmt.{decimal, signed_decimal}
use Rattle.std.specs.List.{AllByRecursion}
use Rattle.json.specs.Print.{escape_byte}
use Rattle.gaspi_types.specs.NumberTypes.{AreInType}
use Rattle.gaspi_types.specs.Replies.{coll_fields, numbers_of_fields, refusal_fields, refusal_number}
use Rattle.gaspi_types.specs.declared.calls.Call.{Call}
use Rattle.gaspi_types.specs.declared.collectives.Coll.{Coll}
use Rattle.gaspi_types.specs.declared.collectives.Coll.TheVariants.{Barrier, Allreduce, Create, Commit}
use Rattle.gaspi_types.specs.declared.collectives.NumType.{NumType}
use Rattle.gaspi_types.specs.declared.collectives.NumType.TheVariants.{Int, Uint, Long, Ulong, Float, Double}
use Rattle.gaspi_types.specs.declared.collectives.Op.{Op}
use Rattle.gaspi_types.specs.declared.collectives.Op.TheVariants.{Min, Max, Sum}
use Rattle.gaspi_types.specs.declared.collectives.Stage.{Stage}
use Rattle.gaspi_types.specs.declared.collectives.Stage.TheVariants.{Building, Committed}
use Rattle.gaspi_types.specs.declared.replies.Refusal.{Refusal}
use Rattle.gaspi_types.specs.declared.replies.Refusal.TheVariants.{BadRank}
use Rattle.gaspi_types.specs.declared.replies.RefusalFields.{RefusalFields}
use Rattle.gaspi_types.specs.declared.replies.RefusalFields.TheVariants.{Nothing, OneNumber, TwoNumbers, OneStage, OneCollective}
use Rattle.gaspi_types.specs.Refusals.{refusal_parts}
use Rattle.gaspi_types.specs.declared.replies.Reply.{Reply}
use Rattle.gaspi_types.specs.declared.replies.Reply.TheVariants as replies
use Rattle.call_texts.specs.CallText.{Spelled, call_text, end_word, spelled, spelling_of, words_of_call, words_of_spelled}
use Rattle.call_texts.specs.Elements.{op_word, type_word}
use Rattle.call_texts.specs.Hex.{hex_text}
use Rattle.call_texts.specs.Words.{is_plain, IsPlainWord}
use Rattle.gaspi_texts.specs.CollectiveText.{coll_words, stage_word}
use Rattle.gaspi_texts.specs.RefusalText.{held_by, words_of_holding, field_words}
use Rattle.gaspi_texts.specs.ReplyText.{IsInRange, reply_text, words_of_reply}
use Rattle.serde_json.specs.Data.{member, no_members, string}
use Rattle.journal_pictures.specs.JsonLines.{IsPlain, line_front}
use Rattle.journal_pictures.specs.Trace.{call_word, readable, spelled_word}
use Rattle.journal_pictures.proofs.PlainTexts.{object-text}
use Rattle.journal_pictures.proofs.PlainWords.{AreBare, bare-decimal, bare-join, bare-lossy, bare-plain, fixed-word, plain-word, plain-words}
use Rattle.journal_pictures.proofs.TraceTexts.{behind}

-- Calls.

first-bare : (s : Option Spelled) → AllByRecursion IsPlainWord (words_of_spelled s) → AreBare (spelled_word s)
first-bare None plain = plain-word end_word plain.0
first-bare (Some s) plain = plain-word (spelling_of s.word) plain.0

pub word-bare : (call : Call) → AllByRecursion IsPlainWord (words_of_call call) → AreBare (call_word call)
word-bare call plain = first-bare (spelled call) plain

pub call-bare : (call : Call) → AllByRecursion IsPlainWord (words_of_call call) → AreBare (call_text call)
call-bare call plain = bare-join (words_of_call call) (plain-words (words_of_call call) plain)

-- Replies.

op-bare : (op : Op) → AreBare (op_word op)
unfolding is_plain
op-bare Min = fixed-word (op_word Min) refl
op-bare Max = fixed-word (op_word Max) refl
op-bare Sum = fixed-word (op_word Sum) refl

type-bare : (t : NumType) → AreBare (type_word t)
unfolding is_plain
type-bare Int = fixed-word (type_word Int) refl
type-bare Uint = fixed-word (type_word Uint) refl
type-bare Long = fixed-word (type_word Long) refl
type-bare Ulong = fixed-word (type_word Ulong) refl
type-bare Float = fixed-word (type_word Float) refl
type-bare Double = fixed-word (type_word Double) refl

stage-bare : (stage : Stage) → AreBare (stage_word stage)
unfolding is_plain
stage-bare Building = fixed-word (stage_word Building) refl
stage-bare Committed = fixed-word (stage_word Committed) refl

small-bare : (n : ℕ) → n < 2 ^ 32 → AreBare (decimal n)
small-bare n small = bare-decimal n (omega arith)

coll-bare : (c : Coll) → AllByRecursion (λ n. n < 2 ^ 32) (coll_fields c) → AllByRecursion AreBare (coll_words c)
unfolding is_plain
coll-bare Barrier h = (fixed-word (codes "barrier") refl, tt)
coll-bare (Allreduce op num_type count) h = (fixed-word (codes "allreduce") refl, (op-bare op, (type-bare num_type, (small-bare count h.1.1.1.0, tt))))
coll-bare (Create segment size) h = (fixed-word (codes "create") refl, (small-bare segment h.1.0, (small-bare size h.1.1.0, tt)))
coll-bare (Commit mask) h = (fixed-word (codes "commit") refl, (small-bare mask h.1.0, tt))

number-small : (r : Refusal) → refusal_number r < 2 ^ 64
number-small BadRank = lit< tt
number-small r = lit< tt

held-bare : (fields : RefusalFields) → AllByRecursion (λ n. n < 2 ^ 32) (numbers_of_fields fields) → AllByRecursion AreBare (words_of_holding (held_by fields))
held-bare Nothing h = tt
held-bare (OneNumber n) h = (small-bare n h.0, tt)
held-bare (TwoNumbers m n) h = (small-bare m h.0, (small-bare n h.1.0, tt))
held-bare (OneStage stage) h = (stage-bare stage, tt)
held-bare (OneCollective kept) h = coll-bare kept h

fields-bare : (r : Refusal) → AllByRecursion (λ n. n < 2 ^ 32) (refusal_fields r) → AllByRecursion AreBare (field_words r)
fields-bare r h = held-bare (refusal_parts r).1 h

module _ (bytes_plain : (bytes : List ℕ) → IsInRange (replies.Bytes bytes) → IsPlainWord (hex_text bytes)) (elements_plain : (t : NumType) (items : List ℤ) → AreInType t items → AllByRecursion IsPlainWord (map signed_decimal items)) where
  words-bare : (reply : Reply) → IsInRange reply → AllByRecursion AreBare (words_of_reply reply)
  unfolding words_of_reply is_plain
  words-bare replies.Done h = (fixed-word (codes "done") refl, tt)
  words-bare (replies.Value n) h = (fixed-word (codes "value") refl, (bare-decimal n h, tt))
  words-bare (replies.Id n) h = (fixed-word (codes "id") refl, (small-bare n h, tt))
  words-bare (replies.Bytes bytes) h = (fixed-word (codes "bytes") refl, (plain-word (hex_text bytes) (bytes_plain bytes h), tt))
  words-bare (replies.Mask mask) h = (fixed-word (codes "mask") refl, (small-bare mask h, tt))
  words-bare (replies.List numbers) h = (fixed-word (codes "list") refl, (type-bare numbers.num_type, plain-words (map signed_decimal numbers.items) (elements_plain numbers.num_type numbers.items h)))
  words-bare replies.Timeout h = (fixed-word (codes "timeout") refl, tt)
  words-bare (replies.Refused refusal) h = (fixed-word (codes "refused") refl, (bare-decimal (refusal_number refusal) (number-small refusal), fields-bare refusal h))

  pub reply-bare : (reply : Reply) → IsInRange reply → AreBare (reply_text reply)
  reply-bare reply h = bare-join (words_of_reply reply) (words-bare reply h)

-- The front of a call's line.

readable-plain : (text : List ℕ) → AreBare text → IsPlain (readable text)
readable-plain text bare = subst IsPlain (sym (bare-lossy text bare)) (bare-plain text bare)

pub call-front : (old t1 t2 t3 t4 t5 call reply : List ℕ) → AreBare call → AreBare reply
    → t1 ≡ old ++ codes ",\n{\"args\":{\"call\":\"" → t2 ≡ t1 ++ call → t3 ≡ t2 ++ codes "\",\"reply\":\"" → t4 ≡ t3 ++ reply → t5 ≡ t4 ++ codes "\"}"
    → t5 ≡ old ++ line_front (member (codes "call") (string (readable call)) (member (codes "reply") (string (readable reply)) no_members))
unfolding escape_byte
call-front old t1 t2 t3 t4 t5 call reply call_bare reply_bare first second third fourth last =
    let rest : List ℕ → List ℕ = λ (r : List ℕ). codes "\",\"reply\":\"" ++ (r ++ codes "\"}") in
    let front : List ℕ → List ℕ → List ℕ = λ (c r : List ℕ). codes ",\n{\"args\":{\"call\":\"" ++ (c ++ rest r) in
    behind old t1 t5 (codes ",\n{\"args\":{\"call\":\"") (call ++ rest reply) first
    (behind t1 t2 t5 call (rest reply) second (behind t2 t3 t5 (codes "\",\"reply\":\"") (reply ++ codes "\"}") third (behind t3 t4 t5 reply (codes "\"}") fourth last)))
    ∙ ap (λ (c : List ℕ). old ++ front c reply) (sym (bare-lossy call call_bare))
    ∙ ap (λ (r : List ℕ). old ++ front (readable call) r) (sym (bare-lossy reply reply_bare))
    ∙ ap (λ (text : List ℕ). old ++ (codes ",\n{\"args\":" ++ text))
    (object-text (member (codes "call") (string (readable call)) (member (codes "reply") (string (readable reply)) no_members)) (readable-plain call call_bare, (readable-plain reply reply_bare, tt)))
