-- An event's text, read back.
use Rattle.std.proofs.Common.{◌≡◌, ℕ, ◌^◌, ◌<◌, Bool, true, false, ◌==◌, nat_lt, codes, List, [], ◌∷◌, length, Some, Decides, lit<, refl, sym, ap, subst, ◌∙◌, arith}
use Rattle.std.specs.Char.{is_ascii_digit}
use Rattle.std.specs.Fmt.{decimal}
use Rattle.std.specs.List.{All, AllByRecursion, AllPass}
use Rattle.std.specs.Str.{bytes_eq}
use Rattle.std.proofs.lemmas.Bool.{false≢true}
use Rattle.std.proofs.lemmas.Bool.Decides.{nat_tests}
use Rattle.std.proofs.lemmas.List.Elements.{All-nil, All-cons, All-weaker}
use Rattle.std.proofs.lemmas.Slice.Eq.{bytes_eq-Decides}
use Rattle.gaspi_types.specs.declared.events.Event.{Event}
use Rattle.gaspi_types.specs.declared.events.Event.TheVariants.{Called, Joined, Take, Put}
use Rattle.gaspi_types.specs.declared.events.Outcome.{Outcome}
use Rattle.gaspi_types.specs.declared.events.Outcome.TheVariants.{Applied, Failed}
use Rattle.gaspi_types.specs.declared.shapes.CallerId.{CallerId}
use Rattle.call_texts.specs.CallText.{words_of_call}
use Rattle.gaspi_texts.specs.EventText.{arrow, caller_word, outcome_word, words_of_event, event_text, IsInEventRange}
use Rattle.gaspi_texts.specs.EventReading.{exact_value, number_below, outcome_of, caller_of, called_of, joined_of, moved_of, event_of}
use Rattle.gaspi_texts.specs.ReplyText.{words_of_reply}
use Rattle.call_texts.specs.Words.{pieces_of, is_plain, IsPlainWord}
use Rattle.gaspi_texts.specs.CallLaws.{CallLaws}
use Rattle.gaspi_texts.proofs.GraphicWords.{digits_pass, small_word, fixed_word, plain_words, both_graphic, caller_word-parts, caller_graphic}
use Rattle.gaspi_texts.proofs.Places.{position_at, take_before, drop_behind}
use Rattle.gaspi_texts.proofs.ReplyTexts.{args_of-words, args_graphic, reply_of-words, words_of_reply-graphic}
use Rattle.gaspi_texts.proofs.WordTexts.{is_graphic, IsGraphic, pieces_of-graphic, join-no_line_feed}

-- The words of a call are no arrows.

-- a test that decides what does not hold fails
fails : (b : Bool) (P : Type 0) → Decides b P → (P → ⊥) → b ≡ false
fails true P decides never = absurd (never (decides.0 refl))
fails false P decides never = refl

-- what passes a test that the arrow's second byte fails is no arrow
not_arrow : (p : ℕ → Bool) → p 62 ≡ false → (word : List ℕ) → AllPass p word → bytes_eq arrow word ≡ false
not_arrow p other word pass =
    fails (bytes_eq arrow word) (arrow ≡ word) (bytes_eq-Decides arrow word)
    (λ e. let both : AllPass p arrow = subst (λ (w : List ℕ). AllPass p w) (sym e) pass in
    false≢true (sym other ∙ both 1 0 (lit< tt)))

no_arrows : (words : List (List ℕ)) → AllByRecursion IsPlainWord words → All (λ w. bytes_eq arrow w ≡ false) words
unfolding is_plain
no_arrows [] h = All-nil (λ w. bytes_eq arrow w ≡ false)
no_arrows (word ∷ words) h =
    All-cons (λ w. bytes_eq arrow w ≡ false) word words (not_arrow is_plain refl word h.0.plain) (no_arrows words h.1)

-- A caller's word.

digit_no_dot : (byte : ℕ) → is_ascii_digit byte ≡ true → (byte == 46) ≡ false
digit_no_dot byte pass = grind (arith, nat_tests)

-- Outcomes.

outcome_of-word : (outcome : Outcome) → outcome_of (outcome_word outcome) ≡ Some outcome
unfolding outcome_of
outcome_of-word Applied = refl
outcome_of-word Failed = refl

outcome_graphic : (outcome : Outcome) → IsGraphic (outcome_word outcome)
unfolding is_graphic
outcome_graphic Applied = fixed_word (codes "ok") (lit< tt) refl
outcome_graphic Failed = fixed_word (codes "failed") (lit< tt) refl

-- Events, by the laws of the texts of calls.

module _ (laws : CallLaws) where
  number_below-decimal : (limit n : ℕ) → n < limit → n < 2 ^ 32 → number_below limit (decimal n) ≡ Some n
  number_below-decimal limit n low small =
      let within : nat_lt n limit ≡ true = grind (arith, nat_tests) in
      rw (laws.leads n (omega arith), laws.value n small, within) refl

  exact_value-decimal : (n : ℕ) → n < 2 ^ 32 → exact_value (decimal n) ≡ Some n
  exact_value-decimal n small = rw (laws.leads n (omega arith), laws.value n small) refl

  caller_of-word : (c : CallerId) → c.rank < 16 → c.thread < 4 → caller_of (caller_word c) ≡ Some c
  unfolding caller_of
  caller_of-word c rank thread =
      let digits = All-weaker (λ byte. is_ascii_digit byte ≡ true) (λ byte. (byte == 46) ≡ false) digit_no_dot (decimal c.rank) (digits_pass laws c.rank (omega arith)) in
      rw (caller_word-parts c, position_at (λ byte. byte == 46) (decimal c.rank) 46 (decimal c.thread) digits refl, take_before (decimal c.rank) 46 (decimal c.thread), drop_behind (decimal c.rank) 46 (decimal c.thread), number_below-decimal 16 c.rank rank (omega arith), number_below-decimal 4 c.thread thread (omega arith)) refl

  pub event_of-words : (e : Event) → IsInEventRange e → event_of (words_of_event e) ≡ Some e
  unfolding event_of called_of joined_of moved_of words_of_event
  event_of-words (Called c call reply) h =
      rw (caller_of-word c h.0 h.1, position_at (λ w. bytes_eq arrow w) (words_of_call call) arrow (words_of_reply reply) (no_arrows (words_of_call call) (laws.call_plain call h.2)) refl, take_before (words_of_call call) arrow (words_of_reply reply), drop_behind (words_of_call call) arrow (words_of_reply reply), laws.call call h.2, reply_of-words laws reply h.3) refl
  event_of-words (Joined c group args) h =
      rw (caller_of-word c h.0 h.1, number_below-decimal 8 group h.2 (omega (arith, h.2)), args_of-words laws args h.3) refl
  event_of-words (Take origin queue target number outcome) h =
      rw (number_below-decimal 16 origin h.0 (omega (arith, h.0)), number_below-decimal 8 queue h.1 (omega (arith, h.1)), number_below-decimal 16 target h.2 (omega (arith, h.2)), exact_value-decimal number h.3, outcome_of-word outcome) refl
  event_of-words (Put origin queue target number outcome) h =
      rw (number_below-decimal 16 origin h.0 (omega (arith, h.0)), number_below-decimal 8 queue h.1 (omega (arith, h.1)), number_below-decimal 16 target h.2 (omega (arith, h.2)), exact_value-decimal number h.3, outcome_of-word outcome) refl

  words_of_event-graphic : (e : Event) → IsInEventRange e → AllByRecursion IsGraphic (words_of_event e)
  unfolding words_of_event is_graphic
  words_of_event-graphic (Called c call reply) h =
      (fixed_word (codes "called") (lit< tt) refl, (caller_graphic laws c h.0 h.1, both_graphic (words_of_call call) (arrow ∷ words_of_reply reply) (plain_words (words_of_call call) (laws.call_plain call h.2)) (fixed_word arrow (lit< tt) refl, words_of_reply-graphic laws reply h.3)))
  words_of_event-graphic (Joined c group args) h =
      (fixed_word (codes "joined") (lit< tt) refl, (caller_graphic laws c h.0 h.1, (small_word laws group (omega (arith, h.2)), args_graphic laws args h.3)))
  words_of_event-graphic (Take origin queue target number outcome) h =
      (fixed_word (codes "take") (lit< tt) refl, (small_word laws origin (omega (arith, h.0)), (small_word laws queue (omega (arith, h.1)), (small_word laws target (omega (arith, h.2)), (small_word laws number h.3, (outcome_graphic outcome, tt))))))
  words_of_event-graphic (Put origin queue target number outcome) h =
      (fixed_word (codes "put") (lit< tt) refl, (small_word laws origin (omega (arith, h.0)), (small_word laws queue (omega (arith, h.1)), (small_word laws target (omega (arith, h.2)), (small_word laws number h.3, (outcome_graphic outcome, tt))))))

  event-filled : (e : Event) → 0 < length (words_of_event e)
  unfolding words_of_event
  event-filled (Called c call reply) = omega arith
  event-filled (Joined c group args) = omega arith
  event-filled (Take origin queue target number outcome) = omega arith
  event-filled (Put origin queue target number outcome) = omega arith

  pub event_of-event_text : (e : Event) → IsInEventRange e → event_of (pieces_of (event_text e)) ≡ Some e
  event_of-event_text e h = ap event_of (pieces_of-graphic laws (words_of_event e) (event-filled e) (words_of_event-graphic e h)) ∙ event_of-words e h

  pub event_text-no_line_feed : (e : Event) → IsInEventRange e → All (λ byte. (byte == 10) ≡ false) (event_text e)
  event_text-no_line_feed e h = join-no_line_feed (words_of_event e) (words_of_event-graphic e h)

-- events that read back from their texts differ in them
pub same_event : ((e : Event) → IsInEventRange e → event_of (pieces_of (event_text e)) ≡ Some e)
    → (a b : Event) → IsInEventRange a → IsInEventRange b → event_text a ≡ event_text b → a ≡ b
same_event back a b small also e =
    let read : Some a ≡ Some b = sym (back a small) ∙ ap (λ (text : List ℕ). event_of (pieces_of text)) e ∙ back b also in
    cc
