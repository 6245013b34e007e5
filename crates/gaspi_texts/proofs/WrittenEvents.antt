-- What pieces without leading zeros spell is written as these pieces.
use Rattle.std.proofs.Common.{◌≡◌, ℕ, zero, suc, ◌+◌, ◌<◌, Bool, true, false, cond, not, ◌==◌, ◌&&◌, nat_lt, codes, List, [], ◌∷◌, ◌++◌, length, take, drop, get_or, Option, Some, None, refl, sym, ap, ◌∙◌, subst, arith, add-one}
use Rattle.std.specs.Fmt.{decimal}
use Rattle.std.specs.List.{AllByRecursion, join_with_byte, position}
use Rattle.std.specs.Option.{option_map}
use Rattle.std.specs.Str.{bytes_eq}
use Rattle.std.proofs.lemmas.Bool.{and_parts}
use Rattle.std.proofs.lemmas.Bool.Decides.{nat_tests}
use Rattle.std.proofs.lemmas.List.Quantifiers.{position-Some}
use Rattle.std.proofs.lemmas.Option.{option_and_then_some, cond_some, same_Some, none-some}
use Rattle.std.proofs.lemmas.Slice.Eq.{bytes_eq-Decides}
use Rattle.gaspi_types.specs.declared.events.Event.{Event}
use Rattle.gaspi_types.specs.declared.events.Event.TheVariants.{Called, Joined}
use Rattle.gaspi_types.specs.declared.events.Outcome.{Outcome}
use Rattle.gaspi_types.specs.declared.events.Outcome.TheVariants.{Applied, Failed}
use Rattle.gaspi_types.specs.declared.replies.Reply.{Reply}
use Rattle.gaspi_types.specs.declared.replies.Reply.TheVariants as replies
use Rattle.gaspi_types.specs.declared.shapes.CallerId.{CallerId}
use Rattle.gaspi_types.proofs.Found.{found_passes}
use Rattle.call_texts.specs.CallText.{recorded_call_of, is_call_numeric}
use Rattle.call_texts.specs.Elements.{type_of, elements_of}
use Rattle.call_texts.specs.Numbers.{number_of, value_of, has_leading_zero}
use Rattle.call_texts.specs.Words.{pieces_of}
use Rattle.gaspi_texts.specs.CallLaws.{CallLaws}
use Rattle.gaspi_texts.specs.CollectiveText.{one_field, args_of}
use Rattle.gaspi_texts.specs.EventText.{arrow, caller_word, outcome_word, words_of_event, event_text}
use Rattle.gaspi_texts.specs.EventReading.{exact_value, number_below, outcome_of, caller_of, called_with, called_of, joined_of, moved_of, taken, put, event_of, are_exact, is_written_so}
use Rattle.gaspi_texts.specs.RefusalText.{refusal_of}
use Rattle.gaspi_texts.specs.ReplyText.{reply_spelling, reply_word_of, plain_reply, value_reply, reply_with, reply_of, words_of_reply, is_reply_numeric}
use Rattle.gaspi_texts.specs.declared.event_reading.Moved.{Moved}
use Rattle.gaspi_texts.specs.declared.reply_words.ReplyWord.{ReplyWord}
use Rattle.gaspi_texts.specs.declared.reply_words.ReplyWord.TheVariants as words
use Rattle.gaspi_texts.proofs.GraphicWords.{caller_word-parts}

-- A list is what is before a place, the item there, and what is behind.

around : {A : Type 0} (xs : List A) (i : ℕ) (d : A) → i < length xs → take i xs ++ (get_or xs i d ∷ drop (suc i) xs) ≡ xs
around {A} [] i d inside = absurd (omega arith)
around {A} (x ∷ xs) zero d inside = refl
around {A} (x ∷ xs) (suc i) d inside = ap (λ (rest : List A). x ∷ rest) (around xs i d (omega arith))

-- a first place that passes
parted : {A : Type 0} (p : A → Bool) (y : A) → ((x : A) → p x ≡ true → x ≡ y) → (xs : List A) (i : ℕ) → position p xs ≡ Some i → take i xs ++ (y ∷ drop (i + 1) xs) ≡ xs
parted {A} p y only xs i at =
    let there = position-Some p xs i y at in
    ap (λ (z : A). take i xs ++ (z ∷ drop (i + 1) xs)) (sym (only (get_or xs i y) there.1)) ∙ rw (add-one i) (around xs i y there.0)

-- Words without leading zeros.

abbrev HasNoLeads : List (List ℕ) → Type 0
HasNoLeads words = AllByRecursion (λ word. has_leading_zero word ≡ false) words

no_leads : (words : List (List ℕ)) → are_exact words ≡ true → HasNoLeads words
no_leads [] exact = tt
no_leads (word ∷ words) exact =
    let both = and_parts (not (has_leading_zero word)) (are_exact words) exact in
    let leads : has_leading_zero word ≡ false = grind (arith, nat_tests, both.0) in
    (leads, no_leads words both.1)

leads-front : (front behind : List (List ℕ)) → HasNoLeads (front ++ behind) → HasNoLeads front
leads-front [] behind leads = tt
leads-front (word ∷ front) behind leads = (leads.0, leads-front front behind leads.1)

leads-behind : (front behind : List (List ℕ)) → HasNoLeads (front ++ behind) → HasNoLeads behind
leads-behind [] behind leads = leads
leads-behind (word ∷ front) behind leads = leads-behind front behind leads.1

-- Outcomes and the words of replies.

outcome-written : (word : List ℕ) (outcome : Outcome) → outcome_of word ≡ Some outcome → outcome_word outcome ≡ word
unfolding outcome_of
outcome-written word outcome is =
    (bytes_eq-Decides (outcome_word outcome) word).0 (found_passes (λ o. bytes_eq (outcome_word o) word) (Applied ∷ Failed ∷ []) outcome is)

reply_word-written : (word : List ℕ) (kind : ReplyWord) → reply_word_of word ≡ Some kind → reply_spelling kind ≡ word
unfolding reply_word_of
reply_word-written word kind is =
    (bytes_eq-Decides (reply_spelling kind) word).0 (found_passes (λ reply. bytes_eq (reply_spelling reply) word) (words.Done ∷ words.Value ∷ words.Id ∷ words.Bytes ∷ words.Mask ∷ words.List ∷ words.Timeout ∷ words.Refused ∷ []) kind is)

-- a reply of another kind
other-reply : {A : Type 0} (made : A → Reply) → ((x : A) → is_reply_numeric (made x) ≡ false) → (found : Option A) (reply : Reply) → option_map made found ≡ Some reply → is_reply_numeric reply ≡ true → ⊥
other-reply made never None reply is numeric = none-some reply is
other-reply made never (Some x) reply is numeric =
    let same : true ≡ false = sym numeric ∙ ap is_reply_numeric (sym (same_Some (made x) reply is)) ∙ never x in
    let no : ⊥ = cc in no

plain-written : (kind : ReplyWord) (made : Reply) → words_of_reply made ≡ reply_spelling kind ∷ [] → (arguments : List (List ℕ)) (reply : Reply) → plain_reply made arguments ≡ Some reply
    → words_of_reply reply ≡ reply_spelling kind ∷ arguments
plain-written kind made own [] reply is = ap words_of_reply (sym (same_Some made reply is)) ∙ own
plain-written kind made own (word ∷ arguments) reply is = absurd (none-some reply is)

module _ (laws : CallLaws) where
  exact-written : (word : List ℕ) (n : ℕ) → exact_value word ≡ Some n → decimal n ≡ word
  exact-written word n is = by (has_leading_zero word) refl is
    where
      by : (b : Bool) → has_leading_zero word ≡ b → cond b None (value_of word) ≡ Some n → decimal n ≡ word
      by true leads same = absurd (none-some n same)
      by false leads same = laws.value_written word n same leads

  below-written : (limit : ℕ) (word : List ℕ) (n : ℕ) → number_below limit word ≡ Some n → decimal n ≡ word
  below-written limit word n is =
      option_and_then_some _ (exact_value word) n is (λ value spelled kept.
      exact-written word n (spelled ∙ ap (λ (m : ℕ). Some m) (cond_some (nat_lt value limit) value n kept).1))

  caller-written : (word : List ℕ) (c : CallerId) → caller_of word ≡ Some c → caller_word c ≡ word
  unfolding caller_of
  caller-written word c is =
      option_and_then_some _ (position (λ byte. byte == 46) word) c is (λ dot at found.
      option_and_then_some _ (number_below 16 (take dot word)) c found (λ rank first behind.
      option_and_then_some _ (number_below 4 (drop (dot + 1) word)) c behind (λ thread second same.
      subst (λ (d : CallerId). caller_word d ≡ word) (same_Some (record { rank = rank; thread = thread }) c same)
      (caller_word-parts (record { rank = rank; thread = thread })
      ∙ ap (λ (front : List ℕ). front ++ (46 ∷ decimal thread)) (below-written 16 (take dot word) rank first)
      ∙ ap (λ (behind : List ℕ). take dot word ++ (46 ∷ behind)) (below-written 4 (drop (dot + 1) word) thread second)
      ∙ parted (λ byte. byte == 46) 46 (λ byte pass. grind (arith, nat_tests, pass)) word dot at))))

  -- Replies.

  value_reply-written : (arguments : List (List ℕ)) (reply : Reply) → value_reply arguments ≡ Some reply → HasNoLeads arguments → words_of_reply reply ≡ codes "value" ∷ arguments
  unfolding words_of_reply
  value_reply-written [] reply is leads = absurd (none-some reply is)
  value_reply-written (word ∷ []) reply is leads = by (number_of word) refl is
    where
      by : (found : Option ℕ) → number_of word ≡ found → option_map replies.Value found ≡ Some reply → words_of_reply reply ≡ codes "value" ∷ word ∷ []
      by None spelled same = absurd (none-some reply same)
      by (Some n) spelled same =
          ap words_of_reply (sym (same_Some (replies.Value n) reply same)) ∙ ap (λ (w : List ℕ). codes "value" ∷ w ∷ []) (laws.number_written word n spelled leads.0)
  value_reply-written (word ∷ next ∷ rest) reply is leads = absurd (none-some reply is)

  -- a reply with one number of 32 bits
  field-written : (kind : ReplyWord) (made : ℕ → Reply) → ((n : ℕ) → words_of_reply (made n) ≡ reply_spelling kind ∷ decimal n ∷ [])
      → (arguments : List (List ℕ)) (reply : Reply) → option_map made (one_field arguments) ≡ Some reply → HasNoLeads arguments → words_of_reply reply ≡ reply_spelling kind ∷ arguments
  field-written kind made own [] reply is leads = absurd (none-some reply is)
  field-written kind made own (word ∷ []) reply is leads = by (value_of word) refl is
    where
      by : (found : Option ℕ) → value_of word ≡ found → option_map made found ≡ Some reply → words_of_reply reply ≡ reply_spelling kind ∷ word ∷ []
      by None spelled same = absurd (none-some reply same)
      by (Some n) spelled same =
          ap words_of_reply (sym (same_Some (made n) reply same)) ∙ own n ∙ ap (λ (w : List ℕ). reply_spelling kind ∷ w ∷ []) (laws.value_written word n spelled leads.0)
  field-written kind made own (word ∷ next ∷ rest) reply is leads = absurd (none-some reply is)

  kind-written : (kind : ReplyWord) (arguments : List (List ℕ)) (reply : Reply) → reply_with kind arguments ≡ Some reply → is_reply_numeric reply ≡ true → HasNoLeads arguments
      → words_of_reply reply ≡ reply_spelling kind ∷ arguments
  unfolding words_of_reply
  kind-written words.Done arguments reply is numeric leads = plain-written words.Done replies.Done refl arguments reply is
  kind-written words.Value arguments reply is numeric leads = value_reply-written arguments reply is leads
  kind-written words.Id arguments reply is numeric leads = field-written words.Id replies.Id (λ n. refl) arguments reply is leads
  kind-written words.Bytes [] reply is numeric leads = absurd (none-some reply is)
  kind-written words.Bytes (word ∷ []) reply is numeric leads = absurd (other-reply replies.Bytes (λ bytes. refl) _ reply is numeric)
  kind-written words.Bytes (word ∷ next ∷ rest) reply is numeric leads = absurd (none-some reply is)
  kind-written words.Mask arguments reply is numeric leads = field-written words.Mask replies.Mask (λ n. refl) arguments reply is leads
  kind-written words.List [] reply is numeric leads = absurd (none-some reply is)
  kind-written words.List (word ∷ elements) reply is numeric leads =
      option_and_then_some _ (type_of word) reply is (λ num_type first behind.
      option_and_then_some _ (elements_of num_type elements) reply behind (λ items second same.
      absurd (let no : true ≡ false = sym numeric ∙ ap is_reply_numeric (sym (same_Some (replies.List (record { num_type = num_type; items = items })) reply same)) in let never : ⊥ = cc in never)))
  kind-written words.Timeout arguments reply is numeric leads = plain-written words.Timeout replies.Timeout refl arguments reply is
  kind-written words.Refused [] reply is numeric leads = absurd (none-some reply is)
  kind-written words.Refused (word ∷ fields) reply is numeric leads =
      option_and_then_some _ (number_of word) reply is (λ number first behind.
      option_and_then_some _ (refusal_of number fields) reply behind (λ refusal second same.
      absurd (let no : true ≡ false = sym numeric ∙ ap is_reply_numeric (sym (same_Some (replies.Refused refusal) reply same)) in let never : ⊥ = cc in never)))

  reply-written : (spelled : List (List ℕ)) (reply : Reply) → reply_of spelled ≡ Some reply → is_reply_numeric reply ≡ true → HasNoLeads spelled → words_of_reply reply ≡ spelled
  unfolding reply_of
  reply-written [] reply is numeric leads = absurd (none-some reply is)
  reply-written (word ∷ arguments) reply is numeric leads =
      option_and_then_some _ (reply_word_of word) reply is (λ kind spells found.
      kind-written kind arguments reply found numeric leads.1 ∙ ap (λ (w : List ℕ). w ∷ arguments) (reply_word-written word kind spells))

  -- Events.

  -- a call and its reply, on both sides of the arrow
  sides-written : (c : CallerId) (spelled : List (List ℕ)) (place : ℕ) (event : Event) → position (λ w. bytes_eq arrow w) spelled ≡ Some place → called_with c (take place spelled) (drop (place + 1) spelled) ≡ Some event
      → is_written_so event (codes "called" ∷ caller_word c ∷ spelled) ≡ true → words_of_event event ≡ codes "called" ∷ caller_word c ∷ spelled
  unfolding words_of_event
  sides-written c spelled place event at is known =
      let whole = parted (λ w. bytes_eq arrow w) arrow (λ w pass. sym ((bytes_eq-Decides arrow w).0 pass)) spelled place at in
      option_and_then_some _ (recorded_call_of (take place spelled)) event is (λ call first behind.
      option_and_then_some _ (reply_of (drop (place + 1) spelled)) event behind (λ reply second same.
      let so : is_written_so (Called c call reply) (codes "called" ∷ caller_word c ∷ spelled) ≡ true = ap (λ (e : Event). is_written_so e (codes "called" ∷ caller_word c ∷ spelled)) (same_Some (Called c call reply) event same) ∙ known in
      let parts = and_parts (is_call_numeric call && is_reply_numeric reply) (are_exact (codes "called" ∷ caller_word c ∷ spelled)) so in
      let numeric = and_parts (is_call_numeric call) (is_reply_numeric reply) parts.0 in
      let exact : HasNoLeads spelled = (no_leads (codes "called" ∷ caller_word c ∷ spelled) parts.1).1.1 in
      let cut : HasNoLeads (take place spelled ++ (arrow ∷ drop (place + 1) spelled)) = subst (λ (ws : List (List ℕ)). HasNoLeads ws) (sym whole) exact in
      subst (λ (e : Event). words_of_event e ≡ codes "called" ∷ caller_word c ∷ spelled) (same_Some (Called c call reply) event same)
      (ap (λ (front : List (List ℕ)). codes "called" ∷ caller_word c ∷ (front ++ (arrow ∷ words_of_reply reply)))
      (laws.call_written (take place spelled) call first numeric.0 (leads-front (take place spelled) (arrow ∷ drop (place + 1) spelled) cut))
      ∙ ap (λ (behind : List (List ℕ)). codes "called" ∷ caller_word c ∷ (take place spelled ++ (arrow ∷ behind)))
      (reply-written (drop (place + 1) spelled) reply second numeric.1 (leads-behind (take place spelled) (arrow ∷ drop (place + 1) spelled) cut).1)
      ∙ ap (λ (ws : List (List ℕ)). codes "called" ∷ caller_word c ∷ ws) whole)))

  called-written : (arguments : List (List ℕ)) (event : Event) → called_of arguments ≡ Some event → is_written_so event (codes "called" ∷ arguments) ≡ true → words_of_event event ≡ codes "called" ∷ arguments
  unfolding called_of
  called-written [] event is known = absurd (none-some event is)
  called-written (word ∷ spelled) event is known =
      option_and_then_some _ (caller_of word) event is (λ c first found.
      option_and_then_some _ (position (λ w. bytes_eq arrow w) spelled) event found (λ place at with.
      let own = caller-written word c first in
      sides-written c spelled place event at with (ap (λ (w : List ℕ). is_written_so event (codes "called" ∷ w ∷ spelled)) own ∙ known)
      ∙ ap (λ (w : List ℕ). codes "called" ∷ w ∷ spelled) own))

  joined-unknown : (arguments spelled : List (List ℕ)) (event : Event) → joined_of arguments ≡ Some event → is_written_so event spelled ≡ true → ⊥
  unfolding joined_of
  joined-unknown [] spelled event is known = none-some event is
  joined-unknown (first ∷ []) spelled event is known = none-some event is
  joined-unknown (first ∷ second ∷ rest) spelled event is known =
      option_and_then_some _ (caller_of first) event is (λ c one behind.
      option_and_then_some _ (number_below 8 second) event behind (λ group two later.
      option_and_then_some _ (args_of rest) event later (λ args three same.
      let no : true ≡ false = sym known ∙ ap (λ (e : Event). is_written_so e spelled) (sym (same_Some (Joined c group args) event same)) in
      let never : ⊥ = cc in never)))

  moved-written : (arguments : List (List ℕ)) (m : Moved) → moved_of arguments ≡ Some m
      → decimal m.origin ∷ decimal m.queue ∷ decimal m.target ∷ decimal m.number ∷ outcome_word m.outcome ∷ [] ≡ arguments
  unfolding moved_of
  moved-written [] m is = absurd (none-some m is)
  moved-written (a ∷ []) m is = absurd (none-some m is)
  moved-written (a ∷ b ∷ []) m is = absurd (none-some m is)
  moved-written (a ∷ b ∷ c ∷ []) m is = absurd (none-some m is)
  moved-written (a ∷ b ∷ c ∷ d ∷ []) m is = absurd (none-some m is)
  moved-written (a ∷ b ∷ c ∷ d ∷ e ∷ []) m is =
      option_and_then_some _ (number_below 16 a) m is (λ origin one behind_one.
      option_and_then_some _ (number_below 8 b) m behind_one (λ queue two behind_two.
      option_and_then_some _ (number_below 16 c) m behind_two (λ target three behind_three.
      option_and_then_some _ (exact_value d) m behind_three (λ number four behind_four.
      option_and_then_some _ (outcome_of e) m behind_four (λ outcome five same.
      subst (λ (n : Moved). decimal n.origin ∷ decimal n.queue ∷ decimal n.target ∷ decimal n.number ∷ outcome_word n.outcome ∷ [] ≡ a ∷ b ∷ c ∷ d ∷ e ∷ [])
      (same_Some (record { origin = origin; queue = queue; target = target; number = number; outcome = outcome }) m same)
      (rw (below-written 16 a origin one, below-written 8 b queue two, below-written 16 c target three, exact-written d number four, outcome-written e outcome five) refl))))))
  moved-written (a ∷ b ∷ c ∷ d ∷ e ∷ f ∷ rest) m is = absurd (none-some m is)

  take-written : (arguments : List (List ℕ)) (event : Event) → option_map taken (moved_of arguments) ≡ Some event → words_of_event event ≡ codes "take" ∷ arguments
  unfolding words_of_event
  take-written arguments event is = by (moved_of arguments) refl is
    where
      by : (found : Option Moved) → moved_of arguments ≡ found → option_map taken found ≡ Some event → words_of_event event ≡ codes "take" ∷ arguments
      by None spelled same = absurd (none-some event same)
      by (Some m) spelled same =
          ap words_of_event (sym (same_Some (taken m) event same)) ∙ ap (λ (ws : List (List ℕ)). codes "take" ∷ ws) (moved-written arguments m spelled)

  put-written : (arguments : List (List ℕ)) (event : Event) → option_map put (moved_of arguments) ≡ Some event → words_of_event event ≡ codes "put" ∷ arguments
  unfolding words_of_event
  put-written arguments event is = by (moved_of arguments) refl is
    where
      by : (found : Option Moved) → moved_of arguments ≡ found → option_map put found ≡ Some event → words_of_event event ≡ codes "put" ∷ arguments
      by None spelled same = absurd (none-some event same)
      by (Some m) spelled same =
          ap words_of_event (sym (same_Some (put m) event same)) ∙ ap (λ (ws : List (List ℕ)). codes "put" ∷ ws) (moved-written arguments m spelled)

  -- a first word that is one of an event's
  first-written : (own word : List ℕ) (arguments : List (List ℕ)) (event : Event) → bytes_eq own word ≡ true → (is_written_so event (own ∷ arguments) ≡ true → words_of_event event ≡ own ∷ arguments)
      → is_written_so event (word ∷ arguments) ≡ true → words_of_event event ≡ word ∷ arguments
  first-written own word arguments event same =
      subst (λ (w : List ℕ). (is_written_so event (own ∷ arguments) ≡ true → words_of_event event ≡ own ∷ arguments) → is_written_so event (w ∷ arguments) ≡ true → words_of_event event ≡ w ∷ arguments)
      ((bytes_eq-Decides own word).0 same) (λ written. written)

  event-written : (spelled : List (List ℕ)) (event : Event) → event_of spelled ≡ Some event → is_written_so event spelled ≡ true → words_of_event event ≡ spelled
  unfolding event_of
  event-written [] event is known = absurd (none-some event is)
  event-written (word ∷ arguments) event is known =
      by (bytes_eq (codes "called") word) (bytes_eq (codes "joined") word) (bytes_eq (codes "take") word) (bytes_eq (codes "put") word) refl refl refl is
    where
      by : (b1 b2 b3 b4 : Bool) → bytes_eq (codes "called") word ≡ b1 → bytes_eq (codes "take") word ≡ b3 → bytes_eq (codes "put") word ≡ b4
          → cond b1 (called_of arguments) (cond b2 (joined_of arguments) (cond b3 (option_map taken (moved_of arguments)) (cond b4 (option_map put (moved_of arguments)) None))) ≡ Some event
          → words_of_event event ≡ word ∷ arguments
      by true b2 b3 b4 same one two found = first-written (codes "called") word arguments event same (λ so. called-written arguments event found so) known
      by false true b3 b4 same one two found = absurd (joined-unknown arguments (word ∷ arguments) event found known)
      by false false true b4 other same two found = first-written (codes "take") word arguments event same (λ so. take-written arguments event found) known
      by false false false true other one same found = first-written (codes "put") word arguments event same (λ so. put-written arguments event found) known
      by false false false false other one two found = absurd (none-some event found)

  pub text-written : (text : List ℕ) (event : Event) → event_of (pieces_of text) ≡ Some event → is_written_so event (pieces_of text) ≡ true → text ≡ event_text event
  text-written text event is known = sym (laws.joined text) ∙ ap (λ (ws : List (List ℕ)). join_with_byte 32 ws) (sym (event-written (pieces_of text) event is known))
