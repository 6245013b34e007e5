-- Words joined by spaces, and the same words each behind a space.
use Rattle.std.proofs.Common.{◌≡◌, ℕ, ◌<◌, ◌≤◌, List, [], ◌∷◌, ◌++◌, length, length-append, map, take, Option, Some, None, codes, refl, sym, ap, ◌∙◌, append-nil, arith}
use Rattle.std.proofs.lemmas.Grind.{flat_map-append}
use Rattle.std.proofs.lemmas.List.{take-take, take_at}
use Rattle.std.specs.Fmt.{decimal, signed_decimal}
use Rattle.std.specs.List.{flat_map, join_with_byte}
use Rattle.gaspi_types.specs.declared.calls.Call.{Call}
use Rattle.gaspi_types.specs.declared.events.Event.TheVariants.{Called, Joined}
use Rattle.gaspi_types.specs.declared.groups.Args.{Args}
use Rattle.gaspi_types.specs.declared.replies.Reply.{Reply}
use Rattle.gaspi_types.specs.declared.replies.Reply.TheVariants as replies
use Rattle.gaspi_types.specs.declared.shapes.CallerId.{CallerId}
use Rattle.call_texts.specs.CallText.{Spelled, spelled, words_of_spelled, words_of_call, call_text}
use Rattle.gaspi_texts.specs.CollectiveText.{coll_words, args_words}
use Rattle.gaspi_texts.specs.EventText.{arrow, caller_word, words_of_event, event_text}
use Rattle.gaspi_texts.specs.ReplyText.{words_of_reply, reply_text}
use Rattle.call_texts.specs.Written.{spaced, spaced_elements}

pub join_spaced : (word : List ℕ) (words : List (List ℕ)) → join_with_byte 32 (word ∷ words) ≡ word ++ spaced words
join_spaced word [] = sym (append-nil word)
join_spaced word (next ∷ words) = ap (λ (rest : List ℕ). word ++ (32 ∷ rest)) (join_spaced next words)

spaced-map : {A : Type 0} (f : A → List ℕ) (items : List A) → spaced (map f items) ≡ flat_map (λ x. 32 ∷ f x) items
spaced-map f [] = refl
spaced-map f (item ∷ items) = ap (λ (rest : List ℕ). 32 ∷ (f item ++ rest)) (spaced-map f items)

pub join_map : {A : Type 0} (f : A → List ℕ) (word : List ℕ) (items : List A)
    → join_with_byte 32 (word ∷ map f items) ≡ word ++ flat_map (λ x. 32 ∷ f x) items
join_map f word items = join_spaced word (map f items) ∙ ap (λ (rest : List ℕ). word ++ rest) (spaced-map f items)

-- words behind a space are the words joined, behind a space
spaced_filled : (words : List (List ℕ)) → 0 < length words → spaced words ≡ 32 ∷ join_with_byte 32 words
spaced_filled [] filled = absurd (omega arith)
spaced_filled (word ∷ words) filled = ap (λ (text : List ℕ). 32 ∷ text) (sym (join_spaced word words))

spelled_filled : (s : Option Spelled) → 0 < length (words_of_spelled s)
spelled_filled None = omega arith
spelled_filled (Some s) = omega arith

call_filled : (call : Call) → 0 < length (words_of_call call)
call_filled call = spelled_filled (spelled call)

reply_filled : (reply : Reply) → 0 < length (words_of_reply reply)
unfolding words_of_reply
reply_filled replies.Done = omega arith
reply_filled (replies.Value n) = omega arith
reply_filled (replies.Id n) = omega arith
reply_filled (replies.Bytes bytes) = omega arith
reply_filled (replies.Mask mask) = omega arith
reply_filled (replies.List numbers) = omega arith
reply_filled replies.Timeout = omega arith
reply_filled (replies.Refused refusal) = omega arith

spaced_call : (call : Call) → spaced (words_of_call call) ≡ 32 ∷ call_text call
spaced_call call = spaced_filled (words_of_call call) (call_filled call)

spaced_reply : (reply : Reply) → spaced (words_of_reply reply) ≡ 32 ∷ reply_text reply
spaced_reply reply = spaced_filled (words_of_reply reply) (reply_filled reply)

-- the text of a call's event by its parts
pub called_text : (c : CallerId) (call : Call) (reply : Reply)
    → event_text (Called c call reply) ≡ codes "called" ++ (32 ∷ (caller_word c ++ (32 ∷ (call_text call ++ (codes " -> " ++ reply_text reply)))))
unfolding words_of_event
called_text c call reply =
    join_spaced (codes "called") (caller_word c ∷ (words_of_call call ++ arrow ∷ words_of_reply reply))
    ∙ ap (λ (rest : List ℕ). codes "called" ++ (32 ∷ (caller_word c ++ rest))) (flat_map-append (λ (word : List ℕ). 32 ∷ word) (words_of_call call) (arrow ∷ words_of_reply reply))
    ∙ ap (λ (rest : List ℕ). codes "called" ++ (32 ∷ (caller_word c ++ (rest ++ spaced (arrow ∷ words_of_reply reply))))) (spaced_call call)
    ∙ ap (λ (rest : List ℕ). codes "called" ++ (32 ∷ (caller_word c ++ (32 ∷ (call_text call ++ (codes " ->" ++ rest)))))) (spaced_reply reply)

-- a collective and its values, each word behind a space
pub spaced_args : (args : Args) → spaced (args_words args) ≡ spaced (coll_words args.coll) ++ spaced_elements args.values.items
spaced_args args =
    flat_map-append (λ (word : List ℕ). 32 ∷ word) (coll_words args.coll) (map signed_decimal args.values.items)
    ∙ ap (λ (rest : List ℕ). spaced (coll_words args.coll) ++ rest) (spaced-map signed_decimal args.values.items)

-- the text of a join by its parts
pub joined_text : (c : CallerId) (group : ℕ) (args : Args)
    → event_text (Joined c group args) ≡ codes "joined" ++ (32 ∷ (caller_word c ++ (32 ∷ (decimal group ++ spaced (args_words args)))))
unfolding words_of_event
joined_text c group args = join_spaced (codes "joined") (caller_word c ∷ decimal group ∷ args_words args)

-- what keeps a longer text in front keeps a shorter one
pub kept_prefix : (old mid new more : List ℕ) → mid ≡ old ++ more → take (length mid) new ≡ mid → take (length old) new ≡ old
kept_prefix old mid new more is kept =
    let le : length old ≤ length mid = omega (arith, ap length is, length-append old more) in
    sym (take-take (length old) (length mid) new le) ∙ ap (λ (text : List ℕ). take (length old) text) (kept ∙ is) ∙ take_at old more (length old) refl
