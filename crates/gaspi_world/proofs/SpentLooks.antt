-- The looks of the timeouts of a caller are kept as its history goes on.
use Rattle.std.proofs.Common.{◌≡◌, ◌⊎◌, ℕ, zero, suc, ◌+◌, ◌-◌, ◌<◌, ◌≤◌, Bool, true, false, List, [], ◌∷◌, ◌++◌, map, take, length, length-append, Some, inl, inr, refl, sym, ap, ◌∙◌, subst, arith}
use Rattle.std.specs.List.{slice_get}
use Rattle.std.proofs.lemmas.Bool.{cases_lt}
use Rattle.std.proofs.lemmas.List.{append_assoc, append-nil, append_cancel_left, append_cancel_right, length-map, take-append-le}
use Rattle.std.proofs.lemmas.Option.{slice_get_within}
use Rattle.std.proofs.Math.Seq.{take-append_seam}
use mathlib.Core.List.{IsPrefix}
use Rattle.gaspi_types.specs.World.{ShapeValue, is_caller}
use Rattle.gaspi_types.specs.declared.calls.Call.{Call}
use Rattle.gaspi_types.specs.declared.calls.Timeout as timeouts
use Rattle.gaspi_types.specs.declared.events.Event.{Event}
use Rattle.gaspi_types.specs.declared.events.Event.TheVariants.{Called, Joined, Take, Put}
use Rattle.gaspi_types.specs.declared.replies.Reply.{Reply}
use Rattle.gaspi_types.specs.declared.replies.Reply.TheVariants.{Timeout}
use Rattle.gaspi_types.specs.declared.shapes.CallerId.{CallerId}
use Rattle.gaspi_types.proofs.Items.{prefix-of-joined, behind-of-joined, map-at}
use Rattle.gaspi_model.specs.Step.{recorded_calls}
use Rattle.gaspi_model.proofs.OwnCalls.{own_calls-append}
use Rattle.timeout_state.specs.Looks.{looks_of}
use Rattle.commit_table.specs.declared.views.PassView.{PassView}
use Rattle.commit_table.proofs.Lists.{prefix_self, prefix_trans, prefix_more, prefix_length, prefix_both}
use Rattle.gaspi_world.specs.Attempts.{is_unready, answer_after, MayHaveJoined}
use Rattle.gaspi_model.specs.CallerEvents.{events_of}
use Rattle.gaspi_world.specs.Calling.{JoinedFirst, IsCalled, IsStopped}
use Rattle.gaspi_world.specs.Waits.{IsLookOf, HasLooks, Waited, HaveWaited}
use Rattle.gaspi_world.proofs.OwnEvents.{is-itself}
use Rattle.gaspi_world.proofs.Waiting.{at-snoc}

-- what stands at the end of a list
at-end : {A : Type 0} (xs : List A) (x : A) → slice_get (xs ++ x ∷ []) (length xs) ≡ Some x
at-end xs x = behind-of-joined xs (x ∷ []) 0 (length xs) (omega arith)

none-behind : {A : Type 0} (xs ys : List A) → xs ++ ys ≡ [] → ys ≡ []
none-behind [] ys none = none
none-behind (x ∷ xs) ys none = absurd (let no : ⊥ = cc in no)

-- what a longer history begins with is what stands there
shard_taken : {A : Type 0} (xs ys : List A) → IsPrefix xs ys → take (length xs) ys ≡ xs
shard_taken xs ys more = ap (take (length xs)) (sym more.1) ∙ take-append_seam xs more.0

module _ (c : CallerId) where
  -- The calls of a caller in a history.

  own-called : (call : Call) (reply : Reply) (history : List Event) → recorded_calls c.rank c.thread (Called c call reply ∷ history) ≡ (call, reply) ∷ recorded_calls c.rank c.thread history
  own-called call reply history = rw (is-itself c) refl

  -- they are those among its events
  own-among : (history : List Event) → recorded_calls c.rank c.thread (events_of c history) ≡ recorded_calls c.rank c.thread history
  own-among [] = refl
  own-among (Called d call reply ∷ history) = go (is_caller c.rank c.thread d) refl (own-among history)
    where
      go : (b : Bool) → is_caller c.rank c.thread d ≡ b → recorded_calls c.rank c.thread (events_of c history) ≡ recorded_calls c.rank c.thread history
          → recorded_calls c.rank c.thread (events_of c (Called d call reply ∷ history)) ≡ recorded_calls c.rank c.thread (Called d call reply ∷ history)
      go true is rest = rw is (rw is (ap (λ (ps : List (Call × Reply)). (call, reply) ∷ ps) rest))
      go false is rest = rw is rest
  own-among (Joined d id args ∷ history) = go (is_caller c.rank c.thread d) refl (own-among history)
    where
      go : (b : Bool) → is_caller c.rank c.thread d ≡ b → recorded_calls c.rank c.thread (events_of c history) ≡ recorded_calls c.rank c.thread history
          → recorded_calls c.rank c.thread (events_of c (Joined d id args ∷ history)) ≡ recorded_calls c.rank c.thread (Joined d id args ∷ history)
      go true is rest = rw is rest
      go false is rest = rw is rest
  own-among (Take origin queue target number outcome ∷ history) = own-among history
  own-among (Put origin queue target number outcome ∷ history) = own-among history

  -- none stands where there are none
  own-nowhere : (history : List Event) (k : ℕ) (call : Call) (reply : Reply) → slice_get history k ≡ Some (Called c call reply) → recorded_calls c.rank c.thread history ≡ [] → ⊥
  own-nowhere [] k call reply at none = (let no : ⊥ = cc in no)
  own-nowhere (e ∷ history) zero call reply at none =
      let same : e ≡ Called c call reply = cc in
      let some : (call, reply) ∷ recorded_calls c.rank c.thread history ≡ [] = sym (own-called call reply history) ∙ (ap (λ (x : Event). recorded_calls c.rank c.thread (x ∷ history)) (sym same) ∙ none) in
      let no : ⊥ = cc in
      no
  own-nowhere (e ∷ history) (suc k) call reply at none =
      own-nowhere history k call reply at (none-behind (recorded_calls c.rank c.thread (e ∷ [])) (recorded_calls c.rank c.thread history) (sym (own_calls-append c.rank c.thread (e ∷ []) history) ∙ none))

  -- where a history goes on without one, each stands in the history
  own-within : (history later : List Event) (k : ℕ) (call : Call) (reply : Reply) → recorded_calls c.rank c.thread (history ++ later) ≡ recorded_calls c.rank c.thread history → slice_get (history ++ later) k ≡ Some (Called c call reply)
      → k < length history
  own-within history later k call reply same at = go (cases_lt k (length history))
    where
      none : recorded_calls c.rank c.thread later ≡ []
      none = append_cancel_left (recorded_calls c.rank c.thread history) (recorded_calls c.rank c.thread later) [] (sym (own_calls-append c.rank c.thread history later) ∙ (same ∙ sym (append-nil (recorded_calls c.rank c.thread history))))

      go : (k < length history) ⊎ (length history ≤ k) → k < length history
      go (inl less) = less
      go (inr more) = absurd (own-nowhere later (k - length history) call reply (sym (behind-of-joined history later (k - length history) k (omega arith)) ∙ at) none)

  -- fewer stand before one than there are
  own-fewer : (history : List Event) (k : ℕ) (call : Call) (reply : Reply) → slice_get history k ≡ Some (Called c call reply) → length (recorded_calls c.rank c.thread (take k history)) < length (recorded_calls c.rank c.thread history)
  own-fewer [] k call reply at = absurd (let no : ⊥ = cc in no)
  own-fewer (e ∷ history) zero call reply at =
      let same : e ≡ Called c call reply = cc in
      let some : recorded_calls c.rank c.thread (e ∷ history) ≡ (call, reply) ∷ recorded_calls c.rank c.thread history = ap (λ (x : Event). recorded_calls c.rank c.thread (x ∷ history)) same ∙ own-called call reply history in
      let many : length (recorded_calls c.rank c.thread (e ∷ history)) ≡ suc (length (recorded_calls c.rank c.thread history)) = ap length some in
      omega arith
  own-fewer (e ∷ history) (suc k) call reply at =
      let rest = own-fewer history k call reply at in
      let front = ap length (own_calls-append c.rank c.thread (e ∷ []) (take k history)) ∙ length-append (recorded_calls c.rank c.thread (e ∷ [])) (recorded_calls c.rank c.thread (take k history)) in
      let all = ap length (own_calls-append c.rank c.thread (e ∷ []) history) ∙ length-append (recorded_calls c.rank c.thread (e ∷ [])) (recorded_calls c.rank c.thread history) in
      omega arith

module _ (w : ShapeValue) (c : CallerId) where
  -- What looks a call has stays so in a longer history, and with more looks.

  look-later : (call : Call) (history later : List Event) (place look : ℕ) → place ≤ length history → IsLookOf w c call history place look → IsLookOf w c call (history ++ later) place look
  look-later call history later place look within is = record {
    in_time = is.in_time;
    since = λ k other reply less at. is.since k other reply less (sym (prefix-of-joined history later k (omega arith)) ∙ at);
    unready = subst (λ (h : List Event). is_unready (answer_after w c call h) ≡ true) (sym (take-append-le look history later (let in_time = is.in_time in omega arith))) is.unready;
  }

  looks-later : (call : Call) (history later : List Event) (place n : ℕ) (looks : List ℕ) → place ≤ length history → HasLooks w c call history place looks n → HasLooks w c call (history ++ later) place looks n
  looks-later call history later place n looks within has = record {
    before = has.before;
    these = has.these;
    later = has.later;
    parts = has.parts;
    many = has.many;
    each = λ k look at. look-later call history later place look within (has.each k look at);
  }

  looks-more : (call : Call) (history : List Event) (place n : ℕ) (looks more : List ℕ) → HasLooks w c call history place looks n → HasLooks w c call history place (looks ++ more) n
  looks-more call history place n looks more has = record {
    before = has.before;
    these = has.these;
    later = has.later ++ more;
    parts = ap (λ (ks : List ℕ). ks ++ more) has.parts ∙ (append_assoc has.before (has.these ++ has.later) more ∙ ap (λ (ks : List ℕ). has.before ++ ks) (append_assoc has.these has.later more));
    many = has.many;
    each = has.each;
  }

  -- timeouts keep their looks where the caller calls nothing more
  pub waits-last : (history later : List Event) (looks ns : List ℕ) → Waited w c history looks ns → recorded_calls c.rank c.thread (history ++ later) ≡ recorded_calls c.rank c.thread history → Waited w c (history ++ later) looks ns
  waits-last history later looks ns waited same place call n at number =
      let within : place < length history = own-within c history later place call Timeout same at in
      let before = take-append-le place history later (omega arith) in
      looks-later call history later place n looks (omega arith) (waited place call n
      (sym (prefix-of-joined history later place within) ∙ at)
      (ap (λ (h : List Event). slice_get ns (length (recorded_calls c.rank c.thread h))) (sym before) ∙ number))

  waits-more : (history : List Event) (looks more ns : List ℕ) → Waited w c history looks ns → Waited w c history (looks ++ more) ns
  waits-more history looks more ns waited place call n at number = looks-more call history place n looks more (waited place call n at number)

  -- One call more is recorded, behind a history that had no other since.

  module _ (call : Call) (reply : Reply) (seen before : List Event) (more : IsPrefix seen before) (same : recorded_calls c.rank c.thread before ≡ recorded_calls c.rank c.thread seen) where
    goes : recorded_calls c.rank c.thread (seen ++ more.0) ≡ recorded_calls c.rank c.thread seen
    goes = ap (λ (h : List Event). recorded_calls c.rank c.thread h) more.1 ∙ same

    -- a history between the two was looked at
    is-look : (h : List Event) → IsPrefix seen h × IsPrefix h before → is_unready (answer_after w c call h) ≡ true → IsLookOf w c call (before ++ Called c call reply ∷ []) (length before) (length h)
    is-look h sides unready = record {
      in_time = prefix_length h before sides.1;
      since = λ k other answer less at.
          let inside = own-within c seen more.0 k other answer goes (ap (λ (es : List Event). slice_get es k) more.1 ∙ (sym (prefix-of-joined before (Called c call reply ∷ []) k less) ∙ at)) in
          let long = prefix_length seen h sides.0 in
          omega arith;
      unready = subst (λ (es : List Event). is_unready (answer_after w c call es) ≡ true) (sym (shard_taken h (before ++ Called c call reply ∷ []) (prefix_more h before (Called c call reply ∷ []) sides.1))) unready;
    }

    module _ (looks ns : List ℕ) (k : ℕ) (histories : List (List Event)) where
      -- it has all these looks
      has-all : k ≤ length histories → ((j : ℕ) (h : List Event) → slice_get histories j ≡ Some h → IsPrefix seen h × IsPrefix h before)
          → ((j : ℕ) (h : List Event) → slice_get histories j ≡ Some h → is_unready (answer_after w c call h) ≡ true)
          → HasLooks w c call (before ++ Called c call reply ∷ []) (length before) (looks ++ map length histories) k
      has-all many between unready = record {
        before = looks;
        these = map length histories;
        later = [];
        parts = ap (λ (ks : List ℕ). looks ++ ks) (sym (append-nil (map length histories)));
        many = (let long = length-map histories length in omega arith);
        each = λ j look at.
            let found = map-at length histories j look at in
            subst (IsLookOf w c call (before ++ Called c call reply ∷ []) (length before)) (sym found.2) (is-look found.0 (between j found.0 found.1) (unready j found.0 found.1));
      }

      -- those before it keep theirs
      earlier-looks : Waited w c seen looks ns → length ns ≡ length (recorded_calls c.rank c.thread seen) → (place n : ℕ) (other : Call) → place < length before
          → slice_get (before ++ Called c call reply ∷ []) place ≡ Some (Called c other Timeout)
          → slice_get (ns ++ k ∷ []) (length (recorded_calls c.rank c.thread (take place (before ++ Called c call reply ∷ [])))) ≡ Some n
          → HasLooks w c other (before ++ Called c call reply ∷ []) place (looks ++ map length histories) n
      earlier-looks waited lengths place n other less at number =
          let there = sym (prefix-of-joined before (Called c call reply ∷ []) place less) ∙ at in
          let took = take-append-le place before (Called c call reply ∷ []) (omega arith) in
          let fewer = own-fewer c before place other Timeout there in
          let all = ap length same in
          let front = prefix-of-joined ns (k ∷ []) (length (recorded_calls c.rank c.thread (take place before))) (omega arith) in
          let has = subst (λ (h : List Event). Waited w c h looks ns) more.1 (waits-last seen more.0 looks ns waited goes) place other n there
          (sym front ∙ (ap (λ (h : List Event). slice_get (ns ++ k ∷ []) (length (recorded_calls c.rank c.thread h))) (sym took) ∙ number)) in
          looks-more other (before ++ Called c call reply ∷ []) place n looks (map length histories) (looks-later other before (Called c call reply ∷ []) place n looks (omega arith) has)

      recorded : Waited w c seen looks ns → length ns ≡ length (recorded_calls c.rank c.thread seen) → (reply ≡ Timeout → k ≤ length histories)
          → ((j : ℕ) (h : List Event) → slice_get histories j ≡ Some h → IsPrefix seen h × IsPrefix h before)
          → (reply ≡ Timeout → (j : ℕ) (h : List Event) → slice_get histories j ≡ Some h → is_unready (answer_after w c call h) ≡ true)
          → Waited w c (before ++ Called c call reply ∷ []) (looks ++ map length histories) (ns ++ k ∷ [])
      recorded waited lengths many between unready place other n at number = go (cases_lt place (length before))
        where
          now : length before ≤ place → HasLooks w c other (before ++ Called c call reply ∷ []) place (looks ++ map length histories) n
          now past =
              let within = slice_get_within (before ++ Called c call reply ∷ []) place (Called c other Timeout) at in
              let long = length-append before (Called c call reply ∷ []) in
              let here : place ≡ length before = omega arith in
              let is : Some (Called c call reply) ≡ Some (Called c other Timeout) = sym (at-end before (Called c call reply)) ∙ (ap (slice_get (before ++ Called c call reply ∷ [])) (sym here) ∙ at) in
              let times : reply ≡ Timeout = cc in
              let named : call ≡ other = cc in
              let took : take place (before ++ Called c call reply ∷ []) ≡ before = ap (λ (p : ℕ). take p (before ++ Called c call reply ∷ [])) here ∙ take-append_seam before (Called c call reply ∷ []) in
              let count : length (recorded_calls c.rank c.thread (take place (before ++ Called c call reply ∷ []))) ≡ length ns = ap (λ (h : List Event). length (recorded_calls c.rank c.thread h)) took ∙ (ap length same ∙ sym lengths) in
              let last : Some k ≡ Some n = sym (at-end ns k) ∙ (ap (slice_get (ns ++ k ∷ [])) (sym count) ∙ number) in
              let so : k ≡ n = cc in
              let has = has-all (many times) between (unready times) in
              let placed = subst (λ (p : ℕ). HasLooks w c call (before ++ Called c call reply ∷ []) p (looks ++ map length histories) k) (sym here) has in
              let numbered = subst (HasLooks w c call (before ++ Called c call reply ∷ []) place (looks ++ map length histories)) so placed in
              subst (λ (x : Call). HasLooks w c x (before ++ Called c call reply ∷ []) place (looks ++ map length histories) n) named numbered

          go : (place < length before) ⊎ (length before ≤ place) → HasLooks w c other (before ++ Called c call reply ∷ []) place (looks ++ map length histories) n
          go (inl less) = earlier-looks waited lengths place n other less at number
          go (inr past) = now past

  -- A join is no call.

  may-join : (call : Call) (history joins : List Event) → MayHaveJoined w c call history joins → recorded_calls c.rank c.thread joins ≡ []
  may-join call history joins (inl none) = ap (λ (h : List Event). recorded_calls c.rank c.thread h) none
  may-join call history joins (inr (args, is, found)) = ap (λ (h : List Event). recorded_calls c.rank c.thread h) is

  first-join : (call : Call) (earlier : List (List Event)) (last joins : List Event) → JoinedFirst w c call (earlier ++ last ∷ []) joins → recorded_calls c.rank c.thread joins ≡ []
  first-join call [] last joins joined = may-join call last joins joined.0
  first-join call (first ∷ others) last joins joined = may-join call first joins joined.0

-- Beginnings.

pub prefix-own : (c : CallerId) (a b : List Event) → IsPrefix a b → IsPrefix (recorded_calls c.rank c.thread a) (recorded_calls c.rank c.thread b)
prefix-own c a b more = (recorded_calls c.rank c.thread more.0, sym (own_calls-append c.rank c.thread a more.0) ∙ ap (λ (h : List Event). recorded_calls c.rank c.thread h) more.1)

module _ {S : Type 0} (w : ShapeValue) (c : CallerId) where
  -- a pass that did nothing yet
  pub waited-fresh : (v : PassView S Event) → v.mine ≡ [] → HaveWaited w c [] v
  waited-fresh v none = record {
    waited = λ place call n at number. (let no : ⊥ = cc in absurd no);
    each = ap (λ (h : List Event). length (recorded_calls c.rank c.thread h)) (sym none);
    seen = subst (λ (h : List Event). IsPrefix (recorded_calls c.rank c.thread h) (recorded_calls c.rank c.thread v.seen)) (sym none) (recorded_calls c.rank c.thread v.seen, refl);
  }

  -- what the caller calls is in what was seen
  own-seen : (n : PassView S Event) → events_of c n.seen ≡ n.mine → recorded_calls c.rank c.thread n.seen ≡ recorded_calls c.rank c.thread n.mine
  own-seen n own = sym (own-among c n.seen) ∙ ap (λ (h : List Event). recorded_calls c.rank c.thread h) own

  -- all calls before were seen before
  own-before : (v : PassView S Event) (before : List Event) → IsPrefix (recorded_calls c.rank c.thread v.mine) (recorded_calls c.rank c.thread v.seen) → IsPrefix v.seen before → recorded_calls c.rank c.thread before ≡ recorded_calls c.rank c.thread v.mine
      → recorded_calls c.rank c.thread before ≡ recorded_calls c.rank c.thread v.seen
  own-before v before seen more same =
      let up : IsPrefix (recorded_calls c.rank c.thread before) (recorded_calls c.rank c.thread v.seen) = subst (λ (ps : List (Call × Reply)). IsPrefix ps (recorded_calls c.rank c.thread v.seen)) (sym same) seen in
      prefix_both (recorded_calls c.rank c.thread before) (recorded_calls c.rank c.thread v.seen) up (prefix-own c v.seen before more)

  -- a call that is recorded: a timeout has so many looks
  pub waited-called : (call : Call) (timeout : timeouts.Timeout) (reply : Reply) (v n : PassView S Event) (ns : List ℕ) (k : ℕ) → HaveWaited w c ns v → IsCalled w c call timeout reply v n → (reply ≡ Timeout → looks_of timeout ≡ Some k) → HaveWaited w c (ns ++ k ∷ []) n
  waited-called call timeout reply v n ns k so_far called asked = record {
    waited =
        subst (λ (h : List Event). Waited w c h n.looks (ns ++ k ∷ [])) (sym called.ends)
        (subst (λ (ks : List ℕ). Waited w c (called.before ++ Called c call reply ∷ []) ks (ns ++ k ∷ [])) (sym called.looks.looks)
        (recorded w c call reply v.seen called.before more same v.looks ns k (called.earlier ++ called.last ∷ []) so_far.waited (so_far.each ∙ ap length (sym made_before ∙ same)) many
        (λ j h at. ((called.looks.between j h at).0, called.after_looks j h at)) (λ times j h at. unready times j h (at-snoc called.earlier called.last j h at))));
    each = length-append ns (k ∷ []) ∙ (ap (λ (m : ℕ). m + 1) so_far.each ∙ sym (ap length made ∙ length-append (recorded_calls c.rank c.thread v.mine) ((call, reply) ∷ [])));
    seen = subst (IsPrefix (recorded_calls c.rank c.thread n.mine)) (sym (own-seen n called.goes_on.own)) (prefix_self (recorded_calls c.rank c.thread n.mine));
  }
    where
      made : recorded_calls c.rank c.thread n.mine ≡ recorded_calls c.rank c.thread v.mine ++ (call, reply) ∷ []
      made =
          ap (λ (h : List Event). recorded_calls c.rank c.thread h) (called.mine ∙ append_assoc v.mine called.joins (Called c call reply ∷ []))
          ∙ (own_calls-append c.rank c.thread v.mine (called.joins ++ Called c call reply ∷ [])
          ∙ ap (λ (ps : List (Call × Reply)). recorded_calls c.rank c.thread v.mine ++ ps) (own_calls-append c.rank c.thread called.joins (Called c call reply ∷ [])
          ∙ (ap (λ (ps : List (Call × Reply)). ps ++ recorded_calls c.rank c.thread (Called c call reply ∷ [])) (first-join w c call called.earlier called.last called.joins called.joined) ∙ own-called c call reply [])))

      made_before : recorded_calls c.rank c.thread called.before ≡ recorded_calls c.rank c.thread v.mine
      made_before = append_cancel_right (recorded_calls c.rank c.thread called.before) (recorded_calls c.rank c.thread v.mine) ((call, reply) ∷ [])
          (ap (λ (ps : List (Call × Reply)). recorded_calls c.rank c.thread called.before ++ ps) (sym (own-called c call reply []))
          ∙ (sym (own_calls-append c.rank c.thread called.before (Called c call reply ∷ [])) ∙ (ap (λ (h : List Event). recorded_calls c.rank c.thread h) (sym called.ends) ∙ (own-seen n called.goes_on.own ∙ made))))

      more : IsPrefix v.seen called.before
      more = prefix_trans v.seen called.last called.before (called.looks.between (length called.earlier) called.last (at-end called.earlier called.last)).0 (called.after_looks (length called.earlier) called.last (at-end called.earlier called.last))

      same : recorded_calls c.rank c.thread called.before ≡ recorded_calls c.rank c.thread v.seen
      same = own-before v called.before so_far.seen more made_before

      many : reply ≡ Timeout → k ≤ length (called.earlier ++ called.last ∷ [])
      many times =
          let both : Some k ≡ Some (length called.earlier + 1) = sym (asked times) ∙ called.spent times in
          let so : k ≡ length called.earlier + 1 = cc in
          let long = length-append called.earlier (called.last ∷ []) in
          omega arith

      unready : reply ≡ Timeout → (j : ℕ) (h : List Event) → (slice_get called.earlier j ≡ Some h) ⊎ (h ≡ called.last) → is_unready (answer_after w c call h) ≡ true
      unready times j h (inl there) = called.unready j h there
      unready times j h (inr is) = ap (λ (x : List Event). is_unready (answer_after w c call x)) is ∙ called.timely times

  -- a call that is not recorded
  pub waited-stopped : (call : Call) (timeout : timeouts.Timeout) (full : Bool) (v n : PassView S Event) (ns : List ℕ) → HaveWaited w c ns v → IsStopped w c call timeout full v n → HaveWaited w c ns n
  waited-stopped call timeout full v n ns so_far stopped =
      let none = first-join w c call stopped.earlier stopped.last stopped.joins stopped.joined in
      let mine : recorded_calls c.rank c.thread n.mine ≡ recorded_calls c.rank c.thread v.mine = ap (λ (h : List Event). recorded_calls c.rank c.thread h) stopped.mine
      ∙ (own_calls-append c.rank c.thread v.mine stopped.joins ∙ (ap (λ (ps : List (Call × Reply)). recorded_calls c.rank c.thread v.mine ++ ps) none ∙ append-nil (recorded_calls c.rank c.thread v.mine))) in
      let more = stopped.goes_on.seen in
      let same : recorded_calls c.rank c.thread n.seen ≡ recorded_calls c.rank c.thread v.seen = own-before v n.seen so_far.seen more (own-seen n stopped.goes_on.own ∙ mine) in
      let on = waits-last w c v.seen more.0 v.looks ns so_far.waited (ap (λ (h : List Event). recorded_calls c.rank c.thread h) more.1 ∙ same) in
      let now = subst (λ (h : List Event). Waited w c h v.looks ns) more.1 on in
      record {
        waited = subst (λ (ks : List ℕ). Waited w c n.seen ks ns) (sym stopped.looks.looks) (waits-more w c n.seen v.looks (map length (stopped.earlier ++ stopped.last ∷ [])) ns now);
        each = so_far.each ∙ ap length (sym mine);
        seen = subst (IsPrefix (recorded_calls c.rank c.thread n.mine)) (sym (own-seen n stopped.goes_on.own)) (prefix_self (recorded_calls c.rank c.thread n.mine));
      }
