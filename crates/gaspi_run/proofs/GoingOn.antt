-- A run of a script goes on with each call, and the caller's end makes it whole.
use Rattle.std.proofs.Common.{◌≡◌, ℕ, suc, ◌+◌, ◌-◌, ◌<◌, ◌≤◌, Bool, true, false, ◌&&◌, nat_lt, List, [], ◌∷◌, ◌++◌, Option, None, Some, Result, Ok, Err, inl, inr, refl, sym, ap, ◌∙◌, subst, arith, if◌then◌else◌, append_assoc, append-nil, length, length-append, map}
use Rattle.std.specs.List.{All, slice_get, sum_by}
use Rattle.std.proofs.lemmas.Bool.{ltb-true}
use Rattle.std.proofs.lemmas.List.Elements.{All-nil, All-cons, All-head, All-tail}
use Rattle.std.proofs.lemmas.List.{map-append}
use Rattle.std.proofs.lemmas.List.Sums.{sum_by-cons}
use Rattle.timeout_state.specs.Looks.{looks_of}
use Rattle.rank_script.specs.PlainScripts.{IsPlain, MayLook}
use Rattle.gaspi_types.specs.World.{ShapeValue}
use Rattle.gaspi_types.specs.declared.calls.Call.{Call}
use Rattle.gaspi_types.specs.declared.calls.Call.TheVariants.{End}
use Rattle.gaspi_types.specs.declared.calls.Timeout.{Timeout}
use Rattle.gaspi_types.specs.declared.calls.Timeout.TheVariants.{Looks}
use Rattle.gaspi_types.specs.declared.events.Event.{Event}
use Rattle.gaspi_types.specs.declared.events.Event.TheVariants.{Called}
use Rattle.gaspi_types.specs.declared.replies.Reply.{Reply}
use Rattle.gaspi_types.specs.declared.replies.Reply.TheVariants as replies
use Rattle.gaspi_types.specs.declared.replies.Reply.TheVariants.{Done}
use Rattle.gaspi_types.specs.declared.shapes.CallerId.{CallerId}
use Rattle.gaspi_model.specs.Step.{recorded_calls}
use Rattle.commit_table.specs.declared.views.PassView.{PassView}
use Rattle.commit_table.proofs.Lists.{prefix_self, prefix_trans}
use Rattle.rank_script.specs.Runs.{RunPosition, AtLine, RunEnded, at_first_line, advanced, is_stuck, is_retried, is_failed, is_timeout, present_of, Follows, IsStopped, IsRun, end_pair}
use Rattle.rank_script.specs.declared.scripts.RunOutcome.{RunOutcome}
use Rattle.rank_script.specs.declared.scripts.RunOutcome.TheVariants as outcomes
use Rattle.rank_script.specs.declared.scripts.ScriptLine.{ScriptLine}
use Rattle.gaspi_world.specs.Attempts.{lacks_room_after}
use Rattle.gaspi_world.specs.Calling.{AreLooks, IsCalled, IsStopped as IsCallStopped, Calls}
use Rattle.gaspi_world.specs.Waits.{HaveWaited}
use Rattle.gaspi_world.specs.declared.calling.Stop.{Stop}
use Rattle.gaspi_world.specs.declared.calling.Stop.TheVariants.{NoMemory, EventLimit}
use Rattle.gaspi_world.specs.declared.starts.Start.{Start}
use Rattle.gaspi_run.specs.Looks.{looks_in, bounded, looks_along, HasLookAfter, AreWithin}
use Rattle.gaspi_run.specs.Runs.{moved, LackedRoom, WasFull, IsStoppedBefore, HasCause, HasRun}
use Rattle.gaspi_run.specs.SoFar.{HasNoEnd, HadRoomSoFar, LookedSoFar, IsAt, HasRunTo}
use Rattle.plain_schedule.specs.Joins.{AreJoinsFollowed}
use Rattle.gaspi_run.proofs.BodyJoins.{Itself, joins-itself, end-adds-nothing, followed-both, followed-all, call-follows, end-follows}
use Rattle.gaspi_run.proofs.OwnCalls.{own-after, own-events, own-more, same-front, no-end-more, no-end-same}
use Rattle.gaspi_run.proofs.RunLooks.{all, all-more, at-end, by-call-more, by-call-later, within-one, within-more, same-between, none-earlier, line-looks, looks-both, last-full}

abbrev Pairs : Type 0
Pairs = List (Call × Reply)

-- The laws of runs.

abbrev pub Onward : Type 0
Onward = (p : RunPosition) (pairs : Pairs) (line : ScriptLine) (made : ℕ) (lines : List ScriptLine) (reply : Reply)
    → Follows p pairs (AtLine line made lines) → Follows p (pairs ++ (line.call, reply) ∷ []) (advanced (AtLine line made lines) reply)

abbrev pub Ended : Type 0
Ended = (lines : List ScriptLine) (pairs : Pairs) (outcome : RunOutcome) → Follows (at_first_line lines) pairs (RunEnded outcome) → IsRun lines (pairs ++ end_pair) outcome

abbrev pub Stopped : Type 0
Stopped = (lines : List ScriptLine) (pairs : Pairs) (line : ScriptLine) (made : ℕ) (rest : List ScriptLine) (outcome : RunOutcome)
    → Follows (at_first_line lines) pairs (AtLine line made rest) → IsStopped line.number outcome → IsRun lines (pairs ++ end_pair) outcome

-- The laws of waits.

abbrev pub WaitsFresh : Type 0
WaitsFresh = (w : ShapeValue) (c : CallerId) (v : PassView Start Event) → v.mine ≡ [] → HaveWaited w c [] v

abbrev pub WaitsCalled : Type 0
WaitsCalled = (w : ShapeValue) (c : CallerId) (call : Call) (timeout : Timeout) (reply : Reply) (v n : PassView Start Event) (ns : List ℕ) (k : ℕ) → HaveWaited w c ns v
    → IsCalled w c call timeout reply v n → (reply ≡ replies.Timeout → looks_of timeout ≡ Some k) → HaveWaited w c (ns ++ k ∷ []) n

abbrev pub WaitsStopped : Type 0
WaitsStopped = (w : ShapeValue) (c : CallerId) (call : Call) (timeout : Timeout) (full : Bool) (v n : PassView Start Event) (ns : List ℕ) → HaveWaited w c ns v → IsCallStopped w c call timeout full v n → HaveWaited w c ns n

-- How many looks the calls of a run have, with one call more.

-- at a line those of the line
along-line : (limit : ℕ) (p : RunPosition) (pairs : Pairs) (line : ScriptLine) (made : ℕ) (later : List ScriptLine) (pair : Call × Reply) → Follows p pairs (AtLine line made later)
    → looks_along limit p (pairs ++ pair ∷ []) ≡ looks_along limit p pairs ++ looks_in limit line.timeout ∷ []
along-line limit p [] line made later pair there = ap (λ (q : RunPosition). looks_along limit q (pair ∷ [])) (sym there)
along-line limit (RunEnded outcome) (first ∷ pairs) line made later pair there = absurd there
along-line limit (AtLine here tried lines) (first ∷ pairs) line made later pair there =
    ap (λ (ns : List ℕ). looks_in limit here.timeout ∷ ns) (along-line limit (advanced (AtLine here tried lines) first.1) pairs line made later pair there.1)

-- anywhere some number
along-any : (limit : ℕ) (p : RunPosition) (pairs : Pairs) (pair : Call × Reply) → (k : ℕ) × (looks_along limit p (pairs ++ pair ∷ []) ≡ looks_along limit p pairs ++ k ∷ [])
along-any limit (RunEnded outcome) [] pair = (1, refl)
along-any limit (AtLine line made lines) [] pair = (looks_in limit line.timeout, refl)
along-any limit (RunEnded outcome) (first ∷ pairs) pair = (let rest = along-any limit (RunEnded outcome) pairs pair in (rest.0, ap (λ (ns : List ℕ). 1 ∷ ns) rest.1))
along-any limit (AtLine line made lines) (first ∷ pairs) pair =
    let rest = along-any limit (advanced (AtLine line made lines) first.1) pairs pair in
    (rest.0, ap (λ (ns : List ℕ). looks_in limit line.timeout ∷ ns) rest.1)

-- A look that was made.

-- the last look of a call, which saw what is seen now
looked-last : (before looks : List ℕ) (earlier : List (List Event)) (last seen : List Event) → looks ≡ before ++ map length (earlier ++ last ∷ []) → last ≡ seen → HasLookAfter seen looks
looked-last before looks earlier last seen are now = (
  before ++ map length earlier,
  [],
  are ∙ (ap (λ (ns : List ℕ). before ++ ns) (map-append length earlier (last ∷ [])) ∙ (sym (append_assoc before (map length earlier) (length last ∷ []))
      ∙ ap (λ (h : List Event). (before ++ map length earlier) ++ length h ∷ []) now)),
)

-- a look stays one when more are made
looked-still : (history : List Event) (before looks more : List ℕ) → looks ≡ before ++ more → HasLookAfter history before → HasLookAfter history looks
looked-still history before looks more are (earlier, later, was) = (
  earlier,
  later ++ more,
  are ∙ (ap (λ (ns : List ℕ). ns ++ more) was ∙ append_assoc earlier (length history ∷ later) more),
)

-- A run goes on by its lines, and is never stopped by a reply.

abbrev IsNoLimit : RunPosition → Type 0
IsNoLimit p = (number : ℕ) → p ≡ RunEnded (outcomes.Limit number) → ⊥

going-no-limit : (lines : List ScriptLine) → IsNoLimit (at_first_line lines)
going-no-limit [] number is = cc
going-no-limit (line ∷ lines) number is = cc

advanced-no-limit : (line : ScriptLine) (made : ℕ) (lines : List ScriptLine) (reply : Reply) → IsNoLimit (advanced (AtLine line made lines) reply)
advanced-no-limit line made lines reply number = go (is_stuck line reply) (is_retried line made reply) (is_failed line reply)
  where
    go : (stuck again failed : Bool) → (if stuck then RunEnded (outcomes.Stuck line.number) else (if again then AtLine line (made + 1) lines else (if failed then RunEnded (outcomes.Failed line.number) else at_first_line lines))) ≡ RunEnded (outcomes.Limit number) → ⊥
    go true again failed is = cc
    go false true failed is = cc
    go false false true is = cc
    go false false false is = going-no-limit lines number is

module _ (w : ShapeValue) (c : CallerId) (lines : List ScriptLine) (limit : ℕ) where
  abbrev own : List Event → Pairs
  own events = recorded_calls c.rank c.thread events

  -- how many looks each of these calls has
  abbrev along : Pairs → List ℕ
  along pairs = looks_along limit (at_first_line lines) pairs

  pub comes-first : WaitsFresh → (v : PassView Start Event) → v.mine ≡ [] → HasRunTo w c lines limit (at_first_line lines) v v
  comes-first fresh v none =
      let calls : own v.mine ≡ [] = ap own none in
      record {
        seen = prefix_self v.seen;
        party = refl;
        start = refl;
        waited = subst (λ (ps : Pairs). HaveWaited w c (along ps) v) (sym calls) (fresh w c v none);
        active = λ k reply at. (let no : ⊥ = let here = subst (λ (ps : Pairs). slice_get ps k ≡ Some (End, reply)) calls at in cc in no);
        comes = inl (record {
          follows = subst (λ (ps : Pairs). Follows (at_first_line lines) ps (at_first_line lines)) (sym calls) refl;
          no_limit = going-no-limit lines;
          followed = subst (AreJoinsFollowed None) (sym none) tt;
        });
        looks = [];
        looked = record { looks = sym (append-nil v.looks); between = λ k h at. (let no : ⊥ = cc in absurd no) };
        by_call = λ i j ks h at there. (let no : ⊥ = cc in absurd no);
        room = inl (
          record {
            each = ap (λ (ps : Pairs). length (along ps)) (sym calls);
            within = tt;
            had_room = λ k h number at was. (let no : ⊥ = cc in no);
          },
          going-no-limit lines,
        );
      }

  module _ (v m n : PassView Start Event) (line : ScriptLine) (made : ℕ) (later : List ScriptLine) where
    -- where the run has come to a line, its calls lead there
    leads-there : IsAt w c lines (AtLine line made later) m → Follows (at_first_line lines) (own m.mine) (AtLine line made later)
    leads-there (inl way) = way.follows
    leads-there (inr (outcome, over, stop)) = cc

    joins-followed : IsAt w c lines (AtLine line made later) m → AreJoinsFollowed None m.mine
    joins-followed (inl way) = way.followed
    joins-followed (inr (outcome, over, stop)) = cc

    -- and there was room at each look so far
    had-room : (looks : List (List (List Event))) → LookedSoFar w c lines limit (AtLine line made later) looks m → HadRoomSoFar w c lines limit looks m
    had-room looks (inl had) = had.0
    had-room looks (inr (outcome, over, stop)) = (let no : ⊥ = cc in absurd no)

    comes-called : Onward → Itself → WaitsCalled → (reply : Reply) → (line.call ≡ End → ⊥) → HasRunTo w c lines limit (AtLine line made later) v m → IsCalled w c line.call (bounded limit line.timeout) reply m n
        → HasRunTo w c lines limit (advanced (AtLine line made later) reply) v n
    comes-called onward itself on reply plain so_far called =
        let before = own-after w c line.call called.earlier called.last m.mine called.joins called.joined in
        let calls : own n.mine ≡ own m.mine ++ (line.call, reply) ∷ [] = ap own called.mine ∙ (own-more c (m.mine ++ called.joins) line.call reply ∙ ap (λ (ps : Pairs). ps ++ (line.call, reply) ∷ []) before) in
        let had = had-room so_far.looks so_far.room in
        let hs = called.earlier ++ called.last ∷ [] in
        let grown : along (own n.mine) ≡ along (own m.mine) ++ looks_in limit line.timeout ∷ [] = ap along calls ∙ along-line limit (at_first_line lines) (own m.mine) line made later (line.call, reply) (leads-there so_far.comes) in
        let bare : own called.before ≡ own m.mine =
        same-front (own called.before) (own m.mine) (line.call, reply) (line.call, reply)
        (sym (own-more c called.before line.call reply) ∙ (ap own (sym called.ends) ∙ (sym (own-events c n.seen) ∙ (ap own called.goes_on.own ∙ calls)))) in
        let same : (j : ℕ) (h : List Event) → slice_get hs j ≡ Some h → own h ≡ own m.mine =
        λ j h at. same-between c m.mine m.seen h called.before so_far.waited.seen (called.looks.between j h at).0 (called.after_looks j h at) bare in
        record {
          seen = prefix_trans v.seen m.seen n.seen so_far.seen called.goes_on.seen;
          party = called.goes_on.party ∙ so_far.party;
          start = called.goes_on.start ∙ so_far.start;
          waited = subst (λ (ns : List ℕ). HaveWaited w c ns n) (sym (ap along calls ∙ along-line limit (at_first_line lines) (own m.mine) line made later (line.call, reply) (leads-there so_far.comes)))
              (on w c line.call (bounded limit line.timeout) reply m n (along (own m.mine)) (looks_in limit line.timeout) so_far.waited called (λ late. refl));
          looks = so_far.looks ++ hs ∷ [];
          looked = subst (AreLooks w c v n) (sym (all-more so_far.looks hs)) (looks-both w c v m n (all so_far.looks) hs so_far.seen called.goes_on.seen so_far.looked called.looks);
          by_call = by-call-more c m.seen n.seen so_far.looks hs (length (own m.mine)) called.goes_on.seen so_far.by_call (had.each ∙ so_far.waited.each)
              (λ j h at. ((called.looks.between j h at).1, ap length (same j h at)));
          room = inl (
            record {
              each = (let a = length-append so_far.looks (hs ∷ []) in let b = ap length grown in let d = length-append (along (own m.mine)) (looks_in limit line.timeout ∷ []) in let e = had.each in omega arith);
              within = subst (AreWithin (so_far.looks ++ hs ∷ [])) (sym grown) (within-one so_far.looks (along (own m.mine)) hs (looks_in limit line.timeout) had.each had.within (line-looks limit line.timeout called.earlier called.last called.within));
              had_room = λ k h number at was.
                  let full = last-full w c lines m.mine line made later (leads-there so_far.comes) (all so_far.looks) called.earlier called.last same had.had_room called.had_room k h number
                  (subst (λ (ks : List (List Event)). slice_get ks k ≡ Some h) (all-more so_far.looks hs) at) was in
                  (let no : true ≡ false = sym full.0 ∙ called.room in let never : ⊥ = cc in never);
            },
            advanced-no-limit line made later reply,
          );
          active = subst (HasNoEnd c) (sym called.mine) (no-end-more c (m.mine ++ called.joins) line.call reply plain (no-end-same c (m.mine ++ called.joins) m.mine before so_far.active));
          comes = inl (record {
            follows = subst (λ (ps : Pairs). Follows (at_first_line lines) ps (advanced (AtLine line made later) reply)) (sym calls) (onward (at_first_line lines) (own m.mine) line made later reply (leads-there so_far.comes));
            no_limit = advanced-no-limit line made later reply;
            followed = subst (AreJoinsFollowed None) (sym (called.mine ∙ append_assoc m.mine called.joins (Called c line.call reply ∷ [])))
                (followed-both None m.mine (called.joins ++ Called c line.call reply ∷ []) (joins-followed so_far.comes) (call-follows c line.call reply called.joins (joins-itself w c itself line.call called.earlier called.last called.joins called.joined)));
          });
        }

    comes-stopped : Itself → WaitsStopped → (full : Bool) (outcome : RunOutcome) → IsStopped line.number outcome → (outcome ≡ outcomes.Limit line.number → full ≡ true) → (full ≡ true → outcome ≡ outcomes.Limit line.number)
        → HasRunTo w c lines limit (AtLine line made later) v m → IsCallStopped w c line.call (bounded limit line.timeout) full m n → HasRunTo w c lines limit (RunEnded outcome) v n
    comes-stopped itself still full outcome is_stopped no_room limited so_far stop =
        let calls : own n.mine ≡ own m.mine = ap own stop.mine ∙ own-after w c line.call stop.earlier stop.last m.mine stop.joins stop.joined in
        let had = had-room so_far.looks so_far.room in
        let hs = stop.earlier ++ stop.last ∷ [] in
        let same : (j : ℕ) (h : List Event) → slice_get hs j ≡ Some h → own h ≡ own m.mine =
        λ j h at. same-between c m.mine m.seen h n.seen so_far.waited.seen (stop.looks.between j h at).0 (stop.looks.between j h at).1 (sym (own-events c n.seen) ∙ (ap own stop.goes_on.own ∙ calls)) in
        record {
          seen = prefix_trans v.seen m.seen n.seen so_far.seen stop.goes_on.seen;
          party = stop.goes_on.party ∙ so_far.party;
          start = stop.goes_on.start ∙ so_far.start;
          waited = subst (λ (ps : Pairs). HaveWaited w c (along ps) n) (sym calls) (still w c line.call (bounded limit line.timeout) full m n (along (own m.mine)) so_far.waited stop);
          looks = so_far.looks ++ hs ∷ [];
          looked = subst (AreLooks w c v n) (sym (all-more so_far.looks hs)) (looks-both w c v m n (all so_far.looks) hs so_far.seen stop.goes_on.seen so_far.looked stop.looks);
          by_call = by-call-more c m.seen n.seen so_far.looks hs (length (own m.mine)) stop.goes_on.seen so_far.by_call (had.each ∙ so_far.waited.each)
              (λ j h at. ((stop.looks.between j h at).1, ap length (same j h at)));
          room = inr (
            outcome,
            refl,
            record {
              line = line;
              made = made;
              later = later;
              follows = subst (λ (ps : Pairs). Follows (at_first_line lines) ps (AtLine line made later)) (sym calls) (leads-there so_far.comes);
              within = subst (λ (ps : Pairs). AreWithin (so_far.looks ++ hs ∷ []) (along ps ++ looks_in limit line.timeout ∷ [])) (sym calls)
                  (within-one so_far.looks (along (own m.mine)) hs (looks_in limit line.timeout) had.each had.within (line-looks limit line.timeout stop.earlier stop.last stop.within));
              full = λ k h number at was.
                  let told = last-full w c lines m.mine line made later (leads-there so_far.comes) (all so_far.looks) stop.earlier stop.last same had.had_room stop.had_room k h number
                  (subst (λ (ks : List (List Event)). slice_get ks k ≡ Some h) (all-more so_far.looks hs) at) was in
                  (limited (sym stop.room ∙ told.0) ∙ ap (λ (number : ℕ). outcomes.Limit number) told.1.0, told.1.1 ∙ ap length (sym (all-more so_far.looks hs)));
              at_limit = λ number is.
                  let line_is : outcome ≡ outcomes.Limit line.number = stopped-at number is is_stopped in
                  let numbers : outcomes.Limit line.number ≡ outcomes.Limit number = sym line_is ∙ is in
                  let number_is : line.number ≡ number = cc in
                  let last = stop.last in
                  let there : slice_get (all so_far.looks ++ hs) (length (all so_far.looks ++ stop.earlier)) ≡ Some last =
                  subst (λ (ks : List (List Event)). slice_get ks (length (all so_far.looks ++ stop.earlier)) ≡ Some last) (append_assoc (all so_far.looks) stop.earlier (last ∷ [])) (at-end (all so_far.looks ++ stop.earlier) last) in
                  let own_last = same (length stop.earlier) last (at-end stop.earlier last) in (
                    length (all so_far.looks ++ stop.earlier),
                    last,
                    subst (λ (ks : List (List Event)). slice_get ks (length (all so_far.looks ++ stop.earlier)) ≡ Some last) (sym (all-more so_far.looks hs)) there,
                    record {
                      line = line;
                      made = made;
                      later = later;
                      is_line = number_is;
                      follows = subst (λ (ps : Pairs). Follows (at_first_line lines) ps (AtLine line made later)) (sym own_last) (leads-there so_far.comes);
                      full = stop.room ∙ no_room line_is;
                    },
                  );
            },
          );
          active = no-end-same c n.mine m.mine calls so_far.active;
          comes = inr (
            outcome,
            refl,
            record {
              line = line;
              made = made;
              later = later;
              follows = subst (λ (ps : Pairs). Follows (at_first_line lines) ps (AtLine line made later)) (sym calls) (leads-there so_far.comes);
              is_stopped = is_stopped;
              cause = λ is. record {
                history = n.seen;
                begins = prefix_self n.seen;
                events = stop.goes_on.own;
                looked = looked-last m.looks n.looks stop.earlier stop.last n.seen stop.looks.looks (stop.now (no_room is));
                full = ap (lacks_room_after w c line.call) (sym (stop.now (no_room is))) ∙ (stop.room ∙ no_room is);
              };
              before = m.mine;
              followed = joins-followed so_far.comes;
              joins = stop.joins;
              joined = joins-itself w c itself line.call stop.earlier stop.last stop.joins stop.joined;
              mine = stop.mine;
            },
          );
        }
      where
        stopped-at : (number : ℕ) → outcome ≡ outcomes.Limit number → IsStopped line.number outcome → outcome ≡ outcomes.Limit line.number
        stopped-at number is (inl limit) = limit
        stopped-at number is (inr memory) = (let never : outcomes.Limit number ≡ outcomes.NoMemory line.number = sym is ∙ memory in let no : ⊥ = cc in absurd no)

    pub comes-going : Onward → Itself → WaitsCalled → WaitsStopped → (r : Result Reply Stop) → (line.call ≡ End → ⊥) → HasRunTo w c lines limit (AtLine line made later) v m → Calls w c line.call (bounded limit line.timeout) m r n
        → HasRunTo w c lines limit (moved (AtLine line made later) r) v n
    comes-going onward itself on still (Ok reply) plain so_far told = comes-called onward itself on reply plain so_far told
    comes-going onward itself on still (Err EventLimit) plain so_far told = comes-stopped itself still true (outcomes.Limit line.number) (inl refl) (λ is. refl) (λ is. refl) so_far told
    comes-going onward itself on still (Err NoMemory) plain so_far told = comes-stopped itself still false (outcomes.NoMemory line.number) (inr refl) (λ is. (let no : ⊥ = cc in absurd no)) (λ is. (let no : ⊥ = cc in absurd no)) so_far told.1

  -- the end makes the run whole
  pub has-run : Ended → Stopped → WaitsCalled → (v m n : PassView Start Event) (outcome : RunOutcome) → HasRunTo w c lines limit (RunEnded outcome) v m → IsCalled w c End (Looks 1) Done m n
      → HasRun w c lines limit outcome v n
  has-run ended stopped on v m n outcome so_far called = record {
    goes_on = record {
      seen = prefix_trans v.seen m.seen n.seen so_far.seen called.goes_on.seen;
      legal = called.goes_on.legal;
      own = called.goes_on.own;
      party = called.goes_on.party ∙ so_far.party;
      start = called.goes_on.start ∙ so_far.start;
    };
    run = subst (λ (ps : Pairs). IsRun lines ps outcome) (sym calls) (whole so_far.comes);
    cause = caused outcome so_far.comes;
    unmade = left-unmade so_far.comes;
    stopped_before = before-it so_far.comes;
    followed = subst (AreJoinsFollowed (left-unmade so_far.comes)) (sym ends) (all-followed so_far.comes);
    waited = subst (λ (ns : List ℕ). HaveWaited w c ns n) (sym (ap along calls ∙ one.1)) (on w c End (Looks 1) Done m n (along (own m.mine)) one.0 so_far.waited called (λ late. (let no : ⊥ = cc in absurd no)));
    looks = so_far.looks;
    last = called.last;
    looked = looks-both w c v m n (all so_far.looks) (called.last ∷ []) so_far.seen called.goes_on.seen so_far.looked
        (subst (λ (earlier : List (List Event)). AreLooks w c m n (earlier ++ called.last ∷ [])) (none-earlier called.earlier (called.within 1 refl)) called.looks);
    by_call = by-call-later c m.seen n.seen so_far.looks called.goes_on.seen so_far.by_call;
    within = few so_far.room;
    full = no-room so_far.room;
    at_limit = came so_far.room;
  }
    where
      calls : own n.mine ≡ own m.mine ++ end_pair
      calls = ap own called.mine ∙ (own-more c (m.mine ++ called.joins) End Done ∙ ap (λ (ps : Pairs). ps ++ (End, Done) ∷ []) (own-after w c End called.earlier called.last m.mine called.joins called.joined))

      ends : n.mine ≡ m.mine ++ Called c End Done ∷ []
      ends = called.mine ∙ ap (λ (es : List Event). es ++ Called c End Done ∷ []) (ap (λ (es : List Event). m.mine ++ es) (end-adds-nothing w c called.earlier called.last called.joins called.joined) ∙ append-nil m.mine)

      -- the end has some number of looks, and never times out
      one : (k : ℕ) × (along (own m.mine ++ end_pair) ≡ along (own m.mine) ++ k ∷ [])
      one = along-any limit (at_first_line lines) (own m.mine) (End, Done)

      -- no call made more looks than its line has
      few : LookedSoFar w c lines limit (RunEnded outcome) so_far.looks m → AreWithin so_far.looks (along (own n.mine))
      few (inl had) = subst (AreWithin so_far.looks) (sym (ap along calls ∙ one.1)) (within-more so_far.looks (along (own m.mine)) (one.0 ∷ []) had.0.within)
      few (inr (o, over, stop)) =
          subst (AreWithin so_far.looks) (sym (ap along calls ∙ along-line limit (at_first_line lines) (own m.mine) stop.line stop.made stop.later (End, Done) stop.follows)) stop.within

      no-room : LookedSoFar w c lines limit (RunEnded outcome) so_far.looks m → (k : ℕ) (h : List Event) (number : ℕ) → slice_get (all so_far.looks) k ≡ Some h → WasFull w c lines h number
          → (outcome ≡ outcomes.Limit number) × (suc k ≡ length (all so_far.looks))
      no-room (inl had) k h number at was = absurd (had.0.had_room k h number at was)
      no-room (inr (o, over, stop)) k h number at was =
          let same : o ≡ outcome = cc in
          let told = stop.full k h number at was in
          (sym same ∙ told.0, told.1)

      -- and where it was stopped for want of room, there was none at a look of the line's call
      came : LookedSoFar w c lines limit (RunEnded outcome) so_far.looks m → (number : ℕ) → outcome ≡ outcomes.Limit number → (k : ℕ) × (h : List Event) × (slice_get (all so_far.looks) k ≡ Some h) × WasFull w c lines h number
      came (inl had) number is = absurd (had.1 number (ap (λ (o : RunOutcome). RunEnded o) is))
      came (inr (o, over, stop)) number is =
          let same : o ≡ outcome = cc in
          stop.at_limit number (same ∙ is)

      whole : IsAt w c lines (RunEnded outcome) m → IsRun lines (own m.mine ++ end_pair) outcome
      whole (inl way) = ended lines (own m.mine) outcome way.follows
      whole (inr (o, over, stop)) =
          let same : o ≡ outcome = cc in
          stopped lines (own m.mine) stop.line stop.made stop.later outcome stop.follows (subst (IsStopped stop.line.number) same stop.is_stopped)

      at-limit : (number : ℕ) → IsAt w c lines (RunEnded (outcomes.Limit number)) m → LackedRoom w c lines number n
      at-limit number (inl way) = absurd (way.no_limit number refl)
      at-limit number (inr (o, over, stop)) =
          let same : o ≡ outcomes.Limit number = cc in
          let line_is : outcomes.Limit number ≡ outcomes.Limit stop.line.number = limit-is (subst (IsStopped stop.line.number) same stop.is_stopped) in
          let number_is : stop.line.number ≡ number = cc in
          let cause = stop.cause (same ∙ line_is) in
          record {
            line = stop.line;
            made = stop.made;
            later = stop.later;
            is_line = number_is;
            history = cause.history;
            begins = prefix_trans cause.history m.seen n.seen cause.begins called.goes_on.seen;
            follows = subst (λ (ps : Pairs). Follows (at_first_line lines) ps (AtLine stop.line stop.made stop.later)) (sym (ap own cause.events) ∙ own-events c cause.history) stop.follows;
            events = ap (λ (es : List Event). es ++ Called c End Done ∷ []) cause.events ∙ sym ends;
            looked = looked-still cause.history m.looks n.looks (map length (called.earlier ++ called.last ∷ [])) called.looks.looks cause.looked;
            full = cause.full;
          }
        where
          limit-is : {k : ℕ} → IsStopped k (outcomes.Limit number) → outcomes.Limit number ≡ outcomes.Limit k
          limit-is (inl is) = is
          limit-is (inr is) = cc

      -- the call that was not made
      left-unmade : IsAt w c lines (RunEnded outcome) m → Option Call
      left-unmade (inl way) = None
      left-unmade (inr (o, over, stop)) = Some stop.line.call

      before-it : (come : IsAt w c lines (RunEnded outcome) m) → (call : Call) → left-unmade come ≡ Some call → IsStoppedBefore w c lines outcome n call
      before-it (inl way) call is = absurd (let no : ⊥ = cc in no)
      before-it (inr (o, over, stop)) call is =
          let same : o ≡ outcome = cc in
          let call_is : stop.line.call ≡ call = cc in
          record {
            line = stop.line;
            made = stop.made;
            later = stop.later;
            pairs = own m.mine;
            follows = stop.follows;
            all = sym calls;
            is_call = call_is;
            is_stopped = subst (IsStopped stop.line.number) same stop.is_stopped;
          }

      all-followed : (come : IsAt w c lines (RunEnded outcome) m) → AreJoinsFollowed (left-unmade come) (m.mine ++ Called c End Done ∷ [])
      all-followed (inl way) = followed-both None m.mine (Called c End Done ∷ []) way.followed tt
      all-followed (inr (o, over, stop)) =
          subst (λ (es : List Event). AreJoinsFollowed (Some stop.line.call) (es ++ Called c End Done ∷ [])) (sym stop.mine)
          (subst (AreJoinsFollowed (Some stop.line.call)) (sym (append_assoc stop.before stop.joins (Called c End Done ∷ [])))
          (followed-both (Some stop.line.call) stop.before (stop.joins ++ Called c End Done ∷ []) (followed-all (Some stop.line.call) stop.before stop.followed) (end-follows c stop.line.call Done stop.joins stop.joined)))

      caused : (o : RunOutcome) → IsAt w c lines (RunEnded o) m → HasCause w c lines o n
      caused outcomes.Ended come = tt
      caused (outcomes.Failed number) come = tt
      caused (outcomes.Stuck number) come = tt
      caused (outcomes.Limit number) come = at-limit number come
      caused (outcomes.NoMemory number) come = tt

-- The lines that are left of a run.

abbrev pub AllLeft : (ScriptLine → Type 0) → RunPosition → Type 0
AllLeft P (AtLine line made later) = P line × All P later
AllLeft P (RunEnded outcome) = Unit {0}

all-going : (P : ScriptLine → Type 0) (lines : List ScriptLine) → All P lines → AllLeft P (at_first_line lines)
all-going P [] all = tt
all-going P (line ∷ lines) all = (All-head P line lines all, All-tail P line lines all)

pub all-left : (P : ScriptLine → Type 0) (p : RunPosition) (r : Result Reply Stop) → AllLeft P p → AllLeft P (moved p r)
all-left P (RunEnded outcome) (Ok reply) all = tt
all-left P (RunEnded outcome) (Err EventLimit) all = tt
all-left P (RunEnded outcome) (Err NoMemory) all = tt
all-left P (AtLine line made lines) (Err EventLimit) all = tt
all-left P (AtLine line made lines) (Err NoMemory) all = tt
all-left P (AtLine line made lines) (Ok reply) all = go (is_stuck line reply) (is_retried line made reply) (is_failed line reply)
  where
    go : (stuck again failed : Bool) → AllLeft P (if stuck then RunEnded (outcomes.Stuck line.number) else (if again then AtLine line (made + 1) lines else (if failed then RunEnded (outcomes.Failed line.number) else at_first_line lines)))
    go true again failed = tt
    go false true failed = all
    go false false true = tt
    go false false false = all-going P lines all.1

-- how many calls may still be made, with one for each line
abbrev pub line_left : ScriptLine → ℕ
line_left line = line.tries + 1

abbrev pub left : RunPosition → ℕ
left (RunEnded outcome) = 0
left (AtLine line made lines) = line.tries - made + 1 + sum_by line_left lines

left-going : (lines : List ScriptLine) → left (at_first_line lines) ≤ sum_by line_left lines
left-going [] = omega arith
left-going (line ∷ lines) = (let sum = sum_by-cons line_left line lines in omega arith)

pub left-less : (line : ScriptLine) (made : ℕ) (lines : List ScriptLine) (r : Result Reply Stop) → left (moved (AtLine line made lines) r) < left (AtLine line made lines)
left-less line made lines (Err EventLimit) = omega arith
left-less line made lines (Err NoMemory) = omega arith
left-less line made lines (Ok reply) = go (is_stuck line reply) (is_timeout reply) (nat_lt (made + 1) line.tries) refl (is_failed line reply)
  where
    go : (stuck times again : Bool) → nat_lt (made + 1) line.tries ≡ again → (failed : Bool)
        → left (if stuck then RunEnded (outcomes.Stuck line.number) else (if times && again then AtLine line (made + 1) lines else (if failed then RunEnded (outcomes.Failed line.number) else at_first_line lines))) < left (AtLine line made lines)
    go true times again is failed = omega arith
    go false true true is failed = (let more = ltb-true (made + 1) line.tries is in omega arith)
    go false true false is true = omega arith
    go false true false is false = (let rest = left-going lines in omega arith)
    go false false again is true = omega arith
    go false false again is false = (let rest = left-going lines in omega arith)

-- A line that may be made.
abbrev pub IsUsable : ScriptLine → Type 0
IsUsable line = IsPlain line × MayLook line

all-usable : (lines : List ScriptLine) → All IsPlain lines → All MayLook lines → All IsUsable lines
all-usable [] plain looks = All-nil IsUsable
all-usable (line ∷ lines) plain looks =
    All-cons IsUsable line lines (All-head IsPlain line lines plain, All-head MayLook line lines looks) (all-usable lines (All-tail IsPlain line lines plain) (All-tail MayLook line lines looks))

pub usable-first : (lines : List ScriptLine) → All IsPlain lines → All MayLook lines → AllLeft IsUsable (at_first_line lines)
usable-first lines plain looks = all-going IsUsable lines (all-usable lines plain looks)

-- The present line.

going-there : (p : RunPosition) (call : Call) (given : Timeout) → Some (call, given) ≡ present_of p
    → (line : ScriptLine) × (made : ℕ) × (later : List ScriptLine) × (p ≡ AtLine line made later) × (line.call ≡ call) × (line.timeout ≡ given)
going-there (RunEnded outcome) call given is = absurd (let no : ⊥ = cc in no)
going-there (AtLine line made later) call given is =
    let pair : ◌≡◌ {A = Call × Timeout} (call, given) (line.call, line.timeout) = cc in
    (line, made, later, refl, ap (λ (x : Call × Timeout). x.0) (sym pair), ap (λ (x : Call × Timeout). x.1) (sym pair))

pub left-smaller : (p : RunPosition) (call : Call) (given : Timeout) (r : Result Reply Stop) → Some (call, given) ≡ present_of p → left (moved p r) < left p
left-smaller p call given r is =
    let there = going-there p call given is in
    subst (λ (q : RunPosition). left (moved q r) < left q) (sym there.3) (left-less there.0 there.1 there.2 r)

pub comes-next : (w : ShapeValue) (c : CallerId) (lines : List ScriptLine) (limit : ℕ) → Onward → Itself → WaitsCalled → WaitsStopped → (v m n : PassView Start Event) (p : RunPosition) (call : Call) (given timeout : Timeout) (r : Result Reply Stop)
    → Some (call, given) ≡ present_of p → timeout ≡ bounded limit given → AllLeft IsUsable p → HasRunTo w c lines limit p v m → Calls w c call timeout m r n → HasRunTo w c lines limit (moved p r) v n
comes-next w c lines limit onward itself on still v m n p call given timeout r is looks all so_far told =
    let there = going-there p call given is in
    let usable = subst (AllLeft IsUsable) there.3 all in
    let bounds : timeout ≡ bounded limit there.0.timeout = looks ∙ ap (bounded limit) (sym there.5) in
    subst (λ (q : RunPosition). HasRunTo w c lines limit (moved q r) v n) (sym there.3)
    (comes-going w c lines limit v m n there.0 there.1 there.2 onward itself on still r usable.0.0 (subst (λ (q : RunPosition). HasRunTo w c lines limit q v m) there.3 so_far)
    (subst (λ (x : Call). Calls w c x (bounded limit there.0.timeout) m r n) (sym there.4) (subst (λ (t : Timeout). Calls w c call t m r n) bounds told)))
