-- What holds between two looks of a call.
use Rattle.std.proofs.Common.{◌≡◌, ◌⊎◌, ℕ, zero, suc, ◌+◌, ◌-◌, ◌<◌, ◌==◌, Bool, true, false, List, [], ◌∷◌, ◌++◌, map, length, length-append, Option, None, Some, Result, Ok, Err, inl, inr, refl, sym, ap, ◌∙◌, subst, arith}
use Rattle.std.specs.List.{slice_get}
use Rattle.std.proofs.lemmas.Bool.{eq-eqb, eqb-true}
use Rattle.std.proofs.lemmas.List.{append_assoc, append-nil, map-append}
use Rattle.std.proofs.lemmas.List.Elements.{filter-append}
use mathlib.Core.List.{IsPrefix}
use Rattle.gaspi_types.specs.CallRows.{row_of, is_collective}
use Rattle.gaspi_types.specs.World.{ShapeValue, IsShape}
use Rattle.gaspi_types.specs.declared.calls.Call.{Call}
use Rattle.gaspi_types.specs.declared.calls.Timeout as timeouts
use Rattle.gaspi_types.specs.declared.events.Event.{Event}
use Rattle.gaspi_types.specs.declared.events.Event.TheVariants.{Called}
use Rattle.gaspi_types.specs.declared.replies.Ready.{Ready}
use Rattle.gaspi_types.specs.declared.replies.Ready.TheVariants as ready
use Rattle.gaspi_types.specs.declared.replies.Reply.{Reply}
use Rattle.gaspi_types.specs.declared.shapes.CallerId.{CallerId}
use Rattle.gaspi_model.specs.Sound.{IsSound}
use Rattle.gaspi_model.specs.State.{opening}
use Rattle.gaspi_model.specs.Step.{after, reached, is_legal, is_pending, answer_in}
use Rattle.gaspi_model.specs.declared.states.State.{State}
use Rattle.gaspi_model.specs.declared.states.Why.{Why}
use Rattle.gaspi_model.proofs.Histories.{prefix, after-first, after-both, leads, reached-sound}
use Rattle.gaspi_model.proofs.Listed.Joining.{pending-joins-not}
use Rattle.gaspi_model.proofs.Listed.Readiness.{unready-waits}
use Rattle.gaspi_model.proofs.Sound.Steps.{steps}
use Rattle.timeout_state.specs.Looks.{looks_of, left_after, answer_of, spent, HasLook}
use Rattle.timeout_state.specs.declared.budget.Look.{Look}
use Rattle.timeout_state.specs.declared.budget.Look.TheVariants.{More, Final}
use Rattle.commit_table.specs.declared.views.PassView.{PassView}
use Rattle.commit_table.proofs.Lists.{prefix_self, prefix_trans}
use Rattle.gaspi_world.specs.Attempts.{is_unready, answer_after, lacks_room_after, is_pending_after, MayHaveJoined, IsExtended, HasCommitted, IsLook, IsBusy, IsNotYet, IsRecorded, IsAtLimit, IsOutOfMemory}
use Rattle.gaspi_world.specs.RankShards.{IsEither, call_other}
use Rattle.gaspi_model.specs.CallerEvents.{events_of, is_event_of}
use Rattle.gaspi_world.specs.Calling.{AreUnready, HadRoomAtLooks, JoinedFirst, HasMissed, AreLooks, IsCalled, IsStopped, HasWaited}
use Rattle.gaspi_model.proofs.Recordable.{join-group}
use Rattle.gaspi_model.proofs.StaysPending.{pending-stays}
use Rattle.gaspi_world.proofs.Working.{committed-both}

-- What stands in a list with one item more at its end.
pub at-snoc : {A : Type 0} (xs : List A) (x : A) (k : ℕ) (y : A) → slice_get (xs ++ x ∷ []) k ≡ Some y → (slice_get xs k ≡ Some y) ⊎ (y ≡ x)
at-snoc [] x zero y at = inr (let same : x ≡ y = cc in sym same)
at-snoc [] x (suc k) y at = absurd (let no : ⊥ = cc in no)
at-snoc (z ∷ xs) x zero y at = inl at
at-snoc (z ∷ xs) x (suc k) y at = at-snoc xs x k y at

-- nothing is left of a list that is as long without it
nothing-more : {A : Type 0} (xs ys : List A) → xs ++ ys ≡ xs → ys ≡ []
nothing-more xs [] same = refl
nothing-more xs (y ∷ ys) same = absurd (let lengths : length (xs ++ y ∷ ys) ≡ length xs = ap length same in let all = length-append xs (y ∷ ys) in omega arith)

module _ (w : ShapeValue) (c : CallerId) (call : Call) where
  -- what is pending of a caller stays so through events of others
  stays : (s t : State) (events : List Event) → IsSound s → after s events ≡ Ok t → events_of c events ≡ [] → is_pending s c.rank c.thread call ≡ true → is_pending t c.rank c.thread call ≡ true
  stays s t [] sound h none is = (let same : s ≡ t = cc in subst (λ (x : State). is_pending x c.rank c.thread call ≡ true) same is)
  stays s t (e ∷ events) sound h none is =
      let first = after-first s t e events h in
      let parts : (events_of c (e ∷ []) ≡ []) × (events_of c events ≡ []) = foreign (is_event_of c e) refl none in
      stays first.0 t events (steps s first.0 e sound first.1) first.2 parts.1 (pending-stays s first.0 e c.rank c.thread call sound first.1 parts.0 is)
    where
      foreign : (b : Bool) → is_event_of c e ≡ b → events_of c (e ∷ events) ≡ [] → (events_of c (e ∷ []) ≡ []) × (events_of c events ≡ [])
      foreign true own h = absurd (let some : ◌≡◌ {A = List Event} (e ∷ events_of c events) [] = rw own at h in let no : ⊥ = cc in no)
      foreign false other h = (rw other refl, rw other at h)

  pending-later : (a h : List Event) → IsShape w → IsPrefix a h → is_legal w h ≡ true → events_of c a ≡ events_of c h → is_pending_after w c call a ≡ true → is_pending_after w c call h ≡ true
  pending-later a h world more legal same is =
      let t = leads (reached w h) legal in
      let parts : after (opening w) (a ++ more.0) ≡ Ok t.0 = subst (λ (es : List Event). reached w es ≡ Ok t.0) (sym more.1) t.1 in
      let first = after-both (opening w) t.0 a more.0 parts in
      let here : is_pending first.0 c.rank c.thread call ≡ true = rw first.1 at is in
      let events : events_of c a ++ events_of c more.0 ≡ events_of c a = sym (filter-append (is_event_of c) a more.0) ∙ (ap (events_of c) more.1 ∙ sym same) in
      rw t.1 (stays first.0 t.0 more.0 (reached-sound w a first.0 world first.1) first.2 (nothing-more (events_of c a) (events_of c more.0) events) here)

  -- a collective that is pending does not join
  no-join : (h joins : List Event) → (is_collective call ≡ true → is_pending_after w c call h ≡ true) → MayHaveJoined w c call h joins → joins ≡ []
  no-join h joins pending (inl none) = none
  no-join h joins pending (inr (args, is, found)) = go (reached w h) refl
    where
      go : (r : Result State Why) → reached w h ≡ r → joins ≡ []
      go (Err why) at = absurd (let none : ◌≡◌ {A = Option Ready} None (Some (ready.Join args)) = rw at at found in let no : ⊥ = cc in no)
      go (Ok s) at =
          let answered : answer_in s c.rank c.thread call ≡ Some (ready.Join args) = rw at at found in
          let group = join-group s c.rank c.thread call args answered in
          let collective : is_collective call ≡ true = rw group.1 refl in
          let is : is_pending s c.rank c.thread call ≡ true = rw at at (pending collective) in
          absurd (let never = pending-joins-not s c.rank c.thread call (ready.Join args) is answered in let no : ⊥ = cc in no)

  -- a collective that is not ready is pending
  unready-pends : (h : List Event) → IsShape w → answer_after w c call h ≡ Some ready.NotReady → is_collective call ≡ true → is_pending_after w c call h ≡ true
  unready-pends h world found collective = by-group (row_of call).group refl (reached w h) refl
    where
      by-group : (o : Option ℕ) → (row_of call).group ≡ o → (r : Result State Why) → reached w h ≡ r → is_pending_after w c call h ≡ true
      by-group None plain r at = absurd (let no = rw plain at collective in let never : ⊥ = cc in never)
      by-group (Some id) named (Err why) at = absurd (let none : ◌≡◌ {A = Option Ready} None (Some ready.NotReady) = rw at at found in let no : ⊥ = cc in no)
      by-group (Some id) named (Ok s) at =
          let answered : answer_in s c.rank c.thread call ≡ Some ready.NotReady = rw at at found in
          let waits = unready-waits s c id call (reached-sound w h s world at) named answered in
          let pends = waits.pends in
          rw (at, pends.posts_there, named, pends.pending_there) (eq-eqb pends.pending.thread c.thread pends.mine)

-- no look was made yet
none-at : {A : Type 0} (k : ℕ) (y : A) → slice_get {X = A} [] k ≡ Some y → ⊥
none-at k y at = (let no : ⊥ = cc in no)

-- the last of so many looks
left-some : (k n : ℕ) → left_after k (Some n) ≡ Some (n - k)
left-some zero n = ap (λ (m : ℕ). Some m) (let same : n ≡ n - 0 = omega arith in same)
left-some (suc k) n = left-some k (n - 1) ∙ ap (λ (m : ℕ). Some m) (let same : n - 1 - k ≡ n - suc k = omega arith in same)

left-none : (k : ℕ) → left_after k None ≡ None
left-none zero = refl
left-none (suc k) = left-none k

final-one : (n : ℕ) (b : Bool) → (n == 1) ≡ b → answer_of (Some n) ≡ Final → n ≡ 1
final-one n true is last = eqb-true n 1 is
final-one n false is last = absurd (let more : ◌≡◌ {A = Look} More Final = rw is at last in let no : ⊥ = cc in no)

final-spent : (k : ℕ) (o : Option ℕ) → answer_of (left_after k o) ≡ Final → o ≡ Some (k + 1)
final-spent k None last = absurd (let more : ◌≡◌ {A = Look} More Final = sym (ap answer_of (left-none k)) ∙ last in let no : ⊥ = cc in no)
final-spent k (Some n) last =
    let left : answer_of (Some (n - k)) ≡ Final = sym (ap answer_of (left-some k n)) ∙ last in
    let one : n - k ≡ 1 = final-one (n - k) ((n - k) == 1) refl left in
    ap (λ (m : ℕ). Some m) (omega arith)

-- where there is a look yet after so many, there were fewer than there are in all
few-looks : (k : ℕ) (o : Option ℕ) → HasLook (left_after k o) → (most : ℕ) → o ≡ Some most → k < most
few-looks k o left most is =
    let some : HasLook (Some (most - k)) = subst HasLook (ap (left_after k) is ∙ left-some k most) left in
    omega arith

pub left-more : (k : ℕ) (o : Option ℕ) → left_after (suc k) o ≡ spent (left_after k o)
left-more zero o = refl
left-more (suc k) o = left-more k (spent o)

module _ (w : ShapeValue) (c : CallerId) (call : Call) where
  -- what joined at the first look, or does now
  joined-more : (earlier : List (List Event)) (h joins now : List Event) → JoinedFirst w c call earlier joins → ((k : ℕ) (g : List Event) → slice_get earlier k ≡ Some g → is_collective call ≡ true → is_pending_after w c call h ≡ true)
      → MayHaveJoined w c call h now → JoinedFirst w c call (earlier ++ h ∷ []) (joins ++ now)
  joined-more [] h joins now none pending may = (subst (λ (js : List Event). MayHaveJoined w c call h (js ++ now)) (sym none) may, λ k g at. absurd (none-at k g at))
  joined-more (first ∷ others) h joins now joined pending may =
      let none : now ≡ [] = no-join w c call h now (pending 0 first refl) may in
      (subst (MayHaveJoined w c call first) (sym (ap (λ (js : List Event). joins ++ js) none ∙ append-nil joins)) joined.0, λ k g at. later k g (at-snoc others h k g at))
    where
      later : (k : ℕ) (g : List Event) → (slice_get others k ≡ Some g) ⊎ (g ≡ h) → is_collective call ≡ true → is_pending_after w c call g ≡ true
      later k g (inl at) = joined.1 k g at
      later k g (inr same) = λ collective. ap (is_pending_after w c call) same ∙ pending 0 first refl collective

  unready-more : (earlier : List (List Event)) (h : List Event) → AreUnready w c call earlier → is_unready (answer_after w c call h) ≡ true → AreUnready w c call (earlier ++ h ∷ [])
  unready-more earlier h unready now k g at = go (at-snoc earlier h k g at)
    where
      go : (slice_get earlier k ≡ Some g) ⊎ (g ≡ h) → is_unready (answer_after w c call g) ≡ true
      go (inl there) = unready k g there
      go (inr same) = ap (λ (x : List Event). is_unready (answer_after w c call x)) same ∙ now

  room-more : (earlier : List (List Event)) (h : List Event) → HadRoomAtLooks w c call earlier → lacks_room_after w c call h ≡ false → HadRoomAtLooks w c call (earlier ++ h ∷ [])
  room-more earlier h roomy now k g at = go (at-snoc earlier h k g at)
    where
      go : (slice_get earlier k ≡ Some g) ⊎ (g ≡ h) → lacks_room_after w c call g ≡ false
      go (inl there) = roomy k g there
      go (inr same) = ap (lacks_room_after w c call) same ∙ now

module _ {S : Type 0} (w : ShapeValue) (c : CallerId) (call : Call) where
  -- the call's own shards were missed: none, one more, and none more
  missed-none : (v : PassView S Event) → HasMissed w c call v v
  missed-none v = record { shards = []; missed = sym (append-nil v.missed); own = λ k i at. absurd (none-at k i at) }

  missed-more : (v m n : PassView S Event) → HasMissed w c call v m → IsBusy w c call m n → HasMissed w c call v n
  missed-more v m n before busy = record {
    shards = before.shards ++ busy.missed.shard ∷ [];
    missed = busy.missed.missed ∙ (ap (λ (is : List ℕ). is ++ busy.missed.shard ∷ []) before.missed ∙ append_assoc v.missed before.shards (busy.missed.shard ∷ []));
    own = λ k i at. go k i (at-snoc before.shards busy.missed.shard k i at);
  }
    where
      go : (k i : ℕ) → (slice_get before.shards k ≡ Some i) ⊎ (i ≡ busy.missed.shard) → IsEither c.rank (call_other w c call) i
      go k i (inl at) = before.own k i at
      go k i (inr same) = subst (IsEither c.rank (call_other w c call)) (sym same) busy.missed.may

  missed-still : (v m n : PassView S Event) → HasMissed w c call v m → n.missed ≡ m.missed → HasMissed w c call v n
  missed-still v m n before same = record { shards = before.shards; missed = same ∙ before.missed; own = before.own }

  pub waited-none : (v : PassView S Event) → HasWaited w c call [] v v
  waited-none v = record {
    seen = prefix_self v.seen;
    party = refl;
    start = refl;
    looks = record { looks = sym (append-nil v.looks); between = λ k h at. absurd (none-at k h at) };
    unready = λ k h at. absurd (none-at k h at);
    had_room = λ k h at. absurd (none-at k h at);
    joins = [];
    joined = refl;
    mine = sym (append-nil v.mine);
    commits = record { places = []; commits = sym (append-nil v.commits); many = refl };
    missed = missed-none v;
    own = λ k h at. absurd (none-at k h at);
    pending = λ k h at. absurd (none-at k h at);
  }

  -- looks reach on to what is seen later, and one look more
  looks-on : (v m n : PassView S Event) (earlier : List (List Event)) → AreLooks w c v m earlier → IsPrefix m.seen n.seen → n.looks ≡ m.looks → AreLooks w c v n earlier
  looks-on v m n earlier looks more same = record {
    looks = same ∙ looks.looks;
    between = λ k h at. ((looks.between k h at).0, prefix_trans h m.seen n.seen (looks.between k h at).1 more);
  }

  looks-more : (v m n : PassView S Event) (earlier : List (List Event)) (h : List Event) → IsPrefix v.seen m.seen → AreLooks w c v m earlier → IsLook w c m n h → n.looks ≡ m.looks ++ length h ∷ [] → AreLooks w c v n (earlier ++ h ∷ [])
  looks-more v m n earlier h more looks look is = record {
    looks = is ∙ (ap (λ (ks : List ℕ). ks ++ length h ∷ []) looks.looks ∙ (append_assoc v.looks (map length earlier) (length h ∷ []) ∙ ap (λ (ks : List ℕ). v.looks ++ ks) (sym (map-append length earlier (h ∷ [])))));
    between = λ k g at. between k g (at-snoc earlier h k g at);
  }
    where
      between : (k : ℕ) (g : List Event) → (slice_get earlier k ≡ Some g) ⊎ (g ≡ h) → IsPrefix v.seen g × IsPrefix g n.seen
      between k g (inl at) = ((looks.between k g at).0, prefix_trans g m.seen n.seen (looks.between k g at).1 (prefix_trans m.seen h n.seen look.later look.earlier))
      between k g (inr same) = (subst (IsPrefix v.seen) (sym same) (prefix_trans v.seen m.seen h more look.later), subst (λ (x : List Event). IsPrefix x n.seen) (sym same) look.earlier)

  -- at the next look a collective is pending, where there was one before
  pending-next : (v m n : PassView S Event) (earlier : List (List Event)) (h : List Event) → IsShape w → HasWaited w c call earlier v m → IsLook w c m n h → is_legal w n.seen ≡ true
      → (k : ℕ) (g : List Event) → slice_get earlier k ≡ Some g → is_collective call ≡ true → is_pending_after w c call h ≡ true
  pending-next v m n earlier h world waited look legal k g at collective =
      pending-later w c call m.seen h world look.later (legal-part n.seen look.earlier legal) (waited.own k g at ∙ sym look.own) (waited.pending k g at collective)
    where
      legal-part : (s : List Event) → IsPrefix h s → is_legal w s ≡ true → is_legal w h ≡ true
      legal-part s more legal = prefix w h more.0 (subst (λ (es : List Event). is_legal w es ≡ true) (sym more.1) legal)

  -- a missed shard is no look
  pub waited-busy : (v m n : PassView S Event) (earlier : List (List Event)) → HasWaited w c call earlier v m → IsBusy w c call m n → HasWaited w c call earlier v n
  waited-busy v m n earlier waited busy =
      let seen : m.seen ≡ n.seen = sym busy.missed.seen in
      record {
        seen = prefix_trans v.seen m.seen n.seen waited.seen busy.goes_on.seen;
        party = busy.goes_on.party ∙ waited.party;
        start = busy.goes_on.start ∙ waited.start;
        looks = looks-on v m n earlier waited.looks busy.goes_on.seen busy.missed.looks;
        unready = waited.unready;
        had_room = waited.had_room;
        joins = waited.joins;
        joined = waited.joined;
        mine = busy.missed.mine ∙ waited.mine;
        commits = record { places = waited.commits.places; commits = busy.missed.commits ∙ waited.commits.commits; many = waited.commits.many };
        missed = missed-more v m n waited.missed busy;
        own = λ k h at. busy.goes_on.own;
        pending = λ k h at collective. subst (λ (s : List Event). is_pending_after w c call s ≡ true) seen (waited.pending k h at collective);
      }

  -- one look more that was too early
  pub waited-more : (v m n : PassView S Event) (earlier : List (List Event)) (look : Look) → IsShape w → HasWaited w c call earlier v m → (early : IsNotYet w c call look m n) → HasWaited w c call (earlier ++ early.history ∷ []) v n
  waited-more v m n earlier look world waited early =
      let pending = pending-next v m n earlier early.history world waited early.looked.is_look early.goes_on.legal in
      record {
        seen = prefix_trans v.seen m.seen n.seen waited.seen early.goes_on.seen;
        party = early.goes_on.party ∙ waited.party;
        start = early.goes_on.start ∙ waited.start;
        looks = looks-more v m n earlier early.history waited.seen waited.looks early.looked.is_look early.looked.looks;
        unready = unready-more w c call earlier early.history waited.unready early.unready;
        had_room = room-more w c call earlier early.history waited.had_room early.room;
        joins = waited.joins ++ early.joins;
        joined = joined-more w c call earlier early.history waited.joins early.joins waited.joined pending early.joined;
        mine = early.mine ∙ (ap (λ (es : List Event). es ++ early.joins) waited.mine ∙ append_assoc v.mine waited.joins early.joins);
        commits = committed-both v m n waited.joins early.joins waited.commits early.commits;
        missed = missed-still v m n waited.missed early.looked.missed;
        own = λ k h at. early.goes_on.own;
        pending = λ k h at collective. unready-pends w c call n.seen world early.still collective;
      }

  on-from : (v m n : PassView S Event) (earlier : List (List Event)) → HasWaited w c call earlier v m → IsExtended w c m n → IsExtended w c v n
  on-from v m n earlier waited on = record {
    seen = prefix_trans v.seen m.seen n.seen waited.seen on.seen;
    legal = on.legal;
    own = on.own;
    party = on.party ∙ waited.party;
    start = on.start ∙ waited.start;
  }

  -- the last look
  pub called-now : (v m n : PassView S Event) (earlier : List (List Event)) (look : Look) (timeout : timeouts.Timeout) (reply : Reply) → IsShape w → HasWaited w c call earlier v m → IsRecorded w c call look reply m n
      → look ≡ answer_of (left_after (length earlier) (looks_of timeout)) → HasLook (left_after (length earlier) (looks_of timeout)) → IsCalled w c call timeout reply v n
  called-now v m n earlier look timeout reply world waited done last left =
      let pending = pending-next v m n earlier done.history world waited done.looked.is_look done.goes_on.legal in
      record {
        goes_on = on-from v m n earlier waited done.goes_on;
        earlier = earlier;
        last = done.history;
        looks = looks-more v m n earlier done.history waited.seen waited.looks done.looked.is_look done.looked.looks;
        within = few-looks (length earlier) (looks_of timeout) left;
        unready = waited.unready;
        had_room = waited.had_room;
        joins = waited.joins ++ done.joins;
        joined = joined-more w c call earlier done.history waited.joins done.joins waited.joined pending done.joined;
        before = done.before;
        ends = done.ends;
        after_looks = λ k h at. before k h (at-snoc earlier done.history k h at);
        mine = done.mine ∙ ap (λ (es : List Event). es ++ Called c call reply ∷ []) (ap (λ (es : List Event). es ++ done.joins) waited.mine ∙ append_assoc v.mine waited.joins done.joins);
        commits = subst (λ (es : List Event). HasCommitted es v n) (sym (append_assoc waited.joins done.joins (Called c call reply ∷ []))) (committed-both v m n waited.joins (done.joins ++ Called c call reply ∷ []) waited.commits done.commits);
        missed = missed-still v m n waited.missed done.looked.missed;
        room = done.room;
        spent = λ times. final-spent (length earlier) (looks_of timeout) (sym last ∙ done.last times);
        timely = done.unready;
      }
    where
      before : (k : ℕ) (h : List Event) → (slice_get earlier k ≡ Some h) ⊎ (h ≡ done.history) → IsPrefix h done.before
      before k h (inl at) = prefix_trans h m.seen done.before (waited.looks.between k h at).1 (prefix_trans m.seen done.history done.before done.looked.is_look.later done.after_look)
      before k h (inr same) = subst (λ (x : List Event). IsPrefix x done.before) (sym same) done.after_look

  pub stopped-full : (v m n : PassView S Event) (earlier : List (List Event)) (timeout : timeouts.Timeout) → IsShape w → HasWaited w c call earlier v m → IsAtLimit w c call m n → HasLook (left_after (length earlier) (looks_of timeout)) → IsStopped w c call timeout true v n
  stopped-full v m n earlier timeout world waited stop left =
      let pending = pending-next v m n earlier n.seen world waited stop.looked.is_look stop.goes_on.legal in
      record {
        goes_on = on-from v m n earlier waited stop.goes_on;
        earlier = earlier;
        last = n.seen;
        looks = looks-more v m n earlier n.seen waited.seen waited.looks stop.looked.is_look stop.looked.looks;
        within = few-looks (length earlier) (looks_of timeout) left;
        unready = waited.unready;
        had_room = waited.had_room;
        joins = waited.joins;
        joined = subst (JoinedFirst w c call (earlier ++ n.seen ∷ [])) (append-nil waited.joins) (joined-more w c call earlier n.seen waited.joins [] waited.joined pending (inl refl));
        mine = stop.mine ∙ waited.mine;
        commits = record { places = waited.commits.places; commits = stop.commits ∙ waited.commits.commits; many = waited.commits.many };
        missed = missed-still v m n waited.missed stop.looked.missed;
        room = stop.full;
        now = λ full. refl;
      }

  pub stopped-empty : (v m n : PassView S Event) (earlier : List (List Event)) (timeout : timeouts.Timeout) → IsShape w → HasWaited w c call earlier v m → IsOutOfMemory w c call m n → HasLook (left_after (length earlier) (looks_of timeout)) → IsStopped w c call timeout false v n
  stopped-empty v m n earlier timeout world waited stop left =
      let pending = pending-next v m n earlier n.seen world waited stop.looked.is_look stop.goes_on.legal in
      record {
        goes_on = on-from v m n earlier waited stop.goes_on;
        earlier = earlier;
        last = n.seen;
        looks = looks-more v m n earlier n.seen waited.seen waited.looks stop.looked.is_look stop.looked.looks;
        within = few-looks (length earlier) (looks_of timeout) left;
        unready = waited.unready;
        had_room = waited.had_room;
        joins = waited.joins;
        joined = subst (JoinedFirst w c call (earlier ++ n.seen ∷ [])) (append-nil waited.joins) (joined-more w c call earlier n.seen waited.joins [] waited.joined pending (inl refl));
        mine = stop.mine ∙ waited.mine;
        commits = record { places = waited.commits.places; commits = stop.commits ∙ waited.commits.commits; many = waited.commits.many };
        missed = missed-still v m n waited.missed stop.looked.missed;
        room = stop.room;
        now = λ full. (let no : ⊥ = cc in absurd no);
      }
