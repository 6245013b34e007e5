-- What is done of a call while its pass holds the call's shards.
use Rattle.std.proofs.Common.{◌≡◌, ℕ, ◌+◌, ◌<◌, ◌≤◌, Bool, true, false, not, List, [], ◌∷◌, ◌++◌, length, length-append, Option, None, Some, Result, Ok, Err, inl, inr, refl, sym, ap, ◌∙◌, subst, arith}
use Rattle.std.specs.List.{list_any}
use Rattle.std.proofs.lemmas.Bool.{lt-ltb}
use Rattle.std.proofs.lemmas.List.{append_assoc, append-nil}
use mathlib.Core.List.{IsPrefix}
use Rattle.gaspi_types.specs.CallRows.{need_of}
use Rattle.gaspi_types.specs.World.{ShapeValue, IsShape, is_caller}
use Rattle.gaspi_types.specs.declared.calls.Call.{Call}
use Rattle.gaspi_types.specs.declared.events.Event.{Event}
use Rattle.gaspi_types.specs.declared.events.Event.TheVariants.{Called}
use Rattle.gaspi_types.specs.declared.groups.Args.{Args}
use Rattle.gaspi_types.specs.declared.replies.Ready.{Ready}
use Rattle.gaspi_types.specs.declared.replies.Ready.TheVariants as ready
use Rattle.gaspi_types.specs.declared.replies.Reply.{Reply}
use Rattle.gaspi_types.specs.declared.replies.Reply.TheVariants as replies
use Rattle.gaspi_types.specs.declared.shapes.CallerId.{CallerId}
use Rattle.gaspi_model.specs.Calls.{recorded_reply}
use Rattle.gaspi_model.specs.CollectiveCalls.{is_joining, join_event}
use Rattle.gaspi_model.specs.Parties.{party_of, caller_party, number_of}
use Rattle.gaspi_model.specs.Step.{answer_in, is_active, is_pending, used_room, lacks_room_in, is_legal}
use Rattle.gaspi_model.specs.declared.states.State.{State}
use Rattle.timeout_state.specs.declared.budget.Look.{Look}
use Rattle.timeout_state.specs.declared.budget.Look.TheVariants.{More, Final}
use Rattle.commit_table.specs.Attempts.{IsLookedOnly, IsMissed}
use Rattle.commit_table.specs.Machine.{IsOwn}
use Rattle.commit_table.specs.Views.{mine_after, after_give_back}
use Rattle.commit_table.specs.declared.views.PassView.{PassView}
use Rattle.commit_table.specs.declared.views.LockOp.{LockOp}
use Rattle.commit_table.proofs.Lists.{prefix_self, prefix_more, prefix_trans}
use Rattle.gaspi_world.specs.RankShards.{IsEither, call_other}
use Rattle.gaspi_world.specs.ShardLaws.{arrives}
use Rattle.gaspi_world.specs.ShardMachine.{state_after}
use Rattle.gaspi_world.specs.Attempts.{is_unready, answer_after, lacks_room_after, IsExtended, HasCommitted, LookedOnce, Attempted}
use Rattle.gaspi_world.specs.Callers.{IsPassOf}
use Rattle.gaspi_world.specs.HeldShards.{IsCommitted, left_by}
use Rattle.gaspi_world.specs.WorldMachine.{world_machine}
use Rattle.gaspi_world.specs.HeldAttempts.{waits_for_later_look, IsDecided, CommittedWhileHeld, AttemptedWhileHeld}
use Rattle.gaspi_world.specs.declared.attempts.Halt.{Halt}
use Rattle.gaspi_world.specs.declared.attempts.Halt.TheVariants.{Busy, NotYet, NoMemory, EventLimit}
use Rattle.gaspi_world.proofs.OwnEvents.{mine-events}
use Rattle.gaspi_world.proofs.Timely.{never-timeout}

-- where there is room, it is that of what the call needs
pub has-room : (s : State) (c : CallerId) (call : Call) → lacks_room_in s c call ≡ false → used_room s c.rank + need_of call (is_pending s c.rank c.thread call) (not (is_active s c.rank c.thread)) ≤ s.limits.events
has-room s c call room =
    let over : s.limits.events < used_room s c.rank + need_of call (is_pending s c.rank c.thread call) (not (is_active s c.rank c.thread)) → ⊥ = λ less. (let full = lt-ltb s.limits.events _ less in let no : ◌≡◌ {A = Bool} true false = sym full ∙ room in let never : ⊥ = cc in never) in
    omega arith

party-is : (w : ShapeValue) (c : CallerId) → list_any (is_caller c.rank c.thread) w.callers ≡ true → caller_party w.callers c ≡ Some (number_of w.callers c)
party-is w c there = rw there refl

-- how much was committed
module _ {S : Type 0} where
  committed-none : (v : PassView S Event) → HasCommitted [] v v
  committed-none v = record { places = []; commits = sym (append-nil v.commits); many = refl }

  committed-one : (v n : PassView S Event) (e : Event) (place : ℕ) → n.commits ≡ v.commits ++ place ∷ [] → HasCommitted (e ∷ []) v n
  committed-one v n e place is = record { places = place ∷ []; commits = is; many = refl }

  pub committed-both : (v m n : PassView S Event) (first second : List Event) → HasCommitted first v m → HasCommitted second m n → HasCommitted (first ++ second) v n
  committed-both v m n first second one two = record {
    places = one.places ++ two.places;
    commits = two.commits ∙ (ap (λ (ks : List ℕ). ks ++ two.places) one.commits ∙ append_assoc v.commits one.places two.places);
    many = length-append one.places two.places ∙ (ap (λ (k : ℕ). k + length two.places) one.many ∙ (ap (λ (k : ℕ). length first + k) two.many ∙ sym (length-append first second)));
  }

  committed-all : (v n : PassView S Event) (events : List Event) → HasCommitted (events ++ []) v n → HasCommitted events v n
  committed-all v n events all = subst (λ (es : List Event). HasCommitted es v n) (append-nil events) all

  -- a look commits nothing
  committed-since : (v m n : PassView S Event) (events : List Event) → m.commits ≡ v.commits → HasCommitted events m n → HasCommitted events v n
  committed-since v m n events same all = record {
    places = all.places;
    commits = all.commits ∙ ap (λ (ks : List ℕ). ks ++ all.places) same;
    many = all.many;
  }

  -- shards are given back: what a pass holds and its lock operations are no matter
  committed-back : (v n : PassView S Event) (events : List Event) (held : List (ℕ × Option (List Event))) (records : List (ℕ × LockOp)) → HasCommitted events v n → HasCommitted events v (record n { held = held; lock_operations = records })
  committed-back v n events held records all = record { places = all.places; commits = all.commits; many = all.many }

module _ (w : ShapeValue) (c : CallerId) (call : Call) where
  -- what a look finds after a legal history is what it finds in the state after it
  pub found-in : (h : List Event) → is_legal w h ≡ true → answer_after w c call h ≡ answer_in (state_after w h) c.rank c.thread call
  found-in h legal = rw (arrives w h legal) refl

  pub full-in : (h : List Event) → is_legal w h ≡ true → lacks_room_after w c call h ≡ lacks_room_in (state_after w h) c call
  full-in h legal = rw (arrives w h legal) refl

module _ {S : Type 0} (w : ShapeValue) (c : CallerId) (call : Call) where
  -- what was committed so far: nothing, the join, the call, or both
  pub attempted-none : (v n : PassView S Event) → n ≡ v → CommittedWhileHeld w c call [] [] v n
  attempted-none v n same = subst (CommittedWhileHeld w c call [] [] v) (sym same) (record {
    before = v.seen;
    seen = sym (append-nil v.seen);
    later = prefix_self v.seen;
    mine = sym (append-nil (v.mine ++ []) ∙ append-nil v.mine);
    commits = committed-none v;
    joined = inl refl;
    looks = refl;
    missed = refl;
    party = refl;
    start = refl;
  })

  mine-more : (v n : PassView S Event) (e : Event) → IsPassOf w c v → party_of w e ≡ caller_party w.callers c → IsCommitted w v e n → n.mine ≡ v.mine ++ e ∷ []
  mine-more v n e pass owned added = added.mine ∙ ap (λ (o : Option ℕ). mine_after o v.mine e) (owned ∙ party-is w c pass.0)

  pub attempted-joined : (v n : PassView S Event) (args : Args) → IsPassOf w c v → answer_after w c call v.seen ≡ Some (ready.Join args) → IsCommitted w v (join_event c call args) n → CommittedWhileHeld w c call (join_event c call args ∷ []) [] v n
  attempted-joined v n args pass found added = record {
    before = added.before ++ join_event c call args ∷ [];
    seen = added.seen ∙ sym (append-nil (added.before ++ join_event c call args ∷ []));
    later = prefix_more v.seen added.before (join_event c call args ∷ []) added.later;
    mine = mine-more v n (join_event c call args) pass refl added ∙ sym (append-nil (v.mine ++ join_event c call args ∷ []));
    commits = committed-one v n (join_event c call args) (length added.before) added.commits;
    joined = inr (args, refl, found);
    looks = added.looks;
    missed = added.missed;
    party = added.party_is;
    start = added.start;
  }

  attempted-called : (joins : List Event) (v m n : PassView S Event) (reply : Reply) → IsPassOf w c v → CommittedWhileHeld w c call joins [] v m → IsCommitted w m (Called c call reply) n → CommittedWhileHeld w c call joins (Called c call reply ∷ []) v n
  attempted-called joins v m n reply pass worked added =
      let seen : worked.before ≡ m.seen = sym (worked.seen ∙ append-nil worked.before) in
      record {
        before = added.before;
        seen = added.seen;
        later = prefix_trans v.seen m.seen added.before (subst (IsPrefix v.seen) seen worked.later) added.later;
        mine = mine-more m n (Called c call reply) (pass.0, worked.party ∙ pass.1) refl added ∙ ap (λ (es : List Event). es ++ Called c call reply ∷ []) (worked.mine ∙ append-nil (v.mine ++ joins));
        commits = committed-both v m n joins (Called c call reply ∷ []) (committed-all v m joins worked.commits) (committed-one m n (Called c call reply) (length added.before) added.commits);
        joined = worked.joined;
        looks = added.looks ∙ worked.looks;
        missed = added.missed ∙ worked.missed;
        party = added.party_is ∙ worked.party;
        start = added.start ∙ worked.start;
      }

  -- A call was recorded as a look found it, after its join where it had to join.
  pub recorded-attempted : (joins : List Event) (look : Look) (found : Ready) (v m n : PassView S Event) (reply : Reply) → IsPassOf w c v → is_legal w m.seen ≡ true → answer_after w c call m.seen ≡ Some found → is_joining found ≡ false
      → CommittedWhileHeld w c call joins [] v m → lacks_room_after w c call v.seen ≡ false → (found ≡ ready.NotReady → is_unready (answer_after w c call v.seen) ≡ true)
      → reply ≡ recorded_reply found → waits_for_later_look found look ≡ false → IsCommitted w m (Called c call reply) n → AttemptedWhileHeld w c call look v (Ok reply) n
  recorded-attempted joins look found v m n reply pass legal finds unjoined worked room waits is early added =
      (joins, attempted-called joins v m n reply pass worked added, room, last found finds is early unjoined, unready found finds is unjoined waits)
    where
      timely : (r : Reply) → answer_after w c call m.seen ≡ Some (ready.Reply r) → reply ≡ r → reply ≡ replies.Timeout → ⊥
      timely r answer same times = never-timeout (state_after w m.seen) c.rank c.thread call (sym (found-in w c call m.seen legal) ∙ (answer ∙ ap (λ (q : Reply). Some (ready.Reply q)) (sym same ∙ times)))

      last : (f : Ready) → answer_after w c call m.seen ≡ Some f → reply ≡ recorded_reply f → waits_for_later_look f look ≡ false → is_joining f ≡ false → reply ≡ replies.Timeout → look ≡ Final
      last (ready.Reply r) answer same early joins times = absurd (timely r answer same times)
      last (ready.Join args) answer same early joins times = absurd (let no : ⊥ = cc in no)
      last ready.NotReady answer same early joins times = final look early
        where
          final : (k : Look) → waits_for_later_look ready.NotReady k ≡ false → k ≡ Final
          final More early = absurd (let no : ⊥ = cc in no)
          final Final early = refl

      unready : (f : Ready) → answer_after w c call m.seen ≡ Some f → reply ≡ recorded_reply f → is_joining f ≡ false → (f ≡ ready.NotReady → is_unready (answer_after w c call v.seen) ≡ true) → reply ≡ replies.Timeout
          → is_unready (answer_after w c call v.seen) ≡ true
      unready (ready.Reply r) answer same joins waits times = absurd (timely r answer same times)
      unready (ready.Join args) answer same joins waits times = absurd (let no : ⊥ = cc in no)
      unready ready.NotReady answer same joins waits times = waits refl

  -- It was not ready, and is left for another look.
  pub early-attempted : (joins : List Event) (look : Look) (found : Ready) (v m n : PassView S Event) → answer_after w c call m.seen ≡ Some found → CommittedWhileHeld w c call joins [] v m → lacks_room_after w c call v.seen ≡ false
      → (found ≡ ready.NotReady → is_unready (answer_after w c call v.seen) ≡ true) → waits_for_later_look found look ≡ true → n ≡ m → AttemptedWhileHeld w c call look v (Err NotYet) n
  early-attempted joins look found v m n finds worked room waits early same = (
    joins,
    subst (CommittedWhileHeld w c call joins [] v) (sym same) worked,
    room,
    more found look early,
    waits (unready found look early),
    ap (λ (k : PassView S Event). answer_after w c call k.seen) same ∙ (finds ∙ ap (λ (f : Ready). Some f) (unready found look early)),
  )
    where
      more : (f : Ready) (l : Look) → waits_for_later_look f l ≡ true → l ≡ More
      more ready.NotReady More is = refl
      more ready.NotReady Final is = absurd (let no : ⊥ = cc in no)
      more (ready.Reply r) l is = absurd (let no : ⊥ = cc in no)
      more (ready.Join args) l is = absurd (let no : ⊥ = cc in no)

      unready : (f : Ready) (l : Look) → waits_for_later_look f l ≡ true → f ≡ ready.NotReady
      unready ready.NotReady l is = refl
      unready (ready.Reply r) l is = absurd (let no : ⊥ = cc in no)
      unready (ready.Join args) l is = absurd (let no : ⊥ = cc in no)

  -- what settles a call that was looked at and has not joined
  pub settled-attempted : (look : Look) (found : Ready) (v n : PassView S Event) (r : Result Reply Halt) → IsPassOf w c v → is_legal w v.seen ≡ true → answer_after w c call v.seen ≡ Some found → is_joining found ≡ false
      → lacks_room_after w c call v.seen ≡ false → IsDecided w c call found look v r n → AttemptedWhileHeld w c call look v r n
  settled-attempted look found v n (Ok reply) pass legal finds unjoined room settled =
      recorded-attempted [] look found v v n reply pass legal finds unjoined (attempted-none v v refl) room (waits found finds) settled.0 settled.1 settled.2
    where
      waits : (f : Ready) → answer_after w c call v.seen ≡ Some f → f ≡ ready.NotReady → is_unready (answer_after w c call v.seen) ≡ true
      waits f finds is = ap is_unready (finds ∙ ap (λ (x : Ready). Some x) is)
  settled-attempted look found v n (Err NotYet) pass legal finds unjoined room settled =
      early-attempted [] look found v v n finds (attempted-none v v refl) room (λ is. ap is_unready (finds ∙ ap (λ (x : Ready). Some x) is)) settled.0 settled.1
  settled-attempted look found v n (Err NoMemory) pass legal finds unjoined room settled = (settled, room)
  settled-attempted look found v n (Err Busy) pass legal finds unjoined room settled = absurd settled
  settled-attempted look found v n (Err EventLimit) pass legal finds unjoined room settled = absurd settled

module _ {S : Type 0} (w : ShapeValue) (c : CallerId) (call : Call) where
  seen-more : (m u : PassView S Event) (joins calls : List Event) → CommittedWhileHeld w c call joins calls m u → IsPrefix m.seen u.seen
  seen-more m u joins calls worked = subst (IsPrefix m.seen) (sym worked.seen) (prefix_more m.seen worked.before calls worked.later)

  goes-on : (v m u : PassView S Event) (joins calls : List Event) (held : List (ℕ × Option (List Event))) (records : List (ℕ × LockOp)) → IsShape w → IsPassOf w c v → IsLookedOnly (world_machine w) v m → is_legal w u.seen ≡ true → IsOwn (world_machine w) u.party u.seen u.mine
      → CommittedWhileHeld w c call joins calls m u → IsExtended w c v (record u { held = held; lock_operations = records })
  goes-on v m u joins calls held records world pass look legal own worked = record {
    seen = prefix_trans v.seen m.seen u.seen look.goes_on (seen-more m u joins calls worked);
    legal = legal;
    own = sym (mine-events w c u.seen world pass.0) ∙ own (number_of w.callers c) (worked.party ∙ (look.party ∙ pass.1));
    party = worked.party ∙ look.party;
    start = worked.start ∙ look.start;
  }

  looked-once : (v m u : PassView S Event) (joins calls : List Event) (held : List (ℕ × Option (List Event))) (records : List (ℕ × LockOp)) → IsShape w → IsPassOf w c v → IsLookedOnly (world_machine w) v m → CommittedWhileHeld w c call joins calls m u
      → LookedOnce w c v (record u { held = held; lock_operations = records }) m.seen
  looked-once v m u joins calls held records world pass look worked = record {
    looks = worked.looks ∙ look.looks;
    is_look = record {
      later = look.goes_on;
      earlier = seen-more m u joins calls worked;
      own = sym (mine-events w c m.seen world pass.0) ∙ (look.own (number_of w.callers c) (look.party ∙ pass.1) ∙ look.mine);
    };
    missed = worked.missed ∙ look.missed;
  }

  -- An attempt tells what was done while the shards were held, and the one look before it.
  attempted : (look : Look) (v m u : PassView S Event) (r : Result Reply Halt) (held : List (ℕ × Option (List Event))) (records : List (ℕ × LockOp)) → IsShape w → IsPassOf w c v → IsLookedOnly (world_machine w) v m → is_legal w u.seen ≡ true → IsOwn (world_machine w) u.party u.seen u.mine
      → AttemptedWhileHeld w c call look m r u → Attempted w c call look v r (record u { held = held; lock_operations = records })
  attempted look v m u (Ok reply) held records world pass looks legal own (joins, worked, room, last, unready) = record {
    goes_on = goes-on v m u joins (Called c call reply ∷ []) held records world pass looks legal own worked;
    history = m.seen;
    looked = looked-once v m u joins (Called c call reply ∷ []) held records world pass looks worked;
    before = worked.before;
    ends = worked.seen;
    after_look = worked.later;
    joins = joins;
    joined = worked.joined;
    mine = worked.mine ∙ ap (λ (es : List Event). (es ++ joins) ++ Called c call reply ∷ []) looks.mine;
    commits = committed-back v u (joins ++ Called c call reply ∷ []) held records (committed-since v m u (joins ++ Called c call reply ∷ []) looks.commits worked.commits);
    room = room;
    last = last;
    unready = unready;
  }
  attempted look v m u (Err NotYet) held records world pass looks legal own (joins, worked, room, more, unready, still) = record {
    goes_on = goes-on v m u joins [] held records world pass looks legal own worked;
    history = m.seen;
    looked = looked-once v m u joins [] held records world pass looks worked;
    joins = joins;
    joined = worked.joined;
    mine = worked.mine ∙ (append-nil (m.mine ++ joins) ∙ ap (λ (es : List Event). es ++ joins) looks.mine);
    commits = committed-back v u joins held records (committed-since v m u joins looks.commits (committed-all m u joins worked.commits));
    room = room;
    more = more;
    unready = unready;
    still = still;
  }
  attempted look v m u (Err NoMemory) held records world pass looks legal own (same, room) =
      let worked = attempted-none w c call m u same in
      let seen : m.seen ≡ u.seen = ap (λ (k : PassView S Event). k.seen) (sym same) in
      record {
        goes_on = goes-on v m u [] [] held records world pass looks legal own worked;
        looked = subst (LookedOnce w c v (record u { held = held; lock_operations = records })) seen (looked-once v m u [] [] held records world pass looks worked);
        mine = ap (λ (k : PassView S Event). k.mine) same ∙ looks.mine;
        commits = ap (λ (k : PassView S Event). k.commits) same ∙ looks.commits;
        room = ap (lacks_room_after w c call) (sym seen) ∙ room;
      }
  attempted look v m u (Err EventLimit) held records world pass looks legal own (same, full) =
      let worked = attempted-none w c call m u same in
      let seen : m.seen ≡ u.seen = ap (λ (k : PassView S Event). k.seen) (sym same) in
      record {
        goes_on = goes-on v m u [] [] held records world pass looks legal own worked;
        looked = subst (LookedOnce w c v (record u { held = held; lock_operations = records })) seen (looked-once v m u [] [] held records world pass looks worked);
        mine = ap (λ (k : PassView S Event). k.mine) same ∙ looks.mine;
        commits = ap (λ (k : PassView S Event). k.commits) same ∙ looks.commits;
        full = ap (lacks_room_after w c call) (sym seen) ∙ full;
      }
  attempted look v m u (Err Busy) held records world pass looks legal own never = absurd never

  pub attempted-left : (look : Look) (v m u : PassView S Event) (r : Result Reply Halt) (own : ℕ) (other : Option ℕ) → IsShape w → IsPassOf w c v → IsLookedOnly (world_machine w) v m → is_legal w u.seen ≡ true → IsOwn (world_machine w) u.party u.seen u.mine
      → AttemptedWhileHeld w c call look m r u → Attempted w c call look v r (left_by own other u)
  attempted-left look v m u r own None world pass looks legal owns worked = attempted look v m u r (after_give_back u own).held (after_give_back u own).lock_operations world pass looks legal owns worked
  attempted-left look v m u r own (Some j) world pass looks legal owns worked = attempted look v m u r (after_give_back (after_give_back u j) own).held (after_give_back (after_give_back u j) own).lock_operations world pass looks legal owns worked

  -- A miss tells that no look was made.
  pub missed-busy : (look : Look) (v n : PassView S Event) → IsShape w → IsPassOf w c v → IsMissed (world_machine w) v (IsEither c.rank (call_other w c call)) n → Attempted w c call look v (Err Busy) n
  missed-busy look v n world pass missed = record {
    goes_on = record {
      seen = subst (IsPrefix v.seen) (sym missed.seen) (prefix_self v.seen);
      legal = missed.legal;
      own = sym (mine-events w c n.seen world pass.0) ∙ missed.own (number_of w.callers c) (missed.party ∙ pass.1);
      party = missed.party;
      start = missed.start;
    };
    missed = missed;
  }
