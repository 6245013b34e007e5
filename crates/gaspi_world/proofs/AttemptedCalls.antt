-- What the nodes that a pass holds for a call tell of the history that it has seen, and of each that agrees with it on their shards.
use Rattle.std.proofs.Common.{◌≡◌, ℕ, ◌+◌, ◌-◌, ◌<◌, ◌≤◌, Bool, true, false, not, nat_lt, eqb, List, [], ◌∷◌, ◌++◌, Option, Some, Result, Ok, Err, IsOk, is_ok, refl, sym, ap, ◌∙◌, subst, arith}
use Rattle.std.specs.List.{slice_get, list_any}
use Rattle.std.specs.Option.{unwrap_or}
use Rattle.std.proofs.lemmas.Bool.{lt-ltb, ltb-true}
use Rattle.gaspi_types.specs.CallRows.{row_of, need_of}
use Rattle.gaspi_types.specs.Footprints.{footprint_of}
use Rattle.gaspi_types.specs.SegmentTables.{alloc_checks}
use Rattle.gaspi_types.specs.World.{ShapeValue, IsShape}
use Rattle.gaspi_types.specs.declared.calls.Call.{Call}
use Rattle.gaspi_types.specs.declared.collectives.Coll.{Coll}
use Rattle.gaspi_types.specs.declared.collectives.Coll.TheVariants as colls
use Rattle.gaspi_types.specs.declared.events.Event.{Event}
use Rattle.gaspi_types.specs.declared.events.Event.TheVariants.{Called, Joined}
use Rattle.gaspi_types.specs.declared.groups.Args.{Args}
use Rattle.gaspi_types.specs.declared.groups.Group.{Group}
use Rattle.gaspi_types.specs.declared.groups.Handle.{Handle}
use Rattle.gaspi_types.specs.declared.groups.RankContributions.{RankContributions}
use Rattle.gaspi_types.specs.declared.replies.Ready.{Ready}
use Rattle.gaspi_types.specs.declared.replies.Ready.TheVariants as ready
use Rattle.gaspi_types.specs.declared.replies.Reply.{Reply}
use Rattle.gaspi_types.specs.declared.replies.Reply.TheVariants as replies
use Rattle.gaspi_types.specs.declared.shapes.CallerId.{CallerId}
use Rattle.gaspi_types.specs.declared.shapes.Limits.{Limits}
use Rattle.gaspi_model.specs.Calls.{recorded_reply}
use Rattle.gaspi_model.specs.CollectiveCalls.{is_joining, joining_call, join_event, segment_checks, group_of as call_group}
use Rattle.gaspi_model.specs.Shards.{numbers_of}
use Rattle.gaspi_model.specs.State.{owed, thread_at, is_running}
use Rattle.gaspi_model.specs.Step.{step, answer_in, is_active, is_pending, is_pending_on, used_room, lacks_room_in, is_legal}
use Rattle.gaspi_model.specs.declared.states.Memory.{Memory}
use Rattle.gaspi_model.specs.declared.states.Posts.{Posts}
use Rattle.gaspi_model.specs.declared.states.State.{State}
use Rattle.gaspi_model.specs.declared.states.Why.{Why}
use Rattle.gaspi_model.proofs.GroupEffects.{IsJoinStep, join-step}
use Rattle.gaspi_model.proofs.Histories.{prefix}
use Rattle.gaspi_model.proofs.Listed.Joining.{joins-itself}
use Rattle.gaspi_model.proofs.Recordable.{join-group, recorded-is_step, joined-is_step, joined-goes-on}
use Rattle.commit_table.specs.declared.views.PassView.{PassView}
use Rattle.rank_node.specs.Collectives.{IsMadeFor}
use Rattle.rank_node.specs.HeldNodes.{peer_of, group_of as held_group}
use Rattle.rank_node.specs.Lending.{Lends, LendsFor, AreLentFor}
use Rattle.rank_node.specs.Making.{made_segment}
use Rattle.rank_node.specs.Numbers.{ReplyFits, AnswerFits}
use Rattle.rank_node.specs.Rooms.{HasMade, ReplyFitsReserved}
use Rattle.rank_node.specs.Values.{PostsValue}
use Rattle.rank_node.specs.declared.making.MadeSegment.{MadeSegment}
use Rattle.rank_node.specs.declared.rooms.Room.{Room}
use Rattle.gaspi_world.specs.Numbering.{by_ranks}
use Rattle.gaspi_world.specs.RankShards.{call_other}
use Rattle.gaspi_world.specs.ShardLaws.{arrives, limits-are, last-step, goes-on}
use Rattle.gaspi_world.specs.ShardMachine.{state_after}
use Rattle.gaspi_world.specs.Attempts.{answer_after, lacks_room_after}
use Rattle.gaspi_world.specs.Callers.{IsPassOf}
use Rattle.gaspi_world.specs.HeldShards.{Holds, IsCommitted, AgreesOn}
use Rattle.gaspi_world.specs.HeldAttempts.{is_full_for, MayRecord, MayJoinAs, FoundFits}
use Rattle.gaspi_world.specs.declared.holding.HeldShards.{HeldShards}
use Rattle.gaspi_world.proofs.CommittedNodes.{agrees-self, own-at, lends-at, sound-at, shards-of, join-touches-own}
use Rattle.gaspi_world.proofs.HeldNodes.{IsFootprint, footprint-is}
use Rattle.gaspi_model.proofs.Sections.{reached-declared}
use Rattle.gaspi_world.proofs.Working.{has-room, found-in, full-in}

-- a number is over what is left exactly where it is over the whole with what is taken
left-is : (most taken need : ℕ) → taken ≤ most → nat_lt (most - taken) need ≡ nat_lt most (taken + need)
left-is most taken need fits = go (nat_lt most (taken + need)) refl
  where
    go : (b : Bool) → nat_lt most (taken + need) ≡ b → nat_lt (most - taken) need ≡ b
    go true is = (let over : most < taken + need = ltb-true most (taken + need) is in lt-ltb (most - taken) need (omega arith))
    go false is = not-over (nat_lt (most - taken) need) refl
      where
        not-over : (b : Bool) → nat_lt (most - taken) need ≡ b → b ≡ false
        not-over false none = refl
        not-over true some = absurd (let over : most - taken < need = ltb-true (most - taken) need some in let all = lt-ltb most (taken + need) (omega arith) in let no : ⊥ = cc in no)

ok-there : (r : Result State Why) → IsOk r → (t : State) × (r ≡ Ok t)
ok-there (Ok t) is = (t, refl)
ok-there (Err why) is = absurd (let no : ⊥ = cc in no)

module _ {S : Type 0} (w : ShapeValue) (world : IsShape w) (c : CallerId) (call : Call) (h : HeldShards) (v : PassView S Event) (holds : Holds w h v) (own : h.own ≡ c.rank) (other : h.other ≡ call_other w c call) where
  legal : is_legal w v.seen ≡ true
  legal = holds.shards.legal

  me-at : (k : List Event) → is_legal w k ≡ true → AgreesOn w h v k → h.nodes.own.value.posts.me ≡ h.own
  me-at k is agree = (own-at w world h v holds k is agree).posts.me

  pub me-is : h.nodes.own.value.posts.me ≡ c.rank
  me-is = me-at v.seen legal (agrees-self w world h v holds) ∙ own

  -- the nodes are lent for the call
  pub lends-call : (k : List Event) → is_legal w k ≡ true → AgreesOn w h v k → LendsFor (state_after w k) call h.nodes.own.value (peer_of h.nodes.other) (held_group h.nodes.other)
  lends-call k is agree =
      let s = state_after w k in
      let declaration = (row_of call).footprint in
      let lends = lends-at w world h v holds k (footprint_of w.limits.ranks c.rank declaration) is agree (subst (λ (n : ℕ). IsFootprint w.limits.ranks n (footprint_of w.limits.ranks c.rank declaration)) (sym own) (footprint-is w.limits.ranks c.rank declaration)) other in
      subst (λ (n : ℕ). Lends s n (footprint_of s.limits.ranks n declaration) h.nodes.own.value (peer_of h.nodes.other) (held_group h.nodes.other)) (sym (me-at k is agree))
      (subst (λ (l : Limits). Lends s h.own (footprint_of l.ranks h.own declaration) h.nodes.own.value (peer_of h.nodes.other) (held_group h.nodes.other)) (sym (limits-are w k is))
      (subst (λ (n : ℕ). Lends s h.own (footprint_of w.limits.ranks n declaration) h.nodes.own.value (peer_of h.nodes.other) (held_group h.nodes.other)) (sym own) lends))

  pub lent-call : AreLentFor call h.nodes.own.value (peer_of h.nodes.other) (held_group h.nodes.other)
  lent-call = record {
    state = state_after w v.seen;
    sound = sound-at w world h v holds v.seen legal;
    lends = lends-call v.seen legal (agrees-self w world h v holds);
  }

  pub answer-at : (k : List Event) (found : Ready) → answer_in (state_after w k) h.nodes.own.value.posts.me c.thread call ≡ Some found → answer_in (state_after w k) c.rank c.thread call ≡ Some found
  answer-at k found is = subst (λ (r : ℕ). answer_in (state_after w k) r c.thread call ≡ Some found) me-is is

  -- what a look at the nodes finds is found after what was seen, and after each history that agrees with it
  pub found-at : (k : List Event) (found : Ready) → is_legal w k ≡ true → answer_in (state_after w k) h.nodes.own.value.posts.me c.thread call ≡ Some found → answer_after w c call k ≡ Some found
  found-at k found is answers = found-in w c call k is ∙ (ap (λ (r : ℕ). answer_in (state_after w k) r c.thread call) (sym me-is) ∙ answers)

  -- so is whether there is room
  pub full-at : (k : List Event) → is_legal w k ≡ true → AgreesOn w h v k → lacks_room_after w c call k ≡ is_full_for h.nodes.own.value.posts c.thread call
  full-at k is agree =
      let s = state_after w k in
      let p = h.nodes.own.value.posts in
      let node = own-at w world h v holds k is agree in
      let there : slice_get s.posts c.rank ≡ Some p.posts = subst (λ (n : ℕ). slice_get s.posts n ≡ Some p.posts) own node.posts.posts in
      let limits : p.limits ≡ s.limits = node.posts.limits in
      let need = need_of call (is_pending_on c.thread p.posts (row_of call).group) (not (is_running (thread_at p.posts c.thread))) in
      let room = ((sound-at w world h v holds k is).posts c.rank p.posts there).room in
      let events : p.limits.events ≡ s.limits.events = ap (λ (l : Limits). l.events) limits in
      let fits : p.posts.events + owed p.posts ≤ p.limits.events = omega arith in
      full-in w c call k is ∙ (rw there (ap (λ (n : ℕ). nat_lt n (p.posts.events + owed p.posts + need)) (sym events)) ∙ sym (left-is p.limits.events (p.posts.events + owed p.posts) need fits))

  -- What was found may be recorded, where there is room.
  pub may-record : (found : Ready) → IsPassOf w c v → answer_after w c call v.seen ≡ Some found → is_joining found ≡ false → lacks_room_after w c call v.seen ≡ false → MayRecord w c call found v.seen
  may-record found pass finds unjoined room =
      let s = state_after w v.seen in
      let declared = reached-declared w v.seen s c world pass.0 (arrives w v.seen legal) in
      let full : lacks_room_in s c call ≡ false = sym (full-in w c call v.seen legal) ∙ room in
      let answered : answer_in s c.rank c.thread call ≡ Some found = sym (found-in w c call v.seen legal) ∙ finds in
      let steps = recorded-is_step s c call found (sound-at w world h v holds v.seen legal) declared (has-room s c call full) answered unjoined in
      let t = ok-there (step s (Called c call (recorded_reply found))) steps in
      record { finds = finds; unjoined = unjoined; steps = ap is_ok (goes-on w v.seen (Called c call (recorded_reply found)) t.0 legal t.1) }

-- a join that is not refused for its segment has it made
made-for : (p : PostsValue) (id : ℕ) (args : Args) (made : Option MadeSegment) → segment_checks p.posts (joining_call id args) ≡ Ok tt → HasMade p (joining_call id args) made → IsMadeFor p args.coll made
made-for p id args made free has = go args.coll refl
  where
    go : (k : Coll) → args.coll ≡ k → IsMadeFor p k made
    go (colls.Create seg size) at =
        let checks : alloc_checks p.posts.segments.own seg size ≡ Ok tt = rw at at free in
        let makes : alloc_checks p.posts.segments.own seg size ≡ Ok tt → made ≡ Some (made_segment p.limits p.posts seg size) = rw at at has in
        makes checks
    go colls.Barrier at = tt
    go (colls.Allreduce op num_type count) at = tt
    go (colls.Commit mask) at = tt

-- a reply without bytes that fits a list of numbers fits the room
reply-fits : (reply : Reply) (room : Room) → ReplyFits reply room.numbers.caller → ReplyFitsReserved reply room
reply-fits (replies.Bytes bytes) room fits = absurd fits
reply-fits reply room fits = fits

-- what a look after a join found fits the room
pub found-fits : (w : ShapeValue) (c : CallerId) (call : Call) (found : Ready) (room : Room) → AnswerFits found room.numbers.caller → FoundFits w c call found room
found-fits w c call (ready.Reply reply) room fits = reply-fits reply room fits
found-fits w c call (ready.Join args) room fits = tt
found-fits w c call ready.NotReady room fits = tt

module _ {S : Type 0} (w : ShapeValue) (world : IsShape w) (c : CallerId) (call : Call) (args : Args) (h : HeldShards) (v : PassView S Event) (holds : Holds w h v) (own : h.own ≡ c.rank) (other : h.other ≡ call_other w c call) (pass : IsPassOf w c v)
    (joins : MayJoinAs w c call args h v) where
  seen-legal : is_legal w v.seen ≡ true
  seen-legal = holds.shards.legal

  itself-agrees : AgreesOn w h v v.seen
  itself-agrees = agrees-self w world h v holds

  joins-at : (k : List Event) → is_legal w k ≡ true → AgreesOn w h v k → answer_in (state_after w k) c.rank c.thread call ≡ Some (ready.Join args)
  joins-at k is agree = sym (found-in w c call k is) ∙ joins.finds k is agree

  room-at : (k : List Event) → is_legal w k ≡ true → AgreesOn w h v k
      → used_room (state_after w k) c.rank + need_of call (is_pending (state_after w k) c.rank c.thread call) (not (is_active (state_after w k) c.rank c.thread)) ≤ (state_after w k).limits.events
  room-at k is agree = has-room (state_after w k) c call (sym (full-in w c call k is) ∙ joins.room k is agree)

  -- it names a group
  pub join-named : (id : ℕ) × ((row_of call).group ≡ Some id)
  join-named = join-group (state_after w v.seen) c.rank c.thread call args (joins-at v.seen seen-legal itself-agrees)

  joined-there : (t : State) × (step (state_after w v.seen) (join_event c call args) ≡ Ok t)
  joined-there =
      let s = state_after w v.seen in
      ok-there (step s (join_event c call args)) (joined-is_step s c call args (sound-at w world h v holds v.seen seen-legal) (room-at v.seen seen-legal itself-agrees) (joins-at v.seen seen-legal itself-agrees))

  join-facts : (posts : Posts) × (g : Group) × (part : RankContributions) × (memory : Memory) × (handle : Handle) × IsJoinStep (state_after w v.seen) joined-there.0 c (call_group call) args posts g part memory handle
  join-facts = join-step (state_after w v.seen) joined-there.0 c (call_group call) args (sound-at w world h v holds v.seen seen-legal) joined-there.1

  -- which is one of those that there are
  pub join-group-there : (id : ℕ) × ((row_of call).group ≡ Some id) × (id < 8)
  join-group-there =
      let within : call_group call < 8 = join-facts.5.there.within in
      let same : call_group call ≡ join-named.0 = ap (λ (o : Option ℕ). unwrap_or o 0) join-named.1 in
      (join-named.0, join-named.1, subst (λ (n : ℕ). n < 8) same within)

  -- the group that it names
  pub named-is : (id : ℕ) → Some id ≡ (row_of call).group → call_group call ≡ id
  named-is id is = ap (λ (o : Option ℕ). unwrap_or o 0) (sym is)

  -- its arguments make up the call
  pub join-itself : (id : ℕ) → Some id ≡ (row_of call).group → joining_call id args ≡ call
  join-itself id is = joins-itself (state_after w v.seen) c.rank c.thread id call args (sym is) (joins-at v.seen seen-legal itself-agrees)

  pub join-legal : is_legal w (v.seen ++ join_event c call args ∷ []) ≡ true
  join-legal = ap is_ok (goes-on w v.seen (join_event c call args) joined-there.0 seen-legal joined-there.1)

  -- the segment that it makes was made before
  pub join-made : (made : Option MadeSegment) → HasMade h.nodes.own.value.posts call made → IsMadeFor h.nodes.own.value.posts args.coll made
  join-made made has = made-for p id args made free (subst (λ (x : Call). HasMade p x made) (sym itself) has)
    where
      p : PostsValue
      p = h.nodes.own.value.posts

      id : ℕ
      id = join-named.0

      itself : joining_call id args ≡ call
      itself = join-itself id (sym join-named.1)

      node : slice_get (state_after w v.seen).posts c.rank ≡ Some p.posts
      node = subst (λ (n : ℕ). slice_get (state_after w v.seen).posts n ≡ Some p.posts) own (own-at w world h v holds v.seen seen-legal itself-agrees).posts.posts

      same : join-facts.0 ≡ p.posts
      same = (let there = join-facts.5.posts_there in let both : Some join-facts.0 ≡ Some p.posts = sym there ∙ node in cc)

      free : segment_checks p.posts (joining_call id args) ≡ Ok tt
      free = subst (λ (x : Posts). segment_checks x (joining_call id args) ≡ Ok tt) same (subst (λ (n : ℕ). segment_checks join-facts.0 (joining_call n args) ≡ Ok tt) (ap (λ (o : Option ℕ). unwrap_or o 0) join-named.1) join-facts.5.may.free)

  -- the shards are those of the join
  pub join-shards : (id : ℕ) → Some id ≡ (row_of call).group → h.other ≡ call_other w c (joining_call id args)
  join-shards id is = other ∙ ap (call_other w c) (sym (join-itself id is))

  -- What was committed before the join agrees with what had been seen, on the shards that are held.
  before-agrees : (n : PassView S Event) (added : IsCommitted w v (join_event c call args) n) → AgreesOn w h v added.before
  before-agrees n added i x at =
      let id = join-named.0 in
      let named = sym join-named.1 in
      let posts = h.nodes.own.value.posts.posts in
      let e = Joined c id args in
      let among = (shards-of w world h v holds e own (join-touches-own w c id args posts h.other (join-shards id named))).only i x at in
      added.agrees i (subst (λ (m : ℕ). list_any (eqb i) (numbers_of (by_ranks w).number (state_after w v.seen) (Joined c m args)) ≡ true) (sym (named-is id named)) among)

  -- What is found after the join may be recorded.
  pub after-join : (n : PassView S Event) (found : Ready) → IsCommitted w v (join_event c call args) n → is_legal w n.seen ≡ true → answer_in (state_after w n.seen) c.rank c.thread call ≡ Some found → MayRecord w c call found n.seen
  after-join n found added is now =
      let e = join_event c call args in
      let k = added.before in
      let whole : is_legal w (k ++ e ∷ []) ≡ true = subst (λ (l : List Event). is_legal w l ≡ true) added.seen is in
      let legal_k : is_legal w k ≡ true = prefix w k (e ∷ []) whole in
      let agree = before-agrees n added in
      let s = state_after w k in
      let t = state_after w (k ++ e ∷ []) in
      let answered : answer_in t c.rank c.thread call ≡ Some found = subst (λ (l : List Event). answer_in (state_after w l) c.rank c.thread call ≡ Some found) added.seen now in
      let on = joined-goes-on s t c call args found (sound-at w world h v holds k legal_k) (room-at k legal_k agree) (joins-at k legal_k agree) (last-step w k e whole) answered in
      let after = ok-there (step t (Called c call (recorded_reply found))) on.1 in
      let steps : step (state_after w n.seen) (Called c call (recorded_reply found)) ≡ Ok after.0 = subst (λ (l : List Event). step (state_after w l) (Called c call (recorded_reply found)) ≡ Ok after.0) (sym added.seen) after.1 in
      record {
        finds = found-in w c call n.seen is ∙ now;
        unjoined = on.0;
        steps = ap is_ok (goes-on w n.seen (Called c call (recorded_reply found)) after.0 is steps);
      }
