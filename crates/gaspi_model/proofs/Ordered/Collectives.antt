-- Joins and completions: each contribution counts once, and members of a round get the same.
use Rattle.std.proofs.Common.{◌≡◌, ℕ, zero, suc, ◌+◌, ◌<◌, Bool, true, false, not, ◌==◌, ◌&&◌, List, [], ◌∷◌, ◌++◌, length, filter, cond, ℤ, Option, None, Some, is_some, Ok, refl, sym, ap, ◌∙◌, subst, arith}
use Rattle.std.specs.List.{slice_get, slice_set, list_all, range_with_len}
use Rattle.std.specs.Option.{option_map}
use Rattle.std.proofs.lemmas.Bool.{eqb-true, eqb-false}
use Rattle.std.proofs.lemmas.List.Sums.{sum_by-cons}
use Rattle.std.proofs.lemmas.Option.{slice_get_within}
use Rattle.gaspi_types.specs.CallRows.{row_of}
use Rattle.gaspi_types.specs.Collectives.{combined, values_in, reduced_onto, reduced_values, members_of, members_in, contributions_of, contribution_in, round_of, is_round_full, round_reduction, round_segments, fixed_by, with_joined, with_completed}
use Rattle.gaspi_types.specs.Groups.{with_committed}
use Rattle.gaspi_types.specs.Masks.{is_member}
use Rattle.gaspi_types.specs.NumberTypes.{TypedNumbers}
use Rattle.gaspi_types.specs.Replies.{is_idle}
use Rattle.gaspi_types.specs.Tables.{item_at}
use Rattle.gaspi_types.specs.World.{ShapeValue, IsShape}
use Rattle.gaspi_types.specs.declared.calls.Call.{Call}
use Rattle.gaspi_types.specs.declared.calls.Call.TheVariants as calls
use Rattle.gaspi_types.specs.declared.calls.collectives.Allreduce as allreduce
use Rattle.gaspi_types.specs.declared.calls.collectives.Barrier as barrier
use Rattle.gaspi_types.specs.declared.calls.collectives.Commit as commit
use Rattle.gaspi_types.specs.declared.calls.collectives.Create as create
use Rattle.gaspi_types.specs.declared.collectives.Coll.TheVariants as colls
use Rattle.gaspi_types.specs.declared.collectives.Stage.TheVariants.{Committed}
use Rattle.gaspi_types.specs.declared.collectives.NumType.{NumType}
use Rattle.gaspi_types.specs.declared.collectives.Op.{Op}
use Rattle.gaspi_types.specs.declared.events.Event.{Event}
use Rattle.gaspi_types.specs.declared.events.Event.TheVariants.{Called, Joined, Take, Put}
use Rattle.gaspi_types.specs.declared.groups.Args.{Args}
use Rattle.gaspi_types.specs.declared.groups.Contribution.{Contribution}
use Rattle.gaspi_types.specs.declared.groups.Group.{Group}
use Rattle.gaspi_types.specs.declared.groups.Handle.{Handle}
use Rattle.gaspi_types.specs.declared.groups.RankContributions.{RankContributions}
use Rattle.gaspi_types.specs.declared.groups.PendingCollective.{PendingCollective}
use Rattle.gaspi_types.specs.declared.replies.Reply.{Reply}
use Rattle.gaspi_types.specs.declared.replies.Reply.TheVariants as replies
use Rattle.gaspi_types.specs.declared.shapes.CallerId.{CallerId}
use Rattle.gaspi_model.specs.CollectiveCalls.{args_of, full_reply, posts_at_completion, with_pending, with_made_known, contribution_of}
use Rattle.gaspi_model.specs.Contributions.{pending_count, IsOneOf}
use Rattle.gaspi_model.specs.Posting as posting
use Rattle.gaspi_model.specs.Sound.{IsSound}
use Rattle.gaspi_model.specs.State.{opening, opening_group}
use Rattle.gaspi_model.specs.Step.{step, after, reached}
use Rattle.gaspi_model.specs.Rounds.{is_join_on, is_completion_on, joins_on, completions_on, Grows, IsCommitDone, IsCompletionDone, IsReduction, IsReplyFor}
use Rattle.gaspi_model.specs.declared.states.Posts.{Posts}
use Rattle.gaspi_model.specs.declared.states.State.{State}
use Rattle.gaspi_types.proofs.Items.{slice_get-set_same, slice_get-set_other, prefix-of-joined}
use Rattle.gaspi_model.proofs.Changed.Ends.{is-running}
use Rattle.gaspi_model.proofs.GroupEffects.{done-step, join-step}
use Rattle.gaspi_model.proofs.Histories.{after-first, reached-sound}
use Rattle.gaspi_model.proofs.IdleSteps.{only-counted}
use Rattle.gaspi_model.proofs.Listed.Joining.{join-call}
use Rattle.gaspi_model.proofs.Made.{step-called, step-take, step-put}
use Rattle.gaspi_model.proofs.Sound.Completions.{built-there, commit-fixed}
use Rattle.gaspi_model.proofs.Sound.GroupEvents.{ranks-few}
use Rattle.gaspi_model.proofs.Sound.Contributions.{contributions-changed, contributions-there, contributions-other}
use Rattle.gaspi_model.proofs.Sound.Opening.{opens}
use Rattle.gaspi_model.proofs.Sound.OpeningGroups.{opening-contributions}
use Rattle.gaspi_model.proofs.Sound.Steps.{steps}
use Rattle.gaspi_model.proofs.Sound.Rounds.{each-passes, in-range, contributed-completed, fixed-stays}

-- How often a rank has joined, and completed, by one event.
joins-once : Bool → ℕ
joins-once b = cond b 1 0

-- What becomes of a group by an event.
record RoundsAfter (e : Event) (id : ℕ) (g g' : Group) : Type 0 where
  grows : Grows g g'
  joins : (rank : ℕ) → length (contributions_of g' rank).contributions ≡ length (contributions_of g rank).contributions + joins-once (is_join_on rank id e)
  completes : (rank : ℕ) → (contributions_of g' rank).completed ≡ (contributions_of g rank).completed + joins-once (is_completion_on rank id e)

same-contributions : (e : Event) (id : ℕ) (g : Group) → ((rank : ℕ) → is_join_on rank id e ≡ false) → ((rank : ℕ) → is_completion_on rank id e ≡ false) → RoundsAfter e id g g
unfolding joins-once
same-contributions e id g joins completes = record {
  grows = record { given = λ round rank c given. given; members = λ mask is. is };
  joins = λ rank. rw (joins rank) (omega arith);
  completes = λ rank. rw (completes rank) (omega arith);
}

-- the group after an event, where its number has it
abbrev HasRoundsAfter : State → Event → ℕ → Group → Type 0
HasRoundsAfter t e id g = (g' : Group) × (slice_get t.groups id ≡ Some g') × RoundsAfter e id g g'

same-rounds : (s t : State) (e : Event) (id : ℕ) (g : Group) → t.groups ≡ s.groups → slice_get s.groups id ≡ Some g → ((rank : ℕ) → is_join_on rank id e ≡ false) → ((rank : ℕ) → is_completion_on rank id e ≡ false) → HasRoundsAfter t e id g
same-rounds s t e id g same at joins completes = (g, ap (λ (all : List Group). slice_get all id) same ∙ at, same-contributions e id g joins completes)

and-false : (a : Bool) → (a && false) ≡ false
and-false true = refl
and-false false = refl

false-and : (b : Bool) → (false && b) ≡ false
false-and true = refl
false-and false = refl

-- a group of which one rank has completed its round
completed-rounds : (g : Group) (me : ℕ) (part : RankContributions) → slice_get g.contributions me ≡ Some part → Grows g (with_completed g me)
completed-rounds g me part at = record { given = λ round rank c given. contributed-completed g me round rank part at ∙ given; members = λ mask is. is }

by-rank : {P : Type 0} (a b : ℕ) → ((a == b) ≡ true → a ≡ b → P) → ((a == b) ≡ false → (a ≡ b → ⊥) → P) → P
by-rank {P} a b same other = go (a == b) refl
  where
    go : (x : Bool) → (a == b) ≡ x → P
    go true is = same is (eqb-true a b is)
    go false is = other is (λ e. eqb-false a b is e)

done-rounds : (s t : State) (c : CallerId) (k : ℕ) (call : Call) (reply : Reply) (id : ℕ) (g : Group) → (row_of call).group ≡ Some k → is_idle reply ≡ false → IsSound s → step s (Called c call reply) ≡ Ok t → slice_get s.groups id ≡ Some g
    → HasRoundsAfter t (Called c call reply) id g
unfolding joins-once
done-rounds s t c k call reply id g named awake sound h at =
    let made = done-step s t c k call reply named awake sound h in
    let m = made.5 in
    let old = made.1 in
    let part = made.2 in
    let all : t.groups ≡ slice_set s.groups k (with_completed old c.rank) = ap (λ (x : State). x.groups) m.leaves in
    by-rank {P = HasRoundsAfter t (Called c call reply) id g} k id
    (λ is same.
    let one : old ≡ g = (let some : ◌≡◌ {A = Option Group} (Some old) (Some g) = sym m.there.there ∙ subst (λ (n : ℕ). slice_get s.groups n ≡ Some g) (sym same) at in cc) in
    let part_there = m.there.part_there in
    subst (λ (x : Group). HasRoundsAfter t (Called c call reply) id x) one (
      with_completed old c.rank,
      ap (λ (gs : List Group). slice_get gs id) all ∙ subst (λ (n : ℕ). slice_get (slice_set s.groups k (with_completed old c.rank)) n ≡ Some (with_completed old c.rank)) same (slice_get-set_same s.groups k old (with_completed old c.rank) m.there.there),
      record {
        grows = completed-rounds old c.rank part part_there;
        joins = λ rank. by-rank {P = length (contributions_of (with_completed old c.rank) rank).contributions ≡ length (contributions_of old rank).contributions + 0} c.rank rank
            (λ here mine.
            let now = contributions-changed old c.rank part (λ (q : RankContributions). record q { completed = q.completed + 1 }) old.members part_there in
            let was = contributions-there old c.rank part part_there in
            let now' = subst (λ (r : ℕ). contributions_of (with_completed old c.rank) r ≡ record part { completed = part.completed + 1 }) mine now in
            let was' = subst (λ (r : ℕ). contributions_of old r ≡ part) mine was in
            rw (now', was') (omega arith))
            (λ here apart. rw (contributions-other old c.rank rank (λ (q : RankContributions). record q { completed = q.completed + 1 }) old.members apart) (omega arith));
        completes = λ rank. by-rank {P = (contributions_of (with_completed old c.rank) rank).completed ≡ (contributions_of old rank).completed + joins-once (is_completion_on rank id (Called c call reply))} c.rank rank
            (λ here mine.
            let now = contributions-changed old c.rank part (λ (q : RankContributions). record q { completed = q.completed + 1 }) old.members part_there in
            let was = contributions-there old c.rank part part_there in
            let now' = subst (λ (r : ℕ). contributions_of (with_completed old c.rank) r ≡ record part { completed = part.completed + 1 }) mine now in
            let was' = subst (λ (r : ℕ). contributions_of old r ≡ part) mine was in
            rw (now', was', here, named, is, awake) refl)
            (λ here apart. rw (contributions-other old c.rank rank (λ (q : RankContributions). record q { completed = q.completed + 1 }) old.members apart, here) (omega arith));
      },
    ))
    (λ is apart. (
      g,
      ap (λ (gs : List Group). slice_get gs id) all ∙ slice_get-set_other s.groups k id (with_completed old c.rank) apart ∙ at,
      same-contributions (Called c call reply) id g (λ rank. refl) (λ rank. rw (named, is) (ap (λ (b : Bool). b && not (is_idle reply)) (and-false (c.rank == rank)) ∙ false-and (not (is_idle reply)))),
    ))

joined-rounds : (s t : State) (c : CallerId) (k : ℕ) (args : Args) (id : ℕ) (g : Group) → IsSound s → step s (Joined c k args) ≡ Ok t → slice_get s.groups id ≡ Some g → HasRoundsAfter t (Joined c k args) id g
unfolding joins-once
joined-rounds s t c k args id g sound h at =
    let made = join-step s t c k args sound h in
    let m = made.5 in
    let posts = made.0 in
    let old = made.1 in
    let part = made.2 in
    let new = with_joined old c.rank (contribution_of posts args) in
    let all : t.groups ≡ slice_set s.groups k new = ap (λ (x : State). x.groups) m.leaves in
    by-rank {P = HasRoundsAfter t (Joined c k args) id g} k id
    (λ is same.
    let one : old ≡ g = (let some : ◌≡◌ {A = Option Group} (Some old) (Some g) = sym m.there.there ∙ subst (λ (n : ℕ). slice_get s.groups n ≡ Some g) (sym same) at in cc) in
    subst (λ (x : Group). HasRoundsAfter t (Joined c k args) id x) one (
      new,
      ap (λ (gs : List Group). slice_get gs id) all ∙ subst (λ (n : ℕ). slice_get (slice_set s.groups k new) n ≡ Some new) same (slice_get-set_same s.groups k old new m.there.there),
      given-more old part (contribution_of posts args) m.there.part_there is,
    ))
    (λ is apart. (
      g,
      ap (λ (gs : List Group). slice_get gs id) all ∙ slice_get-set_other s.groups k id new apart ∙ at,
      same-contributions (Joined c k args) id g (λ rank. rw is (and-false (c.rank == rank))) (λ rank. refl),
    ))
  where
    more : (xs : List Contribution) (y : Contribution) → length (xs ++ y ∷ []) ≡ length xs + 1
    more [] y = refl
    more (x ∷ xs) y = ap (λ (n : ℕ). suc n) (more xs y) ∙ omega arith

    given-more : (old : Group) (part : RankContributions) (x : Contribution) → slice_get old.contributions c.rank ≡ Some part → (k == id) ≡ true → RoundsAfter (Joined c k args) id old (with_joined old c.rank x)
    given-more old part x part_there is = record {
      grows = record {
        given = λ round rank d given. by-rank {P = contribution_in (with_joined old c.rank x) round rank ≡ Some d} c.rank rank
            (λ here mine.
            let now = subst (λ (r : ℕ). contributions_of (with_joined old c.rank x) r ≡ record part { contributions = part.contributions ++ x ∷ [] }) mine (contributions-changed old c.rank part (λ (q : RankContributions). record q { contributions = q.contributions ++ x ∷ [] }) (fixed_by old.members x.args.coll) part_there) in
            let was : slice_get part.contributions round ≡ Some d = ap (λ (q : RankContributions). slice_get q.contributions round) (sym (subst (λ (r : ℕ). contributions_of old r ≡ part) mine (contributions-there old c.rank part part_there))) ∙ given in
            ap (λ (q : RankContributions). slice_get q.contributions round) now ∙ prefix-of-joined part.contributions (x ∷ []) round (slice_get_within part.contributions round d was) ∙ was)
            (λ here apart. ap (λ (q : RankContributions). slice_get q.contributions round) (contributions-other old c.rank rank (λ (q : RankContributions). record q { contributions = q.contributions ++ x ∷ [] }) (fixed_by old.members x.args.coll) apart) ∙ given);
        members = λ mask has. fixed-stays old.members x.args.coll mask has;
      };
      joins = λ rank. by-rank {P = length (contributions_of (with_joined old c.rank x) rank).contributions ≡ length (contributions_of old rank).contributions + joins-once (is_join_on rank id (Joined c k args))} c.rank rank
          (λ here mine.
          let now = subst (λ (r : ℕ). contributions_of (with_joined old c.rank x) r ≡ record part { contributions = part.contributions ++ x ∷ [] }) mine (contributions-changed old c.rank part (λ (q : RankContributions). record q { contributions = q.contributions ++ x ∷ [] }) (fixed_by old.members x.args.coll) part_there) in
          let was = subst (λ (r : ℕ). contributions_of old r ≡ part) mine (contributions-there old c.rank part part_there) in
          rw (now, was, here, is) (more part.contributions x))
          (λ here apart. rw (contributions-other old c.rank rank (λ (q : RankContributions). record q { contributions = q.contributions ++ x ∷ [] }) (fixed_by old.members x.args.coll) apart, here) (omega arith));
      completes = λ rank. by-rank {P = (contributions_of (with_joined old c.rank x) rank).completed ≡ (contributions_of old rank).completed + 0} c.rank rank
          (λ here mine.
          let now = subst (λ (r : ℕ). contributions_of (with_joined old c.rank x) r ≡ record part { contributions = part.contributions ++ x ∷ [] }) mine (contributions-changed old c.rank part (λ (q : RankContributions). record q { contributions = q.contributions ++ x ∷ [] }) (fixed_by old.members x.args.coll) part_there) in
          let was = subst (λ (r : ℕ). contributions_of old r ≡ part) mine (contributions-there old c.rank part part_there) in
          rw (now, was) (omega arith))
          (λ here apart. rw (contributions-other old c.rank rank (λ (q : RankContributions). record q { contributions = q.contributions ++ x ∷ [] }) (fixed_by old.members x.args.coll) apart) (omega arith));
    }

step-rounds : (s t : State) (e : Event) (id : ℕ) (g : Group) → IsSound s → step s e ≡ Ok t → slice_get s.groups id ≡ Some g → HasRoundsAfter t e id g
step-rounds s t (Joined c k args) id g sound h at = joined-rounds s t c k args id g sound h at
step-rounds s t (Take origin queue target number outcome) id g sound h at =
    same-rounds s t (Take origin queue target number outcome) id g (ap (λ (x : State). x.groups) (step-take s t origin queue target number outcome h).4.leaves) at (λ rank. refl) (λ rank. refl)
step-rounds s t (Put origin queue target number outcome) id g sound h at =
    same-rounds s t (Put origin queue target number outcome) id g (ap (λ (x : State). x.groups) (step-put s t origin queue target number outcome h).4.leaves) at (λ rank. refl) (λ rank. refl)
step-rounds s t (Called c call reply) id g sound h at = by-group (row_of call).group refl (is_idle reply) refl
  where
    by-group : (o : Option ℕ) → (row_of call).group ≡ o → (b : Bool) → is_idle reply ≡ b → HasRoundsAfter t (Called c call reply) id g
    by-group None plain b idle =
        same-rounds s t (Called c call reply) id g (ap (λ (x : State). x.groups) (step-called s t c call reply plain h).3.leaves) at (λ rank. refl) (λ rank. rw plain (ap (λ (b : Bool). b && not (is_idle reply)) (and-false (c.rank == rank)) ∙ false-and (not (is_idle reply))))
    by-group (Some k) named true idle =
        same-rounds s t (Called c call reply) id g (ap (λ (x : State). x.groups) (only-counted s t c call reply idle h).after) at (λ rank. refl)
        (λ rank. rw (named, idle) (and-false ((c.rank == rank) && (k == id))))
    by-group (Some k) named false awake = done-rounds s t c k call reply id g named awake sound h at

pub group-grows : (s t : State) (e : Event) (id : ℕ) (g : Group) → IsSound s → step s e ≡ Ok t → slice_get s.groups id ≡ Some g → (g' : Group) × (slice_get t.groups id ≡ Some g') × Grows g g'
group-grows s t e id g sound h at = let grown = step-rounds s t e id g sound h at in (grown.0, grown.1, grown.2.grows)

-- the same of events one after another
record RoundsGrowBy (events : List Event) (id : ℕ) (g g' : Group) : Type 0 where
  grows : Grows g g'
  joins : (rank : ℕ) → length (contributions_of g' rank).contributions ≡ length (contributions_of g rank).contributions + joins_on rank id events
  completes : (rank : ℕ) → (contributions_of g' rank).completed ≡ (contributions_of g rank).completed + completions_on rank id events

grows-on : (g g' g'' : Group) → Grows g g' → Grows g' g'' → Grows g g''
grows-on g g' g'' one two = record { given = λ round rank c given. two.given round rank c (one.given round rank c given); members = λ mask is. two.members mask (one.members mask is) }

all-rounds : (s t : State) (events : List Event) (id : ℕ) (g : Group) → IsSound s → after s events ≡ Ok t → slice_get s.groups id ≡ Some g → (g' : Group) × (slice_get t.groups id ≡ Some g') × RoundsGrowBy events id g g'
unfolding joins-once
all-rounds s t [] id g sound h at =
    let same : s ≡ t = cc in (
      g,
      subst (λ (x : State). slice_get x.groups id ≡ Some g) same at,
      record {
        grows = record { given = λ round rank c given. given; members = λ mask is. is };
        joins = λ rank. (omega arith);
        completes = λ rank. (omega arith);
      },
    )
all-rounds s t (e ∷ events) id g sound h at =
    let first = after-first s t e events h in
    let one = step-rounds s first.0 e id g sound first.1 at in
    let rest = all-rounds first.0 t events id one.0 (steps s first.0 e sound first.1) first.2 one.1 in (
      rest.0,
      rest.1,
      record {
        grows = grows-on g one.0 rest.0 one.2.grows rest.2.grows;
        joins = λ rank. (let a = one.2.joins rank in let b = rest.2.joins rank in let sum = sum_by-cons (λ (x : Event). cond (is_join_on rank id x) 1 0) e events in omega arith);
        completes = λ rank. (let a = one.2.completes rank in let b = rest.2.completes rank in let sum = sum_by-cons (λ (x : Event). cond (is_completion_on rank id x) 1 0) e events in omega arith);
      },
    )

abbrev typed : NumType → List ℤ → TypedNumbers
typed t items = record { num_type = t; items = items }

after-sound : (s t : State) (events : List Event) → IsSound s → after s events ≡ Ok t → IsSound t
after-sound s t [] sound h = let same : s ≡ t = cc in rw (sym same) sound
after-sound s t (e ∷ events) sound h = let first = after-first s t e events h in after-sound first.0 t events (steps s first.0 e sound first.1) first.2

-- In every legal history a rank has joined a group once for each collective that it has completed, and once more where one is pending.
opening-there : (w : ShapeValue) (id : ℕ) → id < 8 → slice_get (opening w).groups id ≡ Some (opening_group w.limits.ranks id)
opening-there w zero less = refl
opening-there w (suc zero) less = refl
opening-there w (suc (suc zero)) less = refl
opening-there w (suc (suc (suc zero))) less = refl
opening-there w (suc (suc (suc (suc zero)))) less = refl
opening-there w (suc (suc (suc (suc (suc zero))))) less = refl
opening-there w (suc (suc (suc (suc (suc (suc zero)))))) less = refl
opening-there w (suc (suc (suc (suc (suc (suc (suc zero))))))) less = refl
opening-there w (suc (suc (suc (suc (suc (suc (suc (suc id)))))))) less = absurd (omega arith)

record Counted (w : ShapeValue) (history : List Event) (s : State) (id : ℕ) : Type 0 where
  group : Group
  there : slice_get s.groups id ≡ Some group
  joins : (rank : ℕ) → length (contributions_of group rank).contributions ≡ joins_on rank id history
  completes : (rank : ℕ) → (contributions_of group rank).completed ≡ completions_on rank id history

counted : (w : ShapeValue) (history : List Event) (s : State) (id : ℕ) → IsShape w → reached w history ≡ Ok s → id < 8 → Counted w history s id
counted w history s id world h less =
    let start = opening_group w.limits.ranks id in
    let all = all-rounds (opening w) s history id start (opens w world) h (opening-there w id less) in
    record {
      group = all.0;
      there = all.1;
      joins = λ rank. (let is = all.2.joins rank in let none = ap (λ (p : RankContributions). length p.contributions) (opening-contributions w.limits.ranks id rank) in omega arith);
      completes = λ rank. (let is = all.2.completes rank in let none = ap (λ (p : RankContributions). p.completed) (opening-contributions w.limits.ranks id rank) in omega arith);
    }

pub joins-counted : (w : ShapeValue) (history : List Event) (s : State) (rank id : ℕ) (posts : Posts) → IsShape w → reached w history ≡ Ok s → slice_get s.posts rank ≡ Some posts → id < 8
    → joins_on rank id history ≡ completions_on rank id history + pending_count (item_at posts.pending id)
joins-counted w history s rank id posts world h hp less =
    let sound = reached-sound w history s world h in
    let count = counted w history s id world h less in
    let part = (sound.collectives.parts id count.group rank posts count.there hp).count in
    let joins = count.joins rank in
    let completes = count.completes rank in
    omega arith

pub rounds-counted : (w : ShapeValue) (history : List Event) (s : State) (rank id : ℕ) (g : Group) → IsShape w → reached w history ≡ Ok s → slice_get s.groups id ≡ Some g
    → (round_of g rank ≡ completions_on rank id history) × (length (contributions_of g rank).contributions ≡ joins_on rank id history)
rounds-counted w history s rank id g world h at =
    let eight = (reached-sound w history s world h).collectives.eight in
    let within = slice_get_within s.groups id g at in
    let count = counted w history s id world h (omega arith) in
    let same : count.group ≡ g = (let some : ◌≡◌ {A = Option Group} (Some count.group) (Some g) = sym count.there ∙ at in cc) in (
      subst (λ (x : Group). (contributions_of x rank).completed ≡ completions_on rank id history) same (count.completes rank),
      subst (λ (x : Group). length (contributions_of x rank).contributions ≡ joins_on rank id history) same (count.joins rank),
    )

pub rounds-agree : (w : ShapeValue) (history : List Event) (s : State) (id round rank other : ℕ) (g : Group) (c d : Contribution) → IsShape w → reached w history ≡ Ok s → slice_get s.groups id ≡ Some g
    → contribution_in g round rank ≡ Some c → contribution_in g round other ≡ Some d → c.args.coll ≡ d.args.coll
rounds-agree w history s id round rank other g c d world h at given given' =
    ((reached-sound w history s world h).collectives.groups id g at).agree round rank other c d given given'

-- What a full round says of each member.
and-second : (a b : Bool) → (a && b) ≡ true → b ≡ true
and-second true b h = h
and-second false b h = absurd (let no : ⊥ = cc in no)

pub all-contributed : (p : ℕ → Bool) (xs : List ℕ) (k m : ℕ) (test : ℕ → Bool) → slice_get xs k ≡ Some m → p m ≡ true → list_all test (filter p xs) ≡ true → test m ≡ true
all-contributed p [] k m test at passes all = absurd (let no : ⊥ = cc in no)
all-contributed p (x ∷ xs) zero m test at passes all =
    let same : x ≡ m = cc in
    let px : p x ≡ true = subst (λ (n : ℕ). p n ≡ true) (sym same) passes in
    let all' : list_all test (x ∷ filter p xs) ≡ true = rw px at all in
    subst (λ (n : ℕ). test n ≡ true) same (each-passes test (x ∷ filter p xs) 0 x all' refl)
all-contributed p (x ∷ xs) (suc k) m test at passes all = by-first (p x) refl (λ rest. all-contributed p xs k m test at passes rest)
  where
    by-first : (b : Bool) → p x ≡ b → (list_all test (filter p xs) ≡ true → test m ≡ true) → test m ≡ true
    by-first false is rest = rest (rw is at all)
    by-first true is rest =
        let all' : list_all test (x ∷ filter p xs) ≡ true = rw is at all in
        rest (and-second (test x) (list_all test (filter p xs)) all')

pub member-contributed : (g : Group) (me rank : ℕ) → is_round_full g me ≡ true → IsOneOf g.members rank → rank < 16 → (c : Contribution) × (contribution_in g (round_of g me) rank ≡ Some c)
member-contributed g me rank full one less = go (contribution_in g (round_of g me) rank) refl
  where
    full-of : list_all (λ m. is_some (contribution_in g (round_of g me) m)) (members_of one.mask) ≡ true
    full-of = rw one.fixed at full

    go : (o : Option Contribution) → contribution_in g (round_of g me) rank ≡ o → (c : Contribution) × (contribution_in g (round_of g me) rank ≡ Some c)
    go (Some c) at = (c, at)
    go None at =
        let some = all-contributed (is_member one.mask) (range_with_len 0 16) rank rank (λ m. is_some (contribution_in g (round_of g me) m)) (in-range 0 16 rank less ∙ ap (λ (n : ℕ). Some n) (let same : 0 + rank ≡ rank = omega arith in same)) one.member full-of in
        absurd (let none : is_some {T = Contribution} None ≡ true = subst (λ (o : Option Contribution). is_some o ≡ true) at some in let no : ⊥ = cc in no)

-- What a collective that is done changes, by its call.
done-changes : (s t : State) (c : CallerId) (id : ℕ) (call : Call) (reply : Reply) (change : Group → Posts → Posts) → (row_of call).group ≡ Some id → is_idle reply ≡ false → ((g : Group) (posts : Posts) → posts_at_completion g c.rank id call posts ≡ change g posts)
    → IsSound s → step s (Called c call reply) ≡ Ok t → IsCompletionDone s t c id call change
done-changes s t c id call reply change named awake is sound h =
    let made = done-step s t c id call reply named awake sound h in
    let m = made.5 in
    record {
      pends = record {
        posts = made.0;
        group = made.1;
        pending = made.4;
        posts_there = m.posts_there;
        group_there = m.there.there;
        pending_there = m.done.resumed.there;
        mine = m.done.resumed.mine;
        same = join-call made.3.members id call made.4.args m.done.resumed.same named;
      };
      running = is-running made.0 c.thread m.done.running;
      full = λ rank less one. member-contributed made.1 c.rank rank m.done.full one (let few = ranks-few s.limits sound.limits in omega arith);
      after = m.leaves ∙ ap (λ (p : Posts). record s { posts = slice_set s.posts c.rank (posting.counted (with_pending id None p)); groups = slice_set s.groups id (with_completed made.1 c.rank) }) (is made.1 made.0);
    }

pub commit-done : (s t : State) (c : CallerId) (call : commit.Commit) → IsSound s → step s (Called c (calls.Commit call) replies.Done) ≡ Ok t → IsCommitDone s t c call.group
unfolding done-changes
commit-done s t c call sound h =
    let made = done-step s t c call.group (calls.Commit call) replies.Done refl refl sound h in
    let m = made.5 in
    let built = built-there made.0.groups c.rank call.group made.3 m.done.staged in
    let done = done-changes s t c call.group (calls.Commit call) replies.Done (λ g posts. record posts { groups = with_committed posts.groups call.group }) refl refl (λ g posts. refl) sound h in
    record {
      old = made.3;
      done = record {
        pends = done.pends;
        running = done.running;
        full = done.full;
        after = done.after ∙ ap (λ (o : Option Handle). record s {
          posts = slice_set s.posts c.rank (posting.counted (with_pending call.group None (record made.0 { groups = record made.0.groups { table = slice_set made.0.groups.table call.group (option_map (λ (h : Handle). record h { stage = Committed }) o) } })));
          groups = slice_set s.groups call.group (with_completed made.1 c.rank);
        }) built.there;
      };
      old_there = built.there;
      building = built.building;
      fixed = commit-fixed s made.0 made.1 made.2 c.rank c.thread call.group call (calls.Commit call) replies.Done made.3 made.4 sound m.posts_there m.there refl m.done;
    }

pub barrier-done : (s t : State) (c : CallerId) (call : barrier.Barrier) → IsSound s → step s (Called c (calls.Barrier call) replies.Done) ≡ Ok t
    → IsCompletionDone s t c call.group (calls.Barrier call) (λ g posts. posts)
barrier-done s t c call sound h = done-changes s t c call.group (calls.Barrier call) replies.Done (λ g posts. posts) refl refl (λ g posts. refl) sound h

pub create-done : (s t : State) (c : CallerId) (call : create.Create) → IsSound s → step s (Called c (calls.Create call) replies.Done) ≡ Ok t
    → IsCompletionDone s t c call.group (calls.Create call) (λ g posts. with_made_known call.seg call.size (round_segments g c.rank) posts)
create-done s t c call sound h =
    done-changes s t c call.group (calls.Create call) replies.Done (λ g posts. with_made_known call.seg call.size (round_segments g c.rank) posts) refl refl (λ g posts. refl) sound h

pub allreduce-done : (s t : State) (c : CallerId) (call : allreduce.Allreduce) (answer : TypedNumbers) → IsSound s → step s (Called c (calls.Allreduce call) (replies.List answer)) ≡ Ok t
    → IsCompletionDone s t c call.group (calls.Allreduce call) (λ g posts. posts)
allreduce-done s t c call answer sound h = done-changes s t c call.group (calls.Allreduce call) (replies.List answer) (λ g posts. posts) refl refl (λ g posts. refl) sound h

-- with which reply
pub replied : (g : Group) (me : ℕ) (call : Call) → IsReplyFor call (full_reply g me call)
replied g me (calls.Allreduce x) = (round_reduction g me x.op x.values.num_type, refl)
replied g me call = refl

pub done-answers : (s t : State) (c : CallerId) (id : ℕ) (call : Call) (reply : Reply) → IsSound s → (row_of call).group ≡ Some id → is_idle reply ≡ false → step s (Called c call reply) ≡ Ok t → IsReplyFor call reply
done-answers s t c id call reply sound named awake h =
    let made = done-step s t c id call reply named awake sound h in
    subst (IsReplyFor call) (sym made.5.done.answers) (replied made.1 c.rank call)

-- An allreduce that is done.
same-list : (a b : TypedNumbers) → replies.List a ≡ replies.List b → a ≡ b
same-list a b h = cc

pub allreduce-reduces : (s t : State) (c : CallerId) (call : allreduce.Allreduce) (answer : TypedNumbers) → IsSound s → step s (Called c (calls.Allreduce call) (replies.List answer)) ≡ Ok t → IsReduction s c call answer
allreduce-reduces s t c call answer sound h =
    let made = done-step s t c call.group (calls.Allreduce call) (replies.List answer) refl refl sound h in
    let m = made.5 in
    let part = sound.collectives.parts call.group made.1 c.rank made.0 m.there.there m.posts_there in
    let last = part.last made.4 m.done.resumed.there in
    record {
      group = made.1;
      own = last.0;
      group_there = m.there.there;
      answers = same-list answer (round_reduction made.1 c.rank call.op call.values.num_type) m.done.answers;
      given = last.1;
      values = last.2 ∙ own-args made.3 made.4 m.done.resumed.same;
    }
  where
    own-args : (h : Handle) (p : PendingCollective) → args_of h.members (calls.Allreduce call) ≡ Some p.args → p.args ≡ record { coll = colls.Allreduce call.op call.values.num_type (length call.values.items); values = call.values }
    own-args h p is = (let same : ◌≡◌ {A = Args} (record { coll = colls.Allreduce call.op call.values.num_type (length call.values.items); values = call.values }) p.args = cc in sym same)

-- folds of the same contributions are the same
reduces-alike : (given given' : ℕ → Option Contribution) (op : Op) (t : NumType) (xs : List ℕ) (total : List ℤ) → ((k m : ℕ) → slice_get xs k ≡ Some m → given m ≡ given' m) → reduced_onto given op t total xs ≡ reduced_onto given' op t total xs
reduces-alike given given' op t [] total alike = refl
reduces-alike given given' op t (m ∷ xs) total alike =
    ap (λ (o : Option Contribution). reduced_onto given op t (combined op t total (values_in o)) xs) (alike 0 m refl)
    ∙ reduces-alike given given' op t xs (combined op t total (values_in (given' m))) (λ k x at. alike (suc k) x at)

reductions-alike : (given given' : ℕ → Option Contribution) (op : Op) (t : NumType) (xs : List ℕ) → ((k m : ℕ) → slice_get xs k ≡ Some m → given m ≡ given' m) → reduced_values given op t xs ≡ reduced_values given' op t xs
reductions-alike given given' op t [] alike = refl
reductions-alike given given' op t (m ∷ xs) alike =
    ap (λ (o : Option Contribution). reduced_onto given op t (values_in o) xs) (alike 0 m refl) ∙ reduces-alike given given' op t xs (values_in (given' m)) (λ k x at. alike (suc k) x at)

-- an item of a full round
full-at : (given : ℕ → Option Contribution) (xs : List ℕ) (k m : ℕ) → list_all (λ n. is_some (given n)) xs ≡ true → slice_get xs k ≡ Some m → (c : Contribution) × (given m ≡ Some c)
full-at given xs k m full at = go (given m) refl
  where
    go : (o : Option Contribution) → given m ≡ o → (c : Contribution) × (given m ≡ Some c)
    go (Some c) is = (c, is)
    go None is = absurd (let some = each-passes (λ n. is_some (given n)) xs k m full at in let none : is_some {T = Contribution} None ≡ true = subst (λ (o : Option Contribution). is_some o ≡ true) is some in let no : ⊥ = cc in no)

-- Two members that complete the same round of a group get the same list.
pub same-reduction : (s t u v : State) (between : List Event) (c d : CallerId) (a b : allreduce.Allreduce) (x y : TypedNumbers) (g k : Group) → IsSound s → step s (Called c (calls.Allreduce a) (replies.List x)) ≡ Ok t → after t between ≡ Ok u
    → step u (Called d (calls.Allreduce b) (replies.List y)) ≡ Ok v → a.group ≡ b.group → slice_get s.groups a.group ≡ Some g → slice_get u.groups b.group ≡ Some k → round_of g c.rank ≡ round_of k d.rank → x ≡ y
same-reduction s t u v between c d a b x y g k sound h later h' same_group at at' rounds =
    let sound_t = steps s t (Called c (calls.Allreduce a) (replies.List x)) sound h in
    let sound_u = after-sound t u between sound_t later in
    let one = done-step s t c a.group (calls.Allreduce a) (replies.List x) refl refl sound h in
    let two = done-step u v d b.group (calls.Allreduce b) (replies.List y) refl refl sound_u h' in
    let fold = allreduce-reduces s t c a x sound h in
    let fold' = allreduce-reduces u v d b y sound_u h' in
    let g_is : fold.group ≡ g = (let some : ◌≡◌ {A = Option Group} (Some fold.group) (Some g) = sym fold.group_there ∙ at in cc) in
    let k_is : fold'.group ≡ k = (let some : ◌≡◌ {A = Option Group} (Some fold'.group) (Some k) = sym fold'.group_there ∙ at' in cc) in
    let g_one : one.1 ≡ g = (let some : ◌≡◌ {A = Option Group} (Some one.1) (Some g) = sym one.5.there.there ∙ at in cc) in
    let full : is_round_full g c.rank ≡ true = subst (λ (z : Group). is_round_full z c.rank ≡ true) g_one one.5.done.full in
    let first = step-rounds s t (Called c (calls.Allreduce a) (replies.List x)) a.group g sound h at in
    let rest = all-rounds t u between a.group first.0 sound_t later first.1 in
    let last_is : rest.0 ≡ k = (let some : ◌≡◌ {A = Option Group} (Some rest.0) (Some k) = sym rest.1 ∙ subst (λ (n : ℕ). slice_get u.groups n ≡ Some k) (sym same_group) at' in cc) in
    let grows : Grows g k = subst (λ (z : Group). Grows g z) last_is (grows-on g first.0 rest.0 first.2.grows rest.2.grows) in
    let mine : contribution_in g (round_of g c.rank) c.rank ≡ Some fold.own = subst (λ (z : Group). contribution_in z (round_of z c.rank) c.rank ≡ Some fold.own) g_is fold.given in
    let theirs : contribution_in k (round_of k d.rank) d.rank ≡ Some fold'.own = subst (λ (z : Group). contribution_in z (round_of z d.rank) d.rank ≡ Some fold'.own) k_is fold'.given in
    let mine' : contribution_in k (round_of k d.rank) c.rank ≡ Some fold.own = subst (λ (n : ℕ). contribution_in k n c.rank ≡ Some fold.own) rounds (grows.given (round_of g c.rank) c.rank fold.own mine) in
    let colls_same = (sound_u.collectives.groups b.group k at').agree (round_of k d.rank) c.rank d.rank fold.own fold'.own mine' theirs in
    let coll : colls.Allreduce a.op a.values.num_type (length a.values.items) ≡ colls.Allreduce b.op b.values.num_type (length b.values.items) =
    ap (λ (z : Args). z.coll) (sym fold.values) ∙ colls_same ∙ ap (λ (z : Args). z.coll) fold'.values in
    let ops : a.op ≡ b.op = cc in
    let types : a.values.num_type ≡ b.values.num_type = cc in
    let one_of = (sound.collectives.groups a.group g at).members (round_of g c.rank) c.rank fold.own mine in
    let members : members_in g ≡ members_in k = rw (one_of.fixed, grows.members one_of.mask one_of.fixed) refl in
    let alike = reductions-alike (contribution_in g (round_of g c.rank)) (contribution_in k (round_of k d.rank)) a.op a.values.num_type (members_in g) (λ n m here.
    let there = full-at (contribution_in g (round_of g c.rank)) (members_in g) n m full here in
    there.1 ∙ sym (subst (λ (z : ℕ). contribution_in k z m ≡ Some there.0) rounds (grows.given (round_of g c.rank) m there.0 there.1))) in
    fold.answers
    ∙ ap (λ (z : Group). round_reduction z c.rank a.op a.values.num_type) g_is
    ∙ ap (λ (items : List ℤ). typed a.values.num_type items) alike
    ∙ ap (λ (z : List ℕ). typed a.values.num_type (reduced_values (contribution_in k (round_of k d.rank)) a.op a.values.num_type z)) members
    ∙ ap (λ (o : Op). typed a.values.num_type (reduced_values (contribution_in k (round_of k d.rank)) o a.values.num_type (members_in k))) ops
    ∙ ap (λ (z : NumType). typed z (reduced_values (contribution_in k (round_of k d.rank)) b.op z (members_in k))) types
    ∙ ap (λ (z : Group). round_reduction z d.rank b.op b.values.num_type) (sym k_is)
    ∙ sym fold'.answers

-- A barrier that is done was joined by every member more often than its caller had completed collectives of the group.
pub barrier-joined : (w : ShapeValue) (history : List Event) (s t : State) (c : CallerId) (call : barrier.Barrier) (g : Group) (rank : ℕ) → IsShape w → reached w history ≡ Ok s → step s (Called c (calls.Barrier call) replies.Done) ≡ Ok t
    → slice_get s.groups call.group ≡ Some g → rank < s.limits.ranks → IsOneOf g.members rank → completions_on c.rank call.group history < joins_on rank call.group history
barrier-joined w history s t c call g rank world h made at less one =
    let sound = reached-sound w history s world h in
    let done = barrier-done s t c call sound made in
    let step = done-step s t c call.group (calls.Barrier call) replies.Done refl refl sound made in
    let count = counted w history s call.group world h step.5.there.within in
    let same : done.pends.group ≡ g = (let some : ◌≡◌ {A = Option Group} (Some done.pends.group) (Some g) = sym done.pends.group_there ∙ at in cc) in
    let same' : count.group ≡ g = (let some : ◌≡◌ {A = Option Group} (Some count.group) (Some g) = sym count.there ∙ at in cc) in
    let given = done.full rank less (subst (λ (z : Group). IsOneOf z.members rank) (sym same) one) in
    let given' : contribution_in g (round_of g c.rank) rank ≡ Some given.0 = subst (λ (z : Group). contribution_in z (round_of z c.rank) rank ≡ Some given.0) same given.1 in
    let within = slice_get_within (contributions_of g rank).contributions (round_of g c.rank) given.0 given' in
    let joins : length (contributions_of g rank).contributions ≡ joins_on rank call.group history = subst (λ (z : Group). length (contributions_of z rank).contributions ≡ joins_on rank call.group history) same' (count.joins rank) in
    let completes : (contributions_of g c.rank).completed ≡ completions_on c.rank call.group history = subst (λ (z : Group). (contributions_of z c.rank).completed ≡ completions_on c.rank call.group history) same' (count.completes c.rank) in
    omega arith
