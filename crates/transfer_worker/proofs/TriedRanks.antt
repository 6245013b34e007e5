-- What a round of tries comes to, try by try.
use Rattle.std.proofs.Common.{◌≡◌, ◌≢◌, ◌==◌, nat_le, ℕ, ◌+◌, ◌*◌, ◌-◌, ◌%◌, ◌<◌, ◌≤◌, Bool, true, false, List, [], ◌∷◌, ◌++◌, length, length-append, Option, None, Ok, refl, sym, ap, ◌∙◌, subst, arith, ◌⊎◌, inl, inr}
use Rattle.std.specs.Prelude.{◌↔◌}
use Rattle.std.proofs.lemmas.List.{append_assoc, append-nil}
use Rattle.std.proofs.lemmas.Bool.{eqb-true, eqb-false, leb-true, leb-false}
use Rattle.std.proofs.lemmas.Nat.{mod-mul-add}
use Rattle.std.proofs.Math.Nat.{mod-eq_of_lt}
use mathlib.Core.List.{IsPrefix}
use Rattle.gaspi_types.specs.World.{ShapeValue, IsShape}
use Rattle.gaspi_types.specs.declared.events.Event.{Event}
use Rattle.gaspi_types.specs.declared.events.Event.TheVariants.{Called, Joined, Take, Put}
use Rattle.gaspi_model.specs.State.{opening}
use Rattle.gaspi_model.specs.Step.{after, reached, is_legal}
use Rattle.gaspi_model.specs.declared.states.State.{State}
use Rattle.gaspi_model.proofs.Histories.{after-both, after-limits, leads, reached-sound}
use Rattle.commit_table.specs.Attempts.{IsLookedOnly}
use Rattle.commit_table.specs.Calls.{HoldsNone, PassValue}
use Rattle.commit_table.specs.Views.{mine_after}
use Rattle.commit_table.specs.declared.views.PassView.{PassView}
use Rattle.gaspi_world.specs.Transfers.{is_transfer_of, HasNoEnabledTransfer, HasActive, HaveEnded, IsBusyMove, Transfers, MovesOn}
use Rattle.gaspi_world.specs.WorldMachine.{world_machine}
use Rattle.gaspi_model.specs.Parties.{party_of}
use Rattle.gaspi_world.specs.declared.moving.Moving.{Moving}
use Rattle.gaspi_world.specs.declared.moving.Moving.TheVariants as moves
use Rattle.transfer_worker.specs.Order.{HaveTried, MakesTurn}
use Rattle.transfer_worker.specs.QuietRanks.{IsKnown, KnowsStill}
use Rattle.transfer_worker.specs.StillRanks.{IsStill}
use Rattle.transfer_worker.specs.Turns.{with_try, IsExtended, IsDrained, IsTransferMade, HasMissed, HasNoTransferSeen, IsActive, IsEnded, AreRanksTried, Turned}
use Rattle.transfer_worker.specs.declared.turns.Turn.{Turn}
use Rattle.transfer_worker.specs.declared.turns.Turn.TheVariants.{Moved, Busy, Idle, Drained}
use Rattle.transfer_worker.proofs.InOrder.{tried-next, turn-ends}
use Rattle.transfer_worker.proofs.StillRanks.{stays-stopped, all-stopped}

-- Beginnings of lists.

same-prefix : {A : Type 0} (xs ys : List A) → ys ≡ xs → IsPrefix xs ys
same-prefix xs ys same = ([], append-nil xs ∙ sym same)

more-prefix : {A : Type 0} (xs ys more : List A) → ys ≡ xs ++ more → IsPrefix xs ys
more-prefix xs ys more is = (more, sym is)

prefix-then : {A : Type 0} (xs ys zs : List A) → IsPrefix xs ys → IsPrefix ys zs → IsPrefix xs zs
prefix-then {A} xs ys zs p q = (p.0 ++ q.0, sym (append_assoc xs p.0 q.0) ∙ (ap (λ (start : List A). start ++ q.0) p.1 ∙ q.1))

pub goes-then : {S E : Type 0} (u v n : PassView S E) → IsExtended u v → IsExtended v n → IsExtended u n
goes-then u v n p q = record {
  seen = prefix-then u.seen v.seen n.seen p.seen q.seen;
  commits = prefix-then u.commits v.commits n.commits p.commits q.commits;
  looks = prefix-then u.looks v.looks n.looks p.looks q.looks;
  missed = prefix-then u.missed v.missed n.missed p.missed q.missed;
  mine = q.mine ∙ p.mine;
  party = q.party ∙ p.party;
  start = q.start ∙ p.start;
}

pub goes-same : {S E : Type 0} (v : PassView S E) → IsExtended v v
goes-same v = record {
  seen = same-prefix v.seen v.seen refl;
  commits = same-prefix v.commits v.commits refl;
  looks = same-prefix v.looks v.looks refl;
  missed = same-prefix v.missed v.missed refl;
  mine = refl;
  party = refl;
  start = refl;
}

-- Ranks that were tried, from one rank on.

abbrev pub Was : ℕ → ℕ → ℕ → ℕ → Type 0
Was first ranks tries rank = (k : ℕ) × (k < tries) × (rank ≡ (first + k) % ranks)

was-more : (first ranks tries rank : ℕ) → Was first ranks (tries + 1) rank → Was first ranks tries rank ⊎ (rank ≡ (first + tries) % ranks)
was-more first ranks tries rank (k, less, is) = go (k == tries) refl
  where
    go : (b : Bool) → (k == tries) ≡ b → Was first ranks tries rank ⊎ (rank ≡ (first + tries) % ranks)
    go true same = inr (is ∙ ap (λ (n : ℕ). (first + n) % ranks) (eqb-true k tries same))
    go false apart = inl (k, (let other = eqb-false k tries in let never : k ≢ tries = (λ e. other apart e) in omega arith), is)

was-kept : (first ranks tries rank : ℕ) → Was first ranks tries rank → Was first ranks (tries + 1) rank
was-kept first ranks tries rank (k, less, is) = (k, omega arith, is)

was-all : (first ranks rank : ℕ) → first < ranks → rank < ranks → Was first ranks ranks rank
was-all first ranks rank at less = go (nat_le first rank) refl
  where
    go : (b : Bool) → nat_le first rank ≡ b → Was first ranks ranks rank
    go true le =
        let behind : first ≤ rank = leb-true first rank le in
        (rank - first, omega arith, (let is : first + (rank - first) ≡ rank = omega arith in sym (ap (λ (n : ℕ). n % ranks) is ∙ mod-eq_of_lt less)))
    go false le =
        let before : rank < first = leb-false first rank le in
        (rank + ranks - first, omega arith, (let is : first + (rank + ranks - first) ≡ 1 * ranks + rank = omega arith in sym (ap (λ (n : ℕ). n % ranks) is ∙ mod-mul-add 1 ranks rank less)))

was-rank : (first ranks rank : ℕ) → first < ranks → Was first ranks ranks rank → rank < ranks
was-rank first ranks rank at (k, less, is) = omega arith

-- a transfer is of no party
no-party : (w : ShapeValue) (origin : ℕ) (e : Event) → is_transfer_of origin e ≡ true → party_of w e ≡ None
no-party w origin (Called c call reply) is = absurd (let no : ⊥ = cc in no)
no-party w origin (Joined c id args) is = absurd (let no : ⊥ = cc in no)
no-party w origin (Take o queue target number outcome) is = refl
no-party w origin (Put o queue target number outcome) is = refl

module _ {S : Type 0} (w : ShapeValue) where
  -- what each try leaves
  looked-on : (v n : PassView S Event) → IsLookedOnly (world_machine w) v n → IsExtended v n × (world_machine w).Legal n.seen
  looked-on v n look = (
    record {
      seen = look.goes_on;
      commits = same-prefix v.commits n.commits look.commits;
      looks = more-prefix v.looks n.looks (length n.seen ∷ []) look.looks;
      missed = same-prefix v.missed n.missed look.missed;
      mine = look.mine;
      party = look.party;
      start = look.start;
    },
    look.legal,
  )

  pub moves-on : (origin : ℕ) (v n : PassView S Event) (r : Moving) → Transfers w origin v r n → IsExtended v n × (world_machine w).Legal n.seen
  moves-on origin v n moves.Moved (e, place, is, told) = (
    record {
      seen = prefix-then v.seen told.before n.seen told.goes_on (more-prefix told.before n.seen (e ∷ []) told.seen);
      commits = more-prefix v.commits n.commits (place ∷ []) told.commits;
      looks = more-prefix v.looks n.looks (told.looks.0 ∷ []) told.looks.1;
      missed = same-prefix v.missed n.missed told.missed;
      mine = told.mine ∙ ap (λ (party : Option ℕ). mine_after party v.mine e) (no-party w origin e is);
      party = told.party;
      start = told.start;
    },
    subst (world_machine w).Legal (sym told.seen) told.legal,
  )
  moves-on origin v n moves.Busy (inl told) = (
    record {
      seen = same-prefix v.seen n.seen told.seen;
      commits = same-prefix v.commits n.commits told.commits;
      looks = same-prefix v.looks n.looks told.looks;
      missed = more-prefix v.missed n.missed (told.shard ∷ []) told.missed;
      mine = told.mine;
      party = told.party;
      start = told.start;
    },
    told.legal,
  )
  moves-on origin v n moves.Busy (inr told) = (
    record {
      seen = told.goes_on;
      commits = same-prefix v.commits n.commits told.commits;
      looks = more-prefix v.looks n.looks (length n.seen ∷ []) told.looks;
      missed = more-prefix v.missed n.missed (told.shard ∷ []) told.missed;
      mine = told.mine;
      party = told.party;
      start = told.start;
    },
    told.legal,
  )
  moves-on origin v n moves.Empty told = looked-on v n told.0
  moves-on origin v n moves.Ended told = looked-on v n told.0

  -- and a try that may make several transfers
  pub lane-moves-on : (origin : ℕ) (v n : PassView S Event) (r : Moving) → MovesOn w origin v r n → IsExtended v n
  lane-moves-on origin v n moves.Moved ((moved, some), legal) = record {
    seen = moved.seen;
    commits = more-prefix v.commits n.commits moved.places moved.commits;
    looks = moved.looks;
    missed = moved.missed;
    mine = moved.mine;
    party = moved.party;
    start = moved.start;
  }
  lane-moves-on origin v n moves.Busy told = (moves-on origin v n moves.Busy told).0
  lane-moves-on origin v n moves.Empty told = (moves-on origin v n moves.Empty told).0
  lane-moves-on origin v n moves.Ended told = (moves-on origin v n moves.Ended told).0

  -- what the tries come to, none of which moved
  abbrev pub SoFar : (ℕ → Type 0) → ℕ → PassView S Event → Turn → PassView S Event → Type 0
  SoFar Is tries v Moved n = ⊥
  SoFar Is tries v Busy n = HasMissed w v n
  SoFar Is tries v Idle n = AreRanksTried w Is tries v n × ((rank : ℕ) × Is rank × IsActive w v n rank)
  SoFar Is tries v Drained n = AreRanksTried w Is tries v n × ((rank : ℕ) → Is rank → IsEnded w v n rank)

  none-committed : (Is : ℕ → Type 0) (tries : ℕ) (v n : PassView S Event) (so_far : Turn) → SoFar Is tries v so_far n → n.commits ≡ v.commits
  none-committed Is tries v n Moved is = absurd is
  none-committed Is tries v n Busy is = is.commits
  none-committed Is tries v n Idle is = is.0.commits
  none-committed Is tries v n Drained is = is.0.commits

  pub moved-turned : (Is : ℕ → Type 0) (tries origin : ℕ) (v m n : PassView S Event) (so_far : Turn) → origin < w.limits.ranks → SoFar Is tries v so_far m → IsExtended v m → Transfers w origin m moves.Moved n → IsTransferMade w v n
  moved-turned Is tries origin v m n so_far rank is on (e, place, transfer, told) = record {
    origin = origin;
    rank = rank;
    event = e;
    transfer = transfer;
    before = told.before;
    since = prefix-then v.seen m.seen told.before on.seen told.goes_on;
    seen = told.seen;
    commits = told.commits ∙ (ap (λ (p : ℕ). m.commits ++ p ∷ []) told.place_is ∙ ap (λ (places : List ℕ). places ++ length told.before ∷ []) (none-committed Is tries v m so_far is));
  }

  abbrev still-then : (v m n : PassView S Event) (rank : ℕ) → IsPrefix m.seen n.seen → HasNoTransferSeen w v m rank → HasNoTransferSeen w v n rank
  still-then v m n rank on still = record { history = still.history; since = still.since; until = prefix-then still.history m.seen n.seen still.until on; none = still.none }

  abbrev still-now : (v m n : PassView S Event) (rank : ℕ) → IsExtended v m → IsPrefix m.seen n.seen → HasNoEnabledTransfer w n.seen rank → HasNoTransferSeen w v n rank
  still-now v m n rank on look none = record { history = n.seen; since = prefix-then v.seen m.seen n.seen on.seen look; until = same-prefix n.seen n.seen refl; none = none }

  -- what is known of quiet ranks is known still, and so with the rank of a look
  pub knows-then : (begun m n : PassView S Event) (counts : List (Option ℕ)) → KnowsStill w begun counts m → IsPrefix m.seen n.seen → KnowsStill w begun counts n
  knows-then begun m n counts knows on = record {
    since = prefix-then begun.seen m.seen n.seen knows.since on;
    still = λ rank known. still-then begun m n rank on (knows.still rank known);
  }

  pub knows-more : (begun m n : PassView S Event) (before after : List (Option ℕ)) (origin : ℕ) → KnowsStill w begun before m → IsPrefix m.seen n.seen → HasNoEnabledTransfer w n.seen origin
      → ((other : ℕ) → IsKnown after other → (other ≡ origin) ⊎ IsKnown before other) → KnowsStill w begun after n
  knows-more begun m n before after origin knows on none only = record {
    since = since;
    still = λ rank known. by-rank rank (only rank known);
  }
    where
      since : IsPrefix begun.seen n.seen
      since = prefix-then begun.seen m.seen n.seen knows.since on

      by-rank : (rank : ℕ) → (rank ≡ origin) ⊎ IsKnown before rank → HasNoTransferSeen w begun n rank
      by-rank rank (inl is) = subst (HasNoTransferSeen w begun n) (sym is) (record { history = n.seen; since = since; until = same-prefix n.seen n.seen refl; none = none })
      by-rank rank (inr known) = still-then begun m n rank on (knows.still rank known)

  pub knows-none : (v : PassView S Event) (counts : List (Option ℕ)) → ((rank : ℕ) → ¬ IsKnown counts rank) → KnowsStill w v counts v
  knows-none v counts none = record { since = same-prefix v.seen v.seen refl; still = λ rank known. absurd (none rank known) }

  busy-commits : (origin : ℕ) (m n : PassView S Event) → IsBusyMove w origin m n → n.commits ≡ m.commits
  busy-commits origin m n (inl told) = told.commits
  busy-commits origin m n (inr told) = told.commits

  missed-then : (v m n : PassView S Event) → HasMissed w v m → IsLookedOnly (world_machine w) m n → HasMissed w v n
  missed-then v m n is look = record { commits = look.commits ∙ is.commits; origin = is.origin; rank = is.rank; before = is.before; after = is.after; since = is.since; busy = is.busy; until = goes-then is.after m n is.until (looked-on m n look).0 }

  missed-first : (origin : ℕ) (v m n : PassView S Event) → origin < w.limits.ranks → m.commits ≡ v.commits → IsExtended v m → IsBusyMove w origin m n → HasMissed w v n
  missed-first origin v m n rank commits on told = record { commits = busy-commits origin m n told ∙ commits; origin = origin; rank = rank; before = m; after = n; since = on; busy = told; until = goes-same n }

  missed-again : (origin : ℕ) (v m n : PassView S Event) → HasMissed w v m → IsBusyMove w origin m n → HasMissed w v n
  missed-again origin v m n is told = record { commits = busy-commits origin m n told ∙ is.commits; origin = is.origin; rank = is.rank; before = is.before; after = is.after; since = is.since; busy = is.busy; until = goes-then is.after m n is.until (moves-on origin m n moves.Busy told).0 }

  module _ (first ranks tries origin : ℕ) (place : origin ≡ (first + tries) % ranks) where
    tried-more : (v m n : PassView S Event) → AreRanksTried w (Was first ranks tries) tries v m → IsExtended v m → IsLookedOnly (world_machine w) m n → HasNoEnabledTransfer w n.seen origin → AreRanksTried w (Was first ranks (tries + 1)) (tries + 1) v n
    tried-more v m n is on look none = record {
      commits = look.commits ∙ is.commits;
      missed = look.missed ∙ is.missed;
      looks = (is.looks.0 ++ length n.seen ∷ [], look.looks ∙ (ap (λ (ls : List ℕ). ls ++ length n.seen ∷ []) is.looks.1 ∙ append_assoc v.looks is.looks.0 (length n.seen ∷ [])), (let count = length-append is.looks.0 (length n.seen ∷ []) in let so = is.looks.2 in omega arith));
      still = λ rank was. by-rank rank (was-more first ranks tries rank was);
    }
      where
        by-rank : (rank : ℕ) → Was first ranks tries rank ⊎ (rank ≡ (first + tries) % ranks) → HasNoTransferSeen w v n rank
        by-rank rank (inl was) = still-then v m n rank look.goes_on (is.still rank was)
        by-rank rank (inr last) = subst (HasNoTransferSeen w v n) (place ∙ sym last) (still-now v m n origin on look.goes_on none)

    active-then : (v m n : PassView S Event) → IsPrefix m.seen n.seen → (rank : ℕ) × Was first ranks tries rank × IsActive w v m rank → (rank : ℕ) × Was first ranks (tries + 1) rank × IsActive w v n rank
    active-then v m n on (rank, was, active) = (rank, was-kept first ranks tries rank was, (still-then v m n rank on active.0, active.1))

    active-now : (v m n : PassView S Event) → IsExtended v m → IsPrefix m.seen n.seen → HasNoEnabledTransfer w n.seen origin → HasActive w n.seen origin → (rank : ℕ) × Was first ranks (tries + 1) rank × IsActive w v n rank
    active-now v m n on look none active = (origin, (tries, omega arith, place), (still-now v m n origin on look none, active))

    ended-more : (v m n : PassView S Event) → ((rank : ℕ) → Was first ranks tries rank → IsEnded w v m rank) → IsExtended v m → IsPrefix m.seen n.seen → HasNoEnabledTransfer w n.seen origin → HaveEnded w n.seen origin
        → (rank : ℕ) → Was first ranks (tries + 1) rank → IsEnded w v n rank
    ended-more v m n ended on look none have rank was = by-rank (was-more first ranks tries rank was)
      where
        by-rank : Was first ranks tries rank ⊎ (rank ≡ (first + tries) % ranks) → IsEnded w v n rank
        by-rank (inl was) = (let before = ended rank was in (still-then v m n rank look before.0, before.1))
        by-rank (inr last) = subst (IsEnded w v n) (place ∙ sym last) (still-now v m n origin on look none, have)

    -- one try more
    pub try-more : (v m n : PassView S Event) (so_far : Turn) (moving : Moving) → origin < w.limits.ranks → SoFar (Was first ranks tries) tries v so_far m → IsExtended v m → Transfers w origin m moving n → moving ≢ moves.Moved
        → SoFar (Was first ranks (tries + 1)) (tries + 1) v (with_try so_far moving) n
    try-more v m n so_far moves.Moved rank is on told stays = absurd (stays refl)
    try-more v m n Moved moves.Busy rank is on told stays = absurd is
    try-more v m n Busy moves.Busy rank is on told stays = missed-again origin v m n is told
    try-more v m n Idle moves.Busy rank is on told stays = missed-first origin v m n rank is.0.commits on told
    try-more v m n Drained moves.Busy rank is on told stays = missed-first origin v m n rank is.0.commits on told
    try-more v m n Moved moves.Empty rank is on told stays = absurd is
    try-more v m n Busy moves.Empty rank is on told stays = missed-then v m n is told.0
    try-more v m n Idle moves.Empty rank is on (look, none, active) stays = (tried-more v m n is.0 on look none, active-then v m n look.goes_on is.1)
    try-more v m n Drained moves.Empty rank is on (look, none, active) stays = (tried-more v m n is.0 on look none, active-now v m n on look.goes_on none active)
    try-more v m n Moved moves.Ended rank is on told stays = absurd is
    try-more v m n Busy moves.Ended rank is on told stays = missed-then v m n is told.0
    try-more v m n Idle moves.Ended rank is on (look, none, ended) stays = (tried-more v m n is.0 on look none, active-then v m n look.goes_on is.1)
    try-more v m n Drained moves.Ended rank is on (look, none, ended) stays = (tried-more v m n is.0 on look none, ended-more v m n is.1 on look.goes_on none ended)

  -- no try yet
  pub none-tried : (first ranks : ℕ) (v : PassView S Event) → SoFar (Was first ranks 0) 0 v Drained v
  none-tried first ranks v = (
    record {
      commits = refl;
      missed = refl;
      looks = ([], sym (append-nil v.looks), refl);
      still = λ rank was. absurd (let less = was.1 in omega arith);
    },
    λ rank was. absurd (let less = was.1 in omega arith),
  )

  -- all ranks were tried

  drained-after : (v n : PassView S Event) → IsShape w → is_legal w n.seen ≡ true → ((rank : ℕ) → rank < w.limits.ranks → IsEnded w v n rank) → IsDrained w n.seen
  drained-after v n world legal ended =
      let end = leads (reached w n.seen) legal in
      (end.0, end.1, all-stopped end.0 (reached-sound w n.seen end.0 world end.1) (λ rank less. stopped end.0 end.1 rank (subst (λ (k : ℕ). rank < k) (ap (λ l. l.ranks) (after-limits (opening w) end.0 n.seen end.1)) less)))
    where
      stopped : (s : State) → reached w n.seen ≡ Ok s → (rank : ℕ) → rank < w.limits.ranks → IsStill s rank
      stopped s is rank less =
          let still = ended rank less in
          let parts = after-both (opening w) s still.0.history still.0.until.0 (ap (after (opening w)) still.0.until.1 ∙ is) in
          stays-stopped parts.0 s still.0.until.0 rank parts.2 (record { none = still.0.none parts.0 parts.1; ended = still.1 parts.0 parts.1 })

  all-tried : (first : ℕ) (v n : PassView S Event) → first < w.limits.ranks → AreRanksTried w (Was first w.limits.ranks w.limits.ranks) w.limits.ranks v n → AreRanksTried w (λ rank. rank < w.limits.ranks) w.limits.ranks v n
  all-tried first v n at is = record {
    commits = is.commits;
    missed = is.missed;
    looks = is.looks;
    still = λ rank less. is.still rank (was-all first w.limits.ranks rank at less);
  }

  pub all-turned : (first : ℕ) (v n : PassView S Event) (so_far : Turn) → IsShape w → first < w.limits.ranks → is_legal w n.seen ≡ true → SoFar (Was first w.limits.ranks w.limits.ranks) w.limits.ranks v so_far n → Turned w v so_far n
  all-turned first v n Moved world at legal is = absurd is
  all-turned first v n Busy world at legal is = is
  all-turned first v n Idle world at legal (tried, (rank, was, active)) = (all-tried first v n at tried, (rank, was-rank first w.limits.ranks rank at was, active))
  all-turned first v n Drained world at legal (tried, ended) = (all-tried first v n at tried, drained-after v n world legal (λ rank less. ended rank (was-all first w.limits.ranks rank at less)))

  -- what stands before a try
  pub record IsRound (first ranks tries : ℕ) (old : PassValue S Event) (so_far : Turn) (new : PassValue S Event) : Type 0 where
    pub table : new.table ≡ old.table
    pub free : HoldsNone new.known
    pub goes_on : IsExtended old.known new.known
    pub legal : 0 < tries → is_legal w new.known.seen ≡ true
    pub tried : SoFar (Was first ranks tries) tries old.known so_far new.known
    pub order : HaveTried w first tries old.known so_far new.known

  pub round-begins : (first ranks : ℕ) (old : PassValue S Event) → HoldsNone old.known → IsRound first ranks 0 old Drained old
  round-begins first ranks old free = record { table = refl; free = free; goes_on = goes-same old.known; legal = λ less. absurd (omega arith); tried = none-tried first ranks old.known; order = (refl, refl) }

  pub round-goes : ((history : List Event) → (world_machine w).Legal history ↔ (is_legal w history ≡ true))
      → (first ranks tries origin : ℕ) (old mid new : PassValue S Event) (so_far : Turn) (moving : Moving) → ranks ≡ w.limits.ranks → origin ≡ (first + tries) % ranks → origin < w.limits.ranks → IsRound first ranks tries old so_far mid
      → new.table ≡ mid.table → HoldsNone new.known → Transfers w origin mid.known moving new.known → moving ≢ moves.Moved → IsRound first ranks (tries + 1) old (with_try so_far moving) new
  round-goes law first ranks tries origin old mid new so_far moving all place rank round table free told stays =
      let on = moves-on origin mid.known new.known moving told in
      record {
        table = table ∙ round.table;
        free = free;
        goes_on = goes-then old.known mid.known new.known round.goes_on on.0;
        legal = λ less. (law new.known.seen).0 on.1;
        tried = try-more first ranks tries origin place old.known mid.known new.known so_far moving rank round.tried round.goes_on told stays;
        order = tried-next w first ranks tries origin old.known mid.known new.known so_far moving all place round.order told stays;
      }

  pub round-ends : (first ranks tries : ℕ) (old new : PassValue S Event) (so_far : Turn) → ranks ≡ w.limits.ranks → tries ≡ ranks → IsShape w → first < w.limits.ranks → IsRound first ranks tries old so_far new → Turned w old.known so_far new.known
  round-ends first ranks tries old new so_far is all world at round =
      let whole = subst (λ (n : ℕ). IsRound first n n old so_far new) is (subst (λ (n : ℕ). IsRound first ranks n old so_far new) all round) in
      all-turned first old.known new.known so_far world at (whole.legal (omega arith)) whole.tried

  pub round-in-order : (first ranks tries : ℕ) (old new : PassValue S Event) (so_far : Turn) → ranks ≡ w.limits.ranks → tries ≡ ranks → IsRound first ranks tries old so_far new → MakesTurn w first old.known so_far new.known
  round-in-order first ranks tries old new so_far is all round =
      turn-ends w first old.known new.known so_far (subst (λ (n : ℕ). HaveTried w first n old.known so_far new.known) (all ∙ is) round.order) (never-moved so_far round.tried)
    where
      never-moved : (turn : Turn) → SoFar (Was first ranks tries) tries old.known turn new.known → turn ≢ Moved
      never-moved Moved tried same = tried
      never-moved Busy tried same = absurd (let never : ⊥ = cc in never)
      never-moved Idle tried same = absurd (let never : ⊥ = cc in never)
      never-moved Drained tried same = absurd (let never : ⊥ = cc in never)
