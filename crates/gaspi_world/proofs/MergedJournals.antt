-- The rank journals in a world's shards are its history, cut by owner.
use Rattle.std.proofs.Common.{◌≡◌, ℕ, zero, suc, ◌+◌, ◌-◌, ◌*◌, ◌<◌, ◌≤◌, true, List, [], ◌∷◌, ◌++◌, length, take, drop, append-nil, append_assoc, Some, refl, sym, ap, ◌∙◌, subst, arith, length-append}
use mathlib.Core.Logic.{dite}
use native.Mathlib.Decide.{dec_lt}
use Rattle.std.specs.List.{slice_get}
use Rattle.std.proofs.lemmas.Option.{slice_get_within}
use Rattle.std.proofs.lemmas.Grind.{merely}
use Rattle.gaspi_types.specs.World.{ShapeValue, IsShape}
use Rattle.gaspi_types.specs.declared.events.Event.{Event}
use Rattle.gaspi_types.specs.declared.events.PlacedEvent.{PlacedEvent}
use Rattle.gaspi_types.specs.declared.shapes.Limits.{Limits}
use Rattle.gaspi_types.proofs.Items.{there-within}
use Rattle.gaspi_model.specs.Sound.{IsSound}
use Rattle.gaspi_model.specs.Step.{is_legal, owner_of}
use Rattle.gaspi_model.proofs.Histories.{prefix, reached-sound}
use Rattle.commit_table.specs.Calls.{AreShards}
use Rattle.gaspi_texts.specs.Merges.{cut, joined, AreCutOf, AreRisingFrom}
use Rattle.gaspi_texts.proofs.Cutting.{joined-are-cut, joined-rise, length-joined}
use Rattle.rank_node.specs.Values.{PostsValue}
use Rattle.gaspi_world.specs.Numbering.{by_ranks}
use Rattle.gaspi_world.specs.RankJournals.{journal_of, journal_from, recorded_by}
use Rattle.gaspi_world.specs.ShardLaws.{arrives, limits-are}
use Rattle.gaspi_world.specs.ShardMachine.{IsValueAfter, state_after}
use Rattle.gaspi_world.proofs.JournalLengths.{journal-length, owner-posts}
use Rattle.gaspi_world.specs.Closing.{journals_of, rank_journals}
use Rattle.gaspi_world.specs.Shards.{node_meaning}
use Rattle.gaspi_world.specs.WorldMachine.{world_machine}
use Rattle.gaspi_world.specs.declared.shards.WorldShard.{WorldShard}
use Rattle.gaspi_world.specs.declared.shards.WorldShard.TheVariants as shards
use Rattle.gaspi_world.proofs.TakenShards.{rank-posts, rank-stands}

-- one shard more
pub more-journals : (values : List WorldShard) (x : WorldShard) → rank_journals (values ++ x ∷ []) ≡ rank_journals values ++ journals_of x
more-journals [] x = append-nil (journals_of x)
more-journals (y ∷ values) x = ap (λ (l : List (List PlacedEvent)). journals_of y ++ l) (more-journals values x) ∙ sym (append_assoc (journals_of y) (rank_journals values) (journals_of x))

journals-joined : (values more : List WorldShard) → rank_journals (values ++ more) ≡ rank_journals values ++ rank_journals more
journals-joined [] more = refl
journals-joined (y ∷ values) more = ap (λ (l : List (List PlacedEvent)). journals_of y ++ l) (journals-joined values more) ∙ sym (append_assoc (journals_of y) (rank_journals values) (rank_journals more))

no-more : (values : List WorldShard) → length (rank_journals values) ≤ length values
no-more [] = omega arith
no-more (shards.Rank node ∷ values) = (let rest = no-more values in omega arith)
no-more (shards.Group node ∷ values) = (let rest = no-more values in omega arith)

-- the events of a rank, in the words of the merge
cut-is : (rank place : ℕ) (h : List Event) → cut owner_of rank place h ≡ journal_from rank place h
cut-is rank place [] = refl
cut-is rank place (e ∷ h) = ap (λ (l : List PlacedEvent). recorded_by rank place e ++ l) (cut-is rank (suc place) h)

-- the events up to a place, and those behind it
split-at : (h : List Event) (k : ℕ) (e : Event) → slice_get h k ≡ Some e → (take k h ++ e ∷ []) ++ drop (suc k) h ≡ h
split-at [] k e at = absurd (let no : ⊥ = cc in no)
split-at (x ∷ h) zero e at = (let same : x ≡ e = cc in ap (λ (y : Event). y ∷ h) (sym same))
split-at (x ∷ h) (suc k) e at = ap (λ (l : List Event). x ∷ l) (split-at h k e at)

-- the value at a place of a list that is split there
behind-these : {A : Type 0} (before rest : List A) (x : A) → slice_get (before ++ x ∷ rest) (length before) ≡ Some x
behind-these [] rest x = refl
behind-these (y ∷ before) rest x = behind-these before rest x

module _ (w : ShapeValue) (h : List Event) (world : IsShape w) (legal : is_legal w h ≡ true) where
  sound : IsSound (state_after w h)
  sound = reached-sound w h (state_after w h) world (arrives w h legal)

  -- the owner of an event is a rank
  owner-within : (k : ℕ) (e : Event) → slice_get h k ≡ Some e → owner_of e < w.limits.ranks
  owner-within k e at =
      let begun : is_legal w (take k h ++ e ∷ []) ≡ true = prefix w (take k h ++ e ∷ []) (drop (suc k) h) (subst (λ (l : List Event). is_legal w l ≡ true) (sym (split-at h k e at)) legal) in
      let posts = owner-posts w (take k h) e (merely world) begun in
      let t = state_after w (take k h ++ e ∷ []) in
      let good : IsSound t = reached-sound w (take k h ++ e ∷ []) t world (arrives w (take k h ++ e ∷ []) begun) in
      let many = good.ranks ∙ ap (λ (l : Limits). l.ranks) (limits-are w (take k h ++ e ∷ []) begun) in
      subst (λ (n : ℕ). owner_of e < n) many (slice_get_within t.posts (owner_of e) posts.0 posts.1)

  -- a rank has at most EVENTS events
  few-events : (rank : ℕ) → rank < w.limits.ranks → length (journal_of rank h) ≤ w.limits.events
  few-events rank lt =
      let posts = rank-posts w world h rank legal lt in
      let count = journal-length w h (state_after w h) rank posts.0 world (arrives w h legal) posts.1 in
      let room = (sound.posts rank posts.0 posts.1).room in
      let events : (state_after w h).limits.events ≡ w.limits.events = ap (λ (l : Limits). l.events) (limits-are w h legal) in
      omega arith

  abbrev Stands : ℕ → WorldShard → Type 0
  Stands i x = IsValueAfter (by_ranks w) w (node_meaning w) i x h

  -- behind the ranks there are groups
  group-stands : (i : ℕ) (node : _) → w.limits.ranks ≤ i → i < w.limits.ranks + 8 → Stands i (shards.Rank node) → ⊥
  group-stands i node le lt has = go (i - w.limits.ranks) (omega arith) (omega arith)
    where
      go : (id : ℕ) → w.limits.ranks + id ≡ i → id < 8 → ⊥
      go id is less = (let there = there-within (state_after w h).groups id (subst (λ (n : ℕ). id < n) (sym sound.collectives.eight) less) in has.group id there.0 is there.1)

  rank-journal : (i : ℕ) (node : _) → i < w.limits.ranks → Stands i (shards.Rank node) → node.value.posts.journal ≡ journal_of i h
  rank-journal i node lt has = (let posts = rank-posts w world h i legal lt in ap (λ (p : PostsValue). p.journal) (has.posts i posts.0 refl posts.1))

  -- values that stand from a shard on
  abbrev StandFrom : ℕ → List WorldShard → Type 0
  StandFrom i values = (k : ℕ) (x : WorldShard) → slice_get values k ≡ Some x → Stands (i + k) x

  first-of : (i : ℕ) (x : WorldShard) (values : List WorldShard) → StandFrom i (x ∷ values) → Stands i x
  first-of i x values stand = subst (λ (j : ℕ). Stands j x) (let none : i + 0 ≡ i = omega arith in none) (stand 0 x refl)

  rest-of : (i : ℕ) (x : WorldShard) (values : List WorldShard) → StandFrom i (x ∷ values) → StandFrom (suc i) values
  rest-of i x values stand k y at = subst (λ (j : ℕ). Stands j y) (let same : i + suc k ≡ suc i + k = omega arith in same) (stand (suc k) y at)

  no-journals : (i : ℕ) (values : List WorldShard) → w.limits.ranks ≤ i → i + length values ≡ w.limits.ranks + 8 → StandFrom i values → rank_journals values ≡ []
  no-journals i [] le count stand = refl
  no-journals i (shards.Rank node ∷ values) le count stand = absurd (group-stands i node le (omega arith) (first-of i (shards.Rank node) values stand))
  no-journals i (shards.Group node ∷ values) le count stand = no-journals (suc i) values (omega arith) (omega arith) (rest-of i (shards.Group node) values stand)

  all-journals : (i : ℕ) (values : List WorldShard) → i ≤ w.limits.ranks → i + length values ≡ w.limits.ranks + 8 → StandFrom i values → i + length (rank_journals values) ≡ w.limits.ranks
  all-journals i [] le count stand = absurd (omega arith)
  all-journals i (shards.Rank node ∷ values) le count stand = dite (dec_lt i w.limits.ranks)
      (λ lt. let rest = all-journals (suc i) values lt (omega arith) (rest-of i (shards.Rank node) values stand) in omega arith)
      (λ no. absurd (group-stands i node (omega arith) (omega arith) (first-of i (shards.Rank node) values stand)))
  all-journals i (shards.Group node ∷ values) le count stand = dite (dec_lt i w.limits.ranks)
      (λ lt. absurd (rank-stands w world (shards.Group node) h i legal lt (first-of i (shards.Group node) values stand)))
      (λ no. let none = ap length (no-journals (suc i) values (omega arith) (omega arith) (rest-of i (shards.Group node) values stand)) in omega arith)

  each-journal : (i : ℕ) (values : List WorldShard) → i + length values ≡ w.limits.ranks + 8 → StandFrom i values
      → (k : ℕ) (l : List PlacedEvent) → slice_get (rank_journals values) k ≡ Some l → l ≡ journal_of (i + k) h
  each-journal i [] count stand k l at = absurd (let no : ⊥ = cc in no)
  each-journal i (shards.Rank node ∷ values) count stand zero l at = dite (dec_lt i w.limits.ranks)
      (λ lt. let here = rank-journal i node lt (first-of i (shards.Rank node) values stand) in let same : node.value.posts.journal ≡ l = cc in sym same ∙ here ∙ ap (λ (j : ℕ). journal_of j h) (let none : i ≡ i + 0 = omega arith in none))
      (λ no. absurd (group-stands i node (omega arith) (omega arith) (first-of i (shards.Rank node) values stand)))
  each-journal i (shards.Rank node ∷ values) count stand (suc k) l at =
      each-journal (suc i) values (omega arith) (rest-of i (shards.Rank node) values stand) k l at ∙ ap (λ (j : ℕ). journal_of j h) (let same : suc i + k ≡ i + suc k = omega arith in same)
  each-journal i (shards.Group node ∷ values) count stand k l at = dite (dec_lt i w.limits.ranks)
      (λ lt. absurd (rank-stands w world (shards.Group node) h i legal lt (first-of i (shards.Group node) values stand)))
      (λ no. let none = no-journals (suc i) values (omega arith) (omega arith) (rest-of i (shards.Group node) values stand) in absurd (let nothing : ⊥ = cc in nothing))

  module _ (values : List WorldShard) (are : AreShards (world_machine w) values h) where
    stand-all : StandFrom 0 values
    stand-all k x at = subst (λ (j : ℕ). Stands j x) (let same : k ≡ 0 + k = omega arith in same) (are.stand k x at)

    -- a rank has a journal of its own
    pub many-journals : length (rank_journals values) ≡ w.limits.ranks
    many-journals = (let all = all-journals 0 values (omega arith) (let count = are.count in omega arith) stand-all in omega arith)

    journal-at : (k : ℕ) (l : List PlacedEvent) → slice_get (rank_journals values) k ≡ Some l → l ≡ journal_of k h
    journal-at k l at = each-journal 0 values (let count = are.count in omega arith) stand-all k l at ∙ ap (λ (j : ℕ). journal_of j h) (let same : 0 + k ≡ k = omega arith in same)

    cut-at : (k : ℕ) (l : List PlacedEvent) → slice_get (rank_journals values) k ≡ Some l → l ≡ cut owner_of k 0 h
    cut-at k l at = journal-at k l at ∙ sym (cut-is k 0 h)

    -- The rank journals are the history cut by owner, in rising order, and there is room for them.
    pub journals-are-cut : AreCutOf (rank_journals values) h
    journals-are-cut = joined-are-cut owner_of h (rank_journals values) cut-at (λ k e at. subst (λ (n : ℕ). owner_of e < n) (sym many-journals) (owner-within k e at))

    pub journals-rise : AreRisingFrom 0 (rank_journals values)
    journals-rise = joined-rise owner_of h (rank_journals values) cut-at

    pub journals-fit : length (joined (rank_journals values)) ≤ w.limits.ranks * w.limits.events
    journals-fit = subst (λ (n : ℕ). length (joined (rank_journals values)) ≤ n * w.limits.events) many-journals
        (length-joined w.limits.events (rank_journals values)
        (λ k l at. subst (λ (j : List PlacedEvent). length j ≤ w.limits.events) (sym (journal-at k l at)) (few-events k (subst (λ (n : ℕ). k < n) many-journals (slice_get_within (rank_journals values) k l at)))))

    -- where a rank's shard is next, fewer ranks than there are came before it; a group's adds nothing
    fewer-before : (before rest : List WorldShard) (node : _) → before ++ shards.Rank node ∷ rest ≡ values → length (rank_journals before) < w.limits.ranks
    fewer-before before rest node is = dite (dec_lt (length before) w.limits.ranks)
        (λ lt. let most = no-more before in omega arith)
        (λ no. absurd (group-stands (length before) node (omega arith) within (are.stand (length before) (shards.Rank node) at)))
      where
        at : slice_get values (length before) ≡ Some (shards.Rank node)
        at = subst (λ (l : List WorldShard). slice_get l (length before) ≡ Some (shards.Rank node)) is (behind-these before rest (shards.Rank node))

        within : length before < w.limits.ranks + 8
        within = subst (λ (n : ℕ). length before < n) are.count (slice_get_within values (length before) (shards.Rank node) at)

    pub room-for-next : (before rest : List WorldShard) (x : WorldShard) → before ++ x ∷ rest ≡ values → length (rank_journals before) + length (journals_of x) ≤ w.limits.ranks
    room-for-next before rest (shards.Rank node) is = (let less = fewer-before before rest node is in omega arith)
    room-for-next before rest (shards.Group node) is =
        let all : rank_journals (before ++ shards.Group node ∷ rest) ≡ rank_journals before ++ rank_journals rest = journals-joined before (shards.Group node ∷ rest) in
        let many : length (rank_journals before) + length (rank_journals rest) ≡ w.limits.ranks = sym (length-append (rank_journals before) (rank_journals rest)) ∙ ap length (sym all ∙ ap rank_journals is) ∙ many-journals in
        omega arith
