-- A collective that is done keeps a state sound.
use Rattle.std.proofs.Common.{◌≡◌, ℕ, ◌+◌, ◌<◌, Bool, true, false, not, nat_lt, List, [], ◌∷◌, length, Option, None, Some, Ok, refl, sym, ap, ◌∙◌, subst, arith, if◌then◌else◌, ◌&&◌, is_some}
use Rattle.std.specs.List.{slice_get, slice_set, list_all}
use Rattle.std.specs.Option.{option_map}
use Rattle.std.proofs.lemmas.Bool.{lt-ltb}
use Rattle.std.proofs.lemmas.Option.{slice_get_within}
use Rattle.gaspi_types.specs.Collectives.{contributions_of, contribution_in, members_in, round_of, round_segments, made_by, generation_in, with_completed}
use Rattle.gaspi_types.specs.Groups.{is_building, handle_at, building_at, with_committed}
use Rattle.gaspi_types.specs.Masks.{is_member}
use Rattle.gaspi_types.specs.Tables.{item_at}
use Rattle.gaspi_types.specs.declared.calls.Call.{Call}
use Rattle.gaspi_types.specs.declared.calls.Call.TheVariants as calls
use Rattle.gaspi_types.specs.declared.calls.collectives.Commit as commit
use Rattle.gaspi_types.specs.declared.calls.collectives.Create as create
use Rattle.gaspi_types.specs.declared.collectives.Coll.TheVariants as colls
use Rattle.gaspi_types.specs.declared.collectives.Stage.{Stage}
use Rattle.gaspi_types.specs.declared.collectives.Stage.TheVariants.{Building, Committed}
use Rattle.gaspi_types.specs.declared.groups.Args.{Args}
use Rattle.gaspi_types.specs.declared.groups.Contribution.{Contribution}
use Rattle.gaspi_types.specs.declared.groups.Group.{Group}
use Rattle.gaspi_types.specs.declared.groups.Handle.{Handle}
use Rattle.gaspi_types.specs.declared.groups.Handles.{Handles}
use Rattle.gaspi_types.specs.declared.groups.RankContributions.{RankContributions}
use Rattle.gaspi_types.specs.declared.groups.PendingCollective.{PendingCollective}
use Rattle.gaspi_types.specs.declared.replies.Refusal.TheVariants.{NoGroup, GroupStage, NotMember}
use Rattle.gaspi_types.specs.declared.replies.Reply.{Reply}
use Rattle.gaspi_model.specs.Coherence.{Tables, tables_of, all_tables}
use Rattle.gaspi_model.specs.CollectiveCalls.{committed_at, building_with, staged_at, plain_args, args_of, posts_at_completion, completed_posts}
use Rattle.gaspi_model.specs.Contributions.{AreSoundContributions, WasMadeSo}
use Rattle.gaspi_model.specs.Posting.{counted}
use Rattle.gaspi_model.specs.Sound.{IsSound, AreSoundGroups}
use Rattle.gaspi_model.specs.Step.{group_in}
use Rattle.gaspi_model.specs.declared.states.Posts.{Posts}
use Rattle.gaspi_model.specs.declared.states.State.{State}
use Rattle.gaspi_types.proofs.Chains.{bind_then, both, check_then, found_then, same_Ok}
use Rattle.gaspi_types.proofs.Items.{there-within, map-at}
use Rattle.gaspi_model.proofs.CollectiveFinds.{IsDone}
use Rattle.gaspi_model.proofs.CollectivePosts.{KeepsRank, made-known}
use Rattle.gaspi_model.proofs.Sound.Contributions.{Meets, contributions-changed, contributions-there, contributions-other}
use Rattle.gaspi_model.proofs.Sound.GroupPosts.{AreMadeSo, MakesKnown, completed-own}
use Rattle.gaspi_model.proofs.Sound.GroupTables.{entry-set_other, entry-set_same, set-sound, building-other, made-there}
use Rattle.gaspi_model.proofs.Sound.Successors.{Succeeds, succeeds-itself}
use Rattle.gaspi_model.proofs.Sound.Rounds.{contributed-completed, completed-group, completed-contributions}

-- What a stage says of a group.

pub not-building : (s : Stage) → not (is_building s) ≡ true → s ≡ Committed
not-building Building h = absurd (let no : ⊥ = cc in no)
not-building Committed h = refl

pub is-building : (s : Stage) → is_building s ≡ true → s ≡ Building
is-building Building h = refl
is-building Committed h = absurd (let no : ⊥ = cc in no)

pub stage-apart : (a b : Handle) → a ≡ b → a.stage ≡ Building → b.stage ≡ Committed → ⊥
stage-apart a b same building committed = (let is : Building ≡ Committed = sym building ∙ ap (λ (x : Handle). x.stage) same ∙ committed in let no : ⊥ = cc in no)

pub record IsBuilt (groups : Handles) (me id : ℕ) (h : Handle) : Type 0 where
  pub there : handle_at groups id ≡ Some h
  pub building : h.stage ≡ Building
  pub member : is_member h.members me ≡ true

pub built-there : (groups : Handles) (me id : ℕ) (h : Handle) → building_with groups me id ≡ Ok h → IsBuilt groups me id h
built-there groups me id h is =
    bind_then (building_at groups id) _ h is (λ x built h1.
    check_then (is_member x.members me) NotMember _ h h1 (λ member h2.
    let same : x ≡ h = same_Ok _ _ h2 in
    found_then (handle_at groups id) NoGroup _ x built (λ y there h3.
    check_then (is_building y.stage) (GroupStage y.stage) _ x h3 (λ building h4.
    let same' : y ≡ x = same_Ok _ _ h4 in
    record {
      there = there ∙ ap (λ (z : Handle). Some z) (same' ∙ same);
      building = subst (λ (z : Handle). z.stage ≡ Building) (same' ∙ same) (is-building y.stage building);
      member = subst (λ (z : Handle). is_member z.members me ≡ true) same member;
    }))))

pub committed-there : (groups : Handles) (id : ℕ) (h : Handle) → committed_at groups id ≡ Ok h → (handle_at groups id ≡ Some h) × (h.stage ≡ Committed)
committed-there groups id h is =
    found_then (handle_at groups id) NoGroup _ h is (λ x there h1.
    check_then (not (is_building x.stage)) (GroupStage x.stage) _ h h1 (λ committed h2.
    let same : x ≡ h = same_Ok _ _ h2 in
    (there ∙ ap (λ (z : Handle). Some z) same, subst (λ (z : Handle). z.stage ≡ Committed) same (not-building x.stage committed))))

-- a collective is a commit, or its group is committed
pub staged-cases : {P : Type 0} (groups : Handles) (me id : ℕ) (call : Call) (h : Handle) → staged_at groups me id call ≡ Ok h
    → ((x : commit.Commit) → call ≡ calls.Commit x → IsBuilt groups me id h → P) → ((handle_at groups id ≡ Some h) → h.stage ≡ Committed → ((posts : Posts) (g : Group) → (posts_at_completion g me id call posts).groups ≡ posts.groups) → P) → P
staged-cases groups me id (calls.Commit x) h is first other = first x refl (built-there groups me id h is)
staged-cases groups me id (calls.Create x) h is first other =
    let there = committed-there groups id h is in
    other there.0 there.1 (λ posts g. ap (λ (p : Posts). p.groups) (made-known x.seg x.size (round_segments g me) posts).1)
staged-cases groups me id call h is first other = let there = committed-there groups id h is in other there.0 there.1 (λ posts g. refl)

pub staged-there : (groups : Handles) (me id : ℕ) (call : Call) (h : Handle) → staged_at groups me id call ≡ Ok h → handle_at groups id ≡ Some h
staged-there groups me id call h is =
    staged-cases {P = handle_at groups id ≡ Some h} groups me id call h is (λ x same built. built.there) (λ there committed told. there)

-- in a sound state a group that a rank has is there
pub record IsThere (s : State) (me id : ℕ) (g : Group) (part : RankContributions) : Type 0 where
  pub within : id < 8
  pub there : slice_get s.groups id ≡ Some g
  pub is : group_in s id ≡ g
  pub part_there : slice_get g.contributions me ≡ Some part

pub group-there : (s : State) (posts : Posts) (me id : ℕ) (h : Handle) → IsSound s → slice_get s.posts me ≡ Some posts → handle_at posts.groups id ≡ Some h
    → (g : Group) × (part : RankContributions) × IsThere s me id g part
group-there s posts me id h sound hp at =
    let groups = (sound.posts me posts hp).groups in
    let few = made-there s.limits.ranks posts.groups id h groups at in
    let most = groups.made in
    let less : id < 8 = omega arith in
    let eight = sound.collectives.eight in
    let g = there-within s.groups id (omega arith) in
    let ranks = sound.ranks in
    let within = slice_get_within s.posts me posts hp in
    let parts = (sound.collectives.groups id g.0 g.1).parts in
    let part = there-within g.0.contributions me (omega arith) in
    (g.0, part.0, record { within = less; there = g.1; is = rw (lt-ltb id 8 less, g.1) refl; part_there = part.1 })

-- What a completion tells of its owner's posts.
at_completion-pending : (g : Group) (me id : ℕ) (call : Call) (posts : Posts) → (posts_at_completion g me id call posts).pending ≡ posts.pending
at_completion-pending g me id (calls.Create call) posts = ap (λ (p : Posts). p.pending) (made-known call.seg call.size (round_segments g me) posts).1
at_completion-pending g me id other posts = refl

committed-set : (groups : Handles) (id : ℕ) (h : Handle) → handle_at groups id ≡ Some h → id < length groups.table → handle_at (with_committed groups id) id ≡ Some (record h { stage = Committed })
committed-set groups id h at within = entry-set_same groups.table id _ within ∙ ap (option_map (λ (x : Handle). record x { stage = Committed })) at

-- the contribution of a collective that is done
pub create-args : (members : ℕ) (call : create.Create) (args : Args) → args_of members (calls.Create call) ≡ Some args → args.coll ≡ colls.Create call.seg call.size
create-args members call args is = go (nat_lt call.seg 4294967296 && nat_lt call.size 4294967296) is
  where
    go : (b : Bool) → (if b then Some (plain_args (colls.Create call.seg call.size)) else None) ≡ Some args → args.coll ≡ colls.Create call.seg call.size
    go false is = absurd (let no : ⊥ = cc in no)
    go true is = (let same : plain_args (colls.Create call.seg call.size) ≡ args = cc in ap (λ (a : Args). a.coll) (sym same))

pub commit-args : (members : ℕ) (call : commit.Commit) (args : Args) → args_of members (calls.Commit call) ≡ Some args → args.coll ≡ colls.Commit members
commit-args members call args is = (let same : plain_args (colls.Commit members) ≡ args = cc in ap (λ (a : Args). a.coll) (sym same))

-- the segments of members were made so
list-made : (tables : List Tables) (seg size : ℕ) (given : ℕ → Option Contribution) (members : List ℕ)
    → ((m : ℕ) (theirs : Tables) → is_some (given m) ≡ true → slice_get tables m ≡ Some theirs → WasMadeSo theirs seg (generation_in (given m)) size)
    → list_all (λ m. is_some (given m)) members ≡ true → AreMadeSo tables seg size (made_by given members)
list-made tables seg size given [] so full = tt
list-made tables seg size given (m ∷ members) so full =
    let parts = both (is_some (given m)) (list_all (λ k. is_some (given k)) members) full in
    (λ theirs at. so m theirs parts.0 at, list-made tables seg size given members so parts.1)

pub makes-known : (s : State) (posts : Posts) (g : Group) (part : RankContributions) (me thread id : ℕ) (call : Call) (reply : Reply) (h : Handle) (p : PendingCollective) → IsSound s → slice_get s.posts me ≡ Some posts → IsThere s me id g part
    → IsDone posts g me thread id call reply h p → MakesKnown (all_tables s.posts) g me call
makes-known s posts g part me thread id (calls.Create call) reply h p sound hp there done =
    let mine = sound.collectives.parts id g me posts there.there hp in
    let last = mine.last p done.resumed.there in
    let coll : last.0.args.coll ≡ colls.Create call.seg call.size = ap (λ (a : Args). a.coll) last.2 ∙ create-args h.members call p.args done.resumed.same in
    list-made (all_tables s.posts) call.seg call.size (contribution_in g (round_of g me)) (members_in g) (λ m theirs gives at. made-so m theirs (contribution_in g (round_of g me) m) refl gives at last.0 last.1 coll) done.full
  where
    made-so : (m : ℕ) (theirs : Tables) (o : Option Contribution) → contribution_in g (round_of g me) m ≡ o → is_some (contribution_in g (round_of g me) m) ≡ true → slice_get (all_tables s.posts) m ≡ Some theirs
        → (mine : Contribution) → contribution_in g (round_of g me) me ≡ Some mine → mine.args.coll ≡ colls.Create call.seg call.size → WasMadeSo theirs call.seg (generation_in (contribution_in g (round_of g me) m)) call.size
    made-so m theirs None is gives at mine given coll = absurd (let none : is_some {T = Contribution} None ≡ true = subst (λ (x : Option Contribution). is_some x ≡ true) is gives in let no : ⊥ = cc in no)
    made-so m theirs (Some d) is gives at mine given coll =
        let far = map-at tables_of s.posts m theirs at in
        let agrees = (sound.collectives.groups id g there.there).agree (round_of g me) m me d mine is given in
        let so = sound.collectives.made id g m far.0 there.there far.1 (round_of g me) d call.seg call.size is (agrees ∙ coll) in
        rw (is, far.2) so
makes-known s posts g part me thread id other reply h p sound hp there done = tt

-- What the completion leaves of the groups of its rank.
pub done-groups : (ranks : ℕ) (posts : Posts) (g : Group) (me id : ℕ) (call : Call) (h : Handle) → staged_at posts.groups me id call ≡ Ok h → AreSoundGroups ranks posts.groups
    → AreSoundGroups ranks (completed_posts posts g me id call).groups
done-groups ranks posts g me id call h staged sound =
    staged-cases {P = AreSoundGroups ranks (completed_posts posts g me id call).groups} posts.groups me id call h staged
    (λ x same built.
    rw same (set-sound ranks posts.groups id (option_map (λ (y : Handle). record y { stage = Committed }) (handle_at posts.groups id))
    (building-other ranks posts.groups id h sound built.there (rw built.building refl)) (made-there ranks posts.groups id h sound built.there)
    (λ y is rank member. sound.members id h built.there rank (within y h is built.there rank member)) sound))
    (λ there committed told. rw (told posts g) sound)
  where
    within : (y h : Handle) → option_map (λ (z : Handle). record z { stage = Committed }) (handle_at posts.groups id) ≡ Some y → handle_at posts.groups id ≡ Some h → (rank : ℕ) → is_member y.members rank ≡ true → is_member h.members rank ≡ true
    within y h is there rank member =
        let some : ◌≡◌ {A = Option Handle} (Some (record h { stage = Committed })) (Some y) = sym (ap (option_map (λ (z : Handle). record z { stage = Committed })) there) ∙ is in
        let same : record h { stage = Committed } ≡ y = cc in
        subst (λ (z : Handle). is_member z.members rank ≡ true) (sym same) member

-- a commit that was pending has fixed the members
pub commit-fixed : (s : State) (posts : Posts) (g : Group) (part : RankContributions) (me thread id : ℕ) (x : commit.Commit) (call : Call) (reply : Reply) (h : Handle) (p : PendingCollective) → IsSound s → slice_get s.posts me ≡ Some posts → IsThere s me id g part
    → call ≡ calls.Commit x → IsDone posts g me thread id call reply h p → g.members ≡ Some h.members
commit-fixed s posts g part me thread id x call reply h p sound hp there same done =
    let mine = sound.collectives.parts id g me posts there.there hp in
    let last = mine.last p done.resumed.there in
    let args : args_of h.members (calls.Commit x) ≡ Some p.args = subst (λ (c : Call). args_of h.members c ≡ Some p.args) same done.resumed.same in
    (sound.collectives.groups id g there.there).commits (round_of g me) me last.0 h.members last.1 (ap (λ (a : Args). a.coll) last.2 ∙ commit-args h.members x p.args args)

-- The group and the posts that a collective leaves that is done.
pub completion-meets : (s t : State) (posts : Posts) (g : Group) (part : RankContributions) (me thread id : ℕ) (call : Call) (reply : Reply) (h : Handle) (p : PendingCollective) → IsSound s → slice_get s.posts me ≡ Some posts → IsThere s me id g part
    → IsDone posts g me thread id call reply h p → t.limits ≡ s.limits → t.posts ≡ slice_set s.posts me (counted (completed_posts posts g me id call)) → t.groups ≡ slice_set s.groups id (with_completed g me)
    → KeepsRank posts (counted (completed_posts posts g me id call))
    → Meets s t me id posts (counted (completed_posts posts g me id call)) g (with_completed g me)
completion-meets s t posts g part me thread id call reply h p sound hp there done limits posts_is groups_is keeps = record {
  limits = limits;
  there = hp;
  group_there = there.there;
  posts_is = posts_is;
  groups_is = groups_is;
  others = λ k apart. entry-set_other (posts_at_completion g me id call posts).pending id k None apart ∙ ap (λ (ps : List (Option PendingCollective)). item_at ps k) (at_completion-pending g me id call posts);
  events = (let more = keeps.events in omega arith);
  made_groups = staged-cases {P = (posts_at_completion g me id call posts).groups.last_id ≡ posts.groups.last_id} posts.groups me id call h done.staged (λ x same built. rw same refl) (λ at committed told. ap (λ (gs : Handles). gs.last_id) (told posts g));
  handles = λ k apart. staged-cases {P = handle_at (posts_at_completion g me id call posts).groups k ≡ handle_at posts.groups k} posts.groups me id call h done.staged
      (λ x same built. rw same (entry-set_other posts.groups.table id k _ apart))
      (λ at committed told. ap (λ (gs : Handles). handle_at gs k) (told posts g));
  succeeds = subst (λ (tables : Tables). Succeeds (tables_of posts) tables) (sym own) (succeeds-itself (tables_of posts));
  parts = λ rank apart. contributions-other g me rank (λ (q : RankContributions). record q { completed = q.completed + 1 }) g.members apart;
  fixed = λ mask is. is;
  mine = rw (entry-set_same (posts_at_completion g me id call posts).pending id None many, new_part) (completed-contributions posts.events (counted (completed_posts posts g me id call)).events p part keeps.events mine);
  begun = rw new_part (record {
    unmade = λ above. absurd (let made = made-there s.limits.ranks posts.groups id h groups (staged-there posts.groups me id call h done.staged) in
        let same = staged-cases {P = (posts_at_completion g me id call posts).groups.last_id ≡ posts.groups.last_id} posts.groups me id call h done.staged (λ x same built. rw same refl) (λ at committed told. ap (λ (gs : Handles). gs.last_id) (told posts g)) in
        let no : ⊥ = omega arith in no);
    building = λ k at stage. absurd (let now = now-committed k at in stage-apart k k refl stage now);
    committed = λ k at stage other. (omega arith);
  });
  resumable = λ q pends. absurd (let none : ◌≡◌ {A = Option PendingCollective} None (Some q) = sym (entry-set_same (posts_at_completion g me id call posts).pending id None many) ∙ pends in let no : ⊥ = cc in no);
  group = completed-group s.limits.ranks g me part there.part_there (sound.collectives.groups id g there.there);
  first = λ rank c other given. sound.collectives.first id g rank c there.there other (sym (contributed-completed g me 0 rank part there.part_there) ∙ given);
  committed = λ k at stage. staged-cases {P = (g.members ≡ Some k.members) × (is_member k.members me ≡ true)} posts.groups me id call h done.staged
      (λ x same built.
      let now : record h { stage = Committed } ≡ k = set-is k x same built at in (
        subst (λ (z : Handle). g.members ≡ Some z.members) now (commit-fixed s posts g part me thread id x call reply h p sound hp there same done),
        subst (λ (z : Handle). is_member z.members me ≡ true) now built.member,
      ))
      (λ old committed told. sound.collectives.committed id g me posts k there.there hp (sym (ap (λ (gs : Handles). handle_at gs id) (told posts g)) ∙ at) stage);
  made = λ round c seg size given coll.
      subst (λ (tables : Tables). WasMadeSo tables seg c.generation size) (sym own)
      (sound.collectives.made id g me posts there.there hp round c seg size (sym (contributed-completed g me round me part there.part_there) ∙ given) coll);
}
  where
    own : tables_of (completed_posts posts g me id call) ≡ tables_of posts
    own = completed-own posts g me id call

    groups : AreSoundGroups s.limits.ranks posts.groups
    groups = (sound.posts me posts hp).groups

    many : id < length (posts_at_completion g me id call posts).pending
    many = (let within = there.within in let same = ap length (at_completion-pending g me id call posts) in let eight = (sound.posts me posts hp).tables.pending in omega arith)

    new_part : contributions_of (with_completed g me) me ≡ record part { completed = part.completed + 1 }
    new_part = contributions-changed g me part (λ (q : RankContributions). record q { completed = q.completed + 1 }) g.members there.part_there

    mine : AreSoundContributions posts.events (Some p) part
    mine = subst (λ (o : Option PendingCollective). AreSoundContributions posts.events o part) done.resumed.there
        (subst (λ (q : RankContributions). AreSoundContributions posts.events (item_at posts.pending id) q) (contributions-there g me part there.part_there) (sound.collectives.parts id g me posts there.there hp))

    set-is : (k : Handle) (x : commit.Commit) → call ≡ calls.Commit x → IsBuilt posts.groups me id h → handle_at (completed_posts posts g me id call).groups id ≡ Some k → record h { stage = Committed } ≡ k
    set-is k x same built at =
        let here : handle_at (with_committed posts.groups id) id ≡ Some k = subst (λ (c : Call). handle_at (completed_posts posts g me id c).groups id ≡ Some k) same at in
        let set = committed-set posts.groups id h built.there (let within = there.within in let eight = groups.table in omega arith) in
        (let some : ◌≡◌ {A = Option Handle} (Some (record h { stage = Committed })) (Some k) = sym set ∙ here in cc)

    now-committed : (k : Handle) → handle_at (completed_posts posts g me id call).groups id ≡ Some k → k.stage ≡ Committed
    now-committed k at = staged-cases {P = k.stage ≡ Committed} posts.groups me id call h done.staged
        (λ x same built. ap (λ (z : Handle). z.stage) (sym (set-is k x same built at)))
        (λ old committed told.
        (let some : ◌≡◌ {A = Option Handle} (Some h) (Some k) = sym old ∙ sym (ap (λ (gs : Handles). handle_at gs id) (told posts g)) ∙ at in
        let same : h ≡ k = cc in
        ap (λ (z : Handle). z.stage) (sym same) ∙ committed))
