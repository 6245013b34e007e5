-- The groups of a sound state, and a collective that may join.
use Rattle.std.proofs.Common.{◌≡◌, ℕ, ◌<◌, ◌≤◌, arith, Bool, true, false, nat_lt, List, length, Option, None, Some, Result, Ok, Err, slice_get, slice_set, refl, sym, ap, subst, ◌∙◌}
use Rattle.std.proofs.lemmas.Bool.Decides.{nat_tests}
use Rattle.std.proofs.lemmas.Option.{slice_get_within}
use Rattle.gaspi_types.specs.CallRows.{row_of}
use Rattle.gaspi_types.specs.Collectives.{contributions_of}
use Rattle.gaspi_types.specs.Tables.{item_at}
use Rattle.gaspi_types.specs.declared.calls.Call.{Call}
use Rattle.gaspi_types.specs.declared.events.Event.TheVariants.{Called, Joined}
use Rattle.gaspi_types.specs.declared.groups.Args.{Args}
use Rattle.gaspi_types.specs.declared.groups.Group.{Group}
use Rattle.gaspi_types.specs.declared.groups.PendingCollective.{PendingCollective}
use Rattle.gaspi_types.specs.declared.replies.Ready.{Ready}
use Rattle.gaspi_types.specs.declared.replies.Ready.TheVariants as ready
use Rattle.gaspi_types.specs.declared.replies.Refusal.{Refusal}
use Rattle.gaspi_types.specs.declared.replies.Reply.{Reply}
use Rattle.gaspi_types.specs.declared.shapes.CallerId.{CallerId}
use Rattle.gaspi_types.specs.declared.shapes.Limits.{Limits}
use Rattle.gaspi_types.proofs.Items.{past-none}
use Rattle.gaspi_model.specs.Calls.{answer, call_result, answer_of_result}
use Rattle.gaspi_model.specs.CollectiveCalls.{collective_answer, is_join_of, joining_call, group_of}
use Rattle.gaspi_model.specs.Contributions.{IsSoundGroup, AreSoundContributions}
use Rattle.gaspi_model.specs.Parts.{empty_group, group_or_none}
use Rattle.gaspi_model.specs.Sound.{IsSound}
use Rattle.gaspi_model.specs.State.{thread_at, is_running}
use Rattle.gaspi_model.specs.Step.{answer_in, group_in, step, Steps, PostsAndGroup, completed, is_declared, is_there, call_memory}
use Rattle.gaspi_model.specs.declared.states.Memory.{Memory}
use Rattle.gaspi_model.specs.declared.states.Posts.{Posts}
use Rattle.gaspi_model.specs.declared.states.State.{State}
use Rattle.gaspi_model.specs.declared.states.StepFault.{StepFault}
use Rattle.gaspi_model.specs.declared.states.Why.TheVariants as whys
use Rattle.gaspi_model.proofs.CollectiveFinds.{join-found}
use Rattle.gaspi_model.proofs.Listed.Joining.{same_args-refl, joins-itself}
use Rattle.gaspi_model.proofs.Sound.Completions.{staged-there, group-there}
use Rattle.plain_machine.specs.Looking.{MayJoin}
use Rattle.plain_machine.proofs.OnGroups.{completed_steps, joined_err}
use Rattle.plain_machine.proofs.Recorded.{declared_there}

-- a group without parts
sound_none : IsSoundGroup 0 empty_group
sound_none = record {
  parts = refl;
  agree = λ round rank other a b given more. absurd (let no : ⊥ = cc in no);
  whole = λ round rank a given. absurd (let no : ⊥ = cc in no);
  members = λ round rank a given. absurd (let no : ⊥ = cc in no);
  commits = λ round rank a mask given more. absurd (let no : ⊥ = cc in no);
}

pub group_sound : (s : State) (id : ℕ) → IsSound s → IsSoundGroup (length (group_in s id).contributions) (group_in s id)
group_sound s id sound = by_test (nat_lt id 8) refl
  where
    by_item : (o : Option Group) → slice_get s.groups id ≡ o → IsSoundGroup (length (group_or_none o).contributions) (group_or_none o)
    by_item None at = sound_none
    by_item (Some g) at = let is = sound.collectives.groups id g at in subst (λ (n : ℕ). IsSoundGroup n g) (sym is.parts) is

    by_test : (b : Bool) → nat_lt id 8 ≡ b → IsSoundGroup (length (group_in s id).contributions) (group_in s id)
    by_test true below = rw below (by_item (slice_get s.groups id) refl)
    by_test false far = rw far sound_none

none_pending : (table : List (Option PendingCollective)) (id : ℕ) → length table ≤ id → item_at table id ≡ None
none_pending table id far = by_item (slice_get table id) refl
  where
    by_item : (o : Option (Option PendingCollective)) → slice_get table id ≡ o → item_at table id ≡ None
    by_item None at = rw at refl
    by_item (Some x) at = absurd (let within = slice_get_within table id x at in let no : ⊥ = omega (arith, within, far) in no)

pub contributions_sound : (s : State) (id rank : ℕ) (p : Posts) → IsSound s → slice_get s.posts rank ≡ Some p → AreSoundContributions p.events (item_at p.pending id) (contributions_of (group_in s id) rank)
contributions_sound s id rank p sound there = by_test (nat_lt id 8) refl
  where
    by_item : (o : Option Group) → slice_get s.groups id ≡ o → id < 8 → AreSoundContributions p.events (item_at p.pending id) (contributions_of (group_or_none o) rank)
    by_item None at below = absurd (past-none s.groups id (let eight = sound.collectives.eight in omega (arith, below, eight)) at)
    by_item (Some g) at below = sound.collectives.parts id g rank p at there

    by_test : (b : Bool) → nat_lt id 8 ≡ b → AreSoundContributions p.events (item_at p.pending id) (contributions_of (group_in s id) rank)
    by_test true below = rw below (by_item (slice_get s.groups id) refl (grind (arith, nat_tests, below)))
    by_test false far =
        let eight = (sound.posts rank p there).tables.pending in
        let none = none_pending p.pending id (grind (arith, nat_tests, far, eight)) in
        rw (far, none) (record { count = refl; last = λ x is. absurd (let no : ⊥ = cc in no); few = omega arith })

-- a call that is no collective may not join
plain_joins : (limits : Limits) (me : ℕ) (posts : Posts) (memory : Memory) (thread : ℕ) (call : Call) (args : Args) → answer limits me posts memory thread call ≡ ready.Join args → ⊥
plain_joins limits me posts memory thread call args is = by_running (is_running (thread_at posts thread)) refl
  where
    of_finds : (r : Result (Option Reply) Refusal) → answer_of_result r ≡ ready.Join args → ⊥
    of_finds (Ok None) is = cc
    of_finds (Ok (Some reply)) is = cc
    of_finds (Err refusal) is = cc

    by_running : (b : Bool) → is_running (thread_at posts thread) ≡ b → ⊥
    by_running true runs = of_finds (call_result limits me posts memory call) (rw runs at is)
    by_running false ended = let refused = rw ended at is in cc

-- one that may join does so on its group, which is there, as it is
pub record Joins (s : State) (c : CallerId) (call : Call) (args : Args) : Type 0 where
  pub named : (row_of call).group ≡ Some (group_of call)
  pub below : group_of call < 8
  pub may : MayJoin s c (group_of call) args

pub joins_by : (s : State) (c : CallerId) (call : Call) (args : Args) → IsSound s → is_declared s c.rank c.thread ≡ true → answer_in s c.rank c.thread call ≡ Some (ready.Join args)
    → Joins s c call args
joins_by s c call args sound declared is = by_group (row_of call).group refl
  where
    found : (o : Option ℕ) → (row_of call).group ≡ o → (p : Posts) → slice_get s.posts c.rank ≡ Some p → (id : ℕ) → o ≡ Some id → collective_answer p (group_in s id) c.rank c.thread id call ≡ ready.Join args
    found o named p there id same =
        let answers : ◌≡◌ {A = Option Ready} (Some (collective_answer p (group_in s id) c.rank c.thread id call)) (Some (ready.Join args)) = rw (there, named ∙ same) at is in
        cc

    by_group : (o : Option ℕ) → (row_of call).group ≡ o → Joins s c call args
    by_group None plain =
        let d = declared_there s c.rank c.thread declared in
        let answers : ◌≡◌ {A = Option Ready} (Some (answer s.limits c.rank d.posts (call_memory s c.rank d.posts call) c.thread call)) (Some (ready.Join args)) = rw (d.item, plain) at is in
        absurd (plain_joins s.limits c.rank d.posts (call_memory s c.rank d.posts call) c.thread call args (let same : answer s.limits c.rank d.posts (call_memory s c.rank d.posts call) c.thread call ≡ ready.Join args = cc in same))
    by_group (Some id) named =
        let d = declared_there s c.rank c.thread declared in
        let same : group_of call ≡ id = rw named refl in
        let itself = joins-itself s c.rank c.thread id call args named is in
        let joins = ap (λ (r : Ready). is_join_of r args) (found (Some id) named d.posts d.item id refl) ∙ same_args-refl args in
        let met = join-found d.posts (group_in s id) c.rank c.thread id call args joins in
        let at = group-there s d.posts c.rank id met.0 sound d.item (staged-there d.posts.groups c.rank id call met.0 met.1.staged) in
        record {
          named = named ∙ ap (λ (n : ℕ). Some n) (sym same);
          below = subst (λ (n : ℕ). n < 8) (sym same) at.2.within;
          may = subst (λ (n : ℕ). MayJoin s c n args) (sym same)
              (λ p there. ap (λ (x : Call). is_join_of (collective_answer p (group_in s id) c.rank c.thread id x) args) itself ∙ ap (λ (r : Ready). is_join_of r args) (found (Some id) named p there id refl) ∙ same_args-refl args);
        }

-- A join that is no step.

pub undeclared_join : (s : State) (c : CallerId) (id : ℕ) (args : Args) → is_declared s c.rank c.thread ≡ false → step s (Joined c id args) ≡ Err whys.Caller
undeclared_join s c id args declared = by_item (slice_get s.posts c.rank) refl
  where
    by_item : (o : Option Posts) → slice_get s.posts c.rank ≡ o → step s (Joined c id args) ≡ Err whys.Caller
    by_item None is = rw is refl
    by_item (Some p) is =
        let gone : is_there (thread_at p c.thread) ≡ false = rw is at declared in
        joined_err s c id args p whys.Caller is (rw gone refl)

pub unjoined : (s : State) (c : CallerId) (id : ℕ) (args : Args) → is_declared s c.rank c.thread ≡ true
    → ((p : Posts) → slice_get s.posts c.rank ≡ Some p → false ≡ is_join_of (collective_answer p (group_in s id) c.rank c.thread id (joining_call id args)) args)
    → step s (Joined c id args) ≡ Err whys.Join
unjoined s c id args declared differs =
    let d = declared_there s c.rank c.thread declared in
    joined_err s c id args d.posts whys.Join d.item (rw (d.there, sym (differs d.posts d.item)) refl)

-- A collective that completes, on the group of its number, or where there is none.

pub in_group : (s : State) (id : ℕ) (g : Group) → nat_lt id 8 ≡ true → slice_get s.groups id ≡ Some g → group_in s id ≡ g
in_group s id g below there = rw (below, there) refl

pub in_none : (s : State) (id : ℕ) → nat_lt id 8 ≡ false → group_in s id ≡ empty_group
in_none s id far = rw far refl

pub completed_on : (s : State) (c : CallerId) (call : Call) (reply : Reply) (id : ℕ) (result : Result (Unit {0}) StepFault) (p p' : Posts) (g g' : Group) → nat_lt id 8 ≡ true
    → slice_get s.posts c.rank ≡ Some p → (row_of call).group ≡ Some id → slice_get s.groups id ≡ Some g
    → Steps {S = PostsAndGroup} result (record { posts = p; group = g }) (record { posts = p'; group = g' }) (completed s.limits c.rank p g c.thread id call reply)
    → Steps result s (record s { posts = slice_set s.posts c.rank p'; groups = slice_set s.groups id g' }) (step s (Called c call reply))
completed_on s c call reply id result p p' g g' below there named grouped steps =
    subst (λ (gs : List Group). Steps result s (record s { posts = slice_set s.posts c.rank p'; groups = gs }) (step s (Called c call reply))) (rw below refl)
    (completed_steps s c call reply id result p p' g g' there named (sym (in_group s id g below grouped)) steps)

pub completed_none : (s : State) (c : CallerId) (call : Call) (reply : Reply) (id : ℕ) (result : Result (Unit {0}) StepFault) (p p' : Posts) (g g' : Group) → nat_lt id 8 ≡ false
    → slice_get s.posts c.rank ≡ Some p → (row_of call).group ≡ Some id → g ≡ empty_group
    → Steps {S = PostsAndGroup} result (record { posts = p; group = g }) (record { posts = p'; group = g' }) (completed s.limits c.rank p g c.thread id call reply)
    → Steps result s (record s { posts = slice_set s.posts c.rank p' }) (step s (Called c call reply))
completed_none s c call reply id result p p' g g' far there named none steps =
    subst (λ (gs : List Group). Steps result s (record s { posts = slice_set s.posts c.rank p'; groups = gs }) (step s (Called c call reply))) (rw far refl)
    (completed_steps s c call reply id result p p' g g' there named (none ∙ sym (in_none s id far)) steps)
