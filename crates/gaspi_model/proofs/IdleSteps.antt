-- Events that change nothing but the count of events.
use Rattle.std.proofs.Common.{◌≡◌, true, List, Ok, refl, ap, ◌∙◌, ℕ, Option, None, Some}
use Rattle.std.specs.List.{slice_set}
use Rattle.gaspi_types.specs.Replies.{is_idle}
use Rattle.gaspi_types.specs.declared.shapes.CallerId.{CallerId}
use Rattle.gaspi_types.specs.declared.calls.Call.{Call}
use Rattle.gaspi_types.specs.declared.replies.Reply.{Reply}
use Rattle.gaspi_types.specs.declared.events.Event.TheVariants.{Called}
use Rattle.gaspi_model.specs.Posting.{counted}
use Rattle.gaspi_model.specs.Step.{step}
use Rattle.gaspi_model.specs.Changes.{IsOnlyCounted}
use Rattle.gaspi_model.specs.declared.states.Posts.{Posts}
use Rattle.gaspi_model.specs.declared.states.Memory.{Memory}
use Rattle.gaspi_model.specs.declared.states.State.{State}
use Rattle.gaspi_types.specs.CallRows.{row_of}
use Rattle.gaspi_types.specs.declared.groups.Group.{Group}
use Rattle.gaspi_model.specs.Step.{group_in}
use Rattle.gaspi_model.proofs.GroupSteps.{with_group_at, group-same, step-completed}
use Rattle.gaspi_model.proofs.Made.{memories_at, call-footprint, memories-same, step-called}
use Rattle.gaspi_model.proofs.Sound.Registered.{registered-idle}

-- a refusal or a timeout changes nothing but the count of events
pub only-counted : (s t : State) (c : CallerId) (call : Call) (reply : Reply) → is_idle reply ≡ true → step s (Called c call reply) ≡ Ok t → IsOnlyCounted s t c.rank
only-counted s t c call reply idle h = by-group (row_of call).group refl
  where
    by-group : (o : Option ℕ) → (row_of call).group ≡ o → IsOnlyCounted s t c.rank
    by-group (Some id) named =
        let made = step-completed s t c id call reply named h in
        let m = made.2 in
        let posts : made.1.posts ≡ counted made.0 = rw (m.is.leaves, idle) refl in
        let group : made.1.group ≡ group_in s id = rw (m.is.leaves, idle) refl in
        record {
          posts = made.0;
          there = m.posts_there;
          after = m.leaves ∙ ap (λ (p : Posts). record s { posts = slice_set s.posts c.rank p; groups = with_group_at s.groups id made.1.group }) posts
              ∙ ap (λ (all : List Group). record s { posts = slice_set s.posts c.rank (counted made.0); groups = all }) (ap (with_group_at s.groups id) group ∙ group-same s.groups id);
        }
    by-group None plain =
        let made = step-called s t c call reply plain h in
        let m = made.3 in
        let posts : made.2.posts ≡ counted made.0 = rw (m.is.leaves, idle) refl in
        let memory : made.2.memory ≡ made.1 = rw (m.is.leaves, idle) refl in
        record {
          posts = made.0;
          there = m.posts_there;
          after = m.leaves ∙ ap (λ (x : List Posts). record s { posts = x; memories = memories_at (call-footprint s.limits.ranks c.rank call) c.rank made.2.memory s.memories })
              (registered-idle s.limits.ranks c.rank made.0 call reply (slice_set s.posts c.rank made.2.posts) idle ∙ ap (slice_set s.posts c.rank) posts)
              ∙ ap (λ (x : List Memory). record s { posts = slice_set s.posts c.rank (counted made.0); memories = x })
              (ap (λ (m' : Memory). memories_at (call-footprint s.limits.ranks c.rank call) c.rank m' s.memories) (memory ∙ m.worked) ∙ memories-same (call-footprint s.limits.ranks c.rank call) c.rank s.memories);
        }
