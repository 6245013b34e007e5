-- An entry that was found. The definitions change the entry at its place; most proofs speak of its lane, replaced.
use Rattle.std.proofs.Common.{◌≡◌, ℕ, true, List, Some, Ok, refl, subst, remove}
use Rattle.std.specs.List.{slice_get, slice_set}
use Rattle.gaspi_types.specs.Lanes.{position_of}
use Rattle.gaspi_types.specs.Tables.{changed_at}
use Rattle.gaspi_types.specs.declared.entries.Entry.{Entry}
use Rattle.gaspi_types.specs.declared.entries.Phase.{Phase}
use Rattle.gaspi_types.specs.declared.entries.Phase.TheVariants as phases
use Rattle.gaspi_types.specs.declared.entries.Queue.{Queue}
use Rattle.gaspi_types.specs.declared.events.Outcome.{Outcome}
use Rattle.gaspi_types.specs.declared.events.Outcome.TheVariants.{Applied, Failed}
use Rattle.gaspi_model.specs.Posting.{counted}
use Rattle.gaspi_model.specs.Transfers.{EntryPosition, find_entry, posts_phase, posts_after_take, posts_after_put}
use Rattle.gaspi_model.specs.declared.states.Posts.{Posts}
use Rattle.gaspi_model.specs.declared.states.Why.{Why}
use Rattle.gaspi_types.proofs.Chains.{found_then, same_Ok}

-- where an entry was found
pub record IsFound (posts : Posts) (queue target number : ℕ) (at : EntryPosition) : Type 0 where
  pub in_posts : slice_get posts.queues queue ≡ Some at.queue
  pub in_queue : slice_get at.queue.lanes target ≡ Some at.lane
  pub numbered : position_of at.lane number ≡ Some at.position
  pub in_lane : slice_get at.lane at.position ≡ Some at.entry

pub find_entry-ok : (posts : Posts) (queue target number : ℕ) (why : Why) (at : EntryPosition) → find_entry posts queue target number why ≡ Ok at → IsFound posts queue target number at
find_entry-ok posts queue target number why at h =
    found_then (slice_get posts.queues queue) why _ at h (λ q hq h1.
    found_then (slice_get q.lanes target) why _ at h1 (λ lane hl h2.
    found_then (position_of lane number) why _ at h2 (λ place hp h3.
    found_then (slice_get lane place) why _ at h3 (λ e he h4.
    subst (λ (f : EntryPosition). IsFound posts queue target number f) (same_Ok _ _ h4) (record { in_posts = hq; in_queue = hl; numbered = hp; in_lane = he })))))

pub found-again : (posts : Posts) (queue target number : ℕ) (at : EntryPosition) (why : Why) → IsFound posts queue target number at → find_entry posts queue target number why ≡ Ok at
found-again posts queue target number at why is = rw (is.in_posts, is.in_queue, is.numbered, is.in_lane) refl

-- the posts with a lane replaced
abbrev pub with_lane : Posts → ℕ → ℕ → List Entry → Posts
with_lane posts queue target lane =
    record posts { queues = changed_at posts.queues queue (λ (q : Queue). record q { lanes = slice_set q.lanes target lane }) }

abbrev pub with_phase : List Entry → ℕ → Entry → Phase → List Entry
with_phase lane place entry phase = slice_set lane place (record entry { phase = phase })

-- the posts of its origin after a transfer of an entry that was found: it failed, or it took, or it was put
abbrev pub queue_with_failed : ℕ → EntryPosition → Queue → Queue
queue_with_failed target at q = record q {
  broken = Some target;
  lanes = slice_set q.lanes target (with_phase at.lane at.position at.entry phases.Failed);
}

abbrev pub failed_with : Posts → ℕ → ℕ → EntryPosition → Posts
failed_with posts queue target at = record posts {
  queues = changed_at posts.queues queue (queue_with_failed target at);
  corrupt = slice_set posts.corrupt target true;
}

abbrev pub take_with : Posts → ℕ → ℕ → EntryPosition → List ℕ → Outcome → Posts
take_with posts queue target at bytes Applied = counted (with_lane posts queue target (with_phase at.lane at.position at.entry (phases.Carried bytes)))
take_with posts queue target at bytes Failed = counted (failed_with posts queue target at)

abbrev pub put_with : Posts → ℕ → ℕ → EntryPosition → Outcome → Posts
put_with posts queue target at Applied = counted (with_lane posts queue target (remove at.lane at.position))
put_with posts queue target at Failed = counted (failed_with posts queue target at)

-- a change at the place of an entry that was found, and one of its lane
pub phase-found : (posts : Posts) (queue target number : ℕ) (at : EntryPosition) (phase : Phase) → IsFound posts queue target number at
    → posts_phase posts queue target at.position phase ≡ with_lane posts queue target (with_phase at.lane at.position at.entry phase)
phase-found posts queue target number at phase is = rw is.in_posts rw is.in_queue rw is.in_lane refl

pub take-found : (posts : Posts) (queue target number : ℕ) (at : EntryPosition) (bytes : List ℕ) (outcome : Outcome) → IsFound posts queue target number at
    → posts_after_take posts queue target at.position bytes outcome ≡ take_with posts queue target at bytes outcome
take-found posts queue target number at bytes Applied is = rw is.in_posts rw is.in_queue rw is.in_lane refl
take-found posts queue target number at bytes Failed is = rw is.in_posts rw is.in_queue rw is.in_lane refl

pub put-found : (posts : Posts) (queue target number : ℕ) (at : EntryPosition) (outcome : Outcome) → IsFound posts queue target number at
    → posts_after_put posts queue target at.position outcome ≡ put_with posts queue target at outcome
put-found posts queue target number at Applied is = rw is.in_posts rw is.in_queue refl
put-found posts queue target number at Failed is = rw is.in_posts rw is.in_queue rw is.in_lane refl
