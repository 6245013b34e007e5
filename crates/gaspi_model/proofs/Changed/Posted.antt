-- What a post leaves.
use Rattle.std.proofs.Common.{◌≡◌, ℕ, ◌+◌, List, ◌++◌, length, Some, Ok, refl, sym, ap, ◌∙◌, arith}
use Rattle.std.specs.List.{slice_set}
use Rattle.std.proofs.lemmas.Bool.{ltb-true, leb-true}
use Rattle.gaspi_types.specs.CallRows.{row_of, entries_in}
use Rattle.gaspi_types.specs.Lanes.{posted_entries}
use Rattle.gaspi_types.specs.Queues.{with_entries}
use Rattle.gaspi_types.specs.declared.call_rows.Posting.{Posting}
use Rattle.gaspi_types.specs.declared.calls.Call.{Call}
use Rattle.gaspi_types.specs.declared.entries.Entry.{Entry}
use Rattle.gaspi_types.specs.declared.entries.Queue.{Queue}
use Rattle.gaspi_types.specs.declared.events.Event.TheVariants.{Called}
use Rattle.gaspi_types.specs.declared.replies.Reply.TheVariants as replies
use Rattle.gaspi_types.specs.declared.shapes.CallerId.{CallerId}
use Rattle.gaspi_types.proofs.Items.{changed_at-found, there-within}
use Rattle.gaspi_model.specs.Calls.{requested_kinds, posts_effect}
use Rattle.gaspi_model.specs.Changes.{IsPostDone}
use Rattle.gaspi_model.specs.PostCalls.{post_request_result}
use Rattle.gaspi_model.specs.Posting.{counted, with_post}
use Rattle.gaspi_model.specs.Sound.{IsSound}
use Rattle.gaspi_model.specs.Step.{step}
use Rattle.gaspi_model.specs.declared.states.Posts.{Posts}
use Rattle.gaspi_model.specs.declared.states.State.{State}
use Rattle.gaspi_model.proofs.Changed.QueueCalls.{posts-on_memory}
use Rattle.gaspi_model.proofs.Local.Steps.{posting-plain, posting-reaches-none}
use Rattle.gaspi_model.proofs.Sound.Accounts.{asks-counted, post-ok}
use Rattle.gaspi_model.proofs.Sound.CallTables.{post-leaves}
use Rattle.gaspi_model.proofs.Sound.OpenCounts.{posted-length}

pub post-done : (s t : State) (c : CallerId) (call : Call) (to : Posting) → IsSound s → (row_of call).posting ≡ Some to → step s (Called c call replies.Done) ≡ Ok t
    → IsPostDone s t c.rank call to.queue to.rank
post-done s t c call to sound posting h =
    let made = posts-on_memory s t c call replies.Done (posting-plain call to posting) (posting-reaches-none call to posting) refl (λ posts brought memory. post-leaves s.limits posts brought memory call to posting) sound h in
    let m = made.2 in
    let posts = made.0 in
    let asked = requested_kinds s.limits c.rank posts call in
    let finds : post_request_result s.limits posts to.rank to.queue asked ≡ Ok (Some replies.Done) = rw posting at m.finds in
    let ok = post-ok s.limits posts to.rank to.queue asked (Some replies.Done) finds in
    let q = ok.0 in
    let kinds = ok.1 in
    let p = ok.2 in
    let ranked = ltb-true to.rank s.limits.ranks p.ranked in
    let many = (sound.posts c.rank posts m.posts_there).lanes to.queue q p.in_posts in
    let lane = there-within q.lanes to.rank (omega arith) in
    let entries = posted_entries posts.next kinds in
    let done : posts_effect s.limits c.rank posts c.thread call ≡ with_post posts to.queue to.rank (Ok kinds) =
    done-by posts posting ∙ ap (with_post posts to.queue to.rank) p.asks in
    let queues = changed_at-found posts.queues to.queue q (with_entries to.rank entries) p.in_posts in
    let lanes = changed_at-found q.lanes to.rank lane.0 (λ (x : List Entry). x ++ entries) lane.1 in
    record {
      posts = posts;
      kinds = kinds;
      q = q;
      lane = lane.0;
      posts_there = m.posts_there;
      asks = p.asks;
      count = asks-counted s.limits c.rank posts call to kinds posting p.asks ∙ sym (ap entries_in posting);
      queue_there = p.in_posts;
      whole = p.whole;
      room = leb-true (q.open_count + length kinds) s.limits.depth p.room;
      lane_there = lane.1;
      after = m.leaves
          ∙ ap (λ (x : Posts). record s { posts = slice_set s.posts c.rank (counted x) }) done
          ∙ ap (λ (x : List Queue). record s { posts = slice_set s.posts c.rank (record (counted posts) { queues = x; next = posts.next + length kinds }) }) queues
          ∙ ap (λ (n : ℕ). record s {
            posts = slice_set s.posts c.rank (record (counted posts) {
              queues = slice_set posts.queues to.queue (record (with_entries to.rank entries q) { open_count = q.open_count + n });
              next = posts.next + length kinds;
            });
          }) (posted-length posts.next kinds)
          ∙ ap (λ (x : List (List Entry)). record s {
            posts = slice_set s.posts c.rank (record (counted posts) {
              queues = slice_set posts.queues to.queue (record q { open_count = q.open_count + length kinds; lanes = x });
              next = posts.next + length kinds;
            });
          }) lanes;
    }
  where
    done-by : (posts : Posts) → (row_of call).posting ≡ Some to → posts_effect s.limits c.rank posts c.thread call ≡ with_post posts to.queue to.rank (requested_kinds s.limits c.rank posts call)
    done-by posts is = rw is refl
