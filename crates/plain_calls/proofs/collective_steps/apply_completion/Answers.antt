use Rattle.std.proofs.Common.{◌≡◌, None, ap, ◌∙◌, arith}
use Rattle.gaspi_model.specs.CollectiveCalls.{with_pending, completed_posts}
use Rattle.gaspi_model.specs.declared.states.Posts.{Posts}
use Rattle.plain_calls.proofs.Completed.{completed-even}
use Rattle.plain_calls.proofs.collective_steps.apply_completion.Goals as goal
use Rattle.plain_calls.proofs.collective_steps.apply_completion.Goals.{then-not-is_refused_or_timeout, else-not-is_refused_or_timeout}

pub overflow_add-posts : goal.overflow_add-posts
overflow_add-posts c =
    elim c.if-not-is_refused_or_timeout.branch [
      | then-not-is_refused_or_timeout w ↦
          (let is : c.if-not-is_refused_or_timeout.posts ≡ completed_posts c.args.posts.now c.args.group.now c.args.me c.args.id c.args.call.now =
          w.posts-is ∙ w.set_pending.ensures ∙ ap (with_pending c.args.id None) w.complete_posts.ensures in
          let events = ap (λ (p : Posts). p.events) is ∙ (completed-even c.args.posts.now c.args.group.now c.args.me c.args.id c.args.call.now).events in
          let few = c.requires.events in
          omega (arith, events, few))
      | else-not-is_refused_or_timeout w ↦
          (let events = ap (λ (p : Posts). p.events) w.posts-is in
          let few = c.requires.events in
          omega (arith, events, few))
    ]
