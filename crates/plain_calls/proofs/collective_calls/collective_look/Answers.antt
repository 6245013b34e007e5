use Rattle.std.proofs.Common.{◌≡◌, Ok, sym, ap, ◌∙◌}
use Rattle.std.specs.Option.{option_copied}
use Rattle.gaspi_types.specs.Collectives.{resume}
use Rattle.gaspi_types.specs.Tables.{item_at}
use Rattle.gaspi_types.specs.declared.groups.Resume.TheVariants.{Same}
use Rattle.plain_calls.proofs.Rounds.{reducible_by}
use Rattle.plain_calls.proofs.collective_calls.collective_look.Goals as goal

pub resumed_answer-requires : goal.resumed_answer-requires
resumed_answer-requires c =
    let found : resume (option_copied c.pending_on.result) c.args.thread (option_copied c.as_ref.result) ≡ Ok Same =
    sym c.resume.ensures ∙ c.in-Ok-Same.is ∙ ap Ok c.in-Ok-Same.field-0-is in
    record {
      reducible = reducible_by c.args.group.now c.args.me c.args.thread c.args.posts.now.events c.in-Ok.handle.members (item_at c.args.posts.now.pending c.args.id) c.args.call.now c.requires.group c.requires.part
          (rw (c.pending_on.ensures, c.as_ref.ensures.value, c.in_ok-args.ensures.args) at found);
    }
