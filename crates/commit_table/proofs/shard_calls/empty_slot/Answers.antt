use Rattle.std.proofs.Common.{rules, ap, ◌∙◌, None}
use Rattle.commit_table.proofs.Slots.{is_out, swapped}
use Rattle.commit_table.proofs.shard_calls.empty_slot.Goals as goal

pub exchange-value-requires : goal.exchange-value-requires
exchange-value-requires g c = (search rules, is_out c.args.seat.now.me _ _ _ c.requires.ready.2)

pub return_slot-requires : goal.return_slot-requires
return_slot-requires g c =
    let e = c.exchange-value.ensures in
    let s = swapped c.args.seat.now.me c.exchange-value.new.seat.me c.args.shard _ c.exchange-value.result None c.requires.ready.2 e.2 e.3 in
    record {
      table = search rules;
      size = c.requires.size;
      ready = (None, s.new_is);
      held = (c.requires.ready.1, ap (λ z. Rattle.commit_table.specs.Views.held_at z.held c.args.shard) s.known ∙ c.requires.ready.3);
      shard = c.requires.shard;
    }
