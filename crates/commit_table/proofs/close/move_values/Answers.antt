use Rattle.std.proofs.Common.{◌≡◌, ◌≢◌, ◌+◌, ◌%◌, ◌<◌, ◌∙◌, Some, ap, sym, subst, arith, get_or, false, List, [], ◌∷◌, length, length-append, slice_get}
use Rattle.std.proofs.lemmas.List.{get_or-set_other}
use Rattle.std.specs.Mem.Slots.{slots_filled, slots_items, slots_len}
use mathlib.Core.Logic.{dite}
use mathlib.Core.Option.{some}
use native.Mathlib.Decide.{ℕ_discrete}
use lib.ListN.{get_elem?}
use Rattle.commit_table.specs.Calls.{slot_of}
use Rattle.commit_table.proofs.Lists.{emptied_more, spread_so_far}
use Rattle.commit_table.proofs.close.move_values.Goals as goal

pub move_value-requires-clause-value : goal.move_value-requires-clause-value
move_value-requires-clause-value g c even =
    let size = c.loop-i.invariant.size in
    let counted = c.loop-i.invariant.counted in
    let count = c.loop-i.invariant.count in
    let k = length c.loop-i.room.items in
    let is : slot_of k ≡ c.loop-i.i = omega arith in
    rw (c.loop-i.invariant.items) (subst (λ z. (x : g.row.X.Denot) × (get_elem? (slots_items c.args.closed.slots) z ≡ some (Some x))) is (c.requires.values k (omega arith)))

pub move_value-requires-clause-room : goal.move_value-requires-clause-room
move_value-requires-clause-room g c even =
    let inv = c.loop-i.invariant in
    let count = inv.count in
    let len = inv.len in
    let room = inv.room in
    omega arith

pub loop-i-preserved : goal.loop-i-preserved
loop-i-preserved g c =
    let inv = c.loop-i.invariant in
    let did = c.move_value.ensures in
    record {
      filled = λ k low high. let ne : k ≢ c.loop-i.i = λ e. absurd (omega arith) in let now : k < slots_len c.loop-i.closed.slots = let z = did.others.2 in omega arith in
          ap (λ z. get_or z k false) did.others.1 ∙ (get_or-set_other (slots_filled c.loop-i.closed.slots) c.loop-i.i k false false ne ∙ inv.filled k (omega arith) now);
      emptied = λ k below. ap (λ z. get_or z k false) did.others.1 ∙ emptied_more (slots_filled c.loop-i.closed.slots) c.loop-i.i inv.emptied k below;
      items = did.others.0 ∙ inv.items;
      size = did.others.2 ∙ inv.size;
      below = omega arith;
      counted = inv.counted;
      len = dite (ℕ_discrete (c.loop-i.i % 8) 0)
          (λ even. let a = did.moved even in let grown : length c.move_value.new.room.items ≡ length c.loop-i.room.items + 1 = ap length a.2 ∙ length-append c.loop-i.room.items (a.0 ∷ []) in let b = a.3 in let d = inv.len in omega arith)
          (λ odd. let a = did.between (omega arith) in a.1 ∙ (inv.len ∙ sym (ap length a.0)));
      room = let a = did.capacity in let b = inv.room in omega arith;
      count = let n = inv.count in dite (ℕ_discrete (c.loop-i.i % 8) 0)
          (λ even. let a = did.moved even in let grown : length c.move_value.new.room.items ≡ length c.loop-i.room.items + 1 = ap length a.2 ∙ length-append c.loop-i.room.items (a.0 ∷ []) in (omega arith, omega arith))
          (λ odd. let a = did.between (omega arith) in let same : length c.move_value.new.room.items ≡ length c.loop-i.room.items = ap length a.0 in (omega arith, omega arith));
      same = λ k x there. dite (ℕ_discrete (c.loop-i.i % 8) 0)
          (λ even.
          let a = did.moved even in
          let n = inv.count in
          let is : slot_of (length c.loop-i.room.items) ≡ c.loop-i.i = omega arith in
          spread_so_far c.loop-i.room.items a.0 (slots_items c.args.closed.slots) inv.same (rw is (rw (← inv.items) a.1)) k x (subst (λ (z : List g.row.X.Denot). slice_get z k ≡ Some x) a.2 there))
          (λ odd. let a = did.between (omega arith) in inv.same k x (subst (λ (z : List g.row.X.Denot). slice_get z k ≡ Some x) a.0 there));
    }
