use Rattle.std.proofs.Common.{◌≡◌, [], ◌∷◌, ◌++◌, length, position, Some, None, sym, ap, ◌∙◌, arith}
use Rattle.gaspi_types.specs.Buffered.{Buffered}
use Rattle.gaspi_types.specs.declared.events.Event.{Event}
use Rattle.gaspi_texts.specs.Merges.{starts_at}
use Rattle.gaspi_texts.proofs.MergedJournals.{none-next, taken-there, lent-nonempty, one-less, merged-next, all-merged}
use Rattle.gaspi_texts.proofs.merging.MergeRoom.merge.Goals as goal

pub take_next-requires : goal.take_next-requires
take_next-requires c =
    let found : position (starts_at (length c.loop-list.journal.items)) c.loop-list.lists.items ≡ Some c.in-Some.list = sym (rw (c.len.ensures.value, c.deref.ensures.value) at c.in-Some.ensures) in
    lent-nonempty (length c.loop-list.journal.items) c.loop-list.lists.items c.in-Some.list c.index_mut.result.now found c.index_mut.ensures.value

pub push-requires : goal.push-requires
push-requires c =
    let found : position (starts_at (length c.loop-list.journal.items)) c.loop-list.lists.items ≡ Some c.in-Some.list = sym (rw (c.len.ensures.value, c.deref.ensures.value) at c.in-Some.ensures) in
    let at = taken-there (length c.loop-list.journal.items) c.loop-list.lists.items c.in-Some.list c.index_mut.result.now c.take_next.result c.take_next.new.self found c.index_mut.ensures.value c.take_next.ensures in
    let less = one-less c.loop-list.lists.items c.in-Some.list c.take_next.result c.take_next.new.self at in
    let count = c.loop-list.invariant.merged.count in
    let most = c.requires.room in
    let room = c.loop-list.invariant.room in
    omega arith

pub loop-list-smaller : goal.loop-list-smaller
loop-list-smaller c =
    let found : position (starts_at (length c.loop-list.journal.items)) c.loop-list.lists.items ≡ Some c.in-Some.list = sym (rw (c.len.ensures.value, c.deref.ensures.value) at c.in-Some.ensures) in
    let at = taken-there (length c.loop-list.journal.items) c.loop-list.lists.items c.in-Some.list c.index_mut.result.now c.take_next.result c.take_next.new.self found c.index_mut.ensures.value c.take_next.ensures in
    let less = one-less c.loop-list.lists.items c.in-Some.list c.take_next.result c.take_next.new.self at in
    omega arith

pub loop-list-preserved : goal.loop-list-preserved
loop-list-preserved c =
    let found : position (starts_at (length c.loop-list.journal.items)) c.loop-list.lists.items ≡ Some c.in-Some.list = sym (rw (c.len.ensures.value, c.deref.ensures.value) at c.in-Some.ensures) in
    let at = taken-there (length c.loop-list.journal.items) c.loop-list.lists.items c.in-Some.list c.index_mut.result.now c.take_next.result c.take_next.new.self found c.index_mut.ensures.value c.take_next.ensures in
    let next = merged-next c.args.self.lists c.loop-list.lists.items c.loop-list.journal.items c.requires.cut.0 c.in-Some.list c.take_next.result c.take_next.new.self
    c.requires.cut.1 c.loop-list.invariant.merged found at in
    let items : c.push.new.self.items ≡ c.loop-list.journal.items ++ c.take_next.result.event ∷ [] = ap (λ (z : Buffered Event). z.items) c.push.ensures in
    record {
      room = ap (λ (z : Buffered Event). z.capacity) c.push.ensures ∙ c.loop-list.invariant.room;
      merged = rw items next;
    }

pub returns : goal.returns
returns c journal cut =
    let none : position (starts_at (length c.loop-list.journal.items)) c.loop-list.lists.items ≡ None = sym (rw (c.len.ensures.value, c.deref.ensures.value) at c.in_default.ensures) in
    c.into_sequence-2.ensures.items
    ∙ all-merged c.args.self.lists c.loop-list.lists.items c.loop-list.journal.items journal cut c.loop-list.invariant.merged (none-next (length c.loop-list.journal.items) c.loop-list.lists.items none)
