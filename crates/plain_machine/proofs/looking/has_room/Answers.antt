use Rattle.std.proofs.Common.{◌≡◌, ℕ, ◌+◌, nat_le, ap, arith}
use Rattle.std.proofs.lemmas.Bool.Decides.{nat_tests}
use Rattle.gaspi_types.proofs.Items.{there-within}
use Rattle.plain_machine.specs.Machine.{used_room_of}
use Rattle.plain_machine.proofs.Lists.{mapped}
use Rattle.plain_machine.proofs.looking.has_room.Goals as goal

pub overflow_add-result : goal.overflow_add-result
overflow_add-result c =
    let whole = c.requires.whole.1 in
    let posts = there-within c.args.ranks.now.posts c.args.rank c.requires.there in
    let room = (whole.sound.posts _ _ posts.1).room in
    let taken = mapped used_room_of c.args.ranks.now.posts c.args.rank _ _ posts.1 (rw (c.index.ensures.value, whole.used) at c.at-taken.ensures) in
    let limited = whole.sound.limits in
    let bound = c.requires.charge in
    grind (arith, nat_tests, room, taken, limited, bound)

pub returns : goal.returns
returns c = λ posts at.
    let taken : c.at-taken.result.now ≡ used_room_of posts = mapped used_room_of c.args.ranks.now.posts c.args.rank _ _ at (rw (c.index.ensures.value, c.requires.whole.1.used) at c.at-taken.ensures) in
    ap (λ (n : ℕ). nat_le (n + c.args.charge) c.args.ranks.now.limits.events) taken
