use Rattle.std.proofs.Common.{◌≡◌, true, false, arith, refl}
use Rattle.std.proofs.Math.Numerals.{add-one}
use Rattle.std.proofs.lemmas.List.{take_more_set, length-set, append-nil}
use Rattle.gaspi_types.specs.Masks.{is_member}
use Rattle.gaspi_model.proofs.Gathering.{gathered}
use Rattle.gaspi_model.proofs.group_members.members_of.Goals as goal
use Rattle.gaspi_model.proofs.group_members.members_of.Goals.{then-is_member, else-is_member}

pub loop-number-preserved : goal.loop-number-preserved
loop-number-preserved c =
    let before = c.loop-number.invariant in
    let more = gathered (is_member c.args.mask) c.loop-number.number in
    let test = c.is_member.ensures in
    let rank = c.of-rank.ensures in
    elim c.if-is_member.branch [
      | then-is_member w ↦
          let ranks-is = w.ranks-is in
          let count-is = w.count-is in
          let yes = w.if-is_member.true in
          let is : is_member c.args.mask c.loop-number.number ≡ true = (rw (test, rank) at yes) in
          record {
            ranks = rw (count-is, ranks-is, rank, take_more_set c.loop-number.ranks c.loop-number.count c.loop-number.number (omega arith), before.ranks, add-one, more, is) refl;
            count = omega arith;
            room = rw (ranks-is, length-set) before.room;
          }
      | else-is_member w ↦
          let ranks-is = w.ranks-is in
          let count-is = w.count-is in
          let no = w.if-is_member.false in
          let is : is_member c.args.mask c.loop-number.number ≡ false = (rw (test, rank) at no) in
          record {
            ranks = rw (count-is, ranks-is, before.ranks, add-one, more, is, append-nil) refl;
            count = omega arith;
            room = rw ranks-is before.room;
          }
    ]
