use Rattle.plain_machine.proofs.nonempty_lanes.remove_lane.Goals as goal

pub place_among-place-requires : goal.place_among-place-requires
place_among-place-requires c = rw c.deref.ensures.value c.requires.parted
