use Rattle.gaspi_texts.proofs.ranges.args_are_in_range.Goals as goal

pub returns : goal.returns
returns c = record { numbers = c.coll_is_in_range.ensures; elements = c.items-read.ensures.range; own = c.requires }
