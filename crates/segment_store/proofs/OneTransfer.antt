-- The lemmas on posts of one item, by names that an attribute can give.
use Rattle.gaspi_types.proofs.SinglePosts.{one-transfer, one-noted_write, one-noted_read, no-item-noted}

pub ruleset one_transfer = (one-transfer)

pub ruleset one_noted_write = (one-noted_write)

pub ruleset one_noted_read = (one-noted_read)

pub ruleset no_item_noted = (no-item-noted)
