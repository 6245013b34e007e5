-- The posts of a peer after a registration.
use Rattle.std.specs.Prelude.{Option, None, Some}
use Rattle.gaspi_model.specs.SegmentCalls.{with_known}
use Rattle.gaspi_model.specs.declared.states.Posts.{Posts}
use Rattle.plain_calls.specs.declared.segment_calls.Registration.{Registration}

-- the registered segment is known to the peer; without a registration nothing changes
abbrev pub with_registration : Option Registration → Posts → Posts
with_registration None peer = peer
with_registration (Some registration) peer = with_known registration.owner registration.seg registration.extent peer
