-- The footprint of an event: the parts that it may read or change beside the posts of its owner, as declared and as they are
-- there. (own choice)
use Rattle.std.specs.Prelude.{ℕ, ◌==◌, nat_lt, if◌then◌else◌}
use Rattle.gaspi_types.specs.declared.entries.Kind.{Kind}
use Rattle.gaspi_types.specs.declared.entries.Kind.TheVariants.{Write, Read, Notify, ReadNote}
use Rattle.gaspi_types.specs.declared.footprints.DeclaredFootprint.{DeclaredFootprint}
use Rattle.gaspi_types.specs.declared.footprints.DeclaredFootprint.TheVariants as touches
use Rattle.gaspi_types.specs.declared.footprints.Footprint.{Footprint}
use Rattle.gaspi_types.specs.declared.footprints.Footprint.TheVariants.{Alone, OwnMemory, PeerMemory, BothMemories, PeerPosts, Group, GroupAndMemory}

-- the footprint, in a world of `ranks` ranks, of an event that `me` owns: where a rank or a group is declared that is not
-- there, it has no part at all, and the owner is no peer
abbrev pub footprint_of : ℕ → ℕ → DeclaredFootprint → Footprint
footprint_of ranks me touches.Nothing = Alone
footprint_of ranks me touches.OwnMemory = OwnMemory
footprint_of ranks me (touches.MemoryOf rank) = if rank == me then OwnMemory else (if nat_lt rank ranks then PeerMemory rank else Alone)
footprint_of ranks me (touches.BothMemories rank) = if rank == me then OwnMemory else (if nat_lt rank ranks then BothMemories rank else Alone)
footprint_of ranks me (touches.PostsOf rank) = if rank == me then Alone else (if nat_lt rank ranks then PeerPosts rank else Alone)
footprint_of ranks me (touches.GroupOf group) = if nat_lt group 8 then Group group else Alone
footprint_of ranks me (touches.GroupAndMemory group) = if nat_lt group 8 then GroupAndMemory group else Alone

-- a write takes its bytes from its own segment, a read from its target's, and notifications take nothing
abbrev pub take_footprint : ℕ → Kind → DeclaredFootprint
take_footprint rank (Write own target) = touches.OwnMemory
take_footprint rank (Read own target) = touches.MemoryOf rank
take_footprint rank (Notify target value) = touches.Nothing
take_footprint rank (ReadNote own) = touches.Nothing

-- a write and a notification put into the memory of their target, a read and its notification into that of their origin
abbrev pub put_footprint : ℕ → Kind → DeclaredFootprint
put_footprint rank (Write own target) = touches.MemoryOf rank
put_footprint rank (Read own target) = touches.OwnMemory
put_footprint rank (Notify target value) = touches.MemoryOf rank
put_footprint rank (ReadNote own) = touches.OwnMemory
