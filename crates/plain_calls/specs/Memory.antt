-- Which calls and events may take memory, and what a load reads.
use Rattle.std.specs.Prelude.{◌≡◌, ℕ, Bool, true, false, ◌||◌, List, Option, Some, Result, Ok, Err}
use Rattle.std.specs.Borrow.{Bor}
use Rattle.gaspi_types.specs.CallRows.{is_post}
use Rattle.gaspi_types.specs.Posts.{is_list_post}
use Rattle.gaspi_types.specs.declared.calls.Call.{Call}
use Rattle.gaspi_types.specs.declared.calls.Call.TheVariants.{Alloc, Load, PassiveSend, Allreduce}
use Rattle.gaspi_types.specs.declared.replies.Refusal.{Refusal}
use Rattle.gaspi_types.specs.declared.replies.Reply.{Reply}
use Rattle.gaspi_types.specs.declared.replies.Reply.TheVariants as replies
use Rattle.gaspi_types.specs.declared.events.Event.{Event}
use Rattle.gaspi_types.specs.declared.events.Event.TheVariants.{Called, Joined, Take, Put}

-- a load: its reply has a copy of bytes
abbrev pub is_load : Call → Bool
is_load (Load load) = true
is_load call = false

-- a send: it puts a message into an inbox
abbrev pub is_send : Call → Bool
is_send (PassiveSend send) = true
is_send call = false

-- an allreduce: its join has values, and its reply a list
abbrev pub is_allreduce : Call → Bool
is_allreduce (Allreduce call) = true
is_allreduce call = false

-- a look at these may take memory: for the bytes of a load's reply, for the kinds of a list's entries, for a message, and for the values
-- of an allreduce
abbrev pub looks_with_memory : Call → Bool
looks_with_memory call = is_load call || is_list_post call || is_send call || is_allreduce call

-- an alloc: it makes a segment
abbrev pub is_alloc : Call → Bool
is_alloc (Alloc alloc) = true
is_alloc call = false

-- the effect of these on the memory of a rank may take memory: a new segment, and a message in an inbox
abbrev pub fills_memory : Call → Bool
fills_memory call = is_alloc call || is_send call

-- a record of these may take memory: also that of a post, for its entries
abbrev pub keeps_memory : Call → Bool
keeps_memory call = is_post call || fills_memory call

-- a step by these events may take memory
abbrev pub takes_memory : Event → Bool
takes_memory (Called caller call reply) = looks_with_memory call || keeps_memory call
takes_memory (Joined caller id args) = true
takes_memory (Take origin queue target number outcome) = true
takes_memory (Put origin queue target number outcome) = false

-- the bytes are those of the load's reply, and the refusal is the load's
abbrev pub Loads : Result (Bor (List ℕ)) Refusal → Result (Option Reply) Refusal → Type 0
Loads (Ok bytes) finds = finds ≡ Ok (Some (replies.Bytes bytes.now))
Loads (Err refusal) finds = finds ≡ Err refusal
