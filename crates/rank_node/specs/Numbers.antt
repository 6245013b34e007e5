-- How many numbers calls, replies and answers have; *fits* is said of a list for them. (GASPI: allreduce)
use Rattle.std.specs.Prelude.{ℕ, ◌≤◌, length}
use Rattle.gaspi_types.specs.declared.calls.Call.{Call}
use Rattle.gaspi_types.specs.declared.calls.Call.TheVariants.{Allreduce}
use Rattle.gaspi_types.specs.declared.replies.Ready.{Ready}
use Rattle.gaspi_types.specs.declared.replies.Ready.TheVariants as ready
use Rattle.gaspi_types.specs.declared.replies.Reply.{Reply}
use Rattle.gaspi_types.specs.declared.replies.Reply.TheVariants as replies
use Rattle.rank_node.specs.Capacities.{NumberCapacities}

-- the elements of an allreduce; of another call none
abbrev pub elements_in : Call → ℕ
elements_in (Allreduce call) = length call.values.items
elements_in call = 0

-- each list is as long as the call has elements
abbrev pub capacities_for : Call → NumberCapacities
capacities_for call = record { values = elements_in call; event = elements_in call; caller = elements_in call }

-- a list of `places` numbers is all the memory that an equal reply takes: the reply has no bytes, and no more numbers
abbrev pub ReplyFits : Reply → ℕ → Type 0
ReplyFits (replies.List numbers) places = length numbers.items ≤ places
ReplyFits (replies.Bytes bytes) places = ⊥
ReplyFits reply places = Unit {0}

-- the same of an answer: of its reply, or of the values with which the call may join
abbrev pub AnswerFits : Ready → ℕ → Type 0
AnswerFits (ready.Reply reply) places = ReplyFits reply places
AnswerFits (ready.Join args) places = length args.values.items ≤ places
AnswerFits ready.NotReady places = Unit {0}
