-- Messages and groups of histories worked by hand: what the definitions say of them, by computing.
use Rattle.std.proofs.Common.{◌≡◌, true, List, [], ◌∷◌, Err, refl}
use Rattle.gaspi_types.specs.declared.events.Event.{Event}
use Rattle.gaspi_types.specs.declared.events.Event.TheVariants.{Called}
use Rattle.gaspi_types.specs.declared.calls.Call.TheVariants.{Store, Load, PassiveSend, PassiveReceive, GroupCreate, GroupAdd, GroupDelete}
use Rattle.gaspi_types.specs.declared.replies.Reply.TheVariants as replies
use Rattle.gaspi_types.specs.declared.replies.Refusal.TheVariants.{NoGroup, PassiveSize}
use Rattle.gaspi_model.specs.Messages.{sent_in, received_in}
use Rattle.gaspi_model.specs.State.{opening}
use Rattle.gaspi_model.specs.Step.{is_legal, reached}
use Rattle.gaspi_model.specs.declared.states.Why.TheVariants as whys
use Rattle.gaspi_model.proofs.HistoriesOnPosts.{two_ranks}

-- two messages to rank 1, the second from itself, of which it receives the first; what is stored between does not change it
abbrev pub two_messages : List Event
two_messages =
    Called (record { rank = 0; thread = 0 }) (Store (record { seg = 0; offset = 0; bytes = 1 ∷ 2 ∷ 3 ∷ [] })) replies.Done
    ∷ Called (record { rank = 1; thread = 0 }) (PassiveReceive (record { seg = 0; offset = 4; size = 2 })) replies.Timeout
    ∷ Called (record { rank = 0; thread = 0 }) (PassiveSend (record { seg = 0; offset = 1; rank = 1; size = 2 })) replies.Done
    ∷ Called (record { rank = 0; thread = 0 }) (Store (record { seg = 0; offset = 0; bytes = 9 ∷ 9 ∷ 9 ∷ [] })) replies.Done
    ∷ Called (record { rank = 1; thread = 0 }) (PassiveSend (record { seg = 0; offset = 0; rank = 1; size = 1 })) replies.Done
    ∷ Called (record { rank = 1; thread = 0 }) (PassiveReceive (record { seg = 0; offset = 4; size = 1 })) (replies.Refused (PassiveSize 2))
    ∷ Called (record { rank = 1; thread = 0 }) (PassiveReceive (record { seg = 0; offset = 4; size = 8 })) (replies.Id 0)
    ∷ Called (record { rank = 1; thread = 0 }) (Load (record { seg = 0; offset = 3; size = 4 })) (replies.Bytes (0 ∷ 2 ∷ 3 ∷ 0 ∷ [])) ∷ []

two_messages-are_legal : is_legal two_ranks two_messages ≡ true
two_messages-are_legal = refl

two_messages-sent : sent_in (opening two_ranks) two_messages 1 ≡ record { sender = 0; bytes = 2 ∷ 3 ∷ [] } ∷ record { sender = 1; bytes = 0 ∷ [] } ∷ []
two_messages-sent = refl

two_messages-received : received_in (opening two_ranks) two_messages 1 ≡ record { sender = 0; bytes = 2 ∷ 3 ∷ [] } ∷ []
two_messages-received = refl

-- the numbers of groups rise, also where one is dropped in between
two_groups-are_legal : is_legal two_ranks (
    Called (record { rank = 0; thread = 0 }) GroupCreate (replies.Id 1)
    ∷ Called (record { rank = 0; thread = 0 }) (GroupAdd (record { group = 1; rank = 1 })) replies.Done
    ∷ Called (record { rank = 1; thread = 0 }) (GroupAdd (record { group = 1; rank = 1 })) (replies.Refused NoGroup)
    ∷ Called (record { rank = 0; thread = 0 }) (GroupDelete (record { group = 1 })) replies.Done
    ∷ Called (record { rank = 0; thread = 0 }) (GroupDelete (record { group = 1 })) (replies.Refused NoGroup)
    ∷ Called (record { rank = 0; thread = 0 }) GroupCreate (replies.Id 2) ∷ []) ≡ true
two_groups-are_legal = refl

used_number-is_refused : reached two_ranks (
    Called (record { rank = 0; thread = 0 }) GroupCreate (replies.Id 1)
    ∷ Called (record { rank = 0; thread = 0 }) (GroupDelete (record { group = 1 })) replies.Done
    ∷ Called (record { rank = 0; thread = 0 }) GroupCreate (replies.Id 1) ∷ []) ≡ Err whys.Reply
used_number-is_refused = refl
