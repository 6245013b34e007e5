use Rattle.gaspi_model.proofs.IdleSteps.{only-counted}
use Rattle.gaspi_model.proofs.Changed.Puts.{put-done}
use Rattle.gaspi_model.proofs.Changed.Written.{store-written, sum-written, sum-answered, swap-written, swap-answered, swap-kept}
use Rattle.gaspi_model.proofs.Changed.Transfers.{put-failed, take-failed, take-done}
use Rattle.gaspi_model.proofs.Changed.Registered.{registered}
use Rattle.gaspi_model.proofs.Changed.OwnCalls.{load-read, slot-read, slot-reset, waited, segment-made, segment-gone}
use Rattle.gaspi_model.proofs.Changed.QueueCalls.{purge-done, sized, state-answered}
use Rattle.gaspi_model.proofs.Changed.Messages.{message-sent, message-received}
use Rattle.gaspi_model.proofs.Changed.GroupCalls.{group-made, group-added, group-dropped}
use Rattle.gaspi_model.proofs.Changed.Posted.{post-done}
use Rattle.gaspi_model.proofs.Changed.Ends.{ended}
use Rattle.gaspi_model.proofs.Changed.Joins.{join-done, create-joined}
use Rattle.gaspi_model.proofs.Changed.Known.{create-known}
use Rattle.gaspi_model.proofs.Ordered.Collectives.{commit-done, barrier-done, create-done, allreduce-done, allreduce-reduces}
use Rattle.gaspi_model.proofs.laws.changes.Goals as goal

pub returns-clause-load : goal.returns-clause-load
returns-clause-load c = load-read

pub returns-clause-waitsome : goal.returns-clause-waitsome
returns-clause-waitsome c = slot-read

pub returns-clause-reset : goal.returns-clause-reset
returns-clause-reset c = slot-reset

pub returns-clause-put : goal.returns-clause-put
returns-clause-put c = put-done

pub returns-clause-idle : goal.returns-clause-idle
returns-clause-idle c = only-counted

pub returns-clause-store : goal.returns-clause-store
returns-clause-store c = store-written

pub returns-clause-fetch_add : goal.returns-clause-fetch_add
returns-clause-fetch_add c = sum-written

pub returns-clause-swapped : goal.returns-clause-swapped
returns-clause-swapped c = swap-written

pub returns-clause-kept : goal.returns-clause-kept
returns-clause-kept c = swap-kept

pub returns-clause-failed : goal.returns-clause-failed
returns-clause-failed c = put-failed

pub returns-clause-taken : goal.returns-clause-taken
returns-clause-taken c = take-done

pub returns-clause-take_failed : goal.returns-clause-take_failed
returns-clause-take_failed c = take-failed

pub returns-clause-registered : goal.returns-clause-registered
returns-clause-registered c = registered

pub returns-clause-waited : goal.returns-clause-waited
returns-clause-waited c = waited

pub returns-clause-purged : goal.returns-clause-purged
returns-clause-purged c = purge-done

pub returns-clause-queue_size : goal.returns-clause-queue_size
returns-clause-queue_size c = sized

pub returns-clause-state : goal.returns-clause-state
returns-clause-state c = state-answered

pub returns-clause-made : goal.returns-clause-made
returns-clause-made c = segment-made

pub returns-clause-gone : goal.returns-clause-gone
returns-clause-gone c = segment-gone

pub returns-clause-fetched : goal.returns-clause-fetched
returns-clause-fetched c = sum-answered

pub returns-clause-compared : goal.returns-clause-compared
returns-clause-compared c = swap-answered

pub returns-clause-sent : goal.returns-clause-sent
returns-clause-sent c = message-sent

pub returns-clause-received : goal.returns-clause-received
returns-clause-received c = message-received

pub returns-clause-group_made : goal.returns-clause-group_made
returns-clause-group_made c = group-made

pub returns-clause-group_added : goal.returns-clause-group_added
returns-clause-group_added c = group-added

pub returns-clause-group_dropped : goal.returns-clause-group_dropped
returns-clause-group_dropped c = group-dropped

pub returns-clause-posted : goal.returns-clause-posted
returns-clause-posted c = post-done

pub returns-clause-joined : goal.returns-clause-joined
returns-clause-joined c = join-done

pub returns-clause-create_joined : goal.returns-clause-create_joined
returns-clause-create_joined c = create-joined

pub returns-clause-committed : goal.returns-clause-committed
returns-clause-committed c = commit-done

pub returns-clause-barrier : goal.returns-clause-barrier
returns-clause-barrier c = barrier-done

pub returns-clause-created : goal.returns-clause-created
returns-clause-created c = create-done

pub returns-clause-known : goal.returns-clause-known
returns-clause-known c = create-known

pub returns-clause-ended : goal.returns-clause-ended
returns-clause-ended c = ended

pub returns-clause-reduced : goal.returns-clause-reduced
returns-clause-reduced c = allreduce-done

pub returns-clause-reduction : goal.returns-clause-reduction
returns-clause-reduction c = allreduce-reduces
