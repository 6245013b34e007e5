use Rattle.gaspi_model.proofs.Local.Steps.{frame, determined, owner-among, footprint-by-owner, footprint-by-call, once, few, posting-alone, wait-alone, purge-alone, qsize-alone, state-alone, send-both, receive-own, group-alone, collective-group, create-group, join-group}
use Rattle.gaspi_model.proofs.laws.locality.Goals as goal

pub returns-clause-frame : goal.returns-clause-frame
returns-clause-frame c = frame

pub returns-clause-determined : goal.returns-clause-determined
returns-clause-determined c = determined

pub returns-clause-owner : goal.returns-clause-owner
returns-clause-owner c = owner-among

pub returns-clause-footprint : goal.returns-clause-footprint
returns-clause-footprint c = footprint-by-owner

pub returns-clause-reply : goal.returns-clause-reply
returns-clause-reply c = footprint-by-call

pub returns-clause-once : goal.returns-clause-once
returns-clause-once c = once

pub returns-clause-few : goal.returns-clause-few
returns-clause-few c = few

pub returns-clause-posting : goal.returns-clause-posting
returns-clause-posting c = posting-alone

pub returns-clause-waiting : goal.returns-clause-waiting
returns-clause-waiting c = wait-alone

pub returns-clause-purging : goal.returns-clause-purging
returns-clause-purging c = purge-alone

pub returns-clause-sizing : goal.returns-clause-sizing
returns-clause-sizing c = qsize-alone

pub returns-clause-state : goal.returns-clause-state
returns-clause-state c = state-alone

pub returns-clause-sending : goal.returns-clause-sending
returns-clause-sending c = send-both

pub returns-clause-receiving : goal.returns-clause-receiving
returns-clause-receiving c = receive-own

pub returns-clause-grouping : goal.returns-clause-grouping
returns-clause-grouping c = group-alone

pub returns-clause-meeting : goal.returns-clause-meeting
returns-clause-meeting c = collective-group

pub returns-clause-creating : goal.returns-clause-creating
returns-clause-creating c = create-group

pub returns-clause-joining : goal.returns-clause-joining
returns-clause-joining c = join-group
