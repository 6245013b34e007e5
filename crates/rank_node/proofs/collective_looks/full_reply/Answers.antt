use Rattle.rank_node.proofs.Resumed.{full-numbers}
use Rattle.rank_node.proofs.collective_looks.full_reply.Goals as goal

pub returns-in-Allreduce-clause-reply : goal.returns-in-Allreduce-clause-reply
returns-in-Allreduce-clause-reply c = λ g mine.
    full-numbers g c.args.group.now c.args.me c.args.call.now c.in-Allreduce.field-0 c.result.result c.in-Allreduce.is mine (λ op t count own. c.result.ensures.numbers g op t count mine.is.rounds own)
