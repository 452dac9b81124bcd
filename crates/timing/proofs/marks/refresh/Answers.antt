use Rattle.std.proofs.Common.{arith}
use Rattle.timing.proofs.Refreshing.{marks_all}
use Rattle.timing.proofs.marks.refresh.Goals as goal

pub returns-clause-marked : goal.returns-clause-marked
returns-clause-marked g c sound feasible few room marks =
    marks_all _ _ _ c.loop-i.i (omega arith) (c.loop-i.invariant.3 sound feasible few room marks)
