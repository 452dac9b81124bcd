use Rattle.std.proofs.Common.{arith}
use Rattle.timing.proofs.Arrivals.{serves_on}
use Rattle.timing.proofs.reach.first_blocked.Goals as goal

pub loop-i-preserved : goal.loop-i-preserved
loop-i-preserved g c =
    serves_on g.L.Kind.Cost.algebra _ c.loop-i.i (omega arith) _ _ c.loop-i.invariant.0 c.loop-i.invariant.1 c.in-Some.ensures
