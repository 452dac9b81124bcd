use Rattle.std.proofs.Common.{arith}
use Rattle.timing.proofs.Arrivals.{reached_next}
use Rattle.timing.proofs.reach.soonest.Goals as goal

pub returns : goal.returns
returns g c h e = omega (arith, reached_next (g.L.Line.visits c.args.line.now) g.L.Kind.Cost.algebra c.args.i h)
