use Rattle.std.proofs.Common.{◌≡◌}
use Rattle.timing.specs.Reach.{reached}
use Rattle.timing.proofs.reach.arrival.Given as goal

abbrev pub invariant-loop-i : goal.invariant-loop-i
invariant-loop-i g l = l.ready ≡ reached (g.L.Line.visits l.line) l.i
