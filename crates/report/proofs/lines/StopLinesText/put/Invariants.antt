use Rattle.std.proofs.Common.{Some}
use Rattle.cost.specs.Targets.{Puts}
use Rattle.report.proofs.Stops.{so_far}
use Rattle.report.proofs.lines.StopLinesText.put.Given as goal

-- the target has taken the line of the count and the lines of the stops so far
abbrev pub invariant-loop-i : goal.invariant-loop-i
invariant-loop-i g l = Puts g.T.Target.model (so_far l.self.facts.now l.i) l.fn.target l.target (Some tt)
