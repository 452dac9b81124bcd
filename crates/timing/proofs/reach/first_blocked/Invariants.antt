use Rattle.std.proofs.Common.{◌≡◌, take}
use Rattle.timing.specs.Reach.{Reaches, arrive}
use Rattle.timing.proofs.reach.first_blocked.Given as goal

abbrev pub invariant-loop-i : goal.invariant-loop-i
invariant-loop-i g l = let vs = g.L.Line.visits l.line in (l.ready ≡ arrive 0 (take l.i vs)) × Reaches 0 (take l.i vs)
