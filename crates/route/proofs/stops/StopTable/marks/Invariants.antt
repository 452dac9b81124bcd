use Rattle.std.proofs.Common.{◌≡◌, length, take}
use Rattle.route.specs.Table.{marks}
use Rattle.route.proofs.stops.StopTable.marks.Given as goal

abbrev pub invariant-loop-i : goal.invariant-loop-i
invariant-loop-i l = (length l.marks ≡ 64) × (take l.i l.marks ≡ take l.i (marks l.self))
