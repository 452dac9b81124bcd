use Rattle.std.proofs.Common.{◌≡◌, ◌++◌, take, drop}
use Rattle.route.specs.Calls.{remarked}
use Rattle.route.proofs.stops.StopTable.set_marks.Given as goal

abbrev pub invariant-loop-i : goal.invariant-loop-i
invariant-loop-i l = take l.i l.stop-items ++ remarked (drop l.i l.stop-items) (drop l.i l.marks) ≡ remarked l.initial.stop-items l.marks
