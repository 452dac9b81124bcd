use Rattle.std.proofs.Common.{◌≡◌, max, get_or}
use Rattle.timing.specs.Minutes.{minutes}
use Rattle.timing.proofs.marked.MarkedLine.minute.Given as goal

abbrev pub invariant-loop-j : goal.invariant-loop-j
invariant-loop-j g l = l.minute ≡ get_or (minutes (g.L.Line.visits l.self.line.now) l.self.marks.now) (max l.i l.j) 0
