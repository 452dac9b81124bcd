use Rattle.std.proofs.Common.{◌≡◌, get_or}
use Rattle.timing.specs.Minutes.{minutes}
use Rattle.timing.specs.Charges.{Served, charged}
use Rattle.timing.proofs.marked.MarkedLine.least.Given as goal

abbrev pub invariant-loop-j : goal.invariant-loop-j
invariant-loop-j g l =
    let K = g.L.Kind.Cost.algebra in
    let vs = g.L.Line.visits l.self.line.now in
    (l.next ≡ get_or (minutes vs l.self.marks.now) l.j 0) × (Served K vs l.self.marks.now → g.L.Kind.Cost.exact l.total ≡ charged K vs l.self.marks.now l.j)
