use Rattle.std.proofs.Common.{◌≡◌}
use Rattle.timing.specs.Narrowing.{Choice}
use Rattle.timing.proofs.Blocks.{Walked}
use Rattle.timing.proofs.marked.MarkedLine.block_cost.Given as goal

abbrev pub invariant-loop-j : goal.invariant-loop-j
invariant-loop-j g l =
    let K = g.L.Kind.Cost.algebra in
    let vs = g.L.Line.visits l.self.line.now in
    let ms = l.self.marks.now in
    (l.j-iterator.iter.count ≡ 0) × (Choice K vs ms l.t → Walked K vs ms l.t l.j-iterator.iter.iter.rest.now l.left (g.L.Kind.Cost.exact l.here) (g.L.Kind.Cost.exact l.later))
