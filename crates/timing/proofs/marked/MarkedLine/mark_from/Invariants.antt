use Rattle.std.proofs.Common.{◌≡◌, ◌+◌, ◌-◌, length}
use Rattle.timing.specs.Reach.{reached}
use Rattle.timing.specs.Ready.{Ready}
use Rattle.timing.specs.Narrowing.{Between}
use Rattle.timing.proofs.marked.MarkedLine.mark_from.Given as goal

abbrev pub invariant-loop-low : goal.invariant-loop-low
invariant-loop-low g l =
    let K = g.L.Kind.Cost.algebra in
    let vs = g.L.Line.visits l.self.line.now in
    let ms = l.self.marks.now in
    Ready K vs ms → l.soonest ≡ reached vs (length ms + 1) → Between K vs ms l.low l.high

abbrev pub decreases-loop-low : goal.decreases-loop-low
decreases-loop-low g l = l.high - l.low
