use Rattle.std.proofs.Common.{arith}
use Rattle.timing.proofs.Blocks.{walk_starts, walk_moves}
use Rattle.timing.proofs.marked.MarkedLine.block_cost.Goals as goal

pub loop-j-init : goal.loop-j-init
loop-j-init g c = (
  cc,
  walk_starts (cc) c.latest_before-left.ensures c.price-here.ensures c.price-later.ensures,
)

pub loop-j-preserved : goal.loop-j-preserved
loop-j-preserved g c = (
  cc,
  λ choice.
      let step = c.in-Some.ensures.steps in
      walk_moves _ _ _ step.1.0 (omega arith) (c.loop-j.invariant.1 choice) (omega arith)
      _ _ c.price.ensures c.price-in-loop-j.ensures g.L.Kind.Cost.sum g.met.L.Kind.Cost.summed _ _ _ c.plus-here.ensures c.plus-later.ensures c.latest_before-left-in-loop-j.ensures,
)
