use Rattle.timing.proofs.Marking.{block_halves}
use Rattle.timing.proofs.marked.MarkedLine.rises.Goals as goal

pub returns : goal.returns
returns g c ready = block_halves _ _ _ ready _ _ _ _ c.block_cost-here.ensures c.at_most.ensures
