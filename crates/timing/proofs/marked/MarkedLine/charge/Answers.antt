use Rattle.std.proofs.Common.{◌∙◌}
use Rattle.timing.proofs.Timings.{charged_more}
use Rattle.timing.proofs.marked.MarkedLine.charge.Goals as goal

pub returns : goal.returns
returns g c s h e total =
    c.plus.ensures ∙ charged_more _ _ _ s c.args.j c.args.minute h e g.L.Kind.Cost.sum g.met.L.Kind.Cost.summed _ _ c.price.ensures total
