use Rattle.std.proofs.Common.{rules}
use Rattle.route.proofs.Views.{leg_there}
use Rattle.route.proofs.line.DraftLine.leg.Goals as goal

pub returns : goal.returns
returns g c = let d = c.args.self.now in leg_there g.S.Kind.Cost.algebra (g.S.Source.meaning d.source) d.stops c.args.i c.stop.result c.map_or.result (search rules) c.stop.ensures
