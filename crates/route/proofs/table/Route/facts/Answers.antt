use Rattle.route.proofs.Readings.{kept_best}
use Rattle.route.proofs.table.Route.facts.Goals as goal

pub returns-in_err-refuse_if-clause-best : goal.returns-in_err-refuse_if-clause-best
returns-in_err-refuse_if-clause-best g c = kept_best g.S.Kind.Cost.algebra g.S.Source.meaning c.self.inside.source c.self.inside.stops c.args.self.now c.self.invariant c.self.view_is

pub returns-clause-best : goal.returns-clause-best
returns-clause-best g c = kept_best g.S.Kind.Cost.algebra g.S.Source.meaning c.self.inside.source c.self.inside.stops c.args.self.now c.self.invariant c.self.view_is
