use Rattle.std.proofs.Common.{◌≡◌, take, vec_items}
use Rattle.route.specs.Table.{plains}
use Rattle.route.specs.Judged.{Runs}
use Rattle.route.proofs.run.make_all.Given as goal

abbrev pub invariant-loop-splice : goal.invariant-loop-splice
invariant-loop-splice g l =
    let m = g.S.Source.meaning l.initial.route.source in
    (l.route.source ≡ l.initial.route.source)
    × Runs g.S.Kind.Cost.algebra m (plains l.initial.route.stops) (take l.splice-index l.splices) (vec_items l.answers) (plains l.route.stops)
