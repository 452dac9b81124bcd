use Rattle.std.proofs.Common.{◌≡◌, List, sym, subst, arith}
use Rattle.std.proofs.lemmas.Grind.{common_steps}
use Rattle.timing.specs.Visits.{Visit}
use Rattle.timing.specs.Sound.{Sound}
use Rattle.route.specs.declared.stop.Stop.{Stop}
use Rattle.route.specs.Over.{Over}
use Rattle.route.specs.Kept.{Kept}
use Rattle.route.specs.Table.{plains}
use Rattle.route.specs.Drafts.{both}
use Rattle.route.specs.Joins.{joined}
use Rattle.route.proofs.Joinings.{joined_sound}
use Rattle.route.proofs.join.JoinAt.draft.Goals as goal

pub returns-clause-sound : goal.returns-clause-sound
returns-clause-sound g c =
    let K = g.A.Kind.Cost.algebra in
    let M = g.A.Source.meaning in
    let N = g.B.Source.meaning in
    let a = c.args.a.now in
    let b = c.args.b.now in
    let at = c.args.self in
    let same : both K M N c.part.result c.part-2.result ≡ joined K (M a.source) (plains a.stops) at.i at.leg (N b.source) (plains b.stops) at.j = grind (arith, common_steps) in
    let ka = subst (λ (v : Over g.row.A.Denot Stop). Kept K (M v.source) v.stops) c.a.view_is c.a.invariant in
    let kb = subst (λ (v : Over g.row.B.Denot Stop). Kept K (N v.source) v.stops) c.b.view_is c.b.invariant in
    subst (λ (vs : List (Visit g.row.A-Exact.Denot)). Sound K vs) (sym same) (joined_sound K (M a.source) (N b.source) a.stops b.stops at.i at.leg at.j ka kb)
