use Rattle.std.proofs.Common.{◌≤◌, List, length, take, ◌∙◌, ap, subst, arith}
use Rattle.std.proofs.lemmas.List.{length-map}
use Rattle.timing.specs.Visits.{Visit}
use Rattle.timing.specs.Timetables.{Feasible}
use Rattle.timing.specs.Marks.{Marks}
use Rattle.timing.specs.Sound.{Sound}
use Rattle.route.specs.Table.{plain}
use Rattle.route.proofs.Splices.{table_line}
use Rattle.route.proofs.Settling.{refreshed}
use Rattle.route.proofs.marks.refresh_from.Goals as goal

pub returns : goal.returns
returns g c =
    let K = g.S.Kind.Cost.algebra in
    let m = g.S.Source.meaning c.args.source.now in
    let us = c.args.stops.now in
    let ts = c.set_marks.new.self in
    let old = c.marks-marks.result in
    let new = c.refresh.new.marks in
    let i = c.args.from in
    let few : length us ≤ 64 = c.as_slice.ensures.few in
    let long = c.marks-marks.ensures.room in
    let lines = table_line K g.S.Source.meaning c.part-line.result.source c.args.source.now c.part-line.result.stops c.as_slice.result.now us c.part-line.ensures.source c.part-line.ensures.stops c.as_slice.ensures.value in
    let found = subst (λ (vs : List (Visit g.row.S-Exact.Denot)). Sound K vs → Feasible vs → i ≤ length vs → length vs ≤ length old → Marks K (take i vs) (take i old) → Marks K vs (take (length vs) new)) lines c.refresh.ensures.marked in
    let done = refreshed K m c.requires us ts old new i few long (c.refresh.auto.marks ∙ long) c.marks-marks.ensures.marks c.set_marks.ensures c.refresh.ensures.before found in
    record { refreshed = done; few = omega (arith, few, length-map ts plain, ap length done.stops, length-map us plain) }
