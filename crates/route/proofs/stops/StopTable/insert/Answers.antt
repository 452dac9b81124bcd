use Rattle.std.proofs.Common.{◌-◌, List, length, vec_items, ◌∙◌, ap, arith}
use Rattle.std.specs.List.{insert}
use Rattle.std.proofs.ResultArms.{chosen}
use Rattle.route.specs.declared.stop.Stop.{Stop}
use Rattle.route.proofs.Alterations.{same_length, insert_altered}
use Rattle.route.proofs.stops.StopTable.insert.Goals as goal

pub returns : goal.returns
returns c =
    let p = c.args.place in
    let v = c.self.inside.stops in
    let us = c.set_leg.new.self in
    let done = c.insert.ensures.succeeds (omega (arith, c.self.invariant, v.ok.0, ap length c.self.view_is, same_length c.args.self.now us c.set_leg.ensures.marks, c.requires.2)) in
    insert_altered c.args.self.now us (vec_items c.insert.new.self) p c.args.leg_out c.args.stop c.requires.0 c.requires.1 c.set_leg.ensures.stops c.set_leg.ensures.marks
    (chosen _ _ _ _ c.insert.ensures.items done ∙ ap (λ (l : List Stop). insert l (p - 1) c.args.stop) c.self.view_is)
