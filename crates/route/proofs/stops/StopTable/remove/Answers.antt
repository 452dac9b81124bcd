use Rattle.std.proofs.Common.{List, vec_items, ◌-◌, ◌∙◌, ap}
use Rattle.std.specs.List.{remove}
use Rattle.route.specs.declared.stop.Stop.{Stop}
use Rattle.route.proofs.Alterations.{remove_altered}
use Rattle.route.proofs.stops.StopTable.remove.Goals as goal

pub returns : goal.returns
returns c =
    let p = c.args.place in
    remove_altered c.args.self.now c.set_leg.new.self (vec_items c.remove.new.self) p c.args.leg c.requires.0 c.requires.1 c.set_leg.ensures.stops c.set_leg.ensures.marks
    (c.remove.ensures.items ∙ ap (λ (l : List Stop). remove l (p - 1)) c.self.view_is)
