use Rattle.std.proofs.Common.{◌≤◌, ◌-◌, List, length, set, vec_items, refl, sym, subst}
use Rattle.route.specs.declared.stop.Stop.{Stop}
use Rattle.route.specs.declared.stop.Splice.TheVariants.{Change}
use Rattle.route.specs.Calls.{Altered}
use Rattle.route.proofs.Alterations.{with_curve, change_altered}
use Rattle.route.proofs.stops.StopTable.change.Goals as goal

pub returns : goal.returns
returns c =
    let ss = vec_items c.self.inside.stops in
    let p = c.args.place in
    let s = c.index_mut-stop.result.now in
    let us = set ss (p - 1) (with_curve s c.args.curve) in
    let to = subst (λ (l : List Stop). p ≤ length l) (sym c.self.view_is) c.requires.1 in
    subst (λ (l : List Stop). Altered l (Change p c.args.curve) us) c.self.view_is (change_altered ss us p c.args.curve s c.requires.0 to c.index_mut-stop.ensures.value refl)
