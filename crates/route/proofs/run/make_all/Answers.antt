use Rattle.std.proofs.Common.{◌<◌, length, take, vec_items, ◌∙◌, arith}
use Rattle.std.proofs.lemmas.List.{take_more}
use Rattle.route.proofs.Runnings.{run_more}
use Rattle.route.proofs.run.make_all.Goals as goal

pub loop-splice-preserved : goal.loop-splice-preserved
loop-splice-preserved g c =
    let i = c.loop-splice.splice-index in
    let h = c.args.splices.now in
    let inv = c.loop-splice.invariant in
    let route = c.loop-splice.route in
    let lt : i < length h = omega arith in (
      c.apply.ensures.source ∙ inv.0,
      run_more g.S.Kind.Cost.algebra g.S.Source.meaning c.args.route.now.source route.source c.args.route.now.stops route.stops c.apply.new.self.stops (take i h) _ (vec_items c.loop-splice.answers) (vec_items c.push.new.self) _ c.apply.result inv.0 inv.1 c.apply.ensures.spliced (take_more h i _ lt) c.in_ok-push.ensures.items,
    )
