use Rattle.std.proofs.Common.{arith, w16, SFits, rules}
use Rattle.std.proofs.lemmas.Int.{ints, clamps}
use Rattle.bend_book.proofs.Steps.{cost_step, lowest_step}
use Rattle.bend_book.proofs.bend.Curve.cost_and_lowest.Goals as goal

pub loop-passed-preserved : goal.loop-passed-preserved
loop-passed-preserved c =
    let h = c.args.self.now.head in
    let bs = c.args.self.now.bends.now in
    let f : SFits w16 c.step_at.result = search rules in
    let e = cost_step h.start bs h.first c.loop-passed.passed c.loop-passed.auto.passed in
    let l = lowest_step h.start bs h.first c.loop-passed.passed c.loop-passed.auto.passed in
    let v = c.step_at.ensures in
    let m = c.min-lowest.ensures in
    (omega (arith, ints), omega (arith, ints), omega (arith, ints), omega arith, omega (arith, ints, clamps))
