use Rattle.std.proofs.Common.{◌<◌, length, arith, rules}
use Rattle.std.proofs.lemmas.Bool.{eq-eqb, ltb-false}
use Rattle.std.proofs.lemmas.List.Sorted.{answers_always}
use Rattle.bend_book.specs.HeadTest.{follows}
use Rattle.bend_book.proofs.Exact.{orderly_told}
use Rattle.bend_book.proofs.bend.Curve.is_orderly.Goals as goal

pub returns-then-bend-self : goal.returns-then-bend-self
returns-then-bend-self c =
    let bs = c.args.self.now.bends.now in
    let some : 0 < length bs = omega (arith, ltb-false) in
    orderly_told c.args.self.now.head.first bs c.is_sorted_by.result some (eq-eqb _ _ c.if-bend-self.true) (c.is_sorted_by.ensures.cases follows (search (answers_always, rules)))
