use Rattle.std.proofs.Common.{◌≡◌, ◌+◌, ◌-◌, ◌*◌, ◌^◌, ◌≤◌, max, pos, ◌+ℤ◌, ◌≤ℤ◌}
use Rattle.bend_book.specs.Bends.{cost_at, lowest_after}
use Rattle.bend_book.proofs.bend.Curve.cost_and_lowest.Given as goal

abbrev pub invariant-loop-passed : goal.invariant-loop-passed
invariant-loop-passed l =
    let h = l.self.head in
    let bs = l.self.bends.now in
    (l.cost ≡ cost_at h bs l.passed)
    × (pos 0 ≤ℤ (l.cost +ℤ pos (32768 * (l.passed - h.first))))
    × (l.cost ≤ℤ pos (2 ^ 32 + 32768 * (l.passed - h.first)))
    × (l.passed ≤ max h.first l.minute)
    × (l.lowest ≡ lowest_after h.start bs h.first (l.passed - h.first))
