use Rattle.std.proofs.Common.{◌≡◌, ℕ, ◌<◌, ◌≤◌, length, get_or, take}
use Rattle.timing.specs.Timetables.{Feasible}
use Rattle.timing.specs.Marks.{Marks}
use Rattle.timing.specs.Reach.{reached}
use Rattle.timing.specs.Sound.{Sound}
use Rattle.timing.proofs.marks.refresh.Given as goal

abbrev pub invariant-loop-i : goal.invariant-loop-i
invariant-loop-i g l =
    let K = g.L.Kind.Cost.algebra in
    let vs = g.L.Line.visits l.line in
    (l.ready ≡ reached vs l.i)
    × ((k : ℕ) → k < l.from → get_or l.marks k 0 ≡ get_or l.initial.marks k 0)
    × ((k : ℕ) → length vs ≤ k → get_or l.marks k 0 ≡ get_or l.initial.marks k 0)
    × (Sound K vs → Feasible vs → l.from ≤ length vs → length vs ≤ length l.initial.marks → Marks K (take l.from vs) (take l.from l.initial.marks) → Marks K (take l.i vs) (take l.i l.marks))
