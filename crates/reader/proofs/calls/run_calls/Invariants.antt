use Rattle.std.proofs.Common.{◌≡◌, ◌-◌, ◌≤◌, length}
use Rattle.reader.proofs.Running.{Onward}
use Rattle.reader.proofs.calls.run_calls.Given as goal

abbrev pub invariant-loop-here : goal.invariant-loop-here
invariant-loop-here g l =
    (l.here.count ≤ l.here.byte) × (l.here.byte ≤ length l.strip) × (l.route.source ≡ l.initial.route.source)
    × Onward g.S.Kind.Cost.algebra (g.S.Source.meaning l.initial.route.source) l.strip l.at l.initial.route.stops l.here l.route.stops

abbrev pub decreases-loop-here : goal.decreases-loop-here
decreases-loop-here g l = length l.strip - l.here.byte
