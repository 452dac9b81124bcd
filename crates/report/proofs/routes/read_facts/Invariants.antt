use Rattle.std.proofs.Common.{◌≡◌, take}
use Rattle.route.specs.Calls.{route_facts}
use Rattle.report.proofs.routes.read_facts.Given as goal

-- the entries hold the facts so far
abbrev pub invariant-loop-i : goal.invariant-loop-i
invariant-loop-i g l = take l.i l.entries ≡ take l.i (route_facts g.S.Kind.Cost.algebra (g.S.Source.meaning l.route.source) l.route.stops)
