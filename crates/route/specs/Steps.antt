-- The two steps by which a splice is judged: words for the engine's own functions, which no public promise needs. Assumes nothing.
use Rattle.std.specs.Prelude.{ℕ, ◌+◌, ◌<◌, ◌≤◌, List, Ok, Err}
use Rattle.timing.specs.Visits.{Visit}
use Rattle.timing.specs.Timetables.{Feasible}
use Rattle.timing.specs.Reach.{BlockedAt}
use Rattle.route.specs.declared.stop.Splice.{Splice}
use Rattle.route.specs.declared.stop.Splice.TheVariants.{Insert, Remove, Change}
use Rattle.route.specs.declared.stop.Refusal.TheVariants.{Place, Full, Curve, Leg, NoTimetable}
use Rattle.route.specs.Judged.{Answer}

-- the splice has its place on a route of n stops, and room; so it is where nothing speaks against it
abbrev pub HasPlace : ℕ → Splice → Type 0
HasPlace n (Insert p k a b) = (1 ≤ p) × (p ≤ n + 1) × (n < 64)
HasPlace n (Remove p l) = (1 ≤ p) × (p ≤ n)
HasPlace n (Change p k) = (1 ≤ p) × (p ≤ n)

-- where nothing but their timetable is asked for, the stops are answered so: the first one up to which there is no timetable is named
abbrev pub Served : {E : Type 0} → List (Visit E) → Answer → Type 0
Served vs (Ok x) = Feasible vs
Served vs (Err Place) = ⊥
Served vs (Err Full) = ⊥
Served vs (Err Curve) = ⊥
Served vs (Err Leg) = ⊥
Served vs (Err (NoTimetable f)) = BlockedAt vs f
