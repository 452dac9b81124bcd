-- The bill of the minutes that marks give, added up from the last stop back. Assumes nothing.
use Rattle.std.specs.Prelude.{ℕ, List, drop}
use Rattle.cost.specs.Algebra.{Algebra}
use Rattle.timing.specs.Visits.{Visit}
use Rattle.timing.specs.Timetables.{Timetable, bill}
use Rattle.timing.specs.Minutes.{minutes}
use Rattle.timing.specs.Sound.{Sound}

-- the line is sound, and the minutes that the marks give are a timetable
pub record Served {E : Type 0} (K : Algebra E) (vs : List (Visit E)) (ms : List ℕ) : Type 0 where
  pub sound : Sound K vs
  pub timetable : Timetable vs (minutes vs ms)

-- what the stops from number j on cost
abbrev pub charged : {E : Type 0} → Algebra E → List (Visit E) → List ℕ → ℕ → E
charged K vs ms j = bill K (drop j vs) (drop j (minutes vs ms))
