-- When a line is ready for its next mark. Assumes nothing.
use Rattle.std.specs.Prelude.{ℕ, suc, ◌<◌, List, length, take}
use Rattle.cost.specs.Algebra.{Algebra}
use Rattle.timing.specs.Visits.{Visit}
use Rattle.timing.specs.Timetables.{Feasible}
use Rattle.timing.specs.Marks.{Marks}
use Rattle.timing.specs.Sound.{Sound}

-- the line is sound, ms are the marks of its first stops, and the stop after them can be served too
pub record Ready {E : Type 0} (K : Algebra E) (vs : List (Visit E)) (ms : List ℕ) : Type 0 where
  pub sound : Sound K vs
  pub more : length ms < length vs
  pub marks : Marks K (take (length ms) vs) ms
  pub feasible : Feasible (take (suc (length ms)) vs)
