-- Marks: when each stop would best be served if it were the last. Assumes nothing.
use Rattle.std.specs.Prelude.{◌≡◌, ℕ, suc, ◌<◌, List, length, take, slice_index}
use Rattle.cost.specs.Algebra.{Algebra}
use Rattle.timing.specs.Visits.{Visit}
use Rattle.timing.specs.Best.{Best}

-- t is the minute of stop i, counted from 0, in the best timetable of the stops up to it and it alone
abbrev pub Mark : {E : Type 0} → Algebra E → List (Visit E) → ℕ → ℕ → Type 0
Mark K vs i t = (ts : List ℕ) × Best K (take (suc i) vs) ts × (slice_index ts i ≡ t)

-- ms are the marks of all stops
pub record Marks {E : Type 0} (K : Algebra E) (vs : List (Visit E)) (ms : List ℕ) : Type 0 where
  pub many : length ms ≡ length vs
  pub each : (i : ℕ) → i < length vs → Mark K vs i (slice_index ms i)
