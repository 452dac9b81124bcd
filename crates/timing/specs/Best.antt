-- The best timetable: the cheapest, and of those the earliest at every stop. Assumes nothing.
use Rattle.std.specs.Prelude.{◌≡◌, ℕ, ◌≤◌, List, [], ◌∷◌, slice_index}
use Rattle.cost.specs.Algebra.{Algebra, Most}
use Rattle.timing.specs.Visits.{Visit}
use Rattle.timing.specs.Timetables.{Timetable, bill}

-- ts is a timetable, none is cheaper, and none as cheap serves any stop earlier
pub record Best {E : Type 0} (K : Algebra E) (vs : List (Visit E)) (ts : List ℕ) : Type 0 where
  pub serves : Timetable vs ts
  pub least : (us : List ℕ) → Timetable vs us → Most K (bill K vs ts) (bill K vs us)
  pub early : (us : List ℕ) → Timetable vs us → bill K vs us ≡ bill K vs ts → (i : ℕ) → slice_index ts i ≤ slice_index us i

-- the last minute of ts, or p if there is none
abbrev pub final : ℕ → List ℕ → ℕ
final p [] = p
final p (t ∷ ts) = final t ts

-- ts is best among the timetables whose last minute is at most u
pub record BestBy {E : Type 0} (K : Algebra E) (u : ℕ) (vs : List (Visit E)) (ts : List ℕ) : Type 0 where
  pub serves : Timetable vs ts
  pub ends : final 0 ts ≤ u
  pub least : (us : List ℕ) → Timetable vs us → final 0 us ≤ u → Most K (bill K vs ts) (bill K vs us)
  pub early : (us : List ℕ) → Timetable vs us → final 0 us ≤ u → bill K vs us ≡ bill K vs ts → (i : ℕ) → slice_index ts i ≤ slice_index us i

-- c is the least cost of the timetables whose last minute is t
pub record Ends {E : Type 0} (K : Algebra E) (vs : List (Visit E)) (t : ℕ) (c : E) : Type 0 where
  pub met : (ts : List ℕ) × Timetable vs ts × (final 0 ts ≡ t) × (bill K vs ts ≡ c)
  pub least : (us : List ℕ) → Timetable vs us → final 0 us ≡ t → Most K c (bill K vs us)
