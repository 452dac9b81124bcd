-- Timetables of stops in a given order, in whole minutes, and what one costs. Assumes nothing.
use Rattle.std.specs.Prelude.{ℕ, ◌+◌, ◌≤◌, List, [], ◌∷◌}
use Rattle.cost.specs.Algebra.{Algebra}
use Rattle.timing.specs.Visits.{Visit}

-- the minutes ts serve the stops vs, where the stop before them was served at minute p: each within its window, and no earlier than the minute before plus its leg
abbrev pub Fits : {E : Type 0} → ℕ → List (Visit E) → List ℕ → Type 0
Fits p [] [] = Unit {0}
Fits p [] (t ∷ ts) = ⊥
Fits p (v ∷ vs) [] = ⊥
Fits p (v ∷ vs) (t ∷ ts) = (v.first ≤ t) × (t ≤ v.last) × (p + v.leg ≤ t) × Fits t vs ts

-- before the first stop it is minute 0
abbrev pub Timetable : {E : Type 0} → List (Visit E) → List ℕ → Type 0
Timetable vs ts = Fits 0 vs ts

-- the stops can be served
abbrev pub Feasible : {E : Type 0} → List (Visit E) → Type 0
Feasible vs = (ts : List ℕ) × Timetable vs ts

-- what the timetable ts costs
abbrev pub bill : {E : Type 0} → Algebra E → List (Visit E) → List ℕ → E
bill K [] ts = K.nought
bill K (v ∷ vs) [] = K.nought
bill K (v ∷ vs) (t ∷ ts) = K.plus (v.price t) (bill K vs ts)
