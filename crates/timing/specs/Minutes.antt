-- From marks to minutes, the last stop first. Assumes nothing.
use Rattle.std.specs.Prelude.{ℕ, ◌-◌, min, List, [], ◌∷◌}
use Rattle.timing.specs.Visits.{Visit}

-- minute m, or earlier if the next stop, the first of vs served at ts, would be missed
abbrev pub held : {E : Type 0} → ℕ → List (Visit E) → List ℕ → ℕ
held m [] ts = m
held m (v ∷ vs) [] = m
held m (v ∷ vs) (t ∷ ts) = min m (t - v.leg)

-- the last stop at its mark, every other at the earlier of its mark and the next minute less the leg between; stops without a mark are left out
abbrev pub minutes : {E : Type 0} → List (Visit E) → List ℕ → List ℕ
minutes [] ms = []
minutes (v ∷ vs) [] = []
minutes (v ∷ vs) (m ∷ ms) = held m vs (minutes vs ms) ∷ minutes vs ms

-- how late a stop may be served: before the stops vs served at ts, or u if it is the last
abbrev pub cap : {E : Type 0} → List (Visit E) → List ℕ → ℕ → ℕ
cap [] ts u = u
cap (v ∷ vs) [] u = u
cap (v ∷ vs) (t ∷ ts) u = t - v.leg

-- the same with the last stop at the earlier of its mark and u
abbrev pub latest : {E : Type 0} → List (Visit E) → List ℕ → ℕ → List ℕ
latest [] ms u = []
latest (v ∷ vs) [] u = []
latest (v ∷ vs) (m ∷ ms) u = min m (cap vs (latest vs ms u) u) ∷ latest vs ms u
