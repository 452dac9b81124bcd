-- The same read from the last stop back: every list here has the last stop first. Words for loops and proofs; no reader of Best needs them. Assumes nothing.
use Rattle.std.specs.Prelude.{ℕ, ◌+◌, ◌-◌, ◌<◌, ◌≤◌, min, max, List, [], ◌∷◌}
use Rattle.cost.specs.Algebra.{Algebra, Less, Most}
use Rattle.timing.specs.Visits.{Visit}
use Rattle.timing.specs.Timetables.{bill}

-- m is the earliest of the minutes a to b at which f is lowest
pub record Lowest {E : Type 0} (K : Algebra E) (f : ℕ → E) (a b m : ℕ) : Type 0 where
  pub from : a ≤ m
  pub to : m ≤ b
  pub least : (t : ℕ) → a ≤ t → t ≤ b → Most K (f m) (f t)
  pub before : (t : ℕ) → a ≤ t → t < m → Less K (f m) (f t)

-- the minutes serve the stops, the last one at u or before
abbrev pub Within : {E : Type 0} → ℕ → List (Visit E) → List ℕ → Type 0
Within u [] [] = Unit {0}
Within u [] (t ∷ ts) = ⊥
Within u (v ∷ vs) [] = ⊥
Within u (v ∷ vs) (t ∷ ts) = (v.first ≤ t) × (t ≤ v.last) × (t ≤ u) × (v.leg ≤ t) × Within (t - v.leg) vs ts

-- no minute is later
abbrev pub Early : List ℕ → List ℕ → Type 0
Early [] [] = Unit {0}
Early [] (u ∷ us) = ⊥
Early (t ∷ ts) [] = ⊥
Early (t ∷ ts) (u ∷ us) = (t ≤ u) × Early ts us

-- the soonest minute of the last stop
abbrev pub reach : {E : Type 0} → List (Visit E) → ℕ
reach [] = 0
reach (v ∷ vs) = max v.first (reach vs + v.leg)

-- every stop can be reached
abbrev pub Open : {E : Type 0} → List (Visit E) → Type 0
Open [] = Unit {0}
Open (v ∷ vs) = (reach (v ∷ vs) ≤ v.last) × Open vs

-- each stop at its mark, or as late as the next one lets it be
abbrev pub fill : {E : Type 0} → List (Visit E) → List ℕ → ℕ → List ℕ
fill [] ms u = []
fill (v ∷ vs) [] u = []
fill (v ∷ vs) (m ∷ ms) u = min m u ∷ fill vs ms (min m u - v.leg)

abbrev pub cost : {E : Type 0} → Algebra E → List (Visit E) → List ℕ → ℕ → E
cost K vs ms u = bill K vs (fill vs ms u)

-- the least cost with the last stop v at minute t
abbrev pub ending : {E : Type 0} → Algebra E → Visit E → List (Visit E) → List ℕ → ℕ → E
ending K v vs ms t = K.plus (v.price t) (cost K vs ms (t - v.leg))

abbrev pub Marked : {E : Type 0} → Algebra E → List (Visit E) → List ℕ → Type 0
Marked K [] [] = Unit {0}
Marked K [] (m ∷ ms) = ⊥
Marked K (v ∷ vs) [] = ⊥
Marked K (v ∷ vs) (m ∷ ms) = Lowest K (ending K v vs ms) (reach (v ∷ vs)) v.last m × Marked K vs ms

abbrev pub top : List ℕ → ℕ
top [] = 0
top (t ∷ ts) = t

-- ts is best among the timetables whose last minute is at most u
pub record BackBy {E : Type 0} (K : Algebra E) (u : ℕ) (vs : List (Visit E)) (ts : List ℕ) : Type 0 where
  pub serves : Within u vs ts
  pub least : (us : List ℕ) → Within u vs us → Most K (bill K vs ts) (bill K vs us)
  pub early : (us : List ℕ) → Within u vs us → Most K (bill K vs us) (bill K vs ts) → Early ts us

-- ts is best of all
pub record BestBack {E : Type 0} (K : Algebra E) (vs : List (Visit E)) (ts : List ℕ) : Type 0 where
  pub serves : (u : ℕ) × Within u vs ts
  pub least : (u : ℕ) (us : List ℕ) → Within u vs us → Most K (bill K vs ts) (bill K vs us)
  pub early : (u : ℕ) (us : List ℕ) → Within u vs us → Most K (bill K vs us) (bill K vs ts) → Early ts us

-- with x already charged for u and y for u + 1: is serving by u at most as dear as by u + 1?
abbrev pub Cheaper : {E : Type 0} → Algebra E → List (Visit E) → List ℕ → ℕ → E → E → Type 0
Cheaper K vs ms u x y = Most K (K.plus x (cost K vs ms u)) (K.plus y (cost K vs ms (u + 1)))
