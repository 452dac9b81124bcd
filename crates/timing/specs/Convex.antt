-- The law that the prices keep: over its window, each stop's price is convex. Assumes nothing.
use Rattle.std.specs.Prelude.{List, [], ◌∷◌}
use Rattle.cost.specs.Algebra.{Algebra}
use Rattle.cost.specs.Convex.{Convex}
use Rattle.timing.specs.Visits.{Visit}

abbrev pub Bends : {E : Type 0} → Algebra E → List (Visit E) → Type 0
Bends K [] = Unit {0}
Bends K (v ∷ vs) = Convex K v.price v.first v.last × Bends K vs
