-- The stop table that the engine keeps, and what it owes. Assumes nothing.
use Rattle.std.specs.Prelude.{ℕ, ◌≤◌, ⊤, List, [], ◌∷◌, map}
use Rattle.cost.specs.Algebra.{Algebra}
use Rattle.source.specs.Meaning.{Meaning}
use Rattle.timing.specs.Visits.{Visit}
use Rattle.timing.specs.Marks.{Marks}
use Rattle.route.specs.declared.stop.Stop.{Stop}
use Rattle.route.specs.Plain.{Plain, visits}

abbrev pub plain : Stop → Plain
plain s = record { curve = s.curve; leg = s.leg }

-- the plain route that the table stands for
abbrev pub plains : List Stop → List Plain
plains ss = map plain ss

abbrev pub mark : Stop → ℕ
mark s = s.mark

abbrev pub marks : List Stop → List ℕ
marks ss = map mark ss

-- the stops of the table as the timing sees them
abbrev pub line : {E : Type 0} → Algebra E → Meaning E → List Stop → List (Visit E)
line K m ss = visits K m (plains ss)

-- no stop has a leg of more than 600 minutes
abbrev pub Short : List Plain → Type 0
Short [] = ⊤
Short (p ∷ ps) = (p.leg ≤ 600) × Short ps

-- every mark in the table is the one that the definition of a mark gives
abbrev pub Marked : {E : Type 0} → Algebra E → Meaning E → List Stop → Type 0
Marked K m ss = Marks K (line K m ss) (marks ss)
