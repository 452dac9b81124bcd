-- The plain route: a list of curve numbers and legs, what a splice makes of it, and what it means under a source. Nothing that the engine keeps. Assumes nothing.
use Rattle.std.specs.Prelude.{ℕ, ◌-◌, List, [], ◌∷◌, ◌++◌, map, take, drop, Some, None, Option}
use Rattle.cost.specs.Algebra.{Algebra}
use Rattle.source.specs.Meaning.{Curve, Meaning}
use Rattle.timing.specs.Visits.{Visit}
use Rattle.route.specs.declared.stop.Splice.{Splice}
use Rattle.route.specs.declared.stop.Splice.TheVariants.{Insert, Remove, Change}

pub record Plain : Type 0 where
  pub curve : ℕ
  pub leg : ℕ

-- the first stop, if any, with another leg
abbrev pub releg : ℕ → List Plain → List Plain
releg l [] = []
releg l (s ∷ ss) = record { curve = s.curve; leg = l } ∷ ss

-- the first stop, if any, with another curve
abbrev pub recurve : ℕ → List Plain → List Plain
recurve k [] = []
recurve k (s ∷ ss) = record { curve = k; leg = s.leg } ∷ ss

-- the stops as a splice would have them; places are counted from 1
abbrev pub spliced : Splice → List Plain → List Plain
spliced (Insert p k a b) ps = take (p - 1) ps ++ record { curve = k; leg = a } ∷ releg b (drop (p - 1) ps)
spliced (Remove p l) ps = take (p - 1) ps ++ releg l (drop p ps)
spliced (Change p k) ps = take (p - 1) ps ++ recurve k (drop (p - 1) ps)

-- the place of a splice
abbrev pub place : Splice → ℕ
place (Insert p k a b) = p
place (Remove p l) = p
place (Change p k) = p

-- a stop of a curve, reached by a leg; where the curve is closed it can't be served
abbrev pub visit : {E : Type 0} → Algebra E → Option (Curve E) → ℕ → Visit E
visit K None l = record { first = 1; last = 0; leg = l; price = λ _. K.nought }
visit K (Some c) l = record { first = c.first; last = c.last; leg = l; price = c.cost }

-- a stop under a source's meaning
abbrev pub seen : {E : Type 0} → Algebra E → Meaning E → Plain → Visit E
seen K m s = visit K (m.curve s.curve) s.leg

-- the stops under a source's meaning
abbrev pub visits : {E : Type 0} → Algebra E → Meaning E → List Plain → List (Visit E)
visits K m ps = map (seen K m) ps
