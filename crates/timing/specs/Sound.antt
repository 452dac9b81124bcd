-- What the engine asks of a line of stops: convex prices, and few and small enough that every sum is exact. Assumes nothing.
use Rattle.std.specs.Prelude.{ℕ, ◌^◌, ◌≤◌, List, [], ◌∷◌, length}
use Rattle.cost.specs.Algebra.{Algebra}
use Rattle.timing.specs.Visits.{Visit}
use Rattle.timing.specs.Convex.{Bends}

-- no price in a window has a size over 2^40
abbrev pub Small : {E : Type 0} → Algebra E → List (Visit E) → Type 0
Small K [] = Unit {0}
Small K (v ∷ vs) = ((t : ℕ) → v.first ≤ t → t ≤ v.last → K.size (v.price t) ≤ 2 ^ 40) × Small K vs

pub record Sound {E : Type 0} (K : Algebra E) (vs : List (Visit E)) : Type 0 where
  pub bends : Bends K vs
  pub small : Small K vs
  -- 1,024 prices of size 2^40 sum up to 2^50 at most
  pub few : length vs ≤ 1024
