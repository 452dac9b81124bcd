-- The law of convexity, which every penalty curve keeps. Assumes nothing.
use Rattle.std.specs.Prelude.{ℕ, ◌+◌, ◌≤◌}
use Rattle.cost.specs.Algebra.{Algebra, Most}

-- at each minute between a and b, twice f is at most the two neighbours together
abbrev pub Convex : {E : Type 0} → Algebra E → (ℕ → E) → ℕ → ℕ → Type 0
Convex K f a b = (t : ℕ) → a ≤ t → t + 2 ≤ b → Most K (K.plus (f (t + 1)) (f (t + 1))) (K.plus (f t) (f (t + 2)))
