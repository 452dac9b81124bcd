-- Which stops move when the last stop is served a minute later, and what they cost. Assumes nothing.
use Rattle.std.specs.Prelude.{ℕ, ◌+◌, ◌-◌, cond, List, [], ◌∷◌, reverse, length, take, nat_le}
use Rattle.cost.specs.Algebra.{Algebra}
use Rattle.timing.specs.Visits.{Visit, at}

-- the first j, the last of them first
abbrev pub back : {A : Type 0} → List A → ℕ → List A
back xs j = reverse (take j xs)

-- from the last stop back while the marks lie later than the minute u: the prices of those stops added to x, and to y a minute later
abbrev pub walk : {E : Type 0} → Algebra E → List (Visit E) → List ℕ → ℕ → E → E → E × E
walk K [] ms u x y = (x, y)
walk K (v ∷ vs) [] u x y = (x, y)
walk K (v ∷ vs) (m ∷ ms) u x y = cond (nat_le m u) (x, y) (walk K vs ms (u - v.leg) (K.plus x (v.price u)) (K.plus y (v.price (u + 1))))

-- the block of stops that move with the first stop without a mark: what they cost with that one at t, and at t + 1
abbrev pub block : {E : Type 0} → Algebra E → List (Visit E) → List ℕ → ℕ → E × E
block K vs ms t = walk K (back vs (length ms)) (back ms (length ms)) (t - (at K vs (length ms)).leg) ((at K vs (length ms)).price t) ((at K vs (length ms)).price (t + 1))
