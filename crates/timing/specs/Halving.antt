-- Search by halving for the first minute at which a test holds. Assumes nothing.
use Rattle.std.specs.Prelude.{ℕ, zero, suc, ◌+◌, ◌-◌, ◌/◌, Bool, cond, nat_lt}

abbrev pub middle : ℕ → ℕ → ℕ
middle a b = a + (b - a) / 2

-- up to n times: go on with the half of the minutes a to b in which the test turns
abbrev pub halve : (ℕ → Bool) → ℕ → ℕ → ℕ → ℕ
halve test zero a b = a
halve test (suc n) a b = cond (nat_lt a b) (cond (test (middle a b)) (halve test n a (middle a b)) (halve test n (middle a b + 1) b)) a
