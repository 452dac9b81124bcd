-- Costs that bend: the step at a minute, and the cost by minutes. Assumes nothing.
use Rattle.std.specs.Prelude.{◌≡◌, ℕ, zero, suc, ◌+◌, ◌-◌, ◌<◌, ◌≤◌, Option, Some, MatchOption, IfSome, slice_get, cond, List, [], ◌∷◌, take, drop, ℤ, pos, ◌+ℤ◌, nat_le, unsigned_abs}
use Rattle.std.specs.Int.{int_min}
use Rattle.bend_book.specs.declared.bend.Bend.{Bend}
use Rattle.bend_book.specs.declared.bend.BendHead.{BendHead}

-- the step after s and then those of the bends whose minute is at most u
abbrev pub step_after : ℤ → List Bend → ℕ → ℤ
step_after s [] u = s
step_after s (b ∷ bs) u = step_after (cond (nat_le b.minute u) b.step s) bs u

-- the step of the last bend whose minute is at most u, or 0
abbrev pub step_at : List Bend → ℕ → ℤ
step_at bs u = step_after (pos 0) bs u

-- b is the last of the bends whose minute is at most u; where there is none, each comes later
abbrev pub LastUntil : ℕ → List Bend → Option Bend → Type 0
LastUntil u bs r = MatchOption r ((k : ℕ) → IfSome (slice_get bs k) (λ b. u < b.minute))
    (λ b. (i : ℕ) × (slice_get bs i ≡ Some b) × (b.minute ≤ u) × ((k : ℕ) → i < k → IfSome (slice_get bs k) (λ b. u < b.minute)))

-- the cost n minutes after the first: at first it is start, and each minute adds the step at the minute before
abbrev pub cost_after : ℕ → List Bend → ℕ → ℕ → ℤ
cost_after start bs first zero = pos start
cost_after start bs first (suc n) = cost_after start bs first n +ℤ step_at bs (first + n)

-- the least of the costs from the first minute to n minutes after it
abbrev pub lowest_after : ℕ → List Bend → ℕ → ℕ → ℤ
lowest_after start bs first zero = pos start
lowest_after start bs first (suc n) = int_min (lowest_after start bs first n) (cost_after start bs first (suc n))

-- the bends of a head: count entries of the table beginning at entry number from
abbrev pub own_bends : List Bend → BendHead → List Bend
own_bends table h = take h.count (drop h.from table)

-- the cost at the minute t, below 0 or not
abbrev pub cost_at : BendHead → List Bend → ℕ → ℤ
cost_at h bs t = cost_after h.start bs h.first (t - h.first)

-- what the minute t costs by a head, as an amount
abbrev pub bend_penalty : List Bend → BendHead → ℕ → ℕ
bend_penalty table h t = unsigned_abs (cost_at h (own_bends table h) t)
