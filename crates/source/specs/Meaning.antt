-- What a penalty source means: its curves, and the bounds and the law that they keep. Assumes nothing.
use Rattle.std.specs.Prelude.{◌≡◌, ℕ, ◌^◌, ◌≤◌, Bool, cond, ◌&&◌, Some, None, Option, nat_le}
use Rattle.cost.specs.Algebra.{Algebra}
use Rattle.cost.specs.Convex.{Convex}

-- an open curve: its window, and an exact cost at each minute of it
pub record Curve (E : Type 0) : Type 0 where
  pub first : ℕ
  pub last : ℕ
  pub cost : ℕ → E

pub record Meaning (E : Type 0) : Type 0 where
  -- None: the curve is closed
  pub curve : ℕ → Option (Curve E)
  pub peak : ℕ

-- the window of a curve, absent where it is closed
abbrev pub span_of : {E : Type 0} → Option (Curve E) → Option (ℕ × ℕ)
span_of None = None
span_of (Some c) = Some (c.first, c.last)

-- whether the window holds the minute t
abbrev pub holds : {E : Type 0} → Curve E → ℕ → Bool
holds c t = nat_le c.first t && nat_le t c.last

-- the cost of a curve at a minute, absent where it is closed or its window does not hold the minute
abbrev pub price_of : {E : Type 0} → Option (Curve E) → ℕ → Option E
price_of None t = None
price_of (Some c) t = cond (holds c t) (Some (c.cost t)) None

-- what an open curve keeps: its window within the day, the law of convexity, and no cost larger than the peak
pub record Sound {E : Type 0} (K : Algebra E) (peak : ℕ) (c : Curve E) : Type 0 where
  pub order : c.first ≤ c.last
  pub day : c.last ≤ 1440
  pub convex : Convex K c.cost c.first c.last
  pub small : (t : ℕ) → c.first ≤ t → t ≤ c.last → K.size (c.cost t) ≤ peak

-- what a source keeps: curves 0 to 63 alone can be open, each open one is sound, and the peak is at most 2^40
pub record Lawful {E : Type 0} (K : Algebra E) (m : Meaning E) : Type 0 where
  pub few : (k : ℕ) → 64 ≤ k → m.curve k ≡ None
  pub sound : (k : ℕ) (c : Curve E) → m.curve k ≡ Some c → Sound K m.peak c
  pub high : m.peak ≤ 2 ^ 40
