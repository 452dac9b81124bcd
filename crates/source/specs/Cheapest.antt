-- The earliest minute of least cost of a curve. Assumes nothing.
use Rattle.std.specs.Prelude.{◌≡◌, ℕ, ◌<◌, cond, Some, None, Option}
use Rattle.std.specs.Option.{option_map}
use Rattle.cost.specs.Algebra.{Algebra, Less, Most}
use Rattle.source.specs.Meaning.{Curve, span_of, price_of}

-- the minute m lies in the window and costs x, no minute costs less, and every earlier one costs more
pub record Cheapest {E : Type 0} (K : Algebra E) (o : Option (Curve E)) (m : ℕ) (x : E) : Type 0 where
  pub cost : price_of o m ≡ Some x
  pub least : (t : ℕ) (y : E) → price_of o t ≡ Some y → Most K x y
  pub earliest : (t : ℕ) (y : E) → price_of o t ≡ Some y → t < m → Less K x y

-- a minute with the exact cost that its value stands for
abbrev pub priced : {V E : Type 0} → (V → E) → ℕ × V → ℕ × E
priced exact p = (p.0, exact p.1)

abbrev pub exactly : {V E : Type 0} → (V → E) → Option (ℕ × V) → Option (ℕ × E)
exactly exact r = option_map (priced exact) r

-- absent exactly where the window is absent
abbrev pub CheapestOf : {E : Type 0} → Algebra E → Option (Curve E) → Option (ℕ × E) → Type 0
CheapestOf K o None = span_of o ≡ None
CheapestOf K o (Some p) = Cheapest K o p.0 p.1

-- the best minute so far, or a later minute t with its cost where that is less; a minute without a cost is passed over
abbrev pub better : {E : Type 0} → Algebra E → Option (ℕ × E) → ℕ → Option E → Option (ℕ × E)
better K best t None = best
better K None t (Some x) = Some (t, x)
better K (Some p) t (Some x) = cond (K.less x p.1) (Some (t, x)) (Some p)
