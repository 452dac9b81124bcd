-- A stop as its timing sees it: a window of minutes, the leg before it and its price at each minute. Assumes nothing.
use Rattle.std.specs.Prelude.{ℕ, Bool, cond, ◌&&◌, List, Some, None, Option, nat_le, slice_index_or}
use Rattle.cost.specs.Algebra.{Algebra}

-- served at a minute from first to last, leg minutes after the stop before it at the soonest, for price; the price outside the window means nothing
pub record Visit (E : Type 0) : Type 0 where
  pub first : ℕ
  pub last : ℕ
  pub leg : ℕ
  pub price : ℕ → E

-- no stop: its window, 1 to 0, is empty
abbrev pub nowhere : {E : Type 0} → Algebra E → Visit E
nowhere K = record { first = 1; last = 0; leg = 0; price = λ _. K.nought }

-- stop i, counted from 0
abbrev pub at : {E : Type 0} → Algebra E → List (Visit E) → ℕ → Visit E
at K vs i = slice_index_or vs i (nowhere K)

-- the first and last minute of a window; an absent one is the empty window 1 to 0
abbrev pub span : Option (ℕ × ℕ) → ℕ × ℕ
span None = (1, 0)
span (Some w) = w

abbrev pub inside : {E : Type 0} → Visit E → ℕ → Bool
inside v t = nat_le v.first t && nat_le t v.last

-- the price that a stop asks at minute t: none outside its window
abbrev pub asked : {E : Type 0} → Visit E → ℕ → Option E
asked v t = cond (inside v t) (Some (v.price t)) None
