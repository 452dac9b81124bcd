-- How soon the stops can be reached, and the first that can't be. Assumes nothing.
use Rattle.std.specs.Prelude.{ℕ, ◌+◌, ◌-◌, ◌≤◌, min, max, cond, List, [], ◌∷◌, length, take, Some, None, Option, nat_le}
use Rattle.timing.specs.Visits.{Visit}
use Rattle.timing.specs.Timetables.{Timetable, Feasible}

-- the soonest minute of a stop, where the one before it is left at minute p
abbrev pub soon : {E : Type 0} → ℕ → Visit E → ℕ
soon p v = max v.first (p + v.leg)

-- served each as soon as it can be reached, every stop is within its window
abbrev pub Reaches : {E : Type 0} → ℕ → List (Visit E) → Type 0
Reaches p [] = Unit {0}
Reaches p (v ∷ vs) = (soon p v ≤ v.last) × Reaches (soon p v) vs

-- the first stop, numbered from n, that is then past its window
abbrev pub missed : {E : Type 0} → ℕ → List (Visit E) → ℕ → Option ℕ
missed p [] n = None
missed p (v ∷ vs) n = cond (nat_le (soon p v) v.last) (missed (soon p v) vs (n + 1)) (Some n)

-- the soonest minute of the last stop
abbrev pub arrive : {E : Type 0} → ℕ → List (Visit E) → ℕ
arrive p [] = p
arrive p (v ∷ vs) = arrive (soon p v) vs

-- the soonest minute of the last of the first n stops, as far as 16 bits count
abbrev pub reached : {E : Type 0} → List (Visit E) → ℕ → ℕ
reached vs n = min (arrive 0 (take n vs)) 65535

-- that minute of stop v, if it is in the window
abbrev pub served : {E : Type 0} → ℕ → Visit E → Option ℕ
served p v = cond (nat_le (soon p v) v.last) (Some (soon p v)) None

-- the stop numbered f, counted from 1, is the first up to which no timetable exists
pub record BlockedAt {E : Type 0} (vs : List (Visit E)) (f : ℕ) : Type 0 where
  pub from : 1 ≤ f
  pub to : f ≤ length vs
  pub before : Feasible (take (f - 1) vs)
  pub none : (ts : List ℕ) → Timetable (take f vs) ts → ⊥

-- no stop is blocked, and there is a timetable; or the first blocked one is named
abbrev pub Blocked : {E : Type 0} → List (Visit E) → Option ℕ → Type 0
Blocked vs None = Feasible vs
Blocked vs (Some f) = BlockedAt vs f
