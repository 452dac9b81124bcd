-- Two routes joined. Assumes nothing.
use Rattle.std.specs.Prelude.{◌≡◌, ℕ, ◌+◌, ◌-◌, ◌||◌, List, [], ◌∷◌, ◌++◌, length, take, drop, Some, None, Ok, Err, Option, Result, nat_lt}
use Rattle.cost.specs.Algebra.{Algebra}
use Rattle.source.specs.Meaning.{Meaning}
use Rattle.timing.specs.Visits.{Visit}
use Rattle.timing.specs.Timetables.{bill}
use Rattle.timing.specs.Best.{Best}
use Rattle.timing.specs.Reach.{BlockedAt}
use Rattle.route.specs.declared.stop.Refusal.{Refusal}
use Rattle.route.specs.declared.stop.Refusal.TheVariants.{Place, Leg, NoTimetable}
use Rattle.route.specs.Refusals.{number, first_of}
use Rattle.route.specs.Plain.{Plain, visits, releg}
use Rattle.route.specs.Judged.{outside, long}

-- c is the cost of the best timetable
pub record Least {E : Type 0} (K : Algebra E) (vs : List (Visit E)) (c : E) : Type 0 where
  pub minutes : List ℕ
  pub best : Best K vs minutes
  pub cost : bill K vs minutes ≡ c

-- the first i stops of one route, then the stops of the other from place j on, the first of these by another leg; each under its own source's meaning
abbrev pub joined : {E : Type 0} → Algebra E → Meaning E → List Plain → ℕ → ℕ → Meaning E → List Plain → ℕ → List (Visit E)
joined K m ps i leg n qs j = visits K m (take i ps) ++ visits K n (releg leg (drop (j - 1) qs))

-- what is examined of a join before a timetable is asked for
abbrev pub objection_to_join : ℕ → ℕ → ℕ → ℕ → ℕ → Option ℕ
objection_to_join front i leg back j = first_of ((nat_lt front i || outside j (back + 1), number Place) ∷ (long leg, number Leg) ∷ [])

-- the join of the stops ps and qs is answered so
pub data JoinJudged {E : Type 0} (K : Algebra E) (m : Meaning E) (ps : List Plain) (i leg : ℕ) (n : Meaning E) (qs : List Plain) (j : ℕ) : Result E Refusal → Type 0 where
  refused : (r : Refusal) → objection_to_join (length ps) i leg (length qs) j ≡ Some (number r) → JoinJudged K m ps i leg n qs j (Err r)
  blocked : (f : ℕ) → objection_to_join (length ps) i leg (length qs) j ≡ None → BlockedAt (joined K m ps i leg n qs j) f → JoinJudged K m ps i leg n qs j (Err (NoTimetable f))
  accepted : (c : E) → objection_to_join (length ps) i leg (length qs) j ≡ None → Least K (joined K m ps i leg n qs j) c → JoinJudged K m ps i leg n qs j (Ok c)

-- the exact cost that an answered value stands for
abbrev pub exactly : {V E R : Type 0} → (V → E) → Result V R → Result E R
exactly exact (Ok v) = Ok (exact v)
exactly exact (Err r) = Err r
