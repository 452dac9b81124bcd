-- How a splice on the plain route is answered, and what it leaves. Assumes nothing.
use Rattle.std.specs.Prelude.{◌≡◌, ℕ, ◌+◌, Bool, not, ◌||◌, List, [], ◌∷◌, length, is_some, Some, None, Ok, Err, Option, Result, nat_le, nat_lt}
use Rattle.cost.specs.Algebra.{Algebra}
use Rattle.source.specs.Meaning.{Meaning, span_of}
use Rattle.timing.specs.Timetables.{Feasible}
use Rattle.timing.specs.Reach.{BlockedAt}
use Rattle.route.specs.declared.stop.Splice.{Splice}
use Rattle.route.specs.declared.stop.Splice.TheVariants.{Insert, Remove, Change}
use Rattle.route.specs.declared.stop.Refusal.{Refusal}
use Rattle.route.specs.declared.stop.Refusal.TheVariants.{Place, Full, Curve, Leg, NoTimetable}
use Rattle.route.specs.Refusals.{number, first_of}
use Rattle.route.specs.Plain.{Plain, spliced, visits}

-- the place p is none of 1 to n
abbrev pub outside : ℕ → ℕ → Bool
outside p n = nat_lt p 1 || nat_lt n p

-- the window of the curve k is absent
abbrev pub closed : {E : Type 0} → Meaning E → ℕ → Bool
closed m k = not (is_some (span_of (m.curve k)))

abbrev pub long : ℕ → Bool
long leg = nat_lt 600 leg

-- what is examined before a timetable is asked for, in order, each with the number of its refusal
abbrev pub examined : {E : Type 0} → Meaning E → ℕ → Splice → List (Bool × ℕ)
examined m n (Insert p k a b) = (outside p (n + 1), number Place) ∷ (nat_le 64 n, number Full) ∷ (closed m k, number Curve) ∷ (long a || long b, number Leg) ∷ []
examined m n (Remove p l) = (outside p n, number Place) ∷ (long l, number Leg) ∷ []
examined m n (Change p k) = (outside p n, number Place) ∷ (closed m k, number Curve) ∷ []

-- the number of the first refusal that fits, if any
abbrev pub objection : {E : Type 0} → Meaning E → List Plain → Splice → Option ℕ
objection m ps s = first_of (examined m (length ps) s)

-- accepted, or refused by a case of the enum
abbrev pub Answer : Type 0
Answer = Result (Unit {0}) Refusal

-- on the stops ps the splice s is answered so, and leaves the stops qs
pub data Judged {E : Type 0} (K : Algebra E) (m : Meaning E) (ps : List Plain) (s : Splice) : Answer → List Plain → Type 0 where
  -- an examination speaks against it: the stops stay
  refused : (r : Refusal) → objection m ps s ≡ Some (number r) → Judged K m ps s (Err r) ps
  -- the stops that it would make have no timetable: the first stop up to which there is none is named, and the stops stay
  blocked : (f : ℕ) → objection m ps s ≡ None → BlockedAt (visits K m (spliced s ps)) f → Judged K m ps s (Err (NoTimetable f)) ps
  accepted : objection m ps s ≡ None → Feasible (visits K m (spliced s ps)) → Judged K m ps s (Ok tt) (spliced s ps)

-- a list of splices, one after another, on the stops ps, is answered by rs and leaves the stops qs
abbrev pub Runs : {E : Type 0} → Algebra E → Meaning E → List Plain → List Splice → List Answer → List Plain → Type 0
Runs K m ps [] [] qs = qs ≡ ps
Runs K m ps [] (r ∷ rs) qs = ⊥
Runs K m ps (s ∷ ss) [] qs = ⊥
Runs K m ps (s ∷ ss) (r ∷ rs) qs = (mid : List Plain) × Judged K m ps s r mid × Runs K m mid ss rs qs
