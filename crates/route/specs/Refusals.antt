-- The numbers and the texts of the refusals, and how a list of examinations is gone through. Assumes nothing.
use Rattle.std.specs.Prelude.{ℕ, Bool, cond, List, [], ◌∷◌, ◌++◌, Some, None, Ok, Err, Option, Result, codes, decimal}
use Rattle.route.specs.declared.stop.Refusal.{Refusal}
use Rattle.route.specs.declared.stop.Refusal.TheVariants.{Place, Full, Curve, Leg, NoTimetable}

-- the number under which a refusal is told
abbrev pub number : Refusal → ℕ
number Place = 1
number Full = 2
number Curve = 3
number Leg = 4
number (NoTimetable stop) = 5

-- the stop that a refusal names, if any
abbrev pub named : Refusal → Option ℕ
named Place = None
named Full = None
named Curve = None
named Leg = None
named (NoTimetable stop) = Some stop

-- a stop that is named, as it is printed behind the number
abbrev pub named_text : Option ℕ → List ℕ
named_text None = []
named_text (Some stop) = codes " stop " ++ decimal stop

-- a refusal as it is printed: its number, and the stop that it names
abbrev pub refusal_text : Refusal → List ℕ
refusal_text r = decimal (number r) ++ named_text (named r)

-- the number of the refusal, if a call is refused
abbrev pub refused_by : {A : Type 0} → Result A Refusal → Option ℕ
refused_by (Ok x) = None
refused_by (Err r) = Some (number r)

-- of examinations in order, each a test that speaks against the call and the number of its refusal: the first that fits
abbrev pub first_of : List (Bool × ℕ) → Option ℕ
first_of [] = None
first_of (x ∷ xs) = cond x.0 (Some x.1) (first_of xs)
