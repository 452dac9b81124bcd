-- The whole guarantee: what is read after any list of splices. Assumes nothing.
use Rattle.std.specs.Prelude.{◌≡◌, ℕ, ◌-◌, List, [], ◌∷◌, ◌++◌, map, length, take, Ok, Result}
use Rattle.cost.specs.Algebra.{Algebra}
use Rattle.source.specs.Meaning.{Meaning}
use Rattle.timing.specs.Timetables.{bill}
use Rattle.timing.specs.Best.{Best}
use Rattle.timing.specs.Marks.{Marks}
use Rattle.timing.specs.Minutes.{minutes}
use Rattle.route.specs.declared.stop.Facts.{Facts}
use Rattle.route.specs.declared.stop.Splice.{Splice}
use Rattle.route.specs.declared.stop.Refusal.{Refusal}
use Rattle.route.specs.Plain.{Plain, place, visits}
use Rattle.route.specs.Judged.{Answer, Runs}
use Rattle.route.specs.Joins.{JoinJudged}

-- the curve and the leg that a stop's facts tell
abbrev pub told : Facts → Plain
told f = record { curve = f.curve; leg = f.leg }

abbrev pub told_mark : Facts → ℕ
told_mark f = f.mark

abbrev pub told_minute : Facts → ℕ
told_minute f = f.minute

-- after the splices ss on an empty route over a source of meaning m: the answers rs, then the stop count n, the facts fs of all stops and the cost c, as they are read
pub record Read {E : Type 0} (K : Algebra E) (m : Meaning E) (ss : List Splice) (rs : List Answer) (n : ℕ) (fs : List Facts) (c : E) : Type 0 where
  -- every splice was answered as by the plain route, and the curves and legs read are those of the plain route
  pub runs : Runs K m [] ss rs (map told fs)
  pub count : n ≡ length fs
  -- each mark read is the one that the definition of a mark gives
  pub marked : Marks K (visits K m (map told fs)) (map told_mark fs)
  -- of all timetables of the plain route, the one read has the least cost, and is at each stop no later than any other as cheap
  pub best : Best K (visits K m (map told fs)) (map told_minute fs)
  -- the cost read beside it is that cost
  pub least : bill K (visits K m (map told fs)) (map told_minute fs) ≡ c
  -- the last stop is served at its mark, every other at the earlier of its mark and the next stop's minute less the leg between
  pub served : map told_minute fs ≡ minutes (visits K m (map told fs)) (map told_mark fs)

-- one further accepted splice leaves the marks before its place untouched
abbrev pub Steady : {E : Type 0} → Algebra E → Meaning E → List Splice → List Answer → List Facts → Type 0
Steady {E} K m ss rs fs =
    (s : Splice) (k : ℕ) (gs : List Facts) (d : E) → Read K m (ss ++ (s ∷ [])) (rs ++ (Ok tt ∷ [])) k gs d → take (place s - 1) (map told_mark gs) ≡ take (place s - 1) (map told_mark fs)

-- two routes, each opened empty over its own source, spliced and read, and then joined
pub record Whole {E : Type 0} (K : Algebra E)
    (m : Meaning E) (ss : List Splice) (rs : List Answer) (k : ℕ) (fs : List Facts) (c : E)
    (n : Meaning E) (ts : List Splice) (qs : List Answer) (l : ℕ) (gs : List Facts) (d : E)
    (i leg j : ℕ) (joined : Result E Refusal) : Type 0 where
  pub first : Read K m ss rs k fs c
  pub first_steady : Steady K m ss rs fs
  pub second : Read K n ts qs l gs d
  pub second_steady : Steady K n ts qs gs
  -- the join answers the least cost of all timetables of the joined plain routes, or is refused by its number
  pub join : JoinJudged K m (map told fs) i leg n (map told gs) j joined
