-- What the calls on a route leave in its stop table. Assumes nothing.
use Rattle.std.specs.Prelude.{◌≡◌, ℕ, ◌-◌, ◌≤◌, true, cond, List, [], ◌∷◌, length, take, is_err, Ok, Err, Result, slice_index, slice_index_or}
use Rattle.cost.specs.Algebra.{Algebra}
use Rattle.source.specs.Meaning.{Meaning}
use Rattle.timing.specs.Timetables.{Feasible}
use Rattle.timing.specs.Marks.{Marks}
use Rattle.timing.specs.Minutes.{minutes}
use Rattle.route.specs.declared.stop.Stop.{Stop}
use Rattle.route.specs.declared.stop.Facts.{Facts}
use Rattle.route.specs.declared.stop.Splice.{Splice}
use Rattle.route.specs.declared.stop.Refusal.{Refusal}
use Rattle.route.specs.declared.stop.Refusal.TheVariants.{Place}
use Rattle.route.specs.Plain.{Plain, spliced, place}
use Rattle.route.specs.Table.{plains, marks, line, Marked}
use Rattle.route.specs.Judged.{Answer, Judged, outside}

-- on the table ss, over a source of meaning m, the splice s is answered r and leaves the table ts
pub record Spliced {E : Type 0} (K : Algebra E) (m : Meaning E) (ss : List Stop) (s : Splice) (r : Answer) (ts : List Stop) : Type 0 where
  -- as on the plain route
  pub judged : Judged K m (plains ss) s r (plains ts)
  -- right marks stay right
  pub marked : Marked K m ss → Marked K m ts
  -- the marks before the place stay as they are, right or not
  pub front : take (place s - 1) (marks ts) ≡ take (place s - 1) (marks ss)
  -- a refused splice leaves the whole table, marks and all
  pub stays : is_err r ≡ true → ts ≡ ss

-- the plain stops that an answer leaves
abbrev pub left : Answer → Splice → List Plain → List Plain
left (Ok x) s ps = spliced s ps
left (Err r) s ps = ps

-- the table us has the stops that the splice s makes of those of ss, and the marks before its place
pub record Altered (ss : List Stop) (s : Splice) (us : List Stop) : Type 0 where
  pub stops : plains us ≡ spliced s (plains ss)
  pub front : take (place s - 1) (marks us) ≡ take (place s - 1) (marks ss)

-- of the table us the marks from stop number i on, counted from 0, were found anew: where the stops have a timetable and the marks before were right, all are right in ts
pub record Refreshed {E : Type 0} (K : Algebra E) (m : Meaning E) (i : ℕ) (us ts : List Stop) : Type 0 where
  pub stops : plains ts ≡ plains us
  pub front : take i (marks ts) ≡ take i (marks us)
  pub marked : Feasible (line K m us) → i ≤ length us → Marks K (take i (line K m us)) (take i (marks us)) → Marked K m ts

-- the stops with other marks, as far as there are any
abbrev pub remarked : List Stop → List ℕ → List Stop
remarked [] ms = []
remarked (s ∷ ss) [] = s ∷ ss
remarked (s ∷ ss) (t ∷ ms) = record { curve = s.curve; leg = s.leg; mark = t } ∷ remarked ss ms

-- no stop
abbrev pub blank : Stop
blank = record { curve = 0; leg = 0; mark = 0 }

-- what is told of a stop that is served at a minute
abbrev pub facts_of : Stop → ℕ → Facts
facts_of s t = record { curve = s.curve; leg = s.leg; mark = s.mark; minute = t }

-- the facts of the stop at a place, where the stops ss are served at the minutes ts
abbrev pub facts_at : List Stop → List ℕ → ℕ → Result Facts Refusal
facts_at ss ts p = cond (outside p (length ss)) (Err Place) (Ok (facts_of (slice_index_or ss (p - 1) blank) (slice_index ts (p - 1))))

-- the minutes that the marks in the table give
abbrev pub timed : {E : Type 0} → Algebra E → Meaning E → List Stop → List ℕ
timed K m ss = minutes (line K m ss) (marks ss)

-- what is told of the stops ss, served at the minutes ts
abbrev pub all_facts : List Stop → List ℕ → List Facts
all_facts [] ts = []
all_facts (s ∷ ss) [] = []
all_facts (s ∷ ss) (t ∷ ts) = facts_of s t ∷ all_facts ss ts

-- what is told of the stops ss of a route over a source of meaning m
abbrev pub route_facts : {E : Type 0} → Algebra E → Meaning E → List Stop → List Facts
route_facts K m ss = all_facts ss (timed K m ss)
