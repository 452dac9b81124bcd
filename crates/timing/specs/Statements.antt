-- What is proved of every line of stops over every lawful kind of costs. (A clause holds facts of Type 0, so each statement takes the kind, and the function that promises it is generic.) Assumes nothing.
use Rattle.std.specs.Prelude.{◌≡◌, ℕ, suc, ◌+◌, ◌^◌, ◌<◌, ◌≤◌, Bool, true, ◌↔◌, List, length, take, Option}
use Rattle.cost.specs.Algebra.{Algebra, Most}
use Rattle.timing.specs.Visits.{Visit}
use Rattle.timing.specs.Convex.{Bends}
use Rattle.timing.specs.Timetables.{Timetable, Feasible}
use Rattle.timing.specs.Best.{Best, BestBy, Ends, final}
use Rattle.timing.specs.Marks.{Mark, Marks}
use Rattle.timing.specs.Reach.{Reaches, Blocked, missed}
use Rattle.timing.specs.Minutes.{minutes, latest}
use Rattle.timing.specs.Moving.{block}
use Rattle.timing.specs.Halving.{halve}

-- when there is a timetable, and which stop is the first up to which there is none
pub record Existence (E : Type 0) : Type 0 where
  -- there is one exactly where serving each stop as soon as it can be reached keeps every window
  pub exists : (vs : List (Visit E)) → Feasible vs ↔ Reaches 0 vs
  -- the first stop that is then past its window is the first blocked one
  pub first : (vs : List (Visit E)) → Blocked vs (missed 0 vs 1)
  pub one : (vs : List (Visit E)) (r s : Option ℕ) → Blocked vs r → Blocked vs s → r ≡ s

-- stops that have a timetable have exactly one best timetable, and exactly one list of marks
pub record OneBest {E : Type 0} (K : Algebra E) : Type 0 where
  pub there : (vs : List (Visit E)) → Bends K vs → Feasible vs → (ts : List ℕ) × Best K vs ts
  pub one : (vs : List (Visit E)) (ts us : List ℕ) → Best K vs ts → Best K vs us → ts ≡ us
  pub marked : (vs : List (Visit E)) → Bends K vs → Feasible vs → (ms : List ℕ) × Marks K vs ms
  pub mark_one : (vs : List (Visit E)) (i s t : ℕ) → Mark K vs i s → Mark K vs i t → s ≡ t
  pub marks_one : (vs : List (Visit E)) (ms ns : List ℕ) → Marks K vs ms → Marks K vs ns → ms ≡ ns

-- the marks give the best timetable
pub record FromMarks {E : Type 0} (K : Algebra E) : Type 0 where
  pub best : (vs : List (Visit E)) (ms : List ℕ) → Bends K vs → Marks K vs ms → Best K vs (minutes vs ms)
  -- and the best of those that end by u, where there are such
  pub bounded : (u : ℕ) (vs : List (Visit E)) (ms us : List ℕ) → Bends K vs → Marks K vs ms → Timetable vs us → final 0 us ≤ u → BestBy K u vs (latest vs ms u)

-- a mark depends on the stops up to it alone
pub record FrontAlone {E : Type 0} (K : Algebra E) : Type 0 where
  pub mark : (vs ws : List (Visit E)) (i t : ℕ) → take (suc i) vs ≡ take (suc i) ws → Mark K vs i t → Mark K ws i t
  pub marks : (vs : List (Visit E)) (ms : List ℕ) (n : ℕ) → Marks K vs ms → Marks K (take n vs) (take n ms)

-- how a mark is found
pub record Search {E : Type 0} (K : Algebra E) : Type 0 where
  -- ending at t costs at most what ending at t + 1 costs exactly if the best timetable ends at t or before
  pub tells : (vs : List (Visit E)) (ts : List ℕ) (t : ℕ) (c d : E) → Bends K vs → Best K vs ts → Ends K vs t c → Ends K vs (t + 1) d → Most K c d ↔ (final 0 ts ≤ t)
  -- so once a minute later is no cheaper, it stays so
  pub once : (vs : List (Visit E)) (t s : ℕ) (c d e f : E) → Bends K vs → Ends K vs t c → Ends K vs (t + 1) d → Ends K vs s e → Ends K vs (s + 1) f → t ≤ s → Most K c d → Most K e f
  -- and n comparisons find the last minute of the best timetable among at most 2^n
  pub halves : (vs : List (Visit E)) (ts : List ℕ) (test : ℕ → Bool) (n a b : ℕ) → Bends K vs → Best K vs ts → a ≤ final 0 ts → final 0 ts ≤ b → b < a + 2 ^ n →
      ((t : ℕ) → a ≤ t → t < b → (c : E) × (d : E) × Ends K vs t c × Ends K vs (t + 1) d × ((test t ≡ true) ↔ Most K c d)) → halve test n a b ≡ final 0 ts
  -- for each comparison the block of stops that move is enough
  pub moves : (vs : List (Visit E)) (ms : List ℕ) (t : ℕ) (c d : E) → Bends K vs → length ms < length vs → Marks K (take (length ms) vs) ms → Ends K (take (suc (length ms)) vs) t c → Ends K (take (suc (length ms)) vs) (t + 1) d → Most K c d ↔ Most K (block K vs ms t).0 (block K vs ms t).1
