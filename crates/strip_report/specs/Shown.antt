-- What is read of a route after the calls of a strip, and its report. Assumes nothing.
use Rattle.std.specs.Prelude.{◌≡◌, ℕ, List, [], map, length, Result}
use Rattle.cost.specs.Algebra.{Algebra}
use Rattle.source.specs.Meaning.{Meaning}
use Rattle.timing.specs.Best.{Best}
use Rattle.route.specs.declared.stop.Stop.{Stop}
use Rattle.route.specs.declared.stop.Facts.{Facts}
use Rattle.route.specs.declared.stop.Splice.{Splice}
use Rattle.route.specs.Table.{plains, line}
use Rattle.route.specs.Calls.{timed, route_facts}
use Rattle.route.specs.Joins.{Least}
use Rattle.route.specs.Guarantee.{told, Read, Steady}
use Rattle.report.specs.Reports.{report_text}
use Rattle.reader.specs.declared.faults.Fault.{Fault}
use Rattle.reader.specs.Running.{begin, Calls}
use Rattle.reader.specs.CallLaws.{answers_in, RunsExactly}

-- on an empty route over a source of meaning m the calls of a strip from a byte on are answered r, and then the facts fs of all stops and the cost c are read
pub record StripRead {E : Type 0} (K : Algebra E) (m : Meaning E) (strip : List ℕ) (from : ℕ) (r : Result ℕ Fault) (fs : List Facts) (c : E) : Type 0 where
  -- the calls are made one after another, up to the strip's end or to the first fault, and the facts tell the stops that they leave
  pub calls : Calls K m strip (begin from) [] r (map told fs)
  -- they are the calls that the bytes spell
  pub exact : RunsExactly K m strip from [] r (map told fs)
  -- they count as splices, so the whole guarantee holds of what is read
  pub splices : List Splice
  pub read : Read K m splices (answers_in r) (length fs) fs c
  pub steady : Steady K m splices (answers_in r) fs

-- the report of what is then read, by the text of a written kind
pub record StripReport {E : Type 0} (K : Algebra E) (text : E → List ℕ) (m : Meaning E) (strip : List ℕ) (from : ℕ) (r : Result ℕ Fault) (report : List ℕ) : Type 0 where
  pub facts : List Facts
  pub cost : E
  pub read : StripRead K m strip from r facts cost
  pub written : report ≡ report_text facts (text cost)

-- words for the functions that make it

-- the bytes are the report of the stops ss, whose marks are right
pub record ReportOf {E : Type 0} (K : Algebra E) (text : E → List ℕ) (m : Meaning E) (ss : List Stop) (bytes : List ℕ) : Type 0 where
  pub cost : E
  pub least : Least K (line K m ss) cost
  pub best : Best K (line K m ss) (timed K m ss)
  pub written : bytes ≡ report_text (route_facts K m ss) (text cost)

-- such a report, and the route of which it was made: it keeps the source y and the stops us
pub record Shows {X E : Type 0} (K : Algebra E) (text : E → List ℕ) (M : X → Meaning E) (x : X) (strip : List ℕ) (from : ℕ) (r : Result ℕ Fault) (report : List ℕ) (y : X) (us : List Stop) : Type 0 where
  pub source : y ≡ x
  pub told_by : StripReport K text (M x) strip from r report
  pub stops : plains us ≡ map told told_by.facts
