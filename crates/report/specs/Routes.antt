-- The report of a route. Assumes nothing.
use Rattle.std.specs.Prelude.{◌≡◌, ℕ, ◌≤◌, List, length, Result}
use Rattle.cost.specs.Algebra.{Algebra}
use Rattle.cost.specs.Texts.{laid}
use Rattle.source.specs.Meaning.{Meaning}
use Rattle.timing.specs.Best.{Best}
use Rattle.route.specs.declared.stop.Stop.{Stop}
use Rattle.route.specs.Table.{line}
use Rattle.route.specs.Calls.{timed, route_facts}
use Rattle.route.specs.Joins.{Least}
use Rattle.report.specs.declared.refusal.ReportRefusal.{ReportRefusal}
use Rattle.report.specs.Refusals.{answer}
use Rattle.report.specs.Reports.{report_text}
use Rattle.report.specs.Bounds.{longest_report}

-- the report of the stops ss over a source of meaning m is written into a buffer that held the bytes entry and then holds exit
pub record Reported {E : Type 0} (K : Algebra E) (text : E → List ℕ) (longest : ℕ) (m : Meaning E) (ss : List Stop) (entry exit : List ℕ) (r : Result ℕ ReportRefusal) : Type 0 where
  -- the exact cost whose text is written: the least one
  pub cost : E
  pub least : Least K (line K m ss) cost
  -- the minutes written are those of the best timetable
  pub best : Best K (line K m ss) (timed K m ss)
  -- the report's length is answered, or it is refused where it is longer than the buffer
  pub answered : r ≡ answer (length (report_text (route_facts K m ss) (text cost))) (length entry)
  -- the buffer holds the report and stays past it, or stays as it was
  pub bytes : exit ≡ laid entry 0 (report_text (route_facts K m ss) (text cost))
  -- the report is no longer than this
  pub bound : length (report_text (route_facts K m ss) (text cost)) ≤ longest_report longest
