-- What is printed of two strips and the join of their routes. Assumes nothing.
use Rattle.std.specs.Prelude.{◌≡◌, ℕ, List, [], ◌∷◌, ◌++◌, map, length, Ok, Err, codes, decimal, Result}
use Rattle.cost.specs.declared.amount.Amount.{Amount}
use Rattle.cost.specs.Amounts.{whole}
use Rattle.source.specs.declared.due.DueRow.{DueRow}
use Rattle.source.specs.Due.{due_meaning}
use Rattle.route.specs.declared.stop.Refusal.{Refusal}
use Rattle.route.specs.Plain.{Plain}
use Rattle.route.specs.Joins.{joined, JoinJudged, exactly}
use Rattle.route.specs.Guarantee.{told}
use Rattle.reader.specs.declared.faults.Fault.{Fault}
use Rattle.reader.specs.declared.rows.RowsRead.{RowsRead}
use Rattle.reader.specs.Reading.{rows_answer}
use Rattle.reader.specs.Exactly.{Holds}
use Rattle.reader.specs.FaultLine.{fault_line, refusal_line}
use Rattle.strip_report.specs.Shown.{StripReport}
use Rattle.strip_report.specs.Printed.{heading, ending}

-- under a strip's report: the fault at which its calls ended, if any
abbrev pub fault_in : Result ℕ Fault → List ℕ
fault_in r = ending [] r

abbrev pub joined_text : ℕ → ℕ → List ℕ
joined_text n c = codes "joined " ++ (decimal n ++ (10 ∷ (codes "least " ++ (decimal c ++ (10 ∷ [])))))

-- how many stops are joined, and the least cost; or why there is no join
abbrev pub join_lines : ℕ → Result ℕ Refusal → List ℕ
join_lines n (Ok c) = joined_text n c
join_lines n (Err r) = refusal_line r

-- a heading, the report of a strip, and its fault
abbrev pub half_text : List ℕ → List ℕ → Result ℕ Fault → List ℕ
half_text word report r = heading word ++ (report ++ fault_in r)

abbrev pub join_text : List ℕ → Result ℕ Fault → List ℕ → Result ℕ Fault → List ℕ → List ℕ
join_text first r second s last = half_text (codes "first") first r ++ (half_text (codes "second") second s ++ last)

-- a strip that holds these rows, and calls from a byte on, by money: how the calls were answered, and the report
pub record MoneyReport (strip : List ℕ) (rows : List DueRow) (from : ℕ) : Type 0 where
  pub answer : Result ℕ Fault
  pub report : List ℕ
  pub told_by : StripReport whole decimal (due_meaning rows) strip from answer report

-- the stops that its calls leave
abbrev pub stops_of : {strip : List ℕ} {rows : List DueRow} {from : ℕ} → MoneyReport strip rows from → List Plain
stops_of r = map told r.told_by.facts

-- what is printed of two such strips, and of the join of the stops that they leave
pub record JoinReports (strip : List ℕ) (rows : List DueRow) (from i leg : ℕ) (other : List ℕ) (more : List DueRow) (at j : ℕ) (text : List ℕ) : Type 0 where
  pub first : MoneyReport strip rows from
  pub second : MoneyReport other more at
  -- the join answers the least cost of all timetables of the joined stops, or is refused
  pub result : Result ℕ Refusal
  pub judged : JoinJudged whole (due_meaning rows) (stops_of first) i leg (due_meaning more) (stops_of second) j result
  pub written : text
      ≡ join_text first.report first.answer second.report second.answer
      (join_lines (length (joined whole (due_meaning rows) (stops_of first) i leg (due_meaning more) (stops_of second) j)) result)

-- by what reading the rows of both answers: the reports and the join, or the first fault alone
abbrev pub JoinPrintedBy : List ℕ → ℕ → ℕ → List ℕ → ℕ → Result RowsRead Fault → Result RowsRead Fault → List ℕ → Type 0
JoinPrintedBy strip i leg other j (Ok got) (Ok too) text =
    (rows : List DueRow) × (more : List DueRow) × Holds strip rows got.calls × Holds other more too.calls × JoinReports strip rows got.calls i leg other more too.calls j text
JoinPrintedBy strip i leg other j (Ok got) (Err fault) text = text ≡ fault_line fault
JoinPrintedBy strip i leg other j (Err fault) too text = text ≡ fault_line fault

abbrev pub JoinPrinted : List ℕ → ℕ → ℕ → List ℕ → ℕ → List ℕ → Type 0
JoinPrinted strip i leg other j text = JoinPrintedBy strip i leg other j (rows_answer strip 64) (rows_answer other 64) text

-- a text that is what is printed of the join, and the only one
pub record JoinPrintsOnly (strip : List ℕ) (i leg : ℕ) (other : List ℕ) (j : ℕ) (text : List ℕ) : Type 0 where
  pub printed : JoinPrinted strip i leg other j text
  pub only : (also : List ℕ) → JoinPrinted strip i leg other j also → also ≡ text

-- the exact cost that a join answered
abbrev pub joined_units : Result Amount Refusal → Result ℕ Refusal
joined_units r = exactly (λ a. a.units) r
