-- What is printed of a strip as a whole.
use Rattle.std.specs.Prelude.{◌≡◌, ℕ, List, length, Ok, Err, Result}
use Rattle.source.specs.declared.due.DueRow.{DueRow}
use Rattle.reader.specs.declared.faults.Fault.{Fault}
use Rattle.reader.specs.declared.rows.RowsRead.{RowsRead}
use Rattle.reader.specs.Reading.{rows_answer}
use Rattle.reader.specs.Exactly.{Holds}
use Rattle.reader.specs.FaultLine.{fault_line}
use Rattle.curve_report.specs.Lines.{RowsText}

-- by what reading the rows answers: the lines of the rows that the strip holds, or its fault
abbrev pub PrintedBy : List ℕ → Result RowsRead Fault → List ℕ → Type 0
PrintedBy strip (Ok got) text = (rows : List DueRow) × Holds strip rows got.calls × RowsText rows (length rows) text
PrintedBy strip (Err fault) text = text ≡ fault_line fault

-- what is printed of a strip, whose rows are read into a table with room for as many as a strip may have
abbrev pub Printed : List ℕ → List ℕ → Type 0
Printed strip text = PrintedBy strip (rows_answer strip 64) text

-- a text that is what is printed of a strip, and the only one
pub record PrintsOnly (strip text : List ℕ) : Type 0 where
  pub printed : Printed strip text
  pub only : (other : List ℕ) → Printed strip other → other ≡ text
