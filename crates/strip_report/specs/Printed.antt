-- What is printed of a strip: the report by money, the report by promise, and how its calls ended. Assumes nothing.
use Rattle.std.specs.Prelude.{◌≡◌, ℕ, List, [], ◌∷◌, ◌++◌, map, Ok, Err, codes, decimal, Result}
use Rattle.cost.specs.Amounts.{whole}
use Rattle.cost.specs.Pairs.{paired}
use Rattle.cost.specs.Texts.{spaced}
use Rattle.source.specs.declared.due.DueRow.{DueRow}
use Rattle.source.specs.Meaning.{Meaning}
use Rattle.source.specs.Due.{lateness, due_meaning}
use Rattle.source.specs.Layers.{pairing}
use Rattle.reader.specs.declared.faults.Fault.{Fault}
use Rattle.reader.specs.declared.rows.RowsRead.{RowsRead}
use Rattle.reader.specs.Reading.{rows_answer}
use Rattle.reader.specs.Exactly.{Holds}
use Rattle.reader.specs.FaultLine.{fault_line}
use Rattle.strip_report.specs.Shown.{StripReport}

-- by promise: minutes late, then money
abbrev pub promised : List DueRow → Meaning (ℕ × ℕ)
promised rows = pairing (due_meaning (map lateness rows)) (due_meaning rows)

-- the text of a pair of amounts
abbrev pub both : ℕ × ℕ → List ℕ
both x = spaced (decimal x.0) (decimal x.1)

-- a line of one word
abbrev pub heading : List ℕ → List ℕ
heading word = word ++ (10 ∷ [])

-- how a strip's calls ended: these words where there was no fault, or else the fault
abbrev pub ending : List ℕ → Result ℕ Fault → List ℕ
ending words (Ok n) = words
ending words (Err f) = fault_line f

-- the last line
abbrev pub last_line : Result ℕ Fault → List ℕ
last_line r = ending (heading (codes "whole")) r

abbrev pub strip_text : List ℕ → List ℕ → Result ℕ Fault → List ℕ
strip_text money promise r = heading (codes "money") ++ (money ++ (heading (codes "promise") ++ (promise ++ last_line r)))

-- what is printed of a strip that holds these rows, and calls from a byte on; both routes answer its calls alike
pub record Reports (strip : List ℕ) (rows : List DueRow) (from : ℕ) (text : List ℕ) : Type 0 where
  pub answer : Result ℕ Fault
  pub money : List ℕ
  pub promise : List ℕ
  pub by_money : StripReport whole decimal (due_meaning rows) strip from answer money
  pub by_promise : StripReport (paired whole whole) both (promised rows) strip from answer promise
  pub written : text ≡ strip_text money promise answer

-- by what reading the rows answers: the reports, or the fault alone
abbrev pub PrintedBy : List ℕ → Result RowsRead Fault → List ℕ → Type 0
PrintedBy strip (Ok got) text = (rows : List DueRow) × Holds strip rows got.calls × Reports strip rows got.calls text
PrintedBy strip (Err fault) text = text ≡ fault_line fault

-- the rows are read into a table with room for as many as a strip may have
abbrev pub Printed : List ℕ → List ℕ → Type 0
Printed strip text = PrintedBy strip (rows_answer strip 64) text

-- a text that is what is printed of a strip, and the only one
pub record PrintsOnly (strip text : List ℕ) : Type 0 where
  pub printed : Printed strip text
  pub only : (other : List ℕ) → Printed strip other → other ≡ text
