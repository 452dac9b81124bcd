-- The law of reading rows: the strips that are accepted are those that spell lawful rows, and the rows read are
-- the rows spelled.
use Rattle.std.specs.Prelude.{◌≡◌, ℕ, ◌+◌, ◌<◌, ◌≤◌, true, ◌⊎◌, List, ◌∷◌, ◌++◌, length, Ok, Err, Result, ◌≢◌}
use Rattle.source.specs.declared.due.DueRow.{DueRow}
use Rattle.source.specs.Due.{row_lawful}
use Rattle.reader.specs.declared.faults.Fault.{Fault}
use Rattle.reader.specs.declared.rows.RowsRead.{RowsRead}
use Rattle.reader.specs.Causes.{at_start}
use Rattle.reader.specs.Reading.{over_front}
use Rattle.reader.specs.Spelling.{Spelled, Rows}

-- a strip that holds these rows, and calls from a byte on
pub record Holds (strip : List ℕ) (rows : List DueRow) (calls : ℕ) : Type 0 where
  pub records : List ℕ
  pub rest : List ℕ
  pub short : length strip ≤ 4096
  pub few : length rows ≤ 64
  pub spelled : Rows rows records
  pub written : strip ≡ length rows ∷ (records ++ rest)
  pub place : calls ≡ 1 + length records

-- no rows that a strip may have, and calls, at all
abbrev pub HoldsNone : List ℕ → Type 0
HoldsNone strip = (rows : List DueRow) (calls : ℕ) → Holds strip rows calls → ⊥

-- a strip that holds these rows, and then at the fault's byte, though its count asks for more, no lawful row
pub record Stops (strip : List ℕ) (rows : List DueRow) (fault : Fault) : Type 0 where
  pub total : ℕ
  pub records : List ℕ
  pub rest : List ℕ
  pub written : strip ≡ total ∷ (records ++ rest)
  pub spelled : Rows rows records
  pub more : length rows < total
  pub none : (row : DueRow) (front back : List ℕ) → rest ≡ front ++ back → Spelled row front → row_lawful row ≢ true
  pub counted : fault.count ≡ length rows
  pub place : fault.byte ≡ 1 + length records

-- reading a strip's rows into a table: it is accepted exactly if it holds rows for which the table has room, and
-- those rows then stand in front; a strip that is refused is so as a whole, or at its first record that is no lawful row
pub record ReadsExactly (strip : List ℕ) (before after : List DueRow) (r : Result RowsRead Fault) : Type 0 where
  pub accepted : (got : RowsRead) → r ≡ Ok got
      → (rows : List DueRow) × Holds strip rows got.calls × (length rows ≡ got.rows) × (length rows ≤ length before) × (after ≡ over_front rows before)
  pub accepts : (rows : List DueRow) (calls : ℕ) → Holds strip rows calls → length rows ≤ length before
      → (r ≡ Ok (record { rows = length rows; calls = calls })) × (after ≡ over_front rows before)
  pub refused : (fault : Fault) → r ≡ Err fault
      → ((fault ≡ at_start fault.cause) × (after ≡ before)) ⊎ ((rows : List DueRow) × Stops strip rows fault × (after ≡ over_front rows before))
