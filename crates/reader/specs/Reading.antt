-- What reading a strip's rows answers, and which rows it puts into the table.
use Rattle.std.specs.Prelude.{ℕ, zero, suc, ◌+◌, cond, ◌||◌, List, [], ◌∷◌, ◌++◌, length, drop, Ok, Err, Result, ◌==◌, nat_lt, slice_index}
use Rattle.source.specs.declared.due.DueRow.{DueRow}
use Rattle.reader.specs.declared.faults.Cause.TheVariants.{NoRoom, CutOff, TooLarge}
use Rattle.reader.specs.declared.faults.Fault.{Fault}
use Rattle.reader.specs.declared.rows.RowsRead.{RowsRead}
use Rattle.reader.specs.Causes.{at_start}
use Rattle.reader.specs.Records.{record_at}

-- how many rows the strip has, by its first byte; a table with fewer is refused
abbrev pub row_count : List ℕ → ℕ → Result ℕ Fault
row_count bytes room =
    cond (length bytes == 0) (Err (at_start CutOff))
    (cond (nat_lt 4096 (length bytes) || nat_lt 64 (slice_index bytes 0)) (Err (at_start TooLarge))
    (cond (nat_lt room (slice_index bytes 0)) (Err (at_start NoRoom)) (Ok (slice_index bytes 0))))

-- the byte after the record at a byte, or its fault, with so many rows read before it
abbrev pub past_row : List ℕ → ℕ → ℕ → Result ℕ Fault
past_row bytes done at =
    elim (record_at bytes at) [ Ok x ↦ Ok x.1 | Err why ↦ Err (record { cause = why; count = done; byte = at }) ]

-- an entry of the table after the record at a byte was read into it: its row, if the record is right
abbrev pub entry_after : List ℕ → ℕ → DueRow → DueRow
entry_after bytes at old = elim (record_at bytes at) [ Ok x ↦ x.0 | Err why ↦ old ]

-- the rows of so many records, from a byte on, up to the first that is wrong
abbrev pub rows_from : List ℕ → ℕ → ℕ → List DueRow
rows_from bytes zero at = []
rows_from bytes (suc left) at = elim (record_at bytes at) [ Ok x ↦ x.0 ∷ rows_from bytes left x.1 | Err why ↦ [] ]

-- how that ends, with `done` rows read before: all are read, or the first that is wrong is told
abbrev pub end_from : List ℕ → ℕ → ℕ → ℕ → Result RowsRead Fault
end_from bytes zero done at = Ok (record { rows = done; calls = at })
end_from bytes (suc left) done at =
    elim (past_row bytes done at) [ Ok next ↦ end_from bytes left (done + 1) next | Err f ↦ Err f ]

-- what reading the rows of a strip into a table with so much room answers
abbrev pub rows_answer : List ℕ → ℕ → Result RowsRead Fault
rows_answer bytes room = elim (row_count bytes room) [ Ok n ↦ end_from bytes n 0 1 | Err f ↦ Err f ]

-- the rows that it reads
abbrev pub rows_of : List ℕ → ℕ → List DueRow
rows_of bytes room = elim (row_count bytes room) [ Ok n ↦ rows_from bytes n 1 | Err f ↦ [] ]

-- with room for as many rows as a strip may have: the rows, and the byte where the calls begin
unfoldable pub strip_answer : List ℕ → Result (List DueRow × ℕ) Fault
strip_answer bytes = elim (rows_answer bytes 64) [ Ok got ↦ Ok (rows_of bytes 64, got.calls) | Err f ↦ Err f ]

-- a table whose first entries are these rows, and whose others are as they were
abbrev pub over_front : List DueRow → List DueRow → List DueRow
over_front front old = front ++ drop (length front) old
