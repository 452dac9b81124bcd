-- A table while rows are put into it one by one, and one step of reading.
use Rattle.std.proofs.Common.{◌≡◌, ℕ, zero, suc, ◌+◌, ◌-◌, ◌<◌, ◌≤◌, List, [], ◌∷◌, ◌++◌, length, take, drop, set, Ok, Err, Result, sym, ap, ◌∙◌, append_assoc, add-zero, zero-add, arith, take-append-drop}
use Rattle.std.proofs.lemmas.List.{take_more_set, drop-set-lt, drop-append-le, length-take-le}
use Rattle.source.specs.declared.due.DueRow.{DueRow}
use Rattle.reader.specs.declared.faults.Cause.{Cause}
use Rattle.reader.specs.declared.faults.Fault.{Fault}
use Rattle.reader.specs.declared.rows.RowsRead.{RowsRead}
use Rattle.reader.specs.Records.{record_at}
use Rattle.reader.specs.Reading.{row_count, past_row, entry_after, rows_from, end_from, rows_of, over_front}

-- the table once these rows stand from an entry on
abbrev pub over_from : ℕ → List DueRow → List DueRow → List DueRow
over_from k rows old = take k old ++ (rows ++ drop (k + length rows) old)

pub over_start : (rows old : List DueRow) → over_from 0 rows old ≡ over_front rows old
over_start rows old = rw zero-add

pub over_end : (k : ℕ) (old : List DueRow) → over_from k [] old ≡ old
over_end k old = rw add-zero (take-append-drop k old)

pub over_more : (k : ℕ) (row : DueRow) (rows old : List DueRow) → k < length old
    → over_from (k + 1) rows (set old k row) ≡ over_from k (row ∷ rows) old
over_more k row rows old h =
    let after : drop ((k + 1) + length rows) (set old k row) ≡ drop ((k + 1) + length rows) old = drop-set-lt ((k + 1) + length rows) old k row (omega arith) in
    let same : (k + 1) + length rows ≡ k + suc (length rows) = omega arith in
    rw (take_more_set old k row h, after, same, append_assoc)

-- the definitions of reading, by what the record at a byte gave
abbrev pub past_by : ℕ → ℕ → Result (DueRow × ℕ) Cause → Result ℕ Fault
past_by done at (Ok x) = Ok x.1
past_by done at (Err why) = Err (record { cause = why; count = done; byte = at })

abbrev pub rows_by : List ℕ → ℕ → Result (DueRow × ℕ) Cause → List DueRow
rows_by bytes left (Ok x) = x.0 ∷ rows_from bytes left x.1
rows_by bytes left (Err why) = []

abbrev entry_by : DueRow → Result (DueRow × ℕ) Cause → DueRow
entry_by old (Ok x) = x.0
entry_by old (Err why) = old

abbrev pub end_by : List ℕ → ℕ → ℕ → Result ℕ Fault → Result RowsRead Fault
end_by bytes left done (Ok next) = end_from bytes left (done + 1) next
end_by bytes left done (Err f) = Err f

-- the same of a whole strip, by what its count was
abbrev pub rows_after : List ℕ → Result ℕ Fault → List DueRow
rows_after bytes (Ok count) = rows_from bytes count 1
rows_after bytes (Err f) = []

abbrev pub end_after : List ℕ → Result ℕ Fault → Result RowsRead Fault
end_after bytes (Ok count) = end_from bytes count 0 1
end_after bytes (Err f) = Err f

module _ (bytes : List ℕ) (left done at : ℕ) (table : List DueRow) (old : DueRow) where
  puts_by : done < length table → (next : ℕ) (s : Result (DueRow × ℕ) Cause) → past_by done at s ≡ Ok next
      → over_from (done + 1) (rows_from bytes left next) (set table done (entry_by old s)) ≡ over_from done (rows_by bytes left s) table
  puts_by h next (Ok x) e = let same : x.1 ≡ next = cc in rw same (over_more done x.0 (rows_from bytes left next) table h)
  puts_by h next (Err why) e = cc

  keeps_by : set table done old ≡ table → (f : Fault) (s : Result (DueRow × ℕ) Cause) → past_by done at s ≡ Err f
      → set table done (entry_by old s) ≡ over_from done (rows_by bytes left s) table
  keeps_by same f (Ok x) e = cc
  keeps_by same f (Err why) e = same ∙ sym (over_end done table)

-- what holds before each turn: what is still to be read gives the whole answer and the whole table
abbrev pub Onward : List ℕ → ℕ → ℕ → ℕ → List DueRow → List DueRow → Type 0
Onward bytes count done at table before =
    (end_from bytes (count - done) done at ≡ end_from bytes count 0 1)
    × (over_from done (rows_from bytes (count - done) at) table ≡ over_from 0 (rows_from bytes count 1) before)

-- one turn, by what it answered
pub record Stepped (bytes : List ℕ) (count done : ℕ) (after before : List DueRow) (r : Result ℕ Fault) : Type 0 where
  pub goes : (next : ℕ) → r ≡ Ok next → Onward bytes count (done + 1) next after before
  pub ends : (f : Fault) → r ≡ Err f → (Err f ≡ end_from bytes count 0 1) × (after ≡ over_front (rows_from bytes count 1) before)

pub step : (bytes : List ℕ) (count done at : ℕ) (table before : List DueRow) (old new : DueRow) (r : Result ℕ Fault)
    → done < count → done < length table → r ≡ past_row bytes done at → new ≡ entry_after bytes at old → set table done old ≡ table
    → Onward bytes count done at table before → Stepped bytes count done (set table done new) before r
step bytes count done at table before old new r more h is put same inv =
    let left : ℕ = count - (done + 1) in
    let size : count - done ≡ suc left = omega arith in
    let ended : end_from bytes (count - done) done at ≡ end_by bytes left done r = ap (λ m. end_from bytes m done at) size ∙ sym (ap (end_by bytes left done) is) in
    let whole : rows_from bytes (count - done) at ≡ rows_by bytes left (record_at bytes at) = ap (λ m. rows_from bytes m at) size in
    let over : over_from done (rows_by bytes left (record_at bytes at)) table ≡ over_from 0 (rows_from bytes count 1) before = rw whole at inv.1 in
    record {
      goes = λ next e. (
        sym (ended ∙ ap (end_by bytes left done) e) ∙ inv.0,
        rw put (puts_by bytes left done at table old h next (record_at bytes at) (sym is ∙ e) ∙ over),
      );
      ends = λ f e. (
        sym (ended ∙ ap (end_by bytes left done) e) ∙ inv.0,
        rw put (keeps_by bytes left done at table old same f (record_at bytes at) (sym is ∙ e) ∙ (over ∙ over_start (rows_from bytes count 1) before)),
      );
    }

-- no more rows are read than there are entries
rows_by_short : (bytes : List ℕ) (left : ℕ) (s : Result (DueRow × ℕ) Cause) → ((at : ℕ) → length (rows_from bytes left at) ≤ left) → length (rows_by bytes left s) ≤ suc left
rows_by_short bytes left (Ok x) short = omega (arith, short x.1)
rows_by_short bytes left (Err why) short = omega arith

rows_short : (bytes : List ℕ) (count at : ℕ) → length (rows_from bytes count at) ≤ count
rows_short bytes zero at = omega arith
rows_short bytes (suc left) at = rows_by_short bytes left (record_at bytes at) (rows_short bytes left)

-- a front of the table into which rows were read, and the entries behind it
front_over : (rows table : List DueRow) (count : ℕ) → length rows ≤ count → count ≤ length table
    → over_front rows (take count table) ++ drop count table ≡ over_front rows table
front_over rows table count few within =
    let size : length (take count table) ≡ count = length-take-le count table within in
    let behind : drop (length rows) (take count table) ++ drop count table ≡ drop (length rows) table =
    sym (drop-append-le (length rows) (take count table) (drop count table) (omega (arith, size))) ∙ ap (drop (length rows)) (take-append-drop count table) in
    append_assoc rows (drop (length rows) (take count table)) (drop count table) ∙ ap (λ (l : List DueRow). rows ++ l) behind

-- the whole table, by its front
pub front_read : (bytes : List ℕ) (table after : List DueRow) (count : ℕ) (counted : Result ℕ Fault) → counted ≡ row_count bytes (length table) → counted ≡ Ok count
    → count ≤ length table → after ≡ over_front (rows_from bytes (length (take count table)) 1) (take count table)
    → after ++ drop count table ≡ over_front (rows_of bytes (length table)) table
front_read bytes table after count counted is was within read =
    let size : length (take count table) ≡ count = length-take-le count table within in
    let front : after ≡ over_front (rows_from bytes count 1) (take count table) = rw size at read in
    let same : rows_of bytes (length table) ≡ rows_from bytes count 1 =
    ap (rows_after bytes) (sym is ∙ was) in
    ap (λ (l : List DueRow). l ++ drop count table) front ∙ (front_over (rows_from bytes count 1) table count (rows_short bytes count 1) within ∙ ap (λ (l : List DueRow). over_front l table) (sym same))
