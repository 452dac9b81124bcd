-- What is printed of a strip that was read, or of the fault in its rows.
use Rattle.std.proofs.Common.{◌≡◌, ◌≤◌, ℕ, List, length, Ok, Err, IfOk, Result, string_bytes, sym, ◌∙◌, subst}
use Rattle.std.specs.Prelude.{String}
use Rattle.std.proofs.lemmas.Result.{IfOk-weaker}
use Rattle.source.specs.declared.due.DueRow.{DueRow}
use Rattle.reader.specs.declared.faults.Fault.{Fault}
use Rattle.reader.specs.FaultLine.{fault_line}
use Rattle.reader.specs.Reading.{rows_answer, strip_answer}
use Rattle.reader.proofs.Fronts.{front, alone_by}
use Rattle.curve_report.specs.Lines.{EachOpen, RowsText}
use Rattle.curve_report.specs.Printed.{PrintedBy, PrintsOnly}
use Rattle.curve_report.proofs.Open.{each_open}
use Rattle.curve_report.proofs.Once.{same_text}

-- the rows of a strip that was read, as they are lent, are few
pub few_rows : (strip : List ℕ) (rows lent : List DueRow) (calls : ℕ) → strip_answer strip ≡ Ok (rows, calls) → lent ≡ rows → length lent ≤ 64
few_rows strip rows lent calls held same =
    let (got, answer, place, at_front) = front strip rows calls held in
    rw same at_front.holds.few

-- and open curves
pub open_rows : (strip : List ℕ) (rows lent : List DueRow) (calls : ℕ) → strip_answer strip ≡ Ok (rows, calls) → lent ≡ rows → EachOpen lent
open_rows strip rows lent calls held same =
    let (got, answer, place, at_front) = front strip rows calls held in
    let h = at_front.holds in
    subst EachOpen (sym same) (each_open rows h.records h.spelled h.few)

by_lines : (strip : List ℕ) (rows : List DueRow) (calls : ℕ) (text : List ℕ) → strip_answer strip ≡ Ok (rows, calls) → RowsText rows (length rows) text → PrintsOnly strip text
by_lines strip rows calls text read lines =
    let (got, answer, place, at_front) = front strip rows calls read in
    let one : (t : List ℕ) → PrintedBy strip (Ok got) t → t ≡ text = λ t (held, holds, theirs).
    same_text rows (length rows) t text (subst (λ (l : List DueRow). RowsText l (length l) t) (at_front.alone held holds) theirs) lines in
    let by = alone_by (PrintedBy strip) (Ok got) (rows_answer strip 64) text answer (rows, at_front.holds, lines) one in
    record { printed = by.0; only = by.1 }

-- the rows' text, where it was made
pub printed_rows : {A E : Type 0} (made : Result (String A) E) (strip : List ℕ) (rows lent : List DueRow) (calls : ℕ) → strip_answer strip ≡ Ok (rows, calls) → lent ≡ rows
    → IfOk made (λ s. RowsText lent (length lent) (string_bytes s)) → IfOk made (λ s. PrintsOnly strip (string_bytes s))
printed_rows made strip rows lent calls read same =
    IfOk-weaker made (λ s. RowsText lent (length lent) (string_bytes s)) (λ s. PrintsOnly strip (string_bytes s))
    (λ s lines. by_lines strip rows calls (string_bytes s) read (subst (λ (l : List DueRow). RowsText l (length l) (string_bytes s)) same lines))

pub printed_fault : (strip : List ℕ) (f : Fault) (text : List ℕ) → rows_answer strip 64 ≡ Err f → text ≡ fault_line f → PrintsOnly strip text
printed_fault strip f text read is =
    let by = alone_by (PrintedBy strip) (Err f) (rows_answer strip 64) text (sym read) is (λ t p. p ∙ sym is) in
    record { printed = by.0; only = by.1 }
