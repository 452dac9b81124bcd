-- A strip that was read, against what reading its rows into a table answers. Assumes nothing.
use Rattle.std.proofs.Common.{◌≡◌, ℕ, List, Ok, Err, Result, sym, refl, ap, subst}
use Rattle.source.specs.declared.due.DueRow.{DueRow}
use Rattle.reader.specs.declared.faults.Fault.{Fault}
use Rattle.reader.specs.declared.rows.RowsRead.{RowsRead}
use Rattle.reader.specs.Reading.{rows_answer, rows_of, strip_answer}
use Rattle.reader.specs.Exactly.{Holds}
use Rattle.reader.proofs.Exact.{strip_by, answer_holds, holds_one}

-- the rows that a strip holds, and no others
pub record Front (strip : List ℕ) (got : RowsRead) (rows : List DueRow) : Type 0 where
  pub holds : Holds strip rows got.calls
  pub alone : (held : List DueRow) → Holds strip held got.calls → held ≡ rows

read_by : (bytes : List ℕ) (rows : List DueRow) (calls : ℕ) (r : Result RowsRead Fault) → strip_by bytes r ≡ Ok (rows, calls) → (got : RowsRead) × (Ok got ≡ r) × (got.calls ≡ calls)
read_by bytes rows calls (Ok got) e =
    let same : ◌≡◌ {A = List DueRow × ℕ} (rows_of bytes 64, got.calls) (rows, calls) = cc in
    (got, refl, ap (λ (x : List DueRow × ℕ). x.1) same)
read_by bytes rows calls (Err f) e = cc

pub front : (bytes : List ℕ) (rows : List DueRow) (calls : ℕ) → strip_answer bytes ≡ Ok (rows, calls)
    → (got : RowsRead) × (Ok got ≡ rows_answer bytes 64) × (got.calls ≡ calls) × Front bytes got rows
unfolding strip_answer
front bytes rows calls e =
    let (got, read, place) = read_by bytes rows calls (rows_answer bytes 64) e in
    let holds = subst (λ (n : ℕ). Holds bytes rows n) (sym place) (answer_holds bytes rows calls e) in
    (got, read, place, record { holds = holds; alone = λ held h. (holds_one bytes rows held got.calls got.calls holds h).0 })

-- what is so of one text alone, by what reading the rows answered
pub alone_by : (P : Result RowsRead Fault → List ℕ → Type 0) (r answer : Result RowsRead Fault) (text : List ℕ) → r ≡ answer → P r text → ((t : List ℕ) → P r t → t ≡ text)
    → P answer text × ((t : List ℕ) → P answer t → t ≡ text)
alone_by P r answer text e is only = subst (λ (v : Result RowsRead Fault). P v text × ((t : List ℕ) → P v t → t ≡ text)) e (is, only)
