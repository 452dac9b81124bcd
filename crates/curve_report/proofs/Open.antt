-- The rows that a strip holds are open curves.
use Rattle.std.proofs.Common.{◌≡◌, ℕ, zero, suc, ◌+◌, ◌<◌, ◌≤◌, true, ltb, List, [], ◌∷◌, ◌++◌, length, Some, refl, subst, arith}
use Rattle.std.proofs.lemmas.Bool.{lt-ltb}
use Rattle.std.specs.List.{slice_get}
use Rattle.source.specs.declared.due.DueRow.{DueRow}
use Rattle.source.specs.Due.{row_lawful}
use Rattle.reader.specs.Spelling.{Rows}
use Rattle.curve_report.specs.Lines.{CurveLine, CurveLines, EachOpen}

-- the row at a place is lawful
row_at : (rows : List DueRow) (records : List ℕ) → Rows rows records → (k : ℕ) → k < length rows
    → (row : DueRow) × (slice_get rows k ≡ Some row) × (row_lawful row ≡ true)
row_at [] records none k h = absurd (omega arith)
row_at (row ∷ more) records (front, back, spelled, lawful, rest, written) zero h = (row, refl, lawful)
row_at (row ∷ more) records (front, back, spelled, lawful, rest, written) (suc k) h = row_at more back rest k (omega arith)

pub each_open : (rows : List DueRow) (records : List ℕ) → Rows rows records → length rows ≤ 64 → EachOpen rows
each_open rows records all few k h =
    let at = row_at rows records all k h in
    let near : ltb k 64 ≡ true = lt-ltb k 64 (omega arith) in
    rw (near, at.1, at.2)

-- the lines of the curves before, and one more
pub one_more : (rows : List DueRow) (curve : ℕ) (before line text : List ℕ) → CurveLines rows curve before → CurveLine rows curve line → text ≡ before ++ line → CurveLines rows (curve + 1) text
one_more rows curve before line text lines one is =
    let next : suc curve ≡ curve + 1 = omega arith in
    subst (λ (n : ℕ). CurveLines rows n text) next (before, lines, (line, one, is))
