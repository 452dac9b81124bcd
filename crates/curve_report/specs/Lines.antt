-- The lines that are printed of a strip: one for each of its curves and one for their number.
use Rattle.std.specs.Prelude.{◌≡◌, ℕ, zero, suc, ◌<◌, true, List, [], ◌∷◌, ◌++◌, length, is_some, Some, codes, decimal}
use Rattle.cost.specs.Amounts.{whole}
use Rattle.source.specs.declared.due.DueRow.{DueRow}
use Rattle.source.specs.Meaning.{span_of}
use Rattle.source.specs.Due.{due_meaning}
use Rattle.source.specs.Cheapest.{Cheapest}
use Rattle.curve_report.specs.declared.lines.CurveFacts.{CurveFacts}

-- the byte that ends a line
abbrev pub ended : List ℕ
ended = 10 ∷ []

-- what is told of a curve, without the end of its line
abbrev pub facts_text : CurveFacts → List ℕ
facts_text f =
    codes "curve " ++ (decimal f.curve ++ (codes " first " ++ (decimal f.first ++ (codes " last " ++ (decimal f.last
    ++ (codes " cheapest " ++ (decimal f.minute ++ (codes " cost " ++ decimal f.price))))))))

abbrev pub facts_line : CurveFacts → List ℕ
facts_line f = facts_text f ++ ended

abbrev pub line_of : ℕ → ℕ → ℕ → ℕ → ℕ → List ℕ
line_of curve first last minute price = facts_line (record { curve = curve; first = first; last = last; minute = minute; price = price })

-- the line of a curve: its window, and the earliest of its minutes of least cost with that cost
pub record CurveLine (rows : List DueRow) (curve : ℕ) (line : List ℕ) : Type 0 where
  pub first : ℕ
  pub last : ℕ
  pub minute : ℕ
  pub price : ℕ
  pub window : span_of ((due_meaning rows).curve curve) ≡ Some (first, last)
  pub cheapest : Cheapest whole ((due_meaning rows).curve curve) minute price
  pub written : line ≡ line_of curve first last minute price

-- one line more after a text
abbrev pub Grown : List DueRow → ℕ → List ℕ → List ℕ → Type 0
Grown rows curve before text = (line : List ℕ) × CurveLine rows curve line × (text ≡ before ++ line)

-- the lines of the first so many curves, in rising number
abbrev pub CurveLines : List DueRow → ℕ → List ℕ → Type 0
CurveLines rows zero text = text ≡ []
CurveLines rows (suc curve) text =
    (before : List ℕ) × CurveLines rows curve before × Grown rows curve before text

-- the curve has a window
abbrev pub IsOpen : List DueRow → ℕ → Type 0
IsOpen rows curve = is_some (span_of ((due_meaning rows).curve curve)) ≡ true

-- each row is a curve that is open
abbrev pub EachOpen : List DueRow → Type 0
EachOpen rows = (curve : ℕ) → curve < length rows → IsOpen rows curve

abbrev pub rows_line : ℕ → List ℕ
rows_line count = codes "rows " ++ (decimal count ++ ended)

-- the lines of all the rows, and how many there are
abbrev pub RowsText : List DueRow → ℕ → List ℕ → Type 0
RowsText rows count text = (lines : List ℕ) × CurveLines rows count lines × (text ≡ lines ++ rows_line count)
