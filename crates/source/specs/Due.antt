-- The due book: row k is curve k, and costs by how far a minute lies from the due one. Assumes nothing.
use Rattle.std.specs.Prelude.{ℕ, ◌-◌, ◌*◌, Bool, cond, ◌&&◌, List, nat_le, nat_lt}
use Rattle.cost.specs.Amounts.{whole}
use Rattle.cost.specs.Convex.{Convex}
use Rattle.source.specs.Meaning.{Curve, Meaning}
use Rattle.source.specs.Books.{book_meaning}
use Rattle.source.specs.declared.due.DueRow.{DueRow}

-- the limits of a row
abbrev pub row_lawful : DueRow → Bool
row_lawful r = nat_le r.first r.last && (nat_le r.last 1440 && (nat_le r.due 1440 && (nat_le r.early 1000 && nat_le r.late 1000)))

-- what the minute t costs: each minute before the due one costs early, each after it late
abbrev pub due_penalty : DueRow → ℕ → ℕ
due_penalty r t = cond (nat_lt t r.due) (r.early * (r.due - t)) (r.late * (t - r.due))

-- theorem: the curve of every row obeys the law of convexity, over any minutes
abbrev pub DueConvex : Type 0
DueConvex = (r : DueRow) (a b : ℕ) → Convex whole (due_penalty r) a b

abbrev pub due_curve : DueRow → Curve ℕ
due_curve r = record { first = r.first; last = r.last; cost = due_penalty r }

-- the same row at other rates
abbrev pub rated : DueRow → ℕ → ℕ → DueRow
rated row early late = record { first = row.first; last = row.last; due = row.due; early = early; late = late }

-- the same row, by which a minute late costs 1 and a minute early nothing
abbrev pub lateness : DueRow → DueRow
lateness row = rated row 0 1

abbrev pub due_meaning : List DueRow → Meaning ℕ
due_meaning rows = book_meaning row_lawful due_curve rows
