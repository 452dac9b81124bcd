-- How long the report of a route can be. Assumes nothing.
use Rattle.std.specs.Prelude.{ℕ, ◌+◌, ◌*◌, ◌^◌, ◌≤◌, List, [], ◌∷◌, length}
use Rattle.route.specs.declared.stop.Facts.{Facts}
use Rattle.report.specs.Reports.{report_text}

-- each stop has a curve from 0 to 63 and a minute of the day
abbrev pub Ordinary : List Facts → Type 0
Ordinary [] = Unit {0}
Ordinary (f ∷ fs) = (f.curve ≤ 63) × (f.minute ≤ 1440) × Ordinary fs

-- `stops 64`, sixty-four lines as `stop 64 curve 63 minute 1440`, and `least ` with the longest text of a cost, each with its newline
abbrev pub longest_report : ℕ → ℕ
longest_report longest = 9 + 64 * 29 + (7 + longest)

-- no report of at most 64 such stops is longer, if the least cost's size is at most 2^50
abbrev pub Bounded : List Facts → ℕ → List ℕ → ℕ → Type 0
Bounded fs size text longest = length fs ≤ 64 → Ordinary fs → size ≤ 2 ^ 50 → length (report_text fs text) ≤ longest_report longest
