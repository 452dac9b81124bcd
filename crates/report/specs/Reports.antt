-- The report's text: the count of the stops, a line for each stop, and the least cost. Assumes nothing.
use Rattle.std.specs.Prelude.{ℕ, ◌+◌, List, [], ◌∷◌, ◌++◌, length, codes, decimal}
use Rattle.route.specs.declared.stop.Facts.{Facts}

abbrev pub newline : List ℕ
newline = 10 ∷ []

-- a word, and a number in decimal after it
abbrev pub item : List ℕ → ℕ → List ℕ
item word n = word ++ decimal n

abbrev pub count_line : ℕ → List ℕ
count_line n = item (codes "stops ") n ++ newline

abbrev pub stop_line : ℕ → Facts → List ℕ
stop_line i f = item (codes "stop ") i ++ item (codes " curve ") f.curve ++ item (codes " minute ") f.minute ++ newline

-- a line for each stop; the first of them is stop i
abbrev pub stop_lines : ℕ → List Facts → List ℕ
stop_lines i [] = []
stop_lines i (f ∷ fs) = stop_line i f ++ stop_lines (i + 1) fs

-- the last line, with the text of the least cost
abbrev pub least_line : List ℕ → List ℕ
least_line text = codes "least " ++ text ++ newline

-- the report of stops with these facts, counted from 1, and a least cost of this text
abbrev pub report_text : List Facts → List ℕ → List ℕ
report_text fs text = count_line (length fs) ++ stop_lines 1 fs ++ least_line text
