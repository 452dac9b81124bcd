-- The lengths of the report's lines. Assumes nothing.
use Rattle.std.proofs.Common.{◌≡◌, ℕ, ◌+◌, ◌*◌, ◌≤◌, List, [], ◌∷◌, ◌++◌, length, decimal, arith, length-append}
use Rattle.std.proofs.lemmas.Fmt.{length-decimal-le}
use Rattle.route.specs.declared.stop.Facts.{Facts}
use Rattle.report.specs.Reports.{count_line, stop_line, stop_lines, least_line, report_text}
use Rattle.report.specs.Bounds.{Ordinary, longest_report}

length_count : (n : ℕ) → length (count_line n) ≡ 7 + length (decimal n)
length_count n = simp length-append (omega arith)

length_stop : (i : ℕ) (f : Facts) → length (stop_line i f) ≡ 21 + length (decimal i) + length (decimal f.curve) + length (decimal f.minute)
length_stop i f = simp length-append (omega arith)

length_least : (text : List ℕ) → length (least_line text) ≡ 7 + length text
length_least text = simp length-append (omega arith)

stop_bound : (i : ℕ) (f : Facts) → i ≤ 64 → f.curve ≤ 63 → f.minute ≤ 1440 → length (stop_line i f) ≤ 29
stop_bound i f h k m =
    omega (
      arith,
      length_stop i f,
      length-decimal-le 2 i (omega arith) (omega arith) (omega arith),
      length-decimal-le 2 f.curve (omega arith) (omega arith) (omega arith),
      length-decimal-le 4 f.minute (omega arith) (omega arith) (omega arith),
    )

stops_bound : (i : ℕ) (fs : List Facts) → i + length fs ≤ 65 → Ordinary fs → length (stop_lines i fs) ≤ 29 * length fs
stops_bound i [] h o = omega arith
stops_bound i (f ∷ fs) h o =
    let one = stop_bound i f (omega arith) o.0 o.1 in
    let more = stops_bound (i + 1) fs (omega arith) o.2 in
    omega (arith, length-append (stop_line i f) (stop_lines (i + 1) fs))

pub report_bound : (fs : List Facts) (text : List ℕ) (longest : ℕ) → length fs ≤ 64 → Ordinary fs → length text ≤ longest → length (report_text fs text) ≤ longest_report longest
report_bound fs text longest h o l =
    let count = length-decimal-le 2 (length fs) (omega arith) (omega arith) (omega arith) in
    let stops = stops_bound 1 fs (omega arith) o in
    omega (
      arith,
      length-append (count_line (length fs) ++ stop_lines 1 fs) (least_line text),
      length-append (count_line (length fs)) (stop_lines 1 fs),
      length_count (length fs),
      length_least text,
    )
