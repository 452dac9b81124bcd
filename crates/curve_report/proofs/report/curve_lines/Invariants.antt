use Rattle.std.proofs.Common.{vec_items, string_bytes}
use Rattle.curve_report.specs.Lines.{CurveLines}
use Rattle.curve_report.proofs.report.curve_lines.Given as goal

abbrev pub invariant-loop-curve : goal.invariant-loop-curve
invariant-loop-curve l = CurveLines (vec_items l.book.rows) l.curve (string_bytes l.text)
