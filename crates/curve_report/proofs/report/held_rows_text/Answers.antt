use Rattle.std.proofs.Common.{vec_items}
use Rattle.curve_report.proofs.Front.{printed_rows}
use Rattle.curve_report.proofs.report.held_rows_text.Goals as goal

pub returns : goal.returns
returns c =
    let strip = c.args.strip.now in
    printed_rows c.rows_text.result strip.bytes.now (vec_items strip.rows) c.as_slice.result.now strip.calls strip.held c.as_slice.ensures.value c.rows_text.ensures
