use Rattle.std.proofs.Common.{Err, ap, ◌∙◌, arith}
use Rattle.std.proofs.lemmas.List.{set-get_or}
use Rattle.std.proofs.lemmas.Result.{err_from_is_err_and}
use Rattle.reader.specs.declared.faults.Fault.{Fault}
use Rattle.reader.proofs.Tables.{step}
use Rattle.reader.proofs.rows.fill_rows.Goals as goal

pub returns-in_err-at : goal.returns-in_err-at
returns-in_err-at c =
    let one = step _ _ _ _ _ _ _ _ _ (omega arith) (omega arith) c.read_entry.ensures.answer c.read_entry.ensures.entry (set-get_or c.loop-done.entries c.loop-done.done _) c.loop-done.invariant in
    let told = err_from_is_err_and c.from_residual.result c.from_residual.ensures.1 in
    let ends = one.ends c.in_err-at.field-0.0 c.in_err-at.was in
    record { answer = told.1 ∙ ap (λ (f : Fault). Err f) told.2 ∙ ends.0; entries = ends.1 }

pub loop-done-preserved : goal.loop-done-preserved
loop-done-preserved c =
    let one = step _ _ _ _ _ _ _ _ _ (omega arith) (omega arith) c.read_entry.ensures.answer c.read_entry.ensures.entry (set-get_or c.loop-done.entries c.loop-done.done _) c.loop-done.invariant in
    one.goes c.in_ok-at.at c.in_ok-at.was
