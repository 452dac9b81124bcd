use Rattle.std.proofs.Common.{◌≡◌, ℕ, List, map, vec_items, ap, ◌∙◌, subst}
use Rattle.std.proofs.lemmas.Result.{IfOk-weaker}
use Rattle.cost.specs.Amounts.{whole}
use Rattle.cost.specs.Pairs.{paired}
use Rattle.source.specs.declared.due.DueRow.{DueRow}
use Rattle.source.specs.Due.{lateness, due_meaning}
use Rattle.source.specs.Layers.{pairing}
use Rattle.strip_report.specs.Shown.{StripReport}
use Rattle.strip_report.specs.Printed.{promised, both, strip_text, PrintsOnly}
use Rattle.strip_report.proofs.Only.{reports, printed_reports, strip_lawful}
use Rattle.strip_report.proofs.text.both_reports.Goals as goal

pub returns : goal.returns
returns c =
    let strip = c.args.strip.now.bytes.now in
    let rows = vec_items c.args.strip.now.rows in
    let from = c.args.strip.now.calls in
    let r = c.in_ok-money.money.ended in
    let s = c.in_ok-promise.promise.ended in
    let m = vec_items c.in_ok-money.money.report in
    let p = vec_items c.in_ok-promise.promise.report in
    let lent = c.as_slice.ensures.value in
    let books = c.in_ok-promise_books.ensures in
    let by_promise : StripReport (paired whole whole) both (promised rows) strip from s p =
    subst (λ (l : List DueRow). StripReport (paired whole whole) both (pairing (due_meaning (map lateness rows)) (due_meaning l)) strip from s p) (books.1 ∙ lent)
    (subst (λ (l : List DueRow). StripReport (paired whole whole) both (pairing (due_meaning l) (due_meaning (vec_items c.in_ok-promise_books.field-0.second.rows))) strip from s p) (books.0 ∙ ap (map lateness) lent) c.in_ok-promise.ensures.told_by) in
    let x = c.as_slice-2.result.now in
    let y = c.as_slice-3.result.now in
    IfOk-weaker c.strip_lines.result (λ v. vec_items v ≡ strip_text x y r) (λ v. PrintsOnly strip (vec_items v))
    (λ v is. printed_reports strip rows from (vec_items v) c.args.strip.now.held
    (reports strip rows from r s m p (vec_items v) (strip_lawful strip rows from c.args.strip.now.held) c.in_ok-money.ensures.told_by by_promise
    (is ∙ ap (λ (l : List ℕ). strip_text l y r) c.as_slice-2.ensures.value ∙ ap (λ (l : List ℕ). strip_text m l r) c.as_slice-3.ensures.value)))
    c.strip_lines.ensures
