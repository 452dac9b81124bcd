use Rattle.std.proofs.Common.{decimal, vec_items, ◌∙◌}
use Rattle.std.proofs.lemmas.Result.{IfOk-weaker}
use Rattle.cost.specs.Amounts.{whole}
use Rattle.source.specs.Due.{due_meaning}
use Rattle.strip_report.specs.Shown.{Shows}
use Rattle.strip_report.proofs.Reading.{by_rows}
use Rattle.strip_report.proofs.shown.show_money.Goals as goal

pub returns : goal.returns
returns c =
    let strip = c.args.strip.now in
    let same = c.in_ok-book.ensures ∙ c.as_slice.ensures.value in
    IfOk-weaker c.show.result _ (λ s. Shows whole decimal due_meaning (vec_items strip.rows) strip.bytes.now strip.calls s.ended (vec_items s.report) (vec_items s.route.source.rows) s.route.stops)
    (λ s made. by_rows (vec_items strip.rows) c.in_ok-book.book s.route.source strip.bytes.now strip.calls s.ended (vec_items s.report) s.route.stops same made) c.show.ensures
