use Rattle.std.proofs.Common.{◌≤◌, List, length, ap, ◌∙◌, subst, arith}
use Rattle.cost.specs.Texts.{laid}
use Rattle.route.specs.declared.stop.Facts.{Facts}
use Rattle.report.specs.Refusals.{answer}
use Rattle.report.specs.Reports.{report_text}
use Rattle.report.specs.Bounds.{Bounded}
use Rattle.report.proofs.Lawfully.{route_ordinary, least_small}
use Rattle.report.proofs.Told.{all_length}
use Rattle.report.proofs.routes.write_route.Goals as goal

pub returns : goal.returns
returns g c = λ e.
    let ss = c.args.route.now.stops in
    let K = g.S.Kind.Cost.algebra in
    let m = g.S.Source.meaning c.args.route.now.source in
    let buf = c.args.buf.now in
    let cost = g.S.Kind.Cost.exact c.least_cost.result in
    let text = g.S.Kind.Written.text cost in
    let few : length ss ≤ 64 = c.least_cost.ensures.kept.few in
    let law = c.least_cost.ensures.kept.lawful in
    record {
      cost = cost;
      least = c.least_cost.ensures.least;
      best = c.least_cost.ensures.best;
      answered = c.write_report.ensures.answer ∙ ap (λ (fs : List Facts). answer (length (report_text fs text)) (length buf)) e;
      bytes = c.write_report.ensures.bytes ∙ ap (λ (fs : List Facts). laid buf 0 (report_text fs text)) e;
      bound =
          subst (λ (fs : List Facts). Bounded fs (K.size cost) text g.S.Kind.Written.longest) e c.write_report.ensures.bound
          (omega (arith, all_length K m ss))
          (route_ordinary K m law ss few c.least_cost.ensures.kept.marked)
          (least_small K m law ss few cost c.least_cost.ensures.least);
    }
