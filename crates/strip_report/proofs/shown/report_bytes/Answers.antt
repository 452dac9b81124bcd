use Rattle.std.proofs.Common.{◌≤◌, length, sym, ◌∙◌, refl, arith}
use Rattle.report.specs.Reports.{report_text}
use Rattle.route.specs.Calls.{route_facts}
use Rattle.strip_report.proofs.Laid.{answered, front_lent, front_read, fitting}
use Rattle.strip_report.proofs.shown.report_bytes.Goals as goal

pub unwrap-length-requires : goal.unwrap-length-requires
unwrap-length-requires g c =
    let told = c.report.ensures in
    let room : 2048 ≤ length c.as_mut_slice.result.now = omega (arith, c.as_mut_slice.ensures.len, c.in_ok-text.ensures.len) in
    fitting _ _ c.report.result told.answered (omega (arith, told.bound, c.requires))

pub returns : goal.returns
returns g c =
    let told = c.report.ensures in
    let text = report_text (route_facts g.S.Kind.Cost.algebra (g.S.Source.meaning c.args.route.now.source) c.args.route.now.stops) (g.S.Kind.Written.text told.cost) in
    let n = c.unwrap-length.result in
    let is = sym c.unwrap-length.ensures ∙ told.answered in
    let read = front_read c.as_mut_slice.result.now c.report.new.buf text n n refl is told.bytes in
    let fits = answered (length text) (length c.as_mut_slice.result.now) n is in
    let lent = front_lent n c.in_ok-text.text.len c.report.new.buf _ (omega (arith, fits.0, fits.1, c.as_mut_slice.ensures.len)) (omega (arith, fits.0, fits.1)) in
    record { cost = told.cost; least = told.least; best = told.best; written = c.truncate.ensures.items ∙ lent ∙ read }
