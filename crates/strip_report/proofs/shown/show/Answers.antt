use Rattle.std.proofs.Common.{vec_items}
use Rattle.strip_report.proofs.Reading.{shows}
use Rattle.strip_report.proofs.shown.show.Goals as goal

pub returns : goal.returns
returns g c =
    shows g.S.Kind.Cost.algebra g.S.Kind.Written.text g.S.Source.meaning c.args.source c.args.strip.now.bytes.now c.args.strip.now.calls
    c.in_ok-route.route.source
    c.run_calls-ended.new.route.source
    c.in_ok-route.route.stops
    c.run_calls-ended.new.route.stops
    c.run_calls-ended.result
    (vec_items c.in_ok-report.report)
    c.in_ok-route.ensures.source
    c.in_ok-route.ensures.stops
    c.run_calls-ended.ensures.source
    c.run_calls-ended.ensures.ran
    c.in_ok-report.ensures
