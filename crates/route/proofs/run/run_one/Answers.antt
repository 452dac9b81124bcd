use Rattle.std.proofs.Common.{vec_items}
use Rattle.route.proofs.Runnings.{ran_from}
use Rattle.route.proofs.run.run_one.Goals as goal

pub returns : goal.returns
returns g c =
    let opened = c.in_ok-route.ensures in
    let made = c.in_ok-answers.ensures in
    let read = c.least_cost.ensures in
    let route = c.in_ok-route.route in
    let last = c.make_all.new.route in
    ran_from g.S.Kind.Cost.algebra g.S.Source.meaning c.args.source route.source last.source route.stops last.stops c.args.splices.now (vec_items c.in_ok-answers.answers) c.stop_count.result (vec_items c.in_ok-facts.facts) (g.S.Kind.Cost.exact c.least_cost.result) opened.source opened.stops made.source made.runs c.in_ok-facts.ensures c.stop_count.ensures.value read.kept.marked read.best read.least
