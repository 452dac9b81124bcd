use Rattle.std.proofs.Common.{◌∙◌, arith}
use Rattle.std.proofs.lemmas.Result.{err_from_is_err_and}
use Rattle.reader.proofs.Running.{Onward, Further, over_first, turn, turn_further, fault_turn, last_turn, past_end}
use Rattle.reader.proofs.calls.run_calls.Given as given
use Rattle.reader.proofs.calls.run_calls.Goals as goal

-- a turn after which running goes on
turned : (g : given.Over) (c : goal.In_ok-here g)
    → Further c.args.strip.now c.loop-here.here c.in_ok-here.here
    × Onward g.S.Kind.Cost.algebra (g.S.Source.meaning c.args.route.now.source) c.args.strip.now c.args.at c.args.route.now.stops c.in_ok-here.here c.run_call.new.route.stops
turned g c =
    let call = over_first g.S.Source.meaning c.loop-here.invariant.2 c.run_call.ensures.ran in
    let was = c.in_ok-here.was in
    let on = c.loop-here.invariant.3 in
    (turn_further _ _ _ _ _ _ _ _ _ on call _ was, turn _ _ _ _ _ _ _ _ _ on call _ was (omega arith))

pub returns-then-strip-at-clause-ran : goal.returns-then-strip-at-clause-ran
returns-then-strip-at-clause-ran g c =
    past_end g.S.Kind.Cost.algebra (g.S.Source.meaning c.args.route.now.source) c.args.strip.now c.args.at c.args.route.now.stops c.past_end.result (omega arith) c.past_end.ensures

pub returns-in_err-here : goal.returns-in_err-here
returns-in_err-here g c =
    let call = over_first g.S.Source.meaning c.loop-here.invariant.2 c.run_call.ensures.ran in
    let told = err_from_is_err_and c.from_residual.result c.from_residual.ensures.1 in
    record {
      source = c.run_call.ensures.source ∙ c.loop-here.invariant.2;
      ran = rw (told.1, told.2) (fault_turn _ _ _ _ _ _ _ _ _ c.loop-here.invariant.3 call _ c.in_err-here.was (omega arith));
    }

pub loop-here-smaller : goal.loop-here-smaller
loop-here-smaller g c = let on = (turned g c).0 in omega (arith, on.more, on.within)

pub loop-here-preserved : goal.loop-here-preserved
loop-here-preserved g c =
    let on = turned g c in (
      omega (arith, on.0.more, on.0.counted, c.loop-here.invariant.0),
      on.0.within,
      c.run_call.ensures.source ∙ c.loop-here.invariant.2,
      on.1,
    )

pub returns : goal.returns
returns g c = record {
  source = c.loop-here.invariant.2;
  ran = last_turn g.S.Kind.Cost.algebra (g.S.Source.meaning c.args.route.now.source) c.args.strip.now c.args.at c.args.route.now.stops c.loop-here.here c.loop-here.route.stops c.loop-here.invariant.3 (omega arith);
}
