use Rattle.std.proofs.Common.{Ok, Err, refl, ap, ◌∙◌}
use Rattle.std.proofs.lemmas.Result.{err_from_is_err_and}
use Rattle.reader.specs.declared.faults.Fault.{Fault}
use Rattle.reader.proofs.Running.{wrong_ran, refused_ran, accepted_ran}
use Rattle.reader.proofs.calls.run_call.Goals as goal

pub returns-in_err-splice-clause-ran : goal.returns-in_err-splice-clause-ran
returns-in_err-splice-clause-ran g c =
    let told = err_from_is_err_and c.from_residual.result c.from_residual.ensures.1 in
    wrong_ran _ _ _ c.args.here c.args.route.now.stops c.stop_count.result c.read.result c.from_residual.result c.stop_count.ensures.value c.read.ensures c.in_err-splice.field-0.0 c.in_err-splice.was (told.1 ∙ ap (λ (x : Fault). Err x) told.2)

pub returns-in_err-apply_call-clause-ran : goal.returns-in_err-apply_call-clause-ran
returns-in_err-apply_call-clause-ran g c =
    let told = err_from_is_err_and c.from_residual-in_err-apply_call.result c.from_residual-in_err-apply_call.ensures.1 in
    refused_ran _ _ _ c.args.here c.args.route.now.stops c.stop_count.result c.read.result c.from_residual-in_err-apply_call.result c.stop_count.ensures.value c.read.ensures c.in_ok-splice.splice c.in_ok-splice.next c.apply_call.result _ c.in_ok-splice.was c.apply_call.ensures.spliced c.in_err-apply_call.field-0.0 c.apply_call.ensures.told c.in_err-apply_call.was (told.1 ∙ ap (λ (x : Fault). Err x) told.2)

pub returns-clause-ran : goal.returns-clause-ran
returns-clause-ran g c =
    accepted_ran _ _ _ c.args.here c.args.route.now.stops c.stop_count.result c.read.result (Ok c.advanced.result) c.stop_count.ensures.value c.read.ensures c.in_ok-splice.splice c.in_ok-splice.next c.apply_call.result _ c.in_ok-splice.was c.apply_call.ensures.spliced c.advanced.result c.in_ok-apply_call.was c.advanced.ensures refl
