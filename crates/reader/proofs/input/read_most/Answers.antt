use Rattle.std.proofs.Common.{rules}
use Rattle.reader.proofs.Whole.{kept_short}
use Rattle.reader.proofs.input.read_most.Goals as goal

pub returns-in_err-count-clause-kept : goal.returns-in_err-count-clause-kept
returns-in_err-count-clause-kept g c =
    kept_short c.from_residual-in_err-count.result _ _ c.as_mut_slice.result.now c.fill.new.buffer c.in_err-count.ensures.kept (search rules)
