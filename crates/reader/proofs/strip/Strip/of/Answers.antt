use Rattle.std.proofs.Common.{vec_items}
use Rattle.reader.proofs.Exact.{holds_answer}
use Rattle.reader.proofs.strip.Strip.of.Goals as goal

pub invariant_of-result : goal.invariant_of-result
invariant_of-result c = record { held = holds_answer c.args.bytes.now (vec_items c.args.rows) c.args.calls c.requires }
