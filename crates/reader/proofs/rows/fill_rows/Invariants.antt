use Rattle.std.proofs.Common.{length}
use Rattle.reader.proofs.Tables.{Onward}
use Rattle.reader.proofs.rows.fill_rows.Given as goal

abbrev pub invariant-loop-done : goal.invariant-loop-done
invariant-loop-done l = Onward l.strip (length l.initial.entries) l.done l.at l.entries l.initial.entries
