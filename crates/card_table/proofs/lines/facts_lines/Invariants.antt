use Rattle.std.proofs.Common.{◌≡◌, take, string_bytes}
use Rattle.card_table.specs.Lines.{facts_lines}
use Rattle.card_table.proofs.lines.facts_lines.Given as goal

abbrev pub invariant-loop-i : goal.invariant-loop-i
invariant-loop-i l = string_bytes l.text ≡ facts_lines 1 (take l.i l.facts)
