use Rattle.std.proofs.Common.{◌≡◌, take, string_bytes}
use Rattle.card_table.specs.Lines.{answer_lines}
use Rattle.card_table.proofs.lines.answer_lines.Given as goal

abbrev pub invariant-loop-answer : goal.invariant-loop-answer
invariant-loop-answer l = string_bytes l.text ≡ answer_lines l.word (take l.answer-index l.answers)
