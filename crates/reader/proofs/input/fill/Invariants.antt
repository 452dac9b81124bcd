use Rattle.std.proofs.Common.{◌≡◌, ◌≤◌, length, take}
use Rattle.std.specs.Io.KnownBytes.{Consumes}
use Rattle.reader.proofs.input.fill.Given as goal

-- each turn reads a byte, and what was filled is what the input gave
abbrev pub invariant-loop : goal.invariant-loop
invariant-loop g l = record {
  same_len : length l.buffer ≡ length l.initial.buffer;
  within : l.got ≤ length l.buffer;
  turns : l.counter ≤ l.got;
  bytes : Consumes (g.R.Read.remaining l.initial.input) (g.R.Read.remaining l.input) (take l.got l.buffer);
}
