use Rattle.std.proofs.Common.{◌≡◌, ◌≤◌, length, take}
use Rattle.std.specs.Io.KnownBytes.{Consumes}
use Rattle.reader.proofs.input.read_strip.Given as goal

-- each turn reads a byte, and what was filled is what the input gave
abbrev pub invariant-loop : goal.invariant-loop
invariant-loop g l = record {
  same_len : length l.buffer ≡ length l.initial.buffer;
  within : l.filled ≤ length l.buffer;
  turns : l.counter ≤ l.filled;
  bytes : Consumes (g.R.Read.remaining l.initial.input) (g.R.Read.remaining l.input) (take l.filled l.buffer);
}
