use Rattle.std.proofs.Common.{◌≡◌, length}
use Rattle.std.specs.Io.KnownBytes.{Keeps}
use Rattle.reader.proofs.input.read_once.Given as goal

-- no read that was interrupted took a byte
abbrev pub invariant-loop : goal.invariant-loop
invariant-loop g l = record {
  same_len : length l.buffer ≡ length l.initial.buffer;
  kept : Keeps (g.R.Read.remaining l.initial.input) (g.R.Read.remaining l.input);
}
