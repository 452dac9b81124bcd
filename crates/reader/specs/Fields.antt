-- How the fields of a record are taken one after another. Assumes nothing.
use Rattle.std.specs.Prelude.{◌≡◌, ℕ, ◌+◌, ◌<◌, ◌≤◌, cond, List, length, take, drop, Some, None, Ok, Err, Option, Result, slice_index}
use Rattle.reader.specs.declared.faults.Cause.{Cause}
use Rattle.reader.specs.declared.faults.Cause.TheVariants.{CutOff}
use Rattle.reader.specs.declared.record.Record.{Record}
use Rattle.reader.specs.Records.{stands}

-- a record begins with its map, at a byte that the strip has
abbrev pub Opens : List ℕ → ℕ → Result Record Cause → Type 0
Opens bytes at (Ok r) = (at < length bytes) × (r.strip.now ≡ bytes) × (r.map ≡ slice_index bytes at) × (r.next ≡ at + 1)
Opens bytes at (Err why) = (length bytes ≤ at) × (why ≡ CutOff)

-- past a field of n bytes, which are there if its bit stands
pub record Past (n bit : ℕ) (old new : Record) : Type 0 where
  pub strip : new.strip.now ≡ old.strip.now
  pub map : new.map ≡ old.map
  pub next : new.next ≡ old.next + cond (stands old.map bit) n 0

-- a field of n bytes is cut off
abbrev pub Cut : ℕ → ℕ → Record → Cause → Type 0
Cut n bit old why = (length old.strip.now < old.next + cond (stands old.map bit) n 0) × (why ≡ CutOff)

-- the field of a bit is taken: its n bytes, or none where the bit does not stand
abbrev pub Takes : ℕ → ℕ → Record → Result (Option (List ℕ)) Cause → Record → Type 0
Takes n bit old (Ok o) new = (o ≡ cond (stands old.map bit) (Some (take n (drop old.next old.strip.now))) None) × Past n bit old new
Takes n bit old (Err why) new = Cut n bit old why
