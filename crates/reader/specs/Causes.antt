-- Why a strip is refused: the number of each cause, a fault of the strip as a whole, and a refused call as a fault.
use Rattle.std.specs.Prelude.{ℕ}
use Rattle.route.specs.Refusals.{number}
use Rattle.reader.specs.declared.faults.Cause.{Cause}
use Rattle.reader.specs.declared.faults.Fault.{Fault}
use Rattle.reader.specs.declared.faults.RefusedCall.{RefusedCall}
use Rattle.reader.specs.declared.faults.Cause.TheVariants.{NoRoom, CutOff, TooLarge, RowMap, Unlawful, CallMap, Route}

-- a refusal of the route keeps its own number
abbrev pub cause_number : Cause → ℕ
cause_number NoRoom = 6
cause_number CutOff = 7
cause_number TooLarge = 8
cause_number RowMap = 9
cause_number Unlawful = 10
cause_number CallMap = 11
cause_number (Route refusal) = number refusal

-- the fault of a record, with how many stand before it and the byte where it begins
abbrev pub fault_at : Cause → ℕ → ℕ → Fault
fault_at why count byte = record { cause = why; count = count; byte = byte }

-- no row was read, and the fault is told at byte 0
abbrev pub at_start : Cause → Fault
at_start why = record { cause = why; count = 0; byte = 0 }

-- the refusal of a call, whole inside a fault
abbrev pub carried : RefusedCall → Fault
carried call = record { cause = Route call.refusal; count = call.count; byte = call.byte }
