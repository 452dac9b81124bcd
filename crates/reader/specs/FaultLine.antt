-- The line that tells a fault, and the one that tells a refusal outside a strip. Assumes nothing.
use Rattle.std.specs.Prelude.{ℕ, List, [], ◌∷◌, ◌++◌, None, codes, decimal, Option}
use Rattle.route.specs.declared.stop.Refusal.{Refusal}
use Rattle.route.specs.Refusals.{named, named_text, refusal_text}
use Rattle.reader.specs.declared.faults.Cause.{Cause}
use Rattle.reader.specs.declared.faults.Cause.TheVariants.{NoRoom, CutOff, TooLarge, RowMap, Unlawful, CallMap, Route}
use Rattle.reader.specs.declared.faults.Fault.{Fault}
use Rattle.reader.specs.Causes.{cause_number}

-- only a refusal of the route names one
abbrev pub stop_in : Cause → Option ℕ
stop_in NoRoom = None
stop_in CutOff = None
stop_in TooLarge = None
stop_in RowMap = None
stop_in Unlawful = None
stop_in CallMap = None
stop_in (Route refusal) = named refusal

-- a fault's words: its number, the byte where its record began, and the stop if one is named
abbrev pub fault_words : Fault → List ℕ
fault_words f = codes "fault " ++ (decimal (cause_number f.cause) ++ (codes " byte " ++ (decimal f.byte ++ named_text (stop_in f.cause))))

-- the line of a fault
abbrev pub fault_line : Fault → List ℕ
fault_line f = fault_words f ++ (10 ∷ [])

-- the line of a refusal of a call that stands in no strip
abbrev pub refusal_line : Refusal → List ℕ
refusal_line r = codes "fault " ++ (refusal_text r ++ (10 ∷ []))
