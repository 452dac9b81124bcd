-- What running a strip's calls on a route answers, and which stops it leaves. Assumes nothing.
use Rattle.std.specs.Prelude.{◌≡◌, ℕ, ◌+◌, ◌<◌, List, length, Ok, Err, Result}
use Rattle.cost.specs.Algebra.{Algebra}
use Rattle.source.specs.Meaning.{Meaning}
use Rattle.route.specs.declared.stop.Splice.{Splice}
use Rattle.route.specs.declared.stop.Refusal.{Refusal}
use Rattle.route.specs.Plain.{Plain}
use Rattle.route.specs.Judged.{Answer, Judged}
use Rattle.reader.specs.declared.faults.Cause.{Cause}
use Rattle.reader.specs.declared.faults.Cause.TheVariants.{CutOff, Route}
use Rattle.reader.specs.declared.faults.Fault.{Fault}
use Rattle.reader.specs.declared.faults.RefusedCall.{RefusedCall}
use Rattle.reader.specs.declared.calls.Progress.{Progress}
use Rattle.reader.specs.CallRecords.{call_at}

-- the fault of the record that comes next
abbrev pub fault_of : Progress → Cause → Fault
fault_of here why = record { cause = why; count = here.count; byte = here.byte }

-- what reading its record gives, with what is wrong as a fault
abbrev pub read_at : Progress → Result (Splice × ℕ) Cause → Result (Splice × ℕ) Fault
read_at here (Ok x) = Ok x
read_at here (Err why) = Err (fault_of here why)

-- the refusal of its call
abbrev pub refused_at : Progress → Refusal → RefusedCall
refused_at here why = record { refusal = why; count = here.count; byte = here.byte }

-- one more call accepted, the next record beginning at a byte
abbrev pub advanced : Progress → ℕ → Progress
advanced here next = record { count = here.count + 1; byte = next }

-- what the route itself answered
abbrev pub answer_of : Result (Unit {0}) RefusedCall → Answer
answer_of (Ok x) = Ok x
answer_of (Err call) = Err call.refusal

-- a refusal is told with the count and the byte
abbrev pub Told : Progress → Result (Unit {0}) RefusedCall → Type 0
Told here (Ok x) = Unit {0}
Told here (Err call) = call ≡ refused_at here call.refusal

-- on the stops ps, the call whose record comes next is answered so, and leaves these stops
pub data Call {E : Type 0} (K : Algebra E) (m : Meaning E) (bytes : List ℕ) (here : Progress) (ps : List Plain) : Result Progress Fault → List Plain → Type 0 where
  -- the record is no call
  wrong : (why : Cause) → call_at bytes here.byte (length ps) ≡ Err why → Call K m bytes here ps (Err (fault_of here why)) ps
  -- the route refuses the call: the refusal is carried whole, and the stops stay
  refused : (s : Splice) (next : ℕ) (why : Refusal) → call_at bytes here.byte (length ps) ≡ Ok (s, next) → Judged K m ps s (Err why) ps
      → Call K m bytes here ps (Err (fault_of here (Route why))) ps
  accepted : (s : Splice) (next : ℕ) (qs : List Plain) → call_at bytes here.byte (length ps) ≡ Ok (s, next) → Judged K m ps s (Ok tt) qs
      → Call K m bytes here ps (Ok (advanced here next)) qs

-- on the stops ps, the calls from the next record on are answered so, with how many were accepted in all, and leave these stops
pub data Calls {E : Type 0} (K : Algebra E) (m : Meaning E) (bytes : List ℕ) : Progress → List Plain → Result ℕ Fault → List Plain → Type 0 where
  -- the byte is past the end
  past : (here : Progress) (ps : List Plain) → length bytes < here.byte → Calls K m bytes here ps (Err (fault_of here CutOff)) ps
  -- no byte is left
  ended : (here : Progress) (ps : List Plain) → here.byte ≡ length bytes → Calls K m bytes here ps (Ok here.count) ps
  -- it ends at the first fault
  faulty : (here : Progress) (ps qs : List Plain) (f : Fault) → here.byte < length bytes → Call K m bytes here ps (Err f) qs → Calls K m bytes here ps (Err f) qs
  -- after an accepted call it goes on
  onward : (here there : Progress) (ps mid qs : List Plain) (r : Result ℕ Fault) → here.byte < length bytes → Call K m bytes here ps (Ok there) mid
      → Calls K m bytes there mid r qs → Calls K m bytes here ps r qs

-- running begins at a byte, with no call accepted yet
abbrev pub begin : ℕ → Progress
begin at = record { count = 0; byte = at }
