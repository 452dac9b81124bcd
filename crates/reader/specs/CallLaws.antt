-- What running a strip's calls comes to in the route's own words: a list of splices, spelled one after another. Assumes nothing.
use Rattle.std.specs.Prelude.{◌≡◌, ℕ, ◌+◌, List, [], ◌∷◌, ◌++◌, length, drop, replicate, Ok, Err, Result}
use Rattle.cost.specs.Algebra.{Algebra}
use Rattle.source.specs.Meaning.{Meaning}
use Rattle.route.specs.declared.stop.Splice.{Splice}
use Rattle.route.specs.declared.stop.Refusal.{Refusal}
use Rattle.route.specs.Plain.{Plain}
use Rattle.route.specs.Judged.{Answer, Judged, Runs}
use Rattle.reader.specs.declared.faults.Cause.{Cause}
use Rattle.reader.specs.declared.faults.Cause.TheVariants.{NoRoom, CutOff, TooLarge, RowMap, Unlawful, CallMap, Route}
use Rattle.reader.specs.declared.faults.Fault.{Fault}
use Rattle.reader.specs.CallSpelling.{SpelledCall, NoCall}

-- how many calls were accepted
abbrev pub accepted_in : Result ℕ Fault → ℕ
accepted_in (Ok n) = n
accepted_in (Err f) = f.count

-- the route's refusal of the call at which running ended, if it came to the route
abbrev pub refusal_in : Cause → List Answer
refusal_in NoRoom = []
refusal_in CutOff = []
refusal_in TooLarge = []
refusal_in RowMap = []
refusal_in Unlawful = []
refusal_in CallMap = []
refusal_in (Route why) = Err why ∷ []

abbrev pub last_in : Result ℕ Fault → List Answer
last_in (Ok n) = []
last_in (Err f) = refusal_in f.cause

-- the route's answers, by what running told: so many calls accepted, and then its refusal if it ended at one
abbrev pub answers_in : Result ℕ Fault → List Answer
answers_in r = replicate (accepted_in r) (Ok tt) ++ last_in r

-- the calls of a strip count as splices: there are some to which the route answers so, on the stops ps, leaving the stops qs
pub record CountAsSplices {E : Type 0} (K : Algebra E) (m : Meaning E) (ps : List Plain) (r : Result ℕ Fault) (qs : List Plain) : Type 0 where
  pub splices : List Splice
  pub runs : Runs K m ps splices (answers_in r) qs

-- bytes that spell calls one after another; on the stops ps each is accepted, and they leave the stops qs
abbrev pub SpelledCalls : {E : Type 0} → Algebra E → Meaning E → List Plain → List Splice → List ℕ → List Plain → Type 0
SpelledCalls K m ps [] bytes qs = (qs ≡ ps) × (bytes ≡ [])
SpelledCalls K m ps (s ∷ ss) bytes qs =
    (mid : List Plain) × (front : List ℕ) × (back : List ℕ) × SpelledCall (length ps) s front × Judged K m ps s (Ok tt) mid × SpelledCalls K m mid ss back qs × (bytes ≡ front ++ back)

-- a call that the route refuses, spelled at the front of these bytes
pub record SpelledRefused {E : Type 0} (K : Algebra E) (m : Meaning E) (qs : List Plain) (why : Refusal) (bytes : List ℕ) : Type 0 where
  pub call : Splice
  pub front : List ℕ
  pub back : List ℕ
  pub written : bytes ≡ front ++ back
  pub spelled : SpelledCall (length qs) call front
  pub judged : Judged K m qs call (Err why) qs

-- at a fault, the bytes from its record on spell a call that the route refuses, or begin with no call
abbrev pub FaultyAt : {E : Type 0} → Algebra E → Meaning E → List Plain → List ℕ → Cause → Type 0
FaultyAt K m qs bytes NoRoom = ⊥
FaultyAt K m qs bytes CutOff = NoCall (length qs) bytes
FaultyAt K m qs bytes TooLarge = ⊥
FaultyAt K m qs bytes RowMap = ⊥
FaultyAt K m qs bytes Unlawful = ⊥
FaultyAt K m qs bytes CallMap = NoCall (length qs) bytes
FaultyAt K m qs bytes (Route why) = SpelledRefused K m qs why bytes

-- running ended at a byte, with these bytes from it on and so many calls accepted: none is left, or the record there is at fault
abbrev pub EndedAt : {E : Type 0} → Algebra E → Meaning E → List Plain → ℕ → ℕ → List ℕ → Result ℕ Fault → Type 0
EndedAt K m qs count byte rest (Ok n) = (n ≡ count) × (rest ≡ [])
EndedAt K m qs count byte rest (Err f) = (f.count ≡ count) × (f.byte ≡ byte) × FaultyAt K m qs rest f.cause

-- running the calls of a strip from a byte on: it spells calls that are all accepted, up to its end or to the record at fault
pub record RunsExactly {E : Type 0} (K : Algebra E) (m : Meaning E) (bytes : List ℕ) (at : ℕ) (ps : List Plain) (r : Result ℕ Fault) (qs : List Plain) : Type 0 where
  pub splices : List Splice
  pub records : List ℕ
  pub rest : List ℕ
  pub written : drop at bytes ≡ records ++ rest
  pub spelled : SpelledCalls K m ps splices records qs
  pub ends : EndedAt K m qs (length splices) (at + length records) rest r
