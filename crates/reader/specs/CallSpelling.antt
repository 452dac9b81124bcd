-- How a call is spelled in bytes, and the law of reading one: a record is read exactly if it is spelled, and as the call spelled.
use Rattle.std.specs.Prelude.{◌≡◌, ℕ, ◌+◌, ◌/◌, Bool, true, false, List, [], ◌∷◌, ◌++◌, length, drop, Ok, Err, Result}
use Rattle.route.specs.declared.stop.Splice.{Splice}
use Rattle.reader.specs.declared.faults.Cause.{Cause}
use Rattle.reader.specs.declared.call.Form.{Form}
use Rattle.reader.specs.declared.call.Form.TheVariants.{Inserting, Removing, Changing}
use Rattle.reader.specs.Records.{stands}
use Rattle.reader.specs.CallRecords.{absent_place, splice_of, call_at}
use Rattle.reader.specs.Spelling.{Field}

-- the bytes of a field that takes one: where its bit stands, that byte; else none, and the value is that of an absent field
abbrev pub ByteField : Bool → ℕ → ℕ → List ℕ → Type 0
ByteField true absent value bytes = bytes ≡ value ∷ []
ByteField false absent value bytes = (value ≡ absent) × (bytes ≡ [])

-- the bits of curve, leg in, leg out and taking out that a form has: a remove has no leg in, and a change no leg
abbrev pub Bits : Form → (curve leg_in leg_out out : Bool) → Type 0
Bits Inserting curve leg_in leg_out out = (curve ≡ true) × (out ≡ false)
Bits Removing curve leg_in leg_out out = (curve ≡ false) × (out ≡ true) × (leg_in ≡ false)
Bits Changing curve leg_in leg_out out = (curve ≡ true) × (out ≡ true) × (leg_in ≡ false) × (leg_out ≡ false)

-- bytes that spell a call on a route of n stops: a map byte of its form, bits 5 to 7 clear, and then the fields in the order of
-- their bits; an absent leg is 0, and an absent place the form's own
pub record SpelledCall (n : ℕ) (call : Splice) (bytes : List ℕ) : Type 0 where
  pub map : ℕ
  pub form : Form
  pub curve : ℕ
  pub in_leg : ℕ
  pub out_leg : ℕ
  pub place : ℕ
  pub clear : map / 32 ≡ 0
  pub bits : Bits form (stands map 0) (stands map 1) (stands map 2) (stands map 4)
  pub is : call ≡ splice_of form curve in_leg out_leg place
  pub curve_bytes : List ℕ
  pub in_bytes : List ℕ
  pub out_bytes : List ℕ
  pub place_bytes : List ℕ
  pub has_curve : ByteField (stands map 0) 0 curve curve_bytes
  pub has_in : Field (stands map 1) 0 in_leg in_bytes
  pub has_out : Field (stands map 2) 0 out_leg out_bytes
  pub has_place : ByteField (stands map 3) (absent_place form n) place place_bytes
  pub written : bytes ≡ map ∷ (curve_bytes ++ (in_bytes ++ (out_bytes ++ place_bytes)))

-- these bytes begin with no call on a route of n stops
abbrev pub NoCall : ℕ → List ℕ → Type 0
NoCall n bytes = (call : Splice) (front back : List ℕ) → bytes ≡ front ++ back → SpelledCall n call front → ⊥

-- reading the record at a byte, on a route of n stops: what is read is spelled there, what is spelled there is read, and a record is
-- refused only where no call is spelled
pub record ReadsCall (bytes : List ℕ) (at n : ℕ) (r : Result (Splice × ℕ) Cause) : Type 0 where
  pub read : (call : Splice) (next : ℕ) → r ≡ Ok (call, next)
      → (front : List ℕ) × SpelledCall n call front × (drop at bytes ≡ front ++ drop next bytes) × (next ≡ at + length front)
  pub reads : (call : Splice) (front rest : List ℕ) → drop at bytes ≡ front ++ rest → SpelledCall n call front → r ≡ Ok (call, at + length front)
  pub refused : (why : Cause) → r ≡ Err why → NoCall n (drop at bytes)

-- each record of the bytes is read as it is spelled
abbrev pub ReadsCalls : List ℕ → Type 0
ReadsCalls bytes = (at n : ℕ) → ReadsCall bytes at n (call_at bytes at n)
